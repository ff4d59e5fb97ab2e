-- Texts of lines, computed: labels as they are written, and what is none.
use mathlib.Core.Path.{◌≡◌, refl}
use mathlib.Core.List.{[], ◌∷◌}
use Rattle.rules.specs.Listing.{ascii}
use Rattle.lines.specs.Fields.{digits, natural, id_in, half_in}
use Rattle.lines.specs.Lines.{line_length, without_return, rows, bad, starting_with, rows_from, label_in, figure_in, label_lines, figure_lines}

-- cases/L.labels; CRLF, zeros before digits, an id below 0, an empty label, no end behind the last line
pub labels : (label_lines 4 (ascii "20 Bonus, %\n37 Hull \"HP\"\n") ≡ rows ((20 ∷ 3 ∷ 8 ∷ []) ∷ (37 ∷ 15 ∷ 9 ∷ []) ∷ []))
    × ((label_lines 4 (ascii "-2147483648 a b\r\n0037 \r\n40 c") ≡ rows ((2147483648 ∷ 12 ∷ 3 ∷ []) ∷ (37 ∷ 22 ∷ 0 ∷ []) ∷ (40 ∷ 27 ∷ 1 ∷ []) ∷ []))
    × (label_lines 4 [] ≡ rows []))
unfolding digits natural id_in line_length without_return starting_with rows_from label_in
labels = (refl, (refl, refl))

-- an empty line, no space, no digit, a plus, an id of 32 bits that is no signed one, a line more than there is room for
pub no_labels : (label_lines 4 (ascii "20 a\n\n37 b\n") ≡ bad 2)
    × ((label_lines 4 (ascii "20") ≡ bad 1)
    × ((label_lines 4 (ascii "- a\n") ≡ bad 1)
    × ((label_lines 4 (ascii "+20 a\n") ≡ bad 1)
    × ((label_lines 4 (ascii "2147483648 a\n") ≡ bad 1)
    × (label_lines 1 (ascii "20 a\n37 b\n") ≡ bad 2)))))
unfolding digits natural id_in line_length without_return starting_with rows_from label_in
no_labels = (refl, (refl, (refl, (refl, (refl, refl)))))

-- two lines of case L's listing, digits of either case; fifteen digits, seventeen, and something behind them
pub listings : (figure_lines 4 (ascii "0 37 407ae5e350f2bada\n2 -20 4049000000000000\r\n") ≡ rows ((0 ∷ 37 ∷ 1358084826 ∷ 1081796067 ∷ []) ∷ (2 ∷ 4294967276 ∷ 0 ∷ 1078525952 ∷ []) ∷ []))
    × ((figure_lines 4 (ascii "0 37 407AE5E350F2BADA") ≡ rows ((0 ∷ 37 ∷ 1358084826 ∷ 1081796067 ∷ []) ∷ []))
    × ((figure_lines 4 (ascii "0 37 407ae5e350f2bad\n") ≡ bad 1)
    × ((figure_lines 4 (ascii "0 37 407ae5e350f2bada0\n") ≡ bad 1)
    × (figure_lines 4 (ascii "0 37 407ae5e350f2bada \n") ≡ bad 1))))
unfolding digits natural id_in half_in line_length without_return starting_with rows_from figure_in
listings = (refl, (refl, (refl, (refl, refl))))
