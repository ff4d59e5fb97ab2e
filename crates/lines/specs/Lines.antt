-- Texts of lines: labels (`id label`), and another planner's listing (object, attribute, 16 hexadecimal digits). Definitions only.
use Rattle.std.specs.Prelude.{ℕ, zero, suc, ◌+◌, ◌-◌, Bool, true, false, List, [], ◌∷◌, eqb, length, get_or, take, drop}
use Rattle.std.proofs.Math.Option.{Option, none, some}
use Rattle.lines.specs.Fields.{◌>>=◌, only, object_in, id_in, half_in}

-- ---- any text of lines

-- how many bytes stand before the first line feed
unfoldable pub line_length : List ℕ → ℕ
line_length [] = 0
line_length (c ∷ xs) = elim (eqb c 10) [ true ↦ 0 | false ↦ suc (line_length xs) ]

-- a carriage return at its end is no part of a line
unfoldable pub without_return : List ℕ → List ℕ
without_return l = elim (eqb (get_or l (length l - 1) 0) 13) [ true ↦ take (length l - 1) l | false ↦ l ]

-- the rows of a text, or the first line that is none, from 1
pub data Rows : Type 0 where
  rows : List (List ℕ) → Rows
  bad : ℕ → Rows

-- a row, and what is read behind it
abbrev pub and_then : List ℕ → Rows → Rows
and_then r (rows rs) = rows (r ∷ rs)
and_then r (bad i) = bad i

-- how a line is read: its place in the text, and its bytes
abbrev pub Reader : Type 0
Reader = ℕ → List ℕ → Option (List ℕ)

-- no line more
abbrev pub ended : ℕ → List ℕ → Rows
ended i [] = rows []
ended i (c ∷ xs) = bad i

-- what is read behind a line, where it is one
abbrev pub told : ℕ → Option (List ℕ) → Rows → Rows
told i none more = bad i
told i (some r) more = and_then r more

-- line i at a place, and what is read behind a line of so many bytes
unfoldable pub starting_with : Reader → ℕ → ℕ → (ℕ → Rows) → List ℕ → Rows
starting_with read i at more [] = rows []
starting_with read i at more (c ∷ xs) = let n = line_length (c ∷ xs) in told i (read at (without_return (take n (c ∷ xs)))) (more n)

-- line i at a place, and those behind it: a row each, so many at most; one line more is none
unfoldable pub rows_from : Reader → ℕ → ℕ → ℕ → List ℕ → Rows
rows_from read zero i at xs = ended i xs
rows_from read (suc room) i at xs = starting_with read i at (λ n. rows_from read room (suc i) (at + suc n) (drop (suc n) xs)) xs

-- ---- labels

-- "lines `id label`": the id, where the rest of the line begins in the text, and how long it is
unfoldable pub label_in : Reader
label_in at l = id_in l >>= λ c. some (c.value ∷ (at + (length l - length c.rest)) ∷ length c.rest ∷ [])

-- of a text, with room for so many
abbrev pub label_lines : ℕ → List ℕ → Rows
label_lines room text = rows_from label_in room 1 0 text

-- ---- listings

-- nothing behind it
abbrev pub empty : List ℕ → Bool
empty [] = true
empty (c ∷ xs) = false

-- "object, attribute, 16 hexadecimal digits a line": object, attribute, the low and the high half of the bits, as a listing is lent
unfoldable pub figure_in : Reader
figure_in at l =
    object_in l >>= λ o.
    id_in o.rest >>= λ a.
    half_in a.rest >>= λ high.
    half_in high.rest >>= λ low.
    only (empty low.rest) (o.value ∷ a.value ∷ low.value ∷ high.value ∷ [])

abbrev pub figure_lines : ℕ → List ℕ → Rows
figure_lines room text = rows_from figure_in room 1 0 text
