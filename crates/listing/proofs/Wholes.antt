-- The pieces one after another are the definition's whole listing.
use Prim.Native.Nat.{ℕ, zero, suc, ◌+◌, ◌<◌}
use native.Mathlib.Nat.{not-suc-le-zero, le_of_suc-le-suc}
use native.Mathlib.Numerals.{add-one}
use mathlib.Core.Path.{◌≡◌, refl, sym, ap, ◌∙◌}
use mathlib.Core.List.{List, [], ◌∷◌, ◌++◌, append_assoc, append-nil}
use lib.ListN.{length, take, get_or}
use lib.Ieee.{Float}
use Rattle.rules.specs.Answer.{ok}
use Rattle.rules.specs.Dispatch.{Row}
use Rattle.rules.specs.Outcome.{Done}
use Rattle.rules.specs.Columns.{value_list}
use Rattle.rules.specs.Listing.{natural, line, lines, listing}
use Rattle.listing.specs.Pieces.{head_of, printed}

-- one line more
lines_next : (rs : List Row) (vs : List Float) (k : ℕ) (r : Row) (v : Float) → k < length rs → k < length vs
    → lines (take (suc k) rs) (take (suc k) vs) ≡ lines (take k rs) (take k vs) ++ line (get_or rs k r) (get_or vs k v)
unfolding lines
lines_next [] vs k r v h l = absurd (not-suc-le-zero h)
lines_next (x ∷ rs) [] k r v h l = absurd (not-suc-le-zero l)
lines_next (x ∷ rs) (y ∷ vs) zero r v h l = append-nil (line x y)
lines_next (x ∷ rs) (y ∷ vs) (suc k) r v h l =
    ap (λ (t : List ℕ). line x y ++ t) (lines_next rs vs k r v (le_of_suc-le-suc h) (le_of_suc-le-suc l))
    ∙ sym (append_assoc (line x y) (lines (take k rs) (take k vs)) (line (get_or rs k r) (get_or vs k v)))

lines-all : (rs : List Row) (vs : List Float) → lines (take (length rs) rs) (take (length rs) vs) ≡ lines rs vs
unfolding lines
lines-all [] vs = refl
lines-all (x ∷ rs) [] = refl
lines-all (x ∷ rs) (y ∷ vs) = ap (λ (t : List ℕ). line x y ++ t) (lines-all rs vs)

-- with no line yet it is the head; each line adds its own; with all lines it is the listing
pub printed_none : (d : Done) → printed d 0 ≡ head_of (length d.rows)
unfolding printed lines
printed_none d = append-nil (head_of (length d.rows))

pub printed-next : (d : Done) (k : ℕ) (r : Row) (v : Float) → k < length d.rows → k < length (value_list (ok d))
    → printed d (k + 1) ≡ printed d k ++ line (get_or d.rows k r) (get_or (value_list (ok d)) k v)
unfolding printed
printed-next d k r v h l =
    rw add-one
    (ap (λ (t : List ℕ). head_of (length d.rows) ++ t) (lines_next d.rows (value_list (ok d)) k r v h l)
    ∙ sym (append_assoc (head_of (length d.rows)) (lines (take k d.rows) (take k (value_list (ok d)))) (line (get_or d.rows k r) (get_or (value_list (ok d)) k v))))

pub printed-all : (d : Done) → printed d (length d.rows) ≡ listing (ok d)
unfolding printed head_of listing
printed-all d =
    ap (λ (t : List ℕ). head_of (length d.rows) ++ t) (lines-all d.rows (value_list (ok d)))
    ∙ ap (λ (t : List ℕ). 114 ∷ 111 ∷ 119 ∷ 115 ∷ 32 ∷ t) (append_assoc (natural (length d.rows)) (10 ∷ []) (lines d.rows (value_list (ok d))))
