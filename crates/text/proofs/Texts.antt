-- The two kinds of text, and the text of a whole input.
use Prim.Native.Nat.{ℕ, ◌≤◌}
use mathlib.Core.Path.{◌≡◌, refl, sym, ap, ◌∙◌}
use mathlib.Core.Bool.{Bool, true, false, cond, ◌||◌}
use mathlib.Core.List.{List}
use lib.Dec.{ltb}
use lib.ListN.{length, take}
use lib.Seq.{length-take-le, take_all}
use borrow.Author.Tests.{ltb-false}
use Rattle.rules.specs.Answer.{refused}
use Rattle.rules.specs.Listing.{listing}
use Rattle.rules.specs.Outcome.{outcome}
use Rattle.rules.specs.declared.Refusal.TheVariants.{Shape}
use Rattle.listing.specs.Put.{Begins}
use Rattle.text.specs.SheetText.{sheet_bytes, rooms, sheet_text}

module _ (b : List ℕ) (more : Bool) where
  -- what begins with 01's text
  pub written : {bytes text : List ℕ} {end : ℕ} → bytes ≡ sheet_text b more → Begins text end bytes → (take end text ≡ sheet_text b more) × ((end ≡ length (sheet_text b more)) × (end ≤ length text))
  written {text = text} {end = end} s g = (g.first ∙ s, (sym (length-take-le end text g.inside) ∙ ap length (g.first ∙ s), g.inside))

  chosen : {t : Bool} → more || ltb sheet_bytes (length b) ≡ t → cond t (listing (refused (Shape 0))) (listing (outcome b rooms)) ≡ sheet_text b more
  unfolding sheet_text
  chosen h = ap (λ (x : Bool). cond x (listing (refused (Shape 0))) (listing (outcome b rooms))) (sym h)

  pub longer : more || ltb sheet_bytes (length b) ≡ true → listing (refused (Shape 0)) ≡ sheet_text b more
  longer h = chosen h

  pub all_read : more || ltb sheet_bytes (length b) ≡ false → listing (outcome b rooms) ≡ sheet_text b more
  all_read h = chosen h

-- the first 65,536 bytes of an input, and whether there are more, decide its text
pub whole_input : (i : List ℕ) → sheet_text (take sheet_bytes i) (ltb sheet_bytes (length i)) ≡ sheet_text i false
whole_input i = by (ltb sheet_bytes (length i)) refl
  where
    by : (t : Bool) → ltb sheet_bytes (length i) ≡ t → sheet_text (take sheet_bytes i) t ≡ sheet_text i false
    by true e = sym (longer (take sheet_bytes i) true refl) ∙ longer i false e
    by false e = ap (λ (b : List ℕ). sheet_text b false) (take_all sheet_bytes i (ltb-false sheet_bytes (length i) e))
