-- The figures of a whole input, and the text that is asked for.
use Prim.Native.Nat.{ℕ, ◌≤◌}
use mathlib.Core.Path.{◌≡◌, sym, ap, ◌∙◌}
use mathlib.Core.Bool.{Bool, true, false, cond, ◌||◌, true≢false}
use mathlib.Core.List.{List}
use lib.Dec.{ltb}
use lib.ListN.{length, take}
use Rattle.rules.specs.Answer.{refused}
use Rattle.rules.specs.Listing.{listing}
use Rattle.rules.specs.Outcome.{outcome}
use Rattle.rules.specs.declared.Refusal.TheVariants.{Shape}
use Rattle.listing.specs.Put.{Begins}
use Rattle.text.specs.SheetText.{sheet_bytes, rooms, sheet_text}
use Rattle.figures.specs.Figures.{figures_text}
use Rattle.listed.specs.Listed.{sheet_figures, asked}

-- ---- of a whole input

module _ (b : List ℕ) (more : Bool) where
  pub written : {bytes text : List ℕ} {end : ℕ} → bytes ≡ sheet_figures b more → Begins text end bytes → (take end text ≡ sheet_figures b more) × (end ≤ length text)
  written e g = (g.first ∙ e, g.inside)

  chosen : {t : Bool} → more || ltb sheet_bytes (length b) ≡ t → cond t (figures_text (refused (Shape 0))) (figures_text (outcome b rooms)) ≡ sheet_figures b more
  unfolding sheet_figures
  chosen h = ap (λ (x : Bool). cond x (figures_text (refused (Shape 0))) (figures_text (outcome b rooms))) (sym h)

  pub longer : more || ltb sheet_bytes (length b) ≡ true → listing (refused (Shape 0)) ≡ sheet_figures b more
  unfolding figures_text
  longer h = chosen h

  pub all_read : more || ltb sheet_bytes (length b) ≡ false → figures_text (outcome b rooms) ≡ sheet_figures b more
  all_read h = chosen h

pub as_asked : (bits : Bool) (b : List ℕ) (more : Bool) {t : List ℕ} → bits ≡ true → t ≡ sheet_figures b more → t ≡ asked bits b more
as_asked true b more h e = e
as_asked false b more h e = absurd (true≢false (sym h))

pub not-asked : (bits : Bool) (b : List ℕ) (more : Bool) {t : List ℕ} → bits ≡ false → t ≡ sheet_text b more → t ≡ asked bits b more
not-asked true b more h e = absurd (true≢false h)
not-asked false b more h e = e
