-- The text of what comes back is the definition's listing, done or refused.
use Prim.Native.Nat.{ℕ}
use native.Mathlib.Omega.{arith}
use mathlib.Core.Path.{◌≡◌, refl, sym, ◌∙◌}
use mathlib.Core.List.{List}
use lib.Ieee.{Float}
use Rattle.rules.specs.Answer.{Res, ok, refused, number, place}
use Rattle.rules.specs.Listing.{listing}
use Rattle.rules.specs.Outcome.{Done}
use Rattle.rules.specs.Answer as answer
use Rattle.rules.specs.declared.Refusal.{Refusal}
use Rattle.rules.specs.declared.Refusal.TheVariants as refusal
use Rattle.listing.specs.Pieces.{Shown, Tells}
use Rattle.listing.specs.Put.{Begins}

-- only what is done has number 0
pub no_number : (x : Refusal) → number (answer.Refused x) ≡ 0 → ⊥
no_number (refusal.Shape p) e = omega (arith, e)
no_number (refusal.Func p) e = omega (arith, e)
no_number (refusal.Domain p) e = omega (arith, e)
no_number (refusal.Category p) e = omega (arith, e)
no_number (refusal.Operation p) e = omega (arith, e)
no_number (refusal.Other p) e = omega (arith, e)
no_number (refusal.Room p) e = omega (arith, e)
no_number (refusal.Number p) e = omega (arith, e)
no_number (refusal.Depth p) e = omega (arith, e)

module _ {k p n : ℕ} {rows : List (List ℕ)} {values : List Float} {text : List ℕ} {end : ℕ} where
  -- number 0: the rows
  pub told-done : k ≡ 0 → ((d : Done) → Shown d n rows values → Begins text end (listing (ok d))) → (o : Res Done) → Tells o k p n rows values → Begins text end (listing o)
  told-done h f (ok d) t = f d (t.by_rows d refl)
  told-done h f (refused x) t = absurd (no_number x (sym t.by_number ∙ h))

  -- another: the one line
  pub told-refused : (k ≡ 0 → ⊥) → ((x : Refusal) → number (answer.Refused x) ≡ k → place (answer.Refused x) ≡ p → Begins text end (listing (refused x)))
      → (o : Res Done) → Tells o k p n rows values → Begins text end (listing o)
  told-refused h f (ok d) t = absurd (h t.by_number)
  told-refused h f (refused x) t = f x (sym t.by_number) (sym t.by_place)
