-- Laws of tests: an outcome that is given on, an own modifier's target, an owner.
use Prim.Native.Nat.{ℕ, suc}
use mathlib.Core.Path.{◌≡◌, refl, sym, ◌∙◌}
use mathlib.Core.Bool.{Bool, true, false, ◌&&◌, not, cond}
use mathlib.Core.List.{List, []}
use borrow.Author.Tests.{eqb-true}
use lib.Dec.{eqb}
use Rattle.std.specs.Prelude.{Option, Some, None, is_none, Result, Ok, Err}
use Rattle.std.specs.Option.{ok_or}
use Rattle.std.specs.Result.{IsErrAnd}
use Rattle.std.proofs.lemmas.Result.{err_from_is_err_and}
use Rattle.rules.specs.declared.Refusal.{Refusal}
use Rattle.rules.specs.Sheet.{Fit}
use Rattle.rules.specs.Item.{is_item, is_charge, is_skill, has_charge, item_of, structure_fit}
use Rattle.modifier.specs.declared.codes.Owner.{Owner}
use Rattle.modifier.specs.Tests.{charge_in, OwnerOf, WholeOwnerOf, test_own_domain, own_target}
use Rattle.rules.specs.Collect.{Move, Test, go, over, bad, then, unless, test_domain}
use Rattle.rules.specs.declared.Item.{Item}
use Rattle.rules.specs.declared.DogmaModifier.{DogmaModifier}
use Rattle.rules.specs.declared.Refusal.TheVariants.{Other}

-- ---- the outcome of a test that is given on

-- where an error is given on as it is
pub given_on : {A : Type 0} (r : Result A Refusal) {x : Refusal} → IsErrAnd r (λ y. y ≡ x) → r ≡ Err x
given_on r h = let p = err_from_is_err_and r h in rw p.2 at p.1

-- where an option's absence is an error
pub there_or : {A : Type 0} (o : Option A) (r : Refusal) {a : A} → Ok a ≡ ok_or o r → o ≡ Some a
there_or None r e = cc
there_or (Some x) r e = cc

pub missing_or : {A : Type 0} (o : Option A) {r x : Refusal} → Err x ≡ ok_or o r → (o ≡ None) × (x ≡ r)
missing_or None e = (refl, cc)
missing_or (Some x) e = cc

-- ---- an own modifier's target

-- an item (i) whose charge (h) is meant (d)
met : (d i h : Bool) (n : ℕ) (t w : Test ℕ) (g : ℕ → List Move) → (d ≡ true → t ≡ cond i (go n) w) → then (cond d (cond i (cond h (go n) over) w) t) g ≡ unless (i && d && not h) (then t g)
met true true true n t w g e = rw (e refl) refl
met true true false n t w g e = refl
met true false h n t w g e = rw (e refl) refl
met false true h n t w g e = refl
met false false h n t w g e = refl

-- where an item (i) whose charge (h) is meant (d) has none
bare : (i d h : Bool) (n : ℕ) → i && d && is_none (cond h (Some n) None) ≡ i && d && not h
bare i d true n = refl
bare i d false n = refl

unless_nothing : (b : Bool) → [] ≡ unless b []
unless_nothing true = refl
unless_nothing false = refl

module _ (f : Fit) (o : Item) (m : DogmaModifier) where
  pub skipped : (g : ℕ → List Move) → is_skill o && structure_fit f && eqb m.domain 1 ≡ true → [] ≡ own_target f o m g
  skipped g h = rw h (unless_nothing (is_item o && eqb m.domain 3 && not (has_charge f o)))

  of_other : m.domain ≡ 3 → test_domain f o m ≡ cond (is_item o) (go (suc o.number)) (cond (is_charge o) (go (item_of f o).number) (bad (Other m.number)))
  unfolding test_domain
  of_other h = rw h refl

  pub aimed : (g : ℕ → List Move) → is_skill o && structure_fit f && eqb m.domain 1 ≡ false → then (test_own_domain f o m) g ≡ own_target f o m g
  aimed g h = rw h (met (eqb m.domain 3) (is_item o) (has_charge f o) (suc o.number) (test_domain f o m) (cond (is_charge o) (go (item_of f o).number) (bad (Other m.number))) g (λ e. of_other (eqb-true m.domain 3 e)))

  -- whether it is an item without charge whose charge is meant
  pub uncharged : is_item o && eqb m.domain 3 && is_none (charge_in f o) ≡ is_item o && eqb m.domain 3 && not (has_charge f o)
  uncharged = bare (is_item o) (eqb m.domain 3) (has_charge f o) (suc o.number)

  pub aimed_at : (t : Test ℕ) (g : ℕ → List Move) → t ≡ test_domain f o m → is_item o && eqb m.domain 3 && is_none (charge_in f o) ≡ false → is_skill o && structure_fit f && eqb m.domain 1 ≡ false → then t g ≡ own_target f o m g
  aimed_at t g e h s = rw (e, sym uncharged ∙ h, s) refl

-- ---- an owner

-- what tells of any object beside an owner's tells of the other of an item and its charge
pub of_whole : (f : Fit) (w : Owner) → WholeOwnerOf f w → OwnerOf f w
of_whole f w h = record { other = rw (h.charge, h.before) refl; structure = h.structure; character = h.character }
