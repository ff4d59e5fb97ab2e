-- An object by its place, the object after it and the object before it.
use Rattle.std.specs.Prelude.{Some, None}
use Rattle.std.specs.Bool.{then_some}
use Prim.Native.Nat.{ℕ, suc, ◌-◌, ◌≤◌, ◌<◌}
use native.Mathlib.Omega.{arith}
use mathlib.Core.Path.{◌≡◌, refl, sym, ap, ◌∙◌}
use mathlib.Core.Bool.{Bool, true, false, cond}
use mathlib.Core.List.{List}
use lib.ListN.{length, get_or, get_or-eq_default}
use Rattle.rules.specs.Sheet.{Fit, fit_of}
use Rattle.rules.specs.Item.{object, no_item, is_item, is_charge, item_of}
use Rattle.rules.specs.declared.Item.{Item}
use Rattle.info.specs.Sound.{Nth}
use Rattle.states.proofs.Standing as standing
use Rattle.info.proofs.Elements.{objects_length}
use Rattle.rules.specs.Bytes.{count_of}
use Rattle.info.proofs.Sheets.{numbered}
use Rattle.modifier.specs.Tests.{other_in}
use Rattle.collect.specs.OfFit.{OfFit}

module _ (f : Fit) {n : ℕ} where
  pub next_none : length f.objects ≤ suc n → false ≡ is_charge (object f (suc n))
  next_none h = sym (ap is_charge (get_or-eq_default f.objects no_item h))

as_cond : (b : Bool) (n : ℕ) → then_some b n ≡ cond b (Some n) None
as_cond true n = refl
as_cond false n = refl

-- objects have their places as their numbers: the one before it
pub before_is : (b : List ℕ) (pairs : List (List ℕ)) (o : Item) → OfFit (fit_of b pairs) o → o.number - 1 ≡ (item_of (fit_of b pairs) o).number
before_is b pairs o s = sym (numbered b pairs (o.number - 1) (omega (arith, s.few)))

-- a charge's item stands before it
pub charge_beside : (b : List ℕ) (pairs : List (List ℕ)) (o : Item) → OfFit (fit_of b pairs) o → is_item o ≡ false → then_some (is_charge o) (o.number - 1) ≡ other_in (fit_of b pairs) o
charge_beside b pairs o s h =
    rw h (as_cond (is_charge o) (o.number - 1) ∙ ap (λ (n : ℕ). cond (is_charge o) (Some n) None) (before_is b pairs o s))

pub stands_at : (b : List ℕ) (pairs : List (List ℕ)) (i : ℕ) (o : Item) → i < count_of pairs 6 → Nth (fit_of b pairs).objects i o → OfFit (fit_of b pairs) o
stands_at b pairs i o h n =
    record {
      few = omega (arith, at, objects_length b pairs);
      is = λ d. n d ∙ ap (λ (j : ℕ). get_or (fit_of b pairs).objects j d) (sym at);
    }
  where
    at : o.number ≡ i
    at = standing.numbered b pairs i o h n
