-- An operator's values applied: the unpenalised ones, then the weighed copies; and an operator without values changes nothing.
use Rattle.std.specs.Prelude.{None, Some}
use Prim.Native.Nat.{ℕ, suc}
use mathlib.Core.Path.{◌≡◌, refl, sym, ap, ap₂, fun_ext, ◌∙◌}
use mathlib.Core.Bool.{Bool, false}
use mathlib.Core.List.{List, [], ◌∷◌}
use lib.Dec.{T}
use lib.Ieee.{Float, binary64, mul}
use Rattle.laws.specs.Floats.{finite, one_f}
use Rattle.rules.specs.Number.{plus, times, weight, ◌>>=◌}
use Rattle.rules.specs.Operate.{Copy, Values, has_penalty, assigned, added, multiplied, sorted, weighed, factored, applied}
use Rattle.rules.specs.Value.{nothing}
use Rattle.rules.specs.Number.{Step}
use Rattle.rules.specs.declared.EffectOperator.{EffectOperator}
use Rattle.rules.specs.declared.EffectOperator.TheVariants.{PreAssign, PreMul, PreDiv, ModAdd, ModSub, PostMul, PostDiv, PostPercent, PostAssign}
use Rattle.numbers.proofs.Steps.{bound, refused}
use Rattle.operate.specs.declared.Running.{Running}
use Rattle.operate.specs.SoFar.{plainly, RunningOf}
use Rattle.operate.proofs.Snocs.{kept, bind_good, bind_step_good, unit, unchanged}

weighed_good : (p : ℕ) (l : List Copy) (v : Float) → T (finite v) → (w : Float) → weighed p l v ≡ Some w → T (finite w)
unfolding weighed
weighed_good p [] v f w e = kept f e
weighed_good p (x ∷ r) v f w e =
    bind_good (times x.value (weight p)) (λ y. plus one_f y >>= λ z. times v z >>= λ u. weighed (suc p) r u)
    (λ y. bind_good (plus one_f y) (λ z. times v z >>= λ u. weighed (suc p) r u)
    (λ z. bind_step_good (mul binary64 v z) (λ u. weighed (suc p) r u) (λ g. weighed_good (suc p) r (mul binary64 v z) g)))
    w e

-- a step that goes on from a finite value
next_good : (s : Step) (k : Float → Step) → ((y : Float) → s ≡ Some y → T (finite y)) → ((y : Float) → T (finite y) → (w : Float) → k y ≡ Some w → T (finite w)) → (w : Float) → (s >>= k) ≡ Some w → T (finite w)
unfolding ◌>>=◌
next_good (Some y) k h n w e = n y (h y refl) w e
next_good None k h n w e = h w e

-- the copies after a value
abbrev copied : Values → Float → Step
copied g v = weighed 0 (sorted g.positive) v >>= λ w. weighed 0 (sorted g.negative) w

no_copies : (g : Values) → (g.positive ≡ []) × (g.negative ≡ []) → (v : Float) → copied g v ≡ Some v
no_copies g e v =
    ap₂ (λ (p n : List Copy). weighed 0 (sorted p) v >>= λ w. weighed 0 (sorted n) w) e.0 e.1 ∙ (unfold sorted in unfold weighed in unfold ◌>>=◌ in refl)

module _ (high : Bool) (v : Float) (g : Values) where
  plain-is : (s : Step) → (g.positive ≡ []) × (g.negative ≡ []) → s ≡ (s >>= copied g)
  plain-is s e = sym (ap (λ k. s >>= k) (fun_ext (no_copies g e)) ∙ unit s)

  factored-is : factored v g ≡ (multiplied v g.unpenalized >>= copied g)
  unfolding factored
  factored-is = refl

  applied-is : (op : EffectOperator) → (has_penalty op ≡ false → (g.positive ≡ []) × (g.negative ≡ [])) → applied high op v g ≡ (plainly high op v g.unpenalized >>= copied g)
  unfolding applied
  applied-is PreAssign e = plain-is (Some (assigned high v g.unpenalized)) (e refl)
  applied-is PreMul e = factored-is
  applied-is PreDiv e = factored-is
  applied-is ModAdd e = plain-is (added v g.unpenalized) (e refl)
  applied-is ModSub e = plain-is (added v g.unpenalized) (e refl)
  applied-is PostMul e = factored-is
  applied-is PostDiv e = factored-is
  applied-is PostPercent e = factored-is
  applied-is PostAssign e = plain-is (Some (assigned high v g.unpenalized)) (e refl)

-- what is asked of the values of an operator that takes no penalty
abbrev pub Unpenalised : EffectOperator → Values → Type 0
Unpenalised op g = has_penalty op ≡ false → (g.positive ≡ []) × (g.negative ≡ [])

module _ {high : Bool} {op : EffectOperator} {v : Float} {g : Values} {r : Running} (R : RunningOf high op v g.unpenalized r) (u : Unpenalised op g) where
  begun : applied high op v g ≡ (r.value >>= copied g)
  begun = applied-is high v g op u ∙ ap (λ s. s >>= copied g) (sym R.step)

  pub not_plain : r.value ≡ None → None ≡ applied high op v g
  not_plain e = sym (begun ∙ refused _ e)

  module _ {x : Float} (e : r.value ≡ Some x) {s : Step} (weighs : T (finite x) → s ≡ weighed 0 (sorted g.positive) x) where
    pub not_positive : s ≡ None → None ≡ applied high op v g
    not_positive n = sym (begun ∙ bound _ e ∙ refused _ (sym (weighs (R.good x e)) ∙ n))

    pub whole : {w : Float} → s ≡ Some w → {t : Step} → (T (finite w) → t ≡ weighed 0 (sorted g.negative) w) → t ≡ applied high op v g
    whole {w} n next =
        let q = sym (weighs (R.good x e)) ∙ n in
        next (weighed_good 0 (sorted g.positive) x (R.good x e) w q) ∙ sym (begun ∙ bound _ e ∙ bound _ q)

  -- a value that comes of it is finite
  pub applied_good : {x : Float} → applied high op v g ≡ Some x → T (finite x)
  applied_good {x} e =
      next_good r.value (copied g) R.good
      (λ y f. next_good (weighed 0 (sorted g.positive) y) (weighed 0 (sorted g.negative)) (weighed_good 0 (sorted g.positive) y f) (weighed_good 0 (sorted g.negative)))
      x (sym begun ∙ e)

-- an operator without entries is passed over
pub applied-nothing : (high : Bool) (op : EffectOperator) (v : Float) → applied high op v nothing ≡ Some v
applied-nothing high op v = applied-is high v nothing op (λ e. (refl, refl)) ∙ bound _ (sym (unchanged high op v)) ∙ no_copies nothing (refl, refl) v
