-- One value more at the end of those gathered: what an operator makes of it.
use Rattle.std.specs.Prelude.{None, Some}
use Prim.Native.Nat.{ℕ, zero, suc}
use native.Mathlib.Omega.{arith}
use mathlib.Core.Path.{◌≡◌, refl, sym, ap, ap₂, fun_ext, subst, ◌∙◌}
use mathlib.Core.Bool.{Bool, true, false, cond}
use mathlib.Core.List.{List, [], ◌∷◌, ◌++◌}
use lib.Dec.{T}
use lib.IntN.{pos}
use lib.Ieee.{Float, nan, inf, fin, binary64, lt, of_int, add, mul}
use Rattle.laws.specs.Floats.{finite, one_f}
use Rattle.rules.specs.Number.{step, plus, times, power, ◌>>=◌}
use Rattle.rules.specs.Operate.{Stack, Values, greatest, least, assigned, added, multiplied}
use Rattle.rules.specs.Value.{with_stack}
use Rattle.rules.specs.Number.{Step}
use Rattle.rules.specs.declared.EffectOperator.{EffectOperator}
use Rattle.rules.specs.declared.EffectOperator.TheVariants.{PreAssign, PreMul, PreDiv, ModAdd, ModSub, PostMul, PostDiv, PostPercent, PostAssign}
use Rattle.numbers.proofs.Steps.{assoc}
use Rattle.operate.specs.declared.Running.{Running}
use Rattle.operate.specs.SoFar.{plainly, any?, RunningOf, better, chosen_of, added_one, multiplied_one, plainly_one}

-- ---- steps that have a value have a finite one

pub kept : {x w : Float} → T (finite x) → Some x ≡ Some w → T (finite w)
kept {x} {w} f e = let h : x ≡ w = cc in subst (λ (z : Float). T (finite z)) h f

never : {w : Float} → None ≡ Some w → T (finite w)
never {w} e = let z : ◌≡◌ {A = ℕ} 0 1 = cc in absurd (omega arith)

pub step_good : (x : Float) {w : Float} → step x ≡ Some w → T (finite w)
unfolding step
step_good nan e = never e
step_good (inf s) e = never e
step_good (fin s m d) e = unfold finite in kept {x = fin s m d} tt e

pub bind_good : (g : Step) (k : Float → Step) → ((x w : Float) → k x ≡ Some w → T (finite w)) → (w : Float) → (g >>= k) ≡ Some w → T (finite w)
unfolding ◌>>=◌
bind_good (Some x) k h w e = h x w e
bind_good None k h w e = never e

-- the second step has a finite value to start from
pub bind_step_good : (x : Float) (k : Float → Step) → (T (finite x) → (w : Float) → k x ≡ Some w → T (finite w)) → (w : Float) → (step x >>= k) ≡ Some w → T (finite w)
unfolding ◌>>=◌ step finite
bind_step_good nan k h w e = never e
bind_step_good (inf s) k h w e = never e
bind_step_good (fin s m d) k h w e = h tt w e

pub unit : (g : Step) → (g >>= λ x. Some x) ≡ g
unfolding ◌>>=◌
unit (Some x) = refl
unit None = refl

-- ---- assign

greatest_snoc : (v : Float) (l : List Stack) (s : Stack) → greatest v (l ++ (s ∷ [])) ≡ better true (greatest v l) s.value
unfolding greatest
greatest_snoc v [] s = refl
greatest_snoc v (x ∷ r) s = greatest_snoc (cond (lt x.value v) v x.value) r s

least_snoc : (v : Float) (l : List Stack) (s : Stack) → least v (l ++ (s ∷ [])) ≡ better false (least v l) s.value
unfolding least
least_snoc v [] s = refl
least_snoc v (x ∷ r) s = least_snoc (cond (lt x.value v) x.value v) r s

assigned_snoc : (high : Bool) (v : Float) (l : List Stack) (s : Stack) → assigned high v (l ++ (s ∷ [])) ≡ cond (any? l) (better high (assigned high v l) s.value) s.value
unfolding assigned
assigned_snoc true v [] s = unfold greatest in refl
assigned_snoc false v [] s = unfold least in refl
assigned_snoc true v (x ∷ r) s = greatest_snoc x.value r s
assigned_snoc false v (x ∷ r) s = least_snoc x.value r s

chosen_is : (high t : Bool) (best x : Float) → chosen_of high t (Some best) x ≡ Some (cond t (better high best x) x)
unfolding ◌>>=◌
chosen_is high true best x = refl
chosen_is high false best x = refl

one_of : (t : Bool) (a b : Float) → T (finite a) → T (finite b) → T (finite (cond t a b))
one_of true a b f g = f
one_of false a b f g = g

better_good : (high : Bool) (best x : Float) → T (finite best) → T (finite x) → T (finite (better high best x))
better_good true best x f g = one_of (lt x best) best x f g
better_good false best x f g = one_of (lt x best) x best g f

chosen_good : (high t : Bool) (best : Step) (x : Float) → ((y : Float) → best ≡ Some y → T (finite y)) → T (finite x) → (w : Float) → chosen_of high t best x ≡ Some w → T (finite w)
unfolding ◌>>=◌
chosen_good high true (Some b) x h f w e = kept (better_good high b x (h b refl) f) e
chosen_good high true None x h f w e = never e
chosen_good high false best x h f w e = kept f e

-- ---- sums and products

added_snoc : (v : Float) (l : List Stack) (s : Stack) → added v (l ++ (s ∷ [])) ≡ (added v l >>= λ w. added_one w s.value s.quantity)
unfolding added
added_snoc v [] s = unfold ◌>>=◌ in ap (λ k. times s.value (of_int binary64 (pos s.quantity)) >>= k) (fun_ext λ y. unit (plus v y))
added_snoc v (x ∷ r) s =
    ap (λ k. times x.value (of_int binary64 (pos x.quantity)) >>= k)
    (fun_ext λ y. ap (λ k. plus v y >>= k) (fun_ext λ w. added_snoc w r s) ∙ sym (assoc (plus v y) _ _))
    ∙ sym (assoc (times x.value (of_int binary64 (pos x.quantity))) _ _)

multiplied_snoc : (v : Float) (l : List Stack) (s : Stack) → multiplied v (l ++ (s ∷ [])) ≡ (multiplied v l >>= λ w. multiplied_one w s.value s.quantity)
unfolding multiplied
multiplied_snoc v [] s =
    unfold ◌>>=◌ in ap (λ k. plus one_f s.value >>= k) (fun_ext λ y. ap (λ k. power y s.quantity >>= k) (fun_ext λ z. unit (times v z)))
multiplied_snoc v (x ∷ r) s =
    ap (λ k. plus one_f x.value >>= k)
    (fun_ext λ y.
    ap (λ k. power y x.quantity >>= k) (fun_ext λ z. ap (λ k. times v z >>= k) (fun_ext λ w. multiplied_snoc w r s) ∙ sym (assoc (times v z) _ _))
    ∙ sym (assoc (power y x.quantity) _ _))
    ∙ sym (assoc (plus one_f x.value) _ _)

added_good : (g : Step) (x : Float) (n : ℕ) (w : Float) → (g >>= λ v. added_one v x n) ≡ Some w → T (finite w)
added_good g x n =
    bind_good g (λ v. added_one v x n)
    (λ v. bind_good (times x (of_int binary64 (pos n))) (λ y. plus v y) (λ y w e. step_good (add binary64 v y) e))

multiplied_good : (g : Step) (x : Float) (n : ℕ) (w : Float) → (g >>= λ v. multiplied_one v x n) ≡ Some w → T (finite w)
multiplied_good g x n =
    bind_good g (λ v. multiplied_one v x n)
    (λ v. bind_good (plus one_f x) (λ y. power y n >>= λ z. times v z)
    (λ y. bind_good (power y n) (λ z. times v z) (λ z w e. step_good (mul binary64 v z) e)))

-- ---- any operator

pub unchanged : (high : Bool) (op : EffectOperator) (v : Float) → Some v ≡ plainly high op v []
unfolding assigned added multiplied
unchanged high PreAssign v = refl
unchanged high PreMul v = refl
unchanged high PreDiv v = refl
unchanged high ModAdd v = refl
unchanged high ModSub v = refl
unchanged high PostMul v = refl
unchanged high PostDiv v = refl
unchanged high PostPercent v = refl
unchanged high PostAssign v = refl

pub begun : {v : Float} (high : Bool) (op : EffectOperator) → T (finite v) → RunningOf high op v [] (record { value = Some v; any = false })
begun {v} high op f = record { step = unchanged high op v; any = refl; good = λ w e. kept f e }

abbrev stack : Float → ℕ → Stack
stack x n = record { value = x; quantity = n }

module _ {high : Bool} {v : Float} {l : List Stack} {r : Running} (x : Float) (n : ℕ) where
  module _ {op : EffectOperator} (R : RunningOf high op v l r) where
    sum_more : plainly high op v l ≡ added v l → (r.value >>= λ w. added_one w x n) ≡ added v (l ++ (stack x n ∷ []))
    sum_more e = ap (λ g. g >>= λ w. added_one w x n) (R.step ∙ e) ∙ sym (added_snoc v l (stack x n))

    product_more : plainly high op v l ≡ multiplied v l → (r.value >>= λ w. multiplied_one w x n) ≡ multiplied v (l ++ (stack x n ∷ []))
    product_more e = ap (λ g. g >>= λ w. multiplied_one w x n) (R.step ∙ e) ∙ sym (multiplied_snoc v l (stack x n))

    choice_more : plainly high op v l ≡ Some (assigned high v l) → chosen_of high r.any r.value x ≡ Some (assigned high v (l ++ (stack x n ∷ [])))
    choice_more e =
        ap₂ (λ t g. chosen_of high t g x) R.any (R.step ∙ e) ∙ chosen_is high (any? l) (assigned high v l) x ∙ ap Some (sym (assigned_snoc high v l (stack x n)))

  one_more : (op : EffectOperator) → RunningOf high op v l r → plainly_one high op r x n ≡ plainly high op v (l ++ (stack x n ∷ []))
  one_more PreAssign R = choice_more R refl
  one_more PreMul R = product_more R refl
  one_more PreDiv R = product_more R refl
  one_more ModAdd R = sum_more R refl
  one_more ModSub R = sum_more R refl
  one_more PostMul R = product_more R refl
  one_more PostDiv R = product_more R refl
  one_more PostPercent R = product_more R refl
  one_more PostAssign R = choice_more R refl

  one_good : (op : EffectOperator) → RunningOf high op v l r → T (finite x) → (w : Float) → plainly_one high op r x n ≡ Some w → T (finite w)
  one_good PreAssign R f = chosen_good high r.any r.value x R.good f
  one_good PreMul R f = multiplied_good r.value x n
  one_good PreDiv R f = multiplied_good r.value x n
  one_good ModAdd R f = added_good r.value x n
  one_good ModSub R f = added_good r.value x n
  one_good PostMul R f = multiplied_good r.value x n
  one_good PostDiv R f = multiplied_good r.value x n
  one_good PostPercent R f = multiplied_good r.value x n
  one_good PostAssign R f = chosen_good high r.any r.value x R.good f

any_snoc : (l : List Stack) (s : Stack) → true ≡ any? (l ++ (s ∷ []))
any_snoc [] s = refl
any_snoc (x ∷ l) s = refl

module _ (high : Bool) (op : EffectOperator) {r : Running} (x : Float) where
  -- a quantity of 0 adds nothing
  pub none_more : (n : ℕ) → n ≡ 0 → (v : Float) (g : Values) → T (finite x) → RunningOf high op v g.unpenalized r → RunningOf high op v (with_stack x n g).unpenalized r
  none_more zero e v g f R = R
  none_more (suc n) e v g f R = absurd (omega arith)

  pub some_more : (n : ℕ) → (n ≡ 0 → ⊥) → {s : Running} → s.value ≡ plainly_one high op r x n → s.any ≡ true → (v : Float) (g : Values) → T (finite x)
      → RunningOf high op v g.unpenalized r → RunningOf high op v (with_stack x n g).unpenalized s
  some_more zero z e a v g f R = absurd (z refl)
  some_more (suc n) z e a v g f R = record {
    step = e ∙ one_more x (suc n) op R;
    any = a ∙ any_snoc g.unpenalized (stack x (suc n));
    good = λ w h. one_good x (suc n) op R f w (sym e ∙ h);
  }
