-- Float steps of finite values: what a step gives is finite, or it is refused. So are weights.
use Rattle.std.specs.Prelude.{None, Some}
use Prim.Native.Nat.{ℕ, zero, suc, ◌*◌, ◌/◌, ◌%◌}
use mathlib.Core.Path.{◌≡◌, refl, subst}
use mathlib.Core.Bool.{Bool, true, false, cond}
use mathlib.Core.List.{List, [], ◌∷◌}
use lib.Dec.{eqb, ltb}
use lib.Ieee.{Float, nan, inf, fin, neg, lt}
use Rattle.laws.specs.Lists.{every?}
use Rattle.laws.specs.Floats.{finite, zero_f, one_f}
use Rattle.laws.proofs.Bools.{both_ways, and_left, and_right}
use Rattle.rules.specs.Answer.{Res, ok, refused, ◌>>=◌}
use Rattle.rules.specs.Number.{step, times, times_if, power_from, power, penalty_factor, finite_or, weight, number_at}
use Rattle.rules.specs.Number as number
use Rattle.rules.specs.Operate.{Stack, Copy, Values, simplified, greatest, least, assigned, added, multiplied, sorted, weighed, factored, applied}
use Rattle.rules.specs.declared.EffectOperator.{EffectOperator}
use Rattle.rules.specs.declared.EffectOperator.TheVariants.{PreAssign, PreMul, PreDiv, ModAdd, ModSub, PostMul, PostDiv, PostPercent, PostAssign}
use Rattle.rules.specs.declared.Refusal.{Refusal}
use Rattle.rules.specs.Number.{Step}

-- ---- what is given, unless refused

pub data Gives {A : Type 0} (P : A → Type 0) : Res A → Type 0 where
  stops : {x : Refusal} → Gives P (refused x)
  gives : {a : A} → P a → Gives P (ok a)

module _ {A B : Type 0} {P : A → Type 0} {Q : B → Type 0} where
  pub on : {x : Res A} (f : A → Res B) → Gives P x → ((a : A) → P a → Gives Q (f a)) → Gives Q (x >>= f)
  on f stops h = stops
  on f (gives {a = a} p) h = h a p

pub either : {A : Type 0} {P : A → Type 0} (t : Bool) {x y : Res A} → Gives P x → Gives P y → Gives P (elim t [ true ↦ x | false ↦ y ])
either true h k = h
either false h k = k

pub given : {A : Type 0} {P : A → Type 0} {x : Res A} {a : A} → Gives P x → x ≡ ok a → P a
given {A = A} {P = P} {a = a} g e = by (subst (Gives P) e g)
  where
    by : Gives P (ok a) → P a
    by (gives p) = p

-- ---- steps

abbrev pub FineStep : Step → Type 0
FineStep (Some x) = finite x ≡ true
FineStep None = Unit {0}

step_fine : (x : Float) → FineStep (step x)
unfolding step finite
step_fine nan = tt
step_fine (inf s) = tt
step_fine (fin s m e) = refl

bind_fine : (s : Step) (g : Float → Step) → FineStep s → ((x : Float) → finite x ≡ true → FineStep (g x)) → FineStep (number.◌>>=◌ s g)
unfolding number.◌>>=◌
bind_fine (Some x) g h k = k x h
bind_fine None g h k = tt

pub number_fine : (o : ℕ) (s : Step) → FineStep s → Gives (λ (x : Float). finite x ≡ true) (number_at o s)
unfolding number_at
number_fine o (Some x) h = gives h
number_fine o None h = stops

pub times_fine : (x y : Float) → FineStep (times x y)
times_fine x y = step_fine _

neg_fine : (x : Float) → finite x ≡ true → finite (neg x) ≡ true
unfolding neg finite
neg_fine nan h = both_ways h refl
neg_fine (inf s) h = both_ways h refl
neg_fine (fin s m e) h = refl

pub cond_fine : (t : Bool) (x y : Float) → finite x ≡ true → finite y ≡ true → finite (cond t x y) ≡ true
cond_fine true x y h k = h
cond_fine false x y h k = k

pub simplified_fine : (op : EffectOperator) (v : Float) → finite v ≡ true → FineStep (simplified op v)
unfolding simplified
simplified_fine PreAssign v h = h
simplified_fine PreMul v h = step_fine _
simplified_fine PreDiv v h = bind_fine _ _ (step_fine _) (λ q k. step_fine _)
simplified_fine ModAdd v h = h
simplified_fine ModSub v h = neg_fine v h
simplified_fine PostMul v h = step_fine _
simplified_fine PostDiv v h = bind_fine _ _ (step_fine _) (λ q k. step_fine _)
simplified_fine PostPercent v h = step_fine _
simplified_fine PostAssign v h = h

-- ---- weights

times_if_fine : (t : Bool) (r x : Float) → finite r ≡ true → FineStep (times_if t r x)
unfolding times_if
times_if_fine true r x h = step_fine _
times_if_fine false r x h = h

power_from_fine : (d : ℕ) (r x : Float) (n : ℕ) → finite r ≡ true → FineStep (power_from d r x n)
unfolding power_from
power_from_fine zero r x n h = h
power_from_fine (suc d) r x zero h = h
power_from_fine (suc d) r x (suc n) h = bind_fine (times_if (eqb (suc n % 2) 1) r x) _ (times_if_fine (eqb (suc n % 2) 1) r x h) (λ r' k. by r' k (λ x'. power_from_fine d r' x' (suc n / 2) k) (suc n / 2))
  where
    rest : Float → ℕ → Step
    rest r' m = elim m [ zero ↦ Some r' | suc k ↦ number.◌>>=◌ (times x x) λ x'. power_from d r' x' (suc n / 2) ]

    by : (r' : Float) → finite r' ≡ true → ((x' : Float) → FineStep (power_from d r' x' (suc n / 2))) → (m : ℕ) → FineStep (rest r' m)
    by r' k h zero = k
    by r' k h (suc m) = bind_fine (times x x) _ (step_fine _) (λ x' l. h x')

finite_or_lem : (s : Step) → FineStep s → finite (finite_or zero_f s) ≡ true
unfolding finite
finite_or_lem (Some x) h = h
finite_or_lem None h = refl

pub weight_fine : (p : ℕ) → finite (weight p) ≡ true
unfolding weight power finite
weight_fine p = by (ltb p 8)
  where
    by : (t : Bool) → finite (elim t [ true ↦ finite_or zero_f (power penalty_factor (p * p)) | false ↦ zero_f ]) ≡ true
    by true = finite_or_lem (power penalty_factor (p * p)) (power_from_fine 32 one_f penalty_factor (p * p) refl)
    by false = refl

-- ---- an operator applied to a finite value

abbrev pub fine_stack : Stack → Bool
fine_stack x = finite x.value

greatest_fine : (v : Float) (xs : List Stack) → finite v ≡ true → every? fine_stack xs ≡ true → finite (greatest v xs) ≡ true
unfolding greatest
greatest_fine v [] h k = h
greatest_fine v (x ∷ xs) h k = greatest_fine (cond (lt x.value v) v x.value) xs (cond_fine (lt x.value v) v x.value h (and_left (fine_stack x) (every? fine_stack xs) k)) (and_right (fine_stack x) (every? fine_stack xs) k)

least_fine : (v : Float) (xs : List Stack) → finite v ≡ true → every? fine_stack xs ≡ true → finite (least v xs) ≡ true
unfolding least
least_fine v [] h k = h
least_fine v (x ∷ xs) h k = least_fine (cond (lt x.value v) x.value v) xs (cond_fine (lt x.value v) x.value v (and_left (fine_stack x) (every? fine_stack xs) k) h) (and_right (fine_stack x) (every? fine_stack xs) k)

assigned_fine : (high : Bool) (v : Float) (xs : List Stack) → finite v ≡ true → every? fine_stack xs ≡ true → finite (assigned high v xs) ≡ true
unfolding assigned
assigned_fine high v [] h k = h
assigned_fine high v (x ∷ xs) h k =
    let first = and_left (fine_stack x) (every? fine_stack xs) k in
    let rest = and_right (fine_stack x) (every? fine_stack xs) k in
    cond_fine high (greatest x.value xs) (least x.value xs) (greatest_fine x.value xs first rest) (least_fine x.value xs first rest)

added_fine : (v : Float) (xs : List Stack) → finite v ≡ true → FineStep (added v xs)
unfolding added
added_fine v [] h = h
added_fine v (x ∷ xs) h = bind_fine _ _ (step_fine _) (λ y k. bind_fine _ _ (step_fine _) (λ v' k'. added_fine v' xs k'))

multiplied_fine : (v : Float) (xs : List Stack) → finite v ≡ true → FineStep (multiplied v xs)
unfolding multiplied power finite
multiplied_fine v [] h = h
multiplied_fine v (x ∷ xs) h =
    bind_fine _ _ (step_fine _) (λ y k. bind_fine (power y x.quantity) _ (power_from_fine 32 one_f y x.quantity refl) (λ z k'. bind_fine _ _ (step_fine _) (λ v' k''. multiplied_fine v' xs k'')))

weighed_fine : (p : ℕ) (xs : List Copy) (v : Float) → finite v ≡ true → FineStep (weighed p xs v)
unfolding weighed
weighed_fine p [] v h = h
weighed_fine p (x ∷ xs) v h = bind_fine _ _ (step_fine _) (λ y k. bind_fine _ _ (step_fine _) (λ z k'. bind_fine _ _ (step_fine _) (λ v' k''. weighed_fine (suc p) xs v' k'')))

factored_fine : (v : Float) (g : Values) → finite v ≡ true → FineStep (factored v g)
unfolding factored
factored_fine v g h =
    bind_fine (multiplied v g.unpenalized) _ (multiplied_fine v g.unpenalized h)
    (λ v' k. bind_fine (weighed 0 (sorted g.positive) v') _ (weighed_fine 0 (sorted g.positive) v' k) (λ v'' k'. weighed_fine 0 (sorted g.negative) v'' k'))

pub applied_fine : (high : Bool) (op : EffectOperator) (v : Float) (g : Values) → finite v ≡ true → every? fine_stack g.unpenalized ≡ true → FineStep (applied high op v g)
unfolding applied
applied_fine high PreAssign v g h k = assigned_fine high v g.unpenalized h k
applied_fine high PreMul v g h k = factored_fine v g h
applied_fine high PreDiv v g h k = factored_fine v g h
applied_fine high ModAdd v g h k = added_fine v g.unpenalized h
applied_fine high ModSub v g h k = added_fine v g.unpenalized h
applied_fine high PostMul v g h k = factored_fine v g h
applied_fine high PostDiv v g h k = factored_fine v g h
applied_fine high PostPercent v g h k = factored_fine v g h
applied_fine high PostAssign v g h k = assigned_fine high v g.unpenalized h k
