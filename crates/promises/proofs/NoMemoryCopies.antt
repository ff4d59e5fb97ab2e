-- What an operator makes of its values does not turn on where their source rows stand.
use Rattle.std.specs.Prelude.{Some}
use Prim.Native.Nat.{ℕ, zero, suc}
use mathlib.Core.Path.{◌≡◌, refl, sym, ap, ap₂, ◌∙◌}
use mathlib.Core.Bool.{Bool, true, false, cond}
use mathlib.Core.List.{List, [], ◌∷◌, ◌++◌, map}
use lib.Ieee.{Float}
use Rattle.laws.specs.Floats.{one_f, smaller}
use Rattle.laws.proofs.Maps.{map_snoc}
use Rattle.rules.specs.Number.{plus, times, weight, ◌>>=◌}
use Rattle.rules.specs.Operate.{Stack, Copy, Values, place, sorted, weighed, factored, multiplied, added, assigned, applied}
use Rattle.rules.specs.Value.{with_stack, with_copy, nothing}
use Rattle.rules.specs.Number.{Step}
use Rattle.rules.specs.declared.EffectOperator.{EffectOperator}
use Rattle.rules.specs.declared.EffectOperator.TheVariants.{PreAssign, PreMul, PreDiv, ModAdd, ModSub, PostMul, PostDiv, PostPercent, PostAssign}

abbrev pub strengths : List Copy → List Float
strengths l = map (λ x. x.value) l

-- ---- the order, and the weighing, of the strengths alone

put_f : Float → List Float → List Float
put_f x [] = x ∷ []
put_f x (y ∷ r) = cond (smaller x y) (y ∷ put_f x r) (x ∷ y ∷ r)

sort_f : List Float → List Float
sort_f [] = []
sort_f (x ∷ r) = put_f x (sort_f r)

weigh_f : ℕ → List Float → Float → Step
weigh_f p [] v = Some v
weigh_f p (x ∷ r) v = times x (weight p) >>= λ y. plus one_f y >>= λ z. times v z >>= λ v'. weigh_f (suc p) r v'

place_strengths : (x : Copy) (l : List Copy) → strengths (place x l) ≡ put_f x.value (strengths l)
unfolding place put_f
place_strengths x [] = refl
place_strengths x (y ∷ r) = by (smaller x.value y.value) (place_strengths x r)
  where
    by : (t : Bool) → strengths (place x r) ≡ put_f x.value (strengths r) → strengths (cond t (y ∷ place x r) (x ∷ y ∷ r)) ≡ cond t (y.value ∷ put_f x.value (strengths r)) (x.value ∷ y.value ∷ strengths r)
    by true h = ap (λ (l : List Float). y.value ∷ l) h
    by false h = refl

sorted_strengths : (l : List Copy) → strengths (sorted l) ≡ sort_f (strengths l)
unfolding sorted sort_f
sorted_strengths [] = refl
sorted_strengths (x ∷ r) = place_strengths x (sorted r) ∙ ap (put_f x.value) (sorted_strengths r)

weighed_strengths : (p : ℕ) (l : List Copy) (v : Float) → weighed p l v ≡ weigh_f p (strengths l) v
unfolding weighed weigh_f
weighed_strengths p [] v = refl
weighed_strengths p (x ∷ r) v =
    ap (λ (f : Float → Step). times x.value (weight p) >>= λ y. plus one_f y >>= λ z. times v z >>= f) (λ i v'. weighed_strengths (suc p) r v' i)

weighed-sorted : (p : ℕ) (l k : List Copy) (v : Float) → strengths l ≡ strengths k → weighed p (sorted l) v ≡ weighed p (sorted k) v
weighed-sorted p l k v e =
    weighed_strengths p (sorted l) v ∙ ap (λ (s : List Float). weigh_f p s v) (sorted_strengths l ∙ ap sort_f e ∙ sym (sorted_strengths k)) ∙ sym (weighed_strengths p (sorted k) v)

-- ---- gathered values that are the same but for their source rows

pub record Same (g h : Values) : Type 0 where
  pub unpenalized : g.unpenalized ≡ h.unpenalized
  pub positive : strengths g.positive ≡ strengths h.positive
  pub negative : strengths g.negative ≡ strengths h.negative

pub same_nothing : Same nothing nothing
same_nothing = record { unpenalized = refl; positive = refl; negative = refl }

factored_same : (v : Float) (g h : Values) → Same g h → factored v g ≡ factored v h
unfolding factored
factored_same v g h s =
    ap (λ (l : List Stack). multiplied v l >>= λ v'. weighed 0 (sorted g.positive) v' >>= λ v''. weighed 0 (sorted g.negative) v'') s.unpenalized
    ∙ ap (λ (f : Float → Step). multiplied v h.unpenalized >>= λ v'. weighed 0 (sorted g.positive) v' >>= f) (λ i v''. weighed-sorted 0 g.negative h.negative v'' s.negative i)
    ∙ ap (λ (f : Float → Step). multiplied v h.unpenalized >>= λ v'. f v' >>= λ v''. weighed 0 (sorted h.negative) v'') (λ i v'. weighed-sorted 0 g.positive h.positive v' s.positive i)

pub applied_same : (high : Bool) (op : EffectOperator) (v : Float) (g h : Values) → Same g h → applied high op v g ≡ applied high op v h
unfolding applied
applied_same high PreAssign v g h s = ap (λ (l : List Stack). Some (assigned high v l)) s.unpenalized
applied_same high PreMul v g h s = factored_same v g h s
applied_same high PreDiv v g h s = factored_same v g h s
applied_same high ModAdd v g h s = ap (added v) s.unpenalized
applied_same high ModSub v g h s = ap (added v) s.unpenalized
applied_same high PostMul v g h s = factored_same v g h s
applied_same high PostDiv v g h s = factored_same v g h s
applied_same high PostPercent v g h s = factored_same v g h s
applied_same high PostAssign v g h s = ap (λ (l : List Stack). Some (assigned high v l)) s.unpenalized

-- one value more
pub stack_same : (x : Float) (n : ℕ) (g h : Values) → Same g h → Same (with_stack x n g) (with_stack x n h)
stack_same x zero g h s = s
stack_same x (suc n) g h s =
    record {
      unpenalized = ap (λ (l : List Stack). l ++ (record { value = x; quantity = suc n } ∷ [])) s.unpenalized;
      positive = s.positive;
      negative = s.negative;
    }

more_strengths : (l k : List Copy) (x y : Copy) → x.value ≡ y.value → strengths l ≡ strengths k → strengths (l ++ (x ∷ [])) ≡ strengths (k ++ (y ∷ []))
more_strengths l k x y e h =
    map_snoc (λ z. z.value) l x ∙ ap₂ (λ (s : List Float) (v : Float). s ++ (v ∷ [])) h e ∙ sym (map_snoc (λ z. z.value) k y)

pub copy_same : (t : Bool) (x y : Copy) (g h : Values) → x.value ≡ y.value → Same g h → Same (with_copy t x g) (with_copy t y h)
copy_same true x y g h e s =
    record { unpenalized = s.unpenalized; positive = s.positive; negative = more_strengths g.negative h.negative x y e s.negative }
copy_same false x y g h e s =
    record { unpenalized = s.unpenalized; positive = more_strengths g.positive h.positive x y e s.positive; negative = s.negative }
