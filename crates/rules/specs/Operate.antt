-- What one operator does to a value with the values it has gathered. 01, "Values", with `pass_3.rs`.
use Rattle.std.specs.Prelude.{ℕ, suc, Bool, true, false, cond, List, [], ◌∷◌, ◌++◌, pos, Float, Some}
use Rattle.std.specs.Float.{binary64}
use Rattle.std.specs.Float.Ieee.{neg, lt, of_int}
use Rattle.laws.specs.Floats.{one_f, smaller}
use Rattle.rules.specs.Number.{plus, minus, times, over, power, weight, ◌>>=◌}
use Rattle.rules.specs.Number.{Step}
use Rattle.rules.specs.declared.EffectOperator.{EffectOperator}
use Rattle.rules.specs.declared.EffectOperator.TheVariants.{PreAssign, PreMul, PreDiv, ModAdd, ModSub, PostMul, PostDiv, PostPercent, PostAssign}

-- an unpenalised value and its quantity
pub record Stack : Type 0 where
  pub value : Float
  pub quantity : ℕ

-- a penalised copy, and its place among the source rows of the attribute
pub record Copy : Type 0 where
  pub value : Float
  pub source : ℕ

-- `Values`: what one operator gathers, each in order of arrival
pub record Values : Type 0 where
  pub unpenalized : List Stack
  pub positive : List Copy
  pub negative : List Copy

-- 100.0
abbrev pub hundred_f : Float
hundred_f = of_int binary64 (pos 100)

-- "Simplify the values": what an operator makes of a source's value
unfoldable pub simplified : EffectOperator → Float → Step
simplified PreAssign v = Some v
simplified PreMul v = minus v one_f
simplified PreDiv v = over one_f v >>= λ q. minus q one_f
simplified ModAdd v = Some v
simplified ModSub v = Some (neg v)
simplified PostMul v = minus v one_f
simplified PostDiv v = over one_f v >>= λ q. minus q one_f
simplified PostPercent v = over v hundred_f
simplified PostAssign v = Some v

-- `OPERATOR_HAS_PENALTY`
abbrev pub has_penalty : EffectOperator → Bool
has_penalty PreAssign = false
has_penalty PreMul = true
has_penalty PreDiv = true
has_penalty ModAdd = false
has_penalty ModSub = false
has_penalty PostMul = true
has_penalty PostDiv = true
has_penalty PostPercent = true
has_penalty PostAssign = false

-- "Assign takes the last of equal greatest, or the first of equal least"
unfoldable pub greatest : Float → List Stack → Float
greatest v [] = v
greatest v (x ∷ r) = greatest (cond (lt x.value v) v x.value) r

-- "the first of equal least"
unfoldable pub least : Float → List Stack → Float
least v [] = v
least v (x ∷ r) = least (cond (lt x.value v) x.value v) r

-- the value stays where nothing is assigned
unfoldable pub assigned : Bool → Float → List Stack → Float
assigned high v [] = v
assigned high v (x ∷ r) = cond high (greatest x.value r) (least x.value r)

-- ModAdd and ModSub: each value times its quantity; "ModAdd 2, quantity 3, on 10: 16"
unfoldable pub added : Float → List Stack → Step
added v [] = Some v
added v (x ∷ r) = times x.value (of_int binary64 (pos x.quantity)) >>= λ y. plus v y >>= λ v'. added v' r

-- unpenalised factors: 1.0 + value, to the power of the quantity
unfoldable pub multiplied : Float → List Stack → Step
multiplied v [] = Some v
multiplied v (x ∷ r) = plus one_f x.value >>= λ y. power y x.quantity >>= λ z. times v z >>= λ v'. multiplied v' r

-- "stable order, greatest size first"
unfoldable pub place : Copy → List Copy → List Copy
place x [] = x ∷ []
place x (y ∷ r) = let rest = y ∷ place x r in cond (smaller x.value y.value) rest (x ∷ y ∷ r)

-- "stable order, greatest size first"
unfoldable pub sorted : List Copy → List Copy
sorted [] = []
sorted (x ∷ r) = place x (sorted r)

-- penalised copies from position p on: 1.0 + value * weight, each
-- "position p from 0 to 7 weighs 0.8691199808003974 to the power p times p, later ones 0.0"
unfoldable pub weighed : ℕ → List Copy → Float → Step
weighed p [] v = Some v
weighed p (x ∷ r) v = times x.value (weight p) >>= λ y. plus one_f y >>= λ z. times v z >>= λ v'. weighed (suc p) r v'

-- unpenalised ones, then "positives go first"
unfoldable pub factored : Float → Values → Step
factored v g = multiplied v g.unpenalized >>= λ v'. weighed 0 (sorted g.positive) v' >>= λ v''. weighed 0 (sorted g.negative) v''

-- "Apply the operator on the values": high tells whether high is good
unfoldable pub applied : Bool → EffectOperator → Float → Values → Step
applied high PreAssign v g = Some (assigned high v g.unpenalized)
applied high PreMul v g = factored v g
applied high PreDiv v g = factored v g
applied high ModAdd v g = added v g.unpenalized
applied high ModSub v g = added v g.unpenalized
applied high PostMul v g = factored v g
applied high PostDiv v g = factored v g
applied high PostPercent v g = factored v g
applied high PostAssign v g = Some (assigned high v g.unpenalized)
