-- The sheet's codes and what they stand for. 01, "The sheet", its last paragraph, with `item.rs`.
use Rattle.std.specs.Prelude.{ℕ, zero, suc, Bool, List, [], ◌∷◌, eqb}
use Rattle.std.proofs.Math.Option.{Option, none, some}
use Rattle.rules.specs.declared.EffectCategory.{EffectCategory}
use Rattle.rules.specs.declared.EffectCategory.TheVariants as category
use Rattle.rules.specs.declared.ItemState.{ItemState}
use Rattle.rules.specs.declared.ItemState.TheVariants as state
use Rattle.rules.specs.declared.EffectOperator.{EffectOperator}
use Rattle.rules.specs.declared.EffectOperator.TheVariants.{PreAssign, PreMul, PreDiv, ModAdd, ModSub, PostMul, PostDiv, PostPercent, PostAssign}

-- the element at place n, where there is one
abbrev pub nth : {A : Type 0} → List A → ℕ → Option A
nth [] n = none
nth (x ∷ r) zero = some x
nth (x ∷ r) (suc n) = nth r n

-- "category 0 to 7 as `EffectCategory`"
abbrev pub categories : List EffectCategory
categories =
    category.Passive ∷ category.Online ∷ category.Active ∷ category.Overload
    ∷ category.Target ∷ category.Area ∷ category.Dungeon ∷ category.System ∷ []

-- "Codes, tested only when reached"
abbrev pub category_at : ℕ → Option EffectCategory
category_at code = nth categories code

-- "Codes are the sheet's"
abbrev pub category_code : EffectCategory → ℕ
category_code category.Passive = 0
category_code category.Online = 1
category_code category.Active = 2
category_code category.Overload = 3
category_code category.Target = 4
category_code category.Area = 5
category_code category.Dungeon = 6
category_code category.System = 7

-- "States 0 to 4 as in `ItemState`"
abbrev pub state_code : ItemState → ℕ
state_code state.Passive = 0
state_code state.Online = 1
state_code state.Active = 2
state_code state.Overload = 3
state_code state.AlwaysOn = 4

-- "operation 0 to 8 as `EffectOperator`"; values go through them in this order
abbrev pub operators : List EffectOperator
operators = PreAssign ∷ PreMul ∷ PreDiv ∷ ModAdd ∷ ModSub ∷ PostMul ∷ PostDiv ∷ PostPercent ∷ PostAssign ∷ []

-- "operation 0 to 8 as `EffectOperator`, 9 skipped"
abbrev pub operator_at : ℕ → Option EffectOperator
operator_at code = nth operators code

-- "Codes are the sheet's"
abbrev pub operator_code : EffectOperator → ℕ
operator_code PreAssign = 0
operator_code PreMul = 1
operator_code PreDiv = 2
operator_code ModAdd = 3
operator_code ModSub = 4
operator_code PostMul = 5
operator_code PostDiv = 6
operator_code PostPercent = 7
operator_code PostAssign = 8

abbrev pub same_operator : EffectOperator → EffectOperator → Bool
same_operator a b = eqb (operator_code a) (operator_code b)
