-- Codes and what they stand for: there and back, and none past the last.
use Prim.Native.Nat.{ℕ, zero, suc, ◌≤◌}
use native.Mathlib.Nat.{not-suc-le-zero, le_of_suc-le-suc}
use native.Mathlib.Omega.{arith}
use mathlib.Core.Path.{◌≡◌, refl}
use mathlib.Core.List.{List, [], ◌∷◌}
use mathlib.Core.Option.{none, some}
use lib.ListN.{length}
use Rattle.rules.specs.Codes.{nth, category_at, category_code, operator_at, operator_code}
use Rattle.rules.specs.declared.EffectCategory.{EffectCategory}
use Rattle.rules.specs.declared.EffectCategory.TheVariants.{Passive, Online, Active, Overload, Target, Area, Dungeon, System}
use Rattle.rules.specs.declared.EffectOperator.{EffectOperator}
use Rattle.rules.specs.declared.EffectOperator.TheVariants.{PreAssign, PreMul, PreDiv, ModAdd, ModSub, PostMul, PostDiv, PostPercent, PostAssign}

pub nth_past : {A : Type 0} (l : List A) (n : ℕ) → length l ≤ n → nth l n ≡ none
nth_past [] n h = refl
nth_past (x ∷ l) zero h = absurd (not-suc-le-zero h)
nth_past (x ∷ l) (suc n) h = nth_past l n (le_of_suc-le-suc h)

-- n is none of 0, .., k - 1: what the last arm of a match knows
abbrev pub Rest : ℕ → ℕ → Type 0
Rest n zero = Unit
Rest n (suc k) = Rest n k × (n ≡ k → ⊥)

past_one : (n k : ℕ) → k ≤ n → (n ≡ k → ⊥) → suc k ≤ n
past_one n k h d = omega arith

pub past_all : (n k : ℕ) → Rest n k → k ≤ n
past_all n zero r = omega arith
past_all n (suc k) r = past_one n k (past_all n k r.0) r.1

pub category_back : (c : EffectCategory) → category_at (category_code c) ≡ some c
category_back Passive = refl
category_back Online = refl
category_back Active = refl
category_back Overload = refl
category_back Target = refl
category_back Area = refl
category_back Dungeon = refl
category_back System = refl

pub operator_back : (o : EffectOperator) → operator_at (operator_code o) ≡ some o
operator_back PreAssign = refl
operator_back PreMul = refl
operator_back PreDiv = refl
operator_back ModAdd = refl
operator_back ModSub = refl
operator_back PostMul = refl
operator_back PostDiv = refl
operator_back PostPercent = refl
operator_back PostAssign = refl
