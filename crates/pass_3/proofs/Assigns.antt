-- Operators that do not assign are applied alike, whether high is good or not.
use Prim.Native.Nat.{ℕ}
use native.Mathlib.Omega.{arith}
use mathlib.Core.Path.{◌≡◌, refl}
use mathlib.Core.Bool.{Bool, false}
use lib.Ieee.{Float}
use Rattle.rules.specs.Operate.{Values, applied}
use Rattle.rules.specs.declared.EffectOperator.{EffectOperator}
use Rattle.rules.specs.declared.EffectOperator.TheVariants.{PreAssign, PreMul, PreDiv, ModAdd, ModSub, PostMul, PostDiv, PostPercent, PostAssign}
use Rattle.pass_3.specs.Calls.{is_assign}

pub asks_nothing : (op : EffectOperator) → is_assign op ≡ false → (a b : Bool) (v : Float) (g : Values) → applied a op v g ≡ applied b op v g
unfolding applied
asks_nothing PreAssign e a b v g = let z : ◌≡◌ {A = ℕ} 0 1 = cc in absurd (omega arith)
asks_nothing PreMul e a b v g = refl
asks_nothing PreDiv e a b v g = refl
asks_nothing ModAdd e a b v g = refl
asks_nothing ModSub e a b v g = refl
asks_nothing PostMul e a b v g = refl
asks_nothing PostDiv e a b v g = refl
asks_nothing PostPercent e a b v g = refl
asks_nothing PostAssign e a b v g = let z : ◌≡◌ {A = ℕ} 0 1 = cc in absurd (omega arith)
