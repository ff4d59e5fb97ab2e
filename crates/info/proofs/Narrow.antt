-- Numbers of 32 bits: what the definition reads and cuts has them.
use Prim.Native.Nat.{ℕ, suc, ◌-◌}
use native.Mathlib.Omega.{arith}
use mathlib.Core.Path.{◌≡◌, refl}
use mathlib.Core.Bool.{Bool, true, false}
use lib.Dec.{ltb}
use lib.IntN.{pos, negsuc}
use lib.Ieee.{Float}
use lib.Ieee.Casts.{to_signed_in}
use mir.Syntax.{w32}
use mir.Val.{SFits, sel}
use borrow.Author.Tests.{ltb-true, ltb-false}
use Rattle.rules.specs.Bytes.{signed}
use Rattle.rules.specs.Number.{cut}

-- whatever the number, its signed reading has 32 bits
selected : (n : ℕ) (t : Bool) → ltb n 2147483648 ≡ t → SFits w32 (sel t (pos n) (negsuc (4294967296 - suc n)))
selected n true e = record { sfits = omega (arith, ltb-true n 2147483648 e) }
selected n false e = record { sfits = omega (arith, ltb-false n 2147483648 e) }

pub signed_narrow : (n : ℕ) → SFits w32 (signed n)
signed_narrow n = selected n (ltb n 2147483648) refl

pub cut_narrow : (x : Float) → SFits w32 (cut x)
cut_narrow x = record { sfits = to_signed_in 31 x }
