-- The 32 bits of a signed number.
use Rattle.std.proofs.Common.{◌≡◌, ◌^◌, ◌<◌, ℤ, ap, w32, to_z, of_z}
use lib.Signed.{mag}
use mir.ValLaws.{to_z-of_z}

-- a signed number as a variable holds it
pub stored : (x : ℤ) → mag x < 2 ^ 31 → of_z w32 (to_z w32 (of_z w32 x)) ≡ of_z w32 x
stored x h = ap (of_z w32) (to_z-of_z w32 x (record { sfits = h }))
