-- A signed number's text, by its 32 bits.
use Prim.Native.Nat.{ℕ, suc, ◌-◌, ◌<◌, ◌≤◌}
use native.Mathlib.Omega.{arith}
use mathlib.Core.Path.{◌≡◌, refl, sym, ap, ◌∙◌}
use mathlib.Core.List.{◌∷◌}
use lib.IntN.{ℤ, negsuc}
use mir.Syntax.{w32}
use mir.Val.{to_z}
use mir.ValLaws.{to_z_pos}
use borrow.Author.Tests.{le-ltb}
use Rattle.rules.specs.Listing.{natural, integer}

pub integer-plain : (p : ℕ) {x : ℤ} → to_z w32 p ≡ x → p < 2147483648 → natural p ≡ integer x
unfolding integer
integer-plain p e h = sym (ap integer (sym e ∙ to_z_pos w32 p h))

complement : (p : ℕ) → 2147483648 ≤ p → to_z w32 p ≡ negsuc (4294967296 - suc p)
complement p h = rw (le-ltb p 2147483648 h) refl

pub integer-minus : (p : ℕ) {x : ℤ} → p < 4294967296 → to_z w32 p ≡ x → 2147483648 ≤ p → 45 ∷ natural (4294967296 - p) ≡ integer x
unfolding integer
integer-minus p f e h =
    sym (ap integer (sym e ∙ complement p h) ∙ ap (λ (n : ℕ). 45 ∷ natural n) (omega (arith, f)))
