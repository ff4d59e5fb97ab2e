-- What the machine's tests of two signed numbers say, at any width.
use mathlib.Core.Path.{◌≡◌, sym, ap, ◌∙◌}
use mathlib.Core.Bool.{true, false}
use lib.IntN.{ℤ}
use lib.Dec.{eqb}
use mir.Syntax.{Width}
use mir.Val.{SFits, of_z, to_z}
use mir.Facts.{to_z-of_z}
use borrow.Author.Tests.{eqb-true, eq-eqb}
use Rattle.laws.specs.Lists.{eq_z}
use Rattle.laws.proofs.Bools.{same_test}
use Rattle.laws.proofs.Order.{eq_z_true, eq_z_same, eq_z-apart}

module _ {w : Width} (a b : ℤ) (p : SFits w a) (q : SFits w b) where
  pub same_bits : of_z w a ≡ of_z w b → a ≡ b
  same_bits e = sym (to_z-of_z p) ∙ ap (to_z w) e ∙ to_z-of_z q

  -- what == said, as an equation or its denial
  pub tested_same : of_z w a ≡ of_z w b → eq_z a b ≡ true
  tested_same e = eq_z_same a b (same_bits e)

  pub tested-apart : (of_z w a ≡ of_z w b → ⊥) → eq_z a b ≡ false
  tested-apart n = eq_z-apart a b (λ e. n (ap (of_z w) e))

  -- the machine's == compares the bits
  pub eq_z-bits : eqb (of_z w a) (of_z w b) ≡ eq_z a b
  eq_z-bits =
      same_test (eqb (of_z w a) (of_z w b)) (eq_z a b) (λ e. tested_same (eqb-true (of_z w a) (of_z w b) e))
      (λ e. eq-eqb (of_z w a) (of_z w b) (ap (of_z w) (eq_z_true a b e)))
