-- The test for the same float, as an equation.
use Prim.Native.Nat.{ℕ}
use mathlib.Core.Path.{◌≡◌, refl, sym, ap, subst, ◌∙◌}
use mathlib.Core.Bool.{Bool, true, false, not, ◌&&◌}
use borrow.Author.Tests.{eqb-true, eq-eqb}
use lib.Dec.{eqb}
use lib.Ieee.{Float, nan, inf, fin}
use lib.IntN.{ℤ}
use Rattle.laws.specs.Lists.{eq_z}
use Rattle.laws.proofs.Bools.{both_ways, and_both, and_left, and_right}
use Rattle.laws.proofs.Order.{eq_z_true, eq_z_refl}
use Rattle.settled.specs.Lines.{same_sign, same_float}

sign_same : (s t : Bool) → same_sign s t ≡ true → s ≡ t
sign_same true t e = sym e
sign_same false true e = both_ways e refl
sign_same false false e = refl

sign_self : (s : Bool) → same_sign s s ≡ true
sign_self true = refl
sign_self false = refl

pub same_float_lem : (x y : Float) → same_float x y ≡ true → x ≡ y
same_float_lem nan nan e = refl
same_float_lem nan (inf t) e = both_ways e refl
same_float_lem nan (fin t n f) e = both_ways e refl
same_float_lem (inf s) nan e = both_ways e refl
same_float_lem (inf s) (inf t) e = ap inf (sign_same s t e)
same_float_lem (inf s) (fin t n f) e = both_ways e refl
same_float_lem (fin s m k) nan e = both_ways e refl
same_float_lem (fin s m k) (inf t) e = both_ways e refl
same_float_lem (fin s m k) (fin t n f) e =
    let rest = and_right (same_sign s t) (eqb m n && eq_z k f) e in
    made (sign_same s t (and_left (same_sign s t) (eqb m n && eq_z k f) e)) (eqb-true m n (and_left (eqb m n) (eq_z k f) rest)) (eq_z_true k f (and_right (eqb m n) (eq_z k f) rest))
  where
    made : {a b : Bool} {c d : ℕ} {g h : ℤ} → a ≡ b → c ≡ d → g ≡ h → fin a c g ≡ fin b d h
    made p q r = rw (p, q, r) refl

float_self : (x : Float) → same_float x x ≡ true
float_self nan = refl
float_self (inf s) = sign_self s
float_self (fin s m e) = and_both (sign_self s) (and_both (eq-eqb m m refl) (eq_z_refl e))

pub float_same : (x y : Float) → x ≡ y → same_float x y ≡ true
float_same x y e = subst (λ (z : Float). same_float x z ≡ true) e (float_self x)
