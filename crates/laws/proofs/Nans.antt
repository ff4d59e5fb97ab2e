-- Laws of nans: a store lowers the count or keeps it, and what the count says of the elements.
use Prim.Native.Nat.{ℕ, zero, suc, ◌<◌}
use native.Mathlib.Nat.{not-suc-le-zero, le_of_suc-le-suc}
use mathlib.Core.Path.{◌≡◌, refl, sym, ap, subst, ◌∙◌}
use mathlib.Core.Bool.{Bool, true, false, not}
use mathlib.Core.List.{List, [], ◌∷◌}
use lib.ListN.{length, get_or, set}
use lib.Dec.{T}
use lib.Ieee.{Float, nan, inf, fin, eq, ne}
use lib.Ieee.Compare.{differs_from_itself, nan_differs}
use Rattle.laws.specs.Floats.{nans, finite}
use Rattle.laws.proofs.Bools.{both_ways, not-not, same_test}

-- whether x is NaN
abbrev pub nan? : Float → Bool
nan? nan = true
nan? (inf s) = false
nan? (fin s m e) = false

pub is_nan : (x : Float) → nan? x ≡ true → x ≡ nan
is_nan nan e = refl
is_nan (inf s) e = both_ways e refl
is_nan (fin s m e') e = both_ways e refl

-- the code's test for NaN: x != x, and x == x
pub ne_self : (x : Float) → ne x x ≡ nan? x
ne_self x =
    same_test (ne x x) (nan? x) (λ e. ap nan? (differs_from_itself x (subst T (sym e) tt))) (λ e. ap (λ (y : Float). ne y y) (is_nan x e) ∙ nan_differs)

pub eq_self : (x : Float) → eq x x ≡ not (nan? x)
unfolding ne
eq_self x = sym (not-not (eq x x)) ∙ ap not (ne_self x)

pub finite-not-nan : (x : Float) → finite x ≡ true → nan? x ≡ false
unfolding finite
finite-not-nan nan e = sym e
finite-not-nan (inf s) e = refl
finite-not-nan (fin s m k) e = refl

-- how many are NaN, by the test of the first
count : Bool → ℕ → ℕ
count true n = suc n
count false n = n

nans_cons : (x : Float) (r : List Float) → nans (x ∷ r) ≡ count (nan? x) (nans r)
unfolding nans count
nans_cons nan r = refl
nans_cons (inf s) r = refl
nans_cons (fin s m e) r = refl

pub nans-nan : (x : Float) (r : List Float) → nan? x ≡ true → nans (x ∷ r) ≡ suc (nans r)
unfolding count
nans-nan x r e = nans_cons x r ∙ ap (λ (t : Bool). count t (nans r)) e

pub nans_other : (x : Float) (r : List Float) → nan? x ≡ false → nans (x ∷ r) ≡ nans r
unfolding count
nans_other x r e = nans_cons x r ∙ ap (λ (t : Bool). count t (nans r)) e

under : (t : Bool) (m n : ℕ) → suc m ≡ n → suc (count t m) ≡ count t n
unfolding count
under true m n e = ap suc e
under false m n e = e

-- a NaN becomes another: one less
pub nans_set_less : (l : List Float) (i : ℕ) (v d : Float) → i < length l → nan? (get_or l i d) ≡ true → nan? v ≡ false → suc (nans (set l i v)) ≡ nans l
nans_set_less [] i v d h e n = absurd (not-suc-le-zero h)
nans_set_less (x ∷ r) zero v d h e n = ap suc (nans_other v r n) ∙ sym (nans-nan x r e)
nans_set_less (x ∷ r) (suc i) v d h e n =
    ap suc (nans_cons x (set r i v)) ∙ under (nan? x) (nans (set r i v)) (nans r) (nans_set_less r i v d (le_of_suc-le-suc h) e n) ∙ sym (nans_cons x r)
