-- The order of rows, by object and then attribute.
use Prim.Native.Nat.{ℕ, zero, suc, ◌<◌}
use native.Mathlib.Nat.{not-suc-le-zero, le_of_suc-le-suc}
use native.Mathlib.Omega.{arith}
use mathlib.Core.Path.{◌≡◌, refl, ap, ◌∙◌}
use mathlib.Core.Bool.{Bool, true, false, ◌&&◌, cond}
use mathlib.Core.List.{List, [], ◌∷◌}
use lib.Dec.{eqb, ltb}
use lib.IntN.{ℤ}
use lib.ListN.{length, get_or}
use lib.Signed.{lt_z}
use borrow.Author.Tests.{eqb-true, eq-eqb, ne_eqb, ltb-true, lt-ltb}
use Rattle.laws.specs.Lists.{eq_z, every?}
use Rattle.laws.proofs.Bools.{and_left, and_right, and_false_right}
use Rattle.laws.proofs.Every.{every_at}
use Rattle.laws.proofs.Order.{lt_z_trans, lt_z_apart}
use Rattle.rules.specs.Dispatch.{Row}
use Rattle.reading.specs.Held.{is_before, is_of, row_before, ascending}

pub data Before (p : ℕ) (x : ℤ) (o : ℕ) (a : ℤ) : Type 0 where
  lower : p < o → Before p x o a
  level : p ≡ o → lt_z x a ≡ true → Before p x o a

tells : (p : ℕ) (x : ℤ) (o : ℕ) (a : ℤ) (t : Bool) → eqb p o ≡ t → cond t (lt_z x a) (ltb p o) ≡ true → Before p x o a
tells p x o a true e h = level (eqb-true p o e) h
tells p x o a false e h = lower (ltb-true p o h)

told : (p : ℕ) (x : ℤ) (o : ℕ) (a : ℤ) → is_before p x o a ≡ true → Before p x o a
told p x o a h = tells p x o a (eqb p o) refl h

pub tested : (p : ℕ) (x : ℤ) (o : ℕ) (a : ℤ) → Before p x o a → is_before p x o a ≡ true
tested p x o a (lower l) = ap (λ (t : Bool). cond t (lt_z x a) (ltb p o)) (ne_eqb p o (λ e. omega arith)) ∙ lt-ltb p o l
tested p x o a (level e h) = ap (λ (t : Bool). cond t (lt_z x a) (ltb p o)) (eq-eqb p o e) ∙ h

module _ (p : ℕ) (x : ℤ) (q : ℕ) (y : ℤ) (o : ℕ) (a : ℤ) where
  joined : Before p x q y → Before q y o a → Before p x o a
  joined (lower l) (lower m) = lower (omega arith)
  joined (lower l) (level e h) = lower (omega arith)
  joined (level e h) (lower m) = lower (omega arith)
  joined (level e h) (level f k) = level (e ∙ f) (lt_z_trans x y a h k)

  pub before_trans : is_before p x q y ≡ true → is_before q y o a ≡ true → is_before p x o a ≡ true
  before_trans h k = tested p x o a (joined (told p x q y h) (told q y o a k))

module _ (p : ℕ) (x : ℤ) (o : ℕ) (a : ℤ) where
  apart : Before p x o a → is_of p x o a ≡ false
  apart (lower l) = ap (λ (t : Bool). t && eq_z x a) (ne_eqb p o (λ e. omega arith))
  apart (level e h) = ap (λ (t : Bool). eqb p o && t) (lt_z_apart x a h) ∙ and_false_right (eqb p o)

  pub before-apart : is_before p x o a ≡ true → is_of p x o a ≡ false
  before-apart h = apart (told p x o a h)

-- a row stands before every later one
pub ascending_far : (rs : List Row) (d : Row) → ascending rs ≡ true → (i j : ℕ) → i < j → j < length rs
    → row_before (get_or rs j d).object (get_or rs j d).id (get_or rs i d) ≡ true
ascending_far [] d e i j l h = absurd (not-suc-le-zero h)
ascending_far (r ∷ rs) d e i zero l h = absurd (not-suc-le-zero l)
ascending_far (r ∷ rs) d e zero (suc j) l h =
    every_at (λ s. row_before s.object s.id r) rs j d (and_left (every? (λ s. row_before s.object s.id r) rs) (ascending rs) e) (le_of_suc-le-suc h)
ascending_far (r ∷ rs) d e (suc i) (suc j) l h =
    ascending_far rs d (and_right (every? (λ s. row_before s.object s.id r) rs) (ascending rs) e) i j (le_of_suc-le-suc l) (le_of_suc-le-suc h)
