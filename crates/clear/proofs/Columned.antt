-- A column that holds rows, cleared behind them, is the column of the definition.
use Prim.Native.Nat.{ℕ, ◌-◌, ◌≤◌}
use native.Mathlib.Omega.{arith}
use mathlib.Core.Path.{◌≡◌, refl, sym, ap, ◌∙◌}
use mathlib.Core.List.{List, [], ◌++◌, map}
use lib.ListN.{length, take, drop, replicate, length-map}
use lib.Seq.{take_at}
use Rattle.laws.specs.Columns.{column, Col}
use Rattle.laws.proofs.Laid.{column_none, column_length}
use Rattle.clear.specs.Ends.{cleared}

-- nothing stays
pub cleared_zeros : {B : Type 0} (z : B) (c : List B) → cleared z 0 c ≡ replicate (length c) z
unfolding cleared
cleared_zeros z c = ap (λ (k : ℕ). replicate k z) same
  where
    same : length c - 0 ≡ length c
    same = omega arith

module _ {R B : Type 0} (enc : R → B) (z : B) where
  -- rows laid over what was lent
  pub cleared_column : (xs : List R) {c₀ c : List B} (n : ℕ) → Col enc xs c₀ c → n ≡ length xs → cleared z n c ≡ column enc z xs (length c₀)
  unfolding cleared column
  cleared_column xs {c₀} {c} n K e = rw (K.long, K.is, take_at (map enc xs) (drop (length xs) c₀) n (length-map xs enc ∙ sym e), e) refl

  pub cleared-all : (c : List B) (n : ℕ) → n ≡ 0 → cleared z n c ≡ column enc z [] (length c)
  cleared-all c n e = rw e (cleared_zeros z c ∙ sym (column_none enc z (length c)))

  -- a column with zeros behind its rows stays as it is
  pub cleared_same : (xs : List R) {c : List B} (m n : ℕ) → c ≡ column enc z xs m → n ≡ length xs → length xs ≤ m → cleared z n c ≡ column enc z xs m
  unfolding cleared column
  cleared_same xs {c} m n k e h =
      ap (cleared z n) k ∙ rw (column_length enc z xs m h, take_at (map enc xs) (replicate (m - length xs) z) n (length-map xs enc ∙ sym e), e) refl
