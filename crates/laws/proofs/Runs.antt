-- A run: all that pass a test stand side by side.
use Prim.Native.Nat.{ℕ, ◌+◌, ◌-◌, ◌≤◌, ◌<◌}
use native.Mathlib.Omega.{arith}
use mathlib.Core.Path.{◌≡◌, ap, ◌∙◌}
use mathlib.Core.Bool.{Bool, true, false}
use mathlib.Core.List.{List, [], ◌++◌, append-nil}
use lib.ListN.{length, get_or, take, drop, length-drop}
use lib.Seq.{length-take-le, get_or-take, get_or-drop}
use Rattle.laws.specs.Lists.{keep, span}
use Rattle.laws.proofs.Every.{every_by, none_by}
use Rattle.laws.proofs.Keep.{keep_append, keep_all, keep_none}
use Rattle.laws.proofs.Spans.{span_length, span_at, span_split}

-- all that pass a test stand from lo to hi
module _ {A : Type 0} (p : A → Bool) (xs : List A) (d : A) (lo hi : ℕ) (l : lo ≤ hi) (h : hi ≤ length xs) where
  front : ((i : ℕ) → i < lo → p (get_or xs i d) ≡ false) → keep p (take lo xs) ≡ []
  front u = keep_none p (take lo xs) (none_by p (take lo xs) d (λ i k. at i (rw (length-take-le lo xs (omega arith)) at k)))
    where
      at : (i : ℕ) → i < lo → p (get_or (take lo xs) i d) ≡ false
      at i k = ap p (get_or-take lo xs i d k) ∙ u i k

  middle : ((i : ℕ) → lo ≤ i → i < hi → p (get_or xs i d) ≡ true) → keep p (span lo (hi - lo) xs) ≡ span lo (hi - lo) xs
  middle v =
      keep_all p (span lo (hi - lo) xs) (every_by p (span lo (hi - lo) xs) d (λ i k. at i (rw (span_length lo (hi - lo) xs (omega arith)) at k)))
    where
      at : (i : ℕ) → i < hi - lo → p (get_or (span lo (hi - lo) xs) i d) ≡ true
      at i k = ap p (span_at lo (hi - lo) xs i d k) ∙ v (lo + i) (omega arith) (omega arith)

  back : ((i : ℕ) → hi ≤ i → i < length xs → p (get_or xs i d) ≡ false) → keep p (drop hi xs) ≡ []
  back w = keep_none p (drop hi xs) (none_by p (drop hi xs) d (λ i k. at i (rw (length-drop hi xs) at k)))
    where
      at : (i : ℕ) → i < length xs - hi → p (get_or (drop hi xs) i d) ≡ false
      at i k = ap p (get_or-drop hi xs i d) ∙ w (hi + i) (omega arith) (omega arith)

  pub keep_run : ((i : ℕ) → i < lo → p (get_or xs i d) ≡ false) → ((i : ℕ) → lo ≤ i → i < hi → p (get_or xs i d) ≡ true) → ((i : ℕ) → hi ≤ i → i < length xs → p (get_or xs i d) ≡ false) → keep p xs ≡ span lo (hi - lo) xs
  keep_run u v w =
      ap (keep p) (span_split lo (hi - lo) xs) ∙ keep_append p (take lo xs) (span lo (hi - lo) xs ++ drop (lo + (hi - lo)) xs)
      ∙ rw (front u, keep_append p (span lo (hi - lo) xs) (drop (lo + (hi - lo)) xs), middle v, there, back w) (append-nil (span lo (hi - lo) xs))
    where
      there : lo + (hi - lo) ≡ hi
      there = omega arith
