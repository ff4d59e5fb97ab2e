-- Laws of sums and totals, and of the parts of flat that sums point at.
use Prim.Native.Nat.{ℕ, zero, suc, ◌+◌, ◌≤◌, ◌<◌}
use native.Mathlib.Nat.{add-zero, zero-add, add_assoc, not-suc-le-zero, le_of_suc-le-suc}
use native.Mathlib.Omega.{arith}
use mathlib.Core.Path.{◌≡◌, refl, sym, ap, ◌∙◌}
use mathlib.Core.List.{List, [], ◌∷◌, ◌++◌, map}
use lib.ListN.{length, take, drop, get_or}
use lib.Seq.{split_at}
use Rattle.laws.specs.Lists.{flat, span, total}
use Rattle.laws.specs.Columns.{sums}
use Rattle.laws.proofs.Maps.{take_next, map-take}
use Rattle.laws.proofs.Flat.{flat_append, flat-length}
use Rattle.laws.proofs.Spans.{span_between}

pub total_append : (xs ys : List ℕ) → total (xs ++ ys) ≡ total xs + total ys
total_append [] ys = sym (zero-add (total ys))
total_append (x ∷ xs) ys = omega (arith, total_append xs ys)

pub total_snoc : (xs : List ℕ) (x : ℕ) → total (xs ++ (x ∷ [])) ≡ total xs + x
total_snoc xs x = omega (arith, total_append xs (x ∷ []))

pub total-next : (xs : List ℕ) (i d : ℕ) → i < length xs → total (take (i + 1) xs) ≡ total (take i xs) + get_or xs i d
total-next xs i d h = ap total (take_next xs i d h) ∙ total_snoc (take i xs) (get_or xs i d)

-- a part of a list is no more than the whole
pub total-take : (n : ℕ) (xs : List ℕ) → total (take n xs) ≤ total xs
total-take zero xs = omega arith
total-take (suc n) [] = omega arith
total-take (suc n) (x ∷ xs) = omega (arith, total-take n xs)

pub sums-length : (a : ℕ) (cs : List ℕ) → length (sums a cs) ≡ length cs
sums-length a [] = refl
sums-length a (c ∷ r) = ap suc (sums-length (a + c) r)

pub sums_at : (a : ℕ) (cs : List ℕ) (k d : ℕ) → k < length cs → get_or (sums a cs) k d ≡ a + total (take k cs)
sums_at a [] k d h = absurd (not-suc-le-zero h)
sums_at a (c ∷ r) zero d h = sym (add-zero a)
sums_at a (c ∷ r) (suc k) d h = sums_at (a + c) r k d (le_of_suc-le-suc h) ∙ add_assoc a c (total (take k r))

pub sums_append : (a : ℕ) (cs ds : List ℕ) → sums a (cs ++ ds) ≡ sums a cs ++ sums (a + total cs) ds
sums_append a [] ds = ap (λ (n : ℕ). sums n ds) (sym (add-zero a))
sums_append a (c ∷ r) ds = ap (λ (l : List ℕ). a ∷ l) (sums_append (a + c) r ds ∙ ap (λ (n : ℕ). sums (a + c) r ++ sums n ds) (add_assoc a c (total r)))

pub sums_snoc : (a : ℕ) (cs : List ℕ) (c : ℕ) → sums a (cs ++ (c ∷ [])) ≡ sums a cs ++ ((a + total cs) ∷ [])
sums_snoc a cs c = sums_append a cs (c ∷ [])

pub sums_next : (a : ℕ) (cs : List ℕ) (i d : ℕ) → i < length cs → sums a (take (i + 1) cs) ≡ sums a (take i cs) ++ ((a + total (take i cs)) ∷ [])
sums_next a cs i d h = ap (sums a) (take_next cs i d h) ∙ sums_snoc a (take i cs) (get_or cs i d)

-- what f gave for element k stands behind all that it gave before
module _ {A B : Type 0} (f : A → List B) where
  pub flat_part : (xs : List A) (k : ℕ) (d : A) → k < length xs → span (length (flat f (take k xs))) (length (f (get_or xs k d))) (flat f xs) ≡ f (get_or xs k d)
  flat_part xs k d h =
      ap (λ (l : List B). span (length (flat f (take k xs))) (length (f (get_or xs k d))) l)
      (ap (flat f) (split_at xs k d h) ∙ flat_append f (take k xs) (get_or xs k d ∷ drop (suc k) xs))
      ∙ span_between (flat f (take k xs)) (f (get_or xs k d)) (flat f (drop (suc k) xs))

  -- and that is where the sum of the counts points
  pub part_start : (xs : List A) (k : ℕ) → length (flat f (take k xs)) ≡ total (take k (map (λ x. length (f x)) xs))
  part_start xs k = flat-length f (take k xs) ∙ ap total (map-take (λ x. length (f x)) k xs)
