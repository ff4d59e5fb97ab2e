-- Inside, clear of each other and together as long as the pool: exactly then each row of the pool is in exactly one.
use Prim.Native.Nat.{ℕ, zero, suc, ◌+◌, ◌-◌, ◌≤◌, ◌<◌, max, min}
use native.Mathlib.Omega.{arith}
use native.Mathlib.Nat.{zero-add}
use mathlib.Core.Path.{◌≡◌, refl, sym, ap, ◌∙◌, subst}
use mathlib.Core.Bool.{Bool, true, false, ◌&&◌, ◌||◌, not}
use mathlib.Core.List.{List, [], ◌∷◌}
use lib.Dec.{leb, ltb, eqb}
use borrow.Author.Tests.{leb-true, leb-false, ltb-true, ltb-false, eqb-true, eqb-false, eq-eqb, le-leb, lt-ltb}
use Rattle.laws.specs.Lists.{every?, from}
use Rattle.laws.proofs.Bools.{and_left, and_right, and_both, same_test, both_ways}
use Rattle.laws.proofs.Every.{every_at, every_by}
use Rattle.laws.proofs.From.{from_at, from-length}
use Rattle.free_table.specs.declared.Stretch.{Stretch}
use Rattle.seats.specs.Tiling.{end_of, holds, one, how_many, inside, tiled, lengths}
use Rattle.seats.specs.Tests.{overlaps, clear_of, tested}

-- ---- tests as facts

module _ (i : ℕ) (s : Stretch) where
  pub in_by : s.start ≤ i → i < end_of s → holds i s ≡ true
  in_by h k = and_both (le-leb s.start i h) (lt-ltb i (end_of s) k)

  pub in_low : holds i s ≡ true → s.start ≤ i
  in_low h = leb-true s.start i (and_left (leb s.start i) (ltb i (end_of s)) h)

  pub in_high : holds i s ≡ true → i < end_of s
  in_high h = ltb-true i (end_of s) (and_right (leb s.start i) (ltb i (end_of s)) h)

-- a row in both is an overlap
pub meets : (i : ℕ) (s t : Stretch) → holds i s ≡ true → holds i t ≡ true → overlaps s t ≡ true
meets i s t h k = lt-ltb (max s.start t.start) (min (end_of s) (end_of t)) (omega (arith, in_low i s h, in_high i s h, in_low i t k, in_high i t k))

-- ---- sums over the rows below n

abbrev sum_to : (ℕ → ℕ) → ℕ → ℕ
sum_to f zero = 0
sum_to f (suc n) = f n + sum_to f n

sum_none : (n : ℕ) → sum_to (λ i. 0) n ≡ 0
sum_none zero = refl
sum_none (suc n) = let h = sum_none n in omega (arith, h)

sum-add : (f g : ℕ → ℕ) (n : ℕ) → sum_to (λ i. f i + g i) n ≡ sum_to f n + sum_to g n
sum-add f g zero = refl
sum-add f g (suc n) = let h = sum-add f g n in omega (arith, h)

-- each at most 1
at_most : (f : ℕ → ℕ) (n : ℕ) → ((i : ℕ) → i < n → f i ≤ 1) → sum_to f n ≤ n
at_most f zero h = omega arith
at_most f (suc n) h = let a = h n (omega arith) in let b = at_most f n (λ i l. h i (omega (arith, l))) in omega (arith, a, b)

-- and as many as rows: each 1
all_one : (f : ℕ → ℕ) (n : ℕ) → ((i : ℕ) → i < n → f i ≤ 1) → sum_to f n ≡ n → (i : ℕ) → i < n → f i ≡ 1
all_one f zero h e i l = omega (arith, l)
all_one f (suc n) h e i l = by (eqb i n) refl (λ m. all_one f n (λ j k. h j (omega (arith, k))) rest i m)
  where
    last : f n ≡ 1
    last = let a = h n (omega arith) in let b = at_most f n (λ j k. h j (omega (arith, k))) in omega (arith, a, b, e)

    rest : sum_to f n ≡ n
    rest = omega (arith, e, last)

    by : (t : Bool) → eqb i n ≡ t → (i < n → f i ≡ 1) → f i ≡ 1
    by true q m = ap f (eqb-true i n q) ∙ last
    by false q m = m (let z = eqb-false i n q in omega (arith, l, z))

ones : (f : ℕ → ℕ) (n : ℕ) → ((i : ℕ) → i < n → f i ≡ 1) → sum_to f n ≡ n
ones f zero h = refl
ones f (suc n) h = let a = h n (omega arith) in let b = ones f n (λ i l. h i (omega (arith, l))) in omega (arith, a, b)

-- ---- a stretch's rows below n

one_of : (n : ℕ) (s : Stretch) (t u : Bool) → leb s.start n ≡ t → ltb n (end_of s) ≡ u → one (holds n s) ≡ one (t && u)
one_of n s t u e f = rw (e, f) refl

sum-holds : (s : Stretch) (n : ℕ) → sum_to (λ i. one (holds i s)) n ≡ min (n - s.start) s.length
sum-holds s zero = omega arith
sum-holds s (suc n) = by (leb s.start n) (ltb n (end_of s)) refl refl (sum-holds s n)
  where
    by : (t u : Bool) → leb s.start n ≡ t → ltb n (end_of s) ≡ u → sum_to (λ i. one (holds i s)) n ≡ min (n - s.start) s.length
        → one (holds n s) + sum_to (λ i. one (holds i s)) n ≡ min (suc n - s.start) s.length
    by true true e f g = let a = leb-true s.start n e in let b = ltb-true n (end_of s) f in let c : one (holds n s) ≡ 1 = one_of n s true true e f in omega (arith, a, b, c, g)
    by true false e f g = let a = leb-true s.start n e in let b = ltb-false n (end_of s) f in let c : one (holds n s) ≡ 0 = one_of n s true false e f in omega (arith, a, b, c, g)
    by false u e f g = let a = leb-false s.start n e in let c : one (holds n s) ≡ 0 = one_of n s false u e f in omega (arith, a, c, g)

-- inside, it has all its rows
full : (n : ℕ) (s : Stretch) → inside n s ≡ true → min (n - s.start) s.length ≡ s.length
full n s h = by (eqb s.length 0) refl h
  where
    by : (t : Bool) → eqb s.length 0 ≡ t → t || leb (end_of s) n ≡ true → min (n - s.start) s.length ≡ s.length
    by true e k = let z = eqb-true s.length 0 e in omega (arith, z)
    by false e k = let z = leb-true (end_of s) n k in omega (arith, z)

sum_many : (n : ℕ) (ss : List Stretch) → every? (inside n) ss ≡ true → sum_to (λ i. how_many i ss) n ≡ lengths ss
sum_many n [] h = sum_none n
sum_many n (s ∷ r) h =
    let a = sum-add (λ i. one (holds i s)) (λ i. how_many i r) n in
    let b = sum-holds s n ∙ full n s (and_left (inside n s) (every? (inside n) r) h) in
    let c = sum_many n r (and_right (inside n s) (every? (inside n) r) h) in omega (arith, a, b, c)

-- ---- clear of each other: no row is in two

pub none_too : (i : ℕ) (s : Stretch) → holds i s ≡ true → (r : List Stretch) → every? (λ t. not (overlaps s t)) r ≡ true → how_many i r ≡ 0
none_too i s h [] k = refl
none_too i s h (t ∷ r) k = by (holds i t) refl (none_too i s h r (and_right (not (overlaps s t)) (every? (λ u. not (overlaps s u)) r) k))
  where
    clear : not (overlaps s t) ≡ true
    clear = and_left (not (overlaps s t)) (every? (λ u. not (overlaps s u)) r) k

    by : (u : Bool) → holds i t ≡ u → how_many i r ≡ 0 → one (holds i t) + how_many i r ≡ 0
    by false e rest = let z : one (holds i t) ≡ 0 = ap one e in omega (arith, z, rest)
    by true e rest = both_ways {X = one (holds i t) + how_many i r ≡ 0} clear (ap not (meets i s t h e))

pub clear_one : (i : ℕ) (ss : List Stretch) → clear_of ss ≡ true → how_many i ss ≤ 1
clear_one i [] h = omega arith
clear_one i (s ∷ r) h = by (holds i s) refl (clear_one i r (and_right (every? (λ t. not (overlaps s t)) r) (clear_of r) h))
  where
    by : (u : Bool) → holds i s ≡ u → how_many i r ≤ 1 → one (holds i s) + how_many i r ≤ 1
    by false e b = let a : one (holds i s) ≡ 0 = ap one e in omega (arith, a, b)
    by true e c = let a : one (holds i s) ≡ 1 = ap one e in let b = none_too i s e r (and_left (every? (λ t. not (overlaps s t)) r) (clear_of r) h) in omega (arith, a, b)

-- ---- and back: no row in two, so they are clear of each other

pub inside-row : (n i : ℕ) (s : Stretch) → inside n s ≡ true → holds i s ≡ true → i < n
inside-row n i s h k = by (eqb s.length 0) refl h
  where
    by : (t : Bool) → eqb s.length 0 ≡ t → t || leb (end_of s) n ≡ true → i < n
    by true e j = let z = eqb-true s.length 0 e in omega (arith, z, in_low i s k, in_high i s k)
    by false e j = let z = leb-true (end_of s) n j in omega (arith, z, in_high i s k)

pub clear_from_lem : (n : ℕ) (s : Stretch) → inside n s ≡ true → (r : List Stretch) → ((i : ℕ) → i < n → holds i s ≡ true → how_many i r ≡ 0) → every? (λ t. not (overlaps s t)) r ≡ true
clear_from_lem n s h [] k = refl
clear_from_lem n s h (t ∷ r) k = and_both (by (overlaps s t) refl) (clear_from_lem n s h r (λ i l j. let a = k i l j in omega (arith, a)))
  where
    by : (u : Bool) → overlaps s t ≡ u → not (overlaps s t) ≡ true
    by false e = ap not e
    by true e =
        let low = ltb-true (max s.start t.start) (min (end_of s) (end_of t)) e in
        let in-s = in_by (max s.start t.start) s (omega (arith, low)) (omega (arith, low)) in
        let in-t : one (holds (max s.start t.start) t) ≡ 1 = ap one (in_by (max s.start t.start) t (omega (arith, low)) (omega (arith, low))) in
        let none = k (max s.start t.start) (inside-row n (max s.start t.start) s h in-s) in-s in
        absurd (omega (arith, in-t, none))

pub one_clear : (n : ℕ) (ss : List Stretch) → every? (inside n) ss ≡ true → ((i : ℕ) → i < n → how_many i ss ≤ 1) → clear_of ss ≡ true
one_clear n [] h k = refl
one_clear n (s ∷ r) h k =
    and_both
    (clear_from_lem n s (and_left (inside n s) (every? (inside n) r) h) r (λ i l j. let a = k i l in let b : one (holds i s) ≡ 1 = ap one j in omega (arith, a, b)))
    (one_clear n r (and_right (inside n s) (every? (inside n) r) h) (λ i l. let a = k i l in omega (arith, a)))

-- ---- the theorem

pub each_row : (n : ℕ) (p : ℕ → Bool) → every? p (from 0 n) ≡ true → (i : ℕ) → i < n → p i ≡ true
each_row n p h i l = subst (λ (k : ℕ). p k ≡ true) (from_at 0 n i 0 l ∙ zero-add i) (every_at p (from 0 n) i 0 h (subst (λ (k : ℕ). i < k) (sym (from-length 0 n)) l))

pub rows_by : (n : ℕ) (p : ℕ → Bool) → ((i : ℕ) → i < n → p i ≡ true) → every? p (from 0 n) ≡ true
rows_by n p h = every_by p (from 0 n) 0 (λ i l. let m : i < n = subst (λ (k : ℕ). i < k) (from-length 0 n) l in subst (λ (k : ℕ). p k ≡ true) (sym (from_at 0 n i 0 m ∙ zero-add i)) (h i m))

pub tested-tiled : (n : ℕ) (ss : List Stretch) → tested n ss ≡ tiled n ss
unfolding tested tiled
tested-tiled n ss = same_test (tested n ss) (tiled n ss) there back
  where
    there : tested n ss ≡ true → tiled n ss ≡ true
    there h =
        let ins = and_left (every? (inside n) ss) (clear_of ss && eqb (lengths ss) n) h in
        let two = and_right (every? (inside n) ss) (clear_of ss && eqb (lengths ss) n) h in
        let clear = and_left (clear_of ss) (eqb (lengths ss) n) two in
        let long = eqb-true (lengths ss) n (and_right (clear_of ss) (eqb (lengths ss) n) two) in
        and_both (rows_by n (λ i. eqb (how_many i ss) 1) (λ i l. eq-eqb (how_many i ss) 1 (all_one (λ j. how_many j ss) n (λ j k. clear_one j ss clear) (sum_many n ss ins ∙ long) i l))) ins

    back : tiled n ss ≡ true → tested n ss ≡ true
    back h =
        let ins = and_right (every? (λ i. eqb (how_many i ss) 1) (from 0 n)) (every? (inside n) ss) h in
        let rows = and_left (every? (λ i. eqb (how_many i ss) 1) (from 0 n)) (every? (inside n) ss) h in
        let just : (i : ℕ) → i < n → how_many i ss ≡ 1 = λ i l. eqb-true (how_many i ss) 1 (each_row n (λ j. eqb (how_many j ss) 1) rows i l) in
        and_both ins (and_both (one_clear n ss ins (λ i l. let a = just i l in omega (arith, a))) (eq-eqb (lengths ss) n (sym (sum_many n ss ins) ∙ ones (λ j. how_many j ss) n just)))

-- "Free rows plus the lengths of those admitted .. make the whole pool"
pub tiled-lengths : (n : ℕ) (ss : List Stretch) → tiled n ss ≡ true → lengths ss ≡ n
unfolding tested
tiled-lengths n ss h =
    let whole : tested n ss ≡ true = tested-tiled n ss ∙ h in
    eqb-true (lengths ss) n (and_right (clear_of ss) (eqb (lengths ss) n) (and_right (every? (inside n) ss) (clear_of ss && eqb (lengths ss) n) whole))
