-- Laws of counting: two ways to sum, what is kept of a flat list, and the one of a list that counts.
use Prim.Native.Nat.{ℕ, zero, suc, ◌+◌, ◌<◌, suc-le-suc, zero-le}
use native.Mathlib.Nat.{not-suc-le-zero, le_of_suc-le-suc}
use native.Mathlib.Omega.{arith}
use mathlib.Core.Path.{◌≡◌, refl, sym, ap, subst, ◌∙◌}
use mathlib.Core.Bool.{Bool, true, false, ◌&&◌, ◌||◌}
use mathlib.Core.List.{List, [], ◌∷◌, ◌++◌, map}
use mathlib.Core.Logic.{◌⊎◌, inl, inr}
use lib.IntN.{ℤ}
use lib.ListN.{length}
use lib.Signed.{lt_z}
use Rattle.laws.specs.Lists.{eq_z, some?, every?, put, keep, flat, ascends, total}
use Rattle.laws.proofs.Ascending.{ascends_head, ascends_tail}
use Rattle.laws.proofs.Bools.{both_ways, true_or_false, not-passed, and_left, and_right}
use Rattle.laws.proofs.Flat.{flat_append}
use Rattle.laws.proofs.Keep.{keep_append, keep_same, keep-keep, keep-nothing}
use Rattle.laws.proofs.Order.{eq_z_true, eq_z_sym, lt_z_apart}
use Rattle.rules.specs.Columns.{yes1}

-- ---- flat lists

pub keep-flat : {A B : Type 0} (p : B → Bool) (g : A → List B) (xs : List A) → keep p (flat g xs) ≡ flat (λ x. keep p (g x)) xs
keep-flat p g [] = refl
keep-flat {A} {B} p g (x ∷ xs) = keep_append p (g x) (flat g xs) ∙ ap (λ (l : List B). keep p (g x) ++ l) (keep-flat p g xs)

pub flat-flat : {A B C : Type 0} (g : B → List C) (h : A → List B) (xs : List A) → flat g (flat h xs) ≡ flat (λ x. flat g (h x)) xs
flat-flat g h [] = refl
flat-flat {A} {B} {C} g h (x ∷ xs) = flat_append g (h x) (flat h xs) ∙ ap (λ (l : List C). flat g (h x) ++ l) (flat-flat g h xs)

-- ---- what is kept, counted

-- tests that all fail
pub keep_failing : {A : Type 0} (p : A → Bool) → ((x : A) → p x ≡ false) → (xs : List A) → keep p xs ≡ []
keep_failing p h xs = keep_same p (λ x. false) h xs ∙ keep-nothing xs

yes-by : {A : Type 0} (b : Bool) (x : A) (xs : List A) (n : ℕ) → n ≡ length xs → yes1 b + n ≡ length (put b x xs)
yes-by true x xs n e = omega (arith, e)
yes-by false x xs n e = omega (arith, e)

pub yes_kept : {A : Type 0} (p : A → Bool) (xs : List A) → total (map (λ x. yes1 (p x)) xs) ≡ length (keep p xs)
yes_kept p [] = refl
yes_kept p (x ∷ xs) = yes-by (p x) x (keep p xs) (total (map (λ y. yes1 (p y)) xs)) (yes_kept p xs)

-- ---- by the one and by the other

module _ {A B : Type 0} (p : A → B → Bool) where
  more_by : (t : A) (ts : List A) (o : B) (os : List B) (b : Bool)
      → length (keep (λ x. p x o) ts) + total (map (λ x. length (keep (p x) os)) ts) ≡ total (map (λ x. length (keep (p x) (o ∷ os))) ts)
      → length (put b t (keep (λ x. p x o) ts)) + (length (keep (p t) os) + total (map (λ x. length (keep (p x) os)) ts)) ≡ length (put b o (keep (p t) os)) + total (map (λ x. length (keep (p x) (o ∷ os))) ts)
  more_by t ts o os true e = omega (arith, e)
  more_by t ts o os false e = omega (arith, e)

  more : (o : B) (os : List B) (ts : List A) → length (keep (λ x. p x o) ts) + total (map (λ x. length (keep (p x) os)) ts) ≡ total (map (λ x. length (keep (p x) (o ∷ os))) ts)
  more o os [] = refl
  more o os (t ∷ ts) = more_by t ts o os (p t o) (more o os ts)

  none : (ts : List A) → 0 ≡ total (map (λ x. length (keep (p x) [])) ts)
  none [] = refl
  none (t ∷ ts) = omega (arith, none ts)

  -- the two sums are one
  pub both_sums : (os : List B) (ts : List A) → total (map (λ o. length (keep (λ x. p x o) ts)) os) ≡ total (map (λ x. length (keep (p x) os)) ts)
  both_sums [] ts = none ts
  both_sums (o ∷ os) ts = ap (λ (n : ℕ). length (keep (λ x. p x o) ts) + n) (both_sums os ts) ∙ more o os ts

-- ---- ascending ids: one that is there stands there once

none_above : (a : ℤ) (l : List ℤ) → every? (lt_z a) l ≡ true → keep (eq_z a) l ≡ []
none_above a [] h = refl
none_above a (x ∷ l) h =
    ap (λ (b : Bool). put b x (keep (eq_z a) l)) (lt_z_apart a x (and_left (lt_z a x) (every? (lt_z a) l) h))
    ∙ none_above a l (and_right (lt_z a x) (every? (lt_z a) l) h)

once_by : (a x : ℤ) (l : List ℤ) → ascends (x ∷ l) ≡ true → eq_z a x || some? (eq_z a) l ≡ true → (eq_z a x ≡ true) ⊎ (eq_z a x ≡ false) → (some? (eq_z a) l ≡ true → length (keep (eq_z a) l) ≡ 1) → length (put (eq_z a x) x (keep (eq_z a) l)) ≡ 1
once_by a x l o m (inl h) i =
    ap (λ (b : Bool). length (put b x (keep (eq_z a) l))) h
    ∙ ap (λ (r : List ℤ). suc (length r)) (none_above a l (subst (λ (y : ℤ). every? (lt_z y) l ≡ true) (sym (eq_z_true a x h)) (ascends_head x l o)))
once_by a x l o m (inr h) i =
    ap (λ (b : Bool). length (put b x (keep (eq_z a) l))) h ∙ i (sym (ap (λ (b : Bool). b || some? (eq_z a) l) h) ∙ m)

once : (a : ℤ) (l : List ℤ) → ascends l ≡ true → some? (eq_z a) l ≡ true → length (keep (eq_z a) l) ≡ 1
once a [] o m = both_ways m refl
once a (x ∷ l) o m = once_by a x l o m (true_or_false (eq_z a x)) (λ s. once a l (ascends_tail x l o) s)

twice : (s t : Bool) → s ≡ t → s && t ≡ t
twice true t e = refl
twice false t e = e

-- of those that are a, which are t: one, if a is t
one-by : (t a : ℤ) (ids : List ℤ) → ascends ids ≡ true → some? (eq_z t) ids ≡ true → (eq_z a t ≡ true) ⊎ (eq_z a t ≡ false) → length (keep (λ x. eq_z x a && eq_z t x) ids) ≡ yes1 (eq_z a t)
one-by t a ids o m (inl e) =
    ap length (keep_same (λ x. eq_z x a && eq_z t x) (eq_z t) (λ x. twice (eq_z x a) (eq_z t x) (eq_z_sym x a ∙ ap (λ (y : ℤ). eq_z y x) (eq_z_true a t e))) ids)
    ∙ once t ids o m ∙ sym (ap yes1 e)
one-by t a ids o m (inr e) =
    ap length (keep_failing (λ x. eq_z x a && eq_z t x) (λ x. not-passed (eq_z x a && eq_z t x) (λ h. both_ways (same x h) e)) ids) ∙ sym (ap yes1 e)
  where
    same : (x : ℤ) → eq_z x a && eq_z t x ≡ true → eq_z a t ≡ true
    same x h =
        ap (λ (y : ℤ). eq_z y t) (sym (eq_z_true x a (and_left (eq_z x a) (eq_z t x) h))) ∙ eq_z_sym x t ∙ and_right (eq_z x a) (eq_z t x) h

pub one-id : (h : Bool) (t a : ℤ) (ids : List ℤ) → ascends ids ≡ true → (h ≡ true → some? (eq_z t) ids ≡ true) → length (keep (λ x. h && eq_z t x) (keep (λ x. eq_z x a) ids)) ≡ yes1 (h && eq_z a t)
one-id true t a ids o m = ap length (keep-keep (eq_z t) (λ x. eq_z x a) ids) ∙ one-by t a ids o (m refl) (true_or_false (eq_z a t))
one-id false t a ids o m = ap length (keep-nothing (keep (λ x. eq_z x a) ids))

-- over all ids, those on each are all of them
module _ {A : Type 0} (on : A → ℤ) (ids : List ℤ) (o : ascends ids ≡ true) where
  ones : (ts : List A) → every? (λ a. some? (eq_z a) ids) (map on ts) ≡ true → total (map (λ t. length (keep (eq_z (on t)) ids)) ts) ≡ length ts
  ones [] h = refl
  ones (t ∷ ts) h =
      let one : length (keep (eq_z (on t)) ids) ≡ 1 = once (on t) ids o (and_left (some? (eq_z (on t)) ids) (every? (λ a. some? (eq_z a) ids) (map on ts)) h) in
      let rest : total (map (λ x. length (keep (eq_z (on x)) ids)) ts) ≡ length ts = ones ts (and_right (some? (eq_z (on t)) ids) (every? (λ a. some? (eq_z a) ids) (map on ts)) h) in
      omega (arith, one, rest)

  pub spread_whole : (ts : List A) → every? (λ a. some? (eq_z a) ids) (map on ts) ≡ true → total (map (λ a. length (keep (λ t. eq_z (on t) a) ts)) ids) ≡ length ts
  spread_whole ts h = both_sums (λ t a. eq_z (on t) a) ids ts ∙ ones ts h
