-- Laws of keep: over appended lists, a loop's next element, maps, all and none.
use Prim.Native.Nat.{ℕ, suc, ◌+◌, ◌≤◌, ◌<◌}
use native.Mathlib.Omega.{arith}
use mathlib.Core.Path.{◌≡◌, refl, ap, ◌∙◌}
use mathlib.Core.Bool.{Bool, true, false, ◌&&◌}
use mathlib.Core.List.{List, [], ◌∷◌, ◌++◌, map}
use lib.ListN.{length, take, get_or}
use Rattle.laws.specs.Lists.{put, keep, some?, every?}
use Rattle.laws.proofs.Bools.{and_left, and_right, or_false_left, or_false_right}
use Rattle.laws.proofs.Maps.{take_next}

module _ {A : Type 0} where
  put_append : (t : Bool) (x : A) (xs ys : List A) → put t x (xs ++ ys) ≡ put t x xs ++ ys
  put_append true x xs ys = refl
  put_append false x xs ys = refl

  put_length : (t : Bool) (x : A) (xs : List A) → length (put t x xs) ≤ suc (length xs)
  put_length true x xs = omega arith
  put_length false x xs = omega arith

  module _ (p : A → Bool) where
    pub keep_append : (xs ys : List A) → keep p (xs ++ ys) ≡ keep p xs ++ keep p ys
    keep_append [] ys = refl
    keep_append (x ∷ xs) ys = ap (put (p x) x) (keep_append xs ys) ∙ put_append (p x) x (keep p xs) (keep p ys)

    pub keep_snoc : (xs : List A) (x : A) → keep p (xs ++ (x ∷ [])) ≡ keep p xs ++ put (p x) x []
    keep_snoc xs x = keep_append xs (x ∷ [])

    -- one more element of a loop; where it passes; where it fails
    pub keep-next : (xs : List A) (i : ℕ) (d : A) → i < length xs → keep p (take (i + 1) xs) ≡ keep p (take i xs) ++ put (p (get_or xs i d)) (get_or xs i d) []
    keep-next xs i d h = ap (keep p) (take_next xs i d h) ∙ keep_snoc (take i xs) (get_or xs i d)

    pub keep-length : (xs : List A) → length (keep p xs) ≤ length xs
    keep-length [] = omega arith
    keep-length (x ∷ xs) = omega (arith, put_length (p x) x (keep p xs), keep-length xs)

    pub keep_all : (xs : List A) → every? p xs ≡ true → keep p xs ≡ xs
    keep_all [] h = refl
    keep_all (x ∷ xs) h = rw (and_left (p x) (every? p xs) h) (ap (λ (l : List A). x ∷ l) (keep_all xs (and_right (p x) (every? p xs) h)))

    pub keep_none : (xs : List A) → some? p xs ≡ false → keep p xs ≡ []
    keep_none [] h = refl
    keep_none (x ∷ xs) h = rw (or_false_left (p x) (some? p xs) h) (keep_none xs (or_false_right (p x) (some? p xs) h))

    put_every : (t : Bool) (x : A) (xs : List A) → p x ≡ t → every? p xs ≡ true → every? p (put t x xs) ≡ true
    put_every true x xs e h = rw (e, h)
    put_every false x xs e h = h

    -- what was kept passes
    pub every_keep : (xs : List A) → every? p (keep p xs) ≡ true
    every_keep [] = refl
    every_keep (x ∷ xs) = put_every (p x) x (keep p xs) refl (every_keep xs)

  -- what holds of all holds of those that are kept
  put_holds : (p : A → Bool) (t : Bool) (x : A) (xs : List A) → p x ≡ true → every? p xs ≡ true → every? p (put t x xs) ≡ true
  put_holds p true x xs e h = rw (e, h)
  put_holds p false x xs e h = h

  pub every_kept : (p q : A → Bool) (xs : List A) → every? p xs ≡ true → every? p (keep q xs) ≡ true
  every_kept p q [] h = refl
  every_kept p q (x ∷ xs) h = put_holds p (q x) x (keep q xs) (and_left (p x) (every? p xs) h) (every_kept p q xs (and_right (p x) (every? p xs) h))

  -- tests that agree keep the same
  pub keep_same : (p q : A → Bool) → ((x : A) → p x ≡ q x) → (xs : List A) → keep p xs ≡ keep q xs
  keep_same p q e [] = refl
  keep_same p q e (x ∷ xs) = rw (e x, keep_same p q e xs) refl

  put_keep : (p : A → Bool) (t : Bool) (x : A) (xs : List A) → keep p (put t x xs) ≡ put (t && p x) x (keep p xs)
  put_keep p true x xs = refl
  put_keep p false x xs = refl

  pub keep-keep : (p q : A → Bool) (xs : List A) → keep p (keep q xs) ≡ keep (λ x. q x && p x) xs
  keep-keep p q [] = refl
  keep-keep p q (x ∷ xs) = put_keep p (q x) x (keep q xs) ∙ ap (put (q x && p x) x) (keep-keep p q xs)

module _ {A B : Type 0} (p : B → Bool) (f : A → B) where
  put_map : (t : Bool) (x : A) (xs : List A) → put t (f x) (map f xs) ≡ map f (put t x xs)
  put_map true x xs = refl
  put_map false x xs = refl

  pub keep-map : (xs : List A) → keep p (map f xs) ≡ map f (keep (λ x. p (f x)) xs)
  keep-map [] = refl
  keep-map (x ∷ xs) = ap (put (p (f x)) (f x)) (keep-map xs) ∙ put_map (p (f x)) x (keep (λ y. p (f y)) xs)

-- a test that nothing passes
pub keep-nothing : {A : Type 0} (xs : List A) → keep (λ x. false) xs ≡ []
keep-nothing [] = refl
keep-nothing (x ∷ xs) = keep-nothing xs
