-- Laws of every? and some?: over appended lists, a loop's next element, maps, and by index.
use Prim.Native.Nat.{ℕ, zero, suc, ◌+◌, ◌<◌}
use native.Mathlib.Nat.{not-suc-le-zero, le_of_suc-le-suc}
use Prim.Native.Nat.{suc-le-suc, zero-le}
use mathlib.Core.Path.{◌≡◌, refl, sym, ap, ◌∙◌}
use mathlib.Core.Bool.{Bool, true, false, not, ◌&&◌, ◌||◌}
use mathlib.Core.List.{List, [], ◌∷◌, ◌++◌, map}
use lib.ListN.{length, take, drop, get_or}
use Rattle.laws.specs.Lists.{some?, every?, flat}
use Rattle.laws.proofs.Bools.{and_left, and_right, and_both, and_assoc, and_true_right, or_false_left, or_false_right, or_assoc, or_none_right, or_true_right, both_ways}
use Rattle.laws.proofs.Maps.{take_next}

module _ {A : Type 0} (p : A → Bool) where
  pub every_append : (xs ys : List A) → every? p (xs ++ ys) ≡ every? p xs && every? p ys
  every_append [] ys = refl
  every_append (x ∷ xs) ys = ap (λ (t : Bool). p x && t) (every_append xs ys) ∙ sym (and_assoc (p x) (every? p xs) (every? p ys))

  pub some_append : (xs ys : List A) → some? p (xs ++ ys) ≡ some? p xs || some? p ys
  some_append [] ys = refl
  some_append (x ∷ xs) ys = ap (λ (t : Bool). p x || t) (some_append xs ys) ∙ sym (or_assoc (p x) (some? p xs) (some? p ys))

  pub every_snoc : (xs : List A) (x : A) → every? p (xs ++ (x ∷ [])) ≡ every? p xs && p x
  every_snoc xs x = every_append xs (x ∷ []) ∙ ap (λ (t : Bool). every? p xs && t) (and_true_right (p x))

  pub some_snoc : (xs : List A) (x : A) → some? p (xs ++ (x ∷ [])) ≡ some? p xs || p x
  some_snoc xs x = some_append xs (x ∷ []) ∙ ap (λ (t : Bool). some? p xs || t) (or_none_right (p x))

  -- one more element of a loop
  pub some_next : (xs : List A) (i : ℕ) (d : A) → i < length xs → some? p (take (i + 1) xs) ≡ some? p (take i xs) || p (get_or xs i d)
  some_next xs i d h = ap (some? p) (take_next xs i d h) ∙ some_snoc (take i xs) (get_or xs i d)

  -- every one passes: the one at i does; and back
  pub every_at : (xs : List A) (i : ℕ) (d : A) → every? p xs ≡ true → i < length xs → p (get_or xs i d) ≡ true
  every_at [] i d e h = absurd (not-suc-le-zero h)
  every_at (x ∷ xs) zero d e h = and_left (p x) (every? p xs) e
  every_at (x ∷ xs) (suc i) d e h = every_at xs i d (and_right (p x) (every? p xs) e) (le_of_suc-le-suc h)

  pub every_by : (xs : List A) (d : A) → ((i : ℕ) → i < length xs → p (get_or xs i d) ≡ true) → every? p xs ≡ true
  every_by [] d f = refl
  every_by (x ∷ xs) d f = and_both (f zero (suc-le-suc zero-le)) (every_by xs d (λ i h. f (suc i) (suc-le-suc h)))

  -- none passes: the one at i fails; and back
  pub none_at : (xs : List A) (i : ℕ) (d : A) → some? p xs ≡ false → i < length xs → p (get_or xs i d) ≡ false
  none_at [] i d e h = absurd (not-suc-le-zero h)
  none_at (x ∷ xs) zero d e h = or_false_left (p x) (some? p xs) e
  none_at (x ∷ xs) (suc i) d e h = none_at xs i d (or_false_right (p x) (some? p xs) e) (le_of_suc-le-suc h)

  pub none_by : (xs : List A) (d : A) → ((i : ℕ) → i < length xs → p (get_or xs i d) ≡ false) → some? p xs ≡ false
  none_by [] d f = refl
  none_by (x ∷ xs) d f = rw (f zero (suc-le-suc zero-le)) (none_by xs d (λ i h. f (suc i) (suc-le-suc h)))

  -- one that passes; one that fails
  pub some_by : (xs : List A) (i : ℕ) (d : A) → i < length xs → p (get_or xs i d) ≡ true → some? p xs ≡ true
  some_by [] i d h e = absurd (not-suc-le-zero h)
  some_by (x ∷ xs) zero d h e = rw e refl
  some_by (x ∷ xs) (suc i) d h e = ap (λ (t : Bool). p x || t) (some_by xs i d (le_of_suc-le-suc h) e) ∙ or_true_right (p x)

  -- the place of one that passes
  pub record Place (xs : List A) (d : A) : Type 0 where
    pub at : ℕ
    pub inside : at < length xs
    pub passes : p (get_or xs at d) ≡ true

  place_cons : (x : A) (xs : List A) (d : A) → Place xs d → Place (x ∷ xs) d
  place_cons x xs d k = record { at = suc k.at; inside = suc-le-suc k.inside; passes = k.passes }

  some_or : (t : Bool) (x : A) (xs : List A) (d : A) → p x ≡ t → (some? p xs ≡ true → Place xs d) → t || some? p xs ≡ true → Place (x ∷ xs) d
  some_or true x xs d e f h = record { at = zero; inside = suc-le-suc zero-le; passes = e }
  some_or false x xs d e f h = place_cons x xs d (f h)

  pub some_place : (xs : List A) (d : A) → some? p xs ≡ true → Place xs d
  some_place [] d e = both_ways {t = false} e refl
  some_place (x ∷ xs) d e = some_or (p x) x xs d refl (some_place xs d) e

  -- a part of a list
  pub every_take : (n : ℕ) (xs : List A) → every? p xs ≡ true → every? p (take n xs) ≡ true
  every_take zero xs e = refl
  every_take (suc n) [] e = refl
  every_take (suc n) (x ∷ xs) e = and_both (and_left (p x) (every? p xs) e) (every_take n xs (and_right (p x) (every? p xs) e))

  pub every_drop : (n : ℕ) (xs : List A) → every? p xs ≡ true → every? p (drop n xs) ≡ true
  every_drop zero xs e = e
  every_drop (suc n) [] e = refl
  every_drop (suc n) (x ∷ xs) e = every_drop n xs (and_right (p x) (every? p xs) e)

  not_or : (s t : Bool) → not s && not t ≡ not (s || t)
  not_or true t = refl
  not_or false t = refl

  -- not one passes, as every one fails
  pub none_every : (xs : List A) → every? (λ x. not (p x)) xs ≡ not (some? p xs)
  none_every [] = refl
  none_every (x ∷ xs) = ap (λ (t : Bool). not (p x) && t) (none_every xs) ∙ not_or (p x) (some? p xs)

-- a test that passes wherever another does
pub every_weaker : {A : Type 0} (p q : A → Bool) → ((x : A) → p x ≡ true → q x ≡ true) → (xs : List A) → every? p xs ≡ true → every? q xs ≡ true
every_weaker p q f [] e = refl
every_weaker p q f (x ∷ xs) e = and_both (f x (and_left (p x) (every? p xs) e)) (every_weaker p q f xs (and_right (p x) (every? p xs) e))

pub some_same : {A : Type 0} (p q : A → Bool) → ((x : A) → p x ≡ q x) → (xs : List A) → some? p xs ≡ some? q xs
some_same p q e [] = refl
some_same p q e (x ∷ xs) = rw (e x, some_same p q e xs) refl

module _ {A B : Type 0} (p : B → Bool) where
  pub every_map : (f : A → B) (xs : List A) → every? p (map f xs) ≡ every? (λ x. p (f x)) xs
  every_map f [] = refl
  every_map f (x ∷ xs) = ap (λ (t : Bool). p (f x) && t) (every_map f xs)

  pub some_map : (f : A → B) (xs : List A) → some? p (map f xs) ≡ some? (λ x. p (f x)) xs
  some_map f [] = refl
  some_map f (x ∷ xs) = ap (λ (t : Bool). p (f x) || t) (some_map f xs)

  pub every_flat : (f : A → List B) (xs : List A) → every? p (flat f xs) ≡ every? (λ x. every? p (f x)) xs
  every_flat f [] = refl
  every_flat f (x ∷ xs) = every_append p (f x) (flat f xs) ∙ ap (λ (t : Bool). every? p (f x) && t) (every_flat f xs)

  pub some_flat : (f : A → List B) (xs : List A) → some? p (flat f xs) ≡ some? (λ x. some? p (f x)) xs
  some_flat f [] = refl
  some_flat f (x ∷ xs) = some_append p (f x) (flat f xs) ∙ ap (λ (t : Bool). some? p (f x) || t) (some_flat f xs)

-- where a test passes on all of a list, functions that agree where it does
pub map_where : {A B : Type 0} (p : A → Bool) (f g : A → B) → ((x : A) → p x ≡ true → f x ≡ g x) → (xs : List A) → every? p xs ≡ true → map f xs ≡ map g xs
map_where p f g e [] h = refl
map_where {A} {B} p f g e (x ∷ xs) h =
    ap (λ (y : B). y ∷ map f xs) (e x (and_left (p x) (every? p xs) h))
    ∙ ap (λ (l : List B). g x ∷ l) (map_where p f g e xs (and_right (p x) (every? p xs) h))
