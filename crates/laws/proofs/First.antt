-- Laws of first: over appended lists, against some?, by index.
use Prim.Native.Nat.{ℕ, zero, suc, ◌<◌, suc-le-suc, zero-le}
use native.Mathlib.Nat.{not-suc-le-zero, le_of_suc-le-suc}
use mathlib.Core.Path.{◌≡◌, refl, sym, ap, ◌∙◌}
use mathlib.Core.Bool.{Bool, true, false, ◌||◌}
use mathlib.Core.List.{List, [], ◌∷◌, map}
use mathlib.Core.Option.{Option, none, some}
use lib.ListN.{length, get_or}
use Rattle.laws.specs.Lists.{some?, or_else, first}

module _ {A : Type 0} where
  -- whether there is one
  abbrev pub there? : Option A → Bool
  there? none = false
  there? (some x) = true

  or_else_there : (t : Bool) (x : A) (o : Option A) → there? (or_else t x o) ≡ t || there? o
  or_else_there true x o = refl
  or_else_there false x o = refl

  not_there : (o : Option A) → there? o ≡ false → o ≡ none
  not_there none e = refl
  not_there (some x) e = cc

  module _ (p : A → Bool) where
    -- there is a first one where one passes
    pub first_there : (xs : List A) → there? (first p xs) ≡ some? p xs
    first_there [] = refl
    first_there (x ∷ xs) = or_else_there (p x) x (first p xs) ∙ ap (λ (t : Bool). p x || t) (first_there xs)

    pub first_none : (xs : List A) → some? p xs ≡ false → first p xs ≡ none
    first_none xs e = not_there (first p xs) (first_there xs ∙ e)

    pub none_first : (xs : List A) → first p xs ≡ none → some? p xs ≡ false
    none_first xs e = sym (first_there xs) ∙ ap there? e

    pub some_first : (xs : List A) (x : A) → first p xs ≡ some x → some? p xs ≡ true
    some_first xs x e = sym (first_there xs) ∙ ap there? e

    -- the first is at i: it passes there, and fails before
    pub first-at : (xs : List A) (i : ℕ) (d : A) → i < length xs → ((k : ℕ) → k < i → p (get_or xs k d) ≡ false) → p (get_or xs i d) ≡ true → first p xs ≡ some (get_or xs i d)
    first-at [] i d h f e = absurd (not-suc-le-zero h)
    first-at (x ∷ xs) zero d h f e = rw e refl
    first-at (x ∷ xs) (suc i) d h f e = rw (f zero (suc-le-suc zero-le)) (first-at xs i d (le_of_suc-le-suc h) (λ k l. f (suc k) (suc-le-suc l)) e)

  -- tests that agree
  pub first_same : (p q : A → Bool) → ((x : A) → p x ≡ q x) → (xs : List A) → first p xs ≡ first q xs
  first_same p q e [] = refl
  first_same p q e (x ∷ xs) = rw (e x, first_same p q e xs) refl

-- what f gives for the one, if there is one
abbrev pub map_some : {A B : Type 0} → (A → B) → Option A → Option B
map_some f none = none
map_some f (some x) = some (f x)

module _ {A B : Type 0} (p : B → Bool) (f : A → B) where
  or_else_map : (t : Bool) (x : A) (o : Option A) → or_else t (f x) (map_some f o) ≡ map_some f (or_else t x o)
  or_else_map true x o = refl
  or_else_map false x o = refl

  pub first-map : (xs : List A) → first p (map f xs) ≡ map_some f (first (λ x. p (f x)) xs)
  first-map [] = refl
  first-map (x ∷ xs) = ap (or_else (p (f x)) (f x)) (first-map xs) ∙ or_else_map (p (f x)) x (first (λ y. p (f y)) xs)
