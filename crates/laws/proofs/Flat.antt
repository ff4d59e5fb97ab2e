-- Laws of flat: over appended lists, a loop's next element, maps, keeps and lengths.
use Prim.Native.Nat.{ℕ, ◌+◌, ◌<◌}
use mathlib.Core.Path.{◌≡◌, refl, sym, ap, ◌∙◌}
use mathlib.Core.Bool.{Bool, true, false, cond}
use mathlib.Core.List.{List, [], ◌∷◌, ◌++◌, map, append-nil, append_assoc}
use lib.ListN.{length, take, get_or, length-append}
use Rattle.laws.specs.Lists.{put, keep, flat, total}
use Rattle.laws.proofs.Maps.{take_next, map_append}

module _ {A B : Type 0} (f : A → List B) where
  pub flat_append : (xs ys : List A) → flat f (xs ++ ys) ≡ flat f xs ++ flat f ys
  flat_append [] ys = refl
  flat_append (x ∷ xs) ys = ap (λ (l : List B). f x ++ l) (flat_append xs ys) ∙ sym (append_assoc (f x) (flat f xs) (flat f ys))

  pub flat_snoc : (xs : List A) (x : A) → flat f (xs ++ (x ∷ [])) ≡ flat f xs ++ f x
  flat_snoc xs x = flat_append xs (x ∷ []) ∙ ap (λ (l : List B). flat f xs ++ l) (append-nil (f x))

  -- one more element of a loop
  pub flat-next : (xs : List A) (i : ℕ) (d : A) → i < length xs → flat f (take (i + 1) xs) ≡ flat f (take i xs) ++ f (get_or xs i d)
  flat-next xs i d h = ap (flat f) (take_next xs i d h) ∙ flat_snoc (take i xs) (get_or xs i d)

  pub flat-length : (xs : List A) → length (flat f xs) ≡ total (map (λ x. length (f x)) xs)
  flat-length [] = refl
  flat-length (x ∷ xs) = length-append (f x) (flat f xs) ∙ ap (λ (n : ℕ). length (f x) + n) (flat-length xs)

-- functions that agree give the same
pub flat_same : {A B : Type 0} (f g : A → List B) → ((x : A) → f x ≡ g x) → (xs : List A) → flat f xs ≡ flat g xs
flat_same f g e [] = refl
flat_same f g e (x ∷ xs) = rw (e x, flat_same f g e xs) refl

-- what f gives for those that pass
module _ {A B : Type 0} (f : A → List B) (p : A → Bool) where
  put_flat : (t : Bool) (x : A) (xs : List A) → flat f (put t x xs) ≡ cond t (f x) [] ++ flat f xs
  put_flat true x xs = refl
  put_flat false x xs = refl

  pub flat_keep : (xs : List A) → flat f (keep p xs) ≡ flat (λ x. cond (p x) (f x) []) xs
  flat_keep [] = refl
  flat_keep (x ∷ xs) = put_flat (p x) x (keep p xs) ∙ ap (λ (l : List B). cond (p x) (f x) [] ++ l) (flat_keep xs)

module _ {A B C : Type 0} where
  pub flat_map : (f : B → List C) (g : A → B) (xs : List A) → flat f (map g xs) ≡ flat (λ x. f (g x)) xs
  flat_map f g [] = refl
  flat_map f g (x ∷ xs) = ap (λ (l : List C). f (g x) ++ l) (flat_map f g xs)

  pub map-flat : (f : B → C) (g : A → List B) (xs : List A) → map f (flat g xs) ≡ flat (λ x. map f (g x)) xs
  map-flat f g [] = refl
  map-flat f g (x ∷ xs) = map_append f (g x) (flat g xs) ∙ ap (λ (l : List C). map f (g x) ++ l) (map-flat f g xs)
