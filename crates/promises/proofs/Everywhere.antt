-- Laws of every? over what lists are made of: parts, places, and the first that passes.
use Prim.Native.Nat.{ℕ, zero, suc}
use mathlib.Core.Path.{◌≡◌, refl, sym, ap, ◌∙◌}
use mathlib.Core.Bool.{Bool, true, false}
use mathlib.Core.List.{List, [], ◌∷◌, ◌++◌}
use mathlib.Core.Option.{Option, some}
use lib.ListN.{get_or, set, drop}
use Rattle.laws.specs.Lists.{every?, flat, first, or_else, span}
use Rattle.laws.proofs.Bools.{and_left, and_right, and_both}
use Rattle.laws.proofs.Every.{every_append, every_take, every_drop}

module _ {A : Type 0} (p : A → Bool) where
  pub every_all : ((x : A) → p x ≡ true) → (xs : List A) → every? p xs ≡ true
  every_all h [] = refl
  every_all h (x ∷ xs) = and_both (h x) (every_all h xs)

  pub every_both : (xs ys : List A) → every? p xs ≡ true → every? p ys ≡ true → every? p (xs ++ ys) ≡ true
  every_both xs ys h k = every_append p xs ys ∙ and_both h k

  pub every_span : (i n : ℕ) (xs : List A) → every? p xs ≡ true → every? p (span i n xs) ≡ true
  every_span i n xs h = every_take p n (drop i xs) (every_drop p i xs h)

  pub every_set : (xs : List A) (i : ℕ) (x : A) → every? p xs ≡ true → p x ≡ true → every? p (set xs i x) ≡ true
  every_set [] i x h k = refl
  every_set (y ∷ xs) zero x h k = and_both k (and_right (p y) (every? p xs) h)
  every_set (y ∷ xs) (suc i) x h k = and_both (and_left (p y) (every? p xs) h) (every_set xs i x (and_right (p y) (every? p xs) h) k)

  -- at any place, where what stands for none passes too
  pub every_or : (xs : List A) (i : ℕ) (d : A) → every? p xs ≡ true → p d ≡ true → p (get_or xs i d) ≡ true
  every_or [] i d h k = k
  every_or (x ∷ xs) zero d h k = and_left (p x) (every? p xs) h
  every_or (x ∷ xs) (suc i) d h k = every_or xs i d (and_right (p x) (every? p xs) h) k

  or_first : (t : Bool) (x y : A) (o : Option A) → p x ≡ true → (o ≡ some y → p y ≡ true) → or_else t x o ≡ some y → p y ≡ true
  or_first true x y o h k e = let same : x ≡ y = cc in ap p (sym same) ∙ h
  or_first false x y o h k e = k e

  pub every_first : (q : A → Bool) (xs : List A) (x : A) → every? p xs ≡ true → first q xs ≡ some x → p x ≡ true
  every_first q [] x h e = cc
  every_first q (y ∷ xs) x h e = or_first (q y) y x (first q xs) (and_left (p y) (every? p xs) h) (every_first q xs x (and_right (p y) (every? p xs) h)) e

pub flat_every : {A B : Type 0} (p : A → Bool) (q : B → Bool) (f : A → List B) → ((x : A) → p x ≡ true → every? q (f x) ≡ true) → (xs : List A) → every? p xs ≡ true → every? q (flat f xs) ≡ true
flat_every p q f h [] e = refl
flat_every p q f h (x ∷ xs) e = every_both q (f x) (flat f xs) (h x (and_left (p x) (every? p xs) e)) (flat_every p q f h xs (and_right (p x) (every? p xs) e))

pub flat-all : {A B : Type 0} (q : B → Bool) (f : A → List B) → ((x : A) → every? q (f x) ≡ true) → (xs : List A) → every? q (flat f xs) ≡ true
flat-all q f h xs = flat_every (λ x. true) q f (λ x e. h x) xs (every_all (λ x. true) (λ x. refl) xs)
