-- Where no table of the book is bad every attribute's default is finite, and so is 0.0 for one that is missing.
use Prim.Native.Nat.{ℕ}
use mathlib.Core.Path.{◌≡◌, refl, sym, subst}
use mathlib.Core.Bool.{Bool, true, false, ◌&&◌}
use mathlib.Core.List.{List, [], ◌∷◌, map}
use mathlib.Core.Option.{Option, get_or}
use lib.Dec.{T, leb}
use lib.IntN.{ℤ}
use Rattle.laws.specs.Floats.{finite}
use Rattle.laws.specs.Lists.{eq_z, every?, first, or_else, ascends}
use Rattle.laws.proofs.Bools.{and_left, and_right}
use Rattle.laws.proofs.Every.{every_weaker}
use Rattle.rules.specs.Sheet.{Book, book_of}
use Rattle.rules.specs.Info.{missing, get_dogma_attribute}
use Rattle.rules.specs.Shape.{attributes_good}
use Rattle.rules.specs.declared.DogmaAttribute.{DogmaAttribute}
use Rattle.rules.proofs.Verdicts.{attributes_good_lem}
use Rattle.info.specs.Sound.{SoundBook}

-- what passes a test, if all of a list do and so does what stands in for none
module _ {A : Type 0} (p q : A → Bool) (d : A) (h : p d ≡ true) where
  either_passes : (t : Bool) (x : A) (o : Option A) → p x ≡ true → p (get_or o d) ≡ true → p (get_or (or_else t x o) d) ≡ true
  either_passes true x o e f = e
  either_passes false x o e f = f

  pub first_or_passes : (xs : List A) → every? p xs ≡ true → p (get_or (first q xs) d) ≡ true
  first_or_passes [] e = h
  first_or_passes (x ∷ xs) e = either_passes (q x) x (first q xs) (and_left (p x) (every? p xs) e) (first_or_passes xs (and_right (p x) (every? p xs) e))

abbrev finite_default : DogmaAttribute → Bool
finite_default r = finite r.default_value

all-finite : (k : Book) → attributes_good k ≡ true → every? finite_default k.attributes ≡ true
unfolding attributes_good
all-finite k e =
    every_weaker (λ r. leb r.flags 3 && finite r.default_value) finite_default (λ r h. and_right (leb r.flags 3) (finite r.default_value) h) k.attributes
    (and_right (ascends (map (λ r. r.id) k.attributes)) (every? (λ r. leb r.flags 3 && finite r.default_value) k.attributes) e)

default_finite : (k : Book) (a : ℤ) → attributes_good k ≡ true → finite (get_dogma_attribute k a).default_value ≡ true
unfolding get_dogma_attribute finite
default_finite k a e = first_or_passes finite_default (λ r. eq_z r.id a) (missing a) refl k.attributes (all-finite k e)

pub defaults_finite : (b : List ℕ) (pairs : List (List ℕ)) → SoundBook b pairs → (a : ℤ) → T (finite (get_dogma_attribute (book_of b pairs) a).default_value)
defaults_finite b pairs s a = subst T (sym (default_finite (book_of b pairs) a (attributes_good_lem (book_of b pairs) s.good))) tt
