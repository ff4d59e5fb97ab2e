-- `some?` by std's words for a slice's methods.
use Prim.Native.Nat.{ℕ}
use mathlib.Core.Path.{◌≡◌, refl, sym, ap, ◌∙◌}
use mathlib.Core.Bool.{Bool, ◌||◌}
use mathlib.Core.List.{List, [], ◌∷◌}
use lib.Dec.{eqb}
use lib.IntN.{ℤ}
use borrow.Author.Tests.{eqb-true, eq-eqb}
use Rattle.std.specs.List.{list_any}
use Rattle.std.specs.Ordering.{int_eq}
use Rattle.std.proofs.lemmas.Bool.Decides.{Decides-int_eq}
use Rattle.laws.specs.Lists.{eq_z, some?}
use Rattle.laws.proofs.Bools.{same_test}
use Rattle.laws.proofs.Order.{eq_z_true, eq_z_same}

-- what `any` answers
pub any_some : {A : Type 0} (p : A → Bool) (xs : List A) → list_any p xs ≡ some? p xs
any_some p [] = refl
any_some p (x ∷ xs) = ap (λ (t : Bool). p x || t) (any_some p xs)

eqb_turned : (x y : ℕ) → eqb y x ≡ eqb x y
eqb_turned x y = same_test (eqb y x) (eqb x y) (λ e. eq-eqb x y (sym (eqb-true y x e))) (λ e. eq-eqb y x (sym (eqb-true x y e)))

-- what `contains` answers
pub contains_some : (x : ℕ) (xs : List ℕ) → list_any (λ y. eqb y x) xs ≡ some? (eqb x) xs
contains_some x [] = refl
contains_some x (y ∷ xs) = ap (λ (t : Bool). t || list_any (λ z. eqb z x) xs) (eqb_turned x y) ∙ ap (λ (t : Bool). eqb x y || t) (contains_some x xs)

-- the same of signed numbers
pub int_eq_turned : (x y : ℤ) → int_eq y x ≡ eq_z x y
int_eq_turned x y =
    same_test (int_eq y x) (eq_z x y) (λ e. eq_z_same x y (sym ((Decides-int_eq y x).0 e))) (λ e. (Decides-int_eq y x).1 (sym (eq_z_true x y e)))

pub contains_some_z : (x : ℤ) (xs : List ℤ) → list_any (λ y. int_eq y x) xs ≡ some? (eq_z x) xs
contains_some_z x [] = refl
contains_some_z x (y ∷ xs) = ap (λ (t : Bool). t || list_any (λ z. int_eq z x) xs) (int_eq_turned x y) ∙ ap (λ (t : Bool). eq_z x y || t) (contains_some_z x xs)
