-- What is loaded and stored, as a front of a list.
use Prim.Native.Nat.{ℕ, zero, suc, ◌+◌, ◌≤◌}
use native.Mathlib.Omega.{arith}
use mathlib.Core.Path.{◌≡◌, refl, ap, ◌∙◌}
use mathlib.Core.Bool.{Bool}
use mathlib.Core.List.{List, [], ◌∷◌, ◌++◌}
use lib.ListN.{get_or, set, take, drop, length, replicate}
use borrow.Author.Tests.{le-leb}
use Rattle.free_table.specs.declared.Stretch.{Stretch}
use Rattle.free_table.specs.Table.{empty, pick, front, loaded, laid, stored}

front_cons : (s : Stretch) (t : List Stretch) (i n : ℕ) → front (s ∷ t) (suc i) n ≡ front t i n
front_cons s t i zero = refl
front_cons s t i (suc n) = ap (λ (a : ℕ). get_or t i empty ∷ front (s ∷ t) a n) (let e : suc i + 1 ≡ suc (i + 1) = omega arith in e) ∙ ap (λ (l : List Stretch). get_or t i empty ∷ l) (front_cons s t (i + 1) n)

front-is : (t : List Stretch) (n : ℕ) → n ≤ length t → front t 0 n ≡ take n t
front-is t zero h = refl
front-is [] (suc n) h = absurd (omega (arith, h))
front-is (s ∷ t) (suc n) h = ap (λ (l : List Stretch). s ∷ l) (front_cons s t 0 n ∙ front-is t n (omega (arith, h)))

laid_cons : (s x : Stretch) (t z : List Stretch) (i n : ℕ) → laid (s ∷ t) (x ∷ z) (suc i) n ≡ s ∷ laid t z i n
laid_cons s x t z i zero = refl
laid_cons s x t z i (suc n) =
    ap (λ (a : ℕ). laid (s ∷ set t i (get_or z i empty)) (x ∷ z) a n) (let e : suc i + 1 ≡ suc (i + 1) = omega arith in e) ∙ laid_cons s x (set t i (get_or z i empty)) z (i + 1) n

laid-is : (t z : List Stretch) (n : ℕ) → n ≤ length t → n ≤ length z → laid t z 0 n ≡ take n z ++ drop n t
laid-is t z zero h k = refl
laid-is [] z (suc n) h k = absurd (omega (arith, h))
laid-is (s ∷ t) [] (suc n) h k = absurd (omega (arith, k))
laid-is (s ∷ t) (x ∷ z) (suc n) h k = laid_cons x x t z 0 n ∙ ap (λ (l : List Stretch). x ∷ l) (laid-is t z n (omega (arith, h)) (omega (arith, k)))

take_same : (z : List Stretch) (n : ℕ) → length z ≡ n → take n z ≡ z
take_same [] zero h = refl
take_same [] (suc n) h = refl
take_same (x ∷ z) zero h = absurd (omega (arith, h))
take_same (x ∷ z) (suc n) h = ap (λ (l : List Stretch). x ∷ l) (take_same z n (omega (arith, h)))

pub loaded-is : (ys : List Stretch) → 17 ≤ length ys → loaded ys ≡ take 17 ys
unfolding loaded
loaded-is ys h = ap (λ (b : Bool). pick b (front ys 0 17) (replicate 17 empty)) (le-leb 17 (length ys) h) ∙ front-is ys 17 h

pub stored_is : (ys z : List Stretch) → 17 ≤ length ys → length z ≡ 17 → stored ys z ≡ z ++ drop 17 ys
unfolding stored
stored_is ys z h k = laid-is ys z 17 h (omega (arith, k)) ∙ ap (λ (l : List Stretch). l ++ drop 17 ys) (take_same z 17 k)
