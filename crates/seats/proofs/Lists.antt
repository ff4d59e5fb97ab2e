-- The search and the shift by places are those by lists: what brings `Plan` to `Seats`.
use Prim.Native.Nat.{ℕ, zero, suc, ◌+◌, ◌-◌, ◌≤◌, ◌<◌}
use native.Mathlib.Omega.{arith}
use mathlib.Core.Path.{◌≡◌, refl, ap, ◌∙◌}
use mathlib.Core.Bool.{Bool, true, false}
use mathlib.Core.List.{List, [], ◌∷◌, ◌++◌}
use lib.Dec.{leb}
use lib.ListN.{get_or, set, take, drop, length}
use Rattle.free_table.specs.declared.Stretch.{Stretch}
use Rattle.free_table.specs.Table.{empty, pick}
use Rattle.seats.specs.Plan.{first_from, down_from, shut_of}

-- ---- the search

-- the place in a list of the first that is w long, or how many there are
abbrev pub first_in : ℕ → List Stretch → ℕ
first_in w [] = 0
first_in w (s ∷ r) = pick (leb w s.length) 0 (suc (first_in w r))

-- what is looked at from place i + 1 of (s ∷ t) is what is looked at from i of t
pub first_cons : (s : Stretch) (t : List Stretch) (w i m : ℕ) → first_from (s ∷ t) w (suc i) m ≡ suc (first_from t w i m)
first_cons s t w i zero = refl
first_cons s t w i (suc m) =
    ap (λ (k : ℕ). pick (leb w (get_or t i empty).length) (suc i) (first_from (s ∷ t) w k m)) (let e : suc i + 1 ≡ suc (i + 1) = omega arith in e) ∙ ap (λ (k : ℕ). pick (leb w (get_or t i empty).length) (suc i) k) (first_cons s t w (i + 1) m) ∙ out (leb w (get_or t i empty).length)
  where
    out : (b : Bool) → pick b (suc i) (suc (first_from t w (i + 1) m)) ≡ suc (pick b i (first_from t w (i + 1) m))
    out true = refl
    out false = refl

pub first-is : (w : ℕ) (t : List Stretch) (n : ℕ) → n ≤ length t → first_from t w 0 n ≡ first_in w (take n t)
first-is w t zero h = refl
first-is w [] (suc n) h = absurd (omega (arith, h))
first-is w (s ∷ t) (suc n) h = ap (λ (k : ℕ). pick (leb w s.length) 0 k) (first_cons s t w 0 n ∙ ap suc (first-is w t n (omega (arith, h))))

-- ---- the shift

down_cons : (s : Stretch) (t : List Stretch) (k m : ℕ) → down_from (s ∷ t) (suc (suc k)) m ≡ s ∷ down_from t (suc k) m
down_cons s t k zero = refl
down_cons s t k (suc m) =
    ap (λ (a : ℕ). down_from (set (s ∷ t) a y) (suc (suc k) + 1) m) (let e : suc (suc k) - 1 ≡ suc k = omega arith in e)
    ∙ ap (λ (a : ℕ). down_from (s ∷ set t k y) a m) (let e : suc (suc k) + 1 ≡ suc (suc (suc k)) = omega arith in e) ∙ down_cons s (set t k y) (suc k) m
    ∙ ap (λ (a : ℕ). s ∷ down_from (set t k y) a m) (let e : suc (suc k) ≡ suc k + 1 = omega arith in e) ∙ ap (λ (a : ℕ). s ∷ down_from (set t a y) (suc k + 1) m) (let e : k ≡ suc k - 1 = omega arith in e)
  where
    y : Stretch
    y = get_or t (suc k) empty

down_is : (x : Stretch) (t : List Stretch) (m : ℕ) → m ≤ length t → down_from (x ∷ t) 1 m ≡ take m t ++ drop m (x ∷ t)
down_is x t zero h = refl
down_is x [] (suc m) h = absurd (omega (arith, h))
down_is x (b ∷ r) (suc m) h = down_cons b (b ∷ r) 0 m ∙ ap (λ (l : List Stretch). b ∷ l) (down_is b r m (omega (arith, h)))

put_end : (x : Stretch) (t : List Stretch) (m : ℕ) → m ≤ length t → set (take m t ++ drop m (x ∷ t)) m empty ≡ take m t ++ (empty ∷ drop m t)
put_end x t zero h = refl
put_end x [] (suc m) h = absurd (omega (arith, h))
put_end x (b ∷ r) (suc m) h = ap (λ (l : List Stretch). b ∷ l) (put_end b r m (omega (arith, h)))

-- the first of m + 1 taken out: the others, an empty one, and what stood behind
pub shut_first : (x : Stretch) (t : List Stretch) (m : ℕ) → m ≤ length t → shut_of (x ∷ t) (suc m) 0 ≡ take m t ++ (empty ∷ drop m t)
shut_first x t m h =
    ap (λ (a : ℕ). set (down_from (x ∷ t) 1 a) (suc m - 1) empty) (let e : suc m - 1 ≡ m = omega arith in e) ∙ ap (λ (a : ℕ). set (down_from (x ∷ t) 1 m) a empty) (let e : suc m - 1 ≡ m = omega arith in e) ∙ ap (λ (l : List Stretch). set l m empty) (down_is x t m h) ∙ put_end x t m h

-- a later one taken out leaves the first
pub shut_cons : (s : Stretch) (t : List Stretch) (n i : ℕ) → i < n → shut_of (s ∷ t) (suc n) (suc i) ≡ s ∷ shut_of t n i
shut_cons s t n i h =
    ap (λ (a : ℕ). set (down_from (s ∷ t) a (suc n - (suc i + 1))) (suc n - 1) empty) (let e : suc i + 1 ≡ suc (suc i) = omega arith in e)
    ∙ ap (λ (a : ℕ). set (down_from (s ∷ t) (suc (suc i)) a) (suc n - 1) empty) (let e : suc n - (suc i + 1) ≡ n - (i + 1) = omega (arith, h) in e)
    ∙ ap (λ (l : List Stretch). set l (suc n - 1) empty) (down_cons s t i (n - (i + 1)))
    ∙ ap (λ (a : ℕ). set (s ∷ down_from t (suc i) (n - (i + 1))) a empty) (let e : suc n - 1 ≡ suc (n - 1) = omega (arith, h) in e)
    ∙ ap (λ (a : ℕ). s ∷ set (down_from t a (n - (i + 1))) (n - 1) empty) (let e : suc i ≡ i + 1 = omega arith in e)
