-- A number's decimal digits: those of its tenth, and then its last. And how many they are at most.
use Prim.Native.Nat.{ℕ, zero, suc, ◌+◌, ◌/◌, ◌%◌, ◌^◌, ◌≤◌, ◌<◌}
use native.Mathlib.Nat.{pow-succ'}
use native.Mathlib.Omega.{arith}
use mathlib.Core.Path.{◌≡◌, refl, sym, ap, ◌∙◌}
use mathlib.Core.List.{List, [], ◌∷◌, ◌++◌, append_assoc}
use lib.ListN.{length}
use Rattle.rules.specs.Listing.{digits, natural}

abbrev pub last : ℕ → ℕ
last n = 48 + n % 10

-- one digit more: the last of n, and those of its tenth before it, where there is one
ended : (k n : ℕ) (r : List ℕ) → n / 10 ≡ 0 → digits (suc k) n r ≡ last n ∷ r
unfolding digits
ended k n r e = rw (e, digits) refl

goes_on : (k n m : ℕ) (r : List ℕ) → n / 10 ≡ suc m → digits (suc k) n r ≡ digits k (n / 10) (last n ∷ r)
unfolding digits
goes_on k n m r e = rw (e, digits) (ap (λ (x : ℕ). digits k x (last n ∷ r)) e)

-- what stands behind stays behind
behind : (k n : ℕ) (r : List ℕ) → digits k n r ≡ digits k n [] ++ r
behind zero n r = unfold digits in refl
behind (suc k) n r = go (n / 10) refl (λ q. behind k (n / 10) q)
  where
    go : (m : ℕ) → n / 10 ≡ m → ((q : List ℕ) → digits k (n / 10) q ≡ digits k (n / 10) [] ++ q) → digits (suc k) n r ≡ digits (suc k) n [] ++ r
    go zero e h = rw (ended k n r e, ended k n [] e) refl
    go (suc m) e h =
        goes_on k n m r e ∙ h (last n ∷ r) ∙ sym (append_assoc (digits k (n / 10) []) (last n ∷ []) r)
        ∙ ap (λ (l : List ℕ). l ++ r) (sym (goes_on k n m [] e ∙ h (last n ∷ [])))

tenth : (k n : ℕ) → n < 10 ^ suc k → n / 10 < 10 ^ k
tenth k n h = let e = pow-succ' 10 k in omega (arith, e)

-- more digits are asked for than there are
spare : (k n : ℕ) (r : List ℕ) → n < 10 ^ k → 0 < n → digits (suc k) n r ≡ digits k n r
spare zero n r h p = absurd (omega arith)
spare (suc k) n r h p = go (n / 10) refl (λ q l. spare k (n / 10) q (tenth k n h) l)
  where
    go : (m : ℕ) → n / 10 ≡ m → ((q : List ℕ) → 0 < n / 10 → digits (suc k) (n / 10) q ≡ digits k (n / 10) q) → digits (suc (suc k)) n r ≡ digits (suc k) n r
    go zero e ih = ended (suc k) n r e ∙ sym (ended k n r e)
    go (suc m) e ih = goes_on (suc k) n m r e ∙ ih (last n ∷ r) (omega arith) ∙ sym (goes_on k n m r e)

pub natural-one : (n : ℕ) → n < 10 → natural n ≡ last n ∷ []
unfolding natural
natural-one n h = ended 19 n [] (omega arith)

pub natural-more : (n : ℕ) → 10 ≤ n → n < 10 ^ 20 → natural n ≡ natural (n / 10) ++ (last n ∷ [])
unfolding natural
natural-more n l h = go (n / 10) refl
  where
    go : (m : ℕ) → n / 10 ≡ m → digits 20 n [] ≡ digits 20 (n / 10) [] ++ (last n ∷ [])
    go zero e = absurd (omega arith)
    go (suc m) e = goes_on 19 n m [] e ∙ sym (spare 19 (n / 10) (last n ∷ []) (tenth 19 n h) (omega arith)) ∙ behind 20 (n / 10) (last n ∷ [])

most : (k n : ℕ) (r : List ℕ) → length (digits k n r) ≤ k + length r
most zero n r = unfold digits in omega arith
most (suc k) n r = go (n / 10) refl (most k (n / 10) (last n ∷ r))
  where
    go : (m : ℕ) → n / 10 ≡ m → length (digits k (n / 10) (last n ∷ r)) ≤ k + suc (length r) → length (digits (suc k) n r) ≤ suc k + length r
    go zero e h = rw (ended k n r e) (omega arith)
    go (suc m) e h = rw (goes_on k n m r e) (omega arith)

pub natural-most : (n : ℕ) → length (natural n) ≤ 20
unfolding natural
natural-most n = omega (arith, most 20 n [])

-- a number below 10 ^ (k + 1) has k + 1 digits at most
shorter : (j k n : ℕ) (r : List ℕ) → n < 10 ^ suc k → length (digits j n r) ≤ suc k + length r
shorter zero k n r h = unfold digits in omega arith
shorter (suc j) k n r h = go (n / 10) refl k h (λ i l. shorter j i (n / 10) (last n ∷ r) l)
  where
    go : (m : ℕ) → n / 10 ≡ m → (k : ℕ) → n < 10 ^ suc k
        → ((i : ℕ) → n / 10 < 10 ^ suc i → length (digits j (n / 10) (last n ∷ r)) ≤ suc i + suc (length r)) → length (digits (suc j) n r) ≤ suc k + length r
    go zero e k h ih = rw (ended j n r e) (omega arith)
    go (suc m) e zero h ih = absurd (omega arith)
    go (suc m) e (suc i) h ih = rw (goes_on j n m r e) (omega (arith, ih i (tenth (suc i) n h)))

pub natural_short : (k n : ℕ) → n < 10 ^ suc k → length (natural n) ≤ suc k
unfolding natural
natural_short k n h = omega (arith, shorter 20 k n [] h)
