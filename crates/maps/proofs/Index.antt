-- The map of a key is sought: from the last of its residue to the ones before it.
use Rattle.std.specs.Prelude.{Some, None}
use Prim.Native.Nat.{ℕ, zero, suc, ◌+◌, ◌-◌, ◌*◌, ◌/◌, ◌%◌, ◌≤◌, ◌<◌}
use native.Mathlib.Omega.{arith}
use native.Mathlib.Nat.{eq-or-lt_of_le, mul-le-mul, mul-le-mul_right, add-mul}
use mathlib.Core.Path.{◌≡◌, refl, sym, ap, subst, ◌∙◌}
use mathlib.Core.Bool.{Bool, true, false, cond}
use mathlib.Core.List.{List}
use mathlib.Core.Logic.{◌⊎◌, inl, inr}
use lib.Dec.{eqb}
use lib.ListN.{length, get_or}
use borrow.Author.Tests.{eqb-true, eqb-false, ne_eqb}
use Rattle.laws.proofs.Every.{none_by}
use Rattle.maps.specs.Keys.{head_at}
use Rattle.maps.specs.Maps.{before, Mapped, Found}

pub less_or : (a b : ℕ) → (a < b) ⊎ (b ≤ a)
less_or a zero = inr (omega arith)
less_or zero (suc b) = inl (omega arith)
less_or (suc a) (suc b) = up (less_or a b)
  where
    up : (a < b) ⊎ (b ≤ a) → (suc a < suc b) ⊎ (suc b ≤ suc a)
    up (inl v) = inl (omega (arith, v))
    up (inr v) = inr (omega (arith, v))

-- ---- heads stand one behind another

pub head_small : (w m : ℕ) → w ≤ 16 → m ≤ 7168 → head_at w m ≤ 121952
unfolding head_at
head_small w m h l = omega (arith, mul-le-mul {n₁ = m} {m₁ = w + 1} {n₂ = 7168} {m₂ = 17} l (omega arith))

pub head_next : (w m : ℕ) → head_at w (m + 1) ≡ head_at w m + (w + 1)
unfolding head_at
head_next w m = omega (arith, add-mul m 1 (w + 1))

pub head_later : (w m n : ℕ) → m < n → head_at w m + (w + 1) ≤ head_at w n
unfolding head_at
head_later w m n h = omega (arith, add-mul m 1 (w + 1), mul-le-mul_right {m = m + 1} {n = n} (w + 1) (omega arith))

pub head_behind : (w m : ℕ) → 6 * w ≤ head_at w m
unfolding head_at
head_behind w m = omega arith

-- the stretch of a location ends where the next begins
pub column_later : (w c d : ℕ) → c < d → c * w + w ≤ d * w
column_later w c d h = omega (arith, add-mul c 1 w, mul-le-mul_right {m = c + 1} {n = d} w (omega arith))

-- ---- the last of a residue

le_if : (t : Bool) (a b : ℕ) → a ≤ b → cond t b a ≤ b
le_if true a b h = omega arith
le_if false a b h = h

module _ (ks : List ℕ) (r : ℕ) where
  pub before-le : (m : ℕ) → before ks r m ≤ m
  before-le zero = omega arith
  before-le (suc m) = le_if (eqb (get_or ks m 0 % 1024) r) (before ks r m) (suc m) (omega (arith, before-le m))

  is_if : (t : Bool) (m b : ℕ) → (t ≡ true → get_or ks m 0 % 1024 ≡ r) → (0 < b → get_or ks (b - 1) 0 % 1024 ≡ r) → 0 < cond t (suc m) b → get_or ks (cond t (suc m) b - 1) 0 % 1024 ≡ r
  is_if true m b h g p = ap (λ (n : ℕ). get_or ks n 0 % 1024) less ∙ h refl
    where
      less : suc m - 1 ≡ m
      less = omega arith
  is_if false m b h g p = g p

  pub before-is : (m : ℕ) → 0 < before ks r m → get_or ks (before ks r m - 1) 0 % 1024 ≡ r
  before-is zero p = absurd (omega (arith, p))
  before-is (suc m) p = is_if (eqb (get_or ks m 0 % 1024) r) m (before ks r m) (eqb-true (get_or ks m 0 % 1024) r) (before-is m) p

  gap : (m j : ℕ) → j < suc m → get_or ks j 0 % 1024 ≡ r → (before ks r m ≤ j → j < m → ⊥) → (t : Bool) → eqb (get_or ks m 0 % 1024) r ≡ t → cond t (suc m) (before ks r m) ≤ j → ⊥
  gap m j h e again true q l = omega (arith, l, h)
  gap m j h e again false q l = by (eq-or-lt_of_le {n = j} {m = m} (omega (arith, h)))
    where
      by : (j ≡ m) ⊎ (j < m) → ⊥
      by (inl z) = eqb-false (get_or ks m 0 % 1024) r q (ap (λ (n : ℕ). get_or ks n 0 % 1024) (sym z) ∙ e)
      by (inr z) = again l z

  pub before_gap : (m j : ℕ) → before ks r m ≤ j → j < m → get_or ks j 0 % 1024 ≡ r → ⊥
  before_gap zero j l h e = omega (arith, h)
  before_gap (suc m) j l h e = gap m j h e (λ l' z. before_gap m j l' z e) (eqb (get_or ks m 0 % 1024) r) refl l

pub positive : (x : ℕ) → (x ≡ 0 → ⊥) → 0 < x
positive zero n = absurd (n refl)
positive (suc x) n = omega arith

-- ---- the search for x: m is to be looked at next, and none of those behind it has the key

pub record Seeking (ks : List ℕ) (x m : ℕ) : Type 0 where
  pub inside : m ≤ length ks
  pub same : 0 < m → get_or ks (m - 1) 0 % 1024 ≡ x % 1024
  pub gone : (j : ℕ) → m ≤ j → j < length ks → get_or ks j 0 ≡ x → ⊥

module _ {w : ℕ} {location has : ℕ → ℕ → Bool} {ks ws hs : List ℕ} (M : Mapped w location has ks ws hs) (x : ℕ) where
  pub seeking_first : {m : ℕ} → m ≡ get_or hs (x % 1024) 0 → Seeking ks x m
  seeking_first {m} e = subst (Seeking ks x) (sym (e ∙ M.lasts (x % 1024) (omega arith))) first
    where
      first : Seeking ks x (before ks (x % 1024) (length ks))
      first =
          record {
            inside = before-le ks (x % 1024) (length ks);
            same = before-is ks (x % 1024) (length ks);
            gone = λ j l h e. before_gap ks (x % 1024) (length ks) j l h (ap (λ (n : ℕ). n % 1024) e);
          }

  module _ {m : ℕ} (S : Seeking ks x m) (p : 0 < m) where
    there : m - 1 < length ks
    there = omega (arith, S.inside)

    pub seek_inside : head_at w (m - 1) < length ws
    seek_inside = omega (arith, head_later w (m - 1) (length ks) there, M.fits)

    pub seek_few : m - 1 ≤ 7168
    seek_few = omega (arith, S.inside, M.few)

    key_is : {head : ℕ} → head ≡ get_or ws (head_at w (m - 1)) 0 → head % 17179869184 ≡ get_or ks (m - 1) 0
    key_is e = omega (arith, e, M.headed (m - 1) there, M.small (m - 1) there)

    rest_is : {head : ℕ} → head ≡ get_or ws (head_at w (m - 1)) 0 → head / 17179869184 ≡ before ks (get_or ks (m - 1) 0 % 1024) (m - 1)
    rest_is e = omega (arith, e, M.headed (m - 1) there, M.small (m - 1) there)

    pub seek_less : {head : ℕ} → head ≡ get_or ws (head_at w (m - 1)) 0 → head / 17179869184 < m
    seek_less e = omega (arith, rest_is e, before-le ks (get_or ks (m - 1) 0 % 1024) (m - 1))

    pub seek_found : {head : ℕ} → head ≡ get_or ws (head_at w (m - 1)) 0 → head % 17179869184 ≡ x → Found ks x (Some (m - 1))
    seek_found e h = (there, sym (key_is e) ∙ h)

    pub seek_next : {head : ℕ} → head ≡ get_or ws (head_at w (m - 1)) 0 → (head % 17179869184 ≡ x → ⊥) → Seeking ks x (head / 17179869184)
    seek_next {head} e n = subst (Seeking ks x) (sym (rest_is e)) next
      where
        residue : get_or ks (m - 1) 0 % 1024 ≡ x % 1024
        residue = S.same p

        next : Seeking ks x (before ks (get_or ks (m - 1) 0 % 1024) (m - 1))
        next =
            record {
              inside = omega (arith, before-le ks (get_or ks (m - 1) 0 % 1024) (m - 1), S.inside);
              same = λ q. before-is ks (get_or ks (m - 1) 0 % 1024) (m - 1) q ∙ residue;
              gone = λ j l h q. by j l h q;
            }
          where
            by : (j : ℕ) → before ks (get_or ks (m - 1) 0 % 1024) (m - 1) ≤ j → j < length ks → get_or ks j 0 ≡ x → ⊥
            by j l h q = split (eqb j (m - 1)) refl
              where
                split : (t : Bool) → eqb j (m - 1) ≡ t → ⊥
                split true z = n (key_is e ∙ ap (λ (i : ℕ). get_or ks i 0) (sym (eqb-true j (m - 1) z)) ∙ q)
                split false z = sides (less_or j (m - 1))
                  where
                    sides : (j < m - 1) ⊎ (m - 1 ≤ j) → ⊥
                    sides (inl v) = before_gap ks (get_or ks (m - 1) 0 % 1024) (m - 1) j l v (ap (λ (i : ℕ). i % 1024) q ∙ sym residue)
                    sides (inr v) = S.gone j (omega (arith, v, p, eqb-false j (m - 1) z)) h q

  pub seek_none : {m : ℕ} → Seeking ks x m → m ≡ 0 → Found ks x None
  seek_none S z = none_by (eqb x) ks 0 (λ j h. ne_eqb x (get_or ks j 0) (λ e. S.gone j (omega (arith, z)) h (sym e)))
