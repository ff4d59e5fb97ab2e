-- The kinds by their rank: objects stand with ranks that do not descend.
use Prim.Native.Nat.{ℕ, zero, suc, ◌≤◌, ◌<◌, zero-le}
use native.Mathlib.Nat.{not-suc-le-zero, le_of_suc-le-suc, zero-add}
use native.Mathlib.Omega.{arith}
use mathlib.Core.Path.{◌≡◌, refl, sym, ap, subst, ◌∙◌}
use mathlib.Core.Bool.{Bool, true, false, ◌&&◌, ◌||◌, not}
use mathlib.Core.List.{List, [], ◌∷◌}
use mathlib.Core.Logic.{⊎_elim}
use lib.Dec.{eqb, leb, ltb}
use lib.ListN.{length, get_or}
use borrow.Author.Tests.{eqb-true, ne_eqb, leb-true, ltb-true, ltb-false}
use Rattle.laws.specs.Lists.{every?, from}
use Rattle.laws.proofs.Bools.{and_left, and_right, both_ways, true_or_false}
use Rattle.laws.proofs.Every.{every_at}
use Rattle.laws.proofs.From.{from_at}
use Rattle.rules.specs.Shape.{follows, stand_after, stand}
use Rattle.info.proofs.StandingLaws.{Place, ship, mode, char, later}
use Rattle.reading.proofs.Sorted.{Climbs}

-- ship, mode, char, projected, items and charges, skills
abbrev pub rank : ℕ → ℕ
rank zero = 0
rank (suc zero) = 1
rank (suc (suc zero)) = 2
rank (suc (suc (suc zero))) = 4
rank (suc (suc (suc (suc zero)))) = 4
rank (suc (suc (suc (suc (suc zero))))) = 5
rank (suc (suc (suc (suc (suc (suc zero)))))) = 3
rank (suc (suc (suc (suc (suc (suc (suc k))))))) = 6

-- the tests of a kind are tests of its rank
pub record Ranked (k : ℕ) : Type 0 where
  pub ship : eqb k 0 ≡ eqb (rank k) 0
  pub mode : eqb k 1 ≡ eqb (rank k) 1
  pub char : eqb k 2 ≡ eqb (rank k) 2
  pub projected : eqb k 6 ≡ eqb (rank k) 3
  pub fitted : eqb k 3 || eqb k 4 ≡ eqb (rank k) 4
  pub skill : eqb k 5 ≡ eqb (rank k) 5

pub ranked : (k : ℕ) → Ranked k
ranked zero = record { ship = refl; mode = refl; char = refl; projected = refl; fitted = refl; skill = refl }
ranked (suc zero) = record { ship = refl; mode = refl; char = refl; projected = refl; fitted = refl; skill = refl }
ranked (suc (suc zero)) = record { ship = refl; mode = refl; char = refl; projected = refl; fitted = refl; skill = refl }
ranked (suc (suc (suc zero))) = record { ship = refl; mode = refl; char = refl; projected = refl; fitted = refl; skill = refl }
ranked (suc (suc (suc (suc zero)))) = record { ship = refl; mode = refl; char = refl; projected = refl; fitted = refl; skill = refl }
ranked (suc (suc (suc (suc (suc zero))))) = record { ship = refl; mode = refl; char = refl; projected = refl; fitted = refl; skill = refl }
ranked (suc (suc (suc (suc (suc (suc zero)))))) = record { ship = refl; mode = refl; char = refl; projected = refl; fitted = refl; skill = refl }
ranked (suc (suc (suc (suc (suc (suc (suc k))))))) =
    record { ship = other 0 (omega arith); mode = other 1 (omega arith); char = other 2 (omega arith); projected = other 6 (omega arith); fitted = rw (other 3 (omega arith)) (other 4 (omega arith)); skill = other 5 (omega arith) }
  where
    other : (n : ℕ) → n < 7 → eqb (suc (suc (suc (suc (suc (suc (suc k))))))) n ≡ false
    other n h = ne_eqb (suc (suc (suc (suc (suc (suc (suc k))))))) n (λ e. omega arith)

-- a kind may follow only kinds of its rank or below
abbrev goes_up : ℕ → ℕ → Bool
goes_up a k = not (follows a k) || (leb (rank a) (rank k) && leb (rank k) 5)

all_up : every? (λ a. every? (goes_up a) (from 0 7)) (from 0 7) ≡ true
unfolding follows
all_up = refl

few : (a k : ℕ) → follows a k ≡ true → k < 7
unfolding follows
few a k e = ⊎_elim (λ h. ltb-true k 7 h) (λ h. both_ways e (no_kind (ltb-false k 7 h))) (true_or_false (ltb k 7))
  where
    other : (n : ℕ) → 7 ≤ k → n < 7 → eqb k n ≡ false
    other n h l = ne_eqb k n (λ m. omega arith)

    no_kind : 7 ≤ k → follows a k ≡ false
    no_kind h = rw (other 1 h (omega arith), other 2 h (omega arith), other 3 h (omega arith), other 4 h (omega arith), other 5 h (omega arith), other 6 h (omega arith)) refl

up : (a k : ℕ) → a < 7 → follows a k ≡ true → (k < 7) × ((rank a ≤ rank k) × (rank k ≤ 5))
up a k h e = (l, (leb-true (rank a) (rank k) (and_left _ (leb (rank k) 5) said), leb-true (rank k) 5 (and_right (leb (rank a) (rank k)) _ said)))
  where
    l : k < 7
    l = few a k e

    number : (n : ℕ) → n < 7 → get_or (from 0 7) n 0 ≡ n
    number n m = from_at 0 7 n 0 m ∙ zero-add n

    at : goes_up a k ≡ true
    at =
        ap (goes_up a) (sym (number k l))
        ∙ every_at (goes_up a) (from 0 7) k 0
        (subst (λ (x : ℕ). every? (goes_up x) (from 0 7) ≡ true) (number a h) (every_at (λ x. every? (goes_up x) (from 0 7)) (from 0 7) a 0 all_up h)) l

    said : leb (rank a) (rank k) && leb (rank k) 5 ≡ true
    said = sym (ap (λ (t : Bool). not t || (leb (rank a) (rank k) && leb (rank k) 5)) e) ∙ at

module _ (d : ℕ) where
  -- those after one of kind a
  up_on : (a : ℕ) (ks : List ℕ) → a < 7 → stand_after a ks ≡ true → (i : ℕ) → i < length ks → (rank a ≤ rank (get_or ks i d)) × (rank (get_or ks i d) ≤ 5)
  unfolding stand_after
  up_on a [] h s i l = absurd (not-suc-le-zero l)
  up_on a (k ∷ r) h s zero l = (up a k h (and_left (follows a k) (stand_after k r) s)).1
  up_on a (k ∷ r) h s (suc i) l =
      let u = up a k h (and_left (follows a k) (stand_after k r) s) in
      let v = up_on k r u.0 (and_right (follows a k) (stand_after k r) s) i (le_of_suc-le-suc l) in
      (omega (arith, u.1.0, v.0), v.1)

  climbs_on : (a : ℕ) (ks : List ℕ) → a < 7 → stand_after a ks ≡ true → Climbs rank (a ∷ ks) d
  unfolding stand_after
  climbs_on a ks h s zero zero l m = omega arith
  climbs_on a ks h s zero (suc j) l m = (up_on a ks h s j (le_of_suc-le-suc m)).0
  climbs_on a ks h s (suc i) zero l m = absurd (not-suc-le-zero l)
  climbs_on a [] h s (suc i) (suc j) l m = absurd (not-suc-le-zero (le_of_suc-le-suc m))
  climbs_on a (k ∷ r) h s (suc i) (suc j) l m =
      climbs_on k r (few a k (and_left (follows a k) (stand_after k r) s)) (and_right (follows a k) (stand_after k r) s) i j (le_of_suc-le-suc l) (le_of_suc-le-suc m)

  pub ranks_climb : (ks : List ℕ) → stand ks ≡ true → Climbs rank ks d
  unfolding stand
  ranks_climb [] s = both_ways s refl
  ranks_climb (k ∷ r) s = climbs_on k r (omega (arith, eqb-true k 0 (and_left (eqb k 0) (stand_after k r) s))) (and_right (eqb k 0) (stand_after k r) s)

  pub ranks_end : (ks : List ℕ) → stand ks ≡ true → (i : ℕ) → i < length ks → rank (get_or ks i d) ≤ 5
  unfolding stand
  ranks_end [] s i l = both_ways s refl
  ranks_end (k ∷ r) s zero l = rw (eqb-true k 0 (and_left (eqb k 0) (stand_after k r) s)) zero-le
  ranks_end (k ∷ r) s (suc i) l =
      (up_on k r (omega (arith, eqb-true k 0 (and_left (eqb k 0) (stand_after k r) s))) (and_right (eqb k 0) (stand_after k r) s) i (le_of_suc-le-suc l)).1

-- ---- the ranks by place, the char at c

late : (k : ℕ) → 3 ≤ k → 3 ≤ rank k
late zero h = absurd (omega arith)
late (suc zero) h = absurd (omega arith)
late (suc (suc zero)) h = absurd (omega arith)
late (suc (suc (suc zero))) h = omega arith
late (suc (suc (suc (suc zero)))) h = omega arith
late (suc (suc (suc (suc (suc zero))))) h = omega arith
late (suc (suc (suc (suc (suc (suc zero)))))) h = omega arith
late (suc (suc (suc (suc (suc (suc (suc k))))))) h = omega arith

module _ {c i k : ℕ} (early : 1 ≤ c) where
  pub ship_rank : i < 1 → Place c i k → rank k < 1
  ship_rank l (ship p q) = rw q (omega arith)
  ship_rank l (mode m n q) = absurd (omega arith)
  ship_rank l (char p q) = absurd (omega arith)
  ship_rank l (later m q) = absurd (omega arith)

  pub past_ship_rank : 1 ≤ i → Place c i k → 1 ≤ rank k
  past_ship_rank l (ship p q) = absurd (omega arith)
  past_ship_rank l (mode m n q) = rw q (omega arith)
  past_ship_rank l (char p q) = rw q (omega arith)
  past_ship_rank l (later m q) = omega (arith, late k q)

  pub char_rank : i ≤ c → Place c i k → rank k < 3
  char_rank l (ship p q) = rw q (omega arith)
  char_rank l (mode m n q) = rw q (omega arith)
  char_rank l (char p q) = rw q (omega arith)
  char_rank l (later m q) = absurd (omega arith)

  pub past_char_rank : c < i → Place c i k → 3 ≤ rank k
  past_char_rank l (ship p q) = absurd (omega arith)
  past_char_rank l (mode m n q) = absurd (omega arith)
  past_char_rank l (char p q) = absurd (omega arith)
  past_char_rank l (later m q) = late k q
