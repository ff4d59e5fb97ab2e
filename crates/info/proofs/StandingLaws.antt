-- Where the kinds stand: the ship first, then the char, perhaps after a mode; what follows is neither, and skills stand last.
use Prim.Native.Nat.{ℕ, zero, suc, ◌≤◌, ◌<◌}
use native.Mathlib.Nat.{le_of_suc-le-suc, not-suc-le-zero}
use native.Mathlib.Omega.{arith}
use mathlib.Core.Path.{◌≡◌, refl}
use mathlib.Core.Bool.{true, ◌&&◌, ◌||◌, not, cond}
use mathlib.Core.List.{List, [], ◌∷◌}
use lib.Dec.{eqb, leb}
use lib.ListN.{length, get_or}
use borrow.Author.Tests.{eqb-true, eqb-false, leb-true, not-true}
use Rattle.laws.proofs.Bools.{and_left, and_right, both_ways, either}
use Rattle.rules.specs.Shape.{follows, stand_after, stand}

-- what stands right after one of kind a
pub data Next (a k : ℕ) : Type 0 where
  mode : a ≡ 0 → k ≡ 1 → Next a k
  char : a ≤ 1 → k ≡ 2 → Next a k
  later : 2 ≤ a → 3 ≤ k → (a ≡ 5 → k ≡ 5) → Next a k

pub next : (a k : ℕ) → follows a k ≡ true → Next a k
unfolding follows
next a k =
    either _ _
    (either _ _
    (either _ _
    (either _ _
    (either _ _ (λ e. mode (eqb-true a 0 (and_right (eqb k 1) _ e)) (eqb-true k 1 (and_left _ (eqb a 0) e)))
    (λ e. char (leb-true a 1 (and_right (eqb k 2) _ e)) (eqb-true k 2 (and_left _ (leb a 1) e))))
    (λ e. projected (eqb-true k 6 (and_left _ (eqb a 2 || eqb a 6) e)) (and_right (eqb k 6) _ e)))
    (λ e. item (eqb-true k 3 (and_left _ (leb 2 a && not (eqb a 5)) e)) (and_right (eqb k 3) _ e)))
    (λ e. charge (eqb-true k 4 (and_left _ (eqb a 3) e)) (eqb-true a 3 (and_right (eqb k 4) _ e))))
    (λ e. skill (eqb-true k 5 (and_left _ (leb 2 a) e)) (leb-true 2 a (and_right (eqb k 5) _ e)))
  where
    projected : k ≡ 6 → eqb a 2 || eqb a 6 ≡ true → Next a k
    projected k6 =
        either _ _ (λ e. let a2 = eqb-true a 2 e in later (omega arith) (omega arith) (λ a5. absurd (omega arith)))
        (λ e. let a6 = eqb-true a 6 e in later (omega arith) (omega arith) (λ a5. absurd (omega arith)))

    item : k ≡ 3 → leb 2 a && not (eqb a 5) ≡ true → Next a k
    item k3 e =
        later (leb-true 2 a (and_left _ (not (eqb a 5)) e)) (omega arith)
        (λ a5. absurd (eqb-false a 5 (not-true (eqb a 5) (and_right (leb 2 a) _ e)) a5))

    charge : k ≡ 4 → a ≡ 3 → Next a k
    charge k4 a3 = later (omega arith) (omega arith) (λ a5. absurd (omega arith))

    skill : k ≡ 5 → 2 ≤ a → Next a k
    skill k5 a2 = later a2 (omega arith) (λ a5. k5)

-- none after the char is ship, mode or char; after a skill there are only skills
three : {a k : ℕ} → 2 ≤ a → Next a k → 3 ≤ k
three h (mode p q) = absurd (omega arith)
three h (char p q) = absurd (omega arith)
three h (later p q n) = q

five : {a k : ℕ} → a ≡ 5 → Next a k → k ≡ 5
five h (mode p q) = absurd (omega arith)
five h (char p q) = absurd (omega arith)
five h (later p q n) = n h

later_on : (a : ℕ) (ks : List ℕ) → 2 ≤ a → stand_after a ks ≡ true → (i d : ℕ) → i < length ks → 3 ≤ get_or ks i d
unfolding stand_after
later_on a [] h s i d l = absurd (not-suc-le-zero l)
later_on a (k ∷ r) h s zero d l = three h (next a k (and_left (follows a k) (stand_after k r) s))
later_on a (k ∷ r) h s (suc i) d l =
    let past : 3 ≤ k = three h (next a k (and_left (follows a k) (stand_after k r) s)) in
    later_on k r (omega arith) (and_right (follows a k) (stand_after k r) s) i d (le_of_suc-le-suc l)

skills_on : (a : ℕ) (ks : List ℕ) → a ≡ 5 → stand_after a ks ≡ true → (i d : ℕ) → i < length ks → get_or ks i d ≡ 5
unfolding stand_after
skills_on a [] h s i d l = absurd (not-suc-le-zero l)
skills_on a (k ∷ r) h s zero d l = five h (next a k (and_left (follows a k) (stand_after k r) s))
skills_on a (k ∷ r) h s (suc i) d l =
    skills_on k r (five h (next a k (and_left (follows a k) (stand_after k r) s))) (and_right (follows a k) (stand_after k r) s) i d (le_of_suc-le-suc l)

skills_last : (a : ℕ) (ks : List ℕ) → stand_after a ks ≡ true → (i j d : ℕ) → i ≤ j → j < length ks → get_or ks i d ≡ 5 → get_or ks j d ≡ 5
unfolding stand_after
skills_last a [] s i j d l m e = absurd (not-suc-le-zero m)
skills_last a (k ∷ r) s zero zero d l m e = e
skills_last a (k ∷ r) s zero (suc j) d l m e = skills_on k r e (and_right (follows a k) (stand_after k r) s) j d (le_of_suc-le-suc m)
skills_last a (k ∷ r) s (suc i) zero d l m e = absurd (not-suc-le-zero l)
skills_last a (k ∷ r) s (suc i) (suc j) d l m e = skills_last k r (and_right (follows a k) (stand_after k r) s) i j d (le_of_suc-le-suc l) (le_of_suc-le-suc m) e

-- of what kind the one at i is, where the char is at c
pub data Place (c i k : ℕ) : Type 0 where
  ship : i ≡ 0 → k ≡ 0 → Place c i k
  mode : 1 ≤ i → i < c → k ≡ 1 → Place c i k
  char : i ≡ c → k ≡ 2 → Place c i k
  later : c < i → 3 ≤ k → Place c i k

pub record Standing (ks : List ℕ) (d : ℕ) : Type 0 where
  pub at : ℕ
  pub test : cond (eqb (get_or ks 1 d) 2) 1 2 ≡ at
  pub early : 1 ≤ at
  pub inside : at < length ks
  pub place : (i : ℕ) → i < length ks → Place at i (get_or ks i d)
  pub skills : (i j : ℕ) → i ≤ j → j < length ks → get_or ks i d ≡ 5 → get_or ks j d ≡ 5

module _ (d : ℕ) where
  -- the ship, the char, the rest
  plain : (k : ℕ) (r : List ℕ) → k ≡ 2 → stand_after 0 (k ∷ r) ≡ true → Standing (0 ∷ k ∷ r) d
  unfolding stand_after
  plain k r e s =
      record {
        at = 1;
        test = rw e refl;
        early = omega arith;
        inside = omega arith;
        place = place;
        skills = λ i j l m t. last i j l m t;
      }
    where
      rest : stand_after k r ≡ true
      rest = and_right (follows 0 k) (stand_after k r) s

      place : (i : ℕ) → i < length (0 ∷ k ∷ r) → Place 1 i (get_or (0 ∷ k ∷ r) i d)
      place zero l = ship refl refl
      place (suc zero) l = char refl e
      place (suc (suc i)) l = later (omega arith) (later_on k r (omega arith) rest i d (omega arith))

      last : (i j : ℕ) → i ≤ j → j < length (0 ∷ k ∷ r) → get_or (0 ∷ k ∷ r) i d ≡ 5 → get_or (0 ∷ k ∷ r) j d ≡ 5
      last zero j l m t = absurd (omega arith)
      last (suc i) zero l m t = absurd (not-suc-le-zero l)
      last (suc i) (suc j) l m t = skills_last 0 (k ∷ r) s i j d (le_of_suc-le-suc l) (le_of_suc-le-suc m) t

  -- the ship, its mode, the char, the rest
  moded : (k k' : ℕ) (r : List ℕ) → k ≡ 1 → k' ≡ 2 → stand_after 0 (k ∷ k' ∷ r) ≡ true → Standing (0 ∷ k ∷ k' ∷ r) d
  unfolding stand_after
  moded k k' r e e' s =
      record {
        at = 2;
        test = rw e refl;
        early = omega arith;
        inside = omega arith;
        place = place;
        skills = λ i j l m t. last i j l m t;
      }
    where
      rest : stand_after k' r ≡ true
      rest = and_right (follows k k') (stand_after k' r) (and_right (follows 0 k) (stand_after k (k' ∷ r)) s)

      place : (i : ℕ) → i < length (0 ∷ k ∷ k' ∷ r) → Place 2 i (get_or (0 ∷ k ∷ k' ∷ r) i d)
      place zero l = ship refl refl
      place (suc zero) l = mode (omega arith) (omega arith) e
      place (suc (suc zero)) l = char refl e'
      place (suc (suc (suc i))) l = later (omega arith) (later_on k' r (omega arith) rest i d (omega arith))

      last : (i j : ℕ) → i ≤ j → j < length (0 ∷ k ∷ k' ∷ r) → get_or (0 ∷ k ∷ k' ∷ r) i d ≡ 5 → get_or (0 ∷ k ∷ k' ∷ r) j d ≡ 5
      last zero j l m t = absurd (omega arith)
      last (suc i) zero l m t = absurd (not-suc-le-zero l)
      last (suc i) (suc j) l m t = skills_last 0 (k ∷ k' ∷ r) s i j d (le_of_suc-le-suc l) (le_of_suc-le-suc m) t

  after_mode : (k : ℕ) (r : List ℕ) → k ≡ 1 → stand_after 0 (k ∷ r) ≡ true → Standing (0 ∷ k ∷ r) d
  unfolding stand_after
  after_mode k [] e s = both_ways (and_right (follows 0 k) (leb 2 k) s) (rw e refl)
  after_mode k (k' ∷ r) e s = two (next k k' (and_left (follows k k') (stand_after k' r) (and_right (follows 0 k) (stand_after k (k' ∷ r)) s)))
    where
      two : Next k k' → Standing (0 ∷ k ∷ k' ∷ r) d
      two (mode p q) = absurd (omega arith)
      two (char p q) = moded k k' r e q s
      two (later p q n) = absurd (omega arith)

  after_ship : (ks : List ℕ) → stand_after 0 ks ≡ true → Standing (0 ∷ ks) d
  unfolding stand_after
  after_ship [] s = both_ways s refl
  after_ship (k ∷ r) s = by (next 0 k (and_left (follows 0 k) (stand_after k r) s))
    where
      by : Next 0 k → Standing (0 ∷ k ∷ r) d
      by (mode p q) = after_mode k r q s
      by (char p q) = plain k r q s
      by (later p q n) = absurd (omega arith)

  pub standing : (ks : List ℕ) → stand ks ≡ true → Standing ks d
  unfolding stand
  standing [] s = both_ways s refl
  standing (k ∷ r) s = from_ship k (eqb-true k 0 (and_left (eqb k 0) (stand_after k r) s)) (and_right (eqb k 0) (stand_after k r) s)
    where
      from_ship : (k : ℕ) → k ≡ 0 → stand_after k r ≡ true → Standing (k ∷ r) d
      from_ship k e t = rw e (after_ship r (rw e at t))
