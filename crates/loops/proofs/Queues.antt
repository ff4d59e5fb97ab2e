-- A row in the queue: there is room for each that does not have the mark.
use Prim.Native.Nat.{ℕ, zero, suc, ◌+◌, ◌≤◌, ◌<◌}
use native.Mathlib.Decide.{ℕ_discrete}
use native.Mathlib.Omega.{arith}
use mathlib.Core.Path.{◌≡◌, refl, ap, ◌∙◌}
use mathlib.Core.Bool.{Bool, true, false, not}
use mathlib.Core.List.{List}
use borrow.Author.Tests.{eq-eqb, ne_eqb}
use lib.Dec.{eqb}
use lib.ListN.{length}
use Rattle.laws.specs.Lists.{put, keep, from}
use Rattle.laws.proofs.From.{from-length}
use Rattle.laws.proofs.Keep.{keep-length}
use Rattle.order.specs.Ranks.{num, Put}
use Rattle.order.proofs.Puts.{beside, other}
use Rattle.loops.specs.Looping.{unmarked, Queued}

-- ---- one of a run of numbers no longer passes a test

put_length : (t : Bool) (x : ℕ) (l : List ℕ) → length l ≤ length (put t x l)
put_length true x l = omega arith
put_length false x l = omega arith

put_more : (t : Bool) (x : ℕ) (l m : List ℕ) → length l + 1 ≡ length m → length (put t x l) + 1 ≡ length (put t x m)
put_more true x l m e = omega (arith, e)
put_more false x l m e = e

module _ (p : ℕ → Bool) (k : ℕ) (passes : p k ≡ true) where
  -- one that passes is counted
  counted : (a n : ℕ) → a ≤ k → k < a + n → 1 ≤ length (keep p (from a n))
  counted a zero l h = absurd (omega (arith, l, h))
  counted a (suc n) l h = elim (ℕ_discrete a k) [
    | yes e ↦ here e
    | no e ↦ let rest = counted (suc a) n (omega (arith, l, e)) (omega (arith, h)) in omega (arith, rest, put_length (p a) a (keep p (from (suc a) n)))
  ]
    where
      here : a ≡ k → 1 ≤ length (put (p a) a (keep p (from (suc a) n)))
      here e = rw (ap p e ∙ passes) (omega arith)

  module _ (q : ℕ → Bool) (fails : q k ≡ false) (others : (j : ℕ) → (j ≡ k → ⊥) → q j ≡ p j) where
    later : (a n : ℕ) → k < a → keep q (from a n) ≡ keep p (from a n)
    later a zero l = refl
    later a (suc n) l = rw (others a (λ e. omega (arith, e, l)), later (suc a) n (omega (arith, l))) refl

    fewer : (a n : ℕ) → a ≤ k → k < a + n → length (keep q (from a n)) + 1 ≡ length (keep p (from a n))
    fewer a zero l h = absurd (omega (arith, l, h))
    fewer a (suc n) l h = elim (ℕ_discrete a k) [
      | yes e ↦ here e
      | no e ↦ rw (others a e) (put_more (p a) a (keep q (from (suc a) n)) (keep p (from (suc a) n)) (fewer (suc a) n (omega (arith, l, e)) (omega (arith, h))))
    ]
      where
        here : a ≡ k → length (put (q a) a (keep q (from (suc a) n))) + 1 ≡ length (put (p a) a (keep p (from (suc a) n)))
        here e = rw (ap q e ∙ fails, ap p e ∙ passes, later (suc a) n (omega (arith, e))) (omega arith)

-- ---- rows

pub unmarked_few : (m : ℕ) (c : List (List ℕ)) → unmarked m c ≤ length c
unmarked_few m c = omega (arith, keep-length (λ j. not (eqb (num c j 0) m)) (from 0 (length c)), from-length 0 (length c))

module _ (m k end : ℕ) (c : List (List ℕ)) (room : end + unmarked m c ≤ length c) where
  pub queued_kept : num c k 0 ≡ m → Queued m k end end c c
  queued_kept e =
      record {
        room = room;
        grows = omega arith;
        marked = e;
        marks = λ j n. refl;
        before = λ q l. refl;
        behind = λ q l h. absurd (omega (arith, l, h));
        new = λ n. absurd (n e);
      }

  module _ (inside : k < length c) (n : num c k 0 ≡ m → ⊥) where
    passes : not (eqb (num c k 0) m) ≡ true
    passes = ap not (ne_eqb (num c k 0) m n)

    pub room_left : end < length c
    room_left = omega (arith, room, counted (λ j. not (eqb (num c j 0) m)) k passes 0 (length c) (omega arith) (omega (arith, inside)))

    pub queued_new : {c₁ c₂ : List (List ℕ)} → Put c k 0 m c₁ → Put c₁ end 3 k c₂ → length c₂ ≡ length c → Queued m k end (end + 1) c c₂
    queued_new {c₁} {c₂} p q same =
        record {
          room = omega (arith, room, less, ap (λ (l : ℕ). length (keep (λ j. not (eqb (num c₂ j 0) m)) (from 0 l))) same);
          grows = omega arith;
          marked = beside q k 0 tt tt ∙ p.here;
          marks = mark;
          before = λ i l. other q i 3 tt (λ e. omega (arith, e, l)) ∙ beside p i 3 tt tt;
          behind = λ i l h. let last : i ≡ end = omega (arith, l, h) in ap (λ (x : ℕ). num c₂ x 3) last ∙ q.here;
          new = λ u. refl;
        }
      where
        mark : (j : ℕ) → (j ≡ k → ⊥) → num c₂ j 0 ≡ num c j 0
        mark j e = beside q j 0 tt tt ∙ other p j 0 tt e

        less : length (keep (λ j. not (eqb (num c₂ j 0) m)) (from 0 (length c))) + 1 ≡ unmarked m c
        less =
            fewer (λ j. not (eqb (num c j 0) m)) k passes (λ j. not (eqb (num c₂ j 0) m)) (ap not (eq-eqb (num c₂ k 0) m (beside q k 0 tt tt ∙ p.here))) (λ j e. ap (λ (x : ℕ). not (eqb x m)) (mark j e)) 0 (length c) (omega arith)
            (omega (arith, inside))
