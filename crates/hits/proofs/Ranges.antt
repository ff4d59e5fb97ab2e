-- Numbers in a range: keeping those in it is keeping from it; and what keeping does with two parts of a list.
use Prim.Native.Nat.{ℕ, zero, suc, ◌+◌, ◌-◌, ◌≤◌, ◌<◌}
use native.Mathlib.Nat.{zero-add}
use native.Mathlib.Omega.{arith}
use mathlib.Core.Path.{◌≡◌, refl, sym, ap, ◌∙◌}
use mathlib.Core.Bool.{Bool, true, false, not, ◌&&◌, cond}
use mathlib.Core.List.{List, [], ◌++◌, map, append-nil}
use lib.Dec.{leb, ltb}
use lib.ListN.{length, get_or}
use borrow.Author.Tests.{le-leb, lt-leb, lt-ltb, le-ltb}
use Rattle.laws.specs.Lists.{put, keep, from}
use Rattle.laws.proofs.Bools.{and_false_right}
use Rattle.laws.proofs.Keep.{keep_append, keep-keep, keep-nothing}
use Rattle.laws.proofs.From.{from_append, table_of}

-- tests that agree on the numbers
pub keep-from_same : (p q : ℕ → Bool) (a n : ℕ) → ((i : ℕ) → a ≤ i → i < a + n → p i ≡ q i) → keep p (from a n) ≡ keep q (from a n)
keep-from_same p q a zero e = refl
keep-from_same p q a (suc n) e = rw (e a (omega arith) (omega arith), keep-from_same p q (suc a) n (λ i l m. e i (omega arith) (omega arith))) refl

keep-from_none : (p : ℕ → Bool) (a n : ℕ) → ((i : ℕ) → a ≤ i → i < a + n → p i ≡ false) → keep p (from a n) ≡ []
keep-from_none p a n e = keep-from_same p (λ i. false) a n e ∙ keep-nothing (from a n)

module _ (q : ℕ → Bool) (a m n : ℕ) where
  ranged : ℕ → Bool
  ranged i = (leb a i && ltb i (a + m)) && q i

  before : keep ranged (from 0 a) ≡ []
  unfolding ranged
  before = keep-from_none _ 0 a (λ i l h. rw (lt-leb a i (omega arith)) refl)

  in_it : keep ranged (from a m) ≡ keep q (from a m)
  unfolding ranged
  in_it = keep-from_same _ _ a m (λ i l h. rw (le-leb a i l, lt-ltb i (a + m) h) refl)

  after : keep ranged (from (a + m) n) ≡ []
  unfolding ranged
  after = keep-from_none _ (a + m) n (λ i l h. rw (le-ltb i (a + m) l) (ap (λ (t : Bool). t && q i) (and_false_right (leb a i))))

  keep_middle : keep (λ i. (leb a i && ltb i (a + m)) && q i) (from 0 (a + (m + n))) ≡ keep q (from a m)
  unfolding ranged
  keep_middle =
      ap (keep ranged) (from_append 0 a (m + n))
      ∙ keep_append ranged (from 0 a) (from (0 + a) (m + n))
      ∙ ap (λ (l : List ℕ). l ++ keep ranged (from (0 + a) (m + n))) before
      ∙ ap (λ (k : ℕ). keep ranged (from k (m + n))) (zero-add a)
      ∙ ap (keep ranged) (from_append a m n)
      ∙ keep_append ranged (from a m) (from (a + m) n)
      ∙ ap (λ (l : List ℕ). keep ranged (from a m) ++ l) after
      ∙ append-nil (keep ranged (from a m))
      ∙ in_it

pub keep_range : (q : ℕ → Bool) (a e n : ℕ) → a ≤ e → e ≤ n → keep (λ i. (leb a i && ltb i e) && q i) (from 0 n) ≡ keep q (from a (e - a))
keep_range q a e n h l =
    ap (λ (x : ℕ). keep (λ i. (leb a i && ltb i x) && q i) (from 0 n)) there
    ∙ ap (λ (x : ℕ). keep (λ i. (leb a i && ltb i (a + (e - a))) && q i) (from 0 x)) all
    ∙ keep_middle q a (e - a) (n - e)
  where
    there : e ≡ a + (e - a)
    there = omega arith

    all : n ≡ a + (e - a + (n - e))
    all = omega arith

-- elements that are numbered: what is kept, by number
module _ {A : Type 0} (g : ℕ → A) (number : A → ℕ) where
  put_number : (t : Bool) (i : ℕ) (l : List ℕ) (m : List A) → number (g i) ≡ i → map number m ≡ l → map number (put t (g i) m) ≡ put t i l
  put_number true i l m e h = rw (e, h) refl
  put_number false i l m e h = h

  keep_numbers : (p : A → Bool) (a n : ℕ) → ((i : ℕ) → a ≤ i → i < a + n → number (g i) ≡ i) → map number (keep p (map g (from a n))) ≡ keep (λ i. p (g i)) (from a n)
  keep_numbers p a zero e = refl
  keep_numbers p a (suc n) e =
      put_number (p (g a)) a (keep (λ i. p (g i)) (from (suc a) n)) (keep p (map g (from (suc a) n))) (e a (omega arith) (omega arith))
      (keep_numbers p (suc a) n (λ i l m. e i (omega arith) (omega arith)))

pub kept_numbers : {A : Type 0} (number : A → ℕ) (p : A → Bool) (xs : List A) (d : A) → ((i : ℕ) → i < length xs → number (get_or xs i d) ≡ i) → map number (keep p xs) ≡ keep (λ i. p (get_or xs i d)) (from 0 (length xs))
kept_numbers number p xs d e =
    ap (λ l. map number (keep p l)) (sym (table_of xs d))
    ∙ keep_numbers (λ k. get_or xs k d) number p 0 (length xs) (λ i l m. e i (rw zero-add at m))

-- some of a list put last
pub keep_parted : {A : Type 0} (b : Bool) (q h : A → Bool) (xs : List A) → keep h (cond b (keep (λ x. not (q x)) xs ++ keep q xs) xs) ≡ keep (λ x. not (b && q x) && h x) xs ++ keep (λ x. (b && q x) && h x) xs
keep_parted true q h xs =
    keep_append h (keep (λ x. not (q x)) xs) (keep q xs)
    ∙ ap (λ l. l ++ keep h (keep q xs)) (keep-keep h (λ x. not (q x)) xs)
    ∙ ap (λ l. keep (λ x. not (q x) && h x) xs ++ l) (keep-keep h q xs)
keep_parted false q h xs = sym (ap (λ l. keep h xs ++ l) (keep-nothing xs) ∙ append-nil (keep h xs))
