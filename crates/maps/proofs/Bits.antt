-- Words made of tests: their ones are those that pass; two cut by each other, or joined, are those that pass both, or one; a bit more.
use Prim.Native.Nat.{ℕ, zero, suc, ◌+◌, ◌*◌, ◌/◌, ◌%◌, ◌^◌, ◌≤◌, ◌<◌}
use native.Mathlib.Omega.{arith}
use native.Mathlib.Nat.{add-zero, le_of_suc-le-suc, pow-suc}
use native.Mathlib.Numerals.{add-one}
use mathlib.Core.Path.{◌≡◌, refl, sym, ap, ◌∙◌}
use mathlib.Core.Bool.{Bool, true, false, ◌&&◌, ◌||◌}
use mathlib.Core.List.{List, [], ◌∷◌, map}
use lib.Bits.{bit_and, bit_or, and_block, or_block}
use lib.Count.{ones, ones_cat}
use lib.Dec.{eqb}
use lib.ListN.{length, get_or, set}
use lib.Pow.{shl_exact}
use lib.Seq.{get_or-set_same, get_or-set_other}
use borrow.Author.Tests.{eqb-true, eqb-false, eq-eqb, ne_eqb}
use Rattle.laws.specs.Lists.{put, keep, from}
use Rattle.laws.proofs.From.{table_same}
use Rattle.laws.proofs.Bools.{or_none_right}
use Rattle.rules.specs.Columns.{yes1}
use Rattle.maps.specs.Words.{word_of, map_word, MapAt, with_bit, places}

digit : (b : Bool) → yes1 b < 2 ^ 1
digit true = omega arith
digit false = omega arith

digit_ones : (b : Bool) → ones (yes1 b) ≡ yes1 b
unfolding ones
digit_ones true = refl
digit_ones false = refl

digit_and : (b c : Bool) → bit_and (yes1 b) (yes1 c) ≡ yes1 (b && c)
digit_and true true = refl
digit_and true false = refl
digit_and false c = refl

digit_or : (b c : Bool) → bit_or (yes1 b) (yes1 c) ≡ yes1 (b || c)
digit_or true true = refl
digit_or true false = refl
digit_or false true = refl
digit_or false false = refl

put_length : {A : Type 0} (b : Bool) (x : A) (l : List A) → length (put b x l) ≡ length l + yes1 b
put_length true x l = omega arith
put_length false x l = omega arith

module _ {A : Type 0} where
  pub word_ones : (p : A → Bool) (l : List A) → ones (word_of (map p l)) ≡ length (keep p l)
  unfolding ones
  word_ones p [] = refl
  word_ones p (x ∷ l) =
      ones_cat 1 (word_of (map p l)) (yes1 (p x)) (digit (p x))
      ∙ ap (λ (n : ℕ). n + ones (yes1 (p x))) (word_ones p l) ∙ ap (λ (n : ℕ). length (keep p l) + n) (digit_ones (p x))
      ∙ sym (put_length (p x) x (keep p l))

  pub word_and : (p q : A → Bool) (l : List A) → bit_and (word_of (map p l)) (word_of (map q l)) ≡ word_of (map (λ x. p x && q x) l)
  word_and p q [] = refl
  word_and p q (x ∷ l) =
      and_block 1 (word_of (map p l)) (word_of (map q l)) (yes1 (p x)) (yes1 (q x)) (digit (p x)) (digit (q x))
      ∙ ap (λ (n : ℕ). n * 2 + bit_and (yes1 (p x)) (yes1 (q x))) (word_and p q l)
      ∙ ap (λ (n : ℕ). word_of (map (λ y. p y && q y) l) * 2 + n) (digit_and (p x) (q x))

  pub word_or : (p q : A → Bool) (l : List A) → bit_or (word_of (map p l)) (word_of (map q l)) ≡ word_of (map (λ x. p x || q x) l)
  word_or p q [] = refl
  word_or p q (x ∷ l) =
      or_block 1 (word_of (map p l)) (word_of (map q l)) (yes1 (p x)) (yes1 (q x)) (digit (p x)) (digit (q x))
      ∙ ap (λ (n : ℕ). n * 2 + bit_or (yes1 (p x)) (yes1 (q x))) (word_or p q l)
      ∙ ap (λ (n : ℕ). word_of (map (λ y. p y || q y) l) * 2 + n) (digit_or (p x) (q x))

-- ---- nobody, and one object alone

pub word_none : (a n : ℕ) → word_of (map (λ (i : ℕ). false) (from a n)) ≡ 0
word_none a zero = refl
word_none a (suc n) = ap (λ (x : ℕ). x * 2 + 0) (word_none (suc a) n)

other_word : (a n i : ℕ) → i < a → word_of (map (λ j. eqb j i) (from a n)) ≡ 0
other_word a n i h = ap word_of (table_same (λ j. eqb j i) (λ j. false) a n (λ j l m. ne_eqb j i (λ e. absurd (omega arith)))) ∙ word_none a n

pub word_bit : (a n k : ℕ) → k < n → word_of (map (λ j. eqb j (a + k)) (from a n)) ≡ 2 ^ k
word_bit a zero k h = absurd (omega arith)
word_bit a (suc n) zero h =
    ap (λ (x : ℕ). x * 2 + yes1 (eqb a (a + 0))) (other_word (suc a) n (a + 0) (omega arith))
    ∙ ap (λ (b : Bool). 0 * 2 + yes1 b) (eq-eqb a (a + 0) (sym (add-zero a)))
word_bit a (suc n) (suc k) h =
    ap (λ (b : Bool). word_of (map (λ j. eqb j (a + suc k)) (from (suc a) n)) * 2 + yes1 b) (ne_eqb a (a + suc k) (λ e. absurd (omega arith)))
    ∙ ap (λ (i : ℕ). word_of (map (λ j. eqb j i) (from (suc a) n)) * 2 + 0) on
    ∙ ap (λ (x : ℕ). x * 2 + 0) (word_bit (suc a) n k (le_of_suc-le-suc h))
    ∙ add-zero (2 ^ k * 2)
    ∙ sym (pow-suc 2 k)
  where
    on : a + suc k ≡ suc a + k
    on = omega arith

-- ---- the map of a test

pub map_same : (p q : ℕ → Bool) (w : ℕ) → ((i : ℕ) → w * 64 ≤ i → i < w * 64 + 64 → p i ≡ q i) → map_word p w ≡ map_word q w
unfolding map_word
map_same p q w e = ap word_of (table_same p q (w * 64) 64 e)

pub map_none : (w : ℕ) → map_word (λ i. false) w ≡ 0
unfolding map_word
map_none w = word_none (w * 64) 64

-- object i more, in its word and in the others
module _ (p : ℕ → Bool) (i : ℕ) where
  here : (w : ℕ) → i / 64 ≡ w → bit_or (map_word p w) (2 ^ (i % 64)) ≡ map_word (λ j. p j || eqb j i) w
  unfolding map_word
  here w e =
      ap (bit_or (word_of (map p (from (w * 64) 64)))) (sym (word_bit (w * 64) 64 (i % 64) (omega arith)))
      ∙ ap (λ (n : ℕ). bit_or (word_of (map p (from (w * 64) 64))) (word_of (map (λ j. eqb j n) (from (w * 64) 64)))) whole
      ∙ word_or p (λ j. eqb j i) (from (w * 64) 64)
    where
      whole : w * 64 + i % 64 ≡ i
      whole = omega (arith, e)

  there : (w : ℕ) → (i / 64 ≡ w → ⊥) → map_word p w ≡ map_word (λ j. p j || eqb j i) w
  there w n =
      map_same p (λ j. p j || eqb j i) w
      (λ j l m. sym (ap (λ (b : Bool). p j || b) (ne_eqb j i (λ e. n (omega (arith, e, l, m)))) ∙ or_none_right (p j)))

-- the bit as the code shifts it
pub bit_written : (ws : List ℕ) (a i : ℕ) → set ws (a + i / 64) (bit_or (get_or ws (a + i / 64) 0) ((1 * 2 ^ (i % 64)) % 2 ^ 64)) ≡ with_bit ws a i
bit_written ws a i = ap (λ (x : ℕ). set ws (a + i / 64) (bit_or (get_or ws (a + i / 64) 0) x)) (shl_exact {a = 1} 1 (i % 64) 64 (omega arith) (omega arith) ∙ one)
  where
    one : 1 * 2 ^ (i % 64) ≡ 2 ^ (i % 64)
    one = omega arith

-- the same in words that are lent: those of the map, and those outside of it
module _ (ws : List ℕ) (a i : ℕ) where
  pub bit_elsewhere : (b : ℕ) → (b ≡ a + i / 64 → ⊥) → get_or (with_bit ws a i) b 0 ≡ get_or ws b 0
  bit_elsewhere b n = get_or-set_other ws (a + i / 64) b (bit_or (get_or ws (a + i / 64) 0) (2 ^ (i % 64))) 0 n

  pub bit_set : (n : ℕ) (p : ℕ → Bool) → a + n ≤ length ws → i < n * 64 → MapAt ws a n p → MapAt (with_bit ws a i) a n (λ j. p j || eqb j i)
  bit_set n p l h M w m = by (eqb w (i / 64)) refl
    where
      inside : i / 64 < n
      inside = omega (arith, h)

      by : (t : Bool) → eqb w (i / 64) ≡ t → get_or (with_bit ws a i) (a + w) 0 ≡ map_word (λ j. p j || eqb j i) w
      by true e =
          let q : w ≡ i / 64 = eqb-true w (i / 64) e in
          ap (λ (x : ℕ). get_or (with_bit ws a i) (a + x) 0) q
          ∙ get_or-set_same ws (a + i / 64) (bit_or (get_or ws (a + i / 64) 0) (2 ^ (i % 64))) 0 (omega (arith, l, inside))
          ∙ ap (λ (x : ℕ). bit_or x (2 ^ (i % 64))) (M (i / 64) inside)
          ∙ here p i (i / 64) refl
          ∙ ap (map_word (λ j. p j || eqb j i)) (sym q)
      by false e =
          bit_elsewhere (a + w) (λ q. eqb-false w (i / 64) e (omega (arith, q)))
          ∙ M w m ∙ there p i w (λ q. eqb-false w (i / 64) e (sym q))

-- ---- the places of the ones

half_of : (n : ℕ) (b : Bool) → (n * 2 + yes1 b) / 2 ≡ n
half_of n true = omega arith
half_of n false = omega arith

rest_of : (n : ℕ) (b : Bool) → (n * 2 + yes1 b) % 2 ≡ yes1 b
rest_of n true = omega arith
rest_of n false = omega arith

is_one : (b : Bool) → eqb (yes1 b) 1 ≡ b
is_one true = refl
is_one false = refl

-- the places of the ones of a test's word are the numbers that pass it
pub word-places : (p : ℕ → Bool) (i n : ℕ) → places i n (word_of (map p (from i n))) ≡ keep p (from i n)
unfolding places
word-places p i zero = refl
word-places p i (suc n) =
    ap (λ (d : ℕ). put (eqb d 1) i (places (i + 1) n ((word_of (map p (from (suc i) n)) * 2 + yes1 (p i)) / 2))) (rest_of (word_of (map p (from (suc i) n))) (p i))
    ∙ ap (λ (y : ℕ). put (eqb (yes1 (p i)) 1) i (places (i + 1) n y)) (half_of (word_of (map p (from (suc i) n))) (p i))
    ∙ ap (λ (b : Bool). put b i (places (i + 1) n (word_of (map p (from (suc i) n))))) (is_one (p i))
    ∙ ap (λ (j : ℕ). put (p i) i (places j n (word_of (map p (from (suc i) n))))) (add-one i)
    ∙ ap (λ (l : List ℕ). put (p i) i l) (word-places p (suc i) n)
