-- Two sheets whose bytes differ in asks, depth and recording alone: they read as one book, and as fits that differ in those alone.
use Prim.Native.Nat.{ℕ, zero, suc, ◌+◌, ◌-◌, ◌*◌, ◌≤◌, ◌<◌}
use native.Mathlib.Nat.{mul-le-mul_left, mul-suc}
use native.Mathlib.Omega.{arith}
use mathlib.Core.Path.{◌≡◌, refl, sym, ap, subst, ◌∙◌}
use mathlib.Core.Bool.{true, cond}
use mathlib.Core.List.{List, [], ◌∷◌, map}
use lib.Dec.{leb, eqb}
use lib.ListN.{length, get_or, take, drop}
use lib.Seq.{get_or-take, take-take, drop-drop}
use Rattle.laws.specs.Lists.{from, every?}
use Rattle.laws.proofs.From.{table_same}
use Rattle.laws.proofs.Spans.{span_at}
use Rattle.rules.specs.Answer.{ok}
use Rattle.rules.specs.Bytes.{u32_at, pairs_of, count_of, offset_of, width_of, categories_at, record_at}
use Rattle.rules.specs.Outcome.{Lent, Done, outcome}
use Rattle.rules.specs.Sheet.{attribute_from, effect_from, modifier_from, type_effect_from, buff_collection_from, object_from, base_from, id_from, buff_from, table, book_of, fit_of}
use Rattle.rules.specs.Shape.{end_of, placed, header_good}
use Rattle.rules.proofs.Places.{begins, after-header, at_80}
use Rattle.promises.specs.NoMemory.{SameButAsks, book_in, fit_in}
use Rattle.promises.specs.Sheets.{Asking}
use Rattle.promises.proofs.NoMemory.{header_good_lem}
use Rattle.promises.proofs.Sheets.{second}

-- a part of a front
front_part : (j n m : ℕ) (x : List ℕ) → j + n ≤ m → take n (drop j (take m x)) ≡ take n (drop j x)
front_part zero n m x h = take-take n m x (omega (arith, h))
front_part (suc j) n zero x h = absurd (omega (arith, h))
front_part (suc j) n (suc m) [] h = refl
front_part (suc j) n (suc m) (a ∷ x) h = front_part j n m x (omega (arith, h))

-- where the tables stand
module _ (b : List ℕ) (good : header_good b (pairs_of b) ≡ true) where
  placed-all : every? (placed (pairs_of b)) (from 0 10) ≡ true
  unfolding header_good
  placed-all = second (leb 100 (length b)) (every? (placed (pairs_of b)) (from 0 10)) (eqb (end_of (pairs_of b) 10) (length b)) (leb 1 (u32_at b 92)) (leb (u32_at b 92) 256) (leb (u32_at b 96) 1) good

  record Inside (t : ℕ) : Type 0 where
    first : 100 ≤ offset_of (pairs_of b) t
    last : offset_of (pairs_of b) t + width_of t * count_of (pairs_of b) t ≤ offset_of (pairs_of b) 10

  -- each table begins before the last does
  before_last : (j t : ℕ) → suc t + j ≡ 10 → offset_of (pairs_of b) (suc t) ≤ offset_of (pairs_of b) 10
  before_last zero t e = subst (λ (n : ℕ). offset_of (pairs_of b) n ≤ offset_of (pairs_of b) 10) (sym ten) (omega arith)
    where
      ten : suc t ≡ 10
      ten = omega (arith, e)
  before_last (suc j) t e =
      let next : offset_of (pairs_of b) (suc (suc t)) ≤ offset_of (pairs_of b) 10 = before_last j (suc t) (omega (arith, e)) in
      let step : offset_of (pairs_of b) (suc (suc t)) ≡ offset_of (pairs_of b) (suc t) + width_of (suc t) * count_of (pairs_of b) (suc t) = begins (pairs_of b) placed-all (suc t) (omega (arith, e)) in
      omega (arith, next, step)

  inside : (t : ℕ) → t < 9 → Inside (suc t)
  inside t l =
      record {
        first = after-header (pairs_of b) placed-all t (omega (arith, l));
        last = subst (λ (n : ℕ). n ≤ offset_of (pairs_of b) 10) (begins (pairs_of b) placed-all (suc t) (omega (arith, l))) (before_last (8 - t) (suc t) (omega (arith, l)));
      }

module _ (b c : List ℕ) (s : Asking b c) where
  byte_front : (i : ℕ) → i < 72 → get_or c i 0 ≡ get_or b i 0
  byte_front i h = sym (get_or-take 72 c i 0 h) ∙ ap (λ (l : List ℕ). get_or l i 0) s.front ∙ get_or-take 72 b i 0 h

  byte_header : (i : ℕ) → i < 16 → get_or c (76 + i) 0 ≡ get_or b (76 + i) 0
  byte_header i h = sym (span_at 76 16 c i 0 h) ∙ ap (λ (l : List ℕ). get_or l i 0) s.header ∙ span_at 76 16 b i 0 h

  word-front : (i : ℕ) → i + 4 ≤ 72 → u32_at c i ≡ u32_at b i
  word-front i h = rw (byte_front i (omega arith), byte_front (i + 1) (omega arith), byte_front (i + 2) (omega arith), byte_front (i + 3) (omega arith)) refl

  word_80 : u32_at c 80 ≡ u32_at b 80
  word_80 = rw (byte_header 4 (omega arith), byte_header 5 (omega arith), byte_header 6 (omega arith), byte_header 7 (omega arith)) refl

  word_84 : u32_at c 84 ≡ u32_at b 84
  word_84 = rw (byte_header 8 (omega arith), byte_header 9 (omega arith), byte_header 10 (omega arith), byte_header 11 (omega arith)) refl

  word_88 : u32_at c 88 ≡ u32_at b 88
  word_88 = rw (byte_header 12 (omega arith), byte_header 13 (omega arith), byte_header 14 (omega arith), byte_header 15 (omega arith)) refl

  -- bytes before the asks
  region : (n w : ℕ) → 100 ≤ n → n + w ≤ u32_at b 76 → take w (drop n c) ≡ take w (drop n b)
  region n w h k =
      let m = u32_at b 76 - 100 in
      let e : 100 + (n - 100) ≡ n = omega (arith, h) in
      let f : n - 100 + w ≤ m = omega (arith, h, k) in
      ap (λ (x : ℕ). take w (drop x c)) (sym e) ∙ ap (take w) (sym (drop-drop (n - 100) 100 c)) ∙ sym (front_part (n - 100) w m (drop 100 c) f)
      ∙ ap (λ (x : List ℕ). take w (drop (n - 100) x)) s.tables
      ∙ front_part (n - 100) w m (drop 100 b) f ∙ ap (take w) (drop-drop (n - 100) 100 b) ∙ ap (λ (x : ℕ). take w (drop x b)) e

  module _ (good : header_good b (pairs_of b) ≡ true) where
    read_same : {A : Type 0} (read : ℕ → List ℕ → A) (t : ℕ) → Inside b good t → count_of (pairs_of c) t ≡ count_of (pairs_of b) t → offset_of (pairs_of c) t ≡ offset_of (pairs_of b) t
        → table read t c (pairs_of c) ≡ table read t b (pairs_of b)
    read_same read t i count offset =
        ap (λ (n : ℕ). map (λ k. read k (record_at c (pairs_of c) t k)) (from 0 n)) count
        ∙ table_same (λ k. read k (record_at c (pairs_of c) t k)) (λ k. read k (record_at b (pairs_of b) t k)) 0 (count_of (pairs_of b) t)
        (λ k g h. ap (read k) (ap (λ (o : ℕ). take (width_of t) (drop (o + width_of t * k) c)) offset ∙ region (offset_of (pairs_of b) t + width_of t * k) (width_of t) (omega (arith, i.first)) (within k (omega (arith, h)))))
      where
        within : (k : ℕ) → suc k ≤ count_of (pairs_of b) t → offset_of (pairs_of b) t + width_of t * k + width_of t ≤ u32_at b 76
        within k h = omega (arith, i.last, mul-le-mul_left (width_of t) h, mul-suc (width_of t) k)

    at_80_too : categories_at (pairs_of c) ≡ 80
    at_80_too = ap (λ (n : ℕ). cond (eqb n 52) 40 80) (word-front 4 (omega arith)) ∙ at_80 (pairs_of b) (placed-all b good)

    book_same : book_in b ≡ book_in c
    unfolding book_of
    book_same =
        sym (rw (
          at_80_too,
          at_80 (pairs_of b) (placed-all b good),
          word_80,
          word_84,
          word_88,
          read_same attribute_from 1 (inside b good 0 (omega arith)) (word-front 0 (omega arith)) (word-front 4 (omega arith)),
          read_same effect_from 2 (inside b good 1 (omega arith)) (word-front 8 (omega arith)) (word-front 12 (omega arith)),
          read_same modifier_from 3 (inside b good 2 (omega arith)) (word-front 16 (omega arith)) (word-front 20 (omega arith)),
          read_same type_effect_from 4 (inside b good 3 (omega arith)) (word-front 24 (omega arith)) (word-front 28 (omega arith)),
          read_same buff_collection_from 5 (inside b good 4 (omega arith)) (word-front 32 (omega arith)) (word-front 36 (omega arith)),
        ) refl)

    fit_same : SameButAsks (fit_in b) (fit_in c)
    unfolding fit_of
    fit_same =
        record {
          objects = sym (read_same object_from 6 (inside b good 5 (omega arith)) (word-front 40 (omega arith)) (word-front 44 (omega arith)));
          bases = sym (read_same base_from 7 (inside b good 6 (omega arith)) (word-front 48 (omega arith)) (word-front 52 (omega arith)));
          ids = sym (read_same id_from 8 (inside b good 7 (omega arith)) (word-front 56 (omega arith)) (word-front 60 (omega arith)));
          buffs = sym (read_same buff_from 9 (inside b good 8 (omega arith)) (word-front 64 (omega arith)) (word-front 68 (omega arith)));
        }

-- where the first is done
pub asking_same : (b c : List ℕ) (l : Lent) (d : Done) → Asking b c → outcome b l ≡ ok d → (book_in b ≡ book_in c) × SameButAsks (fit_in b) (fit_in c)
asking_same b c l d s h = (book_same b c s (header_good_lem b l d h), fit_same b c s (header_good_lem b l d h))
