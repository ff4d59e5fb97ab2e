-- The scan for a bad label, and what holds of labels that are all good.
use Prim.Native.Nat.{ℕ, zero, suc, ◌+◌, ◌-◌, ◌≤◌, ◌<◌}
use native.Mathlib.Numerals.{add-one}
use native.Mathlib.Omega.{arith}
use mathlib.Core.Path.{◌≡◌, refl, sym, ap, subst, ◌∙◌}
use mathlib.Core.Bool.{Bool, true, false, ◌&&◌, true≢false}
use mathlib.Core.List.{List, [], ◌∷◌, map}
use mathlib.Core.Option.{Option, none, some}
use lib.IntN.{ℤ}
use lib.ListN.{length, get_or, take, drop}
use lib.Seq.{take_all}
use lib.Signed.{lt_z}
use mir.Syntax.{w32}
use mir.Val.{to_z, of_z}
use borrow.Author.Tests.{le-leb, lt-leb}
use Rattle.laws.specs.Lists.{every?, ascends, span}
use Rattle.laws.proofs.Bools.{and_left, and_right, and_both}
use Rattle.laws.proofs.Every.{every_snoc, every_take, every_drop}
use Rattle.laws.proofs.Maps.{take_next}
use Rattle.laws.proofs.Scans.{drop-step, drop_end}
use Rattle.rules.specs.Bytes.{signed}
use Rattle.csv_text.specs.Labels.{id_of, first_of, count_of, bytes_of, allowed, label_good, stands_after, bad_from, label_bad}
use Rattle.csv_text.specs.Puts.{id_before}

-- ---- bytes that may all stand

-- whether the first i bytes may
pub record Passed (t : List ℕ) (i : ℕ) (g : Bool) : Type 0 where
  pub within : i ≤ length t
  pub so_far : g ≡ every? allowed (take i t)

pub passed_none : (t : List ℕ) → Passed t 0 true
passed_none t = record { within = omega arith; so_far = refl }

module _ {t : List ℕ} {i : ℕ} {g : Bool} (P : Passed t i g) where
  pub passed-more : (d : ℕ) {own : Bool} → i < length t → own ≡ allowed (get_or t i d) → Passed t (i + 1) (g && own)
  passed-more d h e =
      record {
        within = omega arith;
        so_far = rw (P.so_far, e) (sym (ap (every? allowed) (take_next t i d h) ∙ every_snoc allowed (take i t) (get_or t i d)));
      }

  pub passed-all : length t ≤ i → g ≡ every? allowed t
  passed-all k = P.so_far ∙ ap (every? allowed) (take_all i t k)

-- ---- a label by itself

-- a part of the bytes as the machine reads it
pub span_read : (f c : ℕ) (l : List ℕ) → take (f + c - f) (drop f l) ≡ span f c l
span_read f c l = ap (λ (n : ℕ). take n (drop f l)) (let e : f + c - f ≡ c = omega arith in e)

pub bytes_read : (bytes r : List ℕ) {f c : ℕ} → f ≡ first_of r → c ≡ count_of r → take (f + c - f) (drop f bytes) ≡ bytes_of bytes r
bytes_read bytes r {f} {c} e k = span_read f c bytes ∙ rw (e, k) refl

module _ (bytes r : List ℕ) where
  pub too_long : 64 < count_of r → false ≡ label_good bytes r
  unfolding label_good
  too_long h = rw (lt-leb (count_of r) 64 h) refl

  pub outside : count_of r ≤ 64 → length bytes < first_of r + count_of r → false ≡ label_good bytes r
  unfolding label_good
  outside h k = rw (le-leb (count_of r) 64 h, lt-leb (first_of r + count_of r) (length bytes) k) refl

  pub by_bytes : {g : Bool} → count_of r ≤ 64 → first_of r + count_of r ≤ length bytes → g ≡ every? allowed (bytes_of bytes r) → g ≡ label_good bytes r
  unfolding label_good
  by_bytes h k e = rw (le-leb (count_of r) 64 h, le-leb (first_of r + count_of r) (length bytes) k) e

-- where all bytes may stand, those of any label may
pub all_clean : (bytes r : List ℕ) → every? allowed bytes ≡ true → true ≡ every? allowed (bytes_of bytes r)
all_clean bytes r e = sym (every_take allowed (count_of r) (drop (first_of r) bytes) (every_drop allowed (first_of r) bytes e))

-- ---- the table

-- what < said of two ids, by their bits
pub less_told : (x y : ℤ) (m n : ℕ) → of_z w32 x ≡ m → of_z w32 y ≡ n → lt_z (to_z w32 (of_z w32 x)) (to_z w32 (of_z w32 y)) ≡ lt_z (signed m) (signed n)
less_told x y m n e f = rw (e, f) refl

-- at the first label there is none before it; at a later one the one that was read
pub before-first : (rows : List (List ℕ)) (a : ℤ) {i : ℕ} → i ≡ 0 → true ≡ stands_after (id_before rows i) a
before-first rows a e = sym (ap (λ (n : ℕ). stands_after (id_before rows n) a) e)

pub before-later : (rows : List (List ℕ)) (a : ℤ) {i : ℕ} {t : Bool} → (i ≡ 0 → ⊥) → t ≡ lt_z (id_of (get_or rows (i - 1) [])) a → t ≡ stands_after (id_before rows i) a
before-later rows a {i} n e = e ∙ by i n
  where
    by : (m : ℕ) → (m ≡ 0 → ⊥) → lt_z (id_of (get_or rows (m - 1) [])) a ≡ stands_after (id_before rows m) a
    by zero k = absurd (k refl)
    by (suc m) k = ap (λ (x : ℕ). lt_z (id_of (get_or rows x [])) a) (omega arith)

module _ (bytes : List ℕ) (rows : List (List ℕ)) where
  -- the labels before label i are good: those from it on decide
  pub record Scanned (i : ℕ) : Type 0 where
    pub left : label_bad bytes rows ≡ bad_from bytes i (id_before rows i) (drop i rows)

  pub scanned_none : Scanned 0
  scanned_none = record { left = refl }

  module _ {i : ℕ} (S : Scanned i) where
    module _ (h : i < length rows) {s t : Bool} (a : s ≡ stands_after (id_before rows i) (id_of (get_or rows i []))) (g : t ≡ label_good bytes (get_or rows i [])) where
      step : {u : Bool} → s && t ≡ u → label_bad bytes rows ≡ elim u [ false ↦ some i | true ↦ bad_from bytes (suc i) (some (id_of (get_or rows i []))) (drop (i + 1) rows) ]
      unfolding bad_from
      step e =
          S.left ∙ ap (bad_from bytes i (id_before rows i)) (drop-step rows i [] h)
          ∙ ap (λ (u : Bool). elim u [ false ↦ some i | true ↦ bad_from bytes (suc i) (some (id_of (get_or rows i []))) (drop (i + 1) rows) ])
          (sym (ap (λ (x : Bool). x && t) a ∙ ap (λ (x : Bool). stands_after (id_before rows i) (id_of (get_or rows i [])) && x) g) ∙ e)

      pub scanned_more : s && t ≡ true → Scanned (i + 1)
      scanned_more e =
          subst Scanned (sym (add-one i)) (record { left = step e ∙ ap (λ (n : ℕ). bad_from bytes (suc i) (some (id_of (get_or rows i []))) (drop n rows)) (add-one i) })

      pub scanned_bad : s && t ≡ false → some i ≡ label_bad bytes rows
      scanned_bad e = sym (step e)

    pub scanned_all : length rows ≤ i → none ≡ label_bad bytes rows
    unfolding bad_from
    scanned_all k = sym (S.left ∙ ap (bad_from bytes i (id_before rows i)) (drop_end rows i k))

-- ---- labels that are all good

-- every one is good by itself, and their ids ascend
pub record AllGood (bytes : List ℕ) (rows : List (List ℕ)) : Type 0 where
  pub good : every? (label_good bytes) rows ≡ true
  pub rising : ascends (map id_of rows) ≡ true

module _ (bytes : List ℕ) where
  -- a label that passed, and what was said of the rest
  one-passed : (n : ℕ) (rest : Option ℕ) (t : Bool) → ◌≡◌ {A = Option ℕ} (elim t [ false ↦ some n | true ↦ rest ]) none → (t ≡ true) × (rest ≡ none)
  one-passed n rest true e = (refl, e)
  one-passed n rest false e = let z : true ≡ false = cc in absurd (true≢false z)

  good_from : (n : ℕ) (last : ℤ) (rows : List (List ℕ)) → bad_from bytes n (some last) rows ≡ none
      → (every? (label_good bytes) rows ≡ true) × (ascends (last ∷ map id_of rows) ≡ true)
  unfolding bad_from
  good_from n last [] e = (refl, refl)
  good_from n last (r ∷ rs) e =
      let p = one-passed n (bad_from bytes (suc n) (some (id_of r)) rs) (lt_z last (id_of r) && label_good bytes r) e in
      let q = good_from (suc n) (id_of r) rs p.1 in
      (and_both (and_right (lt_z last (id_of r)) (label_good bytes r) p.0) q.0, and_both (and_left (lt_z last (id_of r)) (label_good bytes r) p.0) q.1)

  pub all_good : (rows : List (List ℕ)) → label_bad bytes rows ≡ none → AllGood bytes rows
  unfolding bad_from
  all_good [] e = record { good = refl; rising = refl }
  all_good (r ∷ rs) e =
      let p = one-passed 0 (bad_from bytes 1 (some (id_of r)) rs) (label_good bytes r) e in
      let q = good_from 1 (id_of r) rs p.1 in
      record { good = and_both p.0 q.0; rising = q.1 }
