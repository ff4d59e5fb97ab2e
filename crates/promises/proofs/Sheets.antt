-- "More depth" of a sheet's bytes: the sheet with a larger depth reads as the same book, and as the same fit with that depth.
use Prim.Native.Nat.{ℕ, zero, suc, ◌+◌, ◌-◌, ◌*◌, ◌≤◌, ◌<◌}
use native.Mathlib.Omega.{arith}
use mathlib.Core.Path.{◌≡◌, refl, sym, ap, ◌∙◌}
use mathlib.Core.Bool.{Bool, true, false, ◌&&◌}
use mathlib.Core.List.{List, [], ◌∷◌}
use mathlib.Core.Option.{Option, none, some}
use lib.Dec.{leb, eqb}
use lib.ListN.{length, get_or, take, drop}
use lib.Seq.{get_or-take, get_or-drop, drop-drop}
use borrow.Author.Tests.{le-leb}
use Rattle.laws.specs.Lists.{from, every?}
use Rattle.laws.proofs.Bools.{and_left, and_right}
use Rattle.laws.proofs.From.{table_same}
use Rattle.laws.proofs.Maps.{map_same}
use Rattle.rules.specs.Bytes.{u32_at, pairs_of, count_of, offset_of, width_of, record_at}
use Rattle.rules.specs.Sheet.{Book, Fit, table, book_of, fit_of}
use Rattle.rules.specs.Answer.{Res, refused}
use Rattle.rules.specs.Outcome.{Lent, Done, rooms_of, run, outcome}
use Rattle.rules.specs.declared.Refusal.TheVariants.{Shape, Depth}
use Rattle.rules.specs.Shape.{end_of, placed, header_good, object_good, objects_good, bases_good, buffs_good, asks_good, book_bad, fit_bad, bad_shape}
use Rattle.rules.proofs.Places.{after-header, at_80, at_92}
use Rattle.promises.specs.Unless.{Unless, the_same, with_depth}
use Rattle.promises.specs.Sheets.{Deeper}
use Rattle.promises.proofs.Depth.{more_depth}

pub second : (x y z u v w : Bool) → x && y && z && u && v && w ≡ true → y ≡ true
second x y z u v w e = and_right x y (and_left (x && y) z (and_left (x && y && z) u (and_left (x && y && z && u) v (and_left (x && y && z && u && v) w e))))

module _ (b c : List ℕ) (s : Deeper b c) where
  byte_same : (i : ℕ) → i < 92 → get_or c i 0 ≡ get_or b i 0
  byte_same i h = sym (get_or-take 92 c i 0 h) ∙ ap (λ (l : List ℕ). get_or l i 0) s.front ∙ get_or-take 92 b i 0 h

  word_same : (i : ℕ) → i + 4 ≤ 92 → u32_at c i ≡ u32_at b i
  word_same i h = rw (byte_same i (omega arith), byte_same (i + 1) (omega arith), byte_same (i + 2) (omega arith), byte_same (i + 3) (omega arith)) refl

  pairs_same : pairs_of c ≡ pairs_of b
  pairs_same = table_same (λ i. u32_at c (8 * i) ∷ u32_at c (8 * i + 4) ∷ []) (λ i. u32_at b (8 * i) ∷ u32_at b (8 * i + 4) ∷ []) 0 10 (λ k g h. both (word_same (8 * k) (omega arith)) (word_same (8 * k + 4) (omega arith)))
    where
      both : {x y x' y' : ℕ} → x ≡ x' → y ≡ y' → ◌≡◌ {A = List ℕ} (x ∷ y ∷ []) (x' ∷ y' ∷ [])
      both e h = rw (e, h) refl

  last_same : (i : ℕ) → get_or c (96 + i) 0 ≡ get_or b (96 + i) 0
  last_same i = sym (get_or-drop 96 c i 0) ∙ ap (λ (l : List ℕ). get_or l i 0) s.back ∙ get_or-drop 96 b i 0

  recording_same : u32_at c 96 ≡ u32_at b 96
  recording_same = rw (last_same 0, last_same 1, last_same 2, last_same 3) refl

  drop_same : (n : ℕ) → 96 ≤ n → drop n c ≡ drop n b
  drop_same n h = let e : 96 + (n - 96) ≡ n = omega arith in
      ap (λ (k : ℕ). drop k c) (sym e) ∙ sym (drop-drop (n - 96) 96 c) ∙ ap (drop (n - 96)) s.back ∙ drop-drop (n - 96) 96 b ∙ ap (λ (k : ℕ). drop k b) e

  module _ (ps : List (List ℕ)) (t : ℕ) (h : 96 ≤ offset_of ps t) where
    record_same : (k : ℕ) → record_at c ps t k ≡ record_at b ps t k
    record_same k = ap (take (width_of t)) (drop_same (offset_of ps t + width_of t * k) (omega (arith, h)))

    read_same : {A : Type 0} (read : ℕ → List ℕ → A) → table read t c ps ≡ table read t b ps
    read_same read = map_same (λ k. read k (record_at c ps t k)) (λ k. read k (record_at b ps t k)) (λ k. ap (read k) (record_same k)) (from 0 (count_of ps t))

  header_at : (ps : List (List ℕ)) → header_good c ps ≡ header_good b ps
  unfolding header_good
  header_at ps = rw (s.long, recording_same, le-leb 1 (u32_at b 92) s.least, le-leb (u32_at b 92) 256 (omega (arith, s.more, s.most)), le-leb 1 (u32_at c 92) (omega (arith, s.least, s.more)), le-leb (u32_at c 92) 256 s.most) refl

  header_same : header_good c (pairs_of c) ≡ header_good b (pairs_of b)
  header_same = ap (header_good c) pairs_same ∙ header_at (pairs_of b)

  module _ (ps : List (List ℕ)) (good : header_good b ps ≡ true) where
    placed-all : every? (placed ps) (from 0 10) ≡ true
    unfolding header_good
    placed-all = second (leb 100 (length b)) (every? (placed ps) (from 0 10)) (eqb (end_of ps 10) (length b)) (leb 1 (u32_at b 92)) (leb (u32_at b 92) 256) (leb (u32_at b 96) 1) good

    behind : (t : ℕ) → t < 10 → 96 ≤ offset_of ps (suc t)
    behind t l = let far : 100 ≤ offset_of ps (suc t) = after-header ps placed-all t l in omega (arith, far)

    book_at_lem : book_of c ps ≡ book_of b ps
    unfolding book_of
    book_at_lem = rw (at_80 ps placed-all, word_same 80 (omega arith), word_same 84 (omega arith), word_same 88 (omega arith), read_same ps 1 (behind 0 (omega arith)), read_same ps 2 (behind 1 (omega arith)), read_same ps 3 (behind 2 (omega arith)), read_same ps 4 (behind 3 (omega arith)), read_same ps 5 (behind 4 (omega arith))) refl

    fit_at : fit_of c ps ≡ with_depth (u32_at c 92) (fit_of b ps)
    unfolding fit_of
    fit_at = rw (at_92 ps placed-all, recording_same, read_same ps 6 (behind 5 (omega arith)), read_same ps 7 (behind 6 (omega arith)), read_same ps 8 (behind 7 (omega arith)), read_same ps 9 (behind 8 (omega arith)), read_same ps 10 (behind 9 (omega arith))) refl

  book_same : header_good b (pairs_of b) ≡ true → book_of c (pairs_of c) ≡ book_of b (pairs_of b)
  book_same good = ap (book_of c) pairs_same ∙ book_at_lem (pairs_of b) good

  fit_same : header_good b (pairs_of b) ≡ true → fit_of c (pairs_of c) ≡ with_depth (u32_at c 92) (fit_of b (pairs_of b))
  fit_same good = ap (fit_of c) pairs_same ∙ fit_at (pairs_of b) good

  deeper : header_good b (pairs_of b) ≡ true → (fit_of b (pairs_of b)).depth ≤ u32_at c 92
  unfolding fit_of
  deeper good = rw (at_92 (pairs_of b) (placed-all (pairs_of b) good)) s.more

-- an outcome by whether the header is good, and what the bytes read as
abbrev bad : Bool → Book → Fit → Option ℕ
bad t k f = elim t [ false ↦ some 0 | true ↦ elim (book_bad k) [ some t ↦ some t | none ↦ fit_bad f ] ]

abbrev answer : Option ℕ → Book → Fit → Lent → Res Done
answer o k f l = elim o [ some t ↦ refused (Shape t) | none ↦ run k f (rooms_of l) ]

outcome-by : (b : List ℕ) (l : Lent) (t : Bool) → header_good b (pairs_of b) ≡ t → outcome b l ≡ answer (bad t (book_of b (pairs_of b)) (fit_of b (pairs_of b))) (book_of b (pairs_of b)) (fit_of b (pairs_of b)) l
unfolding outcome bad_shape
outcome-by b l t e = ap (λ (u : Bool). answer (bad u (book_of b (pairs_of b)) (fit_of b (pairs_of b))) (book_of b (pairs_of b)) (fit_of b (pairs_of b)) l) e

module _ (k : Book) (f : Fit) (d : ℕ) (h : f.depth ≤ d) (l : Lent) where
  bad_same : bad true k (with_depth d f) ≡ bad true k f
  unfolding fit_bad objects_good object_good bases_good buffs_good asks_good
  bad_same = refl

  good_header : Unless Depth (answer (bad true k f) k f l) (answer (bad true k (with_depth d f)) k (with_depth d f) l)
  good_header = rw bad_same (by (bad true k f))
    where
      by : (o : Option ℕ) → Unless Depth (answer o k f l) (answer o k (with_depth d f) l)
      by (some t) = the_same refl
      by none = more_depth k f (rooms_of l) d h

pub more_depth_sheet : (b c : List ℕ) (l : Lent) → Deeper b c → Unless Depth (outcome b l) (outcome c l)
more_depth_sheet b c l s = by (header_good b (pairs_of b)) refl
  where
    by : (t : Bool) → header_good b (pairs_of b) ≡ t → Unless Depth (outcome b l) (outcome c l)
    by false e = the_same (outcome-by c l false (header_same b c s ∙ e) ∙ sym (outcome-by b l false e))
    by true e = rw (outcome-by b l true e, outcome-by c l true (header_same b c s ∙ e), book_same b c s e, fit_same b c s e) (good_header (book_of b (pairs_of b)) (fit_of b (pairs_of b)) (u32_at c 92) (deeper b c s e) l)
