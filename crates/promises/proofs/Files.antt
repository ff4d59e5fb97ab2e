-- A book and a fit as two files: a run that is done is of sound ones, and more depth or more room change no answer but DEPTH or ROOM.
use Prim.Native.Nat.{ℕ, suc, ◌+◌, ◌-◌, ◌*◌, ◌≤◌, ◌<◌}
use native.Mathlib.Omega.{arith}
use mathlib.Core.Path.{◌≡◌, refl, sym, ap, subst, ◌∙◌}
use mathlib.Core.Bool.{Bool, true, false, ◌&&◌, cond}
use mathlib.Core.List.{List, [], ◌∷◌, ◌++◌}
use mathlib.Core.Option.{Option, none, some}
use lib.Dec.{leb, eqb}
use lib.ListN.{length, get_or, take, drop}
use lib.Seq.{get_or-take, get_or-drop, drop-drop}
use borrow.Author.Tests.{le-leb, eq-eqb, eqb-true}
use Rattle.laws.specs.Lists.{from}
use Rattle.laws.proofs.Bools.{and_left, and_right}
use Rattle.laws.proofs.From.{table_same}
use Rattle.laws.proofs.Maps.{map_same}
use Rattle.rules.specs.Answer.{Res, ok, refused}
use Rattle.rules.specs.Bytes.{u32_at, count_of, offset_of, width_of, limit_of, depth_at, record_at}
use Rattle.rules.specs.Files.{five_pairs, pairs_in, standing, book_header_good, fit_header_good, plus20, bad_fit, bad_book, bad_files, outcome_of}
use Rattle.rules.specs.Outcome.{Lent, Rooms, Done, rooms_of, run}
use Rattle.rules.specs.Shape.{object_good, objects_good, bases_good, buffs_good, asks_good, book_bad, fit_bad}
use Rattle.rules.specs.Sheet.{Book, Fit, table, book_of, fit_of}
use Rattle.rules.specs.declared.Refusal.TheVariants.{Shape, Depth, Room}
use Rattle.promises.specs.Files.{DeeperFit, book_from, fit_from}
use Rattle.promises.specs.NoMemory.{Sound}
use Rattle.promises.specs.Unless.{Unless, the_same, with_depth}
use Rattle.promises.specs.Wider.{Longer}
use Rattle.promises.proofs.Depth.{more_depth}
use Rattle.promises.proofs.NoMemory.{fit_sound}
use Rattle.promises.proofs.Room.{more_room, rooms_wider}

-- the book hangs on its own bytes alone
pub book_alone : (k f g : List ℕ) → book_from k f ≡ book_from k g
unfolding book_of
book_alone k f g = refl

-- ---- an outcome, by whether the book is bad, the fit's header is good, and the fit is bad

abbrev answer : Option ℕ → Bool → Option ℕ → Book → Fit → Rooms → Res Done
answer (some t) u x k f q = refused (Shape t)
answer none false x k f q = refused (Shape 20)
answer none true (some t) k f q = refused (Shape (t + 20))
answer none true none k f q = run k f q

-- as the definition has it
abbrev judged : Option ℕ → Bool → Option ℕ → Option ℕ
judged b u x = elim b [ some t ↦ some t | none ↦ plus20 (elim u [ false ↦ some 0 | true ↦ x ]) ]

abbrev answered : Option ℕ → Book → Fit → Rooms → Res Done
answered o k f q = elim o [ some t ↦ refused (Shape t) | none ↦ run k f q ]

opened : (k f : List ℕ) (q : Rooms) → outcome_of k f q ≡ answered (judged (bad_book k) (fit_header_good f (pairs_in k f)) (fit_bad (fit_from k f))) (book_from k f) (fit_from k f) q
unfolding outcome_of bad_files bad_fit
opened k f q = refl

ended : (b : Option ℕ) (u : Bool) (x : Option ℕ) (k : Book) (f : Fit) (q : Rooms) → answered (judged b u x) k f q ≡ answer b u x k f q
ended (some t) u x k f q = refl
ended none false x k f q = refl
ended none true (some t) k f q = refl
ended none true none k f q = refl

outcome-by : (k f : List ℕ) (q : Rooms) (b : Option ℕ) (u : Bool) (x : Option ℕ) → bad_book k ≡ b → fit_header_good f (pairs_in k f) ≡ u → fit_bad (fit_from k f) ≡ x
    → outcome_of k f q ≡ answer b u x (book_from k f) (fit_from k f) q
outcome-by k f q b u x d e g =
    opened k f q ∙ ap (λ (o : Option ℕ). answered (judged o (fit_header_good f (pairs_in k f)) (fit_bad (fit_from k f))) (book_from k f) (fit_from k f) q) d
    ∙ ap (λ (v : Bool). answered (judged b v (fit_bad (fit_from k f))) (book_from k f) (fit_from k f) q) e
    ∙ ap (λ (o : Option ℕ). answered (judged b u o) (book_from k f) (fit_from k f) q) g ∙ ended b u x (book_from k f) (fit_from k f) q

-- ---- what is done is sound

module _ (k f : List ℕ) (q : Rooms) (d : Done) (h : outcome_of k f q ≡ ok d) where
  record Good : Type 0 where
    book : bad_book k ≡ none
    fit : fit_bad (fit_from k f) ≡ none
    ran : run (book_from k f) (fit_from k f) q ≡ ok d

  good : Good
  good = by (bad_book k) (fit_header_good f (pairs_in k f)) (fit_bad (fit_from k f)) refl refl refl (sym (outcome-by k f q (bad_book k) (fit_header_good f (pairs_in k f)) (fit_bad (fit_from k f)) refl refl refl) ∙ h)
    where
      by : (b : Option ℕ) (u : Bool) (x : Option ℕ) → bad_book k ≡ b → fit_header_good f (pairs_in k f) ≡ u → fit_bad (fit_from k f) ≡ x → answer b u x (book_from k f) (fit_from k f) q ≡ ok d → Good
      by (some t) u x y z w e = let n : ◌≡◌ {A = ℕ} 0 1 = cc in absurd (omega arith)
      by none false x y z w e = let n : ◌≡◌ {A = ℕ} 0 1 = cc in absurd (omega arith)
      by none true (some t) y z w e = let n : ◌≡◌ {A = ℕ} 0 1 = cc in absurd (omega arith)
      by none true none y z w e = record { book = y; fit = w; ran = e }

  pub files_run : run (book_from k f) (fit_from k f) q ≡ ok d
  files_run = good.ran

  pub files_fit_good : fit_bad (fit_from k f) ≡ none
  files_fit_good = good.fit

  pub files_book_good : book_bad (book_from k f) ≡ none
  unfolding bad_book
  files_book_good = ap book_bad (book_alone k f []) ∙ by (book_header_good k (pairs_in k [])) good.book
    where
      by : (t : Bool) → ◌≡◌ {A = Option ℕ} (elim t [ false ↦ some 0 | true ↦ book_bad (book_from k []) ]) none → book_bad (book_from k []) ≡ none
      by true e = e
      by false e = let n : ◌≡◌ {A = ℕ} 0 1 = cc in absurd (omega arith)

  -- files that are not refused for their shape are sound
  pub files_sound : Sound (fit_from k f)
  files_sound = fit_sound f (pairs_in k f) files_fit_good

-- ---- more room

pub more_room_files : (k f : List ℕ) (l m : Lent) → Longer l m → Unless Room (outcome_of k f (rooms_of l)) (outcome_of k f (rooms_of m))
unfolding outcome_of
more_room_files k f l m h = by (bad_files k f)
  where
    by : (t : Option ℕ) → Unless Room (answered t (book_from k f) (fit_from k f) (rooms_of l)) (answered t (book_from k f) (fit_from k f) (rooms_of m))
    by (some x) = the_same refl
    by none = more_room (book_from k f) (fit_from k f) (rooms_of l) (rooms_of m) (rooms_wider l m h)

-- ---- more depth

module _ (k f g : List ℕ) (s : DeeperFit f g) where
  byte_same : (i : ℕ) → i < 40 → get_or g i 0 ≡ get_or f i 0
  byte_same i h = sym (get_or-take 40 g i 0 h) ∙ ap (λ (l : List ℕ). get_or l i 0) s.front ∙ get_or-take 40 f i 0 h

  word_same : (i : ℕ) → i + 4 ≤ 40 → u32_at g i ≡ u32_at f i
  word_same i h = rw (byte_same i (omega arith), byte_same (i + 1) (omega arith), byte_same (i + 2) (omega arith), byte_same (i + 3) (omega arith)) refl

  five_same : five_pairs g ≡ five_pairs f
  five_same = table_same (λ i. u32_at g (8 * i) ∷ u32_at g (8 * i + 4) ∷ []) (λ i. u32_at f (8 * i) ∷ u32_at f (8 * i + 4) ∷ []) 0 5 (λ i a b. both (word_same (8 * i) (omega arith)) (word_same (8 * i + 4) (omega arith)))
    where
      both : {x y x' y' : ℕ} → x ≡ x' → y ≡ y' → ◌≡◌ {A = List ℕ} (x ∷ y ∷ []) (x' ∷ y' ∷ [])
      both e h = rw (e, h) refl

  pairs_same : pairs_in k g ≡ pairs_in k f
  pairs_same = ap (λ (l : List (List ℕ)). five_pairs k ++ l) five_same

  last_same : (i : ℕ) → get_or g (44 + i) 0 ≡ get_or f (44 + i) 0
  last_same i = sym (get_or-drop 44 g i 0) ∙ ap (λ (l : List ℕ). get_or l i 0) s.back ∙ get_or-drop 44 f i 0

  recording_same : u32_at g 44 ≡ u32_at f 44
  recording_same = rw (last_same 0, last_same 1, last_same 2, last_same 3) refl

  drop_same : (n : ℕ) → 44 ≤ n → drop n g ≡ drop n f
  drop_same n h = let e : 44 + (n - 44) ≡ n = omega arith in
      ap (λ (i : ℕ). drop i g) (sym e) ∙ sym (drop-drop (n - 44) 44 g) ∙ ap (drop (n - 44)) s.back ∙ drop-drop (n - 44) 44 f ∙ ap (λ (i : ℕ). drop i f) e

  module _ (ps : List (List ℕ)) (t : ℕ) (h : 44 ≤ offset_of ps t) where
    read_same : {A : Type 0} (read : ℕ → List ℕ → A) → table read t g ps ≡ table read t f ps
    read_same read = map_same (λ i. read i (record_at g ps t i)) (λ i. read i (record_at f ps t i)) (λ i. ap (λ (l : List ℕ). read i (take (width_of t) l)) (drop_same (offset_of ps t + width_of t * i) (omega (arith, h)))) (from 0 (count_of ps t))

  header_same : (ps : List (List ℕ)) → fit_header_good g ps ≡ fit_header_good f ps
  unfolding fit_header_good
  header_same ps = rw (s.long, recording_same, le-leb 1 (u32_at f 40) s.least, le-leb (u32_at f 40) 256 (omega (arith, s.more, s.most)), le-leb 1 (u32_at g 40) (omega (arith, s.least, s.more)), le-leb (u32_at g 40) 256 s.most) refl

  module _ (ps : List (List ℕ)) (good_header : fit_header_good f ps ≡ true) where
    -- tables that stand from h on
    step : (h t : ℕ) (ts : List ℕ) (n : ℕ) → standing ps h (t ∷ ts) n ≡ true → (offset_of ps t ≡ h) × (standing ps (h + width_of t * count_of ps t) ts n ≡ true)
    unfolding standing
    step h t ts n e =
        let few = leb (count_of ps t) (limit_of t) in
        let here = eqb (offset_of ps t) h in
        let rest = standing ps (h + width_of t * count_of ps t) ts n in
        (eqb-true (offset_of ps t) h (and_right few here (and_left (few && here) rest e)), and_right (few && here) rest e)

    stand : standing ps 48 (from 6 5) (length f) ≡ true
    unfolding fit_header_good
    stand =
        let long = leb 48 (length f) in
        let all = standing ps 48 (from 6 5) (length f) in
        let one = leb 1 (u32_at f 40) in
        let most = leb (u32_at f 40) 256 in
        let kept = leb (u32_at f 44) 1 in
        and_right long all (and_left (long && all) one (and_left (long && all && one) most (and_left (long && all && one && most) kept good_header)))

    record Behind : Type 0 where
      six : offset_of ps 6 ≡ 48
      seven : 48 ≤ offset_of ps 7
      eight : 48 ≤ offset_of ps 8
      nine : 48 ≤ offset_of ps 9
      ten : 48 ≤ offset_of ps 10

    behind : Behind
    behind =
        let a = step 48 6 (from 7 4) (length f) stand in
        let b = step (48 + width_of 6 * count_of ps 6) 7 (from 8 3) (length f) a.1 in
        let c = step (48 + width_of 6 * count_of ps 6 + width_of 7 * count_of ps 7) 8 (from 9 2) (length f) b.1 in
        let d = step (48 + width_of 6 * count_of ps 6 + width_of 7 * count_of ps 7 + width_of 8 * count_of ps 8) 9 (from 10 1) (length f) c.1 in
        let e = step (48 + width_of 6 * count_of ps 6 + width_of 7 * count_of ps 7 + width_of 8 * count_of ps 8 + width_of 9 * count_of ps 9) 10 (from 11 0) (length f) d.1 in
        record { six = a.0; seven = omega (arith, b.0); eight = omega (arith, c.0); nine = omega (arith, d.0); ten = omega (arith, e.0) }

    at_40 : depth_at ps ≡ 40
    at_40 = rw (eq-eqb (offset_of ps 6) 48 behind.six) refl

    fit_at : fit_of g ps ≡ with_depth (u32_at g 40) (fit_of f ps)
    unfolding fit_of
    fit_at =
        let b = behind in
        rw (at_40, recording_same, read_same ps 6 (omega (arith, b.six)), read_same ps 7 (omega (arith, b.seven)), read_same ps 8 (omega (arith, b.eight)), read_same ps 9 (omega (arith, b.nine)), read_same ps 10 (omega (arith, b.ten))) refl

    deeper : (fit_of f ps).depth ≤ u32_at g 40
    unfolding fit_of
    deeper = rw at_40 s.more

fit_bad_same : (f : Fit) (d : ℕ) → fit_bad (with_depth d f) ≡ fit_bad f
unfolding fit_bad objects_good object_good bases_good buffs_good asks_good
fit_bad_same f d = refl

answers_so : (b : Option ℕ) (x : Option ℕ) (k : Book) (f : Fit) (d : ℕ) (q : Rooms) → f.depth ≤ d → Unless Depth (answer b true x k f q) (answer b true x k (with_depth d f) q)
answers_so (some t) x k f d q h = the_same refl
answers_so none (some t) k f d q h = the_same refl
answers_so none none k f d q h = more_depth k f q d h

pub more_depth_files : (k f g : List ℕ) (q : Rooms) → DeeperFit f g → Unless Depth (outcome_of k f q) (outcome_of k g q)
more_depth_files k f g q s = by (fit_header_good f (pairs_in k f)) refl
  where
    header : fit_header_good g (pairs_in k g) ≡ fit_header_good f (pairs_in k f)
    header = ap (fit_header_good g) (pairs_same k f g s) ∙ header_same k f g s (pairs_in k f)

    by : (u : Bool) → fit_header_good f (pairs_in k f) ≡ u → Unless Depth (outcome_of k f q) (outcome_of k g q)
    by false e = the_same (outcome-by k g q (bad_book k) false (fit_bad (fit_from k g)) refl (header ∙ e) refl ∙ unread (bad_book k) (fit_bad (fit_from k g)) (fit_bad (fit_from k f)) (book_from k g) (book_from k f) (fit_from k g) (fit_from k f) ∙ sym (outcome-by k f q (bad_book k) false (fit_bad (fit_from k f)) refl e refl))
      where
        unread : (b x y : Option ℕ) (m n : Book) (u v : Fit) → answer b false x m u q ≡ answer b false y n v q
        unread (some t) x y m n u v = refl
        unread none x y m n u v = refl
    by true e =
        rw (outcome-by k f q (bad_book k) true (fit_bad (fit_from k f)) refl e refl, outcome-by k g q (bad_book k) true (fit_bad (fit_from k f)) refl (header ∙ e) bad, book_alone k g f, fit)
        (answers_so (bad_book k) (fit_bad (fit_from k f)) (book_from k f) (fit_from k f) (u32_at g 40) q (deeper k f g s (pairs_in k f) e))
      where
        fit : fit_from k g ≡ with_depth (u32_at g 40) (fit_from k f)
        fit = ap (fit_of g) (pairs_same k f g s) ∙ fit_at k f g s (pairs_in k f) e

        bad : fit_bad (fit_from k g) ≡ fit_bad (fit_from k f)
        bad = ap fit_bad fit ∙ fit_bad_same (fit_from k f) (u32_at g 40)
