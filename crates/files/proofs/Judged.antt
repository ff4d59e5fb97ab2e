-- SHAPE of two files from the verdicts on the parts, with the pairs as they were read; and what two sound files give.
use Prim.Native.Nat.{ℕ, suc, ◌+◌, ◌≤◌, ◌<◌}
use native.Mathlib.Omega.{arith}
use mathlib.Core.Path.{◌≡◌, refl, sym, ap, ◌∙◌, subst}
use mathlib.Core.Bool.{Bool, true, false, ◌&&◌, cond, false≢true}
use mathlib.Core.List.{List, [], ◌∷◌, ◌++◌}
use mathlib.Core.Option.{Option, none, some}
use lib.Dec.{leb}
use lib.ListN.{length, get_or, replicate}
use borrow.Author.Tests.{le-leb, lt-leb, leb-true, leb-false, eq-eqb}
use Rattle.laws.specs.Lists.{from}
use Rattle.laws.proofs.Bools.{and_left, and_right}
use Rattle.rules.specs.Bytes.{u32_at, count_of, offset_of, categories_at, depth_at}
use Rattle.rules.specs.Files.{five_pairs, pairs_in, standing, book_header_good, fit_header_good, plus20, bad_book, bad_fit, bad_files}
use Rattle.rules.specs.Sheet.{book_of, fit_of}
use Rattle.rules.specs.Shape.{first_bad, objects_good, bases_good, buffs_good, asks_good, book_bad, fit_bad}
use Rattle.info.specs.Sound.{HeldBook, HeldFit, SoundBook, SoundFit}
use Rattle.std.specs.Prelude.{Ok, Err, MatchResult}
use Rattle.std.specs.Result.{IsErrAnd}
use Rattle.shape.specs.Shaped.{Shaped, bad_table, shaped_of}
use Rattle.shape.specs.declared.BadTable.{BadTable}
use Rattle.shape.proofs.Shapes.{bad_said, sound_said, plus20_said}
use Rattle.files.specs.Read.{pairs_read, bad_book_by}
use Rattle.files.proofs.Following.{next}

-- ---- the pairs

-- a file long enough to have them has its five pairs
pub read_long : (b : List ℕ) → 40 ≤ length b → pairs_read b ≡ five_pairs b
read_long b h = rw (le-leb 40 (length b) h) refl

-- one that is too short has zeros
pub read_short : (b : List ℕ) → length b < 40 → pairs_read b ≡ replicate 5 (0 ∷ 0 ∷ [])
read_short b h = rw (lt-leb 40 (length b) h) refl

five-read : (b : List ℕ) → length (pairs_read b) ≡ 5
five-read b = by (leb 40 (length b)) refl
  where
    by : (t : Bool) → leb 40 (length b) ≡ t → length (pairs_read b) ≡ 5
    by true e = ap length (read_long b (leb-true 40 (length b) e))
    by false e = ap length (read_short b (leb-false 40 (length b) e))

five : (xs : List (List ℕ)) → length xs ≡ 5 → xs ≡ get_or xs 0 [] ∷ get_or xs 1 [] ∷ get_or xs 2 [] ∷ get_or xs 3 [] ∷ get_or xs 4 [] ∷ []
five [] e = absurd (omega (arith, e))
five (a ∷ []) e = absurd (omega (arith, e))
five (a ∷ b ∷ []) e = absurd (omega (arith, e))
five (a ∷ b ∷ c ∷ []) e = absurd (omega (arith, e))
five (a ∷ b ∷ c ∷ d ∷ []) e = absurd (omega (arith, e))
five (a ∷ b ∷ c ∷ d ∷ x ∷ []) e = refl
five (a ∷ b ∷ c ∷ d ∷ x ∷ y ∷ xs) e = absurd (omega (arith, e))

-- five and five are ten
pub ten_read : (k f : List ℕ) {xs ys : List (List ℕ)} → xs ≡ pairs_read k → ys ≡ pairs_read f
    → get_or xs 0 [] ∷ get_or xs 1 [] ∷ get_or xs 2 [] ∷ get_or xs 3 [] ∷ get_or xs 4 [] ∷ get_or ys 0 [] ∷ get_or ys 1 [] ∷ get_or ys 2 [] ∷ get_or ys 3 [] ∷ get_or ys 4 [] ∷ [] ≡ pairs_read k ++ pairs_read f
ten_read k f {xs} {ys} e h =
    sym (ap (λ (x : List (List ℕ)). x ++ pairs_read f) (sym e) ∙ ap (λ (y : List (List ℕ)). xs ++ y) (sym h) ∙ ap (λ (x : List (List ℕ)). x ++ ys) (five xs (ap length e ∙ five-read k))
    ∙ ap (λ (y : List (List ℕ)). get_or xs 0 [] ∷ get_or xs 1 [] ∷ get_or xs 2 [] ∷ get_or xs 3 [] ∷ get_or xs 4 [] ∷ y) (five ys (ap length h ∙ five-read f)))

-- ---- the header of a book and of a fit

module _ (k : List ℕ) (p : List (List ℕ)) (good : book_header_good k p ≡ true) where
  book_long : 52 ≤ length k
  unfolding book_header_good
  book_long = leb-true 52 (length k) (and_left (leb 52 (length k)) (standing p 52 (from 1 5) (length k)) good)

  book_stands : standing p 52 (from 1 5) (length k) ≡ true
  unfolding book_header_good
  book_stands = and_right (leb 52 (length k)) (standing p 52 (from 1 5) (length k)) good

  pub held_book : HeldBook k p
  held_book =
      let s = next k p book_stands in
      let t = next k p s.rest in
      let u = next k p t.rest in
      let v = next k p u.rest in
      let w = next k p v.rest in
      let e : categories_at p ≡ 40 = rw (eq-eqb (offset_of p 1) 52 s.begins) refl in
      record {
        header = omega (arith, e, book_long);
        attributes = s.held;
        effects = t.held;
        modifiers = u.held;
        type_effects = v.held;
        buff_collections = w.held;
      }

first_two : (r s t u v : Bool) → r && s && t && u && v ≡ true → (r ≡ true) × (s ≡ true)
first_two true true t u v e = (refl, refl)
first_two true false t u v e = absurd (false≢true e)
first_two false s t u v e = absurd (false≢true e)

module _ (f : List ℕ) (p : List (List ℕ)) (good : fit_header_good f p ≡ true) where
  fit_parts : (leb 48 (length f) ≡ true) × (standing p 48 (from 6 5) (length f) ≡ true)
  unfolding fit_header_good
  fit_parts = first_two (leb 48 (length f)) (standing p 48 (from 6 5) (length f)) (leb 1 (u32_at f 40)) (leb (u32_at f 40) 256) (leb (u32_at f 44) 1) good

  fit_long : 48 ≤ length f
  fit_long = leb-true 48 (length f) fit_parts.0

  pub held_fit : HeldFit f p
  held_fit =
      let s = next f p fit_parts.1 in
      let t = next f p s.rest in
      let u = next f p t.rest in
      let v = next f p u.rest in
      let w = next f p v.rest in
      let e : depth_at p ≡ 40 = rw (eq-eqb (offset_of p 6) 48 s.begins) refl in
      record {
        header = omega (arith, e, fit_long);
        objects = s.held;
        bases = t.held;
        ids = u.held;
        buffs = v.held;
        asks = w.held;
      }

-- ---- one file

module _ (k : List ℕ) (p : List (List ℕ)) where
  book_by : {t : Bool} → book_header_good k p ≡ t → bad_book_by k p ≡ elim t [ false ↦ some 0 | true ↦ book_bad (book_of k p) ]
  unfolding bad_book_by
  book_by e = ap (λ (t : Bool). elim t [ false ↦ some 0 | true ↦ book_bad (book_of k p) ]) e

  pub header_bad : book_header_good k p ≡ false → Err (bad_table 0) ≡ shaped_of (bad_book_by k p)
  header_bad e = sym (ap shaped_of (book_by e))

  pub header_good_lem : {r : Shaped} → book_header_good k p ≡ true → r ≡ shaped_of (book_bad (book_of k p)) → r ≡ shaped_of (bad_book_by k p)
  header_good_lem e h = h ∙ sym (ap shaped_of (book_by e))

  good_header : (t : Bool) → book_header_good k p ≡ t → bad_book_by k p ≡ none → t ≡ true
  good_header true e n = refl
  good_header false e n = let z : ◌≡◌ {A = Option ℕ} (some 0) none = sym (book_by e) ∙ n in (cc)

  pub book_good : bad_book_by k p ≡ none → book_header_good k p ≡ true
  book_good n = good_header (book_header_good k p) refl n

  pub sound_book : bad_book_by k p ≡ none → SoundBook k p
  sound_book n = record { held = held_book k p (book_good n); good = sym (book_by (book_good n)) ∙ n }

module _ (f : List ℕ) (p : List (List ℕ)) where
  fit_by : {t : Bool} → fit_header_good f p ≡ t → bad_fit f p ≡ elim t [ false ↦ some 0 | true ↦ fit_bad (fit_of f p) ]
  unfolding bad_fit
  fit_by e = ap (λ (t : Bool). elim t [ false ↦ some 0 | true ↦ fit_bad (fit_of f p) ]) e

  pub fit_header_bad : fit_header_good f p ≡ false → Err (bad_table 20) ≡ shaped_of (plus20 (bad_fit f p))
  fit_header_bad e = sym (ap (λ (o : Option ℕ). shaped_of (plus20 o)) (fit_by e))

  module _ (good : fit_header_good f p ≡ true) {r : Shaped} (h : r ≡ shaped_of (fit_bad (fit_of f p))) where
    -- the verdict v with 20 more
    pub fit_told : {v : Shaped} (Q : BadTable → BadTable → Type 0) → ((e x : BadTable) → Q e x → x ≡ bad_table (e.table + 20))
        → MatchResult r (λ s. v ≡ Ok s) (λ e. IsErrAnd v (Q e)) → v ≡ shaped_of (plus20 (bad_fit f p))
    fit_told Q same m = plus20_said (fit_bad (fit_of f p)) h Q same m ∙ sym (ap (λ (o : Option ℕ). shaped_of (plus20 o)) (fit_by good))

  fit_header : (t : Bool) → fit_header_good f p ≡ t → bad_fit f p ≡ none → t ≡ true
  fit_header true e n = refl
  fit_header false e n = let z : ◌≡◌ {A = Option ℕ} (some 0) none = sym (fit_by e) ∙ n in (cc)

  pub fit_good : bad_fit f p ≡ none → fit_header_good f p ≡ true
  fit_good n = fit_header (fit_header_good f p) refl n

  pub sound_fit : bad_fit f p ≡ none → SoundFit f p
  sound_fit n = record { held = held_fit f p (fit_good n); good = sym (fit_by (fit_good n)) ∙ n }

-- ---- both

short_book : (k : List ℕ) (p : List (List ℕ)) → length k < 40 → book_header_good k p ≡ false
unfolding book_header_good
short_book k p h = rw (lt-leb 52 (length k) (omega (arith, h))) refl

short_fit : (f : List ℕ) (p : List (List ℕ)) → length f < 40 → fit_header_good f p ≡ false
unfolding fit_header_good
short_fit f p h = rw (lt-leb 48 (length f) (omega (arith, h))) refl

-- the pairs as they were read decide on the book as its own five do
pub read_book : (k f : List ℕ) → bad_book_by k (pairs_read k ++ pairs_read f) ≡ bad_book k
unfolding bad_book bad_book_by book_header_good standing book_of
read_book k f = by (leb 40 (length k)) refl
  where
    by : (t : Bool) → leb 40 (length k) ≡ t → bad_book_by k (pairs_read k ++ pairs_read f) ≡ bad_book k
    by true e = ap (λ (x : List (List ℕ)). bad_book_by k (x ++ pairs_read f)) (read_long k (leb-true 40 (length k) e))
    by false e =
        let h = leb-false 40 (length k) e in
        book_by k (pairs_read k ++ pairs_read f) (short_book k (pairs_read k ++ pairs_read f) h) ∙ sym (book_by k (pairs_in k []) (short_book k (pairs_in k []) h))

-- and, where the book is sound, on the fit as the ten of both do
pub read_fit : (k f : List ℕ) → 40 ≤ length k → bad_fit f (pairs_read k ++ pairs_read f) ≡ bad_fit f (pairs_in k f)
read_fit k f l = by (leb 40 (length f)) refl
  where
    by : (t : Bool) → leb 40 (length f) ≡ t → bad_fit f (pairs_read k ++ pairs_read f) ≡ bad_fit f (pairs_in k f)
    by true e =
        ap (λ (x : List (List ℕ)). bad_fit f (x ++ pairs_read f)) (read_long k l)
        ∙ ap (λ (x : List (List ℕ)). bad_fit f (five_pairs k ++ x)) (read_long f (leb-true 40 (length f) e))
    by false e =
        let h = leb-false 40 (length f) e in
        fit_by f (pairs_read k ++ pairs_read f) (short_fit f (pairs_read k ++ pairs_read f) h) ∙ sym (fit_by f (pairs_in k f) (short_fit f (pairs_in k f) h))

module _ (k f : List ℕ) where
  files_by : {o : Option ℕ} → bad_book k ≡ o → bad_files k f ≡ elim o [ some t ↦ some t | none ↦ plus20 (bad_fit f (pairs_in k f)) ]
  unfolding bad_files
  files_by e = ap (λ (o : Option ℕ). elim o [ some t ↦ some t | none ↦ plus20 (bad_fit f (pairs_in k f)) ]) e

  long_book : bad_book k ≡ none → 40 ≤ length k
  long_book n =
      let g = book_long k (pairs_read k ++ pairs_read f) (book_good k (pairs_read k ++ pairs_read f) (read_book k f ∙ n)) in
      omega (arith, g)

  module _ {p : List (List ℕ)} (e : p ≡ pairs_read k ++ pairs_read f) where
    own_book : bad_book_by k p ≡ bad_book k
    own_book = ap (bad_book_by k) e ∙ read_book k f

    own_fit : bad_book k ≡ none → bad_fit f p ≡ bad_fit f (pairs_in k f)
    own_fit n = ap (bad_fit f) e ∙ read_fit k f (long_book n)

    module _ {r : Shaped} (h : r ≡ shaped_of (bad_book_by k p)) where
      pub book_bad_lem : {e : BadTable} → r ≡ Err e → Err e ≡ shaped_of (bad_files k f)
      book_bad_lem b = sym (ap shaped_of (files_by (sym own_book ∙ bad_said (bad_book_by k p) (sym b ∙ h))))

      pub book_sound : {v : Shaped} → r ≡ Ok tt → v ≡ shaped_of (plus20 (bad_fit f p)) → v ≡ shaped_of (bad_files k f)
      book_sound s w =
          let n = sym own_book ∙ sound_said (bad_book_by k p) (sym s ∙ h) in
          w ∙ ap (λ (o : Option ℕ). shaped_of (plus20 o)) (own_fit n) ∙ sym (ap shaped_of (files_by n))

  -- ---- two sound files

  module _ (s : bad_files k f ≡ none) where
    no_book : (o : Option ℕ) → bad_book k ≡ o → o ≡ none
    no_book none e = refl
    no_book (some t) e = sym (files_by e) ∙ s

    no_bad : bad_book k ≡ none
    no_bad = no_book (bad_book k) refl

    no_more : (o : Option ℕ) → plus20 o ≡ none → o ≡ none
    no_more none e = refl
    no_more (some t) e = let z : ◌≡◌ {A = Option ℕ} (some (t + 20)) none = e in (cc)

    no_fit_lem : bad_fit f (pairs_in k f) ≡ none
    no_fit_lem = no_more (bad_fit f (pairs_in k f)) (sym (files_by no_bad) ∙ s)

    pub sound_pairs : pairs_read k ++ pairs_read f ≡ pairs_in k f
    sound_pairs =
        let l = fit_long f (pairs_in k f) (fit_good f (pairs_in k f) no_fit_lem) in
        ap (λ (x : List (List ℕ)). x ++ pairs_read f) (read_long k (long_book no_bad)) ∙ ap (λ (x : List (List ℕ)). five_pairs k ++ x) (read_long f (omega (arith, l)))

    pub sound_files : {p : List (List ℕ)} → p ≡ pairs_read k ++ pairs_read f → SoundBook k p × SoundFit f p
    sound_files {p} e = (sound_book k p (own_book e ∙ no_bad), sound_fit f p (own_fit e no_bad ∙ no_fit_lem))
