-- The first bad table, from the verdicts on header, book and fit; and what a sheet without one gives.
use Prim.Native.Nat.{ℕ, suc, ◌+◌, ◌≤◌, ◌<◌}
use native.Mathlib.Omega.{arith}
use mathlib.Core.Path.{◌≡◌, refl, sym, ap, ◌∙◌, subst}
use mathlib.Core.Bool.{Bool, true, false}
use mathlib.Core.List.{List, [], ◌∷◌}
use mathlib.Core.Option.{Option, none, some, get_or}
use lib.ListN.{length}
use borrow.Author.Tests.{lt-leb}
use Rattle.rules.specs.Bytes.{pairs_of}
use Rattle.rules.specs.Sheet.{Fit, book_of, fit_of}
use Rattle.rules.specs.Shape.{header_good, objects_good, bases_good, buffs_good, asks_good, first_bad, book_bad, fit_bad, bad_shape}
use Rattle.std.specs.Prelude.{Ok, Err, MatchResult}
use Rattle.std.specs.Result.{IsErrAnd}
use Rattle.std.proofs.lemmas.Result.{err_from_is_err_and}
use Rattle.rules.specs.Files.{plus20}
use Rattle.shape.specs.declared.BadTable.{BadTable}
use Rattle.shape.specs.Shaped.{Shaped, bad_table, shaped_of}
use Rattle.info.specs.Sound.{SoundBook, SoundFit}
use Rattle.shape.proofs.Headers.{long, held_book, held_fit}

-- ---- what a verdict says

told : Shaped → Option ℕ
told (Ok s) = none
told (Err e) = some e.table

told_shaped : (o : Option ℕ) → told (shaped_of o) ≡ o
unfolding told
told_shaped none = refl
told_shaped (some t) = refl

said : {r : Shaped} (o : Option ℕ) → r ≡ shaped_of o → o ≡ told r
said o e = sym (told_shaped o) ∙ sym (ap told e)

pub bad_said : (o : Option ℕ) {e : BadTable} → Err e ≡ shaped_of o → o ≡ some e.table
unfolding told
bad_said o e = said o e

pub sound_said : (o : Option ℕ) → Ok tt ≡ shaped_of o → o ≡ none
unfolding told
sound_said o e = said o e

-- a bad table is one of those listed: a fit's place can be told with 20 more
below : (a : ℕ) (l : List Bool) {t : ℕ} → first_bad a l ≡ some t → t < a + length l
below a [] e = absurd (let z : ◌≡◌ {A = ℕ} 0 1 = cc in omega arith)
below a (true ∷ l) e = let r = below (suc a) l e in omega (arith, r)
below a (false ∷ l) {t} e = let z : a ≡ t = ap (λ (o : Option ℕ). get_or o 0) e in omega (arith, z)

pub fit_place : (f : Fit) {r : Shaped} {b : BadTable} → r ≡ shaped_of (fit_bad f) → r ≡ Err b → b.table < 11
unfolding fit_bad
fit_place f h e = below 6 (objects_good f ∷ bases_good f ∷ true ∷ buffs_good f ∷ asks_good f ∷ []) (bad_said (fit_bad f) (sym e ∙ h))

-- a verdict v that tells a bad table with 20 more
pub plus20_said : (o : Option ℕ) {r v : Shaped} → r ≡ shaped_of o → (Q : BadTable → BadTable → Type 0) → ((e x : BadTable) → Q e x → x ≡ bad_table (e.table + 20))
    → MatchResult r (λ s. v ≡ Ok s) (λ e. IsErrAnd v (Q e)) → v ≡ shaped_of (plus20 o)
plus20_said o {r} {v} h Q same m = by o (subst (λ (x : Shaped). MatchResult x (λ s. v ≡ Ok s) (λ e. IsErrAnd v (Q e))) h m)
  where
    by : (o : Option ℕ) → MatchResult (shaped_of o) (λ s. v ≡ Ok s) (λ e. IsErrAnd v (Q e)) → v ≡ shaped_of (plus20 o)
    by none e = e
    by (some t) e = let q = err_from_is_err_and v e in rw (q.1, same _ _ q.2)

-- ---- from the verdicts on the parts to the sheet's, with the pairs p as they were read

module _ (b : List ℕ) where
  abbrev decided : List (List ℕ) → Bool → Option ℕ → Option ℕ
  decided p h o = elim h [ false ↦ some 0 | true ↦ elim o [ some t ↦ some t | none ↦ fit_bad (fit_of b p) ] ]

  module _ {p : List (List ℕ)} (e : p ≡ pairs_of b) where
    by_parts : (h : Bool) (o : Option ℕ) → header_good b p ≡ h → book_bad (book_of b p) ≡ o → bad_shape b ≡ decided p h o
    unfolding bad_shape
    by_parts h o f g =
        ap (λ (q : List (List ℕ)). decided q (header_good b q) (book_bad (book_of b q))) (sym e)
        ∙ ap (λ (x : Bool). decided p x (book_bad (book_of b p))) f
        ∙ ap (decided p h) g

    pub header_bad : header_good b p ≡ false → Err (bad_table 0) ≡ shaped_of (bad_shape b)
    header_bad f = sym (ap shaped_of (by_parts false (book_bad (book_of b p)) f refl))

    module _ {r : Shaped} (f : header_good b p ≡ true) (g : r ≡ shaped_of (book_bad (book_of b p))) where
      part : {v : Shaped} → r ≡ v → bad_shape b ≡ decided p true (told v)
      part {v} h = by_parts true (told v) f (said (book_bad (book_of b p)) g ∙ ap told h)

      pub book_bad_lem : {e : BadTable} → r ≡ Err e → Err e ≡ shaped_of (bad_shape b)
      unfolding told
      book_bad_lem h = sym (ap shaped_of (part h))

      pub book_good : {v : Shaped} → r ≡ Ok tt → v ≡ shaped_of (fit_bad (fit_of b p)) → v ≡ shaped_of (bad_shape b)
      unfolding told
      book_good h k = k ∙ sym (ap shaped_of (part h))

  pub too_short : length b < 100 → Err (bad_table 0) ≡ shaped_of (bad_shape b)
  unfolding header_good
  too_short h = header_bad refl (rw (lt-leb 100 (length b) h))

  -- ---- a sound sheet

  module _ (s : Ok tt ≡ shaped_of (bad_shape b)) where
    no_bad : bad_shape b ≡ none
    no_bad = sound_said (bad_shape b) s

    good_header : (h : Bool) → header_good b (pairs_of b) ≡ h → h ≡ true
    good_header true e = refl
    good_header false e = let z : ◌≡◌ {A = Option ℕ} (some 0) none = sym (by_parts refl false (book_bad (book_of b (pairs_of b))) e refl) ∙ no_bad in (cc)

    pub header_good_lem : header_good b (pairs_of b) ≡ true
    header_good_lem = good_header (header_good b (pairs_of b)) refl

    pub sound_long : 100 ≤ length b
    sound_long = long b (pairs_of b) header_good_lem

    good_book : (o : Option ℕ) → book_bad (book_of b (pairs_of b)) ≡ o → o ≡ none
    good_book none e = refl
    good_book (some t) e = sym (by_parts refl true (some t) header_good_lem e) ∙ no_bad

    pub sound_book : SoundBook b (pairs_of b)
    sound_book = record { held = held_book b (pairs_of b) header_good_lem; good = good_book (book_bad (book_of b (pairs_of b))) refl }

    pub sound_fit : SoundFit b (pairs_of b)
    sound_fit =
        record {
          held = held_fit b (pairs_of b) header_good_lem;
          good = sym (by_parts refl true none header_good_lem (good_book (book_bad (book_of b (pairs_of b))) refl)) ∙ no_bad;
        }
