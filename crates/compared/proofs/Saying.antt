-- The line of a verdict: its pieces, and which line it is.
use Rattle.std.specs.Prelude.{Ok, Err}
use Prim.Native.Nat.{ℕ, ◌+◌, ◌*◌, ◌≤◌, ◌<◌}
use native.Mathlib.Omega.{arith}
use mathlib.Core.Path.{◌≡◌, refl, sym, ap, subst, ◌∙◌}
use mathlib.Core.Bool.{Bool, true, false, cond, ◌&&◌, true≢false}
use mathlib.Core.List.{List, [], ◌∷◌, ◌++◌}
use lib.Dec.{ltb, eqb}
use lib.Ieee.{Float, binary64, to_bits}
use lib.IntN.{ℤ}
use lib.ListN.{length, get_or}
use mir.Syntax.{w32}
use mir.Val.{to_z}
use borrow.Author.Tests.{ltb-true, eqb-true, lt-ltb, le-ltb}
use Rattle.laws.specs.Floats.{zero_f}
use Rattle.laws.proofs.Maps.{same_default}
use Rattle.rules.specs.Answer.{Res, ok, refused, number, place}
use Rattle.rules.specs.Columns.{value_list}
use Rattle.rules.specs.Listing.{ascii, natural, listing}
use Rattle.rules.specs.Outcome.{Rooms, Done, outcome}
use Rattle.rules.specs.Answer.{Refused}
use Rattle.rules.specs.declared.Refusal.{Refusal}
use Rattle.rules.specs.declared.Refusal.TheVariants as refusal_is
use Rattle.reading.specs.Held.{no_row}
use Rattle.settled.specs.Lines.{Line}
use Rattle.listing.specs.Pieces.{Shown, Tells}
use Rattle.listing.specs.Put.{Begins}
use Rattle.listing.proofs.Told.{no_number}
use Rattle.figures.specs.Figures.{fields}
use Rattle.lines.specs.Lines.{Rows, figure_lines}
use Rattle.said.specs.Said.{Says}
use Rattle.text.specs.SheetText.{rooms}
use Rattle.checks.specs.Check.{number_of, place_of, checked, Verdict}
use Rattle.checks.specs.declared.verdict.CheckRefusal.TheVariants.{Engine, Loop, Listing}
use Rattle.compared.specs.CheckText.{lines_lent, check_lent, place_text, listed_text, row_text, run_text, loop_text, bad_row, verdict_text, with_lines, check_text}

-- ---- what was lent

pub check_rooms_lem : (q : Rooms) → q.collected ≡ 4096 → q.rows ≡ 4096 → q.entries ≡ 4096 → q.plain ≡ 4096 → q.sources ≡ 0 → q ≡ check_lent
unfolding rooms
check_rooms_lem q h1 h2 h3 h4 h5 = rw (h1, h2, h3, h4, h5) refl

module _ (b : List ℕ) (ls : List Line) {k : ℕ} (q : Rooms) (e : q ≡ check_lent) where
  pub judged-number : k ≡ number_of (checked b q ls) → k ≡ number_of (checked b check_lent ls)
  judged-number h = h ∙ ap (λ (x : Rooms). number_of (checked b x ls)) e

  pub judged-place : k ≡ place_of (checked b q ls) → k ≡ place_of (checked b check_lent ls)
  judged-place h = h ∙ ap (λ (x : Rooms). place_of (checked b x ls)) e

-- ---- pieces

chosen : {t u : Bool} (xs ys : List ℕ) → u ≡ t → cond t xs ys ≡ cond u xs ys
chosen xs ys e = ap (λ (x : Bool). cond x xs ys) (sym e)

pub place_small : (n : ℕ) → n < 4294967296 → natural n ≡ place_text n
place_small n h = chosen (natural n) (ascii "*") (lt-ltb n 4294967296 h)

pub place_large : (n : ℕ) → 4294967296 ≤ n → 42 ∷ [] ≡ place_text n
place_large n h = chosen (natural n) (ascii "*") (le-ltb n 4294967296 h)

pub listed_there : (ls : List (List ℕ)) (i : ℕ) {n : ℕ} {z : ℤ} → i < length ls → z ≡ to_z w32 (get_or (get_or ls i []) 1 0)
    → n ≡ get_or (get_or ls i []) 2 0 + 4294967296 * get_or (get_or ls i []) 3 0 → fields (get_or (get_or ls i []) 0 0) z n ≡ listed_text ls i
listed_there ls i {n} {z} h e f =
    ap (λ (y : ℤ). fields (get_or (get_or ls i []) 0 0) y n) e
    ∙ ap (fields (get_or (get_or ls i []) 0 0) (to_z w32 (get_or (get_or ls i []) 1 0))) f
    ∙ chosen (fields (get_or (get_or ls i []) 0 0) (to_z w32 (get_or (get_or ls i []) 1 0)) (get_or (get_or ls i []) 2 0 + 4294967296 * get_or (get_or ls i []) 3 0)) (ascii "no line") (lt-ltb i (length ls) h)

pub listed_at : (ls : List (List ℕ)) (i : ℕ) {l : List ℕ} {n : ℕ} {z : ℤ} → i < length ls → l ≡ get_or ls i [] → z ≡ to_z w32 (get_or l 1 0)
    → n ≡ get_or l 2 0 + 4294967296 * get_or l 3 0 → fields (get_or l 0 0) z n ≡ listed_text ls i
listed_at ls i {l} {n} {z} h q e f =
    ap (λ (k : List ℕ). fields (get_or k 0 0) z n) q
    ∙ listed_there ls i h (e ∙ ap (λ (k : List ℕ). to_z w32 (get_or k 1 0)) q) (f ∙ ap (λ (k : List ℕ). get_or k 2 0 + 4294967296 * get_or k 3 0) q)

pub listed_none : (ls : List (List ℕ)) (i : ℕ) → length ls ≤ i → ascii "no line" ≡ listed_text ls i
listed_none ls i h =
    chosen (fields (get_or (get_or ls i []) 0 0) (to_z w32 (get_or (get_or ls i []) 1 0)) (get_or (get_or ls i []) 2 0 + 4294967296 * get_or (get_or ls i []) 3 0)) (ascii "no line") (le-ltb i (length ls) h)

-- of two tests
both_first : (s t : Bool) → s && t ≡ true → s ≡ true
both_first true t h = refl
both_first false t h = absurd (true≢false (sym h))

both_second : (s t : Bool) → s && t ≡ true → t ≡ true
both_second true t h = h
both_second false t h = absurd (true≢false (sym h))

pub row_inside : (k n i : ℕ) → eqb k 0 && ltb i n ≡ true → i < n
row_inside k n i h = ltb-true i n (both_second (eqb k 0) (ltb i n) h)

module _ {k p n : ℕ} {rs : List (List ℕ)} {vs : List Float} (i : ℕ) where
  pub run_there : {bits : ℕ} {z : ℤ} (x : Float) → eqb k 0 && ltb i n ≡ true → z ≡ to_z w32 (get_or (get_or rs i []) 1 0) → bits ≡ to_bits binary64 (get_or vs i x)
      → (o : Res Done) → Tells o k p n rs vs → fields (get_or (get_or rs i []) 0 0) z bits ≡ run_text o i
  run_there x h e f (refused y) t = absurd (no_number y (sym t.by_number ∙ eqb-true k 0 (both_first (eqb k 0) (ltb i n) h)))
  run_there {bits} {z} x h e f (ok d) t =
      let s : Shown d n rs vs = t.by_rows d refl in
      let l : i < n = row_inside k n i h in
      ap (λ (o : ℕ). fields o z bits) (sym (s.object i no_row l))
      ∙ ap (λ (y : ℤ). fields (get_or d.rows i no_row).object y bits) (e ∙ sym (s.id i no_row l))
      ∙ ap (fields (get_or d.rows i no_row).object (get_or d.rows i no_row).id) (f ∙ ap (to_bits binary64) (sym (s.value i x l) ∙ default d s l x))
      ∙ chosen (row_text d i) (ascii "no row") (lt-ltb i (length d.rows) (omega (arith, l, s.count)))
    where
      default : (d : Done) → Shown d n rs vs → i < n → (x : Float) → get_or (value_list (ok d)) i x ≡ get_or (value_list (ok d)) i zero_f
      default d s l x = same_default (value_list (ok d)) i x zero_f (omega (arith, l, s.valued))

  pub run_none : eqb k 0 && ltb i n ≡ false → (o : Res Done) → Tells o k p n rs vs → ascii "no row" ≡ run_text o i
  run_none h (refused y) t = refl
  run_none h (ok d) t =
      chosen (row_text d i) (ascii "no row")
      (ap (ltb i) (sym (t.by_rows d refl).count) ∙ subst (λ (m : ℕ). eqb m 0 && ltb i n ≡ false) t.by_number h)

-- ---- the line of LISTING, from each place where a piece of it begins

module _ (b : List ℕ) (ls : List (List ℕ)) (i : ℕ) where
  abbrev pub row_on : List ℕ
  row_on = run_text (outcome b rooms) i ++ (10 ∷ [])

  abbrev pub has_on : List ℕ
  has_on = ascii ", a run has " ++ row_on

  abbrev pub line_on : List ℕ
  line_on = listed_text ls i ++ has_on

  abbrev pub listed_on : List ℕ
  listed_on = ascii ": listed " ++ line_on

  abbrev pub place_on : List ℕ
  place_on = place_text i ++ listed_on

-- ---- which line

engine_below : (x : Refusal) → number (Refused x) < 10
engine_below (refusal_is.Shape p) = omega arith
engine_below (refusal_is.Func p) = omega arith
engine_below (refusal_is.Domain p) = omega arith
engine_below (refusal_is.Category p) = omega arith
engine_below (refusal_is.Operation p) = omega arith
engine_below (refusal_is.Other p) = omega arith
engine_below (refusal_is.Room p) = omega arith
engine_below (refusal_is.Number p) = omega arith
engine_below (refusal_is.Depth p) = omega arith

module _ (b : List ℕ) (ls : List (List ℕ)) where
  pub is_accepted : (v : Verdict) {k : ℕ} → k ≡ number_of v → k ≡ 0 → ascii "accepted\n" ≡ verdict_text b ls v
  is_accepted (Ok t) e z = refl
  is_accepted (Err (Engine x)) e z = absurd (no_number x (sym e ∙ z))
  is_accepted (Err (Loop o)) e z = absurd (omega (arith, e, z))
  is_accepted (Err (Listing i)) e z = absurd (omega (arith, e, z))

  pub is_loop : (v : Verdict) {k p : ℕ} → k ≡ number_of v → p ≡ place_of v → k ≡ 10 → loop_text p ≡ verdict_text b ls v
  is_loop (Ok t) e f z = absurd (omega (arith, e, z))
  is_loop (Err (Engine x)) e f z = absurd (omega (arith, e, z, engine_below x))
  is_loop (Err (Loop o)) e f z = ap loop_text f
  is_loop (Err (Listing i)) e f z = absurd (omega (arith, e, z))

  pub is-listing : (v : Verdict) {k p : ℕ} → k ≡ number_of v → p ≡ place_of v → k ≡ 15 → bad_row b ls p ≡ verdict_text b ls v
  is-listing (Ok t) e f z = absurd (omega (arith, e, z))
  is-listing (Err (Engine x)) e f z = absurd (omega (arith, e, z, engine_below x))
  is-listing (Err (Loop o)) e f z = absurd (omega (arith, e, z))
  is-listing (Err (Listing i)) e f z = ap (bad_row b ls) f

  pub is_engine : (v : Verdict) {k p : ℕ} {text : List ℕ} {end : ℕ} → k ≡ number_of v → p ≡ place_of v → (k ≡ 0 → ⊥) → (k ≡ 10 → ⊥) → (k ≡ 15 → ⊥)
      → ((x : Refusal) → number (Refused x) ≡ k → place (Refused x) ≡ p → Begins text end (listing (refused x))) → Begins text end (verdict_text b ls v)
  is_engine (Ok t) e f z l r g = absurd (z e)
  is_engine (Err (Engine x)) e f z l r g = g x (sym e) (sym f)
  is_engine (Err (Loop o)) e f z l r g = absurd (l e)
  is_engine (Err (Listing i)) e f z l r g = absurd (r e)

-- another name of what stands there
pub begins_as : {text xs ys : List ℕ} {end : ℕ} → xs ≡ ys → Begins text end xs → Begins text end ys
begins_as {text} {xs} {ys} {end} e g = subst (Begins text end) e g

-- ---- what was read of the listing's lines

pub says-lines : (b text : List ℕ) {r : Rows} {s : Says} → r ≡ figure_lines lines_lent text → s ≡ with_lines b r → s ≡ check_text b text
unfolding check_text
says-lines b text e k = k ∙ ap (with_lines b) e
