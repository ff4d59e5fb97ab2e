-- Demand 3, no memory: where no attribute leads back to itself, each value of a run that is done is the one that the rules give
-- with no memory, and so neither asks nor depth, recording or room change one.
use Prim.Native.Nat.{ℕ, ◌<◌}
use native.Mathlib.Omega.{arith}
use mathlib.Core.Path.{◌≡◌, refl, sym, ap, subst, ◌∙◌}
use mathlib.Core.Bool.{Bool, true, false}
use mathlib.Core.List.{List}
use mathlib.Core.Option.{Option, none, some}
use lib.ListN.{length, get_or}
use lib.Seq.{ext_get_or}
use Rattle.rules.specs.Answer.{ok, refused}
use Rattle.rules.specs.Bytes.{pairs_of}
use Rattle.rules.specs.Sheet.{Book, Fit, fit_of, object_from}
use Rattle.rules.specs.Shape.{header_good, book_bad, fit_bad, bad_shape}
use Rattle.rules.specs.Item.{object, no_item}
use Rattle.rules.specs.Dispatch.{Row}
use Rattle.rules.specs.Value.{World}
use Rattle.rules.specs.Outcome.{Lent, Rooms, Done, rooms_of, world_of, run, outcome}
use Rattle.rules.specs.Fresh.{fresh}
use Rattle.rules.specs.declared.Item.{Item}
use Rattle.rules.specs.declared.Refusal.TheVariants.{Shape}
use Rattle.rules.proofs.Tables.{table_at, table-length}
use Rattle.rules.proofs.Verdicts.{objects_good_lem, bases_good_lem}
use Rattle.promises.specs.NoMemory.{no_row, NoLoop, Sound, Memoryless, SameButAsks, book_in, fit_in, world_in}
use Rattle.rules.proofs.Results.{got}
use Rattle.promises.proofs.NoMemoryRun.{run_no_memory, run_long, run_rows}
use Rattle.promises.proofs.NoMemorySame.{fresh_same, free_same, world_same, rows_same, sound_same}

-- ---- runs of a sound fit

module _ (k : Book) (f g : Fit) (q p : Rooms) (sound : Sound f) (same : SameButAsks f g) (free : NoLoop (world_of k f q.sources)) (d e : Done) (h : run k f q ≡ ok d) (j : run k g p ≡ ok e) where
  abbrev one : World
  one = world_of k f q.sources

  abbrev other : World
  other = world_of k g p.sources

  free_other : NoLoop other
  free_other = free_same one other (world_same k f g same q.sources p.sources) free

  pub run_same_rows : d.rows ≡ e.rows
  run_same_rows = run_rows k f q d h ∙ rows_same k f g same ∙ sym (run_rows k g p e j)

  value_same : (i : ℕ) → i < length d.rows → get_or d.values i none ≡ get_or e.values i none
  value_same i l =
      let a = run_no_memory k f q free d sound h i l in
      let b = run_no_memory k g p free_other e (sound_same k f g same sound) j i (subst (λ (rs : List Row). i < length rs) run_same_rows l) in
      a.has ∙ ap some (got (sym a.is ∙ fresh_same one other (world_same k f g same q.sources p.sources) _ _ ∙ ap (λ (rs : List Row). fresh other (get_or rs i no_row).object (get_or rs i no_row).id) run_same_rows ∙ b.is)) ∙ sym b.has

  pub run_same_values : d.values ≡ e.values
  run_same_values =
      ext_get_or none d.values e.values (run_long k f q free d h ∙ ap length run_same_rows ∙ sym (run_long k g p free_other e j))
      (λ i l. value_same i (subst (λ (n : ℕ). i < n) (run_long k f q free d h) l))

-- ---- any bytes

numbered : (b : List ℕ) (ps : List (List ℕ)) (j : ℕ) → j < length (fit_of b ps).objects → (object (fit_of b ps) j).number ≡ j
unfolding fit_of
numbered b ps j m = sym (ap (λ (o : Item). o.number) (table_at object_from 6 b ps j (rw (table-length object_from 6 b ps) at m) no_item))

-- a fit whose tables are good is sound, of any bytes and pairs
pub fit_sound : (b : List ℕ) (ps : List (List ℕ)) → fit_bad (fit_of b ps) ≡ none → Sound (fit_of b ps)
fit_sound b ps good = record { objects = objects_good_lem (fit_of b ps) good; bases = bases_good_lem (fit_of b ps) good; numbered = numbered b ps }

-- a sheet that is not refused for its shape is sound, and its run is what comes back
module _ (b : List ℕ) (l : Lent) (d : Done) (h : outcome b l ≡ ok d) where
  no_table_bad : bad_shape b ≡ none
  unfolding outcome
  no_table_bad = by (bad_shape b) h
    where
      by : (t : Option ℕ) → (elim t [ some n ↦ refused (Shape n) | none ↦ run (book_in b) (fit_in b) (rooms_of l) ]) ≡ ok d → t ≡ none
      by none e = refl
      by (some n) e = let z : ◌≡◌ {A = ℕ} 0 1 = cc in absurd (omega arith)

  pub is-run : run (book_in b) (fit_in b) (rooms_of l) ≡ ok d
  unfolding outcome
  is-run = by (bad_shape b) h
    where
      by : (t : Option ℕ) → (elim t [ some n ↦ refused (Shape n) | none ↦ run (book_in b) (fit_in b) (rooms_of l) ]) ≡ ok d → run (book_in b) (fit_in b) (rooms_of l) ≡ ok d
      by none e = e
      by (some n) e = let z : ◌≡◌ {A = ℕ} 0 1 = cc in absurd (omega arith)

  pub header_good_lem : header_good b (pairs_of b) ≡ true
  unfolding bad_shape
  header_good_lem = by (header_good b (pairs_of b)) no_table_bad
    where
      by : (t : Bool) → ◌≡◌ {A = Option ℕ} (elim t [ false ↦ some 0 | true ↦ elim (book_bad (book_in b)) [ some n ↦ some n | none ↦ fit_bad (fit_in b) ] ]) none → t ≡ true
      by true e = refl
      by false e = let z : ◌≡◌ {A = ℕ} 0 1 = cc in absurd (omega arith)

  pub book_good : book_bad (book_in b) ≡ none
  unfolding bad_shape
  book_good = by (header_good b (pairs_of b)) (book_bad (book_in b)) no_table_bad
    where
      by : (t : Bool) (u : Option ℕ) → ◌≡◌ {A = Option ℕ} (elim t [ false ↦ some 0 | true ↦ elim u [ some n ↦ some n | none ↦ fit_bad (fit_in b) ] ]) none → u ≡ none
      by true none e = refl
      by true (some n) e = let z : ◌≡◌ {A = ℕ} 0 1 = cc in absurd (omega arith)
      by false u e = let z : ◌≡◌ {A = ℕ} 0 1 = cc in absurd (omega arith)

  pub fit_good : fit_bad (fit_in b) ≡ none
  unfolding bad_shape
  fit_good = by (header_good b (pairs_of b)) (book_bad (book_in b)) no_table_bad
    where
      by : (t : Bool) (u : Option ℕ) → ◌≡◌ {A = Option ℕ} (elim t [ false ↦ some 0 | true ↦ elim u [ some n ↦ some n | none ↦ fit_bad (fit_in b) ] ]) none → fit_bad (fit_in b) ≡ none
      by true none e = e
      by true (some n) e = let z : ◌≡◌ {A = ℕ} 0 1 = cc in absurd (omega arith)
      by false u e = let z : ◌≡◌ {A = ℕ} 0 1 = cc in absurd (omega arith)

  pub sheet_sound : Sound (fit_in b)
  sheet_sound = fit_sound b (pairs_of b) fit_good

-- ---- the theorems

-- for all bytes and lent lists: a run that is done, on a sheet where no attribute leads back to itself, gives every row the value
-- that the rules give with no memory
pub no_memory : (b : List ℕ) (l : Lent) (d : Done) → outcome b l ≡ ok d → NoLoop (world_in b l) → (i : ℕ) → i < length d.rows → Memoryless (world_in b l) d i
no_memory b l d h free i = run_no_memory (book_in b) (fit_in b) (rooms_of l) free d (sheet_sound b l d h) (is-run b l d h) i

-- two such runs on sheets that differ in asks, depth and recording alone, with any lent lists: the same rows and the same values
pub same_values : (b c : List ℕ) (l m : Lent) (d e : Done) → outcome b l ≡ ok d → outcome c m ≡ ok e → book_in b ≡ book_in c → SameButAsks (fit_in b) (fit_in c) → NoLoop (world_in b l)
    → (d.rows ≡ e.rows) × (d.values ≡ e.values)
same_values b c l m d e h j book same free =
    let there : run (book_in b) (fit_in c) (rooms_of m) ≡ ok e = subst (λ (k : Book). run k (fit_in c) (rooms_of m) ≡ ok e) (sym book) (is-run c m e j) in (
      run_same_rows (book_in b) (fit_in b) (fit_in c) (rooms_of l) (rooms_of m) (sheet_sound b l d h) same free d e (is-run b l d h) there,
      run_same_values (book_in b) (fit_in b) (fit_in c) (rooms_of l) (rooms_of m) (sheet_sound b l d h) same free d e (is-run b l d h) there,
    )
