-- Every float that comes back is finite, and each row of a run that is done has a value, with loops too.
use Prim.Native.Nat.{ℕ, ◌<◌}
use mathlib.Core.Path.{◌≡◌, refl, sym, ap, subst, ◌∙◌}
use mathlib.Core.Bool.{Bool, true, ◌&&◌}
use mathlib.Core.List.{List}
use mathlib.Core.Option.{Option, none, some, get_or}
use lib.Ieee.{Float}
use lib.IntN.{ℤ}
use lib.ListN.{replicate}
use Rattle.laws.specs.Lists.{every?}
use Rattle.laws.specs.Floats.{finite, zero_f}
use Rattle.laws.proofs.Bools.{and_left, and_right, and_both}
use Rattle.laws.proofs.Every.{every_map, every_weaker}
use Rattle.rules.specs.Answer.{Res, ok, refused}
use Rattle.rules.specs.Columns.{origin_value, source_floats, collected_list, row_list, value_list, entry_list, source_list, collected_value_column, base_column, value_column, entry_value_column, source_float_column}
use Rattle.rules.specs.Dispatch.{Row}
use Rattle.rules.specs.Info.{get_dogma_attribute}
use Rattle.rules.specs.Outcome.{Lent, Done, collected_in, rows_in, rooms_of, world_of, outcome}
use Rattle.rules.specs.declared.Effect.{Effect}
use Rattle.rules.specs.declared.Pass2Effect.{Pass2Effect}
use Rattle.promises.specs.Given.{Finite, Valued}
use Rattle.promises.specs.NoMemory.{book_in, fit_in, world_in}
use Rattle.promises.specs.Result.{Result, Meets}
use Rattle.promises.proofs.Ends.{column_every}
use Rattle.promises.proofs.Everywhere.{flat_every}
use Rattle.promises.proofs.FloatsCollected.{held, held_taken, fine_taken, default_finite}
use Rattle.promises.proofs.FloatsSheet.{sheet_fine, sheet_collected, sheet_rows}
use Rattle.promises.proofs.FloatsSteps.{fine_value, fine_source}
use Rattle.promises.proofs.FloatsRun.{fine_at, run_values, run_sources, row-valued}
use Rattle.promises.proofs.Given.{is-done, row_count, value-given}
use Rattle.promises.proofs.NoMemory.{is-run, sheet_sound}
use Rattle.promises.proofs.NoMemoryRun.{ran, run_rows}

abbrev fine_entry : Effect → Bool
fine_entry e = finite (origin_value e.origin)

-- ---- the lists of an outcome

record Lists (o : Res Done) : Type 0 where
  collected : every? (λ t. finite (origin_value t.origin)) (collected_list o) ≡ true
  rows : every? fine_at (row_list o) ≡ true
  values : every? finite (value_list o) ≡ true
  sources : every? fine_source (source_list o) ≡ true

module _ (b : List ℕ) (l : Lent) (d : Done) (h : outcome b l ≡ ok d) where
  pub world_rows : every? fine_at (world_in b l).rows ≡ true
  unfolding world_of
  world_rows =
      every_weaker (λ r. held r.id && fine_at r) fine_at (λ r e. and_right (held r.id) (fine_at r) e) (rows_in (book_in b) (fit_in b)) (sheet_rows b l d h)

  pub defaults : (a : ℤ) → finite (get_dogma_attribute (book_in b) a).default_value ≡ true
  defaults = default_finite (book_in b) (fit_in b) (sheet_fine b l d h)

  value-finite : (v : Option Float) → fine_value v ≡ true → finite (get_or v zero_f) ≡ true
  unfolding finite
  value-finite none e = refl
  value-finite (some x) e = e

  done_lists : Lists (ok d)
  unfolding world_of
  done_lists =
      let is = (ran (book_in b) (fit_in b) (rooms_of l) d (is-run b l d h)).is in
      record {
        collected = subst (λ (ts : List Pass2Effect). every? (λ t. finite (origin_value t.origin)) ts ≡ true) (sym (ap (λ (x : Done). x.collected) is))
            (every_weaker fine_taken (λ t. finite (origin_value t.origin)) (λ t e. and_left (finite (origin_value t.origin)) (held_taken t) e) (collected_in (book_in b) (fit_in b)) (sheet_collected b l d h));
        rows = subst (λ (rs : List Row). every? fine_at rs ≡ true) (sym (run_rows (book_in b) (fit_in b) (rooms_of l) d (is-run b l d h))) world_rows;
        values = every_map finite (λ v. get_or v zero_f) d.values
            ∙ every_weaker fine_value (λ v. finite (get_or v zero_f)) value-finite d.values (run_values (book_in b) (fit_in b) (rooms_of l) defaults world_rows d (is-run b l d h));
        sources = flat_every (every? fine_source) fine_source (λ x. x) (λ x e. e) d.sources (run_sources (book_in b) (fit_in b) (rooms_of l) defaults world_rows d (is-run b l d h));
      }

lists : (b : List ℕ) (l : Lent) → Lists (outcome b l)
lists b l = by (outcome b l) refl
  where
    by : (o : Res Done) → outcome b l ≡ o → Lists o
    by (ok d) e = done_lists b l d e
    by (refused x) e = record { collected = refl; rows = refl; values = refl; sources = refl }

-- ---- the theorems

-- "All floats are finite" in a sheet, and 8 NUMBER is where "a float step's result is not finite": of any bytes and lists lent, and whatever the
-- answer, every element of every float column is finite
pub every_float-finite : (b : List ℕ) (l : Lent) (r : Result) → Meets b l r → Finite r
unfolding collected_value_column base_column value_column entry_value_column source_float_column finite
every_float-finite b l r m =
    let o = outcome b l in
    let h = lists b l in
    record {
      collected_values = ap (every? finite) m.by_collected_values ∙ column_every (λ t. origin_value t.origin) zero_f (collected_list o) finite l.collected_values h.collected refl;
      bases = ap (every? finite) m.by_bases
          ∙ column_every (λ x. x.base) zero_f (row_list o) finite l.bases (every_weaker fine_at (λ x. finite x.base) (λ x e. and_left (finite x.base) (every? fine_entry x.entries) e) (row_list o) h.rows) refl;
      values = ap (every? finite) m.by_values ∙ column_every (λ x. x) zero_f (value_list o) finite l.values h.values refl;
      entry_values = ap (every? finite) m.by_entry_values
          ∙ column_every (λ e. origin_value e.origin) zero_f (entry_list o) finite l.entry_values
          (flat_every fine_at fine_entry (λ x. x.entries) (λ x e. and_right (finite x.base) (every? fine_entry x.entries) e) (row_list o) h.rows) refl;
      source_floats = ap (every? (every? finite)) m.by_source_floats
          ∙ column_every source_floats (replicate 2 zero_f) (source_list o) (every? finite) l.source_floats
          (every_weaker fine_source (λ s. every? finite (source_floats s)) (λ s e. and_both (and_left (finite s.value) (finite s.penalty) e) (and_both (and_right (finite s.value) (finite s.penalty) e) refl)) (source_list o) h.sources) refl;
    }

-- where the answer is DONE, each row has a value: it is in the definition's memory at the end, it is what comes back, and it stands for
-- no missing one; with loops too
pub every_row_valued : (b : List ℕ) (l : Lent) (r : Result) → Meets b l r → r.number ≡ 0 → (i : ℕ) → i < r.counts.rows → Valued b l r i
every_row_valued b l r m z i h =
    let o = is-done b l r m z in
    let d = o.done in
    let v = row-valued (book_in b) (fit_in b) (rooms_of l) (defaults b l d o.is) (world_rows b l d o.is) d (is-run b l d o.is) (sheet_sound b l d o.is) i (subst (λ (n : ℕ). i < n) (row_count b l r m d o.is) h) in
    record {
      done = d;
      is-done = o.is;
      value = v.value;
      remembered = v.is;
      given = value-given b l r m d o.is i ∙ ap (λ (x : Option Float). get_or x zero_f) v.is;
    }
