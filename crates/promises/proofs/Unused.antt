-- "Unused ends are zero", of results: behind its list's count no column keeps what was lent.
use Prim.Native.Nat.{ℕ, ◌≤◌}
use mathlib.Core.Path.{◌≡◌, refl, sym, ap, subst, ◌∙◌}
use mathlib.Core.List.{List, map}
use mathlib.Core.Option
use lib.Ieee.{Float}
use lib.ListN.{length, get_or, replicate, length-map, get_or-eq_default}
use Rattle.laws.specs.Floats.{zero_f}
use Rattle.rules.specs.Answer.{Res, ok, refused}
use Rattle.rules.specs.Columns.{Counts, collected_numbers, rows_numbers, entry_numbers, zero_entry, plain_numbers, source_numbers, zero_source, source_floats, origin_value, collected_list, row_list, value_list, entry_list, plain_list, source_list, sources_by_row, collected_column, collected_value_column, row_column, base_column, value_column, entry_column, entry_value_column, plain_column, source_column, source_float_column}
use Rattle.rules.specs.Outcome.{Lent, Done, rooms_of, outcome}
use Rattle.promises.specs.Given.{ZeroEnds}
use Rattle.promises.specs.NoMemory.{book_in, fit_in}
use Rattle.promises.specs.Result.{Result, Meets}
use Rattle.promises.proofs.Ends.{column_place, numbers_length}
use Rattle.promises.proofs.Floats.{defaults, world_rows}
use Rattle.promises.proofs.FloatsRun.{all_long}
use Rattle.promises.proofs.NoMemory.{is-run}

-- as many values as rows
values_long : (b : List ℕ) (l : Lent) → length (value_list (outcome b l)) ≡ length (row_list (outcome b l))
values_long b l = by (outcome b l) refl
  where
    by : (o : Res Done) → outcome b l ≡ o → length (value_list o) ≡ length (row_list o)
    by (ok d) e = length-map d.values (λ v. Option.get_or v zero_f) ∙ all_long (book_in b) (fit_in b) (rooms_of l) (defaults b l d e) (world_rows b l d e) d (is-run b l d e)
    by (refused x) e = refl

-- behind a list's rows its column has nothing but zeros
behind : {A : Type 0} (z : A) (list c : List A) (n : ℕ) → ((i : ℕ) → get_or c i z ≡ get_or list i z) → n ≡ length list → (i : ℕ) → n ≤ i → get_or c i z ≡ z
behind z list c n at e i h = at i ∙ get_or-eq_default list z (subst (λ (k : ℕ). k ≤ i) e h)

-- "Unused ends are zero": of any bytes and lists lent, and whatever the answer, no column keeps what was lent behind its list's count
pub unused_ends_zero : (b : List ℕ) (l : Lent) (r : Result) → Meets b l r → ZeroEnds r
unfolding collected_column collected_value_column row_column base_column value_column entry_column entry_value_column plain_column source_column source_float_column
unused_ends_zero b l r m =
    record {
      collected = behind (replicate 14 0) (map collected_numbers (collected_list o)) r.collected r.counts.collected
          (λ i. ap (λ (c : List (List ℕ)). get_or c i (replicate 14 0)) m.by-collected ∙ column_place collected_numbers (replicate 14 0) (collected_list o) l.collected i)
          (ap (λ (c : Counts). c.collected) m.by-counts ∙ sym (length-map (collected_list o) collected_numbers));
      collected_values = behind zero_f (map (λ t. origin_value t.origin) (collected_list o)) r.collected_values r.counts.collected
          (λ i. ap (λ (c : List Float). get_or c i zero_f) m.by_collected_values ∙ column_place (λ t. origin_value t.origin) zero_f (collected_list o) l.collected_values i)
          (ap (λ (c : Counts). c.collected) m.by-counts ∙ sym (length-map (collected_list o) (λ t. origin_value t.origin)));
      rows = behind (replicate 6 0) (map (λ x. x) (rows_numbers 0 0 (row_list o) (sources_by_row o))) r.rows r.counts.rows
          (λ i. ap (λ (c : List (List ℕ)). get_or c i (replicate 6 0)) m.by_rows ∙ column_place (λ x. x) (replicate 6 0) (rows_numbers 0 0 (row_list o) (sources_by_row o)) l.rows i)
          (ap (λ (c : Counts). c.rows) m.by-counts ∙ sym (length-map (rows_numbers 0 0 (row_list o) (sources_by_row o)) (λ x. x) ∙ numbers_length 0 0 (row_list o) (sources_by_row o)));
      bases = behind zero_f (map (λ x. x.base) (row_list o)) r.bases r.counts.rows
          (λ i. ap (λ (c : List Float). get_or c i zero_f) m.by_bases ∙ column_place (λ x. x.base) zero_f (row_list o) l.bases i)
          (ap (λ (c : Counts). c.rows) m.by-counts ∙ sym (length-map (row_list o) (λ x. x.base)));
      values = behind zero_f (map (λ x. x) (value_list o)) r.values r.counts.rows
          (λ i. ap (λ (c : List Float). get_or c i zero_f) m.by_values ∙ column_place (λ x. x) zero_f (value_list o) l.values i)
          (ap (λ (c : Counts). c.rows) m.by-counts ∙ sym (length-map (value_list o) (λ x. x) ∙ values_long b l));
      entries = behind zero_entry (map entry_numbers (entry_list o)) r.entries r.counts.entries
          (λ i. ap (λ (c : List (List ℕ)). get_or c i zero_entry) m.by_entries ∙ column_place entry_numbers zero_entry (entry_list o) l.entries i)
          (ap (λ (c : Counts). c.entries) m.by-counts ∙ sym (length-map (entry_list o) entry_numbers));
      entry_values = behind zero_f (map (λ x. origin_value x.origin) (entry_list o)) r.entry_values r.counts.entries
          (λ i. ap (λ (c : List Float). get_or c i zero_f) m.by_entry_values ∙ column_place (λ x. origin_value x.origin) zero_f (entry_list o) l.entry_values i)
          (ap (λ (c : Counts). c.entries) m.by-counts ∙ sym (length-map (entry_list o) (λ x. origin_value x.origin)));
      plain = behind (replicate 2 0) (map plain_numbers (plain_list o)) r.plain r.counts.plain
          (λ i. ap (λ (c : List (List ℕ)). get_or c i (replicate 2 0)) m.by-plain ∙ column_place plain_numbers (replicate 2 0) (plain_list o) l.plain i)
          (ap (λ (c : Counts). c.plain) m.by-counts ∙ sym (length-map (plain_list o) plain_numbers));
      sources = behind zero_source (map source_numbers (source_list o)) r.sources r.counts.sources
          (λ i. ap (λ (c : List (List ℕ)). get_or c i zero_source) m.by_sources ∙ column_place source_numbers zero_source (source_list o) l.sources i)
          (ap (λ (c : Counts). c.sources) m.by-counts ∙ sym (length-map (source_list o) source_numbers));
      source_floats = behind (replicate 2 zero_f) (map source_floats (source_list o)) r.source_floats r.counts.sources
          (λ i. ap (λ (c : List (List Float)). get_or c i (replicate 2 zero_f)) m.by_source_floats ∙ column_place source_floats (replicate 2 zero_f) (source_list o) l.source_floats i)
          (ap (λ (c : Counts). c.sources) m.by-counts ∙ sym (length-map (source_list o) source_floats));
    }
  where
    o : Res Done
    o = outcome b l
