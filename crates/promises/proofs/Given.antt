-- Demand 3 of what comes back: of bytes, lists lent, and results that meet the definition, refused or not.
use Prim.Native.Nat.{ℕ, ◌<◌}
use native.Mathlib.Omega.{arith}
use mathlib.Core.Path.{◌≡◌, refl, sym, ap, subst, ◌∙◌}
use mathlib.Core.Bool.{true, ◌&&◌}
use mathlib.Core.List.{List, map}
use mathlib.Core.Option
use mathlib.Core.Option.{Option, none}
use lib.Ieee.{Float}
use lib.ListN.{length, get_or, replicate, get_or-map}
use Rattle.laws.specs.Lists.{every?, flat}
use Rattle.laws.specs.Floats.{finite, zero_f}
use Rattle.laws.proofs.Bools.{and_left}
use Rattle.laws.proofs.Every.{every_at}
use Rattle.laws.proofs.Maps.{map_itself}
use Rattle.rules.specs.Answer.{Res, ok, refused, number, place, answer_of}
use Rattle.rules.specs.Bytes.{signed}
use Rattle.rules.specs.Columns.{Counts, counts_of, collected_numbers, rows_numbers, entry_numbers, zero_entry, plain_numbers, source_numbers, zero_source, source_floats, origin_value, collected_list, row_list, value_list, entry_list, plain_list, source_list, sources_by_row, collected_column, collected_value_column, row_column, base_column, value_column, entry_column, entry_value_column, plain_column, source_column, source_float_column, state_column}
use Rattle.rules.specs.Dispatch.{Row}
use Rattle.rules.specs.Fresh.{fresh}
use Rattle.rules.specs.Outcome.{Lent, Rooms, Done, rooms_of, rows_in, world_of, run, outcome}
use Rattle.rules.specs.Sheet.{Book, Fit}
use Rattle.rules.specs.Answer.{Refused}
use Rattle.rules.specs.declared.Refusal.{Refusal}
use Rattle.rules.specs.declared.Refusal.TheVariants.{Shape, Func, Domain, Category, Operation, Other, Room, Number, Depth}
use Rattle.promises.specs.Given.{cell, SameResult, SameValues}
use Rattle.promises.specs.NoMemory.{no_row, NoLoop, Sound, book_in, fit_in, world_in}
use Rattle.promises.specs.Result.{Result, result_for, MeetsFor, Meets}
use Rattle.promises.specs.Sheets.{Deeper, Asking}
use Rattle.promises.specs.Unless.{Unless, refused_so, the_same}
use Rattle.promises.specs.Wider.{Longer}
use Rattle.promises.proofs.Asking.{asking_same}
use Rattle.promises.proofs.Ends.{column_place, column_cell, columns_same, row_cells, rows_four}
use Rattle.promises.proofs.FloatsCollected.{held, held-is}
use Rattle.promises.proofs.FloatsSheet.{sheet_rows}
use Rattle.promises.proofs.NoMemory.{is-run, sheet_sound, same_values}
use Rattle.promises.proofs.NoMemoryRun.{run_no_memory, run_rows}
use Rattle.promises.proofs.OneAnswer.{is_the_one}
use Rattle.promises.proofs.Room.{more-lent}
use Rattle.promises.proofs.Sheets.{more_depth_sheet}

-- ---- a result of number 0 is of a run that is done

refused-number : (x : Refusal) → number (Refused x) ≡ 0 → ⊥
refused-number (Shape p) h = omega (arith, h)
refused-number (Func p) h = omega (arith, h)
refused-number (Domain p) h = omega (arith, h)
refused-number (Category p) h = omega (arith, h)
refused-number (Operation p) h = omega (arith, h)
refused-number (Other p) h = omega (arith, h)
refused-number (Room p) h = omega (arith, h)
refused-number (Number p) h = omega (arith, h)
refused-number (Depth p) h = omega (arith, h)

pub record IsDoneFor (o : Res Done) : Type 0 where
  pub done : Done
  pub is : o ≡ ok done

pub is_done_for : (o : Res Done) (l : Lent) (r : Result) → MeetsFor o l r → r.number ≡ 0 → IsDoneFor o
is_done_for o l r m h = by o refl
  where
    by : (x : Res Done) → o ≡ x → IsDoneFor o
    by (ok d) e = record { done = d; is = e }
    by (refused x) e = absurd (refused-number x (sym (ap (λ (y : Res Done). number (answer_of y)) e) ∙ sym m.by_number ∙ h))

abbrev pub IsDone : List ℕ → Lent → Type 0
IsDone b l = IsDoneFor (outcome b l)

pub is-done : (b : List ℕ) (l : Lent) (r : Result) → Meets b l r → r.number ≡ 0 → IsDone b l
is-done b l r m h = is_done_for (outcome b l) l r m h

-- an attribute's 32 bits are its id, and floats are finite
abbrev pub FineRows : List Row → Type 0
FineRows rs = every? (λ x. held x.id && (finite x.base && every? (λ y. finite (origin_value y.origin)) x.entries)) rs ≡ true

-- row i, of an outcome that is done
module _ (o : Res Done) (l : Lent) (r : Result) (m : MeetsFor o l r) (d : Done) (e : o ≡ ok d) where
  pub row_count_for : r.counts.rows ≡ length d.rows
  row_count_for = ap (λ (c : Counts). c.rows) m.by-counts ∙ ap (λ (x : Res Done). length (row_list x)) e

  pub value_given_for : (i : ℕ) → get_or r.values i zero_f ≡ Option.get_or (get_or d.values i none) zero_f
  unfolding value_column
  value_given_for i =
      ap (λ (c : List Float). get_or c i zero_f) m.by_values ∙ ap (λ (x : Res Done). get_or (value_column x l.values) i zero_f) e
      ∙ column_place (λ x. x) zero_f (value_list (ok d)) l.values i ∙ ap (λ (c : List Float). get_or c i zero_f) (map_itself (value_list (ok d)))
      ∙ get_or-map (λ v. Option.get_or v zero_f) d.values i none

  pub row_given_for : (i j : ℕ) → cell r.rows i j ≡ cell (rows_numbers 0 0 d.rows d.sources) i j
  unfolding row_column
  row_given_for i j =
      ap (λ (c : List (List ℕ)). cell c i j) m.by_rows ∙ ap (λ (x : Res Done). cell (row_column x l.rows) i j) e
      ∙ column_cell (λ x. x) 6 (rows_numbers 0 0 d.rows d.sources) l.rows i j ∙ ap (λ (c : List (List ℕ)). cell c i j) (map_itself (rows_numbers 0 0 d.rows d.sources))

  object-given : (i : ℕ) → i < length d.rows → cell r.rows i 0 ≡ (get_or d.rows i no_row).object
  object-given i h = row_given_for i 0 ∙ (row_cells 0 0 d.rows d.sources i h).0

  id-held : FineRows d.rows → (i : ℕ) → i < length d.rows → held (get_or d.rows i no_row).id ≡ true
  id-held fine i h =
      let row = get_or d.rows i no_row in
      and_left (held row.id) (finite row.base && every? (λ x. finite (origin_value x.origin)) row.entries)
      (every_at (λ x. held x.id && (finite x.base && every? (λ y. finite (origin_value y.origin)) x.entries)) d.rows i no_row fine h)

  attribute_given : FineRows d.rows → (i : ℕ) → i < length d.rows → signed (cell r.rows i 1) ≡ (get_or d.rows i no_row).id
  attribute_given fine i h = ap signed (row_given_for i 1 ∙ (row_cells 0 0 d.rows d.sources i h).1) ∙ held-is (get_or d.rows i no_row).id (id-held fine i h)

  -- each value that comes back is the one that the rules give with no memory for the object and the attribute of its row
  pub no_memory_for : (k : Book) (f : Fit) (q : Rooms) → run k f q ≡ ok d → Sound f → FineRows (rows_in k f) → NoLoop (world_of k f q.sources)
      → (i : ℕ) → i < r.counts.rows → fresh (world_of k f q.sources) (cell r.rows i 0) (signed (cell r.rows i 1)) ≡ ok (get_or r.values i zero_f)
  no_memory_for k f q ran sound fine free i h =
      let inside : i < length d.rows = subst (λ (n : ℕ). i < n) row_count_for h in
      let v = run_no_memory k f q free d sound ran i inside in
      rw (object-given i inside, attribute_given (subst FineRows (sym (run_rows k f q d ran)) fine) i inside)
      (v.is ∙ ap ok (sym (value_given_for i ∙ ap (λ (x : Option Float). Option.get_or x zero_f) v.has)))

-- the same of any bytes
module _ (b : List ℕ) (l : Lent) (r : Result) (m : Meets b l r) (d : Done) (e : outcome b l ≡ ok d) where
  pub row_count : r.counts.rows ≡ length d.rows
  row_count = row_count_for (outcome b l) l r m d e

  pub value-given : (i : ℕ) → get_or r.values i zero_f ≡ Option.get_or (get_or d.values i none) zero_f
  value-given = value_given_for (outcome b l) l r m d e

  pub row-given : (i j : ℕ) → cell r.rows i j ≡ cell (rows_numbers 0 0 d.rows d.sources) i j
  row-given = row_given_for (outcome b l) l r m d e

-- ---- no memory

-- "Demand 3 is stated over the memoryless definition": of any bytes and lists lent, where the result is DONE and no attribute leads
-- back to itself, each value that comes back is the one that the rules give, with no memory, for the object and the attribute of its row
pub no_memory_given : (b : List ℕ) (l : Lent) (r : Result) → Meets b l r → r.number ≡ 0 → NoLoop (world_in b l)
    → (i : ℕ) → i < r.counts.rows → fresh (world_in b l) (cell r.rows i 0) (signed (cell r.rows i 1)) ≡ ok (get_or r.values i zero_f)
no_memory_given b l r m z free i h =
    let o = is-done b l r m z in
    let d = o.done in
    no_memory_for (outcome b l) l r m d o.is (book_in b) (fit_in b) (rooms_of l) (is-run b l d o.is) (sheet_sound b l d o.is) (sheet_rows b l d o.is) free i h

-- ---- the same values

values_same : (b c : List ℕ) (l n : Lent) (r s : Result) → Meets b l r → Meets c n s → (d e : Done) → outcome b l ≡ ok d → outcome c n ≡ ok e → d.rows ≡ e.rows → d.values ≡ e.values → SameValues r s
unfolding base_column entry_column entry_value_column
values_same b c l n r s m k d e h j rows values =
    record {
      row_count = row_count b l r m d h ∙ ap length rows ∙ sym (row_count c n s k e j);
      entry_count = ap (λ (x : Counts). x.entries) m.by-counts ∙ ap length entries ∙ sym (ap (λ (x : Counts). x.entries) k.by-counts);
      rows = λ i q p. row-given b l r m d h i q ∙ ap (λ (x : List Row). cell (rows_numbers 0 0 x d.sources) i q) rows ∙ rows_four 0 0 0 e.rows d.sources e.sources i q p ∙ sym (row-given c n s k e j i q);
      bases = columns_same zero_f base_column (λ o. map (λ x. x.base) (row_list o)) (λ o. column_place (λ x. x.base) zero_f (row_list o)) (outcome b l) (outcome c n) l.bases n.bases m.by_bases k.by_bases (ap (map (λ x. x.base)) listed);
      values = λ i. value-given b l r m d h i ∙ ap (λ (x : List (Option Float)). Option.get_or (get_or x i none) zero_f) values ∙ sym (value-given c n s k e j i);
      entries = columns_same zero_entry entry_column (λ o. map entry_numbers (entry_list o)) (λ o. column_place entry_numbers zero_entry (entry_list o)) (outcome b l) (outcome c n) l.entries n.entries m.by_entries k.by_entries (ap (map entry_numbers) entries);
      entry_values = columns_same zero_f entry_value_column (λ o. map (λ x. origin_value x.origin) (entry_list o)) (λ o. column_place (λ x. origin_value x.origin) zero_f (entry_list o)) (outcome b l) (outcome c n) l.entry_values n.entry_values m.by_entry_values k.by_entry_values (ap (map (λ x. origin_value x.origin)) entries);
    }
  where
    listed : row_list (outcome b l) ≡ row_list (outcome c n)
    listed = ap row_list h ∙ rows ∙ sym (ap row_list j)

    entries : entry_list (outcome b l) ≡ entry_list (outcome c n)
    entries = ap (flat (λ x. x.entries)) listed

-- of two sheets whose bytes differ in asks, depth and recording alone, and any lists lent for each: where no attribute leads back to
-- itself and both results are DONE, they have the same rows, bases, entries and values
pub same_values_given : (b c : List ℕ) (l n : Lent) (r s : Result) → Asking b c → Meets b l r → Meets c n s → r.number ≡ 0 → s.number ≡ 0 → NoLoop (world_in b l) → SameValues r s
same_values_given b c l n r s a m k y z free =
    let o = is-done b l r m y in
    let p = is-done c n s k z in
    let read = asking_same b c l o.done a o.is in
    let both = same_values b c l n o.done p.done o.is p.is read.0 read.1 free in
    values_same b c l n r s m k o.done p.done o.is p.is both.0 both.1

-- ---- more depth

pub unless_so : (short : ℕ → Refusal) (n : ℕ) → ((p : ℕ) → number (Refused (short p)) ≡ n) → {x y : Res Done} → Unless short x y → (number (answer_of x) ≡ n → ⊥) → y ≡ x
unless_so short n k (refused_so p e) h = absurd (h (ap (λ (o : Res Done). number (answer_of o)) e ∙ k p))
unless_so short n k (the_same e) h = e

-- "More depth": bytes c are b but with at least the depth: a result that is not 9 DEPTH is just the same with more, in number, place,
-- counts and every column, whatever it was, with loops or without
pub more_depth_given : (b c : List ℕ) (l : Lent) (r s : Result) → Deeper b c → Meets b l r → Meets c l s → (r.number ≡ 9 → ⊥) → r ≡ s
more_depth_given b c l r s d m n h =
    is_the_one b l r m
    ∙ ap (λ (o : Res Done). result_for o l) (sym (unless_so Depth 9 (λ p. refl) (more_depth_sheet b c l d) (λ e. h (m.by_number ∙ e))))
    ∙ sym (is_the_one c l s n)

-- ---- more room

-- what comes back of one outcome, in columns of other lengths
pub same_result : (o p : Res Done) (l k : Lent) (r s : Result) → o ≡ p → MeetsFor o l r → MeetsFor p k s → SameResult r s
unfolding collected_column collected_value_column row_column base_column value_column entry_column entry_value_column plain_column source_column source_float_column
same_result o p l k r s same m n =
    record {
      number = m.by_number ∙ ap (λ (x : Res Done). number (answer_of x)) same ∙ sym n.by_number;
      place = m.by_place ∙ ap (λ (x : Res Done). place (answer_of x)) same ∙ sym n.by_place;
      counts = m.by-counts ∙ ap counts_of same ∙ sym n.by-counts;
      states = m.by_states ∙ ap state_column same ∙ sym n.by_states;
      collected = columns_same (replicate 14 0) collected_column (λ x. map collected_numbers (collected_list x)) (λ x. column_place collected_numbers (replicate 14 0) (collected_list x)) o p l.collected k.collected m.by-collected n.by-collected (ap (λ (x : Res Done). map collected_numbers (collected_list x)) same);
      collected_values = columns_same zero_f collected_value_column (λ x. map (λ t. origin_value t.origin) (collected_list x)) (λ x. column_place (λ t. origin_value t.origin) zero_f (collected_list x)) o p l.collected_values k.collected_values m.by_collected_values n.by_collected_values (ap (λ (x : Res Done). map (λ t. origin_value t.origin) (collected_list x)) same);
      rows = columns_same (replicate 6 0) row_column (λ x. map (λ y. y) (rows_numbers 0 0 (row_list x) (sources_by_row x))) (λ x. column_place (λ y. y) (replicate 6 0) (rows_numbers 0 0 (row_list x) (sources_by_row x))) o p l.rows k.rows m.by_rows n.by_rows (ap (λ (x : Res Done). map (λ y. y) (rows_numbers 0 0 (row_list x) (sources_by_row x))) same);
      bases = columns_same zero_f base_column (λ x. map (λ y. y.base) (row_list x)) (λ x. column_place (λ y. y.base) zero_f (row_list x)) o p l.bases k.bases m.by_bases n.by_bases (ap (λ (x : Res Done). map (λ y. y.base) (row_list x)) same);
      values = columns_same zero_f value_column (λ x. map (λ y. y) (value_list x)) (λ x. column_place (λ y. y) zero_f (value_list x)) o p l.values k.values m.by_values n.by_values (ap (λ (x : Res Done). map (λ y. y) (value_list x)) same);
      entries = columns_same zero_entry entry_column (λ x. map entry_numbers (entry_list x)) (λ x. column_place entry_numbers zero_entry (entry_list x)) o p l.entries k.entries m.by_entries n.by_entries (ap (λ (x : Res Done). map entry_numbers (entry_list x)) same);
      entry_values = columns_same zero_f entry_value_column (λ x. map (λ y. origin_value y.origin) (entry_list x)) (λ x. column_place (λ y. origin_value y.origin) zero_f (entry_list x)) o p l.entry_values k.entry_values m.by_entry_values n.by_entry_values (ap (λ (x : Res Done). map (λ y. origin_value y.origin) (entry_list x)) same);
      plain = columns_same (replicate 2 0) plain_column (λ x. map plain_numbers (plain_list x)) (λ x. column_place plain_numbers (replicate 2 0) (plain_list x)) o p l.plain k.plain m.by-plain n.by-plain (ap (λ (x : Res Done). map plain_numbers (plain_list x)) same);
      sources = columns_same zero_source source_column (λ x. map source_numbers (source_list x)) (λ x. column_place source_numbers zero_source (source_list x)) o p l.sources k.sources m.by_sources n.by_sources (ap (λ (x : Res Done). map source_numbers (source_list x)) same);
      source_floats = columns_same (replicate 2 zero_f) source_float_column (λ x. map source_floats (source_list x)) (λ x. column_place source_floats (replicate 2 zero_f) (source_list x)) o p l.source_floats k.source_floats m.by_source_floats n.by_source_floats (ap (λ (x : Res Done). map source_floats (source_list x)) same);
    }

-- "More room": lists k lend at least as much as l in every column: a result that is not 7 ROOM is the same with more, in number, place,
-- counts and every column, with zeros behind
pub more_room_given : (b : List ℕ) (l k : Lent) (r s : Result) → Longer l k → Meets b l r → Meets b k s → (r.number ≡ 7 → ⊥) → SameResult r s
more_room_given b l k r s w m n h =
    same_result (outcome b l) (outcome b k) l k r s (sym (unless_so Room 7 (λ x. refl) (more-lent b l k w) (λ e. h (m.by_number ∙ e)))) m n
