-- M-111, "Test another planner's figures": what is answered, and what comes back. Definitions only.
use Rattle.std.specs.Prelude.{ℕ, min, ◌≡◌, List, [], Ok, Err}
use Rattle.std.specs.Prelude as code
use Rattle.std.proofs.Math.Option.{none, some}
use Rattle.rules.specs.Answer.{Res, ok, refused, number, place}
use Rattle.rules.specs.Bytes.{pairs_of}
use Rattle.rules.specs.Collect.{moves, plain_of}
use Rattle.rules.specs.Columns.{counts_of, collected_column, collected_value_column, row_column, base_column, value_column, entry_column, entry_value_column, plain_column, state_column}
use Rattle.rules.specs.Outcome.{Lent, Rooms, Done, counted, collected_in, world_of}
use Rattle.rules.specs.Shape.{bad_shape}
use Rattle.rules.specs.Sheet.{Book, Fit, book_of, fit_of}
use Rattle.rules.specs.Value.{World}
use Rattle.rules.specs.declared.Refusal.TheVariants.{Shape}
use Rattle.rules.specs.Answer.{Refused}
use Rattle.promises.specs.NoMemory.{book_in, fit_in}
use Rattle.promises.specs.Result.{Result}
use Rattle.settled.specs.Lines.{Line, values_of, first_bad}
use Rattle.loops.specs.Loop.{loop_at}
use Rattle.run.specs.Listing.{lists_in}
use Rattle.checks.specs.declared.verdict.CheckRefusal.{CheckRefusal}
use Rattle.checks.specs.declared.verdict.CheckRefusal.TheVariants.{Engine, Loop, Listing}

-- accepted, or why it is not
abbrev pub Verdict : Type 0
Verdict = code.Result (Unit {0}) CheckRefusal

-- "10 LOOP", "15 LISTING"; the engine's keep their numbers
abbrev pub number_of : Verdict → ℕ
number_of (Ok t) = 0
number_of (Err (Engine x)) = number (Refused x)
number_of (Err (Loop o)) = 10
number_of (Err (Listing i)) = 15

-- "the lowest object", "first wrong line from 0, or the number of lines where rows are missing"
abbrev pub place_of : Verdict → ℕ
place_of (Ok t) = 0
place_of (Err (Engine x)) = place (Refused x)
place_of (Err (Loop o)) = o
place_of (Err (Listing i)) = i

-- a sheet that has come to its values: LOOP, then rows, then values
unfoldable pub checked_in : World → List Line → Verdict
checked_in w ls = elim (loop_at w) [ some o ↦ Err (Loop o) | none ↦ elim (first_bad w ls) [ some i ↦ Err (Listing i) | none ↦ Ok tt ] ]

-- "Refusals: the engine's up to dispatch", then those of the listing
abbrev pub checked_after : Res Unit → World → List Line → Verdict
checked_after (refused x) w ls = Err (Engine x)
checked_after (ok t) w ls = checked_in w ls

-- of a book and a fit
abbrev pub checked_for : Book → Fit → Rooms → List Line → Verdict
checked_for k f q ls = checked_after (lists_in k f q) (world_of k f 0) ls

-- of any bytes, with any rooms
unfoldable pub checked : List ℕ → Rooms → List Line → Verdict
checked b q ls = elim (bad_shape b) [ some t ↦ Err (Engine (Shape t)) | none ↦ checked_for (book_of b (pairs_of b)) (fit_of b (pairs_of b)) q ls ]

-- "a list's room is its shortest column": the lent scratch is a column of list 2; list 5 is not lent
abbrev pub check_rooms : Lent → ℕ → Rooms
check_rooms l work =
    record {
      collected = counted (min l.collected l.collected_values);
      rows = counted (min l.rows (min l.bases (min l.values work)));
      entries = counted (min l.entries l.entry_values);
      plain = counted l.plain;
      sources = 0;
    }

-- what an accepted listing leaves in the lists: the sheet's own, with the listed values and no source rows
abbrev pub listed_done : Book → Fit → List Line → Done
listed_done k f ls =
    let w = world_of k f 0 in
    record { states = w.states; collected = collected_in k f; plain = plain_of (moves k f); rows = w.rows; values = values_of ls; sources = [] }

-- "After a refusal all lists, states and counts are zero": as after any refusal of the engine
abbrev pub kept_by : Verdict → Done → Res Done
kept_by (Ok t) d = ok d
kept_by (Err (Engine x)) d = refused x
kept_by (Err (Loop o)) d = refused (Shape 0)
kept_by (Err (Listing i)) d = refused (Shape 0)

-- r is what the verdict v and what is left give, with these lists lent
pub record ChecksAs (v : Verdict) (left : Res Done) (l : Lent) (r : Result) : Type 0 where
  pub by_number : r.number ≡ number_of v
  pub by_place : r.place ≡ place_of v
  pub by-counts : r.counts ≡ counts_of left
  pub by_states : r.states ≡ state_column left
  pub by-collected : r.collected ≡ collected_column left l.collected
  pub by_collected_values : r.collected_values ≡ collected_value_column left l.collected_values
  pub by_rows : r.rows ≡ row_column left l.rows
  pub by_bases : r.bases ≡ base_column left l.bases
  pub by_values : r.values ≡ value_column left l.values
  pub by_entries : r.entries ≡ entry_column left l.entries
  pub by_entry_values : r.entry_values ≡ entry_value_column left l.entry_values
  pub by-plain : r.plain ≡ plain_column left l.plain

-- r is what the definition gives for the bytes, the lists and scratch lent, and the listing
abbrev pub Checks : List ℕ → Lent → ℕ → List Line → Result → Type 0
Checks b l work ls r = let v = checked b (check_rooms l work) ls in ChecksAs v (kept_by v (listed_done (book_in b) (fit_in b) ls)) l r
