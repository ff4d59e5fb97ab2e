-- After dispatch the columns tell the world whose listing is judged, and what its rows need.
use Prim.Native.Nat.{ℕ, ◌≤◌, zero-le}
use mathlib.Core.Path.{◌≡◌, refl, sym, subst, ◌∙◌}
use mathlib.Core.Bool.{Bool}
use mathlib.Core.List.{List, []}
use mathlib.Core.Option.{none}
use lib.Ieee.{Float}
use lib.ListN.{length, take}
use lib.Seq.{length-take-le}
use Rattle.rules.specs.Sheet.{Book, Fit, book_of, fit_of}
use Rattle.rules.specs.Outcome.{rows_in, world_of}
use Rattle.rules.specs.Value.{World}
use Rattle.rules.specs.Fresh.{unrecorded}
use Rattle.info.specs.Sound.{SoundBook, SoundFit}
use Rattle.reading.specs.Held.{RowsHeld}
use Rattle.reading.specs.Stretched.{Stretched, Limits}
use Rattle.sources.specs.Planned.{counts_of}
use Rattle.sources.specs.Rows.{planned_numbers}
use Rattle.sources.proofs.Agreeing.{unplanned_counts}
use Rattle.sources.proofs.Numbers.{planned_held}
use Rattle.memory.specs.Holding.{tables, Tells}
use Rattle.memory.proofs.Readings.{its_row}
use Rattle.values.specs.Setting.{RowsListed}
use Rattle.values.proofs.Planning.{dispatched}
use Rattle.values.proofs.Running.{states_agree}
use Rattle.values.proofs.Setting.{rows_wide, bases_wide}
use Rattle.values.proofs.Sheets.{sound_rows}
use Rattle.values.proofs.Told.{told_in}
use Rattle.needs.specs.Telling.{KnowsNeeds}
use Rattle.loops.specs.Loop.{loop_at}
use Rattle.loops.proofs.Telling.{needs-told, need_tables_of}
use Rattle.given.specs.Judging.{off, Awaits}
use Rattle.checks.specs.Checked.{run}
use Rattle.checks.proofs.NoLoops.{no_loop}

module _ (sheet : List ℕ) (pairs : List (List ℕ)) (sb : SoundBook sheet pairs) (sf : SoundFit sheet pairs) (n : ℕ) (recording : Bool) {st r : List (List ℕ)} {b : List Float} {e : List (List ℕ)} {v : List Float}
    (h : RowsListed (book_of sheet pairs) (fit_of sheet pairs) n (run recording) st r b e v) where
  abbrev k : Book
  k = book_of sheet pairs

  abbrev f : Fit
  f = fit_of sheet pairs

  abbrev pub world : World
  world = world_of (book_of sheet pairs) (fit_of sheet pairs) 0

  pub rows_inside : n ≤ length r
  rows_inside = rows_wide sheet sheet pairs sb sf n (run recording) h

  pub bases_inside : n ≤ length b
  bases_inside = bases_wide sheet sheet pairs sb sf n (run recording) h

  pub is_recording : recording ≡ world.recording
  unfolding world_of
  is_recording = h.recording

  -- the rows are as dispatch left them
  numbers_are : take n r ≡ planned_numbers 0 0 (rows_in (book_of sheet pairs) (fit_of sheet pairs)) (counts_of (unrecorded world))
  unfolding world_of
  numbers_are = (dispatched sheet sheet pairs sf n h.count h.lists).numbers ∙ unplanned_counts (unrecorded world) refl

  pub rows_held : RowsHeld (rows_in (book_of sheet pairs) (fit_of sheet pairs)) (take n r)
  rows_held =
      let S = sound_rows sheet sheet pairs sb sf in
      subst (RowsHeld (rows_in k f)) (sym numbers_are) (planned_held (rows_in k f) (counts_of (unrecorded world)) 0 0 S.narrow S.ordered)

  pub long_enough : (v₀ : List Float) → n ≤ length v₀ → length (take n v₀) ≡ length world.rows
  unfolding world_of
  long_enough v₀ w = length-take-le n v₀ w ∙ h.count

  module _ {x : List (List ℕ)} {l : List ℕ} where
    pub told : Stretched (rows_in (book_of sheet pairs) (fit_of sheet pairs)) x → Limits (book_of sheet pairs) l → Tells (unrecorded world) [] [] (tables sheet pairs st x l (take n r) (take n b) e v) off
    unfolding world_of
    told s m =
        subst (λ (i : ℕ). Tells (unrecorded world) [] [] (tables sheet pairs st x l (take i r) (take i b) e v) off) (sym h.count)
        (told_in (unrecorded world) sheet pairs st x l r (sound_rows sheet sheet pairs sb sf) h.lists
        (subst (λ (i : ℕ). take i r ≡ planned_numbers 0 0 (rows_in (book_of sheet pairs) (fit_of sheet pairs)) (counts_of (unrecorded world))) h.count numbers_are)
        sb refl (record { room = refl; recording = refl }) zero-le zero-le s m (states_agree k f 0 st h.states))

    module _ (s : Stretched (rows_in (book_of sheet pairs) (fit_of sheet pairs)) x) (m : Limits (book_of sheet pairs) l) where
      abbrev pub knows : KnowsNeeds (need_tables_of (tables sheet pairs st x l (take n r) (take n b) e v))
      knows =
          let T = needs-told (told s m) in
          record {
            world = world;
            told = record {
              sound = T.sound;
              records = T.records;
              held = T.held;
              stretched = T.stretched;
              limited = T.limited;
              row = λ i q. let g = T.row i q in record { count = g.count; object = g.object; inside = g.inside; entry = g.entry };
            };
          }

      -- where there is no LOOP the columns wait for the listed values
      abbrev pub awaits : none ≡ loop_at world → (v₀ : List Float) → n ≤ length v₀ → Awaits (tables sheet pairs st x l (take n r) (take n b) e v) (take n v₀)
      awaits q v₀ w =
          record {
            world = world;
            told = told s m;
            free = no_loop world (λ i j. its_row (told s m).held i j) (sym q);
            long = long_enough v₀ w;
          }
