-- What planning asks of the columns after dispatch, and that its counts of source rows are those of the calculation.
use Prim.Native.Nat.{ℕ, ◌<◌}
use mathlib.Core.Path.{◌≡◌, ap, ◌∙◌}
use mathlib.Core.Bool.{true, false}
use mathlib.Core.List.{List, ◌++◌}
use lib.Ieee.{Float}
use lib.ListN.{length, get_or, take, drop}
use Rattle.rules.specs.Sheet.{Book, Fit, book_of, fit_of}
use Rattle.rules.specs.Dispatch.{rows}
use Rattle.rules.specs.Outcome.{collected_in, rows_in, world_of}
use Rattle.rules.specs.declared.Effect.{Effect}
use Rattle.info.specs.Sound.{SoundFit}
use Rattle.states.specs.Raised.{rows_of}
use Rattle.rows.specs.Parts.{ListsLaid}
use Rattle.sources.specs.Planned.{counts_of}
use Rattle.sources.specs.Ranged.{EntriesHeld}
use Rattle.sources.specs.Rows.{counts_by, planned_numbers, entries_of, DispatchedRows}
use Rattle.sources.proofs.Agreeing.{AllSourced, counts_agree, unplanned_counts, laid-held, laid_dispatched, planned_front}
use Rattle.values.specs.SoundRows.{AllAre, Readable}
use Rattle.values.proofs.All.{all-at}
use Rattle.values.proofs.Taken.{collected_fair}
use Rattle.values.proofs.Entries.{flat_readable, rows_readable}
use Rattle.values.proofs.Running.{states_agree}

module _ (book fit : List ℕ) (pairs : List (List ℕ)) (sf : SoundFit fit pairs) where
  abbrev k : Book
  k = book_of book pairs

  abbrev f : Fit
  f = fit_of fit pairs

  all_readable : AllAre Readable (entries_of (rows_in k f))
  unfolding rows_in
  all_readable = flat_readable (rows k f (collected_in k f)) (rows_readable k f (collected_in k f) (collected_fair book fit pairs sf))

  readable_at : (i : ℕ) (d : Effect) → i < length (entries_of (rows_in k f)) → Readable (get_or (entries_of (rows_in k f)) i d)
  readable_at i d h = all-at Readable (entries_of (rows_in k f)) all_readable i d h

  pub entries_sourced : AllSourced (entries_of (rows_in (book_of book pairs) (fit_of fit pairs)))
  entries_sourced i d h = (readable_at i d h).good.sourced

  module _ {r₀ r : List (List ℕ)} {b₀ b : List Float} {e₀ e : List (List ℕ)} {v₀ v : List Float} (n : ℕ) (same : n ≡ length (rows_in k f)) (L : ListsLaid (rows_in (book_of book pairs) (fit_of fit pairs)) r₀ r b₀ b e₀ e v₀ v) where
    entries_held : EntriesHeld (entries_of (rows_in k f)) e v
    entries_held = laid-held (entries_of (rows_in k f)) L.entries L.values (λ i d h. ((readable_at i d h).origin, (readable_at i d h).resistance)) entries_sourced

    pub dispatched : DispatchedRows (rows_in (book_of book pairs) (fit_of fit pairs)) n r e v
    dispatched = laid_dispatched (rows_in k f) n same L.rows entries_held

    module _ (room : ℕ) where
      -- where nothing is recorded the rows stay
      pub planned_off : (world_of (book_of book pairs) (fit_of fit pairs) room).recording ≡ false → take n r ≡ planned_numbers 0 0 (rows_in (book_of book pairs) (fit_of fit pairs)) (counts_of (world_of (book_of book pairs) (fit_of fit pairs) room))
      unfolding world_of
      planned_off t = dispatched.numbers ∙ unplanned_counts (world_of k f room) t

      -- and where it is they are planned
      pub planned_on : {st r' : List (List ℕ)} → (world_of (book_of book pairs) (fit_of fit pairs) room).recording ≡ true → st ≡ rows_of (book_of book pairs) (fit_of fit pairs)
          → r' ≡ planned_numbers 0 0 (rows_in (book_of book pairs) (fit_of fit pairs)) (counts_by st (rows_in (book_of book pairs) (fit_of fit pairs))) ++ drop n r
          → take n r' ≡ planned_numbers 0 0 (rows_in (book_of book pairs) (fit_of fit pairs)) (counts_of (world_of (book_of book pairs) (fit_of fit pairs) room))
      unfolding world_of
      planned_on {st} t s p =
          ap (take n) p ∙ planned_front (rows_in k f) (counts_by st (rows_in k f)) n r same
          ∙ ap (planned_numbers 0 0 (rows_in k f)) (counts_agree (world_of k f room) st (states_agree k f room st s) entries_sourced t)
