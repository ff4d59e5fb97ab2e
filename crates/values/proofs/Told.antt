-- After collection, states, dispatch and planning the columns tell the calculation its world.
use Prim.Native.Nat.{ℕ, ◌+◌, ◌≤◌, ◌<◌}
use native.Mathlib.Omega.{arith}
use mathlib.Core.Path.{◌≡◌, refl, sym, ap, subst, ◌∙◌}
use mathlib.Core.List.{List, [], map}
use lib.Ieee.{Float, nan}
use lib.ListN.{length, get_or, take, drop, length-map, length-append}
use lib.Seq.{get_or-take, length-take-le}
use Rattle.laws.proofs.Laid.{col_row}
use Rattle.rules.specs.Sheet.{book_of, fit_of}
use Rattle.rules.specs.Dispatch.{Row}
use Rattle.rules.specs.Columns.{entry_numbers, origin_value}
use Rattle.rules.specs.Outcome.{rows_in, world_of}
use Rattle.rules.specs.Value.{World, state_of}
use Rattle.rules.specs.declared.Effect.{Effect}
use Rattle.info.specs.Sound.{SoundBook, SoundFit}
use Rattle.states.specs.Raised.{rows_of}
use Rattle.rows.specs.Parts.{ListsLaid}
use Rattle.reading.specs.Held.{EntryHeld, RowsHeld, no_row}
use Rattle.reading.specs.Stretched.{Stretched, Limits}
use Rattle.sources.specs.declared.Recording.{Recording}
use Rattle.sources.specs.Planned.{counts_of}
use Rattle.sources.specs.Keeping.{RunOf}
use Rattle.sources.specs.Rows.{planned_numbers}
use Rattle.sources.proofs.Numbers.{planned_long, planned_first, planned_entries, planned_held}
use Rattle.memory.specs.Holding.{Tables, tables, RowTold, Tells}
use Rattle.values.specs.SoundRows.{SoundRows}
use Rattle.values.proofs.Entries.{before, all_of, inside-all, flat-at}
use Rattle.values.proofs.Running.{states_agree}
use Rattle.values.proofs.Sheets.{sound_rows}

-- in any world with such rows
module _ (w : World) (book : List ℕ) (pairs st stretches : List (List ℕ)) (limits : List ℕ) (r' : List (List ℕ)) {r₀ r : List (List ℕ)} {b₀ b : List Float} {e₀ e : List (List ℕ)} {v₀ v : List Float}
    (S : SoundRows w.rows) (L : ListsLaid w.rows r₀ r b₀ b e₀ e v₀ v) (P : take (length w.rows) r' ≡ planned_numbers 0 0 w.rows (counts_of w)) where
  abbrev rs : List Row
  rs = w.rows

  abbrev n : ℕ
  n = length w.rows

  abbrev t : Tables
  t = tables book pairs st stretches limits (take n r') (take n b) e v

  bases_long : n ≤ length b
  bases_long = omega (arith, ap length L.bases.is ∙ length-append (map (λ (x : Row). x.base) rs) (drop n b₀), length-map rs (λ (x : Row). x.base))

  entries_long : length (all_of rs) ≤ length e
  entries_long = omega (arith, ap length L.entries.is ∙ length-append (map entry_numbers (all_of rs)) (drop (length (all_of rs)) e₀), length-map (all_of rs) entry_numbers)

  values_long : length (all_of rs) ≤ length v
  values_long =
      omega (arith, ap length L.values.is ∙ length-append (map (λ (x : Effect). origin_value x.origin) (all_of rs)) (drop (length (all_of rs)) v₀), length-map (all_of rs) (λ (x : Effect). origin_value x.origin))

  even : length (take n b) ≡ length (take n r')
  even = length-take-le n b bases_long ∙ sym (ap length P ∙ planned_long rs (counts_of w) 0 0)

  held : RowsHeld rs (take n r')
  held = subst (RowsHeld rs) (sym P) (planned_held rs (counts_of w) 0 0 S.narrow S.ordered)

  module _ (i : ℕ) (h : i < n) where
    entry : (j : ℕ) (d : Effect) → j < length (get_or rs i no_row).entries → EntryHeld (get_or (get_or rs i no_row).entries j d) (get_or e (before rs i + j) []) (get_or v (before rs i + j) nan)
    entry j d m =
        let within : before rs i + j < length (all_of rs) = omega (arith, inside-all rs i) in
        record {
          numbers = col_row entry_numbers (all_of rs) L.entries (before rs i + j) d [] within ∙ ap entry_numbers (flat-at rs i j d m);
          value =
              col_row (λ x. origin_value x.origin) (all_of rs) L.values (before rs i + j) d nan within
              ∙ ap (λ (x : Effect). origin_value x.origin) (flat-at rs i j d m);
          origin = (S.entries i j d h m).origin;
          resistance = (S.entries i j d h m).resistance;
        }

    row_told : RowTold w t i
    row_told =
        record {
          first = ap (λ (l : List (List ℕ)). get_or (get_or l i []) 2 0) P ∙ (planned_entries rs (counts_of w) i h).0;
          count = ap (λ (l : List (List ℕ)). get_or (get_or l i []) 3 0) P ∙ (planned_entries rs (counts_of w) i h).1;
          place = ap (λ (l : List (List ℕ)). get_or (get_or l i []) 4 0) P ∙ planned_first rs (counts_of w) i h;
          base = get_or-take n b i nan h ∙ col_row (λ x. x.base) rs L.bases i no_row nan h;
          number = S.number i h;
          object = S.object i h;
          inside = (omega (arith, inside-all rs i, entries_long), omega (arith, inside-all rs i, values_long));
          entry = entry;
          good = λ j d m. (S.entries i j d h m).good;
        }

  pub told_in : {run : Recording} {s₀ : List (List ℕ)} {f₀ : List (List Float)} → SoundBook book pairs → w.book ≡ book_of book pairs → RunOf w run → w.room ≤ length s₀ → w.room ≤ length f₀ → Stretched w.rows stretches
      → Limits w.book limits → ((o : ℕ) → o < 1024 → get_or (get_or st o []) 0 0 ≡ state_of w o) → Tells w s₀ f₀ (tables book pairs st stretches limits (take (length w.rows) r') (take (length w.rows) b) e v) run
  told_in sb k run rs₀ rf₀ s l states =
      record {
        sound = sb;
        records = k;
        recorded = run;
        roomy = (rs₀, rf₀);
        held = held;
        stretched = s;
        limited = l;
        even = even;
        row = row_told;
        running = states;
      }

-- of a sound sheet
module _ (book fit : List ℕ) (pairs : List (List ℕ)) (sb : SoundBook book pairs) (sf : SoundFit fit pairs) (room : ℕ) where
  pub told : (r' : List (List ℕ)) {r₀ r : List (List ℕ)} {b₀ b : List Float} {e₀ e : List (List ℕ)} {v₀ v : List Float} {st stretches : List (List ℕ)} {limits : List ℕ} {run : Recording} {s₀ : List (List ℕ)} {f₀ : List (List Float)}
      → ListsLaid (rows_in (book_of book pairs) (fit_of fit pairs)) r₀ r b₀ b e₀ e v₀ v → st ≡ rows_of (book_of book pairs) (fit_of fit pairs)
      → take (length (rows_in (book_of book pairs) (fit_of fit pairs))) r' ≡ planned_numbers 0 0 (rows_in (book_of book pairs) (fit_of fit pairs)) (counts_of (world_of (book_of book pairs) (fit_of fit pairs) room))
      → RunOf (world_of (book_of book pairs) (fit_of fit pairs) room) run → room ≤ length s₀ → room ≤ length f₀ → Stretched (rows_in (book_of book pairs) (fit_of fit pairs)) stretches → Limits (book_of book pairs) limits
      → Tells (world_of (book_of book pairs) (fit_of fit pairs) room) s₀ f₀
      (tables book pairs st stretches limits (take (length (rows_in (book_of book pairs) (fit_of fit pairs))) r') (take (length (rows_in (book_of book pairs) (fit_of fit pairs))) b) e v) run
  unfolding world_of
  told r' {st = st} {stretches} {limits} L states P run a c s l =
      told_in (world_of (book_of book pairs) (fit_of fit pairs) room) book pairs st stretches limits r' (sound_rows book fit pairs sb sf) L P sb refl run a c s l
      (states_agree (book_of book pairs) (fit_of fit pairs) room st states)
