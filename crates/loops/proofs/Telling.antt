-- Columns that tell a calculation its world tell what its rows need.
use Prim.Native.Nat.{ℕ, ◌+◌, ◌<◌}
use native.Mathlib.Omega.{arith}
use mathlib.Core.Path.{ap, ◌∙◌}
use mathlib.Core.List.{List, []}
use lib.Ieee.{Float}
use lib.ListN.{length, get_or}
use Rattle.rules.specs.Value.{World}
use Rattle.rules.specs.declared.Effect.{Effect}
use Rattle.sources.specs.declared.Recording.{Recording}
use Rattle.memory.specs.Steps.{row_at}
use Rattle.memory.specs.Holding.{Tables, Tells}
use Rattle.needs.specs.Telling.{NeedTables, EntryShown, TellsRow, TellsNeeds}

abbrev pub need_tables_of : Tables → NeedTables
need_tables_of t = record { book = t.book; pairs = t.pairs; stretches = t.stretches; limits = t.limits; rows = t.rows; entries = t.entries }

module _ {w : World} {s₀ : List (List ℕ)} {f₀ : List (List Float)} {t : Tables} {run : Recording} (T : Tells w s₀ f₀ t run) where
  row_told : (i : ℕ) → i < length w.rows → TellsRow w (need_tables_of t) i
  row_told i h =
      let r = T.row i h in
      record {
        count = r.count;
        object = r.object;
        inside = omega (arith, r.first, r.inside.0);
        entry = λ k d l. shown k d l;
      }
    where
      shown : (k : ℕ) (d : Effect) → k < length (row_at w i).entries → EntryShown (get_or (row_at w i).entries k d) (get_or t.entries (get_or (get_or t.rows i []) 2 0 + k) [])
      shown k d l =
          let e = (T.row i h).entry k d l in
          record {
            numbers = ap (λ (n : ℕ). get_or t.entries (n + k) []) (T.row i h).first ∙ e.numbers;
            origin = e.origin;
            resistance = e.resistance;
            sourced = ((T.row i h).good k d l).sourced;
          }

  pub needs-told : TellsNeeds w (need_tables_of t)
  needs-told = record { sound = T.sound; records = T.records; held = T.held; stretched = T.stretched; limited = T.limited; row = row_told }
