-- The states column has the state of each object of the world, and 0 past the last.
use Prim.Native.Nat.{ℕ, ◌<◌}
use mathlib.Core.Path.{◌≡◌, refl, sym, ap, ◌∙◌}
use mathlib.Core.List.{List, [], map}
use mathlib.Core.Bool.{Bool, true, false}
use lib.Dec.{ltb}
use lib.ListN.{length, get_or, replicate, get_or-eq_default}
use borrow.Author.Tests.{ltb-true, ltb-false}
use Rattle.laws.specs.Columns.{column}
use Rattle.laws.proofs.Laid.{column_row, column_past}
use Rattle.rules.specs.Outcome.{world_of}
use Rattle.rules.specs.Sheet.{Book, Fit}
use Rattle.rules.specs.States.{States, states_of}
use Rattle.rules.specs.Value.{state_of}
use Rattle.states.specs.Raised.{both, rows_of}

abbrev off : States
off = record { state = 0; max_state = 0 }

state_at_lem : (ss : List States) (o : ℕ) → o < 1024 → get_or (get_or (column both (replicate 2 0) ss 1024) o []) 0 0 ≡ (get_or ss o off).state
state_at_lem ss o h = by (ltb o (length ss)) refl
  where
    by : (t : Bool) → ltb o (length ss) ≡ t → get_or (get_or (column both (replicate 2 0) ss 1024) o []) 0 0 ≡ (get_or ss o off).state
    by true e = ap (λ (r : List ℕ). get_or r 0 0) (column_row both (replicate 2 0) ss 1024 o off [] (ltb-true o (length ss) e))
    by false e =
        ap (λ (r : List ℕ). get_or r 0 0) (column_past both (replicate 2 0) ss 1024 o [] (ltb-false o (length ss) e) h)
        ∙ sym (ap (λ (s : States). s.state) (get_or-eq_default ss off {n = o} (ltb-false o (length ss) e)))

pub states_agree : (k : Book) (f : Fit) (room : ℕ) (st : List (List ℕ)) → st ≡ rows_of k f → (o : ℕ) → o < 1024 → get_or (get_or st o []) 0 0 ≡ state_of (world_of k f room) o
unfolding world_of
states_agree k f room st e o h = ap (λ (x : List (List ℕ)). get_or (get_or x o []) 0 0) e ∙ state_at_lem (map (states_of k f) f.objects) o h
