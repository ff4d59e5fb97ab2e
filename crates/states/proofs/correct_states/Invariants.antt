use Rattle.states.proofs.correct_states.Given as goal
use Prim.Native.Nat.{◌≤◌}
use mathlib.Core.List.{map}
use lib.ListN.{take}
use Rattle.laws.specs.Columns.{Col}
use Rattle.rules.specs.Sheet.{book_of, fit_of}
use Rattle.rules.specs.States.{states_of}
use Rattle.states.specs.Raised.{both}

abbrev pub invariant-loop-i : goal.invariant-loop-i
invariant-loop-i l = (l.i ≤ l.i-end) × Col both (map (states_of (book_of l.book l.pairs) (fit_of l.fit l.pairs)) (take l.i (fit_of l.fit l.pairs).objects)) l.initial.states l.states
