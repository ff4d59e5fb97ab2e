use Rattle.collect.proofs.collecting.collect_modifiers.Given as goal
use mathlib.Core.Path.{◌≡◌}
use lib.ListN.{length}
use Rattle.rules.specs.Sheet.{book_of}
use Rattle.modifier.specs.Ran.{at}
use Rattle.modifier.proofs.Loops.{Left}
use Rattle.collect.proofs.Case.{Case}

abbrev pub invariant-loop-i : goal.invariant-loop-i
invariant-loop-i g l =
    Left l.rooms (λ (x : Case (goal.F-post g l.gives)). x.moves) (book_of l.book l.pairs).modifiers l.initial.i l.end
    (λ x. at l.initial.used.collected l.initial.used.plain l.initial.collected l.initial.collected_values x.column) (λ x. at l.used.collected l.used.plain l.collected l.collected_values x.column) l.i
    × ((length l.collected ≡ length l.initial.collected) × (length l.collected_values ≡ length l.initial.collected_values))
