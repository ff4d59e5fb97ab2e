use Rattle.collect.proofs.objects.collect_objects.Given as goal
use mathlib.Core.Path.{◌≡◌}
use lib.ListN.{length}
use Rattle.rules.specs.Sheet.{book_of, fit_of}
use Rattle.modifier.specs.Ran.{at}
use Rattle.modifier.proofs.Loops.{Left}
use Rattle.collect.specs.Parts.{object_moves}

abbrev pub invariant-loop-i : goal.invariant-loop-i
invariant-loop-i l =
    Left l.rooms (λ (x : Unit {0}). object_moves (book_of l.book l.pairs) (fit_of l.fit l.pairs) l.phase) (fit_of l.fit l.pairs).objects l.first l.end
    (λ x. at l.initial.used.collected l.initial.used.plain l.initial.collected l.initial.collected_values l.initial.plain) (λ x. at l.used.collected l.used.plain l.collected l.collected_values l.plain) l.i
    × ((length l.collected ≡ length l.initial.collected) × ((length l.collected_values ≡ length l.initial.collected_values) × (length l.plain ≡ length l.initial.plain)))
