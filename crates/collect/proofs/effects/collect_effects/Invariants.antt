use Rattle.collect.proofs.effects.collect_effects.Given as goal
use mathlib.Core.Path.{◌≡◌}
use lib.ListN.{length}
use Rattle.laws.specs.Lists.{span}
use Rattle.rules.specs.Sheet.{book_of, fit_of}
use Rattle.states.specs.Raised.{turns_of}
use Rattle.modifier.specs.Ran.{at}
use Rattle.modifier.proofs.Loops.{Left}
use Rattle.collect.specs.New.{turn_moves}

abbrev pub invariant-loop-i : goal.invariant-loop-i
invariant-loop-i l =
    Left l.rooms (λ (x : Unit {0}). turn_moves (book_of l.book l.pairs) (fit_of l.fit l.pairs) l.w.item)
    (turns_of (span l.own.first l.own.count (book_of l.book l.pairs).type_effects) (span l.base.first l.base.count (book_of l.book l.pairs).type_effects)) 0 l.total
    (λ x. at l.initial.used.collected l.initial.used.plain l.initial.collected l.initial.collected_values l.initial.plain) (λ x. at l.used.collected l.used.plain l.collected l.collected_values l.plain) l.i
    × ((length l.collected ≡ length l.initial.collected) × ((length l.collected_values ≡ length l.initial.collected_values) × (length l.plain ≡ length l.initial.plain)))
