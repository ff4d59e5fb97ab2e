use Rattle.collect.proofs.buffs.collect_buffs.Given as goal
use Prim.Native.Nat.{ℕ}
use mathlib.Core.Path.{◌≡◌}
use mathlib.Core.List.{List}
use lib.ListN.{length}
use Rattle.rules.specs.Sheet.{book_of, fit_of}
use Rattle.rules.specs.Collect.{buff_moves}
use Rattle.modifier.specs.Ran.{at}
use Rattle.modifier.proofs.Loops.{Left}

abbrev pub invariant-loop-i : goal.invariant-loop-i
invariant-loop-i l =
    Left l.rooms (λ (x : List (List ℕ)). buff_moves (book_of l.book l.pairs)) (fit_of l.fit l.pairs).buffs 0 l.i-end
    (λ x. at l.initial.used.collected l.initial.used.plain l.initial.collected l.initial.collected_values x) (λ x. at l.used.collected l.used.plain l.collected l.collected_values x) l.i
    × ((length l.collected ≡ length l.initial.collected) × (length l.collected_values ≡ length l.initial.collected_values))
