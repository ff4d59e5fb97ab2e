-- The measure of the cycle is on the rows that are not started; the invariants of its loops.
use Rattle.pass_3.proofs.+calculation.Given as goal
use Prim.Native.Nat.{◌+◌, ◌*◌, ◌≤◌}
use mathlib.Core.Path.{◌≡◌}
use mathlib.Core.List.{[], ◌∷◌}
use lib.ListN.{length}
use Rattle.laws.specs.Floats.{nans}
use Rattle.rules.specs.Codes.{operators}
use Rattle.memory.specs.Holding.{tables_of, Busy}
use Rattle.memory.proofs.Gathering.{Gathering}
use Rattle.memory.proofs.Operating.{Operating}
use Rattle.gather.specs.Piles.{whole, Eights}

abbrev pub decreases-calculate_value : goal.decreases-calculate_value
decreases-calculate_value l = 8 * nans l.values.now

abbrev pub decreases-calculated_value : goal.decreases-calculated_value
decreases-calculated_value l = 8 * nans l.values.now + 1

abbrev pub decreases-evaluated : goal.decreases-evaluated
decreases-evaluated l = 8 * nans l.values.now + 7

abbrev pub decreases-gathered : goal.decreases-gathered
decreases-gathered l = 8 * nans l.values.now + 5

abbrev pub decreases-limited : goal.decreases-limited
decreases-limited l = 8 * nans l.values.now + 2

abbrev pub decreases-operated : goal.decreases-operated
decreases-operated l = 8 * nans l.values.now + 6

abbrev pub decreases-resisted : goal.decreases-resisted
decreases-resisted l = 8 * nans l.values.now + 2

abbrev pub decreases-strength : goal.decreases-strength
decreases-strength l = 8 * nans l.values.now + 3

abbrev pub decreases-with_entry : goal.decreases-with_entry
decreases-with_entry l = 8 * nans l.values.now + 4

abbrev pub invariant-gathered-loop-k : goal.invariant-gathered-loop-k
invariant-gathered-loop-k l = ((l.k ≤ l.count) × (length l.values ≡ length l.initial.values) × (length l.sources ≡ length l.initial.sources) × (length l.floats ≡ length l.initial.floats) × Eights l.positives l.positive_sources l.negatives l.negative_sources) × ((h : Busy (tables_of l.columns) l.run l.initial.values l.initial.sources l.initial.floats l.fn.part.counts.used l.row l.fn.part.counts.own (l.operator ∷ [])) → Gathering h.ready.world h.ready.sources₀ h.ready.floats₀ l.left l.row l.high l.operator l.fn.part.value h.ready.mem l.k l.values l.sources l.floats (whole l.positives l.positive_sources l.negatives l.negative_sources l.p))

abbrev pub invariant-operated-loop-code : goal.invariant-operated-loop-code
invariant-operated-loop-code l = ((l.code ≤ 9) × (length l.values ≡ length l.initial.values) × (length l.sources ≡ length l.initial.sources) × (length l.floats ≡ length l.initial.floats)) × ((h : Busy (tables_of l.columns) l.run l.initial.values l.initial.sources l.initial.floats l.fn.used l.row 0 operators) → Operating h.ready.world h.ready.sources₀ h.ready.floats₀ l.left l.row h.ready.mem l.code l.values l.sources l.floats l.part.value l.part.counts.own l.part.counts.used)
