-- `plan::sources_of_row` meets its contract. Assumes nothing.
use Rattle.sources.proofs.plan.sources_of_row.Goals as goal
use native.Mathlib.Omega.{arith}
use Prim.Native.Nat.{◌+◌}
use mathlib.Core.Path.{refl}
use Rattle.sources.proofs.Counting.{is-entry, is_sourced, counted, ends}

pub loop-i-init : goal.loop-i-init
loop-i-init c = ((omega arith, omega arith), λ es h t. refl)

pub entry_at-e-requires : goal.entry_at-e-requires
entry_at-e-requires c = record { inside = (omega (arith, c.loop-i-test.true, c.requires.ranged.inside, c.requires.ranged.held.long), omega (arith, c.loop-i-test.true, c.requires.ranged.inside, c.requires.ranged.held.wide)) }

pub is_running-requires : goal.is_running-requires
is_running-requires c = record { sourced = is_sourced c.requires.ranged.held (c.args.first + c.loop-i.i) (omega (arith, c.loop-i-test.true, c.requires.ranged.inside)) _ c.entry_at-e.ensures.defined }

pub overflow_add-total : goal.overflow_add-total
overflow_add-total c = omega (arith, c.loop-i.invariant.0, c.loop-i-test.true, c.sources_of-more.ensures.few, c.requires.ranged.inside, c.requires.ranged.held.long, c.well_formed.0)

pub loop-i-preserved : goal.loop-i-preserved
loop-i-preserved c = ((omega (arith, c.loop-i-test.true), omega (arith, c.loop-i.invariant.0, c.sources_of-more.ensures.few)), λ es h t. counted _ es c.args.first c.loop-i.i _ (omega (arith, t, c.loop-i-test.true)) (is-entry h (c.args.first + c.loop-i.i) (omega (arith, t, c.loop-i-test.true)) _ c.entry_at-e.ensures.defined) (c.loop-i.invariant.1 es h t) c.is_running.ensures.defined c.sources_of-more.ensures.defined)

pub returns-clause-defined : goal.returns-clause-defined
returns-clause-defined c = λ es h t. ends _ es c.args.first c.loop-i.i c.args.count c.loop-i.invariant.0.0 c.loop-i-test.false (c.loop-i.invariant.1 es h t)
