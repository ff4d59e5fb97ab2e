-- `fit::range_ascends` meets its contract. Assumes nothing.
use Rattle.lent.proofs.fit.range_ascends.Goals as goal
use native.Mathlib.Omega.{arith}
use Rattle.std.proofs.Common.{rules}
use mathlib.Core.Path.{sym, ◌∙◌}
use mathlib.Core.List.{[]}
use Rattle.tables.specs.Tables.{fit_tables, fit_lent}
use Rattle.shape.proofs.Scans.{scan_next, scan_failed, scan_done}
use Rattle.laws.proofs.Bools.{and_true_right}
use Rattle.shape.proofs.FitScans.{range_start, range_nth}
use Rattle.lent.proofs.Nths.{base_nth, bases_long}

pub loop-i-init : goal.loop-i-init
loop-i-init c = range_start (fit_lent (fit_tables [] [] c.args.base_attributes.now c.args.base_values.now [] [] [] [])) c.args.first c.args.n (rw (bases_long (fit_tables [] [] c.args.base_attributes.now c.args.base_values.now [] [] [] [])) c.requires.inside)

pub returns-then-not-base_attribute_stands : goal.returns-then-not-base_attribute_stands
returns-then-not-base_attribute_stands c = record { defined = scan_failed c.loop-i.invariant c.loop-i-test.true (range_nth (fit_lent (fit_tables [] [] c.args.base_attributes.now c.args.base_values.now [] [] [] [])) c.args.first c.args.n (rw (bases_long (fit_tables [] [] c.args.base_attributes.now c.args.base_values.now [] [] [] [])) c.requires.inside) c.loop-i-test.true (base_nth (fit_tables [] [] c.args.base_attributes.now c.args.base_values.now [] [] [] []) (omega (arith, c.requires.inside, c.loop-i-test.true)) c.base_attribute-r.ensures.defined)) (c.base_attribute_stands.ensures.defined ∙ sym (and_true_right _)) c.if-not-base_attribute_stands.true }

pub loop-i-preserved : goal.loop-i-preserved
loop-i-preserved c = scan_next c.loop-i.invariant c.loop-i-test.true (range_nth (fit_lent (fit_tables [] [] c.args.base_attributes.now c.args.base_values.now [] [] [] [])) c.args.first c.args.n (rw (bases_long (fit_tables [] [] c.args.base_attributes.now c.args.base_values.now [] [] [] [])) c.requires.inside) c.loop-i-test.true (base_nth (fit_tables [] [] c.args.base_attributes.now c.args.base_values.now [] [] [] []) (omega (arith, c.requires.inside, c.loop-i-test.true)) c.base_attribute-r.ensures.defined)) (c.base_attribute_stands.ensures.defined ∙ sym (and_true_right _)) c.if-not-base_attribute_stands.false (search rules)

pub returns : goal.returns
returns c = record { defined = scan_done c.loop-i.invariant c.loop-i-test.false }
