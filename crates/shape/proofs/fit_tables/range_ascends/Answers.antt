-- `fit_tables::range_ascends` meets its contract. Assumes nothing.
use Rattle.shape.proofs.fit_tables.range_ascends.Goals as goal
use Prim.Native.Nat.{◌-◌}
use borrow.Author.Rules.{sfits_of}
use mathlib.Core.Path.{sym, ◌∙◌}
use Rattle.laws.proofs.Bools.{and_true_right}
use Rattle.rules.specs.Sheet.{fit_of}
use Rattle.info.proofs.Elements.{bases_length}
use mir.Syntax.{w32}
use mir.Val.{to_z}
use mir.ValLaws.{to_z-of_z}
use Rattle.shape.proofs.Scans.{scan_next, scan_failed, scan_done}
use Rattle.shape.proofs.FitScans.{RangeScan, range_start, range_nth}

pub loop-i-init : goal.loop-i-init
loop-i-init c = range_start (fit_of c.args.fit.now c.args.pairs.now) c.args.first c.args.n (rw (bases_length c.args.fit.now c.args.pairs.now) c.requires.inside)

pub returns-then-not-good : goal.returns-then-not-good
returns-then-not-good c = record { defined = scan_failed c.loop-i.invariant c.loop-i-test.true (range_nth (fit_of c.args.fit.now c.args.pairs.now) c.args.first c.args.n (rw (bases_length c.args.fit.now c.args.pairs.now) c.requires.inside) c.loop-i-test.true c.base_attribute-r.ensures.record_i) (c.base_attribute_stands-good.ensures.defined ∙ sym (and_true_right _)) c.if-not-good.true }

pub loop-i-preserved : goal.loop-i-preserved
loop-i-preserved c = scan_next c.loop-i.invariant c.loop-i-test.true (range_nth (fit_of c.args.fit.now c.args.pairs.now) c.args.first c.args.n (rw (bases_length c.args.fit.now c.args.pairs.now) c.requires.inside) c.loop-i-test.true c.base_attribute-r.ensures.record_i) (c.base_attribute_stands-good.ensures.defined ∙ sym (and_true_right _)) c.if-not-good.false (to_z-of_z w32 _ (sfits_of c.struct_told-1.given.0.1))

pub returns : goal.returns
returns c = record { defined = scan_done c.loop-i.invariant c.loop-i-test.false }
