-- `fit_tables::asks_good` meets its contract. Assumes nothing.
use Rattle.shape.proofs.fit_tables.asks_good.Goals as goal
use Prim.Native.Nat.{◌-◌}
use borrow.Author.Tests.{lt-ltb, le-ltb}
use mathlib.Core.Path.{refl, sym, ◌∙◌}
use Rattle.info.proofs.Elements.{objects_length, asks_length}
use lib.Dec.{ltb}
use lib.ListN.{length}
use Rattle.rules.specs.Sheet.{fit_of}
use Rattle.rules.specs.Shape.{asks_good}
use Rattle.shape.proofs.FitScans.{asks_start, ask_same}
use Rattle.shape.proofs.Scans.{Each, scan_next, scan_failed, scan_done}

pub loop-i-init : goal.loop-i-init
loop-i-init c = asks_start _ (asks_length _ _ ∙ sym c.count_of-n.ensures.defined)

pub returns-then-not-good : goal.returns-then-not-good
returns-then-not-good c = record { defined = scan_failed c.loop-i.invariant c.loop-i-test.true c.ask-a.ensures.record_i (ask_same (fit_of c.args.fit.now c.args.pairs.now) c.index-o.ensures.defined.0 (c.count_of-objects.ensures.defined ∙ sym (objects_length c.args.fit.now c.args.pairs.now))) (le-ltb _ _ c.if-not-good.true) }

pub loop-i-preserved : goal.loop-i-preserved
loop-i-preserved c = scan_next c.loop-i.invariant c.loop-i-test.true c.ask-a.ensures.record_i (ask_same (fit_of c.args.fit.now c.args.pairs.now) c.index-o.ensures.defined.0 (c.count_of-objects.ensures.defined ∙ sym (objects_length c.args.fit.now c.args.pairs.now))) (lt-ltb _ _ c.if-not-good.false) refl

pub returns : goal.returns
returns c = record { defined = scan_done c.loop-i.invariant c.loop-i-test.false }
