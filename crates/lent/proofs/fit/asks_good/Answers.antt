-- `fit::asks_good` meets its contract. Assumes nothing.
use Rattle.lent.proofs.fit.asks_good.Goals as goal
use mathlib.Core.Path.{refl, sym}
use mathlib.Core.List.{[]}
use lib.ListN.{length}
use Rattle.tables.specs.Tables.{fit_tables, fit_lent}
use Rattle.shape.proofs.Scans.{scan_next, scan_failed, scan_done}
use borrow.Author.Tests.{lt-ltb, le-ltb}
use Rattle.shape.proofs.FitScans.{asks_start, ask_same}
use Rattle.lent.proofs.Nths.{ask_nth, asks_long, objects_long}

pub loop-i-init : goal.loop-i-init
loop-i-init c = asks_start _ (asks_long (fit_tables [] c.args.objects.now [] [] [] [] [] c.args.asks.now))

pub returns-then-index-count : goal.returns-then-index-count
returns-then-index-count c = record { defined = scan_failed c.loop-i.invariant c.loop-i-test.true (ask_nth (fit_tables [] c.args.objects.now [] [] [] [] [] c.args.asks.now) c.loop-i-test.true c.ask.ensures.defined) (ask_same (fit_lent (fit_tables [] c.args.objects.now [] [] [] [] [] c.args.asks.now)) c.index.ensures.defined.0 (sym (objects_long (fit_tables [] c.args.objects.now [] [] [] [] [] c.args.asks.now)))) (le-ltb c.index.result (length c.args.objects.now) c.if-index-count.true) }

pub loop-i-preserved : goal.loop-i-preserved
loop-i-preserved c = scan_next c.loop-i.invariant c.loop-i-test.true (ask_nth (fit_tables [] c.args.objects.now [] [] [] [] [] c.args.asks.now) c.loop-i-test.true c.ask.ensures.defined) (ask_same (fit_lent (fit_tables [] c.args.objects.now [] [] [] [] [] c.args.asks.now)) c.index.ensures.defined.0 (sym (objects_long (fit_tables [] c.args.objects.now [] [] [] [] [] c.args.asks.now)))) (lt-ltb c.index.result (length c.args.objects.now) c.if-index-count.false) refl

pub returns : goal.returns
returns c = record { defined = scan_done c.loop-i.invariant c.loop-i-test.false }
