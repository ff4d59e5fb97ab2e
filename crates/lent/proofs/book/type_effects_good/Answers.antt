-- `book::type_effects_good` meets its contract. Assumes nothing.
use Rattle.lent.proofs.book.type_effects_good.Goals as goal
use Rattle.std.proofs.Common.{rules}
use mathlib.Core.List.{[]}
use Rattle.tables.specs.Tables.{book_tables}
use Rattle.shape.proofs.Scans.{scan_next, scan_failed, scan_done}
use Rattle.shape.proofs.BookScans.{type_effects_start}
use Rattle.lent.proofs.Nths.{type_effect_nth, type_effects_long}

pub loop-i-init : goal.loop-i-init
loop-i-init c = type_effects_start _ (type_effects_long (book_tables [] [] [] [] [] c.args.type_effects.now []))

pub returns-then-not-type_effect_good : goal.returns-then-not-type_effect_good
returns-then-not-type_effect_good c = record { defined = scan_failed c.loop-i.invariant c.loop-i-test.true (type_effect_nth (book_tables [] [] [] [] [] c.args.type_effects.now []) c.loop-i-test.true c.type_effect-r.ensures.defined) c.type_effect_good.ensures.defined c.if-not-type_effect_good.true }

pub loop-i-preserved : goal.loop-i-preserved
loop-i-preserved c = scan_next c.loop-i.invariant c.loop-i-test.true (type_effect_nth (book_tables [] [] [] [] [] c.args.type_effects.now []) c.loop-i-test.true c.type_effect-r.ensures.defined) c.type_effect_good.ensures.defined c.if-not-type_effect_good.false (search rules)

pub returns : goal.returns
returns c = record { defined = scan_done c.loop-i.invariant c.loop-i-test.false }
