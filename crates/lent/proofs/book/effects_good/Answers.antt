-- `book::effects_good` meets its contract. Assumes nothing.
use Rattle.lent.proofs.book.effects_good.Goals as goal
use Rattle.std.proofs.Common.{rules}
use mathlib.Core.Path.{sym}
use mathlib.Core.List.{[]}
use Rattle.tables.specs.Tables.{book_tables}
use Rattle.shape.proofs.Scans.{scan_next, scan_failed, scan_done}
use Rattle.shape.proofs.BookScans.{effects_start}
use Rattle.lent.proofs.Nths.{effect_nth, effects_long, modifiers_long}

pub loop-i-init : goal.loop-i-init
loop-i-init c = effects_start _ (effects_long (book_tables [] [] [] c.args.effects.now c.args.modifiers.now [] [])) (sym (modifiers_long (book_tables [] [] [] c.args.effects.now c.args.modifiers.now [] [])))

pub returns-then-not-effect_good : goal.returns-then-not-effect_good
returns-then-not-effect_good c = record { defined = scan_failed c.loop-i.invariant c.loop-i-test.true (effect_nth (book_tables [] [] [] c.args.effects.now c.args.modifiers.now [] []) c.loop-i-test.true c.effect-r.ensures.defined) c.effect_good.ensures.defined c.if-not-effect_good.true }

pub loop-i-preserved : goal.loop-i-preserved
loop-i-preserved c = scan_next c.loop-i.invariant c.loop-i-test.true (effect_nth (book_tables [] [] [] c.args.effects.now c.args.modifiers.now [] []) c.loop-i-test.true c.effect-r.ensures.defined) c.effect_good.ensures.defined c.if-not-effect_good.false (search rules)

pub returns : goal.returns
returns c = record { defined = scan_done c.loop-i.invariant c.loop-i-test.false }
