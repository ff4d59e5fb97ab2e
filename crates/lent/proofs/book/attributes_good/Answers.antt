-- `book::attributes_good` meets its contract. Assumes nothing.
use Rattle.lent.proofs.book.attributes_good.Goals as goal
use Rattle.std.proofs.Common.{rules}
use mathlib.Core.List.{[]}
use Rattle.tables.specs.Tables.{book_tables}
use Rattle.shape.proofs.Scans.{scan_next, scan_failed, scan_done}
use Rattle.shape.proofs.BookScans.{attributes_start}
use Rattle.lent.proofs.Nths.{attribute_nth, attributes_long}

pub loop-i-init : goal.loop-i-init
loop-i-init c = attributes_start _ (attributes_long (book_tables [] c.args.attributes.now c.args.defaults.now [] [] [] []))

pub returns-then-not-attribute_good : goal.returns-then-not-attribute_good
returns-then-not-attribute_good c = record { defined = scan_failed c.loop-i.invariant c.loop-i-test.true (attribute_nth (book_tables [] c.args.attributes.now c.args.defaults.now [] [] [] []) c.loop-i-test.true c.attribute-r.ensures.defined) c.attribute_good.ensures.defined c.if-not-attribute_good.true }

pub loop-i-preserved : goal.loop-i-preserved
loop-i-preserved c = scan_next c.loop-i.invariant c.loop-i-test.true (attribute_nth (book_tables [] c.args.attributes.now c.args.defaults.now [] [] [] []) c.loop-i-test.true c.attribute-r.ensures.defined) c.attribute_good.ensures.defined c.if-not-attribute_good.false (search rules)

pub returns : goal.returns
returns c = record { defined = scan_done c.loop-i.invariant c.loop-i-test.false }
