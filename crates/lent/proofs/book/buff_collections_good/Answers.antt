-- `book::buff_collections_good` meets its contract. Assumes nothing.
use Rattle.lent.proofs.book.buff_collections_good.Goals as goal
use Rattle.std.proofs.Common.{rules}
use mathlib.Core.Path.{sym}
use mathlib.Core.List.{[]}
use Rattle.tables.specs.Tables.{book_tables}
use Rattle.shape.proofs.Scans.{scan_next, scan_failed, scan_done}
use Rattle.shape.proofs.BookScans.{buff_collections_start}
use Rattle.lent.proofs.Nths.{buff_collection_nth, buff_collections_long, modifiers_long}

pub loop-i-init : goal.loop-i-init
loop-i-init c = buff_collections_start _ (buff_collections_long (book_tables [] [] [] [] c.args.modifiers.now [] c.args.buff_collections.now)) (sym (modifiers_long (book_tables [] [] [] [] c.args.modifiers.now [] c.args.buff_collections.now)))

pub returns-then-not-buff_collection_good : goal.returns-then-not-buff_collection_good
returns-then-not-buff_collection_good c = record { defined = scan_failed c.loop-i.invariant c.loop-i-test.true (buff_collection_nth (book_tables [] [] [] [] c.args.modifiers.now [] c.args.buff_collections.now) c.loop-i-test.true c.buff_collection-r.ensures.defined) c.buff_collection_good.ensures.defined c.if-not-buff_collection_good.true }

pub loop-i-preserved : goal.loop-i-preserved
loop-i-preserved c = scan_next c.loop-i.invariant c.loop-i-test.true (buff_collection_nth (book_tables [] [] [] [] c.args.modifiers.now [] c.args.buff_collections.now) c.loop-i-test.true c.buff_collection-r.ensures.defined) c.buff_collection_good.ensures.defined c.if-not-buff_collection_good.false (search rules)

pub returns : goal.returns
returns c = record { defined = scan_done c.loop-i.invariant c.loop-i-test.false }
