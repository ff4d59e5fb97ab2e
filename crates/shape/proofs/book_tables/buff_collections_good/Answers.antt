-- `book_tables::buff_collections_good` meets its contract. Assumes nothing.
use Rattle.shape.proofs.book_tables.buff_collections_good.Goals as goal
use Prim.Native.Nat.{◌-◌}
use borrow.Author.Rules.{sfits_of}
use mir.Syntax.{w32}
use mir.Val.{to_z}
use mir.ValLaws.{to_z-of_z}
use Rattle.shape.proofs.Scans.{scan_next, scan_failed, scan_done}
use mathlib.Core.Path.{sym, ◌∙◌}
use Rattle.rules.specs.Sheet.{book_of}
use Rattle.info.proofs.Elements.{buff_collections_length, modifiers_length}
use Rattle.shape.proofs.BookScans.{BuffCollectionScan, buff_collections_start}

pub loop-i-init : goal.loop-i-init
loop-i-init c = buff_collections_start _ (buff_collections_length _ _ ∙ sym c.count_of-n.ensures.defined) (c.count_of-modifiers.ensures.defined ∙ sym (modifiers_length _ _))

pub returns-then-not-good : goal.returns-then-not-good
returns-then-not-good c = record { defined = scan_failed c.loop-i.invariant c.loop-i-test.true c.buff_collection-r.ensures.record_i c.buff_collection_good-good.ensures.defined c.if-not-good.true }

pub loop-i-preserved : goal.loop-i-preserved
loop-i-preserved c = scan_next c.loop-i.invariant c.loop-i-test.true c.buff_collection-r.ensures.record_i c.buff_collection_good-good.ensures.defined c.if-not-good.false (to_z-of_z w32 _ (sfits_of c.struct_told-1.given.1.0.1))

pub returns : goal.returns
returns c = record { defined = scan_done c.loop-i.invariant c.loop-i-test.false }
