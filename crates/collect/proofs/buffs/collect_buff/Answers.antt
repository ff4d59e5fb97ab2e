-- `buffs::collect_buff` meets its contract. Assumes nothing.
use Rattle.collect.proofs.buffs.collect_buff.Goals as goal
use mathlib.Core.Path.{sym, ap, ◌∙◌}
use Prim.Native.Nat.{◌<◌, ◌^◌}
use lib.Signed.{mag}
use mir.Syntax.{w32}
use mir.ValLaws.{to_z-of_z}
use Rattle.std.proofs.Common.{rules}
use Rattle.rules.specs.Sheet.{book_of}
use Rattle.rules.specs.Info.{get_dbuff_collection}
use Rattle.modifier.proofs.Runs.{ran_none, ran_same}
use Rattle.collect.proofs.Gives.{buff_none}
use Rattle.collect.proofs.Inside.{collection_inside}

pub returns-in_default : goal.returns-in_default
returns-in_default c =
    let fits : mag c.args.b.id < 2 ^ 31 = search rules in
    record { defined = λ l. sym (ran_none _ _) ∙ ran_same _ _ (buff_none (book_of c.args.book.now c.args.pairs.now) c.args.b (ap (get_dbuff_collection (book_of c.args.book.now c.args.pairs.now)) (sym (to_z-of_z w32 c.args.b.id (record { sfits = fits }))) ∙ sym c.in_default.ensures.defined)) }

pub collect_collection-requires-clause-inside : goal.collect_collection-requires-clause-inside
collect_collection-requires-clause-inside c = collection_inside c.args.book.now c.args.pairs.now c.requires.sound_book _ _ (sym c.in-Some.ensures.defined)
