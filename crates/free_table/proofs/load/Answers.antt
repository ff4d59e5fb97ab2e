-- Where there are seventeen, the first seventeen are given; else empty ones.
use Rattle.std.proofs.Common.{refl, sym, ◌∙◌}
use Rattle.std.proofs.lemmas.Bool.{lt-leb}
use Rattle.free_table.specs.Table.{loaded}
use Rattle.free_table.proofs.Fronts.{loaded-is}
use Rattle.free_table.proofs.load.Goals as goal

pub returns-then-table-ge-FREE : goal.returns-then-table-ge-FREE
returns-then-table-ge-FREE c = record { defined = c.copy_from_slice.ensures.after ∙ sym (loaded-is c.args.table.now c.if-table-ge-FREE.true) }

pub returns-else-table-ge-FREE : goal.returns-else-table-ge-FREE
unfolding loaded
returns-else-table-ge-FREE c = record { defined = rw (lt-leb 17 _ c.if-table-ge-FREE.false) refl }
