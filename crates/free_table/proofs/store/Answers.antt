-- The seventeen stand before what stood behind the first seventeen.
use Rattle.std.proofs.Common.{sym, ap, ◌∙◌, List, ◌++◌, drop, length}
use lib.Seq.{length-take-le}
use Rattle.free_table.specs.declared.Stretch.{Stretch}
use Rattle.free_table.proofs.Fronts.{stored_is}
use Rattle.free_table.proofs.store.Goals as goal

pub returns : goal.returns
returns c = record { defined = ap (λ (z : List Stretch). z ++ drop 17 c.args.table.now) c.copy_from_slice.ensures.after ∙ sym (stored_is c.args.table.now c.args.t c.requires.room (sym (ap length c.copy_from_slice.ensures.after) ∙ c.copy_from_slice.ensures.len ∙ length-take-le 17 c.args.table.now c.requires.room)) }
