-- `hits::columns` meets its contract.
use Rattle.hits.proofs.reach.columns.Goals as goal
use mathlib.Core.Path.{ap, ◌∙◌}
use borrow.Author.Rules.{sfits_of}
use mir.Syntax.{w32}
use mir.Val.{of_z}
use mir.ValLaws.{to_z-of_z}
use Rattle.hits.proofs.ReachLaws.{columns_are}

pub returns : goal.returns
returns c = record { defined = λ k f of e. columns_are k f c.args.o e (c.is_in_ship.ensures.defined k of) c.is_on_char.ensures.defined c.is_on_char-2.ensures.defined c.is_owner_modifiable.ensures.defined c.flag.ensures.defined c.flag-2.ensures.defined c.flag-3.ensures.defined c.flag-4.ensures.defined c.flag-5.ensures.defined c.flag-6.ensures.defined (c.bits.ensures.defined ∙ ap (of_z w32) (to_z-of_z w32 c.args.o.group_id (sfits_of c.struct_told-1.given.1.1.1.0.1))) }
