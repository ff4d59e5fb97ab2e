-- `locations::is_on_char` meets its contract. Assumes nothing.
use Rattle.item.proofs.locations.is_on_char.Goals as goal
use lib.IntN.{pos}
use mir.Syntax.{w32}
use borrow.Author.Rules.{sfits_of}
use Rattle.laws.proofs.Signs.{eq_z-bits}
use Rattle.std.proofs.Common.{rules}

pub returns : goal.returns
returns c = record { defined = rw (eq_z-bits {w = w32} c.args.o.category_id (pos 20) (sfits_of c.struct_told-1.given.1.1.1.1.0.1) (search rules)) }
