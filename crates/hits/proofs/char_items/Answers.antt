-- `hits::char_items` meets its contract.
use Rattle.hits.proofs.char_items.Goals as goal
use mathlib.Core.Path.{refl}
use native.Mathlib.Omega.{arith}
use Rattle.hits.proofs.Aims.{char_items_lem}

pub returns : goal.returns
returns c = record { defined = λ k f S. char_items_lem k f c.args.s S c.args.s.character (omega (arith, S.character, S.first, S.ordered, S.inside)) c.args.test refl }
