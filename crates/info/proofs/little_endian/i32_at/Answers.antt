-- `little_endian::i32_at` meets its contract. Assumes nothing.
use Rattle.info.proofs.little_endian.i32_at.Goals as goal
use borrow.Author.Rules.{sfits_of}
use mathlib.Core.Path.{ap, ◌∙◌}
use mir.Syntax.{w32}
use mir.ValLaws.{to_z-of_z}
use Rattle.rules.specs.Bytes.{signed}

pub returns : goal.returns
returns c = record { defined = to_z-of_z w32 c.signed.result (sfits_of c.signed.type_inv) ∙ c.signed.ensures.defined ∙ ap signed c.u32_at.ensures.defined }
