-- `shape::header_good` meets its contract. Assumes nothing.
use Rattle.std.proofs.Common.{rules}
use Rattle.shape.proofs.header_good.Goals as goal
use borrow.Author.Tests.{le-leb}
use mathlib.Core.Path.{sym, ◌∙◌}
use Rattle.shape.proofs.Following.{placed_standing}
use Rattle.rules.specs.Shape.{header_good}

pub returns : goal.returns
unfolding header_good
returns c = record { defined = rw (c.standing-tables.ensures.defined ∙ sym (placed_standing _ _ 0 10), c.u32_at-depth.ensures.defined, c.u32_at-recording.ensures.defined, le-leb 100 _ c.requires.a_header) (search rules) }
