-- `line_key` meets its contract. Assumes nothing.
use Rattle.tallies.proofs.line_key.Goals as goal
use Prim.Native.Nat.{ℕ, ◌+◌, ◌*◌, ◌%◌}
use mathlib.Core.Path.{ap, ◌∙◌}
use mir.Syntax.{w32}
use mir.Val.{of_z}
use mir.Facts.{to_z-of_z}
use Rattle.tallies.proofs.Blocks.{rank-bits}

pub returns : goal.returns
returns c = record { defined = ap (λ (x : ℕ). c.args.kind * 4294967296 + (x + 2147483648) % 4294967296) (c.bits-low.ensures.defined ∙ ap (of_z w32) (to_z-of_z c.ranges.id)) ∙ ap (λ (x : ℕ). c.args.kind * 4294967296 + x) (rank-bits c.args.id c.ranges.id) }
