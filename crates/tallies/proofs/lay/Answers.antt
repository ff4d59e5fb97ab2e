-- `lay` meets its contract. Assumes nothing.
use Rattle.tallies.proofs.lay.Goals as goal
use Prim.Native.Nat.{◌+◌}
use native.Mathlib.Omega.{arith}
use mathlib.Core.List.{[]}
use mathlib.Core.Path.{ap, ◌∙◌}
use mir.Syntax.{w32}
use mir.Facts.{to_z-of_z}
use borrow.Author.Rules.{sfits_of}
use lib.ListN.{get_or}
use Rattle.tallies.specs.Blocks.{line_key}
use Rattle.tallies.proofs.Blocks.{laid_more}

pub loop-i-init : goal.loop-i-init
loop-i-init c = c.requires.none_yet

pub loop-i-preserved : goal.loop-i-preserved
loop-i-preserved c = laid_more c.args.lines.now c.loop-i.invariant (omega arith) (omega arith) (c.line_key.ensures.defined ∙ ap (line_key (get_or (get_or c.args.lines.now (c.args.first + c.loop-i.i) []) 0 0)) (to_z-of_z {w = w32} (sfits_of c.signed.type_inv) ∙ c.signed.ensures.defined))
