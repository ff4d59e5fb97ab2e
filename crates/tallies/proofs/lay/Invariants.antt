use Rattle.std.proofs.Common.{map}
use Rattle.tallies.specs.Tallies.{line_of}
use Rattle.tallies.specs.Blocks.{Laid}
use Rattle.tallies.proofs.lay.Given as goal

abbrev pub invariant-loop-i : goal.invariant-loop-i
invariant-loop-i l = Laid (map line_of l.lines) l.first l.i l.keys
