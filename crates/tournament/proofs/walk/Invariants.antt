use Rattle.std.proofs.Common.{map}
use Rattle.tallies.specs.Tallies.{line_of}
use Rattle.tournament.specs.Answered.{Reached}
use Rattle.tournament.proofs.walk.Given as goal

abbrev pub invariant-loop-i : goal.invariant-loop-i
invariant-loop-i g l = Reached (map line_of l.lines) g.os l.i l.points
