-- `stands` meets its contract. Assumes nothing.
use Rattle.tournament.proofs.stands.Goals as goal
use mathlib.Core.Path.{refl}
use mathlib.Core.List.{[], map}
use lib.ListN.{get_or}
use Rattle.tallies.specs.Tallies.{line_of}
use Rattle.tournament.proofs.Judging.{before-first, before-later}

pub returns-then-i-eq0 : goal.returns-then-i-eq0
returns-then-i-eq0 c = record { defined = before-first (map line_of c.args.lines.now) (line_of (get_or c.args.lines.now c.args.i [])) c.if-i-eq0.true }

pub returns : goal.returns
returns c = record { defined = before-later c.args.lines.now (line_of (get_or c.args.lines.now c.args.i [])) c.requires.inside c.if-i-eq0.false refl c.rises.ensures.defined }
