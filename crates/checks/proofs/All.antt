-- Opens every definition of a check, for the theorems that compute.
use Rattle.rules.proofs.Everything.{everything}
use Rattle.settled.specs.Given.{listed_reader, idle, idles, given}
use Rattle.settled.specs.Lines.{first_other, first_wrong, first_bad}
use Rattle.loops.specs.Loop.{met, need_rows, searched, backs, loop_among, loop_at}
use Rattle.run.specs.Listing.{lists_in}
use Rattle.checks.specs.Check.{checked_in, checked}

unfoldable pub all : Unit {0}
unfolding everything listed_reader idle idles given first_other first_wrong first_bad met need_rows searched backs loop_among loop_at lists_in checked_in checked
all = tt
