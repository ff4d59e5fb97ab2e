use Rattle.listing.proofs.rows_listed.Given as goal
use lib.ListN.{length}
use Rattle.listing.proofs.Lined.{Lined}

abbrev pub invariant-loop-next : goal.invariant-loop-next
invariant-loop-next l = Lined l.n l.rows l.values (length l.initial.out) l.out l.end l.next
