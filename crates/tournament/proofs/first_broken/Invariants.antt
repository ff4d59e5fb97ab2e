use Rattle.std.proofs.Common.{map, length, ◌-◌}
use Rattle.rules.specs.Sheet.{book_of, fit_of}
use Rattle.tallies.specs.Tallies.{line_of, counted}
use Rattle.tournament.specs.Answered.{Reached}
use Rattle.tournament.proofs.first_broken.Given as goal

abbrev pub ghost-in_block : goal.ghost-in_block
ghost-in_block a = counted (book_of a.book.now a.pairs.now) (fit_of a.fit.now a.pairs.now)

abbrev pub invariant-loop-at : goal.invariant-loop-at
invariant-loop-at l = Reached (map line_of l.lines) (counted (book_of l.book l.pairs) (fit_of l.fit l.pairs)) l.at.next l.at.points

abbrev pub decreases-loop-at : goal.decreases-loop-at
decreases-loop-at l = length l.lines - l.at.next
