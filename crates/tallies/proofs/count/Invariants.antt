use Rattle.rules.specs.Sheet.{book_of, fit_of}
use Rattle.tallies.specs.Blocks.{Summed}
use Rattle.tallies.proofs.count.Given as goal

abbrev pub invariant-loop-i : goal.invariant-loop-i
invariant-loop-i l = Summed (book_of l.book l.pairs) (fit_of l.fit l.pairs) l.keys l.i l.sums
