use Rattle.hits.proofs.reach.reach_table.Given as goal
use Rattle.rules.specs.Sheet.{book_of, fit_of}
use Rattle.hits.specs.Reach.{reach_of}
use Rattle.hits.proofs.Telling.{Telling}

abbrev pub invariant-loop-i : goal.invariant-loop-i
invariant-loop-i l = Telling (reach_of (book_of l.book l.pairs) (fit_of l.fit l.pairs)) (fit_of l.fit l.pairs) l.objects l.initial.rows l.rows l.i
