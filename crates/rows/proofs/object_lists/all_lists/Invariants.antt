use Rattle.rows.proofs.object_lists.all_lists.Given as goal
use Rattle.rules.specs.Bytes.{count_of}
use Rattle.rules.specs.Sheet.{book_of, fit_of}
use Rattle.rows.proofs.Together.{Turns}

abbrev pub invariant-loop-i : goal.invariant-loop-i
invariant-loop-i l = Turns (book_of l.book l.pairs) (fit_of l.fit l.pairs) l.collected l.collected_values (count_of l.pairs 6) l.initial.rows l.initial.bases l.initial.entries l.initial.values l.ends l.room l.i l.n l.from l.rows l.bases l.entries l.values
