use Rattle.maps.proofs.build.build.Given as goal
use Prim.Native.Nat.{◌≤◌}
use mathlib.Core.Path.{◌≡◌}
use lib.ListN.{length}
use Rattle.rules.specs.Sheet.{book_of, fit_of}
use Rattle.maps.proofs.Building.{Making}

abbrev pub invariant-loop-i : goal.invariant-loop-i
invariant-loop-i l = (l.i ≤ l.objects) × ((length l.words ≡ length l.initial.words) × ((length l.heads ≡ length l.initial.heads) × Making (book_of l.book l.pairs) (fit_of l.fit l.pairs) l.width l.i l.n l.words l.heads))
