use Rattle.operate.proofs.put_copies.Given as goal
use lib.ListN.{length}
use mathlib.Core.Path.{◌≡◌}
use Rattle.operate.specs.Held.{bucket}
use Rattle.operate.proofs.Copies.{Put}

abbrev pub invariant-loop-k : goal.invariant-loop-k
invariant-loop-k l = (length l.values ≡ 8) × (length l.sources ≡ 8) × Put (bucket l.initial.values l.initial.sources l.initial.n) l.x l.first l.step l.copies (bucket l.values l.sources l.n) l.source l._k
