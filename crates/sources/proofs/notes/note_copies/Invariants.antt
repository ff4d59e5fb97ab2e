use Rattle.sources.proofs.notes.note_copies.Given as goal
use Prim.Native.Nat.{◌+◌, ◌≤◌}
use lib.ListN.{length}
use mathlib.Core.Path.{◌≡◌}
use Rattle.sources.specs.Keeping.{more_of}
use Rattle.sources.proofs.Copying.{AllCopied}

abbrev pub invariant-loop-n : goal.invariant-loop-n
invariant-loop-n l = ((l.now.own ≡ l.fn.counts.own + more_of l.run.recording l._n) × (l.now.used ≡ l.fn.counts.used + more_of l.run.recording l._n) × (l._n ≤ l.copies)) × (length l.sources ≡ length l.initial.sources) × (length l.floats ≡ length l.initial.floats) × (AllCopied l.run l.first l.s l.copies l.initial.sources l.initial.floats l.fn.counts l._n l.sources l.floats l.now)
