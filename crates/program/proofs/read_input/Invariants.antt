-- `read_input` is safe and ends, and counts bytes of the buffer.
use Rattle.program.proofs.read_input.Given as goal
use Rattle.std.proofs.Common.{◌≡◌, ◌-◌, ◌≤◌, length}

abbrev pub invariant-loop-bytes : goal.invariant-loop-bytes
invariant-loop-bytes g l = (length l.buffer ≡ length l.initial.buffer) × (l.bytes ≤ length l.buffer)

abbrev pub decreases-loop-bytes : goal.decreases-loop-bytes
decreases-loop-bytes g l = length l.buffer - l.bytes
