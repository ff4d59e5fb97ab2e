-- All moves, run from the front of the columns, give what the definition says.
use Prim.Native.Nat.{ℕ, ◌≤◌}
use mathlib.Core.Path.{◌≡◌, sym, ◌∙◌}
use mathlib.Core.List.{List}
use lib.Ieee.{Float}
use lib.ListN.{length}
use Rattle.rules.specs.Collect.{Move}
use Rattle.rules.specs.Outcome as outcome
use Rattle.modifier.specs.declared.moves.CollectedRooms.{CollectedRooms}
use Rattle.modifier.specs.Ran.{Stand, at, ran, ended}
use Rattle.modifier.proofs.Ends.{ran-ended}

abbrev rooms_by : ℕ → ℕ → CollectedRooms
rooms_by room plain = record { collected = room; plain = plain }

pub whole : (q : outcome.Rooms) (room plain : ℕ) (ms : List Move) (c : List (List ℕ)) (v : List Float) (l : List (List ℕ)) {t : Stand} → q.collected ≡ room → q.plain ≡ plain → room ≤ length c → room ≤ length v → plain ≤ length l → t ≡ ran (rooms_by room plain) ms (at 0 0 c v l) → t ≡ ended (outcome.collected q 0 0 ms) ms c v l
whole q room plain ms c v l a b h g j e =
    (rw (sym a, sym b) at e) ∙ ran-ended q ms c v l (rw a h) (rw a g) (rw b j)
