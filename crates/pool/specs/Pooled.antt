-- What the test of a pool answers, and where a pilot's rows are lent. Definitions only.
use Rattle.std.specs.Prelude.{ℕ, Bool, ◌||◌, cond, List, [], eqb, get_or, Result, Ok, Err}
use Rattle.std.proofs.Math.Option.{Option, none, some}
use Rattle.laws.specs.Lists.{some?, from}
use Rattle.rules.specs.Pool.{first_of, length_of, end_of, leaves, overlaps}
use Rattle.pool.specs.declared.BadPool.{BadPool}

-- what the code answers
abbrev pub Pooled : Type 0
Pooled = Result (Unit {0}) BadPool

-- POOL with its place, or none
abbrev pub pooled_of : Option ℕ → Pooled
pooled_of none = Ok tt
pooled_of (some p) = Err (record { place = p })

-- an empty stretch's first is not read: it is lent from 0
abbrev pub start_of : List ℕ → ℕ
start_of s = cond (eqb (length_of s) 0) 0 (first_of s)

abbrev pub part_end : List ℕ → ℕ
part_end s = cond (eqb (length_of s) 0) 0 (end_of s)

-- pilot p's stretch at place i of its five, which is its stretch of list i + 1
abbrev pub stretch_at : List (List (List ℕ)) → ℕ → ℕ → List ℕ
stretch_at ss p i = get_or (get_or ss p []) i []

-- whether it leaves the pool or overlaps a lower pilot's
abbrev pub astray_at : List ℕ → List (List (List ℕ)) → ℕ → ℕ → Bool
astray_at rooms ss p i =
    leaves (get_or rooms i 0) (stretch_at ss p i) || some? (λ q. overlaps (stretch_at ss p i) (stretch_at ss q i)) (from 0 p)
