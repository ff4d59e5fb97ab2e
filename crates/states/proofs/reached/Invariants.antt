use Rattle.states.proofs.reached.Given as goal
use Prim.Native.Nat.{◌-◌}
use mathlib.Core.Path.{◌≡◌}
use mathlib.Core.List.{map}
use Rattle.laws.specs.Lists.{keep, span}
use Rattle.rules.specs.Sheet.{book_of}
use Rattle.rules.specs.States.{highest}
use Rattle.states.specs.Raised.{reach_on, turns_of, reached_of}
use Rattle.states.proofs.Raising.{is_meant}

abbrev pub invariant-loop-k : goal.invariant-loop-k
invariant-loop-k l = reached_of (book_of l.book l.pairs) l.o ≡ highest l.top (map (λ x. reach_on (book_of l.book l.pairs) l.o x.effect) (keep is_meant (span l.k (l.total - l.k) (turns_of (span l.own.first l.own.count (book_of l.book l.pairs).type_effects) (span l.base.first l.base.count (book_of l.book l.pairs).type_effects)))))
