-- `states::is_settled` meets its contract. Assumes nothing.
use Rattle.states.proofs.is_settled.Goals as goal
use Rattle.states.proofs.is_settled.Goals.{then-not-mutated, else-not-mutated}
use mathlib.Core.Path.{sym, ap, ◌∙◌}
use mathlib.Core.Bool.{not}
use borrow.Author.Tests.{eqb-true}
use Rattle.std.proofs.Common.{rules}
use Rattle.laws.proofs.Bools.{not-not}
use Rattle.states.proofs.Marking.{mark_place, settled}

pub returns-then-not-is_rig : goal.returns-then-not-is_rig
returns-then-not-is_rig c = elim c.if-not-mutated.branch [
  | then-not-mutated w ↦ record { settled = λ k t e. settled k c.args.marks.now t c.args.o (mark_place c.args.o.type_id (search rules) c.bits.ensures.defined c.index.ensures.defined.0) (eqb-true _ 0 e) (sym w.if-not-mutated.ensures.defined) (sym w.is_rig.ensures.defined ∙ sym (not-not w.is_rig.result) ∙ ap not (sym w.value-is ∙ c.if-not-is_rig.true)) }
  | else-not-mutated w ↦ cc
]
