-- `states::collected_states` meets its contract. Assumes nothing.
use Rattle.states.proofs.collected_states.Goals as goal
use mathlib.Core.Path.{sym}
use Rattle.states.proofs.Standing.{subsystem_stands, collected_stands}

pub returns-then-is_subsystem : goal.returns-then-is_subsystem
returns-then-is_subsystem c = record { defined = λ k f t. subsystem_stands k f c.args.o (sym c.if-is_subsystem.ensures.defined) }

pub returns : goal.returns
returns c = record { defined = λ k f t. collected_stands k f c.args.o (sym c.if-is_subsystem.ensures.defined) t c.min.ensures }
