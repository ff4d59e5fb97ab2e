-- `reading::entries::operator_of` meets its contract.
use Rattle.laws.specs.Options.{option_of}
use Rattle.reading.proofs.entries.operator_of.Goals as goal
use mathlib.Core.Path.{sym, ap, ◌∙◌}
use Rattle.reading.proofs.Decodes.{the_one, not_none, operator_coded}

pub returns-in-Some : goal.returns-in-Some
returns-in-Some c = record { defined = λ k e. the_one (sym (ap option_of c.in-Some.is) ∙ c.operator_at-found.ensures.defined) (operator_coded _ k e) }

pub returns-in-None : goal.returns-in-None
returns-in-None c = record { defined = λ k e. not_none (sym (ap option_of c.in-None.is) ∙ c.operator_at-found.ensures.defined) (operator_coded _ k e) }
