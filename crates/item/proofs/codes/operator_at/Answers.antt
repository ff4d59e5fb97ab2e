-- `codes::operator_at` meets its contract. Assumes nothing.
use Rattle.item.proofs.codes.operator_at.Goals as goal
use mathlib.Core.Path.{sym, ap}
use Rattle.rules.specs.Codes.{operators, operator_at}
use Rattle.item.proofs.Back.{nth_past, past_all}

pub returns-in-0 : goal.returns-in-0
returns-in-0 c = record { defined = sym (ap operator_at c.in-0.is) }

pub returns-in-1 : goal.returns-in-1
returns-in-1 c = record { defined = sym (ap operator_at c.in-1.is) }

pub returns-in-2 : goal.returns-in-2
returns-in-2 c = record { defined = sym (ap operator_at c.in-2.is) }

pub returns-in-3 : goal.returns-in-3
returns-in-3 c = record { defined = sym (ap operator_at c.in-3.is) }

pub returns-in-4 : goal.returns-in-4
returns-in-4 c = record { defined = sym (ap operator_at c.in-4.is) }

pub returns-in-5 : goal.returns-in-5
returns-in-5 c = record { defined = sym (ap operator_at c.in-5.is) }

pub returns-in-6 : goal.returns-in-6
returns-in-6 c = record { defined = sym (ap operator_at c.in-6.is) }

pub returns-in-7 : goal.returns-in-7
returns-in-7 c = record { defined = sym (ap operator_at c.in-7.is) }

pub returns-in-8 : goal.returns-in-8
returns-in-8 c = record { defined = sym (ap operator_at c.in-8.is) }

pub returns-in_default : goal.returns-in_default
returns-in_default c = record { defined = sym (nth_past operators c.args.code (past_all c.args.code 9 c.in_default.in_default-own.rest)) }
