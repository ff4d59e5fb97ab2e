-- `buffs::collect_collection` meets its contract. Assumes nothing.
use Rattle.collect.proofs.buffs.collect_collection.Goals as goal
use mathlib.Core.Path.{sym, ◌∙◌}
use Rattle.std.proofs.Common.{rules}
use Rattle.rules.specs.Sheet.{book_of}
use Rattle.rules.specs.Collect.{buff_modifier_moves}
use Rattle.modifier.proofs.Runs.{ran_none, refused-one, ran_same}
use Rattle.modifier.proofs.Tests.{given_on}
use Rattle.collect.proofs.Gives.{buff_some}

pub returns-in_err-operator : goal.returns-in_err-operator
returns-in_err-operator c = record { defined = λ g l. rw (given_on _ c.from_residual.ensures.1) (refused-one _ _ _ _ _ l _ ∙ ran_same _ _ (buff_some (book_of c.args.book.now c.args.pairs.now) c.args.b c.args.found g (sym c.in_err-operator.ensures.defined))) }

pub returns-in_default : goal.returns-in_default
returns-in_default c = record { defined = λ g l. sym (ran_none _ _) ∙ ran_same _ _ (buff_some (book_of c.args.book.now c.args.pairs.now) c.args.b c.args.found g (sym (rw c.in_default.is at c.in_ok-operator.ensures.defined))) }

pub returns : goal.returns
returns c = record {
  defined = λ g l.
      c.collect_modifiers.ensures.defined (buff_modifier_moves c.args.b c.in-Some.operator) (λ m r p. search rules) l
      ∙ ran_same _ _ (buff_some (book_of c.args.book.now c.args.pairs.now) c.args.b c.args.found g (sym (rw c.in-Some.is at c.in_ok-operator.ensures.defined)));
}
