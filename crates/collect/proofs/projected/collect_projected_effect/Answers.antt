-- `projected::collect_projected_effect` meets its contract. Assumes nothing.
use Rattle.collect.proofs.projected.collect_projected_effect.Goals as goal
use mathlib.Core.Path.{sym, ap, ◌∙◌}
use Rattle.std.proofs.Common.{rules}
use Rattle.laws.specs.Options.{option_of}
use Rattle.rules.specs.Sheet.{book_of}
use Rattle.rules.specs.Collect.{projected_modifier_moves}
use Rattle.modifier.proofs.Runs.{refused-one, ran_same}
use Rattle.modifier.proofs.Tests.{given_on, there_or, missing_or}
use Rattle.collect.proofs.Gives.{projected_modifiers, projected_bad}

pub returns-in_err-category : goal.returns-in_err-category
returns-in_err-category c =
    let missing = missing_or _ c.in_err-category.ensures.value in
    record {
      defined = λ f h r g l. rw (given_on _ c.from_residual.ensures.1, missing.1)
          (refused-one _ _ _ _ _ l _ ∙ ran_same _ _ (projected_bad (book_of c.args.book.now c.args.pairs.now) f c.args.w.item c.args.e g (sym c.category_at.ensures.defined ∙ ap option_of missing.0)));
    }

pub returns : goal.returns
returns c = record {
  defined = λ f h r g l.
      c.collect_modifiers.ensures.defined (projected_modifier_moves f c.args.w.item c.args.e c.in_ok-category.category) (λ m y p. search rules) l
      ∙ ran_same _ _ (projected_modifiers (book_of c.args.book.now c.args.pairs.now) f c.args.w.item c.args.e c.in_ok-category.category g (sym c.category_at.ensures.defined ∙ ap option_of (there_or _ _ c.in_ok-category.ensures.value)));
}
