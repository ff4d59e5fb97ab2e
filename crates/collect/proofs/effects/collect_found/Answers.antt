-- `effects::collect_found` meets its contract. Assumes nothing.
use Rattle.collect.proofs.effects.collect_found.Goals as goal
use mathlib.Core.Path.{sym, ap, ◌∙◌}
use Prim.Native.Nat.{◌<◌, ◌^◌}
use lib.Signed.{mag}
use mir.Syntax.{w32}
use mir.ValLaws.{to_z-of_z}
use Rattle.std.proofs.Common.{rules}
use Rattle.laws.specs.Options.{option_of}
use Rattle.rules.specs.Sheet.{book_of, fit_of}
use Rattle.rules.specs.Collect.{modifier_moves}
use Rattle.modifier.proofs.Runs.{ran_none, refused-one, ran_same}
use Rattle.modifier.proofs.Tests.{given_on, there_or, missing_or}
use Rattle.collect.proofs.Gives.{found_unused, found_plain, found_modifiers, found_bad}

pub returns-in_err-category : goal.returns-in_err-category
returns-in_err-category c =
    let missing = missing_or _ c.in_err-category.ensures.value in
    record {
      defined = rw (given_on _ c.from_residual.ensures.1, missing.1)
          (refused-one _ _ _ _ _ _ _ ∙ ran_same _ _ (found_bad (book_of c.args.book.now c.args.pairs.now) (fit_of c.args.fit.now c.args.pairs.now) c.args.w.item c.args.t c.args.e (sym c.category_at.ensures.defined ∙ ap option_of missing.0)));
    }

pub returns-then-not-is_used : goal.returns-then-not-is_used
returns-then-not-is_used c = record {
  defined = sym (ran_none _ _)
      ∙ ran_same _ _ (found_unused (book_of c.args.book.now c.args.pairs.now) (fit_of c.args.fit.now c.args.pairs.now) c.args.w.item c.args.t c.args.e c.in_ok-category.category (sym c.category_at.ensures.defined ∙ ap option_of (there_or _ _ c.in_ok-category.ensures.value)) (rw c.category_on-on.ensures.defined at (sym (c.is_used.ensures.defined (book_of c.args.book.now c.args.pairs.now)) ∙ c.if-not-is_used.true)));
}

pub returns-then-e-eq0 : goal.returns-then-e-eq0
returns-then-e-eq0 c =
    let fits : mag c.args.e.id < 2 ^ 31 = search rules in
    record {
      defined = (rw (to_z-of_z w32 c.args.e.id (record { sfits = fits })) at (c.push_plain.ensures.defined c.args.collected.now c.args.collected_values.now))
          ∙ ran_same _ _ (found_plain (book_of c.args.book.now c.args.pairs.now) (fit_of c.args.fit.now c.args.pairs.now) c.args.w.item c.args.t c.args.e c.in_ok-category.category (sym c.category_at.ensures.defined ∙ ap option_of (there_or _ _ c.in_ok-category.ensures.value)) (rw c.category_on-on.ensures.defined at (sym (c.is_used.ensures.defined (book_of c.args.book.now c.args.pairs.now)) ∙ c.if-not-is_used.false)) c.if-e-eq0.true);
    }

pub returns : goal.returns
returns c = record {
  defined = (rw c.category_on-on.ensures.defined at (c.collect_modifiers.ensures.defined (modifier_moves (book_of c.args.book.now c.args.pairs.now) (fit_of c.args.fit.now c.args.pairs.now) c.args.w.item c.args.e c.category_on-on.result) (λ m y p. search rules) c.args.plain.now))
      ∙ ran_same _ _ (found_modifiers (book_of c.args.book.now c.args.pairs.now) (fit_of c.args.fit.now c.args.pairs.now) c.args.w.item c.args.t c.args.e c.in_ok-category.category (sym c.category_at.ensures.defined ∙ ap option_of (there_or _ _ c.in_ok-category.ensures.value)) (rw c.category_on-on.ensures.defined at (sym (c.is_used.ensures.defined (book_of c.args.book.now c.args.pairs.now)) ∙ c.if-not-is_used.false)) c.if-e-eq0.false);
}
