-- `objects::collect_object` meets its contract. Assumes nothing.
use Rattle.collect.proofs.objects.collect_object.Goals as goal
use native.Mathlib.Omega.{arith}
use mathlib.Core.Path.{sym, ap, ◌∙◌}
use Rattle.rules.specs.Sheet.{book_of, fit_of}
use Rattle.rules.specs.Collect.{own_moves, projected_moves}
use Rattle.info.proofs.Elements.{objects_length}
use Rattle.modifier.proofs.Runs.{ran_none, ran_same}
use Rattle.collect.proofs.Phases.{out_of, over, projected, owned}

pub returns-then-not-in_phase : goal.returns-then-not-in_phase
returns-then-not-in_phase c = record { defined = sym (ran_none _ _) ∙ ran_same _ _ (out_of (book_of c.args.book.now c.args.pairs.now) (fit_of c.args.fit.now c.args.pairs.now) c.args.o c.args.phase (sym c.in_phase.ensures.defined ∙ c.if-not-in_phase.true)) }

pub is_passed_over-over-requires-clause-inside : goal.is_passed_over-over-requires-clause-inside
is_passed_over-over-requires-clause-inside c = omega (arith, c.requires.of_fit.few, objects_length c.args.fit.now c.args.pairs.now)

pub returns-then-over : goal.returns-then-over
returns-then-over c = record { defined = sym (ran_none _ _) ∙ ran_same _ _ (over (book_of c.args.book.now c.args.pairs.now) (fit_of c.args.fit.now c.args.pairs.now) c.args.o c.args.phase (sym c.in_phase.ensures.defined ∙ c.if-not-in_phase.false) (sym (c.is_passed_over-over.ensures.defined (book_of c.args.book.now c.args.pairs.now) c.requires.hull_of_fit.categories) ∙ c.if-over.true)) }

pub collect_projected-requires : goal.collect_projected-requires
collect_projected-requires c = record {
  lent = c.requires.lent.collected;
  sound_book = c.requires.sound_book;
  sound_fit = c.requires.sound_fit;
  of_fit = rw c.owner_of-w.ensures.of_the_fit.1 c.requires.of_fit;
  owner = c.owner_of-w.ensures.of_the_fit.0 (book_of c.args.book.now c.args.pairs.now) c.requires.hull_of_fit;
}

pub returns-then-is_projected : goal.returns-then-is_projected
returns-then-is_projected c = record { defined = c.collect_projected.ensures.defined c.args.plain.now ∙ ran_same _ _ (ap (projected_moves (book_of c.args.book.now c.args.pairs.now) (fit_of c.args.fit.now c.args.pairs.now)) c.owner_of-w.ensures.of_the_fit.1 ∙ projected (book_of c.args.book.now c.args.pairs.now) (fit_of c.args.fit.now c.args.pairs.now) c.args.o c.args.phase (sym c.in_phase.ensures.defined ∙ c.if-not-in_phase.false) (sym c.is_projected.ensures.defined ∙ c.if-is_projected.true)) }

pub collect_effects-requires : goal.collect_effects-requires
collect_effects-requires c = record {
  lent = c.requires.lent;
  sound_book = c.requires.sound_book;
  sound_fit = c.requires.sound_fit;
  of_fit = rw c.owner_of-w.ensures.of_the_fit.1 c.requires.of_fit;
  owner = c.owner_of-w.ensures.of_the_fit.0 (book_of c.args.book.now c.args.pairs.now) c.requires.hull_of_fit;
}

pub returns : goal.returns
returns c = record { defined = c.collect_effects.ensures.defined ∙ ran_same _ _ (ap (own_moves (book_of c.args.book.now c.args.pairs.now) (fit_of c.args.fit.now c.args.pairs.now)) c.owner_of-w.ensures.of_the_fit.1 ∙ owned (book_of c.args.book.now c.args.pairs.now) (fit_of c.args.fit.now c.args.pairs.now) c.args.o c.args.phase (sym c.in_phase.ensures.defined ∙ c.if-not-in_phase.false) (sym (c.is_passed_over-over.ensures.defined (book_of c.args.book.now c.args.pairs.now) c.requires.hull_of_fit.categories) ∙ c.if-over.false) (sym c.is_projected.ensures.defined ∙ c.if-is_projected.false)) }
