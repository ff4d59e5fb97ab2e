-- `states::states_of` meets its contract. Assumes nothing.
use Rattle.states.proofs.states_of.Goals as goal
use mathlib.Core.Path.{sym, ◌∙◌}
use Rattle.rules.specs.Sheet.{book_of, fit_of}
use Rattle.states.proofs.Standing.{number-inside, three, stands_projected, stands_off, stands_over, stands_collected}

pub returns-then-is_projected : goal.returns-then-is_projected
returns-then-is_projected c = record { defined = stands_projected (book_of c.args.book.now c.args.pairs.now) (fit_of c.args.fit.now c.args.pairs.now) c.args.o (sym c.is_projected.ensures.defined ∙ c.if-is_projected.true) }

pub returns-then-is_item-structure : goal.returns-then-is_item-structure
returns-then-is_item-structure c = record { defined = stands_off (book_of c.args.book.now c.args.pairs.now) (fit_of c.args.fit.now c.args.pairs.now) c.args.o (sym c.is_projected.ensures.defined ∙ c.if-is_projected.false) (sym (three c.is_item.ensures.defined c.requires.structure c.is_on_char.ensures.defined) ∙ c.if-is_item-structure.true) }

pub is_passed_over-requires : goal.is_passed_over-requires
is_passed_over-requires c = record {
  held_fit = c.requires.sound_fit.held;
  inside = number-inside _ _ _ c.requires.an_object;
  of_the_fit = c.requires.structure;
}

pub returns-then-is_passed_over : goal.returns-then-is_passed_over
returns-then-is_passed_over c = record { defined = stands_over (book_of c.args.book.now c.args.pairs.now) (fit_of c.args.fit.now c.args.pairs.now) c.args.o (sym c.is_projected.ensures.defined ∙ c.if-is_projected.false) (sym (three c.is_item.ensures.defined c.requires.structure c.is_on_char.ensures.defined) ∙ c.if-is_item-structure.false) (sym (c.is_passed_over.ensures.defined (book_of c.args.book.now c.args.pairs.now) c.requires.the_categories) ∙ c.if-is_passed_over.true) }

pub able-top-requires : goal.able-top-requires
able-top-requires c = record {
  sound_book = c.requires.sound_book;
  sound_fit = c.requires.sound_fit;
  marked = c.requires.marked;
  an_object = c.requires.an_object;
}

pub returns : goal.returns
returns c = record { defined = stands_collected (book_of c.args.book.now c.args.pairs.now) (fit_of c.args.fit.now c.args.pairs.now) c.args.o (sym c.is_projected.ensures.defined ∙ c.if-is_projected.false) (sym (three c.is_item.ensures.defined c.requires.structure c.is_on_char.ensures.defined) ∙ c.if-is_item-structure.false) (sym (c.is_passed_over.ensures.defined (book_of c.args.book.now c.args.pairs.now) c.requires.the_categories) ∙ c.if-is_passed_over.false) (c.collected_states.ensures.defined (book_of c.args.book.now c.args.pairs.now) (fit_of c.args.fit.now c.args.pairs.now) c.able-top.ensures.defined) }
