-- `states::correct_states` meets its contract. The rows of the first i objects are laid over zeros. The measure is how many objects are left. Assumes nothing.
use Rattle.states.proofs.correct_states.Goals as goal
use Prim.Native.Nat.{ℕ}
use native.Mathlib.Omega.{arith}
use mathlib.Core.Path.{refl}
use mathlib.Core.List.{[], ◌∷◌}
use lib.ListN.{length-replicate}
use Rattle.laws.proofs.Laid.{col_none}
use Rattle.rules.specs.Sheet.{book_of}
use Rattle.states.specs.Raised.{both}
use Rattle.states.proofs.Standing.{stood, in_room, rows_more, rows_all}

pub categories_of-c-requires : goal.categories_of-c-requires
categories_of-c-requires c = record { a_header = c.requires.sound_book.held.header }

pub is_structure_fit-structure-requires : goal.is_structure_fit-structure-requires
is_structure_fit-structure-requires c = record { held_fit = c.requires.sound_fit.held }

pub mark_effects-requires : goal.mark_effects-requires
mark_effects-requires c = record {
  even = length-replicate {A = ℕ} 1024 0;
  held_book = c.requires.sound_book.held;
}

pub mark_types-requires : goal.mark_types-requires
mark_types-requires c = record {
  even = length-replicate {A = ℕ} 1024 0;
  held_book = c.requires.sound_book.held;
  raising = c.mark_effects.ensures.marked;
}

pub loop-i-init : goal.loop-i-init
loop-i-init c = (omega arith, col_none both _)

pub object-o-requires : goal.object-o-requires
object-o-requires c = record {
  held_fit = c.requires.sound_fit.held;
  inside = omega (arith, c.loop-i-test.true, c.count_of-i-end.ensures.defined);
}

pub states_of-requires : goal.states_of-requires
states_of-requires c = record {
  sound_book = c.requires.sound_book;
  sound_fit = c.requires.sound_fit;
  marked = c.mark_types.ensures.marked;
  the_categories = c.categories_of-c.ensures.of_the_header;
  structure = c.is_structure_fit-structure.ensures.defined;
  an_object = stood c.args.fit.now c.args.pairs.now c.loop-i.i c.object-o.result (omega (arith, c.loop-i-test.true, c.count_of-i-end.ensures.defined)) c.object-o.ensures.record_i;
}

pub offset_bounds-states-i : goal.offset_bounds-states-i
offset_bounds-states-i c = record { fits = omega (arith, c.loop-i-test.true, c.count_of-i-end.ensures.defined, c.requires.sound_fit.held.objects.few) }

pub bounds-states-i : goal.bounds-states-i
bounds-states-i c = omega (arith, c.loop-i-test.true, c.count_of-i-end.ensures.defined, c.requires.sound_fit.held.objects.few)

pub loop-i-preserved : goal.loop-i-preserved
loop-i-preserved c = (omega (arith, c.loop-i-test.true), rows_more (book_of c.args.book.now c.args.pairs.now) c.args.fit.now c.args.pairs.now c.loop-i.i c.object-o.result (omega (arith, c.loop-i-test.true, c.count_of-i-end.ensures.defined)) c.object-o.ensures.record_i (in_room (0 ∷ 0 ∷ []) c.loop-i.i (omega (arith, c.loop-i-test.true, c.count_of-i-end.ensures.defined, c.requires.sound_fit.held.objects.few))) c.states_of.ensures.defined c.loop-i.invariant.1 refl)

pub returns : goal.returns
returns c = record { defined = rows_all (book_of c.args.book.now c.args.pairs.now) c.args.fit.now c.args.pairs.now c.loop-i.i (omega (arith, c.loop-i.invariant.0, c.loop-i-test.false, c.count_of-i-end.ensures.defined)) c.loop-i.invariant.1 refl }
