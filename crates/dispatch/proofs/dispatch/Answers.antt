-- `dispatch::dispatch` meets its contract.
use Rattle.dispatch.proofs.dispatch.Goals as goal
use native.Mathlib.Omega.{arith}
use mathlib.Core.Path.{◌≡◌, sym, ap, ◌∙◌}
use Prim.Native.Nat.{ℕ}
use Rattle.std.specs.Prelude.{Option, None}
use Rattle.std.specs.Option.{ok_or}
use Rattle.std.specs.Result.{result_ok}
use Rattle.std.proofs.lemmas.Result.{err_from_is_err_and}
use Rattle.rules.specs.Outcome.{full}
use Rattle.rules.specs.declared.Refusal.TheVariants.{Room}
use Rattle.rules.specs.Sheet.{book_of}
use Rattle.dispatch.proofs.Parted.{as_listed, as_effects, listing, cut_long, cut_even}
use Rattle.dispatch.proofs.Ending.{cut-listing, parts, ending_parts, ending_parting, ending_full, ending_inside, ending_past, ending_done}

pub set_hits-used-requires : goal.set_hits-used-requires
set_hits-used-requires c = record {
  held_book = c.requires.sound_book.held;
  sound_fit = c.requires.sound_fit;
  listed = listing c.requires.collected_effects;
  inside = (c.requires.entries_inside.2, c.requires.entries_inside.3, c.requires.entries_inside.0);
}

pub slice_bounds-all_lists-end : goal.slice_bounds-all_lists-end
slice_bounds-all_lists-end c = sym (cut_long c.requires.collected_effects.collection)

pub slice_bounds-all_lists-end-2 : goal.slice_bounds-all_lists-end-2
slice_bounds-all_lists-end-2 c = sym (cut_even c.requires.collected_effects.collection)

pub all_lists-requires : goal.all_lists-requires
all_lists-requires c = record {
  sound_book = c.requires.sound_book;
  sound_fit = c.requires.sound_fit;
  listed = cut-listing c.requires.collected_effects;
  inside = (c.requires.inside.0, c.requires.inside.1);
  parted = ending_parting (book_of c.args.book.now c.args.pairs.now) c.args.fit.now c.args.pairs.now c.requires.sound_fit c.requires.collected_effects.effects c.args.room_entries (c.set_hits-used.ensures.segmented c.requires.collected_effects.effects c.requires.collected_effects.collection.count (as_listed c.requires.collected_effects.collection)) c.requires.collected_effects.collection (omega (arith, c.set_hits-used.auto.entries, c.requires.entries_inside.0)) c.requires.entries_inside.1 c.requires.entries_inside.3;
}

pub returns-in_err-k : goal.returns-in_err-k
returns-in_err-k c = let none : c.all_lists.result ≡ None = c.ok_or.ensures.ok_part ∙ ap result_ok c.in_err-k.was in
    let refusal : c.in_err-k.field-0.0 ≡ Room 2 = cc (sym c.in_err-k.was ∙ c.ok_or.ensures.value ∙ ap (λ (o : Option ℕ). ok_or o (Room 2)) none) in
    let p = err_from_is_err_and c.from_residual.result c.from_residual.ensures.1 in
    rw (p.1, p.2, refusal) (record { defined = λ es C. ap full (ending_full (book_of c.args.book.now c.args.pairs.now) c.args.fit.now c.args.pairs.now c.requires.sound_fit es c.args.room_entries (c.set_hits-used.ensures.segmented es C.count (as_listed C)) c.args.room c.requires.inside.2 c.all_lists.result c.args.rows.now c.all_lists.new.rows c.args.bases.now c.all_lists.new.bases c.all_lists.new.entries c.args.values.now c.all_lists.new.values (c.all_lists.ensures.laid es (parts (book_of c.args.book.now c.args.pairs.now) c.args.fit.now c.args.pairs.now c.requires.sound_fit es c.args.room_entries) (as_effects C) (ending_parts (book_of c.args.book.now c.args.pairs.now) c.args.fit.now c.args.pairs.now c.requires.sound_fit es c.args.room_entries (c.set_hits-used.ensures.segmented es C.count (as_listed C)))) none) })

pub full_at-list-requires : goal.full_at-list-requires
full_at-list-requires c = record { inside = ending_inside (book_of c.args.book.now c.args.pairs.now) c.args.fit.now c.args.pairs.now c.requires.sound_fit c.requires.collected_effects.effects c.args.room_entries (c.set_hits-used.ensures.segmented c.requires.collected_effects.effects c.requires.collected_effects.collection.count (as_listed c.requires.collected_effects.collection)) c.args.room c.requires.inside.2 c.all_lists.result c.args.rows.now c.all_lists.new.rows c.args.bases.now c.all_lists.new.bases c.all_lists.new.entries c.args.values.now c.all_lists.new.values (c.all_lists.ensures.laid c.requires.collected_effects.effects (parts (book_of c.args.book.now c.args.pairs.now) c.args.fit.now c.args.pairs.now c.requires.sound_fit c.requires.collected_effects.effects c.args.room_entries) (as_effects c.requires.collected_effects.collection) (ending_parts (book_of c.args.book.now c.args.pairs.now) c.args.fit.now c.args.pairs.now c.requires.sound_fit c.requires.collected_effects.effects c.args.room_entries (c.set_hits-used.ensures.segmented c.requires.collected_effects.effects c.requires.collected_effects.collection.count (as_listed c.requires.collected_effects.collection)))) (c.ok_or.ensures.ok_part ∙ ap result_ok c.in_ok-k.was) c.requires.inside.0 c.all_lists.auto.rows }

pub returns-then-room_entries-used : goal.returns-then-room_entries-used
returns-then-room_entries-used c = record { defined = λ es C. ap full (ending_past (book_of c.args.book.now c.args.pairs.now) c.args.fit.now c.args.pairs.now c.requires.sound_fit es c.args.room_entries (c.set_hits-used.ensures.segmented es C.count (as_listed C)) c.args.room c.requires.inside.2 c.all_lists.result c.args.rows.now c.all_lists.new.rows c.args.bases.now c.all_lists.new.bases c.all_lists.new.entries c.args.values.now c.all_lists.new.values (c.all_lists.ensures.laid es (parts (book_of c.args.book.now c.args.pairs.now) c.args.fit.now c.args.pairs.now c.requires.sound_fit es c.args.room_entries) (as_effects C) (ending_parts (book_of c.args.book.now c.args.pairs.now) c.args.fit.now c.args.pairs.now c.requires.sound_fit es c.args.room_entries (c.set_hits-used.ensures.segmented es C.count (as_listed C)))) (c.ok_or.ensures.ok_part ∙ ap result_ok c.in_ok-k.was) C c.if-room_entries-used.true c.full_at-list.result c.full_at-list.ensures.the_list) }

pub returns : goal.returns
returns c = record { defined = λ es C. ending_done (book_of c.args.book.now c.args.pairs.now) c.args.fit.now c.args.pairs.now c.requires.sound_fit es c.args.room_entries (c.set_hits-used.ensures.segmented es C.count (as_listed C)) c.args.room c.requires.inside.2 c.all_lists.result c.args.rows.now c.all_lists.new.rows c.args.bases.now c.all_lists.new.bases c.all_lists.new.entries c.args.values.now c.all_lists.new.values (c.all_lists.ensures.laid es (parts (book_of c.args.book.now c.args.pairs.now) c.args.fit.now c.args.pairs.now c.requires.sound_fit es c.args.room_entries) (as_effects C) (ending_parts (book_of c.args.book.now c.args.pairs.now) c.args.fit.now c.args.pairs.now c.requires.sound_fit es c.args.room_entries (c.set_hits-used.ensures.segmented es C.count (as_listed C)))) (c.ok_or.ensures.ok_part ∙ ap result_ok c.in_ok-k.was) c.set_hits-used.auto.entries c.if-room_entries-used.false }
