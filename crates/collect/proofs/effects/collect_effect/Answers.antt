-- `effects::collect_effect` meets its contract. Assumes nothing.
use Rattle.collect.proofs.effects.collect_effect.Goals as goal
use mathlib.Core.Path.{sym, ap, ◌∙◌}
use Prim.Native.Nat.{◌<◌, ◌^◌}
use lib.Signed.{mag}
use mir.Syntax.{w32}
use mir.ValLaws.{to_z-of_z}
use Rattle.std.proofs.Common.{rules}
use Rattle.rules.specs.Sheet.{book_of, fit_of}
use Rattle.rules.specs.Info.{get_dogma_effect}
use Rattle.modifier.proofs.Runs.{ran_none, ran_same}
use Rattle.collect.proofs.Gives.{no_effect_lem, an_effect}
use Rattle.collect.proofs.Inside.{effect_inside}

pub returns-in_default : goal.returns-in_default
returns-in_default c =
    let fits : mag c.args.t.effect_id < 2 ^ 31 = search rules in
    record { defined = sym (ran_none _ _) ∙ ran_same _ _ (no_effect_lem (book_of c.args.book.now c.args.pairs.now) (fit_of c.args.fit.now c.args.pairs.now) c.args.w.item c.args.t (ap (get_dogma_effect (book_of c.args.book.now c.args.pairs.now)) (sym (to_z-of_z w32 c.args.t.effect_id (record { sfits = fits }))) ∙ sym c.in_default.ensures.defined)) }

pub collect_found-requires-clause-inside : goal.collect_found-requires-clause-inside
collect_found-requires-clause-inside c = effect_inside c.args.book.now c.args.pairs.now c.requires.sound_book _ _ (sym c.in-Some.ensures.defined)

pub returns : goal.returns
returns c =
    let fits : mag c.args.t.effect_id < 2 ^ 31 = search rules in
    record { defined = c.collect_found.ensures.defined ∙ ran_same _ _ (an_effect (book_of c.args.book.now c.args.pairs.now) (fit_of c.args.fit.now c.args.pairs.now) c.args.w.item c.args.t _ (ap (get_dogma_effect (book_of c.args.book.now c.args.pairs.now)) (sym (to_z-of_z w32 c.args.t.effect_id (record { sfits = fits }))) ∙ sym c.in-Some.ensures.defined)) }
