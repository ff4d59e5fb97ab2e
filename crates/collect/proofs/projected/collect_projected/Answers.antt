-- `projected::collect_projected` meets its contract. Assumes nothing.
use Rattle.collect.proofs.projected.collect_projected.Goals as goal
use mathlib.Core.Path.{sym, ap, ◌∙◌}
use Prim.Native.Nat.{◌<◌, ◌^◌}
use lib.Signed.{mag}
use mir.Syntax.{w32}
use mir.ValLaws.{to_z-of_z}
use Rattle.std.proofs.Common.{rules}
use Rattle.rules.specs.Sheet.{book_of, fit_of}
use Rattle.rules.specs.Info.{get_dogma_effect}
use Rattle.modifier.proofs.Runs.{ran_none, ran_same}
use Rattle.collect.proofs.Gives.{projected_none}
use Rattle.collect.proofs.Inside.{effect_inside, stands_based}

pub returns-in_default : goal.returns-in_default
returns-in_default c =
    let fits : mag c.args.w.item.projected_effect < 2 ^ 31 = search rules in
    record { defined = λ l. sym (ran_none _ _) ∙ ran_same _ _ (projected_none (book_of c.args.book.now c.args.pairs.now) (fit_of c.args.fit.now c.args.pairs.now) c.args.w.item (ap (get_dogma_effect (book_of c.args.book.now c.args.pairs.now)) (sym (to_z-of_z w32 c.args.w.item.projected_effect (record { sfits = fits }))) ∙ sym c.in_default.ensures.defined)) }

pub get_resistance-resistance-requires-clause-based : goal.get_resistance-resistance-requires-clause-based
get_resistance-resistance-requires-clause-based c = stands_based c.args.fit.now c.args.pairs.now c.requires.sound_fit c.args.w.item c.requires.of_fit

pub collect_projected_effect-requires-clause-inside : goal.collect_projected_effect-requires-clause-inside
collect_projected_effect-requires-clause-inside c = effect_inside c.args.book.now c.args.pairs.now c.requires.sound_book _ _ (sym c.in-Some.ensures.defined)

pub returns : goal.returns
returns c =
    let fits : mag c.args.w.item.projected_effect < 2 ^ 31 = search rules in
    record { defined = λ l. c.collect_projected_effect.ensures.defined (fit_of c.args.fit.now c.args.pairs.now) c.requires.owner c.get_resistance-resistance.ensures.defined (ap (get_dogma_effect (book_of c.args.book.now c.args.pairs.now)) (sym (to_z-of_z w32 c.args.w.item.projected_effect (record { sfits = fits }))) ∙ sym c.in-Some.ensures.defined) l }
