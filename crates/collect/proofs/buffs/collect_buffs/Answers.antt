-- `buffs::collect_buffs` meets its contract. What is left of the buffs decides. Assumes nothing.
use Rattle.collect.proofs.buffs.collect_buffs.Goals as goal
use native.Mathlib.Omega.{arith}
use mathlib.Core.Path.{refl, sym, ◌∙◌}
use Rattle.rules.specs.Sheet.{book_of, fit_of}
use Rattle.rules.specs.Collect.{buff_moves}
use Rattle.info.proofs.Elements.{buffs_length}
use Rattle.modifier.specs.Ran.{stop}
use Rattle.modifier.proofs.Tests.{given_on}
use Rattle.modifier.proofs.Loops.{next, refused_on, at_end_lem, all_of, lent_kept}

pub collect_buff-requires : goal.collect_buff-requires
collect_buff-requires c = record {
  lent = lent_kept c.requires.lent c.loop-i.invariant.1.0 c.loop-i.invariant.1.1;
  sound_book = c.requires.sound_book;
}

pub loop-i-preserved : goal.loop-i-preserved
loop-i-preserved c = (next c.loop-i.invariant.0 (λ x. buff_moves (book_of c.args.book.now c.args.pairs.now) c.projected_buff-b.result) _ c.loop-i-test.true (omega (arith, buffs_length c.args.fit.now c.args.pairs.now, c.count_of-i-end.ensures.defined)) c.projected_buff-b.ensures.record_i (λ x. refl) (λ x. c.in_ok-used.ensures.defined x), (omega (arith, c.collect_buff.auto, c.loop-i.invariant.1), omega (arith, c.collect_buff.auto, c.loop-i.invariant.1)))

pub returns-in_err-used : goal.returns-in_err-used
returns-in_err-used c = record {
  defined = λ l. rw (given_on _ c.from_residual.ensures.1)
      (refused_on (next c.loop-i.invariant.0 (λ x. buff_moves (book_of c.args.book.now c.args.pairs.now) c.projected_buff-b.result) (λ x. stop c.in_err-used.field-0.0) c.loop-i-test.true (omega (arith, buffs_length c.args.fit.now c.args.pairs.now, c.count_of-i-end.ensures.defined)) c.projected_buff-b.ensures.record_i (λ x. refl) (λ x. c.in_err-used.ensures.defined x)) l _ refl
      ∙ all_of _ (buff_moves (book_of c.args.book.now c.args.pairs.now)) (fit_of c.args.fit.now c.args.pairs.now).buffs _ (c.count_of-i-end.ensures.defined ∙ sym (buffs_length c.args.fit.now c.args.pairs.now)));
}

pub returns : goal.returns
returns c = record { defined = λ l. at_end_lem c.loop-i.invariant.0 l c.loop-i-test.false ∙ all_of _ (buff_moves (book_of c.args.book.now c.args.pairs.now)) (fit_of c.args.fit.now c.args.pairs.now).buffs _ (c.count_of-i-end.ensures.defined ∙ sym (buffs_length c.args.fit.now c.args.pairs.now)) }
