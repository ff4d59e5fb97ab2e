-- `fit::fit_bad` meets its contract. Assumes nothing.
use Rattle.tables.specs.At.{fit_in}
use Rattle.lent.proofs.fit.fit_bad.Goals as goal
use Rattle.shape.proofs.Scans.{passed, failed}
use mathlib.Core.Path.{sym, ◌∙◌}
use mathlib.Core.List.{[]}
use borrow.Author.Tests.{eqb-true}
use Rattle.laws.proofs.Bools.{and_left}
use Rattle.rules.specs.Shape.{fit_bad}
use Rattle.lent.proofs.Verdicts.{objects_alone_lem, asks_alone_lem, buffs_finite, bases_unfinite, bases_left}

pub objects_good-requires : goal.objects_good-requires
objects_good-requires c = record { few = c.requires.few }

pub returns-then-not-objects_good : goal.returns-then-not-objects_good
unfolding fit_bad
returns-then-not-objects_good c = record { defined = rw (failed (c.objects_good.ensures.defined ∙ objects_alone_lem (fit_in c.args.fit [])) c.if-not-objects_good.true) }

pub returns-then-not-all_finite : goal.returns-then-not-all_finite
unfolding fit_bad
returns-then-not-all_finite c = record { defined = rw (passed (c.objects_good.ensures.defined ∙ objects_alone_lem (fit_in c.args.fit [])) c.if-not-objects_good.false, bases_unfinite (fit_in c.args.fit []) c.requires.alike c.all_finite.ensures.defined c.if-not-all_finite.true) }

pub bases_ascend-requires : goal.bases_ascend-requires
bases_ascend-requires c = record {
  few = c.requires.few;
  beside = eqb-true _ _ (and_left _ _ c.requires.alike);
  good_objects = passed c.objects_good.ensures.defined c.if-not-objects_good.false;
}

pub returns-then-not-bases_ascend : goal.returns-then-not-bases_ascend
unfolding fit_bad
returns-then-not-bases_ascend c = record { defined = rw (passed (c.objects_good.ensures.defined ∙ objects_alone_lem (fit_in c.args.fit [])) c.if-not-objects_good.false, bases_left (fit_in c.args.fit []) c.requires.alike c.all_finite.ensures.defined c.bases_ascend.ensures.defined c.if-not-all_finite.false ∙ c.if-not-bases_ascend.true) }

pub returns-then-not-all_finite-2 : goal.returns-then-not-all_finite-2
unfolding fit_bad
returns-then-not-all_finite-2 c = record { defined = rw (passed (c.objects_good.ensures.defined ∙ objects_alone_lem (fit_in c.args.fit [])) c.if-not-objects_good.false, bases_left (fit_in c.args.fit []) c.requires.alike c.all_finite.ensures.defined c.bases_ascend.ensures.defined c.if-not-all_finite.false ∙ c.if-not-bases_ascend.false, failed (c.all_finite-2.ensures.defined ∙ sym (buffs_finite (fit_in c.args.fit []) c.requires.alike)) c.if-not-all_finite-2.true) }

pub returns-then-not-asks_good : goal.returns-then-not-asks_good
unfolding fit_bad
returns-then-not-asks_good c = record { defined = rw (passed (c.objects_good.ensures.defined ∙ objects_alone_lem (fit_in c.args.fit [])) c.if-not-objects_good.false, bases_left (fit_in c.args.fit []) c.requires.alike c.all_finite.ensures.defined c.bases_ascend.ensures.defined c.if-not-all_finite.false ∙ c.if-not-bases_ascend.false, passed (c.all_finite-2.ensures.defined ∙ sym (buffs_finite (fit_in c.args.fit []) c.requires.alike)) c.if-not-all_finite-2.false, failed (c.asks_good.ensures.defined ∙ asks_alone_lem (fit_in c.args.fit [])) c.if-not-asks_good.true) }

pub returns : goal.returns
unfolding fit_bad
returns c = record { defined = rw (passed (c.objects_good.ensures.defined ∙ objects_alone_lem (fit_in c.args.fit [])) c.if-not-objects_good.false, bases_left (fit_in c.args.fit []) c.requires.alike c.all_finite.ensures.defined c.bases_ascend.ensures.defined c.if-not-all_finite.false ∙ c.if-not-bases_ascend.false, passed (c.all_finite-2.ensures.defined ∙ sym (buffs_finite (fit_in c.args.fit []) c.requires.alike)) c.if-not-all_finite-2.false, passed (c.asks_good.ensures.defined ∙ asks_alone_lem (fit_in c.args.fit [])) c.if-not-asks_good.false) }
