-- `stretches::find` meets its contract: what stands at the bound decides.
use Rattle.reading.proofs.stretches.find.Goals as goal
use native.Mathlib.Omega.{arith}
use mathlib.Core.Path.{refl}
use borrow.Author.Rules.{sfits_of}
use Rattle.reading.proofs.Narrows.{taken, missing_beyond, missing_none, found_here, missing_here, missing_past}

pub returns-then-end-rows : goal.returns-then-end-rows
returns-then-end-rows c = record { defined = missing_beyond c.args.id (taken c.requires.an_object c.index.ensures.defined.0 refl c.index-end.ensures.defined.0) c.if-end-rows.true }

pub returns-then-end-first : goal.returns-then-end-first
returns-then-end-first c = record { defined = missing_none c.args.id (taken c.requires.an_object c.index.ensures.defined.0 c.index-first.ensures.defined.0 c.index-end.ensures.defined.0) c.if-end-first.true }

pub returns-then-own-id : goal.returns-then-own-id
returns-then-own-id c = record { defined = found_here c.args.id (taken c.requires.an_object c.index.ensures.defined.0 c.index-first.ensures.defined.0 c.index-end.ensures.defined.0) c.ranges.id (omega (arith, c.if-end-rows.false)) (omega (arith, c.if-end-first.false)) c.lower.ensures.defined c.signed-own.result (sfits_of c.signed-own.type_inv) c.signed-own.ensures.defined c.if-at-end.true c.if-own-id.true }

pub returns-then-at-end : goal.returns-then-at-end
returns-then-at-end c = record { defined = missing_here c.args.id (taken c.requires.an_object c.index.ensures.defined.0 c.index-first.ensures.defined.0 c.index-end.ensures.defined.0) c.ranges.id (omega (arith, c.if-end-rows.false)) (omega (arith, c.if-end-first.false)) c.lower.ensures.defined c.signed-own.result (sfits_of c.signed-own.type_inv) c.signed-own.ensures.defined c.if-at-end.true c.if-own-id.false }

pub returns : goal.returns
returns c = record { defined = missing_past c.args.id (taken c.requires.an_object c.index.ensures.defined.0 c.index-first.ensures.defined.0 c.index-end.ensures.defined.0) c.ranges.id (omega (arith, c.if-end-rows.false)) (omega (arith, c.if-end-first.false)) c.lower.ensures.defined c.if-at-end.false }
