-- `lines::first_other` meets its contract. Assumes nothing.
use Rattle.given.proofs.lines.first_other.Goals as goal
use native.Mathlib.Omega.{arith}
use mathlib.Core.Path.{refl, ap}
use mathlib.Core.Bool.{not}
use Rattle.given.proofs.Lining.{line-missing, keys_on, keys_differ, line-more, keys_done}

pub loop-i-init : goal.loop-i-init
loop-i-init c = (omega arith, λ rs H. refl)

pub returns-then-listing-i : goal.returns-then-listing-i
returns-then-listing-i c = record { defined = λ rs H. line-missing H c.args.listing.now c.loop-i.i (omega (arith, c.loop-i-test.true, H.long)) c.if-listing-i.true (c.loop-i.invariant.1 rs H) }

pub returns-then-not-has_key : goal.returns-then-not-has_key
returns-then-not-has_key c = record { defined = λ rs H. keys_differ H c.args.listing.now c.loop-i.i (omega (arith, c.loop-i-test.true, H.long)) (omega (arith, c.if-listing-i.false)) _ c.has_key.ensures.defined c.has_key.ensures.and_back (c.loop-i.invariant.1 rs H) (ap not c.if-not-has_key.true) }

pub loop-i-preserved : goal.loop-i-preserved
loop-i-preserved c = (omega (arith, c.loop-i-test.true), λ rs H. keys_on H c.args.listing.now c.loop-i.i (omega (arith, c.loop-i-test.true, H.long)) (omega (arith, c.if-listing-i.false)) _ c.has_key.ensures.defined c.has_key.ensures.and_back (c.loop-i.invariant.1 rs H) (ap not c.if-not-has_key.false))

pub returns-then-rows-listing : goal.returns-then-rows-listing
returns-then-rows-listing c = record { defined = λ rs H. line-more H c.args.listing.now c.loop-i.i (omega (arith, c.loop-i-test.false, H.long)) (omega (arith, c.loop-i.invariant.0, H.long)) (c.loop-i.invariant.1 rs H) _ H.long c.if-rows-listing.true }

pub returns : goal.returns
returns c = record { defined = λ rs H. keys_done H c.args.listing.now c.loop-i.i (omega (arith, c.loop-i-test.false, H.long)) (omega (arith, c.loop-i.invariant.0, H.long)) (c.loop-i.invariant.1 rs H) _ H.long (omega (arith, c.if-rows-listing.false)) }
