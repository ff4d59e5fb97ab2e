-- `numbers::power` meets its contract: what is left of the digits decides.
use Rattle.numbers.proofs.power.Goals as goal
use Rattle.std.proofs.Common.{◌∙◌}
use lib.Ieee
use Rattle.numbers.proofs.Powers.{start, done, no_product, no_square, again}

pub loop-digits-init : goal.loop-digits-init
unfolding Ieee.of_bits
loop-digits-init c = start _ _ c.ranges.n.fits

pub returns-in_err-r : goal.returns-in_err-r
unfolding Ieee.of_bits
returns-in_err-r c = record { defined = c.from_residual.ensures ∙ no_product c.loop-digits.invariant c.loop-digits-test.true c.product_if.ensures.defined c.in_err-r.was }

pub returns-in_err-base : goal.returns-in_err-base
unfolding Ieee.of_bits
returns-in_err-base c = record { defined = c.from_residual-in_err-base.ensures ∙ no_square c.loop-digits.invariant c.loop-digits-test.true c.product_if.ensures.defined c.in_ok-r.was c.product_if-in-loop-digits.ensures.defined c.in_err-base.was }

pub loop-digits-preserved : goal.loop-digits-preserved
unfolding Ieee.of_bits
loop-digits-preserved c = again c.loop-digits.invariant c.loop-digits-test.true c.product_if.ensures.defined c.in_ok-r.was c.product_if-in-loop-digits.ensures.defined c.in_ok-base.was

pub returns : goal.returns
unfolding Ieee.of_bits
returns c = record { defined = done c.loop-digits.invariant c.loop-digits-test.false }
