-- `build::mark_keys` meets its contract. The measure is how many keys are left.
use Rattle.maps.proofs.build.mark_keys.Goals as goal
use Rattle.maps.proofs.build.mark_keys.Goals.{then-key-ne-NO_SKILL+in_ok-n, else-key-ne-NO_SKILL}
use native.Mathlib.Omega.{arith}
use mathlib.Core.Path.{refl}
use Rattle.maps.proofs.Building.{keyed_none, keyed_marked, keyed_short, keyed_passed, keyed_end, keyed_asks}

pub loop-key-init : goal.loop-key-init
loop-key-init c = (omega arith, (refl, (refl, λ l h ks M q. keyed_none c.args.width l h ks c.args.keys c.args.i c.args.maps c.args.words.now c.args.heads.now M q)))

pub mark-requires : goal.mark-requires
mark-requires c = record {
  counted = (keyed_asks c.args.width c.requires.counted.held.location c.requires.counted.held.has c.requires.counted.held.keys c.args.keys c.args.i c.loop-key.key-index c.loop-key.n c.loop-key.words c.loop-key.heads (c.loop-key.invariant.1.1.1 c.requires.counted.held.location c.requires.counted.held.has c.requires.counted.held.keys c.requires.counted.held.mapped c.requires.counted.count)).0;
  small = (c.requires.keys_small.1 c.loop-key.key-index c.loop-key-test.true, omega (arith, c.requires.small.0, c.loop-key-test.true, c.requires.counted.count, (keyed_asks c.args.width c.requires.counted.held.location c.requires.counted.held.has c.requires.counted.held.keys c.args.keys c.args.i c.loop-key.key-index c.loop-key.n c.loop-key.words c.loop-key.heads (c.loop-key.invariant.1.1.1 c.requires.counted.held.location c.requires.counted.held.has c.requires.counted.held.keys c.requires.counted.held.mapped c.requires.counted.count)).1), c.requires.small.1);
}

pub returns-in_err-n : goal.returns-in_err-n
returns-in_err-n c = rw c.from_residual.ensures (record { marked = λ l h ks M q. keyed_short c.args.width l h ks c.args.keys c.args.i c.loop-key.key-index c.loop-key.n c.loop-key-test.true c.requires.keys_small.0 c.if-key-ne-NO_SKILL.true _ _ (c.mark.ensures.marked _ _ _ (c.loop-key.invariant.1.1.1 l h ks M q).1 (c.loop-key.invariant.1.1.1 l h ks M q).0) c.in_err-n.was })

pub loop-key-preserved : goal.loop-key-preserved
loop-key-preserved c = elim c.if-key-ne-NO_SKILL.branch [
  | then-key-ne-NO_SKILL+in_ok-n w ↦ rw (w.n-is, w.words-is, w.heads-is) ((omega (arith, c.loop-key-test.true), (omega (arith, w.mark.auto, c.loop-key.invariant.1.0), (omega (arith, w.mark.auto, c.loop-key.invariant.1.1.0), λ l h ks M q. keyed_marked c.args.width l h ks c.args.keys c.args.i c.loop-key.key-index c.loop-key.n c.loop-key-test.true c.requires.keys_small.0 w.if-key-ne-NO_SKILL.true _ _ (w.mark.ensures.marked _ _ _ (c.loop-key.invariant.1.1.1 l h ks M q).1 (c.loop-key.invariant.1.1.1 l h ks M q).0) w.in_ok-n.was))))
  | else-key-ne-NO_SKILL w ↦ rw (w.n-is, w.words-is, w.heads-is) ((omega (arith, c.loop-key-test.true), (c.loop-key.invariant.1.0, (c.loop-key.invariant.1.1.0, λ l h ks M q. keyed_passed c.args.width l h ks c.args.keys c.args.i c.loop-key.key-index c.loop-key.n c.loop-key-test.true c.requires.keys_small.0 w.if-key-ne-NO_SKILL.false c.loop-key.words c.loop-key.heads (c.loop-key.invariant.1.1.1 l h ks M q)))))
]

pub returns : goal.returns
returns c = record { marked = λ l h ks M q. keyed_end c.args.width l h ks c.args.keys c.args.i c.loop-key.key-index c.loop-key.n c.loop-key.words c.loop-key.heads c.requires.keys_small.0 c.loop-key.invariant.0 c.loop-key-test.false (c.loop-key.invariant.1.1.1 l h ks M q) }
