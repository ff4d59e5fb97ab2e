-- `turns::projected_end` meets its contract.
use Rattle.std.proofs.Common.{◌≡◌}
use Rattle.reading.proofs.turns.projected_end.Goals as goal
use native.Mathlib.Omega.{arith}
use Prim.Native.Nat.{ℕ, ◌+◌}
use mathlib.Core.Path.{sym, ap, ◌∙◌}
use Rattle.rules.specs.Item.{no_item}
use Rattle.info.proofs.Elements.{objects_length}
use Rattle.rules.proofs.Verdicts.{objects_good_lem}
use Rattle.info.proofs.Sheets.{char_inside}
use Rattle.reading.proofs.Passing.{passing_none, passing_more, passing_other, passing_all}

pub loop-i-init : goal.loop-i-init
loop-i-init c = passing_none (c.count_of-objects.ensures.defined ∙ sym (objects_length _ _)) (ap (λ (n : ℕ). n + 1) c.requires.the_char) (char_inside _ (objects_good_lem _ c.requires.sound.good))

pub object-o-requires : goal.object-o-requires
object-o-requires c = record {
  held_fit = c.requires.sound.held;
  inside = omega (arith, c.loop-i-test.true, c.count_of-objects.ensures.defined);
}

pub returns-then-o-ne-PROJECTED : goal.returns-then-o-ne-PROJECTED
returns-then-o-ne-PROJECTED c = record { defined = passing_other c.loop-i.invariant c.loop-i-test.true (c.object-o.ensures.record_i no_item) (objects_good_lem _ c.requires.sound.good) c.if-o-ne-PROJECTED.true }

pub loop-i-preserved : goal.loop-i-preserved
loop-i-preserved c = passing_more c.loop-i.invariant c.loop-i-test.true (c.object-o.ensures.record_i no_item) c.if-o-ne-PROJECTED.false

pub returns : goal.returns
returns c = let e : c.loop-i.i ≡ c.count_of-objects.result = omega (arith, c.loop-i-test.false, c.loop-i.invariant.inside) in record { defined = sym e ∙ passing_all c.loop-i.invariant (objects_good_lem _ c.requires.sound.good) c.loop-i-test.false }
