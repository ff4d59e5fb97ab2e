-- `standing::char_of` meets its contract.
use Rattle.info.proofs.standing.char_of.Goals as goal
use native.Mathlib.Omega.{arith}
use Rattle.rules.specs.Item.{no_item}
use Rattle.rules.specs.Sheet.{fit_of}
use Rattle.info.proofs.Elements.{objects_length}
use Rattle.rules.proofs.Verdicts.{objects_good_lem}
use Rattle.info.proofs.Sheets.{char_inside, char_late, char_first, char_second}

pub object-next-requires : goal.object-next-requires
object-next-requires c = record {
  held_fit = c.requires.sound_fit.held;
  inside = omega (arith, char_inside _ (objects_good_lem _ c.requires.sound_fit.good), char_late _ (objects_good_lem _ c.requires.sound_fit.good), objects_length c.args.fit.now c.args.pairs.now);
}

pub returns-then-next-eq-CHAR : goal.returns-then-next-eq-CHAR
returns-then-next-eq-CHAR c = record { defined = char_first (fit_of c.args.fit.now c.args.pairs.now) (c.object-next.ensures.record_i no_item) c.if-next-eq-CHAR.true }

pub returns : goal.returns
returns c = record { defined = char_second (fit_of c.args.fit.now c.args.pairs.now) (c.object-next.ensures.record_i no_item) c.if-next-eq-CHAR.false }
