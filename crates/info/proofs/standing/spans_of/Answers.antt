-- `standing::spans_of` meets its contract.
use Rattle.info.proofs.standing.spans_of.Goals as goal
use native.Mathlib.Omega.{arith}
use mathlib.Core.Path.{sym, ap, ◌∙◌}
use Prim.Native.Nat.{ℕ, ◌+◌}
use Rattle.rules.specs.Sheet.{fit_of}
use Rattle.info.proofs.Elements.{objects_length}
use Rattle.rules.proofs.Verdicts.{objects_good_lem}
use Rattle.info.proofs.Sheets.{char_inside, numbered, sized, stands}

pub first_skill-end-requires : goal.first_skill-end-requires
first_skill-end-requires c = record {
  held_fit = c.requires.sound_fit.held;
  a_number = omega (arith, c.char_of-character.ensures.defined, char_inside _ (objects_good_lem _ c.requires.sound_fit.good), objects_length c.args.fit.now c.args.pairs.now);
}

pub returns : goal.returns
returns c = record { standing = stands (fit_of c.args.fit.now c.args.pairs.now) (objects_good_lem _ c.requires.sound_fit.good) _ (ap (λ (n : ℕ). n + 1) c.char_of-character.ensures.defined) c.first_skill-end.ensures.defined c.char_of-character.ensures.defined (c.count_of-objects.ensures.defined ∙ sym (objects_length c.args.fit.now c.args.pairs.now)) (numbered c.args.fit.now c.args.pairs.now) (sized c.args.fit.now c.args.pairs.now c.requires.sound_fit.good) }
