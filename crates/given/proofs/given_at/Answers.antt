-- `given::given_at` meets its contract. Assumes nothing.
use Rattle.given.proofs.given_at.Goals as goal
use mathlib.Core.Path.{refl}
use Rattle.given.proofs.Judgement.{nan_bits, ready, is-given, is_kept, base_given}

pub returns-then-is_bare : goal.returns-then-is_bare
returns-then-is_bare c = record {
  defined = λ h. base_given h c.args.row c.requires.within (c.is_bare.ensures.bare c.if-is_bare.true);
  kept = refl;
}

pub calculate_value-got-requires-clause-holding : goal.calculate_value-got-requires-clause-holding
calculate_value-got-requires-clause-holding c = ready c.requires.judged c.args.row c.requires.within _ _ _ nan_bits

pub returns : goal.returns
returns c = record {
  defined = λ h. is-given h c.args.row c.requires.within _ _ _ nan_bits _ _ _ c.calculate_value-got.result (c.calculate_value-got.ensures.defined (ready h c.args.row c.requires.within _ _ _ nan_bits));
  kept = is_kept c.requires.judged c.args.row c.requires.within _ _ _ nan_bits _ _ _ c.calculate_value-got.result (c.calculate_value-got.ensures.defined (ready c.requires.judged c.args.row c.requires.within _ _ _ nan_bits));
}
