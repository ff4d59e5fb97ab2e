-- `fit::all_finite` meets its contract. Assumes nothing.
use Rattle.std.proofs.Common.{◌≡◌, true, false, rules}
use Rattle.std.proofs.lemmas.Iterator.{cases_from_all, YieldsList-from_slice}
use Rattle.laws.specs.Floats.{finite, zero_f}
use Rattle.lent.proofs.Alls.{every_decided}
use Rattle.lent.proofs.fit.all_finite.Goals as goal

pub returns : goal.returns
returns c =
    record {
      defined =
          every_decided finite zero_f c.args.values.now c.all.result
          (cases_from_all _ _ _ (λ x. finite x ≡ true) (λ x. finite x ≡ false) c.all.ensures.ran (YieldsList-from_slice c.args.values.now cc) (λ x q k. search rules) (λ x q k. search rules));
    }
