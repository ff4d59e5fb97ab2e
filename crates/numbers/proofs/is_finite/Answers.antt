-- `numbers::is_finite` meets its contract: the library's word is ours.
use Rattle.std.proofs.Common.{◌≡◌, refl, ◌∙◌}
use Rattle.std.specs.Float.{nan, inf, fin, float_is_finite}
use Rattle.std.specs.Prelude.{Float}
use Rattle.laws.specs.Floats.{finite}
use Rattle.numbers.proofs.is_finite.Goals as goal

same : (x : Float) → float_is_finite x ≡ finite x
unfolding float_is_finite finite
same nan = refl
same (inf s) = refl
same (fin s m e) = refl

pub returns : goal.returns
returns c = record { defined = c.is_finite.ensures.value ∙ same c.args.x }
