-- `numbers::size` meets its contract: the library's word is ours.
use Rattle.std.proofs.Common.{◌≡◌, refl, ◌∙◌, false}
use Rattle.std.specs.Float.{nan, inf, fin, float_with_sign}
use Rattle.std.specs.Prelude.{Float}
use Rattle.laws.specs.Floats.{size_f}
use Rattle.numbers.proofs.size.Goals as goal

same : (x : Float) → float_with_sign false x ≡ size_f x
unfolding float_with_sign
same nan = refl
same (inf s) = refl
same (fin s m e) = refl

pub returns : goal.returns
returns c = record { defined = c.abs.ensures.value ∙ same c.args.x }
