-- `group_key` meets its contract.
use Rattle.maps.proofs.group_key.Goals as goal
use mathlib.Core.Path.{refl}
use Rattle.maps.proofs.Rows.{small_key}

pub returns : goal.returns
returns c = record {
  defined = refl;
  small = small_key c.args.group c.ranges.group.fits;
}
