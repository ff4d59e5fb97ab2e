-- `in_block` meets its contract. Assumes nothing.
use Rattle.std.proofs.Common.{refl, map, subst, sym, List}
use Rattle.rules.specs.declared.Item.{Item}
use Rattle.tallies.specs.Tallies.{line_of}
use Rattle.tallies.specs.Blocks.{Told}
use Rattle.tournament.proofs.in_block.Goals as goal

pub tallied-n-requires : goal.tallied-n-requires
tallied-n-requires g c = record {
  ordered = c.requires.0;
  inside = c.requires.1.0;
  held_book = c.requires.1.1.0;
  held_fit = c.requires.1.1.1.0;
  none_yet = refl;
}

pub walk-requires : goal.walk-requires
walk-requires g c = (
  c.requires.0,
  (
    subst (λ (os : List Item). Told (map line_of c.args.lines.now) os c.args.from.next c.tallied-n.result c.tallied-n.new.sums) (sym c.requires.1.1.1.1.0) c.tallied-n.ensures.told,
    c.requires.1.1.1.1.1,
  ),
)
