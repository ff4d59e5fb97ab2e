-- `add_object` meets its contract. Assumes nothing.
use Rattle.tallies.proofs.add_object.Goals as goal
use native.Mathlib.Omega.{arith}
use Rattle.std.proofs.Common.{rules, SFits}
use Rattle.std.specs.Int.{w32}
use Rattle.tallies.proofs.Blocks.{added_small, counted-by, key_told, no_price, no_cap, no_forbidden, key_below_lem}

pub add-requires : goal.add-requires
add-requires c =
    let t : SFits w32 c.args.o.type_id = search rules in
    record {
      keyed = c.requires.keyed;
      below = key_below_lem c.requires.spanned c.args.o.type_id t 0 (key_told 0 c.args.o.type_id t c.line_key-price.ensures.defined) (omega arith);
      absent = no_price c.requires.spanned c.args.o.type_id t (key_told 0 c.args.o.type_id t c.line_key-price.ensures.defined);
      small = (λ j l. omega (arith, c.requires.small j l));
      few = c.requires.few;
    }

pub add-requires-2 : goal.add-requires-2
add-requires-2 c =
    let g : SFits w32 c.args.o.group_id = search rules in
    record {
      keyed = c.requires.keyed;
      below = key_below_lem c.requires.spanned c.args.o.group_id g 1 (key_told 1 c.args.o.group_id g c.line_key-cap.ensures.defined) (omega arith);
      absent = no_cap c.requires.spanned c.args.o.group_id g (key_told 1 c.args.o.group_id g c.line_key-cap.ensures.defined);
      small = (λ j l. omega (arith, c.requires.small j l, c.requires.few, added_small c.add.ensures.added c.requires.long j l));
      few = c.requires.few;
    }

pub add-requires-3 : goal.add-requires-3
add-requires-3 c =
    let g : SFits w32 c.args.o.group_id = search rules in
    record {
      keyed = c.requires.keyed;
      below = key_below_lem c.requires.spanned c.args.o.group_id g 2 (key_told 2 c.args.o.group_id g c.line_key-forbidden.ensures.defined) (omega arith);
      absent = no_forbidden c.requires.spanned c.args.o.group_id g (key_told 2 c.args.o.group_id g c.line_key-forbidden.ensures.defined);
      small = (λ j l. omega (arith, c.requires.small j l, c.requires.few, added_small c.add.ensures.added c.requires.long j l, added_small c.add-2.ensures.added (c.add.ensures.added.long c.requires.long) j l));
      few = c.requires.few;
    }

pub returns : goal.returns
returns c =
    let t : SFits w32 c.args.o.type_id = search rules in
    let g : SFits w32 c.args.o.group_id = search rules in
    record { counted = counted-by c.args.o t g c.args.more (key_told 0 c.args.o.type_id t c.line_key-price.ensures.defined) (key_told 1 c.args.o.group_id g c.line_key-cap.ensures.defined) (key_told 2 c.args.o.group_id g c.line_key-forbidden.ensures.defined) c.add.ensures.added c.add-2.ensures.added c.add-3.ensures.added }
