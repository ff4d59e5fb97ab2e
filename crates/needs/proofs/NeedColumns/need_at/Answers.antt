-- `needs::NeedColumns::need_at` meets its contract.
use Rattle.needs.proofs.NeedColumns.need_at.Goals as goal
use Prim.Native.Nat.{◌/◌, ◌%◌, ◌+◌}
use native.Mathlib.Omega.{arith}
use Rattle.needs.proofs.Showing.{source_few, entry_shown, from_source, from_resistance, from-limit}

pub returns-then-count-k : goal.returns-then-count-k
returns-then-count-k c = record { defined = λ h. from-limit h.told c.args.row c.requires.within.0 c.args.slot (c.args.slot % 2) (omega (arith, c.requires.within.1, c.if-count-k.true, c.index-count.ensures.defined.0)) (c.held_need.ensures.defined h) }

pub source_need-requires : goal.source_need-requires
source_need-requires c = record { an_object = source_few (entry_shown c.requires.holding.told c.args.row c.requires.within.0 (c.args.slot / 2) (omega (arith, c.if-count-k.false, c.index-count.ensures.defined.0)) (c.index.result + (c.args.slot / 2)) (omega (arith, c.index.ensures.defined.0))) }

pub returns-then-odd-eq0 : goal.returns-then-odd-eq0
returns-then-odd-eq0 c = record { defined = λ h. from_source h.told c.args.row c.requires.within.0 (c.args.slot / 2) (omega (arith, c.if-count-k.false, c.index-count.ensures.defined.0)) c.args.slot (omega (arith, c.if-odd-eq0.true)) (c.source_need.ensures.defined h.world.rows _ h.told.held h.told.stretched (entry_shown h.told c.args.row c.requires.within.0 (c.args.slot / 2) (omega (arith, c.if-count-k.false, c.index-count.ensures.defined.0)) (c.index.result + (c.args.slot / 2)) (omega (arith, c.index.ensures.defined.0)))) }

pub returns : goal.returns
returns c = record { defined = λ h. from_resistance h.told c.args.row c.requires.within.0 (c.args.slot / 2) (omega (arith, c.if-count-k.false, c.index-count.ensures.defined.0)) c.args.slot (omega (arith, c.if-odd-eq0.false)) (c.resistance_need.ensures.defined h.world.rows _ h.told.held h.told.stretched (entry_shown h.told c.args.row c.requires.within.0 (c.args.slot / 2) (omega (arith, c.if-count-k.false, c.index-count.ensures.defined.0)) (c.index.result + (c.args.slot / 2)) (omega (arith, c.index.ensures.defined.0)))) }
