-- `needs::NeedColumns::held_need` meets its contract.
use Rattle.needs.proofs.NeedColumns.held_need.Goals as goal
use native.Mathlib.Omega.{arith}
use Prim.Native.Nat.{◌<◌, ◌^◌}
use lib.Signed.{mag}
use mir.Syntax.{w32}
use mir.Facts.{to_z-of_z}
use borrow.Author.Rules.{sfits_of}
use Rattle.std.proofs.Common.{rules}
use Rattle.needs.proofs.Showing.{passed, no_limits, least_slot, most_slot}

pub returns-then-not-is_limited : goal.returns-then-not-is_limited
returns-then-not-is_limited c = record { defined = λ h. no_limits h.told c.args.row c.requires.within.0 (passed c.signed-id.type_inv c.signed-id.ensures.defined) (c.is_limited.ensures.unlimited h.world.book h.told.limited c.if-not-is_limited.true) c.args.odd }

pub returns-then-odd-eq0 : goal.returns-then-odd-eq0
returns-then-odd-eq0 c = let low : mag c.get_dogma_attribute-record.result.min_attribute_id < 2 ^ 31 = search rules in record { defined = λ h. least_slot h.told c.args.row c.requires.within.0 (passed c.signed-id.type_inv c.signed-id.ensures.defined) c.get_dogma_attribute-record.ensures.defined (rw (to_z-of_z {w = w32} (sfits_of low)) at (c.limit_need.ensures.defined h.world.rows h.told.held h.told.stretched)) c.args.odd c.if-odd-eq0.true }

pub returns : goal.returns
returns c = let high : mag c.get_dogma_attribute-record.result.max_attribute_id < 2 ^ 31 = search rules in record { defined = λ h. most_slot h.told c.args.row c.requires.within.0 (passed c.signed-id.type_inv c.signed-id.ensures.defined) c.get_dogma_attribute-record.ensures.defined (rw (to_z-of_z {w = w32} (sfits_of high)) at (c.limit_need-2.ensures.defined h.world.rows h.told.held h.told.stretched)) c.args.odd (omega (arith, c.if-odd-eq0.false, c.requires.within.1)) }
