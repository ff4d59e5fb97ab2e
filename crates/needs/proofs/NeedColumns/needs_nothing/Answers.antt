-- `needs::NeedColumns::needs_nothing` meets its contract.
use Rattle.needs.proofs.NeedColumns.needs_nothing.Goals as goal
use native.Mathlib.Omega.{arith}
use mathlib.Core.Path.{refl, sym, ◌∙◌}
use Rattle.needs.proofs.Showing.{row_count, no_limits, slot_limit}

pub returns : goal.returns
returns c = record { nothing = λ h e s. let bare = c.is_bare.ensures.bare e in no_limits h.told c.args.row c.requires.within refl (bare.free h.world.book h.told.limited) s ∙ sym (slot_limit h.world c.args.row s s (omega (arith, row_count h.told c.args.row c.requires.within, bare.empty))) }
