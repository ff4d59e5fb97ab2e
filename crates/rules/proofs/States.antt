-- The lowest state that would do, held to the words of `item.rs`: it does, nothing lower does, and yes or no is as the Rust has it.
use Prim.Native.Nat.{ℕ, ◌<◌}
use mathlib.Core.Path.{◌≡◌, refl}
use mathlib.Core.Bool.{Bool, true, false}
use mathlib.Core.Option.{Option, none, some}
use borrow.Author.Tests.{lt-leb}
use lib.Dec.{leb}
use Rattle.rules.specs.Codes.{state_code}
use Rattle.rules.specs.Item.{required_state, lowest_state, runs_at}
use Rattle.rules.specs.declared.EffectCategory.{EffectCategory}
use Rattle.rules.specs.declared.EffectCategory.TheVariants as category
use Rattle.rules.specs.declared.ItemState.{ItemState}
use Rattle.rules.specs.declared.ItemState.TheVariants as state

-- `is_active`: "self >= ItemState::Active"
abbrev pub is_active : ItemState → Bool
is_active s = leb (state_code state.Active) (state_code s)

-- `runs_at`: "state >= required"; what "asks for no state" "runs the moment the item is active"
abbrev pub runs_by : Option ItemState → ItemState → Bool
runs_by (some required) s = leb (state_code required) (state_code s)
runs_by none s = is_active s

abbrev pub runs_by_the_rust : EffectCategory → ItemState → Bool
runs_by_the_rust c s = runs_by (required_state c) s

pub as_the_rust : (c : EffectCategory) (s : ItemState) → runs_at c (state_code s) ≡ runs_by_the_rust c s
as_the_rust category.Passive s = refl
as_the_rust category.Online s = refl
as_the_rust category.Active s = refl
as_the_rust category.Overload s = refl
as_the_rust category.Target s = refl
as_the_rust category.Area s = refl
as_the_rust category.Dungeon s = refl
as_the_rust category.System s = refl

pub lowest_does : (c : EffectCategory) → runs_by_the_rust c (lowest_state c) ≡ true
lowest_does category.Passive = refl
lowest_does category.Online = refl
lowest_does category.Active = refl
lowest_does category.Overload = refl
lowest_does category.Target = refl
lowest_does category.Area = refl
lowest_does category.Dungeon = refl
lowest_does category.System = refl

pub nothing_lower : (c : EffectCategory) (s : ItemState) → state_code s < state_code (lowest_state c) → runs_by_the_rust c s ≡ false
nothing_lower category.Passive s h = lt-leb 0 (state_code s) h
nothing_lower category.Online s h = lt-leb 1 (state_code s) h
nothing_lower category.Active s h = lt-leb 2 (state_code s) h
nothing_lower category.Overload s h = lt-leb 3 (state_code s) h
nothing_lower category.Target s h = lt-leb 2 (state_code s) h
nothing_lower category.Area s h = lt-leb 2 (state_code s) h
nothing_lower category.Dungeon s h = lt-leb 2 (state_code s) h
nothing_lower category.System s h = lt-leb 2 (state_code s) h
