-- States and max states after collection, which alone changes them. `Item::collect_effects` and `PassTwo::pass`.
use Rattle.std.specs.Prelude.{ℕ, max, min, Bool, ◌&&◌, cond, List, [], ◌∷◌, map}
use Rattle.std.proofs.Math.Option.{Option, none, some}
use Rattle.laws.specs.Lists.{eq_z, some?}
use Rattle.rules.specs.Constants.{capacitor_need}
use Rattle.rules.specs.Codes.{category_at, state_code}
use Rattle.rules.specs.Sheet.{Book, Fit, bases_of}
use Rattle.rules.specs.Info.{get_dogma_effect}
use Rattle.rules.specs.Item.{is_item, is_charge, is_projected, is_subsystem, is_on_char, item_of, structure_fit, passed, required_state, effects_of, category_on}
use Rattle.rules.specs.declared.Item.{Item}
use Rattle.rules.specs.declared.DogmaEffect.{DogmaEffect}
use Rattle.rules.specs.declared.EffectCategory.{EffectCategory}
use Rattle.rules.specs.declared.ItemState.{ItemState}
use Rattle.rules.specs.declared.ItemState.TheVariants as state

-- "objects' state and max state are fixed room"
pub record States : Type 0 where
  pub state : ℕ
  pub max_state : ℕ

abbrev pub code_or0 : Option ItemState → ℕ
code_or0 none = 0
code_or0 (some s) = state_code s

-- the state that an effect of the category lets its object be in; the last four raise nothing
abbrev pub raised_to : Item → Option EffectCategory → ℕ
raised_to o none = 0
raised_to o (some c) = code_or0 (required_state (category_on o c))

abbrev pub raised_by : Item → Option DogmaEffect → ℕ
raised_by o none = 0
raised_by o (some e) = raised_to o (category_at e.category)

-- "Find the highest state an item can be in": every effect found counts, in use or not
abbrev pub highest : ℕ → List ℕ → ℕ
highest m [] = m
highest m (n ∷ r) = highest (max m n) r

-- then attribute 6 lets it be Active, a subsystem is always Online, and state is at most max state
unfoldable pub collected_states : Book → Fit → Item → States
collected_states k f o =
    let reached = highest o.max_state (map (λ t. raised_by o (get_dogma_effect k t.effect_id)) (effects_of k o)) in
    let able = cond (some? (λ r. eq_z r.attribute_id capacitor_need) (bases_of f o)) (max reached (state_code state.Active)) reached in
    let online = state_code state.Online in
    cond (is_subsystem o) (record { state = online; max_state = online }) (record { state = min o.state able; max_state = able })

-- projected objects, passed items and their charges stay as they are, but that a structure fit's implants are Passive
-- "A sheet holds items as loading leaves them"
unfoldable pub states_of : Book → Fit → Item → States
states_of k f o =
    let stay : States = record { state = o.state; max_state = o.max_state } in
    let off : States = record { state = state_code state.Passive; max_state = o.max_state } in
    cond (is_projected o) stay
    (cond (is_item o && structure_fit f && is_on_char o) off
    (cond (is_item o && passed k f o) stay
    (cond (is_charge o && passed k f (item_of f o)) stay
    (collected_states k f o))))
