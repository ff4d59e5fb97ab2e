-- The parts of an object's states after collection, as the code works them out.
use Rattle.std.specs.Prelude.{ℕ, ◌<◌, max, Bool, false, cond, List, [], ◌∷◌, ◌++◌, map, length, replicate, Some, None}
use Rattle.laws.specs.Lists.{eq_z, some?, span}
use Rattle.laws.specs.Columns.{column}
use Rattle.rules.specs.Ids.{OptionalId}
use Rattle.rules.specs.Constants.{capacitor_need}
use Rattle.rules.specs.Codes.{state_code}
use Rattle.rules.specs.Sheet.{Book, Fit, bases_of}
use Rattle.rules.specs.Info.{get_dogma_effect, get_dogma_effects}
use Rattle.rules.specs.Item.{effects_of}
use Rattle.rules.specs.States.{States, raised_by, highest, states_of}
use Rattle.rules.specs.declared.Item.{Item}
use Rattle.rules.specs.declared.TypeDogmaEffect.{TypeDogmaEffect}
use Rattle.rules.specs.declared.ItemState.TheVariants.{Active}
use Rattle.info.specs.Sound.{Nth}
use Rattle.info.specs.At.{Numbers, Rows, book_at}
use Rattle.info.specs.declared.look_ups.TypeEffects.{TypeEffects}

-- o is an object of the fit, at its number
pub record ObjectOf (f : Fit) (o : Item) : Type 0 where
  pub at : Nth f.objects o.number o
  pub inside : o.number < length f.objects

-- the two numbers of a row
abbrev pub both : States → List ℕ
both s = s.state ∷ s.max_state ∷ []

-- whether one of the type effects has t's effect
abbrev pub among : List TypeDogmaEffect → TypeDogmaEffect → Bool
among own t = some? (λ e. eq_z e.effect_id t.effect_id) own

abbrev pub reach_on : Book → Item → TypeDogmaEffect → ℕ
reach_on k o t = raised_by o (get_dogma_effect k t.effect_id)

-- an effect of an object, and whether it is passed over
pub record Turn : Type 0 where
  pub effect : TypeDogmaEffect
  pub over : Bool

abbrev pub turn : TypeDogmaEffect → Bool → Turn
turn t b = record { effect = t; over = b }

-- its own type's, then its base's: of these the ones that the type has are passed over
abbrev pub turns_of : List TypeDogmaEffect → List TypeDogmaEffect → List Turn
turns_of own base = map (λ t. turn t false) own ++ map (λ t. turn t (among own t)) base

-- the same by places in the table
abbrev pub turns_at : Numbers → Rows → TypeEffects → TypeEffects → List Turn
turns_at b p own base =
    turns_of (span own.first own.count (book_at b p).type_effects) (span base.first base.count (book_at b p).type_effects)

-- by all its effects
unfoldable pub reached_of : Book → Item → ℕ
reached_of k o = highest o.max_state (map (reach_on k o) (effects_of k o))

-- and by attribute 6
unfoldable pub able_of : Book → Fit → Item → ℕ
able_of k f o =
    cond (some? (λ r. eq_z r.attribute_id capacitor_need) (bases_of f o)) (max (reached_of k o) (state_code Active)) (reached_of k o)

-- the effects of the type that an object was mutated from, where it was
abbrev pub base_effects_of : Book → OptionalId → List TypeDogmaEffect
base_effects_of k None = []
base_effects_of k (Some a) = get_dogma_effects k a

-- the rows of all objects, and zeros
abbrev pub rows_of : Book → Fit → List (List ℕ)
rows_of k f = column both (replicate 2 0) (map (states_of k f) f.objects) 1024
