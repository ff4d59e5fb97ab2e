-- Marks that say whose max state no effect can raise. Definitions only.
use Rattle.std.specs.Prelude.{ℕ, ◌%◌, ◌≡◌, false, List, map, ℤ, get_or}
use Rattle.std.proofs.Math.Option.{Option}
use Rattle.rules.specs.Bytes.{bits}
use Rattle.rules.specs.Info.{get_dogma_effect, get_dogma_effects}
use Rattle.rules.specs.Item.{is_rig}
use Rattle.rules.specs.Sheet.{Book}
use Rattle.rules.specs.States.{raised_by, highest}
use Rattle.rules.specs.declared.DogmaEffect.{DogmaEffect}
use Rattle.rules.specs.declared.Item.{Item}
use Rattle.states.specs.Raised.{reach_on}

-- an effect, found or missing, raises nothing that is no rig
abbrev pub Idle : Option DogmaEffect → Type 0
Idle x = (o : Item) → is_rig o ≡ false → raised_by o x ≡ 0

-- so does an effect whose id is not marked; ids are counted modulo 1,024
abbrev pub EffectsMarked : Book → List ℕ → Type 0
EffectsMarked k c = (a : ℤ) → get_or c (bits a % 1024) 0 ≡ 0 → Idle (get_dogma_effect k a)

-- all effects of a type whose id is not marked
abbrev pub TypesMarked : Book → List ℕ → Type 0
TypesMarked k c =
    (a : ℤ) → get_or c (bits a % 1024) 0 ≡ 0 → (o : Item) → is_rig o ≡ false → (m : ℕ) → highest m (map (reach_on k o) (get_dogma_effects k a)) ≡ m
