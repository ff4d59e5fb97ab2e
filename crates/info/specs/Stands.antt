-- Where the objects of a sound sheet stand, when a row of list 1 points at them, and collected effects by place. Definitions only.
use Rattle.std.specs.Prelude.{ℕ, ◌+◌, ◌≤◌, ◌<◌, ◌≡◌, Bool, true, false, ◌||◌, List, [], map, length, get_or, eqb, leb, pos, None, Some}
use Rattle.std.specs.Int.{w32}
use Rattle.std.proofs.Common.{SFits}
use Rattle.laws.specs.Lists.{ascends}
use Rattle.laws.specs.Floats.{zero_f}
use Rattle.rules.specs.Sheet.{Fit, bases_of}
use Rattle.rules.specs.Columns.{collected_numbers}
use Rattle.rules.specs.Dispatch.{Numbered}
use Rattle.rules.specs.Item.{object, is_ship, is_char, is_item, is_charge, is_skill, char_of}
use Rattle.rules.specs.declared.Item.{Item}
use Rattle.rules.specs.declared.Modifier.{Modifier}
use Rattle.rules.specs.declared.Modifier.TheVariants.{LocationRequiredSkillModifier, LocationGroupModifier, LocationModifier, OwnerRequiredSkillModifier, ItemModifier}
use Rattle.rules.specs.declared.Origin.{Origin}
use Rattle.rules.specs.declared.Origin.TheVariants as origin
use Rattle.rules.specs.declared.EffectOperator.TheVariants.{PreAssign}
use Rattle.rules.specs.Ids.{OptionalId}
use Rattle.rules.specs.declared.Pass2Effect.{Pass2Effect}
use Rattle.info.specs.declared.standing.Spans.{Spans}

abbrev pub is_fitted : Item → Bool
is_fitted o = is_item o || is_charge o

-- the first skill from a place on, or the end
pub record FirstSkill (f : Fit) (start e : ℕ) : Type 0 where
  pub ordered : start ≤ e
  pub inside : e ≤ length f.objects
  pub before : (i : ℕ) → start ≤ i → i < e → is_skill (object f i) ≡ false
  pub at : e < length f.objects → is_skill (object f e) ≡ true

-- what a sound sheet says of each object: ids of 32 bits, and base attributes that ascend
pub record Sized (f : Fit) : Type 0 where
  pub types : (i : ℕ) → i < length f.objects → SFits w32 (object f i).type_id
  pub groups : (i : ℕ) → i < length f.objects → SFits w32 (object f i).group_id
  pub bases : (i : ℕ) → i < length f.objects → ascends (map (λ r. r.attribute_id) (bases_of f (object f i))) ≡ true

-- ship and char by their numbers; items and charges from first to end; skills from end on
pub record Stands (f : Fit) (s : Spans) : Type 0 where
  pub character : s.character ≡ char_of f
  pub objects : s.objects ≡ length f.objects
  pub first : s.first ≡ char_of f + 1
  pub ordered : s.first ≤ s.end
  pub inside : s.end ≤ length f.objects
  pub late : 1 ≤ char_of f
  pub number : (i : ℕ) → i < length f.objects → (object f i).number ≡ i
  pub ship : (i : ℕ) → i < length f.objects → is_ship (object f i) ≡ eqb i 0
  pub char : (i : ℕ) → i < length f.objects → is_char (object f i) ≡ eqb i (char_of f)
  pub fitted : (i : ℕ) → i < length f.objects → is_fitted (object f i) ≡ true → (s.first ≤ i) × (i < s.end)
  pub sized : Sized f
  pub skilled : (i : ℕ) → i < length f.objects → is_skill (object f i) ≡ leb s.end i

-- the row's target and source are objects
pub record Pointing (row : List ℕ) (n : ℕ) : Type 0 where
  pub source : get_or row 2 0 < n
  pub target : get_or row 10 0 < n

-- the skill or group of a modifier has 32 bits
abbrev pub Narrow : Modifier → Type 0
Narrow (LocationRequiredSkillModifier s) = SFits w32 s
Narrow (LocationGroupModifier g) = SFits w32 g
Narrow LocationModifier = Unit {0}
Narrow (OwnerRequiredSkillModifier s) = SFits w32 s
Narrow ItemModifier = Unit {0}

-- so have the ids of an origin, and an id that may be absent
abbrev pub NarrowOrigin : Origin → Type 0
NarrowOrigin (origin.Effect e o c a) = SFits w32 e × SFits w32 a
NarrowOrigin (origin.Buff b v) = SFits w32 b

abbrev pub NarrowId : OptionalId → Type 0
NarrowId None = Unit {0}
NarrowId (Some a) = SFits w32 a

-- past the last collected effect there is none
abbrev pub no_effect : Pass2Effect
no_effect =
    record {
      origin = origin.Buff (pos 0) zero_f;
      modifier = ItemModifier;
      operator = PreAssign;
      source_quantity = 0;
      target = 0;
      target_attribute_id = pos 0;
      resistance = None;
    }

abbrev pub effect_at : List Pass2Effect → ℕ → Pass2Effect
effect_at es j = get_or es j no_effect

-- the first rows of list 1 are those of the effects
abbrev pub AllCollected : List Pass2Effect → List (List ℕ) → Type 0
AllCollected es c = (j : ℕ) → j < length es → get_or c j [] ≡ collected_numbers (effect_at es j)

-- with its number
abbrev pub numbered_at : List Pass2Effect → ℕ → Numbered
numbered_at es j = record { number = j; effect = effect_at es j }
