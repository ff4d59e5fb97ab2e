-- What stands where in a row of list 1.
use Prim.Native.Nat.{ℕ, ◌<◌}
use mathlib.Core.Path.{◌≡◌, refl, ap, ◌∙◌}
use mathlib.Core.List.{List, ◌++◌, ◌∷◌, append_assoc}
use lib.ListN.{get_or}
use Rattle.rules.specs.Bytes.{bits}
use Rattle.rules.specs.Codes.{operator_code}
use Rattle.rules.specs.Columns.{origin_numbers, modifier_numbers, optional_numbers, collected_numbers}
use Rattle.rules.specs.declared.Origin.{Origin}
use Rattle.rules.specs.declared.Origin.TheVariants as origin
use Rattle.rules.specs.declared.Modifier.{Modifier}
use Rattle.rules.specs.declared.Modifier.TheVariants.{LocationRequiredSkillModifier, LocationGroupModifier, LocationModifier, OwnerRequiredSkillModifier, ItemModifier}
use Rattle.rules.specs.declared.Pass2Effect.{Pass2Effect}
use Rattle.info.specs.Stands.{Pointing}

module _ (r : List ℕ) where
  origin_0 : (g : Origin) → get_or (origin_numbers g ++ r) 0 0 ≡ get_or (origin_numbers g) 0 0
  origin_0 (origin.Effect e o c a) = refl
  origin_0 (origin.Buff b v) = refl

  origin_2 : (g : Origin) → get_or (origin_numbers g ++ r) 2 0 ≡ get_or (origin_numbers g) 2 0
  origin_2 (origin.Effect e o c a) = refl
  origin_2 (origin.Buff b v) = refl

  origin_6 : (g : Origin) → get_or (origin_numbers g ++ r) 6 0 ≡ get_or r 0 0
  origin_6 (origin.Effect e o c a) = refl
  origin_6 (origin.Buff b v) = refl

  origin_7 : (g : Origin) → get_or (origin_numbers g ++ r) 7 0 ≡ get_or r 1 0
  origin_7 (origin.Effect e o c a) = refl
  origin_7 (origin.Buff b v) = refl

  origin_10 : (g : Origin) → get_or (origin_numbers g ++ r) 10 0 ≡ get_or r 4 0
  origin_10 (origin.Effect e o c a) = refl
  origin_10 (origin.Buff b v) = refl

  origin_11 : (g : Origin) → get_or (origin_numbers g ++ r) 11 0 ≡ get_or r 5 0
  origin_11 (origin.Effect e o c a) = refl
  origin_11 (origin.Buff b v) = refl

  modifier_0 : (m : Modifier) → get_or (modifier_numbers m ++ r) 0 0 ≡ get_or (modifier_numbers m) 0 0
  modifier_0 (LocationRequiredSkillModifier s) = refl
  modifier_0 (LocationGroupModifier g) = refl
  modifier_0 LocationModifier = refl
  modifier_0 (OwnerRequiredSkillModifier s) = refl
  modifier_0 ItemModifier = refl

  modifier_1 : (m : Modifier) → get_or (modifier_numbers m ++ r) 1 0 ≡ get_or (modifier_numbers m) 1 0
  modifier_1 (LocationRequiredSkillModifier s) = refl
  modifier_1 (LocationGroupModifier g) = refl
  modifier_1 LocationModifier = refl
  modifier_1 (OwnerRequiredSkillModifier s) = refl
  modifier_1 ItemModifier = refl

  modifier_4 : (m : Modifier) → get_or (modifier_numbers m ++ r) 4 0 ≡ get_or r 2 0
  modifier_4 (LocationRequiredSkillModifier s) = refl
  modifier_4 (LocationGroupModifier g) = refl
  modifier_4 LocationModifier = refl
  modifier_4 (OwnerRequiredSkillModifier s) = refl
  modifier_4 ItemModifier = refl

  modifier_5 : (m : Modifier) → get_or (modifier_numbers m ++ r) 5 0 ≡ get_or r 3 0
  modifier_5 (LocationRequiredSkillModifier s) = refl
  modifier_5 (LocationGroupModifier g) = refl
  modifier_5 LocationModifier = refl
  modifier_5 (OwnerRequiredSkillModifier s) = refl
  modifier_5 ItemModifier = refl

module _ (t : Pass2Effect) where
  abbrev rest : List ℕ
  rest = operator_code t.operator ∷ t.source_quantity ∷ t.target ∷ bits t.target_attribute_id ∷ optional_numbers t.resistance

  -- the whole row, from its parts
  whole : collected_numbers t ≡ origin_numbers t.origin ++ (modifier_numbers t.modifier ++ rest)
  whole = append_assoc (origin_numbers t.origin) (modifier_numbers t.modifier) rest

  pub origin_at : get_or (collected_numbers t) 0 0 ≡ get_or (origin_numbers t.origin) 0 0
  origin_at = ap (λ (l : List ℕ). get_or l 0 0) whole ∙ origin_0 (modifier_numbers t.modifier ++ rest) t.origin

  pub source_at : get_or (collected_numbers t) 2 0 ≡ get_or (origin_numbers t.origin) 2 0
  source_at = ap (λ (l : List ℕ). get_or l 2 0) whole ∙ origin_2 (modifier_numbers t.modifier ++ rest) t.origin

  pub func_at : get_or (collected_numbers t) 6 0 ≡ get_or (modifier_numbers t.modifier) 0 0
  func_at = ap (λ (l : List ℕ). get_or l 6 0) whole ∙ origin_6 (modifier_numbers t.modifier ++ rest) t.origin ∙ modifier_0 rest t.modifier

  pub what_at : get_or (collected_numbers t) 7 0 ≡ get_or (modifier_numbers t.modifier) 1 0
  what_at = ap (λ (l : List ℕ). get_or l 7 0) whole ∙ origin_7 (modifier_numbers t.modifier ++ rest) t.origin ∙ modifier_1 rest t.modifier

  pub target_at : get_or (collected_numbers t) 10 0 ≡ t.target
  target_at = ap (λ (l : List ℕ). get_or l 10 0) whole ∙ origin_10 (modifier_numbers t.modifier ++ rest) t.origin ∙ modifier_4 rest t.modifier

  pub attribute_at : get_or (collected_numbers t) 11 0 ≡ bits t.target_attribute_id
  attribute_at = ap (λ (l : List ℕ). get_or l 11 0) whole ∙ origin_11 (modifier_numbers t.modifier ++ rest) t.origin ∙ modifier_5 rest t.modifier

  pub pointing : (n : ℕ) → get_or (origin_numbers t.origin) 2 0 < n → t.target < n → Pointing (collected_numbers t) n
  pointing n s l = record { source = rw source_at s; target = rw target_at l }
