-- Collection: which modifiers are taken, in order, and what is refused on the way. `pass_2.rs` up to the dispatch; 01, "Collection".
-- It is a list of moves: a modifier taken (list 1), an effect without modifiers (list 4), or a refusal, which ends the run.
use Rattle.std.specs.Prelude.{ℕ, suc, Bool, true, false, ◌&&◌, ◌||◌, not, cond, List, [], ◌∷◌, ◌++◌, ℤ, pos, leb, eqb, None, Some}
use Rattle.std.proofs.Math.Option.{Option, none, some}
use Rattle.laws.specs.Lists.{eq_z, some?, keep, flat, span}
use Rattle.rules.specs.Constants.{upgrade_load, remote_resistance}
use Rattle.rules.specs.Codes.{category_at, operator_at}
use Rattle.rules.specs.Sheet.{Book, Fit, abilities_of, side_effects_of}
use Rattle.rules.specs.Info.{get_dogma_effect, get_dbuff_collection, modifiers_of, get_base}
use Rattle.rules.specs.Number.{cut}
use Rattle.rules.specs.Item.{is_item, is_charge, is_skill, is_projected, is_rig, is_fighter, is_passive, abilities_given, has_charge, item_of, char_of, structure_fit, passed, effects_of, category_on}
use Rattle.rules.specs.declared.Item.{Item}
use Rattle.rules.specs.declared.DogmaEffect.{DogmaEffect}
use Rattle.rules.specs.declared.DogmaModifier.{DogmaModifier}
use Rattle.rules.specs.declared.TypeDogmaEffect.{TypeDogmaEffect}
use Rattle.rules.specs.declared.DbuffCollection.{DbuffCollection}
use Rattle.rules.specs.declared.ProjectedBuff.{ProjectedBuff}
use Rattle.rules.specs.declared.EffectCategory.{EffectCategory}
use Rattle.rules.specs.declared.EffectCategory.TheVariants.{Passive}
use Rattle.rules.specs.declared.EffectOperator.{EffectOperator}
use Rattle.rules.specs.declared.Modifier.{Modifier}
use Rattle.rules.specs.declared.Modifier.TheVariants.{LocationRequiredSkillModifier, LocationGroupModifier, LocationModifier, OwnerRequiredSkillModifier, ItemModifier}
use Rattle.rules.specs.declared.Origin.TheVariants.{Effect, Buff}
use Rattle.rules.specs.Ids.{OptionalId}
use Rattle.rules.specs.declared.Pass2Effect.{Pass2Effect}
use Rattle.rules.specs.declared.Refusal.{Refusal}
use Rattle.rules.specs.declared.Refusal.TheVariants.{Func, Domain, Category, Operation, Other}

-- "Panics become refusals"
pub data Move : Type 0 where
  taken : Pass2Effect → Move
  plain : ℕ → ℤ → Move  -- object, effect id
  refuse : Refusal → Move

-- "Codes, tested only when reached": go on with what a code stands for, pass the modifier over, or refuse
pub data Test (A : Type 0) : Type 0 where
  go : A → Test A
  over : Test A
  bad : Refusal → Test A

abbrev pub then : {A : Type 0} → Test A → (A → List Move) → List Move
then (go a) f = f a
then over f = []
then (bad r) f = refuse r ∷ []

abbrev pub unless : Bool → List Move → List Move
unless true l = []
unless false l = l

-- `get_modifier_func`: "func 0 to 4 in the order of `Modifier`, 5 EffectStopper, passed over"
unfoldable pub test_func : DogmaModifier → Test Modifier
test_func m =
    cond (eqb m.func 0) (go (LocationRequiredSkillModifier m.skill_type_id))
    (cond (eqb m.func 1) (go (LocationGroupModifier m.group_id))
    (cond (eqb m.func 2) (go LocationModifier)
    (cond (eqb m.func 3) (go (OwnerRequiredSkillModifier m.skill_type_id))
    (cond (eqb m.func 4) (go ItemModifier)
    (cond (eqb m.func 5) over (bad (Func m.number)))))))

-- `get_effect_operator`: "operation 0 to 8 as `EffectOperator`, 9 skipped"; number is the record's, in 3 or in 5 for a buff
unfoldable pub test_operation : ℕ → ℕ → Test EffectOperator
test_operation operation number =
    elim (operator_at operation) [ some op ↦ go op | none ↦ cond (eqb operation 9) over (bad (Operation number)) ]

-- `get_target_object`: "domain 0 ItemID, 1 ShipID, 2 CharID, 3 OtherID, 4 StructureID, 5 TargetID, 6 Target"
unfoldable pub test_domain : Fit → Item → DogmaModifier → Test ℕ
test_domain f o m =
    cond (eqb m.domain 0) (go o.number)
    (cond (eqb m.domain 1 || eqb m.domain 4) (go 0)
    (cond (eqb m.domain 2) (go (char_of f))
    (cond (eqb m.domain 3)
    (cond (is_item o) (go (suc o.number)) (cond (is_charge o) (go (item_of f o).number) (bad (Other m.number))))
    (cond (eqb m.domain 5 || eqb m.domain 6) over (bad (Domain m.number))))))

-- `get_projected_object`
-- "domain 0 ItemID, 1 ShipID, 2 CharID, 3 OtherID, 4 StructureID, 5 TargetID, 6 Target", of which ItemID and OtherID are passed over
unfoldable pub test_projected_domain : Fit → DogmaModifier → Test ℕ
test_projected_domain f m =
    cond (eqb m.domain 1 || leb 4 m.domain && leb m.domain 6) (go 0)
    (cond (eqb m.domain 2) (go (char_of f))
    (cond (eqb m.domain 0 || eqb m.domain 3) over (bad (Domain m.number))))

-- ---- an object's own effects: `collect_effects`

module _ (k : Book) (f : Fit) (o : Item) where
  -- "func, operation, item without charge, ship domain skipped, target domain"; on attribute 1152 a rig keeps Passive
  unfoldable pub modifier_moves : DogmaEffect → EffectCategory → DogmaModifier → List Move
  modifier_moves e c m =
      then (test_func m) λ func.
      then (test_operation m.operation m.number) λ op.
      unless (is_item o && eqb m.domain 3 && not (has_charge f o)) (
      unless (is_skill o && structure_fit f && eqb m.domain 1) (
      then (test_domain f o m) λ target.
      taken (record {
        origin = Effect e.id o.number (cond (is_rig o && eq_z m.modified_attribute_id upgrade_load) Passive c) m.modifying_attribute_id;
        modifier = func;
        operator = op;
        source_quantity = o.quantity;
        target = target;
        target_attribute_id = m.modified_attribute_id;
        resistance = None;
      }) ∷ []))

  -- a fighter's effect that is not Passive is an ability, and the fit picks which run; a side effect is one that the fit names
  -- "usage chance 0 mean none"; "abilities and projected effect are read only where flag or kind calls for them"
  abbrev pub in_use : DogmaEffect → TypeDogmaEffect → EffectCategory → Bool
  in_use e t c =
      (not (is_fighter o && not (is_passive c))
      || cond (abilities_given o) (some? (eq_z e.id) (abilities_of f o)) (eqb t.is_default 1))
      && (eq_z e.usage_chance_attribute_id (pos 0) || some? (eq_z e.id) (side_effects_of f o))

  -- the category is tested for every effect found; "An effect with no modifiers goes to the plain list"
  unfoldable pub found_moves : TypeDogmaEffect → DogmaEffect → List Move
  found_moves t e = elim (category_at e.category) [
    | none ↦ refuse (Category e.number) ∷ []
    | some c ↦ unless (not (in_use e t (category_on o c))) (elim e.modifiers [
      | ℕ.zero ↦ plain o.number e.id ∷ []
      | ℕ.suc n ↦ flat (modifier_moves e (category_on o c)) (modifiers_of k e)
    ])
  ]

  -- "A missing effect or buff collection is passed over"
  unfoldable pub effect_moves : TypeDogmaEffect → List Move
  effect_moves t = elim (get_dogma_effect k t.effect_id) [ none ↦ [] | some e ↦ found_moves t e ]

  -- "own type effects first, then base effects whose id the type lacks"
  unfoldable pub own_moves : List Move
  own_moves = flat effect_moves (effects_of k o)

-- ---- a projected object's one effect: `collect_projected_effects`

-- `get_resistance`: attribute 2138 names it, or else the effect does; 0 is none; "Min, max, resistance and usage chance 0 mean none"
abbrev pub unless_zero : ℤ → OptionalId → OptionalId
unless_zero a other = cond (eq_z a (pos 0)) other (Some a)

-- "Attribute 2138 at 0.9, the effect's own resistance 0: none"
abbrev pub named : Fit → Item → ℤ
named f o = elim (get_base f o remote_resistance) [ none ↦ pos 0 | some r ↦ cut r.value ]

-- "Projected effects test domain, func, operation"
unfoldable pub projected_modifier_moves : Fit → Item → DogmaEffect → EffectCategory → DogmaModifier → List Move
projected_modifier_moves f o e c m =
    then (test_projected_domain f m) λ target.
    then (test_func m) λ func.
    then (test_operation m.operation m.number) λ op.
    taken (record {
      origin = Effect e.id o.number c m.modifying_attribute_id;
      modifier = func;
      operator = op;
      source_quantity = o.quantity;
      target = target;
      target_attribute_id = m.modified_attribute_id;
      resistance = unless_zero (named f o) (unless_zero e.resistance_attribute_id None);
    }) ∷ []

-- "An effect with no modifiers goes to the plain list, unless projected"
unfoldable pub projected_moves : Book → Fit → Item → List Move
projected_moves k f o = elim (get_dogma_effect k o.projected_effect) [
  | none ↦ []
  | some e ↦ elim (category_at e.category) [
    | none ↦ refuse (Category e.number) ∷ []
    | some c ↦ flat (projected_modifier_moves f o e c) (modifiers_of k e)
  ]
]

-- ---- a buff: `collect_buff_effects`. "Buffs test operation before any modifier"

-- "A buff entry carries its value inside the origin, as in `Origin::Buff`"
unfoldable pub buff_modifier_moves : ProjectedBuff → EffectOperator → DogmaModifier → List Move
buff_modifier_moves b op m =
    then (test_func m) λ func.
    taken (record {
      origin = Buff b.id b.value;
      modifier = func;
      operator = op;
      source_quantity = 1;
      target = 0;
      target_attribute_id = m.modified_attribute_id;
      resistance = None;
    }) ∷ []

-- "Buffs test operation before any modifier"; "A missing effect or buff collection is passed over"
unfoldable pub buff_moves : Book → ProjectedBuff → List Move
buff_moves k b = elim (get_dbuff_collection k b.id) [
  | none ↦ []
  | some r ↦
      then (test_operation r.operation r.number) λ op.
      flat (buff_modifier_moves b op) (span r.first_modifier r.modifiers k.modifiers)
]

-- ---- "Collection goes ship, mode, char, projected, buffs, items each with its charge, skills"

-- an item that is passed over gives nothing, and its charge neither; "items each with its charge"
unfoldable pub fitted_moves : Book → Fit → Item → List Move
fitted_moves k f o = unless (passed k f (cond (is_charge o) (item_of f o) o)) (own_moves k f o)

-- "goes ship, mode, char, projected, buffs, items each with its charge, skills"
unfoldable pub moves : Book → Fit → List Move
moves k f =
    flat (own_moves k f) (keep (λ o. leb o.kind 2) f.objects)
    ++ (flat (projected_moves k f) (keep is_projected f.objects)
    ++ (flat (buff_moves k) f.buffs
    ++ (flat (fitted_moves k f) (keep (λ o. is_item o || is_charge o) f.objects)
    ++ flat (own_moves k f) (keep is_skill f.objects))))

-- a row of list 4; "4 object and effect id"
pub record Plain : Type 0 where
  pub object : ℕ
  pub id : ℤ

-- "1 and 4 by arrival"
abbrev pub taken_of : List Move → List Pass2Effect
taken_of [] = []
taken_of (taken t ∷ r) = t ∷ taken_of r
taken_of (plain o e ∷ r) = taken_of r
taken_of (refuse x ∷ r) = taken_of r

-- "1 and 4 by arrival"
abbrev pub plain_of : List Move → List Plain
plain_of [] = []
plain_of (taken t ∷ r) = plain_of r
plain_of (plain o e ∷ r) = record { object = o; id = e } ∷ plain_of r
plain_of (refuse x ∷ r) = plain_of r
