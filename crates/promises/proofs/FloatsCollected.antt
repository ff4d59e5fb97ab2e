-- What is read from a sound sheet: every float of a collected effect and of a row is finite, and every id is one of 32 bits.
use Rattle.std.specs.Prelude.{None}
use Prim.Native.Nat.{ℕ, suc, ◌-◌, ◌^◌}
use native.Mathlib.Omega.{arith}
use mathlib.Core.Path.{◌≡◌, refl, sym, subst, ◌∙◌}
use mathlib.Core.Bool.{Bool, true, false, ◌&&◌, ◌||◌, not, cond}
use mathlib.Core.List.{List, [], ◌∷◌, ◌++◌, map}
use mathlib.Core.Option.{Option, none, some, get_or}
use borrow.Author.Tests.{ltb-true, ltb-false}
use lib.Dec.{ltb, leb, eqb}
use lib.IntN.{ℤ, pos, negsuc}
use mir.Syntax.{w32}
use mir.Val.{SFits, sel}
use mir.ValLaws.{to_z-of_z}
use Rattle.laws.specs.Lists.{eq_z, every?, keep, flat, span, first}
use Rattle.laws.specs.Floats.{finite}
use Rattle.laws.proofs.Bools.{and_left, and_right, and_both}
use Rattle.laws.proofs.Every.{every_map}
use Rattle.laws.proofs.Inserts.{insert_all_every}
use Rattle.laws.proofs.Keep.{every_kept}
use Rattle.laws.proofs.Order.{eq_z_refl, eq_z_true}
use Rattle.rules.specs.Bytes.{signed, bits}
use Rattle.rules.specs.Codes.{category_at}
use Rattle.rules.specs.Sheet.{Book, Fit, bases_of}
use Rattle.rules.specs.Info.{get_dogma_attribute, get_dogma_effect, get_dbuff_collection, get_base, modifiers_of, missing}
use Rattle.rules.specs.Constants.{upgrade_load}
use Rattle.rules.specs.Item.{is_item, is_charge, is_skill, is_projected, is_rig, has_charge, item_of, structure_fit, passed, effects_of, category_on}
use Rattle.rules.specs.Collect.{Move, taken, plain, refuse, Test, go, over, bad, then, unless, test_func, test_operation, test_domain, test_projected_domain, modifier_moves, in_use, found_moves, effect_moves, own_moves, projected_modifier_moves, projected_moves, buff_modifier_moves, buff_moves, fitted_moves, moves, taken_of}
use Rattle.rules.specs.Columns.{origin_value}
use Rattle.rules.specs.Dispatch.{Row, hit, Numbered, numbered, entry, hits_on, ids_of, row_of, rows}
use Rattle.rules.specs.declared.BaseAttribute.{BaseAttribute}
use Rattle.rules.specs.declared.DbuffCollection.{DbuffCollection}
use Rattle.rules.specs.declared.DogmaAttribute.{DogmaAttribute}
use Rattle.rules.specs.declared.DogmaEffect.{DogmaEffect}
use Rattle.rules.specs.declared.DogmaModifier.{DogmaModifier}
use Rattle.rules.specs.declared.Effect.{Effect}
use Rattle.rules.specs.declared.EffectCategory.{EffectCategory}
use Rattle.rules.specs.declared.EffectCategory.TheVariants.{Passive}
use Rattle.rules.specs.declared.EffectOperator.{EffectOperator}
use Rattle.rules.specs.declared.Item.{Item}
use Rattle.rules.specs.declared.Modifier.{Modifier}
use Rattle.rules.specs.declared.Modifier.TheVariants.{LocationRequiredSkillModifier, LocationGroupModifier, LocationModifier, OwnerRequiredSkillModifier, ItemModifier}
use Rattle.rules.specs.declared.Origin.TheVariants as origin
use Rattle.rules.specs.declared.Pass2Effect.{Pass2Effect}
use Rattle.rules.specs.declared.ProjectedBuff.{ProjectedBuff}
use Rattle.rules.specs.declared.Refusal.TheVariants.{Func, Category}
use Rattle.rules.specs.declared.TypeDogmaEffect.{TypeDogmaEffect}
use Rattle.promises.proofs.Everywhere.{every_both, every_span, every_first, flat_every, flat-all}

-- ---- ids of 32 bits

abbrev pub held : ℤ → Bool
held a = eq_z (signed (bits a)) a

pub held-is : (a : ℤ) → held a ≡ true → signed (bits a) ≡ a
held-is a e = eq_z_true (signed (bits a)) a e

pub held-signed : (n : ℕ) → held (signed n) ≡ true
held-signed n = subst (λ (x : ℤ). eq_z x (signed n) ≡ true) (sym (to_z-of_z w32 (signed n) (by (ltb n (2 ^ 31)) refl))) (eq_z_refl (signed n))
  where
    by : (t : Bool) → ltb n (2 ^ 31) ≡ t → SFits w32 (sel t (pos n) (negsuc (2 ^ 32 - suc n)))
    by true e = record { sfits = ltb-true n (2 ^ 31) e }
    by false e = let h = ltb-false n (2 ^ 31) e in record { sfits = omega (arith, h) }

-- ---- what is asked of a book and a fit

abbrev pub held_modifier : DogmaModifier → Bool
held_modifier m = held m.modified_attribute_id && (held m.skill_type_id && held m.group_id)

pub record Fine (k : Book) (f : Fit) : Type 0 where
  pub defaults : every? (λ r. finite r.default_value) k.attributes ≡ true
  pub modifiers : every? held_modifier k.modifiers ≡ true
  pub bases : every? (λ r. finite r.value) f.bases ≡ true
  pub ids : every? (λ r. held r.attribute_id) f.bases ≡ true
  pub buffs : every? (λ r. finite r.value) f.buffs ≡ true

-- ---- collection

-- its skill or group
abbrev pub held_func : Modifier → Bool
held_func (LocationRequiredSkillModifier s) = held s
held_func (LocationGroupModifier g) = held g
held_func LocationModifier = true
held_func (OwnerRequiredSkillModifier s) = held s
held_func ItemModifier = true

abbrev pub held_taken : Pass2Effect → Bool
held_taken t = held t.target_attribute_id && held_func t.modifier

abbrev pub fine_taken : Pass2Effect → Bool
fine_taken t = finite (origin_value t.origin) && held_taken t

abbrev fine_move : Move → Bool
fine_move (taken t) = fine_taken t
fine_move (plain o e) = true
fine_move (refuse x) = true

-- one move, of an effect or a buff
then_fine : {A : Type 0} (t : Test A) (g : A → List Move) → ((a : A) → every? fine_move (g a) ≡ true) → every? fine_move (then t g) ≡ true
then_fine (go a) g h = h a
then_fine over g h = refl
then_fine (bad r) g h = refl

cond_fine : (b : Bool) (t u : Test Modifier) (g : Modifier → List Move) → every? fine_move (then t g) ≡ true → every? fine_move (then u g) ≡ true → every? fine_move (then (cond b t u) g) ≡ true
cond_fine true t u g h i = h
cond_fine false t u g h i = i

-- whatever a func stands for
func_fine : (m : DogmaModifier) (g : Modifier → List Move) → held_modifier m ≡ true → ((a : Modifier) → held m.modified_attribute_id && held_func a ≡ true → every? fine_move (g a) ≡ true) → every? fine_move (then (test_func m) g) ≡ true
unfolding test_func
func_fine m g e h =
    cond_fine (eqb m.func 0) _ _ g (h (LocationRequiredSkillModifier m.skill_type_id) (and_both on skill))
    (cond_fine (eqb m.func 1) _ _ g (h (LocationGroupModifier m.group_id) (and_both on group))
    (cond_fine (eqb m.func 2) _ _ g (h LocationModifier (and_both on refl))
    (cond_fine (eqb m.func 3) _ _ g (h (OwnerRequiredSkillModifier m.skill_type_id) (and_both on skill))
    (cond_fine (eqb m.func 4) _ _ g (h ItemModifier (and_both on refl))
    (cond_fine (eqb m.func 5) over (bad (Func m.number)) g refl refl)))))
  where
    on : held m.modified_attribute_id ≡ true
    on = and_left (held m.modified_attribute_id) (held m.skill_type_id && held m.group_id) e

    named : held m.skill_type_id && held m.group_id ≡ true
    named = and_right (held m.modified_attribute_id) (held m.skill_type_id && held m.group_id) e

    skill : held m.skill_type_id ≡ true
    skill = and_left (held m.skill_type_id) (held m.group_id) named

    group : held m.group_id ≡ true
    group = and_right (held m.skill_type_id) (held m.group_id) named

unless_fine : (t : Bool) (l : List Move) → every? fine_move l ≡ true → every? fine_move (unless t l) ≡ true
unless_fine true l h = refl
unless_fine false l h = h

taken_fine : (ms : List Move) → every? fine_move ms ≡ true → every? fine_taken (taken_of ms) ≡ true
taken_fine [] h = refl
taken_fine (taken t ∷ ms) h = and_both (and_left (fine_taken t) (every? fine_move ms) h) (taken_fine ms (and_right (fine_taken t) (every? fine_move ms) h))
taken_fine (plain o e ∷ ms) h = taken_fine ms h
taken_fine (refuse x ∷ ms) h = taken_fine ms h

module _ (k : Book) (f : Fit) (fine : Fine k f) where
  modifier_fine : (o : Item) (e : DogmaEffect) (c : EffectCategory) (m : DogmaModifier) → held_modifier m ≡ true → every? fine_move (modifier_moves k f o e c m) ≡ true
  unfolding modifier_moves finite
  modifier_fine o e c m h =
      func_fine m _ h λ func k. then_fine (test_operation m.operation m.number) _ λ op.
      unless_fine (is_item o && eqb m.domain 3 && not (has_charge f o)) (aimed func op)
      (unless_fine (is_skill o && structure_fit f && eqb m.domain 1) (then (test_domain f o m) (one func op)) (then_fine (test_domain f o m) (one func op) λ target. and_both k refl))
    where
      one : Modifier → EffectOperator → ℕ → List Move
      one func op target =
          taken (record {
            origin = origin.Effect e.id o.number (cond (is_rig o && eq_z m.modified_attribute_id upgrade_load) Passive c) m.modifying_attribute_id;
            modifier = func;
            operator = op;
            source_quantity = o.quantity;
            target = target;
            target_attribute_id = m.modified_attribute_id;
            resistance = None;
          }) ∷ []

      aimed : Modifier → EffectOperator → List Move
      aimed func op = unless (is_skill o && structure_fit f && eqb m.domain 1) (then (test_domain f o m) (one func op))

  found_fine : (o : Item) (t : TypeDogmaEffect) (e : DogmaEffect) → every? fine_move (found_moves k f o t e) ≡ true
  unfolding found_moves
  found_fine o t e = by (category_at e.category)
    where
      own : EffectCategory → ℕ → List Move
      own c n = elim n [ ℕ.zero ↦ plain o.number e.id ∷ [] | ℕ.suc n ↦ flat (modifier_moves k f o e (category_on o c)) (modifiers_of k e) ]

      moved : Option EffectCategory → List Move
      moved c = elim c [ none ↦ refuse (Category e.number) ∷ [] | some c ↦ unless (not (in_use k f o e t (category_on o c))) (own c e.modifiers) ]

      run : (c : EffectCategory) (n : ℕ) → every? fine_move (own c n) ≡ true
      run c ℕ.zero = refl
      run c (ℕ.suc n) =
          flat_every held_modifier fine_move (modifier_moves k f o e (category_on o c)) (modifier_fine o e (category_on o c)) (modifiers_of k e)
          (every_span held_modifier e.first_modifier e.modifiers k.modifiers fine.modifiers)

      by : (c : Option EffectCategory) → every? fine_move (moved c) ≡ true
      by none = refl
      by (some c) = unless_fine (not (in_use k f o e t (category_on o c))) (own c e.modifiers) (run c e.modifiers)

  own_fine : (o : Item) → every? fine_move (own_moves k f o) ≡ true
  unfolding own_moves effect_moves
  own_fine o = flat-all fine_move (effect_moves k f o) (λ t. by t (get_dogma_effect k t.effect_id)) (effects_of k o)
    where
      moved : TypeDogmaEffect → Option DogmaEffect → List Move
      moved t e = elim e [ none ↦ [] | some e ↦ found_moves k f o t e ]

      by : (t : TypeDogmaEffect) (e : Option DogmaEffect) → every? fine_move (moved t e) ≡ true
      by t none = refl
      by t (some e) = found_fine o t e

  fitted_fine : (o : Item) → every? fine_move (fitted_moves k f o) ≡ true
  unfolding fitted_moves
  fitted_fine o = unless_fine (passed k f (cond (is_charge o) (item_of f o) o)) (own_moves k f o) (own_fine o)

  thrown_fine : (o : Item) (e : DogmaEffect) (c : EffectCategory) (m : DogmaModifier) → held_modifier m ≡ true → every? fine_move (projected_modifier_moves f o e c m) ≡ true
  unfolding projected_modifier_moves finite
  thrown_fine o e c m h =
      then_fine (test_projected_domain f m) _ λ target. func_fine m _ h λ func k. then_fine (test_operation m.operation m.number) _ λ op. and_both k refl

  projected_fine : (o : Item) → every? fine_move (projected_moves k f o) ≡ true
  unfolding projected_moves
  projected_fine o = by (get_dogma_effect k o.projected_effect)
    where
      all : DogmaEffect → Option EffectCategory → List Move
      all e c = elim c [ none ↦ refuse (Category e.number) ∷ [] | some c ↦ flat (projected_modifier_moves f o e c) (modifiers_of k e) ]

      moved : Option DogmaEffect → List Move
      moved e = elim e [ none ↦ [] | some e ↦ all e (category_at e.category) ]

      each : (e : DogmaEffect) (c : Option EffectCategory) → every? fine_move (all e c) ≡ true
      each e none = refl
      each e (some c) =
          flat_every held_modifier fine_move (projected_modifier_moves f o e c) (thrown_fine o e c) (modifiers_of k e)
          (every_span held_modifier e.first_modifier e.modifiers k.modifiers fine.modifiers)

      by : (e : Option DogmaEffect) → every? fine_move (moved e) ≡ true
      by none = refl
      by (some e) = each e (category_at e.category)

  buffed_fine : (b : ProjectedBuff) (op : EffectOperator) (m : DogmaModifier) → finite b.value ≡ true → held_modifier m ≡ true → every? fine_move (buff_modifier_moves b op m) ≡ true
  unfolding buff_modifier_moves
  buffed_fine b op m v h = func_fine m _ h λ func k. and_both (and_both v k) refl

  buff_fine : (b : ProjectedBuff) → finite b.value ≡ true → every? fine_move (buff_moves k b) ≡ true
  unfolding buff_moves
  buff_fine b v = by (get_dbuff_collection k b.id)
    where
      moved : Option DbuffCollection → List Move
      moved c = elim c [
        | none ↦ []
        | some r ↦ then (test_operation r.operation r.number) λ op. flat (buff_modifier_moves b op) (span r.first_modifier r.modifiers k.modifiers)
      ]

      by : (c : Option DbuffCollection) → every? fine_move (moved c) ≡ true
      by none = refl
      by (some r) =
          then_fine (test_operation r.operation r.number) _ λ op.
          flat_every held_modifier fine_move (buff_modifier_moves b op) (λ m h. buffed_fine b op m v h) (span r.first_modifier r.modifiers k.modifiers)
          (every_span held_modifier r.first_modifier r.modifiers k.modifiers fine.modifiers)

  moves_fine : every? fine_move (moves k f) ≡ true
  unfolding moves
  moves_fine =
      every_both fine_move hulls (thrown ++ (given ++ (fitted ++ skills))) (flat-all fine_move (own_moves k f) own_fine (keep (λ o. leb o.kind 2) f.objects))
      (every_both fine_move thrown (given ++ (fitted ++ skills)) (flat-all fine_move (projected_moves k f) projected_fine (keep is_projected f.objects))
      (every_both fine_move given (fitted ++ skills) (flat_every (λ b. finite b.value) fine_move (buff_moves k) buff_fine f.buffs fine.buffs)
      (every_both fine_move fitted skills (flat-all fine_move (fitted_moves k f) fitted_fine (keep (λ o. is_item o || is_charge o) f.objects))
      (flat-all fine_move (own_moves k f) own_fine (keep is_skill f.objects)))))
    where
      hulls : List Move
      hulls = flat (own_moves k f) (keep (λ o. leb o.kind 2) f.objects)

      thrown : List Move
      thrown = flat (projected_moves k f) (keep is_projected f.objects)

      given : List Move
      given = flat (buff_moves k) f.buffs

      fitted : List Move
      fitted = flat (fitted_moves k f) (keep (λ o. is_item o || is_charge o) f.objects)

      skills : List Move
      skills = flat (own_moves k f) (keep is_skill f.objects)

  pub collected_fine : every? fine_taken (taken_of (moves k f)) ≡ true
  collected_fine = taken_fine (moves k f) moves_fine

  -- ---- rows

  pub default_finite : (a : ℤ) → finite (get_dogma_attribute k a).default_value ≡ true
  unfolding get_dogma_attribute finite
  default_finite a = by (first (λ r. eq_z r.id a) k.attributes) refl
    where
      by : (r : Option DogmaAttribute) → first (λ r. eq_z r.id a) k.attributes ≡ r → finite (get_or r (missing a)).default_value ≡ true
      by none e = refl
      by (some r) e = every_first (λ x. finite x.default_value) (λ x. eq_z x.id a) k.attributes r fine.defaults e

  abbrev pub fine_entry : Effect → Bool
  fine_entry e = finite (origin_value e.origin)

  abbrev pub fine_row : Row → Bool
  fine_row r = held r.id && (finite r.base && every? fine_entry r.entries)

  module _ (ts : List Pass2Effect) (h : every? fine_taken ts ≡ true) where
    base_finite : (o : Item) (a : ℤ) → finite (elim (get_base f o a) [ none ↦ (get_dogma_attribute k a).default_value | some r ↦ r.value ]) ≡ true
    unfolding get_base
    base_finite o a = by (get_base f o a) refl
      where
        by : (r : Option BaseAttribute) → get_base f o a ≡ r → finite (elim r [ none ↦ (get_dogma_attribute k a).default_value | some r ↦ r.value ]) ≡ true
        by none e = default_finite a
        by (some r) e =
            every_first (λ x. finite x.value) (λ x. eq_z x.attribute_id a) (bases_of f o) r
            (every_span (λ x. finite x.value) o.first_attribute o.attributes f.bases fine.bases) e

    abbrev fine_hit : Numbered → Bool
    fine_hit n = fine_taken n.effect

    numbered_fine : (j : ℕ) (us : List Pass2Effect) → every? fine_taken us ≡ true → every? fine_hit (numbered j us) ≡ true
    numbered_fine j [] e = refl
    numbered_fine j (t ∷ us) e = and_both (and_left (fine_taken t) (every? fine_taken us) e) (numbered_fine (suc j) us (and_right (fine_taken t) (every? fine_taken us) e))

    hits_fine : (o : Item) → every? fine_hit (hits_on k f ts o) ≡ true
    unfolding hits_on
    hits_fine o = every_kept fine_hit (λ n. hit k f n.effect o) (numbered 0 ts) (numbered_fine 0 ts h)

    entries_fine : (o : Item) (us : List Numbered) → every? fine_hit us ≡ true → every? fine_entry (map (entry k f o) us) ≡ true
    unfolding entry
    entries_fine o [] e = refl
    entries_fine o (n ∷ us) e =
        and_both (and_left (finite (origin_value n.effect.origin)) (held_taken n.effect) (and_left (fine_hit n) (every? fine_hit us) e))
        (entries_fine o us (and_right (fine_hit n) (every? fine_hit us) e))

    targets_held : (us : List Numbered) → every? fine_hit us ≡ true → every? held (map (λ n. n.effect.target_attribute_id) us) ≡ true
    targets_held [] e = refl
    targets_held (n ∷ us) e =
        and_both
        (and_left (held n.effect.target_attribute_id) (held_func n.effect.modifier)
        (and_right (finite (origin_value n.effect.origin)) (held_taken n.effect) (and_left (fine_hit n) (every? fine_hit us) e)))
        (targets_held us (and_right (fine_hit n) (every? fine_hit us) e))

    ids_held : (o : Item) → every? held (ids_of k f ts o) ≡ true
    unfolding ids_of
    ids_held o =
        insert_all_every held (map (λ n. n.effect.target_attribute_id) (hits_on k f ts o)) (map (λ r. r.attribute_id) (bases_of f o)) (targets_held (hits_on k f ts o) (hits_fine o))
        (every_map held (λ r. r.attribute_id) (bases_of f o) ∙ every_span (λ r. held r.attribute_id) o.first_attribute o.attributes f.bases fine.ids)

    row_fine : (o : Item) (a : ℤ) → held a ≡ true → fine_row (row_of k f ts o a) ≡ true
    unfolding row_of
    row_fine o a e =
        and_both e (and_both (base_finite o a)
        (entries_fine o (keep (λ n. eq_z n.effect.target_attribute_id a) (hits_on k f ts o)) (every_kept fine_hit (λ n. eq_z n.effect.target_attribute_id a) (hits_on k f ts o) (hits_fine o))))

    own_rows : (o : Item) (l : List ℤ) → every? held l ≡ true → every? fine_row (map (row_of k f ts o) l) ≡ true
    own_rows o [] e = refl
    own_rows o (a ∷ l) e = and_both (row_fine o a (and_left (held a) (every? held l) e)) (own_rows o l (and_right (held a) (every? held l) e))

    pub rows_fine : every? fine_row (rows k f ts) ≡ true
    unfolding rows
    rows_fine = flat-all fine_row (λ o. map (row_of k f ts o) (ids_of k f ts o)) (λ o. own_rows o (ids_of k f ts o) (ids_held o)) f.objects
