-- What an object's own effect, a projected effect and a buff give, case by case.
use Prim.Native.Nat.{ℕ, zero, suc}
use mathlib.Core.Path.{◌≡◌, refl, sym, ap, ◌∙◌}
use mathlib.Core.Bool.{Bool, true, false, not}
use mathlib.Core.List.{List, [], ◌∷◌}
use mathlib.Core.Option.{Option, none, some}
use Rattle.laws.specs.Lists.{flat, span}
use Rattle.rules.specs.Codes.{category_at}
use Rattle.rules.specs.Sheet.{Book, Fit}
use Rattle.rules.specs.Info.{get_dogma_effect, get_dbuff_collection, modifiers_of}
use Rattle.rules.specs.Item.{category_on}
use Rattle.rules.specs.Collect.{Move, plain, refuse, unless, in_use, modifier_moves, found_moves, effect_moves, projected_modifier_moves, projected_moves, buff_modifier_moves, buff_moves, Test, then, test_operation}
use Rattle.rules.specs.declared.Item.{Item}
use Rattle.rules.specs.declared.DogmaEffect.{DogmaEffect}
use Rattle.rules.specs.declared.DbuffCollection.{DbuffCollection}
use Rattle.rules.specs.declared.ProjectedBuff.{ProjectedBuff}
use Rattle.rules.specs.declared.EffectOperator.{EffectOperator}
use Rattle.rules.specs.declared.TypeDogmaEffect.{TypeDogmaEffect}
use Rattle.rules.specs.declared.EffectCategory.{EffectCategory}
use Rattle.rules.specs.declared.Refusal.TheVariants.{Category}

module _ (k : Book) (f : Fit) (o : Item) (t : TypeDogmaEffect) where
  module _ (e : DogmaEffect) where
    -- an effect without modifiers is plain
    abbrev pub given : EffectCategory → ℕ → List Move
    given c zero = plain o.number e.id ∷ []
    given c (suc n) = flat (modifier_moves k f o e (category_on o c)) (modifiers_of k e)

    -- with a category that is known; with another
    abbrev pub found : Option EffectCategory → ℕ → List Move
    found none n = refuse (Category e.number) ∷ []
    found (some c) n = unless (not (in_use k f o e t (category_on o c))) (given c n)

    given_is : (c : EffectCategory) (m : ℕ) → elim m [ ℕ.zero ↦ plain o.number e.id ∷ [] | ℕ.suc j ↦ flat (modifier_moves k f o e (category_on o c)) (modifiers_of k e) ] ≡ given c m
    given_is c zero = refl
    given_is c (suc m) = refl

    category_is : (y : Option EffectCategory) → elim y [
      | none ↦ refuse (Category e.number) ∷ []
      | some c ↦ unless (not (in_use k f o e t (category_on o c))) (elim e.modifiers [
        | ℕ.zero ↦ plain o.number e.id ∷ []
        | ℕ.suc j ↦ flat (modifier_moves k f o e (category_on o c)) (modifiers_of k e)
      ])
    ] ≡ found y e.modifiers
    category_is none = refl
    category_is (some c) = ap (λ (l : List Move). unless (not (in_use k f o e t (category_on o c))) l) (given_is c e.modifiers)

    pub found_is : (x : Option EffectCategory) → category_at e.category ≡ x → found_moves k f o t e ≡ found x e.modifiers
    unfolding found_moves
    found_is x h = category_is (category_at e.category) ∙ ap (λ (y : Option EffectCategory). found y e.modifiers) h

    pub found_bad : category_at e.category ≡ none → refuse (Category e.number) ∷ [] ≡ found_moves k f o t e
    found_bad h = sym (found_is none h)

    module _ (c : EffectCategory) (h : category_at e.category ≡ some c) where
      pub found_unused : in_use k f o e t (category_on o c) ≡ false → [] ≡ found_moves k f o t e
      found_unused u = sym (found_is (some c) h ∙ ap (λ (b : Bool). unless (not b) (given c e.modifiers)) u)

      used : in_use k f o e t (category_on o c) ≡ true → given c e.modifiers ≡ found_moves k f o t e
      used u = sym (found_is (some c) h ∙ ap (λ (b : Bool). unless (not b) (given c e.modifiers)) u)

      pub found_plain : in_use k f o e t (category_on o c) ≡ true → e.modifiers ≡ 0 → plain o.number e.id ∷ [] ≡ found_moves k f o t e
      found_plain u g = sym (ap (given c) g) ∙ used u

      not_none : (m : ℕ) → (m ≡ 0 → ⊥) → flat (modifier_moves k f o e (category_on o c)) (modifiers_of k e) ≡ given c m
      not_none zero g = absurd (g refl)
      not_none (suc m) g = refl

      pub found_modifiers : in_use k f o e t (category_on o c) ≡ true → (e.modifiers ≡ 0 → ⊥) → flat (modifier_moves k f o e (category_on o c)) (modifiers_of k e) ≡ found_moves k f o t e
      found_modifiers u g = not_none e.modifiers g ∙ used u

  abbrev one_effect : Option DogmaEffect → List Move
  one_effect none = []
  one_effect (some e) = found_moves k f o t e

  effect_is : (x : Option DogmaEffect) → elim x [ none ↦ [] | some e ↦ found_moves k f o t e ] ≡ one_effect x
  effect_is none = refl
  effect_is (some e) = refl

  pub no_effect_lem : get_dogma_effect k t.effect_id ≡ none → [] ≡ effect_moves k f o t
  unfolding effect_moves
  no_effect_lem h = sym (effect_is (get_dogma_effect k t.effect_id) ∙ ap one_effect h)

  pub an_effect : (e : DogmaEffect) → get_dogma_effect k t.effect_id ≡ some e → found_moves k f o t e ≡ effect_moves k f o t
  unfolding effect_moves
  an_effect e h = sym (effect_is (get_dogma_effect k t.effect_id) ∙ ap one_effect h)

-- ---- a projected object's effect

module _ (k : Book) (f : Fit) (o : Item) where
  abbrev projected_as : DogmaEffect → Option EffectCategory → List Move
  projected_as e none = refuse (Category e.number) ∷ []
  projected_as e (some c) = flat (projected_modifier_moves f o e c) (modifiers_of k e)

  projected_as_lem : (e : DogmaEffect) (x : Option EffectCategory) → elim x [ none ↦ refuse (Category e.number) ∷ [] | some c ↦ flat (projected_modifier_moves f o e c) (modifiers_of k e) ] ≡ projected_as e x
  projected_as_lem e none = refl
  projected_as_lem e (some c) = refl

  abbrev projected_by : Option DogmaEffect → List Move
  projected_by none = []
  projected_by (some e) = projected_as e (category_at e.category)

  projected_by_lem : (x : Option DogmaEffect) → elim x [
    | none ↦ []
    | some e ↦ elim (category_at e.category) [ none ↦ refuse (Category e.number) ∷ [] | some c ↦ flat (projected_modifier_moves f o e c) (modifiers_of k e) ]
  ] ≡ projected_by x
  projected_by_lem none = refl
  projected_by_lem (some e) = projected_as_lem e (category_at e.category)

  pub projected_none : get_dogma_effect k o.projected_effect ≡ none → [] ≡ projected_moves k f o
  unfolding projected_moves
  projected_none h = sym (projected_by_lem (get_dogma_effect k o.projected_effect) ∙ ap projected_by h)

  projected_some : (e : DogmaEffect) → get_dogma_effect k o.projected_effect ≡ some e → projected_moves k f o ≡ projected_as e (category_at e.category)
  unfolding projected_moves
  projected_some e h = projected_by_lem (get_dogma_effect k o.projected_effect) ∙ ap projected_by h

  pub projected_bad : (e : DogmaEffect) → get_dogma_effect k o.projected_effect ≡ some e → category_at e.category ≡ none → refuse (Category e.number) ∷ [] ≡ projected_moves k f o
  projected_bad e h g = sym (projected_some e h ∙ ap (projected_as e) g)

  pub projected_modifiers : (e : DogmaEffect) (c : EffectCategory) → get_dogma_effect k o.projected_effect ≡ some e → category_at e.category ≡ some c → flat (projected_modifier_moves f o e c) (modifiers_of k e) ≡ projected_moves k f o
  projected_modifiers e c h g = sym (projected_some e h ∙ ap (projected_as e) g)

-- ---- a buff

-- a buff's modifiers are the same in every fit
abbrev pub no_fit : Fit
no_fit = record { depth = 0; recording = 0; objects = []; bases = []; ids = []; buffs = []; asks = [] }

module _ (k : Book) (b : ProjectedBuff) where
  -- after its operation's test
  abbrev pub buff_after : DbuffCollection → Test EffectOperator → List Move
  buff_after r t = then t (λ op. flat (buff_modifier_moves b op) (span r.first_modifier r.modifiers k.modifiers))

  abbrev buff_by : Option DbuffCollection → List Move
  buff_by none = []
  buff_by (some r) = buff_after r (test_operation r.operation r.number)

  buff_by_lem : (x : Option DbuffCollection) → elim x [
    | none ↦ []
    | some r ↦ then (test_operation r.operation r.number) (λ op. flat (buff_modifier_moves b op) (span r.first_modifier r.modifiers k.modifiers))
  ] ≡ buff_by x
  buff_by_lem none = refl
  buff_by_lem (some r) = refl

  pub buff_none : get_dbuff_collection k b.id ≡ none → [] ≡ buff_moves k b
  unfolding buff_moves
  buff_none h = sym (buff_by_lem (get_dbuff_collection k b.id) ∙ ap buff_by h)

  pub buff_some : (r : DbuffCollection) {t : Test EffectOperator} → get_dbuff_collection k b.id ≡ some r → test_operation r.operation r.number ≡ t → buff_after r t ≡ buff_moves k b
  unfolding buff_moves
  buff_some r h g = sym (buff_by_lem (get_dbuff_collection k b.id) ∙ ap buff_by h ∙ ap (buff_after r) g)
