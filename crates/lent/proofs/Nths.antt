-- Record i of a lent table is element i of the table as reading has it, and there are as many.
use Prim.Native.Nat.{ℕ, ◌<◌}
use native.Mathlib.Nat.{zero-add}
use mathlib.Core.Path.{◌≡◌, refl, sym, ap, ◌∙◌}
use mathlib.Core.List.{List, [], map}
use lib.ListN.{length}
use lib.Ieee.{Float}
use Rattle.laws.specs.Lists.{ascends, span}
use Rattle.laws.proofs.From.{table_at, table-length}
use Rattle.rules.specs.declared.DogmaAttribute.{DogmaAttribute}
use Rattle.rules.specs.declared.DogmaEffect.{DogmaEffect}
use Rattle.rules.specs.declared.TypeDogmaEffect.{TypeDogmaEffect}
use Rattle.rules.specs.declared.DbuffCollection.{DbuffCollection}
use Rattle.rules.specs.declared.Item.{Item}
use Rattle.rules.specs.declared.BaseAttribute.{BaseAttribute}
use Rattle.rules.specs.declared.Ask.{Ask}
use Rattle.info.specs.Sound.{Nth}
use Rattle.lent.specs.Alone.{bases_alone}
use Rattle.tables.specs.Tables.{Tables, all, row, value, number, attribute_of, effect_of, type_effect_of, buff_collection_of, object_of, base_of, ask_of, book_lent, fit_lent}

module _ {A : Type 0} (f : ℕ → A) (n : ℕ) where
  all-nth : {i : ℕ} {x : A} → i < n → x ≡ f i → Nth (all f n) i x
  all-nth {i} h e d = e ∙ sym (table_at f 0 n i d h ∙ ap f (zero-add i))

  all_long : length (all f n) ≡ n
  all_long = table-length f 0 n

module _ (t : Tables) where
  pub attribute_nth : {i : ℕ} {x : DogmaAttribute} → i < length t.attributes → x ≡ attribute_of (row t.attributes i) (value t.defaults i) → Nth (book_lent t).attributes i x
  unfolding book_lent
  attribute_nth = all-nth (λ k. attribute_of (row t.attributes k) (value t.defaults k)) (length t.attributes)

  pub attributes_long : length (book_lent t).attributes ≡ length t.attributes
  unfolding book_lent
  attributes_long = all_long (λ k. attribute_of (row t.attributes k) (value t.defaults k)) (length t.attributes)

  pub effect_nth : {i : ℕ} {x : DogmaEffect} → i < length t.effects → x ≡ effect_of i (row t.effects i) → Nth (book_lent t).effects i x
  unfolding book_lent
  effect_nth = all-nth (λ k. effect_of k (row t.effects k)) (length t.effects)

  pub effects_long : length (book_lent t).effects ≡ length t.effects
  unfolding book_lent
  effects_long = all_long (λ k. effect_of k (row t.effects k)) (length t.effects)

  pub type_effect_nth : {i : ℕ} {x : TypeDogmaEffect} → i < length t.type_effects → x ≡ type_effect_of (row t.type_effects i) → Nth (book_lent t).type_effects i x
  unfolding book_lent
  type_effect_nth = all-nth (λ k. type_effect_of (row t.type_effects k)) (length t.type_effects)

  pub type_effects_long : length (book_lent t).type_effects ≡ length t.type_effects
  unfolding book_lent
  type_effects_long = all_long (λ k. type_effect_of (row t.type_effects k)) (length t.type_effects)

  pub buff_collection_nth : {i : ℕ} {x : DbuffCollection} → i < length t.buff_collections → x ≡ buff_collection_of i (row t.buff_collections i) → Nth (book_lent t).buff_collections i x
  unfolding book_lent
  buff_collection_nth = all-nth (λ k. buff_collection_of k (row t.buff_collections k)) (length t.buff_collections)

  pub buff_collections_long : length (book_lent t).buff_collections ≡ length t.buff_collections
  unfolding book_lent
  buff_collections_long = all_long (λ k. buff_collection_of k (row t.buff_collections k)) (length t.buff_collections)

  pub object-nth : {i : ℕ} {x : Item} → i < length t.objects → x ≡ object_of i (row t.objects i) → Nth (fit_lent t).objects i x
  unfolding fit_lent
  object-nth = all-nth (λ k. object_of k (row t.objects k)) (length t.objects)

  pub objects_long : length (fit_lent t).objects ≡ length t.objects
  unfolding fit_lent
  objects_long = all_long (λ k. object_of k (row t.objects k)) (length t.objects)

  pub base_nth : {i : ℕ} {x : BaseAttribute} → i < length t.base_attributes → x ≡ base_of (number t.base_attributes i) (value t.base_values i) → Nth (fit_lent t).bases i x
  unfolding fit_lent
  base_nth = all-nth (λ k. base_of (number t.base_attributes k) (value t.base_values k)) (length t.base_attributes)

  pub bases_long : length (fit_lent t).bases ≡ length t.base_attributes
  unfolding fit_lent
  bases_long = all_long (λ k. base_of (number t.base_attributes k) (value t.base_values k)) (length t.base_attributes)

  pub ask_nth : {i : ℕ} {x : Ask} → i < length t.asks → x ≡ ask_of (row t.asks i) → Nth (fit_lent t).asks i x
  unfolding fit_lent
  ask_nth = all-nth (λ k. ask_of (row t.asks k)) (length t.asks)

  pub asks_long : length (fit_lent t).asks ≡ length t.asks
  unfolding fit_lent
  asks_long = all_long (λ k. ask_of (row t.asks k)) (length t.asks)

  pub modifiers_long : length (book_lent t).modifiers ≡ length t.modifiers
  unfolding book_lent
  modifiers_long = all_long _ (length t.modifiers)

  pub ids_long : length (fit_lent t).ids ≡ length t.ids
  unfolding fit_lent
  ids_long = all_long _ (length t.ids)

-- the base attributes of an object, wherever objects stand
pub same_bases : (o : List (List ℕ)) (v : List ℕ) (w : List Float) {first n first' n' : ℕ} → first ≡ first' → n ≡ n'
    → ascends (map (λ r. r.attribute_id) (span first n (bases_alone [] v w).bases)) ≡ ascends (map (λ r. r.attribute_id) (span first' n' (bases_alone o v w).bases))
unfolding fit_lent
same_bases o v w p q = rw (p, q) refl
