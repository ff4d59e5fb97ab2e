-- What follows for each table where no table is bad.
use Prim.Native.Nat.{ℕ, zero, suc, ◌+◌, ◌≤◌}
use native.Mathlib.Omega.{arith}
use mathlib.Core.Path.{◌≡◌, refl}
use mathlib.Core.Bool.{Bool, true, false, ◌&&◌, ◌||◌}
use mathlib.Core.List.{List, [], ◌∷◌, map}
use mathlib.Core.Option.{none}
use lib.Dec.{leb, eqb}
use borrow.Author.Tests.{leb-true}
use Rattle.rules.specs.declared.Item.{Item}
use lib.ListN.{length, get_or}
use Rattle.laws.specs.Floats.{finite}
use Rattle.laws.specs.Lists.{every?, ascends, not_descending}
use Rattle.laws.proofs.Bools.{and_left, and_right}
use Rattle.laws.proofs.Ascending.{ascends-not_descending}
use Rattle.rules.specs.Sheet.{Book, Fit, bases_of}
use Rattle.rules.specs.Shape.{inside, stand, first_bad, book_bad, fit_bad, attributes_good, effects_good, type_effects_good, buff_collections_good, objects_good, object_good, bases_good, buffs_good, asks_good}

good_at : (t : ℕ) (vs : List Bool) → first_bad t vs ≡ none → (i : ℕ) → get_or vs i true ≡ true
good_at t [] e i = refl
good_at t (false ∷ r) e i = let z : ◌≡◌ {A = ℕ} 0 1 = cc in absurd (omega arith)
good_at t (true ∷ r) e zero = refl
good_at t (true ∷ r) e (suc i) = good_at (suc t) r e i

module _ (k : Book) (e : book_bad k ≡ none) where
  book_at_lem : (i : ℕ) → get_or (attributes_good k ∷ effects_good k ∷ true ∷ type_effects_good k ∷ buff_collections_good k ∷ []) i true ≡ true
  unfolding book_bad
  book_at_lem = good_at 1 (attributes_good k ∷ effects_good k ∷ true ∷ type_effects_good k ∷ buff_collections_good k ∷ []) e

  pub attributes_good_lem : attributes_good k ≡ true
  attributes_good_lem = book_at_lem 0

  pub effects_good_lem : effects_good k ≡ true
  effects_good_lem = book_at_lem 1

  pub type_effects_good_lem : type_effects_good k ≡ true
  type_effects_good_lem = book_at_lem 3

  pub buff_collections_good_lem : buff_collections_good k ≡ true
  buff_collections_good_lem = book_at_lem 4

  -- the keys that look-ups go by
  pub attributes_ordered : not_descending (map (λ r. r.id) k.attributes) ≡ true
  unfolding attributes_good
  attributes_ordered = ascends-not_descending (map (λ r. r.id) k.attributes) (and_left (ascends (map (λ r. r.id) k.attributes)) (every? (λ r. leb r.flags 3 && finite r.default_value) k.attributes) attributes_good_lem)

  pub effects_ordered : not_descending (map (λ r. r.id) k.effects) ≡ true
  unfolding effects_good
  effects_ordered = ascends-not_descending (map (λ r. r.id) k.effects) (and_left (ascends (map (λ r. r.id) k.effects)) (every? (λ r. inside r.first_modifier r.modifiers (length k.modifiers)) k.effects) effects_good_lem)

  pub type_effects_ordered : not_descending (map (λ r. r.type_id) k.type_effects) ≡ true
  unfolding type_effects_good
  type_effects_ordered = and_left (not_descending (map (λ r. r.type_id) k.type_effects)) (every? (λ r. leb r.is_default 1) k.type_effects) type_effects_good_lem

  pub buff_collections_ordered : not_descending (map (λ r. r.id) k.buff_collections) ≡ true
  unfolding buff_collections_good
  buff_collections_ordered = ascends-not_descending (map (λ r. r.id) k.buff_collections) (and_left (ascends (map (λ r. r.id) k.buff_collections)) (every? (λ r. inside r.first_modifier r.modifiers (length k.modifiers)) k.buff_collections) buff_collections_good_lem)

pub each_good : (f : Fit) → objects_good f ≡ true → every? (object_good f) f.objects ≡ true
unfolding objects_good
each_good f e = and_right (stand (map (λ o. o.kind) f.objects)) (every? (object_good f) f.objects) e

module _ (f : Fit) (e : fit_bad f ≡ none) where
  fit_at : (i : ℕ) → get_or (objects_good f ∷ bases_good f ∷ true ∷ buffs_good f ∷ asks_good f ∷ []) i true ≡ true
  unfolding fit_bad
  fit_at = good_at 6 (objects_good f ∷ bases_good f ∷ true ∷ buffs_good f ∷ asks_good f ∷ []) e

  pub objects_good_lem : objects_good f ≡ true
  objects_good_lem = fit_at 0

  pub bases_good_lem : bases_good f ≡ true
  bases_good_lem = fit_at 1

  pub buffs_good_lem : buffs_good f ≡ true
  buffs_good_lem = fit_at 3

  pub asks_good_lem : asks_good f ≡ true
  asks_good_lem = fit_at 4

  pub each_object_good : every? (object_good f) f.objects ≡ true
  each_object_good = each_good f objects_good_lem

  pub each_bases_ascend : every? (λ o. ascends (map (λ r. r.attribute_id) (bases_of f o))) f.objects ≡ true
  unfolding bases_good
  each_bases_ascend = and_right (every? (λ r. finite r.value) f.bases) (every? (λ o. ascends (map (λ r. r.attribute_id) (bases_of f o))) f.objects) bases_good_lem

-- what a good object's ranges give
third : (x y z w : Bool) → x && y && z && w ≡ true → y ≡ true
third x y z w e = and_right x y (and_left (x && y) z (and_left (x && y && z) w e))

pub bases_inside : (f : Fit) (o : Item) → object_good f o ≡ true → o.first_attribute + o.attributes ≤ length f.bases
unfolding object_good
bases_inside f o e =
    leb-true (o.first_attribute + o.attributes) (length f.bases)
    (third
    (leb o.slot 11 && (eqb o.kind 3 || eqb o.slot 0) && leb o.state 4 && leb o.max_state 4 && leb o.flags 3)
    (inside o.first_attribute o.attributes (length f.bases))
    (inside o.first_ability o.abilities (length f.ids))
    (inside o.first_side_effect o.side_effects (length f.ids))
    e)
