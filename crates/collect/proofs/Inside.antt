-- What the records of a sound sheet point at lies inside its table.
use Prim.Native.Nat.{ℕ, ◌+◌, ◌≤◌}
use mathlib.Core.Path.{◌≡◌, sym, ap, ◌∙◌}
use mathlib.Core.Bool.{Bool, true, false, ◌&&◌, ◌||◌}
use mathlib.Core.List.{List, [], ◌∷◌, map}
use mathlib.Core.Option.{Option, none, some}
use borrow.Author.Tests.{leb-true}
use lib.Dec.{leb, eqb}
use lib.IntN.{ℤ}
use lib.ListN.{length}
use Rattle.laws.specs.Lists.{eq_z, every?, first, or_else, ascends}
use Rattle.laws.proofs.Bools.{and_left, and_right}
use Rattle.laws.proofs.Every.{every_at}
use Rattle.rules.specs.Bytes.{count_of}
use Rattle.rules.specs.Sheet.{Book, Fit, book_of, fit_of}
use Rattle.rules.specs.Shape.{book_bad, effects_good, buff_collections_good, object_good, inside}
use Rattle.rules.specs.Info.{get_dogma_effect, get_dbuff_collection}
use Rattle.rules.specs.declared.DogmaEffect.{DogmaEffect}
use Rattle.rules.specs.declared.DbuffCollection.{DbuffCollection}
use Rattle.rules.specs.declared.Item.{Item}
use Rattle.rules.proofs.Verdicts.{effects_good_lem, buff_collections_good_lem, each_object_good}
use Rattle.info.specs.Sound.{SoundBook, SoundFit, Based}
use Rattle.info.proofs.Elements.{modifiers_length, objects_length, ids_length}
use Rattle.info.proofs.Bases.{based}
use Rattle.collect.specs.OfFit.{OfFit}

module _ {A : Type 0} (p q : A → Bool) where
  pick : (t : Bool) (y x : A) (o : Option A) → or_else t y o ≡ some x → q y ≡ true → (o ≡ some x → q x ≡ true) → q x ≡ true
  pick true y x o e h k =
      let same : y ≡ x = cc in
      ap q (sym same) ∙ h
  pick false y x o e h k = k e

  -- what holds of every element holds of the first that passes a test
  first_every : (xs : List A) (x : A) → first p xs ≡ some x → every? q xs ≡ true → q x ≡ true
  first_every [] x e h = cc
  first_every (y ∷ ys) x e h =
      pick (p y) y x (first p ys) e (and_left (q y) (every? q ys) h) (λ g. first_every ys x g (and_right (q y) (every? q ys) h))

-- the modifiers of an effect, of a buff's collection
module _ (k : Book) (good : book_bad k ≡ none) where
  abbrev effect_in : DogmaEffect → Bool
  effect_in r = inside r.first_modifier r.modifiers (length k.modifiers)

  abbrev collection_in : DbuffCollection → Bool
  collection_in r = inside r.first_modifier r.modifiers (length k.modifiers)

  each_effect : every? effect_in k.effects ≡ true
  unfolding effects_good
  each_effect = and_right (ascends (map (λ r. r.id) k.effects)) (every? effect_in k.effects) (effects_good_lem k good)

  each_collection : every? collection_in k.buff_collections ≡ true
  unfolding buff_collections_good
  each_collection = and_right (ascends (map (λ r. r.id) k.buff_collections)) (every? collection_in k.buff_collections) (buff_collections_good_lem k good)

  effect_in_lem : (id : ℤ) (e : DogmaEffect) → get_dogma_effect k id ≡ some e → e.first_modifier + e.modifiers ≤ length k.modifiers
  unfolding get_dogma_effect
  effect_in_lem id e f =
      leb-true (e.first_modifier + e.modifiers) (length k.modifiers)
      (first_every (λ (r : DogmaEffect). eq_z r.id id) effect_in k.effects e f each_effect)

  collection_in_lem : (id : ℤ) (r : DbuffCollection) → get_dbuff_collection k id ≡ some r → r.first_modifier + r.modifiers ≤ length k.modifiers
  unfolding get_dbuff_collection
  collection_in_lem id r f =
      leb-true (r.first_modifier + r.modifiers) (length k.modifiers)
      (first_every (λ (x : DbuffCollection). eq_z x.id id) collection_in k.buff_collections r f each_collection)

module _ (b : List ℕ) (pairs : List (List ℕ)) (s : SoundBook b pairs) where
  pub effect_inside : (id : ℤ) (e : DogmaEffect) → get_dogma_effect (book_of b pairs) id ≡ some e → e.first_modifier + e.modifiers ≤ count_of pairs 3
  effect_inside id e f = rw (modifiers_length b pairs) at (effect_in_lem (book_of b pairs) s.good id e f)

  pub collection_inside : (id : ℤ) (r : DbuffCollection) → get_dbuff_collection (book_of b pairs) id ≡ some r → r.first_modifier + r.modifiers ≤ count_of pairs 3
  collection_inside id r f = rw (modifiers_length b pairs) at (collection_in_lem (book_of b pairs) s.good id r f)

-- the base attributes, abilities and side effects of an object
last_two : (x y z : Bool) → x && y && z ≡ true → (y ≡ true) × (z ≡ true)
last_two x y z e = (and_right x y (and_left (x && y) z e), and_right (x && y) z e)

module _ (f : Fit) (o : Item) where
  abbrev before_ids : Bool
  before_ids =
      leb o.slot 11 && (eqb o.kind 3 || eqb o.slot 0) && leb o.state 4 && leb o.max_state 4 && leb o.flags 3
      && inside o.first_attribute o.attributes (length f.bases)

  in_ids : object_good f o ≡ true → (inside o.first_ability o.abilities (length f.ids) ≡ true) × (inside o.first_side_effect o.side_effects (length f.ids) ≡ true)
  unfolding object_good
  in_ids e = last_two before_ids (inside o.first_ability o.abilities (length f.ids)) (inside o.first_side_effect o.side_effects (length f.ids)) e

module _ (b : List ℕ) (pairs : List (List ℕ)) (s : SoundFit b pairs) (o : Item) (n : OfFit (fit_of b pairs) o) where
  abbrev f : Fit
  f = fit_of b pairs

  pub stands_based : Based (fit_of b pairs) o
  stands_based = based b pairs o o.number s (rw (objects_length b pairs) at n.few) n.is

  stands_good : object_good f o ≡ true
  stands_good = ap (object_good f) (n.is o) ∙ every_at (object_good f) f.objects o.number o (each_object_good f s.good) n.few

  pub abilities_inside : o.first_ability + o.abilities ≤ count_of pairs 8
  abilities_inside = rw (ids_length b pairs) at (leb-true (o.first_ability + o.abilities) (length f.ids) (in_ids f o stands_good).0)

  pub side_effects_inside : o.first_side_effect + o.side_effects ≤ count_of pairs 8
  side_effects_inside = rw (ids_length b pairs) at (leb-true (o.first_side_effect + o.side_effects) (length f.ids) (in_ids f o stands_good).1)
