-- The depth is read by the walk alone: collection, dispatch and what is valued are the same at any.
use Prim.Native.Nat.{ℕ}
use mathlib.Core.Path.{◌≡◌, refl, ap}
use mathlib.Core.List.{List, map}
use lib.IntN.{ℤ}
use Rattle.laws.specs.Lists.{eq_z, keep}
use Rattle.laws.proofs.Flat.{flat_same}
use Rattle.laws.proofs.Keep.{keep_same}
use Rattle.laws.proofs.Maps.{map_same}
use Rattle.rules.specs.Sheet.{Book, Fit}
use Rattle.rules.specs.Info.{get_base}
use Rattle.rules.specs.Item.{object}
use Rattle.rules.specs.States.{collected_states, states_of}
use Rattle.rules.specs.Collect.{taken_of, moves, fitted_moves, own_moves, effect_moves, found_moves, modifier_moves, test_domain, test_projected_domain, projected_modifier_moves, projected_moves}
use Rattle.rules.specs.Dispatch.{Key, source_type, source_category, requires, in_location, hit, Numbered, numbered, entry, arrival, base_keys, hit_keys, hits_on, ids_of, row_of, rows}
use Rattle.rules.specs.Outcome.{collected_in, rows_in, world_of}
use Rattle.rules.specs.declared.Item.{Item}
use Rattle.rules.specs.declared.Modifier.{Modifier}
use Rattle.rules.specs.declared.Modifier.TheVariants.{LocationRequiredSkillModifier, LocationGroupModifier, LocationModifier, OwnerRequiredSkillModifier, ItemModifier}
use Rattle.rules.specs.declared.Origin.{Origin}
use Rattle.rules.specs.declared.Origin.TheVariants as origin
use Rattle.rules.specs.declared.Pass2Effect.{Pass2Effect}
use Rattle.promises.specs.Unless.{with_depth}

module _ (k : Book) (f : Fit) (d : ℕ) where
  pub moves_same : moves k (with_depth d f) ≡ moves k f
  unfolding moves fitted_moves own_moves effect_moves found_moves modifier_moves test_domain test_projected_domain projected_modifier_moves projected_moves get_base
  moves_same = refl

  pub bases_same : base_keys (with_depth d f) ≡ base_keys f
  unfolding base_keys
  bases_same = refl

  pub collected_same : collected_in k (with_depth d f) ≡ collected_in k f
  unfolding collected_in
  collected_same = ap taken_of moves_same

  type_same : (g : Origin) → source_type (with_depth d f) g ≡ source_type f g
  type_same (origin.Effect e o c a) = refl
  type_same (origin.Buff b v) = refl

  category_same : (g : Origin) → source_category (with_depth d f) g ≡ source_category f g
  category_same (origin.Effect e o c a) = refl
  category_same (origin.Buff b v) = refl

  hit_same : (t : Pass2Effect) (o : Item) → hit k (with_depth d f) t o ≡ hit k f t o
  unfolding hit in_location requires
  hit_same t o = by t.modifier refl
    where
      by : (m : Modifier) → t.modifier ≡ m → hit k (with_depth d f) t o ≡ hit k f t o
      by ItemModifier e = rw e refl
      by LocationModifier e = rw e refl
      by (LocationGroupModifier g) e = rw e refl
      by (LocationRequiredSkillModifier s) e = rw (e, type_same t.origin) refl
      by (OwnerRequiredSkillModifier s) e = rw (e, type_same t.origin) refl

  entry_same : (o : Item) (n : Numbered) → entry k (with_depth d f) o n ≡ entry k f o n
  unfolding entry
  entry_same o n = rw (category_same n.effect.origin) refl

  module _ (ts : List Pass2Effect) where
    pub hits_same : hit_keys k (with_depth d f) ts ≡ hit_keys k f ts
    unfolding hit_keys
    hits_same = flat_same (λ t. map (at t) (keep (hit k (with_depth d f) t) (arrival f t))) (λ t. map (at t) (keep (hit k f t) (arrival f t))) (λ t. ap (map (at t)) (keep_same (hit k (with_depth d f) t) (hit k f t) (hit_same t) (arrival f t))) ts
      where
        at : Pass2Effect → Item → Key
        at t o = record { object = o.number; id = t.target_attribute_id }

    on_same : (o : Item) → hits_on k (with_depth d f) ts o ≡ hits_on k f ts o
    unfolding hits_on
    on_same o = keep_same (λ n. hit k (with_depth d f) n.effect o) (λ n. hit k f n.effect o) (λ n. hit_same n.effect o) (numbered 0 ts)

    ids_same : (o : Item) → ids_of k (with_depth d f) ts o ≡ ids_of k f ts o
    unfolding ids_of
    ids_same o = rw (on_same o) refl

    row_same_lem : (o : Item) (a : ℤ) → row_of k (with_depth d f) ts o a ≡ row_of k f ts o a
    unfolding row_of get_base
    row_same_lem o a = rw (on_same o, map_same (entry k (with_depth d f) o) (entry k f o) (entry_same o) (keep (λ (n : Numbered). eq_z n.effect.target_attribute_id a) (hits_on k f ts o))) refl

    rows_of : rows k (with_depth d f) ts ≡ rows k f ts
    unfolding rows
    rows_of = flat_same (λ o. map (row_of k (with_depth d f) ts o) (ids_of k (with_depth d f) ts o)) (λ o. map (row_of k f ts o) (ids_of k f ts o)) (λ o. of o) f.objects
      where
        of : (o : Item) → map (row_of k (with_depth d f) ts o) (ids_of k (with_depth d f) ts o) ≡ map (row_of k f ts o) (ids_of k f ts o)
        of o = rw (ids_same o) (map_same (row_of k (with_depth d f) ts o) (row_of k f ts o) (row_same_lem o) (ids_of k f ts o))

  pub rows_same : rows_in k (with_depth d f) ≡ rows_in k f
  unfolding rows_in
  rows_same = rw collected_same (rows_of (collected_in k f))

  pub states_same : map (states_of k (with_depth d f)) f.objects ≡ map (states_of k f) f.objects
  unfolding states_of collected_states
  states_same = refl

  pub world_same : (room : ℕ) → world_of k (with_depth d f) room ≡ world_of k f room
  unfolding world_of
  world_same room = rw (rows_same, states_same) refl
