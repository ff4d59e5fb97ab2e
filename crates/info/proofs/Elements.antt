-- Records as the code reads them are those of the tables, and how long the tables are.
use Prim.Native.Nat.{ℕ, ◌+◌, ◌*◌, ◌-◌, ◌≤◌, ◌<◌}
use native.Mathlib.Nat.{add-sub_cancel_left}
use native.Mathlib.Omega.{arith}
use mathlib.Core.Path.{◌≡◌, refl, ap, ◌∙◌}
use mathlib.Core.List.{List}
use lib.IntN.{ℤ}
use lib.ListN.{length, take, drop, length-take, length-drop}
use mir.Syntax.{w32}
use mir.Val.{SFits, to_z, of_z}
use mir.ValLaws.{to_z-of_z}
use Rattle.rules.specs.Bytes.{count_of, offset_of, width_of}
use Rattle.rules.specs.Sheet.{table, book_of, fit_of, attribute_from, effect_from, modifier_from, type_effect_from, buff_collection_from, object_from, base_from, id_from, buff_from, ask_from}
use Rattle.rules.proofs.Tables.{table_at, table-length}
use Rattle.info.specs.Sound.{Nth}

pub part : (b : List ℕ) (s w : ℕ) → s + w ≤ length b → (take (s + w - s) (drop s b) ≡ take w (drop s b)) × (length (take (s + w - s) (drop s b)) ≡ w)
part b s w h = (rw add-sub_cancel_left refl, simp (length-take, length-drop) (omega arith))

-- a signed number that was stored is the one that was read
pub kept : {x v : ℤ} → SFits w32 x → x ≡ v → to_z w32 (of_z w32 x) ≡ v
kept {x} f e = to_z-of_z w32 x f ∙ e

-- what was made of the bytes r of record i is element i of its table
pub element : {A : Type 0} (read : ℕ → List ℕ → A) (t : ℕ) (b : List ℕ) (pairs : List (List ℕ)) (i : ℕ) {r : List ℕ} {at : ℕ} {x : A} → i < count_of pairs t → r ≡ take (width_of t) (drop (at + width_of t * i) b) → at ≡ offset_of pairs t → x ≡ read i r → Nth (table read t b pairs) i x
element read t b pairs i h e a m d =
    m ∙ ap (read i) (e ∙ ap (λ (at : ℕ). take (width_of t) (drop (at + width_of t * i) b)) a) ∙ table_at read t b pairs i h d

module _ (b : List ℕ) (pairs : List (List ℕ)) where
  pub attributes_length : length (book_of b pairs).attributes ≡ count_of pairs 1
  unfolding book_of
  attributes_length = table-length attribute_from 1 b pairs

  pub effects_length : length (book_of b pairs).effects ≡ count_of pairs 2
  unfolding book_of
  effects_length = table-length effect_from 2 b pairs

  pub modifiers_length : length (book_of b pairs).modifiers ≡ count_of pairs 3
  unfolding book_of
  modifiers_length = table-length modifier_from 3 b pairs

  pub type_effects_length : length (book_of b pairs).type_effects ≡ count_of pairs 4
  unfolding book_of
  type_effects_length = table-length type_effect_from 4 b pairs

  pub buff_collections_length : length (book_of b pairs).buff_collections ≡ count_of pairs 5
  unfolding book_of
  buff_collections_length = table-length buff_collection_from 5 b pairs

  pub objects_length : length (fit_of b pairs).objects ≡ count_of pairs 6
  unfolding fit_of
  objects_length = table-length object_from 6 b pairs

  pub bases_length : length (fit_of b pairs).bases ≡ count_of pairs 7
  unfolding fit_of
  bases_length = table-length base_from 7 b pairs

  pub ids_length : length (fit_of b pairs).ids ≡ count_of pairs 8
  unfolding fit_of
  ids_length = table-length id_from 8 b pairs

  pub buffs_length : length (fit_of b pairs).buffs ≡ count_of pairs 9
  unfolding fit_of
  buffs_length = table-length buff_from 9 b pairs

  pub asks_length : length (fit_of b pairs).asks ≡ count_of pairs 10
  unfolding fit_of
  asks_length = table-length ask_from 10 b pairs
