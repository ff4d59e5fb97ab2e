-- Each table's goodness as one scan of its records: n records, passed up to record i, the last of which had the key last. Of any book, read
-- from bytes or lent.
use Prim.Native.Nat.{ℕ}
use mathlib.Core.Path.{◌≡◌}
use mathlib.Core.Bool.{true, ◌&&◌}
use lib.ListN.{length}
use lib.Dec.{leb}
use lib.IntN.{ℤ}
use lib.Signed.{lt_z, le_z}
use Rattle.laws.specs.Floats.{finite}
use Rattle.rules.specs.Sheet.{Book}
use Rattle.rules.specs.Shape.{attributes_good, effects_good, type_effects_good, buff_collections_good, inside}
use Rattle.shape.proofs.Scans.{Scan, scan_all, in_order, key_of, order_scan, ascends_chain, not_descending_chain}

module _ (k : Book) where
  abbrev pub AttributeScan : ℕ → ℕ → ℤ → Type 0
  AttributeScan n i last =
      Scan (in_order lt_z (λ r. r.id) (λ r. leb r.flags 3 && finite r.default_value)) (key_of (λ r. r.id)) (λ s. true)
      (attributes_good k) k.attributes n i last

  pub attributes_start : {n : ℕ} {d : ℤ} → length k.attributes ≡ n → AttributeScan n 0 d
  unfolding attributes_good
  attributes_start {n} {d} e = scan_all e (order_scan lt_z _ _ ascends_chain d _)

  -- there are m modifiers
  abbrev pub EffectScan : ℕ → ℕ → ℕ → ℤ → Type 0
  EffectScan n m i last =
      Scan (in_order lt_z (λ r. r.id) (λ r. inside r.first_modifier r.modifiers m)) (key_of (λ r. r.id)) (λ s. true)
      (effects_good k) k.effects n i last

  pub effects_start : {n m : ℕ} {d : ℤ} → length k.effects ≡ n → m ≡ length k.modifiers → EffectScan n m 0 d
  unfolding effects_good
  effects_start {n} {m} {d} e f = rw f (scan_all e (order_scan lt_z _ _ ascends_chain d _))

  abbrev pub TypeEffectScan : ℕ → ℕ → ℤ → Type 0
  TypeEffectScan n i last =
      Scan (in_order le_z (λ r. r.type_id) (λ r. leb r.is_default 1)) (key_of (λ r. r.type_id)) (λ s. true)
      (type_effects_good k) k.type_effects n i last

  pub type_effects_start : {n : ℕ} {d : ℤ} → length k.type_effects ≡ n → TypeEffectScan n 0 d
  unfolding type_effects_good
  type_effects_start {n} {d} e = scan_all e (order_scan le_z _ _ not_descending_chain d _)

  abbrev pub BuffCollectionScan : ℕ → ℕ → ℕ → ℤ → Type 0
  BuffCollectionScan n m i last =
      Scan (in_order lt_z (λ r. r.id) (λ r. inside r.first_modifier r.modifiers m)) (key_of (λ r. r.id)) (λ s. true)
      (buff_collections_good k) k.buff_collections n i last

  pub buff_collections_start : {n m : ℕ} {d : ℤ} → length k.buff_collections ≡ n → m ≡ length k.modifiers → BuffCollectionScan n m 0 d
  unfolding buff_collections_good
  buff_collections_start {n} {m} {d} e f = rw f (scan_all e (order_scan lt_z _ _ ascends_chain d _))
