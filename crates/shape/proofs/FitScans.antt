-- Each table's goodness as one scan of its records: n records, passed up to record i, the last of which had the key last. Of any fit, read
-- from bytes or lent.
use Prim.Native.Nat.{ℕ, ◌+◌, ◌≤◌, ◌<◌}
use mathlib.Core.Path.{◌≡◌, refl, sym, ◌∙◌}
use mathlib.Core.Bool.{true}
use mathlib.Core.List.{List, map}
use lib.ListN.{length}
use lib.Dec.{ltb}
use lib.IntN.{ℤ}
use lib.Signed.{lt_z}
use Rattle.laws.specs.Lists.{ascends, span}
use Rattle.laws.specs.Floats.{finite}
use Rattle.laws.proofs.Every.{every_at}
use Rattle.laws.proofs.Spans.{span_length, span_at}
use Rattle.rules.specs.Sheet.{Fit}
use Rattle.rules.specs.Shape.{object_good, objects_good, buffs_good, asks_good}
use Rattle.rules.specs.declared.Item.{Item}
use Rattle.rules.specs.declared.BaseAttribute.{BaseAttribute}
use Rattle.rules.proofs.Verdicts.{each_good, bases_inside}
use Rattle.info.specs.Sound.{Nth}
use Rattle.shape.proofs.Scans.{Scan, scan_all, in_order, key_of, keys_scan, ascends_chain, Each, each_start, standing, char_past, stand_scan}

module _ (f : Fit) where
  abbrev pub ObjectScan : ℕ → ℕ → ℕ → Type 0
  ObjectScan n i last =
      Scan (standing (λ o. o.kind) (object_good f)) (key_of (λ o. o.kind)) char_past
      (objects_good f) f.objects n i last

  pub objects_start : {n : ℕ} → length f.objects ≡ n → ObjectScan n 0 0
  unfolding objects_good
  objects_start e = scan_all e (stand_scan _ _ _)

  -- n base attributes from the first on
  abbrev pub RangeScan : ℕ → ℕ → ℕ → ℤ → Type 0
  RangeScan first n i last =
      Scan (in_order lt_z (λ r. r.attribute_id) (λ r. true)) (key_of (λ r. r.attribute_id)) (λ s. true)
      (ascends (map (λ r. r.attribute_id) (span first n f.bases))) (span first n f.bases) n i last

  module _ (first n : ℕ) (h : first + n ≤ length f.bases) where
    pub range_start : {d : ℤ} → RangeScan first n 0 d
    range_start {d} = scan_all (span_length first n f.bases h) (keys_scan lt_z _ _ ascends_chain (λ x. refl) d _)

    pub range_nth : {i : ℕ} {x : BaseAttribute} → i < n → Nth f.bases (first + i) x → Nth (span first n f.bases) i x
    range_nth {i} l nth d = nth d ∙ sym (span_at first n f.bases i d l)

  -- an object's own range
  pub range_same : {first n first' n' : ℕ} → first ≡ first' → n ≡ n'
      → ascends (map (λ r. r.attribute_id) (span first n f.bases)) ≡ ascends (map (λ r. r.attribute_id) (span first' n' f.bases))
  range_same p q = rw (p, q)

  pub range_held : {i first count : ℕ} {o : Item} → objects_good f ≡ true → i < length f.objects → Nth f.objects i o → first ≡ o.first_attribute
      → count ≡ o.attributes → first + count ≤ length f.bases
  range_held {i} {first} {count} {o} good h nth p q =
      rw (p, q) (bases_inside f o (rw (← (nth o)) at (every_at (object_good f) f.objects i o (each_good f good) h)))

  pub ask_same : {o n x : ℕ} → o ≡ x → n ≡ length f.objects → ltb o n ≡ ltb x (length f.objects)
  ask_same p q = rw (p, q)

  pub buffs_start : {n : ℕ} → length f.buffs ≡ n → Each (λ r. finite r.value) (buffs_good f) f.buffs n 0
  unfolding buffs_good
  buffs_start e = each_start _ e

  pub asks_start : {n : ℕ} → length f.asks ≡ n → Each (λ a. ltb a.object (length f.objects)) (asks_good f) f.asks n 0
  unfolding asks_good
  asks_start e = each_start _ e
