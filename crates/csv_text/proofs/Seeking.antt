-- The search among labels, a half at a time, and what it found.
use Prim.Native.Nat.{ℕ, zero, suc, ◌+◌, ◌≤◌, ◌<◌}
use native.Mathlib.Nat.{not-suc-le-zero, le_of_suc-le-suc}
use native.Mathlib.Omega.{arith}
use mathlib.Core.Path.{◌≡◌, sym, ap, subst, ◌∙◌}
use mathlib.Core.Bool.{true, false, ◌&&◌}
use mathlib.Core.List.{List, [], ◌∷◌, map}
use mathlib.Core.Option.{Option, none}
use lib.Dec.{leb}
use lib.IntN.{ℤ}
use lib.ListN.{length, get_or, drop, length-map, length-take}
use lib.Signed.{lt_z}
use mir.Syntax.{w32}
use mir.Val.{SFits, to_z, of_z}
use mir.Facts.{to_z-of_z}
use borrow.Author.Tests.{leb-true}
use Rattle.std.specs.List.Sorted.{IsPartitionPoint, IsPartitionedBy}
use Rattle.std.proofs.lemmas.List.{get_or_default}
use Rattle.laws.specs.Lists.{eq_z, every?, ascends, first}
use Rattle.laws.proofs.Ascending.{ascends_head, ascends_tail, ascends-not_descending}
use Rattle.laws.proofs.Bools.{and_left, and_right}
use Rattle.laws.proofs.Every.{every_at}
use Rattle.laws.proofs.First.{map_some, first-at, first-map}
use Rattle.laws.proofs.Maps.{map_at}
use Rattle.laws.proofs.Order.{eq_z_true, lt_z_apart}
use Rattle.laws.proofs.Signs.{tested_same, tested-apart}
use Rattle.laws.proofs.Search.{Between, Falls, less_than, has_key, falls_less, lower_missing, lower_past}
use Rattle.csv_text.specs.Labels.{id_of, first_of, count_of, bytes_of, allowed, label_good, label_bad, Label, labels_of, text_or, label_of}
use Rattle.csv_text.specs.Sought.{FirstNotBelow}
use Rattle.csv_text.proofs.Judging.{all_good}

module _ (rows : List (List ℕ)) (a : ℤ) where
  -- what the library's search asks, and what it gives
  pub falls_by : Falls (less_than id_of a) rows [] → IsPartitionedBy (less_than id_of a) rows
  falls_by f i j d l h e =
      let P : List ℕ → Type 0 = λ r. less_than id_of a r ≡ true in
      subst P (get_or_default rows i [] d (omega arith)) (f.before i j l h (subst P (get_or_default rows j d [] h) e))

  pub lower_at : {i : ℕ} → i ≤ length rows → IsPartitionPoint (λ r. less_than id_of a r ≡ true) (λ r. less_than id_of a r ≡ false) rows i → Between (less_than id_of a) rows [] i i
  lower_at h p = record { within = omega arith; inside = h; below = λ k l. p.0 k [] (omega arith) l; above = λ k l m. p.1 k [] l m }

-- what was found for the bits of an id was found for the id
pub lower_own : (rows : List (List ℕ)) (a : ℤ) {i : ℕ} → SFits w32 a → FirstNotBelow rows (to_z w32 (of_z w32 a)) i → FirstNotBelow rows a i
lower_own rows a {i} f w = subst (λ (z : ℤ). FirstNotBelow rows z i) (to_z-of_z f) w

-- a later id is greater
ascends_far : (rows : List (List ℕ)) → ascends (map id_of rows) ≡ true → (k i : ℕ) → k < i → i < length rows → lt_z (id_of (get_or rows k [])) (id_of (get_or rows i [])) ≡ true
ascends_far [] o k i l h = absurd (not-suc-le-zero h)
ascends_far (r ∷ rs) o k zero l h = absurd (not-suc-le-zero l)
ascends_far (r ∷ rs) o zero (suc i) l h =
    sym (ap (lt_z (id_of r)) (map_at id_of rs i [] (id_of []) (le_of_suc-le-suc h)))
    ∙ every_at (lt_z (id_of r)) (map id_of rs) i (id_of []) (ascends_head (id_of r) (map id_of rs) o) (rw (length-map rs id_of) (le_of_suc-le-suc h))
ascends_far (r ∷ rs) o (suc k) (suc i) l h = ascends_far rs (ascends_tail (id_of r) (map id_of rs) o) k i (le_of_suc-le-suc l) (le_of_suc-le-suc h)

-- ---- what stands at the bound

module _ (bytes : List ℕ) (rows : List (List ℕ)) (G : label_bad bytes rows ≡ none) (a : ℤ) where
  abbrev label : List ℕ → Label
  label r = record { id = id_of r; text = bytes_of bytes r }

  -- an attribute's label by the row that has its id
  by_row : {o : Option (List ℕ)} → first (has_key id_of a) rows ≡ o → label_of (labels_of bytes rows) a ≡ text_or (map_some label o)
  by_row e = ap text_or (first-map (λ l. eq_z l.id a) label rows ∙ ap (map_some label) e)

  module _ {i : ℕ} (w : FirstNotBelow rows a i) where
    bound : Between (less_than id_of a) rows [] i i
    bound = w (falls_less id_of rows [] a (ascends-not_descending (map id_of rows) (all_good bytes rows G).rising))

    pub label_missing : eq_z (id_of (get_or rows i [])) a ≡ false → [] ≡ label_of (labels_of bytes rows) a
    label_missing e = sym (by_row (lower_missing id_of rows [] a (ascends-not_descending (map id_of rows) (all_good bytes rows G).rising) bound e))

    pub label_past : length rows ≤ i → [] ≡ label_of (labels_of bytes rows) a
    label_past h = sym (by_row (lower_past id_of rows [] a (ascends-not_descending (map id_of rows) (all_good bytes rows G).rising) bound h))

  -- the row with its id, wherever it was told
  label_at : {i : ℕ} → i < length rows → eq_z (id_of (get_or rows i [])) a ≡ true → bytes_of bytes (get_or rows i []) ≡ label_of (labels_of bytes rows) a
  label_at {i} h e =
      sym (by_row (first-at (has_key id_of a) rows i [] h (λ k l. lt_z_apart (id_of (get_or rows k [])) a
      (subst (λ (z : ℤ). lt_z (id_of (get_or rows k [])) z ≡ true) (eq_z_true (id_of (get_or rows i [])) a e) (ascends_far rows (all_good bytes rows G).rising k i l h))) e))

  -- the label in row i lies inside the bytes, and is short
  module _ {i : ℕ} (h : i < length rows) where
    abbrev r : List ℕ
    r = get_or rows i []

    good : leb (count_of r) 64 && (leb (first_of r + count_of r) (length bytes) && every? allowed (bytes_of bytes r)) ≡ true
    unfolding label_good
    good = every_at (label_good bytes) rows i [] (all_good bytes rows G).good h

    pub label_short : count_of r ≤ 64
    label_short = leb-true (count_of r) 64 (and_left (leb (count_of r) 64) _ good)

    pub label_inside : first_of r + count_of r ≤ length bytes
    label_inside =
        leb-true (first_of r + count_of r) (length bytes)
        (and_left (leb (first_of r + count_of r) (length bytes)) (every? allowed (bytes_of bytes r)) (and_right (leb (count_of r) 64) _ good))

    pub label_allowed : every? allowed (bytes_of bytes r) ≡ true
    label_allowed = and_right (leb (first_of r + count_of r) (length bytes)) (every? allowed (bytes_of bytes r)) (and_right (leb (count_of r) 64) _ good)

    pub short_bytes : length (bytes_of bytes r) ≤ 64
    short_bytes = omega (arith, label_short, length-take (count_of r) (drop (first_of r) bytes))

  -- ---- by the id as it was read

  module _ {i : ℕ} {x : ℤ} (p : SFits w32 x) (q : SFits w32 a) (e : x ≡ to_z w32 (get_or (get_or rows i []) 0 0)) where
    pub told_label : i < length rows → of_z w32 x ≡ of_z w32 a → bytes_of bytes (get_or rows i []) ≡ label_of (labels_of bytes rows) a
    told_label h s = label_at h (ap (λ (z : ℤ). eq_z z a) (sym e) ∙ tested_same x a p q s)

    pub other_label : FirstNotBelow rows a i → (of_z w32 x ≡ of_z w32 a → ⊥) → [] ≡ label_of (labels_of bytes rows) a
    other_label w n = label_missing w (ap (λ (z : ℤ). eq_z z a) (sym e) ∙ tested-apart x a p q n)
