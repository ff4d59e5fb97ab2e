-- What the stretch and the segment of an object hold in the end is the definition's: its rows, and their entries.
use Prim.Native.Nat.{ℕ, suc, ◌+◌, ◌<◌, suc-le-suc}
use native.Mathlib.Omega.{arith}
use mathlib.Core.Path.{◌≡◌, refl, sym, ap, ◌∙◌}
use mathlib.Core.Bool.{Bool, true, false}
use mathlib.Core.List.{List, [], ◌∷◌, ◌++◌, map}
use lib.IntN.{ℤ}
use lib.Ieee.{Float}
use lib.ListN.{length, get_or, drop, length-map}
use lib.Seq.{get_or-drop}
use mir.Syntax.{w32}
use mir.Val.{to_z}
use mir.Facts.{to_z-of_z}
use Rattle.laws.specs.Lists.{eq_z, keep, put, flat}
use Rattle.laws.proofs.Maps.{map-map}
use Rattle.laws.proofs.Keep.{keep-map}
use Rattle.laws.proofs.Flat.{flat_same, map-flat}
use Rattle.rules.specs.Bytes.{bits}
use Rattle.rules.specs.Sheet.{Book, Fit}
use Rattle.rules.specs.Dispatch.{Numbered, entry, hits_on, ids_of, row_of}
use Rattle.rules.specs.Columns.{origin_numbers, modifier_numbers, collected_numbers, rows_numbers}
use Rattle.rules.specs.declared.Item.{Item}
use Rattle.rules.specs.declared.Pass2Effect.{Pass2Effect}
use Rattle.rules.specs.declared.Origin.{Origin}
use Rattle.rules.specs.declared.Origin.TheVariants as origin
use Rattle.rules.specs.declared.Modifier.{Modifier}
use Rattle.rules.specs.declared.Modifier.TheVariants.{LocationRequiredSkillModifier, LocationGroupModifier, LocationModifier, OwnerRequiredSkillModifier, ItemModifier}
use Rattle.info.specs.Stands.{effect_at, numbered_at}
use Rattle.rows.specs.Tallies.{hit_number, hit_id}
use Rattle.rows.specs.Entries.{times, rows_from, started, hits_at, spread_over, Collected, hits_in, row_for, rows_for}

-- with the definition's hits they are the definition's rows
pub rows_defined : (k : Book) (f : Fit) (ts : List Pass2Effect) (o : Item) → rows_for k f o (hits_on k f ts o) ≡ map (row_of k f ts o) (ids_of k f ts o)
unfolding rows_for row_for row_of ids_of
rows_defined k f ts o = refl

abbrev target_of : Numbered → ℤ
target_of n = n.effect.target_attribute_id

-- ---- the numbers of a row of list 1

behind : (g : Origin) (m : Modifier) (r : List ℕ) → drop 8 (origin_numbers g ++ modifier_numbers m ++ r) ≡ r
behind (origin.Effect e o c a) (LocationRequiredSkillModifier s) r = refl
behind (origin.Effect e o c a) (LocationGroupModifier s) r = refl
behind (origin.Effect e o c a) LocationModifier r = refl
behind (origin.Effect e o c a) (OwnerRequiredSkillModifier s) r = refl
behind (origin.Effect e o c a) ItemModifier r = refl
behind (origin.Buff b v) (LocationRequiredSkillModifier s) r = refl
behind (origin.Buff b v) (LocationGroupModifier s) r = refl
behind (origin.Buff b v) LocationModifier r = refl
behind (origin.Buff b v) (OwnerRequiredSkillModifier s) r = refl
behind (origin.Buff b v) ItemModifier r = refl

-- the target attribute is number 11
pub target_number : (t : Pass2Effect) → get_or (collected_numbers t) 11 0 ≡ bits t.target_attribute_id
target_number t = sym (get_or-drop 8 (collected_numbers t) 3 0) ∙ ap (λ (l : List ℕ). get_or l 3 0) (behind t.origin t.modifier _)

-- the source's quantity is number 9
pub quantity_number : (t : Pass2Effect) → get_or (collected_numbers t) 9 0 ≡ t.source_quantity
quantity_number t = sym (get_or-drop 8 (collected_numbers t) 1 0) ∙ ap (λ (l : List ℕ). get_or l 1 0) (behind t.origin t.modifier _)

module _ (es : List Pass2Effect) (c : List (List ℕ)) (v : List Float) (C : Collected es c v) where
  pub hit_target : (e : List ℕ) → hit_number e < length es → hit_id c e ≡ target_of (numbered_at es (hit_number e))
  hit_target e h =
      ap (λ (r : List ℕ). to_z w32 (get_or r 11 0)) (C.numbers (hit_number e) h) ∙ ap (to_z w32) (target_number (effect_at es (hit_number e)))
      ∙ to_z-of_z (C.narrow (hit_number e) h)

  -- every hit is one of the effects
  abbrev Among : List (List ℕ) → Type 0
  Among segment = (k : ℕ) → k < length segment → hit_number (get_or segment k []) < length es

  later : (x : List ℕ) (r : List (List ℕ)) → Among (x ∷ r) → Among r
  later x r n k h = n (suc k) (suc-le-suc h)

  pub hits_targets : (segment : List (List ℕ)) → Among segment → map (hit_id c) segment ≡ map target_of (hits_in es segment)
  hits_targets [] n = refl
  hits_targets (x ∷ r) n = ap (λ (a : ℤ). a ∷ map (hit_id c) r) (hit_target x (n 0 (omega arith))) ∙ ap (λ (l : List ℤ). target_of (numbered_at es (hit_number x)) ∷ l) (hits_targets r (later x r n))

  -- the hits on a, as effects
  hits_at_lem : (segment : List (List ℕ)) → Among segment → (a : ℤ) → map (λ e. numbered_at es (hit_number e)) (hits_at c segment a) ≡ keep (λ n. eq_z n.effect.target_attribute_id a) (hits_in es segment)
  hits_at_lem [] n a = refl
  hits_at_lem (x ∷ r) n a =
      ap (λ (i : ℤ). map (λ e. numbered_at es (hit_number e)) (put (eq_z i a) x (hits_at c r a))) (hit_target x (n 0 (omega arith)))
      ∙ put_mapped (eq_z (target_of (numbered_at es (hit_number x))) a)
      ∙ ap (put (eq_z (target_of (numbered_at es (hit_number x))) a) (numbered_at es (hit_number x))) (hits_at_lem r (later x r n) a)
    where
      put_mapped : (t : Bool) → map (λ e. numbered_at es (hit_number e)) (put t x (hits_at c r a)) ≡ put t (numbered_at es (hit_number x)) (map (λ e. numbered_at es (hit_number e)) (hits_at c r a))
      put_mapped true = refl
      put_mapped false = refl

  -- what g gives of the effects that are spread is what it gives of the entries, row by row
  pub spread_entries : {B : Type 0} (g : Numbered → B) (segment : List (List ℕ)) → Among segment → (ids : List ℤ)
      → map (λ j. g (numbered_at es j)) (spread_over c segment ids) ≡ flat (λ a. map g (keep (λ n. eq_z n.effect.target_attribute_id a) (hits_in es segment))) ids
  spread_entries {B} g segment n ids =
      map-flat (λ j. g (numbered_at es j)) (λ a. map hit_number (hits_at c segment a)) ids
      ∙ flat_same (λ a. map (λ j. g (numbered_at es j)) (map hit_number (hits_at c segment a))) (λ a. map g (keep (λ n. eq_z n.effect.target_attribute_id a) (hits_in es segment)))
      (λ a. map-map (λ j. g (numbered_at es j)) hit_number (hits_at c segment a) ∙ sym (map-map g (λ e. numbered_at es (hit_number e)) (hits_at c segment a)) ∙ ap (map g) (hits_at_lem segment n a)) ids

-- ---- the rows

module _ (k : Book) (f : Fit) (o : Item) (hits : List Numbered) where
  -- as many entries as hits
  entries_count : (a : ℤ) → length (row_for k f o hits a).entries ≡ times (map target_of hits) a
  unfolding row_for
  entries_count a =
      length-map (keep (λ n. eq_z n.effect.target_attribute_id a) hits) (entry k f o)
      ∙ sym (ap length (keep-map (λ b. eq_z b a) target_of hits) ∙ length-map (keep (λ n. eq_z n.effect.target_attribute_id a) hits) target_of)

  pub rows_numbers_lem : (e : ℕ) (ids : List ℤ) → rows_from o.number (times (map target_of hits)) (times (map target_of hits)) e ids ≡ rows_numbers e 0 (map (row_for k f o hits) ids) []
  unfolding row_for
  rows_numbers_lem e [] = refl
  rows_numbers_lem e (a ∷ r) =
      ap (λ (n : ℕ). (o.number ∷ bits a ∷ e ∷ n ∷ 0 ∷ 0 ∷ []) ∷ rows_from o.number (times (map target_of hits)) (times (map target_of hits)) (e + n) r) (sym (entries_count a))
      ∙ ap (λ (l : List (List ℕ)). (o.number ∷ bits a ∷ e ∷ length (row_for k f o hits a).entries ∷ 0 ∷ 0 ∷ []) ∷ l) (rows_numbers_lem (e + length (row_for k f o hits a).entries) r)

-- rows that begin, from the tallies
pub started_rows : (i : ℕ) (count : ℤ → ℕ) (e : ℕ) (ids : List ℤ) → started e (map (λ a. i ∷ bits a ∷ 0 ∷ count a ∷ 0 ∷ 0 ∷ []) ids) ≡ rows_from i count (λ a. 0) e ids
started_rows i count e [] = refl
started_rows i count e (a ∷ r) = ap (λ (l : List (List ℕ)). (i ∷ bits a ∷ e ∷ 0 ∷ 0 ∷ 0 ∷ []) ∷ l) (started_rows i count (e + count a) r)
