-- Of a sound sheet every row's base is finite, and its attribute id has 32 bits.
use Prim.Native.Nat.{ℕ, ◌<◌}
use mathlib.Core.Path.{◌≡◌, refl, sym, ap, subst, ◌∙◌}
use mathlib.Core.Bool.{Bool, true}
use mathlib.Core.List.{List, map}
use mathlib.Core.Option
use mathlib.Core.Option.{Option, none, some}
use lib.Dec.{T}
use lib.IntN.{ℤ}
use lib.Ieee.{Float}
use lib.Ieee.Bits.{is_true}
use lib.ListN.{length, get_or, drop}
use mir.Syntax.{w32}
use mir.Val.{SFits}
use Rattle.laws.specs.Floats.{finite}
use Rattle.laws.specs.Lists.{eq_z, every?, first, from, ascends}
use Rattle.laws.proofs.Bools.{and_left}
use Rattle.laws.proofs.Every.{every_take, every_drop}
use Rattle.rules.specs.Bytes.{u32_at, count_of, record_at}
use Rattle.rules.specs.Sheet.{Book, Fit, book_of, fit_of, base_from, bases_of}
use Rattle.rules.specs.Info.{get_dogma_attribute, get_base}
use Rattle.rules.specs.Shape.{bases_good}
use Rattle.rules.specs.Dispatch.{Row, Numbered, numbered, hits_on, ids_of, row_of, rows}
use Rattle.rules.specs.declared.Item.{Item}
use Rattle.rules.specs.declared.BaseAttribute.{BaseAttribute}
use Rattle.rules.specs.declared.Pass2Effect.{Pass2Effect}
use Rattle.rules.proofs.Verdicts.{bases_good_lem}
use Rattle.info.specs.Sound.{SoundBook, SoundFit}
use Rattle.info.proofs.Defaults.{first_or_passes, defaults_finite}
use Rattle.info.proofs.Narrow.{signed_narrow}
use Rattle.reading.specs.Held.{no_row}
use Rattle.values.specs.SoundRows.{AllAre}
use Rattle.values.proofs.All.{all-at, all_each, all_keep, all_take, all_drop, all_map, all-flat, all_inserted, all-numbered}

-- what holds of each row that an object may have
module _ (P : Row → Type 0) (k : Book) (f : Fit) (ts : List Pass2Effect) where
  pub all_rows : ((o : Item) → AllAre (λ (a : ℤ). P (row_of k f ts o a)) (ids_of k f ts o)) → AllAre P (rows k f ts)
  unfolding rows
  all_rows h = all-flat P (λ o. map (row_of k f ts o) (ids_of k f ts o)) f.objects (λ o. all_map P (row_of k f ts o) (ids_of k f ts o) (h o))

-- ---- base values

abbrev finite_base : BaseAttribute → Bool
finite_base r = finite r.value

table-finite : (f : Fit) → bases_good f ≡ true → every? finite_base f.bases ≡ true
unfolding bases_good
table-finite f e = and_left (every? finite_base f.bases) (every? (λ o. ascends (map (λ r. r.attribute_id) (bases_of f o))) f.objects) e

either : (o : Option BaseAttribute) (a : ℤ) (x : Float) → elim o [ none ↦ x | some r ↦ r.value ] ≡ (Option.get_or o (record { attribute_id = a; value = x })).value
either none a x = refl
either (some r) a x = refl

row-finite : (k : Book) (f : Fit) (ts : List Pass2Effect) → bases_good f ≡ true → (o : Item) (a : ℤ) → finite (get_dogma_attribute k a).default_value ≡ true → finite (row_of k f ts o a).base ≡ true
unfolding row_of get_base
row-finite k f ts e o a h =
    let d : BaseAttribute = record { attribute_id = a; value = (get_dogma_attribute k a).default_value } in
    ap finite (either (first (λ r. eq_z r.attribute_id a) (bases_of f o)) a (get_dogma_attribute k a).default_value)
    ∙ first_or_passes finite_base (λ r. eq_z r.attribute_id a) d h (bases_of f o)
    (every_take finite_base o.attributes (drop o.first_attribute f.bases) (every_drop finite_base o.first_attribute f.bases (table-finite f e)))

-- ---- ids

abbrev Narrow : ℤ → Type 0
Narrow a = SFits w32 a

module _ (b : List ℕ) (pairs : List (List ℕ)) where
  abbrev own_narrow : BaseAttribute → Type 0
  own_narrow r = Narrow r.attribute_id

  bases_narrow : AllAre own_narrow (fit_of b pairs).bases
  unfolding fit_of
  bases_narrow =
      all_map own_narrow (λ k. base_from k (record_at b pairs 7 k)) (from 0 (count_of pairs 7))
      (all_each (λ (k : ℕ). own_narrow (base_from k (record_at b pairs 7 k))) (λ k. signed_narrow (u32_at (record_at b pairs 7 k) 0)) (from 0 (count_of pairs 7)))

  own_narrow_lem : (o : Item) → AllAre Narrow (map (λ r. r.attribute_id) (bases_of (fit_of b pairs) o))
  own_narrow_lem o =
      all_map Narrow (λ r. r.attribute_id) (bases_of (fit_of b pairs) o)
      (all_take own_narrow o.attributes (drop o.first_attribute (fit_of b pairs).bases) (all_drop own_narrow o.first_attribute (fit_of b pairs).bases bases_narrow))

  module _ (k : Book) (ts : List Pass2Effect) (h : AllAre (λ (t : Pass2Effect). Narrow t.target_attribute_id) ts) where
    ids_narrow : (o : Item) → AllAre Narrow (ids_of k (fit_of b pairs) ts o)
    unfolding ids_of hits_on
    ids_narrow o =
        all_inserted Narrow (map (λ n. n.effect.target_attribute_id) (hits_on k (fit_of b pairs) ts o)) (map (λ r. r.attribute_id) (bases_of (fit_of b pairs) o))
        (all_map Narrow (λ n. n.effect.target_attribute_id) (hits_on k (fit_of b pairs) ts o)
        (all_keep (λ (n : Numbered). Narrow n.effect.target_attribute_id) _ (numbered 0 ts) (all-numbered (λ (t : Pass2Effect). Narrow t.target_attribute_id) 0 ts h)))
        (own_narrow_lem o)

    pub rows_narrow : (i : ℕ) → i < length (rows k (fit_of b pairs) ts) → SFits w32 (get_or (rows k (fit_of b pairs) ts) i no_row).id
    unfolding row_of
    rows_narrow i l =
        all-at (λ (r : Row). Narrow r.id) (rows k (fit_of b pairs) ts) (all_rows (λ (r : Row). Narrow r.id) k (fit_of b pairs) ts (λ o. ids_narrow o)) i no_row l

-- ---- of a sound sheet

module _ (book fit : List ℕ) (pairs : List (List ℕ)) (sb : SoundBook book pairs) (sf : SoundFit fit pairs) (ts : List Pass2Effect) where
  abbrev all : List Row
  all = rows (book_of book pairs) (fit_of fit pairs) ts

  one-finite : (o : Item) (a : ℤ) → T (finite (row_of (book_of book pairs) (fit_of fit pairs) ts o a).base)
  one-finite o a =
      subst T (sym (row-finite (book_of book pairs) (fit_of fit pairs) ts (bases_good_lem (fit_of fit pairs) sf.good) o a (is_true _ (defaults_finite book pairs sb a)))) tt

  pub rows_finite : (i : ℕ) → i < length (rows (book_of book pairs) (fit_of fit pairs) ts) → T (finite (get_or (rows (book_of book pairs) (fit_of fit pairs) ts) i no_row).base)
  rows_finite i l =
      all-at (λ (r : Row). T (finite r.base)) all
      (all_rows (λ (r : Row). T (finite r.base)) (book_of book pairs) (fit_of fit pairs) ts
      (λ o. all_each (λ (a : ℤ). T (finite (row_of (book_of book pairs) (fit_of fit pairs) ts o a).base)) (one-finite o) (ids_of (book_of book pairs) (fit_of fit pairs) ts o)))
      i no_row l
