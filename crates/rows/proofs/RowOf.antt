-- What an effect's row of list 1 says of its entry: the source's category, the penalty and the quantity.
use Prim.Native.Nat.{ℕ, ◌%◌, ◌<◌}
use native.Mathlib.Omega.{arith}
use mathlib.Core.Path.{◌≡◌, refl, sym, ap, ◌∙◌}
use mathlib.Core.Bool.{Bool, true, false, not, ◌&&◌, cond}
use mathlib.Core.List.{List, map}
use lib.Dec.{eqb}
use lib.IntN.{ℤ, pos}
use lib.ListN.{get_or}
use mir.Syntax.{w32}
use mir.Val.{SFits, to_z}
use mir.Facts.{to_z-of_z}
use Rattle.laws.specs.Lists.{eq_z, some?, ascends}
use Rattle.laws.proofs.Bools.{and_false_right, and_true_right}
use Rattle.rules.specs.Bytes.{count_of}
use Rattle.rules.specs.Constants.{exempt_categories}
use Rattle.rules.specs.Sheet.{Book, Fit, fit_of, bases_of}
use Rattle.rules.specs.Info.{get_dogma_attribute, stackable}
use Rattle.rules.specs.Item.{object}
use Rattle.rules.specs.Dispatch.{source_category, is_source, Numbered, entry}
use Rattle.rules.specs.Columns.{yes1, origin_numbers, collected_numbers, entry_numbers}
use Rattle.rules.specs.declared.Item.{Item}
use Rattle.rules.specs.declared.DogmaAttribute.{DogmaAttribute}
use Rattle.rules.specs.declared.Pass2Effect.{Pass2Effect}
use Rattle.rules.specs.declared.Origin.{Origin}
use Rattle.rules.specs.declared.Origin.TheVariants as origin
use Rattle.info.specs.Sound.{SoundFit}
use Rattle.info.proofs.Elements.{objects_length}
use Rattle.info.proofs.Sheets.{numbered, sized}
use Rattle.info.proofs.Rows.{origin_at, source_at}
use Rattle.rows.specs.Entries.{entry_row}
use Rattle.rows.proofs.Defined.{target_number, quantity_number}
use Rattle.rows.proofs.Written.{written}

buff_category : (f : Fit) (g : Origin) → get_or (origin_numbers g) 0 0 ≡ 1 → pos 0 ≡ source_category f g
buff_category f (origin.Effect e o c a) h = absurd (omega arith)
buff_category f (origin.Buff b v) h = refl

effect_category : (f : Fit) (g : Origin) → (get_or (origin_numbers g) 0 0 ≡ 1 → ⊥) → (object f (get_or (origin_numbers g) 2 0)).category_id ≡ source_category f g
effect_category f (origin.Effect e o c a) n = refl
effect_category f (origin.Buff b v) n = absurd (n refl)

source_test : (g : Origin) (n : ℕ) → eqb (get_or (origin_numbers g) 0 0) 0 && eqb (get_or (origin_numbers g) 2 0) n ≡ is_source g n
source_test (origin.Effect e o c a) n = refl
source_test (origin.Buff b v) n = refl

module _ (t : Pass2Effect) (row : List ℕ) (e : row ≡ collected_numbers t) where
  origin_in : get_or row 0 0 ≡ get_or (origin_numbers t.origin) 0 0
  origin_in = ap (λ (l : List ℕ). get_or l 0 0) e ∙ origin_at t

  source_in : get_or row 2 0 ≡ get_or (origin_numbers t.origin) 2 0
  source_in = ap (λ (l : List ℕ). get_or l 2 0) e ∙ source_at t

  quantity_in : get_or row 9 0 ≡ t.source_quantity
  quantity_in = ap (λ (l : List ℕ). get_or l 9 0) e ∙ quantity_number t

  attribute_in_lem : SFits w32 t.target_attribute_id → to_z w32 (get_or row 11 0) ≡ t.target_attribute_id
  attribute_in_lem n = ap (λ (l : List ℕ). to_z w32 (get_or l 11 0)) e ∙ ap (to_z w32) (target_number t) ∙ to_z-of_z n

  -- ---- the category

  pub category_buff : (f : Fit) → get_or row 0 0 ≡ 1 → pos 0 ≡ source_category f t.origin
  category_buff f h = buff_category f t.origin (sym origin_in ∙ h)

  pub category_effect : (f : Fit) → (get_or row 0 0 ≡ 1 → ⊥) → (o : Item) (m : ℕ) → o ≡ object f m → m ≡ get_or row 2 0 → o.category_id ≡ source_category f t.origin
  category_effect f n o m p q =
      ap (λ (i : Item). i.category_id) (p ∙ ap (object f) (q ∙ source_in)) ∙ effect_category f t.origin (λ h. n (origin_in ∙ h))

  -- ---- the penalty

  module _ (k : Book) (f : Fit) (o : Item) (n : ℕ) (x : Bool) (c : ℤ) (s : x ≡ some? (eq_z c) exempt_categories) (u : c ≡ source_category f t.origin) where
    abbrev one : Numbered
    one = record { number = n; effect = t }

    exempt_is : x ≡ some? (eq_z (source_category f t.origin)) exempt_categories
    exempt_is = s ∙ ap (λ (z : ℤ). some? (eq_z z) exempt_categories) u

    pub penalty_exempt : x ≡ true → false ≡ (entry k f o one).penalty
    unfolding entry
    penalty_exempt h =
        sym (ap (λ (b : Bool). not (stackable (get_dogma_attribute k t.target_attribute_id)) && not b) (sym exempt_is ∙ h)
        ∙ and_false_right (not (stackable (get_dogma_attribute k t.target_attribute_id))))

    pub penalty_else : x ≡ false → SFits w32 t.target_attribute_id → (r : DogmaAttribute) (a : ℤ) → r ≡ get_dogma_attribute k a → a ≡ to_z w32 (get_or row 11 0) → not (eqb (r.flags % 2) 1) ≡ (entry k f o one).penalty
    unfolding entry
    penalty_else h w r a p q =
        ap (λ (d : DogmaAttribute). not (stackable d)) (p ∙ ap (get_dogma_attribute k) (q ∙ attribute_in_lem w))
        ∙ sym (and_true_right (not (stackable (get_dogma_attribute k t.target_attribute_id))))
        ∙ ap (λ (b : Bool). not (stackable (get_dogma_attribute k t.target_attribute_id)) && not b) (sym (sym exempt_is ∙ h))

  -- ---- the quantity

  module _ (n : ℕ) where
    own : eqb (get_or row 0 0) 0 && eqb (get_or row 2 0) n ≡ is_source t.origin n
    own =
        ap (λ (m : ℕ). eqb m 0 && eqb (get_or row 2 0) n) origin_in
        ∙ ap (λ (m : ℕ). eqb (get_or (origin_numbers t.origin) 0 0) 0 && eqb m n) source_in ∙ source_test t.origin n

    pub quantity_own : eqb (get_or row 0 0) 0 && eqb (get_or row 2 0) n ≡ true → 1 ≡ cond (is_source t.origin n) 1 t.source_quantity
    quantity_own h = ap (λ (b : Bool). cond b 1 t.source_quantity) (sym (sym own ∙ h))

    pub quantity_other : eqb (get_or row 0 0) 0 && eqb (get_or row 2 0) n ≡ false → get_or row 9 0 ≡ cond (is_source t.origin n) 1 t.source_quantity
    quantity_other h = quantity_in ∙ ap (λ (b : Bool). cond b 1 t.source_quantity) (sym (sym own ∙ h))

-- the quantity of the entry on object o
pub quantity_entry : (k : Book) (f : Fit) (o : Item) (x : Numbered) (n q : ℕ) → o.number ≡ n → q ≡ cond (is_source x.effect.origin n) 1 x.effect.source_quantity → q ≡ (entry k f o x).quantity
unfolding entry
quantity_entry k f o x n q e h = h ∙ ap (λ (m : ℕ). cond (is_source x.effect.origin m) 1 x.effect.source_quantity) (sym e)

-- an object's number is its place
module _ (b : List ℕ) (pairs : List (List ℕ)) where
  pub object-number : (i : ℕ) → i < count_of pairs 6 → (object (fit_of b pairs) i).number ≡ i
  object-number i h = numbered b pairs i (rw (objects_length b pairs) h)

  -- its base attributes ascend
  pub bases_ascend : SoundFit b pairs → (i : ℕ) → i < count_of pairs 6 → ascends (map (λ r. r.attribute_id) (bases_of (fit_of b pairs) (object (fit_of b pairs) i))) ≡ true
  bases_ascend S i h = (sized b pairs S.good).bases i (rw (objects_length b pairs) h)

-- the whole row, whose penalty is a number
pub entry-written : (k : Book) (f : Fit) (o : Item) (x : Numbered) (c : List ℕ) (p : Bool) (y q n : ℕ) → c ≡ collected_numbers x.effect → y ≡ yes1 p → p ≡ (entry k f o x).penalty → q ≡ (entry k f o x).quantity → x.number ≡ n → entry_row c y q n ≡ entry_numbers (entry k f o x)
entry-written k f o x c p y q n e u s h w = ap (λ (z : ℕ). entry_row c z q n) u ∙ written k f o x c p q n e s h w
