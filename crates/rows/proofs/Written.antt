-- An entry written out from its effect's row of list 1.
use Rattle.std.specs.Prelude.{None, Some}
use Prim.Native.Nat.{ℕ}
use mathlib.Core.Path.{◌≡◌, refl, sym, ap, ◌∙◌}
use mathlib.Core.Bool.{Bool}
use mathlib.Core.List.{List, [], ◌∷◌, ◌++◌}
use Rattle.rules.specs.Bytes.{bits}
use Rattle.rules.specs.Codes.{operator_code}
use Rattle.rules.specs.Sheet.{Book, Fit}
use Rattle.rules.specs.Dispatch.{Numbered, entry}
use Rattle.rules.specs.Columns.{yes1, origin_numbers, modifier_numbers, optional_numbers, collected_numbers, entry_numbers}
use Rattle.rules.specs.declared.Item.{Item}
use Rattle.rules.specs.declared.Pass2Effect.{Pass2Effect}
use Rattle.rules.specs.declared.Origin.{Origin}
use Rattle.rules.specs.declared.Origin.TheVariants as origin
use Rattle.rules.specs.declared.Modifier.{Modifier}
use Rattle.rules.specs.declared.Modifier.TheVariants.{LocationRequiredSkillModifier, LocationGroupModifier, LocationModifier, OwnerRequiredSkillModifier, ItemModifier}
use Rattle.rules.specs.Ids.{OptionalId}
use Rattle.rows.specs.Entries.{entry_row}

-- a modifier's two numbers
record Two (l : List ℕ) : Type 0 where
  x : ℕ
  y : ℕ
  is : l ≡ x ∷ y ∷ []

two : (m : Modifier) → Two (modifier_numbers m)
two (LocationRequiredSkillModifier s) = record { x = 0; y = bits s; is = refl }
two (LocationGroupModifier g) = record { x = 1; y = bits g; is = refl }
two LocationModifier = record { x = 2; y = 0; is = refl }
two (OwnerRequiredSkillModifier s) = record { x = 3; y = bits s; is = refl }
two ItemModifier = record { x = 4; y = 0; is = refl }

-- a row of list 1 by its parts
abbrev row : Origin → List ℕ → OptionalId → ℕ → ℕ → ℕ → ℕ → List ℕ
row g m r op quantity target a = origin_numbers g ++ m ++ (op ∷ quantity ∷ target ∷ a ∷ optional_numbers r)

written-by : (g : Origin) (r : OptionalId) (x y op quantity target a p q n : ℕ) → entry_row (row g (x ∷ y ∷ []) r op quantity target a) p q n ≡ origin_numbers g ++ (op ∷ p ∷ q ∷ (optional_numbers r ++ (n ∷ [])))
written-by (origin.Effect e o c i) None x y op quantity target a p q n = refl
written-by (origin.Effect e o c i) (Some b) x y op quantity target a p q n = refl
written-by (origin.Buff b v) None x y op quantity target a p q n = refl
written-by (origin.Buff b v) (Some d) x y op quantity target a p q n = refl

module _ (k : Book) (f : Fit) (o : Item) (x : Numbered) where
  abbrev t : Pass2Effect
  t = x.effect

  abbrev made : Bool → ℕ → ℕ → List ℕ
  made p q n = origin_numbers t.origin ++ (operator_code t.operator ∷ yes1 p ∷ q ∷ (optional_numbers t.resistance ++ (n ∷ [])))

  -- what is read, with the penalty, the quantity and the number, is the entry
  pub written : (c : List ℕ) (p : Bool) (q n : ℕ) → c ≡ collected_numbers t → p ≡ (entry k f o x).penalty → q ≡ (entry k f o x).quantity → x.number ≡ n → entry_row c (yes1 p) q n ≡ entry_numbers (entry k f o x)
  unfolding entry
  written c p q n e s u w =
      let m = two t.modifier in
      ap (λ (l : List ℕ). entry_row l (yes1 p) q n) (e ∙ ap (λ (l : List ℕ). row t.origin l t.resistance (operator_code t.operator) t.source_quantity t.target (bits t.target_attribute_id)) m.is)
      ∙ written-by t.origin t.resistance m.x m.y (operator_code t.operator) t.source_quantity t.target (bits t.target_attribute_id) (yes1 p) q n
      ∙ ap (λ (b : Bool). made b q n) s
      ∙ ap (λ (c : ℕ). made (entry k f o x).penalty c n) u
      ∙ ap (λ (c : ℕ). made (entry k f o x).penalty (entry k f o x).quantity c) (sym w)
