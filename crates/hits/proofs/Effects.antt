-- The aims of a collected effect by what stands in its row of list 1.
use Prim.Native.Nat.{ℕ, ◌<◌}
use mathlib.Core.Path.{◌≡◌, refl, sym, ap, subst, ◌∙◌}
use mathlib.Core.Bool.{Bool, ◌&&◌}
use mathlib.Core.List.{List}
use lib.IntN.{ℤ}
use lib.ListN.{length, get_or}
use mir.Syntax.{w32}
use mir.Val.{SFits, of_z}
use borrow.Author.Tests.{ne_eqb}
use Rattle.laws.proofs.Bools.{and_false_right}
use Rattle.rules.specs.Bytes.{bits}
use Rattle.rules.specs.Sheet.{Book, Fit}
use Rattle.rules.specs.Item.{object, is_char, char_of}
use Rattle.rules.specs.Dispatch.{meant, by_location}
use Rattle.rules.specs.Columns.{origin_numbers, modifier_numbers, collected_numbers}
use Rattle.rules.specs.declared.Item.{Item}
use Rattle.rules.specs.declared.Modifier.{Modifier}
use Rattle.rules.specs.declared.Modifier.TheVariants.{LocationRequiredSkillModifier, LocationGroupModifier, LocationModifier, OwnerRequiredSkillModifier, ItemModifier}
use Rattle.rules.specs.declared.Pass2Effect.{Pass2Effect}
use Rattle.hits.specs.declared.Aim.{Aim}
use Rattle.info.specs.declared.standing.Spans.{Spans}
use Rattle.hits.specs.declared.Test.TheVariants.{All, OfGroup, Requiring}
use Rattle.info.specs.Stands.{Stands, Narrow}
use Rattle.hits.specs.Who.{Aims, at_location, char_items, by_skill, by_owner, alone, nobody, First, Second}
use Rattle.hits.proofs.HitsLaws.{meant_itself, meant_buff, meant_effect, first_item, first_group, first-all, first_skill, first_owner, second_group, second_all, second_nobody, no_location}
use Rattle.info.proofs.Rows.{origin_at, source_at, func_at, what_at, target_at}

-- a code that is no other is 0
other : (m : Modifier) → (get_or (modifier_numbers m) 0 0 ≡ 4 → ⊥) → (get_or (modifier_numbers m) 0 0 ≡ 1 → ⊥) → (get_or (modifier_numbers m) 0 0 ≡ 2 → ⊥) → (get_or (modifier_numbers m) 0 0 ≡ 3 → ⊥) → get_or (modifier_numbers m) 0 0 ≡ 0
other (LocationRequiredSkillModifier s) i g x y = refl
other (LocationGroupModifier s) i g x y = absurd (g refl)
other LocationModifier i g x y = absurd (x refl)
other (OwnerRequiredSkillModifier s) i g x y = absurd (y refl)
other ItemModifier i g x y = absurd (i refl)

module _ (t : Pass2Effect) (row : List ℕ) (e : row ≡ collected_numbers t) where
  origin_in : get_or row 0 0 ≡ get_or (origin_numbers t.origin) 0 0
  origin_in = ap (λ (l : List ℕ). get_or l 0 0) e ∙ origin_at t

  source_in : get_or row 2 0 ≡ get_or (origin_numbers t.origin) 2 0
  source_in = ap (λ (l : List ℕ). get_or l 2 0) e ∙ source_at t

  func_in : get_or row 6 0 ≡ get_or (modifier_numbers t.modifier) 0 0
  func_in = ap (λ (l : List ℕ). get_or l 6 0) e ∙ func_at t

  what_in : get_or row 7 0 ≡ get_or (modifier_numbers t.modifier) 1 0
  what_in = ap (λ (l : List ℕ). get_or l 7 0) e ∙ what_at t

  pub target_in : get_or row 10 0 ≡ t.target
  target_in = ap (λ (l : List ℕ). get_or l 10 0) e ∙ target_at t

  -- ---- the bits of the skill that is meant

  module _ (f : Fit) (s : ℤ) (w : get_or row 7 0 ≡ bits s) (h : SFits w32 s) where
    pub skill_itself : (get_or row 7 0 ≡ 4294967295 → ⊥) → get_or row 7 0 ≡ bits (meant f t.origin s)
    skill_itself n = w ∙ meant_itself f t.origin s h (λ x. n (w ∙ x))

    pub skill_buff : get_or row 7 0 ≡ 4294967295 → get_or row 0 0 ≡ 1 → 0 ≡ bits (meant f t.origin s)
    skill_buff x y = meant_buff f t.origin s h (sym w ∙ x) (sym origin_in ∙ y)

    pub skill_effect : {r m : ℕ} {o : Item} → get_or row 7 0 ≡ 4294967295 → (get_or row 0 0 ≡ 1 → ⊥) → r ≡ of_z w32 o.type_id → o ≡ object f m → m ≡ get_or row 2 0 → r ≡ bits (meant f t.origin s)
    skill_effect x n r o m =
        r ∙ ap (λ (i : Item). of_z w32 i.type_id) (o ∙ ap (object f) (m ∙ source_in))
        ∙ meant_effect f t.origin s h (sym w ∙ x) (λ y. n (origin_in ∙ y))

  -- ---- the first aim

  module _ (k : Book) (f : Fit) (s : Spans) (S : Stands f s) (l : get_or row 10 0 < length f.objects) where
    pub row_item : get_or row 6 0 ≡ 4 → First k f t (alone (get_or row 10 0) All)
    row_item c =
        subst (λ (n : ℕ). First k f t (alone n All)) (sym target_in)
        (first_item k f t S.sized t.modifier refl (sym func_in ∙ c) S.number (subst (λ (n : ℕ). n < length f.objects) target_in l))

    module _ (a : Aim) (w : Narrow t.modifier) where
      pub row_group : get_or row 6 0 ≡ 1 → Aims (at_location (OfGroup (get_or row 7 0)) (get_or row 10 0) k f) k f a → First k f t a
      row_group c A =
          first_group k f t S.sized t.modifier refl w (sym func_in ∙ c)
          (subst (λ (n : ℕ). Aims (at_location (OfGroup n) t.target k f) k f a) what_in
          (subst (λ (n : ℕ). Aims (at_location (OfGroup (get_or row 7 0)) n k f) k f a) target_in A))

      pub row-all : get_or row 6 0 ≡ 2 → Aims (at_location All (get_or row 10 0) k f) k f a → First k f t a
      row-all c A =
          first-all k f t S.sized t.modifier refl (sym func_in ∙ c) (subst (λ (n : ℕ). Aims (at_location All n k f) k f a) target_in A)

      module _ (r : ℕ) (o : get_or row 2 0 < length f.objects) (M : (s : ℤ) → get_or row 7 0 ≡ bits s → SFits w32 s → r ≡ bits (meant f t.origin s)) where
        source_inside : get_or (origin_numbers t.origin) 2 0 < length f.objects
        source_inside = subst (λ (n : ℕ). n < length f.objects) source_in o

        pub row_owner : get_or row 6 0 ≡ 3 → Aims (by_owner (Requiring r) k f) k f a → First k f t a
        row_owner c A = first_owner k f t S.sized t.modifier r refl w (sym func_in ∙ c) source_inside (λ s q. M s (what_in ∙ q)) A

        pub row_skill : (get_or row 6 0 ≡ 4 → ⊥) → (get_or row 6 0 ≡ 1 → ⊥) → (get_or row 6 0 ≡ 2 → ⊥) → (get_or row 6 0 ≡ 3 → ⊥) → Aims (by_skill (Requiring r) (get_or row 10 0) k f) k f a → First k f t a
        row_skill i g x y A =
            first_skill k f t S.sized t.modifier r refl w
            (other t.modifier (λ q. i (func_in ∙ q)) (λ q. g (func_in ∙ q)) (λ q. x (func_in ∙ q)) (λ q. y (func_in ∙ q)))
            source_inside (λ s q. M s (what_in ∙ q))
            (subst (λ (n : ℕ). Aims (by_skill (Requiring r) n k f) k f a) target_in A)

  -- ---- the second aim

  module _ (k : Book) (f : Fit) (s : Spans) (S : Stands f s) (l : t.target < length f.objects) where
    pub then_elsewhere : (get_or row 10 0 ≡ s.character → ⊥) → Second k f t nobody
    then_elsewhere n =
        second_nobody k f t S.sized
        (ap (λ (b : Bool). by_location t.modifier && b) (S.char t.target l ∙ ne_eqb t.target (char_of f) (λ c. n (target_in ∙ c ∙ sym S.character)))
        ∙ and_false_right (by_location t.modifier))

    pub then_other : (get_or row 6 0 ≡ 1 → ⊥) → (get_or row 6 0 ≡ 2 → ⊥) → Second k f t nobody
    then_other g x =
        second_nobody k f t S.sized
        (ap (λ (b : Bool). b && is_char (object f t.target)) (no_location k f t S.sized t.modifier (λ q. g (func_in ∙ q)) (λ q. x (func_in ∙ q))))

    module _ (a : Aim) (c : get_or row 10 0 ≡ s.character) where
      pub then_group : Narrow t.modifier → get_or row 6 0 ≡ 1 → Aims (char_items (OfGroup (get_or row 7 0)) s.character k f) k f a → Second k f t a
      then_group w g A =
          second_group k f t S.sized t.modifier refl w (sym func_in ∙ g)
          (subst (λ (n : ℕ). Aims (char_items (OfGroup n) t.target k f) k f a) what_in
          (subst (λ (n : ℕ). Aims (char_items (OfGroup (get_or row 7 0)) n k f) k f a) (sym c ∙ target_in) A))

      pub then-all : get_or row 6 0 ≡ 2 → Aims (char_items All s.character k f) k f a → Second k f t a
      then-all g A =
          second_all k f t S.sized t.modifier refl (sym func_in ∙ g) (subst (λ (n : ℕ). Aims (char_items All n k f) k f a) (sym c ∙ target_in) A)
