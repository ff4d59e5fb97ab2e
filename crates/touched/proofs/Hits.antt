-- Who is named is who is hit, by cases of the five kinds.
use Prim.Native.Nat.{ℕ}
use mathlib.Core.Path.{◌≡◌, refl, sym, ap, ◌∙◌}
use mathlib.Core.Bool.{Bool, true, false, ◌&&◌, ◌||◌, cond}
use mathlib.Core.List.{List, [], ◌∷◌, map}
use mathlib.Core.Logic.{◌⊎◌, inl, inr}
use lib.IntN.{ℤ, negsuc}
use lib.Dec.{eqb}
use borrow.Author.Tests.{eqb-true}
use Rattle.laws.specs.Lists.{eq_z, some?, put, keep}
use Rattle.laws.proofs.Bools.{both_ways, true_or_false, or_none_right}
use Rattle.rules.specs.Constants.{attribute_skills}
use Rattle.rules.specs.Sheet.{Book, Fit, bases_of}
use Rattle.rules.specs.Number.{cut}
use Rattle.rules.specs.Item.{object, item_of, is_ship, is_char, is_item, is_charge, is_skill, is_in_ship, is_on_char}
use Rattle.rules.specs.Dispatch.{source_type, requires, meant, carrier, in_location, hit}
use Rattle.rules.specs.declared.Item.{Item}
use Rattle.rules.specs.declared.BaseAttribute.{BaseAttribute}
use Rattle.rules.specs.declared.Origin.{Origin}
use Rattle.rules.specs.declared.Origin.TheVariants as origin
use Rattle.rules.specs.declared.Modifier.{Modifier}
use Rattle.rules.specs.declared.Modifier.TheVariants.{LocationRequiredSkillModifier, LocationGroupModifier, LocationModifier, OwnerRequiredSkillModifier, ItemModifier}
use Rattle.rules.specs.declared.Pass2Effect.{Pass2Effect}
use Rattle.touched.specs.Named.{in_ship, on_char, skills_of, needs, located, type_of, named}

-- ---- skills

kept_by : {A B : Type 0} (q : Bool) (p : B → Bool) (g : A → B) (x : A) (xs : List A) (r : Bool) → some? p (map g xs) ≡ r → some? p (map g (put q x xs)) ≡ q && p (g x) || r
kept_by true p g x xs r e = ap (λ (t : Bool). p (g x) || t) e
kept_by false p g x xs r e = e

some_kept : {A B : Type 0} (q : A → Bool) (p : B → Bool) (g : A → B) (xs : List A) → some? p (map g (keep q xs)) ≡ some? (λ x. q x && p (g x)) xs
some_kept q p g [] = refl
some_kept q p g (x ∷ xs) = kept_by (q x) p g x (keep q xs) (some? (λ y. q y && p (g y)) xs) (some_kept q p g xs)

type_same : (k : Book) (f : Fit) (g : Origin) → type_of k f g ≡ source_type f g
type_same k f (origin.Effect e o c a) = refl
type_same k f (origin.Buff b v) = refl

needed : (k : Book) (f : Fit) (g : Origin) (s : ℤ) (o : Item) → needs k f (type_of k f g) s o ≡ requires f o (meant f g s)
unfolding requires
needed k f g s o =
    ap (λ (m : ℤ). some? (λ x. eq_z x (cond (eq_z s (negsuc 0)) m s)) (skills_of k f o)) (type_same k f g)
    ∙ some_kept (λ (r : BaseAttribute). some? (eq_z r.attribute_id) attribute_skills) (λ (x : ℤ). eq_z x (meant f g s)) (λ (r : BaseAttribute). cut r.value) (bases_of f o)

-- ---- an item, or the charge of one

not-both : (n : ℕ) → eqb n 3 && eqb n 4 ≡ false
not-both n = by (true_or_false (eqb n 3))
  where
    by : (eqb n 3 ≡ true) ⊎ (eqb n 3 ≡ false) → eqb n 3 && eqb n 4 ≡ false
    by (inl h) = ap (λ (m : ℕ). eqb m 3 && eqb m 4) (eqb-true n 3 h)
    by (inr h) = ap (λ (b : Bool). b && eqb n 4) h

fitted-by : (P : Item → Bool) (x o : Item) (s c : Bool) → s && c ≡ false → (s || c) && P (cond c x o) ≡ s && P o || c && P x
fitted-by P x o true true h = both_ways refl h
fitted-by P x o true false h = sym (or_none_right (P o))
fitted-by P x o false true h = refl
fitted-by P x o false false h = refl

fitted : (f : Fit) (P : Item → Bool) (o : Item) → (is_item o || is_charge o) && P (carrier f o) ≡ is_item o && P o || is_charge o && P (item_of f o)
fitted f P o = fitted-by P (item_of f o) o (is_item o) (is_charge o) (not-both o.kind)

-- ---- locations

located_same : (k : Book) (f : Fit) (t : ℕ) (o : Item) → located k f t o ≡ in_location k f t o
unfolding in_location
located_same k f t o = ap (λ (b : Bool). cond (is_ship (object f t)) (is_ship o || b) (cond (is_char (object f t)) (is_char o || is_skill o || is_item o && is_on_char o) (eqb o.number t))) (sym (fitted f (is_in_ship k) o))

skilled_by : (k : Book) (f : Fit) (o : Item) (b : Bool) → cond b (on_char k f o) (in_ship k f o) ≡ (is_item o || is_charge o) && cond b (is_on_char (carrier f o)) (is_in_ship k (carrier f o))
skilled_by k f o true = sym (fitted f is_on_char o)
skilled_by k f o false = sym (fitted f (is_in_ship k) o)

-- ---- the five kinds

module _ (k : Book) (f : Fit) where
  named_by : (m : Modifier) (t : Pass2Effect) (o : Item) → t.modifier ≡ m → named k f t o ≡ hit k f t o
  unfolding named hit
  named_by ItemModifier t o e = rw e refl
  named_by LocationModifier t o e = rw e (located_same k f t.target o)
  named_by (LocationGroupModifier g) t o e = rw e (ap (λ (b : Bool). b && eq_z o.group_id g) (located_same k f t.target o))
  named_by (LocationRequiredSkillModifier s) t o e = rw (e, skilled_by k f o (is_char (object f t.target)), needed k f t.origin s o) refl
  named_by (OwnerRequiredSkillModifier s) t o e = rw (e, needed k f t.origin s o) refl

  pub named-is-hit : (t : Pass2Effect) (o : Item) → named k f t o ≡ hit k f t o
  named-is-hit t o = named_by t.modifier t o refl
