-- Required skills by attribute are those by base attribute: an object has each attribute once.
use Prim.Native.Nat.{◌<◌}
use native.Mathlib.Omega.{arith}
use mathlib.Core.Path.{◌≡◌, refl, sym, ap, ◌∙◌}
use mathlib.Core.Bool.{Bool, true, false, ◌&&◌, ◌||◌}
use mathlib.Core.List.{List, [], ◌∷◌, map}
use mathlib.Core.Option.{Option, none, some}
use lib.Dec.{eqb}
use lib.IntN.{ℤ, pos, negsuc}
use lib.Signed.{lt_z}
use mir.Syntax.{w32}
use mir.Val.{SFits}
use borrow.Author.Tests.{ne_eqb}
use Rattle.laws.specs.Lists.{eq_z, some?, every?, first, or_else, ascends}
use Rattle.laws.proofs.Bools.{and_left, and_right, or_none_right, or_assoc, or_swap}
use Rattle.laws.proofs.Every.{some_same, some_map}
use Rattle.laws.proofs.Order.{eq_z_true, eq_z_sym, lt_z_apart}
use Rattle.laws.proofs.Ascending.{ascends_head, ascends_tail}
use Rattle.laws.proofs.Signs.{eq_z-bits}
use Rattle.rules.specs.Bytes.{bits}
use Rattle.rules.specs.Constants.{attribute_skills}
use Rattle.rules.specs.Sheet.{Fit, bases_of}
use Rattle.rules.specs.Info.{get_base}
use Rattle.rules.specs.Number.{cut}
use Rattle.rules.specs.Dispatch.{requires}
use Rattle.rules.specs.declared.Item.{Item}
use Rattle.rules.specs.declared.BaseAttribute.{BaseAttribute}
use Rattle.hits.specs.Reach.{no_skill, skill_bits, required_bits}
use Rattle.info.proofs.Narrow.{cut_narrow}

-- ---- no skill

bits_few : (a : ℤ) → SFits w32 a → bits a < no_skill
bits_few (pos n) h = omega (arith, h.sfits)
bits_few (negsuc n) h = omega arith

-- no skill is no_skill
bits_some : (a : ℤ) → SFits w32 a → eqb (bits a) no_skill ≡ false
bits_some a h = ne_eqb (bits a) no_skill (λ e. absurd (omega (arith, bits_few a h)))

-- ---- two lists, searched in either order

four : (a b c d : Bool) → (a || b) || (c || d) ≡ (a || c) || (b || d)
four a b c d = or_assoc a b (c || d) ∙ ap (λ (t : Bool). a || t) (or_swap b c d) ∙ sym (or_assoc a c (b || d))

and_or : (a b t : Bool) → (a && t) || (b && t) ≡ (a || b) && t
and_or true true true = refl
and_or true true false = refl
and_or true false t = or_none_right t
and_or false b t = refl

module _ {A : Type 0} where
  some_no : (xs : List A) → some? (λ x. false) xs ≡ false
  some_no [] = refl
  some_no (x ∷ xs) = some_no xs

  some_either : (p q : A → Bool) (xs : List A) → some? (λ x. p x || q x) xs ≡ some? p xs || some? q xs
  some_either p q [] = refl
  some_either p q (x ∷ xs) = ap (λ (t : Bool). (p x || q x) || t) (some_either p q xs) ∙ four (p x) (q x) (some? p xs) (some? q xs)

  some_and : (p : A → Bool) (t : Bool) (xs : List A) → some? (λ x. p x && t) xs ≡ some? p xs && t
  some_and p t [] = refl
  some_and p t (x ∷ xs) = ap (λ (s : Bool). (p x && t) || s) (some_and p t xs) ∙ and_or (p x) (some? p xs) t

some_swap : {A B : Type 0} (p : B → A → Bool) (q : B → Bool) (ds : List A) (bs : List B) → some? (λ a. some? (λ r. p r a && q r) bs) ds ≡ some? (λ r. some? (p r) ds && q r) bs
some_swap p q ds [] = some_no ds
some_swap p q ds (r ∷ rs) =
    some_either (λ a. p r a && q r) (λ a. some? (λ r. p r a && q r) rs) ds
    ∙ ap (λ (t : Bool). some? (λ a. p r a && q r) ds || t) (some_swap p q ds rs)
    ∙ ap (λ (t : Bool). t || some? (λ r. some? (p r) ds && q r) rs) (some_and (p r) (q r) ds)

-- ---- an id that stands once

abbrev on_first : {A : Type 0} → (A → Bool) → Option A → Bool
on_first q none = false
on_first q (some x) = q x

module _ {A : Type 0} (key : A → ℤ) (q : A → Bool) (a : ℤ) where
  none_after : (xs : List A) → every? (lt_z a) (map key xs) ≡ true → some? (λ x. eq_z (key x) a && q x) xs ≡ false
  none_after [] e = refl
  none_after (x ∷ xs) e =
      rw (eq_z_sym (key x) a, lt_z_apart a (key x) (and_left (lt_z a (key x)) (every? (lt_z a) (map key xs)) e)) (none_after xs (and_right (lt_z a (key x)) (every? (lt_z a) (map key xs)) e))

  by_head : (t : Bool) (x : A) (xs : List A) → eq_z (key x) a ≡ t → every? (lt_z (key x)) (map key xs) ≡ true → some? (λ x. eq_z (key x) a && q x) xs ≡ on_first q (first (λ x. eq_z (key x) a) xs) → (t && q x) || some? (λ x. eq_z (key x) a && q x) xs ≡ on_first q (or_else t x (first (λ x. eq_z (key x) a) xs))
  by_head true x xs e l h = ap (λ (t : Bool). q x || t) (none_after xs (ap (λ (z : ℤ). every? (lt_z z) (map key xs)) (sym (eq_z_true (key x) a e)) ∙ l)) ∙ or_none_right (q x)
  by_head false x xs e l h = h

  some_once : (xs : List A) → ascends (map key xs) ≡ true → some? (λ x. eq_z (key x) a && q x) xs ≡ on_first q (first (λ x. eq_z (key x) a) xs)
  some_once [] s = refl
  some_once (x ∷ xs) s = by_head (eq_z (key x) a) x xs refl (ascends_head (key x) (map key xs) s) (some_once xs (ascends_tail (key x) (map key xs) s))

-- ---- required skills

module _ (skill : ℤ) (h : SFits w32 skill) where
  by_base : (b : Option BaseAttribute) → eqb (bits skill) (skill_bits b) ≡ on_first (λ r. eq_z (cut r.value) skill) b
  by_base none = bits_some skill h
  by_base (some r) = eq_z-bits skill (cut r.value) h (cut_narrow r.value) ∙ eq_z_sym skill (cut r.value)

  pub requires-bits : (f : Fit) (o : Item) → ascends (map (λ r. r.attribute_id) (bases_of f o)) ≡ true → some? (eqb (bits skill)) (required_bits f o) ≡ requires f o skill
  unfolding required_bits requires get_base
  requires-bits f o s =
      some_map (eqb (bits skill)) (λ a. skill_bits (get_base f o a)) attribute_skills
      ∙ some_same _ _ (λ a. by_base (get_base f o a) ∙ sym (some_once (λ r. r.attribute_id) (λ r. eq_z (cut r.value) skill) a (bases_of f o) s)) attribute_skills
      ∙ some_swap (λ r a. eq_z r.attribute_id a) (λ r. eq_z (cut r.value) skill) attribute_skills (bases_of f o)
