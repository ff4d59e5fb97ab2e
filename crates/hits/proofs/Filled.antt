-- The row of required skills, filled from an object's base attributes one after another.
use Rattle.std.specs.Prelude.{Option, Some, None, IfSome}
use Rattle.std.specs.List.{position_or_len}
use Rattle.std.specs.Option.{option_map}
use Prim.Native.Nat.{ℕ, suc, ◌+◌, ◌≤◌, ◌<◌}
use native.Mathlib.Omega.{arith}
use mathlib.Core.Path.{◌≡◌, refl, sym, ap, ◌∙◌}
use mathlib.Core.Bool.{Bool, true, false, not, cond}
use lib.Dec.{ltb}
use borrow.Author.Tests.{lt-ltb, le-ltb, ltb-true, ltb-false}
use mathlib.Core.List.{List, [], ◌∷◌, ◌++◌, map}
use lib.IntN.{ℤ}
use lib.ListN.{length, get_or, set}
use lib.Signed.{lt_z}
use Rattle.laws.specs.Lists.{eq_z, every?, first, or_else, span, ascends}
use Rattle.laws.proofs.Bools.{and_left, and_right}
use Rattle.laws.proofs.Maps.{map_same}
use Rattle.laws.proofs.Order.{eq_z_true, eq_z_sym, lt_z_apart}
use Rattle.laws.proofs.Ascending.{ascends_head, ascends_tail}
use Rattle.laws.proofs.Spans.{span_next}
use Rattle.rules.specs.Bytes.{bits}
use Rattle.rules.specs.Constants.{attribute_skills}
use Rattle.rules.specs.Sheet.{Fit, bases_of}
use Rattle.rules.specs.Info.{get_base}
use Rattle.rules.specs.Number.{cut}
use Rattle.rules.specs.declared.Item.{Item}
use Rattle.rules.specs.declared.BaseAttribute.{BaseAttribute}
use Rattle.info.specs.Sound.{Based}
use Rattle.hits.specs.Reach.{no_skill, skill_bits, required_bits, place_of, slot_of}

-- ---- the place of an attribute

-- what `position` answers
module _ (z : ℤ) (test : ℤ → Bool) (same : (y : ℤ) → test y ≡ eq_z z y) where
  abbrev found : List ℤ → Option ℕ
  found r = cond (ltb (position_or_len test r) (length r)) (Some (position_or_len test r)) None

  later : (t : Bool) (n l : ℕ) → ltb n l ≡ t → cond (ltb (suc n) (suc l)) (Some (suc n)) None ≡ option_map suc (cond t (Some n) None)
  later true n l e = ap (λ (t : Bool). cond t (Some (suc n)) None) (lt-ltb (suc n) (suc l) (omega (arith, ltb-true n l e)))
  later false n l e = ap (λ (t : Bool). cond t (Some (suc n)) None) (le-ltb (suc n) (suc l) (omega (arith, ltb-false n l e)))

  by : (t : Bool) (a : ℤ) (r : List ℤ) → test a ≡ t → found r ≡ place_of z r → found (a ∷ r) ≡ cond t (Some 0) (option_map suc (place_of z r))
  by true a r e h =
      let z : position_or_len test (a ∷ r) ≡ 0 = ap (λ (b : Bool). cond (not b) (1 + position_or_len test r) 0) e in
      ap (λ (n : ℕ). cond (ltb n (suc (length r))) (Some n) None) z ∙ ap (λ (b : Bool). cond b (Some 0) None) (lt-ltb 0 (suc (length r)) (omega arith))
  by false a r e h =
      let z : position_or_len test (a ∷ r) ≡ 1 + position_or_len test r = ap (λ (b : Bool). cond (not b) (1 + position_or_len test r) 0) e in
      let z' : 1 + position_or_len test r ≡ suc (position_or_len test r) = omega arith in
      ap (λ (n : ℕ). cond (ltb n (suc (length r))) (Some n) None) (z ∙ z') ∙ later (ltb (position_or_len test r) (length r)) (position_or_len test r) (length r) refl ∙ ap (option_map suc) h

  pub place_found : (r : List ℤ) → found r ≡ place_of z r
  place_found [] = refl
  place_found (a ∷ r) = by (eq_z z a) a r (same a) (place_found r)

behind : (p : Option ℕ) (n : ℕ) → IfSome p (λ s. s < n) → IfSome (option_map suc p) (λ s. s < suc n)
behind None n h = tt
behind (Some s) n h = omega (arith, h)

first-place : (t : Bool) (p : Option ℕ) (n : ℕ) → IfSome p (λ s. s < n) → IfSome (cond t (Some 0) (option_map suc p)) (λ s. s < suc n)
first-place true p n h = omega arith
first-place false p n h = behind p n h

pub place-inside : (z : ℤ) (r : List ℤ) → IfSome (place_of z r) (λ s. s < length r)
place-inside z [] = tt
place-inside z (a ∷ r) = first-place (eq_z z a) (place_of z r) (length r) (place-inside z r)

-- ---- a value stored at the place of z among the values of h

abbrev pub put_at : Option ℕ → List ℕ → ℕ → List ℕ
put_at None l v = l
put_at (Some s) l v = set l s v

module _ (z : ℤ) (v : ℕ) (h : ℤ → ℕ) where
  abbrev stored : ℤ → ℕ
  stored a = cond (eq_z z a) v (h a)

  stored_none : (r : List ℤ) → every? (lt_z z) r ≡ true → map h r ≡ map stored r
  stored_none [] e = refl
  stored_none (a ∷ r) e =
      rw (lt_z_apart z a (and_left (lt_z z a) (every? (lt_z z) r) e)) (ap (λ (l : List ℕ). h a ∷ l) (stored_none r (and_right (lt_z z a) (every? (lt_z z) r) e)))

  put-behind : (p : Option ℕ) (x : ℕ) (l : List ℕ) → put_at (option_map suc p) (x ∷ l) v ≡ x ∷ put_at p l v
  put-behind None x l = refl
  put-behind (Some s) x l = refl

  stored_head : (t : Bool) (a : ℤ) (r : List ℤ) → eq_z z a ≡ t → every? (lt_z a) r ≡ true → put_at (place_of z r) (map h r) v ≡ map stored r → put_at (cond t (Some 0) (option_map suc (place_of z r))) (h a ∷ map h r) v ≡ cond t v (h a) ∷ map stored r
  stored_head true a r e l i = ap (λ (s : List ℕ). v ∷ s) (stored_none r (ap (λ (y : ℤ). every? (lt_z y) r) (eq_z_true z a e) ∙ l))
  stored_head false a r e l i = put-behind (place_of z r) (h a) (map h r) ∙ ap (λ (s : List ℕ). h a ∷ s) i

  stored_at : (r : List ℤ) → ascends r ≡ true → put_at (place_of z r) (map h r) v ≡ map stored r
  stored_at [] o = refl
  stored_at (a ∷ r) o = stored_head (eq_z z a) a r refl (ascends_head a r o) (stored_at r (ascends_tail a r o))

-- ---- the last base attribute with an id, where x stands in for none

abbrev skill : BaseAttribute → ℕ
skill r = bits (cut r.value)

abbrev ids : List BaseAttribute → List ℤ
ids = map (λ r. r.attribute_id)

module _ (a : ℤ) where
  abbrev latest : ℕ → List BaseAttribute → ℕ
  latest x [] = x
  latest x (r ∷ rs) = latest (cond (eq_z r.attribute_id a) (skill r) x) rs

  latest_snoc : (x : ℕ) (rs : List BaseAttribute) (r : BaseAttribute) → latest x (rs ++ (r ∷ [])) ≡ cond (eq_z r.attribute_id a) (skill r) (latest x rs)
  latest_snoc x [] r = refl
  latest_snoc x (s ∷ rs) r = latest_snoc (cond (eq_z s.attribute_id a) (skill s) x) rs r

  latest_none : (x : ℕ) (rs : List BaseAttribute) → every? (lt_z a) (ids rs) ≡ true → latest x rs ≡ x
  latest_none x [] e = refl
  latest_none x (r ∷ rs) e =
      rw (eq_z_sym r.attribute_id a, lt_z_apart a r.attribute_id (and_left (lt_z a r.attribute_id) (every? (lt_z a) (ids rs)) e))
      (latest_none x rs (and_right (lt_z a r.attribute_id) (every? (lt_z a) (ids rs)) e))

  latest_head : (t : Bool) (r : BaseAttribute) (rs : List BaseAttribute) → eq_z r.attribute_id a ≡ t → every? (lt_z r.attribute_id) (ids rs) ≡ true → latest no_skill rs ≡ skill_bits (first (λ r. eq_z r.attribute_id a) rs) → latest (cond t (skill r) no_skill) rs ≡ skill_bits (or_else t r (first (λ r. eq_z r.attribute_id a) rs))
  latest_head true r rs e l h = latest_none (skill r) rs (ap (λ (z : ℤ). every? (lt_z z) (ids rs)) (sym (eq_z_true r.attribute_id a e)) ∙ l)
  latest_head false r rs e l h = h

  -- where the ids ascend it is the first
  latest_first : (rs : List BaseAttribute) → ascends (ids rs) ≡ true → latest no_skill rs ≡ skill_bits (first (λ r. eq_z r.attribute_id a) rs)
  latest_first [] o = refl
  latest_first (r ∷ rs) o =
      latest_head (eq_z r.attribute_id a) r rs refl (ascends_head r.attribute_id (ids rs) o) (latest_first rs (ascends_tail r.attribute_id (ids rs) o))

-- ---- the row of so many base attributes

unfoldable pub row_of : List BaseAttribute → List ℕ
row_of rs = map (λ a. latest a no_skill rs) attribute_skills

row-set : (rs : List BaseAttribute) (r : BaseAttribute) → put_at (slot_of r.attribute_id) (row_of rs) (skill r) ≡ row_of (rs ++ (r ∷ []))
unfolding row_of slot_of
row-set rs r =
    stored_at r.attribute_id (skill r) (λ a. latest a no_skill rs) attribute_skills refl
    ∙ map_same _ _ (λ a. sym (latest_snoc a no_skill rs r)) attribute_skills

-- k of n base attributes, from the first on, are in the row
pub record Filled (xs : List BaseAttribute) (start n : ℕ) (row : List ℕ) (k : ℕ) : Type 0 where
  pub within : k ≤ n
  pub is : row ≡ row_of (span start k xs)

pub filled_none : (xs : List BaseAttribute) (start n : ℕ) → Filled xs start n (no_skill ∷ no_skill ∷ no_skill ∷ no_skill ∷ no_skill ∷ no_skill ∷ []) 0
unfolding row_of
filled_none xs start n = record { within = omega arith; is = refl }

module _ (xs : List BaseAttribute) (start n : ℕ) {row : List ℕ} {k : ℕ} (F : Filled xs start n row k) (h : k < n) (l : start + n ≤ length xs) {r : BaseAttribute} (e : (d : BaseAttribute) → r ≡ get_or xs (start + k) d) where
  next : {slot : Option ℕ} → slot ≡ slot_of r.attribute_id → row_of (span start (k + 1) xs) ≡ put_at slot row (skill r)
  next {slot} p =
      ap row_of (span_next start k xs r (omega arith) ∙ ap (λ (x : BaseAttribute). span start k xs ++ (x ∷ [])) (sym (e r)))
      ∙ sym (row-set (span start k xs) r)
      ∙ ap (λ (m : Option ℕ). put_at m (row_of (span start k xs)) (skill r)) (sym p)
      ∙ ap (λ (m : List ℕ). put_at slot m (skill r)) (sym F.is)

  pub filled_here : {s v : ℕ} → Some s ≡ slot_of r.attribute_id → v ≡ bits (cut r.value) → Filled xs start n (set row s v) (k + 1)
  filled_here {s} p q = record { within = omega arith; is = ap (set row s) q ∙ sym (next p) }

  pub filled_on : None ≡ slot_of r.attribute_id → Filled xs start n row (k + 1)
  filled_on p = record { within = omega arith; is = sym (next p) }

-- an object's base attributes lie inside their table
pub bases_within : (f : Fit) (o : Item) → Based f o → {start n : ℕ} → start ≡ o.first_attribute → n ≡ o.attributes → start + n ≤ length f.bases
bases_within f o d p q = omega (arith, d.within)

pub filled_all : (f : Fit) (o x : Item) → Based f o → o ≡ x → {start n k : ℕ} {row : List ℕ} → start ≡ o.first_attribute → n ≡ o.attributes → Filled f.bases start n row k → n ≤ k → row ≡ required_bits f x
unfolding row_of required_bits get_base
filled_all f o x d i {start} {n} {k} p q F h =
    let same : k ≡ n = omega (arith, F.within) in
    F.is ∙ rw (same, p, q) (map_same (λ a. latest a no_skill (bases_of f o)) (λ a. skill_bits (get_base f o a)) (λ a. latest_first a (bases_of f o) d.ordered) attribute_skills)
    ∙ ap (required_bits f) i
