-- Whom an aim hits is whom its location's map and its test's map have in common.
use Prim.Native.Nat.{ℕ, zero, suc, ◌≤◌, ◌<◌}
use native.Mathlib.Omega.{arith}
use mathlib.Core.Path.{◌≡◌, refl, sym, ap, ◌∙◌}
use mathlib.Core.Bool.{Bool, true, false, not, ◌&&◌, ◌||◌, cond}
use mathlib.Core.List.{List, [], ◌∷◌}
use mathlib.Core.Logic.{◌⊎◌, inl, inr}
use lib.Dec.{eqb, leb}
use lib.ListN.{length, get_or, replicate}
use borrow.Author.Tests.{eqb-true, eq-eqb, ne_eqb, lt-ltb, le-ltb}
use Rattle.laws.specs.Lists.{some?, put, keep, from}
use Rattle.laws.proofs.Bools.{same_test, and_left, and_right, and_both, and_false_right, or_none_right}
use Rattle.laws.proofs.Every.{some_append, some_same, none_by}
use Rattle.laws.proofs.Keep.{keep_same}
use Rattle.laws.proofs.Maps.{map_at}
use Rattle.rules.specs.Bytes.{bits}
use Rattle.rules.specs.Columns.{yes1}
use Rattle.rules.specs.Sheet.{Book, Fit}
use Rattle.rules.specs.Item.{object, is_item, is_charge, is_owner_modifiable}
use Rattle.rules.specs.declared.Item.{Item}
use Rattle.info.specs.Stands.{is_fitted}
use Rattle.hits.specs.declared.Aim.{Aim}
use Rattle.hits.specs.declared.Test.{Test}
use Rattle.hits.specs.declared.Test.TheVariants.{All, OfGroup, Requiring}
use Rattle.hits.specs.Reach.{no_skill, required_bits, reach_of}
use Rattle.hits.specs.Who.{asked, passes_by, passes, within, Aims}
use Rattle.hits.proofs.Ranges.{keep_range}
use Rattle.maps.specs.Keys.{group_key, key_row, is_key, keys_of, has_key, let_in}
use Rattle.maps.specs.Maps.{let_in_before, has_before}
use Rattle.maps.specs.Hits.{reach_table, skill_table, hit_by, tested}
use Rattle.maps.proofs.Index.{less_or}
use Rattle.maps.proofs.Rows.{skills_small}

some_keep : {A : Type 0} (p q : A → Bool) (l : List A) → some? p (keep q l) ≡ some? (λ x. q x && p x) l
some_keep p q [] = refl
some_keep p q (x ∷ l) = by (q x) (some_keep p q l)
  where
    by : (t : Bool) → some? p (keep q l) ≡ some? (λ y. q y && p y) l → some? p (put t x (keep q l)) ≡ t && p x || some? (λ y. q y && p y) l
    by true e = ap (λ (b : Bool). p x || b) e
    by false e = e

module _ (f : Fit) (o : Item) where
  skills : List ℕ
  skills = cond (is_fitted o) (required_bits f o) (replicate 6 no_skill)

  small_if : (t : Bool) (i : ℕ) → get_or (cond t (required_bits f o) (replicate 6 no_skill)) i 0 ≤ 4294967296
  small_if true i = skills_small f o refl i
  small_if false zero = omega arith
  small_if false (suc zero) = omega arith
  small_if false (suc (suc zero)) = omega arith
  small_if false (suc (suc (suc zero))) = omega arith
  small_if false (suc (suc (suc (suc zero)))) = omega arith
  small_if false (suc (suc (suc (suc (suc zero))))) = omega arith
  small_if false (suc (suc (suc (suc (suc (suc i)))))) = omega arith

  parts : (x : ℕ) → some? (eqb x) (keys_of f o) ≡ some? (λ y. is_key y && eqb x y) (cond (is_fitted o) (required_bits f o) (replicate 6 no_skill)) || (is_key (group_key (bits o.group_id)) && eqb x (group_key (bits o.group_id)) || false)
  unfolding key_row
  parts x = some_keep (eqb x) is_key (key_row f o) ∙ some_append (λ y. is_key y && eqb x y) (cond (is_fitted o) (required_bits f o) (replicate 6 no_skill)) (group_key (bits o.group_id) ∷ [])

  -- a group is among the keys where it is the object's own
  pub group_key_lem : (g : ℕ) → some? (eqb (group_key g)) (keys_of f o) ≡ eqb (bits o.group_id) g
  group_key_lem g =
      parts (group_key g)
      ∙ ap (λ (b : Bool). b || (is_key own && eqb (group_key g) own || false)) none
      ∙ or_none_right (is_key own && eqb (group_key g) own)
      ∙ ap (λ (b : Bool). not b && eqb (group_key g) own) (ne_eqb own no_skill (λ e. absurd (omega (arith, e))))
      ∙ same_test (eqb (group_key g) own) (eqb (bits o.group_id) g)
      (λ e. eq-eqb (bits o.group_id) g (omega (arith, eqb-true (group_key g) own e)))
      (λ e. eq-eqb (group_key g) own (omega (arith, eqb-true (bits o.group_id) g e)))
    where
      own : ℕ
      own = group_key (bits o.group_id)

      none : some? (λ y. is_key y && eqb (group_key g) y) (cond (is_fitted o) (required_bits f o) (replicate 6 no_skill)) ≡ false
      none =
          none_by (λ y. is_key y && eqb (group_key g) y) (cond (is_fitted o) (required_bits f o) (replicate 6 no_skill)) 0
          (λ i h. ap (λ (b : Bool). is_key (get_or (cond (is_fitted o) (required_bits f o) (replicate 6 no_skill)) i 0) && b)
          (ne_eqb (group_key g) (get_or (cond (is_fitted o) (required_bits f o) (replicate 6 no_skill)) i 0) (λ e. absurd (omega (arith, e, small_if (is_fitted o) i))))
          ∙ and_false_right (is_key (get_or (cond (is_fitted o) (required_bits f o) (replicate 6 no_skill)) i 0)))

  -- a skill is among them where an item or a charge requires it
  pub skill_key : (s : ℕ) → s < 4294967296 → is_fitted o ≡ true → some? (eqb s) (keys_of f o) ≡ some? (eqb s) (required_bits f o)
  skill_key s h t =
      parts s
      ∙ ap (λ (b : Bool). some? (λ y. is_key y && eqb s y) (cond b (required_bits f o) (replicate 6 no_skill)) || (is_key own && eqb s own || false)) t
      ∙ ap (λ (b : Bool). some? (λ y. is_key y && eqb s y) (required_bits f o) || (is_key own && b || false)) (ne_eqb s own (λ e. absurd (omega (arith, e, h))))
      ∙ ap (λ (b : Bool). some? (λ y. is_key y && eqb s y) (required_bits f o) || (b || false)) (and_false_right (is_key own))
      ∙ or_none_right (some? (λ y. is_key y && eqb s y) (required_bits f o))
      ∙ some_same (λ y. is_key y && eqb s y) (eqb s) same (required_bits f o)
    where
      own : ℕ
      own = group_key (bits o.group_id)

      same : (y : ℕ) → is_key y && eqb s y ≡ eqb s y
      same y =
          same_test (is_key y && eqb s y) (eqb s y) (and_right (is_key y) (eqb s y))
          (λ e. and_both (ap not (ne_eqb y no_skill (λ z. absurd (omega (arith, z, h, eqb-true s y e))))) e)

  -- the columns of items and charges
  fit_if : (b : Bool) → eqb (yes1 b) 0 ≡ false → b ≡ true
  fit_if true e = refl
  fit_if false e = sym e

  swap_or : (c i x : Bool) → c || i && x ≡ true → i || c ≡ true
  swap_or c true x e = refl
  swap_or true false x e = refl
  swap_or false false x e = e

  pub column_fitted : (k : Book) (c : ℕ) → 2 < c → c < 6 → eqb (get_or (reach_of k f o) c 0) 0 ≡ false → is_fitted o ≡ true
  unfolding reach_of
  column_fitted k zero l h e = absurd (omega (arith, l))
  column_fitted k (suc zero) l h e = absurd (omega (arith, l))
  column_fitted k (suc (suc zero)) l h e = absurd (omega (arith, l))
  column_fitted k (suc (suc (suc zero))) l h e = and_left (is_fitted o) _ (fit_if _ e)
  column_fitted k (suc (suc (suc (suc zero)))) l h e = and_left (is_fitted o) _ (fit_if _ e)
  column_fitted k (suc (suc (suc (suc (suc zero))))) l h e = swap_or (is_charge o) (is_item o) (is_owner_modifiable o) (fit_if (is_charge o || is_item o && is_owner_modifiable o) e)
  column_fitted k (suc (suc (suc (suc (suc (suc c)))))) l h e = absurd (omega (arith, h))

-- an aim that maps serve: at a location, and by a skill only at items and charges
pub record Servable (a : Aim) : Type 0 where
  pub location : a.column < 6
  pub skilled : (s : ℕ) → a.test ≡ Requiring s → (2 < a.column) × (s < 4294967296)

module _ (k : Book) (f : Fit) (p : Item → Bool) (a : Aim) (A : Aims p k f a) (S : Servable a) where
  abbrev all : ℕ
  all = length f.objects

  abbrev mapped : ℕ → Bool
  mapped i = let_in_before k f all a.column i && tested (has_before f all) a.test i

  abbrev told : ℕ → Bool
  told i = passes a (get_or (reach_table k f) i []) (get_or (skill_table f) i [])

  module _ (i : ℕ) (h : i < all) where
    row : get_or (reach_table k f) i [] ≡ reach_of k f (object f i)
    row = map_at (reach_of k f) f.objects i _ [] h

    needs : get_or (skill_table f) i [] ≡ required_bits f (object f i)
    needs = map_at (required_bits f) f.objects i _ [] h

    tested-is : (t : Test) → a.test ≡ t → eqb (get_or (reach_of k f (object f i)) a.column 0) 0 ≡ false → tested (has_before f all) t i ≡ asked t (reach_of k f (object f i)) (required_bits f (object f i))
    unfolding reach_of
    tested-is All e z = refl
    tested-is (OfGroup g) e z = ap (λ (b : Bool). b && has_key f (group_key g) i) (lt-ltb i all h) ∙ group_key_lem f (object f i) g
    tested-is (Requiring s) e z =
        ap (λ (b : Bool). b && has_key f s i) (lt-ltb i all h)
        ∙ skill_key f (object f i) s (S.skilled s e).1 (column_fitted f (object f i) k a.column (S.skilled s e).0 S.location z)

    inside : (t : Bool) → eqb (get_or (reach_of k f (object f i)) a.column 0) 0 ≡ t → not t && tested (has_before f all) a.test i ≡ within a i && (not t && asked a.test (reach_of k f (object f i)) (required_bits f (object f i)))
    inside true z = sym (and_false_right (within a i))
    inside false z =
        tested-is a.test refl z
        ∙ ap (λ (b : Bool). b && asked a.test (reach_of k f (object f i)) (required_bits f (object f i))) (sym (A.tight S.location i h z))

    at-object : mapped i ≡ within a i && told i
    unfolding passes_by
    at-object =
        ap (λ (b : Bool). (b && let_in k f a.column i) && tested (has_before f all) a.test i) (lt-ltb i all h)
        ∙ ap (λ (b : Bool). (b && not (eqb (get_or (reach_of k f (object f i)) a.column 0) 0)) && tested (has_before f all) a.test i) (lt-ltb a.column 6 S.location)
        ∙ inside (eqb (get_or (reach_of k f (object f i)) a.column 0) 0) refl
        ∙ ap (λ (r : List ℕ). within a i && passes a r (required_bits f (object f i))) (sym row)
        ∙ ap (λ (q : List ℕ). within a i && passes a (get_or (reach_table k f) i []) q) (sym needs)

  behind : (i : ℕ) → all ≤ i → mapped i ≡ within a i && told i
  behind i h =
      ap (λ (b : Bool). (b && let_in k f a.column i) && tested (has_before f all) a.test i) (le-ltb i all h)
      ∙ sym (ap (λ (b : Bool). (leb a.«from» i && b) && told i) (le-ltb i a.end (omega (arith, A.inside, h)))
      ∙ ap (λ (b : Bool). b && told i) (and_false_right (leb a.«from» i)))

  anywhere : (i : ℕ) → mapped i ≡ within a i && told i
  anywhere i = by (less_or i all)
    where
      by : (i < all) ⊎ (all ≤ i) → mapped i ≡ within a i && told i
      by (inl h) = at-object i h
      by (inr h) = behind i h

  -- enough words: the ones are the objects that the plain test finds
  pub hits_mapped : (n : ℕ) → a.end ≤ n → keep (λ i. let_in_before k f all a.column i && tested (has_before f all) a.test i) (from 0 n) ≡ hit_by k f a
  hits_mapped n h = keep_same mapped (λ i. within a i && told i) anywhere (from 0 n) ∙ keep_range told a.«from» a.end n A.ordered h
