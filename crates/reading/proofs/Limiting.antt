-- Marks of the attributes that may have a limit: what no mark says, and the loop that sets them.
use Prim.Native.Nat.{ℕ, zero, suc, ◌+◌, ◌%◌, ◌≤◌, ◌<◌, suc-le-suc, zero-le}
use native.Mathlib.Nat.{not-suc-le-zero, eq-or-lt_of_le}
use native.Mathlib.Omega.{arith}
use mathlib.Core.Path.{◌≡◌, refl, sym, ap, subst, ◌∙◌}
use mathlib.Core.Bool.{Bool, true, false, not, ◌||◌}
use mathlib.Core.List.{List, [], ◌∷◌}
use mathlib.Core.Logic.{◌⊎◌, inl, inr}
use mathlib.Core.Option
use lib.Dec.{eqb}
use lib.IntN.{ℤ, pos}
use lib.ListN.{length, get_or, set, replicate, length-set, length-replicate}
use lib.Seq.{get_or-set_same, get_or-set_other}
use mir.Syntax.{w32}
use mir.Val.{SFits, to_z, of_z}
use mir.Facts.{to_z-of_z}
use borrow.Author.Tests.{eqb-true}
use Rattle.laws.specs.Lists.{eq_z, first, or_else}
use Rattle.laws.proofs.Bools.{not-not, or_false_left, or_false_right}
use Rattle.laws.proofs.Order.{eq_z_true}
use Rattle.rules.specs.Bytes.{bits}
use Rattle.rules.specs.Info.{get_dogma_attribute, missing}
use Rattle.rules.specs.Sheet.{Book}
use Rattle.rules.specs.declared.DogmaAttribute.{DogmaAttribute}
use Rattle.info.specs.Sound.{Nth}
use Rattle.reading.specs.Stretched.{Limits}

-- the place of an id's mark, where a callee was given the id's bits
pub mark_place : (a : ℤ) {m n : ℕ} → SFits w32 a → m ≡ of_z w32 (to_z w32 (of_z w32 a)) → n ≡ m % 1024 → n ≡ bits a % 1024
mark_place a f e p = p ∙ ap (λ (i : ℕ). i % 1024) (e ∙ ap (of_z w32) (to_z-of_z f))

-- a mark of 0: there is no limit
pub not_limited : (a : ℤ) (c : List ℕ) {n : ℕ} → n ≡ bits a % 1024 → (k : Book) → Limits k c → not (eqb (get_or c n 0) 0) ≡ false
    → ((get_dogma_attribute k a).min_attribute_id ≡ pos 0) × ((get_dogma_attribute k a).max_attribute_id ≡ pos 0)
not_limited a c {n} p k L e = (L.least a unmarked, L.most a unmarked)
  where
    unmarked : get_or c (bits a % 1024) 0 ≡ 0
    unmarked = ap (λ (i : ℕ). get_or c i 0) (sym p) ∙ eqb-true (get_or c n 0) 0 (sym (not-not (eqb (get_or c n 0) 0)) ∙ ap not e)

-- ---- the loop

abbrev Limitless : DogmaAttribute → Type 0
Limitless r = (r.min_attribute_id ≡ pos 0) × (r.max_attribute_id ≡ pos 0)

-- a record whose id is not marked has no limit
abbrev Unmarked : List ℕ → DogmaAttribute → Type 0
Unmarked c r = get_or c (bits r.id % 1024) 0 ≡ 0 → Limitless r

-- so it is with i of the records
pub record Marking (xs : List DogmaAttribute) (c : List ℕ) (i : ℕ) : Type 0 where
  pub long : length c ≡ 1024
  pub sound : (j : ℕ) → j < i → Unmarked c (get_or xs j (missing (pos 0)))

pub marking_none : {xs : List DogmaAttribute} → Marking xs (replicate 1024 0) 0
marking_none = record { long = length-replicate {A = ℕ} 1024 0; sound = λ j h. absurd (not-suc-le-zero h) }

no_number : (z : ℤ) → SFits w32 z → not (eqb (of_z w32 z) 0) ≡ false → z ≡ pos 0
no_number z f e = sym (to_z-of_z f) ∙ ap (to_z w32) (eqb-true (of_z w32 z) 0 (sym (not-not (eqb (of_z w32 z) 0)) ∙ ap not e))

module _ {xs : List DogmaAttribute} {c : List ℕ} {i : ℕ} (M : Marking xs c i) (r : DogmaAttribute) (is : Nth xs i r) where
  -- record i has no limit
  pub marking_on : SFits w32 r.min_attribute_id → SFits w32 r.max_attribute_id → not (eqb (of_z w32 r.min_attribute_id) 0) || not (eqb (of_z w32 r.max_attribute_id) 0) ≡ false
      → Marking xs c (i + 1)
  marking_on f g e =
      record { long = M.long; sound = λ j h. at j (eq-or-lt_of_le {n = j} {m = i} (omega arith)) }
    where
      least : Bool
      least = not (eqb (of_z w32 r.min_attribute_id) 0)

      most : Bool
      most = not (eqb (of_z w32 r.max_attribute_id) 0)

      none : Limitless r
      none = (no_number r.min_attribute_id f (or_false_left least most e), no_number r.max_attribute_id g (or_false_right least most e))

      at : (j : ℕ) → (j ≡ i) ⊎ (j < i) → Unmarked c (get_or xs j (missing (pos 0)))
      at j (inl q) u = subst Limitless (is (missing (pos 0)) ∙ ap (λ (m : ℕ). get_or xs m (missing (pos 0))) (sym q)) none
      at j (inr q) u = M.sound j q u

  -- the mark of record i is set
  pub marking_here : {n : ℕ} → n ≡ bits r.id % 1024 → Marking xs (set c n 1) (i + 1)
  marking_here {n} p =
      record { long = length-set c n 1 ∙ M.long; sound = λ j h. at j (eq-or-lt_of_le {n = j} {m = i} (omega arith)) }
    where
      few : n < length c
      few = omega (arith, M.long, p)

      marked : (m : ℕ) → get_or (set c n 1) m 0 ≡ 0 → m ≡ n → ⊥
      marked m u q =
          let one : ◌≡◌ {A = ℕ} 1 0 = sym (get_or-set_same c n 1 0 few) ∙ ap (λ (k : ℕ). get_or (set c n 1) k 0) (sym q) ∙ u in
          omega (arith, one)

      at : (j : ℕ) → (j ≡ i) ⊎ (j < i) → Unmarked (set c n 1) (get_or xs j (missing (pos 0)))
      at j (inl q) u =
          let same : r ≡ get_or xs j (missing (pos 0)) = is (missing (pos 0)) ∙ ap (λ (m : ℕ). get_or xs m (missing (pos 0))) (sym q) in
          absurd (marked (bits (get_or xs j (missing (pos 0))).id % 1024) u (ap (λ (x : DogmaAttribute). bits x.id % 1024) (sym same) ∙ sym p))
      at j (inr q) u =
          let m = bits (get_or xs j (missing (pos 0))).id % 1024 in
          M.sound j q (sym (get_or-set_other c n m 1 0 (marked m u)) ∙ u)

-- ---- all records are looked at

-- the record that is looked up is one of them, or has no limit
first_limitless : (c : List ℕ) (a : ℤ) → get_or c (bits a % 1024) 0 ≡ 0 → (xs : List DogmaAttribute)
    → ((j : ℕ) → j < length xs → Unmarked c (get_or xs j (missing (pos 0)))) → Limitless (Option.get_or (first (λ r. eq_z r.id a) xs) (missing a))
first_limitless c a u [] f = (refl, refl)
first_limitless c a u (x ∷ xs) f = by (eq_z x.id a) refl (first_limitless c a u xs (λ j h. f (suc j) (suc-le-suc h)))
  where
    by : (t : Bool) → eq_z x.id a ≡ t → Limitless (Option.get_or (first (λ r. eq_z r.id a) xs) (missing a)) → Limitless (Option.get_or (or_else t x (first (λ r. eq_z r.id a) xs)) (missing a))
    by true e h = f zero (suc-le-suc zero-le) (ap (λ (z : ℤ). get_or c (bits z % 1024) 0) (eq_z_true x.id a e) ∙ u)
    by false e h = h

pub marking_all : (k : Book) {c : List ℕ} {i n m : ℕ} → Marking k.attributes c i → n ≤ i → n ≡ m → length k.attributes ≡ m → Limits k c
unfolding get_dogma_attribute
marking_all k {c} M h e l = record { least = λ a u. (all a u).0; most = λ a u. (all a u).1 }
  where
    all : (a : ℤ) → get_or c (bits a % 1024) 0 ≡ 0 → Limitless (Option.get_or (first (λ r. eq_z r.id a) k.attributes) (missing a))
    all a u = first_limitless c a u k.attributes (λ j b. M.sound j (omega (arith, l)))
