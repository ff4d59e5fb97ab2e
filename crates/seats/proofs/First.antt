-- The first stretch that is long enough, and the first that begins behind a row, as a search over the stretches finds them.
use Prim.Native.Nat.{ℕ, zero, suc, ◌+◌, ◌≤◌, ◌<◌}
use native.Mathlib.Omega.{arith}
use native.Mathlib.Nat.{zero-add}
use mathlib.Core.Path.{◌≡◌, refl, sym, ap, ◌∙◌}
use mathlib.Core.Bool.{Bool, true, false, cond, not}
use mathlib.Core.List.{List, [], ◌∷◌}
use lib.Dec.{leb, ltb}
use lib.ListN.{length, take, drop, get_or}
use lib.Seq.{length-take-le}
use borrow.Author.Tests.{ltb-true, ltb-false}
use Rattle.std.specs.Prelude.{Option, Some, None}
use Rattle.std.specs.Option.{unwrap_or}
use Rattle.std.specs.List.{position_or_len}
use Rattle.std.proofs.lemmas.List.Sums.{prefix_len-le-length}
use Rattle.laws.proofs.Scans.{drop-step}
use Rattle.free_table.specs.declared.Stretch.{Stretch}
use Rattle.free_table.specs.Table.{empty, pick}
use Rattle.seats.specs.Plan.{first_from, place_in, place_of}

position_cons : (p : Stretch → Bool) (x : Stretch) (xs : List Stretch) → position_or_len p (x ∷ xs) ≡ pick (p x) 0 (suc (position_or_len p xs))
position_cons p x xs = by (p x) refl
  where
    by : (b : Bool) → p x ≡ b → position_or_len p (x ∷ xs) ≡ pick b 0 (suc (position_or_len p xs))
    by true e = rw e refl
    by false e = rw e (omega arith)

first_place : (t : List Stretch) (w i n : ℕ) → i + n ≤ length t → first_from t w i n ≡ i + position_or_len (λ s. leb w s.length) (take n (drop i t))
first_place t w i zero h = omega arith
first_place t w i (suc n) h =
    turn (first_place t w (i + 1) n (omega (arith, h))) (leb w (get_or t i empty).length)
    ∙ ap (λ (k : ℕ). i + k) (sym (position_cons (λ s. leb w s.length) (get_or t i empty) (take n (drop (i + 1) t))))
    ∙ ap (λ (l : List Stretch). i + position_or_len (λ s. leb w s.length) (take (suc n) l)) (sym (drop-step t i empty (omega (arith, h))))
  where
    turn : first_from t w (i + 1) n ≡ (i + 1) + position_or_len (λ s. leb w s.length) (take n (drop (i + 1) t)) → (b : Bool) → pick b i (first_from t w (i + 1) n) ≡ i + pick b 0 (suc (position_or_len (λ s. leb w s.length) (take n (drop (i + 1) t))))
    turn e true = omega arith
    turn e false = omega (arith, e)

module _ (t : List Stretch) (n : ℕ) (few : n ≤ length t) where
  -- what the search over the first n gives
  pub first-found : (w : ℕ) {o : Option ℕ} → o ≡ cond (ltb (position_or_len (λ s. leb w s.length) (take n t)) (length (take n t))) (Some (position_or_len (λ s. leb w s.length) (take n t))) None
      → o ≡ place_in n (first_from t w 0 n)
  first-found w e = e ∙ rw (length-take-le n t few, first_place t w 0 n (omega (arith, few)), zero-add (position_or_len (λ s. leb w s.length) (take n t))) refl

  place-is : (a : ℕ) (l : List Stretch) → place_of a l ≡ position_or_len (λ s. ltb a s.start) l
  place-is a [] = refl
  place-is a (s ∷ l) = ap (λ (k : ℕ). pick (ltb a s.start) 0 (suc k)) (place-is a l) ∙ sym (position_cons (λ r. ltb a r.start) s l)

  -- and n where it finds none
  pub first-behind : (a : ℕ) {o : Option ℕ} → o ≡ cond (ltb (position_or_len (λ s. ltb a s.start) (take n t)) (length (take n t))) (Some (position_or_len (λ s. ltb a s.start) (take n t))) None
      → unwrap_or o n ≡ place_of a (take n t)
  first-behind a {o} e = by (ltb (position_or_len (λ s. ltb a s.start) (take n t)) (length (take n t))) refl
    where
      most : position_or_len (λ s. ltb a s.start) (take n t) ≤ length (take n t)
      most = prefix_len-le-length (λ s. not (ltb a s.start)) (take n t)

      by : (b : Bool) → ltb (position_or_len (λ s. ltb a s.start) (take n t)) (length (take n t)) ≡ b → unwrap_or o n ≡ place_of a (take n t)
      by true g = rw (e, g) (sym (place-is a (take n t)))
      by false g = rw (e, g) ((let z = ltb-false (position_or_len (λ s. ltb a s.start) (take n t)) (length (take n t)) g in let y = length-take-le n t few in omega (arith, z, y, most)) ∙ sym (place-is a (take n t)))

-- a place that is told lies below n, and is none where it does not
pub place_some : {n j i : ℕ} {o : Option ℕ} → o ≡ place_in n j → o ≡ Some i → (i ≡ j) × (i < n)
place_some {n} {j} {i} e f = by (ltb j n) refl
  where
    by : (b : Bool) → ltb j n ≡ b → (i ≡ j) × (i < n)
    by true g = let z : Some i ≡ Some j = sym f ∙ e ∙ rw g refl in let y : i ≡ j = cc in let x = ltb-true j n g in (y, omega (arith, x, y))
    by false g = let z : Some i ≡ None = sym f ∙ e ∙ rw g refl in cc

pub place_none : {n j : ℕ} {o : Option ℕ} → o ≡ place_in n j → ((i : ℕ) → o ≡ Some i → ⊥) → n ≤ j
place_none {n} {j} e f = by (ltb j n) refl
  where
    by : (b : Bool) → ltb j n ≡ b → n ≤ j
    by true g = absurd (f j (e ∙ rw g refl))
    by false g = ltb-false j n g
