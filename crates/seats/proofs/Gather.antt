-- The free stretches and the pilots' in one list of 33, and what its tests come to.
use Prim.Native.Nat.{ℕ, zero, suc, ◌+◌, ◌-◌, ◌≤◌, ◌<◌}
use native.Mathlib.Omega.{arith}
use native.Mathlib.Nat.{zero-add}
use mathlib.Core.Path.{◌≡◌, refl, sym, ap, ◌∙◌}
use mathlib.Core.Bool.{Bool, true, false, ◌&&◌, not}
use mathlib.Core.List.{List, [], ◌∷◌, ◌++◌, map}
use lib.Dec.{eqb}
use lib.ListN.{length, take, drop, get_or, set, replicate, length-append, take-append-drop}
use lib.Seq.{length-take-le}
use borrow.Author.Tests.{le-leb, lt-leb}
use Rattle.laws.specs.Lists.{every?, some?, from}
use Rattle.laws.proofs.Bools.{and_assoc}
use Rattle.laws.proofs.From.{table-next, table-length}
use Rattle.laws.proofs.Scans.{drop-step, drop_end}
use Rattle.free_table.specs.declared.Stretch.{Stretch}
use Rattle.free_table.specs.Table.{empty}
use Rattle.seats.specs.Tiling.{how_many, inside, tiled, lengths}
use Rattle.seats.specs.Tests.{clear_of, tested}
use Rattle.seats.specs.Seats.{seat_of, same_five, apart, table_good}
use Rattle.seats.specs.Told.{hall_of}
use Rattle.seats.proofs.Tiles.{tested-tiled}
use Rattle.seats.proofs.Same.{many_append, empties_hold, tiled_same}
use Rattle.seats.proofs.Loops.{none_differs}

pub app_app : {A : Type 0} (a b c : List A) → (a ++ b) ++ c ≡ a ++ (b ++ c)
app_app [] b c = refl
app_app {A} (x ∷ a) b c = ap (λ (l : List A). x ∷ l) (app_app a b c)

app_none : {A : Type 0} (a : List A) → a ++ [] ≡ a
app_none [] = refl
app_none {A} (x ∷ a) = ap (λ (l : List A). x ∷ l) (app_none a)

-- one more behind those that stand already
pub set_next : {A : Type 0} (f : List A) (x y : A) (r : List A) → set (f ++ (x ∷ r)) (length f) y ≡ (f ++ (y ∷ [])) ++ r
set_next [] x y r = refl
set_next {A} (z ∷ f) x y r = ap (λ (l : List A). z ∷ l) (set_next f x y r)

-- ---- the pilots'

pub record Seating (f : ℕ → Stretch) (free all : List Stretch) (p : ℕ) : Type 0 where
  pub within : p ≤ 16
  pub is : all ≡ take 17 free ++ (map f (from 0 p) ++ drop (17 + p) free)

front : (f : ℕ → Stretch) (free : List Stretch) (p : ℕ) → 17 ≤ length free → length (take 17 free ++ map f (from 0 p)) ≡ p + 17
front f free p h =
    let a = length-append (take 17 free) (map f (from 0 p)) in
    let b = length-take-le 17 free h in
    let c = table-length f 0 p in omega (arith, a, b, c)

both_parts : (free : List Stretch) → take 17 free ++ drop 17 free ≡ free
both_parts free = take-append-drop 17 free

pub seating_none : (f : ℕ → Stretch) (free : List Stretch) → Seating f free free 0
seating_none f free = record { within = omega arith; is = sym (both_parts free) }

pub seating_next : {f : ℕ → Stretch} {free all : List Stretch} {p : ℕ} → Seating f free all p → length free ≡ 33 → p < 16 → Seating f free (set all (p + 17) (f p)) (p + 1)
seating_next {f} {free} {all} {p} s h k =
    record {
      within = omega (arith, k);
      is =
          ap (λ (a : List Stretch). set a (p + 17) (f p))
          (s.is ∙ sym (app_app (take 17 free) (map f (from 0 p)) (drop (17 + p) free))
          ∙ ap (λ (a : List Stretch). (take 17 free ++ map f (from 0 p)) ++ a) (drop-step free (17 + p) empty (omega (arith, h, k))))
          ∙ ap (λ (m : ℕ). set ((take 17 free ++ map f (from 0 p)) ++ (get_or free (17 + p) empty ∷ drop (17 + p + 1) free)) m (f p)) (sym (front f free p (omega (arith, h))))
          ∙ set_next (take 17 free ++ map f (from 0 p)) (get_or free (17 + p) empty) (f p) (drop (17 + p + 1) free)
          ∙ ap (λ (a : List Stretch). a ++ drop (17 + p + 1) free) (app_app (take 17 free) (map f (from 0 p)) (f p ∷ [])
          ∙ ap (λ (m : ℕ). take 17 free ++ (map f (from 0 p) ++ (f m ∷ []))) (sym (zero-add p)) ∙ ap (λ (a : List Stretch). take 17 free ++ a) (sym (table-next f 0 p)))
          ∙ app_app (take 17 free) (map f (from 0 (p + 1))) (drop (17 + p + 1) free)
          ∙ ap (λ (m : ℕ). take 17 free ++ (map f (from 0 (p + 1)) ++ drop m free)) (let z : 17 + p + 1 ≡ 17 + (p + 1) = omega arith in z);
    }

pub seating_end : {f : ℕ → Stretch} {free all : List Stretch} {p : ℕ} → Seating f free all p → length free ≡ 33 → 16 ≤ p → all ≡ take 17 free ++ map f (from 0 16)
seating_end {f} {free} {all} {p} s h k =
    s.is ∙ ap (λ (m : ℕ). take 17 free ++ (map f (from 0 m) ++ drop (17 + m) free)) (let z : p ≡ 16 = omega (arith, k, s.within) in z)
    ∙ ap (λ (a : List Stretch). take 17 free ++ (map f (from 0 16) ++ a)) (drop_end free 33 (omega (arith, h))) ∙ ap (λ (a : List Stretch). take 17 free ++ a) (app_none (map f (from 0 16)))

-- ---- empty ones among them change nothing

take-front : (n : ℕ) (t : List Stretch) → n ≤ length t → n ≤ 17 → take 17 (take n t ++ replicate (33 - n) empty) ≡ take n t ++ replicate (17 - n) empty
take-front n t h k =
    ap (λ (m : ℕ). take m (take n t ++ replicate (33 - n) empty)) (let z : 17 ≡ length (take n t) + (17 - n) = (let y = length-take-le n t h in omega (arith, y, k)) in z)
    ∙ past (take n t) (17 - n) (33 - n) (omega (arith, k))
  where
    few : (a b : ℕ) → a ≤ b → take a (replicate b empty) ≡ replicate a empty
    few zero b l = refl
    few (suc a) zero l = absurd (omega (arith, l))
    few (suc a) (suc b) l = ap (λ (q : List Stretch). empty ∷ q) (few a b (omega (arith, l)))

    past : (f : List Stretch) (a b : ℕ) → a ≤ b → take (length f + a) (f ++ replicate b empty) ≡ f ++ replicate a empty
    past [] a b l = ap (λ (m : ℕ). take m (replicate b empty)) (zero-add a) ∙ few a b l
    past (x ∷ f) a b l = ap (λ (m : ℕ). take m (x ∷ (f ++ replicate b empty))) (let z : suc (length f) + a ≡ suc (length f + a) = omega arith in z) ∙ ap (λ (q : List Stretch). x ∷ q) (past f a b l)

five : (a b c d e : Bool) → (((a && b) && c) && d) && e ≡ (a && b) && (c && (d && e))
five false b c d e = refl
five true false c d e = refl
five true true c d e = and_assoc c d e

module _ (t : List Stretch) (n : ℕ) (ss : List (List (List ℕ))) (m : ℕ) (long : length t ≡ 17) where
  pub too_many : 17 < n → false ≡ table_good (hall_of t n ss m)
  unfolding table_good
  too_many h = rw (le-leb 17 (length t) (omega (arith, long)), lt-leb n (length t) (omega (arith, long, h))) refl

  module _ (few : n ≤ 17) where
    good_by : table_good (hall_of t n ss m) ≡ (every? (same_five ss) (from 0 16) && apart (take n t)) && tiled m (take n t ++ map (seat_of ss) (from 0 16))
    unfolding table_good
    good_by = rw (le-leb 17 (length t) (omega (arith, long)), le-leb n (length t) (omega (arith, long, few))) refl

    rows_same : (i : ℕ) → how_many i (take 17 (take n t ++ replicate (33 - n) empty) ++ map (seat_of ss) (from 0 16)) ≡ how_many i (take n t ++ map (seat_of ss) (from 0 16))
    rows_same i =
        let a = ap (λ (l : List Stretch). how_many i (l ++ map (seat_of ss) (from 0 16))) (take-front n t (omega (arith, long, few)) few) in
        let b = many_append i (take n t ++ replicate (17 - n) empty) (map (seat_of ss) (from 0 16)) in
        let c = many_append i (take n t) (replicate (17 - n) empty) in
        let d = empties_hold i (17 - n) in
        let e = many_append i (take n t) (map (seat_of ss) (from 0 16)) in omega (arith, a, b, c, d, e)

    module _ {free all : List Stretch} (f : free ≡ take n t ++ replicate (33 - n) empty) (g : all ≡ take 17 free ++ map (seat_of ss) (from 0 16)) where
      all-is : all ≡ take 17 (take n t ++ replicate (33 - n) empty) ++ map (seat_of ss) (from 0 16)
      all-is = g ∙ ap (λ (l : List Stretch). take 17 l ++ map (seat_of ss) (from 0 16)) f

      tests : every? (inside m) all && (clear_of all && eqb (lengths all) m) ≡ tiled m (take n t ++ map (seat_of ss) (from 0 16))
      unfolding tested
      tests = tested-tiled m all ∙ ap (tiled m) all-is ∙ tiled_same m (take 17 (take n t ++ replicate (33 - n) empty) ++ map (seat_of ss) (from 0 16)) (take n t ++ map (seat_of ss) (from 0 16)) rows_same

      pub all_tested : {d o a c : Bool} {s : ℕ} → d ≡ some? (λ p. not (same_five ss p)) (from 0 16) → o ≡ apart (take n t) → a ≡ every? (inside m) all → c ≡ clear_of all → s ≡ lengths all
          → (((not d && o) && a) && c) && eqb s m ≡ table_good (hall_of t n ss m)
      all_tested {d} {o} {a} {c} {s} u v w x y =
          five (not d) o a c (eqb s m)
          ∙ ap (λ (b : Bool). (b && o) && (a && (c && eqb s m))) (ap not u ∙ none_differs (same_five ss) (from 0 16))
          ∙ ap (λ (b : Bool). (every? (same_five ss) (from 0 16) && b) && (a && (c && eqb s m))) v
          ∙ ap (λ (b : Bool). (every? (same_five ss) (from 0 16) && apart (take n t)) && b)
          (ap (λ (b : Bool). b && (c && eqb s m)) w ∙ ap (λ (b : Bool). every? (inside m) all && (b && eqb s m)) x ∙ ap (λ (k : ℕ). every? (inside m) all && (clear_of all && eqb k m)) y ∙ tests)
          ∙ sym good_by
