-- Lists that hold each row as often tile the same pool.
use Prim.Native.Nat.{ℕ, zero, suc, ◌+◌, ◌-◌, ◌≤◌, ◌<◌}
use native.Mathlib.Omega.{arith}
use native.Mathlib.Nat.{zero-add}
use mathlib.Core.Path.{◌≡◌, refl, sym, ap, ◌∙◌}
use mathlib.Core.Bool.{Bool, true, false, ◌&&◌, ◌||◌}
use mathlib.Core.List.{List, [], ◌∷◌, ◌++◌}
use lib.Dec.{leb, ltb, eqb}
use lib.ListN.{replicate}
use borrow.Author.Tests.{leb-true, leb-false, eqb-true, eqb-false, eq-eqb, le-ltb}
use Rattle.laws.specs.Lists.{every?, from}
use Rattle.laws.proofs.Bools.{and_left, and_right, and_both, same_test}
use Rattle.free_table.specs.declared.Stretch.{Stretch}
use Rattle.free_table.specs.Table.{empty}
use Rattle.seats.specs.Tiling.{end_of, holds, one, how_many, inside, tiled, lengths}
use Rattle.seats.proofs.Tiles.{in_by, inside-row, each_row, rows_by}

-- an empty one holds no row
pub none_held : (i : ℕ) (s : Stretch) → s.length ≡ 0 → one (holds i s) ≡ 0
none_held i s e = by (leb s.start i) refl
  where
    by : (b : Bool) → leb s.start i ≡ b → one (b && ltb i (end_of s)) ≡ 0
    by true f = ap one (le-ltb i (end_of s) (let z = leb-true s.start i f in omega (arith, z, e)))
    by false f = refl

pub many_append : (i : ℕ) (a b : List Stretch) → how_many i (a ++ b) ≡ how_many i a + how_many i b
many_append i [] b = sym (zero-add (how_many i b))
many_append i (s ∷ a) b = let e = many_append i a b in omega (arith, e)

pub lengths_append : (a b : List Stretch) → lengths (a ++ b) ≡ lengths a + lengths b
lengths_append [] b = sym (zero-add (lengths b))
lengths_append (s ∷ a) b = let e = lengths_append a b in omega (arith, e)

pub empties_hold : (i m : ℕ) → how_many i (replicate m empty) ≡ 0
empties_hold i zero = refl
empties_hold i (suc m) = let e = empties_hold i m in let z = none_held i empty refl in omega (arith, e, z)

-- each row below n once, and none above
pub record Tiles (n : ℕ) (ss : List Stretch) : Type 0 where
  pub rows : (i : ℕ) → i < n → how_many i ss ≡ 1
  pub above : (i : ℕ) → n ≤ i → how_many i ss ≡ 0

none_above : (n : ℕ) (ss : List Stretch) → every? (inside n) ss ≡ true → (i : ℕ) → n ≤ i → how_many i ss ≡ 0
none_above n [] h i k = refl
none_above n (s ∷ r) h i k = by (holds i s) refl (none_above n r (and_right (inside n s) (every? (inside n) r) h) i k)
  where
    by : (b : Bool) → holds i s ≡ b → how_many i r ≡ 0 → one b + how_many i r ≡ 0
    by true e f = absurd (let z = inside-row n i s (and_left (inside n s) (every? (inside n) r) h) e in omega (arith, z, k))
    by false e f = omega (arith, f)

all-inside : (n : ℕ) (ss : List Stretch) → ((i : ℕ) → n ≤ i → how_many i ss ≡ 0) → every? (inside n) ss ≡ true
all-inside n [] h = refl
all-inside n (s ∷ r) h = and_both (by (eqb s.length 0) (leb (end_of s) n) refl refl) (all-inside n r (λ i k. let z = h i k in omega (arith, z)))
  where
    by : (a b : Bool) → eqb s.length 0 ≡ a → leb (end_of s) n ≡ b → a || b ≡ true
    by true b e f = refl
    by false true e f = refl
    by false false e f =
        let some = eqb-false s.length 0 e in
        let past = leb-false (end_of s) n f in
        let z = h (end_of s - 1) (omega (arith, some, past)) in
        let y : one (holds (end_of s - 1) s) ≡ 1 = ap one (in_by (end_of s - 1) s (omega (arith, some)) (omega (arith, some))) in
        absurd (omega (arith, z, y))

pub tiles : {n : ℕ} {ss : List Stretch} → tiled n ss ≡ true → Tiles n ss
unfolding tiled
tiles {n} {ss} h =
    record {
      rows = λ i l. eqb-true (how_many i ss) 1 (each_row n (λ j. eqb (how_many j ss) 1) (and_left (every? (λ j. eqb (how_many j ss) 1) (from 0 n)) (every? (inside n) ss) h) i l);
      above = none_above n ss (and_right (every? (λ j. eqb (how_many j ss) 1) (from 0 n)) (every? (inside n) ss) h);
    }

pub tiled-by : {n : ℕ} {ss : List Stretch} → Tiles n ss → tiled n ss ≡ true
unfolding tiled
tiled-by {n} {ss} t = and_both (rows_by n (λ i. eqb (how_many i ss) 1) (λ i l. eq-eqb (how_many i ss) 1 (t.rows i l))) (all-inside n ss t.above)

pub tiled_rows : (n : ℕ) (a b : List Stretch) → ((i : ℕ) → how_many i b ≡ how_many i a) → tiled n a ≡ true → tiled n b ≡ true
tiled_rows n a b e h = let t = tiles h in tiled-by (record { rows = λ i l. e i ∙ t.rows i l; above = λ i l. e i ∙ t.above i l })

pub tiled_same : (n : ℕ) (a b : List Stretch) → ((i : ℕ) → how_many i a ≡ how_many i b) → tiled n a ≡ tiled n b
tiled_same n a b e = same_test (tiled n a) (tiled n b) (tiled_rows n a b (λ i. sym (e i))) (tiled_rows n b a e)
