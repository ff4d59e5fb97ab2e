-- "free-few": between free stretches lie pilots', so there are at most one more of them than pilots that are in.
use Prim.Native.Nat.{ℕ, zero, suc, ◌+◌, ◌-◌, ◌≤◌, ◌<◌}
use native.Mathlib.Omega.{arith}
use mathlib.Core.Path.{◌≡◌, refl, sym, ap, ◌∙◌}
use mathlib.Core.Bool.{Bool, true, false, ◌&&◌}
use mathlib.Core.List.{List, [], ◌∷◌, ◌++◌}
use lib.Dec.{leb, ltb}
use lib.ListN.{length, get_or}
use borrow.Author.Tests.{leb-true, leb-false, ltb-true, ltb-false, le-leb, lt-leb, le-ltb, lt-ltb}
use Rattle.free_table.specs.declared.Stretch.{Stretch}
use Rattle.free_table.specs.Table.{empty}
use Rattle.seats.specs.Tiling.{end_of, holds, one, how_many}
use Rattle.seats.specs.Seats.{apart}
use Rattle.seats.proofs.Tiles.{in_by, in_low, in_high}
use Rattle.seats.proofs.Apart.{above, apart_long, apart_above, apart_tail}
use Rattle.seats.proofs.Same.{Tiles, many_append}

-- ---- rows of ordered stretches

not_in : (i : ℕ) (s : Stretch) → i < s.start → one (holds i s) ≡ 0
not_in i s h = ap (λ (b : Bool). one (b && ltb i (end_of s))) (lt-leb s.start i h)

pub past_it : (i : ℕ) (s : Stretch) → end_of s ≤ i → one (holds i s) ≡ 0
past_it i s h = by (leb s.start i)
  where
    by : (b : Bool) → one (b && ltb i (end_of s)) ≡ 0
    by true = ap one (le-ltb i (end_of s) h)
    by false = refl

pub is_in_lem : (i : ℕ) (s : Stretch) → s.start ≤ i → i < end_of s → one (holds i s) ≡ 1
is_in_lem i s h k = ap one (in_by i s h k)

-- no row before the first
pub none_before : (i : ℕ) (l : List Stretch) → apart l ≡ true → above i l ≡ true → how_many i l ≡ 0
none_before i [] a h = refl
none_before i (t ∷ r) a h =
    let low = ltb-true i t.start h in
    let z = not_in i t low in
    let y = none_before i r (apart_tail t r a) (further r (apart_above t r a)) in omega (arith, z, y)
  where
    further : (q : List Stretch) → above (end_of t) q ≡ true → above i q ≡ true
    further [] e = refl
    further (u ∷ q) e = lt-ltb i u.start (let z = ltb-true (end_of t) u.start e in let y = ltb-true i t.start h in omega (arith, z, y))

-- the row past a free stretch is in no free one
pub gap : (s : Stretch) (r : List Stretch) → apart (s ∷ r) ≡ true → how_many (end_of s) (s ∷ r) ≡ 0
gap s r a = let z = past_it (end_of s) s (omega arith) in let y = none_before (end_of s) r (apart_tail s r a) (apart_above s r a) in omega (arith, z, y)

-- ---- pilots that begin at e or behind it

abbrev starts : ℕ → Stretch → Bool
starts e p = ltb 0 p.length && leb e p.start

abbrev pub starts_from : ℕ → List Stretch → ℕ
starts_from e [] = 0
starts_from e (p ∷ r) = one (starts e p) + starts_from e r

starts_less : (e f : ℕ) (p : Stretch) → e ≤ f → one (starts f p) ≤ one (starts e p)
starts_less e f p h = by (ltb 0 p.length) (leb f p.start) refl
  where
    by : (b c : Bool) → leb f p.start ≡ c → one (b && c) ≤ one (b && leb e p.start)
    by false c g = omega arith
    by true false g = omega arith
    by true true g = let z : one (leb e p.start) ≡ 1 = ap one (le-leb e p.start (let y = leb-true f p.start g in omega (arith, y, h))) in omega (arith, z)

from_less : (e f : ℕ) (ps : List Stretch) → e ≤ f → starts_from f ps ≤ starts_from e ps
from_less e f [] h = omega arith
from_less e f (p ∷ r) h = let z = starts_less e f p h in let y = from_less e f r h in omega (arith, z, y)

at_most_one : (b : Bool) → one b ≤ 1
at_most_one true = omega arith
at_most_one false = omega arith

from-most : (e : ℕ) (ps : List Stretch) → starts_from e ps ≤ length ps
from-most e [] = omega arith
from-most e (p ∷ r) = let z = at_most_one (starts e p) in let y = from-most e r in omega (arith, z, y)

-- one that is not in is not counted
from_but : (e : ℕ) (ps : List Stretch) (i : ℕ) → i < length ps → (get_or ps i empty).length ≡ 0 → suc (starts_from e ps) ≤ length ps
from_but e [] i h k = absurd (omega (arith, h))
from_but e (p ∷ r) zero h k =
    let z : one (starts e p) ≡ 0 = ap (λ (b : Bool). one (b && leb e p.start)) (le-ltb 0 p.length (omega (arith, k))) in
    let y = from-most e r in omega (arith, z, y)
from_but e (p ∷ r) (suc i) h k = let z = at_most_one (starts e p) in let y = from_but e r i (omega (arith, h)) k in omega (arith, z, y)

-- one begins at row r: it is in r, and not in the row before
pub one-begins : (r e : ℕ) (ps : List Stretch) → 0 < r → r < e → 1 ≤ how_many r ps → how_many (r - 1) ps ≡ 0 → suc (starts_from e ps) ≤ starts_from r ps
one-begins r e [] h k m n = absurd (omega (arith, m))
one-begins r e (p ∷ q) h k m n = by (holds r p) refl m (λ z. one-begins r e q h k z (omega (arith, n)))
  where
    by : (b : Bool) → holds r p ≡ b → 1 ≤ one b + how_many r q → (1 ≤ how_many r q → suc (starts_from e q) ≤ starts_from r q) → suc (one (starts e p) + starts_from e q) ≤ one (starts r p) + starts_from r q
    by false f g rest = let z = rest (omega (arith, g)) in let y = starts_less r e p (omega (arith, k)) in omega (arith, z, y)
    by true f g rest =
        let low = in_low r p f in
        let high = in_high r p f in
        let here : r ≤ p.start = begins (leb p.start (r - 1)) refl in
        let a : one (starts r p) ≡ 1 = ap (λ (b : Bool). one (b && leb r p.start)) (lt-ltb 0 p.length (omega (arith, low, high))) ∙ ap one (le-leb r p.start here) in
        let c : one (starts e p) ≡ 0 = ap (λ (b : Bool). one (b && leb e p.start)) (lt-ltb 0 p.length (omega (arith, low, high))) ∙ ap one (lt-leb e p.start (omega (arith, low, k))) in
        let y = from_less r e q (omega (arith, k)) in omega (arith, a, c, y)
      where
        begins : (b : Bool) → leb p.start (r - 1) ≡ b → r ≤ p.start
        begins false z = (let y = leb-false p.start (r - 1) z in omega (arith, y, h))
        begins true z = absurd (let y = is_in_lem (r - 1) p (leb-true p.start (r - 1) z) (let x = in_high r p f in omega (arith, x)) in omega (arith, y, n))

-- ---- the theorem

module _ (n : ℕ) (free ps : List Stretch) (t : Tiles n (free ++ ps)) where
  both_rows : (i : ℕ) → i < n → how_many i free + how_many i ps ≡ 1
  both_rows i h = sym (many_append i free ps) ∙ t.rows i h

  below_n : (i : ℕ) → 1 ≤ how_many i free → i < n
  below_n i h = by (ltb i n) refl
    where
      by : (b : Bool) → ltb i n ≡ b → i < n
      by true e = ltb-true i n e
      by false e = absurd (let z = t.above i (ltb-false i n e) in let y = many_append i free ps in omega (arith, z, y, h))

  few_from : (s : Stretch) (l : List Stretch) → apart (s ∷ l) ≡ true → ((i : ℕ) → s.start ≤ i → how_many i free ≡ how_many i (s ∷ l)) → length l ≤ starts_from (end_of s) ps
  few_from s [] a e = omega arith
  few_from s (u ∷ r) a e =
      let up = ltb-true (end_of s) u.start (apart_above s (u ∷ r) a) in
      let long = apart_long s (u ∷ r) a in
      let more = apart_long u r (apart_tail s (u ∷ r) a) in
      let rest = few_from u r (apart_tail s (u ∷ r) a) (λ i h. let z = e i (omega (arith, h, up)) in let y = past_it i s (omega (arith, h, up)) in omega (arith, z, y)) in
      let last = below_n u.start (let z = e u.start (omega (arith, up)) in let y = is_in_lem u.start u (omega arith) (omega (arith, more)) in omega (arith, z, y)) in
      let here : how_many (end_of s) ps ≡ 1 = (let z = both_rows (end_of s) (omega (arith, up, last)) in let y = e (end_of s) (omega arith) in let x = gap s (u ∷ r) a in omega (arith, z, y, x)) in
      let before : how_many (end_of s - 1) ps ≡ 0 =
      (let z = both_rows (end_of s - 1) (omega (arith, up, last)) in let y = e (end_of s - 1) (omega (arith, long)) in let x = is_in_lem (end_of s - 1) s (omega (arith, long)) (omega (arith, long)) in omega (arith, z, y, x)) in
      let next = one-begins (end_of s) (end_of u) ps (omega (arith, long)) (omega (arith, up)) (omega (arith, here)) before in omega (arith, rest, next)

  few : (l : List Stretch) → free ≡ l → apart l ≡ true → (k : ℕ) → ((e : ℕ) → starts_from e ps ≤ k) → length l ≤ suc k
  few [] e a k h = omega arith
  few (s ∷ r) e a k h = let z = few_from s r a (λ i j. ap (how_many i) e) in let y = h (end_of s) in omega (arith, z, y)

  pub free_few : apart free ≡ true → length free ≤ suc (length ps)
  free_few a = few free refl a (length ps) (λ e. from-most e ps)

  -- and one fewer where a pilot is not in
  pub free_fewer : apart free ≡ true → (i : ℕ) → i < length ps → (get_or ps i empty).length ≡ 0 → length free ≤ length ps
  free_fewer a i h k = let z = few free refl a (length ps - 1) (λ e. let y = from_but e ps i h k in omega (arith, y)) in omega (arith, z, h)
