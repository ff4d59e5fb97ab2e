-- Cut and join keep, for every row, how many stretches it is in; and free stretches stay apart.
use Prim.Native.Nat.{ℕ, ◌+◌, ◌-◌, ◌≤◌, ◌<◌}
use native.Mathlib.Omega.{arith}
use native.Mathlib.Nat.{zero-add}
use mathlib.Core.Path.{◌≡◌, refl, ap, ◌∙◌, subst}
use mathlib.Core.Bool.{Bool, true, false, ◌&&◌, not, cond}
use mathlib.Core.List.{List, [], ◌∷◌}
use mathlib.Core.Option.{Option, none, some}
use lib.Dec.{leb, ltb, eqb}
use borrow.Author.Tests.{leb-true, ltb-true, ltb-false, eqb-true, eqb-false, le-leb, lt-leb, lt-ltb}
use Rattle.laws.specs.Lists.{put}
use Rattle.laws.proofs.Bools.{and_left, and_right, and_both}
use Rattle.free_table.specs.declared.Stretch.{Stretch}
use Rattle.seats.specs.Tiling.{end_of, holds, one, how_many}
use Rattle.seats.specs.Seats.{apart, Cut, rest_of, behind, cut_first, both, in_order, meet, joined}

-- ---- rows from a to b and from b to c are those from a to c

is_in_lem : (i a c : ℕ) (t u : Bool) → ltb i a ≡ t → ltb i c ≡ u → one (leb a i && ltb i c) ≡ one (not t && u)
is_in_lem i a c true u e f = rw (lt-leb a i (ltb-true i a e)) refl
is_in_lem i a c false u e f = rw (le-leb a i (ltb-false i a e), f) refl

next_to : (i a b c : ℕ) → a ≤ b → b ≤ c → one (leb a i && ltb i b) + one (leb b i && ltb i c) ≡ one (leb a i && ltb i c)
next_to i a b c h k = by (ltb i a) (ltb i b) (ltb i c) refl refl refl
  where
    same : (t u v : Bool) → ltb i a ≡ t → ltb i b ≡ u → ltb i c ≡ v → one (not t && u) + one (not u && v) ≡ one (not t && v)
    same true true v e f g = refl
    same true false v e f g = absurd (omega (arith, ltb-true i a e, ltb-false i b f, h))
    same false true true e f g = refl
    same false true false e f g = absurd (omega (arith, ltb-true i b f, ltb-false i c g, k))
    same false false v e f g = zero-add (one v)

    by : (t u v : Bool) → ltb i a ≡ t → ltb i b ≡ u → ltb i c ≡ v → one (leb a i && ltb i b) + one (leb b i && ltb i c) ≡ one (leb a i && ltb i c)
    by t u v e f g =
        let x = is_in_lem i a b t u e f in let y = is_in_lem i b c u v f g in let z = is_in_lem i a c t v e g in let w = same t u v e f g in omega (arith, x, y, z, w)

-- ---- join

both_rows : (i : ℕ) (s t : Stretch) → end_of s ≡ t.start → one (holds i s) + one (holds i t) ≡ one (holds i (both s t))
both_rows i s t e =
    let n = next_to i s.start (end_of s) (end_of s + t.length) (omega arith) (omega arith) in
    let x : one (leb (end_of s) i && ltb i (end_of s + t.length)) ≡ one (holds i t) = ap (λ (k : ℕ). one (leb k i && ltb i (k + t.length))) e in
    let far : end_of s + t.length ≡ s.start + (s.length + t.length) = omega arith in
    let y : one (leb s.start i && ltb i (end_of s + t.length)) ≡ one (holds i (both s t)) = ap (λ (k : ℕ). one (leb s.start i && ltb i k)) far in
    omega (arith, n, x, y)

meet_rows : (i : ℕ) (s : Stretch) (l : List Stretch) → how_many i (meet s l) ≡ one (holds i s) + how_many i l
meet_rows i s [] = refl
meet_rows i s (t ∷ r) = by (eqb (end_of s) t.start) refl
  where
    by : (u : Bool) → eqb (end_of s) t.start ≡ u → how_many i (cond (eqb (end_of s) t.start) (both s t ∷ r) (s ∷ t ∷ r)) ≡ one (holds i s) + (one (holds i t) + how_many i r)
    by true e = rw e (let b = both_rows i s t (eqb-true (end_of s) t.start e) in omega (arith, b))
    by false e = rw e refl

-- "joined to its neighbours": no row is lost or counted twice
pub joined_rows : (i : ℕ) (l : List Stretch) → how_many i (joined l) ≡ how_many i l
joined_rows i [] = refl
joined_rows i (s ∷ r) = let a = meet_rows i s (joined r) in let b = joined_rows i r in omega (arith, a, b)

pub in_order_rows : (i : ℕ) (s : Stretch) (l : List Stretch) → how_many i (in_order s l) ≡ one (holds i s) + how_many i l
in_order_rows i s [] = refl
in_order_rows i s (t ∷ r) = by (ltb s.start t.start) refl (in_order_rows i s r)
  where
    by : (u : Bool) → ltb s.start t.start ≡ u → how_many i (in_order s r) ≡ one (holds i s) + how_many i r
        → how_many i (cond (ltb s.start t.start) (s ∷ t ∷ r) (t ∷ in_order s r)) ≡ one (holds i s) + (one (holds i t) + how_many i r)
    by true e a = rw e refl
    by false e a = rw e (omega (arith, a))

-- ---- cut

-- the rows that are given
abbrev pub front : Cut → ℕ → Stretch
front c w = record { start = c.start; length = w }

rest_rows : (i : ℕ) (s : Stretch) (w : ℕ) (r : List Stretch) → w ≤ s.length → one (holds i (record { start = s.start; length = w })) + how_many i (put (ltb w s.length) (rest_of s w) r) ≡ one (holds i s) + how_many i r
rest_rows i s w r h = by (ltb w s.length) refl
  where
    far : s.start + w + (s.length - w) ≡ end_of s
    far = omega (arith, h)

    whole : one (leb s.start i && ltb i (s.start + w)) + one (leb (s.start + w) i && ltb i (s.start + w + (s.length - w))) ≡ one (holds i s)
    whole = next_to i s.start (s.start + w) (s.start + w + (s.length - w)) (omega arith) (omega arith) ∙ ap (λ (k : ℕ). one (leb s.start i && ltb i k)) far

    by : (u : Bool) → ltb w s.length ≡ u → one (holds i (record { start = s.start; length = w })) + how_many i (put (ltb w s.length) (rest_of s w) r) ≡ one (holds i s) + how_many i r
    by true e = rw e (omega (arith, whole))
    by false e =
        let all : w ≡ s.length = omega (arith, h, ltb-false w s.length e) in
        let x : one (holds i (record { start = s.start; length = w })) ≡ one (holds i s) = ap (λ (k : ℕ). one (leb s.start i && ltb i (s.start + k))) all in
        rw e (omega (arith, x))

-- what a cut says, of the list it is made in
pub record Cuts (w : ℕ) (fs : List Stretch) (c : Cut) : Type 0 where
  pub rows : (i : ℕ) → one (holds i (front c w)) + how_many i c.rest ≡ how_many i fs

pub some_same : {A : Type 0} {x y : A} → ◌≡◌ {A = Option A} (some x) (some y) → x ≡ y
some_same e = cc

pub none_some : {A X : Type 0} {y : A} → ◌≡◌ {A = Option A} none (some y) → X
none_some e = absurd (let z : ◌≡◌ {A = ℕ} 0 1 = cc in omega arith)

pub cut_rows : (w : ℕ) (fs : List Stretch) (c : Cut) → cut_first w fs ≡ some c → Cuts w fs c
cut_rows w [] c e = none_some e
cut_rows w (s ∷ r) c e = by (leb w s.length) refl e (λ d k. cut_rows w r d k)
  where
    later : (o : Option Cut) → cut_first w r ≡ o → behind s o ≡ some c → ((d : Cut) → cut_first w r ≡ some d → Cuts w r d) → Cuts w (s ∷ r) c
    later none k g f = none_some g
    later (some d) k g f = subst (Cuts w (s ∷ r)) (some_same g) (record { rows = λ i. (let a = (f d k).rows i in omega (arith, a)) })

    by : (u : Bool) → leb w s.length ≡ u
        → (elim u [ true ↦ some (record { start = s.start; rest = put (ltb w s.length) (rest_of s w) r }) | false ↦ behind s (cut_first w r) ]) ≡ some c
        → ((d : Cut) → cut_first w r ≡ some d → Cuts w r d) → Cuts w (s ∷ r) c
    by true f g rest = subst (Cuts w (s ∷ r)) (some_same g) (record { rows = λ i. rest_rows i s w r (leb-true w s.length f) })
    by false f g rest = later (cut_first w r) refl g rest

-- ---- apart

pub meet-apart : (s : Stretch) (l : List Stretch) → 0 < s.length → apart l ≡ true → ((t : Stretch) (r : List Stretch) → l ≡ t ∷ r → end_of s ≤ t.start) → apart (meet s l) ≡ true
meet-apart s [] h k m = lt-ltb 0 s.length h
meet-apart s (t ∷ r) h k m = by (eqb (end_of s) t.start) refl
  where
    low : end_of s ≤ t.start
    low = m t r refl

    longer : (q : List Stretch) → apart (t ∷ q) ≡ true → end_of s ≡ t.start → apart (both s t ∷ q) ≡ true
    longer [] a e = lt-ltb 0 (s.length + t.length) (omega (arith, h))
    longer (x ∷ q) a e =
        let first = and_left (ltb 0 t.length && ltb (end_of t) x.start) (apart (x ∷ q)) a in
        let gap = ltb-true (end_of t) x.start (and_right (ltb 0 t.length) (ltb (end_of t) x.start) first) in
        and_both (and_both (lt-ltb 0 (s.length + t.length) (omega (arith, h))) (lt-ltb (s.start + (s.length + t.length)) x.start (omega (arith, gap, e)))) (and_right (ltb 0 t.length && ltb (end_of t) x.start) (apart (x ∷ q)) a)

    by : (u : Bool) → eqb (end_of s) t.start ≡ u → apart (cond (eqb (end_of s) t.start) (both s t ∷ r) (s ∷ t ∷ r)) ≡ true
    by true e = rw e (longer r k (eqb-true (end_of s) t.start e))
    by false e = rw e (and_both (and_both (lt-ltb 0 s.length h) (lt-ltb (end_of s) t.start (let z = eqb-false (end_of s) t.start e in omega (arith, low, z)))) k)
