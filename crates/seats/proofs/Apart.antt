-- Free stretches stay ordered and apart: after a cut, and after a leaver is put in and joined.
use Prim.Native.Nat.{ℕ, ◌+◌, ◌≤◌, ◌<◌, max, min}
use native.Mathlib.Omega.{arith}
use mathlib.Core.Path.{◌≡◌, refl, subst}
use mathlib.Core.Bool.{Bool, true, false, ◌&&◌, not, cond}
use mathlib.Core.List.{List, [], ◌∷◌}
use mathlib.Core.Option.{Option, none, some}
use lib.Dec.{leb, ltb, eqb}
use borrow.Author.Tests.{leb-true, ltb-true, ltb-false, not-true, le-leb, lt-ltb}
use Rattle.laws.specs.Lists.{put, every?}
use Rattle.laws.proofs.Bools.{and_left, and_right, and_both}
use Rattle.free_table.specs.declared.Stretch.{Stretch}
use Rattle.seats.specs.Tiling.{end_of}
use Rattle.seats.specs.Tests.{overlaps}
use Rattle.seats.specs.Seats.{apart, Cut, rest_of, behind, cut_first, both, in_order, meet, joined}
use Rattle.seats.proofs.Rows.{some_same, none_some, meet-apart}

-- the first begins past row n, or at it
abbrev pub above : ℕ → List Stretch → Bool
above n [] = true
above n (t ∷ r) = ltb n t.start

abbrev not_below : ℕ → List Stretch → Bool
not_below n [] = true
not_below n (t ∷ r) = leb n t.start

apart_cons : (s : Stretch) (l : List Stretch) → 0 < s.length → above (end_of s) l ≡ true → apart l ≡ true → apart (s ∷ l) ≡ true
apart_cons s [] h k m = lt-ltb 0 s.length h
apart_cons s (t ∷ r) h k m = and_both (and_both (lt-ltb 0 s.length h) k) m

pub apart_long : (s : Stretch) (l : List Stretch) → apart (s ∷ l) ≡ true → 0 < s.length
apart_long s [] h = ltb-true 0 s.length h
apart_long s (t ∷ r) h = ltb-true 0 s.length (and_left (ltb 0 s.length) (ltb (end_of s) t.start) (and_left (ltb 0 s.length && ltb (end_of s) t.start) (apart (t ∷ r)) h))

pub apart_above : (s : Stretch) (l : List Stretch) → apart (s ∷ l) ≡ true → above (end_of s) l ≡ true
apart_above s [] h = refl
apart_above s (t ∷ r) h = and_right (ltb 0 s.length) (ltb (end_of s) t.start) (and_left (ltb 0 s.length && ltb (end_of s) t.start) (apart (t ∷ r)) h)

pub apart_tail : (s : Stretch) (l : List Stretch) → apart (s ∷ l) ≡ true → apart l ≡ true
apart_tail s [] h = refl
apart_tail s (t ∷ r) h = and_right (ltb 0 s.length && ltb (end_of s) t.start) (apart (t ∷ r)) h

-- ---- a cut

pub record CutApart (fs : List Stretch) (c : Cut) : Type 0 where
  pub rest : apart c.rest ≡ true
  pub up : (n : ℕ) → above n fs ≡ true → above n c.rest ≡ true

higher : (n : ℕ) (s : Stretch) (r : List Stretch) → n < s.start → above (end_of s) r ≡ true → above n r ≡ true
higher n s [] h k = refl
higher n s (t ∷ r) h k = lt-ltb n t.start (let z = ltb-true (end_of s) t.start k in omega (arith, h, z))

taken-apart : (w : ℕ) (s : Stretch) (r : List Stretch) → w ≤ s.length → apart (s ∷ r) ≡ true → CutApart (s ∷ r) (record { start = s.start; rest = put (ltb w s.length) (rest_of s w) r })
taken-apart w s r h a = by (ltb w s.length) refl
  where
    by : (u : Bool) → ltb w s.length ≡ u → CutApart (s ∷ r) (record { start = s.start; rest = put (ltb w s.length) (rest_of s w) r })
    by true e =
        let less = ltb-true w s.length e in
        let far : end_of s ≡ end_of (rest_of s w) = omega (arith, less) in
        rw e (record {
          rest = apart_cons (rest_of s w) r (omega (arith, less)) (subst (λ (k : ℕ). above k r ≡ true) far (apart_above s r a)) (apart_tail s r a);
          up = λ n k. lt-ltb n (s.start + w) (let z = ltb-true n s.start k in omega (arith, z));
        })
    by false e = rw e (record { rest = apart_tail s r a; up = λ n k. higher n s r (ltb-true n s.start k) (apart_above s r a) })

pub cut_apart : (w : ℕ) (fs : List Stretch) (c : Cut) → cut_first w fs ≡ some c → apart fs ≡ true → CutApart fs c
cut_apart w [] c e a = none_some e
cut_apart w (s ∷ r) c e a = by (leb w s.length) refl e (λ d k. cut_apart w r d k (apart_tail s r a))
  where
    later : (o : Option Cut) → cut_first w r ≡ o → behind s o ≡ some c → ((d : Cut) → cut_first w r ≡ some d → CutApart r d) → CutApart (s ∷ r) c
    later none k g f = none_some g
    later (some d) k g f =
        let m = f d k in
        subst (CutApart (s ∷ r)) (some_same g) (record { rest = apart_cons s d.rest (apart_long s r a) (m.up (end_of s) (apart_above s r a)) m.rest; up = λ n j. j })

    by : (u : Bool) → leb w s.length ≡ u
        → (elim u [ true ↦ some (record { start = s.start; rest = put (ltb w s.length) (rest_of s w) r }) | false ↦ behind s (cut_first w r) ]) ≡ some c
        → ((d : Cut) → cut_first w r ≡ some d → CutApart r d) → CutApart (s ∷ r) c
    by true f g rest = subst (CutApart (s ∷ r)) (some_same g) (taken-apart w s r (leb-true w s.length f) a)
    by false f g rest = later (cut_first w r) refl g rest

-- ---- a leaver

-- none is empty, and none begins before the end of the one before it
abbrev ordered : List Stretch → Bool
ordered [] = true
ordered (s ∷ r) = ltb 0 s.length && (not_below (end_of s) r && ordered r)

above_not : (n : ℕ) (l : List Stretch) → above n l ≡ true → not_below n l ≡ true
above_not n [] h = refl
above_not n (t ∷ r) h = le-leb n t.start (let z = ltb-true n t.start h in omega (arith, z))

apart_ordered : (l : List Stretch) → apart l ≡ true → ordered l ≡ true
apart_ordered [] h = refl
apart_ordered (s ∷ r) h = and_both (lt-ltb 0 s.length (apart_long s r h)) (and_both (above_not (end_of s) r (apart_above s r h)) (apart_ordered r (apart_tail s r h)))

-- two that do not overlap, neither empty
before_it : (s t : Stretch) → 0 < s.length → 0 < t.length → overlaps s t ≡ false → s.start < t.start → end_of s ≤ t.start
before_it s t h k e l = let z = ltb-false (max s.start t.start) (min (end_of s) (end_of t)) e in omega (arith, h, k, l, z)

after_it : (s t : Stretch) → 0 < s.length → 0 < t.length → overlaps s t ≡ false → t.start ≤ s.start → end_of t ≤ s.start
after_it s t h k e l = let z = ltb-false (max s.start t.start) (min (end_of s) (end_of t)) e in omega (arith, h, k, l, z)

pub record PutIn (s : Stretch) (fs : List Stretch) : Type 0 where
  pub is : ordered (in_order s fs) ≡ true
  pub from : (n : ℕ) → n ≤ s.start → not_below n fs ≡ true → not_below n (in_order s fs) ≡ true

pub put_in : (s : Stretch) → 0 < s.length → (fs : List Stretch) → apart fs ≡ true → every? (λ t. not (overlaps s t)) fs ≡ true → PutIn s fs
put_in s h [] a k = record { is = and_both (lt-ltb 0 s.length h) refl; from = λ n l j. le-leb n s.start l }
put_in s h (t ∷ r) a k = by (ltb s.start t.start) refl (put_in s h r (apart_tail t r a) (and_right (not (overlaps s t)) (every? (λ u. not (overlaps s u)) r) k))
  where
    free : overlaps s t ≡ false
    free = not-true (overlaps s t) (and_left (not (overlaps s t)) (every? (λ u. not (overlaps s u)) r) k)

    long : 0 < t.length
    long = apart_long t r a

    by : (u : Bool) → ltb s.start t.start ≡ u → PutIn s r → PutIn s (t ∷ r)
    by true e m =
        let less = ltb-true s.start t.start e in
        record {
          is = rw e (and_both (lt-ltb 0 s.length h) (and_both (le-leb (end_of s) t.start (before_it s t h long free less)) (apart_ordered (t ∷ r) a)));
          from = λ n l j. rw e (le-leb n s.start l);
        }
    by false e m =
        let more = ltb-false s.start t.start e in
        record {
          is = rw e (and_both (lt-ltb 0 t.length long) (and_both (m.from (end_of t) (after_it s t h long free more) (above_not (end_of t) r (apart_above t r a))) m.is));
          from = λ n l j. rw e j;
        }

meet-from : (n : ℕ) (s : Stretch) (l : List Stretch) → n ≤ s.start → not_below n (meet s l) ≡ true
meet-from n s [] h = le-leb n s.start h
meet-from n s (t ∷ r) h = by (eqb (end_of s) t.start) refl
  where
    by : (u : Bool) → eqb (end_of s) t.start ≡ u → not_below n (cond (eqb (end_of s) t.start) (both s t ∷ r) (s ∷ t ∷ r)) ≡ true
    by true e = rw e (le-leb n s.start h)
    by false e = rw e (le-leb n s.start h)

pub record Joined (l : List Stretch) : Type 0 where
  pub is : apart (joined l) ≡ true
  pub from : (n : ℕ) → not_below n l ≡ true → not_below n (joined l) ≡ true

head_from : (n : ℕ) (l : List Stretch) → not_below n l ≡ true → (t : Stretch) (r : List Stretch) → l ≡ t ∷ r → n ≤ t.start
head_from n l h t r e = leb-true n t.start (subst (λ (x : List Stretch). not_below n x ≡ true) e h)

pub joined-apart : (l : List Stretch) → ordered l ≡ true → Joined l
joined-apart [] h = record { is = refl; from = λ n j. refl }
joined-apart (s ∷ r) h =
    let two = and_right (ltb 0 s.length) (not_below (end_of s) r && ordered r) h in
    let m = joined-apart r (and_right (not_below (end_of s) r) (ordered r) two) in
    let next = m.from (end_of s) (and_left (not_below (end_of s) r) (ordered r) two) in
    record {
      is = meet-apart s (joined r) (ltb-true 0 s.length (and_left (ltb 0 s.length) (not_below (end_of s) r && ordered r) h)) m.is (head_from (end_of s) (joined r) next);
      from = λ n j. meet-from n s (joined r) (leb-true n s.start j);
    }

-- "joined to its neighbours": what is free then is ordered, and no two touch
pub leaver-apart : (s : Stretch) → 0 < s.length → (fs : List Stretch) → apart fs ≡ true → every? (λ t. not (overlaps s t)) fs ≡ true → apart (joined (in_order s fs)) ≡ true
leaver-apart s h fs a k = (joined-apart (in_order s fs) (put_in s h fs a k).is).is
