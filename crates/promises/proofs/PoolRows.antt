-- POOL is given exactly when the rows say so, with the place that they say.
use Prim.Native.Nat.{ℕ, zero, suc, ◌+◌, ◌-◌, ◌≤◌, ◌<◌, max, min}
use native.Mathlib.Omega.{arith}
use mathlib.Core.Path.{◌≡◌, refl, sym, ap, subst, ◌∙◌}
use mathlib.Core.Bool.{Bool, true, false, ◌&&◌, ◌||◌}
use mathlib.Core.Logic.{◌⊎◌, inl, inr}
use mathlib.Core.List.{List, []}
use mathlib.Core.Option
use mathlib.Core.Option.{Option, none, some}
use lib.Dec.{ltb}
use lib.ListN.{length, get_or}
use borrow.Author.Tests.{ltb-true, ltb-false, lt-ltb}
use Rattle.laws.specs.Lists.{some?, or_else, first, from}
use Rattle.laws.proofs.Bools.{either, and_left, and_right, and_both, not-passed, both_ways, true_or_false, or_true_right}
use Rattle.laws.proofs.Every.{some_place, some_by, none_by}
use Rattle.laws.proofs.First.{first-at, first_none, none_first}
use Rattle.laws.proofs.From.{from_at, from-length}
use Rattle.rules.specs.Pool.{first_of, length_of, end_of, first_at, length_at, stretch_of, leaves, overlaps, astray_in, astray, has_row, seated, pool_bad}
use Rattle.rules.proofs.Pools.{none_from}
use Rattle.promises.specs.Pilots.{RowOf}
use Rattle.promises.specs.PoolRows.{IsList, Seated, Astray, leaving, sharing, Reason, no_stretch, first-astray, NoReason}

-- ---- numbers that pass a test

record Number (t : ℕ → Bool) (a n : ℕ) : Type 0 where
  at : ℕ
  from' : a ≤ at
  below : at < a + n
  passes : t at ≡ true

some_number : (t : ℕ → Bool) (a n : ℕ) → some? t (from a n) ≡ true → Number t a n
some_number t a n e =
    let k = some_place t (from a n) 0 e in
    let short : k.at < n = subst (λ (m : ℕ). k.at < m) (from-length a n) k.inside in
    record { at = a + k.at; from' = omega arith; below = omega (arith, short); passes = ap t (sym (from_at a n k.at 0 short)) ∙ k.passes }

number_some : (t : ℕ → Bool) (a n i : ℕ) → a ≤ i → i < a + n → t i ≡ true → some? t (from a n) ≡ true
number_some t a n i h l e =
    some_by t (from a n) (i - a) 0 (subst (λ (m : ℕ). i - a < m) (sym (from-length a n)) (omega arith))
    (ap t (from_at a n (i - a) 0 (omega arith) ∙ (let s : a + (i - a) ≡ i = omega arith in s)) ∙ e)

-- the first that passes
record FirstOf (t : ℕ → Bool) (a n x : ℕ) : Type 0 where
  from' : a ≤ x
  below : x < a + n
  is : t x ≡ true
  before : (q : ℕ) → a ≤ q → q < x → t q ≡ false

first_cons : (t : ℕ → Bool) (a n x : ℕ) (u : Bool) → t a ≡ u → (first t (from (suc a) n) ≡ some x → FirstOf t (suc a) n x) → or_else u a (first t (from (suc a) n)) ≡ some x → FirstOf t a (suc n) x
first_cons t a n x true h rest e =
    let same : a ≡ x = ap (λ (o : Option ℕ). Option.get_or o 0) e in
    record { from' = omega (arith, same); below = omega (arith, same); is = subst (λ (y : ℕ). t y ≡ true) same h; before = λ q u v. absurd (omega (arith, same, u, v)) }
first_cons t a n x false h rest e =
    let r = rest e in
    record { from' = omega (arith, r.from'); below = omega (arith, r.below); is = r.is; before = λ q u v. by r q u v (true_or_false (ltb a q)) }
  where
    by : FirstOf t (suc a) n x → (q : ℕ) → a ≤ q → q < x → (ltb a q ≡ true) ⊎ (ltb a q ≡ false) → t q ≡ false
    by r q u v (inl g) = r.before q (ltb-true a q g) v
    by r q u v (inr g) = let k = ltb-false a q g in subst (λ (y : ℕ). t y ≡ false) (let same : a ≡ q = omega (arith, u, k) in same) h

first_of_lem : (t : ℕ → Bool) (a n x : ℕ) → first t (from a n) ≡ some x → FirstOf t a n x
first_of_lem t a zero x e = let z : ◌≡◌ {A = ℕ} 0 1 = cc in absurd (omega arith)
first_of_lem t a (suc n) x e = first_cons t a n x (t a) refl (first_of_lem t (suc a) n x) e

-- ---- one list

left_true : (s t : Bool) → s ≡ true → s || t ≡ true
left_true s t e = ap (λ (b : Bool). b || t) e

right_true : (s t : Bool) → t ≡ true → s || t ≡ true
right_true s t e = ap (λ (b : Bool). s || b) e ∙ or_true_right s

module _ (rooms : List ℕ) (ss : List (List (List ℕ))) where
  astray_list : (p l : ℕ) → IsList l → astray_in rooms ss p l ≡ true → Astray rooms ss p
  astray_list p l k e = either (leaves (get_or rooms (l - 1) 0) (stretch_of ss p l)) (some? (λ q. overlaps (stretch_of ss p l) (stretch_of ss q l)) (from 0 p)) past_the_pool a_lower_one e
    where
      past_the_pool : leaves (get_or rooms (l - 1) 0) (stretch_of ss p l) ≡ true → Astray rooms ss p
      past_the_pool h =
          let long = ltb-true 0 (length_at ss p l) (and_left (ltb 0 (length_at ss p l)) (ltb (get_or rooms (l - 1) 0) (end_of (stretch_of ss p l))) h) in
          let past = ltb-true (get_or rooms (l - 1) 0) (end_of (stretch_of ss p l)) (and_right (ltb 0 (length_at ss p l)) (ltb (get_or rooms (l - 1) 0) (end_of (stretch_of ss p l))) h) in
          leaving l (first_at ss p l + length_at ss p l - 1) k (record { from = omega (arith, long); below = omega (arith, long) }) (omega (arith, past, long))

      a_lower_one : some? (λ q. overlaps (stretch_of ss p l) (stretch_of ss q l)) (from 0 p) ≡ true → Astray rooms ss p
      a_lower_one h =
          let o = some_number (λ q. overlaps (stretch_of ss p l) (stretch_of ss q l)) 0 p h in
          let q = o.at in
          let meet = ltb-true (max (first_at ss p l) (first_at ss q l)) (min (end_of (stretch_of ss p l)) (end_of (stretch_of ss q l))) o.passes in
          sharing l (max (first_at ss p l) (first_at ss q l)) q k (omega (arith, o.below)) (record { from = omega arith; below = omega (arith, meet) }) (record { from = omega arith; below = omega (arith, meet) })

  list_astray : (p l i : ℕ) → RowOf ss p l i → (get_or rooms (l - 1) 0 ≤ i) ⊎ (Number (λ q. overlaps (stretch_of ss p l) (stretch_of ss q l)) 0 p) → astray_in rooms ss p l ≡ true
  list_astray p l i r (inl h) =
      left_true (leaves (get_or rooms (l - 1) 0) (stretch_of ss p l)) (some? (λ q. overlaps (stretch_of ss p l) (stretch_of ss q l)) (from 0 p))
      (and_both {s = ltb 0 (length_at ss p l)} {t = ltb (get_or rooms (l - 1) 0) (end_of (stretch_of ss p l))} (lt-ltb 0 (length_at ss p l) (omega (arith, r.from, r.below))) (lt-ltb (get_or rooms (l - 1) 0) (end_of (stretch_of ss p l)) (omega (arith, r.below, h))))
  list_astray p l i r (inr o) =
      right_true (leaves (get_or rooms (l - 1) 0) (stretch_of ss p l)) (some? (λ q. overlaps (stretch_of ss p l) (stretch_of ss q l)) (from 0 p))
      (number_some (λ q. overlaps (stretch_of ss p l) (stretch_of ss q l)) 0 p o.at o.from' o.below o.passes)

  -- ---- one pilot

  astray_rows : (p : ℕ) → astray rooms ss p ≡ true → Astray rooms ss p
  unfolding astray
  astray_rows p e = let o = some_number (astray_in rooms ss p) 1 5 e in astray_list p o.at (o.from', omega (arith, o.below)) o.passes

  rows_astray : (p : ℕ) → Astray rooms ss p → astray rooms ss p ≡ true
  unfolding astray
  rows_astray p (leaving l i k r h) = number_some (astray_in rooms ss p) 1 5 l k.0 (omega (arith, k.1)) (list_astray p l i r (inl h))
  rows_astray p (sharing l i q k lower r s) =
      number_some (astray_in rooms ss p) 1 5 l k.0 (omega (arith, k.1)) (list_astray p l i r (inr (record { at = q; from' = omega arith; below = omega (arith, lower); passes = meet })))
    where
      meet : overlaps (stretch_of ss p l) (stretch_of ss q l) ≡ true
      meet = lt-ltb (max (first_at ss p l) (first_at ss q l)) (min (end_of (stretch_of ss p l)) (end_of (stretch_of ss q l))) (omega (arith, r.from, r.below, s.from, s.below))

  seat_rows : (p : ℕ) → seated ss p ≡ true → Seated ss p
  unfolding seated
  seat_rows p e =
      let o = some_number (λ l. ltb 0 (length_at ss p l)) 1 5 (and_right (ltb p 16) (has_row ss p) e) in
      let long = ltb-true 0 (length_at ss p o.at) o.passes in
      record {
        pilot = ltb-true p 16 (and_left (ltb p 16) (has_row ss p) e);
        list = o.at;
        is_list = (o.from', omega (arith, o.below));
        row = first_at ss p o.at;
        has = record { from = omega arith; below = omega (arith, long) };
      }

  rows_seat : (p : ℕ) → Seated ss p → seated ss p ≡ true
  unfolding seated
  rows_seat p s =
      and_both {s = ltb p 16} {t = has_row ss p} (lt-ltb p 16 s.pilot)
      (number_some (λ l. ltb 0 (length_at ss p l)) 1 5 s.list s.is_list.0 (omega (arith, s.is_list.1)) (lt-ltb 0 (length_at ss p s.list) (omega (arith, s.has.from, s.has.below))))

  -- ---- the test

  by-seat : (p : ℕ) (t : Bool) → seated ss p ≡ t → pool_bad rooms ss p ≡ elim t [ false ↦ some p | true ↦ first (astray rooms ss) (from 0 16) ]
  unfolding pool_bad
  by-seat p t e = ap (λ (u : Bool). elim u [ false ↦ some p | true ↦ first (astray rooms ss) (from 0 16) ]) e

  -- the first of sixteen astray
  record First (x : ℕ) : Type 0 where
    below : x < 16
    is : astray rooms ss x ≡ true
    before : (q : ℕ) → q < x → astray rooms ss q ≡ false

  is-first : (x : ℕ) → first (astray rooms ss) (from 0 16) ≡ some x → First x
  is-first x e = let r = first_of_lem (astray rooms ss) 0 16 x e in record { below = omega (arith, r.below); is = r.is; before = λ q h. r.before q (omega arith) h }

  first-is : (x : ℕ) → First x → first (astray rooms ss) (from 0 16) ≡ some x
  first-is x f =
      first-at (astray rooms ss) (from 0 16) x 0 f.below
      (λ k h. ap (astray rooms ss) (at_place k (omega (arith, h, f.below))) ∙ f.before k h) (ap (astray rooms ss) (at_place x f.below) ∙ f.is)
      ∙ ap some (at_place x f.below)
    where
      at_place : (k : ℕ) → k < 16 → get_or (from 0 16) k 0 ≡ k
      at_place k h = from_at 0 16 k 0 h ∙ (let s : 0 + k ≡ k = omega arith in s)

  -- "12 POOL where the number asked for has no stretch (place that number), or any pilot's stretch leaves the pool or overlaps a lower pilot's
  -- (place the first such pilot)": it has a reason, and what has one is given
  pub pool_reason : (p x : ℕ) → pool_bad rooms ss p ≡ some x → Reason rooms ss p x
  pool_reason p x e = by (true_or_false (seated ss p))
    where
      by : (seated ss p ≡ true) ⊎ (seated ss p ≡ false) → Reason rooms ss p x
      by (inr s) = let same : ◌≡◌ {A = Option ℕ} (some p) (some x) = sym (by-seat p false s) ∙ e in no_stretch (λ t. both_ways (rows_seat p t) s) (sym (ap (λ (o : Option ℕ). Option.get_or o 0) same))
      by (inl s) =
          let f = is-first x (sym (by-seat p true s) ∙ e) in
          first-astray (seat_rows p s) f.below (astray_rows x f.is) (λ q h a. both_ways (rows_astray q a) (f.before q h))

  pub reason_pool : (p x : ℕ) → Reason rooms ss p x → pool_bad rooms ss p ≡ some x
  reason_pool p x (no_stretch n e) = by-seat p false (not-passed (seated ss p) (λ t. n (seat_rows p t))) ∙ ap some (sym e)
  reason_pool p x (first-astray s below a n) =
      by-seat p true (rows_seat p s)
      ∙ first-is x (record { below = below; is = rows_astray x a; before = λ q h. not-passed (astray rooms ss q) (λ t. n q h (astray_rows q t)) })

  -- and it is not given exactly when the pilot has a stretch and none is astray
  pub pool_none : (p : ℕ) → pool_bad rooms ss p ≡ none → NoReason rooms ss p
  pool_none p e = by (true_or_false (seated ss p))
    where
      by : (seated ss p ≡ true) ⊎ (seated ss p ≡ false) → NoReason rooms ss p
      by (inr s) = absurd (not-both (sym (by-seat p false s) ∙ e))
        where
          not-both : ◌≡◌ {A = Option ℕ} (some p) none → ⊥
          not-both h = let z : ◌≡◌ {A = ℕ} 0 1 = cc in omega arith
      by (inl s) =
          record {
            seated = seat_rows p s;
            none = λ q h a. both_ways (rows_astray q a) (ap (astray rooms ss) (let g : q ≡ 0 + q = omega arith in g) ∙ none_from (astray rooms ss) 0 16 (none_first (astray rooms ss) (from 0 16) (sym (by-seat p true s) ∙ e)) q h);
          }

  pub none_pool : (p : ℕ) → NoReason rooms ss p → pool_bad rooms ss p ≡ none
  none_pool p n =
      by-seat p true (rows_seat p n.seated)
      ∙ first_none (astray rooms ss) (from 0 16) (none_by (astray rooms ss) (from 0 16) 0 (λ i h. not-passed (astray rooms ss (get_or (from 0 16) i 0)) (λ t. n.none (get_or (from 0 16) i 0) (rw (from_at 0 16 i 0 h) (omega (arith, h))) (astray_rows (get_or (from 0 16) i 0) t))))
