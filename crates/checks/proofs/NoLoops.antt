-- LOOP is given exactly where an attribute leads back to itself, with the lowest object that has one.
use Prim.Native.Nat.{ℕ, zero, suc, ◌+◌, ◌≤◌, ◌<◌}
use native.Mathlib.Omega.{arith}
use mathlib.Core.Path.{◌≡◌, refl, sym, ap, subst, ◌∙◌}
use mathlib.Core.Bool.{Bool, true, false}
use mathlib.Core.List.{List, [], ◌∷◌}
use mathlib.Core.Option.{Option, none, some}
use borrow.Author.Tests.{ltb-true, ltb-false}
use lib.Dec.{T, ltb}
use lib.ListN.{length, get_or}
use Rattle.laws.specs.Lists.{some?, put, keep, flat, first, from, or_else}
use Rattle.laws.proofs.Bools.{both_ways}
use Rattle.rules.specs.Dispatch.{Row, Key, same_key}
use Rattle.rules.specs.Value.{World, Found, find_row}
use Rattle.rules.specs.Fresh.{needs_of, needs_at, LeadsBack, last, next}
use Rattle.promises.specs.NoMemory.{no_row, key_of, key_at, Needs, NoLoop}
use Rattle.promises.proofs.Ranks.{found_at}
use Rattle.loops.specs.Loop.{backs, loop_among, loop_at}
use Rattle.loops.proofs.Backs.{backs_leads, leads_backs}
use Rattle.reading.specs.Held.{ascending}
use Rattle.reading.proofs.Laying.{before-most}
use Rattle.reading.proofs.Orders.{ascending_far}
use Rattle.checks.specs.Promised.{Lowest}

-- a key that has no row needs nothing
none_kept : (a : Key) (k : ℕ) (rs : List Row) → find_row a.object a.id k rs ≡ none → keep (λ r. same_key (key_of r) a) rs ≡ []
unfolding find_row
none_kept a k [] e = refl
none_kept a k (r ∷ rs) e = by (same_key (key_of r) a) e (none_kept a (suc k) rs)
  where
    by : (t : Bool) → ◌≡◌ {A = Option Found} (elim t [ true ↦ some (record { index = k; row = r }) | false ↦ find_row a.object a.id (suc k) rs ]) none
        → (find_row a.object a.id (suc k) rs ≡ none → keep (λ x. same_key (key_of x) a) rs ≡ []) → put t r (keep (λ x. same_key (key_of x) a) rs) ≡ []
    by true q f = let z : ◌≡◌ {A = ℕ} 0 1 = cc in absurd (omega arith)
    by false q f = f q

-- of the numbers from a on the first that passes is the least
module _ (p : ℕ → Bool) where
  first_none : (a n : ℕ) → first p (from a n) ≡ none → (i : ℕ) → a ≤ i → i < a + n → p i ≡ false
  first_none a zero e i l m = absurd (omega (arith, l, m))
  first_none a (suc n) e i l m = by (p a) refl e (λ k q. first_none (suc a) n k i q (omega (arith, m)))
    where
      past : (t : Bool) → ltb a i ≡ t → p a ≡ false → (a < i → p i ≡ false) → p i ≡ false
      past true s q f = f (ltb-true a i s)
      past false s q f = let same : a ≡ i = omega (arith, l, ltb-false a i s) in subst (λ (j : ℕ). p j ≡ false) same q

      by : (t : Bool) → p a ≡ t → or_else t a (first p (from (suc a) n)) ≡ none → (first p (from (suc a) n) ≡ none → a < i → p i ≡ false) → p i ≡ false
      by true q k f = let z : ◌≡◌ {A = ℕ} 0 1 = cc in absurd (omega arith)
      by false q k f = past (ltb a i) refl q (f k)

-- of the numbers from a on i is the first that passes
record First (p : ℕ → Bool) (a n i : ℕ) : Type 0 where
  passes : p i ≡ true
  inside : i < a + n
  before : (j : ℕ) → a ≤ j → j < i → p j ≡ false

first_some : (p : ℕ → Bool) (a n i : ℕ) → first p (from a n) ≡ some i → First p a n i
first_some p a zero i e = let z : ◌≡◌ {A = ℕ} 0 1 = cc in absurd (omega arith)
first_some p a (suc n) i e = by (p a) refl e (first_some p (suc a) n i)
  where
    here : p a ≡ true → a ≡ i → First p a (suc n) i
    here q same = record { passes = subst (λ (j : ℕ). p j ≡ true) same q; inside = omega (arith, same); before = λ j l m. absurd (omega (arith, same, l, m)) }

    next_one : (j : ℕ) → p a ≡ false → First p (suc a) n i → a ≤ j → j < i → (t : Bool) → ltb a j ≡ t → p j ≡ false
    next_one j q f l m true s = f.before j (ltb-true a j s) m
    next_one j q f l m false s = let same : a ≡ j = omega (arith, l, ltb-false a j s) in subst (λ (k : ℕ). p k ≡ false) same q

    by : (t : Bool) → p a ≡ t → or_else t a (first p (from (suc a) n)) ≡ some i → (first p (from (suc a) n) ≡ some i → First p (suc a) n i) → First p a (suc n) i
    by true q k f = let same : a ≡ i = cc in here q same
    by false q k f = let g = f k in record { passes = g.passes; inside = omega (arith, g.inside); before = λ j l m. next_one j q g l m (ltb a j) refl }

-- rows ascend by object
objects_ascend : (rs : List Row) → ascending rs ≡ true → (i j : ℕ) → i ≤ j → j < length rs → (get_or rs i no_row).object ≤ (get_or rs j no_row).object
objects_ascend rs e i j l h = by (ltb i j) refl
  where
    by : (t : Bool) → ltb i j ≡ t → (get_or rs i no_row).object ≤ (get_or rs j no_row).object
    by true q =
        before-most (get_or rs i no_row).object (get_or rs i no_row).id (get_or rs j no_row).object (get_or rs j no_row).id (ascending_far rs no_row e i j (ltb-true i j q) h)
    by false q = let same : i ≡ j = omega (arith, l, ltb-false i j q) in subst (λ (n : ℕ). (get_or rs i no_row).object ≤ (get_or rs n no_row).object) same (omega arith)

module _ (w : World) (each_found : (i : ℕ) → i < length w.rows → find_row (key_at w i).object (key_at w i).id 0 w.rows ≡ some (record { index = i; row = get_or w.rows i no_row })) where
  has_row : (a b : Key) → Needs w a b → (o : Option Found) → find_row a.object a.id 0 w.rows ≡ o → o ≡ none → ⊥
  unfolding needs_at
  has_row a b h o e z = subst (λ (l : List Row). T (some? (same_key b) (flat (needs_of w.book) l))) (none_kept a 0 w.rows (e ∙ z)) h

  first_need : (a : Key) → LeadsBack w a → (find_row a.object a.id 0 w.rows ≡ none → ⊥)
  first_need a (last h) e = has_row a a h none e refl
  first_need a (next {b = b} h l) e = has_row a b h none e refl

  backs_none : loop_at w ≡ none → (i : ℕ) → i < length w.rows → backs w i ≡ false
  unfolding loop_at loop_among
  backs_none e i l = first_none (backs w) 0 (length w.rows) (by (first (backs w) (from 0 (length w.rows))) e) i (omega arith) (omega (arith, l))
    where
      by : (o : Option ℕ) → ◌≡◌ {A = Option ℕ} (elim o [ none ↦ none | some j ↦ some (get_or w.rows j no_row).object ]) none → o ≡ none
      by none q = refl
      by (some j) q = let z : ◌≡◌ {A = ℕ} 0 1 = cc in absurd (omega arith)

  -- no LOOP, no loop
  pub no_loop : loop_at w ≡ none → NoLoop w
  no_loop e a way = by (find_row a.object a.id 0 w.rows) refl
    where
      by : (o : Option Found) → find_row a.object a.id 0 w.rows ≡ o → ⊥
      by none q = first_need a way q
      by (some f) q =
          let g = found_at w a f q in
          both_ways (leads_backs w each_found f.index g.within (subst (LeadsBack w) (sym g.key) way)) (backs_none e f.index g.within)

  module _ (ordered : ascending w.rows ≡ true) where
    -- an attribute that leads back to itself has a row, and that row is found to
    record Back (a : Key) : Type 0 where
      at : ℕ
      within : at < length w.rows
      key : key_at w at ≡ a
      backs_there : backs w at ≡ true

    back-row : (a : Key) → LeadsBack w a → Back a
    back-row a way = by (find_row a.object a.id 0 w.rows) refl
      where
        by : (o : Option Found) → find_row a.object a.id 0 w.rows ≡ o → Back a
        by none q = absurd (first_need a way q)
        by (some f) q =
            let g = found_at w a f q in
            record { at = f.index; within = g.within; key = g.key; backs_there = leads_backs w each_found f.index g.within (subst (LeadsBack w) (sym g.key) way) }

    pub loop_lowest : (o : ℕ) → loop_at w ≡ some o → Lowest w o
    unfolding loop_at loop_among
    loop_lowest o e = by (first (backs w) (from 0 (length w.rows))) refl e
      where
        lowest : (i : ℕ) → First (backs w) 0 (length w.rows) i → (get_or w.rows i no_row).object ≡ o → Lowest w o
        lowest i f same =
            record {
              key = key_at w i;
              back = backs_leads w each_found i (omega (arith, f.inside)) f.passes;
              owner = same;
              least = λ a way. let r = back-row a way in
                  let up = objects_ascend w.rows ordered i r.at (not-before r.at r.backs_there) r.within in
                  let owner : (get_or w.rows r.at no_row).object ≡ a.object = ap (λ (k : Key). k.object) r.key in
                  omega (arith, same, up, owner);
            }
          where
            not-before : (j : ℕ) → backs w j ≡ true → i ≤ j
            not-before j t = at (ltb j i) refl
              where
                at : (u : Bool) → ltb j i ≡ u → i ≤ j
                at true q = both_ways t (f.before j (omega arith) (ltb-true j i q))
                at false q = ltb-false j i q

        by : (x : Option ℕ) → first (backs w) (from 0 (length w.rows)) ≡ x → ◌≡◌ {A = Option ℕ} (elim x [ none ↦ none | some j ↦ some (get_or w.rows j no_row).object ]) (some o) → Lowest w o
        by none q k = let z : ◌≡◌ {A = ℕ} 0 1 = cc in absurd (omega arith)
        by (some i) q k = let same : (get_or w.rows i no_row).object ≡ o = cc in lowest i (first_some (backs w) 0 (length w.rows) i q) same

    -- and the other way round
    pub lowest_loop : (o : ℕ) → Lowest w o → loop_at w ≡ some o
    lowest_loop o l = by (loop_at w) refl
      where
        by : (x : Option ℕ) → loop_at w ≡ x → x ≡ some o
        by none q = absurd (no_loop q l.key l.back)
        by (some p) q =
            let k = loop_lowest p q in
            let one = l.least k.key k.back in
            let other = k.least l.key l.back in
            let same : p ≡ o = omega (arith, one, other, k.owner, l.owner) in
            ap some same
