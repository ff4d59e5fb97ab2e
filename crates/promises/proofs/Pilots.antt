-- "No pilot's figures or refusals hang on another's fit": of every call that meets its contract, and of any list of calls.
use Prim.Native.Nat.{ℕ, ◌+◌, ◌-◌, ◌≤◌, ◌<◌, min}
use native.Mathlib.Omega.{arith}
use mathlib.Core.Path.{◌≡◌, refl, sym, ap, subst, ◌∙◌}
use mathlib.Core.Bool.{true, false}
use mathlib.Core.List.{List, []}
use mathlib.Core.Logic.{◌⊎◌, inl, inr}
use mathlib.Core.Option
use mathlib.Core.Option.{Option, none, some}
use lib.Dec.{ltb}
use lib.Ieee.{Float}
use lib.ListN.{length, get_or, set, length-set}
use lib.Seq.{get_or-set_same, get_or-set_other}
use borrow.Author.Tests.{ltb-true, ltb-false}
use Rattle.laws.specs.Columns.{within}
use Rattle.laws.specs.Lists.{span}
use Rattle.laws.proofs.Bools.{true_or_false}
use Rattle.laws.proofs.Within.{within_long, within_outside, within_span, within-apart}
use Rattle.rules.specs.Answer.{Res}
use Rattle.rules.specs.Columns.{Counts, collected_column, collected_value_column, row_column, base_column, value_column, entry_column, entry_value_column, plain_column, source_column, source_float_column, state_column}
use Rattle.rules.specs.Files.{outcome_of}
use Rattle.rules.specs.Outcome.{Lent, Done, rooms_of}
use Rattle.rules.specs.Pool.{first_at, length_at, lent_to, pool_rooms}
use Rattle.rules.proofs.Pools.{is_pilot, lies_inside, lie_apart}
use Rattle.promises.specs.Pilots.{Pool, Told, lengths_of, pool_place, pilot_outcome, PoolRefused, PilotGiven, PilotMeets, RowOf, part_of, pilot_result, Kept, KeptOutside, Others, none_more, and_then}
use Rattle.promises.specs.Result.{Result, result_for, MeetsFor}
use Rattle.promises.proofs.OneAnswer.{is_the_one_for}

-- ---- a call meets its contract by what the test of the pool gave

pub meets-refused : (k f : List ℕ) (ss : List (List (List ℕ))) (p x : ℕ) (before after : Pool) (r : Told) → pool_place before ss p ≡ some x → PoolRefused x before after r → PilotMeets k f ss p before after r
meets-refused k f ss p x before after r e g =
    record {
      refused = λ y h. subst (λ (z : ℕ). PoolRefused z before after r) (ap (λ (o : Option ℕ). Option.get_or o 0) (sym e ∙ h)) g;
      given = λ h. absurd (not-both (sym e ∙ h));
    }
  where
    not-both : ◌≡◌ {A = Option ℕ} (some x) none → ⊥
    not-both h = let z : ◌≡◌ {A = ℕ} 0 1 = cc in omega arith

pub meets-given : (k f : List ℕ) (ss : List (List (List ℕ))) (p : ℕ) (before after : Pool) (r : Told) → pool_place before ss p ≡ none → PilotGiven (pilot_outcome k f ss p) ss p before after r → PilotMeets k f ss p before after r
meets-given k f ss p before after r e g = record { refused = λ y h. absurd (not-both y (sym e ∙ h)); given = λ h. g }
  where
    not-both : (y : ℕ) → ◌≡◌ {A = Option ℕ} none (some y) → ⊥
    not-both y h = let z : ◌≡◌ {A = ℕ} 0 1 = cc in omega arith

-- ---- one column

-- n elements from a on are xs, and the column is as it was else
record Lies {A : Type 0} (a n : ℕ) (xs before after : List A) : Type 0 where
  is : after ≡ within a n xs before
  long : length after ≡ length before
  inside : 0 < n → a + n ≤ length before

module _ {A : Type 0} {a n : ℕ} {xs before after : List A} (c : Lies a n xs before after) where
  as_long : length xs ≡ n
  as_long = within_long a n xs before c.inside (ap length (sym c.is) ∙ c.long)

  part : span a n after ≡ xs
  part = ap (span a n) c.is ∙ within_span a n xs before as_long c.inside

  outside : (i : ℕ) (d : A) → (i < a) ⊎ (a + n ≤ i) → get_or after i d ≡ get_or before i d
  outside i d o = ap (λ (l : List A). get_or l i d) c.is ∙ within_outside a n xs before as_long c.inside i d o

  apart : (b m : ℕ) → ((i : ℕ) → b ≤ i → i < b + m → (i < a) ⊎ (a + n ≤ i)) → span b m after ≡ span b m before
  apart b m o = ap (span b m) c.is ∙ within-apart a n xs before as_long c.inside b m o

-- a place is in a stretch, before or behind it
where_is : (a n i : ℕ) → ((a ≤ i) × (i < a + n) → ⊥) → (i < a) ⊎ (a + n ≤ i)
where_is a n i h = by (true_or_false (ltb i a)) (true_or_false (ltb i (a + n)))
  where
    by : (ltb i a ≡ true) ⊎ (ltb i a ≡ false) → (ltb i (a + n) ≡ true) ⊎ (ltb i (a + n) ≡ false) → (i < a) ⊎ (a + n ≤ i)
    by (inl e) t = inl (ltb-true i a e)
    by (inr e) (inr t) = inr (ltb-false i (a + n) t)
    by (inr e) (inl t) = absurd (h (ltb-false i a e, ltb-true i (a + n) t))

-- ---- all of them

record AllLie (o : Res Done) (ss : List (List (List ℕ))) (p : ℕ) (before after : Pool) : Type 0 where
  collected : Lies (first_at ss p 1) (length_at ss p 1) (collected_column o (length_at ss p 1)) before.collected after.collected
  collected_values : Lies (first_at ss p 1) (length_at ss p 1) (collected_value_column o (length_at ss p 1)) before.collected_values after.collected_values
  rows : Lies (first_at ss p 2) (length_at ss p 2) (row_column o (length_at ss p 2)) before.rows after.rows
  bases : Lies (first_at ss p 2) (length_at ss p 2) (base_column o (length_at ss p 2)) before.bases after.bases
  values : Lies (first_at ss p 2) (length_at ss p 2) (value_column o (length_at ss p 2)) before.values after.values
  entries : Lies (first_at ss p 3) (length_at ss p 3) (entry_column o (length_at ss p 3)) before.entries after.entries
  entry_values : Lies (first_at ss p 3) (length_at ss p 3) (entry_value_column o (length_at ss p 3)) before.entry_values after.entry_values
  plain : Lies (first_at ss p 4) (length_at ss p 4) (plain_column o (length_at ss p 4)) before.plain after.plain
  sources : Lies (first_at ss p 5) (length_at ss p 5) (source_column o (length_at ss p 5)) before.sources after.sources
  source_floats : Lies (first_at ss p 5) (length_at ss p 5) (source_float_column o (length_at ss p 5)) before.source_floats after.source_floats

-- a pilot's rows are in every column of their list
module _ (c : Pool) (ss : List (List (List ℕ))) (p : ℕ) (h : pool_place c ss p ≡ none) where
  in_1 : 0 < length_at ss p 1 → first_at ss p 1 + length_at ss p 1 ≤ min (length c.collected) (length c.collected_values)
  in_1 = lies_inside (pool_rooms (lengths_of c)) ss p h p (is_pilot (pool_rooms (lengths_of c)) ss p h) 1 (omega arith) (omega arith)

  in_2 : 0 < length_at ss p 2 → first_at ss p 2 + length_at ss p 2 ≤ min (length c.rows) (min (length c.bases) (length c.values))
  in_2 = lies_inside (pool_rooms (lengths_of c)) ss p h p (is_pilot (pool_rooms (lengths_of c)) ss p h) 2 (omega arith) (omega arith)

  in_3 : 0 < length_at ss p 3 → first_at ss p 3 + length_at ss p 3 ≤ min (length c.entries) (length c.entry_values)
  in_3 = lies_inside (pool_rooms (lengths_of c)) ss p h p (is_pilot (pool_rooms (lengths_of c)) ss p h) 3 (omega arith) (omega arith)

  in_4 : 0 < length_at ss p 4 → first_at ss p 4 + length_at ss p 4 ≤ length c.plain
  in_4 = lies_inside (pool_rooms (lengths_of c)) ss p h p (is_pilot (pool_rooms (lengths_of c)) ss p h) 4 (omega arith) (omega arith)

  in_5 : 0 < length_at ss p 5 → first_at ss p 5 + length_at ss p 5 ≤ min (length c.sources) (length c.source_floats)
  in_5 = lies_inside (pool_rooms (lengths_of c)) ss p h p (is_pilot (pool_rooms (lengths_of c)) ss p h) 5 (omega arith) (omega arith)

given_lies : (o : Res Done) (ss : List (List (List ℕ))) (p : ℕ) (before after : Pool) (r : Told) → pool_place before ss p ≡ none → PilotGiven o ss p before after r → AllLie o ss p before after
given_lies o ss p before after r h g =
    record {
      collected = record { is = g.by-collected; long = ap (λ (l : Lent). l.collected) g.as_long; inside = λ s. let e = in_1 before ss p h s in omega (arith, e) };
      collected_values = record { is = g.by_collected_values; long = ap (λ (l : Lent). l.collected_values) g.as_long; inside = λ s. let e = in_1 before ss p h s in omega (arith, e) };
      rows = record { is = g.by_rows; long = ap (λ (l : Lent). l.rows) g.as_long; inside = λ s. let e = in_2 before ss p h s in omega (arith, e) };
      bases = record { is = g.by_bases; long = ap (λ (l : Lent). l.bases) g.as_long; inside = λ s. let e = in_2 before ss p h s in omega (arith, e) };
      values = record { is = g.by_values; long = ap (λ (l : Lent). l.values) g.as_long; inside = λ s. let e = in_2 before ss p h s in omega (arith, e) };
      entries = record { is = g.by_entries; long = ap (λ (l : Lent). l.entries) g.as_long; inside = λ s. let e = in_3 before ss p h s in omega (arith, e) };
      entry_values = record { is = g.by_entry_values; long = ap (λ (l : Lent). l.entry_values) g.as_long; inside = λ s. let e = in_3 before ss p h s in omega (arith, e) };
      plain = record { is = g.by-plain; long = ap (λ (l : Lent). l.plain) g.as_long; inside = λ s. let e = in_4 before ss p h s in omega (arith, e) };
      sources = record { is = g.by_sources; long = ap (λ (l : Lent). l.sources) g.as_long; inside = λ s. let e = in_5 before ss p h s in omega (arith, e) };
      source_floats = record { is = g.by_source_floats; long = ap (λ (l : Lent). l.source_floats) g.as_long; inside = λ s. let e = in_5 before ss p h s in omega (arith, e) };
    }

-- ---- one answer

module _ (ss : List (List (List ℕ))) (p : ℕ) (before : Pool) where
  -- what the pool is after
  abbrev after_of : Res Done → Pool
  after_of o =
      record {
        states = set before.states p (state_column o);
        collected = within (first_at ss p 1) (length_at ss p 1) (collected_column o (length_at ss p 1)) before.collected;
        collected_values = within (first_at ss p 1) (length_at ss p 1) (collected_value_column o (length_at ss p 1)) before.collected_values;
        rows = within (first_at ss p 2) (length_at ss p 2) (row_column o (length_at ss p 2)) before.rows;
        bases = within (first_at ss p 2) (length_at ss p 2) (base_column o (length_at ss p 2)) before.bases;
        values = within (first_at ss p 2) (length_at ss p 2) (value_column o (length_at ss p 2)) before.values;
        entries = within (first_at ss p 3) (length_at ss p 3) (entry_column o (length_at ss p 3)) before.entries;
        entry_values = within (first_at ss p 3) (length_at ss p 3) (entry_value_column o (length_at ss p 3)) before.entry_values;
        plain = within (first_at ss p 4) (length_at ss p 4) (plain_column o (length_at ss p 4)) before.plain;
        sources = within (first_at ss p 5) (length_at ss p 5) (source_column o (length_at ss p 5)) before.sources;
        source_floats = within (first_at ss p 5) (length_at ss p 5) (source_float_column o (length_at ss p 5)) before.source_floats;
      }

  given-after : (o : Res Done) (after : Pool) (r : Told) → PilotGiven o ss p before after r → after ≡ after_of o
  given-after o after r g =
      let whole : record { states = after.states; collected = after.collected; collected_values = after.collected_values; rows = after.rows; bases = after.bases; values = after.values; entries = after.entries; entry_values = after.entry_values; plain = after.plain; sources = after.sources; source_floats = after.source_floats } ≡ after_of o =
      rw (g.by_states, g.by-collected, g.by_collected_values, g.by_rows, g.by_bases, g.by_values, g.by_entries, g.by_entry_values, g.by-plain, g.by_sources, g.by_source_floats) refl in
      whole

-- what is told, by its three parts
told_same : (r s : Told) → r.number ≡ s.number → r.place ≡ s.place → r.counts ≡ s.counts → r ≡ s
told_same r s a b c =
    let whole : ◌≡◌ {A = Told} (record { number = r.number; place = r.place; counts = r.counts }) (record { number = s.number; place = s.place; counts = s.counts }) =
    rw (a, b, c) refl in
    whole

-- two calls with the same book, fit, stretches, number and pool leave the same pool, and are told the same
pub pilot_one_answer : (k f : List ℕ) (ss : List (List (List ℕ))) (p : ℕ) (before a b : Pool) (r s : Told) → PilotMeets k f ss p before a r → PilotMeets k f ss p before b s → (a ≡ b) × (r ≡ s)
pilot_one_answer k f ss p before a b r s m n = by (pool_place before ss p) refl
  where
    by : (x : Option ℕ) → pool_place before ss p ≡ x → (a ≡ b) × (r ≡ s)
    by (some x) e =
        let u = m.refused x e in
        let v = n.refused x e in
        (u.unchanged ∙ sym v.unchanged, told_same r s (u.by_number ∙ sym v.by_number) (u.by_place ∙ sym v.by_place) (u.by-counts ∙ sym v.by-counts))
    by none e =
        let o = pilot_outcome k f ss p in
        let u = m.given e in
        let v = n.given e in
        (given-after ss p before o a r u ∙ sym (given-after ss p before o b s v), told_same r s (u.by_number ∙ sym v.by_number) (u.by_place ∙ sym v.by_place) (u.by-counts ∙ sym v.by-counts))

-- ---- nothing outside

module _ (k f : List ℕ) (ss : List (List (List ℕ))) (p : ℕ) (before after : Pool) (r : Told) (m : PilotMeets k f ss p before after r) where
  kept_none : before ≡ after → KeptOutside ss p before after
  kept_none e =
      record {
        as_long = ap lengths_of (sym e);
        states = λ q h. ap (λ (c : Pool). get_or c.states q []) (sym e);
        collected = λ i h d. ap (λ (c : Pool). get_or c.collected i d) (sym e);
        collected_values = λ i h d. ap (λ (c : Pool). get_or c.collected_values i d) (sym e);
        rows = λ i h d. ap (λ (c : Pool). get_or c.rows i d) (sym e);
        bases = λ i h d. ap (λ (c : Pool). get_or c.bases i d) (sym e);
        values = λ i h d. ap (λ (c : Pool). get_or c.values i d) (sym e);
        entries = λ i h d. ap (λ (c : Pool). get_or c.entries i d) (sym e);
        entry_values = λ i h d. ap (λ (c : Pool). get_or c.entry_values i d) (sym e);
        plain = λ i h d. ap (λ (c : Pool). get_or c.plain i d) (sym e);
        sources = λ i h d. ap (λ (c : Pool). get_or c.sources i d) (sym e);
        source_floats = λ i h d. ap (λ (c : Pool). get_or c.source_floats i d) (sym e);
      }

  kept_given : pool_place before ss p ≡ none → KeptOutside ss p before after
  kept_given e =
      let g = m.given e in
      let c = given_lies (pilot_outcome k f ss p) ss p before after r e g in
      record {
        as_long = g.as_long;
        states = λ q h. ap (λ (s : List (List (List ℕ))). get_or s q []) g.by_states ∙ get_or-set_other before.states p q (state_column (pilot_outcome k f ss p)) [] h;
        collected = λ i h d. outside c.collected i d (where_is (first_at ss p 1) (length_at ss p 1) i (λ b. h (record { from = b.0; below = b.1 })));
        collected_values = λ i h d. outside c.collected_values i d (where_is (first_at ss p 1) (length_at ss p 1) i (λ b. h (record { from = b.0; below = b.1 })));
        rows = λ i h d. outside c.rows i d (where_is (first_at ss p 2) (length_at ss p 2) i (λ b. h (record { from = b.0; below = b.1 })));
        bases = λ i h d. outside c.bases i d (where_is (first_at ss p 2) (length_at ss p 2) i (λ b. h (record { from = b.0; below = b.1 })));
        values = λ i h d. outside c.values i d (where_is (first_at ss p 2) (length_at ss p 2) i (λ b. h (record { from = b.0; below = b.1 })));
        entries = λ i h d. outside c.entries i d (where_is (first_at ss p 3) (length_at ss p 3) i (λ b. h (record { from = b.0; below = b.1 })));
        entry_values = λ i h d. outside c.entry_values i d (where_is (first_at ss p 3) (length_at ss p 3) i (λ b. h (record { from = b.0; below = b.1 })));
        plain = λ i h d. outside c.plain i d (where_is (first_at ss p 4) (length_at ss p 4) i (λ b. h (record { from = b.0; below = b.1 })));
        sources = λ i h d. outside c.sources i d (where_is (first_at ss p 5) (length_at ss p 5) i (λ b. h (record { from = b.0; below = b.1 })));
        source_floats = λ i h d. outside c.source_floats i d (where_is (first_at ss p 5) (length_at ss p 5) i (λ b. h (record { from = b.0; below = b.1 })));
      }

  -- "a calculation writes nothing outside its pilot's stretches": whatever it is told, every element of every column that is not in one of
  -- the pilot's stretches, and every other pilot's states, are as they were
  pub pilot_outside : KeptOutside ss p before after
  pilot_outside = by (pool_place before ss p) refl
    where
      by : (x : Option ℕ) → pool_place before ss p ≡ x → KeptOutside ss p before after
      by (some x) e = kept_none (sym (m.refused x e).unchanged)
      by none e = kept_given e

  -- ---- other pilots

  apart-given : pool_place before ss p ≡ none → (q : ℕ) → q < 16 → (q ≡ p → ⊥) → (t : Told) → pilot_result ss q after t ≡ pilot_result ss q before t
  apart-given e q below other t =
      rw (states, apart c.collected (first_at ss q 1) (length_at ss q 1) (off 1 (omega arith) (omega arith)), apart c.collected_values (first_at ss q 1) (length_at ss q 1) (off 1 (omega arith) (omega arith)), apart c.rows (first_at ss q 2) (length_at ss q 2) (off 2 (omega arith) (omega arith)), apart c.bases (first_at ss q 2) (length_at ss q 2) (off 2 (omega arith) (omega arith)), apart c.values (first_at ss q 2) (length_at ss q 2) (off 2 (omega arith) (omega arith)), apart c.entries (first_at ss q 3) (length_at ss q 3) (off 3 (omega arith) (omega arith)), apart c.entry_values (first_at ss q 3) (length_at ss q 3) (off 3 (omega arith) (omega arith)), apart c.plain (first_at ss q 4) (length_at ss q 4) (off 4 (omega arith) (omega arith)), apart c.sources (first_at ss q 5) (length_at ss q 5) (off 5 (omega arith) (omega arith)), apart c.source_floats (first_at ss q 5) (length_at ss q 5) (off 5 (omega arith) (omega arith))) refl
    where
      c : AllLie (pilot_outcome k f ss p) ss p before after
      c = given_lies (pilot_outcome k f ss p) ss p before after r e (m.given e)

      states : get_or after.states q [] ≡ get_or before.states q []
      states = (kept_given e).states q other

      off : (l : ℕ) → 1 ≤ l → l ≤ 5 → (i : ℕ) → first_at ss q l ≤ i → i < first_at ss q l + length_at ss q l → (i < first_at ss p l) ⊎ (first_at ss p l + length_at ss p l ≤ i)
      off l a b i u v =
          where_is (first_at ss p l) (length_at ss p l) i
          (λ x. lie_apart (pool_rooms (lengths_of before)) ss p e q p below (is_pilot (pool_rooms (lengths_of before)) ss p e) other l a b i u v x.0 x.1)

  -- so every other pilot's five parts, in every column, and its states are as they were
  pub pilot_apart : (q : ℕ) → q < 16 → (q ≡ p → ⊥) → (t : Told) → pilot_result ss q after t ≡ pilot_result ss q before t
  pilot_apart q below other t = by (pool_place before ss p) refl
    where
      by : (x : Option ℕ) → pool_place before ss p ≡ x → pilot_result ss q after t ≡ pilot_result ss q before t
      by (some x) e = ap (λ (c : Pool). pilot_result ss q c t) (m.refused x e).unchanged
      by none e = apart-given e q below other t

  -- ---- what the pilot has

  -- where POOL is not given: what the pilot has of the pool, with what it is told, is what the definition gives for book and fit, with the
  -- stretches as the lists lent
  pub pilot_meets : pool_place before ss p ≡ none → length before.states ≡ 16 → MeetsFor (pilot_outcome k f ss p) (lent_to ss p) (pilot_result ss p after r)
  pilot_meets e sixteen =
      let g = m.given e in
      let o = pilot_outcome k f ss p in
      let c = given_lies o ss p before after r e g in
      let below = is_pilot (pool_rooms (lengths_of before)) ss p e in
      record {
        by_number = g.by_number;
        by_place = g.by_place;
        by-counts = g.by-counts;
        by_states = ap (λ (s : List (List (List ℕ))). get_or s p []) g.by_states ∙ get_or-set_same before.states p (state_column o) [] (omega (arith, sixteen, below));
        by-collected = part c.collected;
        by_collected_values = part c.collected_values;
        by_rows = part c.rows;
        by_bases = part c.bases;
        by_values = part c.values;
        by_entries = part c.entries;
        by_entry_values = part c.entry_values;
        by-plain = part c.plain;
        by_sources = part c.sources;
        by_source_floats = part c.source_floats;
      }

  states_long : length after.states ≡ length before.states
  states_long = by (pool_place before ss p) refl
    where
      by : (x : Option ℕ) → pool_place before ss p ≡ x → length after.states ≡ length before.states
      by (some x) e = ap (λ (c : Pool). length c.states) (m.refused x e).unchanged
      by none e = ap length (m.given e).by_states ∙ length-set before.states p (state_column (pilot_outcome k f ss p))

-- ---- the same answers

-- "all answers that pilot gets are the same, refusals and counts included, however the other fits change": two calls with the same book and
-- fit, where the pilot's stretches are as long and POOL is not given, whatever the stretches' places, the other pilots', and the pools
pub pilot_same : (k f : List ℕ) (ss uu : List (List (List ℕ))) (p : ℕ) (before after lent left : Pool) (r t : Told) → lent_to ss p ≡ lent_to uu p → length before.states ≡ 16 → length lent.states ≡ 16
    → PilotMeets k f ss p before after r → pool_place before ss p ≡ none → PilotMeets k f uu p lent left t → pool_place lent uu p ≡ none
    → pilot_result ss p after r ≡ pilot_result uu p left t
pilot_same k f ss uu p before after lent left r t e x y m h n j =
    is_the_one_for (pilot_outcome k f ss p) (lent_to ss p) (pilot_result ss p after r) (pilot_meets k f ss p before after r m h x)
    ∙ ap (λ (l : Lent). result_for (outcome_of k f (rooms_of l)) l) e
    ∙ sym (is_the_one_for (pilot_outcome k f uu p) (lent_to uu p) (pilot_result uu p left t) (pilot_meets k f uu p lent left t n j y))

-- ---- any list of calls

-- of a pool a pilot has what its own stretches say
result_by : (ss uu : List (List (List ℕ))) (p : ℕ) (c : Pool) (t : Told) → get_or uu p [] ≡ get_or ss p [] → pilot_result uu p c t ≡ pilot_result ss p c t
result_by ss uu p c t e = rw e refl

-- after any list of calls for other numbers a pilot's part is what its own last call left
pub calls_apart : (ss : List (List (List ℕ))) (p : ℕ) → p < 16 → {before after : Pool} → Others (get_or ss p []) p before after → (t : Told) → pilot_result ss p after t ≡ pilot_result ss p before t
calls_apart ss p below (none_more e) t = ap (λ (c : Pool). pilot_result ss p c t) e
calls_apart ss p below {before} {after} (and_then k f uu q r between own other m rest) t =
    calls_apart ss p below rest t ∙ sym (result_by ss uu p between t own) ∙ pilot_apart k f uu q before between r m p below (λ e. other (sym e)) t
    ∙ result_by ss uu p before t own
