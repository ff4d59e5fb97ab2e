-- The search in a stretch finds what the definition's first match is.
use Prim.Native.Nat.{ℕ, ◌+◌, ◌-◌, ◌≤◌, ◌<◌}
use native.Mathlib.Omega.{arith}
use mathlib.Core.Path.{◌≡◌, sym, ap, subst, ◌∙◌}
use mathlib.Core.Bool.{Bool, true, false, ◌&&◌, cond}
use mathlib.Core.List.{List, []}
use mathlib.Core.Logic.{⊎_elim}
use mathlib.Core.Option.{none, some}
use lib.Dec.{ltb}
use lib.IntN.{ℤ}
use lib.ListN.{length, get_or}
use lib.Signed.{lt_z}
use mir.Syntax.{w32}
use mir.Val.{SFits, to_z, of_z}
use borrow.Author.Tests.{eq-eqb, ne_eqb, ltb-true, ltb-false}
use Rattle.laws.specs.Lists.{eq_z, span}
use Rattle.laws.proofs.Bools.{not-passed, true_or_false}
use Rattle.laws.proofs.Spans.{span_length, span_at}
use Rattle.laws.proofs.Signs.{tested_same, tested-apart}
use Rattle.laws.proofs.Search.{Between, Falls, less_than, between_end}
use Rattle.search.specs.Bounds.{row_key, Lower}
use Rattle.search.proofs.Steps.{lower_own}
use Rattle.rules.specs.Dispatch.{Row}
use Rattle.rules.specs.Value.{find_row}
use Rattle.reading.specs.Held.{no_row, is_before, is_of, row_before, RowsHeld, index_of}
use Rattle.reading.proofs.Orders.{lower, tested}
use Rattle.reading.proofs.Finds.{falls, id-read, is_found, is-missing, is_past}
use Rattle.reading.specs.Stretched.{OfObject, Stretched}

-- an object's own row stands before its attribute a by the id alone
own_before : (p : ℕ) (x : ℤ) (o : ℕ) (a : ℤ) → p ≡ o → is_before p x o a ≡ lt_z x a
own_before p x o a e = ap (λ (t : Bool). cond t (lt_z x a) (ltb p o)) (eq-eqb p o e)

-- ---- what stands at the bound

-- rows of lesser objects stand before, those of greater ones do not and are others
module _ (p : ℕ) (x : ℤ) (o : ℕ) (a : ℤ) where
  lesser_before : p < o → is_before p x o a ≡ true
  lesser_before l = tested p x o a (lower l)

  greater_behind : o < p → is_before p x o a ≡ false
  greater_behind l =
      ap (λ (t : Bool). cond t (lt_z x a) (ltb p o)) (ne_eqb p o (λ e. omega arith)) ∙ not-passed (ltb p o) (λ e. omega (arith, ltb-true p o e))

  greater_apart : o < p → is_of p x o a ≡ false
  greater_apart l = ap (λ (t : Bool). t && eq_z x a) (ne_eqb p o (λ e. omega arith))

-- the stretch of object o, as it was read
pub record Taken (t : List (List ℕ)) (o first end : ℕ) : Type 0 where
  pub few : o < 1024
  pub begins : first ≡ get_or (get_or t o []) 0 0
  pub ends : end ≡ get_or (get_or t o []) 1 0

pub taken : {t : List (List ℕ)} {o k first end : ℕ} → o < 1024 → k ≡ o → first ≡ get_or (get_or t k []) 0 0 → end ≡ get_or (get_or t k []) 1 0 → Taken t o first end
taken {t} l e p q =
    record {
      few = l;
      begins = p ∙ ap (λ (n : ℕ). get_or (get_or t n []) 0 0) e;
      ends = q ∙ ap (λ (n : ℕ). get_or (get_or t n []) 1 0) e;
    }

module _ {rs : List Row} {c t : List (List ℕ)} {o first end : ℕ} (a : ℤ) (T : Taken t o first end) (H : RowsHeld rs c) (S : Stretched rs t) where
  pub stretch_inside : end ≤ length c
  stretch_inside = omega (arith, T.ends, (S.inside o T.few).1, H.long)

  all_own : OfObject o rs first end
  all_own i l h = S.own o T.few i (omega (arith, T.begins)) (omega (arith, T.ends))

  stretch_between : Between (row_before o a) rs no_row first end
  stretch_between =
      record {
        within = omega (arith, T.begins, T.ends, (S.inside o T.few).0);
        inside = omega (arith, T.ends, (S.inside o T.few).1);
        below = λ i l. lesser_before (get_or rs i no_row).object (get_or rs i no_row).id o a (S.before o i T.few (omega (arith, T.begins)));
        above = λ i l h. greater_behind (get_or rs i no_row).object (get_or rs i no_row).id o a (S.after o i T.few h (omega (arith, T.ends)));
      }

  module _ (inside : end ≤ length c) where
    -- the search reads the ids of the stretch: as the stretch is one object's, they tell what stands before
    told_in : (j : ℕ) → j < end - first → row_before o a (get_or rs (first + j) no_row) ≡ less_than row_key a (get_or (span first (end - first) c) j [])
    told_in j h =
        own_before (get_or rs (first + j) no_row).object (get_or rs (first + j) no_row).id o a (all_own (first + j) (omega arith) (omega arith))
        ∙ sym (ap (λ (r : List ℕ). lt_z (to_z w32 (get_or r 1 0)) a) (span_at first (end - first) c j [] h) ∙ ap (λ (x : ℤ). lt_z x a) (id-read o a H (first + j) (omega arith)))

    stretch_long : first ≤ end → length (span first (end - first) c) ≡ end - first
    stretch_long l = span_length first (end - first) c (omega arith)

    stretch_falls : first ≤ end → Falls (less_than row_key a) (span first (end - first) c) []
    stretch_falls l =
        record {
          before = λ i j m h e.
              let k : j < end - first = omega (arith, stretch_long l) in
              sym (told_in i (omega arith)) ∙ (falls o a H).before (first + i) (first + j) (omega arith) (omega (arith, H.long)) (told_in j k ∙ e);
        }

    -- a bound among the rows of the stretch is one among all rows
    pub stretch_bound : {r : ℕ} → first ≤ end → Lower (span first (end - first) c) a r r → Between (row_before o a) rs no_row (first + r) (first + r)
    stretch_bound {r} l w =
        let b = w (stretch_falls l) in
        let all = stretch_between in
        let long = stretch_long l in
        let within : first + r ≤ end = omega (arith, b.inside) in
        record {
          within = omega arith;
          inside = omega (arith, all.inside);
          below = λ i h. ⊎_elim (λ e. all.below i (ltb-true i first e)) (λ e. let from = ltb-false i first e in part i from (omega arith) true (b.below (i - first) (omega arith))) (true_or_false (ltb i first));
          above = λ i h m.
              ⊎_elim (λ e. part i (omega arith) (ltb-true i end e) false (b.above (i - first) (omega arith) (rw long (omega (arith, ltb-true i end e))))) (λ e. all.above i (ltb-false i end e) m) (true_or_false (ltb i end));
        }
      where
        part : (i : ℕ) → first ≤ i → i < end → (t : Bool) → less_than row_key a (get_or (span first (end - first) c) (i - first) []) ≡ t → row_before o a (get_or rs i no_row) ≡ t
        part i m h t e =
            let same : first + (i - first) ≡ i = omega arith in
            subst (λ (k : ℕ). row_before o a (get_or rs k no_row) ≡ t) same (told_in (i - first) (omega arith) ∙ e)

  module _ {lo : ℕ} (bound : Between (row_before o a) rs no_row lo lo) (from : first ≤ lo) where
    module _ (l : lo < end) where
      there : lo < length c
      there = omega (arith, stretch_inside)

      -- the row at the bound is the object's: its id decides
      own_of : is_of (get_or (get_or c lo []) 0 0) (to_z w32 (get_or (get_or c lo []) 1 0)) o a ≡ eq_z (to_z w32 (get_or (get_or c lo []) 1 0)) a
      own_of =
          let own : get_or (get_or c lo []) 0 0 ≡ o = H.object lo (omega (arith, there, H.long)) ∙ all_own lo from l in
          ap (λ (s : Bool). s && eq_z (to_z w32 (get_or (get_or c lo []) 1 0)) a) (eq-eqb (get_or (get_or c lo []) 0 0) o own)

      pub found_inside : eq_z (to_z w32 (get_or (get_or c lo []) 1 0)) a ≡ true → some lo ≡ index_of (find_row o a 0 rs)
      found_inside e = is_found o a H bound there (own_of ∙ e)

      pub missing-inside : eq_z (to_z w32 (get_or (get_or c lo []) 1 0)) a ≡ false → none ≡ index_of (find_row o a 0 rs)
      missing-inside e = is-missing o a H bound there (own_of ∙ e)

    past_of : end ≤ lo → lo < length c → is_of (get_or (get_or c lo []) 0 0) (to_z w32 (get_or (get_or c lo []) 1 0)) o a ≡ false
    past_of l h =
        let i : lo < length rs = omega (arith, H.long) in
        let greater = S.after o lo T.few i (omega (arith, T.ends)) in
        greater_apart (get_or (get_or c lo []) 0 0) (to_z w32 (get_or (get_or c lo []) 1 0)) o a (omega (arith, H.object lo i, greater))

    pub missing_outside : end ≤ lo → none ≡ index_of (find_row o a 0 rs)
    missing_outside l =
        ⊎_elim (λ e. is-missing o a H bound (ltb-true lo (length c) e) (past_of l (ltb-true lo (length c) e))) (λ e. is_past o a H bound (ltb-false lo (length c) e)) (true_or_false (ltb lo (length c)))

-- the stretch has no row
module _ {c t : List (List ℕ)} {o first end : ℕ} (a : ℤ) (T : Taken t o first end) where
  pub missing_beyond : length c < end → (rs : List Row) → RowsHeld rs c → Stretched rs t → none ≡ index_of (find_row o a 0 rs)
  missing_beyond l rs H S = absurd (omega (arith, stretch_inside a T H S))

  pub missing_none : end ≤ first → (rs : List Row) → RowsHeld rs c → Stretched rs t → none ≡ index_of (find_row o a 0 rs)
  missing_none l rs H S = missing_outside a T H S (between_end (row_before o a) rs no_row (stretch_between a T H S) l) (omega arith) l

  -- a callee is given the bits of the id sought
  module _ (f : SFits w32 a) (inside : end ≤ length c) (ordered : first ≤ end) {r : ℕ} (w : Lower (span first (end - first) c) (to_z w32 (of_z w32 a)) r r) where
    bound_of : (rs : List Row) → RowsHeld rs c → Stretched rs t → Between (row_before o a) rs no_row (first + r) (first + r)
    bound_of rs H S = stretch_bound a T H S inside ordered (lower_own (span first (end - first) c) a f w)

    module _ (x : ℤ) (g : SFits w32 x) (e : x ≡ to_z w32 (get_or (get_or c (first + r) []) 1 0)) (l : first + r < end) where
      pub found_here : of_z w32 x ≡ of_z w32 a → (rs : List Row) → RowsHeld rs c → Stretched rs t → some (first + r) ≡ index_of (find_row o a 0 rs)
      found_here s rs H S = found_inside a T H S (bound_of rs H S) (omega arith) l (ap (λ (z : ℤ). eq_z z a) (sym e) ∙ tested_same x a g f s)

      pub missing_here : (of_z w32 x ≡ of_z w32 a → ⊥) → (rs : List Row) → RowsHeld rs c → Stretched rs t → none ≡ index_of (find_row o a 0 rs)
      missing_here s rs H S = missing-inside a T H S (bound_of rs H S) (omega arith) l (ap (λ (z : ℤ). eq_z z a) (sym e) ∙ tested-apart x a g f s)

    pub missing_past : end ≤ first + r → (rs : List Row) → RowsHeld rs c → Stretched rs t → none ≡ index_of (find_row o a 0 rs)
    missing_past l rs H S = missing_outside a T H S (bound_of rs H S) (omega arith) l
