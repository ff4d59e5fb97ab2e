-- The search for a row finds what the definition's first match is.
use Prim.Native.Nat.{ℕ, zero, suc, ◌+◌, ◌≤◌, ◌<◌, suc-le-suc, zero-le}
use native.Mathlib.Nat.{not-suc-le-zero, le_of_suc-le-suc, add-zero, zero-add}
use native.Mathlib.Omega.{arith}
use mathlib.Core.Path.{◌≡◌, refl, sym, ap, ap₂, subst, ◌∙◌}
use mathlib.Core.Bool.{Bool, true, false}
use mathlib.Core.List.{List, [], ◌∷◌}
use mathlib.Core.Logic.{⊎_elim}
use mathlib.Core.Option.{none, some}
use lib.Dec.{eqb, ltb}
use lib.IntN.{ℤ}
use lib.ListN.{length, get_or}
use mir.Syntax.{w32}
use mir.Val.{to_z}
use mir.Facts.{to_z-of_z}
use borrow.Author.Tests.{eqb-true, ltb-true, ltb-false}
use Rattle.laws.specs.Lists.{eq_z}
use Rattle.laws.proofs.Bools.{both_ways, not-passed, true_or_false, and_left, and_right}
use Rattle.laws.proofs.Order.{eq_z_true}
use Rattle.laws.proofs.Search.{Between, Falls}
use Rattle.rules.specs.Dispatch.{Row}
use Rattle.rules.specs.Value.{Found, find_row}
use Rattle.reading.specs.Held.{no_row, is_of, row_before, row_of, RowsHeld, index_of}
use Rattle.reading.proofs.Orders.{before_trans, before-apart, ascending_far}

abbrev found : ℕ → Row → Found
found i r = record { index = i; row = r }

module _ (o : ℕ) (a : ℤ) where
  -- ---- the definition's search

  here : (k : ℕ) (r : Row) (rs : List Row) → row_of o a r ≡ true → find_row o a k (r ∷ rs) ≡ some (found k r)
  unfolding find_row
  here k r rs e = rw (find_row, e)

  later : (k : ℕ) (r : Row) (rs : List Row) → row_of o a r ≡ false → find_row o a k (r ∷ rs) ≡ find_row o a (suc k) rs
  unfolding find_row
  later k r rs e = rw (find_row, e)

  find_at : (k : ℕ) (rs : List Row) (i : ℕ) (d : Row) → i < length rs → ((j : ℕ) → j < i → row_of o a (get_or rs j d) ≡ false) → row_of o a (get_or rs i d) ≡ true
      → find_row o a k rs ≡ some (found (k + i) (get_or rs i d))
  find_at k [] i d h f e = absurd (not-suc-le-zero h)
  find_at k (r ∷ rs) zero d h f e = here k r rs e ∙ ap (λ (n : ℕ). some (found n r)) (sym (add-zero k))
  find_at k (r ∷ rs) (suc i) d h f e =
      later k r rs (f zero (suc-le-suc zero-le)) ∙ find_at (suc k) rs i d (le_of_suc-le-suc h) (λ j l. f (suc j) (suc-le-suc l)) e
      ∙ ap (λ (n : ℕ). some (found n (get_or rs i d))) (omega arith)

  find_none : (k : ℕ) (rs : List Row) (d : Row) → ((j : ℕ) → j < length rs → row_of o a (get_or rs j d) ≡ false) → find_row o a k rs ≡ none
  find_none k [] d f = unfold find_row in refl
  find_none k (r ∷ rs) d f = later k r rs (f zero (suc-le-suc zero-le)) ∙ find_none (suc k) rs d (λ j l. f (suc j) (suc-le-suc l))

  -- where a search that began to count at k has found one
  record Located (k : ℕ) (rs : List Row) (f : Found) : Type 0 where
    at : ℕ
    index : f.index ≡ k + at
    within : at < length rs
    row : (d : Row) → f.row ≡ get_or rs at d
    is : row_of o a f.row ≡ true

  nowhere_in : {k : ℕ} {rs : List Row} (f : Found) → none ≡ some f → Located k rs f
  nowhere_in f e = let z : ◌≡◌ {A = ℕ} 0 1 = cc in absurd (omega arith)

  by_test : (k : ℕ) (r : Row) (rs : List Row) (f : Found) → find_row o a k (r ∷ rs) ≡ some f → (find_row o a (suc k) rs ≡ some f → Located (suc k) rs f) → (t : Bool) → row_of o a r ≡ t → Located k (r ∷ rs) f
  by_test k r rs f e rest true h =
      let same : found k r ≡ f = cc (here k r rs h) in
      record {
        at = zero;
        index = sym (ap (λ (g : Found). g.index) same) ∙ sym (add-zero k);
        within = suc-le-suc zero-le;
        row = λ d. sym (ap (λ (g : Found). g.row) same);
        is = subst (λ (g : Found). row_of o a g.row ≡ true) same h;
      }
  by_test k r rs f e rest false h =
      let l = rest (sym (later k r rs h) ∙ e) in
      record {
        at = suc l.at;
        index = omega (arith, l.index);
        within = suc-le-suc l.within;
        row = l.row;
        is = l.is;
      }

  located : (k : ℕ) (rs : List Row) (f : Found) → find_row o a k rs ≡ some f → Located k rs f
  located k [] f e = nowhere_in f (unfold find_row in e)
  located k (r ∷ rs) f e = by_test k r rs f e (located (suc k) rs f) (row_of o a r) refl

  -- what is found is one of the rows, of this object and attribute
  pub record FoundIn (rs : List Row) (f : Found) : Type 0 where
    pub within : f.index < length rs
    pub row : (d : Row) → f.row ≡ get_or rs f.index d
    pub object : f.row.object ≡ o
    pub id : f.row.id ≡ a

  pub found_in : (rs : List Row) (f : Found) → find_row o a 0 rs ≡ some f → FoundIn rs f
  found_in rs f e =
      let l = located 0 rs f e in
      let here : l.at ≡ f.index = omega (arith, l.index) in
      record {
        within = omega (arith, l.within);
        row = λ d. l.row d ∙ ap (λ (n : ℕ). get_or rs n d) here;
        object = eqb-true f.row.object o (and_left (eqb f.row.object o) (eq_z f.row.id a) l.is);
        id = eq_z_true f.row.id a (and_right (eqb f.row.object o) (eq_z f.row.id a) l.is);
      }

  -- ---- the binary search

  module _ {rs : List Row} {c : List (List ℕ)} (H : RowsHeld rs c) where
    pub falls : Falls (row_before o a) rs no_row
    falls = record { before = λ i j l h e. ⊎_elim (λ k. earlier i j (ltb-true i j k) h e) (λ k. same i j (omega (arith, ltb-false i j k)) e) (true_or_false (ltb i j)) }
      where
        earlier : (i j : ℕ) → i < j → j < length rs → row_before o a (get_or rs j no_row) ≡ true → row_before o a (get_or rs i no_row) ≡ true
        earlier i j l h e =
            before_trans (get_or rs i no_row).object (get_or rs i no_row).id (get_or rs j no_row).object (get_or rs j no_row).id o a (ascending_far rs no_row H.ordered i j l h) e

        same : (i j : ℕ) → j ≡ i → row_before o a (get_or rs j no_row) ≡ true → row_before o a (get_or rs i no_row) ≡ true
        same i j k e = subst (λ (n : ℕ). row_before o a (get_or rs n no_row) ≡ true) k e

    -- what the column tells of row k
    module _ (k : ℕ) (l : k < length c) where
      inside : k < length rs
      inside = omega (arith, H.long)

      pub id-read : to_z w32 (get_or (get_or c k []) 1 0) ≡ (get_or rs k no_row).id
      id-read = ap (to_z w32) (H.id k inside) ∙ to_z-of_z (H.narrow k inside)

      column_of : is_of (get_or (get_or c k []) 0 0) (to_z w32 (get_or (get_or c k []) 1 0)) o a ≡ row_of o a (get_or rs k no_row)
      column_of = ap₂ (λ (p : ℕ) (x : ℤ). is_of p x o a) (H.object k inside) id-read

    module _ {lo : ℕ} (b : Between (row_before o a) rs no_row lo lo) where
      passed-by : (j : ℕ) → j < lo → row_of o a (get_or rs j no_row) ≡ false
      passed-by j l = before-apart (get_or rs j no_row).object (get_or rs j no_row).id o a (b.below j l)

      pub is_found : (l : lo < length c) → is_of (get_or (get_or c lo []) 0 0) (to_z w32 (get_or (get_or c lo []) 1 0)) o a ≡ true → some lo ≡ index_of (find_row o a 0 rs)
      is_found l e =
          sym (ap index_of (find_at 0 rs lo no_row (inside lo l) passed-by (sym (column_of lo l) ∙ e)) ∙ ap some (zero-add lo))

      -- one behind the bound that were the row would have the bound's before it
      behind : lo < length c → (j : ℕ) → lo < j → j < length rs → row_of o a (get_or rs j no_row) ≡ false
      behind l j m h = not-passed (row_of o a (get_or rs j no_row)) (λ e. both_ways (clash e) (b.above lo (omega arith) (inside lo l)))
        where
          clash : row_of o a (get_or rs j no_row) ≡ true → row_before o a (get_or rs lo no_row) ≡ true
          clash e =
              let p = eqb-true (get_or rs j no_row).object o (and_left (eqb (get_or rs j no_row).object o) (eq_z (get_or rs j no_row).id a) e) in
              let x = eq_z_true (get_or rs j no_row).id a (and_right (eqb (get_or rs j no_row).object o) (eq_z (get_or rs j no_row).id a) e) in
              sym (ap₂ (λ (q : ℕ) (y : ℤ). row_before q y (get_or rs lo no_row)) p x) ∙ ascending_far rs no_row H.ordered lo j m h

      nowhere : (j : ℕ) → j < length rs → (lo ≡ j → row_of o a (get_or rs j no_row) ≡ false) → (lo < j → row_of o a (get_or rs j no_row) ≡ false) → row_of o a (get_or rs j no_row) ≡ false
      nowhere j h e f =
          ⊎_elim (λ k. passed-by j (ltb-true j lo k))
          (λ k. ⊎_elim (λ m. f (ltb-true lo j m)) (λ m. e (omega (arith, ltb-false j lo k, ltb-false lo j m))) (true_or_false (ltb lo j)))
          (true_or_false (ltb j lo))

      pub is-missing : (l : lo < length c) → is_of (get_or (get_or c lo []) 0 0) (to_z w32 (get_or (get_or c lo []) 1 0)) o a ≡ false → none ≡ index_of (find_row o a 0 rs)
      is-missing l e =
          sym (ap index_of (find_none 0 rs no_row (λ j h.
          nowhere j h (λ k. subst (λ (n : ℕ). row_of o a (get_or rs n no_row) ≡ false) k (sym (column_of lo l) ∙ e)) (λ k. behind l j k h))))

      pub is_past : length c ≤ lo → none ≡ index_of (find_row o a 0 rs)
      is_past l =
          sym (ap index_of (find_none 0 rs no_row (λ j h. nowhere j h (λ k. absurd (omega (arith, H.long))) (λ k. absurd (omega (arith, H.long))))))
