-- The pass that lays the objects' stretches.
use Prim.Native.Nat.{ℕ, ◌+◌, ◌≤◌, ◌<◌}
use native.Mathlib.Nat.{eq-or-lt_of_le, lt_irrefl}
use native.Mathlib.Omega.{arith}
use mathlib.Core.Path.{◌≡◌, refl, sym, ap, subst, ◌∙◌}
use mathlib.Core.Bool.{Bool, true, false, cond}
use mathlib.Core.List.{List, [], ◌∷◌}
use mathlib.Core.Logic.{◌⊎◌, inl, inr, ⊎_elim}
use lib.Dec.{eqb, ltb}
use lib.IntN.{ℤ}
use lib.ListN.{length, get_or, set, replicate, length-set, length-replicate, get_or-replicate}
use lib.Seq.{get_or-set_same, get_or-set_other}
use lib.Signed.{lt_z}
use borrow.Author.Tests.{eqb-true, ltb-true, ltb-false}
use Rattle.laws.proofs.Bools.{true_or_false}
use Rattle.rules.specs.Dispatch.{Row}
use Rattle.reading.specs.Held.{no_row, is_before, ascending, RowsHeld}
use Rattle.reading.proofs.Orders.{ascending_far}
use Rattle.reading.specs.Stretched.{OfObject, Stretched, Past}

-- ---- the rows of one object

-- the rows from first to i are passed by
pub record Passed (c : List (List ℕ)) (o first i : ℕ) : Type 0 where
  pub within : first ≤ i
  pub inside : i ≤ length c
  pub up_to : (j : ℕ) → first ≤ j → j < i → get_or (get_or c j []) 0 0 ≤ o

module _ {c : List (List ℕ)} {o first : ℕ} where
  pub passed_none : first ≤ length c → Passed c o first first
  passed_none h = record { within = omega arith; inside = h; up_to = λ j l m. absurd (omega arith) }

  module _ {i : ℕ} (P : Passed c o first i) where
    pub passed-more : i < length c → get_or (get_or c i []) 0 0 ≤ o → Passed c o first (i + 1)
    passed-more h e =
        record {
          within = omega (arith, P.within);
          inside = omega arith;
          up_to = λ j l m. at j l (eq-or-lt_of_le {n = j} {m = i} (omega arith));
        }
      where
        at : (j : ℕ) → first ≤ j → (j ≡ i) ⊎ (j < i) → get_or (get_or c j []) 0 0 ≤ o
        at j l (inl q) = subst (λ (n : ℕ). get_or (get_or c n []) 0 0 ≤ o) (sym q) e
        at j l (inr q) = P.up_to j l q

    pub passed_here : o < get_or (get_or c i []) 0 0 → Past c o first i
    passed_here h = record { within = P.within; inside = P.inside; up_to = P.up_to; next = λ l. h }

    pub passed-all : length c ≤ i → Past c o first i
    passed-all h = record { within = P.within; inside = P.inside; up_to = P.up_to; next = λ l. absurd (omega arith) }

-- ---- all objects

pub before-most : (p : ℕ) (x : ℤ) (o : ℕ) (a : ℤ) → is_before p x o a ≡ true → p ≤ o
before-most p x o a h = by (eqb p o) refl h
  where
    by : (t : Bool) → eqb p o ≡ t → cond t (lt_z x a) (ltb p o) ≡ true → p ≤ o
    by true e k = omega (arith, eqb-true p o e)
    by false e k = omega (arith, ltb-true p o k)

objects_ascend : (rs : List Row) → ascending rs ≡ true → (i j : ℕ) → i ≤ j → j < length rs → (get_or rs i no_row).object ≤ (get_or rs j no_row).object
objects_ascend rs e i j l h = by (eq-or-lt_of_le {n = i} {m = j} l)
  where
    by : (i ≡ j) ⊎ (i < j) → (get_or rs i no_row).object ≤ (get_or rs j no_row).object
    by (inl q) = omega (arith, ap (λ (n : ℕ). (get_or rs n no_row).object) q)
    by (inr q) =
        before-most (get_or rs i no_row).object (get_or rs i no_row).id (get_or rs j no_row).object (get_or rs j no_row).id (ascending_far rs no_row e i j q h)

-- the stretch of object o
record Stretch (rs : List Row) (o first end : ℕ) : Type 0 where
  inside : (first ≤ end) × (end ≤ length rs)
  before : (i : ℕ) → i < first → (get_or rs i no_row).object < o
  own : OfObject o rs first end
  after : (i : ℕ) → i < length rs → end ≤ i → o < (get_or rs i no_row).object

-- the rows from first on are of object o and later ones, the stretches of all before are laid, and those of the others stand at the end
pub record Laying (c t : List (List ℕ)) (o first : ℕ) : Type 0 where
  pub few : o ≤ 1024
  pub long : length t ≡ 1024
  pub inside : first ≤ length c
  below : (rs : List Row) → RowsHeld rs c → (i : ℕ) → i < first → (get_or rs i no_row).object < o
  above : (rs : List Row) → RowsHeld rs c → (i : ℕ) → first ≤ i → i < length rs → o ≤ (get_or rs i no_row).object
  laid : (rs : List Row) → RowsHeld rs c → (p : ℕ) → p < o → Stretch rs p (get_or (get_or t p []) 0 0) (get_or (get_or t p []) 1 0)
  rest : (p : ℕ) → o ≤ p → p < 1024 → get_or t p [] ≡ length c ∷ length c ∷ []

pub laying_none : {c : List (List ℕ)} → Laying c (replicate 1024 (length c ∷ length c ∷ [])) 0 0
laying_none {c} =
    let row = length c ∷ length c ∷ [] in
    record {
      few = omega arith;
      long = length-replicate 1024 row;
      inside = omega arith;
      below = λ rs H i l. absurd (omega arith);
      above = λ rs H i l h. omega arith;
      laid = λ rs H p l. absurd (omega arith);
      rest = λ p l h. get_or-replicate 1024 p row [] h;
    }

module _ {c t : List (List ℕ)} {o first : ℕ} (L : Laying c t o first) where
  module _ {end : ℕ} (P : Past c o first end) where
    module _ (rs : List Row) (H : RowsHeld rs c) where
      up_to_lem : (i : ℕ) → first ≤ i → i < end → (get_or rs i no_row).object ≤ o
      up_to_lem i l h = omega (arith, H.object i (omega (arith, P.inside, H.long)), P.up_to i l h)

      below_next : (i : ℕ) → i < end → (get_or rs i no_row).object < o + 1
      below_next i h =
          ⊎_elim (λ e. omega (arith, L.below rs H i (ltb-true i first e))) (λ e. omega (arith, up_to_lem i (ltb-false i first e) h)) (true_or_false (ltb i first))

      after_end : (i : ℕ) → i < length rs → end ≤ i → o < (get_or rs i no_row).object
      after_end i h l =
          let there : end < length rs = omega arith in
          omega (arith, P.next (omega (arith, H.long)), H.object end there, objects_ascend rs H.ordered end i l h)

      own_stretch : Stretch rs o first end
      own_stretch =
          record {
            inside = (P.within, omega (arith, P.inside, H.long));
            before = L.below rs H;
            own = λ i l h. omega (arith, up_to_lem i l h, L.above rs H i l (omega (arith, P.inside, H.long)));
            after = after_end;
          }

    pub laying_next : {k : ℕ} → k ≡ o → o < 1024 → Laying c (set t k (first ∷ end ∷ [])) (o + 1) end
    laying_next {k} e h =
        record {
          few = omega arith;
          long = length-set t k (first ∷ end ∷ []) ∙ L.long;
          inside = P.inside;
          below = below_next;
          above = λ rs H i l m. omega (arith, after_end rs H i m l);
          laid = λ rs H p l. at rs H p (eq-or-lt_of_le {n = p} {m = o} (omega arith));
          rest = λ p l m. get_or-set_other t k p (first ∷ end ∷ []) [] (λ s. absurd (omega (arith, s, e))) ∙ L.rest p (omega arith) m;
        }
      where
        at : (rs : List Row) → RowsHeld rs c → (p : ℕ) → (p ≡ o) ⊎ (p < o) → Stretch rs p (get_or (get_or (set t k (first ∷ end ∷ [])) p []) 0 0) (get_or (get_or (set t k (first ∷ end ∷ [])) p []) 1 0)
        at rs H p (inl q) =
            let same : get_or (set t k (first ∷ end ∷ [])) p [] ≡ first ∷ end ∷ [] = ap (λ (n : ℕ). get_or (set t k (first ∷ end ∷ [])) n []) (q ∙ sym e) ∙ get_or-set_same t k (first ∷ end ∷ []) [] (omega (arith, L.long)) in
            subst (λ (row : List ℕ). Stretch rs p (get_or row 0 0) (get_or row 1 0)) (sym same) (subst (λ (n : ℕ). Stretch rs n first end) (sym q) (own_stretch rs H))
        at rs H p (inr q) =
            subst (λ (row : List ℕ). Stretch rs p (get_or row 0 0) (get_or row 1 0)) (sym (get_or-set_other t k p (first ∷ end ∷ []) [] (λ s. lt_irrefl o (subst (λ (n : ℕ). n < o) (s ∙ e) q)))) (L.laid rs H p q)

  pub laying_all : 1024 ≤ o → (rs : List Row) → RowsHeld rs c → Stretched rs t
  laying_all h rs H =
      record {
        inside = λ p l. (L.laid rs H p (omega arith)).inside;
        before = λ p i l. (L.laid rs H p (omega arith)).before i;
        own = λ p l. (L.laid rs H p (omega arith)).own;
        after = λ p i l. (L.laid rs H p (omega arith)).after i;
      }

  -- all rows are passed: behind them all stretches are empty
  pub laying_short : length c ≤ first → (rs : List Row) → RowsHeld rs c → Stretched rs t
  laying_short h rs H =
      record {
        inside = λ p l. (at p l (true_or_false (ltb p o))).inside;
        before = λ p i l. (at p l (true_or_false (ltb p o))).before i;
        own = λ p l. (at p l (true_or_false (ltb p o))).own;
        after = λ p i l. (at p l (true_or_false (ltb p o))).after i;
      }
    where
      at : (p : ℕ) → p < 1024 → (ltb p o ≡ true) ⊎ (ltb p o ≡ false) → Stretch rs p (get_or (get_or t p []) 0 0) (get_or (get_or t p []) 1 0)
      at p l (inl q) = L.laid rs H p (ltb-true p o q)
      at p l (inr q) =
          let later : o ≤ p = ltb-false p o q in
          subst (λ (row : List ℕ). Stretch rs p (get_or row 0 0) (get_or row 1 0)) (sym (L.rest p later l))
          (record {
            inside = (omega arith, omega (arith, H.long));
            before = λ i m. omega (arith, L.below rs H i (omega arith));
            own = λ i m g. absurd (omega arith);
            after = λ i g m. absurd (omega (arith, H.long));
          })
