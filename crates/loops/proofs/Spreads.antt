-- A row's search: what each step keeps, and what its end says.
use Prim.Native.Nat.{ℕ, ◌+◌, ◌*◌, ◌≤◌, ◌<◌, ◌^◌}
use native.Mathlib.Decide.{ℕ_discrete}
use native.Mathlib.Omega.{arith}
use mathlib.Core.Path.{◌≡◌, refl, sym, ap, subst, ◌∙◌}
use mathlib.Core.Bool.{true, false}
use mathlib.Core.List.{List, []}
use mathlib.Core.Logic.{◌⊎◌, inl, inr}
use mathlib.Core.Option.{Option, none, some}
use borrow.Author.Tests.{ltb-true, ltb-false}
use lib.Dec.{ltb}
use lib.ListN.{length, get_or}
use Rattle.laws.proofs.Bools.{both_ways, true_or_false, not-passed}
use Rattle.rules.specs.Value.{World}
use Rattle.needs.specs.Slots.{need_at}
use Rattle.needs.specs.Telling.{NeedTables, KnowsNeeds}
use Rattle.needs.proofs.Showing.{row_count, need_inside, need_slot}
use Rattle.order.specs.Ranks.{num}
use Rattle.loops.specs.Loop.{need_rows, searched, backs}
use Rattle.loops.specs.Looping.{MetFrom, SlotMet, Waits, Spreading, Queued, Earlier}
use Rattle.loops.proofs.Searching.{met_all, Ends, searched_ends}
use Rattle.loops.proofs.Slots.{has_slot, slot_has, has_inside}

-- ---- what is met from a row

module _ (w : World) (row : ℕ) where
  ends : Ends (need_rows w) [] (need_rows w row) (searched (need_rows w) (length w.rows) (need_rows w row))
  ends = searched_ends (need_rows w) (length w.rows) (λ i j h. has_inside w i j h) (need_rows w row) (λ j h. has_inside w row j h)

  -- what a row that is met needs is met, and what the row itself needs
  pub met_on : (at s k : ℕ) → (at ≡ row) ⊎ MetFrom w row at → some k ≡ need_at w at s → MetFrom w row k
  met_on at s k (inl e) f = ends.takes k (slot_has w row s k (f ∙ ap (λ (i : ℕ). need_at w i s) e))
  met_on at s k (inr m) f = ends.closed at k m (slot_has w at s k f)

  -- what all its needs have, and hand on, it has where it leads back
  pub hands_on : (P : ℕ → Type 0) → ((s k : ℕ) → some k ≡ need_at w row s → P k) → ((j s k : ℕ) → P j → some k ≡ need_at w j s → P k) → backs w row ≡ true → P row
  unfolding backs searched
  hands_on P first next h =
      met_all (need_rows w) P (λ i j p g. let s = has_slot w i j g in next i s.at j p s.is) _ [] (need_rows w row) (λ j g. both_ways g refl)
      (λ j g. let s = has_slot w row j g in first s.at j s.is) row h

module _ {t : NeedTables} {row : ℕ} where
  -- ---- it begins

  pub spread_starts : {r : ℕ} {c c' : List (List ℕ)} → length t.rows ≤ length c → length t.rows < 2 ^ 32 → row < length t.rows → Earlier (length t.rows) row c → Queued (row + 1) row 0 r c c' → length c' ≡ length c
      → Spreading t row (length t.rows) 0 0 r c'
  spread_starts {r} {c} {c'} long few within earlier Q same =
      record {
        long = omega (arith, long, same);
        few = few;
        room = omega (arith, Q.room, same);
        ahead = omega arith;
        marks = λ j h. elim (ℕ_discrete j row) [
          | yes e ↦ let here : num c' j 0 ≡ row + 1 = ap (λ (i : ℕ). num c' i 0) e ∙ Q.marked in omega (arith, here)
          | no e ↦ omega (arith, Q.marks j e, earlier j h)
        ];
        queue = λ q h. let here = Q.behind q (omega arith) h in (omega (arith, here, within), ap (λ (i : ℕ). num c' i 0) here ∙ Q.marked);
        start = Q.marked;
        own = λ h. absurd (omega (arith, h));
        led = λ h j l m. inl (only j l m);
        met = λ h j l m. inr (inr (record { place = 0; from = omega arith; to = one; is = Q.behind 0 (omega arith) one ∙ sym (only j l m) }));
        slots = λ h i l. absurd (omega (arith, l));
      }
    where
      one : 0 < r
      one = omega (arith, Q.new (λ e. omega (arith, e, earlier row within)))

      only : (j : ℕ) → j < length t.rows → num c' j 0 ≡ row + 1 → j ≡ row
      only j l m = elim (ℕ_discrete j row) [ yes e ↦ e | no e ↦ absurd (omega (arith, m, Q.marks j e, earlier j l)) ]

  module _ {at s head end : ℕ} {c : List (List ℕ)} (S : Spreading t row at s head end c) where
    -- ---- the row that the queue has next

    pub take-inside : {x : ℕ} → x ≡ num c head 3 → head < end → x < length t.rows
    take-inside e l = omega (arith, e, (S.queue head l).0)

    pub spread_take : {x : ℕ} → x ≡ num c head 3 → at ≡ length t.rows → head < end → Spreading t row x 0 (head + 1) end c
    spread_take {x} here past l =
        record {
          long = S.long;
          few = S.few;
          room = S.room;
          ahead = omega (arith, l);
          marks = S.marks;
          queue = S.queue;
          start = S.start;
          own = λ h. ap (λ (i : ℕ). num c i 0) here ∙ (S.queue head l).1;
          led = S.led;
          met = λ h j b m. by h j b (S.met h j b m);
          slots = λ h i b. absurd (omega (arith, b));
        }
      where
        by : (h : KnowsNeeds t) (j : ℕ) → j < length t.rows → (j ≡ at) ⊎ (((s : ℕ) → SlotMet h.world row c j s) ⊎ Waits c head end j)
            → (j ≡ x) ⊎ (((s : ℕ) → SlotMet h.world row c j s) ⊎ Waits c (head + 1) end j)
        by h j b (inl e) = absurd (omega (arith, e, b, past))
        by h j b (inr (inl m)) = inr (inl m)
        by h j b (inr (inr W)) = elim (ℕ_discrete W.place head) [
          | yes e ↦ inl (sym W.is ∙ ap (λ (q : ℕ). num c q 3) e ∙ sym here)
          | no e ↦ inr (inr (record { place = W.place; from = omega (arith, e, W.from); to = W.to; is = W.is }))
        ]

    -- ---- a slot more

    slots_more : (c' : List (List ℕ)) → ((h : KnowsNeeds t) (i : ℕ) → i < s → SlotMet h.world row c' at i) → ((h : KnowsNeeds t) → SlotMet h.world row c' at s) → (h : KnowsNeeds t) (i : ℕ) → i < s + 1 → SlotMet h.world row c' at i
    slots_more c' f g h i l = elim (ℕ_discrete i s) [ yes e ↦ subst (SlotMet h.world row c' at) (sym e) (g h) | no e ↦ f h i (omega (arith, l, e)) ]

    pub spread_pass : ((h : KnowsNeeds t) → none ≡ need_at h.world at s) → Spreading t row at (s + 1) head end c
    spread_pass f =
        record {
          long = S.long;
          few = S.few;
          room = S.room;
          ahead = S.ahead;
          marks = S.marks;
          queue = S.queue;
          start = S.start;
          own = S.own;
          led = S.led;
          met = S.met;
          slots = slots_more c S.slots (λ h k e. let z : ◌≡◌ {A = Option ℕ} none (some k) = f h ∙ sym e in let y : ◌≡◌ {A = ℕ} 0 1 = cc in absurd (omega arith));
        }

    pub spread_met : (k : ℕ) {r : ℕ} {c' : List (List ℕ)} → at < length t.rows → k < length t.rows → ((h : KnowsNeeds t) → some k ≡ need_at h.world at s) → (k ≡ row → ⊥) → Queued (row + 1) k end r c c' → length c' ≡ length c
        → Spreading t row at (s + 1) head r c'
    spread_met k {r} {c'} within inside f other Q same =
        record {
          long = omega (arith, S.long, same);
          few = S.few;
          room = omega (arith, Q.room, same);
          ahead = omega (arith, S.ahead, Q.grows);
          marks = λ j h. elim (ℕ_discrete j k) [
            | yes e ↦ let here : num c' j 0 ≡ row + 1 = ap (λ (i : ℕ). num c' i 0) e ∙ Q.marked in omega (arith, here)
            | no e ↦ omega (arith, Q.marks j e, S.marks j h)
          ];
          queue = queue;
          start = still row S.start;
          own = λ h. still at (S.own h);
          led = λ h j b m. elim (ℕ_discrete j k) [
            | yes e ↦ inr (subst (MetFrom h.world row) (sym e) (met_on h.world row at s k (S.led h at within (S.own within)) (f h)))
            | no e ↦ S.led h j b (sym (Q.marks j e) ∙ m)
          ];
          met = λ h j b m. elim (ℕ_discrete (num c j 0) (row + 1)) [ yes e ↦ kept h j (S.met h j b e) | no e ↦ inr (inr (new j m e)) ];
          slots = slots_more c' (λ h i l k' e. let p = S.slots h i l k' e in (still k' p.0, p.1)) last;
        }
      where
        still : (j : ℕ) → num c j 0 ≡ row + 1 → num c' j 0 ≡ row + 1
        still j m = elim (ℕ_discrete j k) [ yes e ↦ ap (λ (i : ℕ). num c' i 0) e ∙ Q.marked | no e ↦ Q.marks j e ∙ m ]

        queue : (q : ℕ) → q < r → (num c' q 3 < length t.rows) × (num c' (num c' q 3) 0 ≡ row + 1)
        queue q l = elim (true_or_false (ltb q end)) [
          | inl e ↦ let before = Q.before q (ltb-true q end e) in (omega (arith, before, (S.queue q (ltb-true q end e)).0), ap (λ (i : ℕ). num c' i 0) before ∙ still (num c q 3) (S.queue q (ltb-true q end e)).1)
          | inr e ↦ let behind = Q.behind q (omega (arith, ltb-false q end e)) l in (omega (arith, behind, inside), ap (λ (i : ℕ). num c' i 0) behind ∙ Q.marked)
        ]

        kept : (h : KnowsNeeds t) (j : ℕ) → (j ≡ at) ⊎ (((s : ℕ) → SlotMet h.world row c j s) ⊎ Waits c head end j) → (j ≡ at) ⊎ (((s : ℕ) → SlotMet h.world row c' j s) ⊎ Waits c' head r j)
        kept h j (inl e) = inl e
        kept h j (inr (inl m)) = inr (inl (λ i k' e. (still k' (m i k' e).0, (m i k' e).1)))
        kept h j (inr (inr W)) = inr (inr (record { place = W.place; from = W.from; to = omega (arith, W.to, Q.grows); is = Q.before W.place W.to ∙ W.is }))

        new : (j : ℕ) → num c' j 0 ≡ row + 1 → (num c j 0 ≡ row + 1 → ⊥) → Waits c' head r j
        new j m n = elim (ℕ_discrete j k) [
          | yes e ↦ let more = Q.new (λ u. n (ap (λ (i : ℕ). num c i 0) e ∙ u)) in record { place = end; from = S.ahead; to = omega (arith, more); is = Q.behind end (omega arith) (omega (arith, more)) ∙ sym e }
          | no e ↦ absurd (n (sym (Q.marks j e) ∙ m))
        ]

        last : (h : KnowsNeeds t) → SlotMet h.world row c' at s
        last h k' e =
            let both : ◌≡◌ {A = Option ℕ} (some k') (some k) = e ∙ sym (f h) in
            let one : k' ≡ k = cc in
            (ap (λ (i : ℕ). num c' i 0) one ∙ Q.marked, λ u. other (sym one ∙ u))

    -- ---- all slots are done

    pub spread_done : at < length t.rows → 2 * get_or (get_or t.rows at []) 3 0 + 2 ≤ s → Spreading t row (length t.rows) 0 head end c
    spread_done within all =
        record {
          long = S.long;
          few = S.few;
          room = S.room;
          ahead = S.ahead;
          marks = S.marks;
          queue = S.queue;
          start = S.start;
          own = λ h. absurd (omega (arith, h));
          led = S.led;
          met = λ h j b m. by h j (S.met h j b m);
          slots = λ h i b. absurd (omega (arith, b));
        }
      where
        full : (h : KnowsNeeds t) (i : ℕ) → SlotMet h.world row c at i
        full h i k e = S.slots h i (omega (arith, all, row_count h.told at within, need_slot h.world at i k e)) k e

        by : (h : KnowsNeeds t) (j : ℕ) → (j ≡ at) ⊎ (((s : ℕ) → SlotMet h.world row c j s) ⊎ Waits c head end j) → (j ≡ length t.rows) ⊎ (((s : ℕ) → SlotMet h.world row c j s) ⊎ Waits c head end j)
        by h j (inl e) = inr (inl (λ i. subst (λ (x : ℕ). SlotMet h.world row c x i) (sym e) (full h i)))
        by h j (inr m) = inr m

    -- ---- the row itself is met

    pub spread_back : at < length t.rows → ((h : KnowsNeeds t) → some row ≡ need_at h.world at s) → (h : KnowsNeeds t) → backs h.world row ≡ true
    unfolding backs
    spread_back within f h = met_on h.world row at s row (S.led h at within (S.own within)) (f h)

    -- ---- nothing waits

    pub spread_ends : at ≡ length t.rows → end ≤ head → row < length t.rows → (h : KnowsNeeds t) → backs h.world row ≡ false
    spread_ends past over within h = not-passed (backs h.world row) (λ e. (hands_on h.world row P (λ i k f. on row i k within S.start f) (λ j i k p f. on j i k p.0 p.1.0 f) e).1.1 refl)
      where
        P : ℕ → Type 0
        P j = (j < length t.rows) × ((num c j 0 ≡ row + 1) × (j ≡ row → ⊥))

        slot : (j i k : ℕ) → j < length t.rows → (j ≡ at) ⊎ (((s : ℕ) → SlotMet h.world row c j s) ⊎ Waits c head end j) → some k ≡ need_at h.world j i → (num c k 0 ≡ row + 1) × (k ≡ row → ⊥)
        slot j i k l (inl e) f = absurd (omega (arith, e, l, past))
        slot j i k l (inr (inl m)) f = m i k f
        slot j i k l (inr (inr W)) f = absurd (omega (arith, over, W.from, W.to))

        on : (j i k : ℕ) → j < length t.rows → num c j 0 ≡ row + 1 → some k ≡ need_at h.world j i → P k
        on j i k l m f = (omega (arith, h.told.held.long, need_inside h.world j i k f), slot j i k l (S.met h j l m) f)
