-- What a row needs stands in its slots, and nothing else does.
use Prim.Native.Nat.{ℕ, zero, suc, ◌<◌}
use native.Mathlib.Omega.{arith}
use mathlib.Core.Path.{◌≡◌, refl, sym, ap, subst, ◌∙◌}
use mathlib.Core.Bool.{true}
use mathlib.Core.List.{List, [], ◌∷◌, ◌++◌}
use mathlib.Core.Logic.{inl, inr}
use mathlib.Core.Option.{Option, none, some}
use lib.ListN.{length, get_or}
use Rattle.laws.proofs.Bools.{both_ways}
use Rattle.rules.specs.Dispatch.{Key}
use Rattle.rules.specs.Value.{World, Found, find_row}
use Rattle.promises.specs.NoMemory.{no_row}
use Rattle.reading.specs.Held.{index_of}
use Rattle.needs.specs.Slots.{slots_of, row_in, need_at}
use Rattle.needs.proofs.Slotted.{present, needs_slots}
use Rattle.needs.proofs.Showing.{need_inside}
use Rattle.loops.specs.Loop.{rows_of, need_rows}
use Rattle.loops.proofs.Searching.{Has, has_cons, has_head, append_right}

module _ (w : World) where
  -- row j stands in one of the slots
  record In (xs : List (Option Key)) (j : ℕ) : Type 0 where
    at : ℕ
    is : some j ≡ row_in w.rows (get_or xs at none)

  has_in : (xs : List (Option Key)) (j : ℕ) → Has j (rows_of w (present xs)) ≡ true → In xs j
  has_in [] j h = both_ways h refl
  has_in (none ∷ xs) j h = let i = has_in xs j h in record { at = suc i.at; is = i.is }
  has_in (some a ∷ xs) j h = by (find_row a.object a.id 0 w.rows) refl h (has_in xs j)
    where
      later : In xs j → In (some a ∷ xs) j
      later i = record { at = suc i.at; is = i.is }

      by : (f : Option Found) → find_row a.object a.id 0 w.rows ≡ f → Has j (elim f [ none ↦ [] | some g ↦ g.index ∷ [] ] ++ rows_of w (present xs)) ≡ true
          → (Has j (rows_of w (present xs)) ≡ true → In xs j) → In (some a ∷ xs) j
      by none e g rest = later (rest g)
      by (some f) e g rest = elim (has_cons j f.index (rows_of w (present xs)) g) [ inl p ↦ record { at = zero; is = ap some p ∙ sym (ap index_of e) } | inr p ↦ later (rest p) ]

  in_has : (xs : List (Option Key)) (s j : ℕ) → some j ≡ row_in w.rows (get_or xs s none) → Has j (rows_of w (present xs)) ≡ true
  in_has [] s j e = let z : ◌≡◌ {A = ℕ} 0 1 = cc in absurd (omega arith)
  in_has (none ∷ xs) zero j e = let z : ◌≡◌ {A = ℕ} 0 1 = cc in absurd (omega arith)
  in_has (none ∷ xs) (suc s) j e = in_has xs s j e
  in_has (some a ∷ xs) zero j e = here (find_row a.object a.id 0 w.rows) e
    where
      here : (f : Option Found) → some j ≡ index_of f → Has j (elim f [ none ↦ [] | some g ↦ g.index ∷ [] ] ++ rows_of w (present xs)) ≡ true
      here none p = let z : ◌≡◌ {A = ℕ} 0 1 = cc in absurd (omega arith)
      here (some f) p = let same : j ≡ f.index = cc in subst (λ (n : ℕ). Has j (n ∷ rows_of w (present xs)) ≡ true) same (has_head j (rows_of w (present xs)))
  in_has (some a ∷ xs) (suc s) j e = append_right j (elim (find_row a.object a.id 0 w.rows) [ none ↦ [] | some g ↦ g.index ∷ [] ]) (rows_of w (present xs)) (in_has xs s j e)

  module _ (i : ℕ) where
    pub record Slot (j : ℕ) : Type 0 where
      pub at : ℕ
      pub is : some j ≡ need_at w i at

    pub has_slot : (j : ℕ) → Has j (need_rows w i) ≡ true → Slot j
    unfolding need_rows need_at
    has_slot j h =
        let s = has_in (slots_of w.book (get_or w.rows i no_row)) j (subst (λ (l : List Key). Has j (rows_of w l) ≡ true) (needs_slots w.book (get_or w.rows i no_row)) h) in
        record { at = s.at; is = s.is }

    pub slot_has : (s j : ℕ) → some j ≡ need_at w i s → Has j (need_rows w i) ≡ true
    unfolding need_rows need_at
    slot_has s j e = subst (λ (l : List Key). Has j (rows_of w l) ≡ true) (sym (needs_slots w.book (get_or w.rows i no_row))) (in_has (slots_of w.book (get_or w.rows i no_row)) s j e)

    pub has_inside : (j : ℕ) → Has j (need_rows w i) ≡ true → j < length w.rows
    has_inside j h = let s = has_slot j h in need_inside w i s.at j s.is
