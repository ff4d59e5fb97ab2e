-- One source row more: what the columns hold after `note`.
use Prim.Native.Nat.{ℕ, suc, ◌+◌, ◌≤◌, ◌<◌}
use native.Mathlib.Omega.{arith}
use mathlib.Core.Path.{◌≡◌, refl, sym, ap, ◌∙◌}
use mathlib.Core.Bool.{true, false}
use mathlib.Core.List.{List, [], ◌∷◌, ◌++◌}
use mathlib.Core.Logic.{inl, inr}
use mathlib.Core.Option.{some}
use borrow.Author.Tests.{lt-ltb, le-ltb, ltb-true, ltb-false, eqb-true, eqb-false}
use lib.Dec.{ltb, eqb}
use lib.Ieee.{Float}
use lib.ListN.{length, get_or, set, length-append, length-set}
use lib.Seq.{get_or-set_same, get_or-set_other}
use Rattle.laws.proofs.Bools.{true_or_false}
use Rattle.rules.specs.Answer.{ok, refused}
use Rattle.rules.specs.Dispatch.{Row}
use Rattle.rules.specs.Columns.{source_numbers, source_floats}
use Rattle.rules.specs.Value.{World, Mem, own_sources, note}
use Rattle.rules.specs.declared.Source.{Source}
use Rattle.rules.specs.declared.Refusal.TheVariants.{Room}
use Rattle.sources.specs.declared.SourceCounts.{SourceCounts}
use Rattle.std.specs.Prelude.{Ok, Err}
use Rattle.sources.specs.Shown.{filled, shown, placed, first_of}
use Rattle.sources.specs.Keeping.{Begins, Keeping, NotedAs}
use Rattle.sources.proofs.Showing.{filled_snoc, shown_put, shown_past}

-- the three ways of a note
module _ (w : World) (i : ℕ) (row : Row) (r : Source) (m : Mem) where
  pub note_off : w.recording ≡ false → note w i row r m ≡ ok m
  unfolding note
  note_off e = rw e refl

  pub note_full : w.recording ≡ true → ltb m.used w.room ≡ false → note w i row r m ≡ refused (Room 5)
  unfolding note
  note_full e h = rw e (rw (h, note) refl)

  pub note_on : w.recording ≡ true → ltb m.used w.room ≡ true
      → note w i row r m ≡ ok (record { values = m.values; sources = set m.sources i (own_sources i m ++ (r ∷ [])); used = suc m.used })
  unfolding note
  note_on e h = rw e (rw (h, note) refl)

module _ (w : World) (counts : List ℕ) (s₀ : List (List ℕ)) (f₀ : List (List Float)) (i : ℕ) (row : Row) (m : Mem) (r : Source) {s : List (List ℕ)} {f : List (List Float)} {now : SourceCounts}
    (k : Keeping counts w.room s₀ f₀ i m s f now.own now.used) where
  -- nothing is recorded
  pub off : w.recording ≡ false → NotedAs counts w.room s₀ f₀ i (note w i row r m) (Ok now) s f
  off e = rw (note_off w i row r m e) k

  -- no room
  pub full : w.recording ≡ true → w.room ≤ now.used → NotedAs counts w.room s₀ f₀ i (note w i row r m) (Err (Room 5)) s f
  full e h = rw (note_full w i row r m e (le-ltb m.used w.room (omega (arith, h, k.all)))) refl

  abbrev after : Mem
  after = record { values = m.values; sources = set m.sources i (own_sources i m ++ (r ∷ [])); used = suc m.used }

  module _ {first : ℕ} (b : Begins counts i first) (fit : length (own_sources i m) < get_or counts i 0) (free : now.used < w.room) (small : w.room ≤ 4294967295) where
    -- a column after the row went to its place
    held : {B : Type 0} (enc : Source → B) (c c₀ : List B) → c ≡ shown enc w.room counts m.sources c₀ → placed w.room (first + now.own) (enc r) c ≡ shown enc w.room counts after.sources c₀
    held {B} enc c c₀ e = elim (true_or_false (ltb (first + now.own) w.room)) [
      | inl t ↦ inside t
      | inr t ↦ past t
    ]
      where
        snoc : filled (get_or counts i 0) (own_sources i m ++ (r ∷ [])) ≡ set (filled (get_or counts i 0) (get_or m.sources i [])) (length (own_sources i m)) (some r)
        snoc = filled_snoc (get_or counts i 0) (own_sources i m) r fit

        inside : ltb (first + now.own) w.room ≡ true → placed w.room (first + now.own) (enc r) c ≡ shown enc w.room counts after.sources c₀
        inside t =
            let h = ltb-true (first + now.own) w.room t in
            let same : first + now.own ≡ first_of counts i + length (own_sources i m) = omega (arith, h, b.place, k.mine, small) in
            let there : first_of counts i + length (own_sources i m) < w.room = omega (arith, h, same) in
            rw (t, same, e) (sym (shown_put enc w.room counts m.sources c₀ i (length (own_sources i m)) (own_sources i m ++ (r ∷ [])) r k.long b.row fit snoc there))

        past : ltb (first + now.own) w.room ≡ false → placed w.room (first + now.own) (enc r) c ≡ shown enc w.room counts after.sources c₀
        past t =
            let h = ltb-false (first + now.own) w.room t in
            let there : w.room ≤ first_of counts i + length (own_sources i m) = omega (arith, h, b.place, k.mine) in
            rw (t, e) (sym (shown_past enc w.room counts m.sources c₀ i (length (own_sources i m)) (own_sources i m ++ (r ∷ [])) r k.long b.row fit snoc there))

    mine_after : own_sources i after ≡ own_sources i m ++ (r ∷ [])
    mine_after = get_or-set_same m.sources i (own_sources i m ++ (r ∷ [])) [] (omega (arith, k.long, b.row))

    longer : length (own_sources i after) ≡ suc (length (own_sources i m))
    longer = ap length mine_after ∙ length-append (own_sources i m) (r ∷ []) ∙ omega arith

    each : (j : ℕ) → (length (own_sources j after) ≤ get_or counts j 0) × (length (own_sources j after) ≤ suc m.used)
    each j = elim (true_or_false (eqb j i)) [ inl t ↦ same t | inr t ↦ other t ]
      where
        same : eqb j i ≡ true → (length (own_sources j after) ≤ get_or counts j 0) × (length (own_sources j after) ≤ suc m.used)
        same t = let e = eqb-true j i t in rw e (omega (arith, longer, fit), omega (arith, longer, k.few i))

        other : eqb j i ≡ false → (length (own_sources j after) ≤ get_or counts j 0) × (length (own_sources j after) ≤ suc m.used)
        other t = let e = get_or-set_other m.sources i j (own_sources i m ++ (r ∷ [])) [] (eqb-false j i t) in
            (omega (arith, ap length e, k.fits j), omega (arith, ap length e, k.few j))

    kept : Keeping counts w.room s₀ f₀ i after (placed w.room (first + now.own) (source_numbers r) s) (placed w.room (first + now.own) (source_floats r) f) (now.own + 1) (now.used + 1)
    kept =
        record {
          numbers = held source_numbers s s₀ k.numbers;
          floats = held source_floats f f₀ k.floats;
          mine = omega (arith, longer, k.mine);
          all = omega (arith, k.all);
          long = length-set m.sources i (own_sources i m ++ (r ∷ [])) ∙ k.long;
          fits = λ j. (each j).0;
          few = λ j. (each j).1;
          inside = omega (arith, free, k.all);
        }

    -- one more
    pub noted : w.recording ≡ true
        → {s' : List (List ℕ)} {f' : List (List Float)} → s' ≡ placed w.room (first + now.own) (source_numbers r) s → f' ≡ placed w.room (first + now.own) (source_floats r) f
        → NotedAs counts w.room s₀ f₀ i (note w i row r m) (Ok (record { own = now.own + 1; used = now.used + 1 })) s' f'
    noted e p q = rw (note_on w i row r m e (lt-ltb m.used w.room (omega (arith, free, k.all))), p, q) kept
