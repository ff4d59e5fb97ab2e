-- Once every row has a value and its source rows, the columns hold what the memory has.
use Prim.Native.Nat.{ℕ, suc, ◌≤◌, ◌<◌}
use native.Mathlib.Omega.{arith}
use mathlib.Core.Path.{◌≡◌, refl, sym, ap, ◌∙◌}
use mathlib.Core.List.{List, [], ◌∷◌, map}
use mathlib.Core.Logic.{inl, inr}
use mathlib.Core.Option
use mathlib.Core.Option.{Option, none, some}
use borrow.Author.Tests.{ltb-true, ltb-false}
use lib.Dec.{ltb}
use lib.Ieee.{Float, nan}
use lib.ListN.{length, get_or, get_or-eq_default}
use Rattle.laws.specs.Floats.{zero_f}
use Rattle.laws.proofs.Bools.{true_or_false}
use Rattle.laws.specs.Lists.{total}
use Rattle.laws.proofs.Flat.{flat-length}
use Rattle.rules.specs.Answer.{ok}
use Rattle.rules.specs.Columns.{source_numbers, source_floats}
use Rattle.rules.specs.Outcome.{valued, blank}
use Rattle.rules.specs.Value.{World, Mem, own_sources}
use Rattle.rules.specs.declared.Ask.{Ask}
use Rattle.rules.specs.declared.Source.{Source}
use Rattle.reading.specs.Held.{RowsHeld}
use Rattle.sources.specs.Planned.{counts_of}
use Rattle.sources.proofs.Planning.{counts_long}
use Rattle.sources.proofs.Numbers.{planned_whole}
use Rattle.memory.specs.Holding.{Holds}
use Rattle.values.specs.Complete.{AllValued, Complete, UsedTotal, AllAsked, Ended}
use Rattle.values.proofs.Starts.{all-valued}
use Rattle.values.proofs.Completes.{blank-whole, complete_all}
use Rattle.values.proofs.Counted.{total-all}
use Rattle.values.proofs.Shows.{lengths_are, shown_column}

-- where each has a value it matters not what stands for none
record Some (o : Option Float) : Type 0 where
  value : Float
  is : o ≡ some value

values_are : (vs : List (Option Float)) → ((i : ℕ) → i < length vs → Some (get_or vs i none)) → map (λ (o : Option Float). Option.get_or o nan) vs ≡ map (λ (o : Option Float). Option.get_or o zero_f) vs
values_are [] h = refl
values_are (o ∷ vs) h = by o (h 0 (omega arith)) (values_are vs (λ i l. h (suc i) (omega (arith, l))))
  where
    by : (x : Option Float) → Some x → map (λ (o : Option Float). Option.get_or o nan) vs ≡ map (λ (o : Option Float). Option.get_or o zero_f) vs
        → map (λ (o : Option Float). Option.get_or o nan) (x ∷ vs) ≡ map (λ (o : Option Float). Option.get_or o zero_f) (x ∷ vs)
    by none s e = let z : ◌≡◌ {A = ℕ} 0 1 = let p = s.is in cc in absurd (omega arith)
    by (some y) s e = ap (λ (l : List Float). y ∷ l) e

module _ {w : World} {s₀ : List (List ℕ)} {f₀ : List (List Float)} {m : Mem} {v : List Float} {s : List (List ℕ)} {f : List (List Float)} {used : ℕ}
    (holds : Holds w s₀ f₀ m v s f used) (all : AllValued w m) (complete : Complete w m) where
  long : length m.sources ≡ length (counts_of w)
  long = (holds.sources 0).long

  -- each row has as many source rows as are planned, and past the rows there is none
  each : (i : ℕ) → length (own_sources i m) ≡ get_or (counts_of w) i 0
  each i = elim (true_or_false (ltb i (length w.rows))) [ inl t ↦ row (ltb-true i (length w.rows) t) | inr t ↦ past (ltb-false i (length w.rows) t) ]
    where
      row : i < length w.rows → length (own_sources i m) ≡ get_or (counts_of w) i 0
      row h = let x = all i h in complete i x.value x.is

      past : length w.rows ≤ i → length (own_sources i m) ≡ get_or (counts_of w) i 0
      past h =
          ap length (get_or-eq_default m.sources [] (omega (arith, h, long, counts_long w)))
          ∙ sym (get_or-eq_default (counts_of w) 0 (omega (arith, h, counts_long w)))

  -- as many as are planned are used
  counted : UsedTotal m → total (counts_of w) ≡ m.used
  counted u = ap total (sym (lengths_are m.sources (counts_of w) long each)) ∙ sym u

  pub ended : UsedTotal m → w.room ≤ 4294967295 → w.room ≤ length s₀ → w.room ≤ length f₀ → Ended w s₀ f₀ m v s f used
  ended u small r₁ r₂ =
      let k = holds.sources 0 in
      let few : total (counts_of w) ≤ w.room = omega (arith, counted u, k.inside) in
      record {
        values = holds.values ∙ values_are m.values (λ i h. let x = all i (omega (arith, h, holds.long)) in record { value = x.value; is = x.is });
        numbers = shown_column source_numbers w.room (counts_of w) m.sources s₀ long each few r₁ k.numbers;
        floats = shown_column source_floats w.room (counts_of w) m.sources f₀ long each few r₂ k.floats;
        count = k.all ∙ u ∙ sym (flat-length (λ (x : List Source). x) m.sources);
        rows = planned_whole w.rows m.sources (counts_of w) (lengths_are m.sources (counts_of w) long each) (omega (arith, few, small));
      }

-- the starts went well from a blank memory, and they are all rows
pub all-ended : {w : World} {c : List (List ℕ)} → RowsHeld w.rows c → (d : ℕ) (starts : List Ask) {s₀ : List (List ℕ)} {f₀ : List (List Float)} {m : Mem} {v : List Float} {s : List (List ℕ)} {f : List (List Float)} {used : ℕ}
    → valued w d starts (blank w.rows) ≡ ok m → AllAsked w starts → Holds w s₀ f₀ m v s f used → w.room ≤ 4294967295 → w.room ≤ length s₀ → w.room ≤ length f₀ → Ended w s₀ f₀ m v s f used
all-ended {w} H d starts {m = m} e asked holds =
    ended holds (all-valued w H d starts (blank w.rows) m e (blank-whole w).long.values asked) (complete_all w d starts m e) (total-all w d starts m e)
