-- Before the first value the columns hold the memory in which nothing is valued.
use Prim.Native.Nat.{ℕ, zero, suc, ◌≤◌, zero-le}
use native.Mathlib.Omega.{arith}
use mathlib.Core.Path.{◌≡◌, refl, sym, ap, ◌∙◌}
use mathlib.Core.List.{List, [], ◌∷◌, map}
use mathlib.Core.Option.{Option, none, some}
use lib.Ieee.{Float, nan}
use lib.ListN.{length, get_or, take, replicate, length-map}
use Rattle.rules.specs.Dispatch.{Row}
use Rattle.rules.specs.Columns.{source_numbers, source_floats}
use Rattle.rules.specs.Outcome.{blank}
use Rattle.rules.specs.Value.{World, own_sources}
use Rattle.rules.specs.declared.Source.{Source}
use Rattle.sources.specs.Shown.{filled, places, overlaid, shown}
use Rattle.sources.specs.Planned.{counts_of}
use Rattle.memory.specs.Memory.{value_column}
use Rattle.memory.specs.Holding.{Holds}
use Rattle.values.specs.SoundRows.{AllAre}
use Rattle.values.proofs.All.{all_append, all_take}

-- ---- no source rows

module _ (A : Type 0) where
  abbrev Missing : Option A → Type 0
  Missing o = o ≡ none

  filled_none : (n : ℕ) → AllAre Missing (filled {A = A} n [])
  filled_none zero = tt
  filled_none (suc n) = (refl, filled_none n)

  places_none : (ns : List ℕ) (rs : List Row) → AllAre Missing (places {A = A} ns (map (λ r. []) rs))
  places_none [] rs = tt
  places_none (n ∷ ns) [] = all_append Missing (filled n []) (places ns []) (filled_none n) (places_none ns [])
  places_none (n ∷ ns) (r ∷ rs) = all_append Missing (filled n []) (places ns (map (λ x. []) rs)) (filled_none n) (places_none ns rs)

  module _ {B : Type 0} (enc : A → B) where
    overlaid_none : (l : List (Option A)) (c : List B) → AllAre Missing l → overlaid enc l c ≡ c
    overlaid_none [] c a = refl
    overlaid_none (x ∷ l) [] a = refl
    overlaid_none (none ∷ l) (b ∷ c) a = ap (λ (r : List B). b ∷ r) (overlaid_none l c a.1)
    overlaid_none (some s ∷ l) (b ∷ c) a = let z : ◌≡◌ {A = Option A} (some s) none = a.0 in (cc)

    pub shown_none : (room : ℕ) (counts : List ℕ) (rs : List Row) (c : List B) → shown enc room counts (map (λ r. []) rs) c ≡ c
    unfolding shown
    shown_none room counts rs c = overlaid_none (take room (places counts (map (λ r. []) rs))) c (all_take Missing room (places counts (map (λ r. []) rs)) (places_none counts rs))

-- ---- no values

values_none : (rs : List Row) (i : ℕ) → get_or (map {B = Option Float} (λ r. none) rs) i none ≡ none
values_none [] i = refl
values_none (r ∷ rs) zero = refl
values_none (r ∷ rs) (suc i) = values_none rs i

pub own_none : (rs : List Row) (i : ℕ) → own_sources i (blank rs) ≡ []
own_none [] i = refl
own_none (r ∷ rs) zero = refl
own_none (r ∷ rs) (suc i) = own_none rs i

column_none : (rs : List Row) → replicate (length rs) nan ≡ value_column (map (λ r. none) rs)
column_none [] = refl
column_none (r ∷ rs) = ap (λ (l : List Float). nan ∷ l) (column_none rs)

module _ (w : World) (s₀ : List (List ℕ)) (f₀ : List (List Float)) where
  none_own : (i n : ℕ) → length (own_sources i (blank w.rows)) ≤ n
  none_own i n = rw (own_none w.rows i) (zero-le)

  counted : length (map {B = List Source} (λ r. []) w.rows) ≡ length (counts_of w)
  unfolding counts_of
  counted = length-map w.rows _ ∙ sym (length-map w.rows _)

  pub held-at-first : Holds w s₀ f₀ (blank w.rows) (replicate (length w.rows) nan) s₀ f₀ 0
  held-at-first =
      record {
        values = column_none w.rows;
        long = length-map w.rows (λ r. none);
        numbers = λ j x e. let y = values_none w.rows j in let z : ◌≡◌ {A = ℕ} 0 1 = cc in absurd (omega arith);
        sources = λ i. record {
          numbers = sym (shown_none Source source_numbers w.room (counts_of w) w.rows s₀);
          floats = sym (shown_none Source source_floats w.room (counts_of w) w.rows f₀);
          mine = refl;
          all = refl;
          long = counted;
          fits = λ j. none_own j (get_or (counts_of w) j 0);
          few = λ j. none_own j 0;
          inside = zero-le;
        };
        clean = λ i e. own_none w.rows i;
      }
