-- While a listing is judged the columns are ready for one row's calculation, and its answer is the row's value over the listing.
use Rattle.std.specs.Prelude.{Result, Ok, Err}
use Prim.Native.Nat.{ℕ, zero, suc, ◌<◌, zero-le}
use native.Mathlib.Decide.{ℕ_discrete}
use native.Mathlib.Omega.{arith}
use mathlib.Core.Path.{◌≡◌, refl, sym, ap, subst, ◌∙◌}
use mathlib.Core.Bool.{false}
use mathlib.Core.List.{List, [], ◌∷◌, map}
use mathlib.Core.Option.{Option, none, some}
use lib.Ieee.{Float, nan, eq, binary64, of_bits}
use lib.ListN.{length, get_or, set, length-set}
use lib.Seq.{get_or-set_same, get_or-set_other}
use Rattle.rules.specs.declared.Refusal.{Refusal}
use Rattle.rules.specs.Answer.{Res, ok, refused}
use Rattle.rules.specs.Value.{Mem, Read, value_of}
use Rattle.rules.specs.Fresh.{unrecorded}
use Rattle.sources.proofs.Planning.{some_none}
use Rattle.memory.specs.Memory.{value_column, AllFinite}
use Rattle.memory.specs.Steps.{row_at}
use Rattle.memory.specs.Holding.{Tables, Tells, Holds, Ready}
use Rattle.memory.specs.Answers.{Returns}
use Rattle.memory.specs.declared.apply.Got.{Got}
use Rattle.memory.proofs.Holdings.{met, missed}
use Rattle.memory.proofs.Nanned.{shown_length as shown-long}
use Rattle.memory.proofs.Readings.{its_row, starting}
use Rattle.reading.specs.Bare.{Bare}
use Rattle.values.proofs.Settling.{settled_meets}
use Rattle.values.proofs.PreparedBlankLaws.{own_none, held-at-first}
use Rattle.given.specs.Judging.{off, Judged, calculated_from, GotIs, RestoredAs}
use Rattle.given.proofs.Beside.{own_calculation, taken_out, both, neither, put_back}

-- the bits of `f64::NAN`
pub nan_bits : of_bits binary64 9221120237041090560 ≡ nan
unfolding of_bits
nan_bits = refl

-- a value taken out, in the column
set_none : (vs : List (Option Float)) (i : ℕ) → set (value_column vs) i nan ≡ value_column (set vs i none)
set_none [] i = refl
set_none (o ∷ vs) zero = refl
set_none (some x ∷ vs) (suc i) = ap (λ (l : List Float). x ∷ l) (set_none vs i)
set_none (none ∷ vs) (suc i) = ap (λ (l : List Float). nan ∷ l) (set_none vs i)

none_finite : (vs : List (Option Float)) (i : ℕ) → AllFinite vs → AllFinite (set vs i none)
none_finite vs i f j x e = elim (ℕ_discrete j i) [
  | yes p ↦ absurd (at_none vs i (subst (λ (n : ℕ). get_or (set vs i none) n none ≡ some x) p e))
  | no p ↦ f j x (sym (get_or-set_other vs i j none none p) ∙ e)
]
  where
    at_none : (us : List (Option Float)) (k : ℕ) → get_or (set us k none) k none ≡ some x → ⊥
    at_none [] k q = absurd (some_none (sym q))
    at_none (o ∷ us) zero q = absurd (some_none (sym q))
    at_none (o ∷ us) (suc k) q = at_none us k q

module _ {t : Tables} {v : List Float} (h : Judged t v) (i : ℕ) (inside : i < length t.rows) where
  pub within : i < length h.world.rows
  within = omega (arith, inside, h.told.held.long)

  pub column_inside : i < length v
  column_inside = omega (arith, within, h.long, ap length h.column ∙ shown-long h.values)

  inside_values : i < length h.values
  inside_values = omega (arith, within, h.long)

  abbrev pub mem : Mem
  mem = record { values = set h.values i none; sources = map (λ r. []) h.world.rows; used = 0 }

  module _ (x : Float) (s : List (List ℕ)) (f : List (List Float)) (x-nan : x ≡ nan) where
    pub told_any : Tells (unrecorded h.world) s f t off
    told_any =
        record {
          sound = h.told.sound;
          records = h.told.records;
          recorded = h.told.recorded;
          roomy = (zero-le, zero-le);
          held = h.told.held;
          stretched = h.told.stretched;
          limited = h.told.limited;
          even = h.told.even;
          row = λ j l. h.told.row j l;
          running = h.told.running;
        }

    pub holds : Holds (unrecorded h.world) s f mem (set v i x) s f 0
    holds =
        record {
          values = rw (x-nan, h.column) (set_none h.values i);
          long = length-set h.values i none ∙ h.long;
          numbers = none_finite h.values i h.numbers;
          sources = λ j. let k = (held-at-first (unrecorded h.world) s f).sources j in
              record { numbers = k.numbers; floats = k.floats; mine = k.mine; all = k.all; long = k.long; fits = k.fits; few = k.few; inside = k.inside };
          clean = λ j e. own_none h.world.rows j;
        }

    abbrev pub ready : Ready t off (set v i x) s f 0
    ready = record { world = unrecorded h.world; mem = mem; sources₀ = s; floats₀ = f; told = told_any; holds = holds }

    -- what is asked is the row's own calculation
    asked : value_of (unrecorded h.world) 1 (row_at h.world i).object (row_at h.world i).id mem ≡ own_calculation h.world h.values h.free i inside_values (its_row h.told.held i within) mem
    asked = starting (unrecorded h.world) (row_at h.world i).object (row_at h.world i).id mem (its_row h.told.held i within) 0 (none_at h.values i)
      where
        none_at : (us : List (Option Float)) (k : ℕ) → get_or (set us k none) k none ≡ none
        none_at [] k = refl
        none_at (o ∷ us) zero = refl
        none_at (o ∷ us) (suc k) = none_at us k

    module _ (v' : List Float) (s' : List (List ℕ)) (f' : List (List Float)) where
      abbrev Answers : Result Got Refusal → Type 0
      Answers r = Returns (unrecorded h.world) s f (value_of (unrecorded h.world) 1 (row_at h.world i).object (row_at h.world i).id mem) r v' s' f'

      pub is-given : (r : Result Got Refusal) → Answers r → GotIs (calculated_from h.world h.values i) r
      is-given (Ok g) k =
          let q = met (unrecorded h.world) s f v' s' f' _ g.value g.used k in
          let b = both h.world h.values h.free i inside_values (its_row h.told.held i within) mem (taken_out h.world h.values h.free i inside_values (its_row h.told.held i within)) q.read (sym asked ∙ q.is) in
          subst (λ (x : Res Read). GotIs x (Ok g)) (sym b.is) (q.value ∙ b.value, q.number)
      is-given (Err z) k = by (calculated_from h.world h.values i) refl
        where
          by : (x : Res Read) → calculated_from h.world h.values i ≡ x → GotIs x (Err z)
          by (refused y) e = tt
          by (ok q) e =
              neither h.world h.values h.free i inside_values (its_row h.told.held i within) mem (taken_out h.world h.values h.free i inside_values (its_row h.told.held i within)) z
              (sym asked ∙ missed (unrecorded h.world) s f v' s' f' _ z k) q e

      -- the listed value put back
      pub is_kept : (r : Result Got Refusal) → Answers r → RestoredAs r v (set v' i (get_or v i nan))
      is_kept (Err z) k = tt
      is_kept (Ok g) k =
          let q = met (unrecorded h.world) s f v' s' f' _ g.value g.used k in
          let b = both h.world h.values h.free i inside_values (its_row h.told.held i within) mem (taken_out h.world h.values h.free i inside_values (its_row h.told.held i within)) q.read (sym asked ∙ q.is) in
          ap (λ (l : List Float). set l i (get_or v i nan)) q.holds.values ∙ ap (λ (l : List Float). set (value_column q.read.mem.values) i (get_or l i nan)) h.column
          ∙ put_back h.world h.values h.free i inside_values (its_row h.told.held i within) q.read.mem.values b.rest ∙ sym h.column

  -- nothing is asked of a row that nothing touches: its value is its base
  pub base_given : Bare t.rows t.limits i → GotIs (calculated_from h.world h.values i) (Ok (record { value = get_or t.bases i nan; used = 0 }))
  unfolding eq
  base_given u =
      let none_there : eq (get_or (set v i nan) i nan) (get_or (set v i nan) i nan) ≡ false = ap (λ (x : Float). eq x x) (get_or-set_same v i nan nan column_inside) in
      is-given nan [] [] refl (set (set v i nan) i (get_or t.bases i nan)) [] [] (Ok (record { value = get_or t.bases i nan; used = 0 }))
      (settled_meets (ready nan [] [] refl) i inside none_there 1 (record { empty = u.empty; free = u.free; deep = λ z. absurd (omega (arith, z)) }))
