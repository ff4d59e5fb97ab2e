-- A row's value: it is there, or no depth is left, or its calculation starts and ends; and an attribute that has no row.
use Rattle.std.specs.Prelude.{Ok, Err}
use Prim.Native.Nat.{ℕ, zero, suc, ◌+◌, ◌*◌, ◌-◌, ◌≤◌, ◌<◌}
use native.Mathlib.Omega.{arith}
use mathlib.Core.Path.{◌≡◌, refl, sym, ap, ap₂, subst, ◌∙◌}
use mathlib.Core.Bool.{Bool, true, false, cond}
use mathlib.Core.List.{List, [], map}
use mathlib.Core.Option.{Option, none, some}
use lib.Dec.{T}
use lib.Ieee.{Float, nan, eq}
use lib.IntN.{ℤ}
use lib.ListN.{length, get_or, set}
use lib.Seq.{get_or-set_same}
use Rattle.laws.specs.Floats.{finite, nans}
use Rattle.laws.specs.Lists.{total}
use Rattle.laws.proofs.Maps.{map_at}
use Rattle.rules.specs.Answer.{Res, ok, refused, ◌>>=◌}
use Rattle.rules.specs.Codes.{operators}
use Rattle.rules.specs.Dispatch.{Row}
use Rattle.rules.specs.Info.{get_dogma_attribute}
use Rattle.rules.specs.Value.{World, Mem, Read, Found, find_row, own_sources, set_value, calculate, value_of}
use Rattle.rules.specs.declared.Refusal.{Refusal}
use Rattle.rules.specs.declared.Refusal.TheVariants.{Depth}
use Rattle.reading.specs.Held.{index_of, no_row}
use Rattle.sources.specs.declared.Recording.{Recording}
use Rattle.sources.specs.Planned.{counts_of, planned_of}
use Rattle.sources.proofs.Planning.{planned_all}
use Rattle.memory.specs.Memory.{value_at, value_column}
use Rattle.memory.specs.Steps.{row_at, evaluation}
use Rattle.memory.specs.Holding.{Tables, Tells, Holds, Ready, Busy}
use Rattle.memory.proofs.Nanned.{valued, unvalued, nans-start, set_shown}
use Rattle.memory.proofs.Readings.{absent, known, deep, starting, its_row, at_row, nowhere, calculate_evaluation}
use Rattle.memory.specs.Answers.{Returns}
use Rattle.memory.specs.declared.apply.Got.{Got}
use Rattle.memory.proofs.Holdings.{set_holds, ready_on, Met, met, missed, meets-value, meets-refused, meets_same}

-- how many source rows are planned for row i
pub counts-at : (w : World) (i : ℕ) → i < length w.rows → w.recording ≡ true → get_or (counts_of w) i 0 ≡ total (map (planned_of w) (row_at w i).entries)
unfolding counts_of
counts-at w i t on = map_at (λ (r : Row). cond w.recording (total (map (planned_of w) r.entries)) 0) w.rows i no_row 0 t ∙ ap (λ (b : Bool). cond b (total (map (planned_of w) (row_at w i).entries)) 0) on

module _ {t : Tables} {run : Recording} {v : List Float} {s : List (List ℕ)} {f : List (List Float)} {used : ℕ} (h : Ready t run v s f used) (i : ℕ) (inside : i < length t.rows) where
  pub within : i < length h.world.rows
  within = omega (arith, inside, h.told.held.long)

  -- the value in the column
  abbrev here : Float
  here = get_or v i nan

  shown : here ≡ get_or (value_column h.mem.values) i nan
  shown = ap (λ (l : List Float). get_or l i nan) h.holds.values

  its_row_here : find_row (row_at h.world i).object (row_at h.world i).id 0 h.world.rows ≡ some (record { index = i; row = row_at h.world i })
  its_row_here = its_row h.told.held i within

  is-valued : eq here here ≡ true → value_at h.mem i ≡ some here
  is-valued e = valued h.mem.values i (sym (ap (λ (x : Float). eq x x) shown) ∙ e) ∙ ap some (sym shown)

  pub is_unvalued : eq here here ≡ false → value_at h.mem i ≡ none
  is_unvalued e = unvalued h.mem.values i h.holds.numbers (sym (ap (λ (x : Float). eq x x) shown) ∙ e)

  pub known_row : (left : ℕ) → eq here here ≡ true
      → Returns h.world h.sources₀ h.floats₀ (value_of h.world left (row_at h.world i).object (row_at h.world i).id h.mem) (Ok (record { value = here; used = used })) v s f
  known_row left e =
      let has = is-valued e in
      meets-value h.world h.sources₀ h.floats₀ v s f _ (record { value = here; mem = h.mem }) (known h.world _ _ h.mem its_row_here left has) refl (h.holds.numbers i here has) h.holds

  pub deep_row : (left : ℕ) {object : ℕ} → left ≡ 0 → object ≡ get_or (get_or t.rows i []) 0 0 → eq here here ≡ false
      → Returns h.world h.sources₀ h.floats₀ (value_of h.world left (row_at h.world i).object (row_at h.world i).id h.mem) (Err (Depth object)) v s f
  deep_row left {object} z o e =
      meets-refused h.world h.sources₀ h.floats₀ v s f _
      (ap (λ (d : ℕ). value_of h.world d (row_at h.world i).object (row_at h.world i).id h.mem) z ∙ deep h.world _ _ h.mem its_row_here (is_unvalued e)
      ∙ ap (λ (n : ℕ). refused (Depth n)) (sym (o ∙ h.told.held.object i within)))

  -- its calculation starts: it reads as its base
  abbrev base : Float
  base = get_or t.bases i nan

  base_good : T (finite base)
  base_good = subst (λ (x : Float). T (finite x)) (sym (h.told.row i within).base) (h.told.row i within).number

  pub starts_holds : Holds h.world h.sources₀ h.floats₀ (set_value i (row_at h.world i).base h.mem) (set v i base) s f used
  starts_holds =
      subst (λ (x : Float). Holds h.world h.sources₀ h.floats₀ (set_value i x h.mem) (set v i base) s f used) (h.told.row i within).base
      (set_holds h.holds i base within base_good)

  module _ (e : eq here here ≡ false) where
    pub none_yet : own_sources i h.mem ≡ []
    none_yet = h.holds.clean i (is_unvalued e)

    abbrev pub starts : Busy t run (set v i base) s f used i 0 operators
    starts =
        record {
          ready = ready_on h (set_value i (row_at h.world i).base h.mem) starts_holds;
          within = within;
          begun = get_or-set_same h.mem.values i (some (row_at h.world i).base) none (omega (arith, within, h.holds.long));
          mine = sym (ap length none_yet);
          enough = λ on. omega (arith, planned_all h.world (row_at h.world i).entries, counts-at h.world i within on);
        }

    pub fewer : nans (set v i base) < nans v
    fewer =
        rw (h.holds.values, sym (set_shown h.mem.values i base)) (nans-start h.mem.values i base (is_unvalued e) (omega (arith, within, h.holds.long)) base_good)

    -- and ends
    module _ (left : ℕ) (some_left : left ≡ 0 → ⊥) (v' : List Float) (s' : List (List ℕ)) (f' : List (List Float)) where
      abbrev asked : Res Read
      asked = value_of h.world left (row_at h.world i).object (row_at h.world i).id h.mem

      abbrev evaluating : Res Read
      evaluating = evaluation h.world (value_of h.world (left - 1)) i (row_at h.world i) (set_value i (row_at h.world i).base h.mem)

      one_more : left ≡ suc (left - 1)
      one_more = by left some_left
        where
          by : (n : ℕ) → (n ≡ 0 → ⊥) → n ≡ suc (n - 1)
          by zero z = absurd (z refl)
          by (suc n) z = omega arith

      asked_is : asked ≡ (evaluating >>= λ c. ok (record { value = c.value; mem = set_value i c.value c.mem }))
      asked_is =
          ap (λ (d : ℕ). value_of h.world d (row_at h.world i).object (row_at h.world i).id h.mem) one_more
          ∙ starting h.world _ _ h.mem its_row_here (left - 1) (is_unvalued e)
          ∙ calculate_evaluation h.world (value_of h.world (left - 1)) i (row_at h.world i) h.mem

      pub ends : (x : Float) (more : ℕ) → Returns h.world h.sources₀ h.floats₀ evaluating (Ok (record { value = x; used = more })) v' s' f' → Returns h.world h.sources₀ h.floats₀ asked (Ok (record { value = x; used = more })) (set v' i x) s' f'
      ends x more k =
          let q = met h.world h.sources₀ h.floats₀ v' s' f' evaluating x more k in
          meets-value h.world h.sources₀ h.floats₀ (set v' i x) s' f' asked (record { value = q.read.value; mem = set_value i q.read.value q.read.mem })
          (asked_is ∙ ap (λ (r : Res Read). r >>= λ c. ok (record { value = c.value; mem = set_value i c.value c.mem })) q.is) q.value q.number
          (subst (λ (y : Float). Holds h.world h.sources₀ h.floats₀ (set_value i y q.read.mem) (set v' i x) s' f' more) q.value (set_holds q.holds i x within q.number))

      pub ends_refused : (z : Refusal) → Returns h.world h.sources₀ h.floats₀ evaluating (Err z) v' s' f' → Returns h.world h.sources₀ h.floats₀ asked (Err z) v' s' f'
      ends_refused z k =
          meets-refused h.world h.sources₀ h.floats₀ v' s' f' asked
          (asked_is ∙ ap (λ (r : Res Read). r >>= λ c. ok (record { value = c.value; mem = set_value i c.value c.mem })) (missed h.world h.sources₀ h.floats₀ v' s' f' evaluating z k))
