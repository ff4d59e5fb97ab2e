-- Where the states column agrees with the world, the counts are those of the calculation; and what dispatch leaves in the columns is what is asked.
use Prim.Native.Nat.{ℕ, ◌+◌, ◌≤◌, ◌<◌}
use native.Mathlib.Omega.{arith}
use mathlib.Core.Path.{◌≡◌, refl, sym, ap, subst, ◌∙◌}
use mathlib.Core.Bool.{Bool, true, false, cond}
use mathlib.Core.List.{List, [], ◌∷◌, ◌++◌, map}
use lib.Ieee.{Float, nan}
use lib.ListN.{length, get_or, take, drop, length-map, length-append, get_or-append}
use lib.Seq.{get_or-append-add, take_at}
use Rattle.laws.specs.Columns.{Col}
use Rattle.laws.specs.Lists.{total}
use Rattle.laws.proofs.Laid.{col_row}
use Rattle.laws.proofs.Maps.{map_itself}
use Rattle.rules.specs.Dispatch.{Row}
use Rattle.rules.specs.Item.{runs_at}
use Rattle.rules.specs.Columns.{rows_numbers, entry_numbers, origin_value}
use Rattle.rules.specs.Value.{World, state_of}
use Rattle.rules.specs.declared.Effect.{Effect}
use Rattle.rules.specs.declared.Origin.{Origin}
use Rattle.rules.specs.declared.Origin.TheVariants as origin
use Rattle.rules.specs.declared.Source.{Source}
use Rattle.info.specs.Stands.{NarrowOrigin, NarrowId}
use Rattle.reading.specs.Held.{Sourced, is_running}
use Rattle.sources.specs.Planned.{runs_in, planned_if, planned_of, counts_of}
use Rattle.sources.specs.Ranged.{EntriesHeld, planned_by}
use Rattle.sources.specs.Rows.{counts_by, planned_numbers, entries_of, DispatchedRows}
use Rattle.sources.proofs.Numbers.{planned_long, planned_whole, unplanned, dispatched_long}

-- each of the entries has its source among 1,024 objects
abbrev pub AllSourced : List Effect → Type 0
AllSourced es = (i : ℕ) (d : Effect) → i < length es → Sourced (get_or es i d).origin

module _ (es fs : List Effect) (h : AllSourced (es ++ fs)) where
  front : AllSourced es
  front i d l = subst (λ (x : Effect). Sourced x.origin) (get_or-append es fs d i l) (h i d (rw (length-append es fs) (omega (arith, l))))

  rest : AllSourced fs
  rest i d l = subst (λ (x : Effect). Sourced x.origin) (get_or-append-add es fs i d) (h (length es + i) d (rw (length-append es fs) (omega (arith, l))))

-- ---- the counts by the column are those by the world

module _ (w : World) (states : List (List ℕ)) (agree : (o : ℕ) → o < 1024 → get_or (get_or states o []) 0 0 ≡ state_of w o) where
  runs_agree : (g : Origin) → Sourced g → is_running states g ≡ runs_in w g
  runs_agree (origin.Effect e o c a) h = ap (runs_at c) (agree o h)
  runs_agree (origin.Buff b v) h = refl

  entries_agree : (es : List Effect) → AllSourced es → total (map (planned_by states) es) ≡ total (map (planned_of w) es)
  entries_agree [] h = refl
  entries_agree (e ∷ es) h =
      let one : planned_by states e ≡ planned_of w e = ap (λ (r : Bool). planned_if r e) (runs_agree e.origin (h 0 e (omega arith))) in
      let more : total (map (planned_by states) es) ≡ total (map (planned_of w) es) = entries_agree es (rest (e ∷ []) es h) in
      ap (λ (n : ℕ). n + total (map (planned_by states) es)) one ∙ ap (λ (n : ℕ). planned_of w e + n) more

  rows_agree : (rs : List Row) → AllSourced (entries_of rs) → counts_by states rs ≡ map (λ (r : Row). total (map (planned_of w) r.entries)) rs
  rows_agree [] h = refl
  rows_agree (r ∷ rs) h = rw (entries_agree r.entries (front r.entries (entries_of rs) h), rows_agree rs (rest r.entries (entries_of rs) h)) refl

  pub counts_agree : AllSourced (entries_of w.rows) → w.recording ≡ true → counts_by states w.rows ≡ counts_of w
  unfolding counts_of
  counts_agree h t = rows_agree w.rows h ∙ sym (ap (λ (b : Bool). map (λ (r : Row). cond b (total (map (planned_of w) r.entries)) 0) w.rows) t)

-- where source rows are not recorded each count is 0, and the rows stay as dispatched
pub counts-off : (w : World) → w.recording ≡ false → counts_of w ≡ map (λ (r : Row). 0) w.rows
unfolding counts_of
counts-off w t = ap (λ (b : Bool). map (λ (r : Row). cond b (total (map (planned_of w) r.entries)) 0) w.rows) t

pub unplanned_counts : (w : World) → w.recording ≡ false → rows_numbers 0 0 w.rows [] ≡ planned_numbers 0 0 w.rows (counts_of w)
unplanned_counts w t = unplanned w.rows 0 0 ∙ sym (planned_whole w.rows (map (λ r. []) w.rows) (counts_of w) (lengths_none w.rows ∙ sym (counts-off w t)) (rw (counts-off w t) (total_none w.rows)))
  where
    lengths_none : (rs : List Row) → map length (map {B = List Source} (λ r. []) rs) ≡ map (λ (r : Row). 0) rs
    lengths_none [] = refl
    lengths_none (r ∷ rs) = ap (λ (l : List ℕ). 0 ∷ l) (lengths_none rs)

    total_none : (rs : List Row) → total (map (λ (r : Row). 0) rs) ≤ 4294967295
    total_none [] = omega arith
    total_none (r ∷ rs) = omega (arith, total_none rs)

-- ---- from the columns that dispatch laid

module _ (es : List Effect) {e₀ e : List (List ℕ)} {v₀ v : List Float} where
  pub laid-held : Col entry_numbers es e₀ e → Col (λ x. origin_value x.origin) es v₀ v → ((i : ℕ) (d : Effect) → i < length es → NarrowOrigin (get_or es i d).origin × NarrowId (get_or es i d).resistance)
      → AllSourced es → EntriesHeld es e v
  laid-held E F narrow s =
      record {
        long = omega (arith, ap length E.is ∙ length-append (map entry_numbers es) (drop (length es) e₀), length-map es entry_numbers);
        wide = omega (arith, ap length F.is ∙ length-append (map (λ (x : Effect). origin_value x.origin) es) (drop (length es) v₀), length-map es (λ (x : Effect). origin_value x.origin));
        each = λ i d h. record {
          numbers = col_row entry_numbers es E i d [] h;
          value = col_row (λ x. origin_value x.origin) es F i d nan h;
          origin = (narrow i d h).0;
          resistance = (narrow i d h).1;
        };
        sourced = s;
      }

pub laid_dispatched : (rs : List Row) (n : ℕ) {r₀ r e : List (List ℕ)} {v : List Float} → n ≡ length rs → Col (λ x. x) (rows_numbers 0 0 rs []) r₀ r → EntriesHeld (entries_of rs) e v
    → DispatchedRows rs n r e v
laid_dispatched rs n {r₀} k R E =
    record {
      count = k;
      numbers =
          ap (take n) (R.is ∙ ap (λ (l : List (List ℕ)). l ++ drop (length (rows_numbers 0 0 rs [])) r₀) (map_itself (rows_numbers 0 0 rs [])))
          ∙ take_at (rows_numbers 0 0 rs []) (drop (length (rows_numbers 0 0 rs [])) r₀) n (dispatched_long rs ∙ sym k);
      entries = E;
    }

-- the first n rows of what is planned
pub planned_front : (rs : List Row) (ns : List ℕ) (n : ℕ) (r₀ : List (List ℕ)) → n ≡ length rs → take n (planned_numbers 0 0 rs ns ++ drop n r₀) ≡ planned_numbers 0 0 rs ns
planned_front rs ns n r₀ k = take_at (planned_numbers 0 0 rs ns) (drop n r₀) n (planned_long rs ns 0 0 ∙ sym k)
