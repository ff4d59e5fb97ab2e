-- The slots of a row: how many there are, what stands in each, and that they hold just what the row needs.
use Rattle.std.specs.Prelude.{None, Some}
use Prim.Native.Nat.{ℕ, zero, suc, ◌+◌, ◌*◌, ◌<◌}
use native.Mathlib.Nat.{not-suc-le-zero, le_of_suc-le-suc}
use native.Mathlib.Omega.{arith}
use mathlib.Core.Path.{◌≡◌, refl, sym, ap, ap₂, ◌∙◌}
use mathlib.Core.Bool.{Bool, true, false, cond}
use mathlib.Core.List.{List, [], ◌∷◌, ◌++◌, append-nil}
use mathlib.Core.Option.{Option, none, some}
use lib.IntN.{ℤ, pos}
use lib.ListN.{length, get_or, length-append}
use Rattle.laws.specs.Lists.{eq_z, flat}
use Rattle.laws.proofs.Flat.{flat_append}
use Rattle.rules.specs.Dispatch.{Row, Key}
use Rattle.rules.specs.Info.{get_dogma_attribute}
use Rattle.rules.specs.Sheet.{Book}
use Rattle.rules.specs.Fresh.{limit, entry_needs, needs_of}
use Rattle.rules.specs.declared.Effect.{Effect}
use Rattle.rules.specs.Ids.{OptionalId}
use Rattle.rules.specs.declared.Origin.{Origin}
use Rattle.rules.specs.declared.Origin.TheVariants as origin
use Rattle.needs.specs.Slots.{source_slot, resistance_slot, limit_slot, entry_slots, limit_slots, slots_of}

-- ---- places

entries_long : (es : List Effect) → length (flat entry_slots es) ≡ 2 * length es
entries_long [] = refl
entries_long (e ∷ es) = ap (λ (n : ℕ). suc (suc n)) (entries_long es) ∙ omega arith

pub slots_long : (k : Book) (r : Row) → length (slots_of k r) ≡ 2 * length r.entries + 2
unfolding slots_of
slots_long k r = length-append (flat entry_slots r.entries) (limit_slots k r) ∙ ap (λ (n : ℕ). n + 2) (entries_long r.entries)

module _ (rest : List (Option Key)) where
  abbrev all : List Effect → List (Option Key)
  all es = flat entry_slots es ++ rest

  pub at_source : (es : List Effect) (k : ℕ) (d : Effect) → k < length es → get_or (all es) (2 * k) none ≡ source_slot (get_or es k d).origin
  at_source [] k d h = absurd (not-suc-le-zero h)
  at_source (e ∷ es) zero d h = refl
  at_source (e ∷ es) (suc k) d h =
      let two : 2 * suc k ≡ suc (suc (2 * k)) = omega arith in
      ap (λ (n : ℕ). get_or (all (e ∷ es)) n none) two ∙ at_source es k d (le_of_suc-le-suc h)

  pub at_resistance : (es : List Effect) (k : ℕ) (d : Effect) → k < length es → get_or (all es) (2 * k + 1) none ≡ resistance_slot (get_or es k d).resistance (get_or es k d).origin
  at_resistance [] k d h = absurd (not-suc-le-zero h)
  at_resistance (e ∷ es) zero d h = refl
  at_resistance (e ∷ es) (suc k) d h =
      let two : 2 * suc k + 1 ≡ suc (suc (2 * k + 1)) = omega arith in
      ap (λ (n : ℕ). get_or (all (e ∷ es)) n none) two ∙ at_resistance es k d (le_of_suc-le-suc h)

  pub past_entries : (es : List Effect) (j : ℕ) → get_or (all es) (2 * length es + j) none ≡ get_or rest j none
  past_entries [] j = ap (λ (n : ℕ). get_or rest n none) (omega arith)
  past_entries (e ∷ es) j =
      let two : 2 * suc (length es) + j ≡ suc (suc (2 * length es + j)) = omega arith in
      ap (λ (n : ℕ). get_or (all (e ∷ es)) n none) two ∙ past_entries es j

-- ---- what they hold

abbrev one : Option Key → List Key
one none = []
one (some a) = a ∷ []

-- the keys in slots, in order
abbrev pub present : List (Option Key) → List Key
present xs = flat one xs

of_entry : (res : OptionalId) (g : Origin) (l : List (Option Key)) → present (source_slot g ∷ resistance_slot res g ∷ l) ≡ entry_needs res g ++ present l
of_entry res (origin.Buff b v) l = refl
of_entry None (origin.Effect f o c a) l = refl
of_entry (Some x) (origin.Effect f o c a) l = refl

of_entries : (es : List Effect) → present (flat entry_slots es) ≡ flat (λ e. entry_needs e.resistance e.origin) es
of_entries [] = refl
of_entries (e ∷ es) = of_entry e.resistance e.origin (flat entry_slots es) ∙ ap (λ (l : List Key). entry_needs e.resistance e.origin ++ l) (of_entries es)

of_limit : (o : ℕ) (a : ℤ) (l : List (Option Key)) → present (limit_slot o a ∷ l) ≡ limit o a ++ present l
of_limit o a l = by (eq_z a (pos 0))
  where
    by : (t : Bool) → present (cond t none (some (record { object = o; id = a })) ∷ l) ≡ cond t [] (record { object = o; id = a } ∷ []) ++ present l
    by true = refl
    by false = refl

-- the slots that hold a key hold what the row needs, in order
pub needs_slots : (k : Book) (r : Row) → needs_of k r ≡ present (slots_of k r)
unfolding needs_of slots_of
needs_slots k r =
    let t = get_dogma_attribute k r.id in
    let most : present (limit_slot r.object t.max_attribute_id ∷ []) ≡ limit r.object t.max_attribute_id = of_limit r.object t.max_attribute_id [] ∙ append-nil (limit r.object t.max_attribute_id) in
    let both : present (limit_slots k r) ≡ limit r.object t.min_attribute_id ++ limit r.object t.max_attribute_id = of_limit r.object t.min_attribute_id (limit_slot r.object t.max_attribute_id ∷ []) ∙ ap (λ (l : List Key). limit r.object t.min_attribute_id ++ l) most in
    sym (flat_append one (flat entry_slots r.entries) (limit_slots k r) ∙ ap₂ (λ (x y : List Key). x ++ y) (of_entries r.entries) both)
