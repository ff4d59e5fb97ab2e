-- A row that is not started and that nothing touches is valued by its base.
use Rattle.std.specs.Prelude.{Ok}
use Prim.Native.Nat.{ℕ, ◌-◌, ◌<◌}
use mathlib.Core.Path.{◌≡◌, subst}
use mathlib.Core.Bool.{false}
use mathlib.Core.List.{List}
use lib.Ieee.{Float, nan, eq}
use lib.ListN.{length, get_or, set}
use lib.Seq.{set-set}
use Rattle.rules.specs.Value.{value_of}
use Rattle.sources.specs.declared.Recording.{Recording}
use Rattle.memory.specs.Steps.{row_at}
use Rattle.memory.specs.Holding.{Tables, Ready}
use Rattle.memory.specs.Answers.{Returns}
use Rattle.memory.proofs.Evaluating.{plain-meets}
use Rattle.memory.proofs.Starts.{starts, ends}
use Rattle.values.specs.Starting.{Untouched}

-- its calculation starts with the base, evaluates to the base, and ends with it
pub settled_meets : {t : Tables} {run : Recording} {v : List Float} {s : List (List ℕ)} {f : List (List Float)} {used : ℕ} (h : Ready t run v s f used) (i : ℕ) (inside : i < length t.rows)
    → eq (get_or v i nan) (get_or v i nan) ≡ false → (left : ℕ) → Untouched t.rows t.limits i left
    → Returns h.world h.sources₀ h.floats₀ (value_of h.world left (row_at h.world i).object (row_at h.world i).id h.mem) (Ok (record { value = get_or t.bases i nan; used = used })) (set v i (get_or t.bases i nan)) s f
settled_meets {t} {run} {v} {s} {f} {used} h i inside e left u =
    let base = get_or t.bases i nan in
    subst (λ (l : List Float). Returns h.world h.sources₀ h.floats₀ (value_of h.world left (row_at h.world i).object (row_at h.world i).id h.mem) (Ok (record { value = base; used = used })) l s f)
    (set-set v i base base)
    (ends h i inside e left u.deep (set v i base) s f base used (plain-meets (starts h i inside e) (left - 1) u.empty u.free))
