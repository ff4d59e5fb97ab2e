-- One entry more: what it is, and what it adds to the source rows planned.
use Prim.Native.Nat.{ℕ, ◌+◌, ◌≤◌, ◌<◌, min}
use native.Mathlib.Omega.{arith}
use mathlib.Core.Path.{◌≡◌, sym, ap, subst, ◌∙◌}
use mathlib.Core.Bool.{Bool, true, ◌&&◌, cond}
use mathlib.Core.List.{List, [], map}
use lib.Ieee.{Float, nan}
use lib.ListN.{length, get_or}
use Rattle.laws.specs.Lists.{span, total}
use Rattle.laws.proofs.Spans.{map_span_next}
use Rattle.laws.proofs.Sums.{total_snoc}
use Rattle.rules.specs.Operate.{has_penalty}
use Rattle.rules.specs.declared.Effect.{Effect}
use Rattle.reading.specs.Held.{EntryHeld, Sourced, is_running}
use Rattle.sources.specs.Planned.{planned_if}
use Rattle.sources.specs.Ranged.{EntriesHeld, planned_by, planned_in}

module _ {es : List Effect} {c : List (List ℕ)} {v : List Float} (h : EntriesHeld es c v) (k : ℕ) (t : k < length es) (e : Effect) (read : (x : Effect) → EntryHeld x (get_or c k []) (get_or v k nan) → e ≡ x) where
  pub is-entry : e ≡ get_or es k e
  is-entry = read (get_or es k e) (h.each k e t)

  pub is_sourced : Sourced e.origin
  is_sourced = subst (λ (x : Effect). Sourced x.origin) (sym is-entry) (h.sourced k e t)

pub counted : (states : List (List ℕ)) (es : List Effect) (first i : ℕ) (e : Effect) {run : Bool} {tot more : ℕ} → first + i < length es → e ≡ get_or es (first + i) e → tot ≡ planned_in states es first i
    → run ≡ is_running states e.origin → more ≡ planned_if run e → tot + more ≡ planned_in states es first (i + 1)
counted states es first i e {more = more} t q a b d =
    let entry : Effect = get_or es (first + i) e in
    let added : more ≡ planned_by states entry = d ∙ ap (λ (r : Bool). planned_if r e) b ∙ ap (planned_by states) q in
    let sum : planned_in states es first (i + 1) ≡ planned_in states es first i + planned_by states entry = ap total (map_span_next first i es e t (planned_by states))
    ∙ total_snoc (map (planned_by states) (span first i es)) (planned_by states entry) in
    omega (arith, a, added, sum)

-- how many a penalised entry that runs has
pub planned_copies : (running : Bool) (e : Effect) {p : Bool} {r : ℕ} → p ≡ has_penalty e.operator → (running && (e.penalty && p)) ≡ true → r ≡ min e.quantity 9 → r ≡ planned_if running e
planned_copies running e {p} h t q = q ∙ sym (ap (λ (b : Bool). cond b (min e.quantity 9) 1) (sym (ap (λ (b : Bool). running && (e.penalty && b)) h) ∙ t))

-- all of them
pub ends : (states : List (List ℕ)) (es : List Effect) (first i count : ℕ) {tot : ℕ} → i ≤ count → count ≤ i → tot ≡ planned_in states es first i → tot ≡ planned_in states es first count
ends states es first i count h k e =
    let same : i ≡ count = omega (arith, h, k) in
    e ∙ ap (planned_in states es first) same
