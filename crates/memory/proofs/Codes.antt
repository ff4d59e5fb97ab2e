-- The operators by their codes, in order, and entries by their operator's code.
use Prim.Native.Nat.{ℕ, suc, ◌+◌, ◌≤◌, ◌<◌, suc-le-suc, zero-le}
use native.Mathlib.Nat.{add-zero, zero-add}
use native.Mathlib.Omega.{arith}
use mathlib.Core.Path.{◌≡◌, refl, sym, ap, ap₂, subst, ◌∙◌}
use mathlib.Core.List.{List, [], ◌∷◌, ◌++◌, map}
use lib.Ieee.{Float, nan}
use lib.ListN.{length, take, get_or}
use Rattle.laws.specs.Lists.{some?, span}
use Rattle.laws.proofs.From.{from_at}
use Rattle.laws.proofs.Maps.{take_next, map_at}
use Rattle.laws.proofs.Spans.{span_step}
use Rattle.rules.specs.Codes.{operators, operator_code}
use Rattle.rules.specs.Columns.{entry_numbers}
use Rattle.rules.specs.declared.Effect.{Effect}
use Rattle.rules.specs.declared.EffectOperator.{EffectOperator}
use Rattle.rules.specs.declared.EffectOperator.TheVariants.{PreAssign}
use Rattle.reading.specs.Held.{EntryHeld, has_code}
use Rattle.reading.proofs.Decodes.{some_of}
use Rattle.operate.proofs.PassedOver.{is_of}

-- ---- the nine operators

pub operators-at : (k : ℕ) → k < 9 → operator_code (get_or operators k PreAssign) ≡ k
operators-at k h = sym (map_at operator_code operators k PreAssign 0 h) ∙ from_at 0 9 k 0 h ∙ zero-add k

pub take-operators : (k : ℕ) → k < 9 → take (k + 1) operators ≡ take k operators ++ (get_or operators k PreAssign ∷ [])
take-operators k h = take_next operators k PreAssign h

-- ---- entries in list 3

-- the entries es stand in the columns from place first on
abbrev EntriesHeld : List Effect → List (List ℕ) → List Float → ℕ → Type 0
EntriesHeld es c v first = (k : ℕ) (d : Effect) → k < length es → EntryHeld (get_or es k d) (get_or c (first + k) []) (get_or v (first + k) nan)

held_numbers : (es : List Effect) (c : List (List ℕ)) (v : List Float) (first : ℕ) → EntriesHeld es c v first → first + length es ≤ length c → span first (length es) c ≡ map entry_numbers es
held_numbers [] c v first H h = refl
held_numbers (e ∷ es) c v first H h =
    span_step first (length es) c [] (omega arith)
    ∙ ap₂ (λ (x : List ℕ) (l : List (List ℕ)). x ∷ l) (ap (λ (n : ℕ). get_or c n []) (sym (add-zero first)) ∙ (H 0 e (suc-le-suc zero-le)).numbers)
    (held_numbers es c v (first + 1) (λ k d l. subst (λ (n : ℕ). EntryHeld (get_or es k d) (get_or c n []) (get_or v n nan)) (omega arith) (H (suc k) d (suc-le-suc l))) (omega arith))

pub has_operator : (op : EffectOperator) (es : List Effect) (c : List (List ℕ)) (v : List Float) (first : ℕ)
    → EntriesHeld es c v first → first + length es ≤ length c → some? (has_code (operator_code op)) (span first (length es) c) ≡ some? (is_of op) es
has_operator op es c v first H h = ap (some? (has_code (operator_code op))) (held_numbers es c v first H h) ∙ some_of op es
