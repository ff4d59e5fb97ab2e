-- The numbers of a source row.
use Prim.Native.Nat.{ℕ}
use mathlib.Core.Path.{◌≡◌, refl, ap, ◌∙◌}
use mathlib.Core.List.{List, [], ◌∷◌, ◌++◌}
use Rattle.rules.specs.Columns.{yes1, from_numbers, optional_numbers, source_numbers}
use Rattle.rules.specs.Codes.{operator_code, state_code}
use Rattle.rules.specs.declared.Source.{Source}
use Rattle.rules.specs.declared.SourceRef.{SourceRef}
use Rattle.rules.specs.declared.SourceRef.TheVariants.{Object, Buff}
use Rattle.numbers.proofs.Pairs.{pair, optional_pair}

from_pair : (s : SourceRef) → pair (from_numbers s) ≡ from_numbers s
from_pair (Object o) = refl
from_pair (Buff b) = refl

pub row : (s : Source) {a b c : List ℕ} {k p q t : ℕ} → a ≡ from_numbers s.«from» → b ≡ optional_numbers s.effect_id → c ≡ optional_numbers s.source_attribute_id
    → k ≡ operator_code s.operator → p ≡ yes1 s.penalised → q ≡ yes1 s.applied → t ≡ state_code s.state
    → pair a ++ pair b ++ pair c ++ (k ∷ s.quantity ∷ p ∷ q ∷ t ∷ []) ≡ source_numbers s
row s e f g h i j l =
    let rest : List ℕ = operator_code s.operator ∷ s.quantity ∷ yes1 s.penalised ∷ yes1 s.applied ∷ state_code s.state ∷ [] in
    rw (e, f, g, h, i, j, l) (ap (λ (l : List ℕ). l ++ pair (optional_numbers s.effect_id) ++ pair (optional_numbers s.source_attribute_id) ++ rest) (from_pair s.«from»)
    ∙ ap (λ (l : List ℕ). from_numbers s.«from» ++ l ++ pair (optional_numbers s.source_attribute_id) ++ rest) (optional_pair s.effect_id)
    ∙ ap (λ (l : List ℕ). from_numbers s.«from» ++ optional_numbers s.effect_id ++ l ++ rest) (optional_pair s.source_attribute_id))
