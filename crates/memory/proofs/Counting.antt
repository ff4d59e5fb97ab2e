-- The source rows that are planned, by parts.
use Prim.Native.Nat.{◌+◌}
use native.Mathlib.Omega.{arith}
use mathlib.Core.Path.{◌≡◌}
use mathlib.Core.List.{List, [], ◌∷◌, ◌++◌}
use Rattle.rules.specs.Value.{World}
use Rattle.rules.specs.declared.Effect.{Effect}
use Rattle.rules.specs.declared.EffectOperator.{EffectOperator}
use Rattle.sources.specs.Planned.{planned_for, planned_by}

module _ (w : World) where
  pub planned_append : (op : EffectOperator) (xs ys : List Effect) → planned_for w op (xs ++ ys) ≡ planned_for w op xs + planned_for w op ys
  planned_append op [] ys = omega arith
  planned_append op (e ∷ xs) ys = let rest = planned_append op xs ys in omega (arith, rest)

  pub by_append : (xs ys : List EffectOperator) (es : List Effect) → planned_by w (xs ++ ys) es ≡ planned_by w xs es + planned_by w ys es
  by_append [] ys es = omega arith
  by_append (op ∷ xs) ys es = let rest = by_append xs ys es in omega (arith, rest)
