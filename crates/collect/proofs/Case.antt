-- A case of what a call with a way of giving promises: what it makes of each modifier, and what list 4 holds.
use Prim.Native.Nat.{ℕ}
use mathlib.Core.List.{List}
use Rattle.std.specs.Prelude.{Option, Result}
use Rattle.rules.specs.Collect.{Move}
use Rattle.rules.specs.declared.DogmaModifier.{DogmaModifier}
use Rattle.rules.specs.declared.Pass2Effect.{Pass2Effect}
use Rattle.rules.specs.declared.Refusal.{Refusal}
use Rattle.modifier.specs.Causes.{Gives}

pub record Case (R : DogmaModifier → Result (Option Pass2Effect) Refusal → Type 0) : Type 0 where
  pub moves : DogmaModifier → List Move
  pub column : List (List ℕ)
  pub given : Gives R moves
