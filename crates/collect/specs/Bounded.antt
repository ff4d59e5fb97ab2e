-- What a sound sheet promises of a collected effect: its objects are the fit's, and its ids have 32 bits.
use Rattle.std.specs.Prelude.{ℕ}
use Rattle.std.specs.Int.{w32}
use Rattle.std.proofs.Common.{SFits}
use Rattle.rules.specs.Columns.{collected_numbers}
use Rattle.rules.specs.declared.Pass2Effect.{Pass2Effect}
use Rattle.info.specs.Stands.{Pointing, Narrow, NarrowOrigin, NarrowId}

-- in a fit of n objects
pub record Bounded (n : ℕ) (t : Pass2Effect) : Type 0 where
  pub pointing : Pointing (collected_numbers t) n
  pub modifier : Narrow t.modifier
  pub attribute : SFits w32 t.target_attribute_id
  pub origin : NarrowOrigin t.origin
  pub resistance : NarrowId t.resistance
