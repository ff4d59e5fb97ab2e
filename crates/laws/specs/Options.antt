-- What code holds as `Some` or `None`, as the definition has it. Definitions only.
use Rattle.std.specs.Prelude.{Some, None}
use Rattle.std.specs.Prelude as code
use Rattle.std.proofs.Math.Option.{Option, none, some}

abbrev pub option_of : {A : Type 0} → code.Option A → Option A
option_of (Some x) = some x
option_of None = none
