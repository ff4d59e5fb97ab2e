-- An id that may be absent, as code holds it.
use Rattle.std.specs.Prelude.{Option, ℤ}

abbrev pub OptionalId : Type 0
OptionalId = Option ℤ
