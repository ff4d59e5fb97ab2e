-- The verdict on a sheet's shape, as the code gives it.
use Rattle.std.specs.Prelude.{ℕ, List, Result, Ok, Err}
use Rattle.std.proofs.Math.Option.{Option, none, some}
use Rattle.info.specs.Sound.{SoundBook, SoundFit}
use Rattle.shape.specs.declared.BadTable.{BadTable}

-- what the code answers
abbrev pub Shaped : Type 0
Shaped = Result (Unit {0}) BadTable

abbrev pub bad_table : ℕ → BadTable
bad_table t = record { table = t }

-- the first bad table, 0 for the header
abbrev pub shaped_of : Option ℕ → Shaped
shaped_of none = Ok tt
shaped_of (some t) = Err (bad_table t)

-- what the verdict calls sound is sound
abbrev pub SoundBy : Shaped → List ℕ → List ℕ → List (List ℕ) → Type 0
SoundBy (Ok s) k f pairs = SoundBook k pairs × SoundFit f pairs
SoundBy (Err e) k f pairs = Unit {0}
