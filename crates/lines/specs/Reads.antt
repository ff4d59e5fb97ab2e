-- What the functions of this crate give back, in the definition's words. Definitions only.
use Rattle.std.specs.Prelude.{ℕ, zero, suc, ◌+◌, ◌*◌, ◌≤◌, List, take, drop, Result, Ok, Err}
use Rattle.std.specs.Prelude as code
use Rattle.std.proofs.Math.Option.{Option, none, some}
use Rattle.lines.specs.declared.fields.Number.{Number}
use Rattle.lines.specs.declared.fields.Field.{Field}
use Rattle.lines.specs.declared.BadLine.{BadLine}
use Rattle.lines.specs.Fields.{Cut}
use Rattle.lines.specs.Lines.{Rows, rows, bad}

-- the largest number of so many hexadecimal digits
abbrev pub largest : ℕ → ℕ
largest zero = 0
largest (suc n) = largest n * 16 + 15

-- a value, and the text from a place on
abbrev pub cut_at : ℕ → ℕ → List ℕ → Cut
cut_at v n text = record { value = v; rest = drop n text }

abbrev pub digits_of : Number → List ℕ → Cut
digits_of d text = cut_at d.value d.next text

abbrev pub field_of : code.Option Field → List ℕ → Option Cut
field_of (code.Some f) text = some (cut_at f.value f.next text)
field_of code.None text = none

-- the rows that were written, or the first bad line
abbrev pub rows_of : Result ℕ BadLine → List (List ℕ) → Rows
rows_of (Ok n) out = rows (take n out)
rows_of (Err e) out = bad e.line

-- no more rows than there is room for, and no line behind the first that has none
abbrev pub ReadWithin : Result ℕ BadLine → ℕ → Type 0
ReadWithin (Ok n) room = n ≤ room
ReadWithin (Err e) room = e.line ≤ room + 1
