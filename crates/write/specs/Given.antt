-- What a call gives back. Definitions only.
use Rattle.std.specs.Prelude.{ℕ, ◌≡◌, ◌≤◌, List, [], length, Result, Ok, Err}
use Rattle.laws.specs.Columns.{column}
use Rattle.columns.specs.Lending.{LentColumn}
use Rattle.listing.specs.Put.{put, puts}
use Rattle.tables.specs.Tables.{sheet, shape, full}
use Rattle.tables.specs.Tables as tables
use Rattle.write.specs.declared.Written.{Written}
use Rattle.write.specs.declared.NotWritten.{NotWritten}
use Rattle.write.specs.declared.NotWritten.TheVariants.{Shape, Room}

-- "SHAPE as in 01, then ROOM with list 6"; the length is 0 after a refusal
abbrev pub answer_of : tables.Written → Written
answer_of (sheet b) = record { number = 0; place = 0; length = length b }
answer_of (shape i) = record { number = 1; place = i; length = 0 }
answer_of full = record { number = 7; place = 6; length = 0 }

abbrev pub bytes_in : tables.Written → List ℕ
bytes_in (sheet b) = b
bytes_in (shape i) = []
bytes_in full = []

-- the answer, and the lent bytes: what is written, then zeros; by what is written where so many bytes are lent
abbrev pub Gives : LentColumn ℕ → Written → (ℕ → tables.Written) → Type 0
Gives bytes r w =
    let n = length bytes.entry.now in
    (r ≡ answer_of (w n)) × (bytes.exit.now ≡ column (λ b. b) 0 (bytes_in (w n)) n)

-- what is written was put at the front of the lent bytes, up to its end; or why not
abbrev pub Puts : List ℕ → List ℕ → Result ℕ NotWritten → tables.Written → Type 0
Puts out now (Ok end) w = (b : List ℕ) × (w ≡ sheet b) × (length b ≤ length out) × (put end now ≡ puts b (put 0 out))
Puts out now (Err (Shape bad)) w = w ≡ shape bad.table
Puts out now (Err Room) w = w ≡ full

-- the answer, and where zeros begin
abbrev pub told : Result ℕ NotWritten → Written
told (Ok end) = record { number = 0; place = 0; length = end }
told (Err (Shape bad)) = record { number = 1; place = bad.table; length = 0 }
told (Err Room) = record { number = 7; place = 6; length = 0 }

abbrev pub end_of : Result ℕ NotWritten → ℕ
end_of (Ok end) = end
end_of (Err reason) = 0
