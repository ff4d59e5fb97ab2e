-- The bytes of tables that are lent, and floats that may be written. Definitions only.
use Rattle.std.specs.Prelude.{ℕ, ◌<◌, ◌≡◌, true, List, length, Float}
use Rattle.tables.specs.At.{Numbers, Rows, Floats}
use Rattle.laws.specs.Floats.{finite}
use Rattle.tables.specs.Layout.{words, rows_of}
use Rattle.tables.specs.Tables.{fields, row, number, value, attribute_bytes, value_bytes}

-- rows of w numbers
abbrev pub row_bytes : ℕ → Rows → List ℕ
row_bytes w c = rows_of (λ k. words (fields w (row c.entry.now k))) (length c.entry.now)

-- a number and a float
abbrev pub values_bytes : Numbers → Floats → List ℕ
values_bytes c v = rows_of (λ k. value_bytes (number c.entry.now k) (value v.entry.now k)) (length c.entry.now)

-- a float among the numbers
abbrev pub attributes_bytes : Rows → Floats → List ℕ
attributes_bytes c v = rows_of (λ k. attribute_bytes (row c.entry.now k) (value v.entry.now k)) (length c.entry.now)

-- as many floats as rows, all finite: a NaN has no bits of its own
abbrev pub Beside : {A : Type 0} → List A → List Float → Type 0
Beside c v = (length c ≡ length v) × ((k : ℕ) → k < length v → finite (value v k) ≡ true)
