-- Numbers in a sheet's bytes, and its header. 01, "The sheet".
use Rattle.std.specs.Prelude.{ℕ, ◌+◌, ◌*◌, ◌-◌, ◌^◌, cond, List, [], ◌∷◌, map, eqb, get_or, take, drop, ℤ, Float}
use Rattle.std.specs.Float.{binary64}
use Rattle.std.specs.Float.Ieee.{of_bits}
use Rattle.std.specs.Int.{w32}
use Rattle.std.proofs.Common.{to_z, of_z}
use Rattle.laws.specs.Lists.{from}

-- "Little-endian"
abbrev pub u32_at : List ℕ → ℕ → ℕ
u32_at b i = get_or b i 0 + 2 ^ 8 * get_or b (i + 1) 0 + 2 ^ 16 * get_or b (i + 2) 0 + 2 ^ 24 * get_or b (i + 3) 0

-- a signed number from its 32 bits, and its bits
abbrev pub signed : ℕ → ℤ
signed n = to_z w32 n

abbrev pub bits : ℤ → ℕ
bits a = of_z w32 a

-- "Ids, groups, types, categories of objects and the three category numbers are signed"
abbrev pub i32_at : List ℕ → ℕ → ℤ
i32_at b i = signed (u32_at b i)

-- "floats 8"
abbrev pub f64_at : List ℕ → ℕ → Float
f64_at b i = of_bits binary64 (u32_at b i + 2 ^ 32 * u32_at b (i + 4))

-- "ten pairs (count, byte offset)"; tables go by their numbers, 1 to 10
abbrev pub pairs_of : List ℕ → List (List ℕ)
pairs_of b = map (λ i. u32_at b (8 * i) ∷ u32_at b (8 * i + 4) ∷ []) (from 0 10)

-- "the ten count-and-offset pairs are kept as one array of pairs"
abbrev pub count_of : List (List ℕ) → ℕ → ℕ
count_of pairs t = get_or (get_or pairs (t - 1) []) 0 0

abbrev pub offset_of : List (List ℕ) → ℕ → ℕ
offset_of pairs t = get_or (get_or pairs (t - 1) []) 1 0

-- the three category numbers stand after a sheet's ten pairs, or after a book's five (M-106): a book's first table begins at 52
abbrev pub categories_at : List (List ℕ) → ℕ
categories_at pairs = cond (eqb (offset_of pairs 1) 52) 40 80

-- depth and recording stand after these, or after a fit's five pairs: a fit's first table begins at 48, where no sheet has one
abbrev pub depth_at : List (List ℕ) → ℕ
depth_at pairs = cond (eqb (offset_of pairs 6) 48) 40 92

-- bytes of a record: "Fields are 4 bytes, floats 8"
abbrev pub width_of : ℕ → ℕ
width_of t = get_or (24 ∷ 24 ∷ 28 ∷ 12 ∷ 16 ∷ 68 ∷ 12 ∷ 4 ∷ 12 ∷ 8 ∷ []) (t - 1) 0

-- "most records"
abbrev pub limit_of : ℕ → ℕ
limit_of t = get_or (2048 ∷ 1024 ∷ 4096 ∷ 4096 ∷ 64 ∷ 1024 ∷ 16384 ∷ 4096 ∷ 64 ∷ 1024 ∷ []) (t - 1) 0

-- the bytes of record k of table t
abbrev pub record_at : List ℕ → List (List ℕ) → ℕ → ℕ → List ℕ
record_at b pairs t k = take (width_of t) (drop (offset_of pairs t + width_of t * k) b)
