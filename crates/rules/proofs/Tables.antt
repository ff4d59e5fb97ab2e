-- Elements and lengths of the tables, and a field of a record read from the sheet.
use Prim.Native.Nat.{ℕ, ◌+◌, ◌≤◌, ◌<◌}
use native.Mathlib.Nat.{add_assoc, zero-add}
use native.Mathlib.Omega.{arith}
use mathlib.Core.Path.{◌≡◌, sym, ap, ◌∙◌}
use mathlib.Core.List.{List}
use lib.ListN.{get_or, take, drop, length}
use lib.Seq.{get_or-take, get_or-drop}
use Rattle.laws.proofs.From as F
use Rattle.rules.specs.Bytes.{u32_at, count_of, record_at}
use Rattle.rules.specs.Sheet.{table}

module _ {A : Type 0} (read : ℕ → List ℕ → A) (t : ℕ) (b : List ℕ) (pairs : List (List ℕ)) where
  pub table-length : length (table read t b pairs) ≡ count_of pairs t
  table-length = F.table-length _ 0 (count_of pairs t)

  pub table_at : (i : ℕ) → i < count_of pairs t → (d : A) → read i (record_at b pairs t i) ≡ get_or (table read t b pairs) i d
  table_at i h d = sym (F.table_at _ 0 (count_of pairs t) i d h ∙ ap (λ (k : ℕ). read k (record_at b pairs t k)) (zero-add i))

module _ (b : List ℕ) (w at j : ℕ) where
  byte_read : (i : ℕ) → i < w → get_or (take w (drop at b)) i 0 ≡ get_or b (at + i) 0
  byte_read i h = get_or-take w (drop at b) i 0 h ∙ get_or-drop at b i 0

  -- a field read from the record's own bytes is the field read from the sheet
  pub field-read : j + 4 ≤ w → u32_at (take w (drop at b)) j ≡ u32_at b (at + j)
  field-read h =
      rw (byte_read j (omega arith), byte_read (j + 1) (omega arith), byte_read (j + 2) (omega arith), byte_read (j + 3) (omega arith), add_assoc at j 1, add_assoc at j 2, add_assoc at j 3)
