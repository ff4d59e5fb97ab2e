-- What the program `sheet` writes, of what it has read. 01, "The listing". Definitions only.
use Rattle.std.specs.Prelude.{ℕ, Bool, cond, ◌||◌, List, ltb, length}
use Rattle.rules.specs.Answer.{refused}
use Rattle.rules.specs.Listing.{listing}
use Rattle.rules.specs.Outcome.{Lent, outcome}
use Rattle.rules.specs.declared.Refusal.TheVariants.{Shape}

-- "one buffer of 65,536 zero bytes"
abbrev pub sheet_bytes : ℕ
sheet_bytes = 65536

-- "lends every list room for 4,096"
abbrev pub rows_lent : ℕ
rows_lent = 4096

unfoldable pub rooms : Lent
rooms =
    record {
      collected = rows_lent;
      collected_values = rows_lent;
      rows = rows_lent;
      bases = rows_lent;
      values = rows_lent;
      entries = rows_lent;
      entry_values = rows_lent;
      plain = rows_lent;
      sources = rows_lent;
      source_floats = rows_lent;
    }

-- of the bytes read, and whether there were more: "longer: SHAPE, place 0"
unfoldable pub sheet_text : List ℕ → Bool → List ℕ
sheet_text b more = cond (more || ltb sheet_bytes (length b)) (listing (refused (Shape 0))) (listing (outcome b rooms))
