-- What the columns that needs are read off hold. Definitions only.
use Rattle.std.specs.Prelude.{ℕ, ◌+◌, ◌≤◌, ◌<◌, ◌≡◌, List, [], length, get_or}
use Rattle.rules.specs.Columns.{entry_numbers}
use Rattle.rules.specs.Sheet.{book_of}
use Rattle.rules.specs.Value.{World}
use Rattle.rules.specs.declared.Effect.{Effect}
use Rattle.info.specs.Sound.{SoundBook}
use Rattle.info.specs.Stands.{NarrowOrigin, NarrowId}
use Rattle.reading.specs.Held.{RowsHeld, Sourced, no_row}
use Rattle.reading.specs.Stretched.{Stretched, Limits}
use Rattle.needs.specs.declared.NeedColumns.{NeedColumns}

pub record NeedTables : Type 0 where
  pub book : List ℕ
  pub pairs : List (List ℕ)
  pub stretches : List (List ℕ)
  pub limits : List ℕ
  pub rows : List (List ℕ)
  pub entries : List (List ℕ)

-- what the code is lent
abbrev pub tables_of : NeedColumns → NeedTables
tables_of c = record { book = c.book.now; pairs = c.pairs.now; stretches = c.stretches.now; limits = c.limits.now; rows = c.rows.now; entries = c.entries.now }

-- e stands in list 3 as these numbers, and its source is an object
pub record EntryShown (e : Effect) (row : List ℕ) : Type 0 where
  pub numbers : row ≡ entry_numbers e
  pub origin : NarrowOrigin e.origin
  pub resistance : NarrowId e.resistance
  pub sourced : Sourced e.origin

-- row i of list 2 says where its entries are
pub record TellsRow (w : World) (t : NeedTables) (i : ℕ) : Type 0 where
  pub count : get_or (get_or t.rows i []) 3 0 ≡ length (get_or w.rows i no_row).entries
  pub object : (get_or w.rows i no_row).object < 1024
  pub inside : get_or (get_or t.rows i []) 2 0 + length (get_or w.rows i no_row).entries ≤ length t.entries
  pub entry : (k : ℕ) (d : Effect) → k < length (get_or w.rows i no_row).entries
      → EntryShown (get_or (get_or w.rows i no_row).entries k d) (get_or t.entries (get_or (get_or t.rows i []) 2 0 + k) [])

-- the columns hold the book, the rows and the entries of a world
pub record TellsNeeds (w : World) (t : NeedTables) : Type 0 where
  pub sound : SoundBook t.book t.pairs
  pub records : w.book ≡ book_of t.book t.pairs
  pub held : RowsHeld w.rows t.rows
  pub stretched : Stretched w.rows t.stretches
  pub limited : Limits w.book t.limits
  pub row : (i : ℕ) → i < length w.rows → TellsRow w t i

pub record KnowsNeeds (t : NeedTables) : Type 0 where
  pub world : World
  pub told : TellsNeeds world t
