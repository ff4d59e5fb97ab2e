-- What an admission and a leaving give back, and what a leaving does to the pool's rows. 02, M-107. Definitions only.
use Rattle.std.specs.Prelude.{ℕ, min, ◌≡◌, List, Float, length, set, replicate, Result}
use Rattle.std.specs.Borrow.{MutBor}
use denote.Triple.Both.{Both}
use Rattle.columns.specs.Lending.{LentColumn}
use Rattle.laws.specs.Columns.{within}
use Rattle.laws.specs.Floats.{zero_f}
use Rattle.promises.specs.Pilots.{Pool}
use Rattle.free_table.specs.declared.Stretch.{Stretch}
use Rattle.seats.specs.declared.Seat.{Seat}
use Rattle.seats.specs.declared.Left.{Left}
use Rattle.seats.specs.declared.SeatRefusal.{SeatRefusal}
use Rattle.seats.specs.Seats.{Hall, Seated, Done, Table, Pilot, Length, Pool as NoRun, seat_of, admit, leave}
use Rattle.seats.specs.Told.{told, left_answered, roomed}

-- what dogma_admit gives back, of the hall h
pub record AdmitMeets (h : Hall) (p w : ℕ) (r : Seat) (table : List Stretch) (seats : List (List (List ℕ))) : Type 0 where
  pub by-told : r ≡ told (admit h p w)
  pub by-table : table ≡ (admit h p w).hall.table
  pub by_seats : seats ≡ (admit h p w).hall.seats

-- every pilot's states and the ten columns, as they were lent and as they come back
abbrev pub lent_pool : Both (MutBor (List (List (List ℕ)))) (MutBor (List (List (List ℕ)))) → LentColumn (List ℕ) → LentColumn Float → LentColumn (List ℕ) → LentColumn Float → LentColumn Float → LentColumn (List ℕ) → LentColumn Float → LentColumn (List ℕ) → LentColumn (List ℕ) → LentColumn (List Float) → Both Pool Pool
lent_pool t c v r b x e w p s g =
    record {
      entry =
          record {
            states = t.entry.now;
            collected = c.entry.now;
            collected_values = v.entry.now;
            rows = r.entry.now;
            bases = b.entry.now;
            values = x.entry.now;
            entries = e.entry.now;
            entry_values = w.entry.now;
            plain = p.entry.now;
            sources = s.entry.now;
            source_floats = g.entry.now;
          };
      exit =
          record {
            states = t.exit.now;
            collected = c.exit.now;
            collected_values = v.exit.now;
            rows = r.exit.now;
            bases = b.exit.now;
            values = x.exit.now;
            entries = e.exit.now;
            entry_values = w.exit.now;
            plain = p.exit.now;
            sources = s.exit.now;
            source_floats = g.exit.now;
          };
    }

-- "rows 0 to N - 1 of every list": N is the shortest of all ten columns, held to 4,294,967,295
unfoldable pub pool_rows : Pool → ℕ
pool_rows c =
    min 4294967295 (min (length c.collected) (min (length c.collected_values) (min (length c.rows) (min (length c.bases) (min (length c.values)
    (min (length c.entries) (min (length c.entry_values) (min (length c.plain) (min (length c.sources) (length c.source_floats))))))))))

-- the rows of s zero in every column, and pilot p's states
abbrev pub cleared_of : Stretch → ℕ → Pool → Pool
cleared_of s p c =
    record {
      states = set c.states p (replicate 1024 (replicate 2 0));
      collected = within s.start s.length (replicate s.length (replicate 14 0)) c.collected;
      collected_values = within s.start s.length (replicate s.length zero_f) c.collected_values;
      rows = within s.start s.length (replicate s.length (replicate 6 0)) c.rows;
      bases = within s.start s.length (replicate s.length zero_f) c.bases;
      values = within s.start s.length (replicate s.length zero_f) c.values;
      entries = within s.start s.length (replicate s.length (replicate 12 0)) c.entries;
      entry_values = within s.start s.length (replicate s.length zero_f) c.entry_values;
      plain = within s.start s.length (replicate s.length (replicate 2 0)) c.plain;
      sources = within s.start s.length (replicate s.length (replicate 11 0)) c.sources;
      source_floats = within s.start s.length (replicate s.length (replicate 2 zero_f)) c.source_floats;
    }

-- "leaving clears the rows of its stretch in all ten columns and its states"; a refusal writes nothing
abbrev pub left_pool : Seated → Stretch → ℕ → Pool → Pool
left_pool Done s p c = cleared_of s p c
left_pool Table s p c = c
left_pool (Pilot q) s p c = c
left_pool (Length q) s p c = c
left_pool (NoRun q) s p c = c

-- what dogma_leave gives back, of the hall h and the pool's columns
pub record LeaveMeets (h : Hall) (p : ℕ) (before after : Pool) (r : Seat) (table : List Stretch) (seats : List (List (List ℕ))) : Type 0 where
  pub by-told : r ≡ told (leave h p)
  pub by-table : table ≡ (leave h p).hall.table
  pub by_seats : seats ≡ (leave h p).hall.seats
  pub by_pool : after ≡ left_pool (leave h p).answer (seat_of h.seats p) p before

-- the same of the table's first seventeen places, before the table is stored
pub record LeavesSeats (room : ℕ) (h : Hall) (p : ℕ) (before after : Pool) (r : Result Left SeatRefusal) (seats : List (List (List ℕ))) : Type 0 where
  pub by_left : r ≡ left_answered (roomed room h (leave h p)) (seat_of h.seats p)
  pub by_seats : seats ≡ (roomed room h (leave h p)).hall.seats
  pub by_pool : after ≡ left_pool (roomed room h (leave h p)).answer (seat_of h.seats p) p before
  pub pilots : length h.seats ≡ 16
