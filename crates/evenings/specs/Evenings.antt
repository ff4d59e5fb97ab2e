-- Any calls of an evening, one after another, and the words of what is said of them. 02, M-107. Definitions only.
use Rattle.std.specs.Prelude.{ℕ, ◌≡◌, List, [], get_or, replicate}
use Rattle.laws.specs.Floats.{zero_f}
use Rattle.laws.specs.Lists.{span}
use Rattle.promises.specs.Pilots.{Pool, Told, PilotMeets}
use Rattle.free_table.specs.declared.Stretch.{Stretch}
use Rattle.seats.specs.declared.Seat.{Seat}
use Rattle.seats.specs.Seats.{Hall, admit, leave}
use Rattle.evenings.specs.Leaving.{LeaveMeets}

-- calls that lead from a hall and its pool to another, with any arguments, refused or not; none of them is pilot p's leaving or its
-- calculation
pub data Evening (p : ℕ) : Hall → Pool → Hall → Pool → Type 0 where
  over : {h h' : Hall} {c c' : Pool} → h' ≡ h → c' ≡ c → Evening p h c h' c'
  admits : {h h' : Hall} {c c' : Pool} (q w : ℕ) → Evening p (admit h q w).hall c h' c' → Evening p h c h' c'
  leaves : {h h' : Hall} {c c' : Pool} (q : ℕ) (r : Seat) (table : List Stretch) (seats : List (List (List ℕ))) (between : Pool) → (q ≡ p → ⊥)
      → LeaveMeets h q c between r table seats → Evening p (leave h q).hall between h' c' → Evening p h c h' c'
  calculates : {h h' : Hall} {c c' : Pool} (k f : List ℕ) (q : ℕ) (r : Told) (between : Pool) → (q ≡ p → ⊥) → PilotMeets k f h.seats q c between r
      → Evening p h between h' c' → Evening p h c h' c'

-- the rows of s are zero in every column, and so are pilot p's states
pub record Clear (s : Stretch) (p : ℕ) (c : Pool) : Type 0 where
  pub states : get_or c.states p [] ≡ replicate 1024 (replicate 2 0)
  pub collected : span s.start s.length c.collected ≡ replicate s.length (replicate 14 0)
  pub collected_values : span s.start s.length c.collected_values ≡ replicate s.length zero_f
  pub rows : span s.start s.length c.rows ≡ replicate s.length (replicate 6 0)
  pub bases : span s.start s.length c.bases ≡ replicate s.length zero_f
  pub values : span s.start s.length c.values ≡ replicate s.length zero_f
  pub entries : span s.start s.length c.entries ≡ replicate s.length (replicate 12 0)
  pub entry_values : span s.start s.length c.entry_values ≡ replicate s.length zero_f
  pub plain : span s.start s.length c.plain ≡ replicate s.length (replicate 2 0)
  pub sources : span s.start s.length c.sources ≡ replicate s.length (replicate 11 0)
  pub source_floats : span s.start s.length c.source_floats ≡ replicate s.length (replicate 2 zero_f)
