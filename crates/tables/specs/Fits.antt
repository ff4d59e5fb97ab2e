-- What the types of lent columns say of tables, which owning them tells; and tables with few enough records. Definitions only.
use Rattle.std.specs.Prelude.{ℕ, ◌^◌, ◌≤◌, ◌<◌, ◌≡◌, true, List, length, Float}
use Rattle.std.specs.Float.{binary64}
use Rattle.std.specs.Float.Ieee.{fits}
use Rattle.tables.specs.Layout.{Words}
use Rattle.tables.specs.Tables.{Tables, row, value, number}

-- rows of w numbers of 32 bits; floats of 64 bits; numbers of 32 bits
abbrev pub Rowed : ℕ → List (List ℕ) → Type 0
Rowed w c = (k : ℕ) → k < length c → (length (row c k) ≡ w) × Words (row c k)

abbrev pub Held : List Float → Type 0
Held c = (k : ℕ) → fits binary64 (value c k) ≡ true

abbrev pub Small : List ℕ → Type 0
Small c = (k : ℕ) → number c k < 2 ^ 32

pub record Fits32 (t : Tables) : Type 0 where
  pub header : Small t.header
  pub attributes : Rowed 4 t.attributes
  pub defaults : Held t.defaults
  pub effects : Rowed 6 t.effects
  pub modifiers : Rowed 7 t.modifiers
  pub type_effects : Rowed 3 t.type_effects
  pub buff_collections : Rowed 4 t.buff_collections
  pub objects : Rowed 17 t.objects
  pub base_attributes : Small t.base_attributes
  pub base_values : Held t.base_values
  pub ids : Small t.ids
  pub buffs : Small t.buffs
  pub buff_values : Held t.buff_values
  pub asks : Rowed 2 t.asks

-- at most their most records
pub record FewBook (t : Tables) : Type 0 where
  pub attributes : length t.attributes ≤ 2048
  pub effects : length t.effects ≤ 1024
  pub modifiers : length t.modifiers ≤ 4096
  pub type_effects : length t.type_effects ≤ 4096
  pub buff_collections : length t.buff_collections ≤ 64

pub record FewFit (t : Tables) : Type 0 where
  pub objects : length t.objects ≤ 1024
  pub base_attributes : length t.base_attributes ≤ 16384
  pub ids : length t.ids ≤ 4096
  pub buffs : length t.buffs ≤ 64
  pub asks : length t.asks ≤ 1024
