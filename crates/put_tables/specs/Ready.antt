-- Tables that may be written: few enough records, and floats that have bits. Definitions only.
use Rattle.tables.specs.Tables.{Tables}
use Rattle.tables.specs.Fits.{FewBook, FewFit}
use Rattle.put_tables.specs.Rows.{Beside}

pub record BookReady (t : Tables) : Type 0 where
  pub few : FewBook t
  pub defaults : Beside t.attributes t.defaults

pub record FitReady (t : Tables) : Type 0 where
  pub few : FewFit t
  pub bases : Beside t.base_attributes t.base_values
  pub buffs : Beside t.buffs t.buff_values
