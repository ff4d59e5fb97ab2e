-- Entries by the effects that they are of, where list 1 is lent cut to its length. Definitions only.
use Rattle.std.specs.Prelude.{ℕ, ◌<◌, ◌≡◌, List, [], Float, length, get_or}
use Rattle.rules.specs.Sheet.{Book, Fit}
use Rattle.rules.specs.Dispatch.{entry}
use Rattle.rules.specs.Columns.{origin_value, entry_numbers}
use Rattle.rules.specs.declared.Item.{Item}
use Rattle.rules.specs.declared.Pass2Effect.{Pass2Effect}
use Rattle.info.specs.Stands.{Pointing, effect_at, numbered_at}
use Rattle.rows.specs.Entries.{effect_number, Collected}

-- the columns of list 1 hold these effects and nothing more; their sources are among n objects
pub record Effects (es : List Pass2Effect) (c : List (List ℕ)) (v : List Float) (n : ℕ) : Type 0 where
  pub count : length es ≡ length c
  pub even : length v ≡ length c
  pub held : Collected es c v
  pub points : (j : ℕ) → j < length c → Pointing (get_or c j []) n

-- they hold effects
pub record Listing (c : List (List ℕ)) (v : List Float) (n : ℕ) : Type 0 where
  pub effects : List Pass2Effect
  pub listed : Effects effects c v n

-- number 1 of each entry is the number of an effect
abbrev pub Taken : List (List ℕ) → List (List ℕ) → Type 0
Taken segment c = (k : ℕ) → k < length segment → effect_number (get_or segment k []) < length c

-- an entry on object o, and its value, from the number of its effect
abbrev pub entry_of : Book → Fit → Item → List Pass2Effect → List ℕ → List ℕ
entry_of k f o es e = entry_numbers (entry k f o (numbered_at es (effect_number e)))

abbrev pub value_of : List Pass2Effect → List ℕ → Float
value_of es e = origin_value (effect_at es (effect_number e)).origin
