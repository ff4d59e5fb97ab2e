-- Sheets written out record by record, for the cases that are computed. All ids here are natural numbers; a float is given by its bits.
use Prim.Native.Nat.{ℕ, zero, suc, ◌+◌, ◌-◌, ◌*◌, ◌/◌, ◌%◌}
use Prim.Native.Char.{Char, code}
use Prim.Native.String.{String}
use Prim.Native.String as text
use mathlib.Core.Bool.{cond}
use mathlib.Core.List.{List, [], ◌∷◌, ◌++◌}
use lib.ListN.{length}
use lib.Dec.{ltb}
use lib.IntN.{pos}
use lib.Ieee.{binary64, of_int, to_bits}
use Rattle.laws.specs.Lists.{flat}

-- n bytes of x, little-endian
abbrev pub bytes : ℕ → ℕ → List ℕ
bytes zero x = []
bytes (suc n) x = x % 256 ∷ bytes n (x / 256)

abbrev pub words : List ℕ → List ℕ
words = flat (bytes 4)

-- the bits of a whole number as a float
abbrev pub whole : ℕ → ℕ
whole n = to_bits binary64 (of_int binary64 (pos n))

abbrev pub attribute : ℕ → ℕ → ℕ → ℕ → ℕ → List ℕ
attribute id flags default min max = words (id ∷ flags ∷ []) ++ (bytes 8 default ++ words (min ∷ max ∷ []))

-- category, resistance, first modifier and count; no usage chance
abbrev pub effect : ℕ → ℕ → ℕ → ℕ → ℕ → List ℕ
effect id category resistance first count = words (id ∷ category ∷ resistance ∷ 0 ∷ first ∷ count ∷ [])

-- func, domain, operation, modifying and modified attribute, skill; no group
abbrev pub modifier : ℕ → ℕ → ℕ → ℕ → ℕ → ℕ → List ℕ
modifier func domain operation modifying modified skill = words (func ∷ domain ∷ operation ∷ modifying ∷ modified ∷ skill ∷ 0 ∷ [])

abbrev pub type_effect : ℕ → ℕ → List ℕ
type_effect type effect = words (type ∷ effect ∷ 0 ∷ [])

-- kind, type, category, slot, quantity, state, projected effect, first base attribute and count; the rest 0
abbrev pub object : ℕ → ℕ → ℕ → ℕ → ℕ → ℕ → ℕ → ℕ → ℕ → List ℕ
object kind type category slot quantity state projected first count =
    words (kind ∷ type ∷ 0 ∷ category ∷ slot ∷ quantity ∷ state ∷ 0 ∷ 0 ∷ 0 ∷ projected ∷ first ∷ count ∷ 0 ∷ 0 ∷ 0 ∷ 0 ∷ [])

-- a ship, mode or char of a type, whose base attributes begin at first
abbrev pub hull : ℕ → ℕ → ℕ → ℕ → List ℕ
hull kind type first count = object kind type 0 0 0 0 0 first count

-- an item of type 9 and category 7, in a slot, in a state
abbrev pub fitted : ℕ → ℕ → ℕ → ℕ → ℕ → List ℕ
fitted slot quantity state first count = object 3 9 7 slot quantity state 0 first count

abbrev pub base : ℕ → ℕ → List ℕ
base id value = words (id ∷ []) ++ bytes 8 value

abbrev pub ask : ℕ → ℕ → List ℕ
ask object id = words (object ∷ id ∷ [])

-- the pairs of tables that begin at a place
abbrev pub pairs : ℕ → List (List (List ℕ)) → List ℕ
pairs at [] = []
pairs at (t ∷ ts) = words (length t ∷ at ∷ []) ++ pairs (at + length (flat (λ r. r) t)) ts

-- operation, first modifier and count
abbrev pub collection : ℕ → ℕ → ℕ → ℕ → List ℕ
collection id operation first count = words (id ∷ operation ∷ first ∷ count ∷ [])

abbrev pub buff : ℕ → ℕ → List ℕ
buff id value = words (id ∷ []) ++ bytes 8 value

-- a sheet: CATEGORY_MODULE is 7; table 8 is empty
abbrev pub sheet_of : ℕ → ℕ → (attributes effects modifiers types collections objects bases buffs asks : List (List ℕ)) → List ℕ
sheet_of depth recording attributes effects modifiers types collections objects bases buffs asks =
    let tables = attributes ∷ effects ∷ modifiers ∷ types ∷ collections ∷ objects ∷ bases ∷ [] ∷ buffs ∷ asks ∷ [] in
    pairs 100 tables ++ (words (7 ∷ 0 ∷ 0 ∷ depth ∷ recording ∷ []) ++ flat (flat (λ r. r)) tables)

-- one without recording, where tables 5 and 9 are empty too
abbrev pub sheet : ℕ → (attributes effects modifiers types objects bases asks : List (List ℕ)) → List ℕ
sheet depth attributes effects modifiers types objects bases asks = sheet_of depth 0 attributes effects modifiers types [] objects bases [] asks

-- bytes from their hexadecimal digits
abbrev pub digit : Char → ℕ
digit c = cond (ltb (code c) 58) (code c - 48) (code c - 87)

abbrev pub hexadecimal : String → List ℕ
hexadecimal text.[] = []
hexadecimal (text.◌∷◌ c text.[]) = []
hexadecimal (text.◌∷◌ c (text.◌∷◌ d s)) = (16 * digit c + digit d) ∷ hexadecimal s
