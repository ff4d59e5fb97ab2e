-- 02, M-100: ten tables as they are lent, what reading has of them, whether 01's sheet section allows them, and their sheet. Definitions only.
use Rattle.std.specs.Prelude.{ℕ, suc, ◌+◌, ◌*◌, Bool, true, false, ◌&&◌, List, [], ◌∷◌, ◌++◌, map, length, get_or, take, drop, ℤ, eqb, leb, Float}
use Rattle.std.proofs.Math.Option.{Option, none, some}
use Rattle.laws.specs.Lists.{flat, from, every?}
use Rattle.laws.specs.Floats.{zero_f}
use Rattle.rules.specs.Bytes.{signed, bits, pairs_of, limit_of}
use Rattle.rules.specs.Sheet.{Book, Fit, book_of, fit_of}
use Rattle.rules.specs.Shape.{book_bad, fit_bad}
use Rattle.rules.specs.Files.{plus20}
use Rattle.rules.specs.declared.DogmaAttribute.{DogmaAttribute}
use Rattle.rules.specs.declared.DogmaEffect.{DogmaEffect}
use Rattle.rules.specs.declared.DogmaModifier.{DogmaModifier}
use Rattle.rules.specs.declared.TypeDogmaEffect.{TypeDogmaEffect}
use Rattle.rules.specs.declared.DbuffCollection.{DbuffCollection}
use Rattle.rules.specs.declared.Item.{Item}
use Rattle.rules.specs.declared.BaseAttribute.{BaseAttribute}
use Rattle.rules.specs.declared.ProjectedBuff.{ProjectedBuff}
use Rattle.rules.specs.declared.Ask.{Ask}
use Rattle.tables.specs.Layout.{word, words, float, rows_of}

-- rows of numbers in the order of 01's fields, signed ones by their bits, and floats beside;
-- header: the three category numbers, depth, recording
pub record Tables : Type 0 where
  pub header : List ℕ
  pub attributes : List (List ℕ)
  pub defaults : List Float
  pub effects : List (List ℕ)
  pub modifiers : List (List ℕ)
  pub type_effects : List (List ℕ)
  pub buff_collections : List (List ℕ)
  pub objects : List (List ℕ)
  pub base_attributes : List ℕ
  pub base_values : List Float
  pub ids : List ℕ
  pub buffs : List ℕ
  pub buff_values : List Float
  pub asks : List (List ℕ)

-- ---- the tables as reading has them

abbrev pub number : List ℕ → ℕ → ℕ
number r i = get_or r i 0

abbrev pub id : List ℕ → ℕ → ℤ
id r i = signed (get_or r i 0)

abbrev pub attribute_of : List ℕ → Float → DogmaAttribute
attribute_of r x = record { id = id r 0; flags = number r 1; default_value = x; min_attribute_id = id r 2; max_attribute_id = id r 3 }

abbrev pub effect_of : ℕ → List ℕ → DogmaEffect
effect_of k r =
    record {
      number = k;
      id = id r 0;
      category = number r 1;
      resistance_attribute_id = id r 2;
      usage_chance_attribute_id = id r 3;
      first_modifier = number r 4;
      modifiers = number r 5;
    }

abbrev pub modifier_of : ℕ → List ℕ → DogmaModifier
modifier_of k r =
    record {
      number = k;
      func = number r 0;
      domain = number r 1;
      operation = number r 2;
      modifying_attribute_id = id r 3;
      modified_attribute_id = id r 4;
      skill_type_id = id r 5;
      group_id = id r 6;
    }

abbrev pub type_effect_of : List ℕ → TypeDogmaEffect
type_effect_of r = record { type_id = id r 0; effect_id = id r 1; is_default = number r 2 }

abbrev pub buff_collection_of : ℕ → List ℕ → DbuffCollection
buff_collection_of k r = record { number = k; id = id r 0; operation = number r 1; first_modifier = number r 2; modifiers = number r 3 }

abbrev pub object_of : ℕ → List ℕ → Item
object_of k r =
    record {
      number = k;
      kind = number r 0;
      type_id = id r 1;
      group_id = id r 2;
      category_id = id r 3;
      slot = number r 4;
      quantity = number r 5;
      state = number r 6;
      max_state = number r 7;
      flags = number r 8;
      mutation_base = id r 9;
      projected_effect = id r 10;
      first_attribute = number r 11;
      attributes = number r 12;
      first_ability = number r 13;
      abilities = number r 14;
      first_side_effect = number r 15;
      side_effects = number r 16;
    }

abbrev pub base_of : ℕ → Float → BaseAttribute
base_of n x = record { attribute_id = signed n; value = x }

abbrev pub buff_of : ℕ → Float → ProjectedBuff
buff_of n x = record { id = signed n; value = x }

abbrev pub ask_of : List ℕ → Ask
ask_of r = record { object = number r 0; attribute_id = id r 1 }

abbrev pub row : List (List ℕ) → ℕ → List ℕ
row c k = get_or c k []

abbrev pub value : List Float → ℕ → Float
value c k = get_or c k zero_f

-- n records, from record 0 on
abbrev pub all : {A : Type 0} → (ℕ → A) → ℕ → List A
all f n = map f (from 0 n)

unfoldable pub book_lent : Tables → Book
book_lent t =
    record {
      modules = id t.header 0;
      subsystems = id t.header 1;
      structure_modules = id t.header 2;
      attributes = all (λ k. attribute_of (row t.attributes k) (value t.defaults k)) (length t.attributes);
      effects = all (λ k. effect_of k (row t.effects k)) (length t.effects);
      modifiers = all (λ k. modifier_of k (row t.modifiers k)) (length t.modifiers);
      type_effects = all (λ k. type_effect_of (row t.type_effects k)) (length t.type_effects);
      buff_collections = all (λ k. buff_collection_of k (row t.buff_collections k)) (length t.buff_collections);
    }

unfoldable pub fit_lent : Tables → Fit
fit_lent t =
    record {
      depth = number t.header 3;
      recording = number t.header 4;
      objects = all (λ k. object_of k (row t.objects k)) (length t.objects);
      bases = all (λ k. base_of (number t.base_attributes k) (value t.base_values k)) (length t.base_attributes);
      ids = all (λ k. signed (number t.ids k)) (length t.ids);
      buffs = all (λ k. buff_of (number t.buffs k) (value t.buff_values k)) (length t.buffs);
      asks = all (λ k. ask_of (row t.asks k)) (length t.asks);
    }

-- ---- SHAPE, over tables

abbrev pub counts_of : Tables → List ℕ
counts_of t =
    length t.attributes ∷ length t.effects ∷ length t.modifiers ∷ length t.type_effects ∷ length t.buff_collections
    ∷ length t.objects ∷ length t.base_attributes ∷ length t.ids ∷ length t.buffs ∷ length t.asks ∷ []

-- each float stands beside its row: a table with columns of unlike lengths has no count
abbrev pub book_alike : Tables → Bool
book_alike t = eqb (length t.attributes) (length t.defaults)

abbrev pub fit_alike : Tables → Bool
fit_alike t = eqb (length t.base_attributes) (length t.base_values) && eqb (length t.buffs) (length t.buff_values)

-- "most records", of n tables from table a + 1 on
abbrev pub counted : Tables → ℕ → ℕ → Bool
counted t a n = every? (λ i. leb (get_or (counts_of t) i 0) (limit_of (suc i))) (from a n)

-- "Counts, .. depth and recording are the header's, place 0": of the book, and of the fit
unfoldable pub book_fits : Tables → Bool
book_fits t = book_alike t && counted t 0 5

unfoldable pub fit_fits : Tables → Bool
fit_fits t = fit_alike t && counted t 5 5 && leb 1 (number t.header 3) && leb (number t.header 3) 256 && leb (number t.header 4) 1

abbrev pub header_fits : Tables → Bool
header_fits t = book_fits t && fit_fits t

-- "header first, tables 1 to 10"
unfoldable pub tables_bad : Tables → Option ℕ
tables_bad t = elim (header_fits t) [
  | false ↦ some 0
  | true ↦ elim (book_bad (book_lent t)) [ some i ↦ some i | none ↦ fit_bad (fit_lent t) ]
]

-- M-106: of a book alone, and of a fit alone, "(place plus 20)"
unfoldable pub book_tables_bad : Tables → Option ℕ
book_tables_bad t = elim (book_fits t) [ false ↦ some 0 | true ↦ book_bad (book_lent t) ]

unfoldable pub fit_tables_bad : Tables → Option ℕ
fit_tables_bad t = plus20 (elim (fit_fits t) [ false ↦ some 0 | true ↦ fit_bad (fit_lent t) ])

-- ---- the sheet

-- a table as bytes: how wide a record is, how many, and record k
pub record Tab : Type 0 where
  pub width : ℕ
  pub count : ℕ
  pub bytes : ℕ → List ℕ

-- the first n numbers of a row
abbrev pub fields : ℕ → List ℕ → List ℕ
fields n r = map (number r) (from 0 n)

abbrev pub attribute_bytes : List ℕ → Float → List ℕ
attribute_bytes r x = words (take 2 (fields 4 r)) ++ (float x ++ words (drop 2 (fields 4 r)))

abbrev pub value_bytes : ℕ → Float → List ℕ
value_bytes n x = word n ++ float x

-- tables 1 to 10
abbrev pub attribute_tab : Tables → Tab
attribute_tab t =
    record { width = 24; count = length t.attributes; bytes = λ k. attribute_bytes (row t.attributes k) (value t.defaults k) }

abbrev pub effect_tab : Tables → Tab
effect_tab t = record { width = 24; count = length t.effects; bytes = λ k. words (fields 6 (row t.effects k)) }

abbrev pub modifier_tab : Tables → Tab
modifier_tab t = record { width = 28; count = length t.modifiers; bytes = λ k. words (fields 7 (row t.modifiers k)) }

abbrev pub type_effect_tab : Tables → Tab
type_effect_tab t = record { width = 12; count = length t.type_effects; bytes = λ k. words (fields 3 (row t.type_effects k)) }

abbrev pub buff_collection_tab : Tables → Tab
buff_collection_tab t = record { width = 16; count = length t.buff_collections; bytes = λ k. words (fields 4 (row t.buff_collections k)) }

abbrev pub object_tab : Tables → Tab
object_tab t = record { width = 68; count = length t.objects; bytes = λ k. words (fields 17 (row t.objects k)) }

abbrev pub base_tab : Tables → Tab
base_tab t =
    record { width = 12; count = length t.base_attributes; bytes = λ k. value_bytes (number t.base_attributes k) (value t.base_values k) }

abbrev pub id_tab : Tables → Tab
id_tab t = record { width = 4; count = length t.ids; bytes = λ k. word (number t.ids k) }

abbrev pub buff_tab : Tables → Tab
buff_tab t = record { width = 12; count = length t.buffs; bytes = λ k. value_bytes (number t.buffs k) (value t.buff_values k) }

abbrev pub ask_tab : Tables → Tab
ask_tab t = record { width = 8; count = length t.asks; bytes = λ k. words (fields 2 (row t.asks k)) }

abbrev pub book_tabs : Tables → List Tab
book_tabs t = attribute_tab t ∷ effect_tab t ∷ modifier_tab t ∷ type_effect_tab t ∷ buff_collection_tab t ∷ []

abbrev pub fit_tabs : Tables → List Tab
fit_tabs t = object_tab t ∷ base_tab t ∷ id_tab t ∷ buff_tab t ∷ ask_tab t ∷ []

-- counts and offsets of tables that stand from a place on: "Tables follow in order without gaps"
abbrev pub pairs_from : ℕ → List Tab → List ℕ
pairs_from at [] = []
pairs_from at (x ∷ xs) = x.count ∷ at ∷ pairs_from (at + x.width * x.count) xs

abbrev pub body_of : List Tab → List ℕ
body_of xs = flat (λ x. rows_of x.bytes x.count) xs

-- tables with their pairs and further numbers before them
abbrev pub file : ℕ → List Tab → List ℕ → List ℕ
file at tabs numbers = words (pairs_from at tabs ++ numbers) ++ body_of tabs

-- "A header of 100 bytes: ten pairs ..; then"
unfoldable pub sheet_of : Tables → List ℕ
sheet_of t = file 100 (book_tabs t ++ fit_tabs t) (fields 5 t.header)

-- M-106: a book's header has 52 bytes, a fit's 48
unfoldable pub book_file_of : Tables → List ℕ
book_file_of t = file 52 (book_tabs t) (fields 3 t.header)

unfoldable pub fit_file_of : Tables → List ℕ
fit_file_of t = file 48 (fit_tabs t) (number t.header 3 ∷ number t.header 4 ∷ [])

-- "SHAPE as in 01, then ROOM": n bytes are lent
pub data Written : Type 0 where
  sheet : List ℕ → Written
  shape : ℕ → Written
  full : Written

abbrev pub fitted : Bool → List ℕ → Written
fitted true b = sheet b
fitted false b = full

abbrev pub judged : Option ℕ → List ℕ → ℕ → Written
judged o b n = elim o [ some i ↦ shape i | none ↦ fitted (leb (length b) n) b ]

unfoldable pub written : Tables → ℕ → Written
written t n = judged (tables_bad t) (sheet_of t) n

unfoldable pub written_book : Tables → ℕ → Written
written_book t n = judged (book_tables_bad t) (book_file_of t) n

unfoldable pub written_fit : Tables → ℕ → Written
written_fit t n = judged (fit_tables_bad t) (fit_file_of t) n

-- ---- the tables of a sheet that is read

abbrev pub attribute_row : DogmaAttribute → List ℕ
attribute_row r = bits r.id ∷ r.flags ∷ bits r.min_attribute_id ∷ bits r.max_attribute_id ∷ []

abbrev pub effect_row : DogmaEffect → List ℕ
effect_row r =
    bits r.id ∷ r.category ∷ bits r.resistance_attribute_id ∷ bits r.usage_chance_attribute_id ∷ r.first_modifier ∷ r.modifiers ∷ []

abbrev pub modifier_row : DogmaModifier → List ℕ
modifier_row r =
    r.func ∷ r.domain ∷ r.operation ∷ bits r.modifying_attribute_id ∷ bits r.modified_attribute_id ∷ bits r.skill_type_id
    ∷ bits r.group_id ∷ []

abbrev pub type_effect_row : TypeDogmaEffect → List ℕ
type_effect_row r = bits r.type_id ∷ bits r.effect_id ∷ r.is_default ∷ []

abbrev pub buff_collection_row : DbuffCollection → List ℕ
buff_collection_row r = bits r.id ∷ r.operation ∷ r.first_modifier ∷ r.modifiers ∷ []

abbrev pub object_row : Item → List ℕ
object_row r =
    r.kind ∷ bits r.type_id ∷ bits r.group_id ∷ bits r.category_id ∷ r.slot ∷ r.quantity ∷ r.state ∷ r.max_state ∷ r.flags
    ∷ bits r.mutation_base ∷ bits r.projected_effect ∷ r.first_attribute ∷ r.attributes ∷ r.first_ability ∷ r.abilities
    ∷ r.first_side_effect ∷ r.side_effects ∷ []

abbrev pub ask_row : Ask → List ℕ
ask_row r = r.object ∷ bits r.attribute_id ∷ []

unfoldable pub tables_of : Book → Fit → Tables
tables_of k f =
    record {
      header = bits k.modules ∷ bits k.subsystems ∷ bits k.structure_modules ∷ f.depth ∷ f.recording ∷ [];
      attributes = map attribute_row k.attributes;
      defaults = map (λ r. r.default_value) k.attributes;
      effects = map effect_row k.effects;
      modifiers = map modifier_row k.modifiers;
      type_effects = map type_effect_row k.type_effects;
      buff_collections = map buff_collection_row k.buff_collections;
      objects = map object_row f.objects;
      base_attributes = map (λ r. bits r.attribute_id) f.bases;
      base_values = map (λ r. r.value) f.bases;
      ids = map bits f.ids;
      buffs = map (λ r. bits r.id) f.buffs;
      buff_values = map (λ r. r.value) f.buffs;
      asks = map ask_row f.asks;
    }

abbrev pub tables_in : List ℕ → Tables
tables_in b = tables_of (book_of b (pairs_of b)) (fit_of b (pairs_of b))

-- ---- the tables of a call, from columns: all, a book's alone, a fit's alone

abbrev pub book_tables : List ℕ → List (List ℕ) → List Float → List (List ℕ) → List (List ℕ) → List (List ℕ) → List (List ℕ)
    → Tables
book_tables h a d e m y b =
    record {
      header = h;
      attributes = a;
      defaults = d;
      effects = e;
      modifiers = m;
      type_effects = y;
      buff_collections = b;
      objects = [];
      base_attributes = [];
      base_values = [];
      ids = [];
      buffs = [];
      buff_values = [];
      asks = [];
    }

-- h has depth and recording
abbrev pub fit_tables : List ℕ → List (List ℕ) → List ℕ → List Float → List ℕ → List ℕ → List Float → List (List ℕ)
    → Tables
fit_tables h o v w i p q k =
    record {
      header = 0 ∷ 0 ∷ 0 ∷ h;
      attributes = [];
      defaults = [];
      effects = [];
      modifiers = [];
      type_effects = [];
      buff_collections = [];
      objects = o;
      base_attributes = v;
      base_values = w;
      ids = i;
      buffs = p;
      buff_values = q;
      asks = k;
    }

-- a book's and a fit's together, under a header of their own
abbrev pub together : List ℕ → Tables → Tables → Tables
together h t u =
    record {
      header = h;
      attributes = t.attributes;
      defaults = t.defaults;
      effects = t.effects;
      modifiers = t.modifiers;
      type_effects = t.type_effects;
      buff_collections = t.buff_collections;
      objects = u.objects;
      base_attributes = u.base_attributes;
      base_values = u.base_values;
      ids = u.ids;
      buffs = u.buffs;
      buff_values = u.buff_values;
      asks = u.asks;
    }

-- bytes of a book's tables, and of a fit's
abbrev pub book_length : Tables → ℕ
book_length t =
    24 * length t.attributes + 24 * length t.effects + 28 * length t.modifiers + 12 * length t.type_effects
    + 16 * length t.buff_collections

abbrev pub fit_length : Tables → ℕ
fit_length t =
    68 * length t.objects + 12 * length t.base_attributes + 4 * length t.ids + 12 * length t.buffs + 8 * length t.asks
