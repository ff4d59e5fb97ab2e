-- The marked examples, by computation: case L's tables are written as case L's bytes, and what each broken table gets; as a book and as a
-- fit too.
use Prim.Native.Nat.{ℕ}
use mathlib.Core.Path.{◌≡◌, refl}
use mathlib.Core.List.{List, [], ◌∷◌}
use mathlib.Core.Option.{some}
use lib.ListN.{length, drop, replicate}
use lib.Ieee.{Float, nan, binary64, of_bits}
use Rattle.laws.specs.Floats.{zero_f}
use Rattle.rules.proofs.Everything.{everything}
use Rattle.rules.proofs.Written.{whole, hexadecimal}
use Rattle.rules.proofs.Marked.{bytes_l}
use Rattle.tables.specs.Layout.{word, words, float}
use Rattle.tables.specs.Tables.{Tables, Written, sheet, shape, full, written, written_book, written_fit, book_lent, fit_lent, book_fits, fit_fits, tables_bad, book_tables_bad, fit_tables_bad, sheet_of, book_file_of, fit_file_of}

abbrev of : ℕ → Float
of n = of_bits binary64 (whole n)

abbrev object : ℕ → ℕ → ℕ → ℕ → ℕ → ℕ → ℕ → ℕ → List ℕ
object kind type category slot quantity state first count =
    kind ∷ type ∷ 0 ∷ category ∷ slot ∷ quantity ∷ state ∷ 0 ∷ 0 ∷ 0 ∷ 0 ∷ first ∷ count ∷ 0 ∷ 0 ∷ 0 ∷ 0 ∷ []

abbrev module_l : ℕ → List ℕ
module_l first = object 3 9 7 3 1 1 first 1

abbrev objects_l : List (List ℕ)
objects_l = object 0 0 0 0 0 0 0 1 ∷ object 2 0 0 0 0 0 0 0 ∷ module_l 1 ∷ module_l 1 ∷ []

abbrev attributes_l : List (List ℕ)
attributes_l = (20 ∷ 2 ∷ 0 ∷ 0 ∷ []) ∷ (37 ∷ 2 ∷ 0 ∷ 0 ∷ []) ∷ []

-- case L with these depth, recording, attributes, defaults, default of the type's effect, objects, base values and asks
abbrev tables : ℕ → ℕ → List (List ℕ) → List Float → ℕ → List (List ℕ) → List Float → List (List ℕ) → Tables
tables depth recording attributes defaults default objects values asks =
    record {
      header = 7 ∷ 0 ∷ 0 ∷ depth ∷ recording ∷ [];
      attributes = attributes;
      defaults = defaults;
      effects = (1 ∷ 1 ∷ 0 ∷ 0 ∷ 0 ∷ 1 ∷ []) ∷ [];
      modifiers = (4 ∷ 1 ∷ 7 ∷ 20 ∷ 37 ∷ 0 ∷ 0 ∷ []) ∷ [];
      type_effects = (9 ∷ 1 ∷ default ∷ []) ∷ [];
      buff_collections = [];
      objects = objects;
      base_attributes = 37 ∷ 20 ∷ [];
      base_values = values;
      ids = [];
      buffs = [];
      buff_values = [];
      asks = asks;
    }

abbrev values_l : List Float
values_l = of 200 ∷ of 50 ∷ []

abbrev none2 : List Float
none2 = zero_f ∷ zero_f ∷ []

abbrev L : Tables
L = tables 2 0 attributes_l none2 0 objects_l values_l []

-- ship and char alone, with these base attributes and values
abbrev bare : ℕ → List ℕ → List Float → Tables
bare count attributes values =
    record {
      header = 7 ∷ 0 ∷ 0 ∷ 2 ∷ 0 ∷ [];
      attributes = [];
      defaults = [];
      effects = [];
      modifiers = [];
      type_effects = [];
      buff_collections = [];
      objects = object 0 0 0 0 0 0 0 count ∷ object 2 0 0 0 0 0 0 0 ∷ [];
      base_attributes = attributes;
      base_values = values;
      ids = [];
      buffs = [];
      buff_values = [];
      asks = [];
    }

-- the bits of -0.0 and of 5e-324
abbrev odd : Tables
odd = bare 2 (20 ∷ 37 ∷ []) (of_bits binary64 9223372036854775808 ∷ of_bits binary64 1 ∷ [])

abbrev size_of : Written → ℕ
size_of (sheet b) = length b
size_of (shape i) = 0
size_of full = 0

abbrev behind : ℕ → Written → List ℕ
behind n (sheet b) = drop n b
behind n (shape i) = []
behind n full = []

pub record Marked : Type 0 where
  -- 1
  pub bytes : written L 508 ≡ sheet (hexadecimal bytes_l)
  pub more_room : written L 600 ≡ sheet (hexadecimal bytes_l)
  pub no_room : written L 507 ≡ full
  pub no_bytes : written L 0 ≡ full
  -- 2
  pub not_finite : written (tables 2 0 attributes_l (nan ∷ zero_f ∷ []) 0 objects_l values_l []) 508 ≡ shape 1
  pub order : written (tables 2 0 ((37 ∷ 2 ∷ 0 ∷ 0 ∷ []) ∷ (20 ∷ 2 ∷ 0 ∷ 0 ∷ []) ∷ []) none2 0 objects_l values_l []) 508 ≡ shape 1
  pub order_first : written (tables 2 0 ((37 ∷ 2 ∷ 0 ∷ 0 ∷ []) ∷ (20 ∷ 2 ∷ 0 ∷ 0 ∷ []) ∷ []) none2 0 objects_l values_l []) 0 ≡ shape 1
  -- 3
  pub depth_0 : written (tables 0 0 attributes_l none2 0 objects_l values_l []) 508 ≡ shape 0
  pub depth_257 : written (tables 257 0 attributes_l none2 0 objects_l values_l []) 508 ≡ shape 0
  pub recording_2 : written (tables 2 2 attributes_l none2 0 objects_l values_l []) 508 ≡ shape 0
  pub too_many : tables_bad (tables 2 0 (replicate 2049 (0 ∷ 0 ∷ 0 ∷ 0 ∷ [])) (replicate 2049 nan) 0 objects_l values_l []) ≡ some 0
  pub unlike : written (tables 2 0 attributes_l none2 0 objects_l (of 200 ∷ of 50 ∷ nan ∷ []) []) 508 ≡ shape 0
  -- 4
  pub no_object : written (tables 2 0 attributes_l none2 0 objects_l values_l ((4 ∷ 1 ∷ []) ∷ [])) 516 ≡ shape 10
  pub outside : written (tables 2 0 attributes_l none2 0 (object 0 0 0 0 0 0 0 1 ∷ object 2 0 0 0 0 0 0 0 ∷ module_l 2 ∷ module_l 1 ∷ []) values_l []) 508 ≡ shape 6
  pub default_2 : written (tables 2 0 attributes_l none2 2 objects_l values_l []) 508 ≡ shape 4
  pub no_objects : written (tables 2 0 attributes_l none2 0 [] values_l []) 508 ≡ shape 6
  -- 5
  pub empty : size_of (written (bare 0 [] []) 236) ≡ 236
  -- 6
  pub bits : behind 236 (written odd 260) ≡ words (20 ∷ 0 ∷ 2147483648 ∷ 37 ∷ 1 ∷ 0 ∷ [])
  -- the two files
  pub book : size_of (written_book L 164) ≡ 164
  pub fit : size_of (written_fit L 344) ≡ 344
  pub book_room : written_book L 163 ≡ full
  pub fit_room : written_fit L 343 ≡ full
  pub book_order : written_book (tables 0 2 ((37 ∷ 2 ∷ 0 ∷ 0 ∷ []) ∷ (20 ∷ 2 ∷ 0 ∷ 0 ∷ []) ∷ []) none2 0 [] values_l []) 0 ≡ shape 1
  pub fit_header : written_fit (tables 0 0 [] none2 0 objects_l values_l []) 344 ≡ shape 20
  pub fit_objects : written_fit (tables 2 0 attributes_l none2 0 [] values_l []) 344 ≡ shape 26
  pub fit_asks : written_fit (tables 2 0 attributes_l none2 0 objects_l values_l ((4 ∷ 1 ∷ []) ∷ [])) 400 ≡ shape 30

pub marked : Marked
unfolding everything word float book_lent fit_lent book_fits fit_fits tables_bad book_tables_bad fit_tables_bad sheet_of book_file_of fit_file_of written written_book written_fit
marked =
    record {
      bytes = refl;
      more_room = refl;
      no_room = refl;
      no_bytes = refl;
      not_finite = refl;
      order = refl;
      order_first = refl;
      depth_0 = refl;
      depth_257 = refl;
      recording_2 = refl;
      too_many = refl;
      unlike = refl;
      no_object = refl;
      outside = refl;
      default_2 = refl;
      no_objects = refl;
      empty = refl;
      bits = refl;
      book = refl;
      fit = refl;
      book_room = refl;
      fit_room = refl;
      book_order = refl;
      fit_header = refl;
      fit_objects = refl;
      fit_asks = refl;
    }
