-- The marked cases of document 01, "Cases to prove together (with L)", in one theorem, by computing the definition.
use Prim.Native.Nat.{ℕ}
use Prim.Native.String.{String}
use mathlib.Core.Path.{◌≡◌, refl}
use mathlib.Core.List.{List, [], ◌∷◌, ◌++◌}
use lib.ListN.{length}
use Rattle.rules.specs.Outcome.{outcome, Lent}
use Rattle.rules.specs.Listing.{listing, ascii}
use Rattle.rules.proofs.Everything.{everything}
use Rattle.rules.proofs.Written.{whole, attribute, effect, modifier, type_effect, object, hull, fitted, base, ask, sheet, hexadecimal}

-- "lends every list room for 4,096"
abbrev pub lent : Lent
lent =
    record {
      collected = 4096;
      collected_values = 4096;
      rows = 4096;
      bases = 4096;
      values = 4096;
      entries = 4096;
      entry_values = 4096;
      plain = 4096;
      sources = 4096;
      source_floats = 4096;
    }

-- a sheet's listing is this text
abbrev pub Prints : List ℕ → String → Type 0
Prints b text = listing (outcome b lent) ≡ ascii text

-- ---- the sheets

-- case L, at a depth and with asks
abbrev pub case_l : ℕ → List (List ℕ) → List ℕ
case_l depth asks =
    sheet depth
    (attribute 20 2 0 0 0 ∷ attribute 37 2 0 0 0 ∷ [])
    (effect 1 1 0 0 1 ∷ [])
    (modifier 4 1 7 20 37 0 ∷ [])
    (type_effect 9 1 ∷ [])
    (hull 0 0 0 1 ∷ hull 2 0 0 0 ∷ fitted 3 1 1 1 1 ∷ fitted 3 1 1 1 1 ∷ [])
    (base 37 (whole 200) ∷ base 20 (whole 50) ∷ [])
    asks

-- its bytes as they stand, in hexadecimal
abbrev pub bytes_l : String
bytes_l =
    "0200000064000000010000009400000001000000ac00000001000000c800000000000000d400000004000000d400000002000000e401000000000000fc01000000000000fc01000000000000fc0100000700000000000000000000000200000000000000140000000200000000000000000000000000000000000000250000000200000000000000000000000000000000000000010000000100000000000000000000000000000001000000040000000100000007000000140000002500000000000000000000000900000001000000000000000000000000000000000000000000000000000000000000000000000000000000000000000000000000000000000000000100000000000000000000000000000000000000020000000000000000000000000000000000000000000000000000000000000000000000000000000000000000000000000000000000000000000000000000000000000003000000090000000000000007000000030000000100000001000000000000000000000000000000000000000100000001000000000000000000000000000000000000000300000009000000000000000700000003000000010000000100000000000000000000000000000000000000010000000100000000000000000000000000000000000000250000000000000000006940140000000000000000004940"

-- the ship's 37, with flags, by an operation with two items' strengths, each of a quantity; the second may have 0
abbrev pub changed : ℕ → ℕ → ℕ → ℕ → ℕ → ℕ → List ℕ
changed flags operation start first quantity second =
    sheet 2
    (attribute 20 0 0 0 0 ∷ attribute 37 flags 0 0 0 ∷ [])
    (effect 1 1 0 0 1 ∷ [])
    (modifier 4 1 operation 20 37 0 ∷ [])
    (type_effect 9 1 ∷ [])
    (hull 0 0 0 1 ∷ hull 2 0 0 0 ∷ fitted 3 quantity 1 1 1 ∷ fitted 3 second 1 2 1 ∷ [])
    (base 37 start ∷ base 20 first ∷ base 20 (whole 5) ∷ [])
    []

-- the ship's 20, which has 37 as its least and 38 as its most
abbrev pub limited : List ℕ
limited =
    sheet 2 (attribute 20 0 0 37 38 ∷ []) [] [] [] (hull 0 0 0 3 ∷ hull 2 0 0 0 ∷ []) (base 20 (whole 4) ∷ base 37 (whole 5) ∷ base 38 (whole 3) ∷ []) []

-- the ship adds 5 to 37 of whatever in it requires a skill; an item has a base of 182
abbrev pub skilled : ℕ → ℕ → List ℕ
skilled skill required =
    sheet 2 []
    (effect 1 0 0 0 1 ∷ [])
    (modifier 0 1 3 20 37 skill ∷ [])
    (type_effect 8 1 ∷ [])
    (object 0 8 0 0 1 0 0 0 1 ∷ hull 2 0 0 0 ∷ fitted 3 1 1 1 2 ∷ [])
    (base 20 (whole 5) ∷ base 37 (whole 1) ∷ base 182 required ∷ [])
    []

-- a projected object adds its 20 to the ship's 37; it has 2138, and the ship has 0 and 1
abbrev pub projected : ℕ → List ℕ
projected named =
    sheet 2 []
    (effect 1 0 0 0 1 ∷ [])
    (modifier 4 5 3 20 37 0 ∷ [])
    []
    (hull 0 0 0 3 ∷ hull 2 0 0 0 ∷ object 6 0 0 0 1 0 1 3 2 ∷ [])
    (base 0 0 ∷ base 1 0 ∷ base 37 (whole 2) ∷ base 20 (whole 5) ∷ base 2138 named ∷ [])
    []

-- one object: 20 of base 10 adds 37, and 37 of base 1 adds 20
abbrev pub looped : List (List ℕ) → List ℕ
looped asks =
    sheet 2 []
    (effect 1 0 0 0 2 ∷ [])
    (modifier 4 0 3 37 20 0 ∷ modifier 4 0 3 20 37 0 ∷ [])
    (type_effect 8 1 ∷ [])
    (hull 0 8 0 2 ∷ hull 2 0 0 0 ∷ [])
    (base 20 (whole 10) ∷ base 37 (whole 1) ∷ [])
    asks

-- an item divides the char's 37 by its own 20, which is 0
abbrev pub divided : List ℕ
divided =
    sheet 2 []
    (effect 1 1 0 0 1 ∷ [])
    (modifier 4 2 6 20 37 0 ∷ [])
    (type_effect 9 1 ∷ [])
    (hull 0 0 0 0 ∷ hull 2 0 0 1 ∷ fitted 3 1 1 1 1 ∷ [])
    (base 37 (whole 8) ∷ base 20 0 ∷ [])
    []

-- ---- the theorem

pub record Marked : Type 0 where
  -- "Case L, 508 bytes"
  pub size : length (case_l 2 []) ≡ 508
  pub bytes : case_l 2 [] ≡ hexadecimal bytes_l
  pub case_l_lem : Prints (case_l 2 []) "rows 3\n0 37 430.37\n2 20 50.00\n3 20 50.00\n"
  -- "L at depth 1: refused 9 2. With asks (2, 20), (3, 20) first: DONE at depth 1"
  pub depth_1 : Prints (case_l 1 []) "refused 9 2\n"
  pub asked-first : Prints (case_l 1 (ask 2 20 ∷ ask 3 20 ∷ [])) "rows 3\n0 37 430.37\n2 20 50.00\n3 20 50.00\n"
  -- "PreAssign 3 and 5: 5 if high is good, else 3"
  pub assign_high : Prints (changed 2 0 (whole 10) (whole 3) 1 1) "rows 3\n0 37 5.00\n2 20 3.00\n3 20 5.00\n"
  pub assign-low : Prints (changed 0 0 (whole 10) (whole 3) 1 1) "rows 3\n0 37 3.00\n2 20 3.00\n3 20 5.00\n"
  -- "ModAdd 2, quantity 3, on 10: 16. ModSub 2, quantity 1, on 10: 8. PreDiv by 4 on 8, quantity 1: 2"
  pub mod_add : Prints (changed 0 3 (whole 10) (whole 2) 3 0) "rows 3\n0 37 16.00\n2 20 2.00\n3 20 5.00\n"
  pub mod_sub : Prints (changed 0 4 (whole 10) (whole 2) 1 0) "rows 3\n0 37 8.00\n2 20 2.00\n3 20 5.00\n"
  pub pre_div : Prints (changed 0 2 (whole 8) (whole 4) 1 0) "rows 3\n0 37 2.00\n2 20 4.00\n3 20 5.00\n"
  -- "Value 4, min 5, max 3: 3"
  pub clamps : Prints limited "rows 3\n0 20 3.00\n0 37 5.00\n0 38 3.00\n"
  -- "Skill base 3.9 gives 3; -3.9 gives -3; 3,000,000,000 gives 2,147,483,647"
  pub skill_cut : Prints (skilled 3 0x400f_3333_3333_3333) "rows 3\n0 20 5.00\n2 37 6.00\n2 182 3.90\n"
  pub skill_cut_up : Prints (skilled 0xffff_fffd 0xc00f_3333_3333_3333) "rows 3\n0 20 5.00\n2 37 6.00\n2 182 -3.90\n"
  pub skill_held : Prints (skilled 2147483647 (whole 3000000000)) "rows 3\n0 20 5.00\n2 37 6.00\n2 182 3000000000.00\n"
  -- "Attribute 2138 at 0.9, the effect's own resistance 0: none"
  pub not_resisted : Prints (projected 0x3fec_cccc_cccc_cccd) "rows 5\n0 0 0.00\n0 1 0.00\n0 37 7.00\n2 20 5.00\n2 2138 0.90\n"
  -- "walk gives A 21, B 11; asked B first, A 11, B 12"
  pub loop-walked : Prints (looped []) "rows 2\n0 20 21.00\n0 37 11.00\n"
  pub loop-asked : Prints (looped (ask 0 37 ∷ [])) "rows 2\n0 20 11.00\n0 37 12.00\n"
  -- "PostDiv by 0: refused 8, place the object divided"
  pub divided_by_0 : Prints divided "refused 8 1\n"

pub marked : Marked
unfolding everything
marked =
    record {
      size = refl;
      bytes = refl;
      case_l_lem = refl;
      depth_1 = refl;
      asked-first = refl;
      assign_high = refl;
      assign-low = refl;
      mod_add = refl;
      mod_sub = refl;
      pre_div = refl;
      clamps = refl;
      skill_cut = refl;
      skill_cut_up = refl;
      skill_held = refl;
      not_resisted = refl;
      loop-walked = refl;
      loop-asked = refl;
      divided_by_0 = refl;
    }
