-- What leads back to itself, and the value with no memory, on small sheets, by computing the definition.
-- must-fail/ has edits of that definition, which this theorem refuses.
use Prim.Native.Nat.{ℕ}
use mathlib.Core.Path.{◌≡◌, refl}
use mathlib.Core.Bool.{cond}
use mathlib.Core.List.{List, [], ◌∷◌}
use lib.IntN.{pos}
use lib.Ieee.{binary64, of_int}
use lib.Dec.{T}
use lib.ListN.{set}
use Rattle.laws.specs.Lists.{some?}
use Rattle.rules.specs.Answer.{ok, refused}
use Rattle.rules.specs.Bytes.{pairs_of}
use Rattle.rules.specs.Sheet.{book_of, fit_of}
use Rattle.rules.specs.Dispatch.{Key, same_key}
use Rattle.rules.specs.Outcome.{world_of}
use Rattle.rules.specs.Value.{World}
use Rattle.rules.specs.Fresh.{fresh, needs_at, last, next, LeadsBack}
use Rattle.rules.specs.declared.Refusal.TheVariants.{Depth}
use Rattle.rules.proofs.Everything.{everything}
use Rattle.rules.proofs.Written.{whole, attribute, effect, modifier, type_effect, object, hull, base, sheet}
use Rattle.rules.proofs.Marked.{Prints, case_l, limited, looped}
use Rattle.rules.proofs.Ranked.{ranked}

-- ---- the sheets

-- the ship's 20 has its 37 as its least, and 37 has 20 as its most
abbrev pub limiting : List (List ℕ) → List ℕ
limiting asks =
    sheet 2 (attribute 20 0 0 37 0 ∷ attribute 37 0 0 0 20 ∷ []) [] [] [] (hull 0 0 0 2 ∷ hull 2 0 0 0 ∷ []) (base 20 (whole 4) ∷ base 37 (whole 5) ∷ []) asks

-- a projected object adds its 20 to the ship's 37, by the ship's resistance 50, and the ship adds 37 to 50
abbrev pub resisting : List (List ℕ) → List ℕ
resisting asks =
    sheet 3 []
    (effect 1 0 50 0 1 ∷ effect 2 0 0 1 1 ∷ [])
    (modifier 4 5 3 20 37 0 ∷ modifier 4 0 3 37 50 0 ∷ [])
    (type_effect 8 2 ∷ [])
    (hull 0 8 0 2 ∷ hull 2 0 0 0 ∷ object 6 0 0 0 1 0 1 2 1 ∷ [])
    (base 37 (whole 2) ∷ base 50 (whole 1) ∷ base 20 (whole 5) ∷ [])
    asks

-- the ship adds 37 to 20 by an effect that does not run, then 50 to 20, and 20 to 37
abbrev pub idling : List ℕ
idling =
    sheet 2 []
    (effect 1 2 0 0 1 ∷ effect 2 0 0 1 2 ∷ [])
    (modifier 4 0 3 37 20 0 ∷ modifier 4 0 3 50 20 0 ∷ modifier 4 0 3 20 37 0 ∷ [])
    (type_effect 8 1 ∷ type_effect 8 2 ∷ [])
    (hull 0 8 0 3 ∷ hull 2 0 0 0 ∷ [])
    (base 20 (whole 10) ∷ base 37 (whole 1) ∷ base 50 (whole 100) ∷ [])
    []

-- the same sheet with sources recorded
abbrev pub recorded : List ℕ → List ℕ
recorded b = set b 96 1

-- the ship's 20, its only row, has 37 as its least
abbrev pub lone : List ℕ
lone = sheet 1 (attribute 20 0 0 37 0 ∷ []) [] [] [] (hull 0 0 0 1 ∷ hull 2 0 0 0 ∷ []) (base 20 (whole 4) ∷ []) []

-- the ship's 20 is its own least
abbrev pub own_limit : List ℕ
own_limit = sheet 1 (attribute 20 0 0 20 0 ∷ []) [] [] [] (hull 0 0 0 1 ∷ hull 2 0 0 0 ∷ []) (base 20 (whole 4) ∷ []) []

-- a projected object adds its 20 to the ship's 37, by the ship's resistance 50, and nothing changes 50
abbrev pub resisted_once : List ℕ
resisted_once =
    sheet 3 [] (effect 1 0 50 0 1 ∷ []) (modifier 4 5 3 20 37 0 ∷ []) []
    (hull 0 0 0 2 ∷ hull 2 0 0 0 ∷ object 6 0 0 0 1 0 1 2 1 ∷ [])
    (base 37 (whole 2) ∷ base 50 (whole 3) ∷ base 20 (whole 5) ∷ [])
    []

-- the ship adds 37 to 20 by an effect that does not run, and nothing changes 37
abbrev pub idle_once : List ℕ
idle_once =
    sheet 2 [] (effect 1 2 0 0 1 ∷ []) (modifier 4 0 3 37 20 0 ∷ []) (type_effect 8 1 ∷ [])
    (hull 0 8 0 2 ∷ hull 2 0 0 0 ∷ [])
    (base 20 (whole 10) ∷ base 37 (whole 1) ∷ [])
    []

-- what values are calculated from, with no room for source rows
abbrev pub world_from : List ℕ → World
world_from b = world_of (book_of b (pairs_of b)) (fit_of b (pairs_of b)) 0

abbrev pub of_ship : ℕ → Key
of_ship a = record { object = 0; id = pos a }

-- ---- the theorem

-- a needs c directly, and yet no attribute of the sheet leads back to itself
pub record Free (b : List ℕ) (a c : Key) : Type 0 where
  pub needs : T (some? (same_key c) (needs_at (world_from b) a))
  pub free : (x : Key) → LeadsBack (world_from b) x → ⊥

-- the ship's attribute a stands over all others
abbrev over : ℕ → Key → ℕ
over a x = cond (same_key x (of_ship a)) 1 0

pub record Loops : Type 0 where
  -- through a source, a limit, a resistance, and a source that does not run
  pub source : LeadsBack (world_from (looped [])) (of_ship 20)
  pub limits : LeadsBack (world_from (limiting [])) (of_ship 20)
  pub resistance : LeadsBack (world_from (resisting [])) (of_ship 37)
  pub idle : LeadsBack (world_from idling) (of_ship 20)
  pub itself : LeadsBack (world_from own_limit) (of_ship 20)
  -- each of the four is needed, and makes no loop of itself: the sheets' values are the walk's
  pub free_source : Free (case_l 2 []) (of_ship 37) (record { object = 2; id = pos 20 })
  pub free_least : Free limited (of_ship 20) (of_ship 37)
  pub free_most : Free limited (of_ship 20) (of_ship 38)
  pub free_resistance : Free resisted_once (of_ship 37) (of_ship 50)
  pub free_idle : Free idle_once (of_ship 20) (of_ship 37)
  pub resisted : Prints resisted_once "rows 3\n0 37 17.00\n0 50 3.00\n2 20 5.00\n"
  pub not-run : Prints idle_once "rows 2\n0 20 10.00\n0 37 1.00\n"
  -- what needs nothing leads nowhere
  pub nowhere : LeadsBack (world_from (case_l 2 [])) (record { object = 2; id = pos 20 }) → ⊥
  -- with no memory a loop comes to no value
  pub endless : fresh (world_from (looped [])) 0 (pos 20) ≡ refused (Depth 0)
  -- and no source row is noted and no idle source read, though sources be recorded
  pub unrecorded : fresh (world_from (recorded idling)) 0 (pos 20) ≡ ok (of_int binary64 (pos 110))
  -- one row, and what it needs beside it
  pub deep : fresh (world_from lone) 0 (pos 20) ≡ ok (of_int binary64 (pos 4))

pub loops : Loops
unfolding everything
loops =
    record {
      source = next {b = of_ship 37} tt (last tt);
      limits = next {b = of_ship 37} tt (last tt);
      resistance = next {b = of_ship 50} tt (last tt);
      idle = next {b = of_ship 37} tt (last tt);
      itself = last tt;
      free_source = record { needs = tt; free = ranked (world_from (case_l 2 [])) (over 37) refl };
      free_least = record { needs = tt; free = ranked (world_from limited) (over 20) refl };
      free_most = record { needs = tt; free = ranked (world_from limited) (over 20) refl };
      free_resistance = record { needs = tt; free = ranked (world_from resisted_once) (over 37) refl };
      free_idle = record { needs = tt; free = ranked (world_from idle_once) (over 20) refl };
      resisted = refl;
      not-run = refl;
      nowhere = no_way;
      endless = refl;
      unrecorded = refl;
      deep = refl;
    }
  where
    no_way : LeadsBack (world_from (case_l 2 [])) (record { object = 2; id = pos 20 }) → ⊥
    no_way (last h) = h
    no_way (next h l) = h
