-- What the condition of no-memory lets in and rules out: on case L, and on sheets with limits, with a resistance and with an effect
-- that does not run, no attribute leads back to itself, and on case L asks change what is calculated first but no value; on four sheets with a loop, one for each way to need an attribute, they or recording change one.
use Prim.Native.Nat.{ℕ}
use mathlib.Core.Path.{◌≡◌, refl}
use mathlib.Core.Bool.{Bool, true, false, cond}
use mathlib.Core.List.{List, [], ◌∷◌, map}
use mathlib.Core.Option.{Option, some}
use lib.IntN.{pos}
use lib.Ieee.{Float, binary64, of_int}
use Rattle.laws.proofs.Bools.{both_ways}
use Rattle.rules.specs.Answer.{Res, ok, refused}
use Rattle.rules.specs.Dispatch.{Key, same_key}
use Rattle.rules.specs.Outcome.{Lent, Done, outcome}
use Rattle.rules.specs.Fresh.{last, next, LeadsBack}
use Rattle.rules.specs.declared.Refusal.TheVariants.{Depth}
use Rattle.rules.proofs.Everything.{everything}
use Rattle.rules.proofs.Marked.{lent, case_l, limited, looped}
use Rattle.rules.proofs.Loops.{limiting, resisting, idling, recorded, resisted_once, idle_once, of_ship}
use Rattle.rules.proofs.Ranked.{ranked}
use Rattle.rules.proofs.Written.{ask}
use Rattle.promises.specs.NoMemory.{NoLoop, SameButAsks, book_in, fit_in, world_in}
use Rattle.promises.proofs.NoMemory.{same_values}

-- ---- the sheets

abbrev values_of : Res Done → List (Option Float)
values_of (ok d) = d.values
values_of (refused r) = []

abbrev done? : Res Done → Bool
done? (ok d) = true
done? (refused r) = false

-- on case L, the items' strengths go first
abbrev strengths_first : List (List ℕ)
strengths_first = ask 2 20 ∷ ask 3 20 ∷ []

-- one attribute of the ship above all others: it alone needs any
abbrev above : ℕ → Key → ℕ
above a x = cond (same_key x (of_ship a)) 1 0

-- two sheets that differ in asks, depth and recording alone, on which an attribute leads back to itself, and their values
pub record Changes (b c : List ℕ) (a : Key) (u v : List ℕ) : Type 0 where
  pub loop : LeadsBack (world_in b lent) a
  pub one_book : book_in b ≡ book_in c
  pub one_fit : SameButAsks (fit_in b) (fit_in c)
  pub first : values_of (outcome b lent) ≡ map (λ n. some (of_int binary64 (pos n))) u
  pub second : values_of (outcome c lent) ≡ map (λ n. some (of_int binary64 (pos n))) v

pub record LoopMatters : Type 0 where
  -- case L has no loop: at depth 1 it is done only with the strengths asked first, and its values are those of the walk at depth 2
  pub free : NoLoop (world_in (case_l 2 []) lent)
  pub walked : outcome (case_l 1 []) lent ≡ refused (Depth 2)
  pub asked : done? (outcome (case_l 1 strengths_first) lent) ≡ true
  pub same : values_of (outcome (case_l 2 []) lent) ≡ values_of (outcome (case_l 1 strengths_first) lent)
  -- nor has a sheet with limits, one with a resistance, and one with an effect that does not run
  pub free_limits : NoLoop (world_in limited lent)
  pub free_resistance : NoLoop (world_in resisted_once lent)
  pub free_idle : NoLoop (world_in idle_once lent)
  -- document 01's A and B: "walk gives A 21, B 11; asked B first, A 11, B 12"
  pub by_sources : Changes (looped []) (looped (ask 0 37 ∷ [])) (of_ship 20) (21 ∷ 11 ∷ []) (11 ∷ 12 ∷ [])
  -- a loop through limits, and one through a resistance: an ask changes values
  pub by_limits : Changes (limiting []) (limiting (ask 0 37 ∷ [])) (of_ship 20) (4 ∷ 4 ∷ []) (5 ∷ 5 ∷ [])
  pub by_resistance : Changes (resisting []) (resisting (ask 0 50 ∷ [])) (of_ship 37) (17 ∷ 3 ∷ 5 ∷ []) (7 ∷ 8 ∷ 5 ∷ [])
  -- a loop through an effect that does not run: recording changes a value
  pub by_idle : Changes idling (recorded idling) (of_ship 20) (110 ∷ 111 ∷ 100 ∷ []) (110 ∷ 11 ∷ 100 ∷ [])

-- two runs that are done, on sheets that differ in asks, depth and recording alone, where nothing leads back to itself
values_agree : (b c : List ℕ) (l m : Lent) → book_in b ≡ book_in c → SameButAsks (fit_in b) (fit_in c) → NoLoop (world_in b l) → done? (outcome b l) ≡ true → done? (outcome c m) ≡ true → values_of (outcome b l) ≡ values_of (outcome c m)
values_agree b c l m book fit free h j = by (outcome b l) (outcome c m) refl refl h j
  where
    by : (x y : Res Done) → outcome b l ≡ x → outcome c m ≡ y → done? x ≡ true → done? y ≡ true → values_of x ≡ values_of y
    by (ok d) (ok e) p q s t = (same_values b c l m d e p q book fit free).1
    by (ok d) (refused r) p q s t = both_ways t refl
    by (refused r) y p q s t = both_ways s refl

l_free : NoLoop (world_in (case_l 2 []) lent)
unfolding everything
l_free = ranked (world_in (case_l 2 []) lent) (above 37) refl

pub loop_matters : LoopMatters
unfolding everything
loop_matters =
    record {
      free = l_free;
      walked = refl;
      asked = refl;
      same = values_agree (case_l 2 []) (case_l 1 strengths_first) lent lent refl (record { objects = refl; bases = refl; ids = refl; buffs = refl }) l_free refl refl;
      free_limits = ranked (world_in limited lent) (above 20) refl;
      free_resistance = ranked (world_in resisted_once lent) (above 37) refl;
      free_idle = ranked (world_in idle_once lent) (above 20) refl;
      by_sources =
          record {
            loop = next {b = of_ship 37} tt (last tt);
            one_book = refl;
            one_fit = record { objects = refl; bases = refl; ids = refl; buffs = refl };
            first = refl;
            second = refl;
          };
      by_limits =
          record {
            loop = next {b = of_ship 37} tt (last tt);
            one_book = refl;
            one_fit = record { objects = refl; bases = refl; ids = refl; buffs = refl };
            first = refl;
            second = refl;
          };
      by_resistance =
          record {
            loop = next {b = of_ship 50} tt (last tt);
            one_book = refl;
            one_fit = record { objects = refl; bases = refl; ids = refl; buffs = refl };
            first = refl;
            second = refl;
          };
      by_idle =
          record {
            loop = next {b = of_ship 37} tt (last tt);
            one_book = refl;
            one_fit = record { objects = refl; bases = refl; ids = refl; buffs = refl };
            first = refl;
            second = refl;
          };
    }
