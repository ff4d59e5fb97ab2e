-- Marked examples of M-111, by computing the definition: case L of 01, a sheet with a loop, an idle entry whose strength is no number, -0.0.
use Rattle.std.specs.Prelude.{Ok}
use Prim.Native.Nat.{ℕ}
use native.Mathlib.Omega.{arith}
use mathlib.Core.Path.{◌≡◌, refl}
use mathlib.Core.List.{List, [], ◌∷◌}
use lib.IntN.{pos}
use Rattle.rules.proofs.Marked.{lent, case_l}
use Rattle.rules.proofs.Written.{whole, attribute, effect, modifier, type_effect, object, hull, base, sheet_of, sheet}
use Rattle.rules.specs.Answer.{Res, refused}
use Rattle.rules.specs.Outcome.{Rooms, rooms_of, starts_of, blank, valued}
use Rattle.rules.specs.Value.{Mem}
use Rattle.rules.specs.declared.Refusal.{Refusal}
use Rattle.rules.specs.declared.Refusal.TheVariants.{Number}
use Rattle.promises.specs.NoMemory.{Sound, book_in, fit_in}
use Rattle.settled.specs.Lines.{Line, values_of}
use Rattle.settled.proofs.TendsReads.{Tended, done, wanting, DepthOrRoom, depth, room, at_any, accepted_tends}
use Rattle.checks.specs.Check.{number_of, place_of, checked}
use Rattle.checks.specs.Promised.{world_at}
use Rattle.checks.proofs.All.{all}
use Rattle.checks.proofs.Promises.{accepted_free, accepted_right}
use Rattle.checks.proofs.Results.{Came, came, not_engine, sound_there}

abbrev line : ℕ → ℕ → ℕ → Line
line o a b = record { key = record { object = o; id = pos a }; bits = b }

-- number and place
abbrev verdict : List ℕ → List Line → List ℕ
verdict b ls = let r = checked b (rooms_of lent) ls in number_of r ∷ place_of r ∷ []

abbrev ship : Line
ship = line 0 37 0x407a_e5e3_50f2_bada

abbrev two : Line
two = line 2 20 0x4049_0000_0000_0000

abbrev three : Line
three = line 3 20 0x4049_0000_0000_0000

-- attributes 1 and 2 of one object, each added to the other; the second effect is Active, and the object Passive
abbrev idle_loop : List ℕ
idle_loop =
    sheet 2 []
    (effect 1 0 0 0 1 ∷ effect 2 2 0 1 1 ∷ [])
    (modifier 4 0 3 2 1 0 ∷ modifier 4 0 3 1 2 0 ∷ [])
    (type_effect 8 1 ∷ type_effect 8 2 ∷ [])
    (hull 0 8 0 2 ∷ hull 2 0 0 0 ∷ [])
    (base 1 (whole 10) ∷ base 2 (whole 1) ∷ [])
    []

-- 1e200
abbrev big : ℕ
big = 0x6974_e718_d7d7_625a

-- a Passive projected object's Active effect of 1e200 on the ship's attribute 1, resisted by the ship's 5, which is 1e200
abbrev pub product : ℕ → List ℕ
product recording =
    sheet_of 2 recording
    (attribute 5 0 0 0 0 ∷ [])
    (effect 1 2 5 0 1 ∷ [])
    (modifier 4 5 3 20 1 0 ∷ [])
    []
    []
    (hull 0 0 0 2 ∷ hull 2 0 0 0 ∷ object 6 0 0 0 1 0 1 2 1 ∷ [])
    (base 1 (whole 2) ∷ base 5 big ∷ base 20 big ∷ [])
    []
    []

abbrev products : List Line
products = line 0 1 (whole 2) ∷ line 0 5 big ∷ line 2 20 big ∷ []

-- one attribute, of base -0.0
abbrev negative : List ℕ
negative = sheet 2 [] [] [] [] (hull 0 0 0 1 ∷ hull 2 0 0 0 ∷ []) (base 1 0x8000_0000_0000_0000 ∷ []) []

pub record Checks : Type 0 where
  pub ours : verdict (case_l 2 []) (ship ∷ two ∷ three ∷ []) ≡ 0 ∷ 0 ∷ []
  pub depth : verdict (case_l 1 []) (ship ∷ two ∷ three ∷ []) ≡ 0 ∷ 0 ∷ []
  pub missing : verdict (case_l 2 []) (ship ∷ two ∷ []) ≡ 15 ∷ 2 ∷ []
  pub more : verdict (case_l 2 []) (ship ∷ two ∷ three ∷ three ∷ []) ≡ 15 ∷ 3 ∷ []
  pub order : verdict (case_l 2 []) (ship ∷ three ∷ two ∷ []) ≡ 15 ∷ 1 ∷ []
  pub need : verdict (case_l 2 []) (ship ∷ line 2 20 (whole 51) ∷ three ∷ []) ≡ 15 ∷ 0 ∷ []
  pub last_bit : verdict (case_l 2 []) (line 0 37 0x407a_e5e3_50f2_badb ∷ two ∷ three ∷ []) ≡ 15 ∷ 0 ∷ []
  pub infinite : verdict (case_l 2 []) (ship ∷ line 2 20 0x7ff0_0000_0000_0000 ∷ three ∷ []) ≡ 15 ∷ 0 ∷ []
  pub loop : (ls : List Line) → verdict idle_loop ls ≡ 10 ∷ 0 ∷ []
  pub recorded_product : verdict (product 1) products ≡ 15 ∷ 0 ∷ []
  pub idle_product : verdict (product 0) products ≡ 0 ∷ 0 ∷ []
  pub zero : verdict negative (line 0 1 0 ∷ []) ≡ 15 ∷ 0 ∷ []
  pub negative_zero : verdict negative (line 0 1 0x8000_0000_0000_0000 ∷ []) ≡ 0 ∷ 0 ∷ []

pub checks : Checks
unfolding all
checks =
    record {
      ours = refl;
      depth = refl;
      missing = refl;
      more = refl;
      order = refl;
      need = refl;
      last_bit = refl;
      infinite = refl;
      loop = λ ls. refl;
      recorded_product = refl;
      idle_product = refl;
      zero = refl;
      negative_zero = refl;
    }

-- where the product is recorded no listing is accepted: a run comes to a step that is no number, and only DEPTH and ROOM would be excused
module _ (q : Rooms) (ls : List Line) (e : checked (product 1) q ls ≡ Ok tt) where
  abbrev b : List ℕ
  b = product 1

  comes : Came b q ls (Ok tt)
  comes = came b q ls (Ok tt) e (λ x h. not_engine (Ok tt) x refl h)

  sound : Sound (fit_in b)
  sound = sound_there b comes.dispatched.shape

  abbrev memory : Res Mem
  memory = valued (world_at b) 2 (starts_of (fit_in b) (world_at b).rows) (blank (world_at b).rows)

  no_number : memory ≡ refused (Number 0)
  unfolding all
  no_number = refl

  pub no_product : ⊥
  no_product =
      by memory no_number (accepted_tends (world_at b) (values_of ls) (accepted_free (book_in b) (fit_in b) sound ls comes.is) (accepted_right (book_in b) (fit_in b) sound ls comes.is) 2 (starts_of (fit_in b) (world_at b).rows))
    where
      excused : (y : Refusal) → DepthOrRoom y → ◌≡◌ {A = Res Mem} (refused y) (refused (Number 0)) → ⊥
      excused y (depth o) h = let z : ◌≡◌ {A = ℕ} 0 1 = cc in omega arith
      excused y room h = let z : ◌≡◌ {A = ℕ} 0 1 = cc in omega arith

      by : (x : Res Mem) → x ≡ refused (Number 0)
          → Tended (world_at b) (values_of ls) (accepted_free (book_in b) (fit_in b) sound ls comes.is) (accepted_right (book_in b) (fit_in b) sound ls comes.is) DepthOrRoom (λ d a. Unit {0}) (at_any (world_at b)) x → ⊥
      by x h (done s) = let z : ◌≡◌ {A = ℕ} 0 1 = cc in omega arith
      by x h (wanting {x = y} k) = excused y k h
