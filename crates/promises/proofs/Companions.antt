-- Sheets on which more depth and more room do change the answer: a refusal of DEPTH and one of ROOM for each list, and then done; and
-- two that differ in asks, depth and recording alone.
use Prim.Native.Nat.{ℕ, ◌≤◌}
use native.Mathlib.Omega.{arith}
use mathlib.Core.Path.{◌≡◌, refl}
use mathlib.Core.List.{List, [], ◌∷◌}
use lib.ListN.{set}
use Rattle.rules.specs.Answer.{refused, answer_of}
use Rattle.rules.specs.Outcome.{Lent, outcome}
use Rattle.rules.specs.Answer.{Done}
use Rattle.rules.specs.declared.Refusal.TheVariants.{Room, Depth}
use Rattle.rules.proofs.Everything.{everything}
use Rattle.rules.proofs.Marked.{lent, case_l}
use Rattle.rules.proofs.Written.{whole, attribute, effect, modifier, type_effect, hull, fitted, base, ask, sheet}
use Rattle.promises.specs.Sheets.{Deeper, Asking}
use Rattle.promises.specs.Wider.{Longer}

-- case L with recording, where each item has also an effect without modifiers
abbrev pub recorded : List ℕ
recorded =
    set (sheet 2
    (attribute 20 2 0 0 0 ∷ attribute 37 2 0 0 0 ∷ [])
    (effect 1 1 0 0 1 ∷ effect 2 1 0 0 0 ∷ [])
    (modifier 4 1 7 20 37 0 ∷ [])
    (type_effect 9 1 ∷ type_effect 9 2 ∷ [])
    (hull 0 0 0 1 ∷ hull 2 0 0 0 ∷ fitted 3 1 1 1 1 ∷ fitted 3 1 1 1 1 ∷ [])
    (base 37 (whole 200) ∷ base 20 (whole 50) ∷ [])
    []) 96 1

-- lists of these lengths
abbrev pub lists : (collected rows entries plain sources : ℕ) → Lent
lists c r e p s =
    record { collected = c; collected_values = c; rows = r; bases = r; values = r; entries = e; entry_values = e; plain = p; sources = s; source_floats = s }

pub record Companions : Type 0 where
  pub depth_1 : outcome (case_l 1 []) lent ≡ refused (Depth 2)
  pub deeper : Deeper (case_l 1 []) (case_l 2 [])
  pub asking : Asking (case_l 2 []) (set (case_l 1 (ask 2 20 ∷ ask 3 20 ∷ [])) 96 1)
  pub depth_2 : answer_of (outcome (case_l 2 []) lent) ≡ Done
  pub room_1 : outcome recorded (lists 1 3 2 2 2) ≡ refused (Room 1)
  pub room_2 : outcome recorded (lists 2 2 2 2 2) ≡ refused (Room 2)
  pub room_3 : outcome recorded (lists 2 3 1 2 2) ≡ refused (Room 3)
  pub room_4 : outcome recorded (lists 2 3 2 1 2) ≡ refused (Room 4)
  pub room_5 : outcome recorded (lists 2 3 2 2 1) ≡ refused (Room 5)
  pub longer : (c r e p s : ℕ) → c ≤ 2 → r ≤ 3 → e ≤ 2 → p ≤ 2 → s ≤ 2 → Longer (lists c r e p s) (lists 2 3 2 2 2)
  pub room : answer_of (outcome recorded (lists 2 3 2 2 2)) ≡ Done

pub companions : Companions
unfolding everything
companions =
    record {
      depth_1 = refl;
      deeper = record { front = refl; back = refl; long = refl; least = omega arith; more = omega arith; most = omega arith };
      asking = record { front = refl; header = refl; tables = refl };
      depth_2 = refl;
      room_1 = refl;
      room_2 = refl;
      room_3 = refl;
      room_4 = refl;
      room_5 = refl;
      longer = λ c r e p s h₁ h₂ h₃ h₄ h₅.
          record { collected = h₁; collected_values = h₁; rows = h₂; bases = h₂; values = h₂; entries = h₃; entry_values = h₃; plain = h₄; sources = h₅; source_floats = h₅ };
      room = refl;
    }
