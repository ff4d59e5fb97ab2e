-- The verdicts as the code gives them. Definitions only.
use Rattle.std.specs.Prelude.{ℕ, zero, suc, ◌≤◌, ◌<◌, ◌^◌, ◌≡◌, List, [], length, get_or, take, drop, Result, Ok, Err}
use Rattle.std.proofs.Math.Option.{Option, none, some}
use Rattle.rules.specs.declared.Item.{Item}
use Rattle.tallies.specs.Tallies.{Line, line_of, points}
use Rattle.tournament.specs.Tournament as rule
use Rattle.tournament.specs.declared.Checked.{Checked}
use Rattle.tournament.specs.declared.BadLine.{BadLine}
use Rattle.tournament.specs.declared.Broken.{Broken}
use Rattle.tournament.specs.declared.Walked.{Walked}
use Rattle.tournament.specs.declared.NotAllowed.{NotAllowed}
use Rattle.tournament.specs.declared.NotAllowed.TheVariants.{Shape, Rules, Breaks}

-- the first bad line
abbrev pub bad_line : Result (Unit {0}) BadLine → Option ℕ
bad_line (Ok u) = none
bad_line (Err bad) = some bad.line

-- the first broken line
abbrev pub broken_of : Result (Unit {0}) Broken → rule.Verdict
broken_of (Ok u) = rule.allowed
broken_of (Err b) = rule.breaks b.line b.count

abbrev pub refused : NotAllowed → rule.Verdict
refused (Shape bad) = rule.shape bad.table
refused (Rules bad) = rule.rules bad.line
refused (Breaks b) = rule.breaks b.line b.count

abbrev pub verdict_of : Result (Unit {0}) NotAllowed → rule.Verdict
verdict_of (Ok u) = rule.allowed
verdict_of (Err reason) = refused reason

-- what comes back of a verdict
abbrev pub answer_of : rule.Verdict → Checked
answer_of v =
    record {
      number = rule.number_of v;
      place = rule.place_of v;
      allowed = rule.allowed_of v;
      line = rule.broken_line v;
      count = rule.count_of v;
    }

-- the line before line i
abbrev pub line_before : List Line → ℕ → Option Line
line_before ls zero = none
line_before ls (suc i) = some (get_or ls i (line_of []))

-- the lines before line i hold, and those from it on decide; p is the points that they give
pub record Reached (ls : List Line) (os : List Item) (i p : ℕ) : Type 0 where
  pub within : i ≤ length ls
  pub left : rule.verdict_from ls os 0 ls ≡ rule.verdict_from ls os i (drop i ls)
  pub is : p ≡ points (take i ls) os
  pub few : p ≤ 288225978038092800

-- the block that starts at line `first` has the first broken line, or was passed
abbrev pub Passed : List Line → List Item → ℕ → Result Walked Broken → Type 0
Passed ls os first (Ok w) = (first < w.next) × Reached ls os w.next w.points
Passed ls os first (Err b) = (rule.breaks b.line b.count ≡ rule.verdict_from ls os 0 ls) × (b.count < 2 ^ 58)
