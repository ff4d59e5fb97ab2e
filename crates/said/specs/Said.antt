-- What a program says: text for standard output, or a line for standard error. Definitions only.
use Rattle.std.specs.Prelude.{ℕ, ◌≤◌, List, ◌++◌, take, Result, Ok, Err, MatchResult}
use Rattle.rules.specs.Listing.{natural}
use Rattle.said.specs.declared.RefusalLine.{RefusalLine}

pub data Says : Type 0 where
  answer : List ℕ → Says
  refusal : List ℕ → Says

-- of a file that is text: what it is, its first bad line, from 1, and what is wrong with it
unfoldable pub bad_line : List ℕ → ℕ → List ℕ → List ℕ
bad_line what n why = what ++ (natural n ++ why)

-- what stands at the front of a text
abbrev pub says_of : Result ℕ RefusalLine → List ℕ → Says
says_of (Ok end) text = answer (take end text)
says_of (Err line) text = refusal (take line.end text)

-- and ends inside it
abbrev pub SaidWithin : Result ℕ RefusalLine → ℕ → Type 0
SaidWithin r n = MatchResult r (λ end. end ≤ n) (λ line. line.end ≤ n)
