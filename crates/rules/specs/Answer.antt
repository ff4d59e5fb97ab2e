-- What comes back: the numbers and places of document 01 for each case of an answer, and steps that may be refused.
use Rattle.std.specs.Prelude.{ℕ}
use Rattle.rules.specs.declared.Refusal.{Refusal}
use Rattle.rules.specs.declared.Refusal.TheVariants.{Shape, Func, Domain, Category, Operation, Other, Room, Number, Depth}

-- 01, "What comes back": what a run answers
pub data Answer : Type 0 where
  Done : Answer
  Refused : Refusal → Answer

-- 01, "What comes back", the first column
abbrev pub number : Answer → ℕ
number Done = 0
number (Refused (Shape p)) = 1
number (Refused (Func p)) = 2
number (Refused (Domain p)) = 3
number (Refused (Category p)) = 4
number (Refused (Operation p)) = 5
number (Refused (Other p)) = 6
number (Refused (Room p)) = 7
number (Refused (Number p)) = 8
number (Refused (Depth p)) = 9

-- 01, "What comes back", the last column
abbrev pub place : Answer → ℕ
place Done = 0
place (Refused (Shape table)) = table
place (Refused (Func modifier)) = modifier
place (Refused (Domain modifier)) = modifier
place (Refused (Category effect)) = effect
place (Refused (Operation record')) = record'
place (Refused (Other modifier)) = modifier
place (Refused (Room list)) = list
place (Refused (Number object)) = object
place (Refused (Depth object)) = object

-- 01, "What comes back": the first refusal met wins
pub data Res (A : Type 0) : Type 0 where
  ok : A → Res A
  refused : Refusal → Res A

-- "The first refusal met wins"
infixl 10 ◌>>=◌
abbrev pub ◌>>=◌ : {A B : Type 0} → Res A → (A → Res B) → Res B
◌>>=◌ (ok a) f = f a
◌>>=◌ (refused r) f = refused r

-- "none below": a run with no refusal is DONE
abbrev pub answer_of : {A : Type 0} → Res A → Answer
answer_of (ok a) = Done
answer_of (refused r) = Refused r
