-- What moves do to lists 1 and 4: the counts so far and the columns, or the refusal that ended collection.
use Rattle.std.specs.Prelude.{ℕ, ◌+◌, ◌≤◌, ◌≡◌, Bool, true, false, List, [], ◌∷◌, ltb, Float, length, set, Result, Ok, Err}
use Rattle.rules.specs.Answer.{Res, ok, refused}
use Rattle.rules.specs.Collect.{Move, taken, plain, refuse, taken_of, plain_of}
use Rattle.rules.specs.Columns.{collected_numbers, plain_numbers, origin_value}
use Rattle.rules.specs.declared.Pass2Effect.{Pass2Effect}
use Rattle.rules.specs.declared.Refusal.{Refusal}
use Rattle.rules.specs.declared.Refusal.TheVariants.{Room}
use Rattle.laws.specs.Columns.{laid}
use Rattle.columns.specs.Lending.{LentColumn}
use Rattle.modifier.specs.declared.moves.CollectedRooms.{CollectedRooms}
use Rattle.modifier.specs.declared.moves.CollectedCounts.{CollectedCounts}

-- n rows of list 1 stand in the columns c and v, p rows of list 4 in l; or collection has stopped
pub data Stand : Type 0 where
  at : ℕ → ℕ → List (List ℕ) → List Float → List (List ℕ) → Stand
  stop : Refusal → Stand

-- what an answer says, with the columns as they are then. After a refusal they may hold anything: who lent them clears them
abbrev pub stand_of : Result CollectedCounts Refusal → List (List ℕ) → List Float → List (List ℕ) → Stand
stand_of (Ok n) c v l = at n.collected n.plain c v l
stand_of (Err x) c v l = stop x

abbrev pub value_of : Pass2Effect → Float
value_of t = origin_value t.origin

-- where a list has room; its number, where it has none
abbrev pub held : Bool → ℕ → Stand → Stand
held true list s = s
held false list s = stop (Room list)

-- one move: a row more, if there is room
unfoldable pub moved : CollectedRooms → Move → Stand → Stand
moved q m (stop x) = stop x
moved q (taken t) (at n p c v l) = held (ltb n q.collected) 1 (at (n + 1) p (set c n (collected_numbers t)) (set v n (value_of t)) l)
moved q (plain o e) (at n p c v l) = held (ltb p q.plain) 4 (at n (p + 1) c v (set l p (plain_numbers (record { object = o; id = e }))))
moved q (refuse x) (at n p c v l) = stop x

-- moves, in order
unfoldable pub ran : CollectedRooms → List Move → Stand → Stand
ran q [] s = s
ran q (m ∷ r) s = ran q r (moved q m s)

-- the rooms are no longer than the columns
pub record Lent (q : CollectedRooms) (c : List (List ℕ)) (v : List Float) : Type 0 where
  pub numbers : q.collected ≤ length c
  pub values : q.collected ≤ length v

pub record AllLent (q : CollectedRooms) (c : List (List ℕ)) (v : List Float) (l : List (List ℕ)) : Type 0 where
  pub collected : Lent q c v
  pub plain : q.plain ≤ length l

-- what the definition's answer says of the columns
abbrev pub ended : Res Unit → List Move → List (List ℕ) → List Float → List (List ℕ) → Stand
ended (ok u) ms c v l = at (length (taken_of ms)) (length (plain_of ms)) (laid collected_numbers (taken_of ms) c) (laid value_of (taken_of ms) v) (laid plain_numbers (plain_of ms) l)
ended (refused x) ms c v l = stop x

-- ---- what a call answers that runs the moves ms, where n.collected rows of list 1 stood and n.plain rows of list 4

-- the columns hold what the moves leave
abbrev pub Runs : CollectedRooms → Result CollectedCounts Refusal → CollectedCounts → List Move → LentColumn (List ℕ) → LentColumn Float → LentColumn (List ℕ) → Type 0
Runs q r n ms c v l = stand_of r c.exit.now v.exit.now l.exit.now ≡ ran q ms (at n.collected n.plain c.entry.now v.entry.now l.entry.now)

-- those of list 1 do, whatever list 4 holds
abbrev pub RunsCollected : CollectedRooms → Result CollectedCounts Refusal → CollectedCounts → List Move → LentColumn (List ℕ) → LentColumn Float → Type 0
RunsCollected q r n ms c v = (l : List (List ℕ)) → stand_of r c.exit.now v.exit.now l ≡ ran q ms (at n.collected n.plain c.entry.now v.entry.now l)

-- that of list 4 does, whatever list 1 holds
abbrev pub RunsPlain : CollectedRooms → Result CollectedCounts Refusal → CollectedCounts → List Move → LentColumn (List ℕ) → Type 0
RunsPlain q r n ms l = (c : List (List ℕ)) (v : List Float) → stand_of r c v l.exit.now ≡ ran q ms (at n.collected n.plain c v l.entry.now)
