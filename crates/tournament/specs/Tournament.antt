-- M-105: a fit checked against an organiser's lines. Definitions only.
use Rattle.std.specs.Prelude.{ℕ, suc, Bool, true, false, ◌&&◌, ◌||◌, not, cond, List, [], ◌∷◌, map, pos, eqb, ltb, leb}
use Rattle.std.proofs.Math.Option.{Option, none, some}
use Rattle.laws.specs.Lists.{eq_z}
use Rattle.rules.specs.Bytes.{pairs_of}
use Rattle.rules.specs.Sheet.{Book, Fit, book_of, fit_of}
use Rattle.rules.specs.Shape.{bad_shape}
use Rattle.rules.specs.Files.{pairs_in, bad_files}
use Rattle.rules.specs.declared.Item.{Item}
use Rattle.tallies.specs.Tallies.{Line, line_of, rises, counted, pieces, points}

-- ---- the table

abbrev pub stands_after : Option Line → Line → Bool
stands_after none l = true
stands_after (some a) l = rises a l

-- "0 to 3"; "points at most 65,535"; "at most one total, id 0"
abbrev pub line_good : Line → Bool
line_good l = leb l.kind 3 && (not (eqb l.kind 0) || leb l.number 65535) && (not (eqb l.kind 3) || eq_z l.id (pos 0))

-- the first bad line from line i on, after the last
unfoldable pub bad_from : ℕ → Option Line → List Line → Option ℕ
bad_from i last [] = none
bad_from i last (l ∷ r) = elim (stands_after last l && line_good l) [ false ↦ some i | true ↦ bad_from (suc i) (some l) r ]

-- ---- a line

-- what a line counts: the points of all items, or the pieces in its group
abbrev pub tally : List Line → List Item → Line → ℕ
tally ls os l = cond (eqb l.kind 3) (points ls os) (pieces os l.id)

-- the most that it allows
abbrev pub most : Line → ℕ
most l = cond (eqb l.kind 2) 0 l.number

-- whether such a count is over it; points per type are no limit
abbrev pub is_over : Line → ℕ → Bool
is_over l c = ltb 0 l.kind && ltb (most l) c

unfoldable pub broken : List Line → List Item → Line → Bool
broken ls os l = is_over l (tally ls os l)

-- ---- the answer

pub data Verdict : Type 0 where
  allowed : Verdict
  breaks : ℕ → ℕ → Verdict  -- the line, and the count that broke it
  shape : ℕ → Verdict
  rules : ℕ → Verdict

-- the first broken line from line i on
unfoldable pub verdict_from : List Line → List Item → ℕ → List Line → Verdict
verdict_from ls os i [] = allowed
verdict_from ls os i (l ∷ r) = elim (broken ls os l) [ true ↦ breaks i (tally ls os l) | false ↦ verdict_from ls os (suc i) r ]

-- "then 11 RULES for a bad table, place its line"
unfoldable pub judged : Book → Fit → List Line → Verdict
judged k f ls = elim (bad_from 0 none ls) [ some i ↦ rules i | none ↦ verdict_from ls (counted k f) 0 ls ]

-- "SHAPE of the sheet, then 11 RULES": of a sheet's bytes and the lines
unfoldable pub checked : List ℕ → List (List ℕ) → Verdict
checked b rows = elim (bad_shape b) [ some t ↦ shape t | none ↦ judged (book_of b (pairs_of b)) (fit_of b (pairs_of b)) (map line_of rows) ]

-- the same of a book and a fit
unfoldable pub checked_files : List ℕ → List ℕ → List (List ℕ) → Verdict
checked_files k f rows = elim (bad_files k f) [
  | some t ↦ shape t
  | none ↦ judged (book_of k (pairs_in k f)) (fit_of f (pairs_in k f)) (map line_of rows)
]

-- 01's number and place, and the rest of the answer: 0 after a refusal
abbrev pub number_of : Verdict → ℕ
number_of allowed = 0
number_of (breaks i c) = 0
number_of (shape t) = 1
number_of (rules i) = 11

abbrev pub place_of : Verdict → ℕ
place_of allowed = 0
place_of (breaks i c) = 0
place_of (shape t) = t
place_of (rules i) = i

abbrev pub allowed_of : Verdict → ℕ
allowed_of allowed = 1
allowed_of (breaks i c) = 0
allowed_of (shape t) = 0
allowed_of (rules i) = 0

abbrev pub broken_line : Verdict → ℕ
broken_line allowed = 0
broken_line (breaks i c) = i
broken_line (shape t) = 0
broken_line (rules i) = 0

abbrev pub count_of : Verdict → ℕ
count_of allowed = 0
count_of (breaks i c) = c
count_of (shape t) = 0
count_of (rules i) = 0
