-- What the program for M-111 says, of a sheet and a text of another planner's figures. Definitions only.
use Rattle.std.specs.Prelude.{ℕ, cond, List, [], ◌++◌, map, ltb, length, get_or, Ok, Err}
use Rattle.std.specs.Float.{binary64}
use Rattle.std.specs.Float.Ieee.{to_bits}
use Rattle.laws.specs.Floats.{zero_f}
use Rattle.rules.specs.Answer.{Res, ok, refused}
use Rattle.rules.specs.Columns.{value_list}
use Rattle.rules.specs.Listing.{ascii, natural, listing}
use Rattle.rules.specs.Outcome.{Rooms, Done, outcome}
use Rattle.reading.specs.Held.{no_row}
use Rattle.settled.specs.Lines.{Line, line_of}
use Rattle.figures.specs.Figures.{fields}
use Rattle.lines.specs.Lines.{Rows, rows, bad, figure_lines}
use Rattle.said.specs.Said.{Says, answer, refusal, bad_line}
use Rattle.text.specs.SheetText.{rows_lent, rooms}
use Rattle.checks.specs.Check.{check_rooms, checked, Verdict}
use Rattle.checks.specs.declared.verdict.CheckRefusal.TheVariants.{Engine, Loop, Listing}

-- the most lines: one more than a run has rows
abbrev pub lines_lent : ℕ
lines_lent = 4097

-- "lends every list room for 4,096"
abbrev pub check_lent : Rooms
check_lent = check_rooms rooms rows_lent

-- an object or a line: numbers of 32 bits
abbrev pub place_text : ℕ → List ℕ
place_text n = cond (ltb n 4294967296) (natural n) (ascii "*")

abbrev pub line_text : Line → List ℕ
line_text l = fields l.key.object l.key.id l.bits

-- "what stands there"
abbrev pub listed_text : List (List ℕ) → ℕ → List ℕ
listed_text ls i = cond (ltb i (length ls)) (line_text (line_of (get_or ls i []))) (ascii "no line")

-- row i of what is done
abbrev pub row_text : Done → ℕ → List ℕ
row_text d i = let r = get_or d.rows i no_row in fields r.object r.id (to_bits binary64 (get_or (value_list (ok d)) i zero_f))

-- "what the rules give": the row there of a run; a refused run has none
abbrev pub run_text : Res Done → ℕ → List ℕ
run_text (refused x) i = ascii "no row"
run_text (ok d) i = cond (ltb i (length d.rows)) (row_text d i) (ascii "no row")

-- LOOP and its object
unfoldable pub loop_text : ℕ → List ℕ
loop_text o = ascii "refused 10 " ++ (place_text o ++ ascii "\n")

-- LISTING and the line from 0, "and what stands there and what the rules give"
unfoldable pub bad_row : List ℕ → List (List ℕ) → ℕ → List ℕ
bad_row b ls i = ascii "refused 15 " ++ (place_text i ++ (ascii ": listed " ++ (listed_text ls i ++ (ascii ", a run has " ++ (run_text (outcome b rooms) i ++ ascii "\n")))))

-- "accepted, or number, place"
abbrev pub verdict_text : List ℕ → List (List ℕ) → Verdict → List ℕ
verdict_text b ls (Ok t) = ascii "accepted\n"
verdict_text b ls (Err (Engine x)) = listing (refused x)
verdict_text b ls (Err (Loop o)) = loop_text o
verdict_text b ls (Err (Listing i)) = bad_row b ls i

-- the verdict on the lines; or the text's first bad line
abbrev pub with_lines : List ℕ → Rows → Says
with_lines b (rows ls) = answer (verdict_text b ls (checked b check_lent (map line_of ls)))
with_lines b (bad i) = refusal (bad_line (ascii "listing, line ") i (ascii ": not an object, an attribute and 16 hexadecimal digits\n"))

unfoldable pub check_text : List ℕ → List ℕ → Says
check_text b text = with_lines b (figure_lines lines_lent text)
