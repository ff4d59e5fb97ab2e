-- What the program `sheet` writes, of what it has read and what is asked for. Definitions only.
use Rattle.std.specs.Prelude.{ℕ, Bool, true, false, cond, ◌||◌, List, ltb, length}
use Rattle.rules.specs.Answer.{refused}
use Rattle.rules.specs.Outcome.{outcome}
use Rattle.rules.specs.declared.Refusal.TheVariants.{Shape}
use Rattle.text.specs.SheetText.{sheet_bytes, rooms, sheet_text}
use Rattle.figures.specs.Figures.{figures_text}

-- of the bytes read, and whether there were more: as 01 has it of the program's text, "longer: SHAPE, place 0"
unfoldable pub sheet_figures : List ℕ → Bool → List ℕ
sheet_figures b more = cond (more || ltb sheet_bytes (length b)) (figures_text (refused (Shape 0))) (figures_text (outcome b rooms))

-- what the program `sheet` writes: the figures where they are asked for, else 01's listing
abbrev pub asked : Bool → List ℕ → Bool → List ℕ
asked true b more = sheet_figures b more
asked false b more = sheet_text b more
