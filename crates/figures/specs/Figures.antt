-- A run's rows as the listing that `checker` reads: object, attribute, and the value's bits as 16 hexadecimal digits. Definitions only.
use Rattle.std.specs.Prelude.{ℕ, List, [], ◌∷◌, ◌++◌, Float, ℤ, take}
use Rattle.std.specs.Float.{binary64}
use Rattle.std.specs.Float.Ieee.{to_bits}
use Rattle.io.specs.Digits.{last_digits}
use Rattle.rules.specs.Answer.{Res, ok, refused}
use Rattle.rules.specs.Columns.{value_list}
use Rattle.rules.specs.Dispatch.{Row}
use Rattle.rules.specs.Listing.{ascii, natural, integer, listing}
use Rattle.rules.specs.Outcome.{Done}

-- no line has more bytes
abbrev pub longest : ℕ
longest = 40

abbrev pub longest_fields : ℕ
longest_fields = 39

-- "the float's 64 bits"
unfoldable pub bits_text : ℕ → List ℕ
bits_text n = last_digits 16 16 n

-- "object, attribute, 16 hexadecimal digits"
unfoldable pub fields : ℕ → ℤ → ℕ → List ℕ
fields o i n = natural o ++ (ascii " " ++ (integer i ++ (ascii " " ++ bits_text n)))

-- "a line"
unfoldable pub figure : Row → Float → List ℕ
figure r v = fields r.object r.id (to_bits binary64 v) ++ ascii "\n"

unfoldable pub figures : List Row → List Float → List ℕ
figures [] vs = []
figures (r ∷ rs) [] = []
figures (r ∷ rs) (v ∷ vs) = figure r v ++ figures rs vs

-- of the first k rows
unfoldable pub figured : Done → ℕ → List ℕ
figured d k = figures (take k d.rows) (take k (value_list (ok d)))

-- a line for each row; a refusal is 01's one line
unfoldable pub figures_text : Res Done → List ℕ
figures_text (ok d) = figures d.rows (value_list (ok d))
figures_text (refused x) = listing (refused x)
