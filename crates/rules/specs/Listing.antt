-- What the program `sheet` prints, as bytes of ASCII. 01, "The listing".
use Rattle.std.specs.Prelude.{ℕ, zero, suc, ◌+◌, ◌/◌, ◌%◌, Bool, true, false, List, [], ◌∷◌, ◌++◌, length, ℤ, pos, negsuc, Float, None, Some, Option}
use Prim.Native.Char.{code}
use Prim.Native.String.{String}
use Prim.Native.String as text
use Rattle.rules.specs.Answer.{Res, ok, refused, number, place}
use Rattle.rules.specs.Number.{hundredths_of}
use Rattle.rules.specs.Dispatch.{Row}
use Rattle.rules.specs.Outcome.{Done}
use Rattle.rules.specs.Columns.{value_list}
use Rattle.rules.specs.Answer.{Refused}
use Rattle.rules.specs.declared.Hundredths.{Hundredths}

-- the bytes of a text
abbrev pub ascii : String → List ℕ
ascii text.[] = []
ascii (text.◌∷◌ c s) = code c ∷ ascii s

-- the last k decimal digits of n, in front of r, without zeros before the first
unfoldable pub digits : ℕ → ℕ → List ℕ → List ℕ
digits zero n r = r
digits (suc k) n r = let d = (48 + n % 10) ∷ r in elim (n / 10) [ zero ↦ d | suc m ↦ digits k (n / 10) d ]

unfoldable pub natural : ℕ → List ℕ
natural n = digits 20 n []

unfoldable pub integer : ℤ → List ℕ
integer (pos n) = natural n
integer (negsuc n) = ascii "-" ++ natural (suc n)

-- "minus only if a digit is nonzero"
abbrev pub minus_if : Bool → List ℕ
minus_if true = ascii "-"
minus_if false = []

-- "two decimals", `*` from 10 ^ 12 in size up
unfoldable pub decimals : Option Hundredths → List ℕ
decimals None = ascii "*"
decimals (Some h) = minus_if h.minus ++ (natural (h.count / 100) ++ (ascii "." ++ ((48 + h.count / 10 % 10) ∷ (48 + h.count % 10) ∷ [])))

-- "per row: object number, attribute id, value"; "One space between fields; lines end in LF"
unfoldable pub line : Row → Float → List ℕ
line r v = natural r.object ++ (ascii " " ++ (integer r.id ++ (ascii " " ++ (decimals (hundredths_of v) ++ ascii "\n"))))

-- "then per row: object number, attribute id, value"
unfoldable pub lines : List Row → List Float → List ℕ
lines [] vs = []
lines (r ∷ rs) [] = []
lines (r ∷ rs) (v ∷ vs) = line r v ++ lines rs vs

-- "`rows N`, then per row"; "Refused: one line, `refused`, number, place"
unfoldable pub listing : Res Done → List ℕ
listing (ok d) = ascii "rows " ++ (natural (length d.rows) ++ (ascii "\n" ++ lines d.rows (value_list (ok d))))
listing (refused x) = ascii "refused " ++ (natural (number (Refused x)) ++ (ascii " " ++ (natural (place (Refused x)) ++ ascii "\n")))
