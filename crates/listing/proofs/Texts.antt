-- The text of a line and of a refusal, from each place where a piece of it begins.
use Rattle.std.specs.Prelude.{Option}
use Prim.Native.Nat.{ℕ}
use mathlib.Core.Path.{◌≡◌, refl, sym}
use mathlib.Core.List.{List, [], ◌∷◌, ◌++◌}
use lib.IntN.{ℤ}
use lib.Ieee.{Float}
use Rattle.rules.specs.declared.Hundredths.{Hundredths}
use Rattle.rules.specs.declared.Refusal.{Refusal}
use Rattle.rules.specs.Answer.{Refused}
use Rattle.rules.specs.Answer.{refused, number, place}
use Rattle.rules.specs.Number.{hundredths_of}
use Rattle.rules.specs.Dispatch.{Row}
use Rattle.rules.specs.Listing.{natural, integer, decimals, line, listing}

abbrev pub value : Option Hundredths → List ℕ
value h = decimals h ++ (10 ∷ [])

abbrev pub id : ℤ → Option Hundredths → List ℕ
id i h = integer i ++ (32 ∷ value h)

abbrev pub object : ℕ → ℤ → Option Hundredths → List ℕ
object o i h = natural o ++ (32 ∷ id i h)

pub line-is : (r : Row) (v : Float) {o : ℕ} {i : ℤ} {h : Option Hundredths} → r.object ≡ o → r.id ≡ i → h ≡ hundredths_of v → object o i h ≡ line r v
unfolding line
line-is r v a b c = rw (sym a, sym b, c) refl

abbrev pub ended : ℕ → List ℕ
ended p = natural p ++ (10 ∷ [])

abbrev pub numbered : ℕ → ℕ → List ℕ
numbered n p = natural n ++ (32 ∷ ended p)

-- `refused `
abbrev pub refused_word : List ℕ
refused_word = 114 ∷ 101 ∷ 102 ∷ 117 ∷ 115 ∷ 101 ∷ 100 ∷ 32 ∷ []

-- `rows `
abbrev pub rows_word : List ℕ
rows_word = 114 ∷ 111 ∷ 119 ∷ 115 ∷ 32 ∷ []

pub refusal_is : (x : Refusal) {n p : ℕ} → number (Refused x) ≡ n → place (Refused x) ≡ p → refused_word ++ numbered n p ≡ listing (refused x)
unfolding listing
refusal_is x a b = rw (sym a, sym b) refl
