-- A value's decimals: a star, or its minus and then what stands without it, piece by piece.
use Rattle.rules.specs.Number.{rounded}
use Rattle.std.specs.Prelude.{None, Option}
use Prim.Native.Nat.{ℕ, ◌+◌, ◌/◌, ◌%◌}
use mathlib.Core.Path.{◌≡◌, sym, ap}
use mathlib.Core.Bool.{Bool, false}
use mathlib.Core.List.{List, [], ◌∷◌, ◌++◌}
use Rattle.rules.specs.declared.Hundredths.{Hundredths}
use Rattle.rules.specs.Listing.{minus_if, decimals}

abbrev pub hundredth : ℕ → List ℕ
hundredth c = (48 + c % 10) ∷ []

abbrev pub tenths : ℕ → List ℕ
tenths c = (48 + c / 10 % 10) ∷ hundredth c

abbrev pub point : ℕ → List ℕ
point c = 46 ∷ tenths c

pub star_text : {h : Option Hundredths} → h ≡ None → 42 ∷ [] ≡ decimals h
unfolding decimals
star_text e = sym (ap decimals e)

pub rounded_text : {h : Option Hundredths} (s : Bool) (c : ℕ) → h ≡ rounded s c → minus_if s ++ decimals (rounded false c) ≡ decimals h
unfolding decimals
rounded_text s c e = sym (ap decimals e)
