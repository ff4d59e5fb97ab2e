-- How long a number of 32 bits, a signed one and a value with two decimals are at most.
use Rattle.std.specs.Prelude.{None, Option}
use Prim.Native.Nat.{ℕ, suc, ◌+◌, ◌*◌, ◌/◌, ◌^◌, ◌≤◌, ◌<◌}
use native.Mathlib.Omega.{arith}
use mathlib.Core.Path.{◌≡◌, refl}
use mathlib.Core.Bool.{Bool, true, false, ◌&&◌, cond}
use mathlib.Core.List.{◌++◌}
use lib.ListN.{length, length-append}
use lib.Dec.{leb, ltb}
use lib.IntN.{ℤ, pos, negsuc}
use lib.Ieee.{Float, nan, inf, fin, up, down}
use mir.Syntax.{w32}
use mir.Val.{SFits}
use borrow.Author.Tests.{leb-false}
use Rattle.rules.specs.declared.Hundredths.{Hundredths}
use Rattle.rules.specs.Number.{rounded_at, hundredths_of, rounded}
use Rattle.rules.specs.Listing.{natural, integer, minus_if, decimals}
use Rattle.listing.proofs.Digits.{natural_short}
use Rattle.listing.proofs.Decimals.{point}

pub few : (n : ℕ) → n < 4294967296 → length (natural n) ≤ 10
few n h = natural_short 9 n (omega (arith, h))

pub integer_short : (x : ℤ) → SFits w32 x → length (integer x) ≤ 11
unfolding integer
integer_short (pos n) f = omega (arith, few n (omega (arith, f.sfits)))
integer_short (negsuc n) f = omega (arith, few (suc n) (omega (arith, f.sfits)))

minus_short : (s : Bool) → length (minus_if s) ≤ 1
minus_short true = omega arith
minus_short false = omega arith

rounded_short : (s : Bool) (c : ℕ) → c < 10 ^ 14 → length (decimals (rounded s c)) ≤ 16
unfolding decimals
rounded_short s c h =
    let a = length-append (minus_if s) (natural (c / 100) ++ point c) in
    let b = length-append (natural (c / 100)) (point c) in
    omega (arith, a, b, minus_short s, natural_short 11 (c / 100) (omega (arith, h)))

at_short : (s : Bool) (c : ℕ) → length (decimals (rounded_at s c)) ≤ 16
at_short s c = go (leb (10 ^ 14) c) refl
  where
    go : (b : Bool) → leb (10 ^ 14) c ≡ b → length (decimals (cond b None (rounded (s && ltb 0 c) c))) ≤ 16
    go true e = unfold decimals in omega arith
    go false e = rounded_short (s && ltb 0 c) c (leb-false (10 ^ 14) c e)

pub decimals_short : (v : Float) → length (decimals (hundredths_of v)) ≤ 16
unfolding hundredths_of decimals
decimals_short nan = omega arith
decimals_short (inf s) = omega arith
decimals_short (fin s m e) = at_short s ((m * up e * 200 + down e) / (2 * down e))

-- so room for the longest is room for each
pub integer_room : (x : ℤ) (at n : ℕ) → SFits w32 x → at + 11 ≤ n → at + length (integer x) ≤ n
integer_room x at n f r = omega (arith, r, integer_short x f)

pub value_room : (v : Float) (h : Option Hundredths) (at n : ℕ) → h ≡ hundredths_of v → at + 16 ≤ n → at + length (decimals h) ≤ n
value_room v h at n e r = rw e (omega (arith, r, decimals_short v))
