-- A line as the code reads it, and what it counts: the machine's tests are the definition's.
use Prim.Native.Nat.{ℕ, ◌*◌, ◌≤◌}
use native.Mathlib.Nat.{mul-le-mul}
use mathlib.Core.Path.{◌≡◌, sym, ap, ◌∙◌}
use mathlib.Core.Bool.{Bool, ◌&&◌, ◌||◌, not, cond}
use mathlib.Core.List.{List}
use lib.Dec.{eqb, ltb, leb}
use lib.IntN.{ℤ, pos}
use lib.ListN.{get_or}
use lib.Signed.{lt_z}
use mir.Syntax.{w32}
use mir.Val.{SFits, to_z, of_z}
use mir.Facts.{sfits_lit}
use borrow.Author.Tests.{eq-eqb, ne_eqb}
use Rattle.laws.specs.Lists.{eq_z}
use Rattle.laws.proofs.Signs.{eq_z-bits}
use Rattle.tallies.specs.Tallies.{line_of, rises}
use Rattle.tournament.specs.Tournament.{line_good, most, is_over}

-- ids that were read, one against another
pub rises-told : (a b : List ℕ) (x y : ℤ) → of_z w32 x ≡ get_or a 1 0 → of_z w32 y ≡ get_or b 1 0
    → ltb (get_or a 0 0) (get_or b 0 0) || (eqb (get_or a 0 0) (get_or b 0 0) && lt_z (to_z w32 (of_z w32 x)) (to_z w32 (of_z w32 y))) ≡ rises (line_of a) (line_of b)
rises-told a b x y e f =
    ap (λ (m : ℕ). ltb (get_or a 0 0) (get_or b 0 0) || (eqb (get_or a 0 0) (get_or b 0 0) && lt_z (to_z w32 m) (to_z w32 (of_z w32 y)))) e
    ∙ ap (λ (m : ℕ). ltb (get_or a 0 0) (get_or b 0 0) || (eqb (get_or a 0 0) (get_or b 0 0) && lt_z (to_z w32 (get_or a 1 0)) (to_z w32 m))) f

zero-fits : SFits w32 (pos 0)
zero-fits = sfits_lit {z = pos 0} tt

-- a total's id against 0
pub good_told : (r : List ℕ) (x : ℤ) → SFits w32 x → x ≡ to_z w32 (get_or r 1 0)
    → leb (get_or r 0 0) 3 && (not (eqb (get_or r 0 0) 0) || leb (get_or r 2 0) 65535) && (not (eqb (get_or r 0 0) 3) || eqb (of_z w32 x) 0) ≡ line_good (line_of r)
good_told r x p e =
    let known = leb (get_or r 0 0) 3 && (not (eqb (get_or r 0 0) 0) || leb (get_or r 2 0) 65535) in
    ap (λ (b : Bool). known && (not (eqb (get_or r 0 0) 3) || b)) (eq_z-bits x (pos 0) p zero-fits)
    ∙ ap (λ (z : ℤ). known && (not (eqb (get_or r 0 0) 3) || eq_z z (pos 0))) e

-- the most that a line allows
pub most_none : (r : List ℕ) → get_or r 0 0 ≡ 2 → 0 ≡ most (line_of r)
most_none r e = sym (ap (λ (b : Bool). cond b 0 (get_or r 2 0)) (eq-eqb (get_or r 0 0) 2 e))

pub most-number : (r : List ℕ) → (get_or r 0 0 ≡ 2 → ⊥) → get_or r 2 0 ≡ most (line_of r)
most-number r e = sym (ap (λ (b : Bool). cond b 0 (get_or r 2 0)) (ne_eqb (get_or r 0 0) 2 e))

-- what it counts, by what came before it and its own sum
pub tally-total : (r : List ℕ) (p s : ℕ) → get_or r 0 0 ≡ 3 → p ≡ cond (eqb (line_of r).kind 3) p s
tally-total r p s e = sym (ap (λ (b : Bool). cond b p s) (eq-eqb (get_or r 0 0) 3 e))

pub tally-sum : (r : List ℕ) (p s : ℕ) → (get_or r 0 0 ≡ 3 → ⊥) → s ≡ cond (eqb (line_of r).kind 3) p s
tally-sum r p s e = sym (ap (λ (b : Bool). cond b p s) (ne_eqb (get_or r 0 0) 3 e))

-- what its pieces cost
pub worth_price : (r : List ℕ) (s : ℕ) → get_or r 0 0 ≡ 0 → s * get_or r 2 0 ≡ cond (eqb (line_of r).kind 0) (s * (line_of r).number) 0
worth_price r s e = sym (ap (λ (b : Bool). cond b (s * get_or r 2 0) 0) (eq-eqb (get_or r 0 0) 0 e))

pub worth_none : (r : List ℕ) (s : ℕ) → (get_or r 0 0 ≡ 0 → ⊥) → 0 ≡ cond (eqb (line_of r).kind 0) (s * (line_of r).number) 0
worth_none r s e = sym (ap (λ (b : Bool). cond b (s * get_or r 2 0) 0) (ne_eqb (get_or r 0 0) 0 e))

pub worth_most : {s each : ℕ} → s ≤ 4398046510080 → each ≤ 65535 → s * each ≤ 288225978038092800
worth_most a b = mul-le-mul {n₂ = 4398046510080} {m₂ = 65535} a b

-- whether a count is over what was read
pub over-told : (r : List ℕ) (c : ℕ) {m : ℕ} → m ≡ most (line_of r) → ltb 0 (get_or r 0 0) && ltb m c ≡ is_over (line_of r) c
over-told r c e = ap (λ (n : ℕ). ltb 0 (get_or r 0 0) && ltb n c) e
