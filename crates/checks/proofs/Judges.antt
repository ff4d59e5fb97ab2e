-- The verdict by its parts: LOOP, or the first bad line, or none.
use Rattle.std.specs.Prelude.{Ok, Err}
use Prim.Native.Nat.{ℕ, ◌≤◌}
use native.Mathlib.Omega.{arith}
use mathlib.Core.Path.{◌≡◌, sym, ap, ◌∙◌}
use mathlib.Core.List.{List, ◌++◌, map}
use mathlib.Core.Option.{Option, none, some}
use lib.Ieee.{Float}
use lib.ListN.{length, drop, length-map}
use Rattle.laws.proofs.Laid.{laid-length}
use Rattle.rules.specs.Value.{World}
use Rattle.settled.specs.Lines.{Line, first_bad}
use Rattle.loops.specs.Loop.{loop_at}
use Rattle.given.specs.Judging.{shown_in}
use Rattle.checks.specs.Check.{checked_in, Verdict}
use Rattle.laws.specs.Columns.{Col}
use Rattle.checks.specs.declared.verdict.CheckRefusal.TheVariants.{Loop, Listing}

module _ (w : World) (ls : List Line) where
  abbrev by_line : Option ℕ → Verdict
  by_line b = elim b [ some i ↦ Err (Listing i) | none ↦ Ok tt ]

  abbrev by_loop : Option ℕ → Verdict
  by_loop x = elim x [ some o ↦ Err (Loop o) | none ↦ by_line (first_bad w ls) ]

  pub looped : (o : ℕ) → some o ≡ loop_at w → Err (Loop o) ≡ checked_in w ls
  unfolding checked_in
  looped o e = ap by_loop e

  pub by_lines : none ≡ loop_at w → (b : Option ℕ) → b ≡ first_bad w ls → by_line b ≡ checked_in w ls
  unfolding checked_in
  by_lines e b q = ap by_line q ∙ ap by_loop e

-- where no line is bad the column is laid
pub is-laid : (n : ℕ) (ls : List (List ℕ)) (v u v' : List Float) → n ≤ length v → length u ≡ n → u ≡ map shown_in ls → v' ≡ u ++ drop n v → (length ls ≡ n) × Col shown_in ls v v'
is-laid n ls v u v' l s k e = (lines, record { is = whole; long = ap length whole ∙ laid-length shown_in ls v (omega (arith, l, lines)) })
  where
    lines : length ls ≡ n
    lines = sym (length-map ls shown_in) ∙ ap length (sym k) ∙ s

    whole : v' ≡ map shown_in ls ++ drop (length ls) v
    whole = e ∙ ap (λ (x : List Float). x ++ drop n v) k ∙ ap (λ (j : ℕ). map shown_in ls ++ drop j v) (sym lines)
