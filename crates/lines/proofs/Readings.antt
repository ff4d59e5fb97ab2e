-- What was read of a text's lines: the rows, or the first bad line; for who says it.
use Prim.Native.Nat.{ℕ, ◌+◌, ◌≤◌}
use mathlib.Core.Path.{◌≡◌, sym, ap, subst, ◌∙◌}
use mathlib.Core.List.{List}
use lib.ListN.{take}
use Rattle.lines.specs.Lines.{Rows, rows, bad}
use Rattle.lines.specs.Reads.{rows_of, ReadWithin}
use Rattle.std.specs.Prelude.{Result, Ok, Err}
use Rattle.lines.specs.declared.BadLine.{BadLine}

pub bad_small : (n : ℕ) {r : Result ℕ BadLine} {e : BadLine} → r ≡ Err e → ReadWithin r n → e.line ≤ n + 1
bad_small n q w = subst (λ (x : Result ℕ BadLine). ReadWithin x n) q w

pub rows_small : (n : ℕ) {r : Result ℕ BadLine} {i : ℕ} → r ≡ Ok i → ReadWithin r n → i ≤ n
rows_small n e w = subst (λ (x : Result ℕ BadLine). ReadWithin x n) e w

pub told_bad : (out : List (List ℕ)) {r : Result ℕ BadLine} {e : BadLine} {l : Rows} → r ≡ Err e → rows_of r out ≡ l → bad e.line ≡ l
told_bad out q k = sym (ap (λ (x : Result ℕ BadLine). rows_of x out) q) ∙ k

pub told_rows : (out : List (List ℕ)) {r : Result ℕ BadLine} {i : ℕ} {l : Rows} → r ≡ Ok i → rows_of r out ≡ l → rows (take i out) ≡ l
told_rows out e k = sym (ap (λ (x : Result ℕ BadLine). rows_of x out) e) ∙ k
