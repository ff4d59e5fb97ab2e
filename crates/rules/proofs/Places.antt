-- Where the tables of a good header begin, and so where its category numbers, depth and recording stand.
use Prim.Native.Nat.{ℕ, zero, suc, ◌≤◌, ◌<◌}
use native.Mathlib.Nat.{zero-add}
use native.Mathlib.Omega.{arith}
use mathlib.Core.Path.{◌≡◌, refl, sym, ap, ◌∙◌}
use mathlib.Core.Bool.{true}
use mathlib.Core.List.{List}
use lib.Dec.{leb, eqb}
use borrow.Author.Tests.{ne_eqb, eqb-true}
use Rattle.laws.specs.Lists.{from, every?}
use Rattle.laws.proofs.Bools.{and_right}
use Rattle.laws.proofs.Every.{every_at}
use Rattle.laws.proofs.From.{from_at}
use Rattle.rules.specs.Bytes.{count_of, offset_of, limit_of, categories_at, depth_at}
use Rattle.rules.specs.Shape.{end_of, placed}

module _ (ps : List (List ℕ)) (h : every? (placed ps) (from 0 10) ≡ true) where
  pub begins : (t : ℕ) → t < 10 → offset_of ps (suc t) ≡ end_of ps t
  begins t l =
      let stands : placed ps t ≡ true = ap (placed ps) (sym (from_at 0 10 t 0 l ∙ zero-add t)) ∙ every_at (placed ps) (from 0 10) t 0 h l in
      eqb-true (offset_of ps (suc t)) (end_of ps t) (and_right (leb (count_of ps (suc t)) (limit_of (suc t))) (eqb (offset_of ps (suc t)) (end_of ps t)) stands)

  -- tables stand after the header
  pub after-header : (t : ℕ) → t < 10 → 100 ≤ offset_of ps (suc t)
  after-header zero l = let e = begins zero l in omega (arith, e)
  after-header (suc t) l = let e = begins (suc t) l in let n = after-header t (omega arith) in omega (arith, e, n)

  pub at_80 : categories_at ps ≡ 80
  at_80 = rw (ne_eqb (offset_of ps 1) 52 (λ e. let n = after-header 0 (omega arith) in absurd (omega (arith, e, n)))) refl

  pub at_92 : depth_at ps ≡ 92
  at_92 = rw (ne_eqb (offset_of ps 6) 48 (λ e. let n = after-header 5 (omega arith) in absurd (omega (arith, e, n)))) refl
