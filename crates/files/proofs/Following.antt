-- Five tables that follow from a byte on: each lies inside.
use Prim.Native.Nat.{ℕ, ◌+◌, ◌*◌, ◌≤◌}
use native.Mathlib.Omega.{arith}
use mathlib.Core.Path.{◌≡◌}
use mathlib.Core.Bool.{true, ◌&&◌}
use mathlib.Core.List.{List, [], ◌∷◌}
use lib.ListN.{length}
use lib.Dec.{eqb, leb}
use borrow.Author.Tests.{leb-true, eqb-true}
use Rattle.laws.proofs.Bools.{and_left, and_right}
use Rattle.rules.specs.Bytes.{count_of, offset_of, width_of, limit_of}
use Rattle.rules.specs.Files.{standing}
use Rattle.info.specs.Sound.{Held}

module _ (b : List ℕ) (pairs : List (List ℕ)) where
  pub stands_inside : (ts : List ℕ) (h : ℕ) → standing pairs h ts (length b) ≡ true → h ≤ length b
  unfolding standing
  stands_inside [] h e = omega (arith, eqb-true h (length b) e)
  stands_inside (t ∷ ts) h e =
      let r = stands_inside ts (h + width_of t * count_of pairs t) (and_right (leb (count_of pairs t) (limit_of t) && eqb (offset_of pairs t) h) (standing pairs (h + width_of t * count_of pairs t) ts (length b)) e) in
      omega (arith, r)

  -- the first of tables that follow from byte h on
  pub record Next (h t : ℕ) (ts : List ℕ) : Type 0 where
    pub begins : offset_of pairs t ≡ h
    pub held : Held b pairs t
    pub rest : standing pairs (h + width_of t * count_of pairs t) ts (length b) ≡ true

  pub next : {h t : ℕ} {ts : List ℕ} → standing pairs h (t ∷ ts) (length b) ≡ true → Next h t ts
  unfolding standing
  next {h} {t} {ts} e =
      let both = and_left (leb (count_of pairs t) (limit_of t) && eqb (offset_of pairs t) h) (standing pairs (h + width_of t * count_of pairs t) ts (length b)) e in
      let rest = and_right (leb (count_of pairs t) (limit_of t) && eqb (offset_of pairs t) h) (standing pairs (h + width_of t * count_of pairs t) ts (length b)) e in
      let begins = eqb-true (offset_of pairs t) h (and_right (leb (count_of pairs t) (limit_of t)) (eqb (offset_of pairs t) h) both) in
      let inside = stands_inside ts (h + width_of t * count_of pairs t) rest in
      record {
        begins = begins;
        held = record { within = omega (arith, begins, inside); few = leb-true (count_of pairs t) (limit_of t) (and_left (leb (count_of pairs t) (limit_of t)) (eqb (offset_of pairs t) h) both) };
        rest = rest;
      }
