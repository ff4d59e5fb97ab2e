-- The header's test as one scan of the pairs, and what a good header gives: every table lies inside.
use Prim.Native.Nat.{ℕ, zero, suc, ◌+◌, ◌*◌, ◌≤◌, ◌<◌}
use native.Mathlib.Nat.{add-zero, zero-add, mul-le-mul, le_trans, le-add_right}
use native.Mathlib.Numerals.{add-one}
use native.Mathlib.Omega.{arith}
use mathlib.Core.Path.{◌≡◌, refl, sym, ap, ◌∙◌}
use mathlib.Core.Bool.{Bool, true, false, ◌&&◌, false≢true}
use mathlib.Core.List.{List, [], ◌∷◌}
use lib.ListN.{length, get_or}
use lib.Dec.{eqb, leb}
use borrow.Author.Tests.{le-leb, lt-leb, eq-eqb, ne_eqb, leb-true, eqb-true}
use Rattle.laws.specs.Lists.{from, every?}
use Rattle.rules.specs.Bytes.{u32_at, count_of, offset_of, width_of, limit_of}
use Rattle.rules.specs.Shape.{end_of, placed, header_good}
use Rattle.rules.proofs.Places.{begins, at_80, at_92}
use Rattle.info.specs.Sound.{Nth, Held, HeldBook, HeldFit}
use Rattle.laws.proofs.Bools.{and_left, and_assoc}
use Rattle.laws.proofs.Every.{every_at}
use Rattle.laws.proofs.From.{from_at}
use Rattle.shape.proofs.Scans.{scan, Scan, scan_all, scan_next, scan_failed}

nth : {t : ℕ} → t < 10 → Nth (from 0 10) t t
nth {t} h d = sym (from_at 0 10 t d h ∙ zero-add t)

-- what holds of each table
each_table : (p : ℕ → Bool) → every? p (from 0 10) ≡ true → {t : ℕ} → t < 10 → p t ≡ true
each_table p e {t} h = rw (← (nth h t)) at (every_at p (from 0 10) t t e h)

pub at_most : (f : ℕ → ℕ) (m : ℕ) → every? (λ k. leb (f k) m) (from 0 10) ≡ true → {t : ℕ} → t < 10 → f t ≤ m
at_most f m e {t} h = leb-true (f t) m (each_table (λ k. leb (f k) m) e h)

-- ---- a good header

both_ways : (t : Bool) → false ≡ true → t ≡ true
both_ways t e = absurd (false≢true e)

first_three : (r s t u v w : Bool) → r && s && t && u && v && w ≡ true → (r ≡ true) × (s ≡ true) × (t ≡ true)
first_three true true true u v w e = (refl, refl, refl)
first_three true true false u v w e = (refl, refl, e)
first_three true false t u v w e = (refl, e, both_ways t e)
first_three false s t u v w e = (e, both_ways s e, both_ways t e)

module _ (b : List ℕ) (pairs : List (List ℕ)) (good : header_good b pairs ≡ true) where
  parts : (leb 100 (length b) ≡ true) × (every? (placed pairs) (from 0 10) ≡ true) × (eqb (end_of pairs 10) (length b) ≡ true)
  unfolding header_good
  parts =
      first_three (leb 100 (length b)) (every? (placed pairs) (from 0 10)) (eqb (end_of pairs 10) (length b)) (leb 1 (u32_at b 92)) (leb (u32_at b 92) 256) (leb (u32_at b 96) 1) good

  here_placed : (t : ℕ) → t < 10 → placed pairs t ≡ true
  here_placed t h = each_table (placed pairs) parts.1 h

  few : (t : ℕ) → t < 10 → count_of pairs (suc t) ≤ limit_of (suc t)
  few t h = leb-true _ _ (and_left (leb (count_of pairs (suc t)) (limit_of (suc t))) (eqb (offset_of pairs (suc t)) (end_of pairs t)) (here_placed t h))

  -- the ends grow, and the last is the length
  ends_inside : (k t : ℕ) → t + k ≡ 10 → end_of pairs t ≤ length b
  ends_inside zero t e = rw (past) (omega (arith, eqb-true (end_of pairs 10) (length b) parts.2))
    where
      past : t ≡ 10
      past = omega arith
  ends_inside (suc k) t e = le_trans (grows t (omega arith)) (ends_inside k (suc t) (omega arith))
    where
      grows : (u : ℕ) → u < 10 → end_of pairs u ≤ end_of pairs (suc u)
      grows u h = rw (← (begins pairs parts.1 u h)) (le-add_right _ _)

  held : (k t : ℕ) → t + k ≡ 9 → Held b pairs (suc t)
  held k t e = record { within = ends_inside k (suc t) (omega arith); few = few t (omega arith) }

  pub long : 100 ≤ length b
  long = leb-true 100 (length b) parts.0

  pub held_book : HeldBook b pairs
  held_book =
      record {
        header = omega (arith, at_80 pairs parts.1, long);
        attributes = held 9 0 refl;
        effects = held 8 1 refl;
        modifiers = held 7 2 refl;
        type_effects = held 6 3 refl;
        buff_collections = held 5 4 refl;
      }

  pub held_fit : HeldFit b pairs
  held_fit =
      record {
        header = omega (arith, at_92 pairs parts.1, long);
        objects = held 4 5 refl;
        bases = held 3 6 refl;
        ids = held 2 7 refl;
        buffs = held 1 8 refl;
        asks = held 0 9 refl;
      }
