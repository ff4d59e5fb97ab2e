-- Tables that follow from a byte on: one scan of their pairs.
use Prim.Native.Nat.{ℕ, zero, suc, ◌+◌, ◌*◌, ◌-◌, ◌≤◌, ◌<◌}
use native.Mathlib.Nat.{add-zero, mul-le-mul, le_trans}
use native.Mathlib.Omega.{arith}
use mathlib.Core.Path.{◌≡◌, refl, sym, ap, ◌∙◌}
use mathlib.Core.Bool.{Bool, true, false, ◌&&◌}
use mathlib.Core.List.{List, [], ◌∷◌}
use lib.Dec.{eqb, leb}
use borrow.Author.Tests.{le-leb, lt-leb, eq-eqb, ne_eqb, eqb-true}
use Rattle.laws.specs.Lists.{from, every?}
use Rattle.laws.proofs.Bools.{and_assoc}
use Rattle.laws.proofs.From.{from_step, from_end}
use Rattle.rules.specs.Bytes.{count_of, offset_of, width_of, limit_of}
use Rattle.rules.specs.Files.{standing}
use Rattle.rules.specs.Shape.{end_of, placed}
use Rattle.shape.proofs.Headers.{at_most}

-- a table's records are at most so many bytes
small_table : (t : ℕ) → (1 ≤ t) × (t ≤ 10) → {width limit count : ℕ} → width ≡ width_of t → limit ≡ limit_of t → count ≤ limit → width * count ≤ 1114112
small_table t a w l f =
    let h : t - 1 < 10 = omega (arith, a.0, a.1) in
    let e : t - 1 + 1 ≡ t = omega (arith, a.0, a.1) in
    mul-le-mul {n₂ = 68} {m₂ = 16384} (rw (w, ← e) (at_most (λ k. width_of (k + 1)) 68 refl h)) (le_trans f (rw (l, ← e) (at_most (λ k. limit_of (k + 1)) 16384 refl h)))

module _ (pairs : List (List ℕ)) (n : ℕ) where
  -- ---- the scan

  -- the tables from t on decide, and end is where those before it end
  pub record Stood (whole : Bool) (last t end : ℕ) : Type 0 where
    pub within : t ≤ last
    pub left : whole ≡ standing pairs end (from t (last - t)) n
    pub near : end + 1114112 * (last - t) ≤ 11141220

  pub stood_first : (first m h : ℕ) → m ≤ 10 → h ≤ 100 → Stood (standing pairs h (from first m) n) (first + m) first h
  stood_first first m h few l =
      record { within = omega arith; left = ap (λ (k : ℕ). standing pairs h (from first k) n) (let e : m ≡ first + m - first = omega arith in e); near = omega (arith, few, l) }

  pub stood_all : {whole : Bool} {last t end : ℕ} → Stood whole last t end → last ≤ t → eqb end n ≡ whole
  unfolding standing
  stood_all {last = last} {t = t} {end = end} at h = sym (at.left ∙ ap (λ (l : List ℕ). standing pairs end l n) (from_end t last h))

  module _ {whole : Bool} {last t end : ℕ} (at : Stood whole last t end) (h : t < last) {count offset limit : ℕ} (c : count ≡ count_of pairs t) (o : offset ≡ offset_of pairs t) (l : limit ≡ limit_of t) where
    turn : whole ≡ leb count limit && eqb offset end && standing pairs (end + width_of t * count) (from (t + 1) (last - (t + 1))) n
    unfolding standing
    turn = at.left ∙ ap (λ (x : List ℕ). standing pairs end x n) (from_step t last h) ∙ rw (c, o, l) refl

    pub too_many : limit < count → false ≡ whole
    too_many e = sym (turn ∙ rw (lt-leb count limit e) refl)

    pub elsewhere : (offset ≡ end → ⊥) → count ≤ limit → false ≡ whole
    elsewhere e f = sym (turn ∙ rw (le-leb count limit f, ne_eqb offset end e) refl)

    module _ (a : (1 ≤ t) × (t ≤ 10)) (f : count ≤ limit) {width : ℕ} (w : width ≡ width_of t) where
      pub small : width * count ≤ 1114112
      small = small_table t a w l f

      pub stood_next : offset ≡ end → Stood whole last (t + 1) (offset + width * count)
      stood_next e =
          record {
            within = omega arith;
            left = turn ∙ rw (le-leb count limit f, eq-eqb offset end e, ← w, ← e) refl;
            near = omega (arith, small, at.near, e);
          }

  -- ---- the ten of a sheet

  pub placed_standing : (a m : ℕ) → every? (placed pairs) (from a m) && eqb (end_of pairs (a + m)) n ≡ standing pairs (end_of pairs a) (from (suc a) m) n
  unfolding standing
  placed_standing a zero = rw add-zero refl
  placed_standing a (suc m) =
      and_assoc (placed pairs a) (every? (placed pairs) (from (suc a) m)) (eqb (end_of pairs (a + suc m)) n)
      ∙ turn (placed_standing (suc a) m) (eqb (offset_of pairs (suc a)) (end_of pairs a)) refl
    where
      next : a + suc m ≡ suc a + m
      next = omega arith

      turn : every? (placed pairs) (from (suc a) m) && eqb (end_of pairs (suc a + m)) n ≡ standing pairs (end_of pairs (suc a)) (from (suc (suc a)) m) n → (b : Bool) → eqb (offset_of pairs (suc a)) (end_of pairs a) ≡ b
          → placed pairs a && (every? (placed pairs) (from (suc a) m) && eqb (end_of pairs (a + suc m)) n)
          ≡ leb (count_of pairs (suc a)) (limit_of (suc a)) && eqb (offset_of pairs (suc a)) (end_of pairs a) && standing pairs (end_of pairs a + width_of (suc a) * count_of pairs (suc a)) (from (suc (suc a)) m) n
      turn e true f =
          ap (λ (k : ℕ). placed pairs a && (every? (placed pairs) (from (suc a) m) && eqb (end_of pairs k) n)) next
          ∙ ap (λ (b : Bool). placed pairs a && b) e
          ∙ ap (λ (k : ℕ). placed pairs a && standing pairs (k + width_of (suc a) * count_of pairs (suc a)) (from (suc (suc a)) m) n) (eqb-true (offset_of pairs (suc a)) (end_of pairs a) f)
      turn e false f = rw f (none (leb (count_of pairs (suc a)) (limit_of (suc a))) _ _)
        where
          none : (b x y : Bool) → (b && false) && x ≡ (b && false) && y
          none true x y = refl
          none false x y = refl
