-- A search over the keys of records.
use Prim.Native.Nat.{ℕ, ◌+◌, ◌*◌, ◌-◌, ◌≤◌, ◌<◌}
use native.Mathlib.Nat.{mul-le-mul_left, mul-suc, zero-add}
use native.Mathlib.Omega.{arith}
use mathlib.Core.Path.{◌≡◌, sym, ap, subst, ◌∙◌}
use mathlib.Core.Bool.{Bool, true, false, cond}
use mathlib.Core.List.{List}
use mathlib.Core.Logic.{◌⊎◌, inl, inr, ⊎_elim}
use lib.Dec.{ltb}
use borrow.Author.Tests.{ltb-true, ltb-false}
use Rattle.laws.proofs.Bools.{true_or_false}
use mathlib.Core.Option.{none, some}
use lib.IntN.{ℤ}
use lib.ListN.{length, get_or}
use lib.Signed.{lt_z}
use mir.Syntax.{w32}
use mir.Val.{SFits, to_z, of_z}
use mir.ValLaws.{to_z-of_z}
use Rattle.laws.specs.Lists.{eq_z, first, from}
use Rattle.laws.proofs.From.{from_at, from-length}
use Rattle.laws.proofs.Signs.{tested_same, tested-apart}
use Rattle.laws.proofs.Search.{Falls, less_than, has_key, between_start, between_up, between_down, falls_less, lower_found, lower_missing, lower_past, run_is, upper_walked}
use Rattle.laws.proofs.Windows.{Counted, counted-more, narrowed}
use Rattle.info.specs.LookUps.{key_at, Keyed, Bounds, Lower, RunTo}
use Rattle.info.proofs.Elements.{kept}

-- every key from lo to hi is a
pub record Walk (b : List ℕ) (at w n : ℕ) (a : ℤ) (lo hi : ℕ) : Type 0 where
  pub within : lo ≤ hi
  pub inside : hi ≤ n
  pub on : (i : ℕ) → lo ≤ i → i < hi → eq_z (key_at b at w i) a ≡ true

-- a key that was read, against the one sought
module _ {x v : ℤ} (f : SFits w32 x) (e : x ≡ v) (a : ℤ) where
  pub key_less : (t : Bool) → lt_z (to_z w32 (of_z w32 x)) a ≡ t → lt_z v a ≡ t
  key_less t h = ap (λ (z : ℤ). lt_z z a) (sym (kept f e)) ∙ h

  pub key_same : SFits w32 a → of_z w32 x ≡ of_z w32 a → eq_z v a ≡ true
  key_same g h = ap (λ (z : ℤ). eq_z z a) (sym e) ∙ tested_same x a f g h

  pub key_apart : SFits w32 a → (of_z w32 x ≡ of_z w32 a → ⊥) → eq_z v a ≡ false
  key_apart g h = ap (λ (z : ℤ). eq_z z a) (sym e) ∙ tested-apart x a f g h

module _ (b : List ℕ) (at w n : ℕ) where
  pub key_inside : Keyed b at w n → (k : ℕ) → k < n → at + w * k + 4 ≤ length b
  key_inside h k l = omega (arith, mul-le-mul_left w l, mul-suc w k, h.wide, h.inside)

  there : (k : ℕ) → k < n → get_or (from 0 n) k 0 ≡ k
  there k l = from_at 0 n k 0 l ∙ zero-add k

  module _ (a : ℤ) where
    -- of the places before k those before found have keys that are less than a, and the others have not
    abbrev pub CountedBelow : ℕ → ℕ → Type 0
    CountedBelow k found = Counted (less_than (key_at b at w) a) (from 0 n) 0 k found

    pub bounds_start : Bounds b at w n a 0 n
    bounds_start = subst (Bounds b at w n a 0) (from-length 0 n) (between_start (less_than (key_at b at w) a) (from 0 n) 0)

    -- the loop keeps the bits of the one sought
    pub bounds_back : {lo hi : ℕ} → SFits w32 a → Bounds b at w n (to_z w32 (of_z w32 a)) lo hi → Bounds b at w n a lo hi
    bounds_back {lo} {hi} f i = subst (λ (z : ℤ). Bounds b at w n z lo hi) (to_z-of_z w32 a f) i

    -- a callee is given the bits of the one sought too
    pub lower_back : {lo : ℕ} → SFits w32 a → Lower b at w n (to_z w32 (of_z w32 a)) lo → Lower b at w n a lo
    lower_back f i = bounds_back f i

    pub walk-back : {lo hi : ℕ} → SFits w32 a → Walk b at w n (to_z w32 (of_z w32 a)) lo hi → Walk b at w n a lo hi
    walk-back {lo} {hi} f v = subst (λ (z : ℤ). Walk b at w n z lo hi) (to_z-of_z w32 a f) v

    pub bounds_high : {lo hi : ℕ} → Keyed b at w n → Bounds b at w n a lo hi → hi ≤ n
    bounds_high h i = rw (from-length 0 n) at i.inside

    -- a step by the key that was read at k
    stepped : {x : ℕ} {t : Bool} (m k : ℕ) → k < n → lt_z (key_at b at w k) a ≡ t → x ≡ cond t m 0 → x ≡ cond (less_than (key_at b at w) a (get_or (from 0 n) k 0)) m 0
    stepped m k l e p = p ∙ ap (λ (t : Bool). cond t m 0) (sym (ap (less_than (key_at b at w) a) (there k l) ∙ e))

    module _ (h : Keyed b at w n) where
      falls : Falls (less_than (key_at b at w) a) (from 0 n) 0
      falls = falls_less (key_at b at w) (from 0 n) 0 a h.ordered

      pub bounds_narrowed
          : {x y z : ℕ} {s u v : Bool} (lo left q : ℕ) → Bounds b at w n a lo (lo + left) → 0 < q → 4 * q ≤ left
          → lt_z (key_at b at w (lo + q - 1)) a ≡ s → x ≡ cond s q 0
          → lt_z (key_at b at w (lo + 2 * q - 1)) a ≡ u → y ≡ cond u q 0
          → lt_z (key_at b at w (lo + 3 * q - 1)) a ≡ v → z ≡ cond v q 0
          → Bounds b at w n a (lo + x + y + z) (lo + x + y + z + (left - 3 * q))
      bounds_narrowed lo left q i m four e p e2 p2 e3 p3 =
          let high = bounds_high h i in
          narrowed (less_than (key_at b at w) a) (from 0 n) 0 falls q i m four (stepped q (lo + q - 1) (omega arith) e p) (stepped q (lo + 2 * q - 1) (omega arith) e2 p2) (stepped q (lo + 3 * q - 1) (omega arith) e3 p3)

      -- a told place whose key is not less, and the one before it is: the first such
      pub told-first : {t : Bool} (k : ℕ) → k < n → k ≡ 0 → lt_z (key_at b at w k) a ≡ t → t ≡ false → Lower b at w n a k
      told-first k l z e f =
          subst (λ (m : ℕ). Bounds b at w n a m k) (sym z)
          (between_down (less_than (key_at b at w) a) (from 0 n) 0 falls bounds_start k (omega arith) l (ap (less_than (key_at b at w) a) (there k l) ∙ e ∙ f))

      pub told_is : {t : Bool} (k : ℕ) → k < n → 0 < k → lt_z (key_at b at w k) a ≡ t → t ≡ false → lt_z (key_at b at w (k - 1)) a ≡ true → Lower b at w n a k
      told_is k l p e f g =
          let high = between_down (less_than (key_at b at w) a) (from 0 n) 0 falls bounds_start k (omega arith) l (ap (less_than (key_at b at w) a) (there k l) ∙ e ∙ f) in
          let low = between_up (less_than (key_at b at w) a) (from 0 n) 0 falls high (k - 1) (omega arith) (omega arith) (ap (less_than (key_at b at w) a) (there (k - 1) (omega arith)) ∙ g) in
          subst (λ (m : ℕ). Bounds b at w n a m k) same low
        where
          same : k - 1 + 1 ≡ k
          same = omega arith

      pub counts-more : {k found x : ℕ} {t : Bool} → CountedBelow k found → k < n → lt_z (key_at b at w k) a ≡ t → x ≡ cond t 1 0 → CountedBelow (k + 1) (found + x)
      counts-more {k} c l e p = counted-more (less_than (key_at b at w) a) (from 0 n) 0 falls c (rw (from-length 0 n) l) (stepped 1 k l e p)

    module _ (h : Keyed b at w n) {lo : ℕ} (bound : Lower b at w n a lo) where
      same_there : (t : Bool) → lo < n → eq_z (key_at b at w lo) a ≡ t → has_key (key_at b at w) a (get_or (from 0 n) lo 0) ≡ t
      same_there t k e = ap (has_key (key_at b at w) a) (there lo k) ∙ e

      pub found_is : lo < n → eq_z (key_at b at w lo) a ≡ true → some lo ≡ first (λ k. eq_z (key_at b at w k) a) (from 0 n)
      found_is k e =
          ap some (sym (there lo k))
          ∙ sym (lower_found (key_at b at w) (from 0 n) 0 a h.ordered bound (rw (from-length 0 n) k) (same_there true k e))

      pub missing-is : lo < n → eq_z (key_at b at w lo) a ≡ false → none ≡ first (λ k. eq_z (key_at b at w k) a) (from 0 n)
      missing-is k e = sym (lower_missing (key_at b at w) (from 0 n) 0 a h.ordered bound (same_there false k e))

      pub past_is : n ≤ lo → none ≡ first (λ k. eq_z (key_at b at w k) a) (from 0 n)
      past_is k = sym (lower_past (key_at b at w) (from 0 n) 0 a h.ordered bound (rw (from-length 0 n) k))

      bound_in : lo ≤ n
      bound_in = rw (from-length 0 n) at bound.inside

      pub walk_start : Walk b at w n a lo lo
      walk_start = record { within = omega arith; inside = bound_in; on = λ i l k. absurd (omega arith) }

      -- every key from the bound on was a, and the next is another
      pub walked : {hi : ℕ} → Walk b at w n a lo hi → (hi < n → eq_z (key_at b at w hi) a ≡ false) → RunTo b at w n a lo hi
      walked {hi} v off =
          record {
            within = v.within;
            inside = v.inside;
            is =
                run_is (key_at b at w) (from 0 n) 0 a h.ordered bound
                (upper_walked (key_at b at w) (from 0 n) 0 a h.ordered bound hi v.within (rw (from-length 0 n) v.inside)
                (λ i m g. ap (has_key (key_at b at w) a) (there i (omega (arith, v.inside))) ∙ v.on i m g)
                (λ g. let q : hi < n = rw (from-length 0 n) at g in ap (has_key (key_at b at w) a) (there hi q) ∙ off q));
          }

-- one place more
pub walk_more : {b : List ℕ} {at w n : ℕ} {a : ℤ} {lo hi : ℕ} → Walk b at w n a lo hi → hi < n → eq_z (key_at b at w hi) a ≡ true → Walk b at w n a lo (hi + 1)
walk_more {b} {at} {w} {n} {a} {lo} {hi} v l e =
    record {
      within = omega (arith, v.within);
      inside = omega arith;
      on = λ i m k. ⊎_elim (λ x. v.on i m x) (λ x. rw x e) (lt_or_eq k);
    }
  where
    lt_or_eq : {i : ℕ} → i < hi + 1 → (i < hi) ⊎ (i ≡ hi)
    lt_or_eq {i} k = ⊎_elim (λ x. inl (ltb-true i hi x)) (λ x. inr (let y = ltb-false i hi x in omega arith)) (true_or_false (ltb i hi))
