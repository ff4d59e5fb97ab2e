-- What it says of the stretches that POOL is not given: each lies in the pool, and no two pilots' have a row in common.
use Prim.Native.Nat.{ℕ, zero, suc, ◌+◌, ◌-◌, ◌≤◌, ◌<◌, max, min}
use native.Mathlib.Omega.{arith}
use mathlib.Core.Path.{◌≡◌, refl, sym, ap, subst, ◌∙◌}
use mathlib.Core.Bool.{Bool, true, false, ◌&&◌, ◌||◌}
use mathlib.Core.Logic.{◌⊎◌, inl, inr}
use mathlib.Core.List.{List, [], ◌∷◌}
use mathlib.Core.Option.{Option, none, some}
use lib.Dec.{ltb}
use lib.ListN.{length, get_or}
use borrow.Author.Tests.{ltb-true, ltb-false, lt-ltb}
use Rattle.laws.specs.Lists.{some?, first, from}
use Rattle.laws.proofs.Bools.{and_left, or_false_left, or_false_right, both_ways, true_or_false}
use Rattle.laws.proofs.Every.{none_at}
use Rattle.laws.proofs.First.{none_first}
use Rattle.laws.proofs.From.{from-length, from_at}
use Rattle.rules.specs.Pool.{first_of, length_of, end_of, stretch_of, first_at, length_at, leaves, overlaps, astray_in, astray, seated, pool_bad}

-- a test of a, a + 1, .. that none passes
pub none_from : (t : ℕ → Bool) (a n : ℕ) → some? t (from a n) ≡ false → (k : ℕ) → k < n → t (a + k) ≡ false
none_from t a n e k h = ap t (sym (from_at a n k 0 h)) ∙ none_at t (from a n) k 0 e (subst (λ (m : ℕ). k < m) (sym (from-length a n)) h)

-- ---- one stretch, two stretches

pub not_leaving : (n : ℕ) (s : List ℕ) → leaves n s ≡ false → 0 < length_of s → end_of s ≤ n
not_leaving n s e h = ltb-false n (end_of s) (sym (ap (λ (t : Bool). t && ltb n (end_of s)) (lt-ltb 0 (length_of s) h)) ∙ e)

-- a row of both
pub common_row : (s t : List ℕ) (i : ℕ) → overlaps s t ≡ false → first_of s ≤ i → i < end_of s → first_of t ≤ i → i < end_of t → ⊥
common_row s t i e a b c d = let n = ltb-false (max (first_of s) (first_of t)) (min (end_of s) (end_of t)) e in omega (arith, n, a, b, c, d)

-- ---- POOL is not given

module _ (rooms : List ℕ) (ss : List (List (List ℕ))) (p : ℕ) (h : pool_bad rooms ss p ≡ none) where
  pub is-seated : seated ss p ≡ true
  unfolding pool_bad
  is-seated = by (seated ss p) h
    where
      by : (t : Bool) → ◌≡◌ {A = Option ℕ} (elim t [ false ↦ some p | true ↦ first (astray rooms ss) (from 0 16) ]) none → t ≡ true
      by true e = refl
      by false e = let z : ◌≡◌ {A = ℕ} 0 1 = cc in absurd (omega arith)

  none_astray : first (astray rooms ss) (from 0 16) ≡ none
  unfolding pool_bad
  none_astray = by (seated ss p) h
    where
      by : (t : Bool) → ◌≡◌ {A = Option ℕ} (elim t [ false ↦ some p | true ↦ first (astray rooms ss) (from 0 16) ]) none → first (astray rooms ss) (from 0 16) ≡ none
      by true e = e
      by false e = let z : ◌≡◌ {A = ℕ} 0 1 = cc in absurd (omega arith)

  -- it is asked for a pilot of sixteen
  pub is_pilot : p < 16
  unfolding seated
  is_pilot = ltb-true p 16 (and_left (ltb p 16) _ is-seated)

  -- of every pilot q and list l
  module _ (q : ℕ) (below : q < 16) where
    not-astray : astray rooms ss q ≡ false
    not-astray = ap (astray rooms ss) (sym (let e : 0 + q ≡ q = omega arith in e)) ∙ none_from (astray rooms ss) 0 16 (none_first (astray rooms ss) (from 0 16) none_astray) q below

    in_list : (k : ℕ) → k < 5 → astray_in rooms ss q (1 + k) ≡ false
    unfolding astray
    in_list k few = none_from (astray_in rooms ss q) 1 5 not-astray k few

    in_order : (l : ℕ) → 1 ≤ l → l ≤ 5 → astray_in rooms ss q l ≡ false
    in_order l a b = ap (astray_in rooms ss q) (let e : l ≡ 1 + (l - 1) = omega arith in e) ∙ in_list (l - 1) (omega arith)

    -- its rows are rows of the pool
    pub lies_inside : (l : ℕ) → 1 ≤ l → l ≤ 5 → 0 < length_at ss q l → first_at ss q l + length_at ss q l ≤ get_or rooms (l - 1) 0
    lies_inside l a b m = not_leaving (get_or rooms (l - 1) 0) (stretch_of ss q l) (or_false_left (leaves (get_or rooms (l - 1) 0) (stretch_of ss q l)) _ (in_order l a b)) m

    -- and none is a lower pilot's
    above_lower : (l : ℕ) → 1 ≤ l → l ≤ 5 → (o : ℕ) → o < q → overlaps (stretch_of ss q l) (stretch_of ss o l) ≡ false
    above_lower l a b o c =
        let shared = or_false_right (leaves (get_or rooms (l - 1) 0) (stretch_of ss q l)) _ (in_order l a b) in
        ap (λ (k : ℕ). overlaps (stretch_of ss q l) (stretch_of ss k l)) (let e : o ≡ 0 + o = omega arith in e) ∙ none_from (λ k. overlaps (stretch_of ss q l) (stretch_of ss k l)) 0 q shared o c

  -- two pilots have no row in common
  pub lie_apart : (q o : ℕ) → q < 16 → o < 16 → (q ≡ o → ⊥) → (l : ℕ) → 1 ≤ l → l ≤ 5 → (i : ℕ)
      → first_at ss q l ≤ i → i < first_at ss q l + length_at ss q l → first_at ss o l ≤ i → i < first_at ss o l + length_at ss o l → ⊥
  lie_apart q o m n other l a b i c d e f = by (true_or_false (ltb o q)) (true_or_false (ltb q o))
    where
      by : (ltb o q ≡ true) ⊎ (ltb o q ≡ false) → (ltb q o ≡ true) ⊎ (ltb q o ≡ false) → ⊥
      by (inl t) u = common_row (stretch_of ss q l) (stretch_of ss o l) i (above_lower q m l a b o (ltb-true o q t)) c d e f
      by (inr t) (inl u) = common_row (stretch_of ss o l) (stretch_of ss q l) i (above_lower o n l a b q (ltb-true q o u)) e f c d
      by (inr t) (inr u) = other (let x = ltb-false o q t in let y = ltb-false q o u in omega (arith, x, y))
