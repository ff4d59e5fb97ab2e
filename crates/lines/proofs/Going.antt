-- Digits, one at a time: what is left of the text decides.
use Prim.Native.Nat.{ℕ, zero, suc, ◌+◌, ◌*◌, ◌-◌, ◌≤◌, ◌<◌, min}
use native.Mathlib.Nat.{add-zero, add-suc, eq-or-lt_of_le, mul-le-mul}
use native.Mathlib.Omega.{arith}
use mathlib.Core.Path.{◌≡◌, refl, sym, ap, subst, ◌∙◌}
use mathlib.Core.Bool.{Bool, true, false}
use mathlib.Core.List.{List, [], ◌∷◌}
use mathlib.Core.Logic.{◌⊎◌, inl, inr}
use lib.Dec.{ltb}
use lib.ListN.{length, get_or, drop}
use borrow.Author.Tests.{lt-ltb, le-ltb}
use Rattle.laws.proofs.Scans.{drop-step, drop_end}
use Rattle.lines.specs.Fields.{Cut, digit, digits}
use Rattle.lines.specs.Reads.{largest, cut_at}

-- ---- several

-- by what the test of the next byte says
next : (base n v c : ℕ) (xs : List ℕ) → Bool → Cut
next base n v c xs true = digits base n (v * base + digit c) xs
next base n v c xs false = record { value = v; rest = c ∷ xs }

by_next : (base n v c : ℕ) (xs : List ℕ) (t : Bool) → ltb (digit c) base ≡ t → digits base (suc n) v (c ∷ xs) ≡ next base n v c xs t
unfolding digits next
by_next base n v c xs t e = by (ltb (digit c) base) ∙ ap (next base n v c xs) e
  where
    by : (s : Bool) → ◌≡◌ {A = Cut} (elim s [ true ↦ digits base n (v * base + digit c) xs | false ↦ record { value = v; rest = c ∷ xs } ]) (next base n v c xs s)
    by true = refl
    by false = refl

step : (base n v c : ℕ) (xs : List ℕ) → ltb (digit c) base ≡ true → digits base (suc n) v (c ∷ xs) ≡ digits base n (v * base + digit c) xs
unfolding next
step base n v c xs e = by_next base n v c xs true e

stop : (base n v c : ℕ) (xs : List ℕ) → ltb (digit c) base ≡ false → digits base (suc n) v (c ∷ xs) ≡ record { value = v; rest = c ∷ xs }
unfolding next
stop base n v c xs e = by_next base n v c xs false e

nothing_left : (base n v : ℕ) → digits base n v [] ≡ record { value = v; rest = [] }
unfolding digits
nothing_left base zero v = refl
nothing_left base (suc n) v = refl

no_more : (base v : ℕ) (xs : List ℕ) → digits base 0 v xs ≡ record { value = v; rest = xs }
unfolding digits
no_more base v xs = refl

largest-up : (n m : ℕ) → largest n ≤ largest (n + m)
largest-up n zero = subst (λ (k : ℕ). largest n ≤ largest k) (sym (add-zero n)) (omega arith)
largest-up n (suc m) = subst (λ (k : ℕ). largest n ≤ largest k) (sym (add-suc n m)) (omega (arith, largest-up n m))

-- digits up to place i are read
pub record Going (base most at : ℕ) (text : List ℕ) (end value i : ℕ) : Type 0 where
  pub low : at ≤ i
  pub high : i ≤ end
  pub small : value ≤ largest (i - at)
  pub is : digits base most 0 (drop at text) ≡ digits base (at + most - i) value (drop i text)

module _ (base most at : ℕ) (text : List ℕ) {end : ℕ} where
  pub going_start : at ≤ end → Going base most at text end 0 at
  going_start l =
      record { low = omega arith; high = l; small = omega arith; is = ap (λ (n : ℕ). digits base n 0 (drop at text)) (omega arith) }

  module _ {value i : ℕ} (g : Going base most at text end value i) where
    pub going_small : most ≤ 10 → end ≤ at + most → value ≤ 1099511627775
    going_small few near =
        let k = i - at in
        let up : largest k ≤ largest (k + (10 - k)) = largest-up k (10 - k) in
        let ten : k + (10 - k) ≡ 10 = omega (arith, g.low, g.high) in
        omega (arith, g.small, subst (λ (n : ℕ). largest k ≤ largest n) ten up)

    pub going_times : most ≤ 10 → end ≤ at + most → base ≤ 16 → value * base ≤ 17592186044400
    going_times few near small = omega (arith, mul-le-mul (going_small few near) small)

    module _ (l : i < end) (near : end ≤ at + most) (inside : end ≤ length text) {d : ℕ} (e : d ≡ digit (get_or text i 0)) where
      left : drop i text ≡ get_or text i 0 ∷ drop (i + 1) text
      left = drop-step text i 0 (omega arith)

      one : at + most - i ≡ suc (at + most - (i + 1))
      one = omega arith

      now_is : digits base most 0 (drop at text) ≡ digits base (suc (at + most - (i + 1))) value (get_or text i 0 ∷ drop (i + 1) text)
      now_is = g.is ∙ ap (λ (n : ℕ). digits base n value (drop i text)) one ∙ ap (digits base (suc (at + most - (i + 1))) value) left

      pub going_more : base ≤ 16 → d < base → Going base most at text end (value * base + d) (i + 1)
      going_more small below =
          record {
            low = omega (arith, g.low);
            high = omega arith;
            small = subst (λ (n : ℕ). value * base + d ≤ largest n) (sym longer) (omega (arith, mul-le-mul g.small small, below));
            is = now_is ∙ step base (at + most - (i + 1)) value (get_or text i 0) (drop (i + 1) text) (lt-ltb _ _ (subst (λ (n : ℕ). n < base) e below)) ∙ ap (λ (n : ℕ). digits base (at + most - (i + 1)) (value * base + n) (drop (i + 1) text)) (sym e);
          }
        where
          longer : i + 1 - at ≡ suc (i - at)
          longer = omega (arith, g.low)

      pub going_stop : base ≤ d → cut_at value i text ≡ digits base most 0 (drop at text)
      going_stop h =
          ap (λ (xs : List ℕ). record { value = value; rest = xs }) left
          ∙ sym (now_is ∙ stop base (at + most - (i + 1)) value (get_or text i 0) (drop (i + 1) text) (le-ltb _ _ (subst (λ (n : ℕ). base ≤ n) e h)))

    -- at the end there are no more digits to read, or no more text
    pub going_end : end ≤ i → end ≡ min (length text) (at + most) → (cut_at value end text ≡ digits base most 0 (drop at text)) × (value ≤ largest (end - at))
    going_end past e = (ap (λ (n : ℕ). cut_at value n text) (sym same) ∙ by (eq-or-lt_of_le {n = i} {m = at + most} (omega (arith, g.high))), subst (λ (n : ℕ). value ≤ largest (n - at)) same g.small)
      where
        same : i ≡ end
        same = omega (arith, g.high)

        by : (i ≡ at + most) ⊎ (i < at + most) → cut_at value i text ≡ digits base most 0 (drop at text)
        by (inl q) = sym (g.is ∙ ap (λ (n : ℕ). digits base n value (drop i text)) (omega (arith, q)) ∙ no_more base value (drop i text))
        by (inr q) =
            let gone : drop i text ≡ [] = drop_end text i (omega (arith, q, same)) in
            ap (λ (xs : List ℕ). record { value = value; rest = xs }) gone ∙ sym (g.is ∙ ap (digits base (at + most - i) value) gone ∙ nothing_left base (at + most - i) value)
