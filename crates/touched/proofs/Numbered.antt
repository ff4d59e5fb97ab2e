-- What is kept of the numbered effects, and the one object of a number.
use Prim.Native.Nat.{ℕ, zero, suc, ◌+◌, ◌<◌, suc-le-suc, zero-le}
use native.Mathlib.Nat.{not-suc-le-zero, le_of_suc-le-suc, add-zero}
use native.Mathlib.Omega.{arith}
use mathlib.Core.Path.{◌≡◌, refl, sym, ap, ◌∙◌}
use mathlib.Core.Bool.{Bool, true, false, ◌&&◌, ◌||◌}
use mathlib.Core.List.{List, [], ◌∷◌, map}
use borrow.Author.Tests.{eq-eqb, ne_eqb}
use lib.Dec.{eqb}
use lib.IntN.{ℤ}
use lib.ListN.{length, get_or}
use Rattle.laws.specs.Lists.{eq_z, some?, put, keep, total}
use Rattle.laws.proofs.Bools.{and_false_right, and_true_right, or_true_right}
use Rattle.laws.proofs.Order.{eq_z_refl}
use Rattle.rules.specs.Item.{no_item}
use Rattle.rules.specs.Columns.{yes1}
use Rattle.rules.specs.Dispatch.{Numbered, numbered}
use Rattle.rules.specs.declared.Item.{Item}
use Rattle.rules.specs.declared.Pass2Effect.{Pass2Effect}

abbrev one : ℕ → Pass2Effect → Numbered
one k t = record { number = k; effect = t }

abbrev pub target : Pass2Effect → ℤ
target t = t.target_attribute_id

-- ---- effects

put_one : (b : Bool) (n : Numbered) (l : List Numbered) → l ≡ [] → length (put b n l) ≡ yes1 b
put_one true n l e = ap (λ (x : List Numbered). suc (length x)) e
put_one false n l e = ap length e

put_same : (b : Bool) (n : Numbered) (t : Pass2Effect) (l : List Numbered) (m : List Pass2Effect) → length l ≡ length m → length (put b n l) ≡ length (put b t m)
put_same true n t l m e = ap suc e
put_same false n t l m e = e

module _ (p : Pass2Effect → Bool) where
  abbrev of : ℕ → Numbered → Bool
  of j n = p n.effect && eqb n.number j

  apart : (t : Pass2Effect) (k j : ℕ) → (k ≡ j → ⊥) → p t && eqb k j ≡ false
  apart t k j h = ap (λ (b : Bool). p t && b) (ne_eqb k j h) ∙ and_false_right (p t)

  later_none : (j k : ℕ) → j < k → (ts : List Pass2Effect) → keep (of j) (numbered k ts) ≡ []
  later_none j k h [] = refl
  later_none j k h (t ∷ ts) =
      ap (λ (b : Bool). put b (one k t) (keep (of j) (numbered (suc k) ts))) (apart t k j (λ e. absurd (omega (arith, e, h))))
      ∙ later_none j (suc k) (omega arith) ts

  -- "exactly one": of number k + j there is the effect at place j, if it passes
  pub kept_one : (j k : ℕ) (ts : List Pass2Effect) (z : Pass2Effect) → j < length ts → length (keep (of (k + j)) (numbered k ts)) ≡ yes1 (p (get_or ts j z))
  kept_one j k [] z h = absurd (not-suc-le-zero h)
  kept_one zero k (t ∷ ts) z h =
      ap (λ (b : Bool). length (put (p t && b) (one k t) (keep (of (k + 0)) (numbered (suc k) ts)))) (eq-eqb k (k + 0) (sym (add-zero k)))
      ∙ ap (λ (b : Bool). length (put b (one k t) (keep (of (k + 0)) (numbered (suc k) ts)))) (and_true_right (p t))
      ∙ put_one (p t) (one k t) (keep (of (k + 0)) (numbered (suc k) ts)) (later_none (k + 0) (suc k) (omega arith) ts)
  kept_one (suc j) k (t ∷ ts) z h =
      ap (λ (b : Bool). length (put b (one k t) (keep (of (k + suc j)) (numbered (suc k) ts)))) (apart t k (k + suc j) (λ e. absurd (omega (arith, e))))
      ∙ ap (λ (n : ℕ). length (keep (of n) (numbered (suc k) ts))) (on k j)
      ∙ kept_one j (suc k) ts z (le_of_suc-le-suc h)
    where
      on : (k j : ℕ) → k + suc j ≡ suc k + j
      on k j = omega arith

  -- numbers aside
  pub numbered_kept : (k : ℕ) (ts : List Pass2Effect) → length (keep (λ n. p n.effect) (numbered k ts)) ≡ length (keep p ts)
  numbered_kept k [] = refl
  numbered_kept k (t ∷ ts) = put_same (p t) (one k t) t (keep (λ n. p n.effect) (numbered (suc k) ts)) (keep p ts) (numbered_kept (suc k) ts)

  there_by : (b : Bool) (a : ℤ) (n : Numbered) (l : List Numbered) → some? (eq_z a) (map (λ m. target m.effect) l) ≡ true → some? (eq_z a) (map (λ m. target m.effect) (put b n l)) ≡ true
  there_by true a n l h = ap (λ (b : Bool). eq_z a (target n.effect) || b) h ∙ or_true_right (eq_z a (target n.effect))
  there_by false a n l h = h

  -- the attribute of one that passes is among those of all that do
  pub target_there : (j k : ℕ) (ts : List Pass2Effect) (z : Pass2Effect) → j < length ts → p (get_or ts j z) ≡ true → some? (eq_z (target (get_or ts j z))) (map (λ m. target m.effect) (keep (λ n. p n.effect) (numbered k ts))) ≡ true
  target_there j k [] z h e = absurd (not-suc-le-zero h)
  target_there zero k (t ∷ ts) z h e = rw (e, eq_z_refl (target t)) refl
  target_there (suc j) k (t ∷ ts) z h e =
      there_by (p t) (target (get_or ts j z)) (one k t) (keep (λ n. p n.effect) (numbered (suc k) ts)) (target_there j (suc k) ts z (le_of_suc-le-suc h) e)

-- ---- objects

module _ (g : Item → ℕ) where
  rest_none : (i s : ℕ) (os : List Item) → ((j : ℕ) → j < length os → (get_or os j no_item).number ≡ s + j) → i < s → ((o : Item) → eqb o.number i ≡ false → g o ≡ 0) → total (map g os) ≡ 0
  rest_none i s [] n h z = refl
  rest_none i s (o ∷ os) n h z =
      let own : g o ≡ 0 = z o (ne_eqb o.number i (λ e. absurd (omega (arith, e, h, n zero (suc-le-suc zero-le))))) in
      let rest : total (map g os) ≡ 0 = rest_none i (suc s) os (λ j l. n (suc j) (suc-le-suc l) ∙ omega arith) (omega (arith, h)) z in
      omega (arith, own, rest)

  -- where all others count nothing, the sum is that of the object with the number
  pub total-one : (i s : ℕ) (os : List Item) → ((j : ℕ) → j < length os → (get_or os j no_item).number ≡ s + j) → i < length os → ((o : Item) → eqb o.number (s + i) ≡ false → g o ≡ 0) → total (map g os) ≡ g (get_or os i no_item)
  total-one i s [] n h z = absurd (not-suc-le-zero h)
  total-one zero s (o ∷ os) n h z =
      let rest : total (map g os) ≡ 0 = rest_none (s + 0) (suc s) os (λ j l. n (suc j) (suc-le-suc l) ∙ omega arith) (omega arith) z in
      omega (arith, rest)
  total-one (suc i) s (o ∷ os) n h z =
      let own : g o ≡ 0 = z o (ne_eqb o.number (s + suc i) (λ e. absurd (omega (arith, e, n zero (suc-le-suc zero-le))))) in
      let rest : total (map g os) ≡ g (get_or os i no_item) = total-one i (suc s) os (λ j l. n (suc j) (suc-le-suc l) ∙ omega arith) (le_of_suc-le-suc h) (λ p e. z p (ap (eqb p.number) (on s i) ∙ e)) in
      omega (arith, own, rest)
    where
      on : (s i : ℕ) → s + suc i ≡ suc s + i
      on s i = omega arith
