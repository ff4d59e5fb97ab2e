-- Laws of the tests on signed numbers: eq_z, lt_z and le_z.
use Prim.Native.Nat.{ℕ}
use mathlib.Core.Path.{◌≡◌, refl, sym, ap, subst, ◌∙◌}
use mathlib.Core.Bool.{Bool, true, false, not}
use lib.IntN.{ℤ, pos, negsuc}
use lib.Dec.{T, leb, ltb}
use lib.Signed.{lt_z, le_z, lt_z_yes, le_z_yes, <ℤ-≤ℤ_trans, <ℤ_irrefl}
use native.Mathlib.Omega.{arith}
use borrow.Author.Tests.{eqb-true, eq-eqb, ltb-true, ltb-false, le-leb, lt-leb, not-true, not-false}
use Rattle.laws.specs.Lists.{eq_z}
use Rattle.laws.proofs.Bools.{both_ways, passed, not-passed, not_failed, same_test}

pub eq_z_refl : (a : ℤ) → eq_z a a ≡ true
eq_z_refl (pos a) = eq-eqb a a refl
eq_z_refl (negsuc a) = eq-eqb a a refl

-- a test that passed, and the same numbers
pub eq_z_true : (a b : ℤ) → eq_z a b ≡ true → a ≡ b
eq_z_true (pos a) (pos b) e = ap pos (eqb-true a b e)
eq_z_true (pos a) (negsuc b) e = both_ways e refl
eq_z_true (negsuc a) (pos b) e = both_ways e refl
eq_z_true (negsuc a) (negsuc b) e = ap negsuc (eqb-true a b e)

pub eq_z_same : (a b : ℤ) → a ≡ b → eq_z a b ≡ true
eq_z_same a b e = ap (eq_z a) (sym e) ∙ eq_z_refl a

pub eq_z_false : (a b : ℤ) → eq_z a b ≡ false → a ≡ b → ⊥
eq_z_false a b n e = both_ways (eq_z_same a b e) n

pub eq_z-apart : (a b : ℤ) → (a ≡ b → ⊥) → eq_z a b ≡ false
eq_z-apart a b n = not-passed (eq_z a b) (λ e. n (eq_z_true a b e))

pub eq_z_sym : (a b : ℤ) → eq_z a b ≡ eq_z b a
eq_z_sym a b = same_test (eq_z a b) (eq_z b a) (λ e. eq_z_same b a (sym (eq_z_true a b e))) (λ e. eq_z_same a b (sym (eq_z_true b a e)))

-- at most is not more
turned : (a b : ℕ) (t : Bool) → ltb b a ≡ t → leb a b ≡ not t
turned a b true e = lt-leb a b (ltb-true b a e)
turned a b false e = le-leb a b (ltb-false b a e)

pub le_z_not : (a b : ℤ) → le_z a b ≡ not (lt_z b a)
le_z_not (pos a) (pos b) = turned a b (ltb b a) refl
le_z_not (pos a) (negsuc b) = refl
le_z_not (negsuc a) (pos b) = refl
le_z_not (negsuc a) (negsuc b) = turned b a (ltb a b) refl

pub lt_z_false : (a b : ℤ) → lt_z a b ≡ false → le_z b a ≡ true
lt_z_false a b e = le_z_not b a ∙ ap not e

pub lt_z_true : (a b : ℤ) → lt_z a b ≡ true → le_z b a ≡ false
lt_z_true a b e = le_z_not b a ∙ ap not e

pub le_z_false : (a b : ℤ) → le_z a b ≡ false → lt_z b a ≡ true
le_z_false a b e = not-false (lt_z b a) (sym (le_z_not a b) ∙ e)

pub le_z_true : (a b : ℤ) → le_z a b ≡ true → lt_z b a ≡ false
le_z_true a b e = not-true (lt_z b a) (sym (le_z_not a b) ∙ e)

pub lt_z_irrefl : (a : ℤ) → lt_z a a ≡ false
lt_z_irrefl a = not-passed (lt_z a a) (λ e. <ℤ_irrefl (lt_z_yes {a = a} {b = a} (subst T (sym e) tt)))

pub le_z_refl : (a : ℤ) → le_z a a ≡ true
le_z_refl a = lt_z_false a a (lt_z_irrefl a)

pub lt_z_le_z_trans : (a b c : ℤ) → lt_z a b ≡ true → le_z b c ≡ true → lt_z a c ≡ true
lt_z_le_z_trans a b c h k = passed (lt_z a c) (<ℤ-≤ℤ_trans (lt_z_yes {a = a} {b = b} (subst T (sym h) tt)) (le_z_yes {a = b} {b = c} (subst T (sym k) tt))).lt

pub le_z_trans : (a b c : ℤ) → le_z a b ≡ true → le_z b c ≡ true → le_z a c ≡ true
le_z_trans a b c h k = lt_z_false c a (not-passed (lt_z c a) (λ l. both_ways (lt_z_le_z_trans c a b l h) (le_z_true b c k)))

weaker : (a b : ℕ) → ltb a b ≡ true → leb a b ≡ true
weaker a b h = le-leb a b (omega (arith, ltb-true a b h))

-- less is at most, and not the same
pub lt_z_le_z : (a b : ℤ) → lt_z a b ≡ true → le_z a b ≡ true
lt_z_le_z (pos a) (pos b) h = weaker a b h
lt_z_le_z (pos a) (negsuc b) h = h
lt_z_le_z (negsuc a) (pos b) h = h
lt_z_le_z (negsuc a) (negsuc b) h = weaker b a h

pub lt_z_asym : (a b : ℤ) → lt_z a b ≡ true → lt_z b a ≡ false
lt_z_asym a b h = le_z_true a b (lt_z_le_z a b h)

pub lt_z_apart : (a b : ℤ) → lt_z a b ≡ true → eq_z a b ≡ false
lt_z_apart a b h = eq_z-apart a b (λ e. both_ways (ap (lt_z a) e ∙ h) (lt_z_irrefl a))

pub lt_z_trans : (a b c : ℤ) → lt_z a b ≡ true → lt_z b c ≡ true → lt_z a c ≡ true
lt_z_trans a b c h k = lt_z_le_z_trans a b c h (lt_z_le_z b c k)

pub le_z_lt_z_trans : (a b c : ℤ) → le_z a b ≡ true → lt_z b c ≡ true → lt_z a c ≡ true
le_z_lt_z_trans a b c h k = le_z_false c a (not-passed (le_z c a) (λ l. both_ways k (le_z_true c b (le_z_trans c a b l h))))

antisym : (a b : ℕ) → ltb a b ≡ false → ltb b a ≡ false → a ≡ b
antisym a b h k = omega (arith, ltb-false a b h, ltb-false b a k)

-- neither less nor more is the same
pub lt_z_neither : (a b : ℤ) → lt_z a b ≡ false → lt_z b a ≡ false → a ≡ b
lt_z_neither (pos a) (pos b) h k = ap pos (antisym a b h k)
lt_z_neither (pos a) (negsuc b) h k = both_ways refl k
lt_z_neither (negsuc a) (pos b) h k = both_ways refl h
lt_z_neither (negsuc a) (negsuc b) h k = ap negsuc (antisym a b k h)

-- not less and not the same is more
pub lt_z_else : (a b : ℤ) → lt_z a b ≡ false → eq_z a b ≡ false → lt_z b a ≡ true
lt_z_else a b h n = not_failed (lt_z b a) (λ k. eq_z_false a b n (lt_z_neither a b h k))

-- exactly one of three
pub data Ordered (a b : ℤ) : Type 0 where
  less : lt_z a b ≡ true → Ordered a b
  same : a ≡ b → Ordered a b
  more : lt_z b a ≡ true → Ordered a b

by_tests : (a b : ℤ) (s t : Bool) → lt_z a b ≡ s → lt_z b a ≡ t → Ordered a b
by_tests a b true t h k = less h
by_tests a b false true h k = more k
by_tests a b false false h k = same (lt_z_neither a b h k)

pub ordered : (a b : ℤ) → Ordered a b
ordered a b = by_tests a b (lt_z a b) (lt_z b a) refl refl
