-- Laws of tests: what a passed or a failed test says, and the two sides of && and ||.
use mathlib.Core.Path.{◌≡◌, refl, sym, ◌∙◌}
use mathlib.Core.Bool.{Bool, true, false, not, ◌&&◌, ◌||◌, true≢false}
use mathlib.Core.Logic.{◌⊎◌, inl, inr}
use lib.Dec.{T}

-- a test that passed and failed
pub both_ways : {X : Type 0} {t : Bool} → t ≡ true → t ≡ false → X
both_ways p q = absurd (true≢false (sym p ∙ q))

pub true_or_false : (t : Bool) → (t ≡ true) ⊎ (t ≡ false)
true_or_false true = inl refl
true_or_false false = inr refl

pub passed : (t : Bool) → T t → t ≡ true
passed true h = refl
passed false h = absurd h

-- by whichever of two tests passed
pub either : {X : Type 0} (s t : Bool) → (s ≡ true → X) → (t ≡ true → X) → s || t ≡ true → X
either true t f g e = f refl
either false t f g e = g e

pub not-passed : (t : Bool) → (t ≡ true → ⊥) → t ≡ false
not-passed true n = absurd (n refl)
not-passed false n = refl

pub not_failed : (t : Bool) → (t ≡ false → ⊥) → t ≡ true
not_failed true n = refl
not_failed false n = absurd (n refl)

pub not-not : (t : Bool) → not (not t) ≡ t
not-not true = refl
not-not false = refl

-- two tests that pass together are the same
pub same_test : (s t : Bool) → (s ≡ true → t ≡ true) → (t ≡ true → s ≡ true) → s ≡ t
same_test true t f g = sym (f refl)
same_test false true f g = g refl
same_test false false f g = refl

pub and_left : (s t : Bool) → s && t ≡ true → s ≡ true
and_left true t e = refl
and_left false t e = e

pub and_right : (s t : Bool) → s && t ≡ true → t ≡ true
and_right true t e = e
and_right false true e = refl
and_right false false e = e

pub and_both : {s t : Bool} → s ≡ true → t ≡ true → s && t ≡ true
and_both p q = rw (p, q)

pub and_false_right : (s : Bool) → s && false ≡ false
and_false_right true = refl
and_false_right false = refl

pub and_true_right : (s : Bool) → s && true ≡ s
and_true_right true = refl
and_true_right false = refl

pub and_assoc : (r s t : Bool) → r && s && t ≡ r && (s && t)
and_assoc true s t = refl
and_assoc false s t = refl

pub or_false_left : (s t : Bool) → s || t ≡ false → s ≡ false
or_false_left true t e = e
or_false_left false t e = refl

pub or_false_right : (s t : Bool) → s || t ≡ false → t ≡ false
or_false_right true true e = e
or_false_right true false e = refl
or_false_right false t e = e

pub or_true_right : (s : Bool) → s || true ≡ true
or_true_right true = refl
or_true_right false = refl

pub or_none_right : (s : Bool) → s || false ≡ s
or_none_right true = refl
or_none_right false = refl

pub or_assoc : (r s t : Bool) → r || s || t ≡ r || (s || t)
or_assoc true s t = refl
or_assoc false s t = refl

-- the first two change places
pub or_swap : (r s t : Bool) → r || (s || t) ≡ s || (r || t)
or_swap true true t = refl
or_swap true false t = refl
or_swap false s t = refl

pub or_twice : (s t : Bool) → s || (s || t) ≡ s || t
or_twice true t = refl
or_twice false t = refl
