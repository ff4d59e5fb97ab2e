-- A value that fits a format is the only one of its sign and size, and rounding it changes nothing.
use Prim.Native.Nat.{ℕ, zero, suc, ◌+◌, ◌-◌, ◌*◌, ◌%◌, ◌^◌, ◌≤◌, ◌<◌}
use mathlib.Core.Path.{◌≡◌, refl, sym, ap, ◌∙◌, subst}
use mathlib.Core.Bool.{Bool, ◌&&◌}
use native.Mathlib.Nat.{mul-one, one-mul, zero-mul, mul_assoc, mul_comm, mul_right_comm, mul_left_comm, mul-pos, eq_of_mul-eq-mul_right, lt_irrefl, zero-lt-suc, pow-succ', mul-lt-mul_of_pos_right, lt_of_lt_of_le, lt_of_not-le, not-le_of_lt, le_of_suc-le-suc}
use native.Mathlib.Omega.{arith}
use lib.Dec.{T, eqb, ltb, leb, eqb→eq, ltb→lt, leb→le}
use lib.IntN.{ℤ, pos, negsuc}
use lib.Pow.{pow-add, pow_pos, pow_mono, pow-lt, shl_lt}
use lib.Ieee.{Float, nan, inf, fin, Format, prec, emax, low, up, down, round, fits}
use lib.Ieee.Digits.{back}
use lib.Ieee.Exact.{HasValue, round_exact}
use lib.Ieee.Fits.{and_l, and_r, down_pos, up_pos, reach, round-fits}

-- ---- what it takes to fit

pub record Held (f : Format) (m : ℕ) (e : ℤ) : Type 0 where
  pub odd : m % 2 ≡ 1
  pub few : m < 2 ^ prec f
  pub deep : down e ≤ 2 ^ low f
  pub range : m * up e < 2 ^ suc (emax f) * down e

pub held : (f : Format) (s : Bool) (m : ℕ) (e : ℤ) → T (fits f (fin s (suc m) e)) → Held f (suc m) e
unfolding fits
held f s m e t =
    let A = eqb (suc m % 2) 1 in
    let B = ltb (suc m) (2 ^ prec f) in
    let C = leb (down e) (2 ^ low f) in
    let D = ltb (suc m * up e) (2 ^ suc (emax f) * down e) in
    record {
      odd = eqb→eq (suc m % 2) 1 (and_l A B (and_l (A && B) C (and_l (A && B && C) D t)));
      few = ltb→lt (suc m) (2 ^ prec f) (and_r A B (and_l (A && B) C (and_l (A && B && C) D t)));
      deep = leb→le (down e) (2 ^ low f) (and_r (A && B) C (and_l (A && B && C) D t));
      range = ltb→lt (suc m * up e) (2 ^ suc (emax f) * down e) (and_r (A && B && C) D t);
    }

two_up : (p : ℕ) → 0 < p → 2 * p ≡ 1 → ⊥
two_up p h e = omega arith

flat : (e : ℤ) → up e * down e ≡ 1 → e ≡ pos 0
flat (pos zero) h = refl
flat (pos (suc k)) h = absurd (two_up (2 ^ k) (pow_pos k) (sym (pow-succ' 2 k) ∙ sym (mul-one (2 ^ suc k)) ∙ h))
flat (negsuc k) h = absurd (two_up (2 ^ k) (pow_pos k) (sym (pow-succ' 2 k) ∙ sym (one-mul (2 ^ suc k)) ∙ h))

pub zero_exp : (f : Format) (s : Bool) (e : ℤ) → T (fits f (fin s zero e)) → e ≡ pos 0
unfolding fits
zero_exp f s e t = flat e (eqb→eq (up e * down e) 1 t)

-- ---- an odd number times a power of two is so in one way

even_odd : (m t : ℕ) → m % 2 ≡ 1 → m ≡ 2 * t → ⊥
even_odd m t o h = omega arith

odd_pow : (m n a b : ℕ) → m % 2 ≡ 1 → n % 2 ≡ 1 → m * 2 ^ a ≡ n * 2 ^ b → (m ≡ n) × (a ≡ b)
odd_pow m n zero zero o p h = (sym (mul-one m) ∙ h ∙ mul-one n, refl)
odd_pow m n zero (suc b) o p h = absurd (even_odd m (n * 2 ^ b) o (sym (mul-one m) ∙ h ∙ ap (λ (x : ℕ). n * x) (pow-succ' 2 b) ∙ mul_left_comm n 2 (2 ^ b)))
odd_pow m n (suc a) zero o p h = absurd (even_odd n (m * 2 ^ a) p (sym (mul-one n) ∙ sym h ∙ ap (λ (x : ℕ). m * x) (pow-succ' 2 a) ∙ mul_left_comm m 2 (2 ^ a)))
odd_pow m n (suc a) (suc b) o p h =
    let r = odd_pow m n a b o p (eq_of_mul-eq-mul_right 2 (zero-lt-suc 1) (m * 2 ^ a) (n * 2 ^ b) (two m a ∙ h ∙ sym (two n b))) in
    (r.0, ap suc r.1)
  where
    two : (x k : ℕ) → x * 2 ^ k * 2 ≡ x * 2 ^ suc k
    two x k = mul_assoc x (2 ^ k) 2 ∙ ap (λ (y : ℕ). x * y) (mul_comm (2 ^ k) 2 ∙ sym (pow-succ' 2 k))

cross : (m n : ℕ) (e g : ℤ) → m % 2 ≡ 1 → n % 2 ≡ 1 → m * up e * down g ≡ n * up g * down e → (m ≡ n) × (e ≡ g)
cross m n (pos a) (pos b) o p h = let r = odd_pow m n a b o p (sym (mul-one (m * 2 ^ a)) ∙ h ∙ mul-one (n * 2 ^ b)) in (r.0, ap pos r.1)
cross m n (pos a) (negsuc b) o p h =
    let r = odd_pow m n (a + suc b) 0 o p (ap (λ (x : ℕ). m * x) (pow-add 2 a (suc b)) ∙ sym (mul_assoc m (2 ^ a) (2 ^ suc b)) ∙ h ∙ mul-one (n * 1)) in absurd (omega (arith, r.1))
cross m n (negsuc a) (pos b) o p h =
    let r = odd_pow n m (b + suc a) 0 p o (ap (λ (x : ℕ). n * x) (pow-add 2 b (suc a)) ∙ sym (mul_assoc n (2 ^ b) (2 ^ suc a)) ∙ sym h ∙ mul-one (m * 1)) in absurd (omega (arith, r.1))
cross m n (negsuc a) (negsuc b) o p h =
    let r = odd_pow m n (suc b) (suc a) o p (ap (λ (x : ℕ). x * 2 ^ suc b) (sym (mul-one m)) ∙ h ∙ ap (λ (x : ℕ). x * 2 ^ suc a) (mul-one n)) in
    let k : a ≡ b = omega (arith, r.1) in (r.0, ap negsuc k)

-- ---- uniqueness

-- two fractions that equal a / c equal each other
same_value : (m n : ℕ) (e g : ℤ) (a c : ℕ) → 0 < c → m * up e * c ≡ a * down e → n * up g * c ≡ a * down g → m * up e * down g ≡ n * up g * down e
same_value m n e g a c p v w =
    eq_of_mul-eq-mul_right c p (m * up e * down g) (n * up g * down e)
    (mul_right_comm (m * up e) (down g) c
    ∙ ap (λ (x : ℕ). x * down g) v
    ∙ mul_right_comm a (down e) (down g)
    ∙ ap (λ (x : ℕ). x * down e) (sym w)
    ∙ mul_right_comm (n * up g) c (down e))

none : (n : ℕ) (e g : ℤ) → 0 * up e * down g ≡ suc n * up g * down e → ⊥
none n e g h =
    lt_irrefl 0
    (subst (λ (x : ℕ). 0 < x) (sym h ∙ ap (λ (x : ℕ). x * down g) (zero-mul (up e)) ∙ zero-mul (down g)) (mul-pos (mul-pos (zero-lt-suc n) (up_pos g)) (down_pos e)))

pub value_unique : (f : Format) (x y : Float) (s : Bool) (a c : ℕ) → 0 < c → T (fits f x) → T (fits f y) → HasValue x s a c → HasValue y s a c → x ≡ y
value_unique f nan y s a c k p q v w = absurd v
value_unique f (inf t) y s a c k p q v w = absurd v
value_unique f (fin t m e) nan s a c k p q v w = absurd w
value_unique f (fin t m e) (inf u) s a c k p q v w = absurd w
value_unique f (fin t zero e) (fin u zero g) s a c k p q v w = λ i. fin ((v.0 ∙ sym w.0) i) zero ((zero_exp f t e p ∙ sym (zero_exp f u g q)) i)
value_unique f (fin t zero e) (fin u (suc n) g) s a c k p q v w = absurd (none n e g (same_value 0 (suc n) e g a c k v.1 w.1))
value_unique f (fin t (suc m) e) (fin u zero g) s a c k p q v w = absurd (none m g e (same_value 0 (suc m) g e a c k w.1 v.1))
value_unique f (fin t (suc m) e) (fin u (suc n) g) s a c k p q v w =
    let r = cross (suc m) (suc n) e g (held f t m e p).odd (held f u n g q).odd (same_value (suc m) (suc n) e g a c k v.1 w.1) in
    λ i. fin ((v.0 ∙ sym w.0) i) (r.0 i) (r.1 i)

-- ---- rounding what fits

pow_le : (i j : ℕ) → 2 ^ i ≤ 2 ^ j → i ≤ j
pow_le i j h = le_of_suc-le-suc (lt_of_not-le (λ (g : suc j ≤ i). not-le_of_lt (pow-lt g) h))

room : (p j l e : ℕ) → p ≤ suc e → j ≤ l → p + j ≤ l + suc e
room p j l e a b = omega arith

exact : (f : Format) (s : Bool) (m : ℕ) (e : ℤ) → T (fits f (fin s m e)) → HasValue (round f s (m * up e) (down e)) s (m * up e) (down e)
exact f s zero e t = round_exact f s (0 * up e) (down e) 0 0 (down_pos e) (pow_pos (prec f)) (pow_pos (low f + suc (emax f))) (simp zero-mul)
exact f s (suc m) (pos a) t =
    let h = held f s m (pos a) t in
    let e1 : suc m * 2 ^ (a + low f) ≡ suc m * 2 ^ a * 2 ^ low f = ap (λ (x : ℕ). suc m * x) (pow-add 2 a (low f)) ∙ sym (mul_assoc (suc m) (2 ^ a) (2 ^ low f)) in
    let e2 : 2 ^ suc (emax f) * 1 * 2 ^ low f ≡ 2 ^ (low f + suc (emax f)) = ap (λ (x : ℕ). x * 2 ^ low f) (mul-one (2 ^ suc (emax f))) ∙ mul_comm (2 ^ suc (emax f)) (2 ^ low f) ∙ sym (pow-add 2 (low f) (suc (emax f))) in
    round_exact f s (suc m * 2 ^ a) 1 (suc m) (a + low f) (zero-lt-suc 0) h.few
    (subst (λ (x : ℕ). x < 2 ^ (low f + suc (emax f))) (sym e1) (subst (λ (x : ℕ). suc m * 2 ^ a * 2 ^ low f < x) e2 (mul-lt-mul_of_pos_right h.range (pow_pos (low f)))))
    (sym e1 ∙ sym (mul-one (suc m * 2 ^ (a + low f))))
exact f s (suc m) (negsuc a) t =
    let h = held f s m (negsuc a) t in
    let l : suc a ≤ low f = pow_le (suc a) (low f) h.deep in
    let j = low f - suc a in
    let jl : j ≤ low f = omega arith in
    let e1 : 2 ^ low f ≡ 2 ^ j * 2 ^ suc a = ap (λ (x : ℕ). 2 ^ x) (sym (back (low f) (suc a) l)) ∙ pow-add 2 j (suc a) in
    round_exact f s (suc m * 1) (2 ^ suc a) (suc m) j (pow_pos (suc a)) h.few
    (lt_of_lt_of_le (shl_lt (prec f) j h.few) (pow_mono (room (prec f) j (low f) (emax f) (reach f) jl)))
    (ap (λ (x : ℕ). x * 2 ^ low f) (mul-one (suc m)) ∙ ap (λ (x : ℕ). suc m * x) e1 ∙ sym (mul_assoc (suc m) (2 ^ j) (2 ^ suc a)))

-- rounding a value that fits gives that value
pub round-held : (f : Format) (s : Bool) (m : ℕ) (e : ℤ) → T (fits f (fin s m e)) → round f s (m * up e) (down e) ≡ fin s m e
round-held f s m e t =
    value_unique f (round f s (m * up e) (down e)) (fin s m e) s (m * up e) (down e) (down_pos e) (round-fits f s (m * up e) (down e)) t (exact f s m e t) (refl, refl)
