-- A number written is read back, and a number read is written back.
use Prim.Native.Nat.{ℕ, zero, suc, ◌+◌, ◌*◌, ◌/◌, ◌%◌, ◌^◌, ◌≤◌, ◌<◌}
use native.Mathlib.Nat.{add_assoc, le_of_suc-le-suc}
use native.Mathlib.Omega.{arith}
use mathlib.Core.Path.{◌≡◌, refl, sym, ap, ◌∙◌, subst}
use mathlib.Core.Bool.{true}
use mathlib.Core.List.{List, [], ◌∷◌, ◌++◌, append_assoc}
use lib.ListN.{length, get_or, take, drop, length-append}
use lib.Seq.{get_or-append-add, drop-cons}
use lib.Dec.{T}
use lib.Ieee.{Float, nan, binary64, of_bits, to_bits, fits}
use lib.Ieee.Bits.{of_bits-to_bits, to_bits-lt}
use Rattle.rules.specs.Bytes.{u32_at, f64_at}
use Rattle.tables.specs.Layout.{word, words, float, Words, Octets}

pub word-length : (x : ℕ) → length (word x) ≡ 4
unfolding word
word-length x = refl

-- ---- written and read

pub word_read : (x : ℕ) (l : List ℕ) → x < 2 ^ 32 → u32_at (word x ++ l) 0 ≡ x
unfolding word
word_read x l h = omega arith

-- behind a front of n bytes
pub read_behind : (p l : List ℕ) (n j : ℕ) → length p ≡ n → u32_at (p ++ l) (n + j) ≡ u32_at l j
read_behind p l n j e = rw (← e) (rw (add_assoc (length p) j 1, add_assoc (length p) j 2, add_assoc (length p) j 3, get_or-append-add p l j 0, get_or-append-add p l (j + 1) 0, get_or-append-add p l (j + 2) 0, get_or-append-add p l (j + 3) 0) refl)

-- field j of a row of words
pub words-read : (r : List ℕ) (l : List ℕ) (j : ℕ) → j < length r → Words r → u32_at (words r ++ l) (4 * j) ≡ get_or r j 0
words-read [] l j h w = absurd (omega arith)
words-read (x ∷ r) l zero h w = ap (λ (b : List ℕ). u32_at b 0) (append_assoc (word x) (words r) l) ∙ word_read x (words r ++ l) w.0
words-read (x ∷ r) l (suc j) h w =
    ap (λ (b : List ℕ). u32_at b (4 * suc j)) (append_assoc (word x) (words r) l)
    ∙ ap (u32_at (word x ++ (words r ++ l))) further
    ∙ read_behind (word x) (words r ++ l) 4 (4 * j) (word-length x)
    ∙ words-read r l j (le_of_suc-le-suc h) w.1
  where
    further : 4 * suc j ≡ 4 + 4 * j
    further = omega arith

pub words-length : (r : List ℕ) → length (words r) ≡ 4 * length r
words-length [] = refl
words-length (x ∷ r) = length-append (word x) (words r) ∙ ap (λ (n : ℕ). n + length (words r)) (word-length x) ∙ ap (λ (n : ℕ). 4 + n) (words-length r) ∙ further
  where
    further : 4 + 4 * length r ≡ 4 * suc (length r)
    further = omega arith

pub float-length : (x : Float) → length (float x) ≡ 8
unfolding float word
float-length x = refl

-- a float that the format holds
pub float_read : (x : Float) (l : List ℕ) → fits binary64 x ≡ true → f64_at (float x ++ l) 0 ≡ x
unfolding float
float_read x l h =
    ap (of_bits binary64) (rw (low, high) whole) ∙ of_bits-to_bits binary64 x holds
  where
    holds : T (fits binary64 x)
    holds = subst T (sym h) tt

    small : to_bits binary64 x < 2 ^ 64
    small = to_bits-lt binary64 x holds

    n : ℕ
    n = to_bits binary64 x

    low : u32_at ((word (n % 2 ^ 32) ++ word (n / 2 ^ 32)) ++ l) 0 ≡ n % 2 ^ 32
    low = ap (λ (b : List ℕ). u32_at b 0) (append_assoc (word (n % 2 ^ 32)) (word (n / 2 ^ 32)) l) ∙ word_read (n % 2 ^ 32) (word (n / 2 ^ 32) ++ l) (omega arith)

    high : u32_at ((word (n % 2 ^ 32) ++ word (n / 2 ^ 32)) ++ l) (0 + 4) ≡ n / 2 ^ 32
    high =
        ap (λ (b : List ℕ). u32_at b (0 + 4)) (append_assoc (word (n % 2 ^ 32)) (word (n / 2 ^ 32)) l)
        ∙ read_behind (word (n % 2 ^ 32)) (word (n / 2 ^ 32) ++ l) 4 0 (word-length (n % 2 ^ 32))
        ∙ word_read (n / 2 ^ 32) l (omega (arith, small))

    whole : n % 2 ^ 32 + 2 ^ 32 * (n / 2 ^ 32) ≡ n
    whole = omega arith

-- ---- read and written

bytes_four : (a b c d : ℕ) → a < 256 → b < 256 → c < 256 → d < 256 → word (a + 2 ^ 8 * b + 2 ^ 16 * c + 2 ^ 24 * d) ≡ a ∷ b ∷ c ∷ d ∷ []
unfolding word
bytes_four a b c d ha hb hc hd = rw (e0, e1, e2, e3) refl
  where
    n : ℕ
    n = a + 2 ^ 8 * b + 2 ^ 16 * c + 2 ^ 24 * d

    e0 : n % 256 ≡ a
    e0 = omega arith

    e1 : n / 256 % 256 ≡ b
    e1 = omega arith

    e2 : n / 256 / 256 % 256 ≡ c
    e2 = omega arith

    e3 : n / 256 / 256 / 256 % 256 ≡ d
    e3 = omega arith

pub octet : (b : List ℕ) (i : ℕ) → Octets b → get_or b i 0 < 256
octet [] i o = omega arith
octet (x ∷ b) zero o = o.0
octet (x ∷ b) (suc i) o = octet b i o.1

pub read_word : (b : List ℕ) (i : ℕ) → i + 4 ≤ length b → Octets b → word (u32_at b i) ≡ take 4 (drop i b)
read_word b i h o =
    bytes_four (get_or b i 0) (get_or b (i + 1) 0) (get_or b (i + 2) 0) (get_or b (i + 3) 0) (octet b i o) (octet b (i + 1) o) (octet b (i + 2) o) (octet b (i + 3) o)
    ∙ sym (four i h)
  where
    four : (i : ℕ) → i + 4 ≤ length b → take 4 (drop i b) ≡ get_or b i 0 ∷ get_or b (i + 1) 0 ∷ get_or b (i + 2) 0 ∷ get_or b (i + 3) 0 ∷ []
    four i h = rw (drop-cons b i 0 (omega arith)) (rw (drop-cons b (suc i) 0 (omega arith)) (rw (drop-cons b (suc (suc i)) 0 (omega arith)) (rw (drop-cons b (suc (suc (suc i))) 0 (omega arith)) (rw (s1, s2, s3) refl))))
      where
        s1 : i + 1 ≡ suc i
        s1 = omega arith

        s2 : i + 2 ≡ suc (suc i)
        s2 = omega arith

        s3 : i + 3 ≡ suc (suc (suc i))
        s3 = omega arith

-- a float inside its column, whatever stands past the end
pub float_any : (l : List Float) (k : ℕ) → k < length l → (d : Float) → get_or l k nan ≡ get_or l k d
float_any [] k h d = absurd (omega arith)
float_any (x ∷ l) zero h d = refl
float_any (x ∷ l) (suc k) h d = float_any l k (le_of_suc-le-suc h) d
