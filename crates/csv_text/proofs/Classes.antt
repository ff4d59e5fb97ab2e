-- Bytes by their classes: which are special, which stand once between quotes, which are TEXTDATA, which a label may have.
use Prim.Native.Nat.{ℕ, ◌+◌, ◌≤◌, ◌<◌}
use native.Mathlib.Omega.{arith}
use mathlib.Core.Path.{◌≡◌, refl, sym, ap, ◌∙◌}
use mathlib.Core.Bool.{Bool, true, false, ◌&&◌, ◌||◌, cond, true≢false}
use mathlib.Core.List.{List, [], ◌∷◌, ◌++◌}
use lib.Dec.{eqb, leb}
use lib.ListN.{length, take, get_or}
use borrow.Author.Tests.{le-leb, ne_eqb}
use Rattle.laws.proofs.Maps.{take_next}
use Rattle.csv_text.specs.Csv.{Class, quote, comma, cr, lf, text, other, class_of, special, twice, doubled}
use Rattle.csv_text.specs.Labels.{allowed}

-- a class by the tests that decide it
abbrev class_by : Bool → Bool → Bool → Bool → Bool → Class
class_by q c r l t = cond q quote (cond c comma (cond r cr (cond l lf (cond t text other))))

special-by : (q c r l t : Bool) → q || (c || (r || l)) ≡ special (class_by q c r l t)
special-by true c r l t = refl
special-by false true r l t = refl
special-by false false true l t = refl
special-by false false false true t = refl
special-by false false false false true = refl
special-by false false false false false = refl

pub special-told : (b : ℕ) → eqb b 34 || (eqb b 44 || (eqb b 13 || eqb b 10)) ≡ special (class_of b)
unfolding class_of
special-told b = special-by (eqb b 34) (eqb b 44) (eqb b 13) (eqb b 10) (leb 32 b && leb b 126)

-- no byte above a comma is
pub not-special : (b : ℕ) → 44 < b → false ≡ special (class_of b)
not-special b l =
    sym (ap (λ (t : Bool). t || (eqb b 44 || (eqb b 13 || eqb b 10))) (ne_eqb b 34 (λ e. omega (arith, e)))
    ∙ ap (λ (t : Bool). t || (eqb b 13 || eqb b 10)) (ne_eqb b 44 (λ e. omega (arith, e)))
    ∙ ap (λ (t : Bool). t || eqb b 10) (ne_eqb b 13 (λ e. omega (arith, e))) ∙ ne_eqb b 10 (λ e. omega (arith, e))) ∙ special-told b

-- ---- between quotes

once_by : (b : ℕ) (q c r l t : Bool) → q ≡ false → b ∷ [] ≡ twice (class_by q c r l t) b []
once_by b true c r l t e = absurd (true≢false e)
once_by b false true r l t e = refl
once_by b false false true l t e = refl
once_by b false false false true t e = refl
once_by b false false false false true e = refl
once_by b false false false false false e = refl

pub stands_once : (b : ℕ) → (b ≡ 34 → ⊥) → b ∷ [] ≡ twice (class_of b) b []
unfolding class_of
stands_once b n = once_by b (eqb b 34) (eqb b 44) (eqb b 13) (eqb b 10) (leb 32 b && leb b 126) (ne_eqb b 34 n)

pub stands_twice : (b : ℕ) → b ≡ 34 → b ∷ b ∷ [] ≡ twice (class_of b) b []
unfolding class_of
stands_twice b e = rw e refl

twice_append : (c : Class) (b : ℕ) (r s : List ℕ) → twice c b (r ++ s) ≡ twice c b r ++ s
twice_append quote b r s = refl
twice_append comma b r s = refl
twice_append cr b r s = refl
twice_append lf b r s = refl
twice_append text b r s = refl
twice_append other b r s = refl

doubled_snoc : (t : List ℕ) (b : ℕ) → doubled (t ++ (b ∷ [])) ≡ doubled t ++ twice (class_of b) b []
unfolding doubled
doubled_snoc [] b = refl
doubled_snoc (x ∷ t) b = ap (twice (class_of x) x) (doubled_snoc t b) ∙ twice_append (class_of x) x (doubled t) (twice (class_of b) b [])

-- one byte more
pub doubled-next : (t : List ℕ) (i d : ℕ) → i < length t → doubled (take i t) ++ twice (class_of (get_or t i d)) (get_or t i d) [] ≡ doubled (take (i + 1) t)
doubled-next t i d h = sym (ap doubled (take_next t i d h) ∙ doubled_snoc (take i t) (get_or t i d))

-- ---- TEXTDATA

text_by : (q c r l t : Bool) → q ≡ false → c ≡ false → r ≡ false → l ≡ false → t ≡ true → class_by q c r l t ≡ text
text_by q c r l t e f g h k = rw (e, f, g, h, k) refl

-- the bytes from `-` to `~`
pub plain_text : (b : ℕ) → 44 < b → b ≤ 126 → class_of b ≡ text
unfolding class_of
plain_text b l h =
    text_by (eqb b 34) (eqb b 44) (eqb b 13) (eqb b 10) (leb 32 b && leb b 126) (ne_eqb b 34 (λ e. omega (arith, e))) (ne_eqb b 44 (λ e. omega (arith, e)))
    (ne_eqb b 13 (λ e. omega (arith, e))) (ne_eqb b 10 (λ e. omega (arith, e))) (rw (le-leb 32 b (omega arith), le-leb b 126 h) refl)

-- ---- what a label may have

known_by : (q c r l t : Bool) → t || (r || l) ≡ true → class_by q c r l t ≡ other → ⊥
known_by true c r l t a e = let z : true ≡ false = cc in true≢false z
known_by false true r l t a e = let z : true ≡ false = cc in true≢false z
known_by false false true l t a e = let z : true ≡ false = cc in true≢false z
known_by false false false true t a e = let z : true ≡ false = cc in true≢false z
known_by false false false false true a e = let z : true ≡ false = cc in true≢false z
known_by false false false false false a e = true≢false (sym a)

pub known : (b : ℕ) → allowed b ≡ true → class_of b ≡ other → ⊥
unfolding class_of
known b = known_by (eqb b 34) (eqb b 44) (eqb b 13) (eqb b 10) (leb 32 b && leb b 126)
