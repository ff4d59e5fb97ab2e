-- Words and records put one after another: one more.
use Prim.Native.Nat.{ℕ, zero, suc, ◌+◌, ◌*◌, ◌/◌, ◌%◌, ◌^◌, ◌≤◌, ◌<◌}
use native.Mathlib.Nat.{add-zero, zero-add, add_assoc, mul-zero, mul-suc, mul-le-mul_left}
use native.Mathlib.Numerals.{add-one}
use native.Mathlib.Omega.{arith}
use mathlib.Core.Path.{◌≡◌, refl, sym, ap, ◌∙◌, subst}
use mathlib.Core.List.{List, [], ◌∷◌, ◌++◌, map, append-nil, append_assoc}
use lib.ListN.{length, take, drop, get_or, length-drop}
use Rattle.std.specs.Int.{to_le_bytes}
use lib.Seq.{take_all, length-take-le}
use mathlib.Core.Bool.{true, not}
use lib.Dec.{T}
use lib.Ieee.{Float, nan, inf, fin, binary64, to_bits, is_nan}
use mir.Syntax.{w32, w64}
use Rattle.laws.specs.Floats.{finite, zero_f}
use Rattle.laws.specs.Lists.{flat, from}
use Rattle.laws.proofs.Maps.{take_next}
use Rattle.laws.proofs.From.{flat-from-next, table_of, table-length}
use Rattle.listing.specs.Put.{Put, put, puts}
use Rattle.listing.proofs.Puts.{after, renamed, ends, as_long}
use Rattle.tables.specs.Layout.{bytes_of, word, words, float, rows_of}
use Rattle.tables.specs.Tables.{number, value, fields, value_bytes, attribute_bytes}
use Rattle.put_tables.specs.Rows.{Beside}
use Rattle.tables.proofs.ReadsBack.{fields-all, words_wide}
use Rattle.tables.proofs.Numbers.{words-length, float_any}

-- the bytes of a number as the machine has them, lowest first
pub word_low : (x : ℕ) → to_le_bytes w32 x ≡ word x
unfolding word
word_low x =
    let two : x / 65536 ≡ x / 256 / 256 = omega arith in
    let three : x / 16777216 ≡ x / 256 / 256 / 256 = omega arith in
    rw (two, three) refl

pub float_low : (x : Float) → to_le_bytes w64 (to_bits binary64 x) ≡ float x
unfolding word float
float_low x = low (to_bits binary64 x)
  where
    low : (n : ℕ) → to_le_bytes w64 n ≡ bytes_of 4 (n % 2 ^ 32) ++ bytes_of 4 (n / 2 ^ 32)
    low n =
        let zero : n % 256 ≡ n % 2 ^ 32 % 256 = omega arith in
        let one : n / 256 % 256 ≡ n % 2 ^ 32 / 256 % 256 = omega arith in
        let two : n / 65536 % 256 ≡ n % 2 ^ 32 / 256 / 256 % 256 = omega arith in
        let three : n / 16777216 % 256 ≡ n % 2 ^ 32 / 256 / 256 / 256 % 256 = omega arith in
        let five : n / 256 ^ 5 ≡ n / 2 ^ 32 / 256 = omega arith in
        let six : n / 256 ^ 6 ≡ n / 2 ^ 32 / 256 / 256 = omega arith in
        let seven : n / 256 ^ 7 ≡ n / 2 ^ 32 / 256 / 256 / 256 = omega arith in
        rw (zero, one, two, three, five, six, seven) refl

pub words_append : (r s : List ℕ) → words (r ++ s) ≡ words r ++ words s
words_append [] s = refl
words_append (x ∷ r) s = ap (λ (l : List ℕ). word x ++ l) (words_append r s) ∙ sym (append_assoc (word x) (words r) (words s))

words-next : (r : List ℕ) (i : ℕ) → i < length r → words (take i r) ++ word (get_or r i 0) ≡ words (take (i + 1) r)
words-next r i h =
    sym (ap words (take_next r i 0 h) ∙ words_append (take i r) (get_or r i 0 ∷ []) ∙ ap (λ (l : List ℕ). words (take i r) ++ l) (append-nil (word (get_or r i 0))))

-- where a row of numbers ends
pub words_end : (r : List ℕ) (at : ℕ) (out : List ℕ) {p : ℕ} {now : List ℕ} → put p now ≡ puts (words r) (put at out) → p ≡ at + 4 * length r
words_end r at out e = ends (words r) at out e ∙ ap (λ (n : ℕ). at + n) (words-length r)

-- a row word by word
module _ (r : List ℕ) (at : ℕ) (out : List ℕ) where
  pub word_none : put at out ≡ puts (words (take 0 r)) (put at out)
  unfolding puts
  word_none = refl

  pub as_far : (i : ℕ) {p : ℕ} {now : List ℕ} → put p now ≡ puts (words (take i r)) (put at out) → length now ≡ length out
  as_far i e = as_long (words (take i r)) at out e

  -- where i words end, and that there is room for one more
  pub word_room : (i : ℕ) {p : ℕ} {now : List ℕ} → i < length r → at + 4 * length r ≤ length out → put p now ≡ puts (words (take i r)) (put at out)
      → p + 4 ≤ length now
  word_room i {p} {now} h room e = omega (arith, h, room, ends (words (take i r)) at out e, as_far i e, words-length (take i r), length-take-le i r (omega (arith, h)))

  pub word_next : (i : ℕ) {p q : ℕ} {now then : List ℕ} → i < length r → put p now ≡ puts (words (take i r)) (put at out)
      → put q then ≡ puts (word (get_or r i 0)) (put p now) → put q then ≡ puts (words (take (i + 1) r)) (put at out)
  word_next i h e f = renamed (put at out) (words-next r i h) (after (words (take i r)) (word (get_or r i 0)) (put at out) e f)

  pub word-all : (i : ℕ) {p : ℕ} {now : List ℕ} → length r ≤ i → put p now ≡ puts (words (take i r)) (put at out) → put p now ≡ puts (words r) (put at out)
  word-all i h e = renamed (put at out) (ap words (take_all i r h)) e

-- a float by its two halves
pub number-bits : (x : Float) → finite x ≡ true → T (not (is_nan x))
unfolding finite is_nan
number-bits nan e = subst T (sym e) tt
number-bits (inf s) e = tt
number-bits (fin s m k) e = tt

-- table 8: a column of numbers is a row
words-from : (g : ℕ → ℕ) (a n : ℕ) → words (map g (from a n)) ≡ flat (λ k. word (g k)) (from a n)
words-from g a zero = refl
words-from g a (suc n) = ap (λ (l : List ℕ). word (g a) ++ l) (words-from g (suc a) n)

pub words_rows : (c : List ℕ) → words c ≡ rows_of (λ k. word (number c k)) (length c)
words_rows c = ap words (sym (table_of c 0)) ∙ words-from (number c) 0 (length c)

-- ---- a table record by record: the first k stand, each of w bytes

pub record Laid (w : ℕ) (f : ℕ → List ℕ) (at : ℕ) (out : List ℕ) (place k : ℕ) (now : List ℕ) : Type 0 where
  pub there : place ≡ at + w * k
  pub stands : put place now ≡ puts (rows_of f k) (put at out)

module _ (w : ℕ) (f : ℕ → List ℕ) (at : ℕ) (out : List ℕ) where
  pub laid_none : Laid w f at out at 0 out
  unfolding puts
  laid_none = record { there = sym (ap (λ (m : ℕ). at + m) (mul-zero w) ∙ add-zero at); stands = refl }

module _ {w : ℕ} {f : ℕ → List ℕ} {at : ℕ} {out : List ℕ} {place k : ℕ} {now : List ℕ} (l : Laid w f at out place k now) where
  pub laid_long : length now ≡ length out
  laid_long = as_long (rows_of f k) at out l.stands

  -- room for all n is room for the next
  pub laid_room : (n : ℕ) → k < n → at + w * n ≤ length out → place + w ≤ length now
  laid_room n h room =
      let more : w * k + w ≤ w * n = subst (λ (m : ℕ). m ≤ w * n) (mul-suc w k) (mul-le-mul_left w h) in
      omega (arith, more, room, l.there, laid_long)

  pub laid_next : {q : ℕ} {then : List ℕ} → length (f k) ≡ w → put q then ≡ puts (f k) (put place now) → Laid w f at out q (k + 1) then
  laid_next {q} {then} e g =
      record {
        there = ends (f k) place now g ∙ rw (e, l.there, further) refl;
        stands = renamed (put at out) (sym (flat-from-next f 0 k ∙ ap (λ (j : ℕ). rows_of f k ++ f j) (zero-add k))) (after (rows_of f k) (f k) (put at out) l.stands g);
      }
    where
      further : at + w * (k + 1) ≡ at + w * k + w
      further = ap (λ (m : ℕ). at + m) (ap (λ (j : ℕ). w * j) (add-one k) ∙ mul-suc w k) ∙ sym (add_assoc at (w * k) w)

-- a row of n numbers
pub row_put : {x r : List ℕ} (n : ℕ) (s : Put) {t : Put} → x ≡ r → length x ≡ n → t ≡ puts (words x) s → t ≡ puts (words (fields n r)) s
row_put n s e l f = renamed s (ap words (sym (fields-all _ n l) ∙ ap (fields n) e)) f

pub fields_wide : (r : List ℕ) (n : ℕ) → length (words (fields n r)) ≡ 4 * n
fields_wide r n = words_wide (fields n r) n (table-length (number r) 0 n)

-- a float inside its column, whatever stands past the end
pub float_at : (l : List Float) (k : ℕ) → k < length l → get_or l k nan ≡ value l k
float_at l k h = float_any l k h zero_f

pub finite-at : {A : Type 0} (c : List A) (l : List Float) (k : ℕ) → Beside c l → k < length l → finite (get_or l k nan) ≡ true
finite-at c l k b h = ap finite (float_at l k h) ∙ b.1 k h

-- a number and a float
module _ (n : ℕ) (x : Float) (at : ℕ) (out : List ℕ) {p : ℕ} {now : List ℕ} (e : put p now ≡ puts (word n) (put at out)) where
  pub value_put : {y : Float} {q : ℕ} {then : List ℕ} → y ≡ x → put q then ≡ puts (float y) (put p now) → put q then ≡ puts (value_bytes n x) (put at out)
  value_put z f = after (word n) (float x) (put at out) e (renamed (put p now) (ap float z) f)

-- two numbers, a float, two numbers
pub attribute_put : (r : List ℕ) → length r ≡ 4 → (x : Float) (at : ℕ) (out : List ℕ) {p q s : ℕ} {now then last : List ℕ} {y : Float} → put p now ≡ puts (words (take 2 r)) (put at out)
    → y ≡ x → put q then ≡ puts (float y) (put p now) → put s last ≡ puts (words (take 2 (drop 2 r))) (put q then) → put s last ≡ puts (attribute_bytes r x) (put at out)
attribute_put r four x at out {p} {q} {s} {now} {then} e z f g =
    renamed (put at out) (ap (λ (l : List ℕ). words (take 2 l) ++ (float x ++ words (drop 2 l))) (sym (fields-all r 4 four)))
    (after (words (take 2 r)) (float x ++ words (drop 2 r)) (put at out) e
    (after (float x) (words (drop 2 r)) (put p now) (renamed (put p now) (ap float z) f) (renamed (put q then) (ap words (take_all 2 (drop 2 r) (omega (arith, length-drop 2 r, four)))) g)))
