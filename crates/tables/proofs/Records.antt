-- The records that are words alone, and a number with its float, read back.
use Prim.Native.Nat.{ℕ, ◌+◌, ◌*◌, ◌^◌, ◌<◌}
use native.Mathlib.Omega.{arith}
use mathlib.Core.Path.{◌≡◌, refl, sym, ap, ◌∙◌}
use mathlib.Core.Bool.{true}
use mathlib.Core.List.{List, [], append-nil}
use lib.Ieee.{Float, binary64, fits, of_bits}
use lib.ListN.{length}
use Rattle.rules.specs.Bytes.{u32_at, f64_at, signed}
use Rattle.rules.specs.Sheet.{effect_from, modifier_from, buff_collection_from, object_from, base_from, id_from, buff_from, ask_from}
use Rattle.tables.specs.Layout.{word, words, float, Words}
use Rattle.tables.specs.Tables.{effect_of, modifier_of, buff_collection_of, object_of, base_of, buff_of, ask_of, value_bytes}
use Rattle.tables.proofs.Numbers.{word_read, word-length, float_read, read_behind}
use Rattle.tables.proofs.Rows.{field-read}

pub effect_read : (k : ℕ) (r : List ℕ) → length r ≡ 6 → Words r → effect_from k (words r) ≡ effect_of k r
effect_read k r e w = rw (field-read r 0 (omega (arith, e)) w, field-read r 1 (omega (arith, e)) w, field-read r 2 (omega (arith, e)) w, field-read r 3 (omega (arith, e)) w, field-read r 4 (omega (arith, e)) w, field-read r 5 (omega (arith, e)) w) refl

pub modifier_read : (k : ℕ) (r : List ℕ) → length r ≡ 7 → Words r → modifier_from k (words r) ≡ modifier_of k r
modifier_read k r e w = rw (field-read r 0 (omega (arith, e)) w, field-read r 1 (omega (arith, e)) w, field-read r 2 (omega (arith, e)) w, field-read r 3 (omega (arith, e)) w, field-read r 4 (omega (arith, e)) w, field-read r 5 (omega (arith, e)) w, field-read r 6 (omega (arith, e)) w) refl

pub buff_collection_read : (k : ℕ) (r : List ℕ) → length r ≡ 4 → Words r → buff_collection_from k (words r) ≡ buff_collection_of k r
buff_collection_read k r e w = rw (field-read r 0 (omega (arith, e)) w, field-read r 1 (omega (arith, e)) w, field-read r 2 (omega (arith, e)) w, field-read r 3 (omega (arith, e)) w) refl

pub object-read : (k : ℕ) (r : List ℕ) → length r ≡ 17 → Words r → object_from k (words r) ≡ object_of k r
object-read k r e w = rw (field-read r 0 (omega (arith, e)) w, field-read r 1 (omega (arith, e)) w, field-read r 2 (omega (arith, e)) w, field-read r 3 (omega (arith, e)) w, field-read r 4 (omega (arith, e)) w, field-read r 5 (omega (arith, e)) w, field-read r 6 (omega (arith, e)) w, field-read r 7 (omega (arith, e)) w, field-read r 8 (omega (arith, e)) w, field-read r 9 (omega (arith, e)) w, field-read r 10 (omega (arith, e)) w, field-read r 11 (omega (arith, e)) w, field-read r 12 (omega (arith, e)) w, field-read r 13 (omega (arith, e)) w, field-read r 14 (omega (arith, e)) w, field-read r 15 (omega (arith, e)) w, field-read r 16 (omega (arith, e)) w) refl

pub ask_read : (k : ℕ) (r : List ℕ) → length r ≡ 2 → Words r → ask_from k (words r) ≡ ask_of r
ask_read k r e w = rw (field-read r 0 (omega (arith, e)) w, field-read r 1 (omega (arith, e)) w) refl

module _ (k n : ℕ) (h : n < 2 ^ 32) where
  pub id-read : id_from k (word n) ≡ signed n
  id-read = ap (λ (b : List ℕ). signed (u32_at b 0)) (sym (append-nil (word n))) ∙ ap signed (word_read n [] h)

  module _ (x : Float) (f : fits binary64 x ≡ true) where
    floated : f64_at (value_bytes n x) 4 ≡ x
    floated =
        ap (of_bits binary64)
        (ap (λ (m : ℕ). m + 2 ^ 32 * u32_at (value_bytes n x) 8) (read_behind (word n) (float x) 4 0 (word-length n))
        ∙ ap (λ (m : ℕ). u32_at (float x) 0 + 2 ^ 32 * m) (read_behind (word n) (float x) 4 4 (word-length n)))
        ∙ ap (λ (b : List ℕ). f64_at b 0) (sym (append-nil (float x)))
        ∙ float_read x [] f

    pub base_read : base_from k (value_bytes n x) ≡ base_of n x
    base_read = ap (λ (m : ℕ). base_of m (f64_at (value_bytes n x) 4)) (word_read n (float x) h) ∙ ap (base_of n) floated

    pub buff_read : buff_from k (value_bytes n x) ≡ buff_of n x
    buff_read = ap (λ (m : ℕ). buff_of m (f64_at (value_bytes n x) 4)) (word_read n (float x) h) ∙ ap (buff_of n) floated
