-- A record read from its bytes and written again is its bytes.
use Prim.Native.Nat.{ℕ, zero, suc, ◌+◌, ◌*◌, ◌/◌, ◌%◌, ◌^◌, ◌<◌}
use native.Mathlib.Omega.{arith}
use mathlib.Core.Path.{◌≡◌, refl, sym, ◌∙◌, subst}
use mathlib.Core.Bool.{true, not}
use mathlib.Core.List.{List, ◌++◌, map}
use lib.ListN.{length}
use lib.Seq.{take_all}
use lib.Dec.{T}
use lib.Ieee.{Float, nan, inf, fin, binary64, to_bits, is_nan}
use lib.Ieee.Bits.{to_bits-of_bits}
use mir.Syntax.{w32}
use mir.ValLaws.{of_z-to_z}
use Rattle.laws.specs.Lists.{from}
use Rattle.laws.specs.Floats.{finite}
use Rattle.rules.specs.Bytes.{u32_at, i32_at, f64_at, bits}
use Rattle.rules.specs.Sheet.{attribute_from, effect_from, modifier_from, type_effect_from, buff_collection_from, object_from, ask_from}
use Rattle.tables.specs.Layout.{word, words, float, Words, Octets}
use Rattle.tables.specs.Tables.{attribute_row, effect_row, modifier_row, type_effect_row, buff_collection_row, object_row, ask_row, attribute_bytes, value_bytes}
use Rattle.tables.proofs.Numbers.{octet}
use Rattle.tables.proofs.Back.{words_back}

finite_number : (x : Float) → finite x ≡ true → T (not (is_nan x))
unfolding finite is_nan
finite_number nan e = subst T (sym e) tt
finite_number (inf s) e = tt
finite_number (fin s m k) e = tt

module _ (r : List ℕ) (o : Octets r) where
  pub small : (i : ℕ) → u32_at r i < 2 ^ 32
  small i = omega (arith, octet r i o, octet r (i + 1) o, octet r (i + 2) o, octet r (i + 3) o)

  pub unsigned : (i : ℕ) → bits (i32_at r i) ≡ u32_at r i
  unsigned i = of_z-to_z w32 (u32_at r i) (record { fits = small i })

  pub float-again : (i : ℕ) → finite (f64_at r i) ≡ true → float (f64_at r i) ≡ word (u32_at r i) ++ word (u32_at r (i + 4))
  unfolding float
  float-again i e = rw (same, low, high) refl
    where
      n : ℕ
      n = u32_at r i + 2 ^ 32 * u32_at r (i + 4)

      same : to_bits binary64 (f64_at r i) ≡ n
      same = to_bits-of_bits binary64 n (omega (arith, small i, small (i + 4))) (finite_number (f64_at r i) e)

      low : n % 2 ^ 32 ≡ u32_at r i
      low = omega (arith, small i)

      high : n / 2 ^ 32 ≡ u32_at r (i + 4)
      high = omega (arith, small i)

  pub words-again : (n : ℕ) → length r ≡ 4 * n → words (map (λ j. u32_at r (4 * j)) (from 0 n)) ≡ r
  words-again n e = words_back r 0 n (omega (arith, e)) o ∙ take_all (4 * n) r (omega (arith, e))

  pub attribute_again : (k : ℕ) → length r ≡ 24 → finite (f64_at r 8) ≡ true → attribute_bytes (attribute_row (attribute_from k r)) (f64_at r 8) ≡ r
  unfolding word
  attribute_again k e f = rw (unsigned 0, unsigned 16, unsigned 20, float-again 8 f) (words-again 6 e)

  pub effect_again : (k : ℕ) → length r ≡ 24 → words (effect_row (effect_from k r)) ≡ r
  effect_again k e = rw (unsigned 0, unsigned 8, unsigned 12) (words-again 6 e)

  pub modifier_again : (k : ℕ) → length r ≡ 28 → words (modifier_row (modifier_from k r)) ≡ r
  modifier_again k e = rw (unsigned 12, unsigned 16, unsigned 20, unsigned 24) (words-again 7 e)

  pub type_effect_again : (k : ℕ) → length r ≡ 12 → words (type_effect_row (type_effect_from k r)) ≡ r
  type_effect_again k e = rw (unsigned 0, unsigned 4) (words-again 3 e)

  pub buff_collection_again : (k : ℕ) → length r ≡ 16 → words (buff_collection_row (buff_collection_from k r)) ≡ r
  buff_collection_again k e = rw (unsigned 0) (words-again 4 e)

  pub object-again : (k : ℕ) → length r ≡ 68 → words (object_row (object_from k r)) ≡ r
  object-again k e = rw (unsigned 4, unsigned 8, unsigned 12, unsigned 36, unsigned 40) (words-again 17 e)

  -- tables 7 and 9
  pub value-again : length r ≡ 12 → finite (f64_at r 4) ≡ true → value_bytes (bits (i32_at r 0)) (f64_at r 4) ≡ r
  unfolding word
  value-again e f = rw (unsigned 0, float-again 4 f) (words-again 3 e)

  pub id-again : length r ≡ 4 → word (bits (i32_at r 0)) ≡ r
  unfolding word
  id-again e = rw (unsigned 0) (words-again 1 e)

  pub ask_again : (k : ℕ) → length r ≡ 8 → words (ask_row (ask_from k r)) ≡ r
  ask_again k e = rw (unsigned 4) (words-again 2 e)

  -- ---- and every number of its row has 32 bits

  words-all : (a n : ℕ) → Words (map (λ j. u32_at r (4 * j)) (from a n))
  words-all a zero = tt
  words-all a (suc n) = (small (4 * a), words-all (suc a) n)

  pub small_bits : (i : ℕ) → bits (i32_at r i) < 2 ^ 32
  small_bits i = subst (λ (n : ℕ). n < 2 ^ 32) (sym (unsigned i)) (small i)

  pub attribute_words : (k : ℕ) → Words (attribute_row (attribute_from k r))
  attribute_words k = (small_bits 0, (small 4, (small_bits 16, (small_bits 20, tt))))

  pub effect_words : (k : ℕ) → Words (effect_row (effect_from k r))
  effect_words k = rw (unsigned 0, unsigned 8, unsigned 12) (words-all 0 6)

  pub modifier_words : (k : ℕ) → Words (modifier_row (modifier_from k r))
  modifier_words k = rw (unsigned 12, unsigned 16, unsigned 20, unsigned 24) (words-all 0 7)

  pub type_effect_words : (k : ℕ) → Words (type_effect_row (type_effect_from k r))
  type_effect_words k = rw (unsigned 0, unsigned 4) (words-all 0 3)

  pub buff_collection_words : (k : ℕ) → Words (buff_collection_row (buff_collection_from k r))
  buff_collection_words k = rw (unsigned 0) (words-all 0 4)

  pub object-words : (k : ℕ) → Words (object_row (object_from k r))
  object-words k = rw (unsigned 4, unsigned 8, unsigned 12, unsigned 36, unsigned 40) (words-all 0 17)

  pub ask_words : (k : ℕ) → Words (ask_row (ask_from k r))
  ask_words k = rw (unsigned 4) (words-all 0 2)
