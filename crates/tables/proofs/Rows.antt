-- Two kinds of records, as examples of all: a row of table 4 (words alone) and of table 1 (a float among them), read back.
use Prim.Native.Nat.{ℕ, ◌+◌, ◌*◌, ◌^◌, ◌<◌}
use native.Mathlib.Omega.{arith}
use mathlib.Core.Path.{◌≡◌, sym, ap, ◌∙◌}
use mathlib.Core.Bool.{true}
use mathlib.Core.List.{List, [], ◌∷◌, ◌++◌, append-nil}
use lib.Ieee.{Float, binary64, fits, of_bits}
use lib.ListN.{length, get_or}
use Rattle.rules.specs.Bytes.{u32_at, f64_at, signed}
use Rattle.rules.specs.Sheet.{type_effect_from, attribute_from}
use Rattle.rules.specs.declared.DogmaAttribute.{DogmaAttribute}
use Rattle.rules.specs.declared.TypeDogmaEffect.{TypeDogmaEffect}
use Rattle.tables.specs.Layout.{words, float, Words}
use Rattle.tables.specs.Tables.{type_effect_of, attribute_of, attribute_bytes}
use Rattle.tables.proofs.Numbers.{words-read, words-length, float_read, float-length, read_behind}

-- a row's field, where nothing stands behind the row
pub field-read : (r : List ℕ) (j : ℕ) → j < length r → Words r → u32_at (words r) (4 * j) ≡ get_or r j 0
field-read r j h w = ap (λ (b : List ℕ). u32_at b (4 * j)) (sym (append-nil (words r))) ∙ words-read r [] j h w

abbrev made : ℕ → ℕ → ℕ → TypeDogmaEffect
made a b c = record { type_id = signed a; effect_id = signed b; is_default = c }

pub type_effect_read : (k : ℕ) (r : List ℕ) → length r ≡ 3 → Words r → type_effect_from k (words r) ≡ type_effect_of r
type_effect_read k r e w =
    ap (λ (n : ℕ). made n (u32_at (words r) 4) (u32_at (words r) 8)) (field-read r 0 (omega (arith, e)) w)
    ∙ ap (λ (n : ℕ). made (get_or r 0 0) n (u32_at (words r) 8)) (field-read r 1 (omega (arith, e)) w)
    ∙ ap (λ (n : ℕ). made (get_or r 0 0) (get_or r 1 0) n) (field-read r 2 (omega (arith, e)) w)

-- four numbers and a float
abbrev attribute : ℕ → ℕ → Float → ℕ → ℕ → DogmaAttribute
attribute a b x c d = record { id = signed a; flags = b; default_value = x; min_attribute_id = signed c; max_attribute_id = signed d }

module _ (k a b c d : ℕ) (x : Float) (w : Words (a ∷ b ∷ c ∷ d ∷ [])) (f : fits binary64 x ≡ true) where
  whole : List ℕ
  whole = words (a ∷ b ∷ []) ++ (float x ++ words (c ∷ d ∷ []))

  long : length (words (a ∷ b ∷ [])) ≡ 8
  long = words-length (a ∷ b ∷ [])

  front : (j : ℕ) → j < 2 → u32_at whole (4 * j) ≡ get_or (a ∷ b ∷ []) j 0
  unfolding whole
  front j h = words-read (a ∷ b ∷ []) (float x ++ words (c ∷ d ∷ [])) j h (w.0, (w.1.0, tt))

  middle : f64_at whole 8 ≡ x
  unfolding whole
  middle =
      ap (of_bits binary64)
      (ap (λ (n : ℕ). n + 2 ^ 32 * u32_at whole 12) (read_behind (words (a ∷ b ∷ [])) (float x ++ words (c ∷ d ∷ [])) 8 0 long)
      ∙ ap (λ (n : ℕ). u32_at (float x ++ words (c ∷ d ∷ [])) 0 + 2 ^ 32 * n) (read_behind (words (a ∷ b ∷ [])) (float x ++ words (c ∷ d ∷ [])) 8 4 long))
      ∙ float_read x (words (c ∷ d ∷ [])) f

  back : (j : ℕ) → j < 2 → u32_at whole (16 + 4 * j) ≡ get_or (c ∷ d ∷ []) j 0
  unfolding whole
  back j h =
      ap (u32_at whole) (regroup j)
      ∙ read_behind (words (a ∷ b ∷ [])) (float x ++ words (c ∷ d ∷ [])) 8 (8 + 4 * j) long
      ∙ read_behind (float x) (words (c ∷ d ∷ [])) 8 (4 * j) (float-length x)
      ∙ field-read (c ∷ d ∷ []) j h w.1.1
    where
      regroup : (j : ℕ) → 16 + 4 * j ≡ 8 + (8 + 4 * j)
      regroup j = omega arith

  pub attribute_read : attribute_from k (attribute_bytes (a ∷ b ∷ c ∷ d ∷ []) x) ≡ attribute_of (a ∷ b ∷ c ∷ d ∷ []) x
  unfolding whole
  attribute_read =
      ap (λ (n : ℕ). attribute n (u32_at whole 4) (f64_at whole 8) (u32_at whole 16) (u32_at whole 20)) (front 0 (omega arith))
      ∙ ap (λ (n : ℕ). attribute a n (f64_at whole 8) (u32_at whole 16) (u32_at whole 20)) (front 1 (omega arith))
      ∙ ap (λ (y : Float). attribute a b y (u32_at whole 16) (u32_at whole 20)) middle
      ∙ ap (λ (n : ℕ). attribute a b x n (u32_at whole 20)) (back 0 (omega arith))
      ∙ ap (λ (n : ℕ). attribute a b x c n) (back 1 (omega arith))
