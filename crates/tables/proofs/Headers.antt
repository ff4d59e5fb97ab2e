-- The pairs of a header, read back.
use Prim.Native.Nat.{ℕ, ◌+◌, ◌*◌, ◌<◌}
use native.Mathlib.Omega.{arith}
use mathlib.Core.Path.{◌≡◌, ap, ◌∙◌}
use mathlib.Core.List.{List, [], ◌∷◌, map}
use lib.ListN.{get_or}
use Rattle.laws.specs.Lists.{from}
use Rattle.laws.proofs.From.{table_same}
use Rattle.rules.specs.Bytes.{u32_at}

-- bytes whose words are these numbers have the pairs of these numbers
pub pairs-read : (b ns : List ℕ) (n : ℕ) → ((j : ℕ) → j < 2 * n → u32_at b (4 * j) ≡ get_or ns j 0)
    → map (λ i. u32_at b (8 * i) ∷ u32_at b (8 * i + 4) ∷ []) (from 0 n) ≡ map (λ i. get_or ns (2 * i) 0 ∷ get_or ns (2 * i + 1) 0 ∷ []) (from 0 n)
pairs-read b ns n r = table_same _ _ 0 n (λ i l h. pair i h)
  where
    at_first : (i : ℕ) → 8 * i ≡ 4 * (2 * i)
    at_first i = omega arith

    at_second : (i : ℕ) → 8 * i + 4 ≡ 4 * (2 * i + 1)
    at_second i = omega arith

    pair : (i : ℕ) → i < 0 + n → u32_at b (8 * i) ∷ u32_at b (8 * i + 4) ∷ [] ≡ get_or ns (2 * i) 0 ∷ get_or ns (2 * i + 1) 0 ∷ []
    pair i h =
        ap (λ (m : ℕ). m ∷ u32_at b (8 * i + 4) ∷ []) (ap (u32_at b) (at_first i) ∙ r (2 * i) (omega arith))
        ∙ ap (λ (m : ℕ). get_or ns (2 * i) 0 ∷ m ∷ []) (ap (u32_at b) (at_second i) ∙ r (2 * i + 1) (omega arith))
