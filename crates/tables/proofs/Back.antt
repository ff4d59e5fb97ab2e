-- The way back: words read from bytes and written again are the bytes. A step of `same_bytes`.
use Prim.Native.Nat.{ℕ, zero, suc, ◌+◌, ◌*◌, ◌≤◌}
use native.Mathlib.Nat.{mul-suc, add_comm}
use native.Mathlib.Omega.{arith}
use mathlib.Core.Path.{◌≡◌, refl, sym, ap, ◌∙◌}
use mathlib.Core.List.{List, ◌++◌, map}
use lib.ListN.{length, take, drop}
use lib.Seq.{take-add, drop-drop}
use Rattle.laws.specs.Lists.{from}
use Rattle.rules.specs.Bytes.{u32_at}
use Rattle.tables.specs.Layout.{words, Octets}
use Rattle.tables.proofs.Numbers.{read_word}

-- n words from word a on
pub words_back : (b : List ℕ) (a n : ℕ) → 4 * (a + n) ≤ length b → Octets b → words (map (λ j. u32_at b (4 * j)) (from a n)) ≡ take (4 * n) (drop (4 * a) b)
words_back b a zero h o = refl
words_back b a (suc n) h o =
    ap (λ (l : List ℕ). l ++ words (map (λ j. u32_at b (4 * j)) (from (suc a) n))) (read_word b (4 * a) (omega (arith, h)) o)
    ∙ ap (λ (l : List ℕ). take 4 (drop (4 * a) b) ++ l) (words_back b (suc a) n (omega (arith, h)) o)
    ∙ ap (λ (l : List ℕ). take 4 (drop (4 * a) b) ++ take (4 * n) l) there
    ∙ sym (take-add 4 (4 * n) (drop (4 * a) b))
    ∙ ap (λ (m : ℕ). take m (drop (4 * a) b)) (add_comm 4 (4 * n) ∙ sym (mul-suc 4 n))
  where
    there : drop (4 * suc a) b ≡ drop 4 (drop (4 * a) b)
    there = ap (λ (m : ℕ). drop m b) (mul-suc 4 a) ∙ sym (drop-drop 4 (4 * a) b)
