-- The ones that two maps have in common are the objects that pass both tests: their number, and their places in order.
use Prim.Native.Nat.{ℕ, zero, suc, ◌+◌, ◌*◌, ◌^◌, ◌≤◌, ◌<◌}
use native.Mathlib.Omega.{arith}
use native.Mathlib.Nat.{zero-add}
use native.Mathlib.Numerals.{add-one}
use mathlib.Core.Path.{◌≡◌, refl, sym, ap, ap₂, ◌∙◌}
use mathlib.Core.Bool.{Bool, ◌&&◌}
use mathlib.Core.List.{List, ◌++◌, map}
use lib.Bits.{bit_and, and_le_l}
use lib.Count.{ones, ones-le}
use lib.ListN.{length, get_or, length-append}
use mir.Syntax.{w64}
use mir.Val.{Fits}
use Rattle.laws.specs.Lists.{keep, from}
use Rattle.laws.proofs.Keep.{keep_append}
use Rattle.laws.proofs.From.{from_append}
use Rattle.maps.specs.Words.{word_of, map_word, MapAt, cut_word, ones_cut, places, cut_places}
use Rattle.maps.proofs.Bits.{word_ones, word_and, word-places}

suc_mul' : (n : ℕ) → suc n * 64 ≡ n * 64 + 64
suc_mul' n = omega arith

module _ (p q : ℕ → Bool) (ws : List ℕ) (a b : ℕ) where
  abbrev both : ℕ → Bool
  both i = p i && q i

  module _ (w : ℕ) (hp : get_or ws (a + w) 0 ≡ map_word p w) (hq : get_or ws (b + w) 0 ≡ map_word q w) where
    cut-is : cut_word ws a b w ≡ word_of (map both (from (w * 64) 64))
    unfolding map_word
    cut-is = ap₂ bit_and hp hq ∙ word_and p q (from (w * 64) 64)

    cut_ones : ones (cut_word ws a b w) ≡ length (keep both (from (w * 64) 64))
    cut_ones = ap ones cut-is ∙ word_ones both (from (w * 64) 64)

    cut-places : places (w * 64) 64 (cut_word ws a b w) ≡ keep both (from (w * 64) 64)
    cut-places = ap (places (w * 64) 64) cut-is ∙ word-places both (w * 64) 64

  more : (n : ℕ) → keep both (from 0 (n * 64)) ++ keep both (from (n * 64) 64) ≡ keep both (from 0 (suc n * 64))
  more n =
      sym (keep_append both (from 0 (n * 64)) (from (n * 64) 64))
      ∙ ap (λ (m : ℕ). keep both (from 0 (n * 64) ++ from m 64)) (sym (zero-add (n * 64)))
      ∙ ap (keep both) (sym (from_append 0 (n * 64) 64))
      ∙ ap (λ (m : ℕ). keep both (from 0 m)) (sym (suc_mul' n))

  -- n words from a are the map of p, n words from b that of q
  pub places-cut : (n : ℕ) → MapAt ws a n p → MapAt ws b n q → cut_places ws a b n ≡ keep both (from 0 (n * 64))
  unfolding cut_places
  places-cut zero hp hq = refl
  places-cut (suc n) hp hq =
      ap₂ (λ (x y : List ℕ). x ++ y)
      (places-cut n (λ w l. hp w (omega (arith, l))) (λ w l. hq w (omega (arith, l))))
      (cut-places n (hp n (omega arith)) (hq n (omega arith)))
      ∙ more n

  pub ones_cut_lem : (n : ℕ) → MapAt ws a n p → MapAt ws b n q → ones_cut ws a b n ≡ length (keep both (from 0 (n * 64)))
  unfolding ones_cut
  ones_cut_lem zero hp hq = refl
  ones_cut_lem (suc n) hp hq =
      ap₂ (λ (x y : ℕ). x + y)
      (ones_cut_lem n (λ w l. hp w (omega (arith, l))) (λ w l. hq w (omega (arith, l))))
      (cut_ones n (hp n (omega arith)) (hq n (omega arith)))
      ∙ sym (length-append (keep both (from 0 (n * 64))) (keep both (from (n * 64) 64)))
      ∙ ap length (more n)

-- ---- a loop over the words

pub first : (ws : List ℕ) (a b : ℕ) → 0 ≡ ones_cut ws a b 0
unfolding ones_cut
first ws a b = refl

pub next : (ws : List ℕ) (a b w total : ℕ) → total ≡ ones_cut ws a b w → total + ones (cut_word ws a b w) ≡ ones_cut ws a b (w + 1)
unfolding ones_cut
next ws a b w total e = ap (λ (n : ℕ). n + ones (cut_word ws a b w)) e ∙ ap (ones_cut ws a b) (sym (add-one w))

-- a word has at most 64 ones
few : (x y : ℕ) → x < 2 ^ 64 → ones (bit_and x y) ≤ 64
few x y h = ones-le 64 (bit_and x y) (omega (arith, h, and_le_l x y))

-- what is added so far stays far below 64 bits
pub fits_word : (x y : ℕ) → Fits w64 x → Fits w64 (ones (bit_and x y))
fits_word x y h = record { fits = omega (arith, few x y h.fits) }

pub fits_more : (x y total w n : ℕ) → Fits w64 x → w < n → n ≤ 16 → total ≤ w * 64 → Fits w64 (total + ones (bit_and x y))
fits_more x y total w n h l m t = record { fits = omega (arith, few x y h.fits) }

pub more_few : (x y total w : ℕ) → Fits w64 x → total ≤ w * 64 → total + ones (bit_and x y) ≤ (w + 1) * 64
more_few x y total w h t = omega (arith, few x y h.fits)

pub last : (ws : List ℕ) (a b w n total : ℕ) → w ≤ n → n ≤ w → total ≡ ones_cut ws a b w → total ≡ ones_cut ws a b n
last ws a b w n total l m e = e ∙ ap (ones_cut ws a b) (omega arith)
