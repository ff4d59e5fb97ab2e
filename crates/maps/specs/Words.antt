-- Words of bits, lowest first: the map of a test of object numbers, and the ones that two stretches of words have in common. Definitions only.
use Rattle.std.specs.Prelude.{ℕ, zero, suc, ◌+◌, ◌*◌, ◌/◌, ◌%◌, ◌^◌, ◌<◌, ◌≡◌, Bool, List, [], ◌∷◌, ◌++◌, map, eqb, get_or, set}
use Rattle.std.specs.Int.Bits.{bit_and, bit_or}
use Rattle.std.specs.Int.Count.{ones}
use Rattle.laws.specs.Lists.{put, from}
use Rattle.rules.specs.Columns.{yes1}

-- the number whose binary digits these are
abbrev pub word_of : List Bool → ℕ
word_of [] = 0
word_of (b ∷ r) = word_of r * 2 + yes1 b

-- word w of the map of a test: 64 objects to a word
unfoldable pub map_word : (ℕ → Bool) → ℕ → ℕ
map_word p w = word_of (map p (from (w * 64) 64))

-- n words from place a on are the map of a test
abbrev pub MapAt : List ℕ → ℕ → ℕ → (ℕ → Bool) → Type 0
MapAt ws a n p = (w : ℕ) → w < n → get_or ws (a + w) 0 ≡ map_word p w

-- the bit of object i in the map at place a
abbrev pub with_bit : List ℕ → ℕ → ℕ → List ℕ
with_bit ws a i = set ws (a + i / 64) (bit_or (get_or ws (a + i / 64) 0) (2 ^ (i % 64)))

-- ---- two stretches of n words, from a and from b on

abbrev pub cut_word : List ℕ → ℕ → ℕ → ℕ → ℕ
cut_word ws a b w = bit_and (get_or ws (a + w) 0) (get_or ws (b + w) 0)

-- the ones that they have in common
unfoldable pub ones_cut : List ℕ → ℕ → ℕ → ℕ → ℕ
ones_cut ws a b zero = 0
ones_cut ws a b (suc n) = ones_cut ws a b n + ones (cut_word ws a b n)

-- the places of the ones among k digits of x, lowest first, the first of which is i
unfoldable pub places : ℕ → ℕ → ℕ → List ℕ
places i zero x = []
places i (suc k) x = put (eqb (x % 2) 1) i (places (i + 1) k (x / 2))

-- the objects of the ones that they have in common, in order
unfoldable pub cut_places : List ℕ → ℕ → ℕ → ℕ → List ℕ
cut_places ws a b zero = []
cut_places ws a b (suc n) = cut_places ws a b n ++ places (n * 64) 64 (cut_word ws a b n)
