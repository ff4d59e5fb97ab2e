-- What words hold where they hold maps. Definitions only.
use Rattle.std.specs.Prelude.{ℕ, zero, suc, ◌+◌, ◌*◌, ◌%◌, ◌≤◌, ◌<◌, ◌≡◌, Bool, true, false, not, ◌&&◌, ◌||◌, cond, List, eqb, leb, ltb, length, get_or, Option, Some, None}
use Rattle.laws.specs.Lists.{some?}
use Rattle.rules.specs.Sheet.{Book, Fit}
use Rattle.maps.specs.Words.{MapAt}
use Rattle.maps.specs.Keys.{head_at, has_key, let_in, keys_before, width_of, words_for}

-- of the keys before m, the last of a residue, by its number plus 1; 0 where there is none
abbrev pub before : List ℕ → ℕ → ℕ → ℕ
before ks r zero = 0
before ks r (suc m) = cond (eqb (get_or ks m 0 % 1024) r) (suc m) (before ks r m)

-- words with a map for each location, and one with its head for each of the keys ks
pub record Mapped (w : ℕ) (location has : ℕ → ℕ → Bool) (ks ws hs : List ℕ) : Type 0 where
  pub narrow : w ≤ 16
  pub few : length ks ≤ 7168
  pub fits : head_at w (length ks) ≤ length ws
  pub heads : length hs ≡ 1024
  pub small : (m : ℕ) → m < length ks → get_or ks m 0 < 17179869184
  pub once : (m n : ℕ) → m < length ks → n < length ks → get_or ks m 0 ≡ get_or ks n 0 → m ≡ n
  pub located : (c : ℕ) → c < 6 → MapAt ws (c * w) w (location c)
  pub keyed : (m : ℕ) → m < length ks → MapAt ws (head_at w m + 1) w (has (get_or ks m 0))
  pub headed : (m : ℕ) → m < length ks → get_or ws (head_at w m) 0 ≡ get_or ks m 0 + 17179869184 * before ks (get_or ks m 0 % 1024) m
  pub lasts : (r : ℕ) → r < 1024 → get_or hs r 0 ≡ before ks r (length ks)
  pub only : (x i : ℕ) → has x i ≡ true → some? (eqb x) ks ≡ true

-- words that hold maps of some keys
pub record Holding (w : ℕ) (ws hs : List ℕ) : Type 0 where
  pub location : ℕ → ℕ → Bool
  pub has : ℕ → ℕ → Bool
  pub keys : List ℕ
  pub mapped : Mapped w location has keys ws hs

-- the same of n keys
pub record Counting (n w : ℕ) (ws hs : List ℕ) : Type 0 where
  pub held : Holding w ws hs
  pub count : n ≡ length held.keys

-- the map of a key among ks, by its number
abbrev pub Found : List ℕ → ℕ → Option ℕ → Type 0
Found ks x (Some m) = (m < length ks) × (get_or ks m 0 ≡ x)
Found ks x None = some? (eqb x) ks ≡ false

-- so many words from a place on are zero, the others as they were
pub record Zeroed (a n : ℕ) (ws₀ ws : List ℕ) : Type 0 where
  pub long : length ws ≡ length ws₀
  pub zero : (w : ℕ) → w < n → get_or ws (a + w) 0 ≡ 0
  pub before : (j : ℕ) → j < a → get_or ws j 0 ≡ get_or ws₀ j 0
  pub behind : (j : ℕ) → a + n ≤ j → get_or ws j 0 ≡ get_or ws₀ j 0

-- maps of the keys ks were made, or the words are too few for them
abbrev pub MadeBy : Option ℕ → ℕ → (ℕ → ℕ → Bool) → (ℕ → ℕ → Bool) → List ℕ → List ℕ → List ℕ → Type 0
MadeBy (Some n) w location has ks ws hs = (n ≡ length ks) × Mapped w location has ks ws hs
MadeBy None w location has ks ws hs = length ws < head_at w (length ks)

-- ---- what is let in or has a key, with one object more

abbrev pub and_key : (ℕ → ℕ → Bool) → ℕ → ℕ → ℕ → ℕ → Bool
and_key has x i y j = has y j || eqb y x && eqb j i

abbrev pub and_keys : (ℕ → ℕ → Bool) → List ℕ → ℕ → ℕ → ℕ → Bool
and_keys has xs i y j = has y j || some? (eqb y) xs && eqb j i

abbrev pub and_columns : (ℕ → ℕ → Bool) → List ℕ → ℕ → ℕ → ℕ → ℕ → Bool
and_columns location row n i c j = location c j || (ltb c n && not (eqb (get_or row c 0) 0)) && eqb j i

-- the first n objects of a fit
abbrev pub let_in_before : Book → Fit → ℕ → ℕ → ℕ → Bool
let_in_before k f n c i = ltb i n && let_in k f c i

abbrev pub has_before : Fit → ℕ → ℕ → ℕ → Bool
has_before f n x i = ltb i n && has_key f x i

-- the maps of a fit's objects
abbrev pub MapsOf : Book → Fit → List ℕ → List ℕ → Type 0
MapsOf k f ws hs =
    Mapped (width_of (length f.objects)) (let_in_before k f (length f.objects)) (has_before f (length f.objects)) (keys_before f (length f.objects)) ws hs

-- what is built in so many words: how many of them serve, none where they are too few; and the maps
pub record Built (k : Book) (f : Fit) (long : ℕ) (r : Option ℕ) (ws hs : List ℕ) : Type 0 where
  pub served : r ≡ cond (leb (words_for f) long) (Some (words_for f)) None
  pub kept : length ws ≡ long
  pub maps : words_for f ≤ long → MapsOf k f ws hs
