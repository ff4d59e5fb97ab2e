-- How the sums are found: a block of lines at a time, by a table of their keys. Definitions only.
use Rattle.std.specs.Prelude.{ℕ, ◌+◌, ◌*◌, ◌-◌, ◌≤◌, ◌<◌, ◌≡◌, Bool, true, false, ◌&&◌, cond, List, [], length, get_or, take, ℤ, pos, negsuc, eqb, ltb}
use Rattle.std.specs.Int.{w32}
use Rattle.std.proofs.Common.{SFits}
use Rattle.laws.specs.Lists.{eq_z, keep}
use Rattle.laws.proofs.Search.{Between}
use Rattle.rules.specs.Sheet.{Book, Fit}
use Rattle.rules.specs.declared.Item.{Item}
use Rattle.tallies.specs.Tallies.{Line, line_of, rises, counts, total}

-- lines that ascend strictly, of the four kinds, whose points are at most 65,535
pub record Ordered (ls : List Line) : Type 0 where
  pub rising : (i j : ℕ) → i < j → j < length ls → rises (get_or ls i (line_of [])) (get_or ls j (line_of [])) ≡ true
  pub known : (i : ℕ) → i < length ls → (get_or ls i (line_of [])).kind ≤ 3
  pub cheap : (i : ℕ) → i < length ls → (get_or ls i (line_of [])).kind ≡ 0 → (get_or ls i (line_of [])).number ≤ 65535

-- ---- the keys of a block

-- how many ids are less
abbrev pub rank : ℤ → ℕ
rank (pos m) = m + 2147483648
rank (negsuc m) = 2147483647 - m

-- lines ascend as their keys do: by kind, then by id
abbrev pub line_key : ℕ → ℤ → ℕ
line_key kind a = kind * 4294967296 + rank a

-- the keys of n lines from the first on are laid, and behind them stands the highest
pub record Laid (ls : List Line) (first n : ℕ) (keys : List ℕ) : Type 0 where
  pub long : length keys ≡ 1024
  pub few : n < 1024
  pub inside : first + n ≤ length ls
  pub are : (j : ℕ) → j < n → get_or keys j 0 ≡ line_key (get_or ls (first + j) (line_of [])).kind (get_or ls (first + j) (line_of [])).id
  pub rest : (j : ℕ) → n ≤ j → j < 1024 → get_or keys j 0 ≡ 18446744073709551615

-- a key that is not the highest is above all before it, and the last is the highest
pub record Keyed (keys : List ℕ) : Type 0 where
  pub long : length keys ≡ 1024
  pub rising : (i j : ℕ) → i < j → j < 1024 → get_or keys j 0 < 18446744073709551615 → get_or keys i 0 < get_or keys j 0
  pub last : get_or keys 1023 0 ≡ 18446744073709551615

-- all lines but totals are of the kinds from one to another
pub record Spanned (keys : List ℕ) (least most : ℕ) : Type 0 where
  pub from : (j : ℕ) → j < 1024 → least * 4294967296 ≤ get_or keys j 0
  pub to : (j : ℕ) → j < 1024 → get_or keys j 0 < 3 * 4294967296 → get_or keys j 0 < (most + 1) * 4294967296

-- ---- the place of a key

abbrev pub key_below : ℕ → ℕ → Bool
key_below key m = ltb m key

-- the first key that is not less lies between lo and hi
abbrev pub Bounds : List ℕ → ℕ → ℕ → ℕ → Type 0
Bounds keys key lo hi = Between (key_below key) keys 0 lo hi

-- pieces were added to the sum of the line with this key, where there is one
pub record Added (keys : List ℕ) (key pieces : ℕ) (sums after : List ℕ) : Type 0 where
  pub long : length sums ≡ 1024 → length after ≡ 1024
  pub is : (j : ℕ) → length sums ≡ 1024 → j < 1024 → get_or after j 0 ≡ get_or sums j 0 + cond (eqb (get_or keys j 0) key) pieces 0

-- ---- the sums of a block

-- what a line of this kind counts an object by
abbrev pub key_of : ℕ → Item → ℤ
key_of kind o = cond (eqb kind 0) o.type_id o.group_id

-- the pieces of those that a line of this kind and id counts
abbrev pub pieces_by : ℕ → List Item → ℤ → ℕ
pieces_by kind os a = total (λ o. o.quantity) (keep (λ o. eq_z (key_of kind o) a) os)

-- an object's pieces were added to the sum of each line that counts it
pub record Counted (keys : List ℕ) (o : Item) (pieces : ℕ) (sums after : List ℕ) : Type 0 where
  pub long : length sums ≡ 1024 → length after ≡ 1024
  pub small : (j : ℕ) → length sums ≡ 1024 → j < 1024 → get_or after j 0 ≤ get_or sums j 0 + pieces
  pub is : (j kind : ℕ) (a : ℤ) → length sums ≡ 1024 → j < 1024 → kind ≤ 2 → SFits w32 a → get_or keys j 0 ≡ line_key kind a
      → get_or after j 0 ≡ get_or sums j 0 + cond (eq_z (key_of kind o) a) pieces 0

-- of the first i objects: each line's sum, that it is small, and that all pieces are few
pub record Summed (k : Book) (f : Fit) (keys : List ℕ) (i : ℕ) (sums : List ℕ) : Type 0 where
  pub long : length sums ≡ 1024
  pub small : (j : ℕ) → j < 1024 → get_or sums j 0 ≤ 4294967295 * i
  pub all : total (λ o. o.quantity) (keep (counts k) (take i f.objects)) ≤ 4294967295 * i
  pub is : (j kind : ℕ) (a : ℤ) → j < 1024 → kind ≤ 2 → SFits w32 a → get_or keys j 0 ≡ line_key kind a
      → get_or sums j 0 ≡ total (λ o. o.quantity) (keep (λ o. counts k o && eq_z (key_of kind o) a) (take i f.objects))

-- n lines from the first on have their sums, a total excepted
pub record Told (ls : List Line) (os : List Item) (first n : ℕ) (sums : List ℕ) : Type 0 where
  pub some : 0 < n
  pub few : n < 1024
  pub inside : first + n ≤ length ls
  pub long : length sums ≡ 1024
  pub small : (j : ℕ) → j < 1024 → get_or sums j 0 ≤ 4398046510080
  pub all : (j : ℕ) → j < n → eqb (get_or ls (first + j) (line_of [])).kind 3 ≡ false → total (λ o. o.quantity) os ≤ 4398046510080
  pub told : (j : ℕ) → j < n → eqb (get_or ls (first + j) (line_of [])).kind 3 ≡ false
      → get_or sums j 0 ≡ pieces_by (get_or ls (first + j) (line_of [])).kind os (get_or ls (first + j) (line_of [])).id
