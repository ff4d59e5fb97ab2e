-- What maps are made of: the skills that items and charges require, and the groups, by keys; which objects have a key. Definitions only.
use Rattle.std.specs.Prelude.{ℕ, ◌+◌, ◌*◌, ◌/◌, Bool, not, ◌&&◌, cond, List, [], ◌∷◌, ◌++◌, eqb, ltb, length, get_or, replicate}
use Rattle.laws.specs.Lists.{some?, keep, flat, from}
use Rattle.rules.specs.Bytes.{bits}
use Rattle.rules.specs.Sheet.{Book, Fit}
use Rattle.rules.specs.Item.{object}
use Rattle.rules.specs.declared.Item.{Item}
use Rattle.info.specs.Stands.{is_fitted}
use Rattle.hits.specs.Reach.{no_skill, required_bits, reach_of}

-- a skill's key is its bits; a group's stands above them, and above `no_skill`
abbrev pub group_key : ℕ → ℕ
group_key g = 4294967297 + g

-- the skills that an item or a charge requires, then the group
unfoldable pub key_row : Fit → Item → List ℕ
key_row f o = cond (is_fitted o) (required_bits f o) (replicate 6 no_skill) ++ (group_key (bits o.group_id) ∷ [])

abbrev pub is_key : ℕ → Bool
is_key x = not (eqb x no_skill)

abbrev pub keys_of : Fit → Item → List ℕ
keys_of f o = keep is_key (key_row f o)

-- whether object i has a key; whether one of the six locations lets it in
abbrev pub has_key : Fit → ℕ → ℕ → Bool
has_key f x i = some? (eqb x) (keys_of f (object f i))

abbrev pub let_in : Book → Fit → ℕ → ℕ → Bool
let_in k f c i = ltb c 6 && not (eqb (get_or (reach_of k f (object f i)) c 0) 0)

-- keys in the order in which they first come
abbrev pub with_key : List ℕ → ℕ → List ℕ
with_key ks x = cond (some? (eqb x) ks) ks (ks ++ (x ∷ []))

abbrev pub firsts : List ℕ → List ℕ → List ℕ
firsts ks [] = ks
firsts ks (x ∷ r) = firsts (with_key ks x) r

-- the keys of the first n objects
abbrev pub keys_before : Fit → ℕ → List ℕ
keys_before f n = firsts [] (flat (λ i. keys_of f (object f i)) (from 0 n))

-- ---- how many words they take

-- W = (objects + 63) / 64
abbrev pub width_of : ℕ → ℕ
width_of n = (n + 63) / 64

-- where the head of map m stands: behind the maps of six locations, and behind the maps before it with a word more each
unfoldable pub head_at : ℕ → ℕ → ℕ
head_at w m = 6 * w + m * (w + 1)

-- 6 W + M (W + 1)
abbrev pub words_for : Fit → ℕ
words_for f = head_at (width_of (length f.objects)) (length (keys_before f (length f.objects)))
