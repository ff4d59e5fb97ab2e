-- What stays and what is new when a bit is set, and when a map is added.
use Prim.Native.Nat.{ℕ, zero, suc, ◌+◌, ◌*◌, ◌/◌, ◌%◌, ◌^◌, ◌≤◌, ◌<◌}
use native.Mathlib.Omega.{arith}
use native.Mathlib.Nat.{eq-or-lt_of_le}
use native.Mathlib.Numerals.{add-one}
use mathlib.Core.Path.{◌≡◌, refl, sym, ap, subst, ◌∙◌}
use mathlib.Core.Bool.{Bool, true, false, ◌&&◌, ◌||◌, cond}
use mathlib.Core.List.{List, [], ◌∷◌, ◌++◌}
use mathlib.Core.Logic.{◌⊎◌, inl, inr}
use lib.Bits.{bit_or}
use lib.Dec.{eqb}
use lib.ListN.{length, get_or, set, length-set, length-append, get_or-append}
use lib.Seq.{get_or-set_same, get_or-set_other}
use borrow.Author.Tests.{eqb-true, eqb-false, eq-eqb, ne_eqb}
use Rattle.laws.specs.Lists.{some?}
use Rattle.laws.proofs.Bools.{either, and_left, or_none_right, not-passed, both_ways}
use Rattle.laws.proofs.Every.{some_by, some_snoc, none_at}
use Rattle.maps.specs.Words.{map_word, MapAt, with_bit}
use Rattle.maps.specs.Keys.{head_at}
use Rattle.maps.specs.Maps.{before, Mapped, Zeroed, and_key}
use Rattle.maps.proofs.Bits.{bit_elsewhere, bit_set, map_none}
use Rattle.maps.proofs.Index.{less_or, before-le, head_next, head_later, head_behind, column_later}

order : (a b : ℕ) → (a ≡ b → ⊥) → (a < b) ⊎ (b < a)
order a b n = by (less_or a b)
  where
    by : (a < b) ⊎ (b ≤ a) → (a < b) ⊎ (b < a)
    by (inl v) = inl v
    by (inr v) = lesser (eq-or-lt_of_le {n = b} {m = a} v)
      where
        lesser : (b ≡ a) ⊎ (b < a) → (a < b) ⊎ (b < a)
        lesser (inl e) = absurd (n (sym e))
        lesser (inr l) = inr l

-- a pair more, and any other
pub and_same : (has : ℕ → ℕ → Bool) (x i j : ℕ) → has x j || eqb j i ≡ and_key has x i x j
and_same has x i j = ap (λ (b : Bool). has x j || b && eqb j i) (sym (eq-eqb x x refl))

pub and_other : (has : ℕ → ℕ → Bool) (x i y j : ℕ) → (y ≡ x → ⊥) → has y j ≡ and_key has x i y j
and_other has x i y j n = sym (ap (λ (b : Bool). has y j || b && eqb j i) (ne_eqb y x n) ∙ or_none_right (has y j))

-- the map of a test is that of an equal one
pub map_as : (ws : List ℕ) (a n : ℕ) (p q : ℕ → Bool) → ((j : ℕ) → p j ≡ q j) → MapAt ws a n p → MapAt ws a n q
map_as ws a n p q e M = subst (MapAt ws a n) (λ t j. e j t) M

module _ {w : ℕ} {location has : ℕ → ℕ → Bool} {ks ws hs : List ℕ} (M : Mapped w location has ks ws hs) (i : ℕ) (h : i < w * 64) where
  word : i / 64 < w
  word = omega (arith, h)

  -- ---- a bit in the map of a key
  module _ (m : ℕ) (l : m < length ks) (x : ℕ) (e : get_or ks m 0 ≡ x) where
    a : ℕ
    a = head_at w m + 1

    ends : head_at w m + (w + 1) ≤ length ws
    ends = omega (arith, head_later w m (length ks) l, M.fits)

    apart : (n : ℕ) → (n ≡ m → ⊥) → (v : ℕ) → v < w → head_at w n + 1 + v ≡ head_at w m + 1 + i / 64 → ⊥
    apart n d v q z = by (order n m d)
      where
        by : (n < m) ⊎ (m < n) → ⊥
        by (inl u) = omega (arith, head_later w n m u, z, q, word)
        by (inr u) = omega (arith, head_later w m n u, z, q, word)

    head_apart : (n : ℕ) → head_at w n ≡ head_at w m + 1 + i / 64 → ⊥
    head_apart n z = by (eqb n m) refl
      where
        by : (t : Bool) → eqb n m ≡ t → ⊥
        by true q = omega (arith, z, ap (head_at w) (eqb-true n m q))
        by false q = side (order n m (eqb-false n m q))
          where
            side : (n < m) ⊎ (m < n) → ⊥
            side (inl u) = omega (arith, head_later w n m u, z, word)
            side (inr u) = omega (arith, head_later w m n u, z, word)

    keyed_then : (n : ℕ) → n < length ks → MapAt (with_bit ws (head_at w m + 1) i) (head_at w n + 1) w (and_key has x i (get_or ks n 0))
    keyed_then n g = by (eqb n m) refl
      where
        by : (t : Bool) → eqb n m ≡ t → MapAt (with_bit ws (head_at w m + 1) i) (head_at w n + 1) w (and_key has x i (get_or ks n 0))
        by true q =
            let z : n ≡ m = eqb-true n m q in
            let y : get_or ks n 0 ≡ x = ap (λ (j : ℕ). get_or ks j 0) z ∙ e in
            subst (λ (j : ℕ). MapAt (with_bit ws (head_at w m + 1) i) (head_at w j + 1) w (and_key has x i (get_or ks n 0))) (sym z)
            (subst (λ (j : ℕ). MapAt (with_bit ws (head_at w m + 1) i) (head_at w m + 1) w (and_key has x i j)) (sym y)
            (map_as (with_bit ws (head_at w m + 1) i) (head_at w m + 1) w (λ j. has x j || eqb j i) (and_key has x i x) (and_same has x i)
            (bit_set ws (head_at w m + 1) i w (has x) (omega (arith, ends)) h (subst (λ (j : ℕ). MapAt ws (head_at w m + 1) w (has j)) e (M.keyed m l)))))
        by false q =
            λ v g'.
            bit_elsewhere ws (head_at w m + 1) i (head_at w n + 1 + v) (apart n (eqb-false n m q) v g')
            ∙ map_as ws (head_at w n + 1) w (has (get_or ks n 0)) (and_key has x i (get_or ks n 0))
            (λ j. and_other has x i (get_or ks n 0) j (λ s. eqb-false n m q (M.once n m g l (s ∙ sym e)))) (M.keyed n g) v g'

    located_then : (c : ℕ) → c < 6 → MapAt (with_bit ws (head_at w m + 1) i) (c * w) w (location c)
    located_then c g v g' =
        bit_elsewhere ws (head_at w m + 1) i (c * w + v) (λ z. omega (arith, column_later w c 6 g, head_behind w m, z, g'))
        ∙ M.located c g v g'

    only_then : (y j : ℕ) → and_key has x i y j ≡ true → some? (eqb y) ks ≡ true
    only_then y j =
        either (has y j) (eqb y x && eqb j i) (M.only y j)
        (λ s. some_by (eqb y) ks m 0 l (eq-eqb y (get_or ks m 0) (eqb-true y x (and_left (eqb y x) (eqb j i) s) ∙ sym e)))

    pub mapped_bit : Mapped w location (and_key has x i) ks (with_bit ws (head_at w m + 1) i) hs
    mapped_bit =
        record {
          narrow = M.narrow;
          few = M.few;
          fits = omega (arith, M.fits, length-set ws (head_at w m + 1 + i / 64) (bit_or (get_or ws (head_at w m + 1 + i / 64) 0) (2 ^ (i % 64))));
          heads = M.heads;
          small = M.small;
          once = M.once;
          located = located_then;
          keyed = keyed_then;
          headed = λ n g. bit_elsewhere ws (head_at w m + 1) i (head_at w n) (head_apart n) ∙ M.headed n g;
          lasts = M.lasts;
          only = only_then;
        }

  -- ---- a bit in the map of a location
  module _ (c : ℕ) (l : c < 6) where
    col : (d : ℕ) → d < 6 → MapAt (with_bit ws (c * w) i) (d * w) w (and_key location c i d)
    col d g = by (eqb d c) refl
      where
        by : (t : Bool) → eqb d c ≡ t → MapAt (with_bit ws (c * w) i) (d * w) w (and_key location c i d)
        by true q =
            subst (λ (j : ℕ). MapAt (with_bit ws (c * w) i) (j * w) w (and_key location c i j)) (sym (eqb-true d c q))
            (map_as (with_bit ws (c * w) i) (c * w) w (λ j. location c j || eqb j i) (and_key location c i c) (and_same location c i)
            (bit_set ws (c * w) i w (location c) (omega (arith, column_later w c 6 l, head_behind w (length ks), M.fits)) h (M.located c l)))
        by false q =
            λ v g'.
            bit_elsewhere ws (c * w) i (d * w + v) (λ z. side (order d c (eqb-false d c q)) v g' z)
            ∙ map_as ws (d * w) w (location d) (and_key location c i d) (λ j. and_other location c i d j (eqb-false d c q)) (M.located d g) v g'
          where
            side : (d < c) ⊎ (c < d) → (v : ℕ) → v < w → d * w + v ≡ c * w + i / 64 → ⊥
            side (inl u) v g' z = omega (arith, column_later w d c u, z, g', word)
            side (inr u) v g' z = omega (arith, column_later w c d u, z, g', word)

    behind : (b : ℕ) → 6 * w ≤ b → get_or (with_bit ws (c * w) i) b 0 ≡ get_or ws b 0
    behind b g = bit_elsewhere ws (c * w) i b (λ z. omega (arith, column_later w c 6 l, z, g, word))

    pub mapped_column : Mapped w (and_key location c i) has ks (with_bit ws (c * w) i) hs
    mapped_column =
        record {
          narrow = M.narrow;
          few = M.few;
          fits = omega (arith, M.fits, length-set ws (c * w + i / 64) (bit_or (get_or ws (c * w + i / 64) 0) (2 ^ (i % 64))));
          heads = M.heads;
          small = M.small;
          once = M.once;
          located = col;
          keyed = λ n g v g'. behind (head_at w n + 1 + v) (omega (arith, head_behind w n)) ∙ M.keyed n g v g';
          headed = λ n g. behind (head_at w n) (head_behind w n) ∙ M.headed n g;
          lasts = M.lasts;
          only = M.only;
        }

-- ---- a key more

snoc_at : (ks : List ℕ) (x m : ℕ) → m < length ks → get_or (ks ++ (x ∷ [])) m 0 ≡ get_or ks m 0
snoc_at ks x m h = get_or-append ks (x ∷ []) 0 m h

snoc_last : (ks : List ℕ) (x : ℕ) → get_or (ks ++ (x ∷ [])) (length ks) 0 ≡ x
snoc_last [] x = refl
snoc_last (k ∷ ks) x = snoc_last ks x

before_snoc : (ks : List ℕ) (x r m : ℕ) → m ≤ length ks → before (ks ++ (x ∷ [])) r m ≡ before ks r m
before_snoc ks x r zero h = refl
before_snoc ks x r (suc m) h =
    ap (λ (k : ℕ). cond (eqb (k % 1024) r) (suc m) (before (ks ++ (x ∷ [])) r m)) (snoc_at ks x m h)
    ∙ ap (λ (b : ℕ). cond (eqb (get_or ks m 0 % 1024) r) (suc m) b) (before_snoc ks x r m (omega (arith, h)))

last_if : (t : Bool) (r s : ℕ) (hs : List ℕ) (b n : ℕ) → r < length hs → eqb r s ≡ t → get_or hs s 0 ≡ b → get_or (set hs r n) s 0 ≡ cond t n b
last_if true r s hs b n h q e = ap (λ (j : ℕ). get_or (set hs r n) j 0) (sym (eqb-true r s q)) ∙ get_or-set_same hs r n 0 h
last_if false r s hs b n h q e = get_or-set_other hs r s n 0 (λ z. eqb-false r s q (sym z)) ∙ e

module _ {w : ℕ} {location has : ℕ → ℕ → Bool} {ks ws hs : List ℕ} (M : Mapped w location has ks ws hs) (x : ℕ) (g : some? (eqb x) ks ≡ false) (small : x < 17179869184) (room : head_at w (length ks + 1) ≤ length ws) (few : length ks < 7168) where
  abbrev top : ℕ
  top = head_at w (length ks)

  abbrev mark : ℕ
  mark = x + 17179869184 * get_or hs (x % 1024) 0

  long : length (ks ++ (x ∷ [])) ≡ length ks + 1
  long = length-append ks (x ∷ [])

  other : (m : ℕ) → m < length ks → get_or ks m 0 ≡ x → ⊥
  other m l e = eqb-false x (get_or ks m 0) (none_at (eqb x) ks m 0 g l) (sym e)

  module _ {us vs : List ℕ} (Z : Zeroed (top + 1) w us vs) (eu : us ≡ set ws top mark) where
    inside : top < length ws
    inside = omega (arith, room, head_next w (length ks))

    below : (b : ℕ) → b < top → get_or vs b 0 ≡ get_or ws b 0
    below b h = Z.before b (omega (arith, h)) ∙ ap (λ (l : List ℕ). get_or l b 0) eu ∙ get_or-set_other ws top b mark 0 (λ z. omega (arith, z, h))

    head_is : get_or vs top 0 ≡ mark
    head_is = Z.before top (omega arith) ∙ ap (λ (l : List ℕ). get_or l top 0) eu ∙ get_or-set_same ws top mark 0 inside

    nobody : (j : ℕ) → false ≡ has x j
    nobody j = sym (not-passed (has x j) (λ e. both_ways (M.only x j e) g))

    which : (m : ℕ) → m < length (ks ++ (x ∷ [])) → (m ≡ length ks) ⊎ (m < length ks)
    which m l = eq-or-lt_of_le {n = m} {m = length ks} (omega (arith, l, long))

    once_add : (m n : ℕ) → m < length (ks ++ (x ∷ [])) → n < length (ks ++ (x ∷ [])) → get_or (ks ++ (x ∷ [])) m 0 ≡ get_or (ks ++ (x ∷ [])) n 0 → m ≡ n
    once_add m n p q e = by (which m p) (which n q)
      where
        by : (m ≡ length ks) ⊎ (m < length ks) → (n ≡ length ks) ⊎ (n < length ks) → m ≡ n
        by (inl y) (inl z) = y ∙ sym z
        by (inl y) (inr z) = absurd (other n z (sym (snoc_at ks x n z) ∙ sym e ∙ ap (λ (j : ℕ). get_or (ks ++ (x ∷ [])) j 0) y ∙ snoc_last ks x))
        by (inr y) (inl z) = absurd (other m y (sym (snoc_at ks x m y) ∙ e ∙ ap (λ (j : ℕ). get_or (ks ++ (x ∷ [])) j 0) z ∙ snoc_last ks x))
        by (inr y) (inr z) = M.once m n y z (sym (snoc_at ks x m y) ∙ e ∙ snoc_at ks x n z)

    keyed_add : (m : ℕ) → m < length (ks ++ (x ∷ [])) → MapAt vs (head_at w m + 1) w (has (get_or (ks ++ (x ∷ [])) m 0))
    keyed_add m p = by (which m p)
      where
        by : (m ≡ length ks) ⊎ (m < length ks) → MapAt vs (head_at w m + 1) w (has (get_or (ks ++ (x ∷ [])) m 0))
        by (inl z) =
            subst (λ (j : ℕ). MapAt vs (head_at w j + 1) w (has (get_or (ks ++ (x ∷ [])) j 0))) (sym z)
            (subst (λ (y : ℕ). MapAt vs (top + 1) w (has y)) (sym (snoc_last ks x))
            (map_as vs (top + 1) w (λ j. false) (has x) nobody (λ v l. Z.zero v l ∙ sym (map_none v))))
        by (inr z) =
            λ v l.
            below (head_at w m + 1 + v) (omega (arith, head_later w m (length ks) z, l))
            ∙ M.keyed m z v l ∙ ap (λ (y : ℕ). map_word (has y) v) (sym (snoc_at ks x m z))

    headed_add : (m : ℕ) → m < length (ks ++ (x ∷ [])) → get_or vs (head_at w m) 0 ≡ get_or (ks ++ (x ∷ [])) m 0 + 17179869184 * before (ks ++ (x ∷ [])) (get_or (ks ++ (x ∷ [])) m 0 % 1024) m
    headed_add m p = by (which m p)
      where
        by : (m ≡ length ks) ⊎ (m < length ks) → get_or vs (head_at w m) 0 ≡ get_or (ks ++ (x ∷ [])) m 0 + 17179869184 * before (ks ++ (x ∷ [])) (get_or (ks ++ (x ∷ [])) m 0 % 1024) m
        by (inl z) =
            ap (λ (j : ℕ). get_or vs (head_at w j) 0) z ∙ head_is
            ∙ ap (λ (b : ℕ). x + 17179869184 * b) (M.lasts (x % 1024) (omega arith) ∙ sym (before_snoc ks x (x % 1024) (length ks) (omega arith)))
            ∙ ap (λ (y : ℕ). y + 17179869184 * before (ks ++ (x ∷ [])) (y % 1024) (length ks)) (sym (snoc_last ks x))
            ∙ ap (λ (j : ℕ). get_or (ks ++ (x ∷ [])) j 0 + 17179869184 * before (ks ++ (x ∷ [])) (get_or (ks ++ (x ∷ [])) j 0 % 1024) j) (sym z)
        by (inr z) =
            below (head_at w m) (omega (arith, head_later w m (length ks) z)) ∙ M.headed m z
            ∙ ap (λ (b : ℕ). get_or ks m 0 + 17179869184 * b) (sym (before_snoc ks x (get_or ks m 0 % 1024) m (omega (arith, z))))
            ∙ ap (λ (y : ℕ). y + 17179869184 * before (ks ++ (x ∷ [])) (y % 1024) m) (sym (snoc_at ks x m z))

    lasts-add : (r : ℕ) → r < 1024 → get_or (set hs (x % 1024) (length ks + 1)) r 0 ≡ before (ks ++ (x ∷ [])) r (length (ks ++ (x ∷ [])))
    lasts-add r l =
        last_if (eqb (x % 1024) r) (x % 1024) r hs (before ks r (length ks)) (length ks + 1) (omega (arith, M.heads)) refl (M.lasts r l)
        ∙ ap (λ (b : ℕ). cond (eqb (x % 1024) r) (length ks + 1) b) (sym (before_snoc ks x r (length ks) (omega arith)))
        ∙ ap (λ (y : ℕ). cond (eqb (y % 1024) r) (length ks + 1) (before (ks ++ (x ∷ [])) r (length ks))) (sym (snoc_last ks x))
        ∙ ap (λ (n : ℕ). cond (eqb (get_or (ks ++ (x ∷ [])) (length ks) 0 % 1024) r) n (before (ks ++ (x ∷ [])) r (length ks))) (add-one (length ks))
        ∙ ap (λ (n : ℕ). before (ks ++ (x ∷ [])) r n) (sym (long ∙ add-one (length ks)))

    pub mapped_add : Mapped w location has (ks ++ (x ∷ [])) vs (set hs (x % 1024) (length ks + 1))
    mapped_add =
        record {
          narrow = M.narrow;
          few = omega (arith, long, few);
          fits = omega (arith, room, ap (head_at w) long, Z.long, ap length eu, length-set ws top mark);
          heads = length-set hs (x % 1024) (length ks + 1) ∙ M.heads;
          small = λ m p. small_add m (which m p);
          once = once_add;
          located = λ c l v h. below (c * w + v) (omega (arith, column_later w c 6 l, head_behind w (length ks), h)) ∙ M.located c l v h;
          keyed = keyed_add;
          headed = headed_add;
          lasts = lasts-add;
          only = λ y j e. some_snoc (eqb y) ks x ∙ ap (λ (b : Bool). b || eqb y x) (M.only y j e);
        }
      where
        small_add : (m : ℕ) → (m ≡ length ks) ⊎ (m < length ks) → get_or (ks ++ (x ∷ [])) m 0 < 17179869184
        small_add m (inl z) = subst (λ (y : ℕ). y < 17179869184) (sym (ap (λ (j : ℕ). get_or (ks ++ (x ∷ [])) j 0) z ∙ snoc_last ks x)) small
        small_add m (inr z) = subst (λ (y : ℕ). y < 17179869184) (sym (snoc_at ks x m z)) (M.small m z)

-- the same, by what the code has written
pub add_made : {w : ℕ} {location has : ℕ → ℕ → Bool} {ks ws hs : List ℕ} → Mapped w location has ks ws hs → (x : ℕ) → some? (eqb x) ks ≡ false → x < 17179869184 → {n at : ℕ} {us vs gs : List ℕ} → n ≡ length ks → head_at w (n + 1) ≤ length ws → n < 7168 → at ≡ head_at w n → us ≡ set ws at (x + 17179869184 * get_or hs (x % 1024) 0) → Zeroed (at + 1) w us vs → gs ≡ set hs (x % 1024) (n + 1) → Mapped w location has (ks ++ (x ∷ [])) vs gs
add_made {w} {location} {has} {ks} {ws} {hs} M x g small {n} {at} {us} {vs} {gs} c room few a eu Z eg =
    subst (λ (l : List ℕ). Mapped w location has (ks ++ (x ∷ [])) vs l) (sym (eg ∙ ap (λ (m : ℕ). set hs (x % 1024) (m + 1)) c))
    (mapped_add M x g small (subst (λ (m : ℕ). head_at w (m + 1) ≤ length ws) c room) (subst (λ (m : ℕ). m < 7168) c few)
    (subst (λ (m : ℕ). Zeroed (m + 1) w us vs) there Z) (eu ∙ ap (λ (m : ℕ). set ws m (x + 17179869184 * get_or hs (x % 1024) 0)) there))
  where
    there : at ≡ head_at w (length ks)
    there = a ∙ ap (head_at w) c

-- what stands at the head of a residue is the number of a map
pub last_few : {w : ℕ} {location has : ℕ → ℕ → Bool} {ks ws hs : List ℕ} → Mapped w location has ks ws hs → (x : ℕ) → get_or hs (x % 1024) 0 ≤ 7168
last_few {ks = ks} M x = omega (arith, M.lasts (x % 1024) (omega arith), before-le ks (x % 1024) (length ks), M.few)
