-- Maps made of keys, of an object's columns and keys, and of all objects.
use Rattle.std.specs.Prelude.{Option, Some, None}
use Prim.Native.Nat.{ℕ, zero, suc, ◌+◌, ◌-◌, ◌*◌, ◌≤◌, ◌<◌}
use native.Mathlib.Omega.{arith}
use native.Mathlib.Nat.{zero-add, add-zero}
use native.Mathlib.Numerals.{add-one}
use mathlib.Core.Path.{◌≡◌, refl, sym, ap, subst, ◌∙◌}
use mathlib.Core.Bool.{Bool, true, false, not, ◌&&◌, ◌||◌, cond}
use mathlib.Core.List.{List, [], ◌∷◌, ◌++◌, append-nil}
use lib.Dec.{eqb, ltb}
use lib.ListN.{length, get_or, take, drop, replicate, length-append, length-take, take-append-drop, get_or-replicate}
use lib.Seq.{take_all}
use borrow.Author.Tests.{eqb-true, eqb-false, eq-eqb, ne_eqb, lt-ltb, le-ltb, ltb-true, le-leb, lt-leb}
use Rattle.laws.specs.Lists.{some?, put, keep, flat, from}
use Rattle.laws.proofs.Bools.{either, or_none_right, or_true_right, and_left, and_false_right, and_true_right, same_test}
use Rattle.laws.proofs.Every.{some_by, some_snoc}
use Rattle.laws.proofs.Keep.{keep_append, keep-next, keep-length}
use Rattle.laws.proofs.From.{flat-from-next}
use Rattle.rules.specs.Bytes.{bits}
use Rattle.rules.specs.Sheet.{Book, Fit}
use Rattle.rules.specs.Item.{object}
use Rattle.rules.specs.declared.Item.{Item}
use Rattle.info.specs.Stands.{is_fitted}
use Rattle.hits.specs.Reach.{no_skill, required_bits, reach_of}
use Rattle.maps.specs.Words.{map_word, with_bit}
use Rattle.maps.specs.Keys.{head_at, key_row, is_key, keys_of, has_key, let_in, with_key, firsts, keys_before, width_of, words_for}
use Rattle.maps.specs.Maps.{Mapped, Counting, Found, Zeroed, MadeBy, and_key, and_keys, and_columns, let_in_before, has_before, Built}
use Rattle.maps.proofs.Bits.{map_none}
use Rattle.maps.proofs.Index.{head_next, head_later, column_later}
use Rattle.maps.proofs.Making.{mapped_bit, mapped_column}

-- ---- one key

module _ {w : ℕ} {location has : ℕ → ℕ → Bool} {ks ws hs : List ℕ} (M : Mapped w location has ks ws hs) (x i : ℕ) where
  new_key : some? (eqb x) ks ≡ false → with_key ks x ≡ ks ++ (x ∷ [])
  new_key g = ap (λ (t : Bool). cond t ks (ks ++ (x ∷ []))) g

  module _ (h : i < w * 64) where
    pub mark_found : {m n at : ℕ} {us : List ℕ} → Found ks x (Some m) → n ≡ length ks → at ≡ head_at w m → us ≡ with_bit ws (at + 1) i → MadeBy (Some n) w location (and_key has x i) (with_key ks x) us hs
    mark_found {m} {n} F c a e =
        subst (λ (l : List ℕ). MadeBy (Some n) w location (and_key has x i) (with_key ks x) l hs) (sym (e ∙ ap (λ (b : ℕ). with_bit ws (b + 1) i) a)) at_it
      where
        known : with_key ks x ≡ ks
        known = ap (λ (t : Bool). cond t ks (ks ++ (x ∷ []))) (some_by (eqb x) ks m 0 F.0 (eq-eqb x (get_or ks m 0) (sym F.1)))

        at_it : MadeBy (Some n) w location (and_key has x i) (with_key ks x) (with_bit ws (head_at w m + 1) i) hs
        at_it =
            subst (λ (l : List ℕ). MadeBy (Some n) w location (and_key has x i) l (with_bit ws (head_at w m + 1) i) hs) (sym known)
            (c, mapped_bit M i h m F.0 x F.1)

    last_of : (l : List ℕ) → get_or (l ++ (x ∷ [])) (length l) 0 ≡ x
    last_of [] = refl
    last_of (y ∷ l) = last_of l

    pub mark_new : {n at : ℕ} {vs gs us : List ℕ} → some? (eqb x) ks ≡ false → n ≡ length ks → Mapped w location has (ks ++ (x ∷ [])) vs gs → at ≡ head_at w n → us ≡ with_bit vs (at + 1) i → MadeBy (Some (n + 1)) w location (and_key has x i) (with_key ks x) us gs
    mark_new {n} {at} {vs} {gs} g c N a e =
        subst (λ (l : List ℕ). MadeBy (Some (n + 1)) w location (and_key has x i) (with_key ks x) l gs) (sym (e ∙ ap (λ (b : ℕ). with_bit vs (b + 1) i) a))
        (subst (λ (l : List ℕ). MadeBy (Some (n + 1)) w location (and_key has x i) l (with_bit vs (head_at w n + 1) i) gs) (sym (new_key g)) (more, there))
      where
        more : n + 1 ≡ length (ks ++ (x ∷ []))
        more = omega (arith, c, length-append ks (x ∷ []))

        there : Mapped w location (and_key has x i) (ks ++ (x ∷ [])) (with_bit vs (head_at w n + 1) i) gs
        there =
            subst (λ (m : ℕ). Mapped w location (and_key has x i) (ks ++ (x ∷ [])) (with_bit vs (head_at w m + 1) i) gs) (sym c)
            (mapped_bit N i h (length ks) (omega (arith, length-append ks (x ∷ []))) x (last_of ks))

  pub mark_full : {n at long : ℕ} → some? (eqb x) ks ≡ false → n ≡ length ks → at ≡ head_at w n → length ws ≡ long → long < at + 1 + w → length ws < head_at w (length (with_key ks x))
  mark_full {n} g c a l h =
      omega (arith, h, a, l, ap (head_at w) (ap length (new_key g) ∙ length-append ks (x ∷ [])), head_next w (length ks), ap (head_at w) c)

-- ---- keys in the order in which they first come

pub firsts_snoc : (ks xs : List ℕ) (x : ℕ) → firsts ks (xs ++ (x ∷ [])) ≡ with_key (firsts ks xs) x
firsts_snoc ks [] x = refl
firsts_snoc ks (y ∷ xs) x = firsts_snoc (with_key ks y) xs x

pub firsts_append : (ks xs ys : List ℕ) → firsts ks (xs ++ ys) ≡ firsts (firsts ks xs) ys
firsts_append ks [] ys = refl
firsts_append ks (x ∷ xs) ys = firsts_append (with_key ks x) xs ys

with_longer : (t : Bool) (ks : List ℕ) (x : ℕ) → length ks ≤ length (cond t ks (ks ++ (x ∷ [])))
with_longer true ks x = omega arith
with_longer false ks x = omega (arith, length-append ks (x ∷ []))

with_few : (t : Bool) (ks : List ℕ) (x : ℕ) → length (cond t ks (ks ++ (x ∷ []))) ≤ length ks + 1
with_few true ks x = omega arith
with_few false ks x = omega (arith, length-append ks (x ∷ []))

pub firsts_longer : (ks xs : List ℕ) → length ks ≤ length (firsts ks xs)
firsts_longer ks [] = omega arith
firsts_longer ks (x ∷ xs) = omega (arith, with_longer (some? (eqb x) ks) ks x, firsts_longer (with_key ks x) xs)

pub firsts_few : (ks xs : List ℕ) → length (firsts ks xs) ≤ length ks + length xs
firsts_few ks [] = omega arith
firsts_few ks (x ∷ xs) = omega (arith, with_few (some? (eqb x) ks) ks x, firsts_few (with_key ks x) xs)

pub head_more : (w m n : ℕ) → m ≤ n → head_at w m ≤ head_at w n
head_more w m n l = by (eqb m n) refl
  where
    by : (t : Bool) → eqb m n ≡ t → head_at w m ≤ head_at w n
    by true e = omega (arith, ap (head_at w) (eqb-true m n e))
    by false e = omega (arith, head_later w m n (omega (arith, l, eqb-false m n e)))

-- ---- the keys of a row, in a loop

none_more : (has : ℕ → ℕ → Bool) (i y j : ℕ) → has y j ≡ and_keys has [] i y j
none_more has i y j = sym (or_none_right (has y j))

joined : (h a z e : Bool) → (h || a && e) || z && e ≡ h || (a || z) && e
joined true a z e = refl
joined false true true true = refl
joined false true true false = refl
joined false true false e = or_none_right e
joined false false z e = refl

one_more : (has : ℕ → ℕ → Bool) (xs : List ℕ) (x i y j : ℕ) → and_key (and_keys has xs i) x i y j ≡ and_keys has (xs ++ (x ∷ [])) i y j
one_more has xs x i y j =
    joined (has y j) (some? (eqb y) xs) (eqb y x) (eqb j i) ∙ ap (λ (b : Bool). has y j || b && eqb j i) (sym (some_snoc (eqb y) xs x))

module _ (w : ℕ) (location has : ℕ → ℕ → Bool) (ks : List ℕ) (row : List ℕ) (i : ℕ) where
  abbrev keys : ℕ → List ℕ
  keys k = keep is_key (take k row)

  -- n maps, with the keys before place k of the row
  abbrev pub Keyed : ℕ → ℕ → List ℕ → List ℕ → Type 0
  Keyed k n ws hs = MadeBy (Some n) w location (and_keys has (keep is_key (take k row)) i) (firsts ks (keep is_key (take k row))) ws hs

  pub keyed_none : (n : ℕ) (ws hs : List ℕ) → Mapped w location has ks ws hs → n ≡ length ks → Keyed 0 n ws hs
  keyed_none n ws hs M c = (c, subst (λ (h : ℕ → ℕ → Bool). Mapped w location h ks ws hs) (λ t y j. none_more has i y j t) M)

  module _ (k : ℕ) (h : k < length row) where
    next : keys (k + 1) ≡ keys k ++ put (is_key (get_or row k 0)) (get_or row k 0) []
    next = keep-next is_key row k 0 h

    pub keys_here : is_key (get_or row k 0) ≡ true → keys (k + 1) ≡ keys k ++ (get_or row k 0 ∷ [])
    keys_here e = next ∙ ap (λ (t : Bool). keys k ++ put t (get_or row k 0) []) e

    keys_on : is_key (get_or row k 0) ≡ false → keys (k + 1) ≡ keys k
    keys_on e = next ∙ ap (λ (t : Bool). keys k ++ put t (get_or row k 0) []) e ∙ append-nil (keys k)

    pub keyed_on : (n : ℕ) (ws hs : List ℕ) → is_key (get_or row k 0) ≡ false → Keyed k n ws hs → Keyed (k + 1) n ws hs
    keyed_on n ws hs e K =
        subst (λ (l : List ℕ). MadeBy (Some n) w location (and_keys has l i) (firsts ks l) ws hs) (sym (keys_on e)) K

    -- what is made with one key more
    pub keyed_here : (ws hs : List ℕ) (r : Option ℕ) → is_key (get_or row k 0) ≡ true → MadeBy r w location (and_key (and_keys has (keys k) i) (get_or row k 0) i) (with_key (firsts ks (keys k)) (get_or row k 0)) ws hs → MadeBy r w location (and_keys has (keys (k + 1)) i) (firsts ks (keys (k + 1))) ws hs
    keyed_here ws hs r e K =
        subst (λ (l : List ℕ). MadeBy r w location (and_keys has l i) (firsts ks l) ws hs) (sym (keys_here e))
        (subst (λ (l : List ℕ). MadeBy r w location (and_keys has (keys k ++ (get_or row k 0 ∷ [])) i) l ws hs) (sym (firsts_snoc ks (keys k) (get_or row k 0)))
        (subst (λ (g : ℕ → ℕ → Bool). MadeBy r w location g (with_key (firsts ks (keys k)) (get_or row k 0)) ws hs) (λ t y j. one_more has (keys k) (get_or row k 0) i y j t) K))

  all_keys : (k : ℕ) → keep is_key row ≡ keys k ++ keep is_key (drop k row)
  all_keys k = ap (keep is_key) (sym (take-append-drop k row)) ∙ keep_append is_key (take k row) (drop k row)

  pub keyed_full : (k : ℕ) (ws : List ℕ) → length ws < head_at w (length (firsts ks (keys k))) → length ws < head_at w (length (firsts ks (keep is_key row)))
  keyed_full k ws h =
      omega (
        arith,
        h,
        head_more w (length (firsts ks (keys k))) (length (firsts ks (keep is_key row)))
            (omega (arith, ap length (ap (firsts ks) (all_keys k) ∙ firsts_append ks (keys k) (keep is_key (drop k row))), firsts_longer (firsts ks (keys k)) (keep is_key (drop k row)))),
      )

  pub keyed_done : (k n : ℕ) (ws hs : List ℕ) → take k row ≡ row → Keyed k n ws hs → MadeBy (Some n) w location (and_keys has (keep is_key row) i) (firsts ks (keep is_key row)) ws hs
  keyed_done k n ws hs e K = subst (λ (l : List ℕ). MadeBy (Some n) w location (and_keys has (keep is_key l) i) (firsts ks (keep is_key l)) ws hs) e K

  pub keyed_few : (k n : ℕ) (ws hs : List ℕ) → Keyed k n ws hs → n ≤ length ks + k
  keyed_few k n ws hs K = omega (arith, K.0, firsts_few ks (keys k), keep-length is_key (take k row), length-take k row)

  pub keyed_counting : (k n : ℕ) (ws hs : List ℕ) → Keyed k n ws hs → Counting n w ws hs
  keyed_counting k n ws hs K =
      record {
        held = record { location = location; has = and_keys has (keys k) i; keys = firsts ks (keys k); mapped = K.1 };
        count = K.0;
      }

-- the loop over seven keys, by what the code knows
module _ (w : ℕ) (location has : ℕ → ℕ → Bool) (ks : List ℕ) (row : List ℕ) (i k n : ℕ) where
  pub keyed_asks : (ws hs : List ℕ) → Keyed w location has ks row i k n ws hs → Counting n w ws hs × (n ≤ length ks + k)
  keyed_asks ws hs K = (keyed_counting w location has ks row i k n ws hs K, keyed_few w location has ks row i k n ws hs K)

  module _ (h : k < 7) (long : length row ≡ 7) where
    inside : k < length row
    inside = omega (arith, h, long)

    a_key : (get_or row k 0 ≡ 4294967296 → ⊥) → is_key (get_or row k 0) ≡ true
    a_key d = ap not (ne_eqb (get_or row k 0) no_skill d)

    module _ (d : get_or row k 0 ≡ 4294967296 → ⊥) (ws hs : List ℕ) {r : Option ℕ} (made : MadeBy r w location (and_key (and_keys has (keep is_key (take k row)) i) (get_or row k 0) i) (with_key (firsts ks (keep is_key (take k row))) (get_or row k 0)) ws hs) where
      so : (q : Option ℕ) → r ≡ q → MadeBy q w location (and_keys has (keep is_key (take (k + 1) row)) i) (firsts ks (keep is_key (take (k + 1) row))) ws hs
      so q e =
          subst (λ (x : Option ℕ). MadeBy x w location (and_keys has (keep is_key (take (k + 1) row)) i) (firsts ks (keep is_key (take (k + 1) row))) ws hs) e
          (keyed_here w location has ks row i k inside ws hs r (a_key d) made)

      pub keyed_short : r ≡ None → length ws < head_at w (length (firsts ks (keep is_key row)))
      keyed_short e = keyed_full w location has ks row i (k + 1) ws (so None e)

      pub keyed_marked : {m : ℕ} → r ≡ Some m → Keyed w location has ks row i (k + 1) m ws hs
      keyed_marked {m} e = so (Some m) e

    pub keyed_passed : get_or row k 0 ≡ 4294967296 → (ws hs : List ℕ) → Keyed w location has ks row i k n ws hs → Keyed w location has ks row i (k + 1) n ws hs
    keyed_passed e ws hs K = keyed_on w location has ks row i k inside n ws hs (ap not (eq-eqb (get_or row k 0) no_skill e)) K

  pub keyed_end : (ws hs : List ℕ) → length row ≡ 7 → k ≤ 7 → 7 ≤ k → Keyed w location has ks row i k n ws hs → MadeBy (Some n) w location (and_keys has (keep is_key row) i) (firsts ks (keep is_key row)) ws hs
  keyed_end ws hs long l m K = keyed_done w location has ks row i k n ws hs (take_all k row (omega (arith, long, m))) K

-- ---- the columns of an object, in a loop

ltb_next : (d c : ℕ) → ltb d (c + 1) ≡ ltb d c || eqb d c
ltb_next d c =
    same_test (ltb d (c + 1)) (ltb d c || eqb d c)
    (λ e. by (eqb d c) refl (ltb-true d (c + 1) e))
    (either (ltb d c) (eqb d c) (λ e. lt-ltb d (c + 1) (omega (arith, ltb-true d c e))) (λ e. lt-ltb d (c + 1) (omega (arith, eqb-true d c e))))
  where
    by : (t : Bool) → eqb d c ≡ t → d < c + 1 → ltb d c || t ≡ true
    by true e h = or_true_right (ltb d c)
    by false e h = ap (λ (b : Bool). b || false) (lt-ltb d c (omega (arith, h, eqb-false d c e)))

yes : (l a z f e : Bool) → (z ≡ true → f ≡ true) → (l || (a && f) && e) || z && e ≡ l || ((a || z) && f) && e
yes true a z f e h = refl
yes false true true f e h = rw (h refl) (twice e)
  where
    twice : (t : Bool) → t || t ≡ t
    twice true = refl
    twice false = refl
yes false true false f e h = or_none_right (f && e)
yes false false true f e h = rw (h refl) refl
yes false false false f e h = refl

no : (l a z f e : Bool) → (z ≡ true → f ≡ false) → l || (a && f) && e ≡ l || ((a || z) && f) && e
no l true z f e h = refl
no l false false f e h = refl
no l false true f e h = rw (h refl) refl

module _ {w : ℕ} {has : ℕ → ℕ → Bool} {ks hs : List ℕ} (location : ℕ → ℕ → Bool) (row : List ℕ) (i : ℕ) where
  pub columns_none : {ws : List ℕ} → Mapped w location has ks ws hs → Mapped w (and_columns location row 0 i) has ks ws hs
  columns_none {ws} M = subst (λ (l : ℕ → ℕ → Bool). Mapped w l has ks ws hs) (λ t d j. none d j t) M
    where
      none : (d j : ℕ) → location d j ≡ and_columns location row 0 i d j
      none d j = sym (or_none_right (location d j)) ∙ ap (λ (b : Bool). location d j || (b && not (eqb (get_or row d 0) 0)) && eqb j i) (sym (le-ltb d 0 (omega arith)))

  module _ (c : ℕ) {ws : List ℕ} (M : Mapped w (and_columns location row c i) has ks ws hs) where
    more : (d j : ℕ) → location d j || ((ltb d c || eqb d c) && not (eqb (get_or row d 0) 0)) && eqb j i ≡ and_columns location row (c + 1) i d j
    more d j = ap (λ (b : Bool). location d j || (b && not (eqb (get_or row d 0) 0)) && eqb j i) (sym (ltb_next d c))

    pub columns_here : {us : List ℕ} → c < 6 → i < w * 64 → (get_or row c 0 ≡ 0 → ⊥) → us ≡ with_bit ws (c * w) i → Mapped w (and_columns location row (c + 1) i) has ks us hs
    columns_here l h n q =
        subst (λ (v : List ℕ). Mapped w (and_columns location row (c + 1) i) has ks v hs) (sym q)
        (subst (λ (g : ℕ → ℕ → Bool). Mapped w g has ks (with_bit ws (c * w) i) hs) (λ t d j. same d j t) (mapped_column M i h c l))
      where
        same : (d j : ℕ) → and_key (and_columns location row c i) c i d j ≡ and_columns location row (c + 1) i d j
        same d j =
            yes (location d j) (ltb d c) (eqb d c) (not (eqb (get_or row d 0) 0)) (eqb j i)
            (λ e. ap not (ap (λ (x : ℕ). eqb (get_or row x 0) 0) (eqb-true d c e) ∙ ne_eqb (get_or row c 0) 0 n))
            ∙ more d j

    pub columns_on : get_or row c 0 ≡ 0 → Mapped w (and_columns location row (c + 1) i) has ks ws hs
    columns_on z = subst (λ (g : ℕ → ℕ → Bool). Mapped w g has ks ws hs) (λ t d j. same d j t) M
      where
        same : (d j : ℕ) → and_columns location row c i d j ≡ and_columns location row (c + 1) i d j
        same d j =
            no (location d j) (ltb d c) (eqb d c) (not (eqb (get_or row d 0) 0)) (eqb j i)
            (λ e. ap not (ap (λ (x : ℕ). eqb (get_or row x 0) 0) (eqb-true d c e) ∙ eq-eqb (get_or row c 0) 0 z))
            ∙ more d j

  pub columns-done : (c : ℕ) {ws : List ℕ} → c ≤ 6 → 6 ≤ c → Mapped w (and_columns location row c i) has ks ws hs → Mapped w (and_columns location row 6 i) has ks ws hs
  columns-done c {ws} l h M = subst (λ (n : ℕ). Mapped w (and_columns location row n i) has ks ws hs) (omega (arith, l, h)) M

-- ---- an object, by its columns and its keys

pub group_in : (k : Book) (f : Fit) (o : Item) {row : List ℕ} → row ≡ reach_of k f o → get_or row 7 0 ≡ bits o.group_id
unfolding reach_of
group_in k f o e = ap (λ (r : List ℕ). get_or r 7 0) e

pub object_made : (k : Book) (f : Fit) (o : Item) (w i : ℕ) (location has : ℕ → ℕ → Bool) (ks ws hs : List ℕ) (r : Option ℕ) {row keys : List ℕ} → row ≡ reach_of k f o → keys ≡ key_row f o → MadeBy r w (and_columns location row 6 i) (and_keys has (keep is_key keys) i) (firsts ks (keep is_key keys)) ws hs → MadeBy r w (and_columns location (reach_of k f o) 6 i) (and_keys has (keys_of f o) i) (firsts ks (keys_of f o)) ws hs
object_made k f o w i location has ks ws hs r {row} {keys} e q M =
    subst (λ (l : List ℕ). MadeBy r w (and_columns location (reach_of k f o) 6 i) (and_keys has (keep is_key l) i) (firsts ks (keep is_key l)) ws hs) q
    (subst (λ (l : List ℕ). MadeBy r w (and_columns location l 6 i) (and_keys has (keep is_key keys) i) (firsts ks (keep is_key keys)) ws hs) e M)

-- ---- all objects

grow : (a z l m : Bool) → (z ≡ true → l ≡ m) → (a && l) || m && z ≡ (a || z) && l
grow true z true m h = refl
grow true true false m h = and_true_right m ∙ sym (h refl)
grow true false false m h = and_false_right m
grow false true l m h = and_true_right m ∙ sym (h refl)
grow false false l m h = and_false_right m

module _ (k : Book) (f : Fit) where
  seven : (o : Item) → length (key_row f o) ≡ 7
  unfolding key_row required_bits
  seven o = length-append (cond (is_fitted o) (required_bits f o) (replicate 6 no_skill)) _ ∙ ap (λ (n : ℕ). n + 1) (six (is_fitted o))
    where
      six : (t : Bool) → length (cond t (required_bits f o) (replicate 6 no_skill)) ≡ 6
      six true = refl
      six false = refl

  keys_next : (n : ℕ) → keys_before f (n + 1) ≡ firsts (keys_before f n) (keys_of f (object f n))
  keys_next n =
      ap (firsts []) (flat-from-next (λ i. keys_of f (object f i)) 0 n)
      ∙ firsts_append [] (flat (λ i. keys_of f (object f i)) (from 0 n)) (keys_of f (object f (0 + n)))
      ∙ ap (λ (j : ℕ). firsts (keys_before f n) (keys_of f (object f j))) (zero-add n)

  pub keys_few : (n : ℕ) → length (keys_before f n) ≤ 7 * n
  keys_few zero = omega arith
  keys_few (suc n) =
      omega (
        arith,
        ap length (ap (keys_before f) (sym (add-one n)) ∙ keys_next n),
        firsts_few (keys_before f n) (keys_of f (object f n)),
        keep-length is_key (key_row f (object f n)),
        seven (object f n),
        keys_few n,
      )

  keys_later : (m d : ℕ) → length (keys_before f m) ≤ length (keys_before f (m + d))
  keys_later m zero = omega (arith, ap (λ (n : ℕ). length (keys_before f n)) (add-zero m))
  keys_later m (suc d) =
      omega (arith, keys_later m d, ap length (keys_next (m + d)), firsts_longer (keys_before f (m + d)) (keys_of f (object f (m + d))), ap (λ (n : ℕ). length (keys_before f n)) (on d))
    where
      on : (d : ℕ) → m + suc d ≡ m + d + 1
      on d = omega arith

  -- n maps of the first i objects
  abbrev pub Making : ℕ → ℕ → ℕ → List ℕ → List ℕ → Type 0
  Making w i n ws hs = MadeBy (Some n) w (let_in_before k f i) (has_before f i) (keys_before f i) ws hs

  let_next : (i c j : ℕ) → and_columns (let_in_before k f i) (reach_of k f (object f i)) 6 i c j ≡ let_in_before k f (i + 1) c j
  let_next i c j =
      grow (ltb j i) (eqb j i) (let_in k f c j) (let_in k f c i) (λ e. ap (let_in k f c) (eqb-true j i e))
      ∙ ap (λ (b : Bool). b && let_in k f c j) (sym (ltb_next j i))

  has_next : (i x j : ℕ) → and_keys (has_before f i) (keys_of f (object f i)) i x j ≡ has_before f (i + 1) x j
  has_next i x j =
      grow (ltb j i) (eqb j i) (has_key f x j) (has_key f x i) (λ e. ap (has_key f x) (eqb-true j i e))
      ∙ ap (λ (b : Bool). b && has_key f x j) (sym (ltb_next j i))

  pub making_more : (w i : ℕ) (ws hs : List ℕ) {r : Option ℕ} (q : Option ℕ) → r ≡ q → MadeBy r w (and_columns (let_in_before k f i) (reach_of k f (object f i)) 6 i) (and_keys (has_before f i) (keys_of f (object f i)) i) (firsts (keys_before f i) (keys_of f (object f i))) ws hs → MadeBy q w (let_in_before k f (i + 1)) (has_before f (i + 1)) (keys_before f (i + 1)) ws hs
  making_more w i ws hs q e M =
      subst (λ (l : List ℕ). MadeBy q w (let_in_before k f (i + 1)) (has_before f (i + 1)) l ws hs) (sym (keys_next i))
      (subst (λ (g : ℕ → ℕ → Bool). MadeBy q w (let_in_before k f (i + 1)) g (firsts (keys_before f i) (keys_of f (object f i))) ws hs) (λ t x j. has_next i x j t)
      (subst (λ (g : ℕ → ℕ → Bool). MadeBy q w g (and_keys (has_before f i) (keys_of f (object f i)) i) (firsts (keys_before f i) (keys_of f (object f i))) ws hs) (λ t c j. let_next i c j t)
      (subst (λ (x : Option ℕ). MadeBy x w (and_columns (let_in_before k f i) (reach_of k f (object f i)) 6 i) (and_keys (has_before f i) (keys_of f (object f i)) i) (firsts (keys_before f i) (keys_of f (object f i))) ws hs) e M)))

  pub making_counting : (w i n : ℕ) (ws hs : List ℕ) → Making w i n ws hs → Counting n w ws hs
  making_counting w i n ws hs M =
      record { held = record { location = let_in_before k f i; has = has_before f i; keys = keys_before f i; mapped = M.1 }; count = M.0 }

  making_none : {w : ℕ} {ws₀ ws : List ℕ} → w ≤ 16 → 6 * w ≤ length ws₀ → Zeroed 0 (6 * w) ws₀ ws → Making w 0 0 ws (replicate 1024 0)
  unfolding head_at
  making_none {w} {ws₀} {ws} l h Z = (
    refl,
    record {
      narrow = l;
      few = omega arith;
      fits = omega (arith, h, Z.long);
      heads = refl;
      small = λ m g. absurd (omega (arith, g));
      once = λ m n g. absurd (omega (arith, g));
      located = λ c g v q. ap (λ (n : ℕ). get_or ws n 0) (sym (zero-add (c * w + v))) ∙ Z.zero (c * w + v) (omega (arith, column_later w c 6 g, q)) ∙ sym (map_none v) ∙ ap (λ (p : ℕ → Bool). map_word p v) (λ t j. nobody c j t);
      keyed = λ m g. absurd (omega (arith, g));
      headed = λ m g. absurd (omega (arith, g));
      lasts = λ r g. get_or-replicate 1024 r 0 0 g;
      only = λ x j e. absurd (omega (arith, ltb-true j 0 (and_left (ltb j 0) (has_key f x j) e)));
    },
  )
    where
      nobody : (c j : ℕ) → false ≡ let_in_before k f 0 c j
      nobody c j = ap (λ (b : Bool). b && let_in k f c j) (sym (le-ltb j 0 (omega arith)))

  pub making_start : {w : ℕ} {ws₀ ws hs : List ℕ} → hs ≡ replicate 1024 0 → w ≤ 16 → 6 * w ≤ length ws₀ → Zeroed 0 (6 * w) ws₀ ws → Making w 0 0 ws hs
  making_start {w} {ws₀} {ws} {hs} e l h Z = subst (λ (x : List ℕ). Making w 0 0 ws x) (sym e) (making_none l h Z)

  module _ (w long : ℕ) (e : w ≡ width_of (length f.objects)) where
    pub built_few : {ws hs : List ℕ} → length ws ≡ long → long < 6 * w → Built k f long None ws hs
    unfolding head_at
    built_few l h =
        record {
          served = ap (λ (t : Bool). cond t (Some (words_for f)) None) (sym (lt-leb (words_for f) long (omega (arith, h, e))));
          kept = l;
          maps = λ g. absurd (omega (arith, h, g, e));
        }

    pub built_full : (i : ℕ) {ws hs : List ℕ} → i + 1 ≤ length f.objects → length ws ≡ long → length ws < head_at w (length (keys_before f (i + 1))) → Built k f long None ws hs
    built_full i g l h =
        record {
          served = ap (λ (t : Bool). cond t (Some (words_for f)) None) (sym (lt-leb (words_for f) long short));
          kept = l;
          maps = λ q. absurd (omega (arith, short, q));
        }
      where
        later : length (keys_before f (i + 1)) ≤ length (keys_before f (length f.objects))
        later = omega (arith, keys_later (i + 1) (length f.objects - (i + 1)), ap (λ (n : ℕ). length (keys_before f n)) there)
          where
            there : i + 1 + (length f.objects - (i + 1)) ≡ length f.objects
            there = omega (arith, g)

        short : long < words_for f
        short = omega (arith, h, l, head_more w (length (keys_before f (i + 1))) (length (keys_before f (length f.objects))) later, ap (λ (n : ℕ). head_at n (length (keys_before f (length f.objects)))) e)

    pub built_all : (i n : ℕ) {r : ℕ} {ws hs : List ℕ} → i ≡ length f.objects → length ws ≡ long → Making w i n ws hs → r ≡ head_at w n → Built k f long (Some r) ws hs
    built_all i n {r} {ws} {hs} g l M q =
        record {
          served = ap Some (q ∙ all) ∙ ap (λ (t : Bool). cond t (Some (words_for f)) None) (sym (le-leb (words_for f) long (omega (arith, sym all, ap (head_at w) M.0, M.1.fits, l))));
          kept = l;
          maps = λ z. subst (λ (v : ℕ). Mapped v (let_in_before k f (length f.objects)) (has_before f (length f.objects)) (keys_before f (length f.objects)) ws hs) e (subst (λ (j : ℕ). Mapped w (let_in_before k f j) (has_before f j) (keys_before f j) ws hs) g M.1);
        }
      where
        all : head_at w n ≡ words_for f
        all = ap (head_at w) M.0 ∙ ap (λ (j : ℕ). head_at w (length (keys_before f j))) g ∙ ap (λ (v : ℕ). head_at v (length (keys_before f (length f.objects)))) e
