-- A block of lines: how its keys are laid, the place of a key among them, and its sums, an object at a time.
use Prim.Native.Nat.{ℕ, zero, suc, ◌+◌, ◌*◌, ◌-◌, ◌%◌, ◌≤◌, ◌<◌}
use native.Mathlib.Nat.{add-zero, eq-or-lt_of_le, lt_irrefl}
use native.Mathlib.Omega.{arith}
use mathlib.Core.Path.{◌≡◌, refl, sym, ap, subst, ◌∙◌}
use mathlib.Core.Bool.{Bool, true, false, ◌&&◌, ◌||◌, cond}
use mathlib.Core.List.{List, [], map}
use mathlib.Core.Logic.{◌⊎◌, inl, inr, ⊎_elim}
use lib.Dec.{eqb, ltb, leb}
use lib.IntN.{ℤ, pos, negsuc}
use lib.ListN.{length, get_or, set, take, replicate, length-set, length-map, length-replicate, get_or-replicate}
use lib.Seq.{get_or-set_same, get_or-set_other, take_all}
use lib.Signed.{lt_z}
use mir.Syntax.{w32}
use mir.Val.{SFits, of_z, to_z, sel}
use mir.Facts.{to_z-of_z}
use borrow.Author.Tests.{eqb-true, eqb-false, eq-eqb, ne_eqb, ltb-true, ltb-false, lt-ltb, leb-false}
use Rattle.laws.specs.Lists.{eq_z, keep}
use Rattle.laws.proofs.Bools.{and_left, and_right, both_ways, not-passed, same_test, true_or_false}
use Rattle.laws.proofs.Keep.{keep-keep}
use Rattle.laws.proofs.Maps.{map_at}
use Rattle.laws.proofs.Order.{lt_z_neither, eq_z_true, eq_z_same, eq_z_sym}
use Rattle.laws.proofs.Search.{Falls, between_up, between_down, between_end}
use Rattle.rules.specs.Bytes.{signed}
use Rattle.rules.specs.Sheet.{Book, Fit}
use Rattle.rules.specs.Item.{no_item, object}
use Rattle.rules.specs.declared.Item.{Item}
use Rattle.tallies.specs.Tallies.{Line, line_of, rises, counts, counted, total}
use Rattle.tallies.specs.Blocks.{Ordered, rank, line_key, Laid, Keyed, Spanned, key_below, Bounds, Added, key_of, Counted, Summed, Told}
use Rattle.tallies.proofs.Sums.{total-next}

-- ---- what rises

-- of one kind a later line has a greater id
pub rises_alike : (a b : Line) → rises a b ≡ true → a.kind ≡ b.kind → lt_z a.id b.id ≡ true
rises_alike a b r e = by (ltb a.kind b.kind) refl r
  where
    by : (t : Bool) → ltb a.kind b.kind ≡ t → t || (eqb a.kind b.kind && lt_z a.id b.id) ≡ true → lt_z a.id b.id ≡ true
    by true h q = absurd (omega (arith, ltb-true a.kind b.kind h, e))
    by false h q = and_right (eqb a.kind b.kind) (lt_z a.id b.id) q

-- no later line is of a lesser kind
rises_kind : (a b : Line) → rises a b ≡ true → a.kind ≤ b.kind
rises_kind a b r = by (ltb a.kind b.kind) refl r
  where
    by : (t : Bool) → ltb a.kind b.kind ≡ t → t || (eqb a.kind b.kind && lt_z a.id b.id) ≡ true → a.kind ≤ b.kind
    by true h q = omega (arith, ltb-true a.kind b.kind h)
    by false h q = omega (arith, eqb-true a.kind b.kind (and_left (eqb a.kind b.kind) (lt_z a.id b.id) q))

kind_le : (ls : List Line) → Ordered ls → (i j : ℕ) → i ≤ j → j < length ls → (get_or ls i (line_of [])).kind ≤ (get_or ls j (line_of [])).kind
kind_le ls O i j l h = by (eq-or-lt_of_le {n = i} {m = j} l)
  where
    by : (i ≡ j) ⊎ (i < j) → (get_or ls i (line_of [])).kind ≤ (get_or ls j (line_of [])).kind
    by (inl q) = subst (λ (x : ℕ). (get_or ls i (line_of [])).kind ≤ (get_or ls x (line_of [])).kind) q (omega arith)
    by (inr q) = rises_kind (get_or ls i (line_of [])) (get_or ls j (line_of [])) (O.rising i j q h)

-- ---- keys

-- any bits read as signed fit 32
pub signed-fits : (x : ℕ) → SFits w32 (signed x)
signed-fits x = by (ltb x 2147483648) refl
  where
    by : (t : Bool) → ltb x 2147483648 ≡ t → SFits w32 (sel t (pos x) (negsuc (4294967296 - suc x)))
    by true e = record { sfits = ltb-true x 2147483648 e }
    by false e = record { sfits = omega (arith, ltb-false x 2147483648 e) }

rank_few : (a : ℤ) → SFits w32 a → rank a < 4294967296
rank_few (pos m) f = omega (arith, f.sfits)
rank_few (negsuc m) f = omega arith

rank_less : (a b : ℤ) → SFits w32 a → SFits w32 b → lt_z a b ≡ true → rank a < rank b
rank_less (pos m) (pos n) f g e = omega (arith, ltb-true m n e)
rank_less (pos m) (negsuc n) f g e = both_ways e refl
rank_less (negsuc m) (pos n) f g e = omega arith
rank_less (negsuc m) (negsuc n) f g e = omega (arith, ltb-true n m e, f.sfits)

rank_same : (a b : ℤ) → SFits w32 a → SFits w32 b → rank a ≡ rank b → a ≡ b
rank_same a b f g e =
    lt_z_neither a b (not-passed (lt_z a b) (λ t. omega (arith, rank_less a b f g t, e))) (not-passed (lt_z b a) (λ t. omega (arith, rank_less b a g f t, e)))

-- as it is worked out from the bits
pub rank-bits : (a : ℤ) → SFits w32 a → (of_z w32 a + 2147483648) % 4294967296 ≡ rank a
rank-bits (pos m) f = let h = f.sfits in omega (arith, h)
rank-bits (negsuc m) f = let h = f.sfits in omega (arith, h)

rises_key : (a b : Line) → SFits w32 a.id → SFits w32 b.id → rises a b ≡ true → line_key a.kind a.id < line_key b.kind b.id
rises_key a b f g r = by (ltb a.kind b.kind) refl r
  where
    by : (t : Bool) → ltb a.kind b.kind ≡ t → t || (eqb a.kind b.kind && lt_z a.id b.id) ≡ true → line_key a.kind a.id < line_key b.kind b.id
    by true h q = omega (arith, ltb-true a.kind b.kind h, rank_few a.id f)
    by false h q =
        omega (
          arith,
          eqb-true a.kind b.kind (and_left (eqb a.kind b.kind) (lt_z a.id b.id) q),
          rank_less a.id b.id f g (and_right (eqb a.kind b.kind) (lt_z a.id b.id) q),
        )

key_same : (kind : ℕ) (a b : ℤ) → SFits w32 a → SFits w32 b → eqb (line_key kind a) (line_key kind b) ≡ eq_z a b
key_same kind a b f g =
    same_test (eqb (line_key kind a) (line_key kind b)) (eq_z a b) (λ e. eq_z_same a b (rank_same a b f g (omega (arith, eqb-true (line_key kind a) (line_key kind b) e))))
    (λ e. eq-eqb (line_key kind a) (line_key kind b) (ap (line_key kind) (eq_z_true a b e)))

key_apart : (k l : ℕ) (a b : ℤ) → SFits w32 a → SFits w32 b → (k ≡ l → ⊥) → eqb (line_key k a) (line_key l b) ≡ false
key_apart k l a b f g n = ne_eqb (line_key k a) (line_key l b) (λ e. n (omega (arith, e, rank_few a f, rank_few b g)))

-- as it was worked out from the bits that were handed on
pub key_told : (kind : ℕ) (a : ℤ) → SFits w32 a → {key : ℕ} → key ≡ line_key kind (to_z w32 (of_z w32 a)) → key ≡ line_key kind a
key_told kind a f e = e ∙ ap (line_key kind) (to_z-of_z f)

-- ---- laying

pub laid_none : (ls : List Line) {first : ℕ} → first < length ls → Laid ls first 0 (replicate 1024 18446744073709551615)
laid_none ls {first} h =
    record {
      long = length-replicate {A = ℕ} 1024 18446744073709551615;
      few = omega arith;
      inside = omega arith;
      are = λ j l. absurd (omega arith);
      rest = λ j l m. get_or-replicate 1024 j 18446744073709551615 0 m;
    }

module _ (rows : List (List ℕ)) where
  abbrev At : ℕ → Line
  At i = get_or (map line_of rows) i (line_of [])

  fits-at : {i : ℕ} → i < length rows → SFits w32 (At i).id
  fits-at {i} h = subst (λ (l : Line). SFits w32 l.id) (sym (map_at line_of rows i [] (line_of []) h)) (signed-fits (get_or (get_or rows i []) 1 0))

  -- a row's kind, as it was read
  pub kind_at : {i : ℕ} → i < length rows → get_or (get_or rows i []) 0 0 ≡ (At i).kind
  kind_at {i} h = sym (ap (λ (x : Line). x.kind) (map_at line_of rows i [] (line_of []) h))

  module _ {first n : ℕ} {keys : List ℕ} (L : Laid (map line_of rows) first n keys) where
    -- one more line
    pub laid_more : {v : ℕ} → first + n < length rows → n < 1023 → v ≡ line_key (get_or (get_or rows (first + n) []) 0 0) (signed (get_or (get_or rows (first + n) []) 1 0))
        → Laid (map line_of rows) first (n + 1) (set keys n v)
    laid_more {v} h less e =
        record {
          long = length-set keys n v ∙ L.long;
          few = omega arith;
          inside = omega (arith, length-map rows line_of);
          are = λ j l. are j (eq-or-lt_of_le {n = j} {m = n} (omega arith));
          rest = λ j l m. get_or-set_other keys n j v 0 (λ s. lt_irrefl n (subst (λ (x : ℕ). n < x) s (omega arith))) ∙ L.rest j (omega arith) m;
        }
      where
        are : (j : ℕ) → (j ≡ n) ⊎ (j < n) → get_or (set keys n v) j 0 ≡ line_key (At (first + j)).kind (At (first + j)).id
        are j (inl q) =
            ap (λ (x : ℕ). get_or (set keys n v) x 0) q ∙ get_or-set_same keys n v 0 (omega (arith, L.long)) ∙ e
            ∙ sym (ap (λ (l : Line). line_key l.kind l.id) (map_at line_of rows (first + n) [] (line_of []) h))
            ∙ ap (λ (x : ℕ). line_key (At (first + x)).kind (At (first + x)).id) (sym q)
        are j (inr q) = get_or-set_other keys n j v 0 (λ s. lt_irrefl n (subst (λ (x : ℕ). x < n) s q)) ∙ L.are j q

    inside : (j : ℕ) → j < n → first + j < length rows
    inside j h = omega (arith, L.inside, length-map rows line_of)

    module _ (O : Ordered (map line_of rows)) where
      pub laid_keyed : Keyed keys
      laid_keyed =
          record {
            long = L.long;
            rising = λ i j l h less. by i j l less (true_or_false (ltb j n)) h;
            last = L.rest 1023 (omega (arith, L.few)) (omega arith);
          }
        where
          by : (i j : ℕ) → i < j → get_or keys j 0 < 18446744073709551615 → (ltb j n ≡ true) ⊎ (ltb j n ≡ false) → j < 1024 → get_or keys i 0 < get_or keys j 0
          by i j l less (inl t) h =
              let below = ltb-true j n t in
              let rise = O.rising (first + i) (first + j) (omega arith) (omega (arith, L.inside)) in
              omega (arith, L.are i (omega arith), L.are j below, rises_key (At (first + i)) (At (first + j)) (fits-at (inside i (omega arith))) (fits-at (inside j below)) rise)
          by i j l less (inr t) h = absurd (omega (arith, L.rest j (ltb-false j n t) h))

      -- by the kinds of the first line and of the last before e; from there on there are totals alone
      pub laid_spanned
          : {least most e : ℕ} → least ≡ (At first).kind → most ≡ (At (e - 1)).kind → (first < e) × ((j : ℕ) → e ≤ j → j < first + n → 3 ≤ (At j).kind)
          → e ≤ first + n → Spanned keys least most
      laid_spanned {least} {most} {e} a z ends l =
          record {
            from = λ j h. from j h (true_or_false (ltb j n));
            to = λ j h less. to j h less (true_or_false (ltb j n));
          }
        where
          from : (j : ℕ) → j < 1024 → (ltb j n ≡ true) ⊎ (ltb j n ≡ false) → least * 4294967296 ≤ get_or keys j 0
          from j h (inl t) =
              omega (arith, a, L.are j (ltb-true j n t), kind_le (map line_of rows) O first (first + j) (omega arith) (omega (arith, L.inside, ltb-true j n t)))
          from j h (inr t) = omega (arith, a, L.rest j (ltb-false j n t) h, O.known first (omega (arith, L.inside, ends.0)))

          line : (j : ℕ) → j < n → get_or keys j 0 < 3 * 4294967296 → (ltb (first + j) e ≡ true) ⊎ (ltb (first + j) e ≡ false) → get_or keys j 0 < (most + 1) * 4294967296
          line j below less (inl t) =
              omega (
                arith,
                z,
                L.are j below,
                rank_few (At (first + j)).id (fits-at (inside j below)),
                kind_le (map line_of rows) O (first + j) (e - 1) (omega (arith, ltb-true (first + j) e t)) (omega (arith, L.inside, ends.0)),
              )
          line j below less (inr t) = absurd (omega (arith, L.are j below, ends.1 (first + j) (ltb-false (first + j) e t) (omega arith)))

          to : (j : ℕ) → j < 1024 → get_or keys j 0 < 3 * 4294967296 → (ltb j n ≡ true) ⊎ (ltb j n ≡ false) → get_or keys j 0 < (most + 1) * 4294967296
          to j h less (inl t) = line j (ltb-true j n t) less (true_or_false (ltb (first + j) e))
          to j h less (inr t) = absurd (omega (arith, L.rest j (ltb-false j n t) h))

    -- a total that ends a block of more lines is left out
    pub laid_ends : 0 < n → {x last : ℕ} → last ≡ (At (first + n - 1)).kind → x ≡ cond (eqb last 3 && ltb 1 n) 1 0
        → (first < first + n - x) × ((j : ℕ) → first + n - x ≤ j → j < first + n → 3 ≤ (At j).kind)
    laid_ends some {x} {last} l p = rw p (by (eqb last 3 && ltb 1 n) refl)
      where
        by : (t : Bool) → eqb last 3 && ltb 1 n ≡ t → (first < first + n - cond t 1 0) × ((j : ℕ) → first + n - cond t 1 0 ≤ j → j < first + n → 3 ≤ (At j).kind)
        by true e = (
          omega (arith, ltb-true 1 n (and_right (eqb last 3) (ltb 1 n) e)),
          λ j a b. subst (λ (i : ℕ). 3 ≤ (At i).kind) (let q : first + n - 1 ≡ j = omega arith in q) (omega (arith, l, eqb-true last 3 (and_left (eqb last 3) (ltb 1 n) e))),
        )
        by false e = (omega arith, λ j a b. absurd (omega arith))

-- ---- finding

module _ {keys : List ℕ} (K : Keyed keys) {key : ℕ} (below : key < 18446744073709551615) where
  keyed_falls : Falls (key_below key) keys 0
  keyed_falls = record { before = λ i j l h e. by i j e h (eq-or-lt_of_le {n = i} {m = j} l) }
    where
      by : (i j : ℕ) → key_below key (get_or keys j 0) ≡ true → j < length keys → (i ≡ j) ⊎ (i < j) → key_below key (get_or keys i 0) ≡ true
      by i j e h (inl q) = subst (λ (x : ℕ). key_below key (get_or keys x 0) ≡ true) (sym q) e
      by i j e h (inr q) =
          let less = ltb-true (get_or keys j 0) key e in
          lt-ltb (get_or keys i 0) key (omega (arith, K.rising i j q (omega (arith, K.long)) (omega arith)))

  -- the last is not less
  last_not : key_below key (get_or keys 1023 0) ≡ false
  last_not = not-passed (ltb (get_or keys 1023 0) key) (λ e. omega (arith, ltb-true (get_or keys 1023 0) key e, K.last))

  pub bounds_start : Bounds keys key 0 (0 + 1024 - 1)
  bounds_start =
      record {
        within = omega arith;
        inside = omega (arith, K.long);
        below = λ i h. absurd (omega arith);
        above = λ i h m. subst (λ (x : ℕ). key_below key (get_or keys x 0) ≡ false) (let e : 1023 ≡ i = omega (arith, K.long) in e) last_not;
      }

  wider : {lo hi : ℕ} → Bounds keys key lo hi → (low high : ℕ) → low ≤ lo → hi ≤ high → high ≤ 1024 → Bounds keys key low high
  wider b low high l h i =
      record {
        within = omega (arith, b.within);
        inside = omega (arith, K.long);
        below = λ j k. b.below j (omega arith);
        above = λ j k m. b.above j (omega arith) m;
      }

  -- the end of the first half was tested
  module _ (lo left half : ℕ) (b : Bounds keys key lo (lo + left - 1)) (some : 0 < half) (two : 2 * half ≤ left) where
    halved_by : (t : Bool) → key_below key (get_or keys (lo + half - 1) 0) ≡ t → Bounds keys key (lo + cond t half 0) (lo + cond t half 0 + (left - half) - 1)
    halved_by true e =
        wider (between_up (key_below key) keys 0 keyed_falls b (lo + half - 1) (omega arith) (omega arith) e) _ _ (omega arith) (omega arith) (omega (arith, b.inside, K.long))
    halved_by false e =
        wider (between_down (key_below key) keys 0 keyed_falls b (lo + half - 1) (omega arith) (omega arith) e) _ _ (omega arith) (omega arith) (omega (arith, b.inside, K.long))

    pub bounds_halved : {x : ℕ} → x ≡ cond (key_below key (get_or keys (lo + half - 1) 0)) half 0 → Bounds keys key (lo + x) (lo + x + (left - half) - 1)
    bounds_halved e = rw e (halved_by (key_below key (get_or keys (lo + half - 1) 0)) refl)

  pub bounds_one : {lo left : ℕ} → Bounds keys key lo (lo + left - 1) → left ≤ 1 → Bounds keys key lo lo
  bounds_one b l = between_end (key_below key) keys 0 b (omega arith)

  pub bounds_inside : {lo : ℕ} → Bounds keys key lo lo → lo < 1024
  bounds_inside {lo} b = ⊎_elim (λ e. ltb-true lo 1024 e) (λ e. both_ways (b.below 1023 (omega (arith, ltb-false lo 1024 e))) last_not) (true_or_false (ltb lo 1024))

  -- ---- adding

  -- at the first key that is not less, where it is this one: all others are not
  pub added-by : (sums : List ℕ) (m : ℕ) {at x : ℕ} → Bounds keys key at at → at < 1024 → x ≡ cond (eqb (get_or keys at 0) key) m 0 → Added keys key m sums (set sums at (get_or sums at 0 + x))
  added-by sums m {at} {x} b inside e =
      record {
        long = λ l. length-set sums at (get_or sums at 0 + x) ∙ l;
        is = λ j l h. by j l h (true_or_false (eqb at j));
      }
    where
      apart : (j : ℕ) → j < 1024 → (at ≡ j → ⊥) → get_or keys j 0 ≡ key → ⊥
      apart j h n q = ⊎_elim (λ t. omega (arith, ltb-true (get_or keys j 0) key (b.below j (ltb-true j at t)), q)) (λ t. later (ltb-false j at t)) (true_or_false (ltb j at))
        where
          later : at ≤ j → ⊥
          later l = go (eq-or-lt_of_le {n = at} {m = j} l)
            where
              go : (at ≡ j) ⊎ (at < j) → ⊥
              go (inl s) = n s
              go (inr s) =
                  omega (arith, K.rising at j s h (omega (arith, q, below)), q, ltb-false (get_or keys at 0) key (b.above at (omega arith) (omega (arith, K.long))))

      by : (j : ℕ) → length sums ≡ 1024 → j < 1024 → (eqb at j ≡ true) ⊎ (eqb at j ≡ false)
          → get_or (set sums at (get_or sums at 0 + x)) j 0 ≡ get_or sums j 0 + cond (eqb (get_or keys j 0) key) m 0
      by j l h (inl t) =
          subst (λ (y : ℕ). get_or (set sums at (get_or sums at 0 + x)) y 0 ≡ get_or sums y 0 + cond (eqb (get_or keys y 0) key) m 0) (eqb-true at j t)
          (get_or-set_same sums at (get_or sums at 0 + x) 0 (omega (arith, l)) ∙ ap (λ (y : ℕ). get_or sums at 0 + y) e)
      by j l h (inr t) =
          get_or-set_other sums at j (get_or sums at 0 + x) 0 (λ s. eqb-false at j t (sym s)) ∙ sym (add-zero (get_or sums j 0))
          ∙ ap (λ (s : Bool). get_or sums j 0 + cond s m 0) (sym (ne_eqb (get_or keys j 0) key (apart j h (eqb-false at j t))))

-- no line has this key
pub added_none : {keys : List ℕ} {key : ℕ} (sums : List ℕ) (m : ℕ) → ((j : ℕ) → j < 1024 → eqb (get_or keys j 0) key ≡ false) → Added keys key m sums sums
added_none sums m n =
    record {
      long = λ l. l;
      is = λ j l h. sym (add-zero (get_or sums j 0)) ∙ ap (λ (s : Bool). get_or sums j 0 + cond s m 0) (sym (n j h));
    }

-- ---- the lines that count an object

-- what is added where one key is another
abbrev plus : ℕ → ℕ → ℕ → ℕ
plus m x key = cond (eqb x key) m 0

plus_few : (m x key : ℕ) → plus m x key ≤ m
plus_few m x key = by (eqb x key)
  where
    by : (s : Bool) → cond s m 0 ≤ m
    by true = omega arith
    by false = omega arith

pub added_small : {keys : List ℕ} {key m : ℕ} {sums after : List ℕ} → Added keys key m sums after → length sums ≡ 1024 → (j : ℕ) → j < 1024 → get_or after j 0 ≤ get_or sums j 0 + m
added_small {keys} {key} {m} A l j h = omega (arith, A.is j l h, plus_few m (get_or keys j 0) key)

hit : (m kind : ℕ) (a b : ℤ) → SFits w32 a → SFits w32 b → plus m (line_key kind a) (line_key kind b) ≡ cond (eq_z b a) m 0
hit m kind a b f h = ap (λ (s : Bool). cond s m 0) (key_same kind a b f h ∙ eq_z_sym a b)

miss : (m k l : ℕ) (a b : ℤ) → SFits w32 a → SFits w32 b → (k ≡ l → ⊥) → plus m (line_key k a) (line_key l b) ≡ 0
miss m k l a b f h n = ap (λ (s : Bool). cond s m 0) (key_apart k l a b f h n)

module _ (o : Item) (t : SFits w32 o.type_id) (g : SFits w32 o.group_id) (m : ℕ) where
  -- what is added to the line with key x for an object
  abbrev all : ℕ → ℕ
  all x = plus m x (line_key 0 o.type_id) + plus m x (line_key 1 o.group_id) + plus m x (line_key 2 o.group_id)

  -- a key is of one kind
  one : (x : ℕ) → all x ≤ m
  one x = by (eqb x (line_key 0 o.type_id)) (eqb x (line_key 1 o.group_id)) (eqb x (line_key 2 o.group_id)) refl refl refl
    where
      by : (p c n : Bool) → eqb x (line_key 0 o.type_id) ≡ p → eqb x (line_key 1 o.group_id) ≡ c → eqb x (line_key 2 o.group_id) ≡ n → cond p m 0 + cond c m 0 + cond n m 0 ≤ m
      by false false true e f h = omega arith
      by false false false e f h = omega arith
      by true false false e f h = omega arith
      by false true false e f h = omega arith
      by true true n e f h = absurd (omega (arith, eqb-true x (line_key 0 o.type_id) e, eqb-true x (line_key 1 o.group_id) f, rank_few o.type_id t))
      by true false true e f h = absurd (omega (arith, eqb-true x (line_key 0 o.type_id) e, eqb-true x (line_key 2 o.group_id) h, rank_few o.type_id t))
      by false true true e f h = absurd (omega (arith, eqb-true x (line_key 1 o.group_id) f, eqb-true x (line_key 2 o.group_id) h, rank_few o.group_id g))

  by_kind : (kind : ℕ) (a : ℤ) → kind ≤ 2 → SFits w32 a → all (line_key kind a) ≡ cond (eq_z (key_of kind o) a) m 0
  by_kind zero a l f = omega (arith, hit m 0 a o.type_id f t, miss m 0 1 a o.group_id f g (λ e. omega (arith, e)), miss m 0 2 a o.group_id f g (λ e. omega (arith, e)))
  by_kind (suc zero) a l f = omega (arith, miss m 1 0 a o.type_id f t (λ e. omega (arith, e)), hit m 1 a o.group_id f g, miss m 1 2 a o.group_id f g (λ e. omega (arith, e)))
  by_kind (suc (suc zero)) a l f = omega (arith, miss m 2 0 a o.type_id f t (λ e. omega (arith, e)), miss m 2 1 a o.group_id f g (λ e. omega (arith, e)), hit m 2 a o.group_id f g)
  by_kind (suc (suc (suc kind))) a l f = absurd (omega arith)

  module _ {keys s₀ s₁ s₂ s₃ : List ℕ} (A : Added keys (line_key 0 o.type_id) m s₀ s₁) (B : Added keys (line_key 1 o.group_id) m s₁ s₂) (C : Added keys (line_key 2 o.group_id) m s₂ s₃) where
    three : (j : ℕ) → length s₀ ≡ 1024 → j < 1024 → get_or s₃ j 0 ≡ get_or s₀ j 0 + all (get_or keys j 0)
    three j l h = omega (arith, A.is j l h, B.is j (A.long l) h, C.is j (B.long (A.long l)) h)

    counted-all : Counted keys o m s₀ s₃
    counted-all =
        record {
          long = λ l. C.long (B.long (A.long l));
          small = λ j l h. omega (arith, three j l h, one (get_or keys j 0));
          is = λ j kind a l h k f e. three j l h ∙ ap (λ (x : ℕ). get_or s₀ j 0 + x) (ap all e ∙ by_kind kind a k f);
        }

  -- by the keys as they were worked out
  pub counted-by : {keys s₀ s₁ s₂ s₃ : List ℕ} {p c n : ℕ} → p ≡ line_key 0 o.type_id → c ≡ line_key 1 o.group_id → n ≡ line_key 2 o.group_id
      → Added keys p m s₀ s₁ → Added keys c m s₁ s₂ → Added keys n m s₂ s₃ → Counted keys o m s₀ s₃
  counted-by {keys} {s₀} {s₁} {s₂} {s₃} e f h A B C =
      counted-all (subst (λ (x : ℕ). Added keys x m s₀ s₁) e A) (subst (λ (x : ℕ). Added keys x m s₁ s₂) f B) (subst (λ (x : ℕ). Added keys x m s₂ s₃) h C)

-- no line is of a kind outside the span: prices, caps, forbidden groups
module _ {keys : List ℕ} {least most : ℕ} (S : Spanned keys least most) (a : ℤ) (f : SFits w32 a) {key : ℕ} where
  before : (kind : ℕ) → key ≡ line_key kind a → kind < least → (j : ℕ) → j < 1024 → eqb (get_or keys j 0) key ≡ false
  before kind q l j h = ne_eqb (get_or keys j 0) key (λ e. omega (arith, e, q, S.from j h, rank_few a f))

  behind : (kind : ℕ) → key ≡ line_key kind a → kind ≤ 2 → most < kind → (j : ℕ) → j < 1024 → eqb (get_or keys j 0) key ≡ false
  behind kind q k l j h = ne_eqb (get_or keys j 0) key (λ e. omega (arith, e, q, S.to j h (omega (arith, e, q, rank_few a f))))

  pub no_price : key ≡ line_key 0 a → leb least 0 ≡ false → (j : ℕ) → j < 1024 → eqb (get_or keys j 0) key ≡ false
  no_price q e = before 0 q (leb-false least 0 e)

  pub no_cap : key ≡ line_key 1 a → leb least 1 && leb 1 most ≡ false → (j : ℕ) → j < 1024 → eqb (get_or keys j 0) key ≡ false
  no_cap q e = by (true_or_false (leb least 1))
    where
      by : (leb least 1 ≡ true) ⊎ (leb least 1 ≡ false) → (j : ℕ) → j < 1024 → eqb (get_or keys j 0) key ≡ false
      by (inl t) = behind 1 q (omega arith) (leb-false 1 most (sym (ap (λ (s : Bool). s && leb 1 most) t) ∙ e))
      by (inr t) = before 1 q (leb-false least 1 t)

  pub no_forbidden : key ≡ line_key 2 a → leb 2 most ≡ false → (j : ℕ) → j < 1024 → eqb (get_or keys j 0) key ≡ false
  no_forbidden q e = behind 2 q (omega arith) (leb-false 2 most e)

  pub key_below_lem : (kind : ℕ) → key ≡ line_key kind a → kind ≤ 3 → key < 18446744073709551615
  key_below_lem kind q l = omega (arith, q, rank_few a f)

-- ---- summing

module _ (k : Book) (f : Fit) (keys : List ℕ) where
  -- whether a line of this kind and id counts an object
  abbrev own : ℕ → ℤ → Item → Bool
  own kind a o = counts k o && eq_z (key_of kind o) a

  summed_none : Summed k f keys 0 (replicate 1024 0)
  summed_none =
      record {
        long = length-replicate {A = ℕ} 1024 0;
        small = λ j h. omega (arith, get_or-replicate {A = ℕ} 1024 j 0 0 h);
        all = omega arith;
        is = λ j kind a h l g e. get_or-replicate {A = ℕ} 1024 j 0 0 h;
      }

  pub summed_start : {sums : List ℕ} → sums ≡ replicate 1024 0 → Summed k f keys 0 sums
  summed_start e = subst (Summed k f keys 0) (sym e) summed_none

  module _ {i : ℕ} {sums : List ℕ} (S : Summed k f keys i sums) (h : i < length f.objects) {o : Item} (e : o ≡ object f i) {w : ℕ} (v : w ≡ cond (counts k o) o.quantity 0) (few : w ≤ 4294967295) where
    next : (p : Item → Bool) → total (λ o. o.quantity) (keep p (take (i + 1) f.objects)) ≡ total (λ o. o.quantity) (keep p (take i f.objects)) + cond (p o) o.quantity 0
    next p =
        total-next (λ o. o.quantity) p f.objects i no_item h
        ∙ ap (λ (x : Item). total (λ o. o.quantity) (keep p (take i f.objects)) + cond (p x) x.quantity 0) (sym e)

    all_few : total (λ o. o.quantity) (keep (counts k) (take (i + 1) f.objects)) ≤ 4294967295 * (i + 1)
    all_few = omega (arith, next (counts k), v, few, S.all)

    both : (s b : Bool) (q : ℕ) → cond (s && b) q 0 ≡ cond b (cond s q 0) 0
    both true true q = refl
    both true false q = refl
    both false true q = refl
    both false false q = refl

    own_next : (kind : ℕ) (a : ℤ) → total (λ o. o.quantity) (keep (own kind a) (take (i + 1) f.objects)) ≡ total (λ o. o.quantity) (keep (own kind a) (take i f.objects)) + cond (eq_z (key_of kind o) a) w 0
    own_next kind a =
        next (own kind a)
        ∙ ap (λ (n : ℕ). total (λ o. o.quantity) (keep (own kind a) (take i f.objects)) + n) (both (counts k o) (eq_z (key_of kind o) a) o.quantity ∙ ap (λ (n : ℕ). cond (eq_z (key_of kind o) a) n 0) (sym v))

    none : (s : Bool) → w ≤ 0 → cond s w 0 ≡ 0
    none true z = omega arith
    none false z = refl

    -- one without pieces
    pub summed_skip : w ≤ 0 → Summed k f keys (i + 1) sums
    summed_skip z =
        record {
          long = S.long;
          small = λ j l. omega (arith, S.small j l);
          all = all_few;
          is = λ j kind a l m g q. S.is j kind a l m g q ∙ sym (own_next kind a
              ∙ ap (λ (n : ℕ). total (λ o. o.quantity) (keep (own kind a) (take i f.objects)) + n) (none (eq_z (key_of kind o) a) z)
              ∙ add-zero (total (λ o. o.quantity) (keep (own kind a) (take i f.objects))));
        }

    pub summed_more : {after : List ℕ} → Counted keys o w sums after → Summed k f keys (i + 1) after
    summed_more {after} C =
        record {
          long = C.long S.long;
          small = λ j l. omega (arith, S.small j l, C.small j S.long l, few);
          all = all_few;
          is = λ j kind a l m g q. C.is j kind a S.long l m g q ∙ ap (λ (n : ℕ). n + cond (eq_z (key_of kind o) a) w 0) (S.is j kind a l m g q) ∙ sym (own_next kind a);
        }

-- ---- the sums of a block

pub told-by : (k : Book) (f : Fit) (rows : List (List ℕ)) {first n : ℕ} {keys : List ℕ} → Laid (map line_of rows) first n keys → 0 < n → Ordered (map line_of rows)
    → {m : ℕ} {sums : List ℕ} → length f.objects ≡ m → m ≤ 1024 → Summed k f keys m sums → Told (map line_of rows) (counted k f) first n sums
told-by k f rows {first} {n} {keys} L some O {m} {sums} l few S =
    record {
      some = some;
      few = L.few;
      inside = L.inside;
      long = S.long;
      small = λ j h. omega (arith, S.small j h);
      all = λ j h q. omega (arith, S.all, whole (counts k));
      told = λ j h q. S.is j (Of j).kind (Of j).id (omega (arith, L.few)) (counting j h q) (fits-at rows (inside rows L j h)) (L.are j h) ∙ whole (own k f keys (Of j).kind (Of j).id)
          ∙ ap (total (λ o. o.quantity)) (sym (keep-keep (λ o. eq_z (key_of (Of j).kind o) (Of j).id) (counts k) f.objects));
    }
  where
    Of : ℕ → Line
    Of j = get_or (map line_of rows) (first + j) (line_of [])

    counting : (j : ℕ) → j < n → eqb (Of j).kind 3 ≡ false → (Of j).kind ≤ 2
    counting j h q = by (eq-or-lt_of_le {n = (Of j).kind} {m = 3} (O.known (first + j) (omega (arith, L.inside))))
      where
        by : ((Of j).kind ≡ 3) ⊎ ((Of j).kind < 3) → (Of j).kind ≤ 2
        by (inl e) = absurd (eqb-false (Of j).kind 3 q e)
        by (inr e) = omega arith

    whole : (p : Item → Bool) → total (λ o. o.quantity) (keep p (take m f.objects)) ≡ total (λ o. o.quantity) (keep p f.objects)
    whole p = ap (λ (xs : List Item). total (λ o. o.quantity) (keep p xs)) (take_all m f.objects (omega (arith, l)))
