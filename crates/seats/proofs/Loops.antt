-- A loop over a list: what is left decides.
use Prim.Native.Nat.{ℕ, ◌+◌, ◌-◌, ◌*◌, ◌≤◌, ◌<◌}
use native.Mathlib.Omega.{arith}
use native.Mathlib.Nat.{zero-add}
use mathlib.Core.Path.{◌≡◌, refl, sym, ap, ◌∙◌}
use mathlib.Core.Bool.{Bool, true, false, ◌&&◌, ◌||◌, not}
use mathlib.Core.List.{List, [], ◌∷◌}
use lib.Dec.{leb, ltb, eqb}
use lib.ListN.{length, take, drop, get_or, length-drop}
use lib.Seq.{length-take-le, get_or-take, take_all}
use borrow.Author.Tests.{leb-true, leb-false, ltb-true, ltb-false, eqb-true, eqb-false, le-ltb, lt-ltb}
use Rattle.std.specs.List.{list_all}
use Rattle.laws.specs.Lists.{every?, some?}
use Rattle.laws.proofs.Bools.{and_true_right}
use Rattle.laws.proofs.Scans.{drop-step, drop_end}
use Rattle.free_table.specs.declared.Stretch.{Stretch}
use Rattle.free_table.specs.Table.{empty}
use Rattle.seats.specs.Tiling.{end_of, inside, lengths}
use Rattle.seats.specs.Tests.{clear_from, clear_of}
use Rattle.seats.specs.Seats.{apart}
use Rattle.seats.specs.Plan.{touches_at}
use Rattle.seats.proofs.Apart.{above}

module _ {A B : Type 0} (g : List A → B) (xs : List A) where
  pub record Left (a i : ℕ) : Type 0 where
    pub low : a ≤ i
    pub left : g (drop a xs) ≡ g (drop i xs)

  pub left_none : (a : ℕ) → Left a a
  left_none a = record { low = omega arith; left = refl }

module _ {A B : Type 0} {g : List A → B} {xs : List A} {a i : ℕ} (l : Left g xs a i) where
  pub left_now : (d : A) → i < length xs → g (drop a xs) ≡ g (get_or xs i d ∷ drop (i + 1) xs)
  left_now d h = l.left ∙ ap g (drop-step xs i d h)

  pub left_next : (d : A) → i < length xs → g (get_or xs i d ∷ drop (i + 1) xs) ≡ g (drop (i + 1) xs) → Left g xs a (i + 1)
  left_next d h e = record { low = omega (arith, l.low); left = left_now d h ∙ e }

  pub left_end : length xs ≤ i → g (drop a xs) ≡ g []
  left_end h = l.left ∙ ap g (drop_end xs i h)

-- every one passes
module _ {A : Type 0} (f : A → Bool) {xs : List A} {a i : ℕ} (l : Left (every? f) xs a i) (d : A) (h : i < length xs) where
  pub every_pass : f (get_or xs i d) ≡ true → Left (every? f) xs a (i + 1)
  every_pass e = left_next l d h (ap (λ (b : Bool). b && every? f (drop (i + 1) xs)) e)

  pub every_fail : f (get_or xs i d) ≡ false → false ≡ every? f (drop a xs)
  every_fail e = sym (left_now l d h ∙ ap (λ (b : Bool). b && every? f (drop (i + 1) xs)) e)

pub every_end : {A : Type 0} (f : A → Bool) {xs : List A} {a i : ℕ} → Left (every? f) xs a i → length xs ≤ i → true ≡ every? f (drop a xs)
every_end f l h = sym (left_end l h)

-- a test of each that agrees with another
pub all_every : {A : Type 0} (f g : A → Bool) → ((x : A) → f x ≡ g x) → (xs : List A) → list_all f xs ≡ every? g xs
all_every f g e [] = refl
all_every f g e (x ∷ xs) = rw (e x, all_every f g e xs) refl

-- what stands from place k on, of n elements
pub whole_rest : {A : Type 0} (xs : List A) (k n : ℕ) → length xs ≡ n → take (n - k) (drop k xs) ≡ drop k xs
whole_rest xs k n e = take_all (n - k) (drop k xs) (let z = length-drop k xs in omega (arith, z, e))

-- ---- inside the pool

pub inside-leaves : (n : ℕ) (s : Stretch) → inside n s ≡ not (ltb 0 s.length && ltb n (end_of s))
inside-leaves n s = by (eqb s.length 0) (leb (end_of s) n) refl refl
  where
    by : (t u : Bool) → eqb s.length 0 ≡ t → leb (end_of s) n ≡ u → inside n s ≡ not (ltb 0 s.length && ltb n (end_of s))
    by true u e f = rw (e, le-ltb 0 s.length (let z = eqb-true s.length 0 e in omega (arith, z))) refl
    by false true e f = rw (e, f, lt-ltb 0 s.length (let z = eqb-false s.length 0 e in omega (arith, z)), le-ltb n (end_of s) (leb-true (end_of s) n f)) refl
    by false false e f = rw (e, f, lt-ltb 0 s.length (let z = eqb-false s.length 0 e in omega (arith, z)), lt-ltb n (end_of s) (leb-false (end_of s) n f)) refl

-- ---- clear of the later ones

module _ {xs : List Stretch} {i : ℕ} (l : Left clear_of xs 0 i) (h : i < length xs) {r : Bool} (e : r ≡ clear_from (get_or xs i empty) (drop (i + 1) xs)) where
  turn : (t : Bool) → r ≡ t → clear_of (get_or xs i empty ∷ drop (i + 1) xs) ≡ t && clear_of (drop (i + 1) xs)
  turn t f = ap (λ (b : Bool). b && clear_of (drop (i + 1) xs)) (sym e ∙ f)

  pub clear_next : r ≡ true → Left clear_of xs 0 (i + 1)
  clear_next f = left_next l empty h (turn true f)

  pub clear_stop : r ≡ false → false ≡ clear_of xs
  clear_stop f = sym (left_now l empty h ∙ turn false f)

-- ---- in order

apart_by : (x : Stretch) (r : List Stretch) → apart (x ∷ r) ≡ (ltb 0 x.length && above (end_of x) r) && apart r
apart_by x [] = sym (and_true_right (ltb 0 x.length && true) ∙ and_true_right (ltb 0 x.length))
apart_by x (y ∷ r) = refl

module _ (t : List Stretch) (n : ℕ) (few : n ≤ length t) where
  taken_long : length (take n t) ≡ n
  taken_long = length-take-le n t few

  above_next : (e i : ℕ) → above e (drop (i + 1) (take n t)) ≡ not (ltb (i + 1) n && leb (get_or t (i + 1) empty).start e)
  above_next e i = by (ltb (i + 1) n) refl
    where
      flip : (y : ℕ) → ltb e y ≡ not (leb y e)
      flip y = which (leb y e) refl
        where
          which : (b : Bool) → leb y e ≡ b → ltb e y ≡ not b
          which true f = le-ltb e y (leb-true y e f)
          which false f = lt-ltb e y (leb-false y e f)

      by : (b : Bool) → ltb (i + 1) n ≡ b → above e (drop (i + 1) (take n t)) ≡ not (b && leb (get_or t (i + 1) empty).start e)
      by true f =
          let k = ltb-true (i + 1) n f in
          ap (above e) (drop-step (take n t) (i + 1) empty (let z = taken_long in omega (arith, z, k)))
          ∙ ap (λ (s : Stretch). ltb e s.start) (get_or-take n t (i + 1) empty k) ∙ flip (get_or t (i + 1) empty).start
      by false f = ap (above e) (drop_end (take n t) (i + 1) (let z = taken_long in let k = ltb-false (i + 1) n f in omega (arith, z, k)))

  module _ (i : ℕ) (h : i < n) (l : Left apart (take n t) 0 i) {r : Bool} (e : r ≡ touches_at t n i) where
    whole : apart (take n t) ≡ (ltb 0 (get_or t i empty).length && not r) && apart (drop (i + 1) (take n t))
    whole =
        left_now l empty (let z = taken_long in omega (arith, z, h))
        ∙ ap (λ (s : Stretch). apart (s ∷ drop (i + 1) (take n t))) (get_or-take n t i empty h)
        ∙ apart_by (get_or t i empty) (drop (i + 1) (take n t))
        ∙ ap (λ (b : Bool). (ltb 0 (get_or t i empty).length && b) && apart (drop (i + 1) (take n t))) (above_next (end_of (get_or t i empty)) i ∙ ap not (sym e))

    or_none : (a b : Bool) → a || b ≡ false → (a ≡ false) × (b ≡ false)
    or_none false false f = (refl, refl)
    or_none false true f = absurd (let z : ◌≡◌ {A = ℕ} 0 1 = cc in omega arith)
    or_none true b f = absurd (let z : ◌≡◌ {A = ℕ} 0 1 = cc in omega arith)

    pub ordered_next : eqb (get_or t i empty).length 0 || r ≡ false → Left apart (take n t) 0 (i + 1)
    ordered_next f =
        let g = or_none (eqb (get_or t i empty).length 0) r f in
        let z = eqb-false (get_or t i empty).length 0 g.0 in
        record {
          low = omega arith;
          left = whole ∙ ap (λ (b : Bool). (b && not r) && apart (drop (i + 1) (take n t))) (lt-ltb 0 (get_or t i empty).length (omega (arith, z)))
              ∙ ap (λ (b : Bool). not b && apart (drop (i + 1) (take n t))) g.1;
        }

    pub ordered_stop : eqb (get_or t i empty).length 0 || r ≡ true → false ≡ apart (take n t)
    ordered_stop f = by (eqb (get_or t i empty).length 0) refl f
      where
        and_none : (a b : Bool) → b ≡ false → false ≡ (a && b) && apart (drop (i + 1) (take n t))
        and_none true b k = sym (ap (λ (z : Bool). z && apart (drop (i + 1) (take n t))) k)
        and_none false b k = refl

        by : (b : Bool) → eqb (get_or t i empty).length 0 ≡ b → b || r ≡ true → false ≡ apart (take n t)
        by true k m =
            sym (whole ∙ ap (λ (b : Bool). (b && not r) && apart (drop (i + 1) (take n t))) (le-ltb 0 (get_or t i empty).length (let z = eqb-true (get_or t i empty).length 0 k in omega (arith, z))))
        by false k m = and_none (ltb 0 (get_or t i empty).length) (not r) (ap not m) ∙ sym whole

  pub ordered_end : (i : ℕ) → n ≤ i → Left apart (take n t) 0 i → true ≡ apart (take n t)
  ordered_end i h l = sym (left_end l (let z = taken_long in omega (arith, z, h)))

module _ (t : List Stretch) (n i : ℕ) where
  pub touching : {r e : ℕ} → r ≡ (get_or t (i + 1) empty).start → e ≡ end_of (get_or t i empty) → i + 1 < n → leb r e ≡ touches_at t n i
  touching f g h = rw (f, g) (sym (ap (λ (b : Bool). b && leb (get_or t (i + 1) empty).start (end_of (get_or t i empty))) (lt-ltb (i + 1) n h)))

  pub last_one : n ≤ i + 1 → false ≡ touches_at t n i
  last_one h = sym (ap (λ (b : Bool). b && leb (get_or t (i + 1) empty).start (end_of (get_or t i empty))) (le-ltb (i + 1) n h))

-- ---- rows added up

pub record Summing (xs : List Stretch) (sum i : ℕ) : Type 0 where
  pub left : sum + lengths (drop i xs) ≡ lengths xs
  pub most : sum ≤ i * 4294967295

pub summing_none : (xs : List Stretch) → Summing xs 0 0
summing_none xs = record { left = zero-add (lengths xs); most = omega arith }

pub summing_next : {xs : List Stretch} {sum i : ℕ} → Summing xs sum i → i < length xs → (get_or xs i empty).length < 4294967296 → Summing xs (sum + (get_or xs i empty).length) (i + 1)
summing_next {xs} {sum} {i} s h m =
    record {
      left = (let e = ap lengths (drop-step xs i empty h) in let z = s.left in omega (arith, e, z));
      most = (let z = s.most in omega (arith, z, m));
    }

pub summing_end : {xs : List Stretch} {sum i : ℕ} → Summing xs sum i → length xs ≤ i → sum ≡ lengths xs
summing_end {xs} {sum} {i} s h = let e = ap lengths (drop_end xs i h) in let z = s.left in omega (arith, e, z)

-- ---- all but the sum is a test of the list

pub none_differs : (f : ℕ → Bool) (xs : List ℕ) → not (some? (λ p. not (f p)) xs) ≡ every? f xs
none_differs f [] = refl
none_differs f (x ∷ xs) = by (f x) (none_differs f xs)
  where
    by : (b : Bool) → not (some? (λ p. not (f p)) xs) ≡ every? f xs → not (not b || some? (λ p. not (f p)) xs) ≡ b && every? f xs
    by true e = e
    by false e = refl
