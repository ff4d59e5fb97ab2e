-- A list's test as one scan from front to back, with a state: what is left decides.
use Prim.Native.Nat.{ℕ, zero, suc, ◌+◌, ◌≤◌, ◌<◌}
use native.Mathlib.Numerals.{add-one}
use native.Mathlib.Omega.{arith}
use mathlib.Core.Path.{◌≡◌, refl, sym, ap, ◌∙◌}
use mathlib.Core.Bool.{Bool, true, false, ◌&&◌, ◌||◌}
use mathlib.Core.List.{List, [], ◌∷◌, map}
use lib.ListN.{length, drop, get_or}
use lib.Seq.{drop-cons, drop-length}
use lib.Dec.{eqb, ltb, leb}
use lib.IntN.{ℤ}
use lib.Signed.{lt_z, le_z}
use borrow.Author.Tests.{ne_eqb, lt-ltb}
use Rattle.laws.specs.Lists.{every?, ascends, not_descending}
use Rattle.laws.proofs.Bools.{and_true_right, or_none_right}
use Rattle.rules.specs.Shape.{follows, stand_after, stand}
use Rattle.info.specs.Sound.{Nth}

module _ {A K : Type 0} (test : ℕ → K → A → Bool) (next : K → A → K) (done : K → Bool) where
  -- the elements from place i on, in state s: each is tested, and the last state
  unfoldable pub scan : ℕ → K → List A → Bool
  scan i s [] = done s
  scan i s (x ∷ l) = test i s x && scan (suc i) (next s x) l

  -- of the n elements of l those before place i passed, and left the state s
  pub record Scan (whole : Bool) (l : List A) (n i : ℕ) (s : K) : Type 0 where
    pub long : length l ≡ n
    pub within : i ≤ n
    pub left : whole ≡ scan i s (drop i l)

module _ {A K : Type 0} {test : ℕ → K → A → Bool} {next : K → A → K} {done : K → Bool} {whole : Bool} {l : List A} {n : ℕ} where
  pub scan_all : {s : K} → length l ≡ n → whole ≡ scan test next done 0 s l → Scan test next done whole l n 0 s
  scan_all h e = record { long = h; within = omega arith; left = e }

  module _ {i : ℕ} {s : K} (at : Scan test next done whole l n i s) where
    pub scan_done : n ≤ i → done s ≡ whole
    unfolding scan
    scan_done h = sym (rw (past, drop-length) at at.left)
      where
        past : i ≡ length l
        past = omega (arith, at.within, at.long)

    module _ {x : A} {t : Bool} (h : i < n) (nth : Nth l i x) (e : t ≡ test i s x) where
      turn : whole ≡ t && scan test next done (i + 1) (next s x) (drop (i + 1) l)
      unfolding scan
      turn = at.left ∙ rw (drop-cons l i x (rw at.long h), ← (nth x), ← e, add-one) refl

      pub scan_next : {s' : K} → t ≡ true → s' ≡ next s x → Scan test next done whole l n (i + 1) s'
      scan_next u v = record { long = at.long; within = omega arith; left = rw v (rw u at turn) }

      pub scan_failed : t ≡ false → false ≡ whole
      scan_failed u = sym (rw u at turn)

-- ---- tests together

-- a verdict r on a test t, as a branch on its denial leaves it
pub passed : {r t : Bool} → r ≡ t → r ≡ true → t ≡ true
passed e h = sym e ∙ h

pub failed : {r t : Bool} → r ≡ t → r ≡ false → t ≡ false
failed e h = sym e ∙ h

pub and_same : {s t s' t' : Bool} → s ≡ s' → t ≡ t' → s && t ≡ s' && t'
and_same p q = rw (p, q)

-- ---- a test of each element

module _ {A : Type 0} (p : A → Bool) where
  abbrev pub each : ℕ → Unit {0} → A → Bool
  each i s x = p x

  -- of the n elements of l those before place i pass
  abbrev pub Each : Bool → List A → ℕ → ℕ → Type 0
  Each whole l n i = Scan each (λ s x. tt) (λ s. true) whole l n i tt

  every_from : (i : ℕ) (l : List A) → every? p l ≡ scan each (λ s x. tt) (λ s. true) i tt l
  unfolding scan
  every_from i [] = refl
  every_from i (x ∷ l) = ap (λ (b : Bool). p x && b) (every_from (suc i) l)

  pub each_start : {l : List A} {n : ℕ} → length l ≡ n → Each (every? p l) l n 0
  each_start {l} h = scan_all h (every_from 0 l)

-- ---- a test of each element, and an order by a key

-- each stands in order r to the next
unfoldable pub chain : (ℤ → ℤ → Bool) → List ℤ → Bool
chain r [] = true
chain r (x ∷ []) = true
chain r (x ∷ y ∷ l) = r x y && chain r (y ∷ l)

pub ascends_chain : (l : List ℤ) → ascends l ≡ chain lt_z l
unfolding chain
ascends_chain [] = refl
ascends_chain (x ∷ []) = refl
ascends_chain (x ∷ y ∷ l) = ap (λ (b : Bool). lt_z x y && b) (ascends_chain (y ∷ l))

pub not_descending_chain : (l : List ℤ) → not_descending l ≡ chain le_z l
unfolding chain
not_descending_chain [] = refl
not_descending_chain (x ∷ []) = refl
not_descending_chain (x ∷ y ∷ l) = ap (λ (b : Bool). le_z x y && b) (not_descending_chain (y ∷ l))

crossed : (r c p e : Bool) → (r && c) && (p && e) ≡ (r && p) && (c && e)
crossed true c true e = refl
crossed true true false e = refl
crossed true false false e = refl
crossed false c p e = refl

not_first : (i : ℕ) → eqb (suc i) 0 ≡ false
not_first i = ne_eqb (suc i) 0 (λ e. absurd (omega arith))

-- the state is the key of the one before
abbrev pub key_of : {A K : Type 0} → (A → K) → K → A → K
key_of key last x = key x

module _ {A : Type 0} (r : ℤ → ℤ → Bool) (key : A → ℤ) (p : A → Bool) where
  -- the first has none before it
  abbrev pub in_order : ℕ → ℤ → A → Bool
  in_order i last x = (eqb i 0 || r last (key x)) && p x

  order_after : (i : ℕ) (last : ℤ) (l : List A) → chain r (last ∷ map key l) && every? p l ≡ scan in_order (key_of key) (λ s. true) (suc i) last l
  unfolding chain scan
  order_after i last [] = refl
  order_after i last (x ∷ l) =
      crossed (r last (key x)) (chain r (key x ∷ map key l)) (p x) (every? p l) ∙ rw (order_after (suc i) (key x) l, not_first i) refl

  chain_scan : (d : ℤ) (l : List A) → chain r (map key l) && every? p l ≡ scan in_order (key_of key) (λ s. true) 0 d l
  unfolding chain scan
  chain_scan d [] = refl
  chain_scan d (x ∷ l) = crossed true (chain r (key x ∷ map key l)) (p x) (every? p l) ∙ rw (order_after 0 (key x) l) refl

  -- the order alone
  pub keys_scan : {ordered : List ℤ → Bool} → ((k : List ℤ) → ordered k ≡ chain r k) → ((x : A) → p x ≡ true) → (d : ℤ) (l : List A)
      → ordered (map key l) ≡ scan in_order (key_of key) (λ s. true) 0 d l
  keys_scan same passes d l = same (map key l) ∙ sym (ap (λ (b : Bool). chain r (map key l) && b) (all_pass l) ∙ and_true_right (chain r (map key l))) ∙ chain_scan d l
    where
      all_pass : (m : List A) → every? p m ≡ true
      all_pass [] = refl
      all_pass (x ∷ m) = rw (passes x, all_pass m)

  pub order_scan : {ordered : List ℤ → Bool} → ((k : List ℤ) → ordered k ≡ chain r k) → (d : ℤ) (l : List A)
      → ordered (map key l) && every? p l ≡ scan in_order (key_of key) (λ s. true) 0 d l
  order_scan same d l = rw (same (map key l)) (chain_scan d l)

-- ---- a test of each element, and the order of kinds

-- neither ship nor mode is the last
abbrev pub char_past : ℕ → Bool
char_past last = leb 2 last

module _ {A : Type 0} (kind : A → ℕ) (p : A → Bool) where
  abbrev pub standing : ℕ → ℕ → A → Bool
  standing i last x = ((eqb i 0 && eqb (kind x) 0) || (ltb 0 i && follows last (kind x))) && p x

  stand-after : (i last : ℕ) (l : List A) → stand_after last (map kind l) && every? p l ≡ scan standing (key_of kind) char_past (suc i) last l
  unfolding stand_after scan
  stand-after i last [] = and_true_right (leb 2 last)
  stand-after i last (x ∷ l) =
      crossed (follows last (kind x)) (stand_after (kind x) (map kind l)) (p x) (every? p l)
      ∙ rw (stand-after (suc i) (kind x) l, not_first i, lt-ltb 0 (suc i) (omega arith)) refl

  pub stand_scan : (l : List A) → stand (map kind l) && every? p l ≡ scan standing (key_of kind) char_past 0 0 l
  unfolding stand scan
  stand_scan [] = refl
  stand_scan (x ∷ l) =
      crossed (eqb (kind x) 0) (stand_after (kind x) (map kind l)) (p x) (every? p l) ∙ rw (stand-after 0 (kind x) l, or_none_right (eqb (kind x) 0)) refl
