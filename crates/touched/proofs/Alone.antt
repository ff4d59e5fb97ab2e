-- A sound fit has one ship and one char: so an ItemModifier whose target is the ship names the ship, and one whose target is the char the char.
use Prim.Native.Nat.{ℕ, zero, suc, ◌≤◌, ◌<◌}
use native.Mathlib.Omega.{arith}
use mathlib.Core.Path.{◌≡◌, refl, sym, ap, ◌∙◌}
use mathlib.Core.Bool.{Bool, true, false, ◌&&◌}
use mathlib.Core.List.{List, [], ◌∷◌, map}
use borrow.Author.Tests.{eqb-true, eq-eqb, ne_eqb, lt-leb}
use lib.Dec.{eqb}
use lib.ListN.{length, get_or, get_or-map}
use Rattle.laws.specs.Lists.{every?}
use Rattle.laws.proofs.Bools.{both_ways, same_test, not-passed, and_left, and_right}
use Rattle.rules.specs.Sheet.{Book, Fit}
use Rattle.rules.specs.Shape.{follows, stand_after, stand, object_good, objects_good}
use Rattle.rules.specs.Item.{object, no_item, is_ship, is_char}
use Rattle.rules.specs.declared.Item.{Item}
use Rattle.rules.specs.declared.Modifier.TheVariants.{ItemModifier}
use Rattle.rules.specs.declared.Pass2Effect.{Pass2Effect}
use Rattle.promises.specs.NoMemory.{Sound}
use Rattle.touched.specs.Named.{named}
use Rattle.touched.proofs.Facts.{any_item}

-- the kind at a place; past the last there is none
abbrev kind_at : List ℕ → ℕ → ℕ
kind_at l i = get_or l i 7

-- no ship stands after another object
after_any : (a k : ℕ) → follows a k ≡ true → k ≡ 0 → ⊥
unfolding follows
after_any a k h e = both_ways h (ap (follows a) e)

-- what stands after the char, or after what stands there, is none of ship, mode and char
module _ (a : ℕ) (past : 2 ≤ a) where
  no_mode : follows a 1 ≡ false
  unfolding follows
  no_mode = rw (ne_eqb a 0 (λ e. absurd (omega (arith, e, past)))) refl

  no_char : follows a 2 ≡ false
  unfolding follows
  no_char = rw (lt-leb a 1 past) refl

  further : (k : ℕ) → follows a k ≡ true → 3 ≤ k
  further zero h = absurd (after_any a 0 h refl)
  further (suc zero) h = both_ways h no_mode
  further (suc (suc zero)) h = both_ways h no_char
  further (suc (suc (suc k))) h = omega arith

none_after : (a : ℕ) (l : List ℕ) → 2 ≤ a → stand_after a l ≡ true → (i : ℕ) → kind_at l i ≡ 2 → ⊥
unfolding stand_after
none_after a [] p h i e = absurd (omega (arith, e))
none_after a (k ∷ l) p h zero e = absurd (omega (arith, e, further a p k (and_left (follows a k) (stand_after k l) h)))
none_after a (k ∷ l) p h (suc i) e =
    let on = further a p k (and_left (follows a k) (stand_after k l) h) in
    none_after k l (omega (arith, on)) (and_right (follows a k) (stand_after k l) h) i e

no_ship_after : (a : ℕ) (l : List ℕ) → stand_after a l ≡ true → (i : ℕ) → kind_at l i ≡ 0 → ⊥
unfolding stand_after
no_ship_after a [] h i e = absurd (omega (arith, e))
no_ship_after a (k ∷ l) h zero e = after_any a k (and_left (follows a k) (stand_after k l) h) e
no_ship_after a (k ∷ l) h (suc i) e = no_ship_after k l (and_right (follows a k) (stand_after k l) h) i e

-- two ships are one, and so are two chars
ships_same : (l : List ℕ) → stand l ≡ true → (i j : ℕ) → kind_at l i ≡ 0 → kind_at l j ≡ 0 → i ≡ j
unfolding stand
ships_same [] h i j p q = absurd (omega (arith, p))
ships_same (k ∷ l) h zero zero p q = refl
ships_same (k ∷ l) h zero (suc j) p q = absurd (no_ship_after k l (and_right (eqb k 0) (stand_after k l) h) j q)
ships_same (k ∷ l) h (suc i) j p q = absurd (no_ship_after k l (and_right (eqb k 0) (stand_after k l) h) i p)

chars_after : (a : ℕ) (l : List ℕ) → stand_after a l ≡ true → (i j : ℕ) → kind_at l i ≡ 2 → kind_at l j ≡ 2 → i ≡ j
unfolding stand_after
chars_after a [] h i j p q = absurd (omega (arith, p))
chars_after a (k ∷ l) h zero zero p q = refl
chars_after a (k ∷ l) h zero (suc j) p q = absurd (none_after k l (omega (arith, p)) (and_right (follows a k) (stand_after k l) h) j q)
chars_after a (k ∷ l) h (suc i) zero p q = absurd (none_after k l (omega (arith, q)) (and_right (follows a k) (stand_after k l) h) i p)
chars_after a (k ∷ l) h (suc i) (suc j) p q = ap suc (chars_after k l (and_right (follows a k) (stand_after k l) h) i j p q)

chars_same : (l : List ℕ) → stand l ≡ true → (i j : ℕ) → kind_at l i ≡ 2 → kind_at l j ≡ 2 → i ≡ j
unfolding stand
chars_same [] h i j p q = absurd (omega (arith, p))
chars_same (k ∷ l) h zero zero p q = refl
chars_same (k ∷ l) h zero (suc j) p q = absurd (omega (arith, p, eqb-true k 0 (and_left (eqb k 0) (stand_after k l) h)))
chars_same (k ∷ l) h (suc i) zero p q = absurd (omega (arith, q, eqb-true k 0 (and_left (eqb k 0) (stand_after k l) h)))
chars_same (k ∷ l) h (suc i) (suc j) p q = ap suc (chars_after k l (and_right (eqb k 0) (stand_after k l) h) i j p q)

module _ (f : Fit) (s : Sound f) where
  abbrev kinds : List ℕ
  kinds = map (λ o. o.kind) f.objects

  in_order : stand kinds ≡ true
  unfolding objects_good
  in_order = and_left (stand kinds) (every? (object_good f) f.objects) s.objects

  kind_is : (i n : ℕ) → eqb (object f i).kind n ≡ true → kind_at kinds i ≡ n
  kind_is i n h = get_or-map (λ o. o.kind) f.objects i no_item ∙ eqb-true (object f i).kind n h

  one_ship : (i j : ℕ) → is_ship (object f i) ≡ true → is_ship (object f j) ≡ true → i ≡ j
  one_ship i j p q = ships_same kinds in_order i j (kind_is i 0 p) (kind_is j 0 q)

  one_char : (i j : ℕ) → is_char (object f i) ≡ true → is_char (object f j) ≡ true → i ≡ j
  one_char i j p q = chars_same kinds in_order i j (kind_is i 2 p) (kind_is j 2 q)

module _ (k : Book) (f : Fit) (s : Sound f) (t : Pass2Effect) (i : ℕ) (h : i < length f.objects) where
  target_alone : (p : Item → Bool) → ((x y : ℕ) → p (object f x) ≡ true → p (object f y) ≡ true → x ≡ y) → p (object f t.target) ≡ true → eqb (object f i).number t.target ≡ p (object f i)
  target_alone p one e =
      same_test (eqb (object f i).number t.target) (p (object f i))
      (λ q. ap (λ (n : ℕ). p (object f n)) (sym (s.numbered i h) ∙ eqb-true (object f i).number t.target q) ∙ e)
      (λ q. eq-eqb (object f i).number t.target (s.numbered i h ∙ one i t.target q e))

  -- ItemModifier on the ship: the ship; on the char: the char
  pub ship_item : t.modifier ≡ ItemModifier → is_ship (object f t.target) ≡ true → named k f t (object f i) ≡ is_ship (object f i)
  ship_item m e = any_item k f t (object f i) m ∙ target_alone is_ship (one_ship f s) e

  pub char_item : t.modifier ≡ ItemModifier → is_char (object f t.target) ≡ true → named k f t (object f i) ≡ is_char (object f i)
  char_item m e = any_item k f t (object f i) m ∙ target_alone is_char (one_char f s) e
