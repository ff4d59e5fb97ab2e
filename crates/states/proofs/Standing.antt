-- Laws of an object's states: the tests in the code's order, the number of an object, the rows of all.
use Prim.Native.Nat.{ℕ, ◌+◌, ◌-◌, ◌<◌, max, min}
use native.Mathlib.Omega.{arith}
use mathlib.Core.Path.{◌≡◌, refl, sym, ap, ◌∙◌}
use mathlib.Core.Bool.{Bool, true, false, ◌&&◌, ◌||◌, cond}
use mathlib.Core.List.{List, [], ◌∷◌, map}
use mathlib.Core.Option.{none, some}
use lib.ListN.{length, take, set, get_or, replicate, length-map, length-replicate}
use lib.Seq.{take-length, length-take-le}
use lib.Dec.{eqb}
use borrow.Author.Tests.{eqb-true}
use Rattle.laws.specs.Columns.{Col}
use Rattle.laws.proofs.Bools.{or_none_right}
use Rattle.laws.proofs.First.{some_first, none_first}
use Rattle.laws.proofs.Laid.{col_more, col_column}
use Rattle.laws.proofs.Maps.{map_next}
use Rattle.rules.specs.Bytes.{count_of}
use Rattle.rules.specs.Constants.{capacitor_need}
use Rattle.rules.specs.Sheet.{Book, Fit, bases_of, fit_of, object_from}
use Rattle.rules.specs.Info.{get_base}
use Rattle.rules.specs.Item.{is_projected, is_item, is_charge, is_on_char, is_subsystem, item_of, structure_fit, passed, no_item}
use Rattle.rules.specs.States.{collected_states, states_of}
use Rattle.rules.specs.declared.Item.{Item}
use Rattle.rules.specs.declared.BaseAttribute.{BaseAttribute}
use Rattle.rules.proofs.Tables.{table_at}
use Rattle.info.specs.Sound.{Nth}
use Rattle.info.proofs.Elements.{objects_length}
use Rattle.states.specs.Raised.{both, reached_of, able_of, ObjectOf, rows_of}

cond_or : {S : Type 0} (s t : Bool) (a b : S) → cond s a (cond t a b) ≡ cond (s || t) a b
cond_or true t a b = refl
cond_or false t a b = refl

pub three : {a b c x y z : Bool} → a ≡ x → b ≡ y → c ≡ z → a && b && c ≡ x && y && z
three p q r = rw (p, q, r) refl

-- what is a charge is no item
charge_passes : (kind : ℕ) (p q : Bool) → eqb kind 4 ≡ true → eqb kind 3 && p || eqb kind 4 && q ≡ q
charge_passes kind p q h = rw (eqb-true kind 4 h) refl

item_passes : (kind : ℕ) (p q : Bool) → eqb kind 4 ≡ false → eqb kind 3 && p || eqb kind 4 && q ≡ eqb kind 3 && p
item_passes kind p q h = rw h (or_none_right (eqb kind 3 && p))

module _ (k : Book) (f : Fit) (o : Item) where
  -- a charge goes by its item
  pub charge_over : (m : Item) {at : ℕ} {r t : Bool} → Nth f.objects at m → at ≡ o.number - 1 → t ≡ is_charge o → t ≡ true → r ≡ passed k f m → r ≡ is_item o && passed k f o || is_charge o && passed k f (item_of f o)
  charge_over m n a i h e =
      e ∙ ap (passed k f) (n no_item ∙ ap (λ (j : ℕ). get_or f.objects j no_item) a)
      ∙ sym (charge_passes o.kind (passed k f o) (passed k f (item_of f o)) (sym i ∙ h))

  pub item_over : {r s t : Bool} → t ≡ is_charge o → t ≡ false → s ≡ is_item o → r ≡ s && passed k f o → r ≡ is_item o && passed k f o || is_charge o && passed k f (item_of f o)
  item_over i h e q =
      q ∙ ap (λ (x : Bool). x && passed k f o) e
      ∙ sym (item_passes o.kind (passed k f o) (passed k f (item_of f o)) (sym i ∙ h))

-- ---- one object, test by test

module _ (k : Book) (f : Fit) (o : Item) where
  pub able_found : {top x : ℕ} (r : BaseAttribute) → some r ≡ get_base f o capacitor_need → top ≡ reached_of k o → x ≡ max top 2 → x ≡ able_of k f o
  unfolding get_base able_of
  able_found r e t m = rw (some_first _ (bases_of f o) r (sym e), ← t) m

  pub able_none : {top : ℕ} → none ≡ get_base f o capacitor_need → top ≡ reached_of k o → top ≡ able_of k f o
  unfolding get_base able_of
  able_none e t = rw (none_first _ (bases_of f o) (sym e)) t

  pub subsystem_stands : is_subsystem o ≡ true → 1 ∷ 1 ∷ [] ≡ both (collected_states k f o)
  unfolding collected_states
  subsystem_stands h = rw h refl

  pub collected_stands : {top s : ℕ} → is_subsystem o ≡ false → top ≡ able_of k f o → s ≡ min o.state top → s ∷ top ∷ [] ≡ both (collected_states k f o)
  unfolding collected_states able_of reached_of
  collected_stands h t m = rw (h, m, t) refl

  pub stands_projected : is_projected o ≡ true → o.state ∷ o.max_state ∷ [] ≡ both (states_of k f o)
  unfolding states_of
  stands_projected h = rw h refl

  module _ (p : is_projected o ≡ false) where
    pub stands_off : is_item o && structure_fit f && is_on_char o ≡ true → 0 ∷ o.max_state ∷ [] ≡ both (states_of k f o)
    unfolding states_of
    stands_off h = rw (p, h) refl

    module _ (n : is_item o && structure_fit f && is_on_char o ≡ false) where
      pub stands_over : is_item o && passed k f o || is_charge o && passed k f (item_of f o) ≡ true → o.state ∷ o.max_state ∷ [] ≡ both (states_of k f o)
      unfolding states_of
      stands_over h = rw (p, n, cond_or, h) refl

      pub stands_collected : {r : List ℕ} → is_item o && passed k f o || is_charge o && passed k f (item_of f o) ≡ false → r ≡ both (collected_states k f o) → r ≡ both (states_of k f o)
      unfolding states_of
      stands_collected h e = rw (p, n, cond_or, h) e

-- ---- objects of a fit

module _ (b : List ℕ) (pairs : List (List ℕ)) where
  -- an object has its place as its number
  pub numbered : (i : ℕ) (o : Item) → i < count_of pairs 6 → Nth (fit_of b pairs).objects i o → o.number ≡ i
  unfolding fit_of
  numbered i o h n = ap (λ (x : Item). x.number) (n no_item ∙ sym (table_at object_from 6 b pairs i h no_item))

  -- it stands at its number
  pub stood : (i : ℕ) (o : Item) → i < count_of pairs 6 → Nth (fit_of b pairs).objects i o → ObjectOf (fit_of b pairs) o
  stood i o h n =
      record {
        at = λ d. n d ∙ ap (λ (j : ℕ). get_or (fit_of b pairs).objects j d) (sym (numbered i o h n));
        inside = omega (arith, numbered i o h n, objects_length b pairs);
      }

  pub number-inside : (o : Item) → ObjectOf (fit_of b pairs) o → o.number < count_of pairs 6
  number-inside o e = omega (arith, e.inside, objects_length b pairs)

  pub no_ship : count_of pairs 6 ≡ 0 → false ≡ structure_fit (fit_of b pairs)
  unfolding fit_of
  no_ship h = rw h refl

-- ---- the rows of all objects, laid over zeros

module _ (k : Book) (b : List ℕ) (pairs : List (List ℕ)) where
  -- those of the first i
  abbrev pub Rows : ℕ → List (List ℕ) → List (List ℕ) → Type 0
  Rows i c₀ c = Col both (map (states_of k (fit_of b pairs)) (take i (fit_of b pairs).objects)) c₀ c

  pub rows_more : (i : ℕ) (o : Item) {row : List ℕ} {c₀ c c' : List (List ℕ)} → i < count_of pairs 6 → Nth (fit_of b pairs).objects i o → i < length c₀ → row ≡ both (states_of k (fit_of b pairs) o) → Rows i c₀ c → c' ≡ set c i row → Rows (i + 1) c₀ c'
  rows_more i o {c = c} h n l e K s =
      rw (map_next (states_of k (fit_of b pairs)) (fit_of b pairs).objects i o (rw (objects_length b pairs) h))
      (col_more both (map (states_of k (fit_of b pairs)) (take i (fit_of b pairs).objects)) (states_of k (fit_of b pairs) (get_or (fit_of b pairs).objects i o)) i K
      (sym (length-map (take i (fit_of b pairs).objects) (states_of k (fit_of b pairs)) ∙ length-take-le i (fit_of b pairs).objects (omega (arith, objects_length b pairs))))
      l (s ∙ ap (set c i) (e ∙ ap (λ (x : Item). both (states_of k (fit_of b pairs) x)) (n o))))

  pub rows_all : (i : ℕ) {c₀ c : List (List ℕ)} → i ≡ count_of pairs 6 → Rows i c₀ c → c₀ ≡ replicate 1024 (replicate 2 0) → c ≡ rows_of k (fit_of b pairs)
  rows_all i e K z = col_column both (replicate 2 0) (map (states_of k (fit_of b pairs)) (fit_of b pairs).objects) 1024 (rw whole at K) z
    where
      whole : take i (fit_of b pairs).objects ≡ (fit_of b pairs).objects
      whole = ap (λ (n : ℕ). take n (fit_of b pairs).objects) (e ∙ sym (objects_length b pairs)) ∙ take-length (fit_of b pairs).objects

pub in_room : (row : List ℕ) (i : ℕ) → i < 1024 → i < length (replicate 1024 row)
in_room row i h = rw (length-replicate 1024 row) h
