-- Each aim that the code makes is at the objects that its part of `hit` names.
use Prim.Native.Nat.{ℕ, ◌+◌, ◌≤◌, ◌<◌}
use native.Mathlib.Omega.{arith}
use mathlib.Core.Path.{◌≡◌, refl, sym, ap, subst, ◌∙◌}
use mathlib.Core.Bool.{Bool, true, false, not, ◌&&◌, ◌||◌, cond}
use lib.Dec.{eqb, leb, ltb}
use lib.ListN.{length, get_or}
use borrow.Author.Tests.{eqb-true, eqb-false, eq-eqb, ne_eqb, leb-true, ltb-true, le-leb, lt-ltb, le-ltb}
use Rattle.laws.proofs.Bools.{either, and_left, and_right, and_both, and_assoc, and_false_right, or_none_right, or_true_right, same_test}
use Rattle.rules.specs.Sheet.{Book, Fit}
use Rattle.rules.specs.Item.{object, is_ship, is_char, is_item, is_charge, is_skill, is_in_ship, is_on_char, is_owner_modifiable, char_of}
use Rattle.rules.specs.Dispatch.{carrier, in_location}
use Rattle.rules.specs.Columns.{yes1}
use Rattle.rules.specs.declared.Item.{Item}
use Rattle.hits.specs.declared.Aim.{Aim}
use Rattle.info.specs.declared.standing.Spans.{Spans}
use Rattle.hits.specs.declared.Test.{Test}
use Rattle.info.specs.Stands.{is_fitted, Stands}
use Rattle.hits.specs.Reach.{reach_of}
use Rattle.hits.specs.Who.{asked_of, passes_by, within, meets, Aims, at_location, char_items, by_skill, by_owner, alone, nobody}

-- ---- an aim by a column, and one at a single object

range : (a e i : ℕ) → a ≤ i → i < e → leb a i && ltb i e ≡ true
range a e i h l = and_both (le-leb a i h) (lt-ltb i e l)

ranged : (w g q : Bool) (c : ℕ) → c ≡ yes1 g → (g ≡ true → w ≡ true) → g && q ≡ w && (not (eqb c 0) && q)
ranged w true q c e h = rw (e, h refl) refl
ranged w false q c e h = rw e (sym (and_false_right w))

told : (g : Bool) (c : ℕ) → c ≡ yes1 g → eqb c 0 ≡ false → g ≡ true
told true c e n = refl
told false c e n = absurd (eqb-false c 0 n e)

pub aims_same : {p p' : Item → Bool} {k : Book} {f : Fit} {a : Aim} → ((i : ℕ) → i < length f.objects → p' (object f i) ≡ p (object f i)) → Aims p k f a → Aims p' k f a
aims_same e A = record { ordered = A.ordered; inside = A.inside; column = A.column; tight = A.tight; exact = λ i h. e i h ∙ A.exact i h }

pub aims_is : {p : Item → Bool} {k : Book} {f : Fit} {a b : Aim} → a ≡ b → Aims p k f b → Aims p k f a
aims_is {p} {k} {f} e A = subst (λ (a : Aim). Aims p k f a) (sym e) A

module _ (p : Item → Bool) (k : Book) (f : Fit) where
  -- g is what the column tells
  aims_by : (a : Aim) → a.«from» ≤ a.end → a.end ≤ length f.objects → a.column < 8 → (g : Item → Bool) → ((o : Item) → get_or (reach_of k f o) a.column 0 ≡ yes1 (g o)) → ((i : ℕ) → i < length f.objects → p (object f i) ≡ g (object f i) && asked_of a.test k f (object f i)) → ((i : ℕ) → i < length f.objects → g (object f i) ≡ true → within a i ≡ true) → Aims p k f a
  unfolding passes_by
  aims_by a o l c g col e w =
      record {
        ordered = o;
        inside = l;
        column = c;
        tight = λ x i h n. w i h (told (g (object f i)) (get_or (reach_of k f (object f i)) a.column 0) (col (object f i)) n);
        exact = λ i h. e i h ∙ ranged (within a i) (g (object f i)) (asked_of a.test k f (object f i)) (get_or (reach_of k f (object f i)) a.column 0) (col (object f i)) (w i h);
      }

  pub only : (n i : ℕ) → leb n i && ltb i (n + 1) ≡ eqb i n
  only n i =
      same_test (leb n i && ltb i (n + 1)) (eqb i n)
      (λ e. eq-eqb i n (omega (arith, leb-true n i (and_left (leb n i) (ltb i (n + 1)) e), ltb-true i (n + 1) (and_right (leb n i) (ltb i (n + 1)) e))))
      (λ e. range n (n + 1) i (omega (arith, eqb-true i n e)) (omega (arith, eqb-true i n e)))

  pub aims_alone : (n : ℕ) (q : Test) → n < length f.objects → ((i : ℕ) → i < length f.objects → p (object f i) ≡ eqb i n && asked_of q k f (object f i)) → Aims p k f (alone n q)
  unfolding passes_by reach_of
  aims_alone n q l e =
      record {
        ordered = omega arith;
        inside = omega arith;
        column = omega arith;
        tight = λ x i h m. absurd (omega (arith, x));
        exact = λ i h. e i h ∙ ap (λ (t : Bool). t && asked_of q k f (object f i)) (sym (only n i));
      }

  pub aims_nobody : ((i : ℕ) → i < length f.objects → p (object f i) ≡ false) → Aims p k f nobody
  aims_nobody e =
      record {
        ordered = omega arith;
        inside = omega arith;
        column = omega arith;
        tight = λ x i h m. absurd (omega (arith, x));
        exact = λ i h. e i h ∙ sym (ap (λ (b : Bool). b && meets k f nobody (object f i)) (ap (λ (b : Bool). leb 0 i && b) (le-ltb i 0 (omega arith)) ∙ and_false_right (leb 0 i)));
      }

-- ---- the aims of a standing order

pick_ship : {s c : Bool} → s ≡ true → c ≡ false → (t x y z q : Bool) → not (c && t) && (cond s x (cond c y z) && q) ≡ x && q
pick_ship e n t x y z q = rw (e, n) refl

pick_char : {s c : Bool} → s ≡ false → c ≡ true → (t x y z q : Bool) → not (c && t) && (cond s x (cond c y z) && q) ≡ (not t && y) && q
pick_char n e t x y z q = rw (n, e) (sym (and_assoc (not t) y q))

pick_items : {s c : Bool} → s ≡ false → c ≡ true → (t x y z q : Bool) → (c && t) && (cond s x (cond c y z) && q) ≡ (t && y) && q
pick_items n e t x y z q = rw (n, e) (sym (and_assoc t y q))

pick_else : {s c : Bool} → s ≡ false → c ≡ false → (t x y z q : Bool) → not (c && t) && (cond s x (cond c y z) && q) ≡ z && q
pick_else n m t x y z q = rw (n, m) refl

-- an item is neither char nor skill
no_items : (t c x : Bool) → (t ≡ true → c ≡ false) → not t && (c || t && x) ≡ c
no_items true c x h = sym (h refl)
no_items false c x h = or_none_right c

only_items : (t c x : Bool) → (t ≡ true → c ≡ false) → t && (c || t && x) ≡ t && x
only_items true c x h = rw (h refl) refl
only_items false c x h = refl

item_kind : (n : ℕ) → eqb n 3 ≡ true → eqb n 2 || eqb n 5 ≡ false
item_kind n e = rw (eqb-true n 3 e) refl

module _ (k : Book) (f : Fit) (s : Spans) (S : Stands f s) where
  in_range : (i : ℕ) → i < length f.objects → is_fitted (object f i) ≡ true → leb s.first i && ltb i s.end ≡ true
  in_range i h e = range s.first s.end i (S.fitted i h e).0 (S.fitted i h e).1

  module _ (n : ℕ) (l : n < length f.objects) where
    is_ship_lem : n ≡ 0 → is_ship (object f n) ≡ true
    is_ship_lem e = S.ship n l ∙ eq-eqb n 0 e

    no_ship : (n ≡ 0 → ⊥) → is_ship (object f n) ≡ false
    no_ship e = S.ship n l ∙ ne_eqb n 0 e

    is_char_lem : n ≡ s.character → is_char (object f n) ≡ true
    is_char_lem e = S.char n l ∙ eq-eqb n (char_of f) (e ∙ S.character)

    no_char : (n ≡ s.character → ⊥) → is_char (object f n) ≡ false
    no_char e = S.char n l ∙ ne_eqb n (char_of f) (λ c. e (c ∙ sym S.character))

    char_later : n ≡ s.character → n ≡ 0 → ⊥
    char_later e z = absurd (omega (arith, S.character, S.late))

    module _ (q : Test) where
      pub located_ship : n ≡ 0 → Aims (at_location q n k f) k f (record { «from» = 0; end = s.end; column = 0; test = q })
      unfolding in_location reach_of
      located_ship z =
          aims_by _ k f _ (omega arith) S.inside (omega arith) (λ o. is_ship o || is_fitted o && is_in_ship k (carrier f o)) (λ o. refl)
          (λ i h. pick_ship (is_ship_lem z) (no_char (λ e. char_later e z)) _ _ _ _ _)
          (λ i h. either _ _ (λ e. range 0 s.end i (omega arith) (omega (arith, eqb-true i 0 (sym (S.ship i h) ∙ e), S.ordered, S.first)))
          (λ e. range 0 s.end i (omega arith) (S.fitted i h (and_left (is_fitted (object f i)) _ e)).1))

      pub located_char : n ≡ s.character → Aims (at_location q n k f) k f (record { «from» = n; end = s.objects; column = 1; test = q })
      unfolding in_location reach_of
      located_char e =
          aims_by _ k f _ (omega (arith, S.objects)) (omega (arith, S.objects)) (omega arith) (λ o. is_char o || is_skill o) (λ o. refl)
          (λ i h. pick_char (no_ship (char_later e)) (is_char_lem e) _ _ _ _ _
          ∙ ap (λ (t : Bool). t && asked_of q k f (object f i)) (no_items (is_item (object f i)) _ (is_on_char (object f i)) (item_kind (object f i).kind)))
          (λ i h. either _ _ (λ c. range n s.objects i (omega (arith, eqb-true i (char_of f) (sym (S.char i h) ∙ c), S.character)) (omega (arith, S.objects)))
          (λ c. range n s.objects i (omega (arith, leb-true s.end i (sym (S.skilled i h) ∙ c), S.ordered, S.first, S.character)) (omega (arith, S.objects))))

      pub located_else : (n ≡ 0 → ⊥) → (n ≡ s.character → ⊥) → Aims (at_location q n k f) k f (alone n q)
      unfolding in_location
      located_else z c =
          aims_alone _ k f n q l
          (λ i h. pick_else (no_ship z) (no_char c) _ _ _ _ _ ∙ ap (λ (j : ℕ). eqb j n && asked_of q k f (object f i)) (S.number i h))

      pub char_items_lem : n ≡ s.character → Aims (char_items q n k f) k f (record { «from» = s.first; end = s.end; column = 2; test = q })
      unfolding in_location reach_of
      char_items_lem e =
          aims_by _ k f _ S.ordered S.inside (omega arith) (λ o. is_item o && is_on_char o) (λ o. refl)
          (λ i h. pick_items (no_ship (char_later e)) (is_char_lem e) _ _ _ _ _
          ∙ ap (λ (t : Bool). t && asked_of q k f (object f i)) (only_items (is_item (object f i)) _ (is_on_char (object f i)) (item_kind (object f i).kind)))
          (λ i h c. in_range i h (ap (λ (t : Bool). t || is_charge (object f i)) (and_left (is_item (object f i)) _ c)))

      pub skilled_char : n ≡ s.character → Aims (by_skill q n k f) k f (record { «from» = s.first; end = s.end; column = 4; test = q })
      unfolding reach_of
      skilled_char e =
          aims_by _ k f _ S.ordered S.inside (omega arith) (λ o. is_fitted o && is_on_char (carrier f o)) (λ o. refl)
          (λ i h. rw (is_char_lem e) refl)
          (λ i h c. in_range i h (and_left (is_fitted (object f i)) _ c))

      pub skilled_ship : (n ≡ s.character → ⊥) → Aims (by_skill q n k f) k f (record { «from» = s.first; end = s.end; column = 3; test = q })
      unfolding reach_of
      skilled_ship e =
          aims_by _ k f _ S.ordered S.inside (omega arith) (λ o. is_fitted o && is_in_ship k (carrier f o)) (λ o. refl)
          (λ i h. rw (no_char e) refl)
          (λ i h c. in_range i h (and_left (is_fitted (object f i)) _ c))

  pub owned : (q : Test) → Aims (by_owner q k f) k f (record { «from» = s.first; end = s.end; column = 5; test = q })
  unfolding reach_of
  owned q =
      aims_by _ k f _ S.ordered S.inside (omega arith) (λ o. is_charge o || is_item o && is_owner_modifiable o) (λ o. refl) (λ i h. refl)
      (λ i h. either _ _ (λ e. in_range i h (ap (λ (t : Bool). is_item (object f i) || t) e ∙ or_true_right (is_item (object f i))))
      (λ e. in_range i h (ap (λ (t : Bool). t || is_charge (object f i)) (and_left (is_item (object f i)) _ e))))
