-- What a sound sheet says of its objects: their numbers, their order, their ids of 32 bits, their base attributes.
use Prim.Native.Nat.{ℕ, zero, suc, ◌+◌, ◌≤◌, ◌<◌}
use native.Mathlib.Nat.{eq-or-lt_of_le}
use native.Mathlib.Omega.{arith}
use mathlib.Core.Path.{◌≡◌, refl, sym, ap, subst, ◌∙◌}
use mathlib.Core.Bool.{Bool, true, false, ◌||◌, cond}
use mathlib.Core.Logic.{◌⊎◌, inl, inr, ⊎_elim}
use mathlib.Core.List.{List, [], ◌∷◌, map}
use mathlib.Core.Option.{none}
use lib.Dec.{eqb, leb}
use lib.ListN.{length, get_or, length-map}
use mir.Syntax.{w32}
use mir.Val.{SFits}
use borrow.Author.Tests.{eqb-true, eq-eqb, ne_eqb, leb-true, leb-false}
use Rattle.laws.specs.Lists.{ascends, every?}
use Rattle.laws.specs.Floats.{finite}
use Rattle.laws.proofs.Bools.{and_left, and_right, both_ways, either, same_test, true_or_false, not_failed}
use Rattle.laws.proofs.Every.{every_at}
use Rattle.rules.specs.Bytes.{u32_at, record_at}
use Rattle.rules.specs.Sheet.{Fit, fit_of, object_from, bases_of}
use Rattle.rules.specs.Shape.{object_good, objects_good, bases_good, fit_bad}
use Rattle.rules.specs.Item.{object, no_item, is_charge, is_skill, char_of}
use Rattle.rules.proofs.Tables.{table_at, table-length}
use Rattle.rules.specs.declared.Item.{Item}
use Rattle.rules.proofs.Verdicts.{bases_good_lem}
use Rattle.info.specs.declared.standing.Spans.{Spans}
use Rattle.info.specs.Stands.{is_fitted, FirstSkill, Sized, Stands}
use Rattle.info.proofs.Narrow.{signed_narrow}
use Rattle.info.proofs.StandingLaws.{Place, ship, mode, char, later, Standing, standing}

bases_ascend : (f : Fit) → bases_good f ≡ true → (i : ℕ) → i < length f.objects → ascends (map (λ r. r.attribute_id) (bases_of f (object f i))) ≡ true
unfolding bases_good
bases_ascend f e i h =
    every_at (λ o. ascends (map (λ r. r.attribute_id) (bases_of f o))) f.objects i no_item
    (and_right (every? (λ r. finite r.value) f.bases) (every? (λ o. ascends (map (λ r. r.attribute_id) (bases_of f o))) f.objects) e) h

-- ---- fields

module _ (b : List ℕ) (pairs : List (List ℕ)) where
  object-from : (i : ℕ) → i < length (fit_of b pairs).objects → object (fit_of b pairs) i ≡ object_from i (record_at b pairs 6 i)
  unfolding fit_of
  object-from i h = sym (table_at object_from 6 b pairs i (rw (table-length object_from 6 b pairs) at h) no_item)

  pub numbered : (i : ℕ) → i < length (fit_of b pairs).objects → (object (fit_of b pairs) i).number ≡ i
  numbered i h = ap (λ o. o.number) (object-from i h)

  pub sized : fit_bad (fit_of b pairs) ≡ none → Sized (fit_of b pairs)
  sized e =
      record {
        types = λ i h. subst (λ (o : Item). SFits w32 o.type_id) (sym (object-from i h)) (signed_narrow (u32_at (record_at b pairs 6 i) 4));
        groups = λ i h. subst (λ (o : Item). SFits w32 o.group_id) (sym (object-from i h)) (signed_narrow (u32_at (record_at b pairs 6 i) 8));
        bases = bases_ascend (fit_of b pairs) (bases_good_lem (fit_of b pairs) e);
      }

-- ---- the order

map_get_d : {A B : Type 0} (g : A → B) (xs : List A) (i : ℕ) (d : A) → get_or (map g xs) i (g d) ≡ g (get_or xs i d)
map_get_d g [] i d = refl
map_get_d g (x ∷ xs) zero d = refl
map_get_d g (x ∷ xs) (suc i) d = map_get_d g xs i d

eqb_same : (a b x y : ℕ) → (a ≡ b → x ≡ y) → (x ≡ y → a ≡ b) → eqb a b ≡ eqb x y
eqb_same a b x y f g = same_test (eqb a b) (eqb x y) (λ e. eq-eqb x y (f (eqb-true a b e))) (λ e. eq-eqb a b (g (eqb-true x y e)))

ship_place : {c i k : ℕ} → 1 ≤ c → Place c i k → eqb k 0 ≡ eqb i 0
ship_place {c} {i} {k} h (ship p q) = eqb_same k 0 i 0 (λ e. p) (λ e. q)
ship_place {c} {i} {k} h (mode l m q) = eqb_same k 0 i 0 (λ e. absurd (omega arith)) (λ e. absurd (omega arith))
ship_place {c} {i} {k} h (char p q) = eqb_same k 0 i 0 (λ e. absurd (omega arith)) (λ e. absurd (omega arith))
ship_place {c} {i} {k} h (later l q) = eqb_same k 0 i 0 (λ e. absurd (omega arith)) (λ e. absurd (omega arith))

char_place : {c i k : ℕ} → 1 ≤ c → Place c i k → eqb k 2 ≡ eqb i c
char_place {c} {i} {k} h (ship p q) = eqb_same k 2 i c (λ e. absurd (omega arith)) (λ e. absurd (omega arith))
char_place {c} {i} {k} h (mode l m q) = eqb_same k 2 i c (λ e. absurd (omega arith)) (λ e. absurd (omega arith))
char_place {c} {i} {k} h (char p q) = eqb_same k 2 i c (λ e. p) (λ e. q)
char_place {c} {i} {k} h (later l q) = eqb_same k 2 i c (λ e. absurd (omega arith)) (λ e. absurd (omega arith))

later-place : {c i k : ℕ} → 3 ≤ k → Place c i k → c < i
later-place h (ship p q) = absurd (omega arith)
later-place h (mode l m q) = absurd (omega arith)
later-place h (char p q) = absurd (omega arith)
later-place h (later l q) = l

-- the char by what stands second
module _ (f : Fit) {o : Item} (e : o ≡ object f 1) where
  pub char_first : o.kind ≡ 2 → 1 ≡ char_of f
  char_first h = sym (ap (λ (b : Bool). cond b 1 2) (ap (λ (i : Item). eqb i.kind 2) (sym e) ∙ eq-eqb o.kind 2 h))

  pub char_second : (o.kind ≡ 2 → ⊥) → 2 ≡ char_of f
  char_second n = sym (ap (λ (b : Bool). cond b 1 2) (ap (λ (i : Item). eqb i.kind 2) (sym e) ∙ ne_eqb o.kind 2 n))

-- no skill among the objects from one on, so far
pub record Seen (f : Fit) (start n i : ℕ) : Type 0 where
  pub all : n ≡ length f.objects
  pub ordered : start ≤ i
  pub inside : i ≤ n
  pub before : (j : ℕ) → start ≤ j → j < i → is_skill (object f j) ≡ false

pub seen_none : {f : Fit} {start n m : ℕ} → start ≤ n → n ≡ m → length f.objects ≡ m → Seen f start n start
seen_none h e l = record { all = e ∙ sym l; ordered = omega arith; inside = h; before = λ j a b. absurd (omega arith) }

module _ {f : Fit} {start n i : ℕ} (I : Seen f start n i) where
  module _ (l : i < n) {o : Item} (e : o ≡ object f i) where
    pub seen_more : (o.kind ≡ 5 → ⊥) → Seen f start n (i + 1)
    seen_more h = record { all = I.all; ordered = omega (arith, I.ordered); inside = omega arith; before = before }
      where
        here : is_skill (object f i) ≡ false
        here = ap (λ (x : Item). eqb x.kind 5) (sym e) ∙ ne_eqb o.kind 5 h

        at : (j : ℕ) → start ≤ j → (j ≡ i) ⊎ (j < i) → is_skill (object f j) ≡ false
        at j a (inl b) = ap (λ (x : ℕ). is_skill (object f x)) b ∙ here
        at j a (inr b) = I.before j a b

        before : (j : ℕ) → start ≤ j → j < i + 1 → is_skill (object f j) ≡ false
        before j a b = at j a (eq-or-lt_of_le {n = j} {m = i} (omega arith))

    pub seen_skill : o.kind ≡ 5 → FirstSkill f start i
    seen_skill h =
        record {
          ordered = I.ordered;
          inside = omega (arith, I.all);
          before = I.before;
          at = λ b. ap (λ (x : Item). eqb x.kind 5) (sym e) ∙ eq-eqb o.kind 5 h;
        }

  pub seen_all : n ≤ i → FirstSkill f start i
  seen_all h = record { ordered = I.ordered; inside = omega (arith, I.all, I.inside); before = I.before; at = λ b. absurd (omega (arith, I.all)) }

module _ (f : Fit) (good : objects_good f ≡ true) where
  pub kinds : Standing (map (λ o. o.kind) f.objects) 7
  unfolding objects_good
  kinds = standing 7 (map (λ o. o.kind) f.objects) (and_left _ (every? (object_good f) f.objects) good)

  pub kind_at : (i : ℕ) → get_or (map (λ o. o.kind) f.objects) i 7 ≡ (object f i).kind
  kind_at i = map_get_d (λ o. o.kind) f.objects i no_item

  pub char_at : kinds.at ≡ char_of f
  char_at = sym kinds.test ∙ ap (λ (n : ℕ). cond (eqb n 2) 1 2) (kind_at 1)

  long : length (map (λ o. o.kind) f.objects) ≡ length f.objects
  long = length-map f.objects (λ o. o.kind)

  pub char_inside : char_of f < length f.objects
  char_inside = omega (arith, kinds.inside, char_at, long)

  pub char_late : 1 ≤ char_of f
  char_late = omega (arith, kinds.early, char_at)

  place : (i : ℕ) → i < length f.objects → Place (char_of f) i (object f i).kind
  place i h =
      subst (λ (c : ℕ). Place c i (object f i).kind) char_at
      (subst (λ (n : ℕ). Place kinds.at i n) (kind_at i) (kinds.place i (rw long h)))

  -- a charge has something before it
  pub charge_later : (i : ℕ) → i < length f.objects → is_charge (object f i) ≡ true → 1 ≤ i
  charge_later i h e = omega (arith, later-place (omega (arith, eqb-true (object f i).kind 4 e)) (place i h))

  skill_on : (i j : ℕ) → i ≤ j → j < length f.objects → is_skill (object f i) ≡ true → is_skill (object f j) ≡ true
  skill_on i j l h e =
      eq-eqb (object f j).kind 5 (sym (kind_at j) ∙ kinds.skills i j l (rw long h) (kind_at i ∙ eqb-true (object f i).kind 5 e))

  fitted_kind : (n : ℕ) → eqb n 3 || eqb n 4 ≡ true → (3 ≤ n) × (n < 5)
  fitted_kind n =
      either _ _ (λ e. let n3 = eqb-true n 3 e in (omega arith, omega arith)) (λ e. let n4 = eqb-true n 4 e in (omega arith, omega arith))

  module _ (s : Spans) (start : s.first ≡ char_of f + 1) (F : FirstSkill f s.first s.end) where
    skilled : (i : ℕ) → i < length f.objects → is_skill (object f i) ≡ leb s.end i
    skilled i h =
        same_test (is_skill (object f i)) (leb s.end i)
        (λ e. not_failed (leb s.end i) (λ n. both_ways e (F.before i (past e) (leb-false s.end i n))))
        (λ e. skill_on s.end i (leb-true s.end i e) h (F.at (omega (arith, leb-true s.end i e))))
      where
        past : is_skill (object f i) ≡ true → s.first ≤ i
        past e = omega (arith, start, later-place (omega (arith, eqb-true (object f i).kind 5 e)) (place i h))

    fitted : (i : ℕ) → i < length f.objects → is_fitted (object f i) ≡ true → (s.first ≤ i) × (i < s.end)
    fitted i h e = (omega (arith, start, later-place kind.0 (place i h)), ⊎_elim late early (true_or_false (leb s.end i)))
      where
        kind : (3 ≤ (object f i).kind) × ((object f i).kind < 5)
        kind = fitted_kind (object f i).kind e

        late : leb s.end i ≡ true → i < s.end
        late l = absurd (omega (arith, kind.1, eqb-true (object f i).kind 5 (skilled i h ∙ l)))

        early : leb s.end i ≡ false → i < s.end
        early l = leb-false s.end i l

    pub stands : s.character ≡ char_of f → s.objects ≡ length f.objects → ((i : ℕ) → i < length f.objects → (object f i).number ≡ i) → Sized f → Stands f s
    stands c n number z =
        record {
          character = c;
          objects = n;
          first = start;
          ordered = F.ordered;
          inside = F.inside;
          late = char_late;
          number = number;
          ship = λ i h. ship_place char_late (place i h);
          char = λ i h. char_place char_late (place i h);
          fitted = fitted;
          sized = z;
          skilled = skilled;
        }
