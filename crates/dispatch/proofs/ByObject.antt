-- How many keys are known after hits: the rows of all objects, each with its own ids.
use Prim.Native.Nat.{ℕ, zero, suc, ◌+◌, ◌≤◌, ◌<◌}
use native.Mathlib.Nat.{add-zero}
use native.Mathlib.Omega.{arith}
use mathlib.Core.Path.{◌≡◌, refl, sym, ap, ◌∙◌}
use mathlib.Core.Bool.{Bool, true, false, ◌&&◌, ◌||◌, cond}
use mathlib.Core.Logic.{◌⊎◌, inl, inr}
use mathlib.Core.List.{List, [], ◌∷◌, map}
use lib.Dec.{eqb, ltb}
use lib.IntN.{ℤ}
use lib.ListN.{length, length-map}
use borrow.Author.Tests.{eqb-true, eq-eqb, ne_eqb, ltb-true}
use Rattle.laws.specs.Lists.{eq_z, keep, put, some?, every?, from, ascends, insert, insert_all, total}
use Rattle.laws.proofs.Bools.{true_or_false, same_test, both_ways, and_left, and_right}
use Rattle.laws.proofs.Maps.{map_same, map-map}
use Rattle.laws.proofs.Every.{some_map, some_flat}
use Rattle.laws.proofs.Flat.{flat-length}
use Rattle.laws.proofs.From.{table_same, table_of}
use Rattle.laws.proofs.Order.{eq_z_true}
use Rattle.laws.proofs.Inserts.{insert_member, insert-length, insert_there, ascends-insert}
use Rattle.rules.specs.Sheet.{Fit, bases_of}
use Rattle.rules.specs.Item.{object, no_item}
use Rattle.rules.specs.Dispatch.{Key, same_key, base_keys}
use Rattle.rules.specs.declared.Item.{Item}
use Rattle.dispatch.proofs.Rooms.{joined, after}

eqb_sym : (a b : ℕ) → eqb a b ≡ eqb b a
eqb_sym a b = same_test (eqb a b) (eqb b a) (λ e. eq-eqb b a (sym (eqb-true a b e))) (λ e. eq-eqb a b (sym (eqb-true b a e)))

-- the ids of the hits on object i
abbrev pub ids_on : ℕ → List Key → List ℤ
ids_on i hs = map (λ h. h.id) (keep (λ h. eqb h.object i) hs)

-- the ids of each object after one more hit
abbrev grown : Key → (ℕ → List ℤ) → ℕ → List ℤ
grown h ids i = cond (eqb h.object i) (insert h.id (ids i)) (ids i)

-- ---- sums over objects

-- one number more at j
module _ (g : ℕ → ℕ) (j x : ℕ) where
  abbrev bumped : ℕ → ℕ
  bumped i = g i + cond (eqb j i) x 0

  bump_none : (a n : ℕ) → j < a → total (map bumped (from a n)) ≡ total (map g (from a n))
  bump_none a zero h = refl
  bump_none a (suc n) h =
      ap (λ (t : Bool). g a + cond t x 0 + total (map bumped (from (suc a) n))) (ne_eqb j a (λ e. absurd (omega arith)))
      ∙ ap (λ (m : ℕ). g a + 0 + m) (bump_none (suc a) n (omega arith)) ∙ ap (λ (m : ℕ). m + total (map g (from (suc a) n))) (add-zero (g a))

  bump_by : (a n : ℕ) → (j ≡ a → ⊥) → total (map bumped (from (suc a) n)) ≡ total (map g (from (suc a) n)) + x → total (map bumped (from a (suc n))) ≡ total (map g (from a (suc n))) + x
  bump_by a n e i = ap (λ (t : Bool). g a + cond t x 0 + total (map bumped (from (suc a) n))) (ne_eqb j a e) ∙ omega (arith, i)

  bump_here : (a n : ℕ) → j ≡ a → total (map bumped (from a (suc n))) ≡ total (map g (from a (suc n))) + x
  bump_here a n e = ap (λ (t : Bool). g a + cond t x 0 + total (map bumped (from (suc a) n))) (eq-eqb j a e) ∙ omega (arith, bump_none (suc a) n (omega arith))

  bump : (a n : ℕ) → a ≤ j → j < a + n → total (map bumped (from a n)) ≡ total (map g (from a n)) + x
  bump a zero h l = absurd (omega arith)
  bump a (suc n) h l = by (true_or_false (eqb j a)) (λ e. bump (suc a) n (omega arith) (omega arith))
    where
      by : (eqb j a ≡ true) ⊎ (eqb j a ≡ false) → ((j ≡ a → ⊥) → total (map bumped (from (suc a) n)) ≡ total (map g (from (suc a) n)) + x) → total (map bumped (from a (suc n))) ≡ total (map g (from a (suc n))) + x
      by (inl e) i = bump_here a n (eqb-true j a e)
      by (inr e) i = let apart : j ≡ a → ⊥ = λ s. both_ways (eq-eqb j a s) e in bump_by a n apart (i apart)

insert_count : (a : ℤ) (l : List ℤ) → ascends l ≡ true → (t : Bool) → some? (eq_z a) l ≡ t → length (insert a l) ≡ length l + cond t 0 1
insert_count a l o true e = ap length (insert_there a l o e) ∙ sym (add-zero (length l))
insert_count a l o false e = insert-length a l e ∙ omega arith

joined_count : (t : Bool) (h : Key) (known : List Key) → length (joined t h known) ≡ length known + cond t 0 1
joined_count true h known = sym (add-zero (length known))
joined_count false h known = omega arith

-- ---- hits one after another

module _ (n : ℕ) where
  -- the known keys are those of the objects' ids
  pub record Agrees (known : List Key) (ids : ℕ → List ℤ) : Type 0 where
    pub member : (h : Key) → h.object < n → some? (same_key h) known ≡ some? (eq_z h.id) (ids h.object)
    pub ordered : (i : ℕ) → i < n → ascends (ids i) ≡ true
    pub count : length known ≡ total (map (λ i. length (ids i)) (from 0 n))

  module _ (known : List Key) (ids : ℕ → List ℤ) (A : Agrees known ids) (h : Key) (inside : h.object < n) where
    abbrev there : Bool
    there = some? (same_key h) known

    member_of : (g : Key) (t : Bool) → there ≡ t → some? (same_key g) (joined t h known) ≡ same_key g h || some? (same_key g) known
    member_of g false e = refl
    member_of g true e = by (true_or_false (eqb g.object h.object)) (true_or_false (eq_z g.id h.id))
      where
        by : (eqb g.object h.object ≡ true) ⊎ (eqb g.object h.object ≡ false) → (eq_z g.id h.id ≡ true) ⊎ (eq_z g.id h.id ≡ false) → some? (same_key g) known ≡ same_key g h || some? (same_key g) known
        by (inl p) (inl q) =
            let o : g.object ≡ h.object = eqb-true g.object h.object p in
            let a : g.id ≡ h.id = eq_z_true g.id h.id q in
            let found : some? (same_key g) known ≡ true = ap (λ (k : ℕ). some? (λ (x : Key). eqb k x.object && eq_z g.id x.id) known) o ∙ ap (λ (z : ℤ). some? (λ (x : Key). eqb h.object x.object && eq_z z x.id) known) a ∙ e in
            found ∙ sym (ap (λ (b : Bool). b && eq_z g.id h.id || some? (same_key g) known) p ∙ ap (λ (b : Bool). b || some? (same_key g) known) q)
        by (inl p) (inr q) = sym (ap (λ (b : Bool). b && eq_z g.id h.id || some? (same_key g) known) p ∙ ap (λ (b : Bool). b || some? (same_key g) known) q)
        by (inr p) q = sym (ap (λ (b : Bool). b && eq_z g.id h.id || some? (same_key g) known) p)

    grown_member : (g : Key) → g.object < n → (t : Bool) → eqb h.object g.object ≡ t → same_key g h || some? (same_key g) known ≡ some? (eq_z g.id) (cond t (insert h.id (ids g.object)) (ids g.object))
    grown_member g l true e =
        ap (λ (b : Bool). b && eq_z g.id h.id || some? (same_key g) known) (eqb_sym g.object h.object ∙ e)
        ∙ ap (λ (b : Bool). eq_z g.id h.id || b) (A.member g l) ∙ sym (insert_member h.id g.id (ids g.object))
    grown_member g l false e =
        ap (λ (b : Bool). b && eq_z g.id h.id || some? (same_key g) known) (eqb_sym g.object h.object ∙ e) ∙ A.member g l

    grown_ordered : (i : ℕ) → i < n → (t : Bool) → ascends (cond t (insert h.id (ids i)) (ids i)) ≡ true
    grown_ordered i l true = ascends-insert h.id (ids i) (A.ordered i l)
    grown_ordered i l false = A.ordered i l

    grown_count : (i : ℕ) → i < n → (t : Bool) → eqb h.object i ≡ t → length (cond t (insert h.id (ids i)) (ids i)) ≡ length (ids i) + cond t (cond there 0 1) 0
    grown_count i l true e =
        insert_count h.id (ids i) (A.ordered i l) there (ap (λ (m : ℕ). some? (eq_z h.id) (ids m)) (sym (eqb-true h.object i e)) ∙ sym (A.member h inside))
    grown_count i l false e = sym (add-zero (length (ids i)))

    agrees_next : Agrees (joined there h known) (grown h ids)
    agrees_next =
        record {
          member = λ g l. member_of g there refl ∙ grown_member g l (eqb h.object g.object) refl;
          ordered = λ i l. grown_ordered i l (eqb h.object i);
          count =
              joined_count there h known ∙ ap (λ (m : ℕ). m + cond there 0 1) A.count
              ∙ sym (table-total ∙ bump (λ i. length (ids i)) h.object (cond there 0 1) 0 n (omega arith) (omega arith));
        }
      where
        table-total : total (map (λ i. length (grown h ids i)) (from 0 n)) ≡ total (map (bumped (λ i. length (ids i)) h.object (cond there 0 1)) (from 0 n))
        table-total =
            ap total (table_same (λ i. length (grown h ids i)) (bumped (λ i. length (ids i)) h.object (cond there 0 1)) 0 n (λ i a l. grown_count i (omega arith) (eqb h.object i) refl))

  ids_next : (h : Key) (hs : List Key) (ids : ℕ → List ℤ) (i : ℕ) → insert_all (ids_on i hs) (grown h ids i) ≡ insert_all (ids_on i (h ∷ hs)) (ids i)
  ids_next h hs ids i = by (eqb h.object i)
    where
      by : (t : Bool) → insert_all (ids_on i hs) (cond t (insert h.id (ids i)) (ids i)) ≡ insert_all (map (λ x. x.id) (put t h (keep (λ x. eqb x.object i) hs))) (ids i)
      by true = refl
      by false = refl

  agrees_same : {known : List Key} {f g : ℕ → List ℤ} → ((i : ℕ) → f i ≡ g i) → Agrees known f → Agrees known g
  agrees_same {known} {f} {g} e A =
      record {
        member = λ h l. A.member h l ∙ ap (some? (eq_z h.id)) (e h.object);
        ordered = λ i l. ap ascends (sym (e i)) ∙ A.ordered i l;
        count = A.count ∙ ap total (map_same (λ i. length (f i)) (λ i. length (g i)) (λ i. ap length (e i)) (from 0 n));
      }

  pub agrees_after : (hs known : List Key) (ids : ℕ → List ℤ) → Agrees known ids → every? (λ h. ltb h.object n) hs ≡ true → Agrees (after known hs) (λ i. insert_all (ids_on i hs) (ids i))
  agrees_after [] known ids A e = A
  agrees_after (h ∷ hs) known ids A e =
      let inside : h.object < n = ltb-true h.object n (and_left (ltb h.object n) (every? (λ x. ltb x.object n) hs) e) in
      agrees_same (ids_next h hs ids)
      (agrees_after hs (joined (some? (same_key h) known) h known) (grown h ids) (agrees_next known ids A h inside) (and_right (ltb h.object n) (every? (λ x. ltb x.object n) hs) e))

-- ---- the base attributes

abbrev pub base_ids : Fit → ℕ → List ℤ
base_ids f i = map (λ r. r.attribute_id) (bases_of f (object f i))

-- one place alone can pass
pub some_only : (p : ℕ → Bool) (j a n : ℕ) → ((i : ℕ) → a ≤ i → i < a + n → (j ≡ i → ⊥) → p i ≡ false) → a ≤ j → j < a + n → some? p (from a n) ≡ p j
some_only p j a zero u h l = absurd (omega arith)
some_only p j a (suc n) u h l = by (true_or_false (eqb j a)) (λ e. some_only p j (suc a) n (λ i x y. u i (omega arith) (omega arith)) (omega arith) (omega arith))
  where
    none_behind : (b m : ℕ) → ((i : ℕ) → b ≤ i → i < b + m → p i ≡ false) → some? p (from b m) ≡ false
    none_behind b zero w = refl
    none_behind b (suc m) w = rw (w b (omega arith) (omega arith)) (none_behind (suc b) m (λ i x y. w i (omega arith) (omega arith)))

    by : (eqb j a ≡ true) ⊎ (eqb j a ≡ false) → ((j ≡ a → ⊥) → some? p (from (suc a) n) ≡ p j) → p a || some? p (from (suc a) n) ≡ p j
    by (inl e) i =
        let s : j ≡ a = eqb-true j a e in
        ap (λ (t : Bool). p a || t) (none_behind (suc a) n (λ i x y. u i (omega arith) (omega arith) (λ z. absurd (omega arith)))) ∙ last (p a) ∙ ap p (sym s)
      where
        last : (t : Bool) → t || false ≡ t
        last true = refl
        last false = refl
    by (inr e) i =
        let apart : j ≡ a → ⊥ = λ s. both_ways (eq-eqb j a s) e in
        ap (λ (t : Bool). t || some? p (from (suc a) n)) (u a (omega arith) (omega arith) apart) ∙ i apart

pub some_and : {A : Type 0} (t : Bool) (q : A → Bool) (xs : List A) → some? (λ x. t && q x) xs ≡ t && some? q xs
some_and true q xs = refl
some_and false q [] = refl
some_and false q (x ∷ xs) = some_and false q xs

module _ (f : Fit) (n : ℕ) (long : length f.objects ≡ n) (number : (i : ℕ) → i < n → (object f i).number ≡ i) where
  table : map (object f) (from 0 n) ≡ f.objects
  table = ap (λ (m : ℕ). map (object f) (from 0 m)) (sym long) ∙ table_of f.objects no_item

  abbrev keys_of : Item → List Key
  keys_of o = map (λ r. record { object = o.number; id = r.attribute_id }) (bases_of f o)

  key_in : (h : Key) (i : ℕ) → i < n → some? (same_key h) (keys_of (object f i)) ≡ eqb h.object i && some? (eq_z h.id) (base_ids f i)
  key_in h i l =
      some_map (same_key h) (λ r. record { object = (object f i).number; id = r.attribute_id }) (bases_of f (object f i))
      ∙ some_and (eqb h.object (object f i).number) (λ r. eq_z h.id r.attribute_id) (bases_of f (object f i))
      ∙ ap (λ (m : ℕ). eqb h.object m && some? (λ r. eq_z h.id r.attribute_id) (bases_of f (object f i))) (number i l)
      ∙ ap (λ (t : Bool). eqb h.object i && t) (sym (some_map (eq_z h.id) (λ r. r.attribute_id) (bases_of f (object f i))))

  base_member : (h : Key) → h.object < n → some? (same_key h) (base_keys f) ≡ some? (eq_z h.id) (base_ids f h.object)
  unfolding base_keys
  base_member h l =
      some_flat (same_key h) keys_of f.objects ∙ ap (some? (λ o. some? (same_key h) (keys_of o))) (sym table)
      ∙ some_map (λ o. some? (same_key h) (keys_of o)) (object f) (from 0 n)
      ∙ some_only (λ i. some? (same_key h) (keys_of (object f i))) h.object 0 n
      (λ i a b e. key_in h i (omega arith) ∙ ap (λ (t : Bool). t && some? (eq_z h.id) (base_ids f i)) (ne_eqb h.object i e)) (omega arith) (omega arith)
      ∙ key_in h h.object l ∙ ap (λ (t : Bool). t && some? (eq_z h.id) (base_ids f h.object)) (eq-eqb h.object h.object refl)

  base_count : length (base_keys f) ≡ total (map (λ i. length (base_ids f i)) (from 0 n))
  unfolding base_keys
  base_count =
      flat-length keys_of f.objects ∙ ap (λ (l : List Item). total (map (λ o. length (keys_of o)) l)) (sym table)
      ∙ ap total (map-map (λ o. length (keys_of o)) (object f) (from 0 n)
      ∙ map_same (λ i. length (keys_of (object f i))) (λ i. length (base_ids f i)) (λ i. length-map (bases_of f (object f i)) (λ r. record { object = (object f i).number; id = r.attribute_id }) ∙ sym (length-map (bases_of f (object f i)) (λ r. r.attribute_id))) (from 0 n))

  -- after hits on objects: the rows of each object, with the ids of its hits
  pub rows_after : ((i : ℕ) → i < n → ascends (base_ids f i) ≡ true) → (hs : List Key) → every? (λ h. ltb h.object n) hs ≡ true → Agrees n (after (base_keys f) hs) (λ i. insert_all (ids_on i hs) (base_ids f i))
  rows_after o hs e = agrees_after n hs (base_keys f) (base_ids f) (record { member = base_member; ordered = o; count = base_count }) e
