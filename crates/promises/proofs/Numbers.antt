-- An entry's collection number: in a row the numbers ascend strictly, and each is that of its effect; of the definition's rows, and of every result that meets it.
use Rattle.std.specs.Prelude.{None, Some}
use Prim.Native.Nat.{ℕ, zero, suc, ◌+◌, ◌-◌, ◌≤◌, ◌<◌, suc-le-suc}
use native.Mathlib.Nat.{not-suc-le-zero, le_of_suc-le-suc, add-zero, zero-add, add_assoc}
use native.Mathlib.Omega.{arith}
use mathlib.Core.Path.{◌≡◌, refl, sym, ap, subst, ◌∙◌}
use mathlib.Core.Bool.{Bool, true, false, ◌&&◌}
use mathlib.Core.List.{List, [], ◌∷◌, ◌++◌, map}
use borrow.Author.Tests.{lt-ltb, ltb-true, ltb-false}
use lib.Dec.{ltb}
use lib.IntN.{ℤ, pos}
use lib.Ieee.{Float}
use lib.ListN.{length, get_or, length-append, length-map, get_or-append}
use lib.Seq.{get_or-append-add}
use Rattle.laws.specs.Lists.{eq_z, put, keep, every?, flat}
use Rattle.laws.specs.Floats.{zero_f}
use Rattle.laws.proofs.Bools.{and_left, and_right, and_both}
use Rattle.laws.proofs.Every.{every_at}
use Rattle.laws.proofs.Keep.{keep-keep}
use Rattle.laws.proofs.Maps.{map-map, map_at}
use Rattle.laws.proofs.Order.{eq_z_true}
use Rattle.rules.specs.Answer.{Res, ok, refused}
use Rattle.rules.specs.Bytes.{bits}
use Rattle.rules.specs.Codes.{operator_code}
use Rattle.rules.specs.Sheet.{Book, Fit}
use Rattle.rules.specs.Dispatch.{Row, hit, Numbered, numbered, entry, hits_on, ids_of, row_of, rows}
use Rattle.rules.specs.Columns.{Counts, origin_numbers, origin_value, modifier_numbers, optional_numbers, collected_numbers, rows_numbers, entry_numbers, collected_list, row_list, entry_list, collected_column, collected_value_column, entry_column, entry_value_column}
use Rattle.rules.specs.Outcome.{Lent, Done, collected_in, rows_in, rooms_of, outcome}
use Rattle.rules.specs.declared.Item.{Item}
use Rattle.rules.specs.declared.Effect.{Effect}
use Rattle.rules.specs.declared.EffectOperator.TheVariants.{PreAssign}
use Rattle.rules.specs.declared.Pass2Effect.{Pass2Effect}
use Rattle.rules.specs.declared.Source.{Source}
use Rattle.rules.specs.declared.Origin.{Origin}
use Rattle.rules.specs.declared.Origin.TheVariants as origin
use Rattle.rules.specs.declared.Modifier.{Modifier}
use Rattle.rules.specs.declared.Modifier.TheVariants.{LocationRequiredSkillModifier, LocationGroupModifier, LocationModifier, OwnerRequiredSkillModifier, ItemModifier}
use Rattle.rules.specs.Ids.{OptionalId}
use Rattle.promises.specs.Given.{cell}
use Rattle.promises.specs.NoMemory.{no_row, book_in, fit_in}
use Rattle.promises.specs.Numbers.{climbs, number_at, Ascending, ItsEffect}
use Rattle.promises.specs.Result.{Result, Meets}
use Rattle.promises.proofs.Ends.{column_place, column_cell, row_cells}
use Rattle.promises.proofs.Given.{row_count, row-given}
use Rattle.promises.proofs.NoMemory.{is-run}
use Rattle.promises.proofs.NoMemoryRun.{ran, run_rows}

-- ---- what is kept of a numbered list climbs

abbrev one : ℕ → Pass2Effect → Numbered
one k t = record { number = k; effect = t }

abbrev numbers_of : List Numbered → List ℕ
numbers_of l = map (λ n. n.number) l

above_by : (n k : ℕ) (t : Pass2Effect) (l : List Numbered) (b : Bool) → n < k → every? (ltb n) (numbers_of l) ≡ true → every? (ltb n) (numbers_of (put b (one k t) l)) ≡ true
above_by n k t l true h e = and_both (lt-ltb n k h) e
above_by n k t l false h e = e

above : (p : Numbered → Bool) (n k : ℕ) → n < k → (ts : List Pass2Effect) → every? (ltb n) (numbers_of (keep p (numbered k ts))) ≡ true
above p n k h [] = refl
above p n k h (t ∷ ts) = above_by n k t (keep p (numbered (suc k) ts)) (p (one k t)) h (above p n (suc k) (omega arith) ts)

climb_by : (k : ℕ) (t : Pass2Effect) (l : List Numbered) (b : Bool) → every? (ltb k) (numbers_of l) ≡ true → climbs (numbers_of l) ≡ true → climbs (numbers_of (put b (one k t) l)) ≡ true
climb_by k t l true h e = and_both h e
climb_by k t l false h e = e

kept_climb : (p : Numbered → Bool) (k : ℕ) (ts : List Pass2Effect) → climbs (numbers_of (keep p (numbered k ts))) ≡ true
kept_climb p k [] = refl
kept_climb p k (t ∷ ts) = climb_by k t (keep p (numbered (suc k) ts)) (p (one k t)) (above p k (suc k) (omega arith) ts) (kept_climb p (suc k) ts)

climbs-at : (l : List ℕ) (i j : ℕ) → climbs l ≡ true → i < j → j < length l → get_or l i 0 < get_or l j 0
climbs-at [] i j h a b = absurd (not-suc-le-zero b)
climbs-at (n ∷ r) i zero h a b = absurd (not-suc-le-zero a)
climbs-at (n ∷ r) zero (suc j) h a b = ltb-true n (get_or r j 0) (every_at (ltb n) r j 0 (and_left (every? (ltb n) r) (climbs r) h) (le_of_suc-le-suc b))
climbs-at (n ∷ r) (suc i) (suc j) h a b = climbs-at r i j (and_right (every? (ltb n) r) (climbs r) h) (le_of_suc-le-suc a) (le_of_suc-le-suc b)

module _ (k : Book) (f : Fit) (ts : List Pass2Effect) where
  -- of the definition: the numbers of a row's entries ascend strictly
  pub entries_ascend : (o : Item) (a : ℤ) → climbs (map (λ e. e.number) (row_of k f ts o a).entries) ≡ true
  unfolding row_of hits_on entry
  entries_ascend o a =
      ap climbs (map-map (λ e. e.number) (entry k f o) (keep (λ n. eq_z n.effect.target_attribute_id a) (hits_on k f ts o)))
      ∙ ap (λ (l : List Numbered). climbs (numbers_of l)) (keep-keep (λ n. eq_z n.effect.target_attribute_id a) (λ n. hit k f n.effect o) (numbered 0 ts))
      ∙ kept_climb (λ n. hit k f n.effect o && eq_z n.effect.target_attribute_id a) 0 ts

-- ---- what holds of each of a list

abbrev Each : {A : Type 0} → (A → Type 0) → List A → Type 0
Each P [] = Unit {0}
Each P (x ∷ xs) = P x × Each P xs

module _ {A : Type 0} (P : A → Type 0) where
  each_at : (xs : List A) → Each P xs → (i : ℕ) (d : A) → i < length xs → P (get_or xs i d)
  each_at [] a i d h = absurd (not-suc-le-zero h)
  each_at (x ∷ xs) a zero d h = a.0
  each_at (x ∷ xs) a (suc i) d h = each_at xs a.1 i d (le_of_suc-le-suc h)

  each_any : ((x : A) → P x) → (xs : List A) → Each P xs
  each_any h [] = tt
  each_any h (x ∷ xs) = (h x, each_any h xs)

  each_append : (xs ys : List A) → Each P xs → Each P ys → Each P (xs ++ ys)
  each_append [] ys a b = b
  each_append (x ∷ xs) ys a b = (a.0, each_append xs ys a.1 b)

  each_map : {B : Type 0} (g : B → A) (xs : List B) → Each (λ x. P (g x)) xs → Each P (map g xs)
  each_map g [] a = tt
  each_map g (x ∷ xs) a = (a.0, each_map g xs a.1)

  each_flat : {B : Type 0} (g : B → List A) → ((x : B) → Each P (g x)) → (xs : List B) → Each P (flat g xs)
  each_flat g h [] = tt
  each_flat g h (x ∷ xs) = each_append (g x) (flat g xs) (h x) (each_flat g h xs)

module _ {A : Type 0} (P Q : A → Type 0) (p : A → Bool) (h : (x : A) → P x → p x ≡ true → Q x) where
  put_each : (x : A) (xs : List A) (b : Bool) → p x ≡ b → P x → Each Q xs → Each Q (put b x xs)
  put_each x xs true e a c = (h x a e, c)
  put_each x xs false e a c = c

  each_keep : (xs : List A) → Each P xs → Each Q (keep p xs)
  each_keep [] a = tt
  each_keep (x ∷ xs) a = put_each x (keep p xs) (p x) refl a.0 (each_keep xs a.1)

each_weaker : {A : Type 0} (P Q : A → Type 0) → ((x : A) → P x → Q x) → (xs : List A) → Each P xs → Each Q xs
each_weaker P Q h [] a = tt
each_weaker P Q h (x ∷ xs) a = (h x a.0, each_weaker P Q h xs a.1)

-- ---- an entry and its effect, in the definition

-- n is of place i in ts, which is numbered from k on
record Place (k : ℕ) (ts : List Pass2Effect) (n : Numbered) : Type 0 where
  i : ℕ
  number : n.number ≡ k + i
  inside : i < length ts
  is : (d : Pass2Effect) → get_or ts i d ≡ n.effect

places : (k : ℕ) (ts : List Pass2Effect) → Each (Place k ts) (numbered k ts)
places k [] = tt
places k (t ∷ r) = (
  record { i = 0; number = sym (add-zero k); inside = omega arith; is = λ d. refl },
  each_weaker (Place (suc k) r) (Place k (t ∷ r)) (λ n q. record { i = suc q.i; number = q.number ∙ omega arith; inside = suc-le-suc q.inside; is = q.is }) (numbered (suc k) r) (places (suc k) r),
)

module _ (k : Book) (f : Fit) (ts : List Pass2Effect) where
  -- entry e, of a row of attribute a, is of effect n of ts
  record From (a : ℤ) (e : Effect) : Type 0 where
    onto : Item
    by : Numbered
    is : e ≡ entry k f onto by
    inside : by.number < length ts
    at : (d : Pass2Effect) → get_or ts by.number d ≡ by.effect
    attribute : by.effect.target_attribute_id ≡ a

  row_from : (o : Item) (a : ℤ) → Each (From a) (row_of k f ts o a).entries
  unfolding row_of hits_on
  row_from o a =
      each_map (From a) (entry k f o) (keep (λ n. eq_z n.effect.target_attribute_id a) (hits_on k f ts o))
      (each_keep (Place 0 ts) (λ n. From a (entry k f o n)) (λ n. eq_z n.effect.target_attribute_id a)
      (λ n q h. record {
        onto = o;
        by = n;
        is = refl;
        inside = subst (λ (m : ℕ). m < length ts) (sym (q.number ∙ zero-add q.i)) q.inside;
        at = λ d. ap (λ (m : ℕ). get_or ts m d) (q.number ∙ zero-add q.i) ∙ q.is d;
        attribute = eq_z_true n.effect.target_attribute_id a h;
      })
      (hits_on k f ts o)
      (each_keep (Place 0 ts) (Place 0 ts) (λ n. hit k f n.effect o) (λ n q h. q) (numbered 0 ts) (places 0 ts)))

  record Says (r : Row) : Type 0 where
    climb : climbs (map (λ e. e.number) r.entries) ≡ true
    each : Each (From r.id) r.entries

  row-says : (o : Item) (a : ℤ) → Says (row_of k f ts o a)
  unfolding row_of
  row-says o a = record { climb = entries_ascend k f ts o a; each = row_from o a }

  rows_say : Each Says (rows k f ts)
  unfolding rows
  rows_say = each_flat Says (λ o. map (row_of k f ts o) (ids_of k f ts o)) (λ o. each_map Says (row_of k f ts o) (ids_of k f ts o) (each_any (λ a. Says (row_of k f ts o a)) (row-says o) (ids_of k f ts o))) f.objects

-- ---- the numbers of both

pub eleven : (g : Origin) (i : OptionalId) (a b c n : ℕ) → get_or (origin_numbers g ++ (a ∷ b ∷ c ∷ (optional_numbers i ++ (n ∷ [])))) 11 0 ≡ n
eleven (origin.Effect e o c a) None x y z n = refl
eleven (origin.Effect e o c a) (Some i) x y z n = refl
eleven (origin.Buff b v) None x y z n = refl
eleven (origin.Buff b v) (Some i) x y z n = refl

nine : (g : Origin) (i : OptionalId) (a b c n : ℕ) → get_or (origin_numbers g ++ (a ∷ b ∷ c ∷ (optional_numbers i ++ (n ∷ [])))) 9 0 ≡ get_or (optional_numbers i) 0 0
nine (origin.Effect e o c a) None x y z n = refl
nine (origin.Effect e o c a) (Some i) x y z n = refl
nine (origin.Buff b v) None x y z n = refl
nine (origin.Buff b v) (Some i) x y z n = refl

ten : (g : Origin) (i : OptionalId) (a b c n : ℕ) → get_or (origin_numbers g ++ (a ∷ b ∷ c ∷ (optional_numbers i ++ (n ∷ [])))) 10 0 ≡ get_or (optional_numbers i) 1 0
ten (origin.Effect e o c a) None x y z n = refl
ten (origin.Effect e o c a) (Some i) x y z n = refl
ten (origin.Buff b v) None x y z n = refl
ten (origin.Buff b v) (Some i) x y z n = refl

six : (g : Origin) (a : ℕ) (r : List ℕ) → get_or (origin_numbers g ++ (a ∷ r)) 6 0 ≡ a
six (origin.Effect e o c a) x r = refl
six (origin.Buff b v) x r = refl

front : (g : Origin) (r : List ℕ) (j : ℕ) → j < 6 → get_or (origin_numbers g ++ r) j 0 ≡ get_or (origin_numbers g) j 0
front (origin.Effect e o c a) r j h = get_or-append (origin_numbers (origin.Effect e o c a)) r 0 j h
front (origin.Buff b v) r j h = get_or-append (origin_numbers (origin.Buff b v)) r 0 j h

fronts : (g : Origin) (l r : List ℕ) (j : ℕ) → j < 6 → get_or (origin_numbers g ++ l ++ r) j 0 ≡ get_or (origin_numbers g) j 0
fronts (origin.Effect e o c a) l r j h = get_or-append (origin_numbers (origin.Effect e o c a)) (l ++ r) 0 j h
fronts (origin.Buff b v) l r j h = get_or-append (origin_numbers (origin.Buff b v)) (l ++ r) 0 j h

-- from the operator on
pub behind : (g : Origin) (m : Modifier) (j : ℕ) (r : List ℕ) → get_or (origin_numbers g ++ modifier_numbers m ++ r) (suc (suc (suc (suc (suc (suc (suc (suc j)))))))) 0 ≡ get_or r j 0
behind (origin.Effect e o c a) (LocationRequiredSkillModifier s) j r = refl
behind (origin.Effect e o c a) (LocationGroupModifier s) j r = refl
behind (origin.Effect e o c a) LocationModifier j r = refl
behind (origin.Effect e o c a) (OwnerRequiredSkillModifier s) j r = refl
behind (origin.Effect e o c a) ItemModifier j r = refl
behind (origin.Buff b v) (LocationRequiredSkillModifier s) j r = refl
behind (origin.Buff b v) (LocationGroupModifier s) j r = refl
behind (origin.Buff b v) LocationModifier j r = refl
behind (origin.Buff b v) (OwnerRequiredSkillModifier s) j r = refl
behind (origin.Buff b v) ItemModifier j r = refl

abbrev pub rest : Pass2Effect → List ℕ
rest t = operator_code t.operator ∷ t.source_quantity ∷ t.target ∷ bits t.target_attribute_id ∷ optional_numbers t.resistance

-- ---- where entries stand in list 3

abbrev pub all : List Row → List Effect
all rs = flat (λ r. r.entries) rs

-- how many entries stand before those of row i
abbrev before : List Row → ℕ → ℕ
before [] i = 0
before (r ∷ rs) zero = 0
before (r ∷ rs) (suc i) = length r.entries + before rs i

first_count : (e s : ℕ) (rs : List Row) (qs : List (List Source)) (i : ℕ) → i < length rs
    → (cell (rows_numbers e s rs qs) i 2 ≡ e + before rs i) × (cell (rows_numbers e s rs qs) i 3 ≡ length (get_or rs i no_row).entries)
first_count e s [] qs i h = absurd (not-suc-le-zero h)
first_count e s (r ∷ rs) [] zero h = (sym (add-zero e), refl)
first_count e s (r ∷ rs) (q ∷ qs) zero h = (sym (add-zero e), refl)
first_count e s (r ∷ rs) [] (suc i) h =
    let a = first_count (e + length r.entries) s rs [] i (le_of_suc-le-suc h) in
    (a.0 ∙ add_assoc e (length r.entries) (before rs i), a.1)
first_count e s (r ∷ rs) (q ∷ qs) (suc i) h =
    let a = first_count (e + length r.entries) (s + length q) rs qs i (le_of_suc-le-suc h) in
    (a.0 ∙ add_assoc e (length r.entries) (before rs i), a.1)

flat-at : (rs : List Row) (i j : ℕ) (d : Effect) → j < length (get_or rs i no_row).entries → get_or (all rs) (before rs i + j) d ≡ get_or (get_or rs i no_row).entries j d
flat-at [] i j d h = absurd (not-suc-le-zero h)
flat-at (r ∷ rs) zero j d h = ap (λ (n : ℕ). get_or (all (r ∷ rs)) n d) (zero-add j) ∙ get_or-append r.entries (all rs) d j h
flat-at (r ∷ rs) (suc i) j d h =
    ap (λ (n : ℕ). get_or (all (r ∷ rs)) n d) (add_assoc (length r.entries) (before rs i) j)
    ∙ get_or-append-add r.entries (all rs) (before rs i + j) d ∙ flat-at rs i j d h

-- an entry's row, and its place there
record Found (rs : List Row) (p : ℕ) : Type 0 where
  i : ℕ
  row : i < length rs
  j : ℕ
  own : j < length (get_or rs i no_row).entries
  is : p ≡ before rs i + j

find_by : (r : Row) (rs : List Row) (p : ℕ) → p < length (all (r ∷ rs)) → (t : Bool) → ltb p (length r.entries) ≡ t → ((q : ℕ) → q < length (all rs) → Found rs q) → Found (r ∷ rs) p
find_by r rs p h true e further = record { i = 0; row = omega arith; j = p; own = ltb-true p (length r.entries) e; is = sym (zero-add p) }
find_by r rs p h false e further =
    let past = ltb-false p (length r.entries) e in
    let a = further (p - length r.entries) (omega (arith, h, past, length-append r.entries (all rs))) in
    record { i = suc a.i; row = suc-le-suc a.row; j = a.j; own = a.own; is = omega (arith, a.is, past) }

find : (rs : List Row) (p : ℕ) → p < length (all rs) → Found rs p
find [] p h = absurd (not-suc-le-zero h)
find (r ∷ rs) p h = find_by r rs p h (ltb p (length r.entries)) refl (λ q l. find rs q l)

inside-all : (rs : List Row) (i : ℕ) → i < length rs → before rs i + length (get_or rs i no_row).entries ≤ length (all rs)
inside-all [] i h = absurd (not-suc-le-zero h)
inside-all (r ∷ rs) zero h = omega (arith, length-append r.entries (all rs))
inside-all (r ∷ rs) (suc i) h = omega (arith, length-append r.entries (all rs), inside-all rs i (le_of_suc-le-suc h))

-- ---- a result that meets the definition, whose run is done

abbrev no_entry : Effect
no_entry = record { origin = origin.Buff (pos 0) zero_f; operator = PreAssign; penalty = false; quantity = 0; resistance = None; number = 0 }

abbrev pub no_effect : Pass2Effect
no_effect =
    record {
      origin = origin.Buff (pos 0) zero_f;
      modifier = ItemModifier;
      operator = PreAssign;
      source_quantity = 0;
      target = 0;
      target_attribute_id = pos 0;
      resistance = None;
    }

module _ (b : List ℕ) (l : Lent) (r : Result) (m : Meets b l r) (d : Done) (e : outcome b l ≡ ok d) where
  abbrev ts : List Pass2Effect
  ts = collected_in (book_in b) (fit_in b)

  says : Each (Says (book_in b) (fit_in b) ts) d.rows
  unfolding rows_in
  says =
      subst (λ (rs : List Row). Each (Says (book_in b) (fit_in b) ts) rs) (sym (run_rows (book_in b) (fit_in b) (rooms_of l) d (is-run b l d e)))
      (rows_say (book_in b) (fit_in b) ts)

  collected-is : d.collected ≡ ts
  collected-is = ap (λ (x : Done). x.collected) (ran (book_in b) (fit_in b) (rooms_of l) d (is-run b l d e)).is

  entry_count : r.counts.entries ≡ length (all d.rows)
  entry_count = ap (λ (c : Counts). c.entries) m.by-counts ∙ ap (λ (o : Res Done). length (entry_list o)) e

  collected_count : r.counts.collected ≡ length ts
  collected_count = ap (λ (c : Counts). c.collected) m.by-counts ∙ ap (λ (o : Res Done). length (collected_list o)) e ∙ ap length collected-is

  entry-cell : (p j : ℕ) → p < length (all d.rows) → cell r.entries p j ≡ get_or (entry_numbers (get_or (all d.rows) p no_entry)) j 0
  unfolding entry_column
  entry-cell p j h =
      ap (λ (c : List (List ℕ)). cell c p j) m.by_entries ∙ ap (λ (o : Res Done). cell (entry_column o l.entries) p j) e
      ∙ column_cell entry_numbers 12 (all d.rows) l.entries p j ∙ ap (λ (x : List ℕ). get_or x j 0) (map_at entry_numbers (all d.rows) p no_entry [] h)

  entry_value : (p : ℕ) → p < length (all d.rows) → get_or r.entry_values p zero_f ≡ origin_value (get_or (all d.rows) p no_entry).origin
  unfolding entry_value_column
  entry_value p h =
      ap (λ (c : List Float). get_or c p zero_f) m.by_entry_values ∙ ap (λ (o : Res Done). get_or (entry_value_column o l.entry_values) p zero_f) e
      ∙ column_place (λ x. origin_value x.origin) zero_f (all d.rows) l.entry_values p ∙ map_at (λ x. origin_value x.origin) (all d.rows) p no_entry zero_f h

  collected-cell : (n j : ℕ) → n < length ts → cell r.collected n j ≡ get_or (collected_numbers (get_or ts n no_effect)) j 0
  unfolding collected_column
  collected-cell n j h =
      ap (λ (c : List (List ℕ)). cell c n j) m.by-collected ∙ ap (λ (o : Res Done). cell (collected_column o l.collected) n j) e
      ∙ column_cell collected_numbers 14 d.collected l.collected n j ∙ ap (λ (x : List Pass2Effect). cell (map collected_numbers x) n j) collected-is
      ∙ ap (λ (x : List ℕ). get_or x j 0) (map_at collected_numbers ts n no_effect [] h)

  collected-value : (n : ℕ) → n < length ts → get_or r.collected_values n zero_f ≡ origin_value (get_or ts n no_effect).origin
  unfolding collected_value_column
  collected-value n h =
      ap (λ (c : List Float). get_or c n zero_f) m.by_collected_values ∙ ap (λ (o : Res Done). get_or (collected_value_column o l.collected_values) n zero_f) e
      ∙ column_place (λ x. origin_value x.origin) zero_f d.collected l.collected_values n ∙ ap (λ (x : List Pass2Effect). get_or (map (λ t. origin_value t.origin) x) n zero_f) collected-is
      ∙ map_at (λ x. origin_value x.origin) ts n no_effect zero_f h

  number_is : (p : ℕ) → p < length (all d.rows) → number_at r p ≡ (get_or (all d.rows) p no_entry).number
  number_is p h =
      let x = get_or (all d.rows) p no_entry in
      entry-cell p 11 h ∙ eleven x.origin x.resistance _ _ x.quantity x.number

  -- the entries of row i stand where the row says
  row_first : (i : ℕ) → i < length d.rows → cell r.rows i 2 ≡ before d.rows i
  row_first i h = row-given b l r m d e i 2 ∙ (first_count 0 0 d.rows d.sources i h).0 ∙ zero-add (before d.rows i)

  row-holds : (i : ℕ) → i < length d.rows → cell r.rows i 3 ≡ length (get_or d.rows i no_row).entries
  row-holds i h = row-given b l r m d e i 3 ∙ (first_count 0 0 d.rows d.sources i h).1

  -- entry j of row i
  abbrev own : ℕ → ℕ → Effect
  own i j = get_or (get_or d.rows i no_row).entries j no_entry

  own_number : (i j p : ℕ) → i < length d.rows → j < length (get_or d.rows i no_row).entries → p ≡ before d.rows i + j → number_at r p ≡ (own i j).number
  own_number i j p h k q =
      number_is p (omega (arith, q, k, inside-all d.rows i h))
      ∙ ap (λ (n : ℕ). (get_or (all d.rows) n no_entry).number) q ∙ ap (λ (x : Effect). x.number) (flat-at d.rows i j no_entry k)

  own_climbs : (i j k : ℕ) → i < length d.rows → j < k → k < length (get_or d.rows i no_row).entries → (own i j).number < (own i k).number
  own_climbs i j k h jk kn =
      let es = (get_or d.rows i no_row).entries in
      rw (sym (map_at (λ (x : Effect). x.number) es j no_entry 0 (omega (arith, jk, kn))), sym (map_at (λ (x : Effect). x.number) es k no_entry 0 kn))
      (climbs-at (map (λ x. x.number) es) j k (each_at (Says (book_in b) (fit_in b) ts) d.rows says i no_row h).climb jk (subst (λ (n : ℕ). k < n) (sym (length-map es (λ x. x.number))) kn))

  ascend_at : (i j k p q : ℕ) → i < length d.rows → j < k → k < length (get_or d.rows i no_row).entries → p ≡ before d.rows i + j → q ≡ before d.rows i + k → number_at r p < number_at r q
  ascend_at i j k p q h jk kn pj qk = rw (own_number i j p h (omega (arith, jk, kn)) pj, own_number i k q h kn qk) (own_climbs i j k h jk kn)

  ascending : Ascending r
  ascending i p q a c lt =
      let h : i < length d.rows = subst (λ (n : ℕ). i < n) (row_count b l r m d e) a.row in
      let first = row_first i h in
      let count = row-holds i h in
      ascend_at i (p - before d.rows i) (q - before d.rows i) p q h (omega (arith, first, a.from, lt)) (omega (arith, first, count, c.from, c.below)) (omega (arith, first, a.from)) (omega (arith, first, c.from))

  module _ (p : ℕ) (h : p < length (all d.rows)) where
    found : Found d.rows p
    found = find d.rows p h

    source : From (book_in b) (fit_in b) ts (get_or d.rows found.i no_row).id (own found.i found.j)
    source =
        each_at (From (book_in b) (fit_in b) ts (get_or d.rows found.i no_row).id) (get_or d.rows found.i no_row).entries
        (each_at (Says (book_in b) (fit_in b) ts) d.rows says found.i no_row found.row).each found.j no_entry found.own

    abbrev effect : Pass2Effect
    effect = source.by.effect

    here : get_or (all d.rows) p no_entry ≡ entry (book_in b) (fit_in b) source.onto source.by
    here = ap (λ (n : ℕ). get_or (all d.rows) n no_entry) found.is ∙ flat-at d.rows found.i found.j no_entry found.own ∙ source.is

    number_by : number_at r p ≡ source.by.number
    unfolding entry
    number_by = number_is p h ∙ ap (λ (x : Effect). x.number) here

    entry_at : (j : ℕ) → cell r.entries p j ≡ get_or (entry_numbers (entry (book_in b) (fit_in b) source.onto source.by)) j 0
    entry_at j = entry-cell p j h ∙ ap (λ (x : Effect). get_or (entry_numbers x) j 0) here

    effect_at_lem : (j : ℕ) → cell r.collected (number_at r p) j ≡ get_or (collected_numbers effect) j 0
    effect_at_lem j =
        ap (λ (n : ℕ). cell r.collected n j) number_by ∙ collected-cell source.by.number j source.inside
        ∙ ap (λ (t : Pass2Effect). get_or (collected_numbers t) j 0) (source.at no_effect)

    its_effect : ItsEffect r p
    unfolding entry
    its_effect =
        record {
          row = found.i;
          owns = record {
            row = subst (λ (n : ℕ). found.i < n) (sym (row_count b l r m d e)) found.row;
            from = omega (arith, row_first found.i found.row, found.is);
            below = omega (arith, row_first found.i found.row, row-holds found.i found.row, found.is, found.own);
          };
          inside = omega (arith, number_by, collected_count, source.inside);
          origin = λ j q. entry_at j ∙ front effect.origin _ j q ∙ sym (effect_at_lem j ∙ fronts effect.origin (modifier_numbers effect.modifier) (rest effect) j q);
          operator = entry_at 6 ∙ six effect.origin _ _ ∙ sym (effect_at_lem 8 ∙ behind effect.origin effect.modifier 0 (rest effect));
          given = entry_at 9 ∙ nine effect.origin effect.resistance _ _ _ _ ∙ sym (effect_at_lem 12 ∙ behind effect.origin effect.modifier 4 (rest effect));
          resistance = entry_at 10 ∙ ten effect.origin effect.resistance _ _ _ _ ∙ sym (effect_at_lem 13 ∙ behind effect.origin effect.modifier 5 (rest effect));
          attribute =
              row-given b l r m d e found.i 1 ∙ (row_cells 0 0 d.rows d.sources found.i found.row).1 ∙ ap bits (sym source.attribute)
              ∙ sym (effect_at_lem 11 ∙ behind effect.origin effect.modifier 3 (rest effect));
          value =
              entry_value p h ∙ ap (λ (x : Effect). origin_value x.origin) here
              ∙ sym (ap (λ (n : ℕ). get_or r.collected_values n zero_f) number_by ∙ collected-value source.by.number source.inside ∙ ap (λ (t : Pass2Effect). origin_value t.origin) (source.at no_effect));
        }

-- ---- of every result that meets the definition

module _ (b : List ℕ) (l : Lent) (r : Result) (m : Meets b l r) where
  -- "within a row the numbers ascend strictly"; a refused result has no rows
  pub entries_ascend_given : Ascending r
  entries_ascend_given = by (outcome b l) refl
    where
      by : (o : Res Done) → outcome b l ≡ o → Ascending r
      by (ok d) e = ascending b l r m d e
      by (refused x) e = λ i p q a c lt. absurd (omega (arith, a.row, ap (λ (c : Counts). c.rows) m.by-counts ∙ ap (λ (o : Res Done). length (row_list o)) e))

  -- each entry's number is that of its effect
  pub entry_of_its_effect : (p : ℕ) → p < r.counts.entries → ItsEffect r p
  entry_of_its_effect p h = by (outcome b l) refl
    where
      by : (o : Res Done) → outcome b l ≡ o → ItsEffect r p
      by (ok d) e = its_effect b l r m d e p (subst (λ (n : ℕ). p < n) (entry_count b l r m d e) h)
      by (refused x) e = absurd (omega (arith, h, ap (λ (c : Counts). c.entries) m.by-counts ∙ ap (λ (o : Res Done). length (entry_list o)) e))
