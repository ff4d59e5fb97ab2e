-- Who is touched, of every result that meets the entry's contract: read off lists 1, 2 and 3.
use Prim.Native.Nat.{ℕ, zero, suc, ◌+◌, ◌-◌, ◌<◌}
use native.Mathlib.Omega.{arith}
use mathlib.Core.Path.{◌≡◌, refl, sym, ap, ap₂, subst, ◌∙◌}
use mathlib.Core.Bool.{Bool, true, false, ◌&&◌}
use mathlib.Core.List.{List, [], ◌∷◌, ◌++◌, map, append_assoc}
use lib.Dec.{eqb}
use lib.IntN.{ℤ}
use lib.ListN.{length, take, get_or, replicate, length-append, length-map, get_or-append}
use Rattle.laws.specs.Lists.{eq_z, every?, put, keep, flat, span, total}
use Rattle.laws.specs.Floats.{finite}
use Rattle.laws.specs.Columns.{column}
use Rattle.laws.proofs.Bools.{and_left, and_right}
use Rattle.laws.proofs.Every.{every_at, every_weaker, map_where}
use Rattle.laws.proofs.Keep.{keep-map, keep_same}
use Rattle.laws.proofs.Maps.{map_append, map_at, map-map, map_itself}
use Rattle.laws.proofs.Spans.{span_between}
use Rattle.rules.specs.Answer.{Res, ok, refused}
use Rattle.rules.specs.Bytes.{signed, bits}
use Rattle.rules.specs.Sheet.{Book, Fit}
use Rattle.rules.specs.Item.{object}
use Rattle.rules.specs.Columns.{Counts, yes1, origin_numbers, origin_value, modifier_numbers, collected_numbers, rows_numbers, entry_numbers, zero_entry, collected_list, row_list, entry_list, collected_column, row_column, entry_column}
use Rattle.rules.specs.Dispatch.{Row}
use Rattle.rules.specs.Outcome.{Lent, Done, collected_in, rows_in, rooms_of, outcome}
use Rattle.rules.specs.declared.Item.{Item}
use Rattle.rules.specs.declared.Effect.{Effect}
use Rattle.rules.specs.declared.Origin.{Origin}
use Rattle.rules.specs.declared.Origin.TheVariants as origin
use Rattle.rules.specs.declared.Modifier.{Modifier}
use Rattle.rules.specs.declared.Modifier.TheVariants.{LocationRequiredSkillModifier, LocationGroupModifier, LocationModifier, OwnerRequiredSkillModifier, ItemModifier}
use Rattle.rules.specs.declared.Pass2Effect.{Pass2Effect}
use Rattle.rules.specs.declared.Source.{Source}
use Rattle.promises.specs.NoMemory.{book_in, fit_in}
use Rattle.promises.specs.Result.{Result, Meets}
use Rattle.promises.proofs.Ends.{numbers_length}
use Rattle.promises.proofs.FloatsCollected.{held, held-is, held_func, held_taken, fine_taken, fine_row}
use Rattle.promises.proofs.FloatsSheet.{sheet_fine, sheet_collected, sheet_rows}
use Rattle.promises.proofs.Given.{row_count}
use Rattle.promises.proofs.Numbers.{eleven, behind, rest, all, no_effect}
use Rattle.touched.specs.Named.{named_by, type_of, named}
use Rattle.touched.specs.Touched.{entries_for, entries_in, modifier_in, type_in, named_in, attribute_in, named_sum, named_sum_in}
use Rattle.touched.proofs.Touched.{collected-is, rows_are, touched, entry_count}

-- ---- a row of list 1

modifier_read : (g : Origin) (m : Modifier) (r : List ℕ) → held_func m ≡ true → modifier_in (origin_numbers g ++ modifier_numbers m ++ r) ≡ m
modifier_read (origin.Effect e o c a) (LocationRequiredSkillModifier s) r h = ap LocationRequiredSkillModifier (held-is s h)
modifier_read (origin.Effect e o c a) (LocationGroupModifier g) r h = ap LocationGroupModifier (held-is g h)
modifier_read (origin.Effect e o c a) LocationModifier r h = refl
modifier_read (origin.Effect e o c a) (OwnerRequiredSkillModifier s) r h = ap OwnerRequiredSkillModifier (held-is s h)
modifier_read (origin.Effect e o c a) ItemModifier r h = refl
modifier_read (origin.Buff b v) (LocationRequiredSkillModifier s) r h = ap LocationRequiredSkillModifier (held-is s h)
modifier_read (origin.Buff b v) (LocationGroupModifier g) r h = ap LocationGroupModifier (held-is g h)
modifier_read (origin.Buff b v) LocationModifier r h = refl
modifier_read (origin.Buff b v) (OwnerRequiredSkillModifier s) r h = ap OwnerRequiredSkillModifier (held-is s h)
modifier_read (origin.Buff b v) ItemModifier r h = refl

type_read : (k : Book) (f : Fit) (g : Origin) (m : Modifier) (r : List ℕ) → type_in f (origin_numbers g ++ modifier_numbers m ++ r) ≡ type_of k f g
type_read k f (origin.Effect e o c a) m r = refl
type_read k f (origin.Buff b v) m r = refl

module _ (k : Book) (f : Fit) (t : Pass2Effect) (h : held_taken t ≡ true) where
  row_names : (o : Item) → named_in k f (collected_numbers t) o ≡ named k f t o
  unfolding named
  row_names o =
      let x = collected_numbers t in
      ap (λ (m : Modifier). named_by k f m (type_in f x) (get_or x 10 0) o) (modifier_read t.origin t.modifier (rest t) (and_right (held t.target_attribute_id) (held_func t.modifier) h))
      ∙ ap (λ (y : ℤ). named_by k f t.modifier y (get_or x 10 0) o) (type_read k f t.origin t.modifier (rest t))
      ∙ ap (λ (n : ℕ). named_by k f t.modifier (type_of k f t.origin) n o) (behind t.origin t.modifier 2 (rest t))

  row_attribute : attribute_in (collected_numbers t) ≡ t.target_attribute_id
  row_attribute = ap signed (behind t.origin t.modifier 3 (rest t)) ∙ held-is t.target_attribute_id (and_left (held t.target_attribute_id) (held_func t.modifier) h)

-- ---- a column's front

map-front : {R B : Type 0} (enc : R → B) (rs : List R) (ys : List B) → take (length rs) (map enc rs ++ ys) ≡ map enc rs
map-front enc [] ys = refl
map-front {R} {B} enc (r ∷ rs) ys = ap (λ (l : List B). enc r ∷ l) (map-front enc rs ys)

column_front : {R B : Type 0} (enc : R → B) (z : B) (rs : List R) (n : ℕ) → take (length rs) (column enc z rs n) ≡ map enc rs
unfolding column
column_front enc z rs n = map-front enc rs (replicate (n - length rs) z)

-- ---- the entries of list 2's rows, in list 3

module _ (i : ℕ) (a : ℤ) (c : List (List ℕ)) where
  abbrev key_in : List ℕ → Bool
  key_in x = eqb (get_or x 0 0) i && eq_z (signed (get_or x 1 0)) a

  abbrev key : Row → Bool
  key r = eqb r.object i && eq_z r.id a

  abbrev own_in : List ℕ → List (List ℕ)
  own_in x = span (get_or x 2 0) (get_or x 3 0) c

  abbrev own : Row → List Effect
  own r = r.entries

  put_own : (r : Row) (x : List ℕ) (rs : List Row) (xs : List (List ℕ)) (t : Bool) → own_in x ≡ map entry_numbers r.entries → flat own_in xs ≡ map entry_numbers (flat own rs) → flat own_in (put t x xs) ≡ map entry_numbers (flat own (put t r rs))
  put_own r x rs xs true p q = ap₂ (λ (y z : List (List ℕ)). y ++ z) p q ∙ sym (map_append entry_numbers r.entries (flat own rs))
  put_own r x rs xs false p q = q

  -- one row more, whose entries stand from e on
  step : (r : Row) (rs : List Row) (xs : List (List ℕ)) (e s n : ℕ) → held r.id ≡ true → span e (length r.entries) c ≡ map entry_numbers r.entries → flat own_in (keep key_in xs) ≡ map entry_numbers (flat own (keep key rs))
      → flat own_in (keep key_in ((r.object ∷ bits r.id ∷ e ∷ length r.entries ∷ s ∷ n ∷ []) ∷ xs)) ≡ map entry_numbers (flat own (keep key (r ∷ rs)))
  step r rs xs e s n h p q =
      let x = r.object ∷ bits r.id ∷ e ∷ length r.entries ∷ s ∷ n ∷ [] in
      ap (λ (y : ℤ). flat own_in (put (eqb r.object i && eq_z y a) x (keep key_in xs))) (held-is r.id h)
      ∙ put_own r x (keep key rs) (keep key_in xs) (key r) p q

  -- the front of what is left, and what is behind it
  front_of : (pre post : List (List ℕ)) (r : Row) (rs : List Row) → c ≡ pre ++ (map entry_numbers (all (r ∷ rs)) ++ post) → c ≡ pre ++ (map entry_numbers r.entries ++ (map entry_numbers (all rs) ++ post))
  front_of pre post r rs h =
      h ∙ ap (λ (l : List (List ℕ)). pre ++ (l ++ post)) (map_append entry_numbers r.entries (all rs))
      ∙ ap (λ (l : List (List ℕ)). pre ++ l) (append_assoc (map entry_numbers r.entries) (map entry_numbers (all rs)) post)

  front-is : (pre post : List (List ℕ)) (r : Row) (rs : List Row) (e : ℕ) → c ≡ pre ++ (map entry_numbers (all (r ∷ rs)) ++ post) → e ≡ length pre → span e (length r.entries) c ≡ map entry_numbers r.entries
  front-is pre post r rs e h q =
      ap (λ (n : ℕ). span n (length r.entries) c) q
      ∙ ap (λ (n : ℕ). span (length pre) n c) (sym (length-map r.entries entry_numbers))
      ∙ ap (span (length pre) (length (map entry_numbers r.entries))) (front_of pre post r rs h)
      ∙ span_between pre (map entry_numbers r.entries) (map entry_numbers (all rs) ++ post)

  behind-is : (pre post : List (List ℕ)) (r : Row) (rs : List Row) → c ≡ pre ++ (map entry_numbers (all (r ∷ rs)) ++ post) → c ≡ (pre ++ map entry_numbers r.entries) ++ (map entry_numbers (all rs) ++ post)
  behind-is pre post r rs h = front_of pre post r rs h ∙ sym (append_assoc pre (map entry_numbers r.entries) (map entry_numbers (all rs) ++ post))

  further : (pre : List (List ℕ)) (r : Row) (e : ℕ) → e ≡ length pre → e + length r.entries ≡ length (pre ++ map entry_numbers r.entries)
  further pre r e q = omega (arith, q, length-append pre (map entry_numbers r.entries), length-map r.entries entry_numbers)

  abbrev held_row : Row → Bool
  held_row r = held r.id

  spans : (rs : List Row) (qs : List (List Source)) (e s : ℕ) (pre post : List (List ℕ)) → every? held_row rs ≡ true → c ≡ pre ++ (map entry_numbers (all rs) ++ post) → e ≡ length pre
      → flat own_in (keep key_in (rows_numbers e s rs qs)) ≡ map entry_numbers (flat own (keep key rs))
  spans [] qs e s pre post h w q = refl
  spans (r ∷ rs) [] e s pre post h w q =
      step r rs (rows_numbers (e + length r.entries) s rs []) e s 0 (and_left (held_row r) (every? held_row rs) h) (front-is pre post r rs e w q)
      (spans rs [] (e + length r.entries) s (pre ++ map entry_numbers r.entries) post (and_right (held_row r) (every? held_row rs) h) (behind-is pre post r rs w) (further pre r e q))
  spans (r ∷ rs) (u ∷ us) e s pre post h w q =
      step r rs (rows_numbers (e + length r.entries) (s + length u) rs us) e s (length u) (and_left (held_row r) (every? held_row rs) h) (front-is pre post r rs e w q)
      (spans rs us (e + length r.entries) (s + length u) (pre ++ map entry_numbers r.entries) post (and_right (held_row r) (every? held_row rs) h) (behind-is pre post r rs w) (further pre r e q))

-- ---- a result that meets, whose run is done

module _ (b : List ℕ) (l : Lent) (r : Result) (m : Meets b l r) (d : Done) (e : outcome b l ≡ ok d) where
  abbrev k : Book
  k = book_in b

  abbrev f : Fit
  f = fit_in b

  rows_front : take r.counts.rows r.rows ≡ rows_numbers 0 0 d.rows d.sources
  unfolding row_column
  rows_front =
      let n = rows_numbers 0 0 d.rows d.sources in
      ap (λ (i : ℕ). take i r.rows) (row_count b l r m d e ∙ sym (numbers_length 0 0 d.rows d.sources))
      ∙ ap (take (length n)) (m.by_rows ∙ ap (λ (o : Res Done). row_column o l.rows) e)
      ∙ column_front (λ x. x) (replicate 6 0) n l.rows ∙ map_itself n

  entries_are : r.entries ≡ map entry_numbers (all d.rows) ++ replicate (l.entries - length (all d.rows)) zero_entry
  unfolding entry_column column
  entries_are = m.by_entries ∙ ap (λ (o : Res Done). entry_column o l.entries) e

  collected_are : r.collected ≡ map collected_numbers d.collected ++ replicate (l.collected - length d.collected) (replicate 14 0)
  unfolding collected_column column
  collected_are = m.by-collected ∙ ap (λ (o : Res Done). collected_column o l.collected) e

  collected_count : r.counts.collected ≡ length d.collected
  collected_count = ap (λ (c : Counts). c.collected) m.by-counts ∙ ap (λ (o : Res Done). length (collected_list o)) e

  rows_held : every? (λ (x : Row). held x.id) d.rows ≡ true
  rows_held =
      subst (λ (rs : List Row). every? (λ (x : Row). held x.id) rs ≡ true) (sym (rows_are b l d e))
      (every_weaker (fine_row k f (sheet_fine b l d e)) (λ x. held x.id) (λ x h. and_left (held x.id) (finite x.base && every? (λ y. finite (origin_value y.origin)) x.entries) h) (rows_in k f) (sheet_rows b l d e))

  effects_held : every? held_taken d.collected ≡ true
  effects_held =
      subst (λ (ts : List Pass2Effect). every? held_taken ts ≡ true) (sym (collected-is b l d e))
      (every_weaker fine_taken held_taken (λ t h. and_right (finite (origin_value t.origin)) (held_taken t) h) (collected_in k f) (sheet_collected b l d e))

  -- what is read off the columns is what the rows have
  entries_read : (i : ℕ) (a : ℤ) (j : ℕ) → entries_in r i a j ≡ map entry_numbers (entries_for d.rows i a j)
  entries_read i a j =
      ap (λ (xs : List (List ℕ)). keep (λ x. eqb (get_or x 11 0) j) (flat (own_in i a r.entries) (keep (key_in i a r.entries) xs))) rows_front
      ∙ ap (keep (λ x. eqb (get_or x 11 0) j)) (spans i a r.entries d.rows d.sources 0 0 [] (replicate (l.entries - length (all d.rows)) zero_entry) rows_held entries_are refl)
      ∙ keep-map (λ x. eqb (get_or x 11 0) j) entry_numbers found
      ∙ ap (map entry_numbers) (keep_same (λ x. eqb (get_or (entry_numbers x) 11 0) j) (λ x. eqb x.number j) (λ x. ap (λ (n : ℕ). eqb n j) (eleven x.origin x.resistance _ _ x.quantity x.number)) found)
    where
      found : List Effect
      found = flat (λ x. x.entries) (keep (λ x. eqb x.object i && eq_z x.id a) d.rows)

  collected-at : (j : ℕ) → j < length d.collected → get_or r.collected j [] ≡ collected_numbers (get_or d.collected j no_effect)
  collected-at j h =
      ap (λ (c : List (List ℕ)). get_or c j []) collected_are
      ∙ get_or-append (map collected_numbers d.collected) (replicate (l.collected - length d.collected) (replicate 14 0)) [] j (subst (λ (n : ℕ). j < n) (sym (length-map d.collected collected_numbers)) h)
      ∙ map_at collected_numbers d.collected j no_effect [] h

  done_touched : (i : ℕ) (a : ℤ) (j : ℕ) → i < length f.objects → j < length d.collected
      → length (entries_in r i a j) ≡ yes1 (named_in k f (get_or r.collected j []) (object f i) && eq_z a (attribute_in (get_or r.collected j [])))
  done_touched i a j h n =
      let t = get_or d.collected j no_effect in
      let o = object f i in
      let fits = every_at held_taken d.collected j no_effect effects_held n in
      ap length (entries_read i a j) ∙ length-map (entries_for d.rows i a j) entry_numbers ∙ touched b l d e i a j no_effect h n
      ∙ sym (
      ap (λ (x : List ℕ). yes1 (named_in k f x o && eq_z a (attribute_in x))) (collected-at j n)
      ∙ ap (λ (y : Bool). yes1 (y && eq_z a (attribute_in (collected_numbers t)))) (row_names k f t fits o)
      ∙ ap (λ (y : ℤ). yes1 (named k f t o && eq_z a y)) (row_attribute k f t fits))

  collected-front : take r.counts.collected r.collected ≡ map collected_numbers d.collected
  collected-front =
      ap (λ (n : ℕ). take n r.collected) collected_count ∙ ap (take (length d.collected)) collected_are
      ∙ map-front collected_numbers d.collected (replicate (l.collected - length d.collected) (replicate 14 0))

  sums_same : named_sum_in k f (take r.counts.collected r.collected) ≡ named_sum k f d.collected
  sums_same =
      ap (named_sum_in k f) collected-front
      ∙ ap total (map-map (λ x. length (keep (named_in k f x) f.objects)) collected_numbers d.collected)
      ∙ ap total (map_where held_taken (λ t. length (keep (named_in k f (collected_numbers t)) f.objects)) (λ t. length (keep (named k f t) f.objects))
      (λ t h. ap length (keep_same (named_in k f (collected_numbers t)) (named k f t) (row_names k f t h) f.objects)) d.collected effects_held)

  done_count : r.counts.entries ≡ named_sum_in k f (take r.counts.collected r.collected)
  done_count =
      ap (λ (c : Counts). c.entries) m.by-counts ∙ ap (λ (o : Res Done). length (entry_list o)) e ∙ entry_count b l d e ∙ sym sums_same

-- ---- of every result that meets the definition

module _ (b : List ℕ) (l : Lent) (r : Result) (m : Meets b l r) where
  -- "gets exactly one entry for it on the modified attribute .., and no other object gets any": of each row j of list 1, object i and
  -- attribute a; a refused result has no rows
  pub touched_in_columns : (i : ℕ) (a : ℤ) (j : ℕ) → i < length (fit_in b).objects → j < r.counts.collected
      → length (entries_in r i a j) ≡ yes1 (named_in (book_in b) (fit_in b) (get_or r.collected j []) (object (fit_in b) i) && eq_z a (attribute_in (get_or r.collected j [])))
  touched_in_columns i a j h n = by (outcome b l) refl
    where
      by : (o : Res Done) → outcome b l ≡ o → length (entries_in r i a j) ≡ yes1 (named_in (book_in b) (fit_in b) (get_or r.collected j []) (object (fit_in b) i) && eq_z a (attribute_in (get_or r.collected j [])))
      by (ok d) e = done_touched b l r m d e i a j h (subst (λ (x : ℕ). j < x) (collected_count b l r m d e) n)
      by (refused x) e = absurd (omega (arith, n, ap (λ (c : Counts). c.collected) m.by-counts ∙ ap (λ (o : Res Done). length (collected_list o)) e))

  -- "The length of the entry list is the sum, over collected effects, of the objects so named", refused or not
  pub entry_count_in_columns : r.counts.entries ≡ named_sum_in (book_in b) (fit_in b) (take r.counts.collected r.collected)
  entry_count_in_columns = by (outcome b l) refl
    where
      by : (o : Res Done) → outcome b l ≡ o → r.counts.entries ≡ named_sum_in (book_in b) (fit_in b) (take r.counts.collected r.collected)
      by (ok d) e = done_count b l r m d e
      by (refused x) e =
          ap (λ (c : Counts). c.entries) m.by-counts ∙ ap (λ (o : Res Done). length (entry_list o)) e
          ∙ sym (ap (λ (n : ℕ). named_sum_in (book_in b) (fit_in b) (take n r.collected)) (ap (λ (c : Counts). c.collected) m.by-counts ∙ ap (λ (o : Res Done). length (collected_list o)) e))
