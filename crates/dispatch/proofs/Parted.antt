-- From the hits by object to the definition: its rows where all have room, and else the list that is full first.
use Prim.Native.Nat.{ℕ, zero, suc, ◌+◌, ◌≤◌, ◌<◌, ◌^◌}
use native.Mathlib.Nat.{zero-add}
use native.Mathlib.Omega.{arith}
use mathlib.Core.Path.{◌≡◌, refl, sym, ap, subst, ◌∙◌}
use mathlib.Core.Bool.{Bool, true, not, ◌&&◌, ◌||◌, cond}
use mathlib.Core.List.{List, [], ◌∷◌, map}
use mathlib.Core.Option.{none, some}
use lib.Dec.{eqb, ltb}
use lib.IntN.{ℤ}
use lib.Ieee.{Float}
use lib.ListN.{length, get_or, take, drop, length-map}
use lib.Seq.{length-take-le, get_or-take, take_at}
use mir.Syntax.{w32}
use mir.Val.{SFits}
use borrow.Author.Tests.{eq-eqb, ne_eqb, ltb-true}
use Rattle.laws.specs.Lists.{eq_z, keep, some?, every?, flat, from, ascends, insert_all, total}
use Rattle.laws.specs.Columns.{Col}
use Rattle.laws.specs.Floats.{zero_f}
use Rattle.laws.proofs.Bools.{and_left, and_right}
use Rattle.laws.proofs.Maps.{map_same, map-map, map-take, map_at, map_itself}
use Rattle.laws.proofs.Keep.{keep-map, every_kept}
use Rattle.laws.proofs.Every.{every_at, every_by, every_map, every_weaker, every_take, every_drop, some_map, some_flat}
use Rattle.laws.proofs.Flat.{flat_map, flat-length}
use Rattle.laws.proofs.From.{table_of}
use Rattle.laws.proofs.Order.{eq_z_sym}
use Rattle.laws.proofs.Signs.{eq_z-bits}
use Rattle.laws.proofs.Inserts.{insert_all_every}
use Rattle.rules.specs.Bytes.{bits, signed, u32_at, count_of, record_at}
use Rattle.rules.specs.Sheet.{Book, Fit, fit_of, base_from, bases_of}
use Rattle.rules.specs.Item.{object, no_item}
use Rattle.rules.specs.Dispatch.{Row, Key, same_key, base_keys, hit_keys, ids_of, row_of, rows}
use Rattle.rules.specs.Columns.{rows_numbers}
use Rattle.rules.specs.declared.Pass2Effect.{Pass2Effect}
use Rattle.info.specs.Stands.{effect_at, numbered_at}
use Rattle.info.proofs.Narrow.{signed_narrow}
use Rattle.hits.specs.Strikes.{Strike, strike, Listed, Listing, arrivals, effects_on, key_of, key_numbers, Segmented}
use Rattle.hits.proofs.Gathering.{inside?, inside_take}
use Rattle.hits.proofs.Numbering.{arrivals-inside, arrivals_keys, arrivals_listed}
use Rattle.hits.proofs.Cutting.{parts_few, parts_numbered, parts_hits, parts_placed, parts_ended}
use Rattle.rows.specs.Tallies.{narrow?}
use Rattle.rows.specs.Entries.{row_for, rows_for}
use Rattle.rows.proofs.Defined.{rows_defined}
use Rattle.rows.proofs.Bounds.{narrow_fits, fits_narrow}
use Rattle.rows.specs.Effects.{Effects}
use Rattle.rows.specs.Parts.{Parts, Parting, part_rows, rows_to}
use Rattle.rows.proofs.Owned.{numbers_length}
use Rattle.dispatch.specs.Keyed.{is_row}
use Rattle.dispatch.specs.Whole.{Collection, Collecting, full}
use Rattle.dispatch.proofs.Rooms.{after, at_past, verdict_rows, verdict_none, verdict_past, full_verdict}
use Rattle.dispatch.proofs.ByObject.{ids_on, base_ids, Agrees, rows_after, some_only, some_and}

-- functions that agree on the numbers
flat_table_same : {A : Type 0} (f g : ℕ → List A) (a n : ℕ) → ((i : ℕ) → a ≤ i → i < a + n → f i ≡ g i) → flat f (from a n) ≡ flat g (from a n)
flat_table_same f g a zero e = refl
flat_table_same f g a (suc n) e = rw (e a (omega arith) (omega arith), flat_table_same f g (suc a) n (λ i l m. e i (omega arith) (omega arith))) refl

-- ids by their bits
same_ids : (a : ℤ) → SFits w32 a → (l : List ℤ) → every? narrow? l ≡ true → some? (λ x. eqb (bits x) (bits a)) l ≡ some? (eq_z a) l
same_ids a w [] h = refl
same_ids a w (x ∷ l) h =
    ap (λ (t : Bool). t || some? (λ y. eqb (bits y) (bits a)) l) (eq_z-bits {w = w32} x a (narrow_fits x (and_left (narrow? x) (every? narrow? l) h)) w ∙ eq_z_sym x a)
    ∙ ap (λ (t : Bool). eq_z a x || t) (same_ids a w l (and_right (narrow? x) (every? narrow? l) h))

-- the row of a key among rows, by its numbers
row_test : (o x e : ℕ) (rs : List Row) → some? (is_row o x) (rows_numbers e 0 rs []) ≡ some? (λ r. eqb r.object o && eqb (bits r.id) x) rs
row_test o x e [] = refl
row_test o x e (r ∷ rs) = ap (λ (t : Bool). (eqb r.object o && eqb (bits r.id) x) || t) (row_test o x (e + length r.entries) rs)

-- base attributes have ids of 32 bits
pub bases_narrow : (b : List ℕ) (pairs : List (List ℕ)) (i : ℕ) → every? narrow? (base_ids (fit_of b pairs) i) ≡ true
unfolding fit_of
bases_narrow b pairs i =
    let f = fit_of b pairs in
    let o = object f i in
    every_map narrow? (λ r. r.attribute_id) (bases_of f o)
    ∙ every_take (λ r. narrow? r.attribute_id) o.attributes (drop o.first_attribute f.bases)
    (every_drop (λ r. narrow? r.attribute_id) o.first_attribute f.bases
    (every_map (λ r. narrow? r.attribute_id) (λ j. base_from j (record_at b pairs 7 j)) (from 0 (count_of pairs 7))
    ∙ every_by (λ j. narrow? (base_from j (record_at b pairs 7 j)).attribute_id) (from 0 (count_of pairs 7)) 0
    (λ j h. fits_narrow (signed (u32_at (record_at b pairs 7 (get_or (from 0 (count_of pairs 7)) j 0)) 0)) (signed_narrow (u32_at (record_at b pairs 7 (get_or (from 0 (count_of pairs 7)) j 0)) 0)))))

-- ---- list 1, cut to its effects

module _ {es : List Pass2Effect} {n : ℕ} {c : List (List ℕ)} {v : List Float} {objects : ℕ} (C : Collection es n c v objects) where
  pub as_listed : Listed es c objects
  as_listed = record { inside = rw (sym C.count) C.inside; numbers = C.held.numbers; pointing = C.points; narrow = C.narrow }

  pub cut_long : length (take n c) ≡ n
  cut_long = length-take-le n c C.inside

  pub cut_even : length (take n v) ≡ n
  cut_even = length-take-le n v C.even

  pub as_effects : Effects es (take n c) (take n v) objects
  as_effects =
      record {
        count = sym (cut_long ∙ C.count);
        even = cut_even ∙ sym cut_long;
        held =
            record {
              numbers = λ j h. get_or-take n c j [] (rw C.count h) ∙ C.held.numbers j h;
              values = λ j h. get_or-take n v j zero_f (rw C.count h) ∙ C.held.values j h;
              narrow = C.held.narrow;
            };
        points = λ j h. let l : j < n = rw cut_long at h in rw (get_or-take n c j [] l) (C.points j (rw (sym C.count) l));
      }

pub listing : {n : ℕ} {c : List (List ℕ)} {v : List Float} {objects : ℕ} → Collecting n c v objects → Listing n c objects
listing C = record { effects = C.effects; count = C.collection.count; listed = as_listed C.collection }

module _ (k : Book) (f : Fit) (objects : ℕ) (long : length f.objects ≡ objects) (number : (i : ℕ) → i < length f.objects → (object f i).number ≡ i)
    (asc : (i : ℕ) → i < objects → ascends (base_ids f i) ≡ true) (es : List Pass2Effect) (room3 : ℕ) where
  abbrev hs : List Strike
  hs = arrivals k f 0 es

  abbrev got : List Strike
  got = take room3 hs

  abbrev pub part_of : ℕ → List ℕ
  part_of i = effects_on i got

  number_of : (i : ℕ) → i < objects → (object f i).number ≡ i
  number_of i h = number i (rw long h)

  -- ---- the parts

  module _ {entries₀ entries : List (List ℕ)} {ends past : List ℕ} {used : ℕ} (S : Segmented es hs room3 objects entries₀ entries ends past used) (few : objects ≤ 1024) where
    pub parts_of : Parts part_of objects entries ends
    parts_of = record { placed = parts_placed k f number es objects room3 long S; ended = parts_ended k f number es objects room3 long S few }

    pub parting_of : {n : ℕ} {c : List (List ℕ)} {v values : List Float} → Collection es n c v objects → room3 ≤ length entries → room3 ≤ length values → room3 < 2 ^ 32 → Parting objects entries values ends (take n c)
    parting_of {n} {c} C p q r =
        let most = parts_few k f number es objects room3 long in
        record {
          part = part_of;
          parts = parts_of;
          inside = omega arith;
          even = omega arith;
          few = omega arith;
          numbered = subst (λ (m : ℕ). every? (λ j. ltb j m) (flat part_of (from 0 objects)) ≡ true) (sym (cut_long C ∙ C.count)) (parts_numbered k f number es objects room3 long);
        }

  -- ---- all have room: the definition's rows

  pub rows_are : length hs ≤ room3 → rows_to k f es part_of objects ≡ rows k f es
  unfolding rows
  rows_are l =
      flat_table_same (part_rows k f es part_of) (λ i. map (row_of k f es (object f i)) (ids_of k f es (object f i))) 0 objects
      (λ i a b. ap (rows_for k f (object f i)) (parts_hits k f number es objects room3 long l i (omega arith)) ∙ rows_defined k f es (object f i))
      ∙ sym (flat_map (λ o. map (row_of k f es o) (ids_of k f es o)) (object f) (from 0 objects))
      ∙ ap (flat (λ o. map (row_of k f es o) (ids_of k f es o))) (ap (λ (m : ℕ). map (object f) (from 0 m)) (sym long) ∙ table_of f.objects no_item)

  -- ---- how many rows

  abbrev keys : List Key
  keys = hit_keys k f es

  keys_taken : take room3 keys ≡ map (key_of es) got
  keys_taken = ap (take room3) (sym (arrivals_keys k f es)) ∙ sym (map-take (key_of es) room3 hs)

  abbrev known : List Key
  known = after (base_keys f) (take room3 keys)

  got_inside : inside? objects got ≡ true
  got_inside = inside_take objects room3 hs (subst (λ (m : ℕ). inside? m hs ≡ true) long (arrivals-inside k f number 0 es))

  -- the ids of object i
  abbrev ids_at : ℕ → List ℤ
  ids_at i = insert_all (map (λ n. n.effect.target_attribute_id) (map (numbered_at es) (part_of i))) (base_ids f i)

  ids_are : (i : ℕ) → ids_on i (map (key_of es) got) ≡ map (λ n. n.effect.target_attribute_id) (map (numbered_at es) (part_of i))
  ids_are i =
      ap (map (λ h. h.id)) (keep-map (λ h. eqb h.object i) (key_of es) got)
      ∙ map-map (λ h. h.id) (key_of es) (keep (λ h. eqb h.object i) got)
      ∙ sym (ap (map (λ n. n.effect.target_attribute_id)) (map-map (numbered_at es) (λ h. h.effect) (keep (λ h. eqb h.object i) got))
      ∙ map-map (λ n. n.effect.target_attribute_id) (λ h. numbered_at es h.effect) (keep (λ h. eqb h.object i) got))

  agrees : Agrees objects known (λ i. insert_all (ids_on i (take room3 keys)) (base_ids f i))
  agrees =
      rows_after f objects long number_of asc (take room3 keys)
      (ap (every? (λ h. ltb h.object objects)) keys_taken ∙ every_map (λ h. ltb h.object objects) (key_of es) got ∙ got_inside)

  ids_known : (i : ℕ) → insert_all (ids_on i (take room3 keys)) (base_ids f i) ≡ ids_at i
  ids_known i = ap (λ (l : List Key). insert_all (ids_on i l) (base_ids f i)) keys_taken ∙ ap (λ (l : List ℤ). insert_all l (base_ids f i)) (ids_are i)

  pub rows_count : length (rows_to k f es part_of objects) ≡ length known
  unfolding rows_for
  rows_count =
      flat-length (part_rows k f es part_of) (from 0 objects)
      ∙ ap total (map_same (λ i. length (part_rows k f es part_of i)) (λ i. length (insert_all (ids_on i (take room3 keys)) (base_ids f i)))
      (λ i. length-map (ids_at i) (row_for k f (object f i) (map (numbered_at es) (part_of i))) ∙ sym (ap length (ids_known i))) (from 0 objects))
      ∙ sym agrees.count

  -- ---- which list is full

  module _ (room2 : ℕ) (based : length (base_keys f) ≤ room2) where
    no_key : Key
    no_key = key_of es (strike 0 0)

    pub full_rows : room2 < length (rows_to k f es part_of objects) → full room2 room3 k f es ≡ some 2
    full_rows l = full_verdict room2 room3 no_key keys room3 (base_keys f) 0 (zero-add room3) based ∙ verdict_rows room2 room3 (base_keys f) keys no_key (rw rows_count at l)

    keys_long : length keys ≡ length hs
    keys_long = ap length (sym (arrivals_keys k f es)) ∙ length-map hs (key_of es)

    pub full-not : length (rows_to k f es part_of objects) ≤ room2 → length hs ≤ room3 → full room2 room3 k f es ≡ none
    full-not l m =
        full_verdict room2 room3 no_key keys room3 (base_keys f) 0 (zero-add room3) based ∙ verdict_none room2 room3 (base_keys f) keys no_key (rw rows_count at l) (rw keys_long m)

    full_past : length (rows_to k f es part_of objects) ≤ room2 → room3 < length hs → full room2 room3 k f es ≡ some (at_past room2 known (key_of es (get_or hs room3 (strike 0 0))))
    full_past l m =
        full_verdict room2 room3 no_key keys room3 (base_keys f) 0 (zero-add room3) based ∙ verdict_past room2 room3 (base_keys f) keys no_key (rw rows_count at l) (rw keys_long m)
        ∙ ap (λ (h : Key). some (at_past room2 known h)) (ap (λ (t : List Key). get_or t room3 no_key) (sym (arrivals_keys k f es)) ∙ map_at (key_of es) hs room3 (strike 0 0) no_key m)

  -- ---- the row of the hit past the room

  module _ (based : (i : ℕ) → every? narrow? (base_ids f i) ≡ true) (held : (j : ℕ) → j < length es → SFits w32 (effect_at es j).target_attribute_id) where
    hits_narrow : (i : ℕ) → every? narrow? (map (λ n. n.effect.target_attribute_id) (map (numbered_at es) (part_of i))) ≡ true
    hits_narrow i =
        every_map narrow? (λ n. n.effect.target_attribute_id) (map (numbered_at es) (part_of i)) ∙ every_map (λ n. narrow? n.effect.target_attribute_id) (numbered_at es) (part_of i)
        ∙ every_weaker (λ j. ltb j (length es)) (λ j. narrow? (effect_at es j).target_attribute_id) (λ j p. fits_narrow (effect_at es j).target_attribute_id (held j (ltb-true j (length es) p))) (part_of i)
        (every_map (λ j. ltb j (length es)) (λ h. h.effect) (keep (λ h. eqb h.object i) got)
        ∙ every_kept (λ h. ltb h.effect (length es)) (λ h. eqb h.object i) got (every_take (λ h. ltb h.effect (length es)) room3 hs listed))
      where
        listed : every? (λ h. ltb h.effect (length es)) hs ≡ true
        listed = arrivals_listed k f (length es) 0 es (omega arith)

    ids_narrow : (i : ℕ) → every? narrow? (ids_at i) ≡ true
    ids_narrow i = insert_all_every narrow? (map (λ n. n.effect.target_attribute_id) (map (numbered_at es) (part_of i))) (base_ids f i) (hits_narrow i) (based i)

    module _ (o : ℕ) (a : ℤ) (w : SFits w32 a) where
      abbrev keyed : Row → Bool
      keyed r = eqb r.object o && eqb (bits r.id) (bits a)

      part_keyed : (i : ℕ) → i < objects → some? keyed (part_rows k f es part_of i) ≡ eqb i o && some? (eq_z a) (ids_at i)
      unfolding rows_for row_for
      part_keyed i l =
          some_map keyed (row_for k f (object f i) (map (numbered_at es) (part_of i))) (ids_at i)
          ∙ some_and (eqb (object f i).number o) (λ x. eqb (bits x) (bits a)) (ids_at i)
          ∙ ap (λ (m : ℕ). eqb m o && some? (λ x. eqb (bits x) (bits a)) (ids_at i)) (number_of i l)
          ∙ ap (λ (t : Bool). eqb i o && t) (same_ids a w (ids_at i) (ids_narrow i))

      rows_keyed : o < objects → some? keyed (rows_to k f es part_of objects) ≡ some? (eq_z a) (ids_at o)
      rows_keyed l =
          some_flat keyed (part_rows k f es part_of) (from 0 objects)
          ∙ some_only (λ i. some? keyed (part_rows k f es part_of i)) o 0 objects
          (λ i x y e. part_keyed i (omega arith) ∙ ap (λ (t : Bool). t && some? (eq_z a) (ids_at i)) (ne_eqb i o (λ s. e (sym s)))) (omega arith) (omega arith)
          ∙ part_keyed o l ∙ ap (λ (t : Bool). t && some? (eq_z a) (ids_at o)) (eq-eqb o o refl)

    -- what the code finds of it
    pub full_list : (room2 : ℕ) → length (base_keys f) ≤ room2 → room3 < length hs → {rows₀ rows' : List (List ℕ)} {past : List ℕ} (m l : ℕ) → m ≡ length (rows_to k f es part_of objects) → length (rows_to k f es part_of objects) ≤ room2
        → Col (λ r. r) (rows_numbers 0 0 (rows_to k f es part_of objects) []) rows₀ rows' → past ≡ key_numbers es (get_or hs room3 (strike 0 0))
        → l ≡ cond (eqb m room2 && not (some? (is_row (get_or past 0 0) (get_or past 1 0)) (take m rows'))) 2 3 → full room2 room3 k f es ≡ some l
    full_list room2 few over {rows₀} {rows'} {past} m l e most K p q =
        full_past room2 few most over ∙ sym (ap some (q ∙ ap (λ (x : ℕ). cond (eqb x room2 && not (some? (is_row (get_or past 0 0) (get_or past 1 0)) (take m rows'))) 2 3) (e ∙ rows_count) ∙ ap (λ (t : Bool). cond (eqb (length known) room2 && not t) 2 3) found))
      where
        s : Strike
        s = get_or hs room3 (strike 0 0)

        h : Key
        h = key_of es s

        there : s.object < objects
        there = ltb-true s.object objects (every_at (λ x. ltb x.object objects) hs room3 (strike 0 0) (subst (λ (y : ℕ). inside? y hs ≡ true) long (arrivals-inside k f number 0 es)) over)

        one : s.effect < length es
        one = ltb-true s.effect (length es) (every_at (λ x. ltb x.effect (length es)) hs room3 (strike 0 0) (arrivals_listed k f (length es) 0 es (omega arith)) over)

        front : take m rows' ≡ rows_numbers 0 0 (rows_to k f es part_of objects) []
        front =
            ap (take m) K.is
            ∙ take_at (map (λ r. r) (rows_numbers 0 0 (rows_to k f es part_of objects) [])) (drop (length (rows_numbers 0 0 (rows_to k f es part_of objects) [])) rows₀) m
            (length-map (rows_numbers 0 0 (rows_to k f es part_of objects) []) (λ r. r) ∙ numbers_length 0 (rows_to k f es part_of objects) ∙ sym e)
            ∙ map_itself (rows_numbers 0 0 (rows_to k f es part_of objects) [])

        found : some? (is_row (get_or past 0 0) (get_or past 1 0)) (take m rows') ≡ some? (same_key h) known
        found =
            ap (λ (x : List ℕ). some? (is_row (get_or x 0 0) (get_or x 1 0)) (take m rows')) p ∙ ap (some? (is_row s.object (bits h.id))) front
            ∙ row_test s.object (bits h.id) 0 (rows_to k f es part_of objects) ∙ rows_keyed s.object h.id (held s.effect one) there
            ∙ sym (agrees.member h there ∙ ap (some? (eq_z h.id)) (ids_known s.object))
