-- The lists of the objects, one object after another, each in its own parts of the columns.
use Rattle.std.specs.Prelude.{Option, Some, None}
use Prim.Native.Nat.{ℕ, zero, suc, ◌+◌, ◌-◌, ◌≤◌, ◌<◌, ◌^◌}
use native.Mathlib.Nat.{add-zero, zero-add, add_assoc, not-suc-le-zero, le_of_suc-le-suc}
use native.Mathlib.Omega.{arith}
use mathlib.Core.Path.{◌≡◌, refl, sym, ap, subst, ◌∙◌}
use mathlib.Core.Bool.{Bool, true}
use mathlib.Core.List.{List, [], ◌∷◌, ◌++◌, map, append_assoc, append-nil}
use lib.Dec.{ltb}
use lib.Ieee.{Float}
use lib.ListN.{length, get_or, take, drop, length-map, length-append, length-drop, take-append-drop}
use lib.Seq.{length-take-le, length_front, drop-append-le, drop-length, take-take, take-nil}
use borrow.Author.Tests.{ltb-true}
use Rattle.laws.specs.Lists.{every?, flat, span, from}
use Rattle.laws.specs.Columns.{laid, Col}
use Rattle.laws.proofs.Maps.{map-map, map_at, map-take}
use Rattle.laws.proofs.Every.{every_at, every_take, every_drop}
use Rattle.laws.proofs.Flat.{flat_append}
use Rattle.laws.proofs.From.{from-length, from_append, from_at, from-take, flat-from-next}
use Rattle.laws.proofs.Spans.{span_length, span_map}
use Rattle.laws.proofs.Sums.{flat_part}
use Rattle.laws.proofs.Laid.{drop-laid, col_none, col_same, col_append}
use Rattle.rules.specs.Bytes.{bits}
use Rattle.rules.specs.Sheet.{Book, Fit}
use Rattle.rules.specs.Item.{object}
use Rattle.rules.specs.Dispatch.{Row}
use Rattle.rules.specs.Columns.{origin_value, rows_numbers, entry_numbers}
use Rattle.rules.specs.declared.Pass2Effect.{Pass2Effect}
use Rattle.info.specs.Stands.{numbered_at}
use Rattle.rows.specs.Tallies.{hit_number, OfCollected}
use Rattle.rows.specs.Entries.{hits_in, rows_for}
use Rattle.rows.specs.Effects.{Effects, Listing}
use Rattle.rows.specs.Laying.{entries_of, ObjectLaid}
use Rattle.rows.specs.Parts.{hits_to, Parts, Parting, part_rows, rows_to, ListsLaid, AllLaid}
use Rattle.rows.proofs.Owned.{numbers_length}

-- ---- columns

-- rows laid in a part of a column that begins behind the rows
pub col_part : {R B : Type 0} (enc : R → B) (rs ss : List R) (n m : ℕ) {c₀ c ys c' : List B} → Col enc rs c₀ c → n ≡ length rs → n + m ≤ length c → length ss ≤ m → Col enc ss (span n m c) ys
    → c' ≡ take n c ++ (ys ++ drop m (drop n c)) → Col enc (rs ++ ss) c₀ c'
col_part {R} {B} enc rs ss n m {c₀} {c} {ys} {c'} K k h l Y e =
    col_append enc rs ss n K k (omega (arith, K.long)) (e ∙ ap (λ (t : List B). take n c ++ t) joined)
  where
    long : m ≤ length (drop n c)
    long = rw (length-drop n c) (omega arith)

    rest : drop (length ss) (take m (drop n c)) ++ drop m (drop n c) ≡ drop (length ss) (drop n c)
    rest =
        sym (drop-append-le (length ss) (take m (drop n c)) (drop m (drop n c)) (rw (length-take-le m (drop n c) long) l))
        ∙ ap (drop (length ss)) (take-append-drop m (drop n c))

    joined : ys ++ drop m (drop n c) ≡ laid enc ss (drop n c)
    joined =
        ap (λ (t : List B). t ++ drop m (drop n c)) Y.is ∙ append_assoc (map enc ss) (drop (length ss) (take m (drop n c))) (drop m (drop n c))
        ∙ ap (λ (t : List B). map enc ss ++ t) rest

-- a part that keeps its length keeps the column's
pub part_long : {A : Type 0} (n m : ℕ) (c ys : List A) → length ys ≡ length (take m (drop n c)) → length (take n c ++ (ys ++ drop m (drop n c))) ≡ length c
part_long n m c ys h =
    length-append (take n c) (ys ++ drop m (drop n c)) ∙ ap (λ (k : ℕ). length (take n c) + k) (length_front (drop n c) ys m h)
    ∙ sym (length-append (take n c) (drop n c)) ∙ ap length (take-append-drop n c)

-- all of a part
pub col_full : {R B : Type 0} (enc : R → B) (rs : List R) {c₀ c : List B} → c ≡ map enc rs → length c ≡ length c₀ → Col enc rs c₀ c
col_full {R} {B} enc rs {c₀} {c} e l = record { is = e ∙ sym (ap (λ (t : List B). map enc rs ++ t) none_left ∙ append-nil (map enc rs)); long = l }
  where
    same : length rs ≡ length c₀
    same = sym (length-map rs enc) ∙ sym (ap length e) ∙ l

    none_left : drop (length rs) c₀ ≡ []
    none_left = ap (λ (m : ℕ). drop m c₀) same ∙ drop-length c₀

-- the numbers of rows behind rows
pub numbers_append : (e : ℕ) (xs ys : List Row) → rows_numbers e 0 (xs ++ ys) [] ≡ rows_numbers e 0 xs [] ++ rows_numbers (e + length (entries_of xs)) 0 ys []
numbers_append e [] ys = ap (λ (m : ℕ). rows_numbers m 0 ys []) (sym (add-zero e))
numbers_append e (x ∷ xs) ys =
    ap (λ (l : List (List ℕ)). (x.object ∷ bits x.id ∷ e ∷ length x.entries ∷ 0 ∷ 0 ∷ []) ∷ l)
    (numbers_append (e + length x.entries) xs ys
    ∙ ap (λ (m : ℕ). rows_numbers (e + length x.entries) 0 xs [] ++ rows_numbers m 0 ys [])
    (add_assoc e (length x.entries) (length (entries_of xs)) ∙ ap (λ (m : ℕ). e + m) (sym (length-append x.entries (entries_of xs)))))

take-drop-front : {A : Type 0} (e n : ℕ) (xs : List A) → e ≤ n → drop e (take n xs) ≡ take (n - e) (drop e xs)
take-drop-front zero n xs h = ap (λ (m : ℕ). take m xs) same
  where
    same : n ≡ n - 0
    same = omega arith
take-drop-front (suc e) zero xs h = absurd (not-suc-le-zero h)
take-drop-front (suc e) (suc n) [] h = sym (take-nil (suc n - suc e))
take-drop-front (suc e) (suc n) (x ∷ xs) h = take-drop-front e n xs (le_of_suc-le-suc h) ∙ ap (λ (m : ℕ). take m (drop e xs)) less
  where
    less : n - e ≡ suc n - suc e
    less = omega arith

-- a span of a front
span_front : {A : Type 0} (e m n : ℕ) (xs : List A) → e + m ≤ n → span e m (take n xs) ≡ span e m xs
span_front {A} e m n xs h =
    ap (take m) (take-drop-front e n xs (omega arith)) ∙ take-take m (n - e) (drop e xs) (omega arith)

-- ---- parts

module _ {A : Type 0} (g : ℕ → List A) where
  pub to_next : (i : ℕ) → flat g (from 0 (i + 1)) ≡ flat g (from 0 i) ++ g i
  to_next i = flat-from-next g 0 i ∙ ap (λ (m : ℕ). flat g (from 0 i) ++ g m) (zero-add i)

  pub to_next_length : (i : ℕ) → length (flat g (from 0 (i + 1))) ≡ length (flat g (from 0 i)) + length (g i)
  to_next_length i = ap length (to_next i) ∙ length-append (flat g (from 0 i)) (g i)

  pub to_most : (i n : ℕ) → i ≤ n → length (flat g (from 0 i)) ≤ length (flat g (from 0 n))
  to_most i n h =
      let both : flat g (from 0 n) ≡ flat g (from 0 i) ++ flat g (from (0 + i) (n - i)) =
      ap (λ (m : ℕ). flat g (from 0 m)) (sym more) ∙ ap (flat g) (from_append 0 i (n - i)) ∙ flat_append g (from 0 i) (from (0 + i) (n - i)) in
      omega (arith, ap length both, length-append (flat g (from 0 i)) (flat g (from (0 + i) (n - i))))
    where
      more : i + (n - i) ≡ n
      more = omega arith

  -- the part of element i
  pub to_part : (i n : ℕ) → i < n → span (length (flat g (from 0 i))) (length (g i)) (flat g (from 0 n)) ≡ g i
  to_part i n h =
      let at : get_or (from 0 n) i 0 ≡ i = from_at 0 n i 0 h ∙ zero-add i in
      let before : take i (from 0 n) ≡ from 0 i = from-take 0 i n (omega arith) in
      rw (at, before) at (flat_part g (from 0 n) i 0 (rw (from-length 0 n) h))

-- what holds of all numbers holds of each part
every_part : (p : ℕ → Bool) (g : ℕ → List ℕ) (i n : ℕ) → i < n → every? p (flat g (from 0 n)) ≡ true → every? p (g i) ≡ true
every_part p g i n h e =
    subst (λ (l : List ℕ). every? p l ≡ true) (to_part g i n h)
    (every_take p (length (g i)) (drop (length (flat g (from 0 i))) (flat g (from 0 n))) (every_drop p (length (flat g (from 0 i))) (flat g (from 0 n)) e))

module _ (k : Book) (f : Fit) (c : List (List ℕ)) (v : List Float) (objects : ℕ) (rows₀ : List (List ℕ)) (bases₀ : List Float) (entries₀ : List (List ℕ)) (values₀ : List Float) (ends : List ℕ) (room : ℕ) where
  -- the lists of the first i objects are laid: n rows, and entries to e
  pub record Sofar (es : List Pass2Effect) (part : ℕ → List ℕ) (i n e : ℕ) (rows : List (List ℕ)) (bases : List Float) (entries : List (List ℕ)) (values : List Float) : Type 0 where
    pub count : n ≡ length (rows_to k f es part i)
    pub start : e ≡ hits_to part i
    pub own : e ≡ length (entries_of (rows_to k f es part i))
    pub laid : ListsLaid (rows_to k f es part i) rows₀ rows bases₀ bases entries₀ entries values₀ values

  pub record Turns (i n e : ℕ) (rows : List (List ℕ)) (bases : List Float) (entries : List (List ℕ)) (values : List Float) : Type 0 where
    pub within : i ≤ objects
    pub inside : n ≤ room
    pub rows_long : length rows ≡ length rows₀
    pub bases_long : length bases ≡ length bases₀
    pub entries_long : length entries ≡ length entries₀
    pub values_long : length values ≡ length values₀
    pub sofar : (es : List Pass2Effect) (part : ℕ → List ℕ) → Effects es c v objects → Parts part objects entries₀ ends → Sofar es part i n e rows bases entries values

  pub turns_none : Turns 0 0 0 rows₀ bases₀ entries₀ values₀
  turns_none =
      record {
        within = omega arith;
        inside = omega arith;
        rows_long = refl;
        bases_long = refl;
        entries_long = refl;
        values_long = refl;
        sofar = λ es part E P.
            record {
              count = refl;
              start = refl;
              own = refl;
              laid = record { rows = col_none (λ r. r) rows₀; bases = col_none (λ r. r.base) bases₀; entries = col_none entry_numbers entries₀; values = col_none (λ x. origin_value x.origin) values₀ };
            };
      }

  module _ (L : Listing c v objects) (P : Parting objects entries₀ values₀ ends c) {i n e : ℕ} {rows : List (List ℕ)} {bases : List Float} {entries : List (List ℕ)} {values : List Float} (T : Turns i n e rows bases entries values) where
    any : Sofar L.effects P.part i n e rows bases entries values
    any = T.sofar L.effects P.part L.listed P.parts

    module _ (h : i < objects) (end : ℕ) (ended : end ≡ get_or ends i 0) where
      end_is : (part : ℕ → List ℕ) → Parts part objects entries₀ ends → end ≡ hits_to part i + length (part i)
      end_is part Q = ended ∙ Q.ended i h ∙ to_next_length part i

      most : hits_to P.part i + length (P.part i) ≤ hits_to P.part objects
      most = rw (sym (to_next_length P.part i)) (to_most P.part (i + 1) objects (omega arith))

      pub turn_ordered : e ≤ end
      turn_ordered = omega (arith, any.start, end_is P.part P.parts)

      pub turn_entries : end ≤ length entries
      turn_entries = omega (arith, end_is P.part P.parts, most, P.inside, T.entries_long)

      pub turn_values : end ≤ length values
      turn_values = omega (arith, end_is P.part P.parts, most, P.even, T.values_long)

      pub turn_few : end < 2 ^ 32
      turn_few = omega (arith, end_is P.part P.parts, most, P.few)

      abbrev pub segment : List (List ℕ)
      segment = take (end - e) (drop e entries)

      pub turn_long : length segment ≡ end - e
      turn_long = span_length e (end - e) entries (omega (arith, turn_ordered, turn_entries))

      pub turn_even : length segment ≡ length (take (end - e) (drop e values))
      turn_even = turn_long ∙ sym (span_length e (end - e) values (omega (arith, turn_ordered, turn_values)))

      pub turn-fits : e + length segment < 2 ^ 32
      turn-fits = rw turn_long (omega (arith, turn_ordered, turn_few))

      -- what was placed is still there
      turn_hits : (part : ℕ → List ℕ) → Parts part objects entries₀ ends → map hit_number segment ≡ part i
      turn_hits part Q =
          let K = T.sofar L.effects part L.listed Q in
          let l = to_most part (i + 1) objects (omega arith) in
          let untouched : drop e entries ≡ drop e entries₀ = ap (drop e) K.laid.entries.is ∙ drop-laid entry_numbers (entries_of (rows_to k f L.effects part i)) entries₀ e (omega (arith, K.own)) in
          let size : end - e ≡ length (part i) = omega (arith, end_is part Q, K.start) in
          ap (λ (t : List (List ℕ)). map hit_number (take (end - e) t)) untouched
          ∙ span_map hit_number e (end - e) entries₀
          ∙ sym (span_front e (end - e) (hits_to part objects) (map hit_number entries₀) (omega (arith, end_is part Q, K.start, to_next_length part i)))
          ∙ ap (λ (t : List ℕ). span e (end - e) t) (sym (map-take hit_number (hits_to part objects) entries₀) ∙ Q.placed)
          ∙ ap (λ (m : ℕ). span e m (flat part (from 0 objects))) size
          ∙ ap (λ (m : ℕ). span m (length (part i)) (flat part (from 0 objects))) K.start
          ∙ to_part part i objects h

      pub turn-numbered : OfCollected segment c
      turn-numbered j l =
          ltb-true (hit_number (get_or segment j [])) (length c)
          (sym (ap (λ (m : ℕ). ltb m (length c)) (map_at hit_number segment j [] 0 l))
          ∙ every_at (λ m. ltb m (length c)) (map hit_number segment) j 0 (ap (every? (λ m. ltb m (length c))) (turn_hits P.part P.parts) ∙ part_below) (rw (length-map segment hit_number) l))
        where
          part_below : every? (λ m. ltb m (length c)) (P.part i) ≡ true
          part_below = every_part (λ m. ltb m (length c)) P.part i objects h P.numbered

      -- the rows of object i
      turn_rows : (es : List Pass2Effect) (part : ℕ → List ℕ) → Parts part objects entries₀ ends → rows_for k f (object f i) (hits_in es segment) ≡ part_rows k f es part i
      turn_rows es part Q =
          ap (rows_for k f (object f i)) (sym (map-map (numbered_at es) hit_number segment) ∙ ap (map (numbered_at es)) (turn_hits part Q))

      module _ (pr : room ≤ length rows₀) (pb : room ≤ length bases₀) where
        stretch_long : length (take (room - n) (drop n rows)) ≡ room - n
        stretch_long = span_length n (room - n) rows (omega (arith, T.inside, T.rows_long))

        pub turn_stretch : length (take (room - n) (drop n rows)) ≡ length (take (room - n) (drop n bases))
        turn_stretch = stretch_long ∙ sym (span_length n (room - n) bases (omega (arith, T.inside, T.bases_long)))

        module _ (r : Option ℕ) (rows' : List (List ℕ)) (bases' : List Float) (segment' : List (List ℕ)) (values' : List Float)
            (got : (es : List Pass2Effect) → Effects es c v objects → ObjectLaid r e (rows_for k f (object f i) (hits_in es segment)) (take (room - n) (drop n rows)) rows' (take (room - n) (drop n bases)) bases' segment' values') where
          -- the answer, for the parts
          answer : (es : List Pass2Effect) (part : ℕ → List ℕ) → Effects es c v objects → Parts part objects entries₀ ends → (q : Option ℕ) → r ≡ q
              → ObjectLaid q e (part_rows k f es part i) (take (room - n) (drop n rows)) rows' (take (room - n) (drop n bases)) bases' segment' values'
          answer es part E Q q s =
              subst (λ (x : Option ℕ). ObjectLaid x e (part_rows k f es part i) (take (room - n) (drop n rows)) rows' (take (room - n) (drop n bases)) bases' segment' values') s
              (subst (λ (rs : List Row). ObjectLaid r e rs (take (room - n) (drop n rows)) rows' (take (room - n) (drop n bases)) bases' segment' values') (turn_rows es part Q) (got es E))

          -- no room for the rows of object i is no room for all
          pub turn-full : r ≡ None → (es : List Pass2Effect) (part : ℕ → List ℕ) → Effects es c v objects → Parts part objects entries₀ ends → room < length (rows_to k f es part objects)
          turn-full s es part E Q =
              let less : length (take (room - n) (drop n rows)) < length (part_rows k f es part i) = answer es part E Q None s in
              let all = to_most (part_rows k f es part) (i + 1) objects (omega arith) in
              omega (arith, less, all, stretch_long, to_next_length (part_rows k f es part) i, (T.sofar es part E Q).count, T.inside)

          module _ {more : ℕ} (s : r ≡ Some more) (kept : length segment' ≡ length segment) (also : length values' ≡ length (take (end - e) (drop e values)))
              {rows'' : List (List ℕ)} {bases'' : List Float} {entries'' : List (List ℕ)} {values'' : List Float}
              (er : rows'' ≡ take n rows ++ (rows' ++ drop (room - n) (drop n rows))) (eb : bases'' ≡ take n bases ++ (bases' ++ drop (room - n) (drop n bases)))
              (ee : entries'' ≡ take e entries ++ (segment' ++ drop (end - e) (drop e entries))) (ev : values'' ≡ take e values ++ (values' ++ drop (end - e) (drop e values))) where
            next : (es : List Pass2Effect) (part : ℕ → List ℕ) → Effects es c v objects → Parts part objects entries₀ ends → Sofar es part (i + 1) (n + more) end rows'' bases'' entries'' values''
            next es part E Q =
                record {
                  count = omega (arith, K.count, A.0, to_next_length (part_rows k f es part) i);
                  start = ended ∙ Q.ended i h;
                  own = omega (arith, K.own, ap length entries_next, length-append (entries_of old) (entries_of new), entries_count, turn_ordered);
                  laid =
                      record {
                        rows =
                            col_same (λ r. r) numbers_next
                            (col_part (λ r. r) (rows_numbers 0 0 old []) (rows_numbers e 0 new []) n (room - n) K.laid.rows (K.count ∙ sym (numbers_length 0 old)) (omega (arith, T.inside, T.rows_long)) (omega (arith, A.1.inside, stretch_long, numbers_length e new)) A.1.rows er);
                        bases =
                            col_same (λ r. r.base) (to_next (part_rows k f es part) i)
                            (col_part (λ r. r.base) old new n (room - n) K.laid.bases K.count (omega (arith, T.inside, T.bases_long)) (omega (arith, A.1.inside, stretch_long)) A.1.bases eb);
                        entries =
                            col_same entry_numbers entries_next
                            (col_part entry_numbers (entries_of old) (entries_of new) e (end - e) K.laid.entries K.own (omega (arith, turn_ordered, turn_entries)) (omega (arith, entries_count)) (col_full entry_numbers (entries_of new) A.2.entries kept) ee);
                        values =
                            col_same (λ x. origin_value x.origin) entries_next
                            (col_part (λ x. origin_value x.origin) (entries_of old) (entries_of new) e (end - e) K.laid.values K.own (omega (arith, turn_ordered, turn_values)) (omega (arith, entries_count)) (col_full (λ x. origin_value x.origin) (entries_of new) A.2.values also) ev);
                      };
                }
              where
                K : Sofar es part i n e rows bases entries values
                K = T.sofar es part E Q

                A : ObjectLaid (Some more) e (part_rows k f es part i) (take (room - n) (drop n rows)) rows' (take (room - n) (drop n bases)) bases' segment' values'
                A = answer es part E Q (Some more) s

                old : List Row
                old = rows_to k f es part i

                new : List Row
                new = part_rows k f es part i

                entries_next : entries_of (rows_to k f es part (i + 1)) ≡ entries_of old ++ entries_of new
                entries_next = ap entries_of (to_next (part_rows k f es part) i) ∙ flat_append (λ r. r.entries) old new

                entries_count : length (entries_of new) ≡ end - e
                entries_count = sym (length-map (entries_of new) entry_numbers) ∙ sym (ap length A.2.entries) ∙ kept ∙ turn_long

                numbers_next : rows_numbers 0 0 (rows_to k f es part (i + 1)) [] ≡ rows_numbers 0 0 old [] ++ rows_numbers e 0 new []
                numbers_next =
                    ap (λ (l : List Row). rows_numbers 0 0 l []) (to_next (part_rows k f es part) i) ∙ numbers_append 0 old new
                    ∙ ap (λ (m : ℕ). rows_numbers 0 0 old [] ++ rows_numbers m 0 new []) (zero-add (length (entries_of old)) ∙ sym K.own)

            pub turn-next : Turns (i + 1) (n + more) end rows'' bases'' entries'' values''
            turn-next =
                let N = next L.effects P.part L.listed P.parts in
                let A = answer L.effects P.part L.listed P.parts (Some more) s in
                record {
                  within = omega arith;
                  inside = omega (arith, A.0, A.1.inside, stretch_long, T.inside);
                  rows_long = N.laid.rows.long;
                  bases_long = N.laid.bases.long;
                  entries_long = N.laid.entries.long;
                  values_long = N.laid.values.long;
                  sofar = next;
                }

  -- all objects
  pub turns_all : {i n e : ℕ} {rows : List (List ℕ)} {bases : List Float} {entries : List (List ℕ)} {values : List Float} → Turns i n e rows bases entries values → objects ≤ i
      → (es : List Pass2Effect) (part : ℕ → List ℕ) → Effects es c v objects → Parts part objects entries₀ ends → AllLaid (Some n) room (hits_to part objects) (rows_to k f es part objects) rows₀ rows bases₀ bases entries₀ entries values₀ values
  turns_all {i} {n} {e} {rows} {bases} {entries} {values} T h es part E Q =
      let same : i ≡ objects = omega (arith, T.within) in
      let K = T.sofar es part E Q in
      subst (λ (m : ℕ). AllLaid (Some n) room (hits_to part m) (rows_to k f es part m) rows₀ rows bases₀ bases entries₀ entries values₀ values) same
      (K.count, rw (sym K.count) T.inside, sym K.own ∙ K.start, K.laid)
