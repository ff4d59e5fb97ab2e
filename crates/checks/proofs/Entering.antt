-- From any bytes to the verdict: SHAPE, the lists, then the verdict of a sheet that has come to its values; and what the columns hold.
use Prim.Native.Nat.{ℕ, zero, suc, ◌≤◌, ◌<◌, ◌^◌, min, suc-le-suc, zero-le}
use native.Mathlib.Omega.{arith}
use mathlib.Core.Path.{◌≡◌, refl, sym, ap, ap₂, subst, ◌∙◌}
use mathlib.Core.Bool.{Bool}
use mathlib.Core.List.{List, [], ◌∷◌, ◌++◌, map}
use mathlib.Core.Option
use mathlib.Core.Option.{Option, none, some}
use lib.Dec.{eqb}
use lib.Ieee.{Float, nan}
use lib.ListN.{length, get_or, drop, length-map}
use Rattle.laws.specs.Columns.{Col}
use Rattle.laws.specs.Floats.{zero_f}
use Rattle.rules.specs.Answer.{Res, ok}
use Rattle.rules.specs.Bytes.{pairs_of, count_of}
use Rattle.rules.specs.Outcome.{Lent, Rooms, counted, world_of}
use Rattle.rules.specs.Shape.{bad_shape}
use Rattle.rules.specs.Sheet.{Book, Fit, book_of, fit_of}
use Rattle.rules.specs.States.{states_of}
use Rattle.rules.specs.Value.{World}
use Rattle.rules.specs.declared.Refusal.{Refusal}
use Rattle.rules.specs.declared.Refusal.TheVariants.{Shape}
use Rattle.info.specs.Sound.{SoundBook, SoundFit}
use Rattle.info.proofs.Elements.{objects_length}
use Rattle.std.specs.Prelude.{Ok, Err, Result}
use Rattle.shape.specs.Shaped.{Shaped, shaped_of}
use Rattle.shape.specs.declared.BadTable.{BadTable}
use Rattle.shape.proofs.Shapes.{bad_said, sound_said, sound_long, sound_book, sound_fit}
use Rattle.states.specs.Raised.{rows_of}
use Rattle.values.specs.Setting.{RowsListed}
use Rattle.values.proofs.Taken.{few_objects}
use Rattle.run.specs.Filled.{Columns, lent_of, Filled}
use Rattle.run.specs.Listing.{lists_in, RoomsOf, RoomsLent, CountsOf, ListsHeld, ListedAs, RowsWithin}
use Rattle.run.specs.declared.lists.ListRooms.{ListRooms}
use Rattle.run.specs.declared.lists.ListCounts.{ListCounts}
use Rattle.promises.specs.NoMemory.{book_in, fit_in}
use Rattle.settled.specs.Given as settled
use Rattle.settled.specs.Lines.{Line, line_of, value_in, values_of}
use Rattle.settled.proofs.Listings.{not_bad_accepted}
use Rattle.given.specs.Judging.{shown_in}
use Rattle.checks.specs.Check.{checked_in, checked_after, checked_for, checked, check_rooms, listed_done, Verdict}
use Rattle.checks.specs.Checked.{run, counts_of}
use Rattle.checks.specs.declared.verdict.CheckRefusal.TheVariants.{Engine}
use Rattle.checks.proofs.Promises.{is_accepted}

-- ---- rooms

counted_same : (a n : ℕ) → n ≡ counted (min a a) → counted a ≡ n
counted_same a n e = omega (arith, e)

-- of four numbers the room that is the least
pub rooms_are : (l : Lent) (work : ℕ) {c r e p least : ℕ} → c ≡ counted (min l.collected l.collected_values) → r ≡ counted (min l.rows least) → least ≡ min l.bases (min l.values work)
    → e ≡ counted (min l.entries l.entry_values) → p ≡ counted (min l.plain l.plain) → RoomsOf (check_rooms l work) (record { collected = c; rows = r; entries = e; plain = p })
rooms_are l work {p = p} a b h d q =
    record { collected = sym a; rows = sym (b ∙ ap (λ (m : ℕ). counted (min l.rows m)) h); entries = sym d; plain = counted_same l.plain p q }

left_of : (a b n : ℕ) → counted (min a b) ≡ n → n ≤ a
left_of a b n e = omega (arith, e)

right_of : (a b n : ℕ) → counted (min a b) ≡ n → n ≤ b
right_of a b n e = omega (arith, e)

few_of : (a n : ℕ) → counted a ≡ n → n < 2 ^ 32
few_of a n e = omega (arith, e)

one_of : (a n : ℕ) → counted a ≡ n → n ≤ a
one_of a n e = omega (arith, e)

least_left : (a b n : ℕ) → n ≤ min a b → n ≤ a
least_left a b n e = omega (arith, e)

least_right : (a b n : ℕ) → n ≤ min a b → n ≤ b
least_right a b n e = omega (arith, e)

module _ (c : Columns) (work : ℕ) (s : ListRooms) (m : RoomsOf (check_rooms (lent_of c) work) s) where
  rest : s.rows ≤ min (length c.bases) (min (length c.values) work)
  rest = right_of (length c.rows) _ s.rows m.rows

  pub lent : RoomsLent s c.collected c.collected_values c.rows c.bases c.entries c.entry_values c.plain
  lent =
      record {
        collected = left_of (length c.collected) (length c.collected_values) s.collected m.collected;
        collected_values = right_of (length c.collected) (length c.collected_values) s.collected m.collected;
        collected_few = few_of _ s.collected m.collected;
        rows = left_of (length c.rows) _ s.rows m.rows;
        bases = least_left (length c.bases) _ s.rows rest;
        entries = left_of (length c.entries) (length c.entry_values) s.entries m.entries;
        entry_values = right_of (length c.entries) (length c.entry_values) s.entries m.entries;
        entries_few = few_of _ s.entries m.entries;
        plain = one_of (length c.plain) s.plain m.plain;
      }

  -- values and scratch have an element for each row
  pub rows_lent_lem : {l : Result ListCounts Refusal} {n : ListCounts} → l ≡ Ok n → RowsWithin s.rows l → (n.rows ≤ length c.values) × ((n.rows ≤ work) × (n.rows < 2 ^ 32))
  rows_lent_lem {n = n} e h =
      let few : n.rows ≤ s.rows = subst (λ (l : Result ListCounts Refusal). RowsWithin s.rows l) e h in
      let both : s.rows ≤ min (length c.values) work = least_right (length c.bases) _ s.rows rest in (
        omega (arith, few, least_left (length c.values) work s.rows both),
        (omega (arith, few, least_right (length c.values) work s.rows both), omega (arith, few, few_of _ s.rows m.rows)),
      )

-- ---- SHAPE

module _ (b : List ℕ) {v : Shaped} (shape : v ≡ shaped_of (bad_shape b)) where
  pub bad_shape_lem : (q : Rooms) (ls : List Line) {x : BadTable} → v ≡ Err x → Err (Engine (Shape x.table)) ≡ checked b q ls
  unfolding checked
  bad_shape_lem q ls h =
      sym (ap (λ (o : Option ℕ). elim o [ some u ↦ Err (Engine (Shape u)) | none ↦ checked_for (book_of b (pairs_of b)) (fit_of b (pairs_of b)) q ls ]) (bad_said (bad_shape b) (sym h ∙ shape)))

  module _ (good : v ≡ Ok tt) where
    pub long_enough : 100 ≤ length b
    long_enough = sound_long b (sym good ∙ shape)

    -- with the pairs p as they were read
    module _ {p : List (List ℕ)} (read : p ≡ pairs_of b) where
      pub book_sound : SoundBook b p
      book_sound = subst (SoundBook b) (sym read) (sound_book b (sym good ∙ shape))

      pub fit_sound : SoundFit b p
      fit_sound = subst (SoundFit b) (sym read) (sound_fit b (sym good ∙ shape))

      checked_sound : (q : Rooms) (ls : List Line) → checked_for (book_of b p) (fit_of b p) q ls ≡ checked b q ls
      unfolding checked
      checked_sound q ls =
          ap (λ (x : List (List ℕ)). checked_for (book_of b x) (fit_of b x) q ls) read
          ∙ sym (ap (λ (o : Option ℕ). elim o [ some u ↦ Err (Engine (Shape u)) | none ↦ checked_for (book_of b (pairs_of b)) (fit_of b (pairs_of b)) q ls ]) (sound_said (bad_shape b) (sym good ∙ shape)))

-- ---- what stands in the columns of an accepted listing

-- where each line has a value none is shown as NaN
all_shown : (ls : List (List ℕ)) → ((i : ℕ) → i < length ls → Option.get_or (get_or (values_of (map line_of ls)) i none) nan ≡ Option.get_or (get_or (values_of (map line_of ls)) i none) zero_f)
    → map shown_in ls ≡ map (λ (v : Option Float). Option.get_or v zero_f) (values_of (map line_of ls))
all_shown [] h = refl
all_shown (r ∷ ls) h = ap₂ ◌∷◌ (h zero (suc-le-suc zero-le)) (all_shown ls (λ i l. h (suc i) (suc-le-suc l)))

module _ (w : World) (ls : List (List ℕ)) (a : settled.Accepted w (values_of (map line_of ls))) where
  line_count : length (values_of (map line_of ls)) ≡ length ls
  line_count = length-map (map line_of ls) value_in ∙ length-map ls line_of

  shown : map shown_in ls ≡ map (λ (v : Option Float). Option.get_or v zero_f) (values_of (map line_of ls))
  shown = all_shown ls (λ i l. let r = a.right i (omega (arith, l, line_count, a.long)) in both r.listed)
    where
      both : {o : Option Float} {x : Float} → o ≡ some x → Option.get_or o nan ≡ Option.get_or o zero_f
      both e = rw e refl

  laid_values : {v₀ v : List Float} → Col shown_in ls v₀ v → Col (λ x. x) (map (λ (v : Option Float). Option.get_or v zero_f) (values_of (map line_of ls))) v₀ v
  laid_values {v₀} {v} k =
      let values = map (λ (v : Option Float). Option.get_or v zero_f) (values_of (map line_of ls)) in
      let long : length ls ≡ length values = sym (ap length (sym shown) ∙ length-map ls shown_in) in
      record { is = k.is ∙ ap₂ (λ (x : List Float) (n : ℕ). x ++ drop n v₀) (shown ∙ sym (map-id values)) long; long = k.long }
    where
      map-id : (xs : List Float) → map (λ (x : Float). x) xs ≡ xs
      map-id [] = refl
      map-id (x ∷ xs) = ap (λ (t : List Float). x ∷ t) (map-id xs)

-- ---- the lists, then the verdict

module _ (b : List ℕ) {shaped : Shaped} (shape : shaped ≡ shaped_of (bad_shape b)) (good : shaped ≡ Ok tt) {p : List (List ℕ)} (read : p ≡ pairs_of b) (c₀ c : Columns) (work : ℕ) (s : ListRooms)
    (m : RoomsOf (check_rooms (lent_of c₀) work) s) (st : List (List ℕ)) (l : Result ListCounts Refusal) where
  abbrev k : Book
  k = book_of b p

  abbrev f : Fit
  f = fit_of b p

  abbrev rooms : Rooms
  rooms = check_rooms (lent_of c₀) work

  abbrev Lists : Result ListCounts Refusal → Type 0
  Lists x = (q : Rooms) → RoomsOf q s → ListedAs (lists_in (book_of b p) (fit_of b p) q) x (book_of b p) (fit_of b p) c₀.collected c.collected c₀.collected_values c.collected_values c₀.rows c.rows c₀.bases c.bases c₀.entries c.entries c₀.entry_values c.entry_values c₀.plain c.plain

  -- a list is full, or collection is refused
  pub lists_refused : (ls : List Line) {x : Refusal} → l ≡ Err x → Lists l → Err (Engine x) ≡ checked b (check_rooms (lent_of c₀) work) ls
  lists_refused ls e h =
      sym (ap (λ (r : Res Unit). checked_after r (world_of k f 0) ls) (subst Lists e h rooms m)) ∙ checked_sound b shape good read rooms ls

  module _ {n : ListCounts} (e : l ≡ Ok n) (h : Lists l) (S : st ≡ rows_of (book_of b p) (fit_of b p)) where
    abbrev by_lists : (lists_in (book_of b p) (fit_of b p) (check_rooms (lent_of c₀) work) ≡ ok tt) × CountsOf n (book_of b p) (fit_of b p) × ListsHeld (book_of b p) (fit_of b p) c₀.collected c.collected c₀.collected_values c.collected_values c₀.rows c.rows c₀.bases c.bases c₀.entries c.entries c₀.entry_values c.entry_values c₀.plain c.plain
    by_lists = subst Lists e h rooms m

    -- what the verdict asks for
    abbrev pub rows_listed : (recording : Bool) → recording ≡ eqb (fit_of b p).recording 1 → RowsListed (book_of b p) (fit_of b p) n.rows (run recording) st c.rows c.bases c.entries c.entry_values
    rows_listed recording t =
        record {
          rows₀ = c₀.rows;
          bases₀ = c₀.bases;
          entries₀ = c₀.entries;
          values₀ = c₀.entry_values;
          lists = by_lists.2.lists;
          count = by_lists.1.rows;
          states = S;
          recording = t;
        }

    pub verdict_checked : (v : Verdict) (ls : List Line) → v ≡ checked_in (world_of (book_of b p) (fit_of b p) 0) ls → v ≡ checked b (check_rooms (lent_of c₀) work) ls
    verdict_checked v ls g = g ∙ sym (ap (λ (r : Res Unit). checked_after r (world_of k f 0) ls) by_lists.0) ∙ checked_sound b shape good read rooms ls

    module _ (objects : ℕ) (O : objects ≡ count_of p 6) (ls : List (List ℕ)) where
      filled : checked_in (world_of k f 0) (map line_of ls) ≡ Ok tt → length ls ≡ n.rows → Col shown_in ls c₀.values c.values → c.sources ≡ [] → c₀.sources ≡ [] → c.source_floats ≡ [] → c₀.source_floats ≡ []
          → Filled (listed_done k f (map line_of ls)) (counts_of n objects) st c₀ c
      unfolding world_of
      filled g long laid s₁ s₀ t₁ t₀ =
          let a = not_bad_accepted (world_of k f 0) (map line_of ls) (is_accepted (world_of k f 0) (map line_of ls) g).1 in
          let C = by_lists.1 in
          let A = by_lists.2 in
          record {
            objects = O ∙ sym (objects_length b p) ∙ sym (length-map f.objects (states_of k f));
            few = omega (arith, few_objects b p (fit_sound b shape good read), length-map f.objects (states_of k f));
            n_collected = C.collected;
            n_rows = C.rows;
            n_values = sym (length-map (map line_of ls) value_in ∙ length-map ls line_of ∙ long);
            n_entries = C.entries;
            n_plain = C.plain;
            n_sources = refl;
            states = S;
            collected = A.collected;
            collected_values = A.collected_values;
            rows = A.lists.rows;
            bases = A.lists.bases;
            values = laid_values (world_of k f 0) ls a laid;
            entries = A.lists.entries;
            entry_values = A.lists.values;
            plain = A.plain;
            sources = rw (s₁, s₀) (record { is = refl; long = refl });
            source_floats = rw (t₁, t₀) (record { is = refl; long = refl });
          }

      -- what an accepted listing leaves
      pub left_by : Ok tt ≡ checked_in (world_of (book_of b p) (fit_of b p) 0) (map line_of ls) → (length ls ≡ n.rows) × Col shown_in ls c₀.values c.values
          → c.sources ≡ [] → c₀.sources ≡ [] → c.source_floats ≡ [] → c₀.source_floats ≡ [] → Filled (listed_done (book_in b) (fit_in b) (map line_of ls)) (counts_of n objects) st c₀ c
      left_by g laid s₁ s₀ t₁ t₀ =
          subst (λ (x : List (List ℕ)). Filled (listed_done (book_of b x) (fit_of b x) (map line_of ls)) (counts_of n objects) st c₀ c) read (filled (sym g) laid.0 laid.1 s₁ s₀ t₁ t₀)
