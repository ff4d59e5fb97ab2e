-- What the parts of a run ask for and give: the rooms, the lists, the values.
use Prim.Native.Nat.{ℕ, ◌+◌, ◌≤◌, ◌<◌, ◌^◌, min}
use native.Mathlib.Omega.{arith}
use mathlib.Core.Path.{◌≡◌, sym, ap, ◌∙◌, subst}
use mathlib.Core.Bool.{Bool}
use mathlib.Core.List.{List}
use lib.Dec.{eqb}
use lib.ListN.{length}
use Rattle.rules.specs.Answer.{ok}
use Rattle.rules.specs.Bytes.{count_of, u32_at, depth_at}
use Rattle.rules.specs.Sheet.{Book, Fit, book_of, fit_of}
use Rattle.rules.specs.Outcome.{Rooms, world_of, starts_of, blank, valued, run, rooms_of, counted, rows_in}
use Rattle.rules.specs.declared.Refusal.{Refusal}
use Rattle.info.specs.Sound.{SoundFit}
use Rattle.info.proofs.Elements.{objects_length}
use Rattle.states.specs.Raised.{rows_of}
use Rattle.run.specs.Listing.{lists_in, RoomsOf, RoomsLent, CountsOf, ListsHeld, ListedAs}
use Rattle.run.specs.declared.lists.ListCounts as lists
use Rattle.run.specs.declared.lists.ListRooms as given
use Rattle.values.proofs.Taken.{few_objects}
use Rattle.std.specs.Prelude.{Result, Ok, Err}
use Rattle.values.specs.Setting as values
use Rattle.values.specs.Setting.{SetAs}
use Rattle.run.specs.Filled.{Columns, lent_of, RanAs, ran_by}
use Rattle.run.proofs.Joining.{refused_as, lists_refused, ran_as}

-- ---- rooms

counted_left : (a b n : ℕ) → n ≡ counted (min a b) → n ≤ a
counted_left a b n e = omega (arith, e)

counted_right : (a b n : ℕ) → n ≡ counted (min a b) → n ≤ b
counted_right a b n e = omega (arith, e)

counted_few : (a b n : ℕ) → n ≡ counted (min a b) → n < 2 ^ 32
counted_few a b n e = omega (arith, e)

min_left : (a b n : ℕ) → n ≤ min a b → n ≤ a
min_left a b n e = omega (arith, e)

min_right : (a b n : ℕ) → n ≤ min a b → n ≤ b
min_right a b n e = omega (arith, e)

counted-one : (a n : ℕ) → n ≡ counted (min a a) → counted a ≡ n
counted-one a n e = omega (arith, e)

-- each room is of the shortest column that was lent
pub record Measured (c : Columns) (s : given.ListRooms) : Type 0 where
  pub collected : s.collected ≡ counted (min (length c.collected) (length c.collected_values))
  pub rows : s.rows ≡ counted (min (length c.rows) (min (length c.bases) (length c.values)))
  pub entries : s.entries ≡ counted (min (length c.entries) (length c.entry_values))
  pub plain : s.plain ≡ counted (min (length c.plain) (length c.plain))

module _ (c : Columns) (s : given.ListRooms) (m : Measured c s) where
  pub rooms_of_lem : RoomsOf (rooms_of (lent_of c)) s
  rooms_of_lem =
      record { collected = sym m.collected; rows = sym m.rows; entries = sym m.entries; plain = counted-one (length c.plain) s.plain m.plain }

  pub lent : RoomsLent s c.collected c.collected_values c.rows c.bases c.entries c.entry_values c.plain
  lent =
      record {
        collected = counted_left (length c.collected) (length c.collected_values) s.collected m.collected;
        collected_values = counted_right (length c.collected) (length c.collected_values) s.collected m.collected;
        collected_few = counted_few (length c.collected) (length c.collected_values) s.collected m.collected;
        rows = counted_left (length c.rows) (min (length c.bases) (length c.values)) s.rows m.rows;
        bases =
            min_left (length c.bases) (length c.values) s.rows
            (counted_right (length c.rows) (min (length c.bases) (length c.values)) s.rows m.rows);
        entries = counted_left (length c.entries) (length c.entry_values) s.entries m.entries;
        entry_values = counted_right (length c.entries) (length c.entry_values) s.entries m.entries;
        entries_few = counted_few (length c.entries) (length c.entry_values) s.entries m.entries;
        plain = counted_left (length c.plain) (length c.plain) s.plain m.plain;
      }

  pub values_lent : (n : lists.ListCounts) → n.rows ≤ s.rows → (n.rows ≤ length c.values) × (n.rows < 2 ^ 32)
  values_lent n few = (
    omega (arith, few, min_right (length c.bases) (length c.values) s.rows (counted_right (length c.rows) (min (length c.bases) (length c.values)) s.rows m.rows)),
    omega (arith, few, counted_few (length c.rows) (min (length c.bases) (length c.values)) s.rows m.rows),
  )

  pub sources_lent : (room : ℕ) → room ≡ counted (min (length c.sources) (length c.source_floats)) → (room ≤ length c.sources) × (room ≤ length c.source_floats) × (room ≤ 4294967295)
  sources_lent room e = (
    counted_left (length c.sources) (length c.source_floats) room e,
    counted_right (length c.sources) (length c.source_floats) room e,
    omega (arith, counted_few (length c.sources) (length c.source_floats) room e),
  )

-- ---- the lists, then the values

pub recorded : (b : List ℕ) (p : List (List ℕ)) {n : ℕ} → n ≡ u32_at b (depth_at p + 4) → eqb n 1 ≡ eqb (fit_of b p).recording 1
unfolding fit_of
recorded b p e = ap (λ (x : ℕ). eqb x 1) e

module _ (a b : List ℕ) (p : List (List ℕ)) (sf : SoundFit b p) (c₀ c : Columns) (s : given.ListRooms) (m : Measured c₀ s) (r st : List (List ℕ)) where
  abbrev k : Book
  k = book_of a p

  abbrev f : Fit
  f = fit_of b p

  abbrev Lists : Result lists.ListCounts Refusal → Type 0
  Lists x = (q : Rooms) → RoomsOf q s → ListedAs (lists_in k f q) x k f c₀.collected c.collected c₀.collected_values c.collected_values c₀.rows r c₀.bases c.bases c₀.entries c.entries c₀.entry_values c.entry_values c₀.plain c.plain

  -- a list is full, or collection is refused
  pub not_listed : (x : Refusal) → Lists (Err x) → RanAs (run k f (rooms_of (lent_of c₀))) (Err x) st c₀ c
  not_listed x h = refused_as st c₀ c (lists_refused k f (rooms_of (lent_of c₀)) (h (rooms_of (lent_of c₀)) (rooms_of_lem c₀ s m)))

  module _ (n : lists.ListCounts) (h : Lists (Ok n)) (S : st ≡ rows_of k f) where
    abbrev by_lists : (lists_in k f (rooms_of (lent_of c₀)) ≡ ok tt) × CountsOf n k f × ListsHeld k f c₀.collected c.collected c₀.collected_values c.collected_values c₀.rows r c₀.bases c.bases c₀.entries c.entries c₀.entry_values c.entry_values c₀.plain c.plain
    by_lists = h (rooms_of (lent_of c₀)) (rooms_of_lem c₀ s m)

    -- what the values ask for
    abbrev pub listed_as : (recording : Bool) (room : ℕ) → recording ≡ eqb f.recording 1 → values.RowsListed k f n.rows (record { room = room; recording = recording }) st r c.bases c.entries c.entry_values
    listed_as recording room t =
        record {
          rows₀ = c₀.rows;
          bases₀ = c₀.bases;
          entries₀ = c₀.entries;
          values₀ = c₀.entry_values;
          lists = by_lists.2.lists;
          count = by_lists.1.rows;
          states = S;
          recording = t;
        }

    pub filled_as : (room objects : ℕ) (v : Result ℕ Refusal) → room ≡ counted (min (length c₀.sources) (length c₀.source_floats)) → objects ≡ count_of p 6 → SetAs (rows_in k f) (valued (world_of k f room) f.depth (starts_of f (rows_in k f)) (blank (rows_in k f))) v c₀.rows c.rows c₀.values c.values c₀.sources c.sources c₀.source_floats c.source_floats → RanAs (run k f (rooms_of (lent_of c₀))) (ran_by v n objects) st c₀ c
    filled_as room objects v g o w =
        ran_as k f (rooms_of (lent_of c₀)) by_lists.0 c₀ c st n objects by_lists.1 by_lists.2 S (o ∙ sym (objects_length b p)) (few_objects b p sf) v
        (subst (λ (x : ℕ). SetAs (rows_in k f) (valued (world_of k f x) f.depth (starts_of f (rows_in k f)) (blank (rows_in k f))) v c₀.rows c.rows c₀.values c.values c₀.sources c.sources c₀.source_floats c.source_floats) g w)
