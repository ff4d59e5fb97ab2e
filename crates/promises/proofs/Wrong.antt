-- Builds that are wrong, as theorems: whatever its proof, no build that does one of these gives what meets the definition. Each is
-- shown on case L, or on it and another small sheet. 01, "How much the contracts say": "Demand 2 rejects these".
use Prim.Native.Nat.{ℕ, suc, ◌<◌}
use native.Mathlib.Nat.{zero-add}
use native.Mathlib.Omega.{arith}
use mathlib.Core.Path.{◌≡◌, refl, sym, ap, subst, ◌∙◌}
use mathlib.Core.Bool.{Bool, true, false}
use mathlib.Core.List.{List, [], ◌∷◌}
use borrow.Author.Tests.{eq-eqb, eqb-true}
use lib.Dec.{eqb}
use lib.Ieee.{Float, binary64, to_bits}
use lib.ListN.{get_or}
use Rattle.laws.specs.Floats.{zero_f}
use Rattle.laws.specs.Lists.{from, every?}
use Rattle.laws.proofs.Bools.{both_ways}
use Rattle.laws.proofs.Every.{every_at}
use Rattle.laws.proofs.From.{from_at}
use Rattle.rules.specs.Answer.{number, place, answer_of}
use Rattle.rules.specs.Columns.{Counts, counts_of, collected_column, collected_value_column, row_column, base_column, value_column, entry_column, entry_value_column, plain_column, source_column, source_float_column, state_column}
use Rattle.rules.specs.Outcome.{Lent, outcome}
use Rattle.rules.proofs.Everything.{everything}
use Rattle.rules.proofs.Marked.{case_l, limited, looped, divided, lent}
use Rattle.rules.proofs.Written.{whole, attribute, effect, modifier, type_effect, collection, hull, fitted, base, buff, ask, sheet_of}
use Rattle.promises.specs.Given.{cell}
use Rattle.promises.specs.Result.{Result, Meets}
use Rattle.promises.specs.Zeros.{Empty}
use Rattle.promises.proofs.Companions.{recorded, lists}
use Rattle.promises.proofs.OneAnswer.{refused-is-empty}

-- ---- tests of two results

abbrev same_float : Float → Float → Bool
same_float x y = eqb (to_bits binary64 x) (to_bits binary64 y)

apart : {x y : ℕ} → eqb x y ≡ false → x ≡ y → ⊥
apart {x} {y} h e = both_ways (eq-eqb x y e) h

apart_floats : {x y : Float} → same_float x y ≡ false → x ≡ y → ⊥
apart_floats h e = apart h (ap (to_bits binary64) e)

-- ---- a build that refuses everything

done : number (answer_of (outcome (case_l 2 []) lent)) ≡ 0
unfolding everything
done = refl

-- "a build that refuses everything": case L is done
pub refuses_everything : (r : Result) → Meets (case_l 2 []) lent r → (r.number ≡ 0 → ⊥) → ⊥
refuses_everything r m h = h (m.by_number ∙ done)

-- ---- one that is never refused, and one whose place is always 0

depth : number (answer_of (outcome (case_l 1 []) lent)) ≡ 9
unfolding everything
depth = refl

depth_at_lem : place (answer_of (outcome (case_l 1 []) lent)) ≡ 2
unfolding everything
depth_at_lem = refl

-- a refusal that is answered DONE: case L at depth 1 is refused
pub refuses_nothing : (r : Result) → Meets (case_l 1 []) lent r → r.number ≡ 0 → ⊥
refuses_nothing r m h = omega (arith, h, m.by_number ∙ depth)

-- a refusal whose place is left at 0
pub place_always_0 : (r : Result) → Meets (case_l 1 []) lent r → r.place ≡ 0 → ⊥
place_always_0 r m h = omega (arith, h, m.by_place ∙ depth_at_lem)

-- "Depth: an ask or walk start is 1": one that counts from 0 or from 2, or looks at no depth, gives at a depth what is right at the
-- next one; no result is right at both
pub depth_off_by_one : (r : Result) → Meets (case_l 1 []) lent r → Meets (case_l 2 []) lent r → ⊥
depth_off_by_one r m n = omega (arith, m.by_number ∙ depth, n.by_number ∙ done)

-- ---- one that invents counts, and one that is done with nothing

three : (counts_of (outcome (case_l 2 []) lent)).rows ≡ 3
unfolding everything
three = refl

-- "one that invents row counts": case L has three rows
pub invents_counts : (r : Result) → Meets (case_l 2 []) lent r → (r.counts.rows ≡ 3 → ⊥) → ⊥
invents_counts r m h = h (ap (λ (c : Counts). c.rows) m.by-counts ∙ three)

-- DONE with empty lists
pub done_with_nothing : (r : Result) → Meets (case_l 2 []) lent r → Empty lent r → ⊥
done_with_nothing r m h = invents_counts r m (λ e. omega (arith, e, ap (λ (c : Counts). c.rows) h.counts))

-- ---- one that records always, and one that never does

unrecorded : (counts_of (outcome (case_l 2 []) lent)).sources ≡ 0
unfolding everything
unrecorded = refl

two : (counts_of (outcome recorded lent)).sources ≡ 2
unfolding everything
two = refl

-- recording turned round: source rows where nothing is recorded, or none where they are
pub records_always : (r : Result) → Meets (case_l 2 []) lent r → (r.counts.sources ≡ 0 → ⊥) → ⊥
records_always r m h = h (ap (λ (c : Counts). c.sources) m.by-counts ∙ unrecorded)

pub records_never : (r : Result) → Meets recorded lent r → r.counts.sources ≡ 0 → ⊥
records_never r m h = omega (arith, h, ap (λ (c : Counts). c.sources) m.by-counts ∙ two)

-- ---- one that hands back the same whatever the sheet

-- case L with recording, a buff of 5.0 on the ship's 37, and effects without modifiers: something in every list
abbrev pub every_list : List ℕ
every_list =
    sheet_of 2 1
    (attribute 20 2 0 0 0 ∷ attribute 37 2 0 0 0 ∷ [])
    (effect 1 1 0 0 1 ∷ effect 2 1 0 0 0 ∷ [])
    (modifier 4 1 7 20 37 0 ∷ modifier 4 0 3 0 37 0 ∷ [])
    (type_effect 9 1 ∷ type_effect 9 2 ∷ [])
    (collection 6 3 1 1 ∷ [])
    (hull 0 0 0 1 ∷ hull 2 0 0 0 ∷ fitted 3 1 1 1 1 ∷ fitted 3 1 1 1 1 ∷ [])
    (base 37 (whole 200) ∷ base 20 (whole 50) ∷ [])
    (buff 6 (whole 5) ∷ [])
    []

-- no column of the one is that of the other
pub record Differ (r s : Result) : Type 0 where
  pub counts : r.counts ≡ s.counts → ⊥
  pub states : r.states ≡ s.states → ⊥
  pub collected : r.collected ≡ s.collected → ⊥
  pub collected_values : r.collected_values ≡ s.collected_values → ⊥
  pub rows : r.rows ≡ s.rows → ⊥
  pub bases : r.bases ≡ s.bases → ⊥
  pub values : r.values ≡ s.values → ⊥
  pub entries : r.entries ≡ s.entries → ⊥
  pub entry_values : r.entry_values ≡ s.entry_values → ⊥
  pub plain : r.plain ≡ s.plain → ⊥
  pub sources : r.sources ≡ s.sources → ⊥
  pub source_floats : r.source_floats ≡ s.source_floats → ⊥

-- where the definition's columns differ
record Places : Type 0 where
  counts : eqb (counts_of (outcome every_list lent)).entries (counts_of (outcome limited lent)).entries ≡ false
  states : eqb (cell (state_column (outcome every_list lent)) 2 0) (cell (state_column (outcome limited lent)) 2 0) ≡ false
  collected : eqb (cell (collected_column (outcome every_list lent) 4096) 0 0) (cell (collected_column (outcome limited lent) 4096) 0 0) ≡ false
  collected_values : same_float (get_or (collected_value_column (outcome every_list lent) 4096) 0 zero_f) (get_or (collected_value_column (outcome limited lent) 4096) 0 zero_f) ≡ false
  rows : eqb (cell (row_column (outcome every_list lent) 4096) 2 1) (cell (row_column (outcome limited lent) 4096) 2 1) ≡ false
  bases : same_float (get_or (base_column (outcome every_list lent) 4096) 0 zero_f) (get_or (base_column (outcome limited lent) 4096) 0 zero_f) ≡ false
  values : same_float (get_or (value_column (outcome every_list lent) 4096) 0 zero_f) (get_or (value_column (outcome limited lent) 4096) 0 zero_f) ≡ false
  entries : eqb (cell (entry_column (outcome every_list lent) 4096) 0 0) (cell (entry_column (outcome limited lent) 4096) 0 0) ≡ false
  entry_values : same_float (get_or (entry_value_column (outcome every_list lent) 4096) 0 zero_f) (get_or (entry_value_column (outcome limited lent) 4096) 0 zero_f) ≡ false
  plain : eqb (cell (plain_column (outcome every_list lent) 4096) 0 0) (cell (plain_column (outcome limited lent) 4096) 0 0) ≡ false
  sources : eqb (cell (source_column (outcome every_list lent) 4096) 0 0) (cell (source_column (outcome limited lent) 4096) 0 0) ≡ false
  source_floats : same_float (get_or (get_or (source_float_column (outcome every_list lent) 4096) 0 []) 0 zero_f) (get_or (get_or (source_float_column (outcome limited lent) 4096) 0 []) 0 zero_f) ≡ false

places : Places
unfolding everything
places =
    record {
      counts = refl;
      states = refl;
      collected = refl;
      collected_values = refl;
      rows = refl;
      bases = refl;
      values = refl;
      entries = refl;
      entry_values = refl;
      plain = refl;
      sources = refl;
      source_floats = refl;
    }

-- "one that hands back fixed rows", or any other column that the sheet does not change
pub fixed : (r s : Result) → Meets every_list lent r → Meets limited lent s → Differ r s
fixed r s m n =
    record {
      counts = λ e. apart places.counts (ap (λ (c : Counts). c.entries) (sym m.by-counts ∙ e ∙ n.by-counts));
      states = λ e. apart places.states (ap (λ (c : List (List ℕ)). cell c 2 0) (sym m.by_states ∙ e ∙ n.by_states));
      collected = λ e. apart places.collected (ap (λ (c : List (List ℕ)). cell c 0 0) (sym m.by-collected ∙ e ∙ n.by-collected));
      collected_values = λ e. apart_floats places.collected_values (ap (λ (c : List Float). get_or c 0 zero_f) (sym m.by_collected_values ∙ e ∙ n.by_collected_values));
      rows = λ e. apart places.rows (ap (λ (c : List (List ℕ)). cell c 2 1) (sym m.by_rows ∙ e ∙ n.by_rows));
      bases = λ e. apart_floats places.bases (ap (λ (c : List Float). get_or c 0 zero_f) (sym m.by_bases ∙ e ∙ n.by_bases));
      values = λ e. apart_floats places.values (ap (λ (c : List Float). get_or c 0 zero_f) (sym m.by_values ∙ e ∙ n.by_values));
      entries = λ e. apart places.entries (ap (λ (c : List (List ℕ)). cell c 0 0) (sym m.by_entries ∙ e ∙ n.by_entries));
      entry_values = λ e. apart_floats places.entry_values (ap (λ (c : List Float). get_or c 0 zero_f) (sym m.by_entry_values ∙ e ∙ n.by_entry_values));
      plain = λ e. apart places.plain (ap (λ (c : List (List ℕ)). cell c 0 0) (sym m.by-plain ∙ e ∙ n.by-plain));
      sources = λ e. apart places.sources (ap (λ (c : List (List ℕ)). cell c 0 0) (sym m.by_sources ∙ e ∙ n.by_sources));
      source_floats = λ e. apart_floats places.source_floats (ap (λ (c : List (List Float)). get_or (get_or c 0 []) 0 zero_f) (sym m.by_source_floats ∙ e ∙ n.by_source_floats));
    }

-- every column is as it was lent, with what c says in it
pub record AsLent (c r : Result) : Type 0 where
  pub states : r.states ≡ c.states
  pub collected : r.collected ≡ c.collected
  pub collected_values : r.collected_values ≡ c.collected_values
  pub rows : r.rows ≡ c.rows
  pub bases : r.bases ≡ c.bases
  pub values : r.values ≡ c.values
  pub entries : r.entries ≡ c.entries
  pub entry_values : r.entry_values ≡ c.entry_values
  pub plain : r.plain ≡ c.plain
  pub sources : r.sources ≡ c.sources
  pub source_floats : r.source_floats ≡ c.source_floats

-- "one that leaves the lists as lent", whatever was lent; by `fixed` not one column may be left so
pub leaves_as_lent : (c r s : Result) → Meets every_list lent r → Meets limited lent s → AsLent c r → AsLent c s → ⊥
leaves_as_lent c r s m n p q = (fixed r s m n).rows (p.rows ∙ sym q.rows)

-- and where nothing comes back, lent content that is not zero does not stay
pub leaves_refused_as_lent : (r : Result) → Meets (case_l 1 []) lent r → (n : ℕ) → cell r.rows 0 1 ≡ suc n → ⊥
leaves_refused_as_lent r m n h = omega (arith, h, ap (λ (c : List (List ℕ)). cell c 0 1) (refused-is-empty (case_l 1 []) lent r m (refuses_nothing r m)).rows)

-- ---- one that calculates the first attribute alone

-- A and B: 20 of base 10 comes to 21, and 37 of base 1 to 11
record AandB : Type 0 where
  rows : (counts_of (outcome (looped []) lent)).rows ≡ 2
  repeated : same_float (get_or (value_column (outcome (looped []) lent) 4096) 1 zero_f) (get_or (value_column (outcome (looped []) lent) 4096) 0 zero_f) ≡ false
  first : same_float (get_or (value_column (outcome (looped []) lent) 4096) 0 zero_f) (get_or (base_column (outcome (looped []) lent) 4096) 0 zero_f) ≡ false
  second : same_float (get_or (value_column (outcome (looped []) lent) 4096) 1 zero_f) (get_or (base_column (outcome (looped []) lent) 4096) 1 zero_f) ≡ false
  asked : same_float (get_or (value_column (outcome (looped []) lent) 4096) 0 zero_f) (get_or (value_column (outcome (looped (ask 0 37 ∷ [])) lent) 4096) 0 zero_f) ≡ false

a_and_b : AandB
unfolding everything
a_and_b = record { rows = refl; repeated = refl; first = refl; second = refl; asked = refl }

module _ (r : Result) (m : Meets (looped []) lent r) where
  second_inside : 1 < r.counts.rows
  second_inside = omega (arith, ap (λ (c : Counts). c.rows) m.by-counts ∙ a_and_b.rows)

  value-at : (i : ℕ) → get_or r.values i zero_f ≡ get_or (value_column (outcome (looped []) lent) 4096) i zero_f
  value-at i = ap (λ (c : List Float). get_or c i zero_f) m.by_values

  base_at : (i : ℕ) → get_or r.bases i zero_f ≡ get_or (base_column (outcome (looped []) lent) 4096) i zero_f
  base_at i = ap (λ (c : List Float). get_or c i zero_f) m.by_bases

  -- "one that calculates the first attribute and repeats it for later ones"
  pub first_repeated : ((i : ℕ) → i < r.counts.rows → get_or r.values i zero_f ≡ get_or r.values 0 zero_f) → ⊥
  first_repeated h = apart_floats a_and_b.repeated (sym (value-at 1) ∙ h 1 second_inside ∙ value-at 0)

  -- one that calculates the first attribute, and leaves the others at their bases
  pub first_alone : ((i : ℕ) → 0 < i → i < r.counts.rows → get_or r.values i zero_f ≡ get_or r.bases i zero_f) → ⊥
  first_alone h = apart_floats a_and_b.second (sym (value-at 1) ∙ h 1 (omega arith) second_inside ∙ base_at 1)

  -- one that calculates nothing
  pub bases_as_values : r.values ≡ r.bases → ⊥
  bases_as_values e = apart_floats a_and_b.first (sym (value-at 0) ∙ ap (λ (c : List Float). get_or c 0 zero_f) e ∙ base_at 0)

  -- one that does not look at the asks: "asked B first, A 11, B 12"
  pub asks_ignored : Meets (looped (ask 0 37 ∷ [])) lent r → ⊥
  asks_ignored n = apart_floats a_and_b.asked (sym (value-at 0) ∙ ap (λ (c : List Float). get_or c 0 zero_f) n.by_values)

-- ---- one that takes room by a column that is not the shortest

abbrev lends_of : (collected collected_values rows bases values entries entry_values plain sources source_floats : ℕ) → Lent
lends_of c cv r b v e ev p s sf =
    record { collected = c; collected_values = cv; rows = r; bases = b; values = v; entries = e; entry_values = ev; plain = p; sources = s; source_floats = sf }

-- lists with just enough room but for one column, which is one short
abbrev pub one_short : List Lent
one_short =
    lends_of 1 2 3 3 3 2 2 2 2 2 ∷ lends_of 2 1 3 3 3 2 2 2 2 2 ∷ lends_of 2 2 2 3 3 2 2 2 2 2 ∷ lends_of 2 2 3 2 3 2 2 2 2 2 ∷ lends_of 2 2 3 3 2 2 2 2 2 2
    ∷ lends_of 2 2 3 3 3 1 2 2 2 2 ∷ lends_of 2 2 3 3 3 2 1 2 2 2 ∷ lends_of 2 2 3 3 3 2 2 1 2 2 ∷ lends_of 2 2 3 3 3 2 2 2 1 2 ∷ lends_of 2 2 3 3 3 2 2 2 2 1 ∷ []

each_short : every? (λ l. eqb (number (answer_of (outcome recorded l))) 7) one_short ≡ true
unfolding everything
each_short = refl

-- "A list's room is its shortest column": whichever of the ten is one short, the answer is ROOM
pub room_by_another_column : (i : ℕ) → i < 10 → (r : Result) → Meets recorded (get_or one_short i lent) r → (r.number ≡ 7 → ⊥) → ⊥
room_by_another_column i l r m h =
    h (m.by_number ∙ eqb-true (number (answer_of (outcome recorded (get_or one_short i lent)))) 7 (every_at (λ x. eqb (number (answer_of (outcome recorded x))) 7) one_short i lent each_short l))

-- ---- one that tells a later refusal

room_first : number (answer_of (outcome (case_l 1 []) (lists 2 2 2 2 2))) ≡ 7
unfolding everything
room_first = refl

-- "The first refusal met wins": case L at depth 1 with room for two rows is refused ROOM, and not DEPTH
pub later_refusal : (r : Result) → Meets (case_l 1 []) (lists 2 2 2 2 2) r → r.number ≡ 9 → ⊥
later_refusal r m h = omega (arith, h, m.by_number ∙ room_first)

-- ---- one that swaps two answers, or never gives one of them

-- the ship has an effect of a category, with one modifier of a func, a domain and an operation: record 1 of tables 2 and 3
abbrev coded : (category func domain operation : ℕ) → List ℕ
coded category func domain operation =
    sheet_of 2 0 []
    (effect 1 0 0 0 0 ∷ effect 2 category 0 1 1 ∷ [])
    (modifier 4 0 3 20 37 0 ∷ modifier func domain operation 20 37 0 ∷ [])
    (type_effect 8 2 ∷ [])
    []
    (hull 0 8 0 1 ∷ hull 2 0 0 0 ∷ [])
    (base 37 (whole 8) ∷ [])
    []
    []

-- DONE, then a sheet for each refusal in the order of their numbers, the lists lent, and the places
abbrev pub ten_sheets : List (List ℕ)
ten_sheets =
    case_l 2 [] ∷ [] ∷ coded 0 6 0 3 ∷ coded 0 4 7 3 ∷ coded 8 4 0 3 ∷ coded 0 4 0 10 ∷ coded 0 4 3 3 ∷ case_l 2 [] ∷ divided ∷ case_l 1 [] ∷ []

abbrev pub ten_lents : List Lent
ten_lents = lent ∷ lent ∷ lent ∷ lent ∷ lent ∷ lent ∷ lent ∷ lists 2 2 2 2 2 ∷ lent ∷ lent ∷ []

abbrev pub ten_places : List ℕ
ten_places = 0 ∷ 0 ∷ 1 ∷ 1 ∷ 1 ∷ 1 ∷ 1 ∷ 2 ∷ 1 ∷ 2 ∷ []

abbrev numbered? : ℕ → Bool
numbered? i = eqb (number (answer_of (outcome (get_or ten_sheets i []) (get_or ten_lents i lent)))) i

abbrev placed? : ℕ → Bool
placed? i = eqb (place (answer_of (outcome (get_or ten_sheets i []) (get_or ten_lents i lent)))) (get_or ten_places i 0)

all-numbered : every? numbered? (from 0 10) ≡ true
unfolding everything
all-numbered = refl

all_placed : every? placed? (from 0 10) ≡ true
unfolding everything
all_placed = refl

module _ (i : ℕ) (h : i < 10) where
  here : get_or (from 0 10) i 0 ≡ i
  here = from_at 0 10 i 0 h ∙ zero-add i

  -- each of the ten answers is the only one on its sheet, and so is its place
  pub each_number : (r : Result) → Meets (get_or ten_sheets i []) (get_or ten_lents i lent) r → r.number ≡ i
  each_number r m = m.by_number ∙ eqb-true (number (answer_of (outcome (get_or ten_sheets i []) (get_or ten_lents i lent)))) i (subst (λ (n : ℕ). numbered? n ≡ true) here (every_at numbered? (from 0 10) i 0 all-numbered h))

  pub each_place : (r : Result) → Meets (get_or ten_sheets i []) (get_or ten_lents i lent) r → r.place ≡ get_or ten_places i 0
  each_place r m = m.by_place ∙ eqb-true (place (answer_of (outcome (get_or ten_sheets i []) (get_or ten_lents i lent)))) (get_or ten_places i 0) (subst (λ (n : ℕ). placed? n ≡ true) here (every_at placed? (from 0 10) i 0 all_placed h))
