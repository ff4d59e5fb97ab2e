-- Any bytes with any lists lent have one answer of ten, and one result; after a refusal every list is empty.
use Prim.Native.Nat.{ℕ, ◌<◌}
use native.Mathlib.Omega.{arith}
use mathlib.Core.Path.{◌≡◌, refl, sym, ap, subst, ◌∙◌}
use mathlib.Core.List.{List}
use Rattle.laws.proofs.Laid.{column_none}
use Rattle.rules.specs.Answer.{Res, ok, refused, number, answer_of}
use Rattle.rules.specs.Columns.{collected_column, collected_value_column, row_column, base_column, value_column, entry_column, entry_value_column, plain_column, source_column, source_float_column, state_column}
use Rattle.rules.specs.Outcome.{Lent, Done, outcome}
use Rattle.rules.specs.Answer.{Answer}
use Rattle.rules.specs.Answer as answer
use Rattle.rules.specs.declared.Refusal.{Refusal}
use Rattle.rules.specs.declared.Refusal.TheVariants.{Shape, Func, Domain, Category, Operation, Other, Room, Number, Depth}
use Rattle.promises.specs.Result.{Result, result_for, MeetsFor, Meets}
use Rattle.promises.specs.Zeros.{Empty}

-- the numbers are 0 to 9
ten : (a : Answer) → number a < 10
ten answer.Done = omega arith
ten (answer.Refused (Shape p)) = omega arith
ten (answer.Refused (Func p)) = omega arith
ten (answer.Refused (Domain p)) = omega arith
ten (answer.Refused (Category p)) = omega arith
ten (answer.Refused (Operation p)) = omega arith
ten (answer.Refused (Other p)) = omega arith
ten (answer.Refused (Room p)) = omega arith
ten (answer.Refused (Number p)) = omega arith
ten (answer.Refused (Depth p)) = omega arith

empty : (x : Refusal) (l : Lent) → Empty l (result_for (refused x) l)
unfolding collected_column collected_value_column row_column base_column value_column entry_column entry_value_column plain_column source_column source_float_column state_column
empty x l =
    record {
      counts = refl;
      states = column_none _ _ 1024;
      collected = column_none _ _ l.collected;
      collected_values = column_none _ _ l.collected_values;
      rows = column_none _ _ l.rows;
      bases = column_none _ _ l.bases;
      values = column_none _ _ l.values;
      entries = column_none _ _ l.entries;
      entry_values = column_none _ _ l.entry_values;
      plain = column_none _ _ l.plain;
      sources = column_none _ _ l.sources;
      source_floats = column_none _ _ l.source_floats;
    }

-- what meets an outcome is what comes back of it
pub is_the_one_for : (o : Res Done) (l : Lent) (r : Result) → MeetsFor o l r → r ≡ result_for o l
is_the_one_for o l r m =
    let whole : record { number = r.number; place = r.place; counts = r.counts; states = r.states; collected = r.collected; collected_values = r.collected_values; rows = r.rows; bases = r.bases; values = r.values; entries = r.entries; entry_values = r.entry_values; plain = r.plain; sources = r.sources; source_floats = r.source_floats } ≡ result_for o l =
    rw (m.by_number, m.by_place, m.by-counts, m.by_states, m.by-collected, m.by_collected_values, m.by_rows, m.by_bases, m.by_values, m.by_entries, m.by_entry_values, m.by-plain, m.by_sources, m.by_source_floats) refl in
    whole

module _ (b : List ℕ) (l : Lent) where
  -- demand 1: one of ten
  pub one_of_ten : (r : Result) → Meets b l r → r.number < 10
  one_of_ten r m = subst (λ (n : ℕ). n < 10) (sym m.by_number) (ten (answer_of (outcome b l)))

  pub is_the_one : (r : Result) → Meets b l r → r ≡ result_for (outcome b l) l
  is_the_one r m = is_the_one_for (outcome b l) l r m

  -- "any pair of results that satisfy it is shown identical"
  pub one_answer : (r s : Result) → Meets b l r → Meets b l s → r ≡ s
  one_answer r s m n = is_the_one r m ∙ sym (is_the_one s n)

  -- demand 1: a result that is refused has nothing but zeros
  pub refused-is-empty : (r : Result) → Meets b l r → (r.number ≡ 0 → ⊥) → Empty l r
  refused-is-empty r m h = by (outcome b l) refl
    where
      by : (o : Res Done) → outcome b l ≡ o → Empty l r
      by (ok d) e = absurd (h (m.by_number ∙ ap (λ (o : Res Done). number (answer_of o)) e))
      by (refused x) e = subst (Empty l) (sym (is_the_one r m ∙ ap (λ (o : Res Done). result_for o l) e)) (empty x l)
