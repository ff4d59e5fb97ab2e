-- Lists 1 to 4 and the values together are a run.
use Prim.Native.Nat.{ℕ, ◌≤◌}
use native.Mathlib.Omega.{arith}
use mathlib.Core.Path.{◌≡◌, refl, sym, ap, ◌∙◌}
use mathlib.Core.List.{List, map}
use mathlib.Core.Option.{none}
use lib.ListN.{length, length-map}
use Rattle.rules.specs.Answer.{Res, ok, refused, ◌>>=◌}
use Rattle.rules.specs.Sheet.{Book, Fit}
use Rattle.rules.specs.Collect.{moves, plain_of}
use Rattle.rules.specs.Dispatch.{Row}
use Rattle.rules.specs.States.{states_of}
use Rattle.rules.specs.Value.{Mem}
use Rattle.rules.specs.Outcome.{Done, Rooms, world_of, starts_of, blank, valued, run, collected_in, rows_in}
use Rattle.rules.specs.declared.Refusal.{Refusal}
use Rattle.states.specs.Raised.{rows_of}
use Rattle.run.specs.Listing.{lists_in, valued_in, CountsOf, ListsHeld}
use Rattle.run.specs.declared.lists.ListCounts as lists
use Rattle.run.proofs.Steps.{run_lists}
use Rattle.values.proofs.Starts.{valued_grows}
use Rattle.std.specs.Prelude.{Result, Ok, Err}
use Rattle.values.specs.Setting.{SetAs, Set}
use Rattle.run.specs.Filled.{Columns, Filled, RanAs, ran_by}

-- a refusal, wherever it is met
pub refused_as : {s : Res Done} {x : Refusal} (st : List (List ℕ)) (c₀ c : Columns) → s ≡ refused x → RanAs s (Err x) st c₀ c
refused_as st c₀ c e = rw e refl

module _ (k : Book) (f : Fit) (q : Rooms) where
  -- what a run gives whose memory ends as m
  abbrev done_of : Mem → Done
  done_of m =
      record { states = map (states_of k f) f.objects; collected = collected_in k f; plain = plain_of (moves k f); rows = rows_in k f; values = m.values; sources = m.sources }

  abbrev memory : Res Mem
  memory = valued (world_of k f q.sources) f.depth (starts_of f (rows_in k f)) (blank (rows_in k f))

  pub lists_refused : {x : Refusal} → lists_in k f q ≡ refused x → run k f q ≡ refused x
  lists_refused e = run_lists k f q ∙ ap (λ (s : Res Unit). s >>= (λ _. valued_in k f q)) e

  module _ (e : lists_in k f q ≡ ok tt) where
    after_lists : run k f q ≡ (memory >>= (λ m. ok (done_of m)))
    unfolding world_of
    after_lists = run_lists k f q ∙ ap (λ (s : Res Unit). s >>= (λ _. valued_in k f q)) e

    -- the columns hold the lists, then the values
    module _ (c₀ c : Columns) (st : List (List ℕ)) {r : List (List ℕ)} (n : lists.ListCounts) (objects : ℕ) (C : CountsOf n k f) (A : ListsHeld k f c₀.collected c.collected c₀.collected_values c.collected_values c₀.rows r c₀.bases c.bases c₀.entries c.entries c₀.entry_values c.entry_values c₀.plain c.plain) (S : st ≡ rows_of k f) (O : objects ≡ length f.objects) (few : length f.objects ≤ 1024) where
      values_length : (m : Mem) → memory ≡ ok m → length m.values ≡ length (rows_in k f)
      values_length m g =
          (valued_grows (world_of k f q.sources) f.depth (starts_of f (rows_in k f)) (blank (rows_in k f)) m g).values
          ∙ length-map (rows_in k f) (λ (x : Row). none)

      filled : (m : Mem) (used : ℕ) → memory ≡ ok m → Set (rows_in k f) m used c₀.rows c.rows c₀.values c.values c₀.sources c.sources c₀.source_floats c.source_floats → Filled (done_of m) (record { objects = objects; collected = n.collected; rows = n.rows; entries = n.entries; plain = n.plain; sources = used }) st c₀ c
      filled m used g v =
          record {
            objects = O ∙ sym (length-map f.objects (states_of k f));
            few = omega (arith, few, length-map f.objects (states_of k f));
            n_collected = C.collected;
            n_rows = C.rows;
            n_values = C.rows ∙ sym (values_length m g);
            n_entries = C.entries;
            n_plain = C.plain;
            n_sources = v.count;
            states = S;
            collected = A.collected;
            collected_values = A.collected_values;
            rows = v.rows;
            bases = A.lists.bases;
            values = v.values;
            entries = A.lists.entries;
            entry_values = A.lists.values;
            plain = A.plain;
            sources = v.numbers;
            source_floats = v.floats;
          }

      by_memory : (s : Res Mem) (x : Result ℕ Refusal) → memory ≡ s → SetAs (rows_in k f) s x c₀.rows c.rows c₀.values c.values c₀.sources c.sources c₀.source_floats c.source_floats → RanAs (run k f q) (ran_by x n objects) st c₀ c
      by_memory (ok m) (Ok used) g v = rw (after_lists, g) (filled m used g v)
      by_memory (ok m) (Err y) g v = absurd v
      by_memory (refused x) (Ok used) g v = absurd v
      by_memory (refused x) (Err y) g v = rw (after_lists, g) v

      pub ran_as : (x : Result ℕ Refusal) → SetAs (rows_in k f) memory x c₀.rows c.rows c₀.values c.values c₀.sources c.sources c₀.source_floats c.source_floats → RanAs (run k f q) (ran_by x n objects) st c₀ c
      ran_as x v = by_memory memory x refl v
