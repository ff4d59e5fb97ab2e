-- M-111's promises: LOOP exactly where there is a loop; an accepted listing is that of every run, there is only one, and what our engine writes is accepted.
use Rattle.std.specs.Prelude.{Ok, Err}
use Prim.Native.Nat.{ℕ, ◌<◌}
use native.Mathlib.Omega.{arith}
use mathlib.Core.Path.{◌≡◌, refl, ap, ◌∙◌}
use mathlib.Core.List.{List, map}
use mathlib.Core.Option.{Option, none, some}
use lib.ListN.{length, get_or}
use Rattle.rules.specs.Answer.{ok}
use Rattle.rules.specs.Outcome.{Rooms, Done, collected_in, rows_in, world_of, run}
use Rattle.rules.specs.Sheet.{Book, Fit}
use Rattle.rules.specs.Value.{World, find_row}
use Rattle.promises.specs.NoMemory.{no_row, key_of, key_at, NoLoop, Sound, SameButAsks}
use Rattle.promises.proofs.NoMemoryRows.{found_there, rows_distinct}
use Rattle.settled.specs.Given as goal
use Rattle.settled.specs.Lines.{Line, values_of, first_bad}
use Rattle.settled.proofs.Accepted.{accepted_ours, one-listing}
use Rattle.settled.proofs.Listings.{not_bad_keys, not_bad_accepted}
use Rattle.loops.specs.Loop.{loop_at}
use Rattle.checks.specs.Check.{checked_in, Verdict}
use Rattle.checks.specs.declared.verdict.CheckRefusal.TheVariants.{Loop, Listing}
use Rattle.checks.proofs.NoLoops.{no_loop}

-- the parts of an acceptance
pub is_accepted : (w : World) (ls : List Line) → checked_in w ls ≡ Ok tt → (loop_at w ≡ none) × (none ≡ first_bad w ls)
unfolding checked_in
is_accepted w ls = by (loop_at w) (first_bad w ls)
  where
    by : (o b : Option ℕ) → ◌≡◌ {A = Verdict} (elim o [ some p ↦ Err (Loop p) | none ↦ elim b [ some i ↦ Err (Listing i) | none ↦ Ok tt ] ]) (Ok tt) → (o ≡ none) × (none ≡ b)
    by none none e = (refl, refl)
    by none (some i) e = let z : ◌≡◌ {A = ℕ} 0 1 = cc in absurd (omega arith)
    by (some p) b e = let z : ◌≡◌ {A = ℕ} 0 1 = cc in absurd (omega arith)

module _ (k : Book) (f : Fit) (sound : Sound f) where
  abbrev world : World
  world = world_of k f 0

  pub each_found : (i : ℕ) → i < length world.rows → find_row (key_at world i).object (key_at world i).id 0 world.rows ≡ some (record { index = i; row = get_or world.rows i no_row })
  unfolding world_of rows_in
  each_found i h = found_there 0 world.rows i (rows_distinct k f (collected_in k f) sound) h ∙ ap (λ (m : ℕ). some (record { index = m; row = get_or world.rows i no_row })) (omega arith)

  module _ (ls : List Line) (e : checked_in (world_of k f 0) ls ≡ Ok tt) where
    pub accepted_free : NoLoop (world_of k f 0)
    accepted_free = no_loop world each_found (is_accepted world ls e).0

    pub accepted_right : goal.Accepted (world_of k f 0) (values_of ls)
    accepted_right = not_bad_accepted world ls (is_accepted world ls e).1

    pub accepted_keys : map (λ (l : Line). l.key) ls ≡ map key_of (world_of k f 0).rows
    accepted_keys = not_bad_keys world ls (is_accepted world ls e).1

    -- "an accepted listing is wholly ours": every run that is done has its values
    pub checked_ours : (g : Fit) (q : Rooms) (d : Done) → SameButAsks f g → run k g q ≡ ok d → d.values ≡ values_of ls
    checked_ours g q d same h = accepted_ours k f 0 sound accepted_free (values_of ls) accepted_right g q d same h

  -- there is only one
  pub one_accepted : (ls ms : List Line) → checked_in (world_of k f 0) ls ≡ Ok tt → checked_in (world_of k f 0) ms ≡ Ok tt → values_of ls ≡ values_of ms
  one_accepted ls ms a b = one-listing k f 0 sound (accepted_free ls a) (values_of ls) (values_of ms) (accepted_right ls a) (accepted_right ms b)
