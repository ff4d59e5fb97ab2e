-- "More depth": a run that was not refused DEPTH is the same with more, whatever it gave or was refused for, with loops or without.
use Prim.Native.Nat.{ℕ, zero, suc, ◌≤◌}
use native.Mathlib.Nat.{le_of_suc-le-suc, not-suc-le-zero}
use mathlib.Core.Path.{refl}
use mathlib.Core.Bool.{cond}
use mathlib.Core.Option.{none, some}
use lib.Dec.{leb}
use lib.ListN.{length}
use Rattle.rules.specs.Answer.{refused}
use Rattle.rules.specs.Sheet.{Book, Fit}
use Rattle.rules.specs.Collect.{moves}
use Rattle.rules.specs.Dispatch.{base_keys, hit_keys, full_at}
use Rattle.rules.specs.Outcome.{Rooms, collected, full, starts_of, valued, blank, collected_in, world_of, run}
use Rattle.rules.specs.Value.{World, note, calculate, value_of}
use Rattle.rules.specs.declared.Refusal.TheVariants.{Depth}
use Rattle.promises.specs.Unless.{Unless, refused_so, the_same, with_depth}
use Rattle.promises.proofs.Unless.{after, before}
use Rattle.promises.proofs.AnyDepth.{moves_same, bases_same, collected_same, hits_same, world_same}
use Rattle.promises.proofs.Calculations.{Noting, Reading, started_so, deeper_so, valued_so}

module _ (w : World) where
  as_noted : Noting Depth w w
  unfolding note
  as_noted i row r m = the_same refl

  deep : (d e : ℕ) → d ≤ e → Reading Depth (value_of w d) (value_of w e)
  unfolding value_of
  deep zero zero h o a m = the_same refl
  deep zero (suc e) h o a m = started_so Depth w w.room as_noted (λ i row m'. refused (Depth o)) (calculate w (value_of w e)) (λ i row m'. refused_so o refl) o a m
  deep (suc d) zero h o a m = absurd (not-suc-le-zero h)
  deep (suc d) (suc e) h o a m = deeper_so Depth w w.room as_noted d e (deep d e (le_of_suc-le-suc h)) o a m

pub more_depth : (k : Book) (f : Fit) (q : Rooms) (d : ℕ) → f.depth ≤ d → Unless Depth (run k f q) (run k (with_depth d f) q)
unfolding run
more_depth k f q d h =
    rw (bases_same k f d, moves_same k f d, collected_same k f d, hits_same k f d (collected_in k f), world_same k f d q.sources)
    (after Depth (full (cond (leb (length (base_keys f)) q.rows) none (some 2))) _ _ λ t₁.
    after Depth (collected q 0 0 (moves k f)) _ _ λ t₂.
    after Depth (full (full_at q.rows q.entries (base_keys f) (length (base_keys f)) 0 (hit_keys k f (collected_in k f)))) _ _ λ t₃.
    before Depth (valued w f.depth (starts_of f w.rows) (blank w.rows)) (valued w d (starts_of f w.rows) (blank w.rows)) _
    (valued_so Depth w w.room (as_noted w) f.depth d (deep w f.depth d h) (starts_of f w.rows) (blank w.rows)))
  where
    w : World
    w = world_of k f q.sources
