-- M-111's promises, of every result that meets the contract of `dogma_check`.
use Rattle.std.specs.Prelude.{Ok, Err}
use Prim.Native.Nat.{ℕ, ◌<◌}
use native.Mathlib.Omega.{arith}
use mathlib.Core.Path.{◌≡◌, refl, sym, ap, subst, ◌∙◌}
use mathlib.Core.Bool.{true}
use mathlib.Core.List.{List, map}
use mathlib.Core.Option.{Option, none, some}
use lib.Dec.{eqb}
use lib.ListN.{length}
use Rattle.rules.specs.Answer.{Res, ok, refused, ◌>>=◌, number}
use Rattle.rules.specs.Bytes.{pairs_of}
use Rattle.rules.specs.Collect.{moves, plain_of}
use Rattle.rules.specs.Fresh.{unrecorded}
use Rattle.rules.specs.Outcome.{Lent, Rooms, Done, rooms_of, collected_in, rows_in, world_of, starts_of, blank, valued, run, outcome}
use Rattle.rules.specs.Shape.{bad_shape}
use Rattle.rules.specs.Sheet.{Book, Fit}
use Rattle.rules.specs.Value.{World, Mem}
use Rattle.rules.specs.declared.Refusal.{Refusal}
use Rattle.rules.specs.declared.Refusal.TheVariants as refusal
use Rattle.rules.specs.Answer.{Refused}
use Rattle.info.specs.Sound.{SoundBook, SoundFit}
use Rattle.shape.specs.Shaped.{shaped_of}
use Rattle.shape.proofs.Shapes.{sound_book, sound_fit}
use Rattle.values.proofs.Sheets.{sound_rows}
use Rattle.run.specs.Listing.{lists_in, valued_in}
use Rattle.run.proofs.Steps.{run_lists}
use Rattle.promises.specs.NoMemory.{key_of, NoLoop, Sound, SameButAsks, book_in, fit_in}
use Rattle.promises.specs.Result.{Result}
use Rattle.promises.proofs.NoMemory.{fit_sound, sheet_sound, is-run}
use Rattle.promises.proofs.NoMemoryRun.{run_rows}
use Rattle.promises.proofs.NoMemorySame.{free_same, world_same, rows_same}
use Rattle.settled.specs.Given as settled
use Rattle.settled.specs.Lines.{Line, values_of, first_bad}
use Rattle.settled.proofs.Listings.{accepted_not_bad}
use Rattle.settled.proofs.Ours.{ours_accepted, accepted_same}
use Rattle.settled.proofs.TendsReads.{Tended, done, wanting, OnlyRoom, room5, lifted, accepted_lifted}
use Rattle.promises.proofs.Ranks.{Within}
use Rattle.reading.specs.Held.{ascending}
use Rattle.loops.specs.Loop.{loop_at}
use Rattle.checks.specs.Check.{number_of, place_of, checked_in, checked_after, checked_for, checked, check_rooms, Checks, Verdict}
use Rattle.checks.specs.Promised.{world_at, Dispatched, Lowest, IsListing, DoneWith, listed, no_room}
use Rattle.checks.specs.declared.verdict.CheckRefusal.TheVariants.{Engine, Loop, Listing}
use Rattle.checks.proofs.Judges.{looped, by_lines}
use Rattle.checks.proofs.NoLoops.{loop_lowest, lowest_loop}
use Rattle.checks.proofs.Promises.{each_found, accepted_free, accepted_right, accepted_keys, checked_ours, one_accepted}

-- ---- numbers

engine_number : (x : Refusal) → (0 < number (Refused x)) × (number (Refused x) < 10)
engine_number (refusal.Shape p) = (omega arith, omega arith)
engine_number (refusal.Func p) = (omega arith, omega arith)
engine_number (refusal.Domain p) = (omega arith, omega arith)
engine_number (refusal.Category p) = (omega arith, omega arith)
engine_number (refusal.Operation p) = (omega arith, omega arith)
engine_number (refusal.Other p) = (omega arith, omega arith)
engine_number (refusal.Room p) = (omega arith, omega arith)
engine_number (refusal.Number p) = (omega arith, omega arith)
engine_number (refusal.Depth p) = (omega arith, omega arith)

is-done : (v : Verdict) → number_of v ≡ 0 → v ≡ Ok tt
is-done (Ok t) e = refl
is-done (Err (Engine x)) e = absurd (omega (arith, e, (engine_number x).0))
is-done (Err (Loop o)) e = absurd (omega (arith, e))
is-done (Err (Listing i)) e = absurd (omega (arith, e))

is_loop : (v : Verdict) → number_of v ≡ 10 → v ≡ Err (Loop (place_of v))
is_loop (Ok t) e = absurd (omega (arith, e))
is_loop (Err (Engine x)) e = absurd (omega (arith, e, (engine_number x).1))
is_loop (Err (Loop o)) e = refl
is_loop (Err (Listing i)) e = absurd (omega (arith, e))

-- ---- a verdict that is none of the engine's

module _ (b : List ℕ) (q : Rooms) (ls : List Line) where
  pub record Came (v : Verdict) : Type 0 where
    pub dispatched : Dispatched b q
    pub is : checked_in (world_at b) ls ≡ v

  pub came : (v : Verdict) → checked b q ls ≡ v → ((x : Refusal) → v ≡ Err (Engine x) → ⊥) → Came v
  unfolding checked
  came v e none_of = by (bad_shape b) refl e
    where
      by_lists : bad_shape b ≡ none → (s : Res Unit) → lists_in (book_in b) (fit_in b) q ≡ s → checked_after s (world_at b) ls ≡ v → Came v
      by_lists g (ok t) h k = record { dispatched = record { shape = g; lists = h }; is = k }
      by_lists g (refused x) h k = absurd (none_of x (sym k))

      by : (o : Option ℕ) → bad_shape b ≡ o → ◌≡◌ {A = Verdict} (elim o [ some t ↦ Err (Engine (refusal.Shape t)) | none ↦ checked_for (book_in b) (fit_in b) q ls ]) v → Came v
      by (some t) g k = absurd (none_of (refusal.Shape t) (sym k))
      by none g k = by_lists g (lists_in (book_in b) (fit_in b) q) refl k

  -- past dispatch the verdict is the sheet's own
  past : Dispatched b q → checked b q ls ≡ checked_in (world_at b) ls
  unfolding checked
  past d =
      ap (λ (o : Option ℕ). elim o [ some t ↦ Err (Engine (refusal.Shape t)) | none ↦ checked_for (book_in b) (fit_in b) q ls ]) d.shape
      ∙ ap (λ (s : Res Unit). checked_after s (world_at b) ls) d.lists

loop_said : (w : World) (ls : List Line) (o : ℕ) → checked_in w ls ≡ Err (Loop o) → loop_at w ≡ some o
unfolding checked_in
loop_said w ls o e = by (loop_at w) (first_bad w ls) e
  where
    by : (x y : Option ℕ) → ◌≡◌ {A = Verdict} (elim x [ some p ↦ Err (Loop p) | none ↦ elim y [ some i ↦ Err (Listing i) | none ↦ Ok tt ] ]) (Err (Loop o)) → x ≡ some o
    by (some p) y k = cc
    by none none k = let z : ◌≡◌ {A = ℕ} 0 1 = cc in absurd (omega arith)
    by none (some i) k = let z : ◌≡◌ {A = ℕ} 0 1 = cc in absurd (omega arith)

pub not_engine : (v : Verdict) (x : Refusal) → number_of v ≡ 0 → v ≡ Err (Engine x) → ⊥
not_engine v x e h = let p = (engine_number x).0 in let z : number (Refused x) ≡ 0 = sym (ap number_of h) ∙ e in omega (arith, p, z)

-- ---- what is sound

module _ (b : List ℕ) (good : bad_shape b ≡ none) where
  book_there : SoundBook b (pairs_of b)
  book_there = sound_book b (sym (ap shaped_of good))

  fit_there : SoundFit b (pairs_of b)
  fit_there = sound_fit b (sym (ap shaped_of good))

  pub sound_there : Sound (fit_in b)
  sound_there = fit_sound b (pairs_of b) fit_there.good

  rows_ordered : ascending (world_at b).rows ≡ true
  unfolding world_of
  rows_ordered = (sound_rows b b (pairs_of b) book_there fit_there).ordered

  lowest : (o : ℕ) → loop_at (world_at b) ≡ some o → Lowest (world_at b) o
  lowest = loop_lowest (world_at b) (each_found (book_in b) (fit_in b) sound_there) rows_ordered

  -- where no attribute leads back to itself no LOOP is found
  none_found : NoLoop (world_at b) → none ≡ loop_at (world_at b)
  none_found free = by (loop_at (world_at b)) refl
    where
      by : (x : Option ℕ) → loop_at (world_at b) ≡ x → none ≡ x
      by none e = refl
      by (some o) e = let l = lowest o e in absurd (free l.key l.back)

world_rows : (k : Book) (f : Fit) (n : ℕ) → (world_of k f n).rows ≡ rows_in k f
unfolding world_of
world_rows k f n = refl

world_recording : (k : Book) (f : Fit) (n : ℕ) → (world_of k f n).recording ≡ eqb f.recording 1
unfolding world_of
world_recording k f n = refl

-- ---- a run as deep as there are rows

module _ (k : Book) (g : Fit) (q : Rooms) (ls : List Line) (free : NoLoop (world_of k g q.sources)) (right : settled.Accepted (world_of k g q.sources) (values_of ls)) (deep : g.depth ≡ length (world_of k g q.sources).rows)
    (lists : lists_in k g q ≡ ok tt) (own : (d : Done) → run k g q ≡ ok d → IsListing ls d) where
  abbrev w : World
  w = world_of k g q.sources

  abbrev done_of : Mem → Done
  done_of m = record { states = w.states; collected = collected_in k g; plain = plain_of (moves k g); rows = w.rows; values = m.values; sources = m.sources }

  abbrev memory : Res Mem
  memory = valued w (length w.rows) (starts_of g w.rows) (blank w.rows)

  ran : run k g q ≡ (memory >>= λ m. ok (done_of m))
  ran =
      run_lists k g q ∙ ap (λ (s : Res Unit). s >>= (λ _. valued_in k g q)) lists
      ∙ ap (λ (n : ℕ). valued w n (starts_of g w.rows) (blank w.rows) >>= λ m. ok (done_of m)) deep

  short : (x : Refusal) → OnlyRoom w x → memory ≡ refused x → DoneWith ls (eqb g.recording 1) (run k g q)
  unfolding world_of
  short x (room5 t) e = subst (DoneWith ls (eqb g.recording 1)) (sym (ran ∙ ap (λ (y : Res Mem). y >>= λ m. ok (done_of m)) e)) (no_room t)

  by_memory : (x : Res Mem) → memory ≡ x → Tended w (values_of ls) free right (OnlyRoom w) (Within w) (lifted w) x → DoneWith ls (eqb g.recording 1) (run k g q)
  by_memory x e (done {m = m} s) =
      let is : run k g q ≡ ok (done_of m) = ran ∙ ap (λ (y : Res Mem). y >>= λ n. ok (done_of n)) e in
      subst (DoneWith ls (eqb g.recording 1)) (sym is) (listed (own (done_of m) is))
  by_memory x e (wanting {x = y} h) = short y h e

  lifted_ends : DoneWith ls (eqb g.recording 1) (run k g q)
  lifted_ends = by_memory memory refl (accepted_lifted w (values_of ls) free right (starts_of g w.rows))

-- ---- the promises: of a result r of a check of the bytes b, with these lists and this scratch lent, and the lines ls

module _ (b : List ℕ) (l : Lent) (work : ℕ) (ls : List Line) (r : Result) (c : Checks b l work ls r) where
  abbrev verdict : Verdict
  verdict = checked b (check_rooms l work) ls

  -- "LOOP exactly when an attribute leads back to itself as demand 3 counts it", with the lowest object
  pub loop_exactly : (r.number ≡ 10 → Dispatched b (check_rooms l work) × Lowest (world_at b) r.place)
      × ((o : ℕ) → Dispatched b (check_rooms l work) → Lowest (world_at b) o → (r.number ≡ 10) × (r.place ≡ o))
  loop_exactly = (said, given)
    where
      said : r.number ≡ 10 → Dispatched b (check_rooms l work) × Lowest (world_at b) r.place
      said e =
          let loops : verdict ≡ Err (Loop r.place) = is_loop verdict (sym c.by_number ∙ e) ∙ ap (λ (o : ℕ). Err (Loop o)) (sym c.by_place) in
          let k = came b (check_rooms l work) ls (Err (Loop r.place)) loops (λ x h. let z : ◌≡◌ {A = ℕ} 0 1 = cc in omega arith) in
          (k.dispatched, lowest b k.dispatched.shape r.place (loop_said (world_at b) ls r.place k.is))

      given : (o : ℕ) → Dispatched b (check_rooms l work) → Lowest (world_at b) o → (r.number ≡ 10) × (r.place ≡ o)
      given o d k =
          let found = lowest_loop (world_at b) (each_found (book_in b) (fit_in b) (sound_there b d.shape)) (rows_ordered b d.shape) o k in
          let loops : verdict ≡ Err (Loop o) = past b (check_rooms l work) ls d ∙ sym (looped (world_at b) ls o (sym found)) in
          (c.by_number ∙ ap number_of loops, c.by_place ∙ ap place_of loops)

  -- "all that our engine writes for a sheet without a loop is accepted, whichever asks it had"
  pub ours_done : Dispatched b (check_rooms l work) → NoLoop (world_at b) → (a : List ℕ) (m : Lent) (d : Done) → outcome a m ≡ ok d → book_in a ≡ book_in b → SameButAsks (fit_in a) (fit_in b)
      → (fit_in a).recording ≡ (fit_in b).recording → IsListing ls d → (r.number ≡ 0) × (r.place ≡ 0)
  ours_done s free a m d h book same recording own =
      (c.by_number ∙ ap number_of accepted, c.by_place ∙ ap place_of accepted)
    where
      ran : run (book_in b) (fit_in a) (rooms_of m) ≡ ok d
      ran = subst (λ (k : Book). run k (fit_in a) (rooms_of m) ≡ ok d) book (is-run a m d h)

      right : settled.Accepted (world_at b) (values_of ls)
      right = subst (settled.Accepted (world_at b)) (sym own.values) (ours_accepted (book_in b) (fit_in b) (fit_in a) 0 (rooms_of m) d same recording (sheet_sound a m d h) free ran)

      rows : d.rows ≡ (world_at b).rows
      rows = run_rows (book_in b) (fit_in a) (rooms_of m) d ran ∙ rows_same (book_in b) (fit_in a) (fit_in b) same ∙ sym (world_rows (book_in b) (fit_in b) 0)

      keys : map (λ (x : Line). x.key) ls ≡ map key_of (world_at b).rows
      keys = own.keys ∙ ap (map key_of) rows

      accepted : verdict ≡ Ok tt
      accepted = past b (check_rooms l work) ls s ∙ sym (by_lines (world_at b) ls (none_found b s.shape free) none (accepted_not_bad (world_at b) ls keys right))

  module _ (zero : r.number ≡ 0) where
    accepts : Came b (check_rooms l work) ls (Ok tt)
    accepts =
        let v : verdict ≡ Ok tt = is-done verdict (sym c.by_number ∙ zero) in
        came b (check_rooms l work) ls (Ok tt) v (λ x h. not_engine (Ok tt) x refl h)

    sound : Sound (fit_in b)
    sound = sound_there b accepts.dispatched.shape

    free : NoLoop (world_at b)
    free = accepted_free (book_in b) (fit_in b) sound ls accepts.is

    -- an accepted listing has the rows of every run over the same tables
    same_keys : (g : Fit) (q : Rooms) (d : Done) → SameButAsks (fit_in b) g → run (book_in b) g q ≡ ok d → map (λ (x : Line). x.key) ls ≡ map key_of d.rows
    unfolding world_of
    same_keys g q d same h = accepted_keys (book_in b) (fit_in b) sound ls accepts.is ∙ ap (map key_of) (rows_same (book_in b) (fit_in b) g same ∙ sym (run_rows (book_in b) g q d h))

    is-listing : (g : Fit) (q : Rooms) (d : Done) → SameButAsks (fit_in b) g → run (book_in b) g q ≡ ok d → IsListing ls d
    is-listing g q d same h = record { keys = same_keys g q d same h; values = sym (checked_ours (book_in b) (fit_in b) sound ls accepts.is g q d same h) }

    -- "an accepted listing is wholly ours": that of every run that is done, whatever its asks, depth, recording and lists
    pub done_ours : (a : List ℕ) (m : Lent) (d : Done) → outcome a m ≡ ok d → book_in b ≡ book_in a → SameButAsks (fit_in b) (fit_in a) → IsListing ls d
    done_ours a m d h book same = is-listing (fit_in a) (rooms_of m) d same (subst (λ (k : Book). run k (fit_in a) (rooms_of m) ≡ ok d) (sym book) (is-run a m d h))

    -- "depth limit lifted": as deep as there are rows the run is done with these lines; where source rows are recorded, list 5 may be short
    pub done_lifted : (g : Fit) (q : Rooms) → SameButAsks (fit_in b) g → (fit_in b).recording ≡ g.recording → g.depth ≡ length (world_at b).rows → lists_in (book_in b) g q ≡ ok tt
        → DoneWith ls (eqb g.recording 1) (run (book_in b) g q)
    done_lifted g q same recording deep lists =
        lifted_ends (book_in b) g q ls free_there right_there (deep ∙ ap length rows_there) lists (λ d h. is-listing g q d same h)
      where
        one : unrecorded (world_at b) ≡ unrecorded (world_of (book_in b) g q.sources)
        one = world_same (book_in b) (fit_in b) g same 0 q.sources

        rows_there : (world_at b).rows ≡ (world_of (book_in b) g q.sources).rows
        rows_there = ap (λ (x : World). x.rows) one

        recorded_there : (world_at b).recording ≡ (world_of (book_in b) g q.sources).recording
        recorded_there = world_recording (book_in b) (fit_in b) 0 ∙ ap (λ (n : ℕ). eqb n 1) recording ∙ sym (world_recording (book_in b) g q.sources)

        free_there : NoLoop (world_of (book_in b) g q.sources)
        free_there = free_same (world_at b) (world_of (book_in b) g q.sources) one free

        right_there : settled.Accepted (world_of (book_in b) g q.sources) (values_of ls)
        right_there = accepted_same (world_at b) (world_of (book_in b) g q.sources) one recorded_there (values_of ls) (accepted_right (book_in b) (fit_in b) sound ls accepts.is)

-- there is only one
pub one-listing-done : (b : List ℕ) (l m : Lent) (v w : ℕ) (ls ms : List Line) (r s : Result) → Checks b l v ls r → Checks b m w ms s → r.number ≡ 0 → s.number ≡ 0
    → (map (λ (x : Line). x.key) ls ≡ map (λ (x : Line). x.key) ms) × (values_of ls ≡ values_of ms)
one-listing-done b l m v w ls ms r s c e p q =
    let a = accepts b l v ls r c p in
    let d = accepts b m w ms s e q in
    let h = sound b l v ls r c p in (
      accepted_keys (book_in b) (fit_in b) h ls a.is ∙ sym (accepted_keys (book_in b) (fit_in b) h ms d.is),
      one_accepted (book_in b) (fit_in b) h ls ms a.is d.is,
    )
