-- M-111's promise the other way round: "all that our engine writes for a sheet without a loop is accepted, whichever asks it had".
use Prim.Native.Nat.{ℕ, zero, suc, ◌<◌}
use native.Mathlib.Omega.{arith}
use mathlib.Core.Path.{◌≡◌, refl, sym, ap, ap₂, subst, fun_ext, ◌∙◌}
use mathlib.Core.Bool.{Bool, true}
use mathlib.Core.List.{List}
use mathlib.Core.Option.{Option, none, some}
use lib.Dec.{eqb}
use lib.IntN.{ℤ}
use lib.Ieee.{Float}
use lib.ListN.{length, get_or}
use Rattle.rules.specs.Answer.{Res, ok, ◌>>=◌}
use Rattle.rules.specs.Sheet.{Book, Fit}
use Rattle.rules.specs.Dispatch.{Row, Key}
use Rattle.rules.specs.Outcome.{Rooms, Done, blank, world_of, run}
use Rattle.rules.specs.Value.{World, Mem, Read, Reader, Found, find_row, calculate}
use Rattle.rules.specs.Fresh.{unrecorded, forgetful, fresh}
use Rattle.rules.proofs.Results.{then, got}
use Rattle.promises.specs.NoMemory.{no_row, key_at, NoLoop, Sound, SameButAsks, Memoryless}
use Rattle.promises.proofs.NoMemoryGoes.{second}
use Rattle.promises.proofs.Ranks.{within_rows, found_at}
use Rattle.promises.proofs.NoMemoryFresh.{value_by, deep, deep_step, stable, fresh_default}
use Rattle.promises.proofs.NoMemoryReads.{Once}
use Rattle.promises.proofs.NoMemoryRun.{found_row, run_each, run_long, run_rows}
use Rattle.promises.proofs.NoMemorySame.{free_same, world_same, sound_same}
use Rattle.settled.specs.Given.{listed_reader, idles, where_recorded, given, RightAt, Accepted}
use Rattle.settled.proofs.Accepted.{listed_is, listed_default}
use Rattle.settled.proofs.Parts.{Parts, given_of}
use Rattle.settled.proofs.Quiet.{calculate_quiet}

-- ---- a row's calculation over the values with no memory

record Stepped (w : World) (f : Found) (v : Float) : Type 0 where
  read : Read
  first : calculate (unrecorded w) (forgetful (fresh w)) f.index f.row (blank w.rows) ≡ ok read
  value : read.value ≡ v

-- it gives the row's own
stepped : (w : World) → NoLoop w → (a : Key) (f : Found) → find_row a.object a.id 0 w.rows ≡ some f → (v : Float) → fresh w a.object a.id ≡ ok v → Stepped w f v
unfolding fresh
stepped w free a f found v e =
    let n = length w.rows in
    let s = second (stable w n (suc n) (suc (suc n)) a (within_rows w free a) (omega arith) (omega arith)) e in
    let p = then (calculate (unrecorded w) (forgetful (fresh w)) f.index f.row (blank w.rows)) _ s.given (sym (deep_step w (suc n) a ∙ ap (value_by w (deep w (suc n)) a) found) ∙ s.is) in
    record { read = p.given; first = p.first; value = got p.rest ∙ sym s.related }

-- ---- a run

module _ (k : Book) (f : Fit) (q : Rooms) (sound : Sound f) (free : NoLoop (world_of k f q.sources)) (d : Done) (done : run k f q ≡ ok d) where
  abbrev w : World
  w = world_of k f q.sources

  -- the idle entries of row j have strengths, where the run records
  abbrev Quiet : ℕ → Type 0
  Quiet j =
      (g : Found) → find_row (key_at w j).object (key_at w j).id 0 w.rows ≡ some g → w.recording ≡ true
      → (n : Mem) → idles (unrecorded w) (forgetful (fresh w)) g.index g.row g.row.entries n ≡ ok tt

  once_quiet : Once w Quiet
  once_quiet a g found Inv read m r each start is h e records n =
      subst (λ (x : Found). idles (unrecorded w) (forgetful (fresh w)) x.index x.row x.row.entries n ≡ ok tt)
      (one (subst (λ (x : Key). find_row x.object x.id 0 w.rows ≡ some h) (found_at w a g found).key e))
      (calculate_quiet w records g.index g.row Inv read (forgetful (fresh w)) m r each start is n)
    where
      one : find_row a.object a.id 0 w.rows ≡ some h → g ≡ h
      one s = cc

  rows : d.rows ≡ w.rows
  unfolding world_of
  rows = run_rows k f q d done

  settled : (i : ℕ) → i < length w.rows → Memoryless w d i × Quiet i
  settled i l = run_each k f q free Quiet once_quiet d sound done i (subst (λ (rs : List Row). i < length rs) (sym rows) l)

  abbrev value : (i : ℕ) → i < length w.rows → Float
  value i l = (settled i l).0.value

  found : (i : ℕ) → i < length w.rows → find_row (key_at w i).object (key_at w i).id 0 w.rows ≡ some (record { index = i; row = get_or w.rows i no_row })
  found i l = found_row k f q i sound l ∙ ap (λ (m : ℕ). some (record { index = m; row = get_or w.rows i no_row })) (omega arith)

  fresh-row : (i : ℕ) (l : i < length w.rows) → fresh w (key_at w i).object (key_at w i).id ≡ ok (value i l)
  fresh-row i l = ap (λ (rs : List Row). fresh w (get_or rs i no_row).object (get_or rs i no_row).id) (sym rows) ∙ (settled i l).0.is

  -- what the run wrote reads as the values with no memory
  same_at : (a : Key) → listed_reader w d.values a.object a.id ≡ fresh w a.object a.id
  same_at a = by (find_row a.object a.id 0 w.rows) refl
    where
      by : (g : Option Found) → find_row a.object a.id 0 w.rows ≡ g → listed_reader w d.values a.object a.id ≡ fresh w a.object a.id
      by none e = listed_default w d.values a.object a.id e ∙ sym (fresh_default w a e)
      by (some g) e =
          let b = found_at w a g e in
          listed_is w d.values a.object a.id g e (value g.index b.within) (settled g.index b.within).0.has
          ∙ sym (ap (λ (x : Key). fresh w x.object x.id) (sym b.key) ∙ fresh-row g.index b.within)

  same_reader : fresh w ≡ listed_reader w d.values
  same_reader = fun_ext λ o. fun_ext λ a. sym (same_at (record { object = o; id = a }))

  -- each row is what the rules give from the others
  row_parts : (i : ℕ) (l : i < length w.rows) → Parts w d.values i (get_or w.rows i no_row) (value i l)
  row_parts i l =
      let s = stepped w free (key_at w i) _ (found i l) (value i l) (fresh-row i l) in
      record {
        read = s.read;
        first = subst (λ (r : ℕ → ℤ → Res Float). calculate (unrecorded w) (forgetful r) i (get_or w.rows i no_row) (blank w.rows) ≡ ok s.read) same_reader s.first;
        value = s.value;
        quiet = λ t m. subst (λ (r : ℕ → ℤ → Res Float). idles (unrecorded w) (forgetful r) i (get_or w.rows i no_row) (get_or w.rows i no_row).entries m ≡ ok tt) same_reader ((settled i l).1 _ (found i l) t m);
      }

  pub run_accepted : Accepted w d.values
  run_accepted =
      record {
        long = run_long k f q free d done ∙ ap length rows;
        right = λ i l. record { value = value i l; listed = (settled i l).0.has; is = given_of w d.values i (get_or w.rows i no_row) (value i l) (row_parts i l) };
      }

-- ---- asks, depth and room play no part

module _ (w u : World) (same : unrecorded w ≡ unrecorded u) (recorded : w.recording ≡ u.recording) (vs : List (Option Float)) where
  -- what is given turns on the rows, and on whether they are recorded
  abbrev from : World → Bool → ℕ → Row → Res Float
  from x t i row =
      calculate x (forgetful (listed_reader x vs)) i row (blank x.rows) >>= λ r.
      where_recorded t (idles x (forgetful (listed_reader x vs)) i row row.entries (blank x.rows)) >>= λ z. ok r.value

  given-from : (x : World) (i : ℕ) (row : Row) → given x vs i row ≡ from (unrecorded x) x.recording i row
  unfolding given listed_reader calculate
  given-from x i row = refl

  given_same : (i : ℕ) (row : Row) → given w vs i row ≡ given u vs i row
  given_same i row = given-from w i row ∙ ap₂ (λ (x : World) (t : Bool). from x t i row) same recorded ∙ sym (given-from u i row)

  pub accepted_same : Accepted w vs → Accepted u vs
  accepted_same a =
      record {
        long = a.long ∙ ap length rows_are;
        right = λ i l. let r = a.right i (subst (λ (rs : List Row). i < length rs) (sym rows_are) l) in
            record { value = r.value; listed = r.listed; is = sym (given_same i (get_or u.rows i no_row)) ∙ ap (λ (rs : List Row). given w vs i (get_or rs i no_row)) (sym rows_are) ∙ r.is };
      }
    where
      rows_are : w.rows ≡ u.rows
      rows_are = ap (λ (x : World). x.rows) same

recorded_same : (k : Book) (f g : Fit) (n m : ℕ) → f.recording ≡ g.recording → (world_of k f n).recording ≡ (world_of k g m).recording
unfolding world_of
recorded_same k f g n m e = ap (λ (r : ℕ). eqb r 1) e

-- what a run of the sheet writes, whatever its asks, depth and room, is accepted of the sheet
pub ours_accepted : (k : Book) (f g : Fit) (n : ℕ) (q : Rooms) (d : Done) → SameButAsks g f → g.recording ≡ f.recording → Sound g → NoLoop (world_of k f n) → run k g q ≡ ok d
    → Accepted (world_of k f n) d.values
ours_accepted k f g n q d same recorded sound free done =
    let worlds = world_same k g f same q.sources n in
    accepted_same (world_of k g q.sources) (world_of k f n) worlds (recorded_same k g f q.sources n recorded) d.values
    (run_accepted k g q sound (free_same (world_of k f n) (world_of k g q.sources) (sym worlds) free) d done)
