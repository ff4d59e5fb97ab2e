-- M-111's promise: where no attribute leads back to itself, a listing whose every value is what the rules give from the others is the
-- one that the rules give with no memory; so it is that of every run that is done, and there is only one.
use Prim.Native.Nat.{ℕ, zero, suc, ◌+◌, ◌<◌, suc-le-suc, zero-le}
use native.Mathlib.Nat.{add-zero}
use native.Mathlib.Omega.{arith}
use mathlib.Core.Path.{◌≡◌, refl, sym, ap, subst, ◌∙◌}
use mathlib.Core.Bool.{Bool, true, false, ◌&&◌}
use mathlib.Core.List.{List, [], ◌∷◌}
use mathlib.Core.Option.{Option, none, some}
use lib.Dec.{eqb}
use lib.IntN.{ℤ}
use lib.Ieee.{Float}
use lib.ListN.{length, get_or}
use lib.Seq.{ext_get_or}
use Rattle.laws.specs.Lists.{eq_z}
use Rattle.rules.specs.Answer.{Res, ok, refused, ◌>>=◌}
use Rattle.rules.specs.Sheet.{Book, Fit}
use Rattle.rules.specs.Dispatch.{Row, Key}
use Rattle.rules.specs.Info.{get_dogma_attribute}
use Rattle.rules.specs.Outcome.{Rooms, Done, blank, world_of, collected_in, rows_in, run}
use Rattle.rules.specs.Value.{World, Reader, Found, find_row, calculate}
use Rattle.rules.specs.Fresh.{unrecorded, forgetful, fresh, needs_of}
use Rattle.rules.specs.declared.Refusal.TheVariants.{Depth}
use Rattle.promises.specs.NoMemory.{no_row, key_at, Needs, NoLoop, Sound, SameButAsks}
use Rattle.promises.proofs.NoMemoryGoes.{Goes, stops, goes, on}
use Rattle.promises.proofs.NoMemorySteps.{Each, Agree, calculate_goes}
use Rattle.promises.proofs.Ranks.{Within, within_rows, found_at, each_of}
use Rattle.promises.proofs.NoMemoryFresh.{Same, value_by, fresh_goes}
use Rattle.promises.proofs.NoMemoryRows.{found_there, rows_distinct}
use Rattle.promises.proofs.NoMemoryRun.{run_no_memory, run_long, run_rows}
use Rattle.promises.proofs.NoMemorySame.{fresh_same, free_same, world_same, rows_same, sound_same}
use Rattle.rules.proofs.Results.{got}
use Rattle.settled.specs.Given.{listed_reader, idles, where_recorded, given, RightAt, Accepted}

-- ---- the row that is found is the one of its number

record Row_of (k : ℕ) (rs : List Row) (f : Found) : Type 0 where
  at : ℕ
  index : f.index ≡ k + at
  row : f.row ≡ get_or rs at no_row

row_of : (o : ℕ) (a : ℤ) (k : ℕ) (rs : List Row) (f : Found) → find_row o a k rs ≡ some f → Row_of k rs f
unfolding find_row
row_of o a k [] f e = let z : ◌≡◌ {A = ℕ} 0 1 = cc in absurd (omega arith)
row_of o a k (r ∷ rs) f e = by (eqb r.object o && eq_z r.id a) e (row_of o a (suc k) rs f)
  where
    by : (t : Bool) → (elim t [ true ↦ some (record { index = k; row = r }) | false ↦ find_row o a (suc k) rs ]) ≡ some f
        → (find_row o a (suc k) rs ≡ some f → Row_of (suc k) rs f) → Row_of k (r ∷ rs) f
    by true p rest =
        let same : ◌≡◌ {A = Found} (record { index = k; row = r }) f = cc in
        record { at = zero; index = sym (ap (λ (g : Found). g.index) same) ∙ sym (add-zero k); row = sym (ap (λ (g : Found). g.row) same) }
    by false p rest = let l = rest p in record { at = suc l.at; index = omega (arith, l.index); row = l.row }

goes_on : {x y z : Res Float} → Goes Same x y → Goes Same y z → Goes Same x z
goes_on stops k = stops
goes_on (goes e) (goes k) = goes (e ∙ k)

-- one step more that only the first takes, and of which only its refusal counts
tested : (x : Res Unit) (a b : Float) → a ≡ b → Goes Same (x >>= λ t. ok a) (ok b)
tested (ok t) a b e = goes e
tested (refused y) a b e = stops

-- what the reader looks up
pub listed_is : (w : World) (vs : List (Option Float)) (o : ℕ) (a : ℤ) (f : Found) → find_row o a 0 w.rows ≡ some f → (v : Float) → get_or vs f.index none ≡ some v → listed_reader w vs o a ≡ ok v
unfolding listed_reader
listed_is w vs o a f e v g =
    ap (λ (x : Option Found). elim x [
      | none ↦ ok (get_dogma_attribute w.book a).default_value
      | some h ↦ elim (get_or vs h.index none) [ some u ↦ ok u | none ↦ refused (Depth o) ]
    ]) e ∙ ap (λ (y : Option Float). elim y [ some u ↦ ok u | none ↦ refused (Depth o) ]) g

pub listed_default : (w : World) (vs : List (Option Float)) (o : ℕ) (a : ℤ) → find_row o a 0 w.rows ≡ none → listed_reader w vs o a ≡ ok (get_dogma_attribute w.book a).default_value
unfolding listed_reader
listed_default w vs o a e =
    ap (λ (x : Option Found). elim x [
      | none ↦ ok (get_dogma_attribute w.book a).default_value
      | some h ↦ elim (get_or vs h.index none) [ some u ↦ ok u | none ↦ refused (Depth o) ]
    ]) e

-- ---- each listed value is the one with no memory

module _ (w : World) (vs : List (Option Float)) (free : NoLoop w) (all : Accepted w vs) where
  abbrev fresh_at : Key → Res Float
  fresh_at a = fresh w a.object a.id

  abbrev listed_at : Key → Res Float
  listed_at a = listed_reader w vs a.object a.id

  -- a row's value from the listing, and from the values with no memory, where they agree on its needs
  row_goes : (a : Key) (f : Found) → find_row a.object a.id 0 w.rows ≡ some f → ((b : Key) → Needs w a b → Goes Same (listed_at b) (fresh_at b))
      → Goes Same (given w vs f.index f.row) (value_by w fresh_at a (some f))
  unfolding given
  row_goes a f e h =
      on _ _ (calculate_goes (unrecorded w) f.index f.row (λ v. Unit {0}) one other (blank w.rows) (blank w.rows) each tt) (λ q p g. tested (where_recorded w.recording (idles (unrecorded w) one f.index f.row f.row.entries (blank w.rows))) q.value p.value g.value)
    where
      one : Reader
      one = forgetful (listed_reader w vs)

      other : Reader
      other = forgetful (λ o i. fresh_at (record { object = o; id = i }))

      each : Each (Agree (unrecorded w) f.index f.row (λ v. Unit {0}) one other) (needs_of w.book f.row)
      each =
          each_of (Agree (unrecorded w) f.index f.row (λ v. Unit {0}) one other) (needs_of w.book f.row)
          (λ b n m m' t. on _ _ (h b ((found_at w a f e).needed b n)) (λ x y p. goes (record { value = p; inv = tt })))

  -- a row that is found is right
  pub right_found : (a : Key) (f : Found) → find_row a.object a.id 0 w.rows ≡ some f → (v : Float) → get_or vs f.index none ≡ some v → given w vs f.index f.row ≡ ok v
  right_found a f e v g =
      let l = row_of a.object a.id 0 w.rows f e in
      let here : l.at ≡ f.index = omega (arith, l.index) in
      let r = all.right f.index (found_at w a f e).within in
      let same : r.value ≡ v = some_same (sym r.listed ∙ g) in
      ap (given w vs f.index) (l.row ∙ ap (λ (n : ℕ). get_or w.rows n no_row) here) ∙ r.is ∙ ap ok same
    where
      some_same : {x y : Float} → ◌≡◌ {A = Option Float} (some x) (some y) → x ≡ y
      some_same p = cc

  -- one step: what a needs is right
  step : (a : Key) → ((f : Found) → find_row a.object a.id 0 w.rows ≡ some f → (b : Key) → Needs w a b → Goes Same (listed_at b) (fresh_at b)) → Goes Same (listed_at a) (fresh_at a)
  unfolding listed_reader
  step a below = by (find_row a.object a.id 0 w.rows) refl
    where
      valued : (f : Found) → find_row a.object a.id 0 w.rows ≡ some f → (v : Option Float) → get_or vs f.index none ≡ v
          → Goes Same (elim v [ some x ↦ ok x | none ↦ refused (Depth a.object) ]) (fresh_at a)
      valued f e none g = stops
      valued f e (some x) g =
          subst (λ (y : Res Float). Goes Same y (fresh_at a)) (right_found a f e x g)
          (goes_on (row_goes a f e (below f e)) (subst (λ (o : Option Found). Goes Same (value_by w fresh_at a o) (fresh_at a)) e (fresh_goes w free a)))

      by : (f : Option Found) → find_row a.object a.id 0 w.rows ≡ f
          → Goes Same (elim f [
            | none ↦ ok (get_dogma_attribute w.book a.id).default_value
            | some f ↦ elim (get_or vs f.index none) [ some v ↦ ok v | none ↦ refused (Depth a.object) ]
          ]) (fresh_at a)
      by none e = subst (λ (o : Option Found). Goes Same (value_by w fresh_at a o) (fresh_at a)) e (fresh_goes w free a)
      by (some f) e = valued f e (get_or vs f.index none) refl

  by_rank : (n : ℕ) (a : Key) → Within w n a → Goes Same (listed_at a) (fresh_at a)
  by_rank zero a h = step a (λ f e b needed. nowhere f (sym h ∙ e))
    where
      nowhere : {X : Type 0} (f : Found) → none ≡ some f → X
      nowhere f q = let z : ◌≡◌ {A = ℕ} 0 1 = cc in absurd (omega arith)
  by_rank (suc n) a h = step a (λ f e b needed. by_rank n b (h b needed))

  pub accepted_goes : (a : Key) → Goes Same (listed_at a) (fresh_at a)
  accepted_goes a = by_rank (length w.rows) a (within_rows w free a)

  -- of row i, where it is the one that is found
  pub accepted_fresh : (i : ℕ) (l : i < length w.rows) → find_row (key_at w i).object (key_at w i).id 0 w.rows ≡ some (record { index = i; row = get_or w.rows i no_row })
      → fresh_at (key_at w i) ≡ ok (all.right i l).value
  accepted_fresh i l e =
      is (fresh_at (key_at w i)) (subst (λ (x : Res Float). Goes Same x (fresh_at (key_at w i))) (listed_is w vs (key_at w i).object (key_at w i).id _ e (all.right i l).value (all.right i l).listed) (accepted_goes (key_at w i)))
    where
      is : {v : Float} (x : Res Float) → Goes Same (ok v) x → x ≡ ok v
      is x (goes p) = ap ok (sym p)

-- ---- runs

module _ (k : Book) (f : Fit) (n : ℕ) (sound : Sound f) (free : NoLoop (world_of k f n)) (vs : List (Option Float)) (all : Accepted (world_of k f n) vs) where
  abbrev world : World
  world = world_of k f n

  found_row : (i : ℕ) → i < length world.rows → find_row (key_at world i).object (key_at world i).id 0 world.rows ≡ some (record { index = 0 + i; row = get_or world.rows i no_row })
  unfolding world_of rows_in
  found_row i h = found_there 0 world.rows i (rows_distinct k f (collected_in k f) sound) h

  listed_fresh : (i : ℕ) (l : i < length world.rows) → fresh world (key_at world i).object (key_at world i).id ≡ ok (all.right i l).value
  listed_fresh i l = accepted_fresh world vs free all i l (found_row i l ∙ ap (λ (m : ℕ). some (record { index = m; row = get_or world.rows i no_row })) (omega arith))

  -- an accepted listing is that of every run that is done, whatever its asks, depth, recording and room
  pub accepted_ours : (g : Fit) (q : Rooms) (d : Done) → SameButAsks f g → run k g q ≡ ok d → d.values ≡ vs
  unfolding world_of
  accepted_ours g q d same h = ext_get_or none d.values vs (long ∙ sym all.long) (λ i l. each i (omega (arith, l, long)))
    where
      other : World
      other = world_of k g q.sources

      free_other : NoLoop other
      free_other = free_same world other (world_same k f g same n q.sources) free

      rows : d.rows ≡ world.rows
      rows = run_rows k g q d h ∙ sym (rows_same k f g same)

      long : length d.values ≡ length world.rows
      long = run_long k g q free_other d h ∙ ap length rows

      each : (i : ℕ) → i < length world.rows → get_or d.values i none ≡ get_or vs i none
      each i l =
          let a = run_no_memory k g q free_other d (sound_same k f g same sound) h i (subst (λ (rs : List Row). i < length rs) (sym rows) l) in
          let b : fresh other (get_or d.rows i no_row).object (get_or d.rows i no_row).id ≡ ok (all.right i l).value =
          sym (fresh_same world other (world_same k f g same n q.sources) _ _) ∙ ap (λ (rs : List Row). fresh world (get_or rs i no_row).object (get_or rs i no_row).id) rows ∙ listed_fresh i l in
          a.has ∙ ap some (got (sym a.is ∙ b)) ∙ sym (all.right i l).listed

-- two accepted listings are the same
pub one-listing : (k : Book) (f : Fit) (n : ℕ) → Sound f → NoLoop (world_of k f n) → (vs us : List (Option Float)) → Accepted (world_of k f n) vs → Accepted (world_of k f n) us → vs ≡ us
one-listing k f n sound free vs us a b =
    ext_get_or none vs us (a.long ∙ sym b.long) (λ i l.
    let m : i < length (world_of k f n).rows = omega (arith, l, a.long) in
    (a.right i m).listed ∙ ap some (got (sym (listed_fresh k f n sound free vs a i m) ∙ listed_fresh k f n sound free us b i m)) ∙ sym (b.right i m).listed)
