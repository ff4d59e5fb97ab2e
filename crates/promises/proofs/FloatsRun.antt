-- Runs, with loops or without: every value and every source row is finite, and each row of a sound fit has a value.
use Prim.Native.Nat.{ℕ, zero, suc, ◌+◌, ◌<◌}
use native.Mathlib.Omega.{arith}
use mathlib.Core.Path.{◌≡◌, refl, sym, ap, subst, ◌∙◌}
use mathlib.Core.Bool.{Bool, true, false, ◌&&◌, ◌||◌}
use mathlib.Core.List.{List, [], ◌∷◌, map}
use mathlib.Core.Option.{Option, none, some}
use lib.Dec.{eqb}
use lib.Ieee.{Float}
use lib.IntN.{ℤ}
use lib.ListN.{length, get_or, length-map}
use Rattle.laws.specs.Lists.{eq_z, some?, every?}
use Rattle.laws.specs.Floats.{finite}
use Rattle.laws.proofs.Bools.{both_ways, and_left, and_right}
use Rattle.laws.proofs.First.{there?}
use Rattle.rules.specs.Answer.{Res, ok, refused}
use Rattle.rules.specs.Sheet.{Book, Fit}
use Rattle.rules.specs.Columns.{origin_value}
use Rattle.rules.specs.Dispatch.{Row, Key, same_key}
use Rattle.rules.specs.Info.{get_dogma_attribute}
use Rattle.rules.specs.Value.{World, Mem, Read, Found, find_row, calculate, calculated_value, value_of}
use Rattle.rules.specs.Outcome.{Rooms, Done, starts_of, valued, world_of, blank, run}
use Rattle.rules.specs.declared.Ask.{Ask}
use Rattle.rules.specs.declared.Refusal.TheVariants.{Depth}
use Rattle.rules.proofs.Ranked.{same_key_lem}
use Rattle.promises.specs.NoMemory.{key_at, Sound}
use Rattle.promises.proofs.Everywhere.{every_or}
use Rattle.promises.proofs.FloatsNumbers.{Gives, stops, gives, on, given}
use Rattle.promises.proofs.FloatsSteps.{fine_value, fine_source, Whole, WholeRead, calculate_fine}
use Rattle.promises.proofs.NoMemoryReads.{keeps_same, keeps_on}
use Rattle.promises.proofs.NoMemoryRun.{key_asked, Is, there_is, ran, walk_asks, found_row}
use Rattle.promises.proofs.Ranks.{found_at}

-- a row that is found is one of them
found_passes : (p : Row → Bool) (o : ℕ) (a : ℤ) (k : ℕ) (rs : List Row) (f : Found) → every? p rs ≡ true → find_row o a k rs ≡ some f → p f.row ≡ true
unfolding find_row
found_passes p o a k [] f h e = cc
found_passes p o a k (r ∷ rs) f h e = by (eqb r.object o && eq_z r.id a) e (found_passes p o a (suc k) rs f (and_right (p r) (every? p rs) h))
  where
    by : (t : Bool) → (elim t [ true ↦ some (record { index = k; row = r }) | false ↦ find_row o a (suc k) rs ]) ≡ some f → (find_row o a (suc k) rs ≡ some f → p f.row ≡ true) → p f.row ≡ true
    by true e g = let same : ◌≡◌ {A = Found} (record { index = k; row = r }) f = cc in subst (λ (x : Found). p x.row ≡ true) same (and_left (p r) (every? p rs) h)
    by false e g = g e

abbrev pub fine_at : Row → Bool
fine_at r = finite r.base && every? (λ e. finite (origin_value e.origin)) r.entries

module _ (w : World) (defaults : (a : ℤ) → finite (get_dogma_attribute w.book a).default_value ≡ true) (fine : every? fine_at w.rows ≡ true) where
  -- a memory of the world's rows
  pub record Kept (m : Mem) : Type 0 where
    pub values : every? fine_value m.values ≡ true
    pub sources : every? (every? fine_source) m.sources ≡ true
    pub long : length m.values ≡ length w.rows

  itself : (m : Mem) → Kept m → Whole m.values m
  itself m k = record { values = k.values; sources = k.sources; keeps = keeps_same m.values }

  -- after reading attribute a of object o, its row has a value, if there is one
  abbrev Has : ℕ → ℤ → Mem → Type 0
  Has o a m = (f : Found) → find_row o a 0 w.rows ≡ some f → there? (get_or m.values f.index none) ≡ true

  abbrev After : ℕ → ℤ → Mem → Read → Type 0
  After o a m q = WholeRead m.values q × Has o a q.mem

  started : (start : ℕ → Row → Mem → Res Read) (o : ℕ) (a : ℤ) (m : Mem) → Kept m
      → ((f : Found) → find_row o a 0 w.rows ≡ some f → Gives (λ (q : Read). WholeRead m.values q × (there? (get_or q.mem.values f.index none) ≡ true)) (start f.index f.row m))
      → Gives (After o a m) (calculated_value w start o a m)
  unfolding calculated_value
  started start o a m k h = by (find_row o a 0 w.rows) refl
    where
      known : Found → Option Float → Res Read
      known f v = elim v [ some x ↦ ok (record { value = x; mem = m }) | none ↦ start f.index f.row m ]

      found : Option Found → Res Read
      found f = elim f [ none ↦ ok (record { value = (get_dogma_attribute w.book a).default_value; mem = m }) | some x ↦ known x (get_or m.values x.index none) ]

      only : (n : Mem) (f : Found) → find_row o a 0 w.rows ≡ some f → there? (get_or n.values f.index none) ≡ true → Has o a n
      only n f e t g d = let same : f ≡ g = cc in subst (λ (x : Found). there? (get_or n.values x.index none) ≡ true) same t

      valued_or : (f : Found) → find_row o a 0 w.rows ≡ some f → (v : Option Float) → get_or m.values f.index none ≡ v → Gives (After o a m) (known f v)
      valued_or f e (some x) d =
          gives ((subst (λ (v : Option Float). fine_value v ≡ true) d (every_or fine_value m.values f.index none k.values refl), itself m k), only m f e (ap there? d))
      valued_or f e none d = weaken (h f e)
        where
          weaken : {x : Res Read} → Gives (λ (q : Read). WholeRead m.values q × (there? (get_or q.mem.values f.index none) ≡ true)) x → Gives (After o a m) x
          weaken stops = stops
          weaken (gives {a = q} p) = gives (p.0, only q.mem f e p.1)

      nowhere : {X : Type 0} (f : Found) → none ≡ some f → X
      nowhere f q = let z : ◌≡◌ {A = ℕ} 0 1 = cc in absurd (omega arith)

      by : (f : Option Found) → find_row o a 0 w.rows ≡ f → Gives (After o a m) (found f)
      by none e = gives ((defaults a, itself m k), λ f d. nowhere f (sym e ∙ d))
      by (some f) e = valued_or f e (get_or m.values f.index none) refl

  read_fine : (d o : ℕ) (a : ℤ) (m : Mem) → Kept m → Gives (After o a m) (value_of w d o a m)
  unfolding value_of
  read_fine zero o a m k = started (λ i row n. refused (Depth o)) o a m k (λ f e. stops)
  read_fine (suc d) o a m k = started (λ i row n. calculate w (value_of w d) i row n) o a m k λ f e.
      let row_fine = found_passes fine_at o a 0 w.rows f fine e in
      calculate_fine m.values w f.index f.row (value_of w d) (inside (read_fine d)) m
      (omega (arith, (found_at w (record { object = o; id = a }) f e).within, k.long))
      (and_left (finite f.row.base) (every? (λ x. finite (origin_value x.origin)) f.row.entries) row_fine)
      (and_right (finite f.row.base) (every? (λ x. finite (origin_value x.origin)) f.row.entries) row_fine)
      (itself m k)
    where
      weaken : (n : Mem) → Whole m.values n → (p : ℕ) (b : ℤ) {x : Res Read} → Gives (After p b n) x → Gives (WholeRead m.values) x
      weaken n g p b stops = stops
      weaken n g p b (gives h) = gives (h.0.0, record { values = h.0.1.values; sources = h.0.1.sources; keeps = keeps_on g.keeps h.0.1.keeps })

      inside : ((p : ℕ) (b : ℤ) (n : Mem) → Kept n → Gives (After p b n) (value_of w d p b n)) → (p : ℕ) (b : ℤ) (n : Mem) → Whole m.values n → Gives (WholeRead m.values) (value_of w d p b n)
      inside h p b n g = weaken n g p b (h p b n (record { values = g.values; sources = g.sources; long = g.keeps.long ∙ k.long }))

  -- ---- asks and walk

  record Walked (starts : List Ask) (m n : Mem) : Type 0 where
    whole : Whole m.values n
    has : (a : Key) → some? (λ s. same_key (key_asked s) a) starts ≡ true → Has a.object a.id n

  walked_fine : (d : ℕ) (starts : List Ask) (m : Mem) → Kept m → Gives (Walked starts m) (valued w d starts m)
  unfolding valued
  walked_fine d [] m k = gives (record { whole = itself m k; has = λ a t. both_ways t refl })
  walked_fine d (s ∷ r) m k = on _ (read_fine d s.object s.attribute_id m k) λ q p.
      more q p (walked_fine d r q.mem (record { values = p.0.1.values; sources = p.0.1.sources; long = p.0.1.keeps.long ∙ k.long }))
    where
      joined : (q : Read) (n : Mem) → After s.object s.attribute_id m q → Walked r q.mem n → Walked (s ∷ r) m n
      joined q n p g =
          record {
            whole = record { values = g.whole.values; sources = g.whole.sources; keeps = keeps_on p.0.1.keeps g.whole.keeps };
            has = λ a t. by a (same_key (key_asked s) a) refl t;
          }
        where
          by : (a : Key) (t : Bool) → same_key (key_asked s) a ≡ t → t || some? (λ x. same_key (key_asked x) a) r ≡ true → Has a.object a.id n
          by a true e u f d = g.whole.keeps.valued f.index (p.1 f (subst (λ (x : Key). find_row x.object x.id 0 w.rows ≡ some f) (sym (same_key_lem (key_asked s) a e)) d))
          by a false e u f d = g.has a u f d

      more : (q : Read) → After s.object s.attribute_id m q → {x : Res Mem} → Gives (Walked r q.mem) x → Gives (Walked (s ∷ r) m) x
      more q p stops = stops
      more q p (gives {a = n} g) = gives (joined q n p g)

  blank_kept : Kept (blank w.rows)
  blank_kept = record { values = nothing_yet w.rows; sources = no_sources w.rows; long = length-map w.rows (λ r. none) }
    where
      nothing_yet : (rs : List Row) → every? fine_value (map (λ r. none) rs) ≡ true
      nothing_yet [] = refl
      nothing_yet (r ∷ rs) = nothing_yet rs

      no_sources : (rs : List Row) → every? (every? fine_source) (map (λ r. []) rs) ≡ true
      no_sources [] = refl
      no_sources (r ∷ rs) = no_sources rs

-- ---- a run

module _ (k : Book) (f : Fit) (q : Rooms) (defaults : (a : ℤ) → finite (get_dogma_attribute k a).default_value ≡ true) (fine : every? fine_at (world_of k f q.sources).rows ≡ true) (d : Done) (e : run k f q ≡ ok d) where
  abbrev world : World
  world = world_of k f q.sources

  defaults_there : (a : ℤ) → finite (get_dogma_attribute world.book a).default_value ≡ true
  unfolding world_of
  defaults_there = defaults

  gone : Walked world defaults_there fine (starts_of f world.rows) (blank world.rows) (ran k f q d e).mem
  gone = given (walked_fine world defaults_there fine f.depth (starts_of f world.rows) (blank world.rows) (blank_kept world defaults_there fine)) (ran k f q d e).gone

  pub run_values : every? fine_value d.values ≡ true
  run_values = ap (λ (x : Done). every? fine_value x.values) (ran k f q d e).is ∙ gone.whole.values

  pub run_sources : every? (every? fine_source) d.sources ≡ true
  run_sources = ap (λ (x : Done). every? (every? fine_source) x.sources) (ran k f q d e).is ∙ gone.whole.sources

  pub all_long : length d.values ≡ length d.rows
  all_long = ap length (ran k f q d e).values ∙ gone.whole.keeps.long ∙ length-map world.rows (λ r. none) ∙ sym (ap length (ran k f q d e).rows)

  pub row-valued : Sound f → (i : ℕ) → i < length d.rows → Is (get_or d.values i none)
  row-valued s i h =
      let r = ran k f q d e in
      let l : i < length world.rows = subst (λ (rs : List Row). i < length rs) r.rows h in
      let here : 0 + i ≡ i = omega arith in
      there_is (get_or d.values i none)
      (ap (λ (vs : List (Option Float)). there? (get_or vs i none)) r.values ∙ ap (λ (n : ℕ). there? (get_or r.mem.values n none)) (sym here) ∙ gone.has (key_at world i) (walk_asks k f q i s l) _ (found_row k f q i s l))
