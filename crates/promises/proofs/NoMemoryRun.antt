-- A run's values are those with no memory, where nothing leads back to itself, and each row of a sound fit has one.
use Prim.Native.Nat.{ℕ, zero, suc, ◌+◌, ◌<◌}
use native.Mathlib.Omega.{arith}
use mathlib.Core.Path.{◌≡◌, refl, sym, ap, subst, ◌∙◌}
use mathlib.Core.Bool.{Bool, true, false, ◌||◌, cond}
use mathlib.Core.List.{List, [], ◌∷◌, map}
use mathlib.Core.Logic.{◌⊎◌, inl, inr}
use mathlib.Core.Option.{Option, none, some}
use lib.Dec.{leb}
use lib.Ieee.{Float}
use lib.ListN.{length, get_or, length-map}
use Rattle.laws.specs.Lists.{some?}
use Rattle.laws.proofs.Bools.{both_ways, or_true_right}
use Rattle.laws.proofs.Every.{some_append, some_map}
use Rattle.laws.proofs.First.{there?}
use Rattle.rules.specs.Answer.{ok}
use Rattle.rules.specs.Sheet.{Book, Fit}
use Rattle.rules.specs.Collect.{moves, plain_of}
use Rattle.rules.specs.Dispatch.{Row, Key, same_key, base_keys, hit_keys, full_at}
use Rattle.rules.specs.Value.{World, Mem, Read, Found, find_row, value_of}
use Rattle.rules.specs.Outcome.{Rooms, Done, full, collected, walk_order, starts_of, valued, collected_in, rows_in, world_of, blank, run}
use Rattle.rules.specs.declared.Ask.{Ask}
use Rattle.rules.proofs.Ranked.{same_key_lem}
use Rattle.promises.specs.NoMemory.{key_of, key_at, no_row, NoLoop, Sound, Memoryless}
use Rattle.rules.proofs.Results.{got, then}
use Rattle.promises.proofs.NoMemoryGoes.{second}
use Rattle.promises.proofs.NoMemoryReads.{Keeps, keeps_same, keeps_on, fresh_at, Once, Right, reads}
use Rattle.promises.proofs.NoMemoryRows.{found_there, rows_distinct}
use Rattle.promises.proofs.NoMemoryWalk.{walks}

abbrev pub key_asked : Ask → Key
key_asked s = record { object = s.object; id = s.attribute_id }

abbrev Nobody : ℕ → Type 0
Nobody j = ⊥

pub record Is (v : Option Float) : Type 0 where
  pub value : Float
  pub is : v ≡ some value

pub there_is : (v : Option Float) → there? v ≡ true → Is v
there_is none e = both_ways e refl
there_is (some x) e = record { value = x; is = refl }

-- ---- asks and walk

module _ (w : World) (Also : ℕ → Type 0) (free : NoLoop w) (also : Once w Also) where
  record Standing (m : Mem) : Type 0 where
    long : length m.values ≡ length w.rows
    right : Right w Also Nobody m.values

  record After (starts : List Ask) (m n : Mem) : Type 0 where
    standing : Standing n
    keeps : Keeps m.values n.values
    has : (a : Key) → some? (λ s. same_key (key_asked s) a) starts ≡ true → (f : Found) → find_row a.object a.id 0 w.rows ≡ some f → there? (get_or n.values f.index none) ≡ true

  one-read : (d : ℕ) (s : Ask) (m : Mem) (q : Read) → Standing m → value_of w d s.object s.attribute_id m ≡ ok q → After (s ∷ []) m q.mem
  one-read d s m q h e =
      let g = (second (reads w Also free also d Nobody (key_asked s) m m (record { leading = λ j b. absurd b; long = h.long; right = h.right })) e).related in
      record {
        standing = record { long = g.keeps.long ∙ h.long; right = g.right };
        keeps = g.keeps;
        has = λ a t f k. g.has f (subst (λ (x : Key). find_row x.object x.id 0 w.rows ≡ some f) (sym (same_key_lem (key_asked s) a (only (same_key (key_asked s) a) t))) k);
      }
    where
      only : (t : Bool) → t || false ≡ true → t ≡ true
      only true e = refl
      only false e = e

  all_read : (d : ℕ) (starts : List Ask) (m n : Mem) → Standing m → valued w d starts m ≡ ok n → After starts m n
  unfolding valued
  all_read d [] m n h e =
      let same : m ≡ n = got e in
      record { standing = subst Standing same h; keeps = subst (λ (x : Mem). Keeps m.values x.values) same (keeps_same m.values); has = λ a t f k. both_ways t refl }
  all_read d (s ∷ r) m n h e =
      let p = then (value_of w d s.object s.attribute_id m) _ n e in
      let one = one-read d s m p.given h p.first in
      let rest = all_read d r p.given.mem n one.standing p.rest in
      record {
        standing = rest.standing;
        keeps = keeps_on one.keeps rest.keeps;
        has = λ a t f k. by a f k (λ u. rest.keeps.valued f.index (one.has a u f k)) (λ u. rest.has a u f k) (same_key (key_asked s) a) refl t;
      }
    where
      by : (a : Key) (f : Found) → find_row a.object a.id 0 w.rows ≡ some f → (some? (λ x. same_key (key_asked x) a) (s ∷ []) ≡ true → there? (get_or n.values f.index none) ≡ true)
          → (some? (λ x. same_key (key_asked x) a) r ≡ true → there? (get_or n.values f.index none) ≡ true) → (t : Bool) → same_key (key_asked s) a ≡ t → t || some? (λ x. same_key (key_asked x) a) r ≡ true
          → there? (get_or n.values f.index none) ≡ true
      by a f k first rest true u v = first (ap (λ (t : Bool). t || false) u)
      by a f k first rest false u v = rest v

  -- nothing is valued at first
  blank-standing : Standing (blank w.rows)
  blank-standing = record { long = length-map w.rows (λ r. none); right = λ j v e. absurd (none_there w.rows j v e) }
    where
      none_there : (rs : List Row) (j : ℕ) (v : Float) → get_or (map (λ r. none) rs) j none ≡ some v → ⊥
      none_there [] j v e = let z : ◌≡◌ {A = ℕ} 0 1 = cc in absurd (omega arith)
      none_there (r ∷ rs) zero v e = let z : ◌≡◌ {A = ℕ} 0 1 = cc in absurd (omega arith)
      none_there (r ∷ rs) (suc j) v e = none_there rs j v e

-- ---- a run

module _ (k : Book) (f : Fit) (q : Rooms) where
  abbrev world : World
  world = world_of k f q.sources

  -- what a run that is done has gone through
  pub record Ran (d : Done) : Type 0 where
    pub mem : Mem
    pub gone : valued world f.depth (starts_of f world.rows) (blank world.rows) ≡ ok mem
    pub is : d ≡ record { states = world.states; collected = collected_in k f; plain = plain_of (moves k f); rows = world.rows; values = mem.values; sources = mem.sources }
    pub values : d.values ≡ mem.values
    pub rows : d.rows ≡ world.rows

  pub ran : (d : Done) → run k f q ≡ ok d → Ran d
  unfolding run
  ran d e =
      let base = length (base_keys f) in
      let a = then (full (cond (leb base q.rows) none (some 2))) _ d e in
      let b = then (collected q 0 0 (moves k f)) _ d a.rest in
      let c = then (full (full_at q.rows q.entries (base_keys f) base 0 (hit_keys k f (collected_in k f)))) _ d b.rest in
      let m = then (valued world f.depth (starts_of f world.rows) (blank world.rows)) _ d c.rest in
      record { mem = m.given; gone = m.first; is = sym (got m.rest); values = sym (ap (λ (x : Done). x.values) (got m.rest)); rows = sym (ap (λ (x : Done). x.rows) (got m.rest)) }

  -- the walk asks for row i
  pub walk_asks : (i : ℕ) → Sound f → i < length world.rows → some? (λ s. same_key (key_asked s) (key_at world i)) (starts_of f world.rows) ≡ true
  unfolding world_of rows_in
  walk_asks i s h =
      some_append same f.asks walk ∙ ap (λ (t : Bool). some? same f.asks || t) (some_map same (λ r. record { object = r.object; attribute_id = r.id }) (walk_order f.objects world.rows) ∙ walks k f (collected_in k f) i s h)
      ∙ or_true_right (some? same f.asks)
    where
      same : Ask → Bool
      same s = same_key (key_asked s) (key_at world i)

      walk : List Ask
      walk = map (λ r. record { object = r.object; attribute_id = r.id }) (walk_order f.objects world.rows)

  pub found_row : (i : ℕ) → Sound f → i < length world.rows → find_row (key_at world i).object (key_at world i).id 0 world.rows ≡ some (record { index = 0 + i; row = get_or world.rows i no_row })
  unfolding world_of rows_in
  found_row i s h = found_there 0 world.rows i (rows_distinct k f (collected_in k f) s) h

  module _ (free : NoLoop world) where
    -- of each row: its value is the one with no memory, and what holds of a calculated row holds of it
    pub run_each : (Also : ℕ → Type 0) → Once world Also → (d : Done) → Sound f → run k f q ≡ ok d → (i : ℕ) → i < length d.rows → Memoryless world d i × Also i
    run_each Also also d s e i h =
        let r = ran d e in
        let a = all_read world Also free also f.depth (starts_of f world.rows) (blank world.rows) r.mem (blank-standing world Also free also) r.gone in
        let l : i < length world.rows = subst (λ (rs : List Row). i < length rs) r.rows h in
        let v = there_is (get_or r.mem.values (0 + i) none) (a.has (key_at world i) (walk_asks i s l) _ (found_row i s l)) in
        let here : 0 + i ≡ i = omega arith in
        let has : get_or r.mem.values i none ≡ some v.value = ap (λ (n : ℕ). get_or r.mem.values n none) (sym here) ∙ v.is in
        let settled = right (a.standing.right i v.value has) in (
          record {
            value = v.value;
            has = ap (λ (vs : List (Option Float)). get_or vs i none) r.values ∙ has;
            is = ap (λ (rs : List Row). fresh_at world (key_of (get_or rs i no_row))) r.rows ∙ settled.0;
          },
          settled.1,
        )
      where
        right : {X : Type 0} → ⊥ ⊎ X → X
        right (inl x) = absurd x
        right (inr x) = x

    nothing-more : Once world (λ j. Unit {0})
    nothing-more a g found Inv read m r each start is = tt

    pub run_no_memory : (d : Done) → Sound f → run k f q ≡ ok d → (i : ℕ) → i < length d.rows → Memoryless world d i
    run_no_memory d s e i h = (run_each (λ j. Unit {0}) nothing-more d s e i h).0

    -- as many values as rows, and the rows of the world
    pub run_long : (d : Done) → run k f q ≡ ok d → length d.values ≡ length d.rows
    run_long d e =
        let r = ran d e in
        let a = all_read world (λ j. Unit {0}) free nothing-more f.depth (starts_of f world.rows) (blank world.rows) r.mem (blank-standing world (λ j. Unit {0}) free nothing-more) r.gone in
        ap length r.values ∙ a.standing.long ∙ sym (ap length r.rows)

  pub run_rows : (d : Done) → run k f q ≡ ok d → d.rows ≡ rows_in k f
  unfolding world_of
  run_rows d e = (ran d e).rows
