-- Values read off the listing, and whether entries that do not run have a strength by it.
use Rattle.std.specs.Prelude.{None, Some}
use Prim.Native.Nat.{ℕ, zero, suc, ◌+◌, ◌≤◌, ◌<◌}
use native.Mathlib.Omega.{arith}
use mathlib.Core.Path.{◌≡◌, refl, sym, ap, subst, ◌∙◌}
use mathlib.Core.Bool.{Bool, true, false, not}
use mathlib.Core.List.{List, [], ◌∷◌}
use mathlib.Core.Option
use mathlib.Core.Option.{Option, none, some}
use lib.Dec.{T}
use lib.Ieee.{Float, nan, inf, fin, eq, mul}
use lib.Ieee.Bits.{is_true}
use lib.IntN.{ℤ}
use lib.ListN.{length, get_or, drop}
use Rattle.laws.specs.Floats.{finite}
use Rattle.laws.proofs.Bools.{both_ways, not-not}
use Rattle.laws.proofs.Nans.{eq_self, finite-not-nan}
use Rattle.laws.proofs.Scans.{drop-step}
use Rattle.rules.specs.Answer.{Res, ok, refused, ◌>>=◌}
use Rattle.rules.specs.Dispatch.{Row}
use Rattle.rules.specs.Info.{get_dogma_attribute}
use Rattle.rules.specs.Item.{runs_at}
use Rattle.rules.specs.Number.{step, times, number_at}
use Rattle.rules.specs.Outcome.{blank}
use Rattle.rules.specs.Sheet.{Book, book_of}
use Rattle.rules.specs.Value.{World, Mem, Read, Found, find_row, state_of, resisted}
use Rattle.rules.specs.Fresh.{unrecorded}
use Rattle.rules.specs.declared.Effect.{Effect}
use Rattle.rules.specs.declared.EffectCategory.{EffectCategory}
use Rattle.rules.specs.Ids.{OptionalId}
use Rattle.rules.specs.declared.Origin.{Origin}
use Rattle.rules.specs.declared.Origin.TheVariants as origin
use Rattle.rules.specs.Number.{Step}
use Rattle.info.proofs.Defaults.{defaults_finite}
use Rattle.reading.specs.Held.{index_of, is_running, Sourced, EntryHeld}
use Rattle.memory.specs.Holding.{Tables, Good}
use Rattle.memory.specs.Steps.{row_at, no_entry}
use Rattle.memory.proofs.Nanned.{shown_at}
use Rattle.memory.proofs.Nanned.{shown_length as shown-long}
use Rattle.memory.proofs.Readings.{at_row, nowhere}
use Rattle.settled.specs.Given.{listed_reader, idle, idles}
use Rattle.settled.proofs.Accepted.{listed_is, listed_default}
use Rattle.std.specs.Option.{is_some}
use Rattle.given.specs.Judging.{Judged, looks, float_in, held_up, is_ok}
use Rattle.given.proofs.Beside.{listed_none}

-- ---- a value as it is listed

module _ {t : Tables} {v : List Float} (h : Judged t v) (o : ℕ) (a : ℤ) where
  pub found_inside : (i : ℕ) → some i ≡ index_of (find_row o a 0 h.world.rows) → i < length v
  found_inside i e = omega (arith, (at_row h.world.rows o a e).0, h.long, ap length h.column ∙ shown-long h.values)

  pub found_listed : (i : ℕ) → some i ≡ index_of (find_row o a 0 h.world.rows) → get_or v i nan ≡ float_in (listed_reader h.world h.values o a)
  found_listed i = by (find_row o a 0 h.world.rows) refl
    where
      value : (f : Found) → find_row o a 0 h.world.rows ≡ some f → (x : Option Float) → get_or h.values f.index none ≡ x → Option.get_or x nan ≡ float_in (listed_reader h.world h.values o a)
      value f e (some u) g = ap float_in (sym (listed_is h.world h.values o a f e u g))
      value f e none g = ap float_in (sym (listed_none h.world h.values (record { object = o; id = a }) f e g))

      by : (f : Option Found) → find_row o a 0 h.world.rows ≡ f → some i ≡ index_of f → get_or v i nan ≡ float_in (listed_reader h.world h.values o a)
      by none p e = let z : ◌≡◌ {A = ℕ} 0 1 = cc in absurd (omega arith)
      by (some f) p e =
          let same : i ≡ f.index = cc in
          ap (λ (l : List Float). get_or l i nan) h.column ∙ shown_at h.values i ∙ ap (λ (n : ℕ). Option.get_or (get_or h.values n none) nan) same ∙ value f p (get_or h.values f.index none) refl

  pub absent_listed : none ≡ index_of (find_row o a 0 h.world.rows) → (x : Float) → x ≡ (get_dogma_attribute (book_of t.book t.pairs) a).default_value → x ≡ float_in (listed_reader h.world h.values o a)
  absent_listed e x d =
      d ∙ ap (λ (k : Book). (get_dogma_attribute k a).default_value) (sym h.told.records) ∙ ap float_in (sym (listed_default h.world h.values o a (nowhere h.world.rows o a e)))

  -- what is read is a number
  listed_number : (u : Float) → listed_reader h.world h.values o a ≡ ok u → T (finite u)
  listed_number u = by (find_row o a 0 h.world.rows) refl
    where
      value : (f : Found) → find_row o a 0 h.world.rows ≡ some f → (x : Option Float) → get_or h.values f.index none ≡ x → listed_reader h.world h.values o a ≡ ok u → T (finite u)
      value f e (some y) g k = let same : y ≡ u = (let l = listed_is h.world h.values o a f e y g in ok_same (sym l ∙ k)) in subst (λ (z : Float). T (finite z)) same (h.numbers f.index y g)
        where
          ok_same : {x y : Float} → ◌≡◌ {A = Res Float} (ok x) (ok y) → x ≡ y
          ok_same p = cc
      value f e none g k = refused_ok (sym (listed_none h.world h.values (record { object = o; id = a }) f e g) ∙ k)
        where
          refused_ok : {X : Type 0} {y : _} {x : Float} → ◌≡◌ {A = Res Float} (refused y) (ok x) → X
          refused_ok p = let z : ◌≡◌ {A = ℕ} 0 1 = cc in absurd (omega arith)

      by : (f : Option Found) → find_row o a 0 h.world.rows ≡ f → listed_reader h.world h.values o a ≡ ok u → T (finite u)
      by none p k =
          let same : (get_dogma_attribute h.world.book a).default_value ≡ u = ok_same (sym (listed_default h.world h.values o a p) ∙ k) in
          subst (λ (z : Float). T (finite z)) (ap (λ (b : Book). (get_dogma_attribute b a).default_value) (sym h.told.records) ∙ same) (defaults_finite t.book t.pairs h.told.sound a)
        where
          ok_same : {x y : Float} → ◌≡◌ {A = Res Float} (ok x) (ok y) → x ≡ y
          ok_same p = cc
      by (some f) p k = value f p (get_or h.values f.index none) refl k

-- ---- no number times anything, and anything times no number

nan-times : (x : Float) → is_some (times nan x) ≡ false
unfolding mul step
nan-times nan = refl
nan-times (inf s) = refl
nan-times (fin s m e) = refl

times-nan : (x : Float) → is_some (times x nan) ≡ false
unfolding mul step
times-nan nan = refl
times-nan (inf s) = refl
times-nan (fin s m e) = refl

nan-apart : eq nan nan ≡ false
nan-apart = eq_self nan

-- ---- an entry that does not run

module _ {t : Tables} {v : List Float} (h : Judged t v) (i : ℕ) (row : Row) where
  abbrev w : World
  w = h.world

  abbrev m : Mem
  m = blank h.world.rows

  -- what is read, and held against the resistance
  read_held : (o : ℕ) (a : ℤ) (res : OptionalId)
      → held_up h.world h.values res (float_in (listed_reader h.world h.values o a)) ≡ is_ok {A = Unit {0}} (looks h.world h.values o a m >>= λ q. resisted (unrecorded h.world) i row (looks h.world h.values) res q >>= λ s. ok tt)
  unfolding number_at resisted
  read_held o a res = by (listed_reader w h.values o a) refl res
    where
      stepped : (s : Step) → is_some s ≡ is_ok {A = Unit {0}} ((number_at row.object s >>= λ z. ok (record { value = z; mem = m })) >>= λ (q : Read). ok tt)
      stepped (Some x) = refl
      stepped None = refl

      against : (u : Float) (y : Res Float)
          → is_some (times u (float_in y)) ≡ is_ok {A = Unit {0}} (((y >>= λ z. ok (record { value = z; mem = m })) >>= λ (q : Read). number_at row.object (times u q.value) >>= λ z. ok (record { value = z; mem = q.mem })) >>= λ (q : Read). ok tt)
      against u (ok z) = stepped (times u z)
      against u (refused y) = times-nan u

      by : (x : Res Float) → listed_reader w h.values o a ≡ x → (res : OptionalId)
          → held_up w h.values res (float_in x) ≡ is_ok {A = Unit {0}} ((x >>= λ z. ok (record { value = z; mem = m })) >>= λ q. resisted (unrecorded w) i row (looks w h.values) res q >>= λ s. ok tt)
      by (refused y) e None = nan-apart
      by (refused y) e (Some b) = nan-times (float_in (listed_reader w h.values 0 b))
      by (ok u) e None = eq_self u ∙ ap not (finite-not-nan u (is_true (finite u) (listed_number h o a u e)))
      by (ok u) e (Some b) = against u (listed_reader w h.values 0 b)

  abbrev strong : Effect → Origin → Bool
  strong e g = is_ok (idle (unrecorded h.world) (looks h.world h.values) i row e g (blank h.world.rows))

  pub running_fine : (e : Effect) (g : Origin) → Sourced g → is_running t.states g ≡ true → true ≡ is_ok (idle (unrecorded h.world) (looks h.world h.values) i row e g (blank h.world.rows))
  unfolding idle
  running_fine e (origin.Buff b x) s r = refl
  running_fine e (origin.Effect f o c a) s r = by (runs_at c (state_of w o)) (sym (ap (runs_at c) (h.told.running o s)) ∙ r)
    where
      by : (t : Bool) → t ≡ true → true ≡ is_ok {A = Unit {0}} (elim t [ true ↦ ok tt | false ↦ (looks w h.values o a m >>= λ q. resisted (unrecorded w) i row (looks w h.values) e.resistance q >>= λ s. ok tt) ])
      by true k = refl
      by false k = both_ways k refl

  pub buff_fine : (e : Effect) (b : ℤ) (x : Float) → true ≡ is_ok (idle (unrecorded h.world) (looks h.world h.values) i row e (origin.Buff b x) (blank h.world.rows))
  unfolding idle
  buff_fine e b x = refl

  pub idle_fine : (e : Effect) (f : ℤ) (o : ℕ) (c : EffectCategory) (a : ℤ) → o < 1024 → is_running t.states (origin.Effect f o c a) ≡ false
      → held_up h.world h.values e.resistance (float_in (listed_reader h.world h.values o a)) ≡ is_ok (idle (unrecorded h.world) (looks h.world h.values) i row e (origin.Effect f o c a) (blank h.world.rows))
  unfolding idle
  idle_fine e f o c a s r = by (runs_at c (state_of w o)) (sym (ap (runs_at c) (h.told.running o s)) ∙ r)
    where
      by : (t : Bool) → t ≡ false
          → held_up w h.values e.resistance (float_in (listed_reader w h.values o a)) ≡ is_ok {A = Unit {0}} (elim t [ true ↦ ok tt | false ↦ (looks w h.values o a m >>= λ q. resisted (unrecorded w) i row (looks w h.values) e.resistance q >>= λ s. ok tt) ])
      by true k = both_ways refl k
      by false k = read_held o a e.resistance

  -- by what the code has read
  pub idle_made : (e : Effect) (f : ℤ) (o : ℕ) (c : EffectCategory) (a : ℤ) → e.origin ≡ origin.Effect f o c a → Sourced e.origin → (b : Bool) → b ≡ is_running t.states e.origin → b ≡ false
      → (x : Float) (r : Bool) → x ≡ float_in (listed_reader h.world h.values o a) → r ≡ held_up h.world h.values e.resistance x
      → r ≡ is_ok (idle (unrecorded h.world) (looks h.world h.values) i row e e.origin (blank h.world.rows))
  idle_made e f o c a g s b q z x r p k =
      k ∙ ap (held_up h.world h.values e.resistance) p
      ∙ idle_fine e f o c a (subst Sourced g s) (sym (ap (is_running t.states) g) ∙ sym q ∙ z)
      ∙ ap (λ (y : Origin). is_ok (idle (unrecorded h.world) (looks h.world h.values) i row e y (blank h.world.rows))) (sym g)

  pub buff_made : (e : Effect) (b : ℤ) (x : Float) → e.origin ≡ origin.Buff b x → true ≡ is_ok (idle (unrecorded h.world) (looks h.world h.values) i row e e.origin (blank h.world.rows))
  buff_made e b x g = buff_fine e b x ∙ ap (λ (y : Origin). is_ok (idle (unrecorded h.world) (looks h.world h.values) i row e y (blank h.world.rows))) (sym g)

  -- ---- all entries

  abbrev all_strong : List Effect → Bool
  all_strong es = is_ok (idles (unrecorded h.world) (looks h.world h.values) i row es (blank h.world.rows))

  -- what is left decides
  abbrev pub Left : ℕ → Type 0
  Left k = is_ok (idles (unrecorded h.world) (looks h.world h.values) i row row.entries (blank h.world.rows)) ≡ is_ok (idles (unrecorded h.world) (looks h.world h.values) i row (drop k row.entries) (blank h.world.rows))

  one : (e : Effect) (es : List Effect) (t : Bool) → t ≡ strong e e.origin → all_strong (e ∷ es) ≡ elim t [ true ↦ all_strong es | false ↦ false ]
  unfolding idles
  one e es t q = by (idle (unrecorded w) (looks w h.values) i row e e.origin m) t q
    where
      by : (x : Res (Unit {0})) (t : Bool) → t ≡ is_ok x → is_ok (x >>= λ u. idles (unrecorded w) (looks w h.values) i row es m) ≡ elim t [ true ↦ all_strong es | false ↦ false ]
      by (ok u) true q = refl
      by (ok u) false q = both_ways q refl
      by (refused y) true q = both_ways refl q
      by (refused y) false q = refl

  pub go_on : (k : ℕ) → k < length row.entries → true ≡ is_ok (idle (unrecorded h.world) (looks h.world h.values) i row (get_or row.entries k no_entry) (get_or row.entries k no_entry).origin (blank h.world.rows)) → Left k → Left (k + 1)
  go_on k l q p = p ∙ ap all_strong (drop-step row.entries k no_entry l) ∙ one (get_or row.entries k no_entry) (drop (k + 1) row.entries) true q

  pub stop-at : (k : ℕ) → k < length row.entries → false ≡ is_ok (idle (unrecorded h.world) (looks h.world h.values) i row (get_or row.entries k no_entry) (get_or row.entries k no_entry).origin (blank h.world.rows)) → Left k
      → false ≡ is_ok (idles (unrecorded h.world) (looks h.world h.values) i row row.entries (blank h.world.rows))
  stop-at k l q p = sym (p ∙ ap all_strong (drop-step row.entries k no_entry l) ∙ one (get_or row.entries k no_entry) (drop (k + 1) row.entries) false q)

  pub all_done : (k : ℕ) → length row.entries ≤ k → Left k → true ≡ is_ok (idles (unrecorded h.world) (looks h.world h.values) i row row.entries (blank h.world.rows))
  unfolding idles
  all_done k l p = sym (p ∙ ap all_strong (nothing_left row.entries k l))
    where
      nothing_left : (es : List Effect) (k : ℕ) → length es ≤ k → drop k es ≡ []
      nothing_left [] zero q = refl
      nothing_left [] (suc k) q = refl
      nothing_left (e ∷ es) zero q = absurd (omega arith)
      nothing_left (e ∷ es) (suc k) q = nothing_left es k (omega arith)

-- ---- the entries of a row as they stand in list 3

module _ {t : Tables} {v : List Float} (h : Judged t v) (i : ℕ) (inside : i < length t.rows) (first count : ℕ) (a : first ≡ get_or (get_or t.rows i []) 2 0) (b : count ≡ get_or (get_or t.rows i []) 3 0) where
  within : i < length h.world.rows
  within = omega (arith, inside, h.told.held.long)

  pub counted : count ≡ length (row_at h.world i).entries
  counted = b ∙ (h.told.row i within).count

  module _ (k : ℕ) (l : k < count) where
    pub its_entry : EntryHeld (get_or (row_at h.world i).entries k no_entry) (get_or t.entries (first + k) []) (get_or t.values (first + k) nan)
    its_entry =
        subst (λ (n : ℕ). EntryHeld (get_or (row_at h.world i).entries k no_entry) (get_or t.entries (n + k) []) (get_or t.values (n + k) nan)) (sym (a ∙ (h.told.row i within).first))
        ((h.told.row i within).entry k no_entry (omega (arith, l, counted)))

    pub its_good : (e : Effect) → e ≡ get_or (row_at h.world i).entries k no_entry → Good e
    its_good e q = subst Good (sym q) ((h.told.row i within).good k no_entry (omega (arith, l, counted)))

    module _ (e : Effect) (q : e ≡ get_or (row_at h.world i).entries k no_entry) (s : Bool)
        (p : s ≡ is_ok (idle (unrecorded h.world) (looks h.world h.values) i (row_at h.world i) e e.origin (blank h.world.rows))) (left : Left h i (row_at h.world i) k) where
      its_own : s ≡ is_ok (idle (unrecorded h.world) (looks h.world h.values) i (row_at h.world i) (get_or (row_at h.world i).entries k no_entry) (get_or (row_at h.world i).entries k no_entry).origin (blank h.world.rows))
      its_own = subst (λ (x : Effect). s ≡ is_ok (idle (unrecorded h.world) (looks h.world h.values) i (row_at h.world i) x x.origin (blank h.world.rows))) q p

      pub entry_strong : not s ≡ false → Left h i (row_at h.world i) (k + 1)
      entry_strong z = go_on h i (row_at h.world i) k (omega (arith, l, counted)) (sym (sym (not-not s) ∙ ap not z) ∙ its_own) left

      pub entry_weak : not s ≡ true → false ≡ is_ok (idles (unrecorded h.world) (looks h.world h.values) i (row_at h.world i) (row_at h.world i).entries (blank h.world.rows))
      entry_weak z = stop-at h i (row_at h.world i) k (omega (arith, l, counted)) (sym (sym (not-not s) ∙ ap not z) ∙ its_own) left
