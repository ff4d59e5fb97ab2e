-- Every source row names the state that its source needs: a memory's, a run's, and those of every result that meets the definition.
use Rattle.std.specs.Prelude.{None, Some}
use Prim.Native.Nat.{ℕ, zero, suc, ◌-◌, ◌<◌, min}
use native.Mathlib.Omega.{arith}
use mathlib.Core.Path.{◌≡◌, refl, sym, ap, subst, ◌∙◌}
use mathlib.Core.Bool.{Bool, true, false, ◌&&◌, ◌||◌, not}
use mathlib.Core.List.{List, [], ◌∷◌, ◌++◌, map}
use mathlib.Core.Option.{Option, none, some}
use borrow.Author.Tests.{leb-true, eqb-true}
use lib.Dec.{eqb, leb, ltb}
use lib.Ieee.{Float}
use lib.IntN.{ℤ, pos}
use lib.ListN.{length, get_or, set}
use Rattle.laws.specs.Lists.{eq_z, every?}
use Rattle.laws.proofs.Bools.{both_ways, and_left, and_right, and_both}
use Rattle.laws.proofs.Every.{every_at}
use Rattle.laws.proofs.Maps.{map_at}
use Rattle.rules.specs.Answer.{Res, ok, refused, ◌>>=◌}
use Rattle.rules.specs.Codes.{state_code, operators, same_operator}
use Rattle.rules.specs.Columns.{Counts, yes1, from_numbers, optional_numbers, source_numbers, source_list, source_column, state_column}
use Rattle.rules.specs.Dispatch.{Row}
use Rattle.rules.specs.Info.{get_dogma_attribute, high_is_good}
use Rattle.rules.specs.Item.{lowest_state, runs_at}
use Rattle.rules.specs.Number.{times, weight, number_at}
use Rattle.rules.specs.Operate.{Copy, simplified, has_penalty, sorted, applied}
use Rattle.rules.specs.Outcome.{Rooms, Lent, Done, starts_of, valued, world_of, blank, run, rooms_of, outcome}
use Rattle.rules.specs.Sheet.{Book, Fit}
use Rattle.rules.specs.States.{States}
use Rattle.rules.specs.Value.{World, Mem, Read, Reader, Gathered, Found, state_of, from_of, needed_state, to_source, with_penalty, no_source, own_sources, nothing, note, copies, penalised, unpenalised, contribute, resisted, gather_from, gather, marked, marked_by, operate, clamped, at_least, at_most, set_value, calculate, find_row, calculated_value, value_of}
use Rattle.rules.specs.declared.Ask.{Ask}
use Rattle.rules.specs.declared.Effect.{Effect}
use Rattle.rules.specs.declared.EffectCategory.{EffectCategory}
use Rattle.rules.specs.declared.EffectCategory.TheVariants as category
use Rattle.rules.specs.declared.EffectOperator.{EffectOperator}
use Rattle.rules.specs.Ids.{OptionalId}
use Rattle.rules.specs.declared.Origin.{Origin}
use Rattle.rules.specs.declared.Origin.TheVariants as origin
use Rattle.rules.specs.declared.Refusal.TheVariants.{Room, Depth}
use Rattle.rules.specs.declared.Source.{Source}
use Rattle.rules.specs.declared.SourceRef.{SourceRef}
use Rattle.rules.specs.declared.SourceRef.TheVariants.{Object, Buff}
use Rattle.promises.specs.Given.{cell}
use Rattle.promises.specs.NoMemory.{book_in, fit_in}
use Rattle.promises.specs.Result.{Result, Meets}
use Rattle.promises.specs.Shown.{Shown, state_shown, state_in}
use Rattle.promises.proofs.Ends.{column_cell}
use Rattle.promises.proofs.Everywhere.{every_both, every_set, every_or, flat_every}
use Rattle.promises.proofs.FloatsNumbers.{Gives, stops, gives, on, either, given}
use Rattle.promises.proofs.NoMemory.{is-run}
use Rattle.promises.proofs.NoMemoryRun.{ran}

-- ---- a source row that tells the truth, by the objects' states

abbrev same : Bool → Bool → Bool
same true b = b
same false b = not b

same_is : (a b : Bool) → same a b ≡ true → a ≡ b
same_is true b e = sym e
same_is false true e = both_ways e refl
same_is false false e = refl

abbrev state_at : List States → ℕ → ℕ
state_at ss o = (get_or ss o (record { state = 0; max_state = 0 })).state

abbrev by-from : List States → SourceRef → Bool → ℕ → Bool
by-from ss (Object o) a s = same a (leb s (state_at ss o))
by-from ss (Buff b) a s = a && eqb s 0

abbrev tells : List States → SourceRef → Bool → ℕ → Bool
tells ss f a s = leb s 3 && by-from ss f a s

abbrev true_row : List States → Source → Bool
true_row ss r = tells ss r.«from» r.applied (state_code r.state)

lowest_few : (c : EffectCategory) → leb (state_code (lowest_state c)) 3 ≡ true
lowest_few category.Passive = refl
lowest_few category.Online = refl
lowest_few category.Active = refl
lowest_few category.Overload = refl
lowest_few category.Target = refl
lowest_few category.Area = refl
lowest_few category.Dungeon = refl
lowest_few category.System = refl

-- what is noted of an entry, its strength and quantity aside
abbrev Told : List States → Effect → Bool → Type 0
Told ss e a = tells ss (from_of e.origin) a (state_code (needed_state e.origin)) ≡ true

told_buff : (ss : List States) (e : Effect) {b : ℤ} {v : Float} → e.origin ≡ origin.Buff b v → Told ss e true
told_buff ss e h = rw h refl

told_effect : (ss : List States) (e : Effect) {f : ℤ} {o : ℕ} {c : EffectCategory} {a : ℤ} (t : Bool) → e.origin ≡ origin.Effect f o c a → runs_at c (state_at ss o) ≡ t → Told ss e t
told_effect ss e {f} {o} {c} {a} true h r = rw h (and_both (lowest_few c) r)
told_effect ss e {f} {o} {c} {a} false h r = rw h (and_both (lowest_few c) (ap not r))

-- one of them changed, where the change keeps it so
every_changed : {A : Type 0} (p : A → Bool) (f : A → A) → ((x : A) → p x ≡ true → p (f x) ≡ true) → (xs : List A) (i : ℕ) (d : A) → every? p xs ≡ true → every? p (set xs i (f (get_or xs i d))) ≡ true
every_changed p f h [] i d e = refl
every_changed p f h (x ∷ xs) zero d e = and_both (h x (and_left (p x) (every? p xs) e)) (and_right (p x) (every? p xs) e)
every_changed p f h (x ∷ xs) (suc i) d e = and_both (and_left (p x) (every? p xs) e) (every_changed p f h xs i d (and_right (p x) (every? p xs) e))

-- ---- a memory of such rows, through a calculation

any : {A : Type 0} (x : Res A) → Gives (λ (a : A). Unit {0}) x
any (ok a) = gives tt
any (refused r) = stops

either_by : {A : Type 0} {P : A → Type 0} (t : Bool) {x y : Res A} → (t ≡ true → Gives P x) → (t ≡ false → Gives P y) → Gives P (elim t [ true ↦ x | false ↦ y ])
either_by true h k = h refl
either_by false h k = k refl

module _ (w : World) where
  abbrev True : Mem → Type 0
  True m = every? (every? (true_row w.states)) m.sources ≡ true

  abbrev TrueRead : Read → Type 0
  TrueRead q = True q.mem

  abbrev TrueGathered : Gathered → Type 0
  TrueGathered g = True g.mem

  own_true : (i : ℕ) (m : Mem) → True m → every? (true_row w.states) (own_sources i m) ≡ true
  own_true i m k = every_or (every? (true_row w.states)) m.sources i [] k refl

  marked_true : (p : ℕ) (xs : List Copy) (own : List Source) → every? (true_row w.states) own ≡ true → every? (true_row w.states) (marked p xs own) ≡ true
  unfolding marked
  marked_true p [] own h = h
  marked_true p (x ∷ xs) own h = marked_true (suc p) xs _ (every_changed (true_row w.states) (with_penalty (weight p)) (λ r e. e) own x.source no_source h)

  marked_by_true : (i : ℕ) (g : Gathered) → TrueGathered g → True (marked_by i g)
  marked_by_true i g k =
      every_set (every? (true_row w.states)) g.mem.sources i _ k
      (marked_true 0 (sorted g.values.negative) _ (marked_true 0 (sorted g.values.positive) (own_sources i g.mem) (own_true i g.mem k)))

  module _ (i : ℕ) (row : Row) where
    note_true : (r : Source) (m : Mem) → true_row w.states r ≡ true → True m → Gives True (note w i row r m)
    unfolding note
    note_true r m h k = by w.recording (ltb m.used w.room)
      where
        by : (t u : Bool) → Gives True (elim t [
          | false ↦ ok m
          | true ↦ elim u [ false ↦ refused (Room 5) | true ↦ ok (record { values = m.values; sources = set m.sources i (own_sources i m ++ (r ∷ [])); used = suc m.used }) ]
        ])
        by false u = gives k
        by true false = stops
        by true true = gives (every_set (every? (true_row w.states)) m.sources i _ k (every_both (true_row w.states) (own_sources i m) (r ∷ []) (own_true i m k) (and_both h refl)))

    copies_true : (n : ℕ) (r : Source) (x : Float) (g : Gathered) → true_row w.states r ≡ true → TrueGathered g → Gives TrueGathered (copies w i row n r x g)
    unfolding copies
    copies_true zero r x g h k = gives k
    copies_true (suc n) r x g h k = on _ (note_true r g.mem h k) (λ m p. copies_true n r x _ h p)

    penalised_true : (e : Effect) (v x : Float) (g : Gathered) → Told w.states e true → TrueGathered g → Gives TrueGathered (penalised w i row e v x g)
    unfolding penalised
    penalised_true e v x g h k = on _ (copies_true (min e.quantity 8) (to_source e v true 1 true) x g h k) (λ a p. by (e.quantity - 8) a p)
      where
        rest : ℕ → Gathered → Res Gathered
        rest c a = elim c [ zero ↦ ok a | suc n ↦ (note w i row (to_source e v true (suc n) true) a.mem >>= λ m. ok (record { mem = m; values = a.values })) ]

        by : (c : ℕ) (a : Gathered) → TrueGathered a → Gives TrueGathered (rest c a)
        by zero a p = gives p
        by (suc n) a p = on _ (note_true (to_source e v true (suc n) true) a.mem h p) (λ m q. gives q)

    unpenalised_true : (e : Effect) (v x : Float) (g : Gathered) → Told w.states e true → TrueGathered g → Gives TrueGathered (unpenalised w i row e v x g)
    unfolding unpenalised
    unpenalised_true e v x g h k = on _ (note_true (to_source e v true e.quantity false) g.mem h k) (λ m q. gives q)

    contribute_true : (e : Effect) (v : Float) (g : Gathered) → Told w.states e true → TrueGathered g → Gives TrueGathered (contribute w i row e v g)
    unfolding contribute
    contribute_true e v g h k =
        on _ (any (number_at row.object (simplified e.operator v))) (λ x s. either (e.penalty && has_penalty e.operator) (penalised_true e v x g h k) (unpenalised_true e v x g h k))

    module _ (read : Reader) (reading : (o : ℕ) (a : ℤ) (m : Mem) → True m → Gives TrueRead (read o a m)) where
      resisted_true : (a : OptionalId) (r : Read) → TrueRead r → Gives TrueRead (resisted w i row read a r)
      unfolding resisted
      resisted_true None r k = gives k
      resisted_true (Some a) r k = on _ (reading 0 a r.mem k) (λ q p. on _ (any (number_at row.object (times r.value q.value))) (λ v h. gives p))

      -- what runs is noted as applied, what does not run as not applied
      gather_from_true : (e : Effect) (s : Origin) (g : Gathered) → e.origin ≡ s → TrueGathered g → Gives TrueGathered (gather_from w i row read e s g)
      unfolding gather_from
      gather_from_true e (origin.Buff b v) g h k = contribute_true e v g (told_buff w.states e h) k
      gather_from_true e (origin.Effect f source c a) g h k =
          either (runs_at c (state_of w source) || w.recording)
          (on _ (reading source a g.mem k) λ r p.
          on _ (resisted_true e.resistance r p) λ s q.
          either_by (runs_at c (state_of w source))
          (λ t. contribute_true e s.value (record { mem = s.mem; values = g.values }) (told_effect w.states e true h t) q)
          (λ t. on _ (note_true (to_source e s.value false e.quantity false) s.mem (told_effect w.states e false h t) q) (λ m u. gives u)))
          (gives k)

      gather_true : (op : EffectOperator) (es : List Effect) (g : Gathered) → TrueGathered g → Gives TrueGathered (gather w i row read op es g)
      unfolding gather
      gather_true op [] g k = gives k
      gather_true op (e ∷ es) g k = either (same_operator e.operator op) (on _ (gather_from_true e e.origin g refl k) (λ a p. gather_true op es a p)) (gather_true op es g k)

      operate_true : (ops : List EffectOperator) (a : Read) → TrueRead a → Gives TrueRead (operate w i row read ops a)
      unfolding operate
      operate_true [] a k = gives k
      operate_true (op ∷ ops) a k =
          on _ (gather_true op row.entries (record { mem = a.mem; values = nothing }) k) λ g p.
          on _ (any (number_at row.object (applied (high_is_good (get_dogma_attribute w.book row.id)) op a.value g.values))) λ v q.
          operate_true ops (record { value = v; mem = marked_by i g }) (marked_by_true i g p)

      clamped_true : (clamp : Float → Float → Float) (a : ℤ) (r : Read) → TrueRead r → Gives TrueRead (clamped row.object read clamp a r)
      unfolding clamped
      clamped_true clamp a r k = either (eq_z a (pos 0)) (gives k) (on _ (reading row.object a r.mem k) (λ q p. gives p))

      calculate_true : (m : Mem) → True m → Gives TrueRead (calculate w read i row m)
      unfolding calculate
      calculate_true m k =
          let attribute = get_dogma_attribute w.book row.id in
          on _ (operate_true operators (record { value = row.base; mem = set_value i row.base m }) k) λ x p.
          on _ (clamped_true at_least attribute.min_attribute_id x p) λ y q.
          on _ (clamped_true at_most attribute.max_attribute_id y q) λ z r.
          gives r

  started : (start : ℕ → Row → Mem → Res Read) (o : ℕ) (a : ℤ) (m : Mem) → True m → ((i : ℕ) (row : Row) → Gives TrueRead (start i row m)) → Gives TrueRead (calculated_value w start o a m)
  unfolding calculated_value
  started start o a m k h = by (find_row o a 0 w.rows)
    where
      known : Found → Option Float → Res Read
      known f v = elim v [ some x ↦ ok (record { value = x; mem = m }) | none ↦ start f.index f.row m ]

      valued_or : (f : Found) (v : Option Float) → Gives TrueRead (known f v)
      valued_or f (some x) = gives k
      valued_or f none = h f.index f.row

      by : (f : Option Found) → Gives TrueRead (elim f [ none ↦ ok (record { value = (get_dogma_attribute w.book a).default_value; mem = m }) | some x ↦ known x (get_or m.values x.index none) ])
      by none = gives k
      by (some f) = valued_or f (get_or m.values f.index none)

  read_true : (d o : ℕ) (a : ℤ) (m : Mem) → True m → Gives TrueRead (value_of w d o a m)
  unfolding value_of
  read_true zero o a m k = started (λ i row n. refused (Depth o)) o a m k (λ i row. stops)
  read_true (suc d) o a m k = started (λ i row n. calculate w (value_of w d) i row n) o a m k (λ i row. calculate_true i row (value_of w d) (read_true d) m k)

  walked_true : (d : ℕ) (starts : List Ask) (m : Mem) → True m → Gives True (valued w d starts m)
  unfolding valued
  walked_true d [] m k = gives k
  walked_true d (s ∷ r) m k = on _ (read_true d s.object s.attribute_id m k) (λ q p. walked_true d r q.mem p)

  blank_true : (rs : List Row) → every? (every? (true_row w.states)) (map (λ r. []) rs) ≡ true
  blank_true [] = refl
  blank_true (r ∷ rs) = blank_true rs

-- ---- a run

run_true : (k : Book) (f : Fit) (q : Rooms) (d : Done) → run k f q ≡ ok d → every? (true_row d.states) (source_list (ok d)) ≡ true
run_true k f q d e =
    let w = world_of k f q.sources in
    let r = ran k f q d e in
    let m : every? (every? (true_row w.states)) r.mem.sources ≡ true = given (walked_true w f.depth (starts_of f w.rows) (blank w.rows) (blank_true w w.rows)) r.gone in
    subst (λ (x : Done). every? (true_row x.states) (source_list (ok x)) ≡ true) (sym r.is)
    (flat_every (every? (true_row w.states)) (true_row w.states) (λ x. x) (λ x h. h) r.mem.sources m)

-- ---- the numbers of a source row

-- past what it is from, effect and attribute
behind : (f : SourceRef) (e a : OptionalId) (j : ℕ) (r : List ℕ) → get_or (from_numbers f ++ optional_numbers e ++ optional_numbers a ++ r) (suc (suc (suc (suc (suc (suc j)))))) 0 ≡ get_or r j 0
behind (Object o) None None j r = refl
behind (Object o) None (Some a) j r = refl
behind (Object o) (Some e) None j r = refl
behind (Object o) (Some e) (Some a) j r = refl
behind (Buff b) None None j r = refl
behind (Buff b) None (Some a) j r = refl
behind (Buff b) (Some e) None j r = refl
behind (Buff b) (Some e) (Some a) j r = refl

front : (f : SourceRef) (e a r : List ℕ) → (get_or (from_numbers f ++ e ++ a ++ r) 0 0 ≡ get_or (from_numbers f) 0 0) × (get_or (from_numbers f ++ e ++ a ++ r) 1 0 ≡ get_or (from_numbers f) 1 0)
front (Object o) e a r = (refl, refl)
front (Buff b) e a r = (refl, refl)

states_cell : (ss : List States) (o : ℕ) → cell (map (λ s. s.state ∷ s.max_state ∷ []) ss) o 0 ≡ state_at ss o
states_cell [] o = refl
states_cell (s ∷ ss) zero = refl
states_cell (s ∷ ss) (suc o) = states_cell ss o

-- what the numbers show, where they are those of a true row and the states column has the objects' states
shown_by : (ss : List States) (f : SourceRef) (a : Bool) (s : ℕ) → tells ss f a s ≡ true → (r : Result) (p : ℕ) → cell r.sources p 0 ≡ get_or (from_numbers f) 0 0
    → cell r.sources p 1 ≡ get_or (from_numbers f) 1 0 → cell r.sources p 9 ≡ yes1 a → state_shown r p ≡ s → ((o : ℕ) → state_in r o ≡ state_at ss o) → Shown r p
shown_by ss (Object o) a s t r p e0 e1 e9 e10 at =
    record {
      from = omega (arith, e0);
      few = omega (arith, e10, leb-true s 3 (and_left (leb s 3) (same a (leb s (state_at ss o))) t));
      object = λ z. e9 ∙ ap yes1 (same_is a (leb s (state_at ss o)) (and_right (leb s 3) (same a (leb s (state_at ss o))) t)) ∙ sym (rw (e10, e1, at o) refl);
      buff = λ z. absurd (omega (arith, z, e0));
    }
shown_by ss (Buff b) a s t r p e0 e1 e9 e10 at =
    let both = and_right (leb s 3) (a && eqb s 0) t in
    record {
      from = omega (arith, e0);
      few = omega (arith, e10, leb-true s 3 (and_left (leb s 3) (a && eqb s 0) t));
      object = λ z. absurd (omega (arith, z, e0));
      buff = λ z. (e10 ∙ eqb-true s 0 (and_right a (eqb s 0) both), e9 ∙ ap yes1 (and_left a (eqb s 0) both));
    }

-- ---- of every result that meets the definition

module _ (b : List ℕ) (l : Lent) (r : Result) (m : Meets b l r) (d : Done) (e : outcome b l ≡ ok d) where
  source_cell : (p j : ℕ) → p < length (source_list (ok d)) → cell r.sources p j ≡ get_or (source_numbers (get_or (source_list (ok d)) p no_source)) j 0
  unfolding source_column
  source_cell p j h =
      ap (λ (c : List (List ℕ)). cell c p j) m.by_sources ∙ ap (λ (o : Res Done). cell (source_column o l.sources) p j) e
      ∙ column_cell source_numbers 11 (source_list (ok d)) l.sources p j ∙ ap (λ (x : List ℕ). get_or x j 0) (map_at source_numbers (source_list (ok d)) p no_source [] h)

  state_cell : (o : ℕ) → state_in r o ≡ state_at d.states o
  unfolding state_column
  state_cell o =
      ap (λ (c : List (List ℕ)). cell c o 0) m.by_states ∙ ap (λ (x : Res Done). cell (state_column x) o 0) e
      ∙ column_cell (λ s. s.state ∷ s.max_state ∷ []) 2 d.states 1024 o 0 ∙ states_cell d.states o

  shown_at : (p : ℕ) → p < length (source_list (ok d)) → Shown r p
  shown_at p h =
      let x = get_or (source_list (ok d)) p no_source in
      shown_by d.states x.«from» x.applied (state_code x.state)
      (every_at (true_row d.states) (source_list (ok d)) p no_source (run_true (book_in b) (fit_in b) (rooms_of l) d (is-run b l d e)) h) r p
      (source_cell p 0 h ∙ (front x.«from» _ _ _).0)
      (source_cell p 1 h ∙ (front x.«from» _ _ _).1)
      (source_cell p 9 h ∙ behind x.«from» x.effect_id x.source_attribute_id 3 _)
      (source_cell p 10 h ∙ behind x.«from» x.effect_id x.source_attribute_id 4 _)
      state_cell

-- each source row names the lowest state that would do, as the columns show it: a row from an object applies exactly if the object's state
-- in the states column is that or higher; a buff's is 0, and it applies
pub shown_state : (b : List ℕ) (l : Lent) (r : Result) → Meets b l r → (p : ℕ) → p < r.counts.sources → Shown r p
shown_state b l r m p h = by (outcome b l) refl
  where
    by : (o : Res Done) → outcome b l ≡ o → Shown r p
    by (ok d) e = shown_at b l r m d e p (subst (λ (n : ℕ). p < n) (ap (λ (c : Counts). c.sources) m.by-counts ∙ ap (λ (o : Res Done). length (source_list o)) e) h)
    by (refused x) e = absurd (omega (arith, h, ap (λ (c : Counts). c.sources) m.by-counts ∙ ap (λ (o : Res Done). length (source_list o)) e))
