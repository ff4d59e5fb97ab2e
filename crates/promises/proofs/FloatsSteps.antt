-- A calculation where all that is read is finite: what it gives and leaves in the memory is finite, and what was valued stays so.
-- Nothing is said of loops here: they are let in.
use Rattle.std.specs.Prelude.{None, Some}
use Prim.Native.Nat.{ℕ, zero, suc, ◌-◌, ◌<◌, min}
use native.Mathlib.Omega.{arith}
use mathlib.Core.Path.{◌≡◌, refl, ap, ◌∙◌}
use mathlib.Core.Bool.{Bool, true, false, ◌&&◌, ◌||◌}
use mathlib.Core.List.{List, [], ◌∷◌, ◌++◌}
use mathlib.Core.Option.{Option, none, some}
use lib.Dec.{ltb}
use lib.Ieee.{Float, lt}
use lib.IntN.{ℤ, pos}
use lib.ListN.{length, get_or, set}
use lib.Seq.{get_or-set_same}
use Rattle.laws.specs.Lists.{eq_z, every?}
use Rattle.laws.specs.Floats.{finite, zero_f}
use Rattle.laws.proofs.Bools.{and_left, and_right, and_both}
use Rattle.laws.proofs.First.{there?}
use Rattle.rules.specs.Answer.{Res, ok, refused, ◌>>=◌}
use Rattle.rules.specs.Codes.{operators, same_operator}
use Rattle.rules.specs.Columns.{origin_value}
use Rattle.rules.specs.Dispatch.{Row}
use Rattle.rules.specs.Info.{get_dogma_attribute, high_is_good}
use Rattle.rules.specs.Item.{runs_at}
use Rattle.rules.specs.Number.{times, weight}
use Rattle.rules.specs.Operate.{Copy, Values, simplified, has_penalty, sorted, applied}
use Rattle.rules.specs.Value.{World, Mem, Read, Reader, Gathered, state_of, to_source, with_penalty, no_source, own_sources, nothing, with_stack, with_copy, note, copies, penalised, unpenalised, contribute, resisted, gather_from, gather, marked, marked_by, operate, clamped, at_least, at_most, set_value, calculate}
use Rattle.rules.specs.declared.Effect.{Effect}
use Rattle.rules.specs.declared.EffectOperator.{EffectOperator}
use Rattle.rules.specs.Ids.{OptionalId}
use Rattle.rules.specs.declared.Origin.{Origin}
use Rattle.rules.specs.declared.Origin.TheVariants as origin
use Rattle.rules.specs.declared.Refusal.TheVariants.{Room}
use Rattle.rules.specs.declared.Source.{Source}
use Rattle.promises.proofs.Everywhere.{every_both, every_set, every_or}
use Rattle.promises.proofs.FloatsNumbers.{Gives, stops, gives, on, either, number_fine, times_fine, cond_fine, simplified_fine, weight_fine, fine_stack, applied_fine}
use Rattle.promises.proofs.NoMemoryReads.{Keeps, keeps_on, keeps_set}

-- ---- a memory of finite floats

abbrev pub fine_value : Option Float → Bool
fine_value none = true
fine_value (some v) = finite v

abbrev pub fine_source : Source → Bool
fine_source r = finite r.value && finite r.penalty

-- and what was valued in vs is valued
pub record Whole (vs : List (Option Float)) (m : Mem) : Type 0 where
  pub values : every? fine_value m.values ≡ true
  pub sources : every? (every? fine_source) m.sources ≡ true
  pub keeps : Keeps vs m.values

abbrev pub WholeRead : List (Option Float) → Read → Type 0
WholeRead vs q = (finite q.value ≡ true) × Whole vs q.mem

abbrev WholeGathered : List (Option Float) → Gathered → Type 0
WholeGathered vs g = Whole vs g.mem × (every? fine_stack g.values.unpenalized ≡ true)

source_fine : (e : Effect) (v : Float) (applied : Bool) (quantity : ℕ) (penalised : Bool) → finite v ≡ true → fine_source (to_source e v applied quantity penalised) ≡ true
unfolding finite
source_fine e v a q p h = and_both h refl

copy_kept : (t : Bool) (x : Copy) (g : Values) → (with_copy t x g).unpenalized ≡ g.unpenalized
copy_kept true x g = refl
copy_kept false x g = refl

stack_fine : (x : Float) (n : ℕ) (g : Values) → finite x ≡ true → every? fine_stack g.unpenalized ≡ true → every? fine_stack (with_stack x n g).unpenalized ≡ true
stack_fine x zero g h k = k
stack_fine x (suc n) g h k = every_both fine_stack g.unpenalized (record { value = x; quantity = suc n } ∷ []) k (and_both h refl)

module _ (vs : List (Option Float)) where
  -- the sources of row i, changed
  own_changed : (i : ℕ) (own : List Source) (m : Mem) (used : ℕ) → every? fine_source own ≡ true → Whole vs m → Whole vs (record { values = m.values; sources = set m.sources i own; used = used })
  own_changed i own m used h k = record { values = k.values; sources = every_set (every? fine_source) m.sources i own k.sources h; keeps = k.keeps }

  own_fine : (i : ℕ) (m : Mem) → Whole vs m → every? fine_source (own_sources i m) ≡ true
  own_fine i m k = every_or (every? fine_source) m.sources i [] k.sources refl

  marked_fine : (p : ℕ) (xs : List Copy) (own : List Source) → every? fine_source own ≡ true → every? fine_source (marked p xs own) ≡ true
  unfolding marked finite
  marked_fine p [] own h = h
  marked_fine p (x ∷ xs) own h =
      let old = get_or own x.source no_source in
      marked_fine (suc p) xs _ (every_set fine_source own x.source (with_penalty (weight p) old) h
      (and_both (and_left (finite old.value) (finite old.penalty) (every_or fine_source own x.source no_source h refl)) (weight_fine p)))

  marked-whole : (i : ℕ) (g : Gathered) → Whole vs g.mem → Whole vs (marked_by i g)
  marked-whole i g k =
      own_changed i _ g.mem g.mem.used (marked_fine 0 (sorted g.values.negative) _ (marked_fine 0 (sorted g.values.positive) (own_sources i g.mem) (own_fine i g.mem k))) k

  pub set-whole : (i : ℕ) (v : Float) (m : Mem) → i < length vs → finite v ≡ true → Whole vs m → Whole vs (set_value i v m)
  set-whole i v m l h k =
      record {
        values = every_set fine_value m.values i (some v) k.values h;
        sources = k.sources;
        keeps = keeps_on k.keeps (keeps_set m.values i v (omega (arith, l, k.keeps.long)));
      }

  module _ (w : World) (i : ℕ) (row : Row) where
    note_fine : (r : Source) (m : Mem) → fine_source r ≡ true → Whole vs m → Gives (Whole vs) (note w i row r m)
    unfolding note
    note_fine r m h k = by w.recording (ltb m.used w.room)
      where
        by : (t u : Bool) → Gives (Whole vs) (elim t [
          | false ↦ ok m
          | true ↦ elim u [ false ↦ refused (Room 5) | true ↦ ok (record { values = m.values; sources = set m.sources i (own_sources i m ++ (r ∷ [])); used = suc m.used }) ]
        ])
        by false u = gives k
        by true false = stops
        by true true = gives (own_changed i _ m (suc m.used) (every_both fine_source (own_sources i m) (r ∷ []) (own_fine i m k) (and_both h refl)) k)

    copies_fine : (n : ℕ) (r : Source) (x : Float) (g : Gathered) → fine_source r ≡ true → WholeGathered vs g → Gives (WholeGathered vs) (copies w i row n r x g)
    unfolding copies
    copies_fine zero r x g h k = gives k
    copies_fine (suc n) r x g h k =
        on _ (note_fine r g.mem h k.0) (λ m p. copies_fine n r x _ h (p, ap (every? fine_stack) (copy_kept (lt x zero_f) _ g.values) ∙ k.1))

    penalised_fine : (e : Effect) (v x : Float) (g : Gathered) → finite v ≡ true → WholeGathered vs g → Gives (WholeGathered vs) (penalised w i row e v x g)
    unfolding penalised
    penalised_fine e v x g h k = on _ (copies_fine (min e.quantity 8) (to_source e v true 1 true) x g (source_fine e v true 1 true h) k) (λ a p. by (e.quantity - 8) a p)
      where
        rest : ℕ → Gathered → Res Gathered
        rest c a = elim c [ zero ↦ ok a | suc n ↦ (note w i row (to_source e v true (suc n) true) a.mem >>= λ m. ok (record { mem = m; values = a.values })) ]

        by : (c : ℕ) (a : Gathered) → WholeGathered vs a → Gives (WholeGathered vs) (rest c a)
        by zero a p = gives p
        by (suc n) a p = on _ (note_fine (to_source e v true (suc n) true) a.mem (source_fine e v true (suc n) true h) p.0) (λ m q. gives (q, p.1))

    unpenalised_fine : (e : Effect) (v x : Float) (g : Gathered) → finite v ≡ true → finite x ≡ true → WholeGathered vs g → Gives (WholeGathered vs) (unpenalised w i row e v x g)
    unfolding unpenalised
    unpenalised_fine e v x g h s k =
        on _ (note_fine (to_source e v true e.quantity false) g.mem (source_fine e v true e.quantity false h) k.0) (λ m q. gives (q, stack_fine x e.quantity g.values s k.1))

    contribute_fine : (e : Effect) (v : Float) (g : Gathered) → finite v ≡ true → WholeGathered vs g → Gives (WholeGathered vs) (contribute w i row e v g)
    unfolding contribute
    contribute_fine e v g h k =
        on _ (number_fine row.object (simplified e.operator v) (simplified_fine e.operator v h)) (λ x s. either (e.penalty && has_penalty e.operator) (penalised_fine e v x g h k) (unpenalised_fine e v x g h s k))

    module _ (read : Reader) (reading : (o : ℕ) (a : ℤ) (m : Mem) → Whole vs m → Gives (WholeRead vs) (read o a m)) where
      resisted_fine : (a : OptionalId) (r : Read) → WholeRead vs r → Gives (WholeRead vs) (resisted w i row read a r)
      unfolding resisted
      resisted_fine None r k = gives k
      resisted_fine (Some a) r k = on _ (reading 0 a r.mem k.1) (λ q p. on _ (number_fine row.object (times r.value q.value) (times_fine r.value q.value)) (λ v h. gives (h, p.1)))

      gather_from_fine : (e : Effect) (s : Origin) (g : Gathered) → finite (origin_value s) ≡ true → WholeGathered vs g → Gives (WholeGathered vs) (gather_from w i row read e s g)
      unfolding gather_from
      gather_from_fine e (origin.Buff b v) g h k = contribute_fine e v g h k
      gather_from_fine e (origin.Effect f source c a) g h k =
          either (runs_at c (state_of w source) || w.recording)
          (on _ (reading source a g.mem k.0) λ r p.
          on _ (resisted_fine e.resistance r p) λ s q.
          either (runs_at c (state_of w source))
          (contribute_fine e s.value (record { mem = s.mem; values = g.values }) q.0 (q.1, k.1))
          (on _ (note_fine (to_source e s.value false e.quantity false) s.mem (source_fine e s.value false e.quantity false q.0) q.1) (λ m t. gives (t, k.1))))
          (gives k)

      gather_fine : (op : EffectOperator) (es : List Effect) (g : Gathered) → every? (λ e. finite (origin_value e.origin)) es ≡ true → WholeGathered vs g → Gives (WholeGathered vs) (gather w i row read op es g)
      unfolding gather
      gather_fine op [] g h k = gives k
      gather_fine op (e ∷ es) g h k =
          let first = and_left (finite (origin_value e.origin)) (every? (λ x. finite (origin_value x.origin)) es) h in
          let rest = and_right (finite (origin_value e.origin)) (every? (λ x. finite (origin_value x.origin)) es) h in
          either (same_operator e.operator op) (on _ (gather_from_fine e e.origin g first k) (λ a p. gather_fine op es a rest p)) (gather_fine op es g rest k)

      operate_fine : (ops : List EffectOperator) (a : Read) → every? (λ e. finite (origin_value e.origin)) row.entries ≡ true → WholeRead vs a → Gives (WholeRead vs) (operate w i row read ops a)
      unfolding operate
      operate_fine [] a h k = gives k
      operate_fine (op ∷ ops) a h k =
          on _ (gather_fine op row.entries (record { mem = a.mem; values = nothing }) h (k.1, refl)) λ g p.
          on _ (number_fine row.object _ (applied_fine (high_is_good (get_dogma_attribute w.book row.id)) op a.value g.values k.0 p.1)) λ v q.
          operate_fine ops (record { value = v; mem = marked_by i g }) h (q, marked-whole i g p.0)

      clamped_fine : (clamp : Float → Float → Float) → ((x y : Float) → finite x ≡ true → finite y ≡ true → finite (clamp x y) ≡ true) → (a : ℤ) (r : Read) → WholeRead vs r → Gives (WholeRead vs) (clamped row.object read clamp a r)
      unfolding clamped
      clamped_fine clamp c a r k = either (eq_z a (pos 0)) (gives k) (on _ (reading row.object a r.mem k.1) (λ q p. gives (c r.value q.value k.0 p.0, p.1)))

      -- the row's value is in the memory afterwards
      pub calculate_fine : (m : Mem) → i < length vs → finite row.base ≡ true → every? (λ e. finite (origin_value e.origin)) row.entries ≡ true → Whole vs m
          → Gives (λ (q : Read). WholeRead vs q × (there? (get_or q.mem.values i none) ≡ true)) (calculate w read i row m)
      unfolding calculate
      calculate_fine m l b h k =
          let attribute = get_dogma_attribute w.book row.id in
          on _ (operate_fine operators (record { value = row.base; mem = set_value i row.base m }) h (b, set-whole i row.base m l b k)) λ x p.
          on _ (clamped_fine at_least (λ v low s t. cond_fine (lt v low) low v t s) attribute.min_attribute_id x p) λ y q.
          on _ (clamped_fine at_most (λ v high s t. cond_fine (lt high v) high v t s) attribute.max_attribute_id y q) λ z r.
          gives ((r.0, set-whole i z.value z.mem l r.0 r.1), ap there? (get_or-set_same z.mem.values i (some z.value) none (omega (arith, l, r.1.keeps.long))))
