-- A row's calculation beside the same with nothing recorded and another reader: they give the same value where the readers do
-- on all that the row needs, and what holds of the memory's values is kept.
use Rattle.std.specs.Prelude.{None, Some}
use Prim.Native.Nat.{ℕ, zero, suc, ◌-◌, min}
use mathlib.Core.Path.{◌≡◌, refl, ap, ap₂, subst, ◌∙◌}
use mathlib.Core.Bool.{Bool, true, false, ◌&&◌, ◌||◌, cond}
use mathlib.Core.List.{List, [], ◌∷◌, ◌++◌}
use mathlib.Core.Option.{Option, some}
use lib.Dec.{ltb}
use lib.IntN.{ℤ, pos}
use lib.ListN.{set}
use lib.Ieee.{Float, lt}
use Rattle.laws.specs.Lists.{eq_z, flat}
use Rattle.laws.specs.Floats.{zero_f}
use Rattle.rules.specs.Answer.{Res, ok, refused, ◌>>=◌}
use Rattle.rules.specs.Codes.{operators, same_operator}
use Rattle.rules.specs.Dispatch.{Row, Key}
use Rattle.rules.specs.Info.{get_dogma_attribute, high_is_good}
use Rattle.rules.specs.Item.{runs_at}
use Rattle.rules.specs.Number.{times}
use Rattle.rules.specs.Operate.{simplified, has_penalty, applied}
use Rattle.rules.specs.Value.{World, Mem, Read, Reader, Gathered, own_sources, state_of, to_source, note, copies, penalised, unpenalised, contribute, resisted, gather_from, gather, operate, clamped, at_least, at_most, calculate}
use Rattle.rules.specs.Fresh.{unrecorded, limit, resistance_needs, entry_needs, needs_of}
use Rattle.rules.specs.declared.Effect.{Effect}
use Rattle.rules.specs.declared.Source.{Source}
use Rattle.rules.specs.declared.EffectOperator.{EffectOperator}
use Rattle.rules.specs.Ids.{OptionalId}
use Rattle.rules.specs.declared.Origin.{Origin}
use Rattle.rules.specs.declared.Origin.TheVariants as origin
use Rattle.rules.specs.declared.Refusal.TheVariants.{Room}
use Rattle.promises.proofs.NoMemoryGoes.{Goes, stops, goes, on, on_first_lem, number_goes}
use Rattle.promises.proofs.NoMemoryCopies.{Same, same_nothing, applied_same, stack_same, copy_same}

-- ---- what holds of every key of a list

abbrev pub Each : (Key → Type 0) → List Key → Type 0
Each P [] = Unit {0}
Each P (a ∷ r) = P a × Each P r

pub each_left : (P : Key → Type 0) (xs ys : List Key) → Each P (xs ++ ys) → Each P xs
each_left P [] ys h = tt
each_left P (x ∷ xs) ys h = (h.0, each_left P xs ys h.1)

pub each_right : (P : Key → Type 0) (xs ys : List Key) → Each P (xs ++ ys) → Each P ys
each_right P [] ys h = h
each_right P (x ∷ xs) ys h = each_right P xs ys h.1

module _ (w : World) (i : ℕ) (row : Row) (Inv : List (Option Float) → Type 0) where
  -- ---- source rows change no value

  note_goes : (r : Source) (m m' : Mem) → Inv m.values → Goes (λ (a b : Mem). Inv a.values) (note w i row r m) (note (unrecorded w) i row r m')
  unfolding note
  note_goes r m m' v = by w.recording (ltb m.used w.room)
    where
      after : Mem
      after = record { values = m.values; sources = set m.sources i (own_sources i m ++ (r ∷ [])); used = suc m.used }

      by : (t u : Bool) → Goes (λ (a b : Mem). Inv a.values) (elim t [ false ↦ ok m | true ↦ elim u [ false ↦ refused (Room 5) | true ↦ ok after ] ]) (ok m')
      by false u = goes v
      by true true = goes v
      by true false = stops

  -- ---- gathering

  pub record Like (g h : Gathered) : Type 0 where
    pub same : Same g.values h.values
    pub inv : Inv g.mem.values

  copies_goes : (n : ℕ) (r : Source) (x : Float) (g h : Gathered) → Like g h → Goes Like (copies w i row n r x g) (copies (unrecorded w) i row n r x h)
  unfolding copies
  copies_goes zero r x g h l = goes l
  copies_goes (suc n) r x g h l =
      on _ _ (note_goes r g.mem h.mem l.inv)
      (λ m m' v. copies_goes n r x _ _ (record { same = copy_same (lt x zero_f) _ _ g.values h.values refl l.same; inv = v }))

  penalised_goes : (e : Effect) (v x : Float) (g h : Gathered) → Like g h → Goes Like (penalised w i row e v x g) (penalised (unrecorded w) i row e v x h)
  unfolding penalised
  penalised_goes e v x g h l = on _ _ (copies_goes (min e.quantity 8) (to_source e v true 1 true) x g h l) (λ a b k. by (e.quantity - 8) a b k)
    where
      by : (n : ℕ) (a b : Gathered) → Like a b
          → Goes Like
          (elim n [ zero ↦ ok a | suc k ↦ (note w i row (to_source e v true (suc k) true) a.mem >>= λ m. ok (record { mem = m; values = a.values })) ])
          (elim n [ zero ↦ ok b | suc k ↦ (note (unrecorded w) i row (to_source e v true (suc k) true) b.mem >>= λ m. ok (record { mem = m; values = b.values })) ])
      by zero a b k = goes k
      by (suc n) a b k = on _ _ (note_goes _ a.mem b.mem k.inv) (λ m m' u. goes (record { same = k.same; inv = u }))

  unpenalised_goes : (e : Effect) (v x : Float) (g h : Gathered) → Like g h → Goes Like (unpenalised w i row e v x g) (unpenalised (unrecorded w) i row e v x h)
  unfolding unpenalised
  unpenalised_goes e v x g h l =
      on _ _ (note_goes _ g.mem h.mem l.inv) (λ m m' u. goes (record { same = stack_same x e.quantity g.values h.values l.same; inv = u }))

  contribute_goes : (e : Effect) (v : Float) (g h : Gathered) → Like g h → Goes Like (contribute w i row e v g) (contribute (unrecorded w) i row e v h)
  unfolding contribute
  contribute_goes e v g h l =
      on _ _ (number_goes row.object (simplified e.operator v) (simplified e.operator v) refl)
      (λ x y q. subst (λ (z : Float). Goes Like (chosen w x g) (chosen (unrecorded w) z h)) q (by (e.penalty && has_penalty e.operator) x))
    where
      chosen : World → Float → Gathered → Res Gathered
      chosen u x a = elim (e.penalty && has_penalty e.operator) [ true ↦ penalised u i row e v x a | false ↦ unpenalised u i row e v x a ]

      by : (t : Bool) (x : Float)
          → Goes Like (elim t [ true ↦ penalised w i row e v x g | false ↦ unpenalised w i row e v x g ])
          (elim t [ true ↦ penalised (unrecorded w) i row e v x h | false ↦ unpenalised (unrecorded w) i row e v x h ])
      by true x = penalised_goes e v x g h l
      by false x = unpenalised_goes e v x g h l

  module _ (read read' : Reader) where
    -- the readers agree on an attribute
    pub record Got (q p : Read) : Type 0 where
      pub value : q.value ≡ p.value
      pub inv : Inv q.mem.values

    abbrev pub Agree : Key → Type 0
    Agree a = (m m' : Mem) → Inv m.values → Goes Got (read a.object a.id m) (read' a.object a.id m')

    pub resisted_goes : (a : OptionalId) (q p : Read) → Each Agree (resistance_needs a) → Got q p → Goes Got (resisted w i row read a q) (resisted (unrecorded w) i row read' a p)
    unfolding resisted
    resisted_goes None q p h g = goes g
    resisted_goes (Some a) q p h g =
        on _ _ (h.0 q.mem p.mem g.inv)
        (λ x y k. on _ _ (number_goes row.object (times q.value x.value) (times p.value y.value) (ap₂ times g.value k.value))
        (λ u v e. goes (record { value = e; inv = k.inv })))

    pub from_goes : (e : Effect) (f : Origin) (g h : Gathered) → Each Agree (entry_needs e.resistance f) → Like g h → Goes Like (gather_from w i row read e f g) (gather_from (unrecorded w) i row read' e f h)
    unfolding gather_from
    from_goes e (origin.Buff b v) g h n l = contribute_goes e v g h l
    from_goes e (origin.Effect f source c a) g h n l = by (runs_at c (state_of w source)) w.recording
      where
        read_on : (t : Bool) (q : Read) → Res Gathered
        read_on t q = elim t [
          | true ↦ contribute w i row e q.value (record { mem = q.mem; values = g.values })
          | false ↦ (note w i row (to_source e q.value false e.quantity false) q.mem >>= λ m. ok (record { mem = m; values = g.values }))
        ]

        read_on' : (t : Bool) (q : Read) → Res Gathered
        read_on' t q = elim t [
          | true ↦ contribute (unrecorded w) i row e q.value (record { mem = q.mem; values = h.values })
          | false ↦ (note (unrecorded w) i row (to_source e q.value false e.quantity false) q.mem >>= λ m. ok (record { mem = m; values = h.values }))
        ]

        by : (t r : Bool)
            → Goes Like
            (elim (t || r) [ false ↦ ok g | true ↦ (read source a g.mem >>= λ q. resisted w i row read e.resistance q >>= λ s. read_on t s) ])
            (elim (t || false) [ false ↦ ok h | true ↦ (read' source a h.mem >>= λ q. resisted (unrecorded w) i row read' e.resistance q >>= λ s. read_on' t s) ])
        by true r =
            on _ _ (n.0 g.mem h.mem l.inv)
            (λ q p k. on _ _ (resisted_goes e.resistance q p n.1 k)
            (λ s u j. subst (λ (v : Float). Goes Like (read_on true s) (contribute (unrecorded w) i row e v (record { mem = u.mem; values = h.values }))) j.value
            (contribute_goes e s.value _ _ (record { same = l.same; inv = j.inv }))))
        by false true =
            on_first_lem _ _ (n.0 g.mem h.mem l.inv)
            (λ q p k. on_first_lem _ _ (resisted_goes e.resistance q p n.1 k)
            (λ s u j. on_first_lem _ _ (note_goes _ s.mem h.mem j.inv) (λ m m' v. goes (record { same = l.same; inv = v }))))
        by false false = goes l

    abbrev pub entries_needs : List Effect → List Key
    entries_needs es = flat (λ e. entry_needs e.resistance e.origin) es

    pub gather_goes : (op : EffectOperator) (es : List Effect) (g h : Gathered) → Each Agree (entries_needs es) → Like g h → Goes Like (gather w i row read op es g) (gather (unrecorded w) i row read' op es h)
    unfolding gather
    gather_goes op [] g h n l = goes l
    gather_goes op (e ∷ r) g h n l = by (λ a b k. gather_goes op r a b (each_right Agree (entry_needs e.resistance e.origin) (entries_needs r) n) k) (same_operator e.operator op)
      where
        by : ((a b : Gathered) → Like a b → Goes Like (gather w i row read op r a) (gather (unrecorded w) i row read' op r b)) → (t : Bool)
            → Goes Like
            (elim t [ false ↦ gather w i row read op r g | true ↦ (gather_from w i row read e e.origin g >>= λ a. gather w i row read op r a) ])
            (elim t [ false ↦ gather (unrecorded w) i row read' op r h | true ↦ (gather_from (unrecorded w) i row read' e e.origin h >>= λ a. gather (unrecorded w) i row read' op r a) ])
        by rest false = rest g h l
        by rest true = on _ _ (from_goes e e.origin g h (each_left Agree (entry_needs e.resistance e.origin) (entries_needs r) n) l) rest

    -- ---- operators, limits, and the whole

    operate_goes : (ops : List EffectOperator) (q p : Read) → Each Agree (entries_needs row.entries) → Got q p → Goes Got (operate w i row read ops q) (operate (unrecorded w) i row read' ops p)
    unfolding operate
    operate_goes [] q p n g = goes g
    operate_goes (op ∷ ops) q p n g =
        on _ _ (gather_goes op row.entries _ _ n (record { same = same_nothing; inv = g.inv }))
        (λ a b l. on _ _ (number_goes row.object _ _ (ap (λ (v : Float). applied high op v a.values) g.value ∙ applied_same high op p.value a.values b.values l.same))
        (λ u v e. operate_goes ops _ _ n (record { value = e; inv = l.inv })))
      where
        high : Bool
        high = high_is_good (get_dogma_attribute w.book row.id)

    clamped_goes : (o : ℕ) (clamp : Float → Float → Float) (a : ℤ) (q p : Read) → Each Agree (limit o a) → Got q p → Goes Got (clamped o read clamp a q) (clamped o read' clamp a p)
    unfolding clamped
    clamped_goes o clamp a q p = by (eq_z a (pos 0))
      where
        by : (t : Bool) → Each Agree (cond t [] (record { object = o; id = a } ∷ [])) → Got q p
            → Goes Got (elim t [ true ↦ ok q | false ↦ (read o a q.mem >>= λ x. ok (record { value = clamp q.value x.value; mem = x.mem })) ])
            (elim t [ true ↦ ok p | false ↦ (read' o a p.mem >>= λ x. ok (record { value = clamp p.value x.value; mem = x.mem })) ])
        by true n g = goes g
        by false n g = on _ _ (n.0 q.mem p.mem g.inv) (λ x y k. goes (record { value = ap₂ clamp g.value k.value; inv = k.inv }))

    -- the same value, and at the end the row's own is set
    pub record Ended (q p : Read) : Type 0 where
      pub value : q.value ≡ p.value
      pub before : List (Option Float)
      pub inv : Inv before
      pub values : q.mem.values ≡ set before i (some q.value)

    pub calculate_goes : (m m' : Mem) → Each Agree (needs_of w.book row) → Inv (set m.values i (some row.base)) → Goes Ended (calculate w read i row m) (calculate (unrecorded w) read' i row m')
    unfolding calculate needs_of
    calculate_goes m m' n v =
        on _ _ (operate_goes operators _ _ (each_left Agree own (low ++ high) n) (record { value = refl; inv = v }))
        (λ a b g. on _ _ (clamped_goes row.object at_least _ a b (each_left Agree low high (each_right Agree own (low ++ high) n)) g)
        (λ c d k. on _ _ (clamped_goes row.object at_most _ c d (each_right Agree low high (each_right Agree own (low ++ high) n)) k)
        (λ e f j. goes (record { value = j.value; before = e.mem.values; inv = j.inv; values = refl }))))
      where
        own : List Key
        own = entries_needs row.entries

        low : List Key
        low = limit row.object (get_dogma_attribute w.book row.id).min_attribute_id

        high : List Key
        high = limit row.object (get_dogma_attribute w.book row.id).max_attribute_id
