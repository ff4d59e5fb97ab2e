-- A row's calculation with nothing recorded beside the same in its world, with another reader: they give the same value where the readers
-- do on all that the row needs and the first one's idle entries have a strength; what holds of the second memory's values is kept.
use Rattle.std.specs.Prelude.{None, Some}
use Prim.Native.Nat.{ℕ, zero, suc, ◌-◌, min}
use mathlib.Core.Path.{◌≡◌, refl, ap, ap₂, subst, ◌∙◌}
use mathlib.Core.Bool.{Bool, true, false, ◌&&◌, ◌||◌, cond}
use mathlib.Core.List.{List, [], ◌∷◌, ◌++◌}
use mathlib.Core.Option.{Option, some}
use lib.Dec.{ltb}
use lib.IntN.{ℤ, pos}
use lib.ListN.{set}
use lib.Ieee.{Float, lt}
use Rattle.laws.specs.Lists.{eq_z, flat}
use Rattle.laws.specs.Floats.{zero_f}
use Rattle.rules.specs.Answer.{Res, ok, refused, ◌>>=◌}
use Rattle.rules.specs.Codes.{operators, same_operator}
use Rattle.rules.specs.Dispatch.{Row, Key}
use Rattle.rules.specs.Info.{get_dogma_attribute, high_is_good}
use Rattle.rules.specs.Item.{runs_at}
use Rattle.rules.specs.Number.{times}
use Rattle.rules.specs.Operate.{simplified, has_penalty, applied}
use Rattle.rules.specs.Value.{World, Mem, Read, Reader, Gathered, own_sources, state_of, to_source, note, copies, penalised, unpenalised, contribute, resisted, gather_from, gather, operate, clamped, at_least, at_most, calculate}
use Rattle.rules.specs.Fresh.{unrecorded, limit, resistance_needs, entry_needs, needs_of}
use Rattle.rules.specs.declared.Effect.{Effect}
use Rattle.rules.specs.declared.Source.{Source}
use Rattle.rules.specs.declared.EffectOperator.{EffectOperator}
use Rattle.rules.specs.Ids.{OptionalId}
use Rattle.rules.specs.declared.Origin.{Origin}
use Rattle.rules.specs.declared.Origin.TheVariants as origin
use Rattle.rules.specs.declared.Refusal.{Refusal}
use Rattle.rules.specs.declared.Refusal.TheVariants.{Room}
use Rattle.rules.proofs.Results.{then}
use Rattle.settled.specs.Given.{idle, idles}
use Rattle.settled.proofs.Tends.{Tends, stops, tends, short, on, rests, number_tends}
use Rattle.promises.proofs.NoMemorySteps.{Each}
use Rattle.promises.proofs.NoMemoryCopies.{Same, same_nothing, applied_same, stack_same, copy_same}

-- ---- what holds of every key of a list

each_left : (P : Key → Type 0) (xs ys : List Key) → Each P (xs ++ ys) → Each P xs
each_left P [] ys h = tt
each_left P (x ∷ xs) ys h = (h.0, each_left P xs ys h.1)

each_right : (P : Key → Type 0) (xs ys : List Key) → Each P (xs ++ ys) → Each P ys
each_right P [] ys h = h
each_right P (x ∷ xs) ys h = each_right P xs ys h.1

module _ (Wanted : Refusal → Type 0) (w : World) (no_room : w.recording ≡ true → Wanted (Room 5)) (i : ℕ) (row : Row) (Inv : List (Option Float) → Type 0) where
  -- ---- source rows change no value

  note_tends : (r r' : Source) (m m' : Mem) → Inv m'.values → Tends Wanted (λ (a b : Mem). Inv b.values) (note (unrecorded w) i row r m) (note w i row r' m')
  unfolding note
  note_tends r r' m m' v = by w.recording refl (ltb m'.used w.room)
    where
      after : Source → Mem → Mem
      after y x = record { values = x.values; sources = set x.sources i (own_sources i x ++ (y ∷ [])); used = suc x.used }

      by : (t : Bool) → w.recording ≡ t → (u : Bool)
          → Tends Wanted (λ (a b : Mem). Inv b.values) (ok m) (elim t [ false ↦ ok m' | true ↦ elim u [ false ↦ refused (Room 5) | true ↦ ok (after r' m') ] ])
      by false e u = tends v
      by true e true = tends v
      by true e false = short (no_room e)

  -- ---- gathering

  pub record Like (g h : Gathered) : Type 0 where
    pub same : Same g.values h.values
    pub inv : Inv h.mem.values

  copies_tends : (n : ℕ) (r : Source) (x : Float) (g h : Gathered) → Like g h → Tends Wanted Like (copies (unrecorded w) i row n r x g) (copies w i row n r x h)
  unfolding copies
  copies_tends zero r x g h l = tends l
  copies_tends (suc n) r x g h l =
      on _ _ (note_tends r r g.mem h.mem l.inv)
      (λ m m' v. copies_tends n r x _ _ (record { same = copy_same (lt x zero_f) _ _ g.values h.values refl l.same; inv = v }))

  penalised_tends : (e : Effect) (v x : Float) (g h : Gathered) → Like g h → Tends Wanted Like (penalised (unrecorded w) i row e v x g) (penalised w i row e v x h)
  unfolding penalised
  penalised_tends e v x g h l = on _ _ (copies_tends (min e.quantity 8) (to_source e v true 1 true) x g h l) (λ a b k. by (e.quantity - 8) a b k)
    where
      by : (n : ℕ) (a b : Gathered) → Like a b
          → Tends Wanted Like
          (elim n [ zero ↦ ok a | suc k ↦ (note (unrecorded w) i row (to_source e v true (suc k) true) a.mem >>= λ m. ok (record { mem = m; values = a.values })) ])
          (elim n [ zero ↦ ok b | suc k ↦ (note w i row (to_source e v true (suc k) true) b.mem >>= λ m. ok (record { mem = m; values = b.values })) ])
      by zero a b k = tends k
      by (suc n) a b k = on _ _ (note_tends _ _ a.mem b.mem k.inv) (λ m m' u. tends (record { same = k.same; inv = u }))

  unpenalised_tends : (e : Effect) (v x : Float) (g h : Gathered) → Like g h → Tends Wanted Like (unpenalised (unrecorded w) i row e v x g) (unpenalised w i row e v x h)
  unfolding unpenalised
  unpenalised_tends e v x g h l =
      on _ _ (note_tends _ _ g.mem h.mem l.inv) (λ m m' u. tends (record { same = stack_same x e.quantity g.values h.values l.same; inv = u }))

  contribute_tends : (e : Effect) (v : Float) (g h : Gathered) → Like g h → Tends Wanted Like (contribute (unrecorded w) i row e v g) (contribute w i row e v h)
  unfolding contribute
  contribute_tends e v g h l =
      on _ _ (number_tends row.object (simplified e.operator v) (simplified e.operator v) refl)
      (λ x y q. subst (λ (z : Float). Tends Wanted Like (chosen (unrecorded w) x g) (chosen w z h)) q (by (e.penalty && has_penalty e.operator) x))
    where
      chosen : World → Float → Gathered → Res Gathered
      chosen u x a = elim (e.penalty && has_penalty e.operator) [ true ↦ penalised u i row e v x a | false ↦ unpenalised u i row e v x a ]

      by : (t : Bool) (x : Float)
          → Tends Wanted Like (elim t [ true ↦ penalised (unrecorded w) i row e v x g | false ↦ unpenalised (unrecorded w) i row e v x g ])
          (elim t [ true ↦ penalised w i row e v x h | false ↦ unpenalised w i row e v x h ])
      by true x = penalised_tends e v x g h l
      by false x = unpenalised_tends e v x g h l

  module _ (read read' : Reader) where
    -- the readers agree on an attribute
    pub record Got (q p : Read) : Type 0 where
      pub value : q.value ≡ p.value
      pub inv : Inv p.mem.values

    abbrev pub Agree : Key → Type 0
    Agree a = (m m' : Mem) → Inv m'.values → Tends Wanted Got (read a.object a.id m) (read' a.object a.id m')

    resisted_tends : (a : OptionalId) (q p : Read) → Each Agree (resistance_needs a) → Got q p → Tends Wanted Got (resisted (unrecorded w) i row read a q) (resisted w i row read' a p)
    unfolding resisted
    resisted_tends None q p h g = tends g
    resisted_tends (Some a) q p h g =
        on _ _ (h.0 q.mem p.mem g.inv)
        (λ x y k. on _ _ (number_tends row.object (times q.value x.value) (times p.value y.value) (ap₂ times g.value k.value))
        (λ u v e. tends (record { value = e; inv = k.inv })))

    -- each idle entry of a list has a strength for the first reader, where the world records
    abbrev pub Quiet : List Effect → Type 0
    Quiet es = w.recording ≡ true → (m : Mem) → idles (unrecorded w) read i row es m ≡ ok tt

    abbrev QuietOne : Effect → Origin → Type 0
    QuietOne e f = w.recording ≡ true → (m : Mem) → idle (unrecorded w) read i row e f m ≡ ok tt

    from_tends : (e : Effect) (f : Origin) (g h : Gathered) → QuietOne e f → Each Agree (entry_needs e.resistance f) → Like g h → Tends Wanted Like (gather_from (unrecorded w) i row read e f g) (gather_from w i row read' e f h)
    unfolding note gather_from idle
    from_tends e (origin.Buff b v) g h s n l = contribute_tends e v g h l
    from_tends e (origin.Effect f source c a) g h quiet n l = by (runs_at c (state_of w source)) w.recording quiet
      where
        read_on : (t : Bool) (q : Read) → Res Gathered
        read_on t q = elim t [
          | true ↦ contribute (unrecorded w) i row e q.value (record { mem = q.mem; values = g.values })
          | false ↦ (note (unrecorded w) i row (to_source e q.value false e.quantity false) q.mem >>= λ m. ok (record { mem = m; values = g.values }))
        ]

        read_on' : (t : Bool) (q : Read) → Res Gathered
        read_on' t q = elim t [
          | true ↦ contribute w i row e q.value (record { mem = q.mem; values = h.values })
          | false ↦ (note w i row (to_source e q.value false e.quantity false) q.mem >>= λ m. ok (record { mem = m; values = h.values }))
        ]

        alike : (b : Gathered) → Like g b → Tends Wanted (λ (t : Unit {0}) (x : Gathered). Like g x) (ok tt) (ok b)
        alike b k = tends k

        by : (t r : Bool)
            → (r ≡ true → (m : Mem) → ◌≡◌ {A = Res (Unit {0})} (elim t [ true ↦ ok tt | false ↦ (read source a m >>= λ q. resisted (unrecorded w) i row read e.resistance q >>= λ s. ok tt) ]) (ok tt))
            → Tends Wanted Like
            (elim (t || false) [ false ↦ ok g | true ↦ (read source a g.mem >>= λ q. resisted (unrecorded w) i row read e.resistance q >>= λ s. read_on t s) ])
            (elim (t || r) [ false ↦ ok h | true ↦ (read' source a h.mem >>= λ q. resisted w i row read' e.resistance q >>= λ s. read_on' t s) ])
        by true r quiet =
            on _ _ (n.0 g.mem h.mem l.inv)
            (λ q p k. on _ _ (resisted_tends e.resistance q p n.1 k)
            (λ s u j. subst (λ (v : Float). Tends Wanted Like (read_on true s) (contribute w i row e v (record { mem = u.mem; values = h.values }))) j.value
            (contribute_tends e s.value _ _ (record { same = l.same; inv = j.inv }))))
        by false true quiet =
            rests (read source a g.mem >>= λ q. resisted (unrecorded w) i row read e.resistance q >>= λ s. ok tt) tt g _ (quiet refl g.mem)
            (on _ _ (n.0 g.mem h.mem l.inv)
            (λ q p k. on _ _ (resisted_tends e.resistance q p n.1 k)
            (λ s u j. on (λ m. ok tt) _ (note_tends (to_source e s.value false e.quantity false) (to_source e u.value false e.quantity false) s.mem u.mem j.inv) (λ m m' v. alike _ (record { same = l.same; inv = v })))))
            (λ b k. k)
        by false false quiet = tends l

    abbrev entries_needs : List Effect → List Key
    entries_needs es = flat (λ e. entry_needs e.resistance e.origin) es

    gather_tends : (op : EffectOperator) (es : List Effect) (g h : Gathered) → Quiet es → Each Agree (entries_needs es) → Like g h → Tends Wanted Like (gather (unrecorded w) i row read op es g) (gather w i row read' op es h)
    unfolding gather idles
    gather_tends op [] g h s n l = tends l
    gather_tends op (e ∷ r) g h s n l = by (λ a b k. gather_tends op r a b (λ t m. (then (idle (unrecorded w) read i row e e.origin m) (λ u. idles (unrecorded w) read i row r m) tt (s t m)).rest) (each_right Agree (entry_needs e.resistance e.origin) (entries_needs r) n) k) (same_operator e.operator op)
      where
        by : ((a b : Gathered) → Like a b → Tends Wanted Like (gather (unrecorded w) i row read op r a) (gather w i row read' op r b)) → (t : Bool)
            → Tends Wanted Like
            (elim t [ false ↦ gather (unrecorded w) i row read op r g | true ↦ (gather_from (unrecorded w) i row read e e.origin g >>= λ a. gather (unrecorded w) i row read op r a) ])
            (elim t [ false ↦ gather w i row read' op r h | true ↦ (gather_from w i row read' e e.origin h >>= λ a. gather w i row read' op r a) ])
        by rest false = rest g h l
        by rest true = on _ _ (from_tends e e.origin g h (λ t m. (then (idle (unrecorded w) read i row e e.origin m) (λ u. idles (unrecorded w) read i row r m) tt (s t m)).first) (each_left Agree (entry_needs e.resistance e.origin) (entries_needs r) n) l) rest

    -- ---- operators, limits, and the whole

    operate_tends : (ops : List EffectOperator) (q p : Read) → Quiet row.entries → Each Agree (entries_needs row.entries) → Got q p → Tends Wanted Got (operate (unrecorded w) i row read ops q) (operate w i row read' ops p)
    unfolding operate
    operate_tends [] q p s n g = tends g
    operate_tends (op ∷ ops) q p s n g =
        on _ _ (gather_tends op row.entries _ _ s n (record { same = same_nothing; inv = g.inv }))
        (λ a b l. on _ _ (number_tends row.object _ _ (ap (λ (v : Float). applied high op v a.values) g.value ∙ applied_same high op p.value a.values b.values l.same))
        (λ u v e. operate_tends ops _ _ s n (record { value = e; inv = l.inv })))
      where
        high : Bool
        high = high_is_good (get_dogma_attribute w.book row.id)

    clamped_tends : (o : ℕ) (clamp : Float → Float → Float) (a : ℤ) (q p : Read) → Each Agree (limit o a) → Got q p → Tends Wanted Got (clamped o read clamp a q) (clamped o read' clamp a p)
    unfolding clamped
    clamped_tends o clamp a q p = by (eq_z a (pos 0))
      where
        by : (t : Bool) → Each Agree (cond t [] (record { object = o; id = a } ∷ [])) → Got q p
            → Tends Wanted Got (elim t [ true ↦ ok q | false ↦ (read o a q.mem >>= λ x. ok (record { value = clamp q.value x.value; mem = x.mem })) ])
            (elim t [ true ↦ ok p | false ↦ (read' o a p.mem >>= λ x. ok (record { value = clamp p.value x.value; mem = x.mem })) ])
        by true n g = tends g
        by false n g = on _ _ (n.0 q.mem p.mem g.inv) (λ x y k. tends (record { value = ap₂ clamp g.value k.value; inv = k.inv }))

    -- the same value, and at the end the row's own is set
    pub record Ended (q p : Read) : Type 0 where
      pub value : q.value ≡ p.value
      pub before : List (Option Float)
      pub inv : Inv before
      pub values : p.mem.values ≡ set before i (some p.value)

    pub calculate_tends : (m m' : Mem) → Quiet row.entries → Each Agree (needs_of w.book row) → Inv (set m'.values i (some row.base)) → Tends Wanted Ended (calculate (unrecorded w) read i row m) (calculate w read' i row m')
    unfolding calculate needs_of
    calculate_tends m m' s n v =
        on _ _ (operate_tends operators _ _ s (each_left Agree own (low ++ high) n) (record { value = refl; inv = v }))
        (λ a b g. on _ _ (clamped_tends row.object at_least _ a b (each_left Agree low high (each_right Agree own (low ++ high) n)) g)
        (λ c d k. on _ _ (clamped_tends row.object at_most _ c d (each_right Agree low high (each_right Agree own (low ++ high) n)) k)
        (λ e f j. tends (record { value = j.value; before = f.mem.values; inv = j.inv; values = refl }))))
      where
        own : List Key
        own = entries_needs row.entries

        low : List Key
        low = limit row.object (get_dogma_attribute w.book row.id).min_attribute_id

        high : List Key
        high = limit row.object (get_dogma_attribute w.book row.id).max_attribute_id
