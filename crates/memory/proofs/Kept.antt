-- What each step of gathering keeps, gathering keeps.
use Rattle.std.specs.Prelude.{None, Some}
use Prim.Native.Nat.{ℕ, zero, suc, ◌-◌, min}
use mathlib.Core.Path.{◌≡◌, refl, sym, subst, ◌∙◌}
use mathlib.Core.Bool.{Bool, true, false, ◌&&◌, ◌||◌}
use mathlib.Core.List.{List, [], ◌∷◌}
use mathlib.Core.Logic.{inl, inr}
use lib.Ieee.{Float, lt}
use lib.IntN.{ℤ}
use lib.ListN.{length}
use Rattle.laws.specs.Floats.{zero_f}
use Rattle.laws.proofs.Bools.{true_or_false, and_right, or_false_left, or_false_right}
use Rattle.rules.specs.Answer.{ok, ◌>>=◌}
use Rattle.rules.specs.Codes.{same_operator}
use Rattle.rules.specs.Dispatch.{Row}
use Rattle.rules.specs.Number.{times, number_at}
use Rattle.rules.specs.Operate.{simplified, has_penalty}
use Rattle.rules.specs.Value.{World, Mem, Read, Reader, Gathered, own_sources, to_source, with_copy, with_stack, note, copies, penalised, unpenalised, contribute, resisted, gather_from, gather}
use Rattle.rules.specs.declared.Effect.{Effect}
use Rattle.rules.specs.declared.EffectOperator.{EffectOperator}
use Rattle.rules.specs.Ids.{OptionalId}
use Rattle.rules.specs.declared.Origin.{Origin}
use Rattle.rules.specs.declared.Origin.TheVariants as origin
use Rattle.rules.specs.declared.Source.{Source}
use Rattle.operate.specs.Held.{copy}
use Rattle.sources.specs.Marks.{Waits}
use Rattle.sources.specs.Planned.{runs_in}
use Rattle.rules.proofs.Results.{got, then}
use Rattle.gather.specs.Piles.{entered}
use Rattle.memory.specs.Steps.{strength_of}
use Rattle.memory.proofs.Gathers.{from_idle, from-read}

-- what is kept: of one source row more, of a value more, and of a copy more with its source row
module _ (w : World) (i : ℕ) (row : Row) (Keeps : Gathered → Type 0)
    (noting : (r : Source) (g : Gathered) (m : Mem) → note w i row r g.mem ≡ ok m → Keeps g → Keeps (record { mem = m; values = g.values }))
    (stacking : (x : Float) (n : ℕ) (g : Gathered) → Keeps g → Keeps (record { mem = g.mem; values = with_stack x n g.values })) where
  abbrev Copying : Type 0
  Copying = (r : Source) (x : Float) (g : Gathered) (m : Mem) → Waits r → note w i row r g.mem ≡ ok m → Keeps g → Keeps (record { mem = m; values = with_copy (lt x zero_f) (copy x (length (own_sources i g.mem))) g.values })

  module _ (copying : Copying) where
    copies_kept : (n : ℕ) (r : Source) (x : Float) (g h : Gathered) → Waits r → copies w i row n r x g ≡ ok h → Keeps g → Keeps h
    unfolding copies
    copies_kept zero r x g h u p k = subst Keeps (got p) k
    copies_kept (suc n) r x g h u p k =
        let t = then (note w i row r g.mem) _ h p in
        copies_kept n r x _ h u t.rest (copying r x g t.given u t.first k)

    penalised_kept : (e : Effect) (v x : Float) (g h : Gathered) → penalised w i row e v x g ≡ ok h → Keeps g → Keeps h
    unfolding penalised
    penalised_kept e v x g h p k =
        let t = then (copies w i row (min e.quantity 8) (to_source e v true 1 true) x g) _ h p in
        by (e.quantity - 8) t.given t.rest (copies_kept (min e.quantity 8) (to_source e v true 1 true) x g t.given (record { penalised = refl; penalty = refl }) t.first k)
      where
        by : (n : ℕ) (f : Gathered) → (elim n [ zero ↦ ok f | suc j ↦ (note w i row (to_source e v true (suc j) true) f.mem >>= λ m. ok (record { mem = m; values = f.values })) ]) ≡ ok h → Keeps f → Keeps h
        by zero f q l = subst Keeps (got q) l
        by (suc j) f q l =
            let t = then (note w i row (to_source e v true (suc j) true) f.mem) _ h q in
            subst Keeps (got t.rest) (noting (to_source e v true (suc j) true) f t.given t.first l)

  unpenalised_kept : (e : Effect) (v x : Float) (g h : Gathered) → unpenalised w i row e v x g ≡ ok h → Keeps g → Keeps h
  unfolding unpenalised
  unpenalised_kept e v x g h p k =
      let t = then (note w i row (to_source e v true e.quantity false) g.mem) _ h p in
      subst Keeps (got t.rest) (stacking x e.quantity (record { mem = t.given; values = g.values }) (noting (to_source e v true e.quantity false) g t.given t.first k))

  module _ (e : Effect) (copying : has_penalty e.operator ≡ true → Copying) where
    contribute_kept : (v : Float) (g h : Gathered) → contribute w i row e v g ≡ ok h → Keeps g → Keeps h
    unfolding contribute
    contribute_kept v g h p k = let t = then (number_at row.object (simplified e.operator v)) _ h p in by (e.penalty && has_penalty e.operator) refl t.given t.rest
      where
        by : (b : Bool) → e.penalty && has_penalty e.operator ≡ b → (x : Float) → (elim b [ true ↦ penalised w i row e v x g | false ↦ unpenalised w i row e v x g ]) ≡ ok h → Keeps h
        by true t x q = penalised_kept (copying (and_right e.penalty (has_penalty e.operator) t)) e v x g h q k
        by false t x q = unpenalised_kept e v x g h q k

    pub entered_kept : (runs : Bool) (v : Float) (g h : Gathered) → entered w i row runs e v g ≡ ok h → Keeps g → Keeps h
    unfolding entered
    entered_kept true v g h p k = contribute_kept v g h p k
    entered_kept false v g h p k =
        let t = then (note w i row (to_source e v false e.quantity false) g.mem) _ h p in
        subst Keeps (got t.rest) (noting (to_source e v false e.quantity false) g t.given t.first k)

  -- and of what is read
  module _ (read : Reader) (reading : (o : ℕ) (a : ℤ) (g : Gathered) (q : Read) → read o a g.mem ≡ ok q → Keeps g → Keeps (record { mem = q.mem; values = g.values })) where
    resisted_kept : (o : OptionalId) (r q : Read) (g : Gathered) → resisted w i row read o r ≡ ok q → Keeps (record { mem = r.mem; values = g.values }) → Keeps (record { mem = q.mem; values = g.values })
    unfolding resisted
    resisted_kept None r q g p k = subst (λ (y : Read). Keeps (record { mem = y.mem; values = g.values })) (got p) k
    resisted_kept (Some a) r q g p k =
        let t = then (read 0 a r.mem) _ q p in
        let u = then (number_at row.object (times r.value t.given.value)) _ q t.rest in
        subst (λ (y : Read). Keeps (record { mem = y.mem; values = g.values })) (got u.rest) (reading 0 a (record { mem = r.mem; values = g.values }) t.given t.first k)

    strength_kept : (e : Effect) (o : Origin) (g : Gathered) (s : Read) → strength_of w read i row e o g.mem ≡ ok s → Keeps g → Keeps (record { mem = s.mem; values = g.values })
    unfolding strength_of
    strength_kept e (origin.Buff b v) g s p k = subst (λ (y : Read). Keeps (record { mem = y.mem; values = g.values })) (got p) k
    strength_kept e (origin.Effect f source c a) g s p k =
        let t = then (read source a g.mem) _ s p in
        resisted_kept e.resistance t.given s g t.rest (reading source a g t.given t.first k)

    from_kept : (e : Effect) → (has_penalty e.operator ≡ true → Copying) → (o : Origin) (g h : Gathered) → gather_from w i row read e o g ≡ ok h → Keeps g → Keeps h
    from_kept e copying o g h p k = elim (true_or_false (runs_in w o || w.recording)) [
      | inl t ↦ opened t
      | inr t ↦ subst Keeps (got (sym (from_idle w i row read e o g (or_false_left (runs_in w o) w.recording t) (or_false_right (runs_in w o) w.recording t)) ∙ p)) k
    ]
      where
        opened : runs_in w o || w.recording ≡ true → Keeps h
        opened t =
            let u = then (strength_of w read i row e o g.mem) _ h (sym (from-read w i row read e o g t) ∙ p) in
            entered_kept e copying (runs_in w o) u.given.value (record { mem = u.given.mem; values = g.values }) h u.rest (strength_kept e o g u.given u.first k)

    pub gather_kept : (op : EffectOperator) → ((e : Effect) → same_operator e.operator op ≡ true → has_penalty e.operator ≡ true → Copying) → (es : List Effect) (g h : Gathered) → gather w i row read op es g ≡ ok h → Keeps g → Keeps h
    unfolding gather
    gather_kept op copying [] g h p k = subst Keeps (got p) k
    gather_kept op copying (e ∷ es) g h p k = by (λ f. gather_kept op copying es f h) (same_operator e.operator op) refl p
      where
        by : ((f : Gathered) → gather w i row read op es f ≡ ok h → Keeps f → Keeps h) → (t : Bool) → same_operator e.operator op ≡ t
            → (elim t [ false ↦ gather w i row read op es g | true ↦ (gather_from w i row read e e.origin g >>= λ f. gather w i row read op es f) ]) ≡ ok h → Keeps h
        by rest false s q = rest g q k
        by rest true s q =
            let t = then (gather_from w i row read e e.origin g) _ h q in
            rest t.given t.rest (from_kept e (copying e s) e.origin g t.given t.first k)
