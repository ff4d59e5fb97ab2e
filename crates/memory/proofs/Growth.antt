-- The memory grows: what is started keeps its value and its source rows through every calculation.
use Rattle.std.specs.Prelude.{None, Some}
use Prim.Native.Nat.{ℕ, zero, suc, ◌-◌, min}
use mathlib.Core.Path.{◌≡◌, refl, sym, ap, subst, ◌∙◌}
use mathlib.Core.Bool.{Bool, true, false, cond, ◌&&◌, ◌||◌}
use mathlib.Core.List.{List, [], ◌∷◌, ◌++◌}
use mathlib.Core.Option.{Option, none, some}
use mathlib.Core.Logic.{◌⊎◌, inl, inr}
use borrow.Author.Tests.{eqb-true, eqb-false}
use lib.Dec.{ltb, eqb}
use lib.Ieee.{Float}
use lib.IntN.{ℤ, pos}
use lib.ListN.{length, get_or, set, length-set}
use lib.Seq.{get_or-set_other, get_or-set_same}
use Rattle.laws.specs.Lists.{eq_z}
use Rattle.laws.proofs.Bools.{true_or_false}
use Rattle.rules.specs.Answer.{Res, ok, refused, ◌>>=◌}
use Rattle.rules.specs.Dispatch.{Row}
use Rattle.rules.specs.Codes.{operators, same_operator}
use Rattle.rules.specs.Info.{get_dogma_attribute, high_is_good}
use Rattle.rules.specs.Item.{runs_at}
use Rattle.rules.specs.Number.{times, number_at}
use Rattle.rules.specs.Operate.{simplified, has_penalty, applied}
use Rattle.rules.specs.Value.{World, Mem, Read, Reader, Gathered, Found, own_sources, state_of, to_source, nothing, note, copies, penalised, unpenalised, contribute, resisted, gather_from, gather, marked_by, operate, clamped, at_least, at_most, set_value, calculate, calculated_value, value_of, find_row}
use Rattle.rules.specs.declared.Effect.{Effect}
use Rattle.rules.specs.declared.Source.{Source}
use Rattle.rules.specs.declared.EffectOperator.{EffectOperator}
use Rattle.rules.specs.Ids.{OptionalId}
use Rattle.rules.specs.declared.Origin.{Origin}
use Rattle.rules.specs.declared.Origin.TheVariants as origin
use Rattle.rules.specs.declared.Refusal.{Refusal}
use Rattle.rules.specs.declared.Refusal.TheVariants.{Room, Depth}
use Rattle.rules.proofs.Results.{apart, got, then}
use Rattle.memory.specs.Memory.{value_at, Grows, GrowsBut, GrowingReader}

-- growing is kept by going on
pub grows_same : (m : Mem) → Grows m m
grows_same m = record { values = refl; sources = refl; value = λ j v e. e; own = λ j v e. refl }

pub grows_on : {l m n : Mem} → Grows l m → Grows m n → Grows l n
grows_on g h =
    record {
      values = h.values ∙ g.values;
      sources = h.sources ∙ g.sources;
      value = λ j v e. h.value j v (g.value j v e);
      own = λ j v e. h.own j v (g.value j v e) ∙ g.own j v e;
    }

module _ (i : ℕ) where
  pub but_same : (m : Mem) → GrowsBut i m m
  but_same m = record { values = refl; sources = refl; value = λ j v e. e; own = λ j v n e. refl }

  pub but_on : {l m n : Mem} → GrowsBut i l m → GrowsBut i m n → GrowsBut i l n
  but_on g h =
      record {
        values = h.values ∙ g.values;
        sources = h.sources ∙ g.sources;
        value = λ j v e. h.value j v (g.value j v e);
        own = λ j v n e. h.own j v n (g.value j v e) ∙ g.own j v n e;
      }

  pub but_of : {m n : Mem} → Grows m n → GrowsBut i m n
  but_of g = record { values = g.values; sources = g.sources; value = g.value; own = λ j v n e. g.own j v e }

  -- other source rows of row i
  own_but : (m : Mem) (own : List Source) (used : ℕ) → GrowsBut i m (record { values = m.values; sources = set m.sources i own; used = used })
  own_but m own used =
      record {
        values = refl;
        sources = length-set m.sources i own;
        value = λ j v e. e;
        own = λ j v n e. get_or-set_other m.sources i j own [] n;
      }

  module _ (w : World) (row : Row) where
    pub note_grows : (r : Source) (m m' : Mem) → note w i row r m ≡ ok m' → GrowsBut i m m'
    unfolding note
    note_grows r m m' = by w.recording (ltb m.used w.room)
      where
        after : Mem
        after = record { values = m.values; sources = set m.sources i (own_sources i m ++ (r ∷ [])); used = suc m.used }

        by : (t u : Bool) → (elim t [ false ↦ ok m | true ↦ elim u [ false ↦ refused (Room 5) | true ↦ ok after ] ]) ≡ ok m' → GrowsBut i m m'
        by false u e = subst (GrowsBut i m) (got e) (but_same m)
        by true true e = subst (GrowsBut i m) (got e) (own_but m (own_sources i m ++ (r ∷ [])) (suc m.used))
        by true false e = absurd (apart e)

    pub copies_grows : (n : ℕ) (r : Source) (x : Float) (g h : Gathered) → copies w i row n r x g ≡ ok h → GrowsBut i g.mem h.mem
    unfolding copies
    copies_grows zero r x g h e = subst (λ (y : Gathered). GrowsBut i g.mem y.mem) (got e) (but_same g.mem)
    copies_grows (suc n) r x g h e =
        let t = then (note w i row r g.mem) _ h e in
        but_on (note_grows r g.mem t.given t.first) (copies_grows n r x _ h t.rest)

    pub penalised_grows : (e : Effect) (v x : Float) (g h : Gathered) → penalised w i row e v x g ≡ ok h → GrowsBut i g.mem h.mem
    unfolding penalised
    penalised_grows e v x g h p =
        let t = then (copies w i row (min e.quantity 8) (to_source e v true 1 true) x g) _ h p in
        but_on (copies_grows (min e.quantity 8) (to_source e v true 1 true) x g t.given t.first) (by (e.quantity - 8) t.given t.rest)
      where
        by : (n : ℕ) (f : Gathered)
            → (elim n [ zero ↦ ok f | suc k ↦ (note w i row (to_source e v true (suc k) true) f.mem >>= λ m. ok (record { mem = m; values = f.values })) ]) ≡ ok h → GrowsBut i f.mem h.mem
        by zero f q = subst (λ (y : Gathered). GrowsBut i f.mem y.mem) (got q) (but_same f.mem)
        by (suc k) f q =
            let t = then (note w i row (to_source e v true (suc k) true) f.mem) _ h q in
            subst (λ (y : Gathered). GrowsBut i f.mem y.mem) (got t.rest) (note_grows (to_source e v true (suc k) true) f.mem t.given t.first)

    pub unpenalised_grows : (e : Effect) (v x : Float) (g h : Gathered) → unpenalised w i row e v x g ≡ ok h → GrowsBut i g.mem h.mem
    unfolding unpenalised
    unpenalised_grows e v x g h p =
        let t = then (note w i row (to_source e v true e.quantity false) g.mem) _ h p in
        subst (λ (y : Gathered). GrowsBut i g.mem y.mem) (got t.rest) (note_grows (to_source e v true e.quantity false) g.mem t.given t.first)

    pub contribute_grows : (e : Effect) (v : Float) (g h : Gathered) → contribute w i row e v g ≡ ok h → GrowsBut i g.mem h.mem
    unfolding contribute
    contribute_grows e v g h p = let t = then (number_at row.object (simplified e.operator v)) _ h p in by (e.penalty && has_penalty e.operator) t.given t.rest
      where
        by : (b : Bool) (x : Float) → (elim b [ true ↦ penalised w i row e v x g | false ↦ unpenalised w i row e v x g ]) ≡ ok h → GrowsBut i g.mem h.mem
        by true x q = penalised_grows e v x g h q
        by false x q = unpenalised_grows e v x g h q

    module _ (read : Reader) (growing : GrowingReader read) where
      pub resisted_grows : (o : OptionalId) (r q : Read) → resisted w i row read o r ≡ ok q → Grows r.mem q.mem
      unfolding resisted
      resisted_grows None r q e = subst (λ (y : Read). Grows r.mem y.mem) (got e) (grows_same r.mem)
      resisted_grows (Some a) r q e =
          let t = then (read 0 a r.mem) _ q e in
          let u = then (number_at row.object (times r.value t.given.value)) _ q t.rest in
          subst (λ (y : Read). Grows r.mem y.mem) (got u.rest) (growing 0 a r.mem t.given t.first)

      pub from_grows : (e : Effect) (o : Origin) (g h : Gathered) → gather_from w i row read e o g ≡ ok h → GrowsBut i g.mem h.mem
      unfolding gather_from
      from_grows e (origin.Buff b v) g h p = contribute_grows e v g h p
      from_grows e (origin.Effect f source c a) g h p = by (runs_at c (state_of w source) || w.recording) p
        where
          last : (t : Bool) (s : Read)
              → (elim t [
                | true ↦ contribute w i row e s.value (record { mem = s.mem; values = g.values })
                | false ↦ (note w i row (to_source e s.value false e.quantity false) s.mem >>= λ m. ok (record { mem = m; values = g.values }))
              ]) ≡ ok h → GrowsBut i s.mem h.mem
          last true s q = contribute_grows e s.value (record { mem = s.mem; values = g.values }) h q
          last false s q =
              let t = then (note w i row (to_source e s.value false e.quantity false) s.mem) _ h q in
              subst (λ (y : Gathered). GrowsBut i s.mem y.mem) (got t.rest) (note_grows (to_source e s.value false e.quantity false) s.mem t.given t.first)

          by : (t : Bool)
              → (elim t [
                | false ↦ ok g
                | true ↦ (do
                  r ← read source a g.mem
                  s ← resisted w i row read e.resistance r
                  elim (runs_at c (state_of w source)) [
                    | true ↦ contribute w i row e s.value (record { mem = s.mem; values = g.values })
                    | false ↦ (note w i row (to_source e s.value false e.quantity false) s.mem >>= λ m. ok (record { mem = m; values = g.values }))
                  ])
              ]) ≡ ok h → GrowsBut i g.mem h.mem
          by false q = subst (λ (y : Gathered). GrowsBut i g.mem y.mem) (got q) (but_same g.mem)
          by true q =
              let t = then (read source a g.mem) _ h q in
              let u = then (resisted w i row read e.resistance t.given) _ h t.rest in
              but_on (but_of (grows_on (growing source a g.mem t.given t.first) (resisted_grows e.resistance t.given u.given u.first)))
              (last (runs_at c (state_of w source)) u.given u.rest)

      pub gather_grows : (op : EffectOperator) (es : List Effect) (g h : Gathered) → gather w i row read op es g ≡ ok h → GrowsBut i g.mem h.mem
      unfolding gather
      gather_grows op [] g h p = subst (λ (y : Gathered). GrowsBut i g.mem y.mem) (got p) (but_same g.mem)
      gather_grows op (e ∷ r) g h p = by (λ f q. gather_grows op r f h q) (same_operator e.operator op) p
        where
          by : ((f : Gathered) → gather w i row read op r f ≡ ok h → GrowsBut i f.mem h.mem) → (t : Bool) → (elim t [ false ↦ gather w i row read op r g | true ↦ (gather_from w i row read e e.origin g >>= λ f. gather w i row read op r f) ]) ≡ ok h → GrowsBut i g.mem h.mem
          by rest false q = rest g q
          by rest true q =
              let t = then (gather_from w i row read e e.origin g) _ h q in
              but_on (from_grows e e.origin g t.given t.first) (rest t.given t.rest)

      pub operate_grows : (ops : List EffectOperator) (a q : Read) → operate w i row read ops a ≡ ok q → GrowsBut i a.mem q.mem
      unfolding operate
      operate_grows [] a q p = subst (λ (y : Read). GrowsBut i a.mem y.mem) (got p) (but_same a.mem)
      operate_grows (op ∷ ops) a q p =
          let t = then (gather w i row read op row.entries (record { mem = a.mem; values = nothing })) _ q p in
          let u = then (number_at row.object (applied (high_is_good (get_dogma_attribute w.book row.id)) op a.value t.given.values)) _ q t.rest in
          but_on (gather_grows op row.entries (record { mem = a.mem; values = nothing }) t.given t.first)
          (but_on (own_but t.given.mem _ t.given.mem.used) (operate_grows ops (record { value = u.given; mem = marked_by i t.given }) q u.rest))

      pub clamped_grows : (o : ℕ) (clamp : Float → Float → Float) (a : ℤ) (r q : Read) → clamped o read clamp a r ≡ ok q → Grows r.mem q.mem
      unfolding clamped
      clamped_grows o clamp a r q = by (eq_z a (pos 0))
        where
          by : (t : Bool) → (elim t [ true ↦ ok r | false ↦ (read o a r.mem >>= λ x. ok (record { value = clamp r.value x.value; mem = x.mem })) ]) ≡ ok q → Grows r.mem q.mem
          by true e = subst (λ (y : Read). Grows r.mem y.mem) (got e) (grows_same r.mem)
          by false e =
              let t = then (read o a r.mem) _ q e in
              subst (λ (y : Read). Grows r.mem y.mem) (got t.rest) (growing o a r.mem t.given t.first)

-- a row that was not started: what was started before stays
module _ (i : ℕ) (w : World) (row : Row) (read : Reader) (growing : GrowingReader read) where
  not_it : (m : Mem) (j : ℕ) (v : Float) → value_at m i ≡ none → value_at m j ≡ some v → j ≡ i → ⊥
  not_it m j v n e p = subst Missing (sym (ap (value_at m) p ∙ n) ∙ e) tt
    where
      Missing : Option Float → Type 0
      Missing none = Unit {0}
      Missing (some x) = ⊥

  -- row i gets a value
  set_grows : (m : Mem) (v : Float) → value_at m i ≡ none → Grows m (set_value i v m)
  set_grows m v n =
      record {
        values = length-set m.values i (some v);
        sources = refl;
        value = λ j x e. get_or-set_other m.values i j (some v) none (not_it m j x n e) ∙ e;
        own = λ j x e. refl;
      }

  pub calculate_grows : (m : Mem) (q : Read) → value_at m i ≡ none → calculate w read i row m ≡ ok q → Grows m q.mem
  unfolding calculate
  calculate_grows m q n e =
      let b = row.base in
      let t = then (operate w i row read operators (record { value = b; mem = set_value i b m })) _ q e in
      let u = then (clamped row.object read at_least (get_dogma_attribute w.book row.id).min_attribute_id t.given) _ q t.rest in
      let x = then (clamped row.object read at_most (get_dogma_attribute w.book row.id).max_attribute_id u.given) _ q u.rest in
      let g = operate_grows i w row read growing operators (record { value = b; mem = set_value i b m }) t.given t.first in
      let h = grows_on (clamped_grows i w row read growing row.object at_least (get_dogma_attribute w.book row.id).min_attribute_id t.given u.given u.first)
      (clamped_grows i w row read growing row.object at_most (get_dogma_attribute w.book row.id).max_attribute_id u.given x.given x.first) in
      subst (λ (y : Read). Grows m y.mem) (got x.rest) (whole b x.given.value (but_on i g (but_of i h)))
    where
      whole : (b v : Float) {m' : Mem} → GrowsBut i (set_value i b m) m' → Grows m (set_value i v m')
      whole b v {m'} g =
          let s = set_grows m b n in
          record {
            values = length-set m'.values i (some v) ∙ g.values ∙ s.values;
            sources = g.sources;
            value = λ j y e. get_or-set_other m'.values i j (some v) none (not_it m j y n e) ∙ g.value j y (s.value j y e);
            own = λ j y e. g.own j y (not_it m j y n e) (s.value j y e);
          }

-- what reads an attribute lets the memory grow
pub read_grows : (w : World) (start : ℕ → Row → Mem → Res Read) → ((i : ℕ) (row : Row) (m : Mem) (q : Read) → value_at m i ≡ none → start i row m ≡ ok q → Grows m q.mem) → GrowingReader (calculated_value w start)
unfolding calculated_value
read_grows w start h o a m q = by (find_row o a 0 w.rows)
  where
    known : (f : Found) (v : Option Float) → value_at m f.index ≡ v → (elim v [ some x ↦ ok (record { value = x; mem = m }) | none ↦ start f.index f.row m ]) ≡ ok q → Grows m q.mem
    known f (some x) p e = subst (λ (y : Read). Grows m y.mem) (got e) (grows_same m)
    known f none p e = h f.index f.row m q p e

    by : (f : Option Found)
        → (elim f [
          | none ↦ ok (record { value = (get_dogma_attribute w.book a).default_value; mem = m })
          | some x ↦ elim (get_or m.values x.index none) [ some v ↦ ok (record { value = v; mem = m }) | none ↦ start x.index x.row m ]
        ]) ≡ ok q → Grows m q.mem
    by none e = subst (λ (y : Read). Grows m y.mem) (got e) (grows_same m)
    by (some f) e = known f (value_at m f.index) refl e

pub value_grows : (w : World) (d : ℕ) → GrowingReader (value_of w d)
unfolding value_of
value_grows w zero o a m q = read_grows w (λ i row m'. refused (Depth o)) (λ i row m' q' n e. absurd (apart e)) o a m q
value_grows w (suc d) o a m q = read_grows w (λ i row m'. calculate w (value_of w d) i row m') (λ i row m' q' n e. calculate_grows i w row (value_of w d) (value_grows w d) m' q' n e) o a m q
