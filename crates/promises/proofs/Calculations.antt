-- Calculations in a world and in one that differs in room alone, where all that is noted and all that is read is the same unless
-- refused: each gives the same unless refused.
use Rattle.std.specs.Prelude.{None, Some}
use Prim.Native.Nat.{ℕ, zero, suc, ◌-◌, min}
use mathlib.Core.Path.{refl}
use mathlib.Core.Bool.{true, false, ◌&&◌, ◌||◌}
use mathlib.Core.List.{List, [], ◌∷◌}
use mathlib.Core.Option.{Option, none, some}
use lib.Ieee.{Float}
use lib.IntN.{ℤ, pos}
use lib.ListN.{get_or}
use Rattle.laws.specs.Lists.{eq_z}
use Rattle.rules.specs.Answer.{Res, ok, refused, ◌>>=◌}
use Rattle.rules.specs.Codes.{operators, same_operator}
use Rattle.rules.specs.Dispatch.{Row}
use Rattle.rules.specs.Info.{get_dogma_attribute, high_is_good}
use Rattle.rules.specs.Item.{runs_at}
use Rattle.rules.specs.Number.{number_at}
use Rattle.rules.specs.Operate.{simplified, has_penalty, applied}
use Rattle.rules.specs.Value.{World, Mem, Read, Reader, Gathered, Found, state_of, to_source, nothing, note, copies, penalised, unpenalised, contribute, resisted, gather_from, gather, marked_by, operate, clamped, at_least, at_most, set_value, calculate, calculated_value, value_of, find_row}
use Rattle.rules.specs.Outcome.{valued}
use Rattle.rules.specs.declared.Ask.{Ask}
use Rattle.rules.specs.declared.Effect.{Effect}
use Rattle.rules.specs.declared.EffectOperator.{EffectOperator}
use Rattle.rules.specs.Ids.{OptionalId}
use Rattle.rules.specs.declared.Origin.{Origin}
use Rattle.rules.specs.declared.Origin.TheVariants as origin
use Rattle.rules.specs.declared.Refusal.{Refusal}
use Rattle.rules.specs.declared.Source.{Source}
use Rattle.promises.specs.Unless.{Unless, the_same, with_room}
use Rattle.promises.proofs.Unless.{either, on, after, before}

-- all that is noted
abbrev pub Noting : (ℕ → Refusal) → World → World → Type 0
Noting short w v = (i : ℕ) (row : Row) (r : Source) (m : Mem) → Unless short (note w i row r m) (note v i row r m)

-- all that is read
abbrev pub Reading : (ℕ → Refusal) → Reader → Reader → Type 0
Reading short read seen = (o : ℕ) (a : ℤ) (m : Mem) → Unless short (read o a m) (seen o a m)

module _ (short : ℕ → Refusal) (w : World) (n : ℕ) (noting : Noting short w (with_room n w)) where
  abbrev w' : World
  w' = with_room n w

  module _ (i : ℕ) (row : Row) where
    noted_so : {A : Type 0} (r : Source) (m : Mem) (f : Mem → Res A) → Unless short (note w i row r m >>= f) (note w' i row r m >>= f)
    noted_so r m f = before short (note w i row r m) (note w' i row r m) f (noting i row r m)

    copies_so : (c : ℕ) (r : Source) (x : Float) (g : Gathered) → Unless short (copies w i row c r x g) (copies w' i row c r x g)
    unfolding copies
    copies_so zero r x g = the_same refl
    copies_so (suc c) r x g = on short (note w i row r g.mem) (note w' i row r g.mem) _ _ (noting i row r g.mem) (λ m. copies_so c r x _)

    penalised_so : (e : Effect) (v x : Float) (g : Gathered) → Unless short (penalised w i row e v x g) (penalised w' i row e v x g)
    unfolding penalised
    penalised_so e v x g = on short (first w) (first w') _ _ (copies_so (min e.quantity 8) (to_source e v true 1 true) x g) (λ h. by (e.quantity - 8) h)
      where
        first : World → Res Gathered
        first u = copies u i row (min e.quantity 8) (to_source e v true 1 true) x g

        rest : World → ℕ → Gathered → Res Gathered
        rest u c h = elim c [
          | zero ↦ ok h
          | suc q ↦ (note u i row (to_source e v true (suc q) true) h.mem >>= λ m. ok (record { mem = m; values = h.values }))
        ]

        by : (c : ℕ) (h : Gathered) → Unless short (rest w c h) (rest w' c h)
        by zero h = the_same refl
        by (suc q) h = noted_so (to_source e v true (suc q) true) h.mem (λ m. ok (record { mem = m; values = h.values }))

    unpenalised_so : (e : Effect) (v x : Float) (g : Gathered) → Unless short (unpenalised w i row e v x g) (unpenalised w' i row e v x g)
    unfolding unpenalised
    unpenalised_so e v x g = noted_so (to_source e v true e.quantity false) g.mem _

    contribute_so : (e : Effect) (v : Float) (g : Gathered) → Unless short (contribute w i row e v g) (contribute w' i row e v g)
    unfolding contribute
    contribute_so e v g =
        after short (number_at row.object (simplified e.operator v)) _ _ (λ x. either short (e.penalty && has_penalty e.operator) (penalised_so e v x g) (unpenalised_so e v x g))

  module _ (read seen : Reader) (reading : Reading short read seen) where
    read_so : {A : Type 0} (o : ℕ) (a : ℤ) (m : Mem) (f : Read → Res A) → Unless short (read o a m >>= f) (seen o a m >>= f)
    read_so o a m f = before short (read o a m) (seen o a m) f (reading o a m)

    clamped_so : (o : ℕ) (clamp : Float → Float → Float) (a : ℤ) (r : Read) → Unless short (clamped o read clamp a r) (clamped o seen clamp a r)
    unfolding clamped
    clamped_so o clamp a r = either short (eq_z a (pos 0)) (the_same refl) (read_so o a r.mem _)

    module _ (i : ℕ) (row : Row) where
      resisted_so : (a : OptionalId) (r : Read) → Unless short (resisted w i row read a r) (resisted w' i row seen a r)
      unfolding resisted
      resisted_so None r = the_same refl
      resisted_so (Some a) r = read_so 0 a r.mem _

      gather_from_so : (e : Effect) (s : Origin) (g : Gathered) → Unless short (gather_from w i row read e s g) (gather_from w' i row seen e s g)
      unfolding gather_from
      gather_from_so e (origin.Buff b v) g = contribute_so i row e v g
      gather_from_so e (origin.Effect f source c a) g =
          either short (runs_at c (state_of w source) || w.recording)
          (on short (read source a g.mem) (seen source a g.mem) _ _ (reading source a g.mem) λ r.
          on short (resisted w i row read e.resistance r) (resisted w' i row seen e.resistance r) _ _ (resisted_so e.resistance r) λ s.
          either short (runs_at c (state_of w source))
          (contribute_so i row e s.value (record { mem = s.mem; values = g.values }))
          (noted_so i row (to_source e s.value false e.quantity false) s.mem _))
          (the_same refl)

      gather_so : (op : EffectOperator) (es : List Effect) (g : Gathered) → Unless short (gather w i row read op es g) (gather w' i row seen op es g)
      unfolding gather
      gather_so op [] g = the_same refl
      gather_so op (e ∷ es) g =
          either short (same_operator e.operator op)
          (on short (gather_from w i row read e e.origin g) (gather_from w' i row seen e e.origin g) _ _ (gather_from_so e e.origin g) (λ h. gather_so op es h))
          (gather_so op es g)

      operate_so : (ops : List EffectOperator) (a : Read) → Unless short (operate w i row read ops a) (operate w' i row seen ops a)
      unfolding operate
      operate_so [] a = the_same refl
      operate_so (op ∷ ops) a =
          let g₀ : Gathered = record { mem = a.mem; values = nothing } in
          on short (gather w i row read op row.entries g₀) (gather w' i row seen op row.entries g₀) _ _ (gather_so op row.entries g₀) λ g.
          after short (number_at row.object (applied (high_is_good (get_dogma_attribute w.book row.id)) op a.value g.values)) _ _ λ v.
          operate_so ops (record { value = v; mem = marked_by i g })

      calculate_so : (m : Mem) → Unless short (calculate w read i row m) (calculate w' seen i row m)
      unfolding calculate
      calculate_so m =
          let attribute = get_dogma_attribute w.book row.id in
          let a₀ : Read = record { value = row.base; mem = set_value i row.base m } in
          on short (operate w i row read operators a₀) (operate w' i row seen operators a₀) _ _ (operate_so operators a₀) λ a.
          on short (clamped row.object read at_least attribute.min_attribute_id a) (clamped row.object seen at_least attribute.min_attribute_id a) _ _
          (clamped_so row.object at_least attribute.min_attribute_id a) λ b.
          before short (clamped row.object read at_most attribute.max_attribute_id b) (clamped row.object seen at_most attribute.max_attribute_id b) _
          (clamped_so row.object at_most attribute.max_attribute_id b)

  -- what is started, unless the attribute is absent or valued
  pub started_so : (start begin : ℕ → Row → Mem → Res Read) → ((i : ℕ) (row : Row) (m : Mem) → Unless short (start i row m) (begin i row m))
      → (o : ℕ) (a : ℤ) (m : Mem) → Unless short (calculated_value w start o a m) (calculated_value w' begin o a m)
  unfolding calculated_value
  started_so start begin h o a m = by (find_row o a 0 w.rows)
    where
      known : (ℕ → Row → Mem → Res Read) → Found → Option Float → Res Read
      known s f v = elim v [ some x ↦ ok (record { value = x; mem = m }) | none ↦ s f.index f.row m ]

      found : (ℕ → Row → Mem → Res Read) → Option Found → Res Read
      found s f = elim f [ none ↦ ok (record { value = (get_dogma_attribute w.book a).default_value; mem = m }) | some x ↦ known s x (get_or m.values x.index none) ]

      as_known : (f : Found) (v : Option Float) → Unless short (known start f v) (known begin f v)
      as_known f (some x) = the_same refl
      as_known f none = h f.index f.row m

      by : (f : Option Found) → Unless short (found start f) (found begin f)
      by none = the_same refl
      by (some f) = as_known f (get_or m.values f.index none)

  -- one calculation inside another
  pub deeper_so : (d e : ℕ) → Reading short (value_of w d) (value_of w' e) → Reading short (value_of w (suc d)) (value_of w' (suc e))
  unfolding value_of
  deeper_so d e h = started_so (calculate w (value_of w d)) (calculate w' (value_of w' e)) (calculate_so (value_of w d) (value_of w' e) h)

  -- the walk
  pub valued_so : (d e : ℕ) → Reading short (value_of w d) (value_of w' e) → (starts : List Ask) (m : Mem) → Unless short (valued w d starts m) (valued w' e starts m)
  unfolding valued
  valued_so d e h [] m = the_same refl
  valued_so d e h (a ∷ starts) m =
      on short (value_of w d a.object a.attribute_id m) (value_of w' e a.object a.attribute_id m) _ _ (h a.object a.attribute_id m) (λ q. valued_so d e h starts q.mem)
