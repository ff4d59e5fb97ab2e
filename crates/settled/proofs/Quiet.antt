-- A calculation that records has read its idle entries: a reader that agrees on the row's needs finds a strength for each of them.
use Prim.Native.Nat.{ℕ}
use mathlib.Core.Path.{◌≡◌, refl, sym, ap, subst, ◌∙◌}
use mathlib.Core.Bool.{Bool, true, false, ◌||◌}
use mathlib.Core.List.{List, [], ◌∷◌, ◌++◌}
use mathlib.Core.Option.{Option, some}
use lib.Ieee.{Float}
use lib.ListN.{set}
use borrow.Author.Tests.{eq-eqb}
use Rattle.laws.specs.Lists.{flat}
use Rattle.laws.proofs.Bools.{both_ways}
use Rattle.rules.specs.Answer.{Res, ok, ◌>>=◌}
use Rattle.rules.specs.Codes.{operators, operator_code, same_operator}
use Rattle.rules.specs.Dispatch.{Row, Key}
use Rattle.rules.specs.Info.{get_dogma_attribute, high_is_good}
use Rattle.rules.specs.Item.{runs_at}
use Rattle.rules.specs.Number.{number_at}
use Rattle.rules.specs.Operate.{applied}
use Rattle.rules.specs.Value.{World, Mem, Read, Reader, Gathered, nothing, set_value, state_of, to_source, note, contribute, resisted, gather_from, gather, operate, calculate}
use Rattle.rules.specs.Fresh.{unrecorded, limit, entry_needs, needs_of}
use Rattle.rules.specs.declared.Effect.{Effect}
use Rattle.rules.specs.declared.EffectOperator.{EffectOperator}
use Rattle.rules.specs.declared.EffectOperator.TheVariants as operator
use Rattle.rules.specs.declared.Origin.{Origin}
use Rattle.rules.specs.declared.Origin.TheVariants as origin
use Rattle.rules.proofs.Results.{then}
use Rattle.promises.proofs.NoMemoryCopies.{same_nothing}
use Rattle.promises.proofs.NoMemoryGoes.{second}
use Rattle.promises.proofs.NoMemorySteps.{Each, each_left, each_right, Like, Agree, resisted_goes, from_goes, gather_goes}
use Rattle.settled.specs.Given.{idle, idles}

abbrev own : List Effect → List Key
own es = flat (λ e. entry_needs e.resistance e.origin) es

module _ (w : World) (records : w.recording ≡ true) (i : ℕ) (row : Row) (Inv : List (Option Float) → Type 0) (read read' : Reader) where
  abbrev Agreed : Key → Type 0
  Agreed = Agree w i row Inv read read'

  -- ---- one entry

  from_quiet : (e : Effect) (f : Origin) (g h k : Gathered) → Each Agreed (entry_needs e.resistance f) → Like w i row Inv g h → gather_from w i row read e f g ≡ ok k
      → (n : Mem) → idle (unrecorded w) read' i row e f n ≡ ok tt
  unfolding gather_from idle
  from_quiet e (origin.Buff b v) g h k a l p n = refl
  from_quiet e (origin.Effect f source c x) g h k a l p n = by (runs_at c (state_of w source)) w.recording records p
    where
      read_on : (t : Bool) (q : Read) → Res Gathered
      read_on t q = elim t [
        | true ↦ contribute w i row e q.value (record { mem = q.mem; values = g.values })
        | false ↦ (note w i row (to_source e q.value false e.quantity false) q.mem >>= λ m. ok (record { mem = m; values = g.values }))
      ]

      by : (t r : Bool) → r ≡ true
          → ◌≡◌ {A = Res Gathered} (elim (t || r) [ false ↦ ok g | true ↦ (read source x g.mem >>= λ q. resisted w i row read e.resistance q >>= λ s. read_on t s) ]) (ok k)
          → ◌≡◌ {A = Res (Unit {0})} (elim t [ true ↦ ok tt | false ↦ (read' source x n >>= λ q. resisted (unrecorded w) i row read' e.resistance q >>= λ s. ok tt) ]) (ok tt)
      by true r z y = refl
      by false false z y = both_ways z refl
      by false true z y =
          let one = then (read source x g.mem) _ k y in
          let two = then (resisted w i row read e.resistance one.given) _ k one.rest in
          let s = second (a.0 g.mem n l.inv) one.first in
          let u = second (resisted_goes w i row Inv read read' e.resistance one.given s.given a.1 s.related) two.first in
          rw s.is (rw u.is refl)

  -- ---- one operator's entries

  abbrev QuietOf : EffectOperator → List Effect → Type 0
  QuietOf o [] = Unit {0}
  QuietOf o (e ∷ es) = (same_operator e.operator o ≡ true → (n : Mem) → idle (unrecorded w) read' i row e e.origin n ≡ ok tt) × QuietOf o es

  gather_quiet : (o : EffectOperator) (es : List Effect) (g h k : Gathered) → Each Agreed (own es) → Like w i row Inv g h → gather w i row read o es g ≡ ok k → QuietOf o es
  unfolding gather
  gather_quiet o [] g h k a l p = tt
  gather_quiet o (e ∷ r) g h k a l p =
      by (λ x y b q. gather_quiet o r x y k (each_right Agreed (entry_needs e.resistance e.origin) (own r) a) b q) (same_operator e.operator o) refl p
    where
      first : Each Agreed (entry_needs e.resistance e.origin)
      first = each_left Agreed (entry_needs e.resistance e.origin) (own r) a

      by : ((x y : Gathered) → Like w i row Inv x y → gather w i row read o r x ≡ ok k → QuietOf o r) → (t : Bool) → same_operator e.operator o ≡ t
          → ◌≡◌ {A = Res Gathered} (elim t [ false ↦ gather w i row read o r g | true ↦ (gather_from w i row read e e.origin g >>= λ x. gather w i row read o r x) ]) (ok k)
          → QuietOf o (e ∷ r)
      by rest false q z = (λ s. both_ways s q, rest g h l z)
      by rest true q z =
          let one = then (gather_from w i row read e e.origin g) _ k z in
          let s = second (from_goes w i row Inv read read' e e.origin g h first l) one.first in
          (λ t. from_quiet e e.origin g h one.given first l one.first, rest one.given s.given s.related one.rest)

  -- ---- all operators

  abbrev QuietAll : List EffectOperator → Type 0
  QuietAll [] = Unit {0}
  QuietAll (o ∷ ops) = QuietOf o row.entries × QuietAll ops

  operate_quiet : (ops : List EffectOperator) (q p : Read) → Each Agreed (own row.entries) → Inv q.mem.values → operate w i row read ops q ≡ ok p → QuietAll ops
  unfolding operate
  operate_quiet [] q p a v z = tt
  operate_quiet (o ∷ ops) q p a v z =
      let start : Gathered = record { mem = q.mem; values = nothing } in
      let one = then (gather w i row read o row.entries start) _ p z in
      let two = then (number_at row.object (applied (high_is_good (get_dogma_attribute w.book row.id)) o q.value one.given.values)) _ p one.rest in
      let alike : Like w i row Inv start start = record { same = same_nothing; inv = v } in
      let s = second (gather_goes w i row Inv read read' o row.entries start start a alike) one.first in
      (gather_quiet o row.entries start start one.given a alike one.first, operate_quiet ops _ p a s.related.inv two.rest)

  each_operator : QuietAll operators → (o : EffectOperator) → QuietOf o row.entries
  each_operator h operator.PreAssign = h.0
  each_operator h operator.PreMul = h.1.0
  each_operator h operator.PreDiv = h.1.1.0
  each_operator h operator.ModAdd = h.1.1.1.0
  each_operator h operator.ModSub = h.1.1.1.1.0
  each_operator h operator.PostMul = h.1.1.1.1.1.0
  each_operator h operator.PostDiv = h.1.1.1.1.1.1.0
  each_operator h operator.PostPercent = h.1.1.1.1.1.1.1.0
  each_operator h operator.PostAssign = h.1.1.1.1.1.1.1.1.0

  all_quiet : (es : List Effect) → ((o : EffectOperator) → QuietOf o es) → (n : Mem) → idles (unrecorded w) read' i row es n ≡ ok tt
  unfolding idles
  all_quiet [] h n = refl
  all_quiet (e ∷ es) h n =
      rw ((h e.operator).0 (eq-eqb (operator_code e.operator) (operator_code e.operator) refl) n) (all_quiet es (λ o. (h o).1) n)

  pub calculate_quiet : (m : Mem) (q : Read) → Each Agreed (needs_of w.book row) → Inv (set m.values i (some row.base)) → calculate w read i row m ≡ ok q
      → (n : Mem) → idles (unrecorded w) read' i row row.entries n ≡ ok tt
  unfolding calculate needs_of
  calculate_quiet m q a v z =
      let one = then (operate w i row read operators (record { value = row.base; mem = set_value i row.base m })) _ q z in
      all_quiet row.entries (each_operator (operate_quiet operators _ one.given (each_left Agreed (own row.entries) limits a) v one.first))
    where
      limits : List Key
      limits =
          limit row.object (get_dogma_attribute w.book row.id).min_attribute_id ++ limit row.object (get_dogma_attribute w.book row.id).max_attribute_id
