-- A row that is calculated and not refused gets the source rows that are planned for it.
use Rattle.std.specs.Prelude.{None, Some}
use Prim.Native.Nat.{ℕ, zero, suc, ◌+◌, ◌-◌, ◌<◌, min}
use native.Mathlib.Omega.{arith}
use mathlib.Core.Path.{◌≡◌, refl, sym, ap, subst, ◌∙◌}
use mathlib.Core.Bool.{Bool, true, false, ◌&&◌, ◌||◌, cond, false≢true}
use mathlib.Core.List.{List, [], ◌∷◌, ◌++◌, map}
use mathlib.Core.Logic.{inl, inr}
use mathlib.Core.Option.{Option, none, some}
use borrow.Author.Tests.{ltb-true, ltb-false}
use lib.Dec.{ltb}
use lib.IntN.{ℤ, pos}
use lib.Ieee.{Float, lt}
use lib.ListN.{length, get_or, set, length-append, length-map, length-set, get_or-eq_default}
use lib.Seq.{get_or-set_same, get_or-set_other}
use Rattle.laws.specs.Lists.{eq_z, total}
use Rattle.laws.specs.Floats.{zero_f}
use Rattle.laws.proofs.Bools.{true_or_false}
use Rattle.rules.proofs.Results.{apart as no_answer, got}
use Rattle.rules.specs.Answer.{Res, ok, refused, ◌>>=◌}
use Rattle.rules.specs.Codes.{operators, same_operator}
use Rattle.rules.specs.Dispatch.{Row}
use Rattle.rules.specs.Info.{get_dogma_attribute, high_is_good}
use Rattle.rules.specs.Item.{runs_at}
use Rattle.rules.specs.Number.{times, weight, number_at}
use Rattle.rules.specs.Operate.{Copy, sorted, simplified, has_penalty, applied}
use Rattle.rules.specs.Value.{World, Mem, Read, Reader, Gathered, nothing, with_copy, with_stack, state_of, own_sources, to_source, with_penalty, no_source, note, copies, penalised, unpenalised, contribute, resisted, gather_from, gather, marked, with_own, marked_by, operate, at_least, at_most, clamped, set_value, calculate, Found, find_row, calculated_value, value_of}
use Rattle.rules.specs.declared.Effect.{Effect}
use Rattle.rules.specs.declared.EffectOperator.{EffectOperator}
use Rattle.rules.specs.declared.EffectOperator.TheVariants.{PreAssign, PreMul, PreDiv, ModAdd, ModSub, PostMul, PostDiv, PostPercent, PostAssign}
use Rattle.rules.specs.declared.Origin.{Origin}
use Rattle.rules.specs.declared.Origin.TheVariants as origin
use Rattle.rules.specs.Ids.{OptionalId}
use Rattle.rules.specs.declared.Refusal.TheVariants.{Depth}
use Rattle.rules.specs.declared.Source.{Source}
use Rattle.sources.specs.Planned.{runs_in, planned_if, planned_of, planned_for, planned_by, counts_of, Started, Grown, Leaves}
use Rattle.sources.proofs.Noting.{note_off, note_full, note_on}

-- ---- answers that are no refusals

record Bound {A B : Type 0} (x : Res A) (f : A → Res B) (b : B) : Type 0 where
  val : A
  is : x ≡ ok val
  next : f val ≡ ok b

bound : {A B : Type 0} (x : Res A) (f : A → Res B) (b : B) → (x >>= f) ≡ ok b → Bound x f b
bound (ok a) f b e = record { val = a; is = refl; next = e }
bound (refused r) f b e = absurd (no_answer e)

-- ---- source rows more

both : {i m n k : ℕ} {a b c : Mem} → Grown i a b m → Grown i b c n → k ≡ m + n → Grown i a c k
both g h e = record { started = h.started; more = omega (arith, g.more, h.more, e) }

same : {i : ℕ} {m m' : Mem} → Started i m → m ≡ m' → Grown i m m' 0
same {i} {m} s e = subst (λ (x : Mem). Grown i m x 0) e (record { started = s; more = omega arith })

-- the sum over the operators is that over the entries: each has one operator
one_of : (n : ℕ) (op : EffectOperator) (ops : List EffectOperator) → ℕ
one_of n op [] = 0
one_of n op (o ∷ ops) = cond (same_operator op o) n 0 + one_of n op ops

once : (n : ℕ) (op : EffectOperator) → one_of n op operators ≡ n
unfolding one_of
once n PreAssign = omega arith
once n PreMul = omega arith
once n PreDiv = omega arith
once n ModAdd = omega arith
once n ModSub = omega arith
once n PostMul = omega arith
once n PostDiv = omega arith
once n PostPercent = omega arith
once n PostAssign = omega arith

by-entry : (w : World) (ops : List EffectOperator) (e : Effect) (es : List Effect) → planned_by w ops (e ∷ es) ≡ one_of (planned_of w e) e.operator ops + planned_by w ops es
unfolding one_of
by-entry w [] e es = refl
by-entry w (op ∷ ops) e es = let rest = by-entry w ops e es in omega (arith, rest)

none_by : (w : World) (ops : List EffectOperator) → planned_by w ops [] ≡ 0
none_by w [] = refl
none_by w (op ∷ ops) = omega (arith, none_by w ops)

pub planned_all : (w : World) (es : List Effect) → planned_by w operators es ≡ total (map (planned_of w) es)
planned_all w [] = none_by w operators
planned_all w (e ∷ es) = by-entry w operators e es ∙ omega (arith, once (planned_of w e) e.operator, planned_all w es)

-- there is a count for each row
pub counts_long : (w : World) → length (counts_of w) ≡ length w.rows
unfolding counts_of
counts_long w = length-map w.rows _

-- ---- marking keeps their number

pub marked-length : (p : ℕ) (l : List Copy) (own : List Source) → length (marked p l own) ≡ length own
unfolding marked
marked-length p [] own = refl
marked-length p (x ∷ l) own =
    let r = with_penalty (weight p) (get_or own x.source no_source) in
    marked-length (suc p) l (set own x.source r) ∙ length-set own x.source r

-- ---- what the calculation of row i gives row j: gain n where n source rows are planned
module _ (w : World) (i : ℕ) (row : Row) (j : ℕ) (gain : ℕ → ℕ) (add : (a b c : ℕ) → c ≡ a + b → gain c ≡ gain a + gain b) (off : w.recording ≡ false → (n : ℕ) → gain n ≡ 0)
    (note-gives : (r : Source) (m m' : Mem) → note w i row r m ≡ ok m' → Started j m → Grown j m m' (gain 1))
    (own-gives : (own : List Source) (m : Mem) → length own ≡ length (own_sources i m) → Started j m → Grown j m (with_own i own m) 0) (value-gives : (v : Float) (m : Mem) → Started j m → Grown j m (set_value i v m) 0) where
  nil : gain 0 ≡ 0
  nil = omega (arith, add 0 0 0 refl)

  still : {m m' : Mem} → Started j m → m ≡ m' → Grown j m m' (gain 0)
  still {m} {m'} s e = subst (λ (n : ℕ). Grown j m m' n) (sym nil) (same s e)

  -- one note, and values beside it
  noted_grown : (r : Source) (m : Mem) (f : Mem → Gathered) (h : Gathered) → ((x : Mem) → (f x).mem ≡ x) → (note w i row r m >>= λ x. ok (f x)) ≡ ok h → Started j m → Grown j m h.mem (gain 1)
  noted_grown r m f h k e s =
      let b = bound (note w i row r m) (λ x. ok (f x)) h e in
      subst (λ (x : Mem). Grown j m x (gain 1)) (sym (k b.val) ∙ ap (λ (g : Gathered). g.mem) (got b.next)) (note-gives r m b.val b.is s)

  copies_grown : (n : ℕ) (r : Source) (x : Float) (g h : Gathered) → copies w i row n r x g ≡ ok h → Started j g.mem → Grown j g.mem h.mem (gain n)
  unfolding copies
  copies_grown zero r x g h e s = still s (ap (λ (y : Gathered). y.mem) (got e))
  copies_grown (suc n) r x g h e s =
      let f : Mem → Gathered = λ m. record { mem = m; values = with_copy (lt x zero_f) (record { value = x; source = length (own_sources i g.mem) }) g.values } in
      let b = bound (note w i row r g.mem) (λ m. copies w i row n r x (f m)) h e in
      let one = note-gives r g.mem b.val b.is s in
      both one (copies_grown n r x (f b.val) h b.next one.started) (add 1 n (suc n) (omega arith))

  penalised_grown : (e : Effect) (v x : Float) (g h : Gathered) → penalised w i row e v x g ≡ ok h → Started j g.mem → Grown j g.mem h.mem (gain (min e.quantity 9))
  unfolding penalised
  penalised_grown e v x g h q s =
      let b = bound (copies w i row (min e.quantity 8) (to_source e v true 1 true) x g)
      (λ (c : Gathered). elim (e.quantity - 8) [ zero ↦ ok c | suc n ↦ (note w i row (to_source e v true (suc n) true) c.mem >>= λ m. ok (record { mem = m; values = c.values })) ]) h q in
      let Some-of = copies_grown (min e.quantity 8) (to_source e v true 1 true) x g b.val b.is s in
      both Some-of (rest b.val (e.quantity - 8) b.next Some-of.started) (add (min e.quantity 8) (min (e.quantity - 8) 1) (min e.quantity 9) (omega arith))
    where
      rest : (c : Gathered) (k : ℕ) → (elim k [ zero ↦ ok c | suc n ↦ (note w i row (to_source e v true (suc n) true) c.mem >>= λ m. ok (record { mem = m; values = c.values })) ]) ≡ ok h
          → Started j c.mem → Grown j c.mem h.mem (gain (min k 1))
      rest c zero t u = still u (ap (λ (y : Gathered). y.mem) (got t))
      rest c (suc n) t u =
          let only : 1 ≡ min (suc n) 1 = omega arith in
          subst (λ (k : ℕ). Grown j c.mem h.mem (gain k)) only (noted_grown (to_source e v true (suc n) true) c.mem (λ m. record { mem = m; values = c.values }) h (λ y. refl) t u)

  contribute_grown : (e : Effect) (v : Float) (g h : Gathered) → contribute w i row e v g ≡ ok h → Started j g.mem → Grown j g.mem h.mem (gain (planned_if true e))
  unfolding contribute unpenalised
  contribute_grown e v g h q s =
      let b = bound (number_at row.object (simplified e.operator v))
      (λ (x : Float). elim (e.penalty && has_penalty e.operator) [ true ↦ penalised w i row e v x g | false ↦ unpenalised w i row e v x g ]) h q in
      kind b.val (e.penalty && has_penalty e.operator) b.next
    where
      kind : (x : Float) (t : Bool) → (elim t [ true ↦ penalised w i row e v x g | false ↦ unpenalised w i row e v x g ]) ≡ ok h → Grown j g.mem h.mem (gain (cond t (min e.quantity 9) 1))
      kind x true r = penalised_grown e v x g h r s
      kind x false r = noted_grown (to_source e v true e.quantity false) g.mem (λ m. record { mem = m; values = with_stack x e.quantity g.values }) h (λ y. refl) r s

  module _ (read : Reader) (leaves : Leaves j read) where
    resisted_grown : (o : OptionalId) (r s : Read) → resisted w i row read o r ≡ ok s → Started j r.mem → Grown j r.mem s.mem 0
    unfolding resisted
    resisted_grown None r s e u = same u (ap (λ (y : Read). y.mem) (got e))
    resisted_grown (Some a) r s e u =
        let b = bound (read 0 a r.mem) (λ (q : Read). number_at row.object (times r.value q.value) >>= λ v. ok (record { value = v; mem = q.mem })) s e in
        let c = bound (number_at row.object (times r.value b.val.value)) (λ v. ok (record { value = v; mem = b.val.mem })) s b.next in
        subst (λ (y : Mem). Grown j r.mem y 0) (ap (λ (y : Read). y.mem) (got c.next)) (leaves 0 a r.mem b.val u b.is)

    -- one entry
    entry_grown : (e : Effect) (o : Origin) (g h : Gathered) → gather_from w i row read e o g ≡ ok h → Started j g.mem → Grown j g.mem h.mem (gain (planned_if (runs_in w o) e))
    unfolding gather_from
    entry_grown e (origin.Buff b v) g h q s = contribute_grown e v g h q s
    entry_grown e (origin.Effect f source c a) g h q s = opened (runs_at c (state_of w source)) w.recording refl refl q
      where
        runs : (r : Read) (t : Bool) → (elim t [
          | true ↦ contribute w i row e r.value (record { mem = r.mem; values = g.values })
          | false ↦ (note w i row (to_source e r.value false e.quantity false) r.mem >>= λ m. ok (record { mem = m; values = g.values }))
        ]) ≡ ok h → Started j r.mem → Grown j r.mem h.mem (gain (planned_if t e))
        runs r true t u = contribute_grown e r.value (record { mem = r.mem; values = g.values }) h t u
        runs r false t u = noted_grown (to_source e r.value false e.quantity false) r.mem (λ m. record { mem = m; values = g.values }) h (λ y. refl) t u

        ends : Read → Res Gathered
        ends r = elim (runs_at c (state_of w source)) [
          | true ↦ contribute w i row e r.value (record { mem = r.mem; values = g.values })
          | false ↦ (note w i row (to_source e r.value false e.quantity false) r.mem >>= λ m. ok (record { mem = m; values = g.values }))
        ]

        strength : (read source a g.mem >>= λ (r : Read). resisted w i row read e.resistance r >>= λ (r' : Read). ends r') ≡ ok h
            → Grown j g.mem h.mem (gain (planned_if (runs_at c (state_of w source)) e))
        strength t =
            let b = bound (read source a g.mem) (λ (r : Read). resisted w i row read e.resistance r >>= λ (r' : Read). ends r') h t in
            let d = bound (resisted w i row read e.resistance b.val) (λ (r' : Read). ends r') h b.next in
            let first = leaves source a g.mem b.val s b.is in
            let second = resisted_grown e.resistance b.val d.val d.is first.started in
            let third = runs d.val (runs_at c (state_of w source)) d.next second.started in
            both (both first second refl) third (omega arith)

        -- one that does not run is read only where recorded
        opened : (t u : Bool) → runs_at c (state_of w source) ≡ t → w.recording ≡ u
            → (elim (t || u) [ false ↦ ok g | true ↦ (read source a g.mem >>= λ (r : Read). resisted w i row read e.resistance r >>= λ (r' : Read). ends r') ]) ≡ ok h
            → Grown j g.mem h.mem (gain (planned_if (runs_at c (state_of w source)) e))
        opened true u p k t = strength t
        opened false true p k t = strength t
        opened false false p k t = subst (λ (n : ℕ). Grown j g.mem h.mem n) (sym (off k (planned_if (runs_at c (state_of w source)) e))) (same s (ap (λ (y : Gathered). y.mem) (got t)))

    -- the entries of one operator
    gather_grown : (op : EffectOperator) (es : List Effect) (g h : Gathered) → gather w i row read op es g ≡ ok h → Started j g.mem → Grown j g.mem h.mem (gain (planned_for w op es))
    unfolding gather
    gather_grown op [] g h q s = still s (ap (λ (y : Gathered). y.mem) (got q))
    gather_grown op (e ∷ es) g h q s = go (λ c. gather_grown op es c h) (same_operator e.operator op) q
      where
        go : ((c : Gathered) → gather w i row read op es c ≡ ok h → Started j c.mem → Grown j c.mem h.mem (gain (planned_for w op es))) → (t : Bool)
            → (elim t [ false ↦ gather w i row read op es g | true ↦ (gather_from w i row read e e.origin g >>= λ c. gather w i row read op es c) ]) ≡ ok h
            → Grown j g.mem h.mem (gain (cond t (planned_of w e) 0 + planned_for w op es))
        go rest false t = both (same s refl) (rest g t s) (omega (arith, nil, add 0 (planned_for w op es) (0 + planned_for w op es) refl))
        go rest true t =
            let b = bound (gather_from w i row read e e.origin g) (λ c. gather w i row read op es c) h t in
            let one = entry_grown e e.origin g b.val b.is s in
            both one (rest b.val b.next one.started) (add (planned_of w e) (planned_for w op es) (planned_of w e + planned_for w op es) refl)

    marked_grown : (g : Gathered) → Started j g.mem → Grown j g.mem (marked_by i g) 0
    marked_grown g s =
        let own = own_sources i g.mem in
        let now₁ = marked 0 (sorted g.values.positive) own in
        let now₂ = marked 0 (sorted g.values.negative) now₁ in
        own-gives now₂ g.mem (marked-length 0 (sorted g.values.negative) now₁ ∙ marked-length 0 (sorted g.values.positive) own) s

    -- the operators in turn
    operate_grown : (ops : List EffectOperator) (a z : Read) → operate w i row read ops a ≡ ok z → Started j a.mem → Grown j a.mem z.mem (gain (planned_by w ops row.entries))
    unfolding operate
    operate_grown [] a z q s = still s (ap (λ (y : Read). y.mem) (got q))
    operate_grown (op ∷ ops) a z q s =
        let start : Gathered = record { mem = a.mem; values = nothing } in
        let worth : Gathered → Res Float = λ g. number_at row.object (applied (high_is_good (get_dogma_attribute w.book row.id)) op a.value g.values) in
        let b = bound (gather w i row read op row.entries start) (λ g. worth g >>= λ v. operate w i row read ops (record { value = v; mem = marked_by i g })) z q in
        let c = bound (worth b.val) (λ v. operate w i row read ops (record { value = v; mem = marked_by i b.val })) z b.next in
        let first = gather_grown op row.entries start b.val b.is s in
        let second = marked_grown b.val first.started in
        let third = operate_grown ops (record { value = c.val; mem = marked_by i b.val }) z c.next second.started in
        both (both first second refl) third (omega (arith, add (planned_for w op row.entries) (planned_by w ops row.entries) (planned_for w op row.entries + planned_by w ops row.entries) refl))

    clamped_grown : (o : ℕ) (clamp : Float → Float → Float) (a : ℤ) (r z : Read) → clamped o read clamp a r ≡ ok z → Started j r.mem → Grown j r.mem z.mem 0
    unfolding clamped
    clamped_grown o clamp a r z q s = go (eq_z a (pos 0)) q
      where
        go : (t : Bool) → (elim t [ true ↦ ok r | false ↦ (read o a r.mem >>= λ x. ok (record { value = clamp r.value x.value; mem = x.mem })) ]) ≡ ok z → Grown j r.mem z.mem 0
        go true t = same s (ap (λ (y : Read). y.mem) (got t))
        go false t =
            let b = bound (read o a r.mem) (λ x. ok (record { value = clamp r.value x.value; mem = x.mem })) z t in
            subst (λ (y : Mem). Grown j r.mem y 0) (ap (λ (y : Read). y.mem) (got b.next)) (leaves o a r.mem b.val s b.is)

    -- its value is kept
    finished : {m : Mem} {n : ℕ} (c z : Read) → Grown j m c.mem (n + 0 + 0) → ok (record { value = c.value; mem = set_value i c.value c.mem }) ≡ ok z → Grown j m z.mem n
    finished {m} {n} c z g e = subst (λ (y : Read). Grown j m y.mem n) (got e) (both g (value-gives c.value c.mem g.started) (omega arith))

    calculate_grown : (m : Mem) (z : Read) → calculate w read i row m ≡ ok z → Started j (set_value i row.base m) → Grown j (set_value i row.base m) z.mem (gain (planned_by w operators row.entries))
    unfolding calculate
    calculate_grown m z q s =
        let attribute = get_dogma_attribute w.book row.id in
        let start : Read = record { value = row.base; mem = set_value i row.base m } in
        let last : Read → Res Read = λ c. ok (record { value = c.value; mem = set_value i c.value c.mem }) in
        let upper : Read → Res Read = λ b. clamped row.object read at_most attribute.max_attribute_id b >>= λ c. last c in
        let a = bound (operate w i row read operators start) (λ a. clamped row.object read at_least attribute.min_attribute_id a >>= λ b. upper b) z q in
        let b = bound (clamped row.object read at_least attribute.min_attribute_id a.val) (λ b. upper b) z a.next in
        let c = bound (clamped row.object read at_most attribute.max_attribute_id b.val) (λ c. last c) z b.next in
        let first = operate_grown operators start a.val a.is s in
        let second = clamped_grown row.object at_least attribute.min_attribute_id a.val b.val b.is first.started in
        let third = clamped_grown row.object at_most attribute.max_attribute_id b.val c.val c.is second.started in
        finished c.val z (both (both first second refl) third refl) c.next

-- ---- another row gets nothing

module _ (i j : ℕ) (apart : j ≡ i → ⊥) where
  other_own : (own : List Source) (m : Mem) → Started j m → Grown j m (with_own i own m) 0
  other_own own m s =
      record {
        started = record { valued = s.valued; there = omega (arith, s.there, length-set m.sources i own) };
        more = ap length (get_or-set_other m.sources i j own [] apart) ∙ omega arith;
      }

  other_value : (v : Float) (m : Mem) → Started j m → Grown j m (set_value i v m) 0
  other_value v m s = record { started = record { valued = λ e. s.valued (sym (get_or-set_other m.values i j (some v) none apart) ∙ e); there = s.there }; more = omega arith }

  other_note : (w : World) (row : Row) (r : Source) (m m' : Mem) → note w i row r m ≡ ok m' → Started j m → Grown j m m' 0
  other_note w row r m m' e s = elim (true_or_false w.recording) [
    | inr t ↦ same s (got (sym (note_off w i row r m t) ∙ e))
    | inl on ↦ elim (true_or_false (ltb m.used w.room)) [
      | inr t ↦ absurd (no_answer (sym (note_full w i row r m on t) ∙ e))
      | inl t ↦ subst (λ (x : Mem). Grown j m x 0) (got (sym (note_on w i row r m on t) ∙ e)) (wider (other_own (own_sources i m ++ (r ∷ [])) m s))
    ]
  ]
    where
      wider : Grown j m (with_own i (own_sources i m ++ (r ∷ [])) m) 0 → Grown j m (record { values = m.values; sources = set m.sources i (own_sources i m ++ (r ∷ [])); used = suc m.used }) 0
      wider g = record { started = record { valued = s.valued; there = g.started.there }; more = g.more }

  other_calculated : (w : World) (row : Row) (read : Reader) → Leaves j read → (m : Mem) (z : Read) → calculate w read i row m ≡ ok z → Started j m → Grown j m z.mem 0
  other_calculated w row read leaves m z q s =
      let set_first = other_value row.base m s in
      both set_first
      (calculate_grown w i row j (λ n. 0) (λ a b c e. refl) (λ t n. refl) (other_note w row) (λ own x e u. other_own own x u) other_value read leaves m z q set_first.started) refl

pub some_none : {v : Float} → some v ≡ none → ⊥
some_none e = false≢true (sym (ap (λ (o : Option Float). elim o [ some x ↦ true | none ↦ false ]) e))

-- reading leaves alone every row that has started
pub leaves-started : (w : World) (d : ℕ) (j : ℕ) → Leaves j (value_of w d)
unfolding value_of calculated_value
leaves-started w zero j o a m q s e = found (find_row o a 0 w.rows) e
  where
    found : (f : Option Found) → (elim f [
      | none ↦ ok (record { value = (get_dogma_attribute w.book a).default_value; mem = m })
      | some f ↦ elim (get_or m.values f.index none) [ some v ↦ ok (record { value = v; mem = m }) | none ↦ refused (Depth o) ]
    ]) ≡ ok q → Grown j m q.mem 0
    found none t = same s (ap (λ (y : Read). y.mem) (got t))
    found (some f) t = has (get_or m.values f.index none) t
      where
        has : (v : Option Float) → (elim v [ some v ↦ ok (record { value = v; mem = m }) | none ↦ refused (Depth o) ]) ≡ ok q → Grown j m q.mem 0
        has (some v) u = same s (ap (λ (y : Read). y.mem) (got u))
        has none u = absurd (no_answer u)
leaves-started w (suc d) j o a m q s e = found (leaves-started w d j) (find_row o a 0 w.rows) e
  where
    found : Leaves j (value_of w d) → (f : Option Found) → (elim f [
      | none ↦ ok (record { value = (get_dogma_attribute w.book a).default_value; mem = m })
      | some f ↦ elim (get_or m.values f.index none) [ some v ↦ ok (record { value = v; mem = m }) | none ↦ calculate w (value_of w d) f.index f.row m ]
    ]) ≡ ok q → Grown j m q.mem 0
    found less none t = same s (ap (λ (y : Read). y.mem) (got t))
    found less (some f) t = has (get_or m.values f.index none) refl t
      where
        has : (v : Option Float) → get_or m.values f.index none ≡ v → (elim v [ some v ↦ ok (record { value = v; mem = m }) | none ↦ calculate w (value_of w d) f.index f.row m ]) ≡ ok q → Grown j m q.mem 0
        has (some v) p u = same s (ap (λ (y : Read). y.mem) (got u))
        has none p u = other_calculated f.index j (λ x. s.valued (ap (λ (k : ℕ). get_or m.values k none) x ∙ p)) w f.row (value_of w d) less m q u s

-- ---- the row itself gets what is planned
module _ (w : World) (i : ℕ) (row : Row) where
  abbrev gained : ℕ → ℕ
  gained n = cond w.recording n 0

  gained_add : (a b c : ℕ) → c ≡ a + b → gained c ≡ gained a + gained b
  gained_add a b c e = elim (true_or_false w.recording) [ inl t ↦ rw t e | inr t ↦ rw t refl ]

  gained_off : w.recording ≡ false → (n : ℕ) → gained n ≡ 0
  gained_off t n = rw t refl

  own_gained : (own : List Source) (m : Mem) → length own ≡ length (own_sources i m) → Started i m → Grown i m (with_own i own m) 0
  own_gained own m e s =
      record {
        started = record { valued = s.valued; there = omega (arith, s.there, length-set m.sources i own) };
        more = ap length (get_or-set_same m.sources i own [] s.there) ∙ omega (arith, e);
      }

  value-started : (v : Float) (m : Mem) → i < length m.values → i < length m.sources → Started i (set_value i v m)
  value-started v m h t = record { valued = λ e. some_none (sym (get_or-set_same m.values i (some v) none h) ∙ e); there = t }

  value_gained : (v : Float) (m : Mem) → Started i m → Grown i m (set_value i v m) 0
  value_gained v m s = record { started = value-started v m inside s.there; more = omega arith }
    where
      inside : i < length m.values
      inside = elim (true_or_false (ltb i (length m.values))) [ inl t ↦ ltb-true i (length m.values) t | inr t ↦ absurd (s.valued (get_or-eq_default m.values none (ltb-false i (length m.values) t))) ]

  note_gained : (r : Source) (m m' : Mem) → note w i row r m ≡ ok m' → Started i m → Grown i m m' (gained 1)
  note_gained r m m' e s = elim (true_or_false w.recording) [ inl t ↦ recorded t | inr t ↦ rw t (same s (got (sym (note_off w i row r m t) ∙ e))) ]
    where
      fits : w.recording ≡ true → ltb m.used w.room ≡ true → Grown i m m' 1
      fits on t =
          subst (λ (x : Mem). Grown i m x 1) (got (sym (note_on w i row r m on t) ∙ e))
          (record {
            started = record { valued = s.valued; there = omega (arith, s.there, length-set m.sources i (own_sources i m ++ (r ∷ []))) };
            more = ap length (get_or-set_same m.sources i (own_sources i m ++ (r ∷ [])) [] s.there) ∙ length-append (own_sources i m) (r ∷ []);
          })

      recorded : w.recording ≡ true → Grown i m m' (gained 1)
      recorded on = rw on (elim (true_or_false (ltb m.used w.room)) [ inl t ↦ fits on t | inr t ↦ absurd (no_answer (sym (note_full w i row r m on t) ∙ e)) ])

  module _ (read : Reader) (leaves : Leaves i read) where
    -- the entries of one operator
    pub gather_gives : (op : EffectOperator) (es : List Effect) (g h : Gathered) → gather w i row read op es g ≡ ok h → Started i g.mem → Grown i g.mem h.mem (cond w.recording (planned_for w op es) 0)
    gather_gives = gather_grown w i row i gained gained_add gained_off note_gained own_gained value_gained read leaves

    -- some operators in turn
    pub operate_gives : (ops : List EffectOperator) (a z : Read) → operate w i row read ops a ≡ ok z → Started i a.mem → Grown i a.mem z.mem (cond w.recording (planned_by w ops row.entries) 0)
    operate_gives = operate_grown w i row i gained gained_add gained_off note_gained own_gained value_gained read leaves

  -- the whole calculation
  pub calculation_gives : (d : ℕ) (m : Mem) (z : Read) → calculate w (value_of w d) i row m ≡ ok z → i < length m.values → i < length m.sources
      → length (own_sources i z.mem) ≡ length (own_sources i m) + cond w.recording (total (map (planned_of w) row.entries)) 0
  calculation_gives d m z q h t =
      let g = calculate_grown w i row i gained gained_add gained_off note_gained own_gained value_gained (value_of w d) (leaves-started w d i) m z q (value-started row.base m h t) in
      g.more ∙ ap (λ (n : ℕ). length (own_sources i m) + gained n) (planned_all w row.entries)
