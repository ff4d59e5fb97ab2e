-- What an entry leaves as it is: every value, and the source rows of other rows. What an operator gathers: copies whose source rows wait, or none at all.
use Prim.Native.Nat.{ℕ, zero, suc, ◌<◌}
use native.Mathlib.Omega.{arith}
use mathlib.Core.Path.{◌≡◌, refl, sym, ap, subst, ◌∙◌}
use mathlib.Core.Bool.{Bool, true, false}
use mathlib.Core.List.{List, [], ◌∷◌, ◌++◌}
use mathlib.Core.Logic.{inl, inr}
use mathlib.Core.Option.{Option, none, some}
use borrow.Author.Tests.{eqb-true}
use lib.Dec.{ltb}
use lib.Ieee.{Float, lt}
use lib.IntN.{ℤ}
use lib.ListN.{length, set, length-set}
use lib.Seq.{get_or-set_same, get_or-set_other}
use Rattle.laws.specs.Floats.{zero_f}
use Rattle.laws.proofs.Bools.{true_or_false, both_ways}
use Rattle.rules.specs.Answer.{ok}
use Rattle.rules.specs.Codes.{operator_at, operator_code, same_operator}
use Rattle.rules.specs.Dispatch.{Row}
use Rattle.rules.specs.Operate.{has_penalty}
use Rattle.rules.specs.Value.{World, Mem, Read, Reader, Gathered, own_sources, nothing, with_copy, with_stack, note, gather, marked_by}
use Rattle.rules.specs.declared.Effect.{Effect}
use Rattle.rules.specs.declared.EffectOperator.{EffectOperator}
use Rattle.rules.specs.declared.Source.{Source}
use Rattle.item.proofs.Back.{operator_back}
use Rattle.operate.specs.Held.{copy}
use Rattle.sources.specs.Marks.{Waits, Fresh, empty}
use Rattle.sources.proofs.Marking.{more-fresh, copy-fresh}
use Rattle.sources.proofs.Noting.{note_off, note_full, note_on}
use Rattle.rules.proofs.Results.{apart, got}
use Rattle.gather.specs.Piles.{entered}
use Rattle.memory.specs.Memory.{value_at, GrowingReader}
use Rattle.memory.proofs.Kept.{entered_kept, gather_kept}

-- ---- an entry is entered, the copies are marked

-- the values stand, and the source rows but those of row i
abbrev Beside : ℕ → Mem → Mem → Type 0
Beside i m m' = (m'.values ≡ m.values) × (length m'.sources ≡ length m.sources) × ((j : ℕ) → (j ≡ i → ⊥) → own_sources j m' ≡ own_sources j m)

beside_own : (i : ℕ) (m : Mem) (own : List Source) (used : ℕ) → Beside i m (record { values = m.values; sources = set m.sources i own; used = used })
beside_own i m own used = (refl, length-set m.sources i own, λ j n. get_or-set_other m.sources i j own [] n)

beside_on : (i : ℕ) (l m n : Mem) → Beside i l m → Beside i m n → Beside i l n
beside_on i l m n g h = (h.0 ∙ g.0, h.1 ∙ g.1, λ j k. h.2 j k ∙ g.2 j k)

note_beside : (w : World) (i : ℕ) (row : Row) (r : Source) (m m' : Mem) → note w i row r m ≡ ok m' → Beside i m m'
note_beside w i row r m m' e = elim (true_or_false w.recording) [
  | inr t ↦ subst (Beside i m) (got (sym (note_off w i row r m t) ∙ e)) (refl, refl, λ j n. refl)
  | inl on ↦ elim (true_or_false (ltb m.used w.room)) [
    | inr t ↦ absurd (apart (sym (note_full w i row r m on t) ∙ e))
    | inl t ↦ subst (Beside i m) (got (sym (note_on w i row r m on t) ∙ e)) (beside_own i m (own_sources i m ++ (r ∷ [])) (suc m.used))
  ]
]

pub entered_values : (w : World) (i : ℕ) (row : Row) (runs : Bool) (e : Effect) (v : Float) (g h : Gathered) → entered w i row runs e v g ≡ ok h
    → (h.mem.values ≡ g.mem.values) × (length h.mem.sources ≡ length g.mem.sources) × ((j : ℕ) → (j ≡ i → ⊥) → own_sources j h.mem ≡ own_sources j g.mem)
entered_values w i row runs e v g h p =
    entered_kept w i row (λ (f : Gathered). Beside i g.mem f.mem) (λ r f m q k. beside_on i g.mem f.mem m k (note_beside w i row r f.mem m q)) (λ x n f k. k) e
    (λ c r x f m u q k. beside_on i g.mem f.mem m k (note_beside w i row r f.mem m q)) runs v g h p (refl, refl, λ j n. refl)

pub marked_values : (i : ℕ) (g : Gathered) → ((marked_by i g).values ≡ g.mem.values) × (length (marked_by i g).sources ≡ length g.mem.sources) × ((j : ℕ) → (j ≡ i → ⊥) → own_sources j (marked_by i g) ≡ own_sources j g.mem)
marked_values i g = beside_own i g.mem _ g.mem.used

-- ---- the copies of an operator

-- where source rows are recorded, those of the copies wait for their penalties
pub gather_fresh : (w : World) (i : ℕ) (row : Row) (read : Reader) (op : EffectOperator) (es : List Effect) (m : Mem) (x : Float) (g : Gathered) → w.recording ≡ true → GrowingReader read → value_at m i ≡ some x → i < length m.sources
    → gather w i row read op es (record { mem = m; values = nothing }) ≡ ok g → Fresh (own_sources i g.mem) (g.values.positive ++ g.values.negative)
gather_fresh w i row read op es m x g on growing valued there p = (gather_kept w i row Kept noted stacked read looked op (λ e s u. copied) es (record { mem = m; values = nothing }) g p (empty, valued, there)).0
  where
    Kept : Gathered → Type 0
    Kept f = Fresh (own_sources i f.mem) (f.values.positive ++ f.values.negative) × (value_at f.mem i ≡ some x) × (i < length f.mem.sources)

    -- the memory after a note
    after : Source → Mem → Mem
    after r l = record { values = l.values; sources = set l.sources i (own_sources i l ++ (r ∷ [])); used = suc l.used }

    is-after : (r : Source) (l l' : Mem) → note w i row r l ≡ ok l' → after r l ≡ l'
    is-after r l l' q = elim (true_or_false (ltb l.used w.room)) [ inl t ↦ got (sym (note_on w i row r l on t) ∙ q) | inr t ↦ absurd (apart (sym (note_full w i row r l on t) ∙ q)) ]

    own_after : (r : Source) (l : Mem) → i < length l.sources → own_sources i l ++ (r ∷ []) ≡ own_sources i (after r l)
    own_after r l h = sym (get_or-set_same l.sources i (own_sources i l ++ (r ∷ [])) [] h)

    wider : (r : Source) (l : Mem) → i < length l.sources → i < length (after r l).sources
    wider r l h = omega (arith, h, length-set l.sources i (own_sources i l ++ (r ∷ [])))

    noted : (r : Source) (f : Gathered) (l : Mem) → note w i row r f.mem ≡ ok l → Kept f → Kept (record { mem = l; values = f.values })
    noted r f l q k =
        subst (λ (y : Mem). Kept (record { mem = y; values = f.values })) (is-after r f.mem l q)
        (subst (λ (y : List Source). Fresh y (f.values.positive ++ f.values.negative)) (own_after r f.mem k.2) (more-fresh (own_sources i f.mem) r _ k.0), k.1, wider r f.mem k.2)

    stacked : (v : Float) (n : ℕ) (f : Gathered) → Kept f → Kept (record { mem = f.mem; values = with_stack v n f.values })
    stacked v zero f k = k
    stacked v (suc n) f k = k

    copied : (r : Source) (v : Float) (f : Gathered) (l : Mem) → Waits r → note w i row r f.mem ≡ ok l → Kept f → Kept (record { mem = l; values = with_copy (lt v zero_f) (copy v (length (own_sources i f.mem))) f.values })
    copied r v f l u q k =
        let now = with_copy (lt v zero_f) (copy v (length (own_sources i f.mem))) f.values in
        subst (λ (y : Mem). Kept (record { mem = y; values = now })) (is-after r f.mem l q)
        (subst (λ (y : List Source). Fresh y (now.positive ++ now.negative)) (own_after r f.mem k.2) (copy-fresh (own_sources i f.mem) r v u (lt v zero_f) f.values k.0), k.1, wider r f.mem k.2)

    looked : (o : ℕ) (a : ℤ) (f : Gathered) (q : Read) → read o a f.mem ≡ ok q → Kept f → Kept (record { mem = q.mem; values = f.values })
    looked o a f q t k =
        let grows = growing o a f.mem q t in
        (subst (λ (y : List Source). Fresh y (f.values.positive ++ f.values.negative)) (sym (grows.own i x k.1)) k.0, grows.value i x k.1, omega (arith, grows.sources, k.2))

pub same_operator_lem : (a b : EffectOperator) → same_operator a b ≡ true → a ≡ b
same_operator_lem a b h = some_same (sym (operator_back a) ∙ ap operator_at (eqb-true (operator_code a) (operator_code b) h) ∙ operator_back b)
  where
    or : EffectOperator → Option EffectOperator → EffectOperator
    or d (some x) = x
    or d none = d

    some_same : some a ≡ some b → a ≡ b
    some_same e = ap (or a) e

-- an operator without penalties gathers no copies
pub gather_plain : (w : World) (i : ℕ) (row : Row) (read : Reader) (op : EffectOperator) (es : List Effect) (m : Mem) (g : Gathered) → has_penalty op ≡ false
    → gather w i row read op es (record { mem = m; values = nothing }) ≡ ok g → (g.values.positive ≡ []) × (g.values.negative ≡ [])
gather_plain w i row read op es m g h p =
    gather_kept w i row Kept (λ r f l q k. k) stacked read (λ o a f q t k. k) op
    (λ e s u r x f l t q k. both_ways u (ap has_penalty (same_operator_lem e.operator op s) ∙ h)) es (record { mem = m; values = nothing }) g p (refl, refl)
  where
    Kept : Gathered → Type 0
    Kept f = (f.values.positive ≡ []) × (f.values.negative ≡ [])

    stacked : (x : Float) (n : ℕ) (f : Gathered) → Kept f → Kept (record { mem = f.mem; values = with_stack x n f.values })
    stacked x zero f k = k
    stacked x (suc n) f k = k
