-- An entry more: what its source rows and its values make of a pile.
use Rattle.std.specs.Prelude.{None, Some}
use Prim.Native.Nat.{ℕ, zero, suc, ◌-◌, ◌<◌, min}
use native.Mathlib.Omega.{arith}
use mathlib.Core.Path.{◌≡◌, refl, sym, ap, ◌∙◌}
use mathlib.Core.Bool.{Bool, true, false, ◌&&◌}
use mathlib.Core.List.{List}
use lib.Dec.{T}
use lib.Ieee.{Float, nan, inf, fin, lt, neg}
use lib.ListN.{length}
use Rattle.laws.specs.Floats.{finite, zero_f, one_f}
use Rattle.rules.specs.Answer.{Res, ok, refused, ◌>>=◌}
use Rattle.rules.specs.Dispatch.{Row}
use Rattle.rules.specs.Columns.{yes1}
use Rattle.rules.specs.Number.{number_at, minus, over}
use Rattle.rules.specs.Operate.{Copy, Values, simplified, has_penalty}
use Rattle.rules.specs.Value.{World, Mem, Gathered, own_sources, to_source, with_stack, note, penalised, unpenalised, contribute}
use Rattle.rules.specs.declared.Effect.{Effect}
use Rattle.rules.specs.declared.EffectOperator.{EffectOperator}
use Rattle.rules.specs.declared.EffectOperator.TheVariants.{PreAssign, PreMul, PreDiv, ModAdd, ModSub, PostMul, PostDiv, PostPercent, PostAssign}
use Rattle.rules.specs.declared.Refusal.{Refusal}
use Rattle.rules.specs.declared.Refusal.TheVariants.{Number}
use Rattle.rules.specs.declared.Source.{Source}
use Rattle.operate.specs.Held as bucket
use Rattle.operate.specs.declared.Running.{Running}
use Rattle.operate.specs.declared.buckets.Bucket.{Bucket}
use Rattle.operate.specs.SoFar.{RunningOf, copies_from, with_copies}
use Rattle.operate.proofs.Snocs.{kept, step_good, bind_good}
use Rattle.sources.specs.declared.SourceCounts.{SourceCounts}
use Rattle.std.specs.Prelude.{Ok, Err}
use Rattle.sources.specs.Keeping.{NotedAs, notes, penalised_notes}
use Rattle.sources.proofs.Copying.{went, ended}
use Rattle.gather.specs.declared.Pile.{Pile}
use Rattle.gather.specs.Piles.{PileOf, PiledAs, entered, entered_count}
use Rattle.gather.proofs.Copies.{copies_split}

module _ (w : World) (i : ℕ) (row : Row) (e : Effect) (v x : Float) (g : Gathered) where
  abbrev copied : Values
  copied = with_copies (lt x zero_f) (copies_from x (length (own_sources i g.mem)) (yes1 w.recording) (min e.quantity 8)) g.values

  -- a penalised entry is its source rows, and then its copies
  pub penalised_split : i < length g.mem.sources → penalised w i row e v x g ≡ (penalised_notes w i row e v g.mem >>= λ m. ok (record { mem = m; values = copied }))
  unfolding penalised penalised_notes
  penalised_split h =
      ap (λ (y : Res Gathered). y >>= rest) (copies_split w i row (to_source e v true 1 true) x (min e.quantity 8) g h)
      ∙ by (notes w i row (min e.quantity 8) (to_source e v true 1 true) g.mem)
    where
      rest : Gathered → Res Gathered
      rest f = elim (e.quantity - 8) [ zero ↦ ok f | suc n ↦ (note w i row (to_source e v true (suc n) true) f.mem >>= λ m. ok (record { mem = m; values = f.values })) ]

      one : (k : ℕ) (m : Mem)
          → (elim k [ zero ↦ ok (record { mem = m; values = copied }) | suc n ↦ (note w i row (to_source e v true (suc n) true) m >>= λ m'. ok (record { mem = m'; values = copied })) ])
          ≡ ◌>>=◌ {A = Mem} {B = Gathered} (elim k [ zero ↦ ok m | suc n ↦ note w i row (to_source e v true (suc n) true) m ]) (λ m'. ok (record { mem = m'; values = copied }))
      one zero m = refl
      one (suc n) m = refl

      by : (y : Res Mem) → ((y >>= λ m. ok (record { mem = m; values = copied })) >>= rest)
          ≡ ((y >>= λ m. elim (e.quantity - 8) [ zero ↦ ok m | suc n ↦ note w i row (to_source e v true (suc n) true) m ]) >>= λ m. ok (record { mem = m; values = copied }))
      by (refused z) = refl
      by (ok m) = one (e.quantity - 8) m

same_plain : (t : Bool) (l : List Copy) (g : Values) → (with_copies t l g).unpenalized ≡ g.unpenalized
same_plain true l g = refl
same_plain false l g = refl

module _ (w : World) (counts : List ℕ) (s₀ : List (List ℕ)) (f₀ : List (List Float)) (i : ℕ) (row : Row) (high : Bool) (op : EffectOperator) (found : Float) (g : Gathered) (p : Pile)
    (s : List (List ℕ)) (f : List (List Float)) (s' : List (List ℕ)) (f' : List (List Float)) (k : PileOf counts w.room s₀ f₀ i high op found g p s f) (row_in : i < length counts) where
  inside : i < length g.mem.sources
  inside = omega (arith, row_in, k.keeping.long)

  module _ (e : Effect) (v x : Float) where
    -- its source rows were refused
    pub penalised_stops : (y : Refusal) → NotedAs counts w.room s₀ f₀ i (penalised_notes w i row e v g.mem) (Err y) s' f'
        → PiledAs counts w.room s₀ f₀ i high op found (penalised w i row e v x g) (Err y) s' f'
    penalised_stops y n = rw (penalised_split w i row e v x g inside, ended counts w.room s₀ f₀ i s' f' (penalised_notes w i row e v g.mem) n) refl

    pub penalised_goes : (now : SourceCounts) (q : Pile) → NotedAs counts w.room s₀ f₀ i (penalised_notes w i row e v g.mem) (Ok now) s' f' → q.running ≡ p.running
        → bucket.Gathered (with_copies (lt x zero_f) (copies_from x p.counts.own (yes1 w.recording) (min e.quantity 8)) g.values).positive q.positive
        → bucket.Gathered (with_copies (lt x zero_f) (copies_from x p.counts.own (yes1 w.recording) (min e.quantity 8)) g.values).negative q.negative
        → PiledAs counts w.room s₀ f₀ i high op found (penalised w i row e v x g) (Ok (record { running = q.running; positive = q.positive; negative = q.negative; counts = now })) s' f'
    penalised_goes now q n c d m =
        let t = went counts w.room s₀ f₀ i s' f' (penalised_notes w i row e v g.mem) n in
        rw (penalised_split w i row e v x g inside, t.is) (
        record {
          keeping = t.keeping;
          running = rw (c, same_plain (lt x zero_f) (copies_from x (length (own_sources i g.mem)) (yes1 w.recording) (min e.quantity 8)) g.values) k.running;
          positive = rw (sym k.keeping.mine) d;
          negative = rw (sym k.keeping.mine) m;
        }
        )

  -- a source row, and values that the pile then holds
  module _ (r : Source) (vs : Values) where
    pub note_stops : (y : Refusal) → NotedAs counts w.room s₀ f₀ i (note w i row r g.mem) (Err y) s' f'
        → PiledAs counts w.room s₀ f₀ i high op found (note w i row r g.mem >>= λ m. ok (record { mem = m; values = vs })) (Err y) s' f'
    note_stops y n = rw (ended counts w.room s₀ f₀ i s' f' (note w i row r g.mem) n) refl

    pub note_goes : (now : SourceCounts) (u : Running) (a b : Bucket) → NotedAs counts w.room s₀ f₀ i (note w i row r g.mem) (Ok now) s' f'
        → RunningOf high op found vs.unpenalized u → bucket.Gathered vs.positive a → bucket.Gathered vs.negative b
        → PiledAs counts w.room s₀ f₀ i high op found (note w i row r g.mem >>= λ m. ok (record { mem = m; values = vs })) (Ok (record { running = u; positive = a; negative = b; counts = now })) s' f'
    note_goes now u a b n d e f =
        let t = went counts w.room s₀ f₀ i s' f' (note w i row r g.mem) n in
        rw t.is (record { keeping = t.keeping; running = d; positive = e; negative = f })

-- with a value of any quantity the copies stay
pub stack_positive : (x : Float) (q : ℕ) (g : Values) → (with_stack x q g).positive ≡ g.positive
stack_positive x zero g = refl
stack_positive x (suc n) g = refl

pub stack_negative : (x : Float) (q : ℕ) (g : Values) → (with_stack x q g).negative ≡ g.negative
stack_negative x zero g = refl
stack_negative x (suc n) g = refl

-- an entry that runs: what its simplified value says
module _ (w : World) (i : ℕ) (row : Row) (e : Effect) (v : Float) (g : Gathered) where
  pub not_finite : simplified e.operator v ≡ None → entered w i row true e v g ≡ refused (Number row.object)
  unfolding entered contribute number_at
  not_finite h = rw h refl

  pub with_penalty_lem : (x : Float) → simplified e.operator v ≡ Some x → e.penalty && has_penalty e.operator ≡ true → entered w i row true e v g ≡ penalised w i row e v x g
  unfolding entered contribute number_at
  with_penalty_lem x h p = rw h (rw p refl)

  pub without_penalty : (x : Float) → simplified e.operator v ≡ Some x → e.penalty && has_penalty e.operator ≡ false → entered w i row true e v g ≡ unpenalised w i row e v x g
  unfolding entered contribute number_at
  without_penalty x h p = rw h (rw p refl)

pub count_penalty : (e : Effect) → e.penalty && has_penalty e.operator ≡ true → entered_count true e ≡ min e.quantity 9
count_penalty e h = rw h refl

pub count_plain : (e : Effect) → e.penalty && has_penalty e.operator ≡ false → entered_count true e ≡ 1
count_plain e h = rw h refl

neg-finite : (v : Float) → T (finite v) → T (finite (neg v))
unfolding finite neg
neg-finite nan h = absurd h
neg-finite (inf s) h = absurd h
neg-finite (fin s m e) h = tt

-- what an operator makes of a finite strength is finite, or nothing
pub finite_of : (op : EffectOperator) (v x : Float) → T (finite v) → simplified op v ≡ Some x → T (finite x)
unfolding simplified
finite_of PreAssign v x h e = kept h e
finite_of PreMul v x h e = step_good _ e
finite_of PreDiv v x h e = bind_good (over one_f v) (λ q. minus q one_f) (λ a w d. step_good _ d) x e
finite_of ModAdd v x h e = kept h e
finite_of ModSub v x h e = kept (neg-finite v h) e
finite_of PostMul v x h e = step_good _ e
finite_of PostDiv v x h e = bind_good (over one_f v) (λ q. minus q one_f) (λ a w d. step_good _ d) x e
finite_of PostPercent v x h e = step_good _ e
finite_of PostAssign v x h e = kept h e
