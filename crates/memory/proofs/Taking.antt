-- One entry goes to an operator's pile: another operator's and an idle one change nothing; else its strength is read, and it is added.
use Rattle.std.specs.Prelude.{Result, Ok, Err}
use Prim.Native.Nat.{ℕ, ◌+◌, ◌≤◌, ◌<◌, ◌^◌, min}
use native.Mathlib.Omega.{arith}
use mathlib.Core.Path.{◌≡◌, refl, sym, ap, ap₂, subst, ◌∙◌}
use mathlib.Core.Bool.{Bool, true, false, ◌&&◌, ◌||◌, cond}
use mathlib.Core.List.{List, [], ◌∷◌}
use mathlib.Core.Option.{Option, none, some}
use borrow.Author.Tests.{eq-eqb, ne_eqb}
use lib.Dec.{T, eqb}
use lib.Ieee.{Float, nan}
use lib.ListN.{length, get_or}
use mir.Syntax.{w64}
use mir.Val.{Fits}
use Rattle.laws.specs.Floats.{finite}
use Rattle.rules.specs.Answer.{Res, ok, refused, ◌>>=◌}
use Rattle.rules.specs.Codes.{operator_code, same_operator}
use Rattle.rules.specs.Columns.{entry_numbers}
use Rattle.rules.specs.Dispatch.{Row}
use Rattle.rules.specs.Item.{runs_at}
use Rattle.rules.specs.Operate.{has_penalty}
use Rattle.rules.specs.Value.{World, Mem, Read, Reader, Gathered, own_sources, gather, value_of}
use Rattle.rules.specs.Value as defined
use Rattle.rules.specs.declared.Effect.{Effect}
use Rattle.rules.specs.declared.EffectOperator.{EffectOperator}
use Rattle.rules.specs.declared.Origin.{Origin}
use Rattle.rules.specs.declared.Origin.TheVariants as origin
use Rattle.rules.specs.declared.Refusal.{Refusal}
use Rattle.reading.specs.Held.{EntryHeld, Sourced, is_running}
use Rattle.sources.specs.declared.Recording.{Recording}
use Rattle.sources.specs.Planned.{counts_of, planned_of, planned_if, planned_for, runs_in}
use Rattle.sources.specs.Keeping.{Keeping, Begins}
use Rattle.sources.proofs.Planning.{counts_long}
use Rattle.gather.specs.declared.Pile.{Pile}
use Rattle.gather.specs.Piles.{PileOf, PiledAs, entered, entered_count}
use Rattle.memory.specs.Memory.{value_at, Grows}
use Rattle.memory.specs.Steps.{row_at, entry_at, no_entry, strength_of}
use Rattle.memory.specs.Holding.{Tables, Good, RowTold, Tells, Holds, Ready, Piling, PileMeets, entries_from}
use Rattle.memory.proofs.Growth.{value_grows}
use Rattle.memory.proofs.Gathers.{gather_one, gather_other, from_idle, from-read, strength_grows}
use Rattle.memory.proofs.Entering.{entered_values, same_operator_lem}
use Rattle.memory.specs.Answers.{Returns}
use Rattle.memory.proofs.Fitting.{fits_below}
use Rattle.memory.proofs.Holdings.{Met, met, missed, noted_holds, sources_long, floats_long}

-- the code of an entry's operator is its seventh number
code_at : (e : Effect) → get_or (entry_numbers e) 6 0 ≡ operator_code e.operator
code_at e = by e.origin
  where
    by : (o : Origin) → get_or (entry_numbers (record { origin = o; operator = e.operator; penalty = e.penalty; quantity = e.quantity; resistance = e.resistance; number = e.number })) 6 0 ≡ operator_code e.operator
    by (origin.Effect a b c d) = refl
    by (origin.Buff a b) = refl

running_is : (w : World) (states : List (List ℕ)) (o : Origin) → ((n : ℕ) → n < 1024 → get_or (get_or states n []) 0 0 ≡ defined.state_of w n) → Sourced o → is_running states o ≡ runs_in w o
running_is w states (origin.Effect a b c d) h t = ap (runs_at c) (h b t)
running_is w states (origin.Buff a b) h t = refl

-- as many as are planned
planned_entered : (runs : Bool) (e : Effect) → entered_count runs e ≡ planned_if runs e
planned_entered true e = refl
planned_entered false e = refl

module _ {t : Tables} {run : Recording} {v : List Float} {s : List (List ℕ)} {f : List (List Float)} {i k : ℕ} {high : Bool} {op : EffectOperator} {p : Pile} (h : Piling t run v s f i k high op p) where
  abbrev w : World
  w = h.ready.world

  abbrev m : Mem
  m = h.ready.mem

  abbrev row : Row
  row = row_at w i

  abbrev s₀ : List (List ℕ)
  s₀ = h.ready.sources₀

  abbrev f₀ : List (List Float)
  f₀ = h.ready.floats₀

  abbrev g : Gathered
  g = record { mem = m; values = h.values }

  told : RowTold w t i
  told = h.ready.told.row i h.within

  -- where the entry stands in list 3
  abbrev place : ℕ
  place = get_or (get_or t.rows i []) 2 0 + k

  place_is : place ≡ entries_from w i + k
  place_is = ap (λ (n : ℕ). n + k) told.first

  pub place_inside : (place < length t.entries) × (place < length t.values)
  place_inside = (omega (arith, place_is, told.inside.0, h.inside), omega (arith, place_is, told.inside.1, h.inside))

  pub place-fits : length t.entries < 2 ^ 64 → Fits w64 place
  place-fits short = fits_below place (length t.entries) (omega (arith, place_inside.0)) short

  pub entry-held : EntryHeld (entry_at w i k) (get_or t.entries place []) (get_or t.values place nan)
  entry-held = rw place_is (told.entry k no_entry h.inside)

  -- the row's places in list 5, and its object
  pub entry-begins : {first : ℕ} → first ≡ get_or (get_or t.rows i []) 4 0 → Begins (counts_of w) i first
  entry-begins e = record { row = omega (arith, h.within, counts_long w); place = e ∙ told.place }

  pub entry-object : {object : ℕ} → object ≡ get_or (get_or t.rows i []) 0 0 → row.object ≡ object
  entry-object e = sym (e ∙ h.ready.told.held.object i h.within)

  abbrev Answer : Res Gathered → Result Pile Refusal → List Float → List (List ℕ) → List (List Float) → Type 0
  Answer x r v' s' f' = PileMeets w s₀ f₀ i high op h.found x r v' s' f'

  module _ (left : ℕ) where
    abbrev read : Reader
    read = value_of w left

    abbrev asked : Res Gathered
    asked = gather w i row read op (entry_at w i k ∷ []) g

    unchanged : asked ≡ ok g → Answer asked (Ok p) v s f
    unchanged e = rw e (h.piled, h.ready.holds)

    same_code : get_or (get_or t.entries place []) 6 0 ≡ operator_code (entry_at w i k).operator
    same_code = ap (λ (l : List ℕ). get_or l 6 0) entry-held.numbers ∙ code_at (entry_at w i k)

    pub entry_other : (get_or (get_or t.entries place []) 6 0 ≡ operator_code op → ⊥) → Answer asked (Ok p) v s f
    entry_other n = unchanged (gather_other w i row read op (entry_at w i k) g (ne_eqb (operator_code (entry_at w i k).operator) (operator_code op) (λ e. n (same_code ∙ e))))

    -- the entry x is of the operator
    module _ (x : Effect) (is : x ≡ entry_at w i k) (code : get_or (get_or t.entries place []) 6 0 ≡ operator_code op) where
      pub entry_good : Good x
      entry_good = rw is (told.good k no_entry h.inside)

      same : same_operator x.operator op ≡ true
      same = eq-eqb (operator_code x.operator) (operator_code op) (ap (λ (e : Effect). operator_code e.operator) is ∙ sym same_code ∙ code)

      pub entry_operator : x.operator ≡ op
      entry_operator = same_operator_lem x.operator op same

      pub runs-is : is_running t.states x.origin ≡ runs_in w x.origin
      runs-is = running_is w t.states x.origin h.ready.told.running entry_good.sourced

      asked_is : asked ≡ defined.gather_from w i row read x x.origin g
      asked_is = ap (λ (e : Effect). gather w i row read op (e ∷ []) g) (sym is) ∙ gather_one w i row read op x g same

      pub entry_idle : is_running t.states x.origin ≡ false → run.recording ≡ false → Answer asked (Ok p) v s f
      entry_idle a b = unchanged (asked_is ∙ from_idle w i row read x x.origin g (sym runs-is ∙ a) (h.ready.told.recorded.recording ∙ b))

      module _ (runs : Bool) (r-is : runs ≡ is_running t.states x.origin) (wanted : (runs || run.recording) ≡ true) where
        runs_here : runs ≡ runs_in w x.origin
        runs_here = r-is ∙ runs-is

        abbrev strong : Res Read
        strong = strength_of w read i row x x.origin m

        abbrev adding : Read → Res Gathered
        adding q = entered w i row runs x q.value (record { mem = q.mem; values = h.values })

        read_is : asked ≡ (strong >>= adding)
        read_is =
            asked_is
            ∙ from-read w i row read x x.origin g (ap₂ (λ (a b : Bool). a || b) (sym runs_here) h.ready.told.recorded.recording ∙ wanted)
            ∙ ap (λ (b : Bool). strong >>= λ q. entered w i row b x q.value (record { mem = q.mem; values = h.values })) (sym runs_here)

        pub entry-refused : (y : Refusal) (v' : List Float) (s' : List (List ℕ)) (f' : List (List Float)) → Returns w s₀ f₀ strong (Err y) v' s' f' → Answer asked (Err y) v' s' f'
        entry-refused y v' s' f' a = rw (read_is ∙ ap (λ (q : Res Read). q >>= adding) (missed w s₀ f₀ v' s' f' strong y a)) refl

        module _ (y : Float) (more : ℕ) (v' : List Float) (s' : List (List ℕ)) (f' : List (List Float)) (a : Returns w s₀ f₀ strong (Ok (record { value = y; used = more })) v' s' f') where
          abbrev pub q : Met w s₀ f₀ strong y v' s' f' more
          q = met w s₀ f₀ v' s' f' strong y more a

          abbrev pub after : Gathered
          after = record { mem = q.read.mem; values = h.values }

          grows : Grows m q.read.mem
          grows = strength_grows w i row read (value_grows w left) x x.origin m q.read q.is

          still : value_at q.read.mem i ≡ some row.base
          still = grows.value i row.base h.begun

          own_same : own_sources i q.read.mem ≡ own_sources i m
          own_same = grows.own i row.base h.begun

          pub entry-number : T (finite y)
          entry-number = q.number

          -- the pile with so many source rows of all rows
          pub entry_pile : PileOf (counts_of w) w.room s₀ f₀ i high op h.found after (record { running = p.running; positive = p.positive; negative = p.negative; counts = record { own = p.counts.own; used = more } }) s' f'
          entry_pile =
              record {
                keeping = subst (λ (n : ℕ). Keeping (counts_of w) w.room s₀ f₀ i q.read.mem s' f' n more) (ap length own_same ∙ sym h.piled.keeping.mine) (q.holds.sources i);
                running = h.piled.running;
                positive = h.piled.positive;
                negative = h.piled.negative;
              }

          pub entry-lengths : (run.room ≤ length s') × (run.room ≤ length f') × (p.counts.own ≤ more)
          entry-lengths = (
            omega (arith, sources_long q.holds h.ready.told.roomy.0, h.ready.told.recorded.room),
            omega (arith, floats_long q.holds h.ready.told.roomy.1, h.ready.told.recorded.room),
            omega (arith, h.piled.keeping.mine, ap length own_same, (q.holds.sources i).few i, (q.holds.sources i).all),
          )

          pub entry_room : w.recording ≡ true → length (own_sources i after.mem) + entered_count runs x ≤ get_or (counts_of w) i 0
          entry_room on =
              let planned : planned_for w op (entry_at w i k ∷ []) ≡ entered_count runs x = ap (λ (e : Effect). planned_for w op (e ∷ [])) (sym is)
              ∙ ap (λ (b : Bool). cond b (planned_of w x) 0 + 0) same ∙ omega arith ∙ ap (λ (b : Bool). planned_if b x) (sym runs_here) ∙ sym (planned_entered runs x)
              in
              omega (arith, planned, ap length own_same, h.enough on)

          pub entry-added : (r : Result Pile Refusal) (s'' : List (List ℕ)) (f'' : List (List Float)) → PiledAs (counts_of w) w.room s₀ f₀ i high op h.found (entered w i row runs x y after) r s'' f'' → Answer asked r v' s'' f''
          entry-added r s'' f'' b = rw (read_is ∙ ap (λ (z : Res Read). z >>= adding) q.is ∙ ap (λ (n : Float). entered w i row runs x n after) (sym q.value)) (by (entered w i row runs x y after) refl r b)
            where
              by : (z : Res Gathered) → entered w i row runs x y after ≡ z → (r : Result Pile Refusal) → PiledAs (counts_of w) w.room s₀ f₀ i high op h.found z r s'' f'' → Answer z r v' s'' f''
              by (ok u) e (Ok p) b =
                  let kept = entered_values w i row runs x y after u e in
                  (b, noted_holds q.holds i still u.mem kept.0 kept.2 b.keeping)
              by (ok u) e (Err y) b = absurd b
              by (refused u) e (Ok p) b = absurd b
              by (refused u) e (Err y) b = b
