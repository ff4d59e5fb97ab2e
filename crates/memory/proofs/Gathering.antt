-- An operator's entries gathered one after another, and then applied.
use Rattle.std.specs.Prelude.{None, Some, Result, Ok, Err}
use Prim.Native.Nat.{ℕ, ◌+◌, ◌≤◌, ◌<◌}
use native.Mathlib.Omega.{arith}
use mathlib.Core.Path.{◌≡◌, refl, sym, ap, subst, ◌∙◌}
use mathlib.Core.Bool.{Bool, true, false, cond}
use mathlib.Core.List.{List, [], ◌∷◌, ◌++◌, map}
use mathlib.Core.Option.{Option, none, some}
use lib.Dec.{T}
use lib.Ieee.{Float}
use lib.IntN.{ℤ}
use lib.Seq.{take_all}
use lib.ListN.{length, get_or, take, drop, length-drop, take-append-drop}
use mir.Facts.{to_z-of_z}
use mir.Syntax.{w32}
use mir.Val.{to_z}
use Rattle.laws.specs.Floats.{finite}
use Rattle.laws.proofs.Bools.{true_or_false}
use Rattle.laws.specs.Lists.{total}
use Rattle.laws.proofs.Maps.{take_next, map_at}
use Rattle.rules.specs.Answer.{Res, ok, refused, ◌>>=◌}
use Rattle.rules.specs.Dispatch.{Row}
use Rattle.rules.specs.Info.{get_dogma_attribute, high_is_good}
use Rattle.rules.specs.Number.{number_at}
use Rattle.rules.specs.Operate.{Values, has_penalty, applied}
use Rattle.rules.specs.Sheet.{Book, book_of}
use Rattle.rules.specs.Value.{World, Mem, Read, Reader, Gathered, own_sources, nothing, gather, marked_by, operate, value_of}
use Rattle.rules.specs.declared.Effect.{Effect}
use Rattle.rules.specs.declared.EffectOperator.{EffectOperator}
use Rattle.rules.specs.declared.Refusal.{Refusal}
use Rattle.rules.specs.declared.Source.{Source}
use Rattle.rules.specs.Number.{Step}
use Rattle.reading.specs.Held.{no_row}
use Rattle.sources.specs.declared.Recording.{Recording}
use Rattle.sources.specs.Planned.{counts_of, planned_of, planned_for, planned_by, Started, Grown}
use Rattle.sources.specs.Keeping.{Keeping, Begins}
use Rattle.sources.specs.Marks.{Fresh}
use Rattle.sources.proofs.Planning.{counts_long, some_none, gather_gives, leaves-started}
use Rattle.gather.specs.declared.Pile.{Pile}
use Rattle.gather.specs.Piles.{PileOf}
use Rattle.memory.specs.Memory.{value_at}
use Rattle.memory.specs.Steps.{row_at, entry_at, no_entry}
use Rattle.memory.specs.Holding.{Tables, high_at, Tells, Holds, Ready, Busy, Piling, PileMeets}
use Rattle.memory.proofs.Growth.{value_grows, gather_grows}
use Rattle.memory.proofs.Gathers.{gather_append}
use Rattle.memory.proofs.Entering.{gather_fresh, gather_plain, marked_values}
use Rattle.memory.proofs.Counting.{planned_append}
use Rattle.memory.specs.Answers.{AppliedAs, PartReturns, applying}
use Rattle.memory.specs.declared.apply.Part.{Part}
use Rattle.memory.proofs.Holdings.{ready_on, noted_holds, floats_long}

-- what the first k entries of row i gave operator op, which found the value `found`, from memory m on
pub record Gathering (w : World) (s₀ : List (List ℕ)) (f₀ : List (List Float)) (left i : ℕ) (high : Bool) (op : EffectOperator) (found : Float) (m : Mem) (k : ℕ) (v : List Float) (s : List (List ℕ)) (f : List (List Float)) (p : Pile) : Type 0 where
  pub sofar : Gathered
  pub is : gather w i (row_at w i) (value_of w left) op (take k (row_at w i).entries) (record { mem = m; values = nothing }) ≡ ok sofar
  pub piled : PileOf (counts_of w) w.room s₀ f₀ i high op found sofar p s f
  pub holds : Holds w s₀ f₀ sofar.mem v s f p.counts.used

-- none is planned where none is recorded
pub counts-off : (w : World) (i : ℕ) → w.recording ≡ false → i < length w.rows → get_or (counts_of w) i 0 ≡ 0
unfolding counts_of
counts-off w i off t = map_at (λ (r : Row). cond w.recording (total (map (planned_of w) r.entries)) 0) w.rows i no_row 0 t ∙ ap (λ (b : Bool). cond b (total (map (planned_of w) (row_at w i).entries)) 0) off

-- a list of no elements
pub no_length : {A : Type 0} (l : List A) → length l ≤ 0 → l ≡ []
no_length [] h = refl
no_length (x ∷ l) h = absurd (omega (arith, h))

module _ {t : Tables} {run : Recording} {v₀ : List Float} {s₁ : List (List ℕ)} {f₁ : List (List Float)} {used i own : ℕ} {op : EffectOperator} (h : Busy t run v₀ s₁ f₁ used i own (op ∷ [])) where
  abbrev w : World
  w = h.ready.world

  abbrev m : Mem
  m = h.ready.mem

  abbrev row : Row
  row = row_at w i

  abbrev s₀ : List (List ℕ)
  s₀ = h.ready.sources₀

  abbrev f₀ : List (List Float)
  f₀ = h.ready.floats₀

  abbrev begin : Gathered
  begin = record { mem = m; values = nothing }

  pub keeping_now : Keeping (counts_of w) w.room s₀ f₀ i m s₁ f₁ own used
  keeping_now = subst (λ (n : ℕ). Keeping (counts_of w) w.room s₀ f₀ i m s₁ f₁ n used) (sym h.mine) (h.ready.holds.sources i)

  started : Started i m
  started = record { valued = λ e. some_none (sym h.begun ∙ e); there = omega (arith, h.within, counts_long w, keeping_now.long) }

  pub gathering_starts : (left : ℕ) (high : Bool) (found : Float) (p : Pile) → PileOf (counts_of w) w.room s₀ f₀ i high op found begin p s₁ f₁ → p.counts.used ≡ used → Gathering w s₀ f₀ left i high op found m 0 v₀ s₁ f₁ p
  unfolding gather
  gathering_starts left high found p k u =
      record { sofar = begin; is = refl; piled = k; holds = subst (λ (n : ℕ). Holds w s₀ f₀ m v₀ s₁ f₁ n) (sym u) h.ready.holds }

  module _ {left : ℕ} {high : Bool} {found : Float} {k : ℕ} {v : List Float} {s : List (List ℕ)} {f : List (List Float)} {p : Pile} (G : Gathering w s₀ f₀ left i high op found m k v s f p) where
    abbrev read : Reader
    read = value_of w left

    pub grown : value_at G.sofar.mem i ≡ some row.base
    grown = (gather_grows i w row read (value_grows w left) op (take k row.entries) begin G.sofar G.is).value i row.base h.begun

    gives : Grown i m G.sofar.mem (cond w.recording (planned_for w op (take k row.entries)) 0)
    gives = gather_gives w i row read (leaves-started w left i) op (take k row.entries) begin G.sofar G.is started

    module _ (inside : k < length row.entries) where
      abbrev e : Effect
      e = entry_at w i k

      next : take (k + 1) row.entries ≡ take k row.entries ++ (e ∷ [])
      next = take_next row.entries k no_entry inside

      split : row.entries ≡ take (k + 1) row.entries ++ drop (k + 1) row.entries
      split = sym (take-append-drop (k + 1) row.entries)

      pub room_for : w.recording ≡ true → length (own_sources i G.sofar.mem) + planned_for w op (e ∷ []) ≤ get_or (counts_of w) i 0
      room_for on =
          let parts : planned_for w op row.entries ≡ planned_for w op (take k row.entries) + planned_for w op (e ∷ []) + planned_for w op (drop (k + 1) row.entries) =
          ap (planned_for w op) split ∙ planned_append w op (take (k + 1) row.entries) (drop (k + 1) row.entries)
          ∙ ap (λ (n : ℕ). n + planned_for w op (drop (k + 1) row.entries)) (ap (planned_for w op) next ∙ planned_append w op (take k row.entries) (e ∷ []))
          in
          let more : length (own_sources i G.sofar.mem) ≡ length (own_sources i m) + planned_for w op (take k row.entries) = gives.more ∙ ap (λ (b : Bool). length (own_sources i m) + cond b (planned_for w op (take k row.entries)) 0) on in
          omega (arith, parts, more, h.mine, h.enough on)

      abbrev pub piling : Piling t run v s f i k high op p
      piling =
          record {
            ready = ready_on h.ready G.sofar.mem G.holds;
            within = h.within;
            begun = grown;
            inside = inside;
            values = G.sofar.values;
            found = found;
            piled = G.piled;
            enough = room_for;
          }

      -- one entry more
      module _ (v' : List Float) (s' : List (List ℕ)) (f' : List (List Float)) where
        one_more : gather w i row read op (take (k + 1) row.entries) begin ≡ gather w i row read op (e ∷ []) G.sofar
        one_more =
            ap (λ (l : List Effect). gather w i row read op l begin) next ∙ gather_append w i row read op (take k row.entries) (e ∷ []) begin
            ∙ ap (λ (x : Res Gathered). x >>= λ g. gather w i row read op (e ∷ []) g) G.is

        abbrev Answer : Res Gathered → Result Pile Refusal → Type 0
        Answer x r = PileMeets w s₀ f₀ i high op found x r v' s' f'

        pub gathering_next : (p' : Pile) → Answer (gather w i row read op (e ∷ []) G.sofar) (Ok p') → Gathering w s₀ f₀ left i high op found m (k + 1) v' s' f' p'
        gathering_next p' a = by (gather w i row read op (e ∷ []) G.sofar) one_more a
          where
            by : (x : Res Gathered) → gather w i row read op (take (k + 1) row.entries) begin ≡ x → Answer x (Ok p') → Gathering w s₀ f₀ left i high op found m (k + 1) v' s' f' p'
            by (ok g) q b = record { sofar = g; is = q; piled = b.0; holds = b.1 }
            by (refused y) q b = absurd b

        operate-refused : (y : Refusal) → Answer (gather w i row read op (e ∷ []) G.sofar) (Err y) → operate w i row read (op ∷ []) (record { value = found; mem = m }) ≡ refused y
        unfolding operate
        operate-refused y a = ap (λ (x : Res Gathered). x >>= λ g. number_at row.object (applied (high_is_good (get_dogma_attribute w.book row.id)) op found g.values) >>= λ n. ok (record { value = n; mem = marked_by i g })) whole
          where
            stops : (x : Res Gathered) → gather w i row read op (take (k + 1) row.entries) begin ≡ x → Answer x (Err y) → gather w i row read op (take (k + 1) row.entries) begin ≡ refused y
            stops (ok g) q b = absurd b
            stops (refused r) q b = q ∙ ap refused (sym b)

            whole : gather w i row read op row.entries begin ≡ refused y
            whole =
                ap (λ (l : List Effect). gather w i row read op l begin) split ∙ gather_append w i row read op (take (k + 1) row.entries) (drop (k + 1) row.entries) begin
                ∙ ap (λ (x : Res Gathered). x >>= λ g. gather w i row read op (drop (k + 1) row.entries) g) (stops (gather w i row read op (e ∷ []) G.sofar) one_more a)

        pub gathering_refused : (y : Refusal) → Answer (gather w i row read op (e ∷ []) G.sofar) (Err y) → PartReturns w s₀ f₀ i (operate w i row read (op ∷ []) (record { value = found; mem = m })) (Err y) v' s' f'
        gathering_refused y a = rw (operate-refused y a) refl

    pub floats_there : run.room ≤ length f
    floats_there = omega (arith, floats_long G.holds h.ready.told.roomy.1, h.ready.told.recorded.room)

    -- all of them
    module _ (all : length row.entries ≤ k) where
      gathered_all : gather w i row read op row.entries begin ≡ ok G.sofar
      gathered_all = ap (λ (l : List Effect). gather w i row read op l begin) (sym (take_all k row.entries all)) ∙ G.is

      pub begins : {first : ℕ} → first ≡ get_or (get_or t.rows i []) 4 0 → Begins (counts_of w) i first
      begins e = record { row = omega (arith, h.within, counts_long w); place = e ∙ (h.ready.told.row i h.within).place }

      pub all-fresh : w.recording ≡ true → Fresh (own_sources i G.sofar.mem) (G.sofar.values.positive ++ G.sofar.values.negative)
      all-fresh on = gather_fresh w i row read op row.entries m row.base G.sofar on (value_grows w left) h.begun started.there gathered_all

      pub none_recorded : w.recording ≡ false → own_sources i G.sofar.mem ≡ []
      none_recorded off = no_length (own_sources i G.sofar.mem) (omega (arith, G.piled.keeping.fits i, counts-off w i off h.within))

      pub all_plain : has_penalty op ≡ false → (G.sofar.values.positive ≡ []) × (G.sofar.values.negative ≡ [])
      all_plain e = gather_plain w i row read op row.entries m G.sofar e gathered_all

      abbrev Applied : Res Read → Result Part Refusal → List (List ℕ) → List (List Float) → Type 0
      Applied x r s' f' = AppliedAs (counts_of w) w.room s₀ f₀ i x r s' f'

      abbrev asked : Res Read
      asked = operate w i row read (op ∷ []) (record { value = found; mem = m })

      asked_is : ((x : Float) (g : Values) → applied high op x g ≡ applied (high_is_good (get_dogma_attribute w.book row.id)) op x g) → asked ≡ applying row high op found i G.sofar
      unfolding operate applying
      asked_is z =
          ap (λ (x : Res Gathered). x >>= λ g. number_at row.object (applied (high_is_good (get_dogma_attribute w.book row.id)) op found g.values) >>= λ n. ok (record { value = n; mem = marked_by i g })) gathered_all
          ∙ ap (λ (x : Step). number_at row.object x >>= λ n. ok (record { value = n; mem = marked_by i G.sofar })) (sym (z found G.sofar.values))

      -- what is applied keeps the values
      marked-holds : {s' : List (List ℕ)} {f' : List (List Float)} {a b : ℕ} → Keeping (counts_of w) w.room s₀ f₀ i (marked_by i G.sofar) s' f' a b → Holds w s₀ f₀ (marked_by i G.sofar) v s' f' b
      marked-holds kept =
          let same = marked_values i G.sofar in
          noted_holds G.holds i grown (marked_by i G.sofar) same.0 same.2 kept

      pub gathering_applied : ((x : Float) (g : Values) → applied high op x g ≡ applied (high_is_good (get_dogma_attribute w.book row.id)) op x g) → (r : Result Part Refusal) (s' : List (List ℕ)) (f' : List (List Float)) → Applied (applying row high op found i G.sofar) r s' f' → PartReturns w s₀ f₀ i asked r v s' f'
      unfolding applying number_at
      gathering_applied z r s' f' a = rw (asked_is z) (by (applied high op found G.sofar.values) r a)
        where
          by : (x : Step) (r : Result Part Refusal) → Applied (number_at row.object x >>= λ n. ok (record { value = n; mem = marked_by i G.sofar })) r s' f' → PartReturns w s₀ f₀ i (number_at row.object x >>= λ n. ok (record { value = n; mem = marked_by i G.sofar })) r v s' f'
          by (Some n) (Ok p) q = (q.0, q.1, q.2.mine, marked-holds q.2)
          by (Some n) (Err y) q = absurd q
          by None (Ok p) q = absurd q
          by None (Err y) q = q

-- a row's attribute by the numbers of list 2
pub high_is : {t : Tables} {run : Recording} {v : List Float} {s : List (List ℕ)} {f : List (List Float)} {used : ℕ} (h : Ready t run v s f used) (i : ℕ) → i < length h.world.rows
    → high_at t i ≡ high_is_good (get_dogma_attribute h.world.book (row_at h.world i).id)
high_is {t} h i inside =
    ap (λ (a : ℤ). high_is_good (get_dogma_attribute (book_of t.book t.pairs) a)) (ap (to_z w32) (h.told.held.id i inside) ∙ to_z-of_z (h.told.held.narrow i inside))
    ∙ ap (λ (k : Book). high_is_good (get_dogma_attribute k (row_at h.world i).id)) (sym h.told.records)
