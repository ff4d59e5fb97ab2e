-- The operators of a row in their order, one after another.
use Rattle.std.specs.Prelude.{Ok, Err}
use Prim.Native.Nat.{ℕ, ◌+◌, ◌-◌, ◌≤◌, ◌<◌}
use native.Mathlib.Omega.{arith}
use mathlib.Core.Path.{◌≡◌, refl, sym, ap, ◌∙◌}
use mathlib.Core.Bool.{Bool, true, false, cond}
use mathlib.Core.List.{List, [], ◌∷◌, ◌++◌}
use mathlib.Core.Option.{some}
use lib.Dec.{T}
use lib.Ieee.{Float, nan}
use lib.ListN.{length, get_or, take, drop, take-append-drop}
use lib.Seq.{take_all}
use Rattle.laws.specs.Floats.{finite}
use Rattle.laws.specs.Lists.{some?, span}
use Rattle.rules.specs.Answer.{Res, ok, refused, ◌>>=◌}
use Rattle.rules.specs.Codes.{operators, operator_code}
use Rattle.rules.specs.Dispatch.{Row}
use Rattle.rules.specs.Value.{World, Mem, Read, Reader, own_sources, operate, value_of}
use Rattle.rules.specs.declared.EffectOperator.{EffectOperator}
use Rattle.rules.specs.declared.EffectOperator.TheVariants.{PreAssign}
use Rattle.rules.specs.declared.Refusal.{Refusal}
use Rattle.operate.proofs.PassedOver.{is_of, operate_none}
use Rattle.reading.specs.Held.{has_code, is_marked}
use Rattle.reading.proofs.Decodes.{mark_left}
use Rattle.sources.specs.declared.Recording.{Recording}
use Rattle.sources.specs.Planned.{counts_of, planned_by, Started, Grown}
use Rattle.sources.proofs.Planning.{counts_long, some_none, operate_gives, leaves-started}
use Rattle.memory.specs.Memory.{value_at}
use Rattle.memory.specs.Steps.{row_at}
use Rattle.memory.specs.Holding.{Tables, RowTold, Holds, Busy}
use Rattle.memory.proofs.Growth.{value_grows, operate_grows}
use Rattle.memory.proofs.Gathers.{operate_append}
use Rattle.memory.proofs.Counting.{by_append}
use Rattle.memory.proofs.Codes.{operators-at, take-operators, has_operator}
use Rattle.memory.specs.Answers.{Returns, PartReturns}
use Rattle.memory.proofs.Holdings.{ready_on, meets-value, meets-refused}

-- what the first operators have made of row i, from memory m on
pub record Operating (w : World) (s₀ : List (List ℕ)) (f₀ : List (List Float)) (left i : ℕ) (m : Mem) (code : ℕ) (v : List Float) (s : List (List ℕ)) (f : List (List Float)) (x : Float) (own used : ℕ) : Type 0 where
  pub sofar : Read
  pub is : operate w i (row_at w i) (value_of w left) (take code operators) (record { value = (row_at w i).base; mem = m }) ≡ ok sofar
  pub value : x ≡ sofar.value
  pub number : T (finite x)
  pub mine : own ≡ length (own_sources i sofar.mem)
  pub holds : Holds w s₀ f₀ sofar.mem v s f used

module _ {t : Tables} {run : Recording} {v₀ : List Float} {s₁ : List (List ℕ)} {f₁ : List (List Float)} {used₀ i : ℕ} (h : Busy t run v₀ s₁ f₁ used₀ i 0 operators) where
  abbrev w : World
  w = h.ready.world

  abbrev m : Mem
  m = h.ready.mem

  abbrev row : Row
  row = row_at w i

  abbrev s₀ : List (List ℕ)
  s₀ = h.ready.sources₀

  abbrev f₀ : List (List Float)
  f₀ = h.ready.floats₀

  abbrev begin : Read
  begin = record { value = row.base; mem = m }

  told : RowTold w t i
  told = h.ready.told.row i h.within

  started : Started i m
  started = record { valued = λ e. some_none (sym h.begun ∙ e); there = omega (arith, h.within, counts_long w, (h.ready.holds.sources i).long) }

  pub base_good : T (finite (get_or t.bases i nan))
  base_good = rw told.base told.number

  pub operating_starts : (left : ℕ) → Operating w s₀ f₀ left i m 0 v₀ s₁ f₁ (get_or t.bases i nan) 0 used₀
  unfolding operate
  operating_starts left = record { sofar = begin; is = refl; value = told.base; number = base_good; mine = h.mine; holds = h.ready.holds }

  -- whether an entry has an operator
  pub has_is : (o : EffectOperator) {first end : ℕ} {b : Bool} → first ≡ get_or (get_or t.rows i []) 2 0 → end ≡ first + get_or (get_or t.rows i []) 3 0
      → b ≡ some? (has_code (operator_code o)) (span first (end - first) t.entries) → b ≡ some? (is_of o) row.entries
  has_is o {first} {end} {b} a c e =
      let count : end - first ≡ length row.entries = omega (arith, c, told.count) in
      let from = a ∙ told.first in
      e ∙ ap (λ (n : ℕ). some? (has_code (operator_code o)) (span first n t.entries)) count ∙ ap (λ (n : ℕ). some? (has_code (operator_code o)) (span n (length row.entries) t.entries)) from
      ∙ has_operator o row.entries t.entries t.values _ told.entry told.inside.0

  pub end_inside : {first end : ℕ} → first ≡ get_or (get_or t.rows i []) 2 0 → end ≡ first + get_or (get_or t.rows i []) 3 0 → end ≤ length t.entries
  end_inside a c = omega (arith, a, c, told.first, told.count, told.inside.0)

  module _ {left code : ℕ} {v : List Float} {s : List (List ℕ)} {f : List (List Float)} {x : Float} {own used : ℕ} (O : Operating w s₀ f₀ left i m code v s f x own used) where
    abbrev read : Reader
    read = value_of w left

    pub grown : value_at O.sofar.mem i ≡ some row.base
    grown = (operate_grows i w row read (value_grows w left) (take code operators) begin O.sofar O.is).value i row.base h.begun

    gives : Grown i m O.sofar.mem (cond w.recording (planned_by w (take code operators) row.entries) 0)
    gives = operate_gives w i row read (leaves-started w left i) (take code operators) begin O.sofar O.is started

    abbrev now : Read
    now = record { value = x; mem = O.sofar.mem }

    now_is : now ≡ O.sofar
    now_is = ap (λ (y : Float). record { value = y; mem = O.sofar.mem }) O.value

    module _ (inside : code < 9) (o : EffectOperator) (of : (p : EffectOperator) → code ≡ operator_code p → o ≡ p) where
      o_is : o ≡ get_or operators code PreAssign
      o_is = of (get_or operators code PreAssign) (sym (operators-at code inside))

      code_is : code ≡ operator_code o
      code_is = sym (ap operator_code o_is ∙ operators-at code inside)

      -- no entry has an operator whose code has no mark
      pub unmarked_none : (marks : List ℕ) {first end : ℕ} → first ≡ get_or (get_or t.rows i []) 2 0 → end ≡ first + get_or (get_or t.rows i []) 3 0
          → ((c : ℕ) → c < 9 → is_marked marks c ≡ some? (has_code c) (span first (end - first) t.entries)) → get_or marks code 0 ≡ 0 → some? (is_of o) row.entries ≡ false
      unmarked_none marks {first} {end} a b e n =
          sym (has_is o a b (e code inside ∙ ap (λ (k : ℕ). some? (has_code k) (span first (end - first) t.entries)) code_is)) ∙ mark_left marks code n

      next : take (code + 1) operators ≡ take code operators ++ (o ∷ [])
      next = take-operators code inside ∙ ap (λ (p : EffectOperator). take code operators ++ (p ∷ [])) (sym o_is)

      split : operators ≡ take (code + 1) operators ++ drop (code + 1) operators
      split = sym (take-append-drop (code + 1) operators)

      pub room_for : w.recording ≡ true → own + planned_by w (o ∷ []) row.entries ≤ get_or (counts_of w) i 0
      room_for on =
          let parts : planned_by w operators row.entries ≡ planned_by w (take code operators) row.entries + planned_by w (o ∷ []) row.entries + planned_by w (drop (code + 1) operators) row.entries =
          ap (λ (l : List EffectOperator). planned_by w l row.entries) split ∙ by_append w (take (code + 1) operators) (drop (code + 1) operators) row.entries
          ∙ ap (λ (n : ℕ). n + planned_by w (drop (code + 1) operators) row.entries) (ap (λ (l : List EffectOperator). planned_by w l row.entries) next ∙ by_append w (take code operators) (o ∷ []) row.entries)
          in
          let more : length (own_sources i O.sofar.mem) ≡ length (own_sources i m) + planned_by w (take code operators) row.entries =
          gives.more ∙ ap (λ (b : Bool). length (own_sources i m) + cond b (planned_by w (take code operators) row.entries) 0) on
          in
          omega (arith, parts, more, h.mine, O.mine, h.enough on)

      abbrev pub busy_now : Busy t run v s f used i own (o ∷ [])
      busy_now = record { ready = ready_on h.ready O.sofar.mem O.holds; within = h.within; begun = grown; mine = O.mine; enough = room_for }

      one_more : operate w i row read (take (code + 1) operators) begin ≡ operate w i row read (o ∷ []) now
      one_more =
          ap (λ (l : List EffectOperator). operate w i row read l begin) next ∙ operate_append w i row read (take code operators) (o ∷ []) begin
          ∙ ap (λ (a : Res Read). a >>= λ b. operate w i row read (o ∷ []) b) O.is ∙ ap (operate w i row read (o ∷ [])) (sym now_is)

      pub operating_next : (y : Float) (a b : ℕ) (v' : List Float) (s' : List (List ℕ)) (f' : List (List Float)) → PartReturns w s₀ f₀ i (operate w i row read (o ∷ []) now) (Ok (record { value = y; counts = record { own = a; used = b } })) v' s' f' → Operating w s₀ f₀ left i m (code + 1) v' s' f' y a b
      operating_next y a b v' s' f' k = by (operate w i row read (o ∷ []) now) one_more k
        where
          by : (z : Res Read) → operate w i row read (take (code + 1) operators) begin ≡ z → PartReturns w s₀ f₀ i z (Ok (record { value = y; counts = record { own = a; used = b } })) v' s' f' → Operating w s₀ f₀ left i m (code + 1) v' s' f' y a b
          by (ok q) e k = record { sofar = q; is = e; value = k.0; number = k.1; mine = k.2; holds = k.3 }
          by (refused q) e k = absurd k

      pub operating_refused : (y : Refusal) (v' : List Float) (s' : List (List ℕ)) (f' : List (List Float)) → PartReturns w s₀ f₀ i (operate w i row read (o ∷ []) now) (Err y) v' s' f' → Returns w s₀ f₀ (operate w i row read operators begin) (Err y) v' s' f'
      operating_refused y v' s' f' k =
          meets-refused w s₀ f₀ v' s' f' (operate w i row read operators begin)
          (ap (λ (l : List EffectOperator). operate w i row read l begin) split ∙ operate_append w i row read (take (code + 1) operators) (drop (code + 1) operators) begin
          ∙ ap (λ (a : Res Read). a >>= λ b. operate w i row read (drop (code + 1) operators) b) (one_more ∙ stops (operate w i row read (o ∷ []) now) k))
        where
          stops : (z : Res Read) → PartReturns w s₀ f₀ i z (Err y) v' s' f' → z ≡ refused y
          stops (ok q) k = absurd k
          stops (refused q) k = ap refused (sym k)

      pub operating_passed : some? (is_of o) row.entries ≡ false → Operating w s₀ f₀ left i m (code + 1) v s f x own used
      unfolding operate
      operating_passed e =
          record {
            sofar = O.sofar;
            is = one_more ∙ operate_none w i row read o [] now e ∙ ap ok now_is;
            value = O.value;
            number = O.number;
            mine = O.mine;
            holds = O.holds;
          }

    pub operating_ends : 9 ≤ code → Returns w s₀ f₀ (operate w i row read operators begin) (Ok (record { value = x; used = used })) v s f
    operating_ends all =
        meets-value w s₀ f₀ v s f (operate w i row read operators begin) O.sofar
        (ap (λ (l : List EffectOperator). operate w i row read l begin) (sym (take_all code operators all)) ∙ O.is) O.value O.number O.holds
