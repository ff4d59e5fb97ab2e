-- What stands in an entry's numbers stands for the entry.
use Rattle.std.specs.Prelude.{None, Some}
use Prim.Native.Nat.{ℕ, suc, ◌+◌, ◌-◌, ◌≤◌, ◌<◌}
use native.Mathlib.Omega.{arith}
use mathlib.Core.Path.{◌≡◌, refl, sym, ap, ◌∙◌}
use mathlib.Core.Bool.{Bool, true, false, not, ◌||◌}
use mathlib.Core.List.{List, [], ◌∷◌, ◌++◌, map}
use mathlib.Core.Option.{Option, none, some}
use lib.Dec.{eqb}
use lib.IntN.{ℤ}
use lib.Ieee.{Float}
use lib.ListN.{length, get_or, set, length-set, get_or-replicate}
use lib.Seq.{get_or-set_same, get_or-set_other}
use mir.Syntax.{w32}
use mir.Val.{SFits, to_z, of_z}
use mir.Facts.{to_z-of_z}
use borrow.Author.Tests.{eqb-true, eqb-false, eq-eqb, ne_eqb}
use Rattle.laws.proofs.Bools.{or_none_right}
use Rattle.laws.specs.Lists.{some?, span}
use Rattle.laws.proofs.Scans.{some_step, some_done}
use Rattle.laws.proofs.Spans.{span_left, span_end}
use Rattle.rules.specs.Codes.{category_at, category_code, operator_at, operator_code, same_operator}
use Rattle.rules.specs.Item.{runs_at}
use Rattle.rules.specs.Columns.{yes1, origin_numbers, origin_value, optional_numbers, entry_numbers}
use Rattle.rules.specs.declared.Effect.{Effect}
use Rattle.rules.specs.declared.EffectCategory.{EffectCategory}
use Rattle.rules.specs.declared.EffectOperator.{EffectOperator}
use Rattle.rules.specs.declared.Origin.{Origin}
use Rattle.rules.specs.declared.Origin.TheVariants as origin
use Rattle.rules.specs.Ids.{OptionalId}
use Rattle.item.proofs.Back.{category_back, operator_back}
use Rattle.info.specs.Stands.{NarrowOrigin, NarrowId}
use Rattle.reading.specs.Held.{EntryHeld, is_running, has_code, is_marked}

-- ---- codes

pub the_one : {A : Type 0} {o : Option A} {x y : A} → some x ≡ o → o ≡ some y → x ≡ y
the_one e f = cc

pub not_none : {A : Type 0} {o : Option A} {x y : A} → none ≡ o → o ≡ some y → x ≡ y
not_none e f = let z : ◌≡◌ {A = ℕ} 0 1 = cc in absurd (omega arith)

pub category_coded : (code : ℕ) (c : EffectCategory) → code ≡ category_code c → category_at code ≡ some c
category_coded code c e = ap category_at e ∙ category_back c

pub operator_coded : (code : ℕ) (o : EffectOperator) → code ≡ operator_code o → operator_at code ≡ some o
operator_coded code o e = ap operator_at e ∙ operator_back o

-- ---- ids

-- the bits of a narrow id, read
read_back : (x : ℤ) {n : ℕ} (a : ℤ) → SFits w32 a → of_z w32 x ≡ n → n ≡ of_z w32 a → to_z w32 (of_z w32 x) ≡ a
read_back x a f e h = ap (to_z w32) (e ∙ h) ∙ to_z-of_z f

pub id-given : {given n : ℕ} (x : ℤ) → of_z w32 x ≡ n → given ≡ 1 → (o : OptionalId) → NarrowId o → given ≡ get_or (optional_numbers o) 0 0 → n ≡ get_or (optional_numbers o) 1 0 → Some (to_z w32 (of_z w32 x)) ≡ o
id-given x r t None f g h = absurd (omega arith)
id-given x r t (Some a) f g h = ap Some (read_back x a f r h)

pub id_absent : {given n : ℕ} → (given ≡ 1 → ⊥) → (o : OptionalId) → NarrowId o → given ≡ get_or (optional_numbers o) 0 0 → n ≡ get_or (optional_numbers o) 1 0 → None ≡ o
id_absent t None f g h = refl
id_absent t (Some a) f g h = absurd (t g)

-- ---- origins

module _ {e : List ℕ} {value : Float} where
  pub from_effect : get_or e 0 0 ≡ 0 → (x z : ℤ) {c : EffectCategory} → of_z w32 x ≡ get_or e 1 0 → ((k : EffectCategory) → get_or e 3 0 ≡ category_code k → c ≡ k) → of_z w32 z ≡ get_or e 4 0
      → (g : Origin) (rest : List ℕ) → NarrowOrigin g → e ≡ origin_numbers g ++ rest → value ≡ origin_value g → origin.Effect (to_z w32 (of_z w32 x)) (get_or e 2 0) c (to_z w32 (of_z w32 z)) ≡ g
  from_effect t x z {c} ex ec ez (origin.Effect f s k a) rest n h v =
      let p = read_back x f n.0 ex (ap (λ (l : List ℕ). get_or l 1 0) h) in
      let q = ap (λ (l : List ℕ). get_or l 2 0) h in
      let r = ec k (ap (λ (l : List ℕ). get_or l 3 0) h) in
      let u = read_back z a n.1 ez (ap (λ (l : List ℕ). get_or l 4 0) h) in
      cc
  from_effect t x z ex ec ez (origin.Buff b w) rest n h v = absurd (omega (arith, ap (λ (l : List ℕ). get_or l 0 0) h))

  pub from_buff : (get_or e 0 0 ≡ 0 → ⊥) → (x : ℤ) → of_z w32 x ≡ get_or e 5 0
      → (g : Origin) (rest : List ℕ) → NarrowOrigin g → e ≡ origin_numbers g ++ rest → value ≡ origin_value g → origin.Buff (to_z w32 (of_z w32 x)) value ≡ g
  from_buff t x ex (origin.Effect f s k a) rest n h v = absurd (t (ap (λ (l : List ℕ). get_or l 0 0) h))
  from_buff t x ex (origin.Buff b w) rest n h v =
      let p = read_back x b n ex (ap (λ (l : List ℕ). get_or l 5 0) h) in
      cc

-- ---- entries

past_origin : (g : Origin) (r : List ℕ) (k : ℕ) → get_or (origin_numbers g ++ r) (suc (suc (suc (suc (suc (suc k)))))) 0 ≡ get_or r k 0
past_origin (origin.Effect f s c a) r k = refl
past_origin (origin.Buff b v) r k = refl

flagged : (t : Bool) → eqb (yes1 t) 1 ≡ t
flagged true = refl
flagged false = refl

abbrev tail : Effect → List ℕ
tail e = operator_code e.operator ∷ yes1 e.penalty ∷ e.quantity ∷ (optional_numbers e.resistance ++ (e.number ∷ []))

-- an id's two numbers, and what stands behind them
id_flag : (i : OptionalId) (n : ℕ) → get_or (optional_numbers i ++ (n ∷ [])) 0 0 ≡ get_or (optional_numbers i) 0 0
id_flag None n = refl
id_flag (Some a) n = refl

id-bits : (i : OptionalId) (n : ℕ) → get_or (optional_numbers i ++ (n ∷ [])) 1 0 ≡ get_or (optional_numbers i) 1 0
id-bits None n = refl
id-bits (Some a) n = refl

past_id : (i : OptionalId) (n : ℕ) → get_or (optional_numbers i ++ (n ∷ [])) 2 0 ≡ n
past_id None n = refl
past_id (Some a) n = refl

made : (e : Effect) {o : Origin} {p : EffectOperator} {t : Bool} {q : ℕ} {i : OptionalId} {n : ℕ} → o ≡ e.origin → p ≡ e.operator → t ≡ e.penalty → q ≡ e.quantity → i ≡ e.resistance → n ≡ e.number
    → record { origin = o; operator = p; penalty = t; quantity = q; resistance = i; number = n } ≡ e
made e a b c d f g = rw (a, b, c, d, f, g)

module _ {e : List ℕ} {value : Float} where
  pub entry_read : {o : Origin} {p : EffectOperator} {i : OptionalId}
      → ((g : Origin) (rest : List ℕ) → NarrowOrigin g → e ≡ origin_numbers g ++ rest → value ≡ origin_value g → o ≡ g)
      → ((k : EffectOperator) → get_or e 6 0 ≡ operator_code k → p ≡ k)
      → ((k : OptionalId) → NarrowId k → get_or e 9 0 ≡ get_or (optional_numbers k) 0 0 → get_or e 10 0 ≡ get_or (optional_numbers k) 1 0 → i ≡ k)
      → (x : Effect) → EntryHeld x e value → record { origin = o; operator = p; penalty = eqb (get_or e 7 0) 1; quantity = get_or e 8 0; resistance = i; number = get_or e 11 0 } ≡ x
  entry_read fo fp fi x h =
      made x (fo x.origin (tail x) h.origin h.numbers h.value) (fp x.operator (at 0)) (ap (λ (n : ℕ). eqb n 1) (at 1) ∙ flagged x.penalty) (at 2)
      (fi x.resistance h.resistance (at 3 ∙ id_flag x.resistance x.number) (at 4 ∙ id-bits x.resistance x.number)) (at 5 ∙ past_id x.resistance x.number)
    where
      at : (k : ℕ) → get_or e (suc (suc (suc (suc (suc (suc k)))))) 0 ≡ get_or (tail x) k 0
      at k = ap (λ (l : List ℕ). get_or l (suc (suc (suc (suc (suc (suc k)))))) 0) h.numbers ∙ past_origin x.origin (tail x) k

-- whether an effect runs, its source at place s
pub effect_runs : (states : List (List ℕ)) {g : Origin} {f : ℤ} {o : ℕ} {c : EffectCategory} {a : ℤ} {s : ℕ} {r : Bool} → g ≡ origin.Effect f o c a → s ≡ o
    → r ≡ runs_at c (get_or (get_or states s []) 0 0) → r ≡ is_running states g
effect_runs states {g} {f} {o} {c} {a} e h r = r ∙ ap (λ (n : ℕ). runs_at c (get_or (get_or states n []) 0 0)) h ∙ sym (ap (is_running states) e)

-- an entry of an operator by the codes is one by the definition
pub some_of : (op : EffectOperator) (es : List Effect) → some? (has_code (operator_code op)) (map entry_numbers es) ≡ some? (λ e. same_operator e.operator op) es
some_of op [] = refl
some_of op (e ∷ es) = rw (past_origin e.origin (tail e) 0, some_of op es)

-- ---- marks at the codes of the places first to i: what is left of the places to e decides the others

pub record Marks (l : List (List ℕ)) (first e i : ℕ) (m : List ℕ) : Type 0 where
  pub long : length m ≡ 9
  pub is : (c : ℕ) → c < 9 → is_marked m c || some? (has_code c) (span i (e - i) l) ≡ some? (has_code c) (span first (e - first) l)

abbrev no_marks : List ℕ
no_marks = 0 ∷ 0 ∷ 0 ∷ 0 ∷ 0 ∷ 0 ∷ 0 ∷ 0 ∷ 0 ∷ []

none_marked : (c : ℕ) → c < 9 → get_or no_marks c 0 ≡ 0
none_marked c h = get_or-replicate 9 c 0 0 h

pub marks_none : (l : List (List ℕ)) (first e : ℕ) → Marks l first e first no_marks
marks_none l first e = record { long = refl; is = λ c h. ap (λ (n : ℕ). not (eqb n 0) || some? (has_code c) (span first (e - first) l)) (none_marked c h) }

-- one that is there
or_there : (a rest : Bool) → a || (true || rest) ≡ true
or_there true rest = refl
or_there false rest = refl

-- no mark, as the code tests it
pub mark_left : (m : List ℕ) (c : ℕ) → get_or m c 0 ≡ 0 → is_marked m c ≡ false
mark_left m c e = ap not (eq-eqb (get_or m c 0) 0 e)

module _ (l : List (List ℕ)) (first e i : ℕ) {m : List ℕ} (inside : e ≤ length l) (M : Marks l first e i m) where
  pub marks_all : e ≤ i → (c : ℕ) → c < 9 → is_marked m c ≡ some? (has_code c) (span first (e - first) l)
  marks_all h c b = sym (ap (λ (t : Bool). is_marked m c || t) (some_done (has_code c) (span_end i e l h)) ∙ or_none_right (is_marked m c)) ∙ M.is c b

  module _ (h : i < e) {code : ℕ} (is : code ≡ get_or (get_or l i []) 6 0) where
    abbrev rest : ℕ → Bool
    rest c = some? (has_code c) (span (i + 1) (e - (i + 1)) l)

    step : (c : ℕ) → some? (has_code c) (span i (e - i) l) ≡ eqb code c || rest c
    step c = some_step (has_code c) (span_left i e l [] h (omega arith)) ∙ ap (λ (n : ℕ). eqb n c || rest c) (sym is)

    -- another code: the mark is as it was
    beside : (c : ℕ) → c < 9 → (code ≡ c → ⊥) → is_marked m c || rest c ≡ some? (has_code c) (span first (e - first) l)
    beside c b n = sym (ap (λ (t : Bool). is_marked m c || t) (step c ∙ ap (λ (t : Bool). t || rest c) (ne_eqb code c n))) ∙ M.is c b

    pub marks_past : 9 ≤ code → Marks l first e (i + 1) m
    marks_past p = record { long = M.long; is = λ c b. beside c b (λ q. omega (arith, p, b, q)) }

    pub marks_on : code < 9 → Marks l first e (i + 1) (set m code 1)
    marks_on p = record { long = length-set m code 1 ∙ M.long; is = λ c b. at c b (eqb code c) refl }
      where
        at : (c : ℕ) → c < 9 → (t : Bool) → eqb code c ≡ t → is_marked (set m code 1) c || rest c ≡ some? (has_code c) (span first (e - first) l)
        at c b true q =
            ap (λ (n : ℕ). not (eqb n 0) || rest c) (ap (λ (k : ℕ). get_or (set m code 1) k 0) (sym (eqb-true code c q)) ∙ get_or-set_same m code 1 0 (omega (arith, p, M.long)))
            ∙ sym (sym (M.is c b) ∙ ap (λ (t : Bool). is_marked m c || t) (step c ∙ ap (λ (t : Bool). t || rest c) q) ∙ or_there (is_marked m c) (rest c))
        at c b false q =
            ap (λ (n : ℕ). not (eqb n 0) || rest c) (get_or-set_other m code c 1 0 (λ s. eqb-false code c q (sym s)))
            ∙ beside c b (eqb-false code c q)
