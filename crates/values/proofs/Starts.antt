-- A start that went well leaves its row with a value: where every row is asked for, each has one.
use Prim.Native.Nat.{ℕ, zero, suc, ◌<◌}
use native.Mathlib.Nat.{not-suc-le-zero, le_of_suc-le-suc}
use native.Mathlib.Omega.{arith}
use mathlib.Core.Path.{◌≡◌, refl, sym, ap, subst, ◌∙◌}
use mathlib.Core.List.{List, [], ◌∷◌}
use mathlib.Core.Option.{Option, none, some}
use lib.Ieee.{Float}
use lib.ListN.{length, get_or, length-set}
use lib.Seq.{get_or-set_same}
use Rattle.rules.specs.Answer.{ok}
use Rattle.rules.specs.Dispatch.{Row}
use Rattle.rules.specs.Outcome.{valued}
use Rattle.rules.specs.Value.{World, Mem, Read, Reader, set_value, calculate, value_of}
use Rattle.rules.specs.declared.Ask.{Ask}
use Rattle.reading.specs.Held.{no_row, RowsHeld}
use Rattle.rules.proofs.Results.{apart, got, then}
use Rattle.memory.specs.Memory.{value_at, Grows, GrowingReader}
use Rattle.memory.specs.Steps.{evaluation}
use Rattle.memory.proofs.Growth.{grows_same, grows_on, calculate_grows, value_grows}
use Rattle.memory.proofs.Readings.{known, deep, starting, its_row, calculate_evaluation}
use Rattle.values.specs.Complete.{HasValue, AllValued, ask_of, AllAsked}

pub valued_grows : (w : World) (d : ℕ) (starts : List Ask) (m m' : Mem) → valued w d starts m ≡ ok m' → Grows m m'
unfolding valued
valued_grows w d [] m m' e = subst (Grows m) (got e) (grows_same m)
valued_grows w d (a ∷ r) m m' e =
    let t = then (value_of w d a.object a.attribute_id m) _ m' e in
    grows_on (value_grows w d a.object a.attribute_id m t.given t.first) (valued_grows w d r t.given.mem m' t.rest)

-- a row that is calculated has what the calculation gave
pub calculated_valued : (w : World) (read : Reader) → GrowingReader read → (i : ℕ) (row : Row) (m : Mem) (q : Read) → i < length m.values → value_at m i ≡ none
    → calculate w read i row m ≡ ok q → value_at q.mem i ≡ some q.value
calculated_valued w read growing i row m q h n e =
    let t = then (evaluation w read i row (set_value i row.base m)) _ q (sym (calculate_evaluation w read i row m) ∙ e) in
    ended t.given (got t.rest) (calculate_grows i w row read growing m q n e).values
  where
    ended : (c : Read) → record { value = c.value; mem = set_value i c.value c.mem } ≡ q → length q.mem.values ≡ length m.values → value_at q.mem i ≡ some q.value
    ended c p l =
        let long = ap (λ (y : Read). length y.mem.values) p in
        subst (λ (y : Read). value_at y.mem i ≡ some y.value) p
        (get_or-set_same c.mem.values i (some c.value) none (omega (arith, h, l, long, length-set c.mem.values i (some c.value))))

module _ (w : World) {c : List (List ℕ)} (H : RowsHeld w.rows c) where
  -- row i is asked for
  pub started-valued : (d i : ℕ) (m : Mem) (q : Read) → i < length w.rows → length m.values ≡ length w.rows
      → value_of w d (get_or w.rows i no_row).object (get_or w.rows i no_row).id m ≡ ok q → value_at q.mem i ≡ some q.value
  started-valued d i m q h l = by (value_at m i) refl d
    where
      by : (v : Option Float) → value_at m i ≡ v → (n : ℕ) → value_of w n (get_or w.rows i no_row).object (get_or w.rows i no_row).id m ≡ ok q → value_at q.mem i ≡ some q.value
      by (some v) p n e = subst (λ (y : Read). value_at y.mem i ≡ some y.value) (got (sym (known w (get_or w.rows i no_row).object (get_or w.rows i no_row).id m (its_row H i h) n p) ∙ e)) p
      by none p zero e = absurd (apart (sym (deep w (get_or w.rows i no_row).object (get_or w.rows i no_row).id m (its_row H i h) p) ∙ e))
      by none p (suc n) e =
          calculated_valued w (value_of w n) (value_grows w n) i (get_or w.rows i no_row) m q (omega (arith, h, l)) p
          (sym (starting w (get_or w.rows i no_row).object (get_or w.rows i no_row).id m (its_row H i h) n p) ∙ e)

  -- row i is start j
  asked-valued : (d : ℕ) (starts : List Ask) (m m' : Mem) → valued w d starts m ≡ ok m' → length m.values ≡ length w.rows → (i : ℕ) → i < length w.rows
      → (j : ℕ) → j < length starts → get_or starts j (ask_of no_row) ≡ ask_of (get_or w.rows i no_row) → HasValue m' i
  unfolding valued
  asked-valued d [] m m' e l i h j b p = absurd (not-suc-le-zero b)
  asked-valued d (a ∷ r) m m' e l i h zero b p =
      let t = then (value_of w d a.object a.attribute_id m) _ m' e in
      let its = started-valued d i m t.given h l (ap (λ (x : Ask). value_of w d x.object x.attribute_id m) (sym p) ∙ t.first) in
      record { value = t.given.value; is = (valued_grows w d r t.given.mem m' t.rest).value i t.given.value its }
  asked-valued d (a ∷ r) m m' e l i h (suc j) b p =
      let t = then (value_of w d a.object a.attribute_id m) _ m' e in
      asked-valued d r t.given.mem m' t.rest ((value_grows w d a.object a.attribute_id m t.given t.first).values ∙ l) i h j (le_of_suc-le-suc b) p

  pub all-valued : (d : ℕ) (starts : List Ask) (m m' : Mem) → valued w d starts m ≡ ok m' → length m.values ≡ length w.rows → AllAsked w starts → AllValued w m'
  all-valued d starts m m' e l f i h = let a = f i h in asked-valued d starts m m' e l i h a.at a.inside a.is
