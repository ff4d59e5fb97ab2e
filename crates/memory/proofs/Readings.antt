-- Reading an attribute: where its row stands, what is read off the memory, and the steps of a calculation as equations.
use Prim.Native.Nat.{ℕ, zero, suc, ◌+◌, ◌<◌}
use native.Mathlib.Nat.{not-suc-le-zero, le_of_suc-le-suc, add-zero, zero-add}
use native.Mathlib.Omega.{arith}
use mathlib.Core.Path.{◌≡◌, refl, sym, ap, subst, ◌∙◌}
use mathlib.Core.Bool.{true, false}
use mathlib.Core.List.{List, [], ◌∷◌}
use mathlib.Core.Option.{Option, none, some}
use borrow.Author.Tests.{eq-eqb}
use lib.Ieee.{Float}
use lib.IntN.{ℤ, pos}
use lib.ListN.{length, get_or}
use Rattle.laws.specs.Lists.{eq_z, every?, some?}
use Rattle.laws.proofs.Bools.{and_both, and_left, and_right}
use Rattle.laws.proofs.Every.{every_at}
use Rattle.laws.proofs.Order.{eq_z_same, eq_z_refl}
use Rattle.rules.specs.Answer.{Res, ok, refused, ◌>>=◌}
use Rattle.rules.specs.Codes.{operators}
use Rattle.rules.specs.Dispatch.{Row}
use Rattle.rules.specs.Info.{get_dogma_attribute}
use Rattle.rules.specs.Value.{World, Mem, Read, Reader, Found, operate, clamped, at_least, at_most, set_value, calculate, calculated_value, value_of, find_row}
use Rattle.rules.specs.declared.EffectOperator.{EffectOperator}
use Rattle.rules.specs.declared.Refusal.TheVariants.{Depth}
use Rattle.reading.specs.Held.{no_row, row_before, ascending, RowsHeld, index_of}
use Rattle.reading.proofs.Orders.{before-apart}
use Rattle.reading.proofs.Finds.{found_in}
use Rattle.operate.proofs.PassedOver.{is_of, operate_none}
use Rattle.rules.proofs.Results.{bind_same}
use Rattle.memory.specs.Memory.{value_at}
use Rattle.memory.specs.Steps.{evaluation}

-- ---- reading: absent, valued, or to be calculated

module _ (w : World) (start : ℕ → Row → Mem → Res Read) (o : ℕ) (a : ℤ) (m : Mem) where
  read_absent : find_row o a 0 w.rows ≡ none → calculated_value w start o a m ≡ ok (record { value = (get_dogma_attribute w.book a).default_value; mem = m })
  unfolding calculated_value
  read_absent e = rw (calculated_value, e) refl

  read_known : (f : Found) (v : Float) → find_row o a 0 w.rows ≡ some f → value_at m f.index ≡ some v → calculated_value w start o a m ≡ ok (record { value = v; mem = m })
  unfolding calculated_value
  read_known f v e h = rw (calculated_value, e, h) refl

  read-start : (f : Found) → find_row o a 0 w.rows ≡ some f → value_at m f.index ≡ none → calculated_value w start o a m ≡ start f.index f.row m
  unfolding calculated_value
  read-start f e h = rw (calculated_value, e, h) refl

module _ (w : World) (o : ℕ) (a : ℤ) (m : Mem) where
  pub absent : (d : ℕ) → find_row o a 0 w.rows ≡ none → value_of w d o a m ≡ ok (record { value = (get_dogma_attribute w.book a).default_value; mem = m })
  unfolding value_of
  absent zero e = read_absent w (λ i row m'. refused (Depth o)) o a m e
  absent (suc d) e = read_absent w (λ i row m'. calculate w (value_of w d) i row m') o a m e

  module _ {f : Found} (e : find_row o a 0 w.rows ≡ some f) where
    pub known : (d : ℕ) {v : Float} → value_at m f.index ≡ some v → value_of w d o a m ≡ ok (record { value = v; mem = m })
    unfolding value_of
    known zero {v} h = read_known w (λ i row m'. refused (Depth o)) o a m f v e h
    known (suc d) {v} h = read_known w (λ i row m'. calculate w (value_of w d) i row m') o a m f v e h

    pub deep : value_at m f.index ≡ none → value_of w 0 o a m ≡ refused (Depth o)
    unfolding value_of
    deep h = read-start w (λ i row m'. refused (Depth o)) o a m f e h

    pub starting : (d : ℕ) → value_at m f.index ≡ none → value_of w (suc d) o a m ≡ calculate w (value_of w d) f.index f.row m
    unfolding value_of
    starting d h = read-start w (λ i row m'. calculate w (value_of w d) i row m') o a m f e h

-- ---- rows

abbrev found : ℕ → Row → Found
found i r = record { index = i; row = r }

-- of rows that ascend each is the first of its key
its_first : (k : ℕ) (rs : List Row) (i : ℕ) (d : Row) → ascending rs ≡ true → i < length rs
    → find_row (get_or rs i d).object (get_or rs i d).id k rs ≡ some (found (k + i) (get_or rs i d))
unfolding find_row
its_first k [] i d e h = absurd (not-suc-le-zero h)
its_first k (r ∷ rs) zero d e h =
    rw (find_row, and_both (eq-eqb r.object r.object refl) (eq_z_refl r.id)) (ap (λ (n : ℕ). some (found n r)) (sym (add-zero k)))
its_first k (r ∷ rs) (suc i) d e h =
    rw (find_row, before-apart r.object r.id (get_or rs i d).object (get_or rs i d).id (every_at (λ s. row_before s.object s.id r) rs i d (and_left (every? (λ s. row_before s.object s.id r) rs) (ascending rs) e) (le_of_suc-le-suc h)))
    (its_first (suc k) rs i d (and_right (every? (λ s. row_before s.object s.id r) rs) (ascending rs) e) (le_of_suc-le-suc h)
    ∙ ap (λ (n : ℕ). some (found n (get_or rs i d))) (omega arith))

module _ {rs : List Row} {c : List (List ℕ)} (H : RowsHeld rs c) where
  pub its_row : (i : ℕ) → i < length rs → find_row (get_or rs i no_row).object (get_or rs i no_row).id 0 rs ≡ some (record { index = i; row = get_or rs i no_row })
  its_row i h = its_first 0 rs i no_row H.ordered h ∙ ap (λ (n : ℕ). some (found n (get_or rs i no_row))) (zero-add i)

-- what the place of a row found, or not found, says
module _ (rs : List Row) (o : ℕ) (a : ℤ) where
  pub at_row : {i : ℕ} → some i ≡ index_of (find_row o a 0 rs) → (i < length rs) × (o ≡ (get_or rs i no_row).object) × (a ≡ (get_or rs i no_row).id)
  at_row {i} = by (find_row o a 0 rs) refl
    where
      by : (f : Option Found) → find_row o a 0 rs ≡ f → some i ≡ index_of f → (i < length rs) × (o ≡ (get_or rs i no_row).object) × (a ≡ (get_or rs i no_row).id)
      by none p e = let z : ◌≡◌ {A = ℕ} 0 1 = cc in absurd (omega arith)
      by (some f) p e =
          let g = found_in o a rs f p in
          let h : f.index ≡ i = cc in
          subst (λ (n : ℕ). (n < length rs) × (o ≡ (get_or rs n no_row).object) × (a ≡ (get_or rs n no_row).id)) h
          (g.within, sym g.object ∙ ap (λ (r : Row). r.object) (g.row no_row), sym g.id ∙ ap (λ (r : Row). r.id) (g.row no_row))

  pub nowhere : none ≡ index_of (find_row o a 0 rs) → find_row o a 0 rs ≡ none
  nowhere = by (find_row o a 0 rs)
    where
      by : (f : Option Found) → none ≡ index_of f → f ≡ none
      by none e = refl
      by (some f) e = let z : ◌≡◌ {A = ℕ} 0 1 = cc in absurd (omega arith)

-- ---- a calculation

pub bind_assoc : {A B C : Type 0} (x : Res A) (f : A → Res B) (g : B → Res C) → (x >>= f >>= g) ≡ (x >>= λ a. f a >>= g)
bind_assoc (ok a) f g = refl
bind_assoc (refused y) f g = refl

-- a limit of 0 is none; another is read
module _ (o : ℕ) (read : Reader) (clamp : Float → Float → Float) (a : ℤ) (r : Read) where
  pub clamp_none : a ≡ pos 0 → clamped o read clamp a r ≡ ok r
  unfolding clamped
  clamp_none e = rw (clamped, eq_z_same a (pos 0) e) refl

  pub clamp_read : eq_z a (pos 0) ≡ false → clamped o read clamp a r ≡ (read o a r.mem >>= λ q. ok (record { value = clamp r.value q.value; mem = q.mem }))
  unfolding clamped
  clamp_read e = rw (clamped, e) refl

module _ (w : World) (read : Reader) (i : ℕ) (row : Row) where
  abbrev operated : Mem → Res Read
  operated m = operate w i row read operators (record { value = row.base; mem = m })

  abbrev raised : Read → Res Read
  raised a = clamped row.object read at_least (get_dogma_attribute w.book row.id).min_attribute_id a

  abbrev lowered : Read → Res Read
  lowered b = clamped row.object read at_most (get_dogma_attribute w.book row.id).max_attribute_id b

  -- the three steps, one after another
  evaluation_is : (m : Mem) → evaluation w read i row m ≡ (operated m >>= λ a. raised a >>= lowered)
  unfolding evaluation
  evaluation_is m = refl

  module _ (m : Mem) where
    module _ {a : Read} (e : operated m ≡ ok a) where
      pub evaluation_operated : evaluation w read i row m ≡ (raised a >>= λ b. lowered b)
      evaluation_operated = evaluation_is m ∙ ap (λ (x : Res Read). x >>= λ a. raised a >>= lowered) e

      pub evaluation_raised : {b : Read} → raised a ≡ ok b → evaluation w read i row m ≡ lowered b
      evaluation_raised h = evaluation_operated ∙ ap (λ (x : Res Read). x >>= lowered) h

  -- without limits the operators are all
  pub evaluation_free : (get_dogma_attribute w.book row.id).min_attribute_id ≡ pos 0 → (get_dogma_attribute w.book row.id).max_attribute_id ≡ pos 0
      → (m : Mem) → evaluation w read i row m ≡ operated m
  evaluation_free low high m =
      evaluation_is m
      ∙ bind_same (operated m) (λ a. raised a >>= lowered) ok
      (λ a. ap (λ (x : Res Read). x >>= lowered) (clamp_none row.object read at_least (get_dogma_attribute w.book row.id).min_attribute_id a low)
      ∙ clamp_none row.object read at_most (get_dogma_attribute w.book row.id).max_attribute_id a high)
      ∙ bind_ok (operated m)
    where
      bind_ok : (x : Res Read) → (x >>= ok) ≡ x
      bind_ok (ok a) = refl
      bind_ok (refused y) = refl

  -- the row is started at its base, and ends with the value
  pub calculate_evaluation : (m : Mem) → calculate w read i row m ≡ (evaluation w read i row (set_value i row.base m) >>= λ c. ok (record { value = c.value; mem = set_value i c.value c.mem }))
  unfolding calculate
  calculate_evaluation m = sym (
      ap (λ (x : Res Read). x >>= ended) (evaluation_is (set_value i row.base m))
      ∙ bind_assoc (operated (set_value i row.base m)) (λ a. raised a >>= lowered) ended
      ∙ bind_same (operated (set_value i row.base m)) (λ a. raised a >>= lowered >>= ended) (λ a. raised a >>= λ b. lowered b >>= ended) (λ a. bind_assoc (raised a) lowered ended))
    where
      ended : Read → Res Read
      ended c = ok (record { value = c.value; mem = set_value i c.value c.mem })

  -- a row without entries and limits has its base
  module _ (none_there : row.entries ≡ []) where
    operate-empty : (ops : List EffectOperator) (a : Read) → operate w i row read ops a ≡ ok a
    unfolding operate
    operate-empty [] a = refl
    operate-empty (op ∷ ops) a = operate_none w i row read op ops a (ap (some? (is_of op)) none_there) ∙ operate-empty ops a

    pub no_limits : (m : Mem) → (get_dogma_attribute w.book row.id).min_attribute_id ≡ pos 0 → (get_dogma_attribute w.book row.id).max_attribute_id ≡ pos 0
        → evaluation w read i row m ≡ ok (record { value = row.base; mem = m })
    no_limits m low high =
        evaluation_raised m (operate-empty operators (record { value = row.base; mem = m })) (clamp_none row.object read at_least (get_dogma_attribute w.book row.id).min_attribute_id (record { value = row.base; mem = m }) low)
        ∙ clamp_none row.object read at_most (get_dogma_attribute w.book row.id).max_attribute_id (record { value = row.base; mem = m }) high
