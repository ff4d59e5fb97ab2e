-- The source rows of all rows are counted.
use Prim.Native.Nat.{ℕ, zero, suc, ◌+◌, ◌<◌}
use native.Mathlib.Nat.{not-suc-le-zero, le_of_suc-le-suc}
use native.Mathlib.Omega.{arith}
use mathlib.Core.Path.{◌≡◌, refl, ◌∙◌}
use mathlib.Core.List.{List, [], ◌∷◌, ◌++◌, map}
use mathlib.Core.Option.{none, some}
use lib.Ieee.{Float}
use lib.ListN.{length, get_or, set, length-set, length-append}
use Rattle.laws.specs.Lists.{total}
use Rattle.rules.specs.Answer.{ok}
use Rattle.rules.specs.Dispatch.{Row}
use Rattle.rules.specs.Outcome.{valued, blank}
use Rattle.rules.specs.Value.{World, Mem, Read, own_sources, note, set_value, calculate, value_of}
use Rattle.rules.specs.declared.Ask.{Ask}
use Rattle.rules.specs.declared.Source.{Source}
use Rattle.reading.specs.Held.{no_row}
use Rattle.memory.specs.Memory.{value_at}
use Rattle.values.specs.Complete.{Long, UsedTotal, Keeps}
use Rattle.values.proofs.Keeps.{note_keeps, calculate_keeps, valued_keeps}
use Rattle.values.proofs.Completes.{blank-whole}

-- one of the lists is another
total-set : {A : Type 0} (qs : List (List A)) (i : ℕ) (q : List A) → i < length qs → total (map length (set qs i q)) + length (get_or qs i []) ≡ total (map length qs) + length q
total-set [] i q h = absurd (not-suc-le-zero h)
total-set (p ∷ qs) zero q h = omega arith
total-set (p ∷ qs) (suc i) q h = let rest = total-set qs i q (le_of_suc-le-suc h) in omega (arith, rest)

record Counted (w : World) (m : Mem) : Type 0 where
  long : Long w m
  used : UsedTotal m

module _ (w : World) where
  module _ (i : ℕ) (h : i < length w.rows) where
    own_counted : (own : List Source) (used : ℕ) (m : Mem) → used + length (own_sources i m) ≡ m.used + length own → Counted w m
        → Counted w (record { values = m.values; sources = set m.sources i own; used = used })
    own_counted own used m e k =
        record {
          long = record { values = k.long.values; sources = length-set m.sources i own ∙ k.long.sources };
          used = omega (arith, e, k.used, total-set m.sources i own (omega (arith, h, k.long.sources)));
        }

    note_counted : (row : Row) (r : Source) (m m' : Mem) → note w i row r m ≡ ok m' → Counted w m → Counted w m'
    note_counted row r m m' e k =
        note_keeps (Counted w) w i row r m m' e k (own_counted (own_sources i m ++ (r ∷ [])) (suc m.used) m (omega (arith, length-append (own_sources i m) (r ∷ []))) k)

    value-counted : (v : Float) (m : Mem) → Counted w m → Counted w (set_value i v m)
    value-counted v m k = record { long = record { values = length-set m.values i (some v) ∙ k.long.values; sources = k.long.sources }; used = k.used }

  starting : (d i : ℕ) → Keeps (Counted w) (value_of w d) → i < length w.rows → (m : Mem) (q : Read) → value_at m i ≡ none → calculate w (value_of w d) i (get_or w.rows i no_row) m ≡ ok q → Counted w m → Counted w q.mem
  starting d i less h m q n e k =
      calculate_keeps (Counted w) w i (get_or w.rows i no_row) (note_counted i h (get_or w.rows i no_row)) (λ own x l y. own_counted i h own x.used x (omega (arith, l)) y) (value-counted i h) (value_of w d) less m q e k

  pub valued-total : (d : ℕ) (starts : List Ask) (m m' : Mem) → valued w d starts m ≡ ok m' → Long w m → UsedTotal m → UsedTotal m'
  valued-total d starts m m' e l u = (valued_keeps (Counted w) w starting d starts m m' e (record { long = l; used = u })).used

pub blank-total : (rs : List Row) → UsedTotal (blank rs)
blank-total [] = refl
blank-total (r ∷ rs) = omega (arith, blank-total rs)

pub total-all : (w : World) (d : ℕ) (starts : List Ask) (m : Mem) → valued w d starts (blank w.rows) ≡ ok m → UsedTotal m
total-all w d starts m e = valued-total w d starts (blank w.rows) m e (blank-whole w).long (blank-total w.rows)
