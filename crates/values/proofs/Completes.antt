-- A row that has a value has all the source rows that are planned for it, unless it is under calculation.
use Prim.Native.Nat.{ℕ, zero, suc, ◌<◌}
use native.Mathlib.Omega.{arith}
use mathlib.Core.Path.{◌≡◌, refl, sym, ap, subst, ◌∙◌}
use mathlib.Core.Bool.{cond}
use mathlib.Core.List.{List, [], ◌∷◌, ◌++◌, map}
use mathlib.Core.Logic.{inl, inr}
use mathlib.Core.Option.{none, some}
use borrow.Author.Tests.{eqb-true, eqb-false}
use lib.Dec.{eqb}
use lib.Ieee.{Float}
use lib.IntN.{ℤ}
use lib.ListN.{length, get_or, set, length-set, length-map}
use lib.Seq.{get_or-set_other}
use Rattle.laws.proofs.Bools.{true_or_false}
use Rattle.laws.specs.Lists.{total}
use Rattle.laws.proofs.Maps.{map_at}
use Rattle.rules.specs.Answer.{ok}
use Rattle.rules.specs.Dispatch.{Row}
use Rattle.rules.specs.Outcome.{valued, blank}
use Rattle.rules.specs.Value.{World, Mem, Read, own_sources, note, set_value, calculate, value_of}
use Rattle.rules.specs.declared.Ask.{Ask}
use Rattle.rules.specs.declared.Source.{Source}
use Rattle.reading.specs.Held.{no_row}
use Rattle.sources.specs.Planned.{planned_of, counts_of}
use Rattle.sources.proofs.Planning.{calculation_gives, some_none}
use Rattle.memory.specs.Memory.{value_at, Grows}
use Rattle.memory.proofs.Growth.{calculate_grows, value_grows}
use Rattle.values.specs.Complete.{Long, Clean, Complete, Whole, Keeps}
use Rattle.values.proofs.PreparedBlankLaws.{own_none}
use Rattle.values.proofs.Keeps.{note_keeps, calculate_keeps, value_keeps, valued_keeps}
use Rattle.values.proofs.Starts.{calculated_valued, valued_grows}

-- of row j: not started and without source rows, or valued with all of them
record Settled (w : World) (j : ℕ) (m : Mem) : Type 0 where
  long : Long w m
  clean : value_at m j ≡ none → own_sources j m ≡ []
  complete : (v : Float) → value_at m j ≡ some v → length (own_sources j m) ≡ get_or (counts_of w) j 0

pub long_grows : {w : World} {m m' : Mem} → Grows m m' → Long w m → Long w m'
long_grows g l = record { values = g.values ∙ l.values; sources = g.sources ∙ l.sources }

module _ (w : World) (j : ℕ) where
  -- the calculation of another row
  module _ (i : ℕ) (apart : j ≡ i → ⊥) where
    other_own : (own : List Source) (used : ℕ) (m : Mem) → Settled w j m → Settled w j (record { values = m.values; sources = set m.sources i own; used = used })
    other_own own used m k =
        let same = get_or-set_other m.sources i j own [] apart in
        record {
          long = record { values = k.long.values; sources = length-set m.sources i own ∙ k.long.sources };
          clean = λ e. same ∙ k.clean e;
          complete = λ v e. ap length same ∙ k.complete v e;
        }

    other_value : (v : Float) (m : Mem) → Settled w j m → Settled w j (set_value i v m)
    other_value v m k =
        let same = get_or-set_other m.values i j (some v) none apart in
        record {
          long = record { values = length-set m.values i (some v) ∙ k.long.values; sources = k.long.sources };
          clean = λ e. k.clean (sym same ∙ e);
          complete = λ x e. k.complete x (sym same ∙ e);
        }

    other_note : (row : Row) (r : Source) (m m' : Mem) → note w i row r m ≡ ok m' → Settled w j m → Settled w j m'
    other_note row r m m' e k = note_keeps (Settled w j) w i row r m m' e k (other_own (own_sources i m ++ (r ∷ [])) (suc m.used) m k)

  -- its own
  planned : (i : ℕ) → i < length w.rows → get_or (counts_of w) i 0 ≡ cond w.recording (total (map (planned_of w) (get_or w.rows i no_row).entries)) 0
  unfolding counts_of
  planned i h = map_at (λ (r : Row). cond w.recording (total (map (planned_of w) r.entries)) 0) w.rows i no_row 0 h

  itself : (d : ℕ) → j < length w.rows → (m : Mem) (q : Read) → value_at m j ≡ none → calculate w (value_of w d) j (get_or w.rows j no_row) m ≡ ok q → Settled w j m → Settled w j q.mem
  itself d h m q n e k =
      let row = get_or w.rows j no_row in
      let inside : j < length m.values = omega (arith, h, k.long.values) in
      let there : j < length m.sources = omega (arith, h, k.long.sources) in
      record {
        long = long_grows (calculate_grows j w row (value_of w d) (value_grows w d) m q n e) k.long;
        clean = λ p. absurd (some_none (sym (calculated_valued w (value_of w d) (value_grows w d) j row m q inside n e) ∙ p));
        complete = λ v p. omega (arith, calculation_gives w j row d m q e inside there, ap length (k.clean n), planned j h);
      }

  starting : (d i : ℕ) → Keeps (Settled w j) (value_of w d) → i < length w.rows → (m : Mem) (q : Read) → value_at m i ≡ none → calculate w (value_of w d) i (get_or w.rows i no_row) m ≡ ok q → Settled w j m → Settled w j q.mem
  starting d i less h m q n e k = elim (true_or_false (eqb i j)) [ inl t ↦ mine (eqb-true i j t) | inr t ↦ other (λ x. eqb-false i j t (sym x)) ]
    where
      other : (j ≡ i → ⊥) → Settled w j q.mem
      other apart =
          calculate_keeps (Settled w j) w i (get_or w.rows i no_row) (other_note i apart (get_or w.rows i no_row)) (λ own x l y. other_own i apart own x.used x y) (other_value i apart) (value_of w d) less m q e k

      mine : i ≡ j → Settled w j q.mem
      mine t =
          itself d (subst (λ (x : ℕ). x < length w.rows) t h) m q (subst (λ (x : ℕ). value_at m x ≡ none) t n)
          (subst (λ (x : ℕ). calculate w (value_of w d) x (get_or w.rows x no_row) m ≡ ok q) t e) k

-- ---- all rows

module _ (w : World) where
  one : {m : Mem} → Whole w m → (j : ℕ) → Settled w j m
  one k j = record { long = k.long; clean = k.clean j; complete = k.complete j }

  all : {m : Mem} → Long w m → ((j : ℕ) → Settled w j m) → Whole w m
  all l f = record { long = l; clean = λ j. (f j).clean; complete = λ j. (f j).complete }

  pub value-whole : (d : ℕ) → Keeps (Whole w) (value_of w d)
  value-whole d o a m q e k = all (long_grows (value_grows w d o a m q e) k.long) (λ j. value_keeps (Settled w j) w (starting w j) d o a m q e (one k j))

  pub valued-whole : (d : ℕ) (starts : List Ask) (m m' : Mem) → valued w d starts m ≡ ok m' → Whole w m → Whole w m'
  valued-whole d starts m m' e k = all (long_grows (valued_grows w d starts m m' e) k.long) (λ j. valued_keeps (Settled w j) w (starting w j) d starts m m' e (one k j))

  pub complete : (d o : ℕ) (a : ℤ) (m : Mem) (q : Read) → value_of w d o a m ≡ ok q → Long w m → Clean m → Complete w m → Complete w q.mem
  complete d o a m q e l c k = (value-whole d o a m q e (record { long = l; clean = c; complete = k })).complete

  -- ---- from a blank memory

  not-started : (rs : List Row) (i : ℕ) → value_at (blank rs) i ≡ none
  not-started [] i = refl
  not-started (r ∷ rs) zero = refl
  not-started (r ∷ rs) (suc i) = not-started rs i

  pub blank-whole : Whole w (blank w.rows)
  blank-whole =
      record {
        long = record { values = length-map w.rows (λ r. none); sources = length-map w.rows (λ r. []) };
        clean = λ i e. own_none w.rows i;
        complete = λ i v e. absurd (some_none (sym e ∙ not-started w.rows i));
      }

  pub all_whole : (d : ℕ) (starts : List Ask) (m : Mem) → valued w d starts (blank w.rows) ≡ ok m → Whole w m
  all_whole d starts m e = valued-whole d starts (blank w.rows) m e blank-whole

  pub complete_all : (d : ℕ) (starts : List Ask) (m : Mem) → valued w d starts (blank w.rows) ≡ ok m → Complete w m
  complete_all d starts m e = (all_whole d starts m e).complete
