-- A table without a bad line: its lines ascend strictly, are of the four kinds, and its points are at most 65,535.
use Prim.Native.Nat.{ℕ, zero, suc, ◌≤◌, ◌<◌}
use native.Mathlib.Nat.{not-suc-le-zero, le_of_suc-le-suc}
use native.Mathlib.Omega.{arith}
use mathlib.Core.Path.{◌≡◌, refl, sym, ap, ◌∙◌}
use mathlib.Core.Bool.{Bool, true, false, ◌&&◌, ◌||◌, not}
use mathlib.Core.List.{List, [], ◌∷◌}
use mathlib.Core.Option.{Option, none, some}
use lib.Dec.{eqb, ltb, leb}
use lib.IntN.{pos}
use lib.ListN.{length, get_or}
use lib.Signed.{lt_z}
use borrow.Author.Tests.{eqb-true, eq-eqb, ltb-true, lt-ltb, leb-true}
use Rattle.laws.specs.Lists.{eq_z}
use Rattle.laws.proofs.Bools.{and_left, and_right, and_both, or_true_right}
use Rattle.laws.proofs.Order.{lt_z_trans}
use Rattle.tallies.specs.Tallies.{Line, line_of, rises}
use Rattle.tallies.specs.Blocks.{Ordered}
use Rattle.tournament.specs.Tournament.{stands_after, line_good, bad_from}

-- ---- lines rise at a distance too

-- one of a lesser kind, or of the same kind and a lesser id
data Rise (a b : Line) : Type 0 where
  by_kind : a.kind < b.kind → Rise a b
  by-id : a.kind ≡ b.kind → lt_z a.id b.id ≡ true → Rise a b

rise_of : (a b : Line) → rises a b ≡ true → Rise a b
rise_of a b r = by (ltb a.kind b.kind) refl r
  where
    by : (t : Bool) → ltb a.kind b.kind ≡ t → t || (eqb a.kind b.kind && lt_z a.id b.id) ≡ true → Rise a b
    by true h q = by_kind (ltb-true a.kind b.kind h)
    by false h q = by-id (eqb-true a.kind b.kind (and_left (eqb a.kind b.kind) (lt_z a.id b.id) q)) (and_right (eqb a.kind b.kind) (lt_z a.id b.id) q)

of_rise : (a b : Line) → Rise a b → rises a b ≡ true
of_rise a b (by_kind h) = ap (λ (t : Bool). t || (eqb a.kind b.kind && lt_z a.id b.id)) (lt-ltb a.kind b.kind h)
of_rise a b (by-id h q) =
    ap (λ (t : Bool). ltb a.kind b.kind || t) (and_both (eq-eqb a.kind b.kind h) q) ∙ or_true_right (ltb a.kind b.kind)

rise_on : (a b c : Line) → Rise a b → Rise b c → Rise a c
rise_on a b c (by_kind h) (by_kind q) = by_kind (omega (arith, h, q))
rise_on a b c (by_kind h) (by-id q z) = by_kind (omega (arith, h, q))
rise_on a b c (by-id h z) (by_kind q) = by_kind (omega (arith, h, q))
rise_on a b c (by-id h z) (by-id q w) = by-id (h ∙ q) (lt_z_trans a.id b.id c.id z w)

rises_on : (last : Option Line) (b c : Line) → stands_after last b ≡ true → rises b c ≡ true → stands_after last c ≡ true
rises_on none b c h q = refl
rises_on (some a) b c h q = of_rise a c (rise_on a b c (rise_of a b h) (rise_of b c q))

-- the kind of a good line
known_line : (l : Line) → line_good l ≡ true → l.kind ≤ 3
known_line l g =
    let known = leb l.kind 3 in
    let priced = not (eqb l.kind 0) || leb l.number 65535 in
    let one = not (eqb l.kind 3) || eq_z l.id (pos 0) in
    leb-true l.kind 3 (and_left known priced (and_left (known && priced) one g))

-- points of a good line
cheap_line : (l : Line) → line_good l ≡ true → l.kind ≡ 0 → l.number ≤ 65535
cheap_line l g e =
    let known = leb l.kind 3 in
    let priced = not (eqb l.kind 0) || leb l.number 65535 in
    let one = not (eqb l.kind 3) || eq_z l.id (pos 0) in
    leb-true l.number 65535
    (sym (ap (λ (t : Bool). not t || leb l.number 65535) (eq-eqb l.kind 0 e)) ∙ and_right known priced (and_left (known && priced) one g))

-- ---- the table

record After (last : Option Line) (r : List Line) : Type 0 where
  pub after : (j : ℕ) → j < length r → stands_after last (get_or r j (line_of [])) ≡ true
  pub ordered : Ordered r

module _ (i : ℕ) (last : Option Line) (l : Line) (r : List Line) where
  bad_by : {t : Bool} → stands_after last l && line_good l ≡ t → bad_from i last (l ∷ r) ≡ elim t [ false ↦ some i | true ↦ bad_from (suc i) (some l) r ]
  unfolding bad_from
  bad_by e = ap (λ (t : Bool). elim t [ false ↦ some i | true ↦ bad_from (suc i) (some l) r ]) e

  good_one : bad_from i last (l ∷ r) ≡ none → stands_after last l && line_good l ≡ true
  good_one n = by (stands_after last l && line_good l) refl
    where
      by : (t : Bool) → stands_after last l && line_good l ≡ t → t ≡ true
      by true e = refl
      by false e = let z : ◌≡◌ {A = Option ℕ} (some i) none = sym (bad_by e) ∙ n in (cc)

  one_more : stands_after last l && line_good l ≡ true → After (some l) r → After last (l ∷ r)
  one_more g A =
      record {
        after = after;
        ordered = record { rising = rising; known = known; cheap = cheap };
      }
    where
      stands : stands_after last l ≡ true
      stands = and_left (stands_after last l) (line_good l) g

      after : (j : ℕ) → j < suc (length r) → stands_after last (get_or (l ∷ r) j (line_of [])) ≡ true
      after zero h = stands
      after (suc j) h = rises_on last l (get_or r j (line_of [])) stands (A.after j (le_of_suc-le-suc h))

      rising : (m j : ℕ) → m < j → j < suc (length r) → rises (get_or (l ∷ r) m (line_of [])) (get_or (l ∷ r) j (line_of [])) ≡ true
      rising m zero h k = absurd (not-suc-le-zero h)
      rising zero (suc j) h k = A.after j (le_of_suc-le-suc k)
      rising (suc m) (suc j) h k = A.ordered.rising m j (le_of_suc-le-suc h) (le_of_suc-le-suc k)

      known : (j : ℕ) → j < suc (length r) → (get_or (l ∷ r) j (line_of [])).kind ≤ 3
      known zero h = known_line l (and_right (stands_after last l) (line_good l) g)
      known (suc j) h = A.ordered.known j (le_of_suc-le-suc h)

      cheap : (j : ℕ) → j < suc (length r) → (get_or (l ∷ r) j (line_of [])).kind ≡ 0 → (get_or (l ∷ r) j (line_of [])).number ≤ 65535
      cheap zero h e = cheap_line l (and_right (stands_after last l) (line_good l) g) e
      cheap (suc j) h e = A.ordered.cheap j (le_of_suc-le-suc h) e

good_after : (i : ℕ) (last : Option Line) (r : List Line) → bad_from i last r ≡ none → After last r
good_after i last [] n =
    record {
      after = λ j h. absurd (not-suc-le-zero h);
      ordered = record { rising = λ m j h k. absurd (not-suc-le-zero k); known = λ j h. absurd (not-suc-le-zero h); cheap = λ j h e. absurd (not-suc-le-zero h) };
    }
good_after i last (l ∷ r) n =
    let g = good_one i last l r n in
    one_more i last l r g (good_after (suc i) (some l) r (sym (bad_by i last l r g) ∙ n))

pub good_ordered : (ls : List Line) → bad_from 0 none ls ≡ none → Ordered ls
good_ordered ls n = (good_after 0 none ls n).ordered
