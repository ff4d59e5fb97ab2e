-- The objects of a phase by where they stand: skills stand last.
use Prim.Native.Nat.{ℕ, suc, ◌+◌, ◌-◌, ◌<◌}
use native.Mathlib.Nat.{not-suc-le-zero}
use native.Mathlib.Omega.{arith}
use mathlib.Core.Path.{◌≡◌, refl, sym, ap, ap₂, ◌∙◌}
use mathlib.Core.Bool.{true, false}
use mathlib.Core.List.{List, [], ◌∷◌, ◌++◌, append-nil}
use lib.ListN.{length, get_or, take, drop, length-drop}
use lib.Seq.{get_or-take, get_or-drop, length-take-le}
use borrow.Author.Tests.{eqb-true, le-leb, lt-leb}
use Rattle.laws.specs.Lists.{flat, span}
use Rattle.laws.proofs.Flat.{flat_append}
use Rattle.laws.proofs.Spans.{span_split}
use Rattle.rules.specs.Sheet.{Book, Fit}
use Rattle.rules.specs.Item.{object, no_item, is_skill}
use Rattle.rules.specs.Collect.{Move}
use Rattle.rules.specs.declared.Item.{Item}
use Rattle.info.specs.Stands.{Stands}
use Rattle.info.specs.declared.standing.Spans.{Spans}
use Rattle.collect.specs.declared.Phase.{Phase}
use Rattle.collect.specs.declared.Phase.TheVariants.{Front, Projected, Fitted, Skills}
use Rattle.collect.specs.Parts.{in_phase, object_moves, all_of, SkillsFrom, Ranged}
use Rattle.collect.proofs.Phases.{phase_objects, out_of}

-- where each gives nothing all give nothing
flat_none : {A B : Type 0} (g : A → List B) (xs : List A) (d : A) → ((i : ℕ) → i < length xs → g (get_or xs i d) ≡ []) → flat g xs ≡ []
flat_none g [] d h = refl
flat_none {A} {B} g (x ∷ xs) d h = ap₂ (λ (a b : List B). a ++ b) (h 0 (omega arith)) (flat_none g xs d (λ i l. h (suc i) (omega arith)))

module _ (k : Book) (f : Fit) (x : Phase) (n m : ℕ) (R : Ranged f x n m) where
  none : (i : ℕ) → in_phase x (object f i) ≡ false → object_moves k f x (object f i) ≡ []
  none i h = sym (out_of k f (object f i) x h)

  front : flat (object_moves k f x) (take n f.objects) ≡ []
  front =
      let long : length (take n f.objects) ≡ n = length-take-le n f.objects (omega (arith, R.ordered, R.inside)) in
      flat_none (object_moves k f x) (take n f.objects) no_item
      (λ i l. ap (object_moves k f x) (get_or-take n f.objects i no_item (omega arith)) ∙ none i (R.before i (omega arith)))

  back : flat (object_moves k f x) (drop (n + (m - n)) f.objects) ≡ []
  back =
      flat_none (object_moves k f x) (drop (n + (m - n)) f.objects) no_item
      (λ i l. ap (object_moves k f x) (get_or-drop (n + (m - n)) f.objects i no_item)
      ∙ none (n + (m - n) + i) (R.behind (n + (m - n) + i) (omega (arith, R.ordered)) (omega (arith, length-drop (n + (m - n)) f.objects))))

  -- those in the range are all of the phase
  pub ranged_all : flat (object_moves k f x) (span n (m - n) f.objects) ≡ all_of k f x
  ranged_all =
      sym (ap (flat (object_moves k f x)) (span_split n (m - n) f.objects)
      ∙ flat_append (object_moves k f x) (take n f.objects) (span n (m - n) f.objects ++ drop (n + (m - n)) f.objects)
      ∙ ap (λ (l : List Move). l ++ flat (object_moves k f x) (span n (m - n) f.objects ++ drop (n + (m - n)) f.objects)) front
      ∙ flat_append (object_moves k f x) (span n (m - n) f.objects) (drop (n + (m - n)) f.objects)
      ∙ ap (λ (l : List Move). flat (object_moves k f x) (span n (m - n) f.objects) ++ l) back
      ∙ append-nil (flat (object_moves k f x) (span n (m - n) f.objects)))
      ∙ phase_objects k f x

-- ---- the ranges

abbrev no_skill_lem : Phase → Type 0
no_skill_lem x = (o : Item) → is_skill o ≡ true → in_phase x o ≡ false

module _ (f : Fit) (n : ℕ) (S : SkillsFrom f n) where
  early : (x : Phase) → no_skill_lem x → Ranged f x 0 n
  early x g =
      record {
        ordered = omega arith;
        inside = S.inside;
        before = λ i l. absurd (not-suc-le-zero l);
        behind = λ i l h. g (object f i) (S.skilled i h ∙ le-leb n i l);
      }

  pub front_ranged : Ranged f Front 0 n
  front_ranged = early Front (λ o h. rw (eqb-true o.kind 5 h) refl)

  pub projected_ranged : Ranged f Projected 0 n
  projected_ranged = early Projected (λ o h. rw (eqb-true o.kind 5 h) refl)

  pub fitted_ranged : Ranged f Fitted 0 n
  fitted_ranged = early Fitted (λ o h. rw (eqb-true o.kind 5 h) refl)

  pub skills_ranged : (m : ℕ) → m ≡ length f.objects → Ranged f Skills n m
  skills_ranged m e =
      record {
        ordered = omega (arith, S.inside);
        inside = omega arith;
        before = λ i l. S.skilled i (omega (arith, S.inside)) ∙ lt-leb n i l;
        behind = λ i l h. absurd (omega arith);
      }

pub skills_from : (f : Fit) (s : Spans) → Stands f s → SkillsFrom f s.end
skills_from f s P = record { inside = P.inside; skilled = P.skilled }
