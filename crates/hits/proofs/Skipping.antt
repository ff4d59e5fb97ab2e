-- An aim by a skill that nobody requires is at nobody.
use Prim.Native.Nat.{ℕ, ◌<◌, ◌%◌}
use native.Mathlib.Omega.{arith}
use mathlib.Core.Path.{◌≡◌, refl, ap, ◌∙◌}
use mathlib.Core.Bool.{Bool, false, not, ◌&&◌}
use mathlib.Core.List.{List}
use lib.Dec.{eqb}
use lib.ListN.{length, get_or}
use borrow.Author.Tests.{ne_eqb}
use Rattle.laws.specs.Lists.{some?}
use Rattle.laws.proofs.Bools.{and_false_right}
use Rattle.laws.proofs.Every.{none_by}
use Rattle.rules.specs.Sheet.{Book, Fit}
use Rattle.rules.specs.Item.{object}
use Rattle.rules.specs.declared.Item.{Item}
use Rattle.hits.specs.Reach.{required_bits, reach_of}
use Rattle.hits.specs.declared.Aim.{Aim}
use Rattle.hits.specs.declared.Test.{Test}
use Rattle.hits.specs.declared.Test.TheVariants.{Requiring}
use Rattle.hits.specs.Who.{asked, passes_by, within, meets, Aims, nobody}
use Rattle.hits.proofs.Aims.{aims_is, aims_nobody}
use Rattle.hits.specs.Marks.{Wanted}

module _ (f : Fit) (marks : List ℕ) (W : Wanted f marks) (s : ℕ) (u : get_or marks (s % 1024) 0 ≡ 0) (i : ℕ) (h : i < length f.objects) where
  six : length (required_bits f (object f i)) ≡ 6
  unfolding required_bits
  six = refl

  unrequired : some? (eqb s) (required_bits f (object f i)) ≡ false
  unrequired =
      none_by (eqb s) (required_bits f (object f i)) 0
      (λ k l. ne_eqb s (get_or (required_bits f (object f i)) k 0)
      (λ e.
      let one : get_or marks (s % 1024) 0 ≡ 1 = ap (λ (x : ℕ). get_or marks (x % 1024) 0) e ∙ W.at i h k (omega (arith, six)) in
      absurd (omega (arith, one, u))))

  unmet : (k : Book) (a : Aim) → a.test ≡ Requiring s → meets k f a (object f i) ≡ false
  unfolding passes_by
  unmet k a e =
      ap (λ (t : Test). not (eqb (get_or (reach_of k f (object f i)) a.column 0) 0) && asked t (reach_of k f (object f i)) (required_bits f (object f i))) e
      ∙ ap (λ (t : Bool). not (eqb (get_or (reach_of k f (object f i)) a.column 0) 0) && t) unrequired
      ∙ and_false_right (not (eqb (get_or (reach_of k f (object f i)) a.column 0) 0))

pub aims_unwanted : (a b : Aim) (marks : List ℕ) (s : ℕ) → a.test ≡ Requiring s → get_or marks (s % 1024) 0 ≡ 0 → b ≡ nobody → (p : Item → Bool) (k : Book) (f : Fit) → Wanted f marks → Aims p k f a → Aims p k f b
aims_unwanted a b marks s e u n p k f W A =
    aims_is n (aims_nobody p k f (λ i h. A.exact i h ∙ ap (λ (t : Bool). within a i && t) (unmet f marks W s u i h k a e) ∙ and_false_right (within a i)))
