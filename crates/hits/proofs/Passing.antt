-- What an aim's test says of an object's columns and skills, by what its column holds.
use Prim.Native.Nat.{ℕ, ◌<◌}
use mathlib.Core.Path.{◌≡◌, refl, sym, ap, ◌∙◌}
use mathlib.Core.Bool.{Bool, false, not, ◌&&◌}
use mathlib.Core.List.{List, []}
use lib.ListN.{length, get_or}
use borrow.Author.Tests.{eq-eqb, ne_eqb}
use Rattle.rules.specs.Sheet.{Book, Fit}
use Rattle.rules.specs.Item.{object}
use Rattle.hits.specs.declared.Aim.{Aim}
use Rattle.hits.specs.declared.Test.{Test}
use Rattle.hits.specs.Reach.{required_bits, reach_of, TableOf}
use Rattle.hits.specs.Who.{asked, passes_by, passes, meets}

module _ (column : ℕ) (x : Test) (r q : List ℕ) where
  pub unreached : get_or r column 0 ≡ 0 → false ≡ passes_by column x r q
  unfolding passes_by
  unreached e = sym (ap (λ (t : Bool). not t && asked x r q) (eq-eqb (get_or r column 0) 0 e))

  -- t is what the test gives, which is y
  pub reached : (y : Test) (t : Bool) → (get_or r column 0 ≡ 0 → ⊥) → x ≡ y → t ≡ asked y r q → t ≡ passes_by column x r q
  unfolding passes_by
  reached y t n e h =
      h ∙ ap (λ (z : Test). asked z r q) (sym e)
      ∙ sym (ap (λ (b : Bool). not b && asked x r q) (ne_eqb (get_or r column 0) 0 n))

-- what the code tests in tables that tell of the objects is what the aim says of an object
pub told-meets : (k : Book) (f : Fit) (reach skills : List (List ℕ)) → TableOf (reach_of k f) f reach → TableOf (required_bits f) f skills → (a : Aim) (i : ℕ) → i < length f.objects → passes a (get_or reach i []) (get_or skills i []) ≡ meets k f a (object f i)
told-meets k f reach skills R S a i h = rw (R i h, S i h) refl
