-- The definition's rows are of its objects.
use Prim.Native.Nat.{ℕ, ◌<◌}
use native.Mathlib.Omega.{arith}
use mathlib.Core.Path.{◌≡◌, ◌∙◌}
use mathlib.Core.Bool.{true}
use mathlib.Core.List.{List, map}
use lib.Dec.{ltb}
use lib.IntN.{ℤ, pos}
use lib.ListN.{length}
use borrow.Author.Tests.{lt-ltb}
use Rattle.laws.specs.Lists.{every?}
use Rattle.laws.proofs.Every.{every_by, every_flat, every_map}
use Rattle.rules.specs.Sheet.{Book, Fit}
use Rattle.rules.specs.Item.{object, no_item}
use Rattle.rules.specs.Dispatch.{Row, ids_of, row_of, rows}
use Rattle.rules.specs.declared.Item.{Item}
use Rattle.rules.specs.declared.Pass2Effect.{Pass2Effect}
use Rattle.reading.specs.Order.{owned}

module _ (k : Book) (f : Fit) (ts : List Pass2Effect) (number : (i : ℕ) → i < length f.objects → (object f i).number ≡ i) where
  block : Item → List Row
  block o = map (row_of k f ts o) (ids_of k f ts o)

  one : (i : ℕ) → i < length f.objects → every? (λ r. ltb r.object (length f.objects)) (block (object f i)) ≡ true
  unfolding block row_of
  one i h =
      every_map (λ r. ltb r.object (length f.objects)) (row_of k f ts (object f i)) (ids_of k f ts (object f i))
      ∙ every_by (λ (x : ℤ). ltb (object f i).number (length f.objects)) (ids_of k f ts (object f i)) (pos 0)
      (λ j l. lt-ltb (object f i).number (length f.objects) (omega (arith, number i h)))

  pub rows_owned : owned (length f.objects) (rows k f ts) ≡ true
  unfolding rows block
  rows_owned =
      every_flat (λ r. ltb r.object (length f.objects)) block f.objects
      ∙ every_by (λ o. every? (λ r. ltb r.object (length f.objects)) (block o)) f.objects no_item one
