-- Sums over counted objects, an object at a time.
use Prim.Native.Nat.{ℕ, ◌+◌, ◌<◌}
use native.Mathlib.Nat.{add-zero, zero-add}
use native.Mathlib.Omega.{arith}
use mathlib.Core.Path.{◌≡◌, refl, sym, ap, ◌∙◌}
use mathlib.Core.Bool.{Bool, true, false, cond}
use mathlib.Core.List.{List, [], ◌∷◌, ◌++◌}
use lib.ListN.{length, take, get_or}
use Rattle.laws.specs.Lists.{put, keep}
use Rattle.laws.proofs.Keep.{keep-next}
use Rattle.rules.specs.declared.Item.{Item}
use Rattle.tallies.specs.Tallies.{total}

total_append : (f : Item → ℕ) (xs ys : List Item) → total f (xs ++ ys) ≡ total f xs + total f ys
total_append f [] ys = sym (zero-add (total f ys))
total_append f (x ∷ xs) ys = omega (arith, total_append f xs ys)

put_total : (f : Item → ℕ) (t : Bool) (x : Item) → total f (put t x []) ≡ cond t (f x) 0
put_total f true x = add-zero (f x)
put_total f false x = refl

-- of the first i, and one more
pub total-next : (f : Item → ℕ) (p : Item → Bool) (xs : List Item) (i : ℕ) (d : Item) → i < length xs
    → total f (keep p (take (i + 1) xs)) ≡ total f (keep p (take i xs)) + cond (p (get_or xs i d)) (f (get_or xs i d)) 0
total-next f p xs i d h =
    ap (total f) (keep-next p xs i d h) ∙ total_append f (keep p (take i xs)) (put (p (get_or xs i d)) (get_or xs i d) [])
    ∙ ap (λ (n : ℕ). total f (keep p (take i xs)) + n) (put_total f (p (get_or xs i d)) (get_or xs i d))
