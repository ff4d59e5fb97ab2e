-- Loops over a list that stop early: what is left decides.
use Prim.Native.Nat.{ℕ, ◌+◌, ◌≤◌, ◌<◌}
use native.Mathlib.Numerals.{add-one}
use mathlib.Core.Path.{◌≡◌, sym, ap, ◌∙◌}
use mathlib.Core.Bool.{Bool, true, false, ◌||◌}
use mathlib.Core.List.{List, [], ◌∷◌}
use lib.ListN.{length, drop, get_or, drop_of_length-le}
use lib.Seq.{drop-cons}
use Rattle.laws.specs.Lists.{put, keep, some?}

-- what is left of a list: the next and the rest, or none
module _ {A : Type 0} (xs : List A) where
  pub drop-step : (i : ℕ) (d : A) → i < length xs → drop i xs ≡ get_or xs i d ∷ drop (i + 1) xs
  drop-step i d h = drop-cons xs i d h ∙ ap (λ (k : ℕ). get_or xs i d ∷ drop k xs) (sym (add-one i))

  pub drop_end : (i : ℕ) → length xs ≤ i → drop i xs ≡ []
  drop_end i h = drop_of_length-le xs h

-- a loop over what is left, with `drop-step` or `span_left`: the next decides, or the rest does
module _ {A : Type 0} (p : A → Bool) {left rest : List A} {x : A} (e : left ≡ x ∷ rest) where
  pub some_step : some? p left ≡ p x || some? p rest
  some_step = ap (some? p) e

  pub keep_here : p x ≡ true → keep p left ≡ x ∷ keep p rest
  keep_here t = ap (keep p) e ∙ ap (λ (s : Bool). put s x (keep p rest)) t

  pub keep_on : p x ≡ false → keep p left ≡ keep p rest
  keep_on t = ap (keep p) e ∙ ap (λ (s : Bool). put s x (keep p rest)) t

-- and at its end, with `drop-end` or `span-end`
module _ {A : Type 0} (p : A → Bool) {left : List A} (e : left ≡ []) where
  pub some_done : some? p left ≡ false
  some_done = ap (some? p) e

  pub keep-done : keep p left ≡ []
  keep-done = ap (keep p) e
