-- One number of one row changed.
use Prim.Native.Nat.{ℕ, ◌≤◌, ◌<◌}
use native.Mathlib.Omega.{arith}
use mathlib.Core.Path.{◌≡◌, refl, ap, ◌∙◌}
use mathlib.Core.Bool.{Bool, true, false, not}
use mathlib.Core.List.{List, [], ◌∷◌, ◌++◌}
use borrow.Author.Tests.{eq-eqb}
use lib.Dec.{T, eqb, ltb, ltb→lt}
use lib.ListN.{length, get_or, replicate, length-replicate, get_or-append}
use Rattle.std.proofs.lemmas.List.{get_or-replicate}
use Rattle.laws.proofs.Bools.{both_ways}
use Rattle.order.specs.Ranks.{num, Put, Unmet}

module _ {c : List (List ℕ)} {k f x : ℕ} {c' : List (List ℕ)} (P : Put c k f x c') where
  -- another number of any row, and any number of another row; by tests, which compute where the numbers are written out
  pub beside : (j g : ℕ) → T (ltb g 4) → T (not (eqb g f)) → num c' j g ≡ num c j g
  beside j g b n = P.rest j g (ltb→lt g 4 b) (λ q. apart (eqb g f) (eq-eqb g f q.1) n)
    where
      apart : (t : Bool) → t ≡ true → T (not t) → ⊥
      apart true e u = u
      apart false e u = both_ways e refl

  pub other : (j g : ℕ) → T (ltb g 4) → (j ≡ k → ⊥) → num c' j g ≡ num c j g
  other j g b n = P.rest j g (ltb→lt g 4 b) (λ q. n q.0)

-- ---- rows are made 0

abbrev zeros : List ℕ
zeros = 0 ∷ 0 ∷ 0 ∷ 0 ∷ []

pub unmet_filled : {n m : ℕ} {filled : List (List ℕ)} (rest : List (List ℕ)) → n ≤ m → filled ≡ replicate m zeros → Unmet n (filled ++ rest)
unmet_filled {n} {m} {filled} rest few e = record { mark = λ j l. ap (λ (r : List ℕ). get_or r 0 0) (at j l); at = λ j l. ap (λ (r : List ℕ). get_or r 1 0) (at j l) }
  where
    at : (j : ℕ) → j < n → get_or (filled ++ rest) j [] ≡ zeros
    at j l =
        let long : length filled ≡ m = ap length e ∙ length-replicate m zeros in
        get_or-append filled rest [] j (omega (arith, l, few, long)) ∙ ap (λ (r : List (List ℕ)). get_or r j []) e ∙ get_or-replicate m j zeros [] (omega (arith, l, few))
