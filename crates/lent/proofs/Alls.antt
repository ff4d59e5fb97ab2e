-- What `all` answers of a slice's elements is what the definitions' test of each is.
use Rattle.std.proofs.Common.{◌≡◌, ℕ, ◌<◌, Bool, true, false, List, length, get_or, refl, sym, arith}
use Rattle.std.specs.Bool.{MatchBool}
use Rattle.std.specs.List.{AllWithin, HoldsAt}
use Rattle.laws.specs.Lists.{every?}
use Rattle.laws.proofs.Every.{every_at, every_by}

pub every_decided : {A : Type 0} (p : A → Bool) (d : A) (xs : List A) (r : Bool)
    → MatchBool r (AllWithin (λ x. p x ≡ true) xs 0 (length xs)) ((k : ℕ) × (k < length xs) × HoldsAt (λ x. p x ≡ false) xs k) → r ≡ every? p xs
every_decided p d xs true m = sym (every_by p xs d (λ i h. m i d (omega arith) h))
every_decided {A} p d xs false (k, h, f) = decide (every? p xs) refl
  where
    decide : (b : Bool) → every? p xs ≡ b → false ≡ b
    decide false e = refl
    decide true e =
        let yes : p (get_or xs k d) ≡ true = every_at p xs k d e h in
        let no : p (get_or xs k d) ≡ false = f d in
        cc
