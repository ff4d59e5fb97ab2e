-- Stretches moved down by one, a turn at a time.
use Prim.Native.Nat.{ℕ, suc, ◌+◌, ◌-◌, ◌≤◌, ◌<◌}
use native.Mathlib.Omega.{arith}
use mathlib.Core.Path.{◌≡◌, refl, ap, ◌∙◌}
use mathlib.Core.List.{List}
use lib.ListN.{get_or, set}
use Rattle.free_table.specs.declared.Stretch.{Stretch}
use Rattle.free_table.specs.Table.{empty}
use Rattle.seats.specs.Plan.{down_from, shut_of}

-- the one at j is moved next: what is left, done from here, gives the whole
pub record Moving (t : List Stretch) (n i : ℕ) (u : List Stretch) (j : ℕ) : Type 0 where
  pub low : i < j
  pub high : j ≤ n
  pub still : down_from u j (n - j) ≡ down_from t (i + 1) (n - (i + 1))

pub moving_none : (t : List Stretch) (n i : ℕ) → i < n → Moving t n i t (i + 1)
moving_none t n i h = record { low = omega arith; high = omega (arith, h); still = refl }

pub moving_next : {t : List Stretch} {n i : ℕ} {u : List Stretch} {j : ℕ} → Moving t n i u j → j < n → Moving t n i (set u (j - 1) (get_or u j empty)) (j + 1)
moving_next {t} {n} {i} {u} {j} m h =
    record { low = omega (arith, m.low); high = omega (arith, h); still = ap (down_from u j) (let e : suc (n - (j + 1)) ≡ n - j = omega (arith, h) in e) ∙ m.still }

pub moving_end : {t : List Stretch} {n i : ℕ} {u : List Stretch} {j : ℕ} → Moving t n i u j → n ≤ j → set u (n - 1) empty ≡ shut_of t n i
moving_end {t} {n} {i} {u} {j} m h = ap (λ (l : List Stretch). set l (n - 1) empty) (ap (down_from u j) (let e : 0 ≡ n - j = omega (arith, h) in e) ∙ m.still)
