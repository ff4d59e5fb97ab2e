-- The values as a column of floats: a row that is not started is a NaN there, and the NaNs become fewer.
use Prim.Native.Nat.{ℕ, zero, suc, ◌≤◌, ◌<◌}
use native.Mathlib.Omega.{arith}
use mathlib.Core.Path.{◌≡◌, refl, sym, ap, subst, ◌∙◌}
use mathlib.Core.Bool.{true, false, not}
use mathlib.Core.List.{List, [], ◌∷◌}
use mathlib.Core.Option
use mathlib.Core.Option.{Option, none, some}
use lib.Dec.{T}
use lib.Ieee.{Float, nan, inf, fin, eq}
use lib.Ieee.Bits.{is_true}
use lib.ListN.{length, get_or, set, length-map}
use Rattle.laws.specs.Floats.{nans, finite}
use Rattle.laws.proofs.Bools.{both_ways, not-not}
use Rattle.laws.proofs.Nans.{nan?, eq_self, finite-not-nan, nans_set_less}
use Rattle.memory.specs.Memory.{value_column, AllFinite}

abbrev shown : Option Float → Float
shown o = Option.get_or o nan

-- a value stored, in the column
pub set_shown : (vs : List (Option Float)) (i : ℕ) (x : Float) → value_column (set vs i (some x)) ≡ set (value_column vs) i x
set_shown [] i x = refl
set_shown (o ∷ vs) zero x = refl
set_shown (o ∷ vs) (suc i) x = ap (λ (l : List Float). shown o ∷ l) (set_shown vs i x)

pub shown_at : (vs : List (Option Float)) (i : ℕ) → get_or (value_column vs) i nan ≡ Option.get_or (get_or vs i none) nan
shown_at [] i = refl
shown_at (o ∷ vs) zero = refl
shown_at (o ∷ vs) (suc i) = shown_at vs i

pub shown_length : (vs : List (Option Float)) → length (value_column vs) ≡ length vs
shown_length vs = length-map vs shown

-- what the test for NaN says of a row
module _ (vs : List (Option Float)) (i : ℕ) where
  pub not-started : AllFinite vs → nan? (get_or (value_column vs) i nan) ≡ true → get_or vs i none ≡ none
  not-started f e = by (get_or vs i none) refl (sym (ap nan? (shown_at vs i)) ∙ e)
    where
      by : (o : Option Float) → get_or vs i none ≡ o → nan? (shown o) ≡ true → o ≡ none
      by none p h = refl
      by (some x) p h = both_ways h (finite-not-nan x (is_true (finite x) (f i x p)))

  pub started : nan? (get_or (value_column vs) i nan) ≡ false → get_or vs i none ≡ some (get_or (value_column vs) i nan)
  started e = by (get_or vs i none) (sym (ap nan? (shown_at vs i)) ∙ e) ∙ ap some (sym (shown_at vs i))
    where
      by : (o : Option Float) → nan? (shown o) ≡ false → o ≡ some (shown o)
      by none h = both_ways refl h
      by (some x) h = refl

  -- by the code's test, v == v
  pub unvalued : AllFinite vs → eq (get_or (value_column vs) i nan) (get_or (value_column vs) i nan) ≡ false → get_or vs i none ≡ none
  unvalued f e = not-started f (sym (not-not (nan? (get_or (value_column vs) i nan))) ∙ ap not (sym (eq_self (get_or (value_column vs) i nan)) ∙ e))

  pub valued : eq (get_or (value_column vs) i nan) (get_or (value_column vs) i nan) ≡ true → get_or vs i none ≡ some (get_or (value_column vs) i nan)
  valued e = started (sym (not-not (nan? (get_or (value_column vs) i nan))) ∙ ap not (sym (eq_self (get_or (value_column vs) i nan)) ∙ e))

-- ---- the count

against_nan : (x : Float) (r s : List Float) → nans r ≤ nans s → nans (x ∷ r) ≤ nans (nan ∷ s)
unfolding nans
against_nan nan r s h = omega arith
against_nan (inf t) r s h = omega arith
against_nan (fin t m e) r s h = omega arith

under : (x : Float) (r s : List Float) → nans r ≤ nans s → nans (x ∷ r) ≤ nans (x ∷ s)
unfolding nans
under nan r s h = omega arith
under (inf t) r s h = h
under (fin t m e) r s h = h

-- what is started stays: as many NaNs, or fewer
pub nans_grow : (vs vs' : List (Option Float)) → length vs' ≡ length vs → ((j : ℕ) (x : Float) → get_or vs j none ≡ some x → get_or vs' j none ≡ some x) → nans (value_column vs') ≤ nans (value_column vs)
nans_grow [] [] l k = omega arith
nans_grow [] (o ∷ vs') l k = absurd (omega arith)
nans_grow (o ∷ vs) [] l k = absurd (omega arith)
nans_grow (none ∷ vs) (o ∷ vs') l k = against_nan (shown o) (value_column vs') (value_column vs) (nans_grow vs vs' (omega arith) (λ j x e. k (suc j) x e))
nans_grow (some x ∷ vs) (o ∷ vs') l k =
    subst (λ (q : Option Float). nans (value_column (q ∷ vs')) ≤ nans (x ∷ value_column vs)) (sym (k 0 x refl))
    (under x (value_column vs') (value_column vs) (nans_grow vs vs' (omega arith) (λ j y e. k (suc j) y e)))

-- a row is started: one NaN less
pub nans-start : (vs : List (Option Float)) (i : ℕ) (x : Float) → get_or vs i none ≡ none → i < length vs → T (finite x) → nans (value_column (set vs i (some x))) < nans (value_column vs)
nans-start vs i x e h f =
    let less = nans_set_less (value_column vs) i x nan (subst (λ (n : ℕ). i < n) (sym (shown_length vs)) h) (ap nan? (shown_at vs i) ∙ ap (λ (o : Option Float). nan? (shown o)) e) (finite-not-nan x (is_true (finite x) f)) in
    let same = ap nans (set_shown vs i x) in
    omega (arith, less, same)
