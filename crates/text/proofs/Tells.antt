-- What comes back of a call with rooms of 4,096 tells of the outcome that 01's text is of.
use Prim.Native.Nat.{ℕ, ◌≤◌}
use native.Mathlib.Omega.{arith}
use mathlib.Core.Path.{◌≡◌, refl, ap, subst}
use mathlib.Core.List.{List}
use lib.ListN.{length}
use Rattle.rules.specs.Outcome.{Lent, outcome}
use Rattle.promises.specs.Result.{Result, Meets}
use Rattle.listing.specs.Pieces.{Tells}
use Rattle.text.specs.SheetText.{rows_lent, rooms}
use Rattle.text.proofs.Shows.{rows_inside, shown}

-- every list has the room that 01 says
pub lent-rooms : (l : Lent) → l.collected ≡ rows_lent → l.collected_values ≡ rows_lent → l.rows ≡ rows_lent → l.bases ≡ rows_lent → l.values ≡ rows_lent
    → l.entries ≡ rows_lent → l.entry_values ≡ rows_lent → l.plain ≡ rows_lent → l.sources ≡ rows_lent → l.source_floats ≡ rows_lent → l ≡ rooms
unfolding rooms
lent-rooms l h1 h2 h3 h4 h5 h6 h7 h8 h9 h10 = rw (h1, h2, h3, h4, h5, h6, h7, h8, h9, h10) refl

-- what comes back of a call, whatever rooms were lent
pub tells_it : (b : List ℕ) (l : Lent) (r : Result) → Meets b l r → length r.rows ≡ l.rows → length r.values ≡ l.values → Tells (outcome b l) r.number r.place r.counts.rows r.rows r.values
tells_it b l r m rows-even values-even = record { by_number = m.by_number; by_place = m.by_place; by_rows = shown b l r m rows-even values-even }

module _ (b : List ℕ) (l : Lent) (r : Result) (m : Meets b l r) (rows-even : length r.rows ≡ l.rows) (values-even : length r.values ≡ l.values) (as_said : l ≡ rooms) where
  -- no more rows than lent
  pub few : r.counts.rows ≤ rows_lent
  unfolding rooms
  few = omega (arith, rows_inside b l r m rows-even values-even, rows-even, ap (λ (x : Lent). x.rows) as_said)

  pub tells : Tells (outcome b rooms) r.number r.place r.counts.rows r.rows r.values
  tells =
      subst (λ (x : Lent). Tells (outcome b x) r.number r.place r.counts.rows r.rows r.values) as_said (tells_it b l r m rows-even values-even)
