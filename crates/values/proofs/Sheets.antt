-- The rows of a sound sheet.
use Prim.Native.Nat.{ℕ, ◌≤◌, ◌<◌}
use native.Mathlib.Omega.{arith}
use mathlib.Core.Path.{◌≡◌}
use mathlib.Core.Bool.{true}
use mathlib.Core.List.{List}
use lib.Dec.{ltb}
use lib.ListN.{length, get_or}
use borrow.Author.Tests.{ltb-true}
use Rattle.laws.proofs.Every.{every_at}
use Rattle.rules.specs.Sheet.{Book, Fit, book_of, fit_of}
use Rattle.rules.specs.Dispatch.{Row, rows}
use Rattle.rules.specs.Outcome.{collected_in, rows_in}
use Rattle.rules.specs.declared.Pass2Effect.{Pass2Effect}
use Rattle.info.specs.Sound.{SoundBook, SoundFit}
use Rattle.info.proofs.Sheets.{numbered, sized}
use Rattle.reading.specs.Held.{no_row}
use Rattle.reading.proofs.Ascends.{rows_ascend}
use Rattle.reading.specs.Order.{owned}
use Rattle.reading.proofs.Owners.{rows_owned}
use Rattle.values.specs.SoundRows.{AllAre, Fair, SoundRows}
use Rattle.values.proofs.All.{all_weaker}
use Rattle.values.proofs.Bases.{rows_finite, rows_narrow}
use Rattle.values.proofs.Taken.{few_objects, collected_fair}
use Rattle.values.proofs.Entries.{entry_at}

object_few : (rs : List Row) (n : ℕ) → n ≤ 1024 → owned n rs ≡ true → (i : ℕ) → i < length rs → (get_or rs i no_row).object < 1024
object_few rs n l e i h =
    let below = ltb-true (get_or rs i no_row).object n (every_at (λ r. ltb r.object n) rs i no_row e h) in
    omega (arith, below)

module _ (book fit : List ℕ) (pairs : List (List ℕ)) (sb : SoundBook book pairs) (sf : SoundFit fit pairs) where
  abbrev k : Book
  k = book_of book pairs

  abbrev f : Fit
  f = fit_of fit pairs

  module _ (ts : List Pass2Effect) (h : AllAre Fair ts) where
    rows_object : (i : ℕ) → i < length (rows k f ts) → (get_or (rows k f ts) i no_row).object < 1024
    rows_object = object_few (rows k f ts) (length f.objects) (few_objects fit pairs sf) (rows_owned k f ts (numbered fit pairs))

    rows_sound : SoundRows (rows k f ts)
    rows_sound =
        record {
          ordered = rows_ascend k f ts (numbered fit pairs) (sized fit pairs sf.good).bases;
          narrow = rows_narrow fit pairs k ts (all_weaker Fair _ (λ t q. q.attribute) ts h);
          number = rows_finite book fit pairs sb sf ts;
          object = rows_object;
          entries = entry_at k f ts h;
        }

  pub sound_rows : SoundRows (rows_in (book_of book pairs) (fit_of fit pairs))
  unfolding rows_in
  sound_rows = rows_sound (collected_in k f) (collected_fair book fit pairs sf)
