-- A sheet that is not refused for its shape has finite floats alone, and ids of 32 bits.
use Prim.Native.Nat.{ℕ}
use mathlib.Core.Path.{◌≡◌, ◌∙◌}
use mathlib.Core.Bool.{true, ◌&&◌}
use mathlib.Core.List.{List}
use mathlib.Core.Option.{none}
use lib.Dec.{leb}
use Rattle.laws.specs.Lists.{from, every?, ascends}
use Rattle.laws.specs.Floats.{finite}
use Rattle.laws.proofs.Bools.{and_left, and_right, and_both}
use Rattle.laws.proofs.Every.{every_map, every_weaker}
use Rattle.rules.specs.Answer.{ok}
use Rattle.rules.specs.Bytes.{pairs_of, count_of, record_at, u32_at, signed}
use Rattle.rules.specs.Sheet.{book_of, fit_of, modifier_from, base_from, bases_of}
use Rattle.rules.specs.Shape.{attributes_good, bases_good, buffs_good, book_bad, fit_bad}
use Rattle.rules.specs.Outcome.{Lent, Done, collected_in, rows_in, outcome}
use Rattle.rules.proofs.Verdicts.{attributes_good_lem, bases_good_lem, buffs_good_lem}
use mathlib.Core.List.{map}
use Rattle.promises.specs.NoMemory.{book_in, fit_in}
use Rattle.promises.proofs.Everywhere.{every_all}
use Rattle.promises.proofs.FloatsCollected.{held, held-signed, held_modifier, Fine, fine_taken, collected_fine, fine_row, rows_fine}
use Rattle.promises.proofs.NoMemory.{book_good, fit_good}

-- a book and a fit whose tables are good, of any bytes and pairs
module _ (k f : List ℕ) (ps : List (List ℕ)) (good : book_bad (book_of k ps) ≡ none) (fitting : fit_bad (fit_of f ps) ≡ none) where
  modifiers_held : every? held_modifier (book_of k ps).modifiers ≡ true
  unfolding book_of
  modifiers_held =
      every_map held_modifier (λ i. modifier_from i (record_at k ps 3 i)) (from 0 (count_of ps 3))
      ∙ every_all (λ i. held_modifier (modifier_from i (record_at k ps 3 i)))
      (λ i. and_both (word i 16) (and_both (word i 20) (word i 24))) (from 0 (count_of ps 3))
    where
      word : (i at : ℕ) → held (signed (u32_at (record_at k ps 3 i) at)) ≡ true
      word i at = held-signed (u32_at (record_at k ps 3 i) at)

  bases_held : every? (λ r. held r.attribute_id) (fit_of f ps).bases ≡ true
  unfolding fit_of
  bases_held =
      every_map (λ r. held r.attribute_id) (λ i. base_from i (record_at f ps 7 i)) (from 0 (count_of ps 7))
      ∙ every_all (λ i. held (base_from i (record_at f ps 7 i)).attribute_id) (λ i. held-signed (u32_at (record_at f ps 7 i) 0)) (from 0 (count_of ps 7))

  defaults_finite : every? (λ r. finite r.default_value) (book_of k ps).attributes ≡ true
  unfolding attributes_good
  defaults_finite =
      every_weaker (λ r. leb r.flags 3 && finite r.default_value) (λ r. finite r.default_value) (λ r e. and_right (leb r.flags 3) (finite r.default_value) e) (book_of k ps).attributes
      (and_right (ascends (map (λ r. r.id) (book_of k ps).attributes)) (every? (λ r. leb r.flags 3 && finite r.default_value) (book_of k ps).attributes) (attributes_good_lem (book_of k ps) good))

  pub tables_fine : Fine (book_of k ps) (fit_of f ps)
  unfolding bases_good buffs_good
  tables_fine =
      record {
        defaults = defaults_finite;
        modifiers = modifiers_held;
        bases = and_left (every? (λ r. finite r.value) (fit_of f ps).bases) (every? (λ o. ascends (map (λ r. r.attribute_id) (bases_of (fit_of f ps) o))) (fit_of f ps).objects) (bases_good_lem (fit_of f ps) fitting);
        ids = bases_held;
        buffs = buffs_good_lem (fit_of f ps) fitting;
      }

  pub tables-collected : every? fine_taken (collected_in (book_of k ps) (fit_of f ps)) ≡ true
  unfolding collected_in
  tables-collected = collected_fine (book_of k ps) (fit_of f ps) tables_fine

  pub tables_rows : every? (fine_row (book_of k ps) (fit_of f ps) tables_fine) (rows_in (book_of k ps) (fit_of f ps)) ≡ true
  unfolding rows_in
  tables_rows = rows_fine (book_of k ps) (fit_of f ps) tables_fine (collected_in (book_of k ps) (fit_of f ps)) tables-collected

module _ (b : List ℕ) (l : Lent) (d : Done) (h : outcome b l ≡ ok d) where
  pub sheet_fine : Fine (book_in b) (fit_in b)
  sheet_fine = tables_fine b b (pairs_of b) (book_good b l d h) (fit_good b l d h)

  pub sheet_collected : every? fine_taken (collected_in (book_in b) (fit_in b)) ≡ true
  sheet_collected = tables-collected b b (pairs_of b) (book_good b l d h) (fit_good b l d h)

  pub sheet_rows : every? (fine_row (book_in b) (fit_in b) sheet_fine) (rows_in (book_in b) (fit_in b)) ≡ true
  sheet_rows = tables_rows b b (pairs_of b) (book_good b l d h) (fit_good b l d h)
