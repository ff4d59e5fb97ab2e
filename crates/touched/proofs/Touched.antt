-- Who is touched, of every run that is DONE: for any bytes and lent lists.
use Prim.Native.Nat.{ℕ, ◌<◌}
use mathlib.Core.Path.{◌≡◌, sym, ap, subst, ◌∙◌}
use mathlib.Core.Bool.{◌&&◌}
use mathlib.Core.List.{List}
use lib.IntN.{ℤ}
use lib.ListN.{length, get_or}
use Rattle.laws.specs.Lists.{eq_z, flat}
use Rattle.rules.specs.Answer.{ok}
use Rattle.rules.specs.Columns.{yes1}
use Rattle.rules.specs.Dispatch.{Row}
use Rattle.rules.specs.Item.{object}
use Rattle.rules.specs.Outcome.{Lent, Done, collected_in, rows_in, rooms_of, outcome}
use Rattle.rules.specs.declared.Pass2Effect.{Pass2Effect}
use Rattle.promises.specs.NoMemory.{book_in, fit_in}
use Rattle.promises.proofs.NoMemory.{is-run, sheet_sound}
use Rattle.promises.proofs.NoMemoryRun.{ran, run_rows}
use Rattle.touched.specs.Named.{named}
use Rattle.touched.specs.Touched.{entries_for, named_sum}
use Rattle.touched.proofs.Rows.{rows_touched, rows_counted}

module _ (b : List ℕ) (l : Lent) (d : Done) (e : outcome b l ≡ ok d) where
  pub collected-is : d.collected ≡ collected_in (book_in b) (fit_in b)
  collected-is = ap (λ (x : Done). x.collected) (ran (book_in b) (fit_in b) (rooms_of l) d (is-run b l d e)).is

  pub rows_are : d.rows ≡ rows_in (book_in b) (fit_in b)
  rows_are = run_rows (book_in b) (fit_in b) (rooms_of l) d (is-run b l d e)

  -- "gets exactly one entry for it on the modified attribute .., and no other object gets any": of each effect j, object i and attribute
  -- a there is one entry where j names i and modifies a, and none elsewhere
  pub touched : (i : ℕ) (a : ℤ) (j : ℕ) (z : Pass2Effect) → i < length (fit_in b).objects → j < length d.collected
      → length (entries_for d.rows i a j) ≡ yes1 (named (book_in b) (fit_in b) (get_or d.collected j z) (object (fit_in b) i) && eq_z a (get_or d.collected j z).target_attribute_id)
  unfolding rows_in
  touched i a j z h =
      subst (λ (ts : List Pass2Effect). j < length ts → length (entries_for d.rows i a j) ≡ yes1 (named (book_in b) (fit_in b) (get_or ts j z) (object (fit_in b) i) && eq_z a (get_or ts j z).target_attribute_id)) (sym collected-is)
      (λ m. ap (λ (rs : List Row). length (entries_for rs i a j)) rows_are ∙ rows_touched (book_in b) (fit_in b) (collected_in (book_in b) (fit_in b)) (sheet_sound b l d e) i a j z h m)

  -- "The length of the entry list is the sum, over collected effects, of the objects so named"
  pub entry_count : length (flat (λ (r : Row). r.entries) d.rows) ≡ named_sum (book_in b) (fit_in b) d.collected
  unfolding rows_in
  entry_count =
      ap (λ (rs : List Row). length (flat (λ (r : Row). r.entries) rs)) rows_are
      ∙ rows_counted (book_in b) (fit_in b) (collected_in (book_in b) (fit_in b)) (sheet_sound b l d e)
      ∙ ap (named_sum (book_in b) (fit_in b)) (sym collected-is)
