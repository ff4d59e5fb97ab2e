-- Demand 3 for each pilot: "Where POOL is not given, demands 2 and 3 hold per pilot, read over book and fit, with the stretch as room".
use Prim.Native.Nat.{ℕ, ◌<◌}
use mathlib.Core.Path.{◌≡◌, refl, sym, ap, ◌∙◌}
use mathlib.Core.List.{List}
use mathlib.Core.Option.{none}
use lib.ListN.{length, get_or}
use Rattle.laws.specs.Floats.{zero_f}
use Rattle.rules.specs.Answer.{Res, ok}
use Rattle.rules.specs.Bytes.{signed}
use Rattle.rules.specs.Files.{pairs_in, outcome_of}
use Rattle.rules.specs.Fresh.{fresh}
use Rattle.rules.specs.Outcome.{Lent, Done, rooms_of}
use Rattle.rules.specs.Pool.{lent_to}
use Rattle.rules.specs.declared.Refusal.TheVariants.{Depth, Room}
use Rattle.promises.specs.Files.{DeeperFit, book_from, fit_from, world_from}
use Rattle.promises.specs.Given.{cell, SameResult}
use Rattle.promises.specs.NoMemory.{NoLoop}
use Rattle.promises.specs.Pilots.{Pool, Told, pool_place, pilot_outcome, PilotMeets, pilot_result}
use Rattle.promises.specs.Result.{result_for}
use Rattle.promises.specs.Wider.{Longer}
use Rattle.promises.proofs.Files.{files_run, files_book_good, files_fit_good, files_sound, more_depth_files, more_room_files}
use Rattle.promises.proofs.FloatsSheet.{tables_rows}
use Rattle.promises.proofs.Given.{is_done_for, no_memory_for, same_result, unless_so}
use Rattle.promises.proofs.OneAnswer.{is_the_one_for}
use Rattle.promises.proofs.Pilots.{pilot_meets}

-- where POOL is not given, the pilot is told DONE and no attribute leads back to itself, each value in its rows is the one that the rules
-- give, with no memory, for the object and the attribute of the row
pub pilot_no_memory : (k f : List ℕ) (ss : List (List (List ℕ))) (p : ℕ) (before after : Pool) (r : Told) → length before.states ≡ 16
    → PilotMeets k f ss p before after r → pool_place before ss p ≡ none → r.number ≡ 0 → NoLoop (world_from k f (lent_to ss p))
    → (i : ℕ) → i < r.counts.rows
    → fresh (world_from k f (lent_to ss p)) (cell (pilot_result ss p after r).rows i 0) (signed (cell (pilot_result ss p after r).rows i 1)) ≡ ok (get_or (pilot_result ss p after r).values i zero_f)
pilot_no_memory k f ss p before after r sixteen m h z free i j =
    let l = lent_to ss p in
    let given = pilot_meets k f ss p before after r m h sixteen in
    let o = is_done_for (pilot_outcome k f ss p) l (pilot_result ss p after r) given z in
    let d = o.done in
    no_memory_for (pilot_outcome k f ss p) l (pilot_result ss p after r) given d o.is (book_from k f) (fit_from k f) (rooms_of l)
    (files_run k f (rooms_of l) d o.is) (files_sound k f (rooms_of l) d o.is)
    (tables_rows k f (pairs_in k f) (files_book_good k f (rooms_of l) d o.is) (files_fit_good k f (rooms_of l) d o.is)) free i j

-- two calls for a pilot, with POOL in neither, of the same book
module _ (k f g : List ℕ) (ss uu : List (List (List ℕ))) (p : ℕ) (before after lent left : Pool) (r t : Told) (x : length before.states ≡ 16) (y : length lent.states ≡ 16)
    (m : PilotMeets k f ss p before after r) (h : pool_place before ss p ≡ none) (n : PilotMeets k g uu p lent left t) (j : pool_place lent uu p ≡ none) where
  -- a pilot's answer that is not 9 DEPTH is just the same for its fit with more depth, where its stretches are as long
  pub pilot_more_depth : DeeperFit f g → lent_to ss p ≡ lent_to uu p → (r.number ≡ 9 → ⊥) → pilot_result ss p after r ≡ pilot_result uu p left t
  pilot_more_depth d e z =
      let given = pilot_meets k f ss p before after r m h x in
      is_the_one_for (pilot_outcome k f ss p) (lent_to ss p) (pilot_result ss p after r) given
      ∙ ap (λ (o : Res Done). result_for o (lent_to ss p)) (sym (unless_so Depth 9 (λ q. refl) (more_depth_files k f g (rooms_of (lent_to ss p)) d) (λ q. z (given.by_number ∙ q))))
      ∙ ap (λ (l : Lent). result_for (outcome_of k g (rooms_of l)) l) e
      ∙ sym (is_the_one_for (pilot_outcome k g uu p) (lent_to uu p) (pilot_result uu p left t) (pilot_meets k g uu p lent left t n j y))

-- a pilot's answer that is not 7 ROOM is the same with stretches at least as long, in number, place, counts and every column, with zeros behind
pub pilot_more_room : (k f : List ℕ) (ss uu : List (List (List ℕ))) (p : ℕ) (before after lent left : Pool) (r t : Told) → length before.states ≡ 16 → length lent.states ≡ 16
    → PilotMeets k f ss p before after r → pool_place before ss p ≡ none → PilotMeets k f uu p lent left t → pool_place lent uu p ≡ none
    → Longer (lent_to ss p) (lent_to uu p) → (r.number ≡ 7 → ⊥) → SameResult (pilot_result ss p after r) (pilot_result uu p left t)
pilot_more_room k f ss uu p before after lent left r t x y m h n j w z =
    let given = pilot_meets k f ss p before after r m h x in
    same_result (pilot_outcome k f ss p) (pilot_outcome k f uu p) (lent_to ss p) (lent_to uu p) (pilot_result ss p after r) (pilot_result uu p left t)
    (sym (unless_so Room 7 (λ q. refl) (more_room_files k f (lent_to ss p) (lent_to uu p) w) (λ q. z (given.by_number ∙ q)))) given (pilot_meets k f uu p lent left t n j y)
