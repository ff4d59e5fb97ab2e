-- The marked examples of M-106, by computing the definition: case L as a book and a fit, and pilots 3 and 5 of a pool of eight rows a list.
use Prim.Native.Nat.{ℕ, ◌+◌, ◌*◌}
use mathlib.Core.Path.{◌≡◌, refl}
use mathlib.Core.List.{List, [], ◌∷◌, ◌++◌}
use mathlib.Core.Option.{none, some}
use lib.ListN.{length, take, set, replicate}
use Rattle.laws.specs.Lists.{flat}
use Rattle.rules.specs.Answer.{Res, refused}
use Rattle.rules.specs.Columns.{Counts, counts_of, row_column, state_column}
use Rattle.rules.specs.Files.{standing, book_header_good, fit_header_good, bad_fit, bad_book, bad_files, outcome_of}
use Rattle.rules.specs.Outcome.{Lent, Done, rooms_of, outcome}
use Rattle.rules.specs.Pool.{lent_to, astray, seated, pool_bad}
use Rattle.rules.specs.declared.Refusal.TheVariants.{Shape, Room, Depth}
use Rattle.rules.proofs.Everything.{everything}
use Rattle.rules.proofs.Marked.{case_l}
use Rattle.rules.proofs.Written.{words, whole, attribute, effect, modifier, type_effect, hull, fitted, base, ask, pairs}

-- a file: its tables' pairs, its numbers, its tables
abbrev file : List ℕ → List (List (List ℕ)) → List ℕ
file numbers tables = pairs (8 * 5 + length (words numbers)) tables ++ (words numbers ++ flat (flat (λ r. r)) tables)

abbrev pub book_l : List ℕ
book_l =
    file (7 ∷ 0 ∷ 0 ∷ [])
    ((attribute 20 2 0 0 0 ∷ attribute 37 2 0 0 0 ∷ []) ∷ (effect 1 1 0 0 1 ∷ []) ∷ (modifier 4 1 7 20 37 0 ∷ []) ∷ (type_effect 9 1 ∷ []) ∷ [] ∷ [])

-- with another depth, a second object of another kind, and asks
abbrev fit_with : ℕ → ℕ → List (List ℕ) → List ℕ
fit_with depth second asks =
    file (depth ∷ 0 ∷ [])
    ((hull 0 0 0 1 ∷ hull second 0 0 0 ∷ fitted 3 1 1 1 1 ∷ fitted 3 1 1 1 1 ∷ []) ∷ (base 37 (whole 200) ∷ base 20 (whole 50) ∷ []) ∷ [] ∷ [] ∷ asks ∷ [])

abbrev pub fit_l : List ℕ
fit_l = fit_with 2 2 []

-- stretches of the five lists
abbrev nobody : List (List ℕ)
nobody = replicate 5 (0 ∷ 0 ∷ [])

abbrev three : ℕ → List (List ℕ)
three n = (0 ∷ 2 ∷ []) ∷ (2 ∷ n ∷ []) ∷ (0 ∷ 2 ∷ []) ∷ (0 ∷ 1 ∷ []) ∷ (0 ∷ 0 ∷ []) ∷ []

-- in list 2 alone
abbrev in_rows : ℕ → ℕ → List (List ℕ)
in_rows a n = set nobody 1 (a ∷ n ∷ [])

-- pilots 3 and 5 of sixteen
abbrev seats : ℕ → List (List ℕ) → List (List (List ℕ))
seats n five = set (set (replicate 16 nobody) 3 (three n)) 5 five

-- what pilot 3 gets, with n rows of list 2
abbrev given : ℕ → List ℕ → List ℕ → Res Done
given n k f = outcome_of k f (rooms_of (lent_to (seats n nobody) 3))

abbrev eights : List ℕ
eights = replicate 5 8

abbrev lent : Lent
lent = record { collected = 2; collected_values = 2; rows = 3; bases = 3; values = 3; entries = 2; entry_values = 2; plain = 1; sources = 0; source_floats = 0 }

pub record MarkedPilots : Type 0 where
  pub long : (length book_l ≡ 164) × (length fit_l ≡ 344)
  -- 1: L as two files is L: DONE, counts 2 3 2 0 0, and rows with firsts 0, 2, 2
  pub as_lent : lent_to (seats 3 nobody) 3 ≡ lent
  pub same : given 3 book_l fit_l ≡ outcome (case_l 2 []) lent
  pub counts : counts_of (given 3 book_l fit_l) ≡ record { collected = 2; rows = 3; entries = 2; plain = 0; sources = 0 }
  pub rows : row_column (given 3 book_l fit_l) 3 ≡ (0 ∷ 37 ∷ 0 ∷ 2 ∷ 0 ∷ 0 ∷ []) ∷ (2 ∷ 20 ∷ 2 ∷ 0 ∷ 0 ∷ 0 ∷ []) ∷ (3 ∷ 20 ∷ 2 ∷ 0 ∷ 0 ∷ 0 ∷ []) ∷ []
  pub alone : pool_bad eights (seats 3 nobody) 3 ≡ none
  -- 2: no stretch
  pub not-seated : pool_bad eights (seats 3 nobody) 2 ≡ some 2
  pub above : pool_bad eights (seats 3 nobody) 16 ≡ some 16
  pub above_first : pool_bad (replicate 5 1) (seats 3 nobody) 16 ≡ some 16
  -- 3: a row of both, stretches that touch, one that leaves
  pub shared : pool_bad eights (seats 3 (in_rows 4 2)) 3 ≡ some 5
  pub touching : pool_bad eights (seats 3 (in_rows 5 2)) 3 ≡ none
  pub leaving : pool_bad eights (seats 3 (in_rows 7 2)) 3 ≡ some 5
  pub lowest : pool_bad (set eights 1 4) (seats 3 (in_rows 4 2)) 5 ≡ some 3
  -- 4: an empty stretch is nowhere
  pub empty_anywhere : pool_bad eights (seats 3 (set (in_rows 900 0) 0 (2 ∷ 1 ∷ []))) 3 ≡ none
  -- 5: SHAPE of the book, then of the fit
  pub short_book : given 3 (take 163 book_l) [] ≡ refused (Shape 0)
  pub short_fit : given 3 book_l (take 343 fit_l) ≡ refused (Shape 20)
  pub two_ships : given 3 book_l (fit_with 2 0 []) ≡ refused (Shape 26)
  pub no_object : given 3 book_l (fit_with 2 2 (ask 9 20 ∷ [])) ≡ refused (Shape 30)
  pub too_deep : given 3 book_l (fit_with 257 2 []) ≡ refused (Shape 20)
  pub zero_states : state_column (given 3 book_l (take 343 fit_l)) ≡ replicate 1024 (replicate 2 0)
  -- 6: the stretch is the room
  pub little : given 2 book_l fit_l ≡ refused (Room 2)
  pub zero_rows : row_column (given 2 book_l fit_l) 2 ≡ replicate 2 (replicate 6 0)
  pub shallow : given 3 book_l (fit_with 1 2 []) ≡ refused (Depth 2)

pub marked_pilots : MarkedPilots
unfolding everything standing book_header_good fit_header_good bad_fit bad_book bad_files outcome_of astray seated pool_bad
marked_pilots =
    record {
      long = (refl, refl);
      as_lent = refl;
      same = refl;
      counts = refl;
      rows = refl;
      alone = refl;
      not-seated = refl;
      above = refl;
      above_first = refl;
      shared = refl;
      touching = refl;
      leaving = refl;
      lowest = refl;
      empty_anywhere = refl;
      short_book = refl;
      short_fit = refl;
      two_ships = refl;
      no_object = refl;
      too_deep = refl;
      zero_states = refl;
      little = refl;
      zero_rows = refl;
      shallow = refl;
    }
