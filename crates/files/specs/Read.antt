-- The pairs of two files as they are read, whatever the files' lengths. Definitions only.
use Rattle.std.specs.Prelude.{ℕ, true, false, cond, List, [], ◌∷◌, leb, length, replicate}
use Rattle.std.proofs.Math.Option.{Option, some}
use Rattle.rules.specs.Files.{five_pairs, book_header_good}
use Rattle.rules.specs.Sheet.{book_of}
use Rattle.rules.specs.Shape.{book_bad}

-- the five pairs, zeros of a file that is too short to have them
abbrev pub pairs_read : List ℕ → List (List ℕ)
pairs_read b = cond (leb 40 (length b)) (five_pairs b) (replicate 5 (0 ∷ 0 ∷ []))

-- the first bad table of a book, 0 for its header, with the pairs as they were read
unfoldable pub bad_book_by : List ℕ → List (List ℕ) → Option ℕ
bad_book_by k pairs = elim (book_header_good k pairs) [ false ↦ some 0 | true ↦ book_bad (book_of k pairs) ]
