-- M-106: the book and the fit as two files, each with a header of its own.
use Rattle.std.specs.Prelude.{ℕ, ◌+◌, ◌*◌, Bool, true, false, ◌&&◌, List, [], ◌∷◌, ◌++◌, map, length, leb, eqb}
use Rattle.std.proofs.Math.Option.{Option, none, some}
use Rattle.laws.specs.Lists.{from}
use Rattle.rules.specs.Answer.{Res, refused}
use Rattle.rules.specs.Bytes.{u32_at, count_of, offset_of, width_of, limit_of}
use Rattle.rules.specs.Sheet.{book_of, fit_of}
use Rattle.rules.specs.Shape.{book_bad, fit_bad}
use Rattle.rules.specs.Outcome.{Rooms, Done, run}
use Rattle.rules.specs.declared.Refusal.TheVariants.{Shape}

-- a file begins with five pairs (count, byte offset)
abbrev pub five_pairs : List ℕ → List (List ℕ)
five_pairs b = map (λ i. u32_at b (8 * i) ∷ u32_at b (8 * i + 4) ∷ []) (from 0 5)

-- the ten pairs, as a sheet has them
abbrev pub pairs_in : List ℕ → List ℕ → List (List ℕ)
pairs_in k f = five_pairs k ++ five_pairs f

-- tables follow in order without gaps from byte h on, each with at most its most records, and byte n is the end of the last
unfoldable pub standing : List (List ℕ) → ℕ → List ℕ → ℕ → Bool
standing pairs h [] n = eqb h n
standing pairs h (t ∷ ts) n =
    leb (count_of pairs t) (limit_of t) && eqb (offset_of pairs t) h && standing pairs (h + width_of t * count_of pairs t) ts n

-- the book's pairs and three category numbers are 52 bytes
unfoldable pub book_header_good : List ℕ → List (List ℕ) → Bool
book_header_good k pairs = leb 52 (length k) && standing pairs 52 (from 1 5) (length k)

-- the fit's pairs, depth and recording are 48
unfoldable pub fit_header_good : List ℕ → List (List ℕ) → Bool
fit_header_good f pairs =
    leb 48 (length f) && standing pairs 48 (from 6 5) (length f) && leb 1 (u32_at f 40) && leb (u32_at f 40) 256 && leb (u32_at f 44) 1

-- "SHAPE of the fit (place plus 20)"
abbrev pub plus20 : Option ℕ → Option ℕ
plus20 none = none
plus20 (some t) = some (t + 20)

unfoldable pub bad_fit : List ℕ → List (List ℕ) → Option ℕ
bad_fit f pairs = elim (fit_header_good f pairs) [ false ↦ some 0 | true ↦ fit_bad (fit_of f pairs) ]

-- the book is judged by itself: of the pairs only its own five are read
unfoldable pub bad_book : List ℕ → Option ℕ
bad_book k = elim (book_header_good k (pairs_in k [])) [ false ↦ some 0 | true ↦ book_bad (book_of k (pairs_in k [])) ]

-- "SHAPE of the book, SHAPE of the fit (place plus 20)"
unfoldable pub bad_files : List ℕ → List ℕ → Option ℕ
bad_files k f = elim (bad_book k) [ some t ↦ some t | none ↦ plus20 (bad_fit f (pairs_in k f)) ]

-- of any two files, with these rooms
unfoldable pub outcome_of : List ℕ → List ℕ → Rooms → Res Done
outcome_of k f q = elim (bad_files k f) [
  | some t ↦ refused (Shape t)
  | none ↦ run (book_of k (pairs_in k f)) (fit_of f (pairs_in k f)) q
]
