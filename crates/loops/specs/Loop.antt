-- What leads back to itself, by a search that computes. 02, M-103 and M-111: "10 LOOP".
use Rattle.std.specs.Prelude.{ℕ, zero, suc, ◌+◌, Bool, true, false, List, [], ◌∷◌, ◌++◌, eqb, length, get_or}
use Rattle.std.proofs.Math.Option.{Option, none, some}
use Rattle.laws.specs.Lists.{some?, flat, first, from}
use Rattle.rules.specs.Dispatch.{Key}
use Rattle.rules.specs.Value.{World, find_row}
use Rattle.rules.specs.Fresh.{needs_of}
use Rattle.promises.specs.NoMemory.{no_row}

-- the rows of the keys that have one, by number
abbrev pub rows_of : World → List Key → List ℕ
rows_of w ks = flat (λ a. elim (find_row a.object a.id 0 w.rows) [ none ↦ [] | some f ↦ f.index ∷ [] ]) ks

-- the rows that row i needs: sources, running or not, resistances, limits; "as demand 3 counts it"
unfoldable pub need_rows : World → ℕ → List ℕ
need_rows w i = rows_of w (needs_of w.book (get_or w.rows i no_row))

-- which rows are met from those to look at, each of them once; n looks
unfoldable pub met : (ℕ → List ℕ) → ℕ → List ℕ → List ℕ → List ℕ
met next zero seen todo = seen
met next (suc n) seen [] = seen
met next (suc n) seen (i ∷ todo) = elim (some? (eqb i) seen) [ true ↦ met next n seen todo | false ↦ met next n (i ∷ seen) (next i ++ todo) ]

-- all that is met from some rows, of n rows: each row's next ones are put to the list once, so as many looks as there are of them are enough
unfoldable pub searched : (ℕ → List ℕ) → ℕ → List ℕ → List ℕ
searched next n todo = met next (length todo + length (flat next (from 0 n))) [] todo

-- row i is "an attribute that leads back to itself"
unfoldable pub backs : World → ℕ → Bool
backs w i = some? (eqb i) (searched (need_rows w) (length w.rows) (need_rows w i))

-- of these rows "the lowest object .. with such an attribute"; rows ascend by object
unfoldable pub loop_among : World → List ℕ → Option ℕ
loop_among w is = elim (first (backs w) is) [ none ↦ none | some i ↦ some (get_or w.rows i no_row).object ]

-- "10 LOOP (place: the lowest object with an attribute as in M-103)"
unfoldable pub loop_at : World → Option ℕ
loop_at w = loop_among w (from 0 (length w.rows))
