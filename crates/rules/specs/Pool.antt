-- The pilots' stretches of one lent pool, and 12 POOL. 02, "One set of records, several pilots" (M-106).
use Rattle.std.specs.Prelude.{ℕ, ◌+◌, ◌-◌, max, min, Bool, true, false, ◌&&◌, ◌||◌, List, [], ◌∷◌, get_or, ltb}
use Rattle.std.proofs.Math.Option.{Option, none, some}
use Rattle.laws.specs.Lists.{some?, first, from}
use Rattle.rules.specs.Outcome.{Lent}

-- "12 POOL"
abbrev pub pool_number : ℕ
pool_number = 12

-- a stretch is lent as first and length, in rows of its list
abbrev pub first_of : List ℕ → ℕ
first_of s = get_or s 0 0

abbrev pub length_of : List ℕ → ℕ
length_of s = get_or s 1 0

-- the row past its last
abbrev pub end_of : List ℕ → ℕ
end_of s = first_of s + length_of s

-- "each pilot has a fixed stretch of each list": pilot p's of list l, 1 to 5
abbrev pub stretch_of : List (List (List ℕ)) → ℕ → ℕ → List ℕ
stretch_of ss p l = get_or (get_or ss p []) (l - 1) []

abbrev pub first_at : List (List (List ℕ)) → ℕ → ℕ → ℕ
first_at ss p l = first_of (stretch_of ss p l)

abbrev pub length_at : List (List (List ℕ)) → ℕ → ℕ → ℕ
length_at ss p l = length_of (stretch_of ss p l)

-- the pool's rows of each list: as many as its shortest column has
abbrev pub pool_rooms : Lent → List ℕ
pool_rooms l =
    min l.collected l.collected_values ∷ min l.rows (min l.bases l.values) ∷ min l.entries l.entry_values ∷ l.plain
    ∷ min l.sources l.source_floats ∷ []

-- "with the stretch as room": what is lent to pilot p, in each column of a list its stretch
abbrev pub lent_to : List (List (List ℕ)) → ℕ → Lent
lent_to ss p =
    record {
      collected = length_at ss p 1;
      collected_values = length_at ss p 1;
      rows = length_at ss p 2;
      bases = length_at ss p 2;
      values = length_at ss p 2;
      entries = length_at ss p 3;
      entry_values = length_at ss p 3;
      plain = length_at ss p 4;
      sources = length_at ss p 5;
      source_floats = length_at ss p 5;
    }

-- "any pilot's stretch leaves the pool": it has a row, and its last is not one of n rows
abbrev pub leaves : ℕ → List ℕ → Bool
leaves n s = ltb 0 (length_of s) && ltb n (end_of s)

-- "or overlaps a lower pilot's": they have a row in common
abbrev pub overlaps : List ℕ → List ℕ → Bool
overlaps s t = ltb (max (first_of s) (first_of t)) (min (end_of s) (end_of t))

-- whether pilot p's stretch of list l leaves the pool or overlaps a lower pilot's
abbrev pub astray_in : List ℕ → List (List (List ℕ)) → ℕ → ℕ → Bool
astray_in rooms ss p l =
    leaves (get_or rooms (l - 1) 0) (stretch_of ss p l) || some? (λ q. overlaps (stretch_of ss p l) (stretch_of ss q l)) (from 0 p)

-- "any pilot's stretch leaves the pool or overlaps a lower pilot's"
unfoldable pub astray : List ℕ → List (List (List ℕ)) → ℕ → Bool
astray rooms ss p = some? (astray_in rooms ss p) (from 1 5)

-- whether pilot p has a row in one of the lists
abbrev pub has_row : List (List (List ℕ)) → ℕ → Bool
has_row ss p = some? (λ l. ltb 0 (length_at ss p l)) (from 1 5)

-- "the number asked for has no stretch": it is above 15, or has no row in any list
unfoldable pub seated : List (List (List ℕ)) → ℕ → Bool
seated ss p = ltb p 16 && has_row ss p

-- the place of "12 POOL where the number asked for has no stretch (place that number), or any pilot's stretch leaves the pool or
-- overlaps a lower pilot's (place the first such pilot)"; none where POOL is not given
unfoldable pub pool_bad : List ℕ → List (List (List ℕ)) → ℕ → Option ℕ
pool_bad rooms ss p = elim (seated ss p) [ false ↦ some p | true ↦ first (astray rooms ss) (from 0 16) ]
