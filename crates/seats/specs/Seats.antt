-- Pilots come and go: a pool's rows lent as they are asked for, and given back. 02, M-107. Definitions only.
use Rattle.std.specs.Prelude.{ℕ, ◌+◌, ◌-◌, max, Bool, true, false, ◌&&◌, cond, List, [], ◌∷◌, ◌++◌, map, length, take, drop, set, replicate, leb, ltb, eqb}
use Rattle.std.proofs.Math.Option.{Option, none, some}
use Rattle.laws.specs.Lists.{every?, put, from}
use Rattle.rules.specs.Pool.{first_of, length_of, stretch_of, first_at, length_at}
use Rattle.free_table.specs.declared.Stretch.{Stretch}
use Rattle.free_table.specs.Table.{empty}
use Rattle.seats.specs.Tiling.{end_of, tiled}

-- all that is lent: a pool of so many rows of every list, the table of free stretches, of which `count` are in use, and the pilots'
-- stretches of the five lists, as M-106 has them
pub record Hall : Type 0 where
  pub rows : ℕ
  pub table : List Stretch
  pub count : ℕ
  pub seats : List (List (List ℕ))

abbrev pub free_of : Hall → List Stretch
free_of h = take h.count h.table

-- pilot p's stretch, "the same rows of every list": that of list 1
abbrev pub seat_of : List (List (List ℕ)) → ℕ → Stretch
seat_of ss p = record { start = first_at ss p 1; length = length_at ss p 1 }

-- a pilot is in where it has rows
abbrev pub is_in : List (List (List ℕ)) → ℕ → Bool
is_in ss p = ltb 0 (seat_of ss p).length

abbrev pub seats_of : Hall → List Stretch
seats_of h = map (seat_of h.seats) (from 0 16)

-- the free stretches, and every pilot's
abbrev pub all : Hall → List Stretch
all h = free_of h ++ seats_of h

-- ---- 18 TABLE

-- "ordered and never touching each other", and none is empty
abbrev pub apart : List Stretch → Bool
apart [] = true
apart (s ∷ []) = ltb 0 s.length
apart (s ∷ t ∷ r) = ltb 0 s.length && ltb (end_of s) t.start && apart (t ∷ r)

abbrev pub same_pair : List ℕ → List ℕ → Bool
same_pair s t = eqb (first_of s) (first_of t) && eqb (length_of s) (length_of t)

-- "the same rows of every list"
abbrev pub same_five : List (List (List ℕ)) → ℕ → Bool
same_five ss p = every? (λ l. same_pair (stretch_of ss p 1) (stretch_of ss p l)) (from 2 4)

-- seventeen places at least, since 16 pilots leave at most 17 gaps; every row of the pool free or a pilot's, and none twice
unfoldable pub table_good : Hall → Bool
table_good h =
    leb 17 (length h.table) && leb h.count (length h.table) && every? (same_five h.seats) (from 0 16) && apart (free_of h) && tiled h.rows (all h)

-- ---- admission: "the first free stretch that is long enough"

-- where its front begins, and what is free then
pub record Cut : Type 0 where
  pub start : ℕ
  pub rest : List Stretch

abbrev pub rest_of : Stretch → ℕ → Stretch
rest_of s w = record { start = s.start + w; length = s.length - w }

abbrev pub behind : Stretch → Option Cut → Option Cut
behind s none = none
behind s (some c) = some (record { start = c.start; rest = s ∷ c.rest })

-- w rows off the front of s, where r are free behind it
abbrev pub taken : ℕ → Stretch → List Stretch → Cut
taken w s r = record { start = s.start; rest = put (ltb w s.length) (rest_of s w) r }

abbrev pub cut_first : ℕ → List Stretch → Option Cut
cut_first w [] = none
cut_first w (s ∷ r) = elim (leb w s.length) [ true ↦ some (taken w s r) | false ↦ behind s (cut_first w r) ]

-- ---- leaving: "joined to its neighbours"

abbrev pub both : Stretch → Stretch → Stretch
both s t = record { start = s.start; length = s.length + t.length }

-- into its place by start
abbrev pub in_order : Stretch → List Stretch → List Stretch
in_order s [] = s ∷ []
in_order s (t ∷ r) = cond (ltb s.start t.start) (s ∷ t ∷ r) (t ∷ in_order s r)

abbrev pub meet : Stretch → List Stretch → List Stretch
meet s [] = s ∷ []
meet s (t ∷ r) = cond (eqb (end_of s) t.start) (both s t ∷ r) (s ∷ t ∷ r)

-- those that touch are one
abbrev pub joined : List Stretch → List Stretch
joined [] = []
joined (s ∷ r) = meet s (joined r)

-- what is free once s is
abbrev pub freed : Stretch → List Stretch → List Stretch
freed s fs = joined (in_order s fs)

-- ---- what comes back

pub data Seated : Type 0 where
  Done : Seated
  Table : Seated
  Pilot : ℕ → Seated
  Length : ℕ → Seated
  Pool : ℕ → Seated

abbrev pub number : Seated → ℕ
number Done = 0
number Table = 18
number (Pilot p) = 13
number (Length p) = 14
number (Pool p) = 12

abbrev pub place : Seated → ℕ
place Done = 0
place Table = 0
place (Pilot p) = p
place (Length p) = p
place (Pool p) = p

pub record Given : Type 0 where
  pub answer : Seated
  pub hall : Hall

-- a refusal leaves all as it was
abbrev pub refused : Seated → Hall → Given
refused a h = record { answer = a; hall = h }

-- the free stretches fs in the table, empty ones where it has become shorter, and what stood behind
abbrev pub tabled : List Stretch → ℕ → List Stretch → List Stretch
tabled t n fs = fs ++ (replicate (n - length fs) empty ++ drop (max n (length fs)) t)

-- a pilot's five pairs
abbrev pub five : Stretch → List (List ℕ)
five s = replicate 5 (s.start ∷ s.length ∷ [])

-- the hall with these free, and pilot p at s
abbrev pub with_seat : Hall → List Stretch → ℕ → Stretch → Hall
with_seat h fs p s = record { rows = h.rows; table = tabled h.table h.count fs; count = length fs; seats = set h.seats p (five s) }

abbrev pub seat : Hall → ℕ → ℕ → Option Cut → Given
seat h p w none = refused (Pool p) h
seat h p w (some c) = record { answer = Done; hall = with_seat h c.rest p (record { start = c.start; length = w }) }

-- "TABLE", "PILOT", "LENGTH", "POOL", in this order
unfoldable pub admit : Hall → ℕ → ℕ → Given
admit h p w =
    elim (table_good h) [
      | false ↦ refused Table h
      | true ↦ elim (ltb p 16 && eqb (seat_of h.seats p).length 0) [
        | false ↦ refused (Pilot p) h
        | true ↦ elim (eqb w 0) [ true ↦ refused (Length p) h | false ↦ seat h p w (cut_first w (free_of h)) ]
      ]
    ]

unfoldable pub leave : Hall → ℕ → Given
leave h p =
    elim (table_good h) [
      | false ↦ refused Table h
      | true ↦ elim (ltb p 16 && is_in h.seats p) [
        | false ↦ refused (Pilot p) h
        | true ↦ record { answer = Done; hall = with_seat h (freed (seat_of h.seats p) (free_of h)) p empty }
      ]
    ]
