-- The marked examples of M-107, by computing the definition.
use Prim.Native.Nat.{ℕ, ◌+◌}
use mathlib.Core.Path.{◌≡◌, refl}
use mathlib.Core.Bool.{true}
use mathlib.Core.List.{List, [], ◌∷◌, ◌++◌, map}
use lib.ListN.{replicate, get_or, length, take}
use Rattle.laws.specs.Lists.{from}
use Rattle.free_table.specs.declared.Stretch.{Stretch}
use Rattle.free_table.specs.Table.{empty}
use Rattle.seats.specs.Tiling.{tiled}
use Rattle.seats.specs.Seats.{Hall, Seated, Done, Table, Pilot, Length, Pool, table_good, free_of, seat_of, admit, leave}

abbrev at : ℕ → ℕ → Stretch
at a n = record { start = a; length = n }

-- free stretches in a table of 17, nobody in
abbrev hall : ℕ → List Stretch → ℕ → Hall
hall n fs more = record { rows = n; table = fs ++ replicate more empty; count = length fs; seats = replicate 16 (replicate 5 (0 ∷ 0 ∷ [])) }

abbrev ten : Hall
ten = hall 10 (at 0 10 ∷ []) 16

pub data Call : Type 0 where
  a : ℕ → ℕ → Call
  l : ℕ → Call

abbrev said : Call → Hall → Seated
said (a p w) h = (admit h p w).answer
said (l p) h = (leave h p).answer

abbrev then : Call → Hall → Hall
then (a p w) h = (admit h p w).hall
then (l p) h = (leave h p).hall

abbrev answers : List Call → Hall → List Seated
answers [] h = []
answers (c ∷ cs) h = said c h ∷ answers cs (then c h)

abbrev after : List Call → Hall → Hall
after [] h = h
after (c ∷ cs) h = after cs (then c h)

abbrev three : List Call
three = a 0 4 ∷ a 1 3 ∷ a 2 3 ∷ []

abbrev again : List Call
again = three ++ (l 1 ∷ l 0 ∷ a 3 5 ∷ a 4 3 ∷ [])

abbrev gaps : List Call
gaps = a 0 3 ∷ a 1 4 ∷ a 2 3 ∷ l 0 ∷ l 2 ∷ a 3 4 ∷ a 3 3 ∷ []

abbrev joins : List Call
joins = a 5 2 ∷ a 6 2 ∷ a 7 2 ∷ l 6 ∷ l 5 ∷ l 7 ∷ []

abbrev odd : Hall
odd =
    record {
      rows = 33;
      table = map (λ i. at (i + i) 1) (from 0 17);
      count = 17;
      seats = map (λ p. replicate 5 ((p + p + 1) ∷ 1 ∷ [])) (from 0 16);
    }

pub record Examples : Type 0 where
  pub one : answers again ten ≡ Done ∷ Done ∷ Done ∷ Done ∷ Done ∷ Done ∷ Pool 4 ∷ []
  pub one_free : free_of (after again ten) ≡ at 5 2 ∷ []
  pub one_seats : map (seat_of (after again ten).seats) (from 0 5) ≡ empty ∷ empty ∷ at 7 3 ∷ at 0 5 ∷ empty ∷ []
  pub two : answers gaps ten ≡ Done ∷ Done ∷ Done ∷ Done ∷ Done ∷ Pool 3 ∷ Done ∷ []
  pub two_free : free_of (after gaps ten) ≡ at 7 3 ∷ []
  pub three_free : (free_of (after (take 4 joins) ten) ≡ at 2 2 ∷ at 6 4 ∷ []) × (free_of (after (take 5 joins) ten) ≡ at 0 4 ∷ at 6 4 ∷ [])
  pub three_whole : after joins ten ≡ ten
  pub four : answers (a 0 0 ∷ a 16 0 ∷ l 0 ∷ a 0 11 ∷ a 0 10 ∷ a 0 0 ∷ a 1 1 ∷ []) ten ≡ Length 0 ∷ Pilot 16 ∷ Pilot 0 ∷ Pool 0 ∷ Done ∷ Pilot 0 ∷ Pool 1 ∷ []
  pub sixteen : answers (a 0 1 ∷ []) (hall 10 (at 0 10 ∷ []) 15) ≡ Table ∷ []
  pub empty-one : answers (a 0 1 ∷ []) (hall 10 (at 0 10 ∷ empty ∷ []) 16) ≡ Table ∷ []
  pub touching : answers (a 0 1 ∷ []) (hall 10 (at 0 4 ∷ at 4 6 ∷ []) 15) ≡ Table ∷ []
  pub disordered : answers (a 0 1 ∷ []) (hall 10 (at 5 5 ∷ at 0 5 ∷ []) 15) ≡ Table ∷ []
  pub other_pool : answers (a 99 0 ∷ []) (hall 11 (at 0 10 ∷ []) 16) ≡ Table ∷ []
  pub full : table_good odd ≡ true
  pub full_left : ((after (l 7 ∷ []) odd).count ≡ 16) × (get_or (after (l 7 ∷ []) odd).table 7 empty ≡ at 14 3) × (get_or (after (l 7 ∷ []) odd).table 16 (at 9 9) ≡ empty)

pub examples : Examples
unfolding tiled table_good admit leave
examples =
    record {
      one = refl;
      one_free = refl;
      one_seats = refl;
      two = refl;
      two_free = refl;
      three_free = (refl, refl);
      three_whole = refl;
      four = refl;
      sixteen = refl;
      empty-one = refl;
      touching = refl;
      disordered = refl;
      other_pool = refl;
      full = refl;
      full_left = (refl, refl, refl);
    }
