-- What the caller is told, of the first seventeen places of a table of `room`. Definitions only.
use Rattle.std.specs.Prelude.{ℕ, ◌≤◌, ◌<◌, List, ltb, length, take, get_or, Result, Ok, Err}
use Rattle.std.proofs.Math.Option.{Option, none, some}
use Rattle.free_table.specs.declared.Stretch.{Stretch}
use Rattle.free_table.specs.Table.{empty, pick}
use Rattle.seats.specs.declared.Seat.{Seat}
use Rattle.seats.specs.declared.Left.{Left}
use Rattle.seats.specs.declared.SeatRefusal.{SeatRefusal}
use Rattle.seats.specs.declared.SeatRefusal.TheVariants as refusal
use Rattle.seats.specs.Tiling.{end_of}
use Rattle.seats.specs.Seats.{Hall, Cut, Given, Seated, Done, Table, Pilot, Length, Pool, number, place, refused, tabled, freed}

abbrev pub hall_of : List Stretch → ℕ → List (List (List ℕ)) → ℕ → Hall
hall_of t n ss m = record { rows = m; table = t; count = n; seats = ss }

abbrev pub told : Given → Seat
told g = record { number = number g.answer; place = place g.answer; free = g.hall.count }

-- what a caller is told of a refusal, and where it is done
abbrev pub refusal_told : SeatRefusal → ℕ → Seat
refusal_told refusal.Table n = record { number = 18; place = 0; free = n }
refusal_told (refusal.Pilot p) n = record { number = 13; place = p; free = n }
refusal_told (refusal.Length p) n = record { number = 14; place = p; free = n }
refusal_told (refusal.Pool p) n = record { number = 12; place = p; free = n }

abbrev pub done_told : ℕ → Seat
done_told n = record { number = 0; place = 0; free = n }

-- what the code answers where x is the value of what is done
abbrev pub answer_by : {A : Type 0} → Seated → A → Result A SeatRefusal
answer_by Done x = Ok x
answer_by Table x = Err refusal.Table
answer_by (Pilot p) x = Err (refusal.Pilot p)
answer_by (Length p) x = Err (refusal.Length p)
answer_by (Pool p) x = Err (refusal.Pool p)

-- of an admission: how many free stretches there are now
abbrev pub answered : Given → Result ℕ SeatRefusal
answered g = answer_by g.answer g.hall.count

-- of a leaving also the stretch s that the leaver had
abbrev pub left_answered : Given → Stretch → Result Left SeatRefusal
left_answered g s = answer_by g.answer (record { free = g.hall.count; stretch = s })

-- the stretch s that a leaver had; a refused one leaves none
abbrev pub leaver : Seated → Stretch → Stretch
leaver Done s = s
leaver Table s = empty
leaver (Pilot p) s = empty
leaver (Length p) s = empty
leaver (Pool p) s = empty

-- a table of fewer than seventeen places is no table
unfoldable pub roomed : ℕ → Hall → Given → Given
roomed room h g = pick (ltb room 17) (refused Table h) g

-- each of the first n ends below 2 ^ 32, and there are at most seventeen
pub record Ready (t : List Stretch) (n : ℕ) : Type 0 where
  pub few : n ≤ 17
  pub safe : (i : ℕ) → i < n → end_of (get_or t i empty) ≤ 4294967295

-- so does s, and there is a place for each once s is free
pub record ReadyFor (t : List Stretch) (n : ℕ) (s : Stretch) : Type 0 where
  pub few : n ≤ 17
  pub safe : (i : ℕ) → i < n → end_of (get_or t i empty) ≤ 4294967295
  pub fits : end_of s ≤ 4294967295
  pub room : length (freed s (take n t)) ≤ 17

-- the table of n in use once that is cut
unfoldable pub cut_table : List Stretch → ℕ → Option Cut → List Stretch
cut_table t n none = t
cut_table t n (some c) = tabled t n c.rest

unfoldable pub freed_table : List Stretch → ℕ → Stretch → List Stretch
freed_table t n s = tabled t n (freed s (take n t))
