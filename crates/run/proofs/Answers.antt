-- What the answers of collection and dispatch say of the whole.
use Rattle.std.specs.Prelude.{Result, Ok, Err}
use Prim.Native.Nat.{ℕ, ◌≤◌, ◌<◌, ◌^◌}
use native.Mathlib.Omega.{arith}
use mathlib.Core.Path.{◌≡◌, refl, sym, ap, ◌∙◌}
use mathlib.Core.List.{List}
use mathlib.Core.Option.{Option, none}
use lib.Ieee.{Float}
use lib.ListN.{length}
use Rattle.rules.specs.Answer.{refused}
use Rattle.rules.specs.Bytes.{count_of}
use Rattle.rules.specs.Sheet.{Book, Fit, book_of, fit_of}
use Rattle.rules.specs.Collect.{moves}
use Rattle.rules.specs.Dispatch.{base_keys, hit_keys, full_at}
use Rattle.rules.specs.Outcome as outcome
use Rattle.rules.specs.Outcome.{collected_in, rows_in}
use Rattle.rules.specs.declared.Pass2Effect.{Pass2Effect}
use Rattle.rules.specs.declared.Refusal.{Refusal}
use Rattle.rules.specs.declared.Refusal.TheVariants.{Room}
use Rattle.info.specs.Sound.{SoundFit}
use Rattle.modifier.specs.declared.moves.CollectedCounts.{CollectedCounts}
use Rattle.modifier.specs.Ran.{stand_of, ended}
use Rattle.modifier.proofs.Ends.{not_done}
use Rattle.dispatch.specs.declared.DispatchedCounts.{DispatchedCounts}
use Rattle.dispatch.specs.Whole.{Collection, Collecting, Given}
use Rattle.run.specs.declared.lists.ListRooms.{ListRooms}
use Rattle.run.specs.Listing.{lists_in, RoomsOf, RoomsLent, ListedAs, listed_of, RowsWithin}
use Rattle.run.proofs.Steps.{base_full, not-collected, dispatched}
use Rattle.run.proofs.Gathered.{Gathered, gathered, collection}

-- the definition's rooms, by the rooms given
abbrev pub rooms_by : ListRooms → outcome.Rooms
rooms_by s = record { collected = s.collected; rows = s.rows; entries = s.entries; plain = s.plain; sources = 0 }

pub no_base_room : (k : Book) (f : Fit) (s : ListRooms) (q : outcome.Rooms) → RoomsOf q s → s.rows < length (base_keys f) → lists_in k f q ≡ refused (Room 2)
no_base_room k f s q Q h = base_full k f q (omega (arith, Q.rows, h))

module _ (book fit : List ℕ) (pairs : List (List ℕ)) (S : SoundFit fit pairs) (s : ListRooms) {c : List (List ℕ)} {v : List Float} {r : List (List ℕ)} {b : List Float} {e : List (List ℕ)} {w : List Float} {l : List (List ℕ)} (L : RoomsLent s c v r b e w l) where
  abbrev k : Book
  k = book_of book pairs

  abbrev f : Fit
  f = fit_of fit pairs

  module _ (x : Result CollectedCounts Refusal) (c' : List (List ℕ)) (v' : List Float) (l' : List (List ℕ)) (C : (q : outcome.Rooms) → q.collected ≡ s.collected → q.plain ≡ s.plain → stand_of x c' v' l' ≡ ended (outcome.collected q 0 0 (moves (book_of book pairs) (fit_of fit pairs))) (moves (book_of book pairs) (fit_of fit pairs)) c v l) where
    gathers : {u : CollectedCounts} (q : outcome.Rooms) → q.collected ≡ s.collected → q.plain ≡ s.plain → x ≡ Ok u → Gathered q (moves k f) u.collected u.plain c c' v v' l l'
    gathers q a p h =
        gathered q (moves k f) (rw a L.collected) (rw a L.collected_values) (rw p L.plain) (sym (ap (λ (r : Result CollectedCounts Refusal). stand_of r c' v' l') h) ∙ C q a p)

    collects : {u : CollectedCounts} → x ≡ Ok u → Collection (collected_in k f) u.collected c' v' (count_of pairs 6)
    collects h = collection book fit pairs S L.collected L.collected_values (gathers (rooms_by s) refl refl h)

    pub collecting : {u : CollectedCounts} → x ≡ Ok u → Collecting u.collected c' v' (count_of pairs 6)
    collecting h = record { effects = collected_in k f; collection = collects h }

    pub few : {u : CollectedCounts} → x ≡ Ok u → u.collected < 2 ^ 32
    few h = let g = gathers (rooms_by s) refl refl h in omega (arith, g.few, L.collected_few)

    pub collection_refused : {y : Refusal} (q : outcome.Rooms) → RoomsOf q s → length (base_keys (fit_of fit pairs)) ≤ s.rows → x ≡ Err y → lists_in (book_of book pairs) (fit_of fit pairs) q ≡ refused y
    collection_refused q Q h g =
        not-collected k f q (omega (arith, Q.rows, h))
        (not_done (outcome.collected q 0 0 (moves k f)) (moves k f) c v l (sym (ap (λ (r : Result CollectedCounts Refusal). stand_of r c' v' l') g) ∙ C q Q.collected Q.plain))

    module _ {u : CollectedCounts} (g : x ≡ Ok u) (r' : List (List ℕ)) (b' : List Float) (e' : List (List ℕ)) (w' : List Float) (h : length (base_keys (fit_of fit pairs)) ≤ s.rows) (q : outcome.Rooms) (Q : RoomsOf q s) where
      ends : (o : Option ℕ) → full_at s.rows s.entries (base_keys f) (length (base_keys f)) 0 (hit_keys k f (collected_in k f)) ≡ o → lists_in k f q ≡ outcome.full o
      ends o i = dispatched k f q (omega (arith, Q.rows, h)) o (gathers q Q.collected Q.plain g).done (rw (Q.rows, Q.entries) i)

      by : (d : Result DispatchedCounts Refusal) → Given d s.rows s.entries k f (collected_in k f) r r' b b' e e' w w' → ListedAs (lists_in k f q) (listed_of d u.collected u.plain) k f c c' v v' r r' b b' e e' w w' l l'
      unfolding collected_in rows_in
      by (Ok m) i =
          let G = gathers q Q.collected Q.plain g in (
            ends none i.0,
            record { collected = G.count; rows = i.1; entries = i.2; plain = G.plain },
            record { collected = G.numbers; collected_values = G.values; lists = i.3; plain = G.plains },
          )
      by (Err x) i = ends (full_at s.rows s.entries (base_keys f) (length (base_keys f)) 0 (hit_keys k f (collected_in k f))) refl ∙ i

      -- the whole answer, by dispatch's
      pub all_listed : (d : Result DispatchedCounts Refusal) → ((es : List Pass2Effect) → Collection es u.collected c' v' (count_of pairs 6) → Given d s.rows s.entries (book_of book pairs) (fit_of fit pairs) es r r' b b' e e' w w') → ListedAs (lists_in (book_of book pairs) (fit_of fit pairs) q) (listed_of d u.collected u.plain) (book_of book pairs) (fit_of fit pairs) c c' v v' r r' b b' e e' w w' l l'
      all_listed d D = by d (D (collected_in k f) (collects g))

      pub all-within : (d : Result DispatchedCounts Refusal) → ((es : List Pass2Effect) → Collection es u.collected c' v' (count_of pairs 6) → Given d s.rows s.entries (book_of book pairs) (fit_of fit pairs) es r r' b b' e e' w w') → RowsWithin s.rows (listed_of d u.collected u.plain)
      all-within d D = within d (D (collected_in k f) (collects g))
        where
          within : (d : Result DispatchedCounts Refusal) → Given d s.rows s.entries k f (collected_in k f) r r' b b' e e' w w' → RowsWithin s.rows (listed_of d u.collected u.plain)
          within (Ok m) i = i.4
          within (Err x) i = tt
