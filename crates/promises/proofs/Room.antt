-- "More room": a run that was not refused ROOM is the same with more in any of the lists, whatever it gave or was refused for.
use Prim.Native.Nat.{ℕ, zero, suc, ◌≤◌}
use native.Mathlib.Omega.{arith}
use mathlib.Core.Path.{◌≡◌, refl}
use mathlib.Core.Bool.{Bool, true, false, cond}
use mathlib.Core.List.{List, [], ◌∷◌, ◌++◌}
use mathlib.Core.Option.{Option, none, some}
use lib.Dec.{leb, ltb}
use lib.ListN.{length, set}
use borrow.Author.Tests.{leb-true, le-leb}
use Rattle.laws.specs.Lists.{some?}
use Rattle.rules.specs.Answer.{Res, ok, refused}
use Rattle.rules.specs.Bytes.{pairs_of}
use Rattle.rules.specs.Sheet.{Book, Fit, book_of, fit_of}
use Rattle.rules.specs.Shape.{bad_shape}
use Rattle.rules.specs.Collect.{Move, taken, plain, refuse, moves}
use Rattle.rules.specs.Dispatch.{Key, same_key, base_keys, hit_keys, full_at}
use Rattle.rules.specs.Outcome.{Lent, Rooms, Done, rooms_of, collected, full, starts_of, valued, blank, collected_in, world_of, run, outcome}
use Rattle.rules.specs.Value.{World, Mem, own_sources, note, value_of}
use Rattle.rules.specs.declared.Refusal.TheVariants.{Shape, Room, Depth}
use Rattle.promises.specs.Unless.{Unless, refused_so, the_same, with_room}
use Rattle.promises.specs.Wider.{Wider, Longer}
use Rattle.promises.proofs.Unless.{either, on, before}
use Rattle.promises.proofs.Calculations.{Noting, Reading, started_so, deeper_so, valued_so}

-- a test of room that is passed is passed with more, and one that is not is refused ROOM
roomier : {A : Type 0} (F G : Bool → Res A) (t u : Bool) (l : ℕ) → (t ≡ true → u ≡ true) → F false ≡ refused (Room l) → Unless Room (F true) (G true) → Unless Room (F t) (G u)
roomier F G true u l h e g = rw (h refl) g
roomier F G false u l h e g = refused_so l e

leb-more : (a b c : ℕ) → b ≤ c → leb a b ≡ true → leb a c ≡ true
leb-more a b c h e = le-leb a c (omega (arith, leb-true a b e))

ltb-more : (a b c : ℕ) → b ≤ c → ltb a b ≡ true → ltb a c ≡ true
ltb-more a b c h e = leb-more (suc a) b c h e

-- lists 1 and 4
collected_so : (q r : Rooms) → Wider q r → (n p : ℕ) (ms : List Move) → Unless Room (collected q n p ms) (collected r n p ms)
unfolding collected
collected_so q r h n p [] = the_same refl
collected_so q r h n p (taken t ∷ ms) =
    roomier (λ u. elim u [ true ↦ collected q (suc n) p ms | false ↦ refused (Room 1) ]) (λ u. elim u [ true ↦ collected r (suc n) p ms | false ↦ refused (Room 1) ])
    (ltb n q.collected) (ltb n r.collected) 1 (ltb-more n q.collected r.collected h.collected) refl (collected_so q r h (suc n) p ms)
collected_so q r h n p (plain o e ∷ ms) =
    roomier (λ u. elim u [ true ↦ collected q n (suc p) ms | false ↦ refused (Room 4) ]) (λ u. elim u [ true ↦ collected r n (suc p) ms | false ↦ refused (Room 4) ])
    (ltb p q.plain) (ltb p r.plain) 4 (ltb-more p q.plain r.plain h.plain) refl (collected_so q r h n (suc p) ms)
collected_so q r h n p (refuse x ∷ ms) = the_same refl

-- lists 2 and 3
full_so : (t u : Bool) (l : ℕ) (x y : Option ℕ) → (t ≡ true → u ≡ true) → Unless Room (full x) (full y)
    → Unless Room (full (elim t [ true ↦ x | false ↦ some l ])) (full (elim u [ true ↦ y | false ↦ some l ]))
full_so t u l x y h g = roomier (λ b. full (elim b [ true ↦ x | false ↦ some l ])) (λ b. full (elim b [ true ↦ y | false ↦ some l ])) t u l h refl g

full_either : (t : Bool) (x y x' y' : Option ℕ) → Unless Room (full x) (full x') → Unless Room (full y) (full y')
    → Unless Room (full (elim t [ true ↦ x | false ↦ y ])) (full (elim t [ true ↦ x' | false ↦ y' ]))
full_either true x y x' y' h g = h
full_either false x y x' y' h g = g

dispatch_so : (q r : Rooms) → Wider q r → (known : List Key) (n e : ℕ) (hs : List Key)
    → Unless Room (full (full_at q.rows q.entries known n e hs)) (full (full_at r.rows r.entries known n e hs))
unfolding full_at
dispatch_so q r w known n e [] = the_same refl
dispatch_so q r w known n e (h ∷ hs) =
    full_either (some? (same_key h) known) _ _ _ _ (entered _ _ (dispatch_so q r w known n (suc e) hs))
    (full_so (ltb n q.rows) (ltb n r.rows) 2 _ _ (ltb-more n q.rows r.rows w.rows) (entered _ _ (dispatch_so q r w (h ∷ known) (suc n) (suc e) hs)))
  where
    entered : (x y : Option ℕ) → Unless Room (full x) (full y) → Unless Room (full (elim (ltb e q.entries) [ true ↦ x | false ↦ some 3 ])) (full (elim (ltb e r.entries) [ true ↦ y | false ↦ some 3 ]))
    entered x y g = full_so (ltb e q.entries) (ltb e r.entries) 3 x y (ltb-more e q.entries r.entries w.entries) g

-- list 5
module _ (w : World) (n : ℕ) (h : w.room ≤ n) where
  as_noted : Noting Room w (with_room n w)
  unfolding note
  as_noted i row r m = either Room w.recording (roomier by by (ltb m.used w.room) (ltb m.used n) 5 (ltb-more m.used w.room n h) refl (the_same refl)) (the_same refl)
    where
      by : Bool → Res Mem
      by t = elim t [ false ↦ refused (Room 5) | true ↦ ok (record { values = m.values; sources = set m.sources i (own_sources i m ++ (r ∷ [])); used = suc m.used }) ]

  wide : (d : ℕ) → Reading Room (value_of w d) (value_of (with_room n w) d)
  unfolding value_of
  wide zero o a m = started_so Room w n as_noted (λ i row m'. refused (Depth o)) (λ i row m'. refused (Depth o)) (λ i row m'. the_same refl) o a m
  wide (suc d) o a m = deeper_so Room w n as_noted d d (wide d) o a m

pub more_room : (k : Book) (f : Fit) (q r : Rooms) → Wider q r → Unless Room (run k f q) (run k f r)
unfolding run world_of
more_room k f q r h =
    on Room (full (cond (leb base q.rows) none (some 2))) (full (cond (leb base r.rows) none (some 2))) _ _ copied λ t₁.
    on Room (collected q 0 0 (moves k f)) (collected r 0 0 (moves k f)) _ _ (collected_so q r h 0 0 (moves k f)) λ t₂.
    on Room (full (full_at q.rows q.entries (base_keys f) base 0 hits)) (full (full_at r.rows r.entries (base_keys f) base 0 hits)) _ _ (dispatch_so q r h (base_keys f) base 0 hits) λ t₃.
    before Room (valued w f.depth (starts_of f w.rows) (blank w.rows)) (valued (world_of k f r.sources) f.depth (starts_of f w.rows) (blank w.rows)) _
    (valued_so Room w r.sources (as_noted w r.sources h.sources) f.depth f.depth (wide w r.sources h.sources f.depth) (starts_of f w.rows) (blank w.rows))
  where
    w : World
    w = world_of k f q.sources

    base : ℕ
    base = length (base_keys f)

    hits : List Key
    hits = hit_keys k f (collected_in k f)

    copied : Unless Room (full (cond (leb base q.rows) none (some 2))) (full (cond (leb base r.rows) none (some 2)))
    copied = roomier (λ t. full (cond t none (some 2))) (λ t. full (cond t none (some 2))) (leb base q.rows) (leb base r.rows) 2 (leb-more base q.rows r.rows h.rows) refl (the_same refl)

pub rooms_wider : (l m : Lent) → Longer l m → Wider (rooms_of l) (rooms_of m)
rooms_wider l m h =
    record {
      collected = omega (arith, h.collected, h.collected_values);
      rows = omega (arith, h.rows, h.bases, h.values);
      entries = omega (arith, h.entries, h.entry_values);
      plain = omega (arith, h.plain);
      sources = omega (arith, h.sources, h.source_floats);
    }

-- of any bytes, with lists lent that are at least as long
pub more-lent : (b : List ℕ) (l m : Lent) → Longer l m → Unless Room (outcome b l) (outcome b m)
unfolding outcome
more-lent b l m h = by (bad_shape b)
  where
    answer : Option ℕ → Lent → Res Done
    answer t n = elim t [ some x ↦ refused (Shape x) | none ↦ run (book_of b (pairs_of b)) (fit_of b (pairs_of b)) (rooms_of n) ]

    by : (t : Option ℕ) → Unless Room (answer t l) (answer t m)
    by (some x) = the_same refl
    by none = more_room (book_of b (pairs_of b)) (fit_of b (pairs_of b)) (rooms_of l) (rooms_of m) (rooms_wider l m h)
