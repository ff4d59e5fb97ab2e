-- Which list is full first, without a simulation: by how many rows stand after the hits that have room for their entries.
use Prim.Native.Nat.{ℕ, zero, suc, ◌+◌, ◌≤◌, ◌<◌}
use native.Mathlib.Omega.{arith}
use mathlib.Core.Path.{◌≡◌, refl, sym, ap, ◌∙◌}
use mathlib.Core.Bool.{Bool, true, false, not, ◌&&◌, cond}
use mathlib.Core.Logic.{◌⊎◌, inl, inr}
use mathlib.Core.List.{List, [], ◌∷◌}
use mathlib.Core.Option.{Option, none, some}
use lib.Dec.{eqb, ltb, leb}
use lib.ListN.{length, get_or, take}
use lib.Seq.{take-nil}
use borrow.Author.Tests.{lt-ltb, le-ltb, le-leb, lt-leb, leb-true, eq-eqb, ne_eqb, ltb-true, ltb-false}
use Rattle.laws.specs.Lists.{some?}
use Rattle.laws.proofs.Bools.{true_or_false, same_test}
use Rattle.rules.specs.Dispatch.{Key, same_key, full_at}

-- a key that is new is known from then on
abbrev pub joined : Bool → Key → List Key → List Key
joined true h known = known
joined false h known = h ∷ known

-- the keys that are known after hits
abbrev pub after : List Key → List Key → List Key
after known [] = known
after known (h ∷ r) = after (joined (some? (same_key h) known) h known) r

joined_longer : (t : Bool) (h : Key) (known : List Key) → length known ≤ length (joined t h known)
joined_longer true h known = omega arith
joined_longer false h known = omega arith

pub after_longer : (known hs : List Key) → length known ≤ length (after known hs)
after_longer known [] = omega arith
after_longer known (h ∷ r) =
    omega (arith, joined_longer (some? (same_key h) known) h known, after_longer (joined (some? (same_key h) known) h known) r)

-- the hit past the room takes its row first
abbrev pub at_past : ℕ → List Key → Key → ℕ
at_past room2 known h = cond (eqb (length known) room2 && not (some? (same_key h) known)) 2 3

-- the list that is full, if one is, where m entries have room
abbrev pub verdict : ℕ → ℕ → List Key → List Key → Key → Option ℕ
verdict room2 m known hs d =
    cond (ltb room2 (length (after known (take m hs)))) (some 2) (cond (leb (length hs) m) none (some (at_past room2 (after known (take m hs)) (get_or hs m d))))

-- ---- the three ways that it goes

module _ (room2 m : ℕ) (known hs : List Key) (d : Key) where
  pub verdict_rows : room2 < length (after known (take m hs)) → verdict room2 m known hs d ≡ some 2
  verdict_rows h = rw (lt-ltb room2 (length (after known (take m hs))) h) refl

  pub verdict_none : length (after known (take m hs)) ≤ room2 → length hs ≤ m → verdict room2 m known hs d ≡ none
  verdict_none h l = rw (le-ltb room2 (length (after known (take m hs))) h, le-leb (length hs) m l) refl

  pub verdict_past : length (after known (take m hs)) ≤ room2 → m < length hs → verdict room2 m known hs d ≡ some (at_past room2 (after known (take m hs)) (get_or hs m d))
  verdict_past h l = rw (le-ltb room2 (length (after known (take m hs))) h, lt-leb (length hs) m l) refl

-- ---- `full_at`, one hit

-- by whether its key is known, and whether there is room for a row and for an entry
abbrev step : Bool → Bool → Bool → Option ℕ → Option ℕ → Option ℕ
step t s q a b = elim t [
  | true ↦ elim q [ true ↦ a | false ↦ some 3 ]
  | false ↦ elim s [ true ↦ elim q [ true ↦ b | false ↦ some 3 ] | false ↦ some 2 ]
]

module _ (room2 room3 : ℕ) (known : List Key) (n e : ℕ) (h : Key) (r : List Key) where
  abbrev old : Option ℕ
  old = full_at room2 room3 known n (suc e) r

  abbrev new : Option ℕ
  new = full_at room2 room3 (h ∷ known) (suc n) (suc e) r

  full-step : full_at room2 room3 known n e (h ∷ r) ≡ step (some? (same_key h) known) (ltb n room2) (ltb e room3) old new
  unfolding full_at
  full-step = refl

  full_by : (t s q : Bool) → some? (same_key h) known ≡ t → ltb n room2 ≡ s → ltb e room3 ≡ q → full_at room2 room3 known n e (h ∷ r) ≡ step t s q old new
  full_by t s q x y z =
      full-step ∙ ap (λ (b : Bool). step b (ltb n room2) (ltb e room3) old new) x ∙ ap (λ (b : Bool). step t b (ltb e room3) old new) y ∙ ap (λ (b : Bool). step t s b old new) z

  known_on : some? (same_key h) known ≡ true → ltb e room3 ≡ true → full_at room2 room3 known n e (h ∷ r) ≡ old
  known_on p q = full_by true (ltb n room2) true p refl q

  known_off : some? (same_key h) known ≡ true → ltb e room3 ≡ false → full_at room2 room3 known n e (h ∷ r) ≡ some 3
  known_off p q = full_by true (ltb n room2) false p refl q

  new_on : some? (same_key h) known ≡ false → ltb n room2 ≡ true → ltb e room3 ≡ true → full_at room2 room3 known n e (h ∷ r) ≡ new
  new_on p q s = full_by false true true p q s

  new_off : some? (same_key h) known ≡ false → ltb n room2 ≡ true → ltb e room3 ≡ false → full_at room2 room3 known n e (h ∷ r) ≡ some 3
  new_off p q s = full_by false true false p q s

  no_row : some? (same_key h) known ≡ false → ltb n room2 ≡ false → full_at room2 room3 known n e (h ∷ r) ≡ some 2
  no_row p q = full_by false false (ltb e room3) p q refl

leb-next : (a b : ℕ) → leb (suc a) (suc b) ≡ leb a b
leb-next a b =
    same_test (leb (suc a) (suc b)) (leb a b) (λ e. le-leb a b (omega (arith, leb-true (suc a) (suc b) e))) (λ e. le-leb (suc a) (suc b) (omega (arith, leb-true a b e)))

-- ---- all hits

module _ (room2 room3 : ℕ) (d : Key) where
  -- no entry has room any more
  module _ (known : List Key) (e : ℕ) (h : Key) (r : List Key) (few : length known ≤ room2) (out : room3 ≤ e) where
    past_known : some? (same_key h) known ≡ true → full_at room2 room3 known (length known) e (h ∷ r) ≡ some (at_past room2 known h)
    past_known p = known_off room2 room3 known (length known) e h r p (le-ltb e room3 out) ∙ sym (rw p (third (eqb (length known) room2)))
      where
        third : (t : Bool) → ◌≡◌ {A = Option ℕ} (some (cond (t && false) 2 3)) (some 3)
        third true = refl
        third false = refl

    past_new : some? (same_key h) known ≡ false → (ltb (length known) room2 ≡ true) ⊎ (ltb (length known) room2 ≡ false) → full_at room2 room3 known (length known) e (h ∷ r) ≡ some (at_past room2 known h)
    past_new p (inl q) =
        new_off room2 room3 known (length known) e h r p q (le-ltb e room3 out)
        ∙ sym (rw (ne_eqb (length known) room2 (λ s. absurd (omega (arith, ltb-true (length known) room2 q)))) refl)
    past_new p (inr q) =
        let s : length known ≡ room2 = omega (arith, ltb-false (length known) room2 q) in
        no_row room2 room3 known (length known) e h r p q ∙ sym (rw (p, eq-eqb (length known) room2 s) refl)

    past_by : (some? (same_key h) known ≡ true) ⊎ (some? (same_key h) known ≡ false) → full_at room2 room3 known (length known) e (h ∷ r) ≡ some (at_past room2 known h)
    past_by (inl p) = past_known p
    past_by (inr p) = past_new p (true_or_false (ltb (length known) room2))

    past_hit : full_at room2 room3 known (length known) e (h ∷ r) ≡ verdict room2 0 known (h ∷ r) d
    past_hit = past_by (true_or_false (some? (same_key h) known)) ∙ sym (verdict_past room2 0 known (h ∷ r) d few (omega arith))

  -- an entry more
  module _ (known : List Key) (m : ℕ) (h : Key) (r : List Key) where
    verdict_next : verdict room2 (suc m) known (h ∷ r) d ≡ verdict room2 m (joined (some? (same_key h) known) h known) r d
    verdict_next =
        let more = after (joined (some? (same_key h) known) h known) (take m r) in
        ap (λ (t : Bool). cond (ltb room2 (length more)) (some 2) (cond t none (some (at_past room2 more (get_or r m d))))) (leb-next (length r) m)

  full_none : (m : ℕ) (known : List Key) (e : ℕ) → length known ≤ room2 → full_at room2 room3 known (length known) e [] ≡ verdict room2 m known [] d
  unfolding full_at
  full_none m known e few = sym (verdict_none room2 m known [] d (rw (take-nil {A = Key} m) few) (omega arith))

  pub full_verdict : (hs : List Key) (m : ℕ) (known : List Key) (e : ℕ) → e + m ≡ room3 → length known ≤ room2 → full_at room2 room3 known (length known) e hs ≡ verdict room2 m known hs d
  full_verdict [] m known e s few = full_none m known e few
  full_verdict (h ∷ r) zero known e s few = past_hit known e h r few (omega arith)
  full_verdict (h ∷ r) (suc m) known e s few =
      by (true_or_false (some? (same_key h) known)) (true_or_false (ltb (length known) room2))
      (full_verdict r m known (suc e) (omega arith) few) (λ l. full_verdict r m (h ∷ known) (suc e) (omega arith) l)
    where
      inside : ltb e room3 ≡ true
      inside = lt-ltb e room3 (omega arith)

      by : (some? (same_key h) known ≡ true) ⊎ (some? (same_key h) known ≡ false) → (ltb (length known) room2 ≡ true) ⊎ (ltb (length known) room2 ≡ false)
          → full_at room2 room3 known (length known) (suc e) r ≡ verdict room2 m known r d
          → (suc (length known) ≤ room2 → full_at room2 room3 (h ∷ known) (suc (length known)) (suc e) r ≡ verdict room2 m (h ∷ known) r d)
          → full_at room2 room3 known (length known) e (h ∷ r) ≡ verdict room2 (suc m) known (h ∷ r) d
      by (inl p) q i j =
          known_on room2 room3 known (length known) e h r p inside ∙ i
          ∙ sym (verdict_next known m h r ∙ ap (λ (t : Bool). verdict room2 m (joined t h known) r d) p)
      by (inr p) (inl q) i j =
          new_on room2 room3 known (length known) e h r p q inside ∙ j (ltb-true (length known) room2 q)
          ∙ sym (verdict_next known m h r ∙ ap (λ (t : Bool). verdict room2 m (joined t h known) r d) p)
      by (inr p) (inr q) i j =
          no_row room2 room3 known (length known) e h r p q
          ∙ sym (verdict_next known m h r ∙ ap (λ (t : Bool). verdict room2 m (joined t h known) r d) p
          ∙ verdict_rows room2 m (h ∷ known) r d (omega (arith, ltb-false (length known) room2 q, after_longer (h ∷ known) (take m r))))
