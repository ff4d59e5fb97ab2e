-- The steps before any value: their place in the definition's `run`, and where they end.
use Prim.Native.Nat.{ℕ, suc, ◌+◌, ◌≤◌, ◌<◌}
use native.Mathlib.Omega.{arith}
use mathlib.Core.Path.{◌≡◌, refl}
use mathlib.Core.Bool.{Bool, true, false, cond}
use mathlib.Core.List.{List, [], ◌∷◌}
use mathlib.Core.Option.{Option, none, some}
use lib.Dec.{leb, ltb}
use lib.ListN.{length}
use borrow.Author.Tests.{ltb-true, le-leb, lt-leb}
use Rattle.rules.specs.Answer.{Res, ok, refused, ◌>>=◌}
use Rattle.rules.specs.Sheet.{Book, Fit}
use Rattle.rules.specs.Collect.{Move, taken, plain, refuse, moves, taken_of, plain_of}
use Rattle.rules.specs.Dispatch.{base_keys, hit_keys, full_at}
use Rattle.rules.specs.Outcome as outcome
use Rattle.rules.specs.Outcome.{full, run, collected_in}
use Rattle.rules.specs.declared.Refusal.{Refusal}
use Rattle.rules.specs.declared.Refusal.TheVariants.{Room}
use Rattle.run.specs.Listing.{lists_in, valued_in}

three : {A : Type 0} (a b c : Res Unit) (r : Res A) → (a >>= (λ _. b >>= (λ _. c >>= (λ _. r)))) ≡ ((a >>= (λ _. b >>= (λ _. c))) >>= (λ _. r))
three (ok u) (ok v) (ok w) r = refl
three (ok u) (ok v) (refused x) r = refl
three (ok u) (refused x) c r = refl
three (refused x) b c r = refl

module _ (k : Book) (f : Fit) (q : outcome.Rooms) where
  -- their place in a run
  pub run_lists : run k f q ≡ (lists_in k f q >>= (λ _. valued_in k f q))
  unfolding run lists_in
  run_lists =
      three (full (cond (leb (length (base_keys f)) q.rows) none (some 2))) (outcome.collected q 0 0 (moves k f))
      (full (full_at q.rows q.entries (base_keys f) (length (base_keys f)) 0 (hit_keys k f (collected_in k f)))) (valued_in k f q)

  -- ---- where they end

  pub base_full : q.rows < length (base_keys f) → lists_in k f q ≡ refused (Room 2)
  unfolding lists_in
  base_full h = rw (lt-leb (length (base_keys f)) q.rows h) refl

  module _ (h : length (base_keys f) ≤ q.rows) where
    pub not-collected : {x : Refusal} → outcome.collected q 0 0 (moves k f) ≡ refused x → lists_in k f q ≡ refused x
    unfolding lists_in
    not-collected e = rw (le-leb (length (base_keys f)) q.rows h, e) refl

    pub dispatched : (x : Option ℕ) → outcome.collected q 0 0 (moves k f) ≡ ok tt → full_at q.rows q.entries (base_keys f) (length (base_keys f)) 0 (hit_keys k f (collected_in k f)) ≡ x → lists_in k f q ≡ full x
    unfolding lists_in
    dispatched x e g = rw (le-leb (length (base_keys f)) q.rows h, e, g) refl

-- ---- what is collected has room

-- room for one more, and what follows
room_left : (b : Bool) (n room list : ℕ) (r : Res Unit) → ltb n room ≡ b → ◌≡◌ {A = Res Unit} (elim b [ true ↦ r | false ↦ refused (Room list) ]) (ok tt) → (n < room) × (r ≡ ok tt)
room_left true n room list r e h = (ltb-true n room e, h)
room_left false n room list r e h = absurd (let z : ◌≡◌ {A = ℕ} 0 1 = cc in omega arith)

module _ (q : outcome.Rooms) where
  pub within : (ms : List Move) (n p : ℕ) → outcome.collected q n p ms ≡ ok tt → n ≤ q.collected → p ≤ q.plain → (n + length (taken_of ms) ≤ q.collected) × (p + length (plain_of ms) ≤ q.plain)
  unfolding outcome.collected
  within [] n p e h g = (omega arith, omega arith)
  within (taken t ∷ ms) n p e h g =
      let s = room_left (ltb n q.collected) n q.collected 1 (outcome.collected q (suc n) p ms) refl e in
      let i = within ms (suc n) p s.1 s.0 g in
      (omega (arith, i.0), i.1)
  within (plain o d ∷ ms) n p e h g =
      let s = room_left (ltb p q.plain) p q.plain 4 (outcome.collected q n (suc p) ms) refl e in
      let i = within ms n (suc p) s.1 h s.0 in
      (i.0, omega (arith, i.1))
  within (refuse x ∷ ms) n p e h g = absurd (let z : ◌≡◌ {A = ℕ} 0 1 = cc in omega arith)
