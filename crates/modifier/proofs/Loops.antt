-- Loops over the places first to e of a list: what is left decides. X is what a contract says something for each of.
use Prim.Native.Nat.{ℕ, ◌+◌, ◌-◌, ◌≤◌, ◌<◌}
use native.Mathlib.Nat.{add-sub_cancel_left}
use native.Mathlib.Omega.{arith}
use mathlib.Core.Path.{◌≡◌, refl, ap, ◌∙◌}
use mathlib.Core.List.{List}
use lib.Ieee.{Float}
use lib.ListN.{length, get_or}
use Rattle.laws.specs.Lists.{flat, span}
use Rattle.laws.proofs.Spans.{span_all}
use Rattle.rules.specs.Collect.{Move}
use Rattle.rules.specs.declared.Refusal.{Refusal}
use Rattle.modifier.specs.declared.moves.CollectedRooms.{CollectedRooms}
use Rattle.modifier.specs.Ran.{Stand, stop, ran, Lent}
use Rattle.modifier.proofs.Runs.{turn, ended_at, halted}

pub record Left (q : CollectedRooms) {A X : Type 0} (F : X → A → List Move) (M : List A) (first e : ℕ) (s₀ s : X → Stand) (i : ℕ) : Type 0 where
  pub within : i ≤ e
  pub left : (x : X) → ran q (flat (F x) (span first (e - first) M)) (s₀ x) ≡ ran q (flat (F x) (span i (e - i) M)) (s x)

pub begin : (q : CollectedRooms) {A X : Type 0} (F : X → A → List Move) (M : List A) (first e : ℕ) (s₀ : X → Stand) → first ≤ e → Left q F M first e s₀ s₀ first
begin q F M first e s₀ h = record { within = h; left = λ x. refl }

module _ {q : CollectedRooms} {A X : Type 0} {F : X → A → List Move} {M : List A} {first e : ℕ} {s₀ s : X → Stand} {i : ℕ} (L : Left q F M first e s₀ s i) where
  -- m is the element at i, it gives xs, and these lead from s to t
  pub next : {m : A} (xs : X → List Move) (t : X → Stand) → i < e → e ≤ length M → ((d : A) → m ≡ get_or M i d) → ((x : X) → xs x ≡ F x m) → ((x : X) → t x ≡ ran q (xs x) (s x)) → Left q F M first e s₀ t (i + 1)
  next {m = m} xs t l h n g r =
      record {
        within = omega arith;
        left = λ x. turn q (F x) M i e (ran q (flat (F x) (span first (e - first) M)) (s₀ x)) (s x) (t x) m (xs x) l (omega arith) (L.left x) n (g x) (r x);
      }

  -- a refusal on the way is the whole's
  pub refused_on : (x : X) (y : Refusal) → s x ≡ stop y → stop y ≡ ran q (flat (F x) (span first (e - first) M)) (s₀ x)
  refused_on x y h = halted q (flat (F x) (span i (e - i) M)) (ran q (flat (F x) (span first (e - first) M)) (s₀ x)) (s x) y (L.left x) h

  pub at_end_lem : (x : X) → e ≤ i → s x ≡ ran q (flat (F x) (span first (e - first) M)) (s₀ x)
  at_end_lem x h = ended_at q (F x) M i e (ran q (flat (F x) (span first (e - first) M)) (s₀ x)) (s x) h (L.left x)

-- from a first and a count
pub counted-from : (q : CollectedRooms) {A : Type 0} (F : A → List Move) (M : List A) (s : Stand) {i e first count j : ℕ} → i ≡ first → j ≡ count → e ≡ i + j → ran q (flat F (span i (e - i) M)) s ≡ ran q (flat F (span first count M)) s
counted-from q F M s {i} {e} {first} {count} {j} a b c = rw (c, add-sub_cancel_left, a, b) refl

-- the whole list
pub all_of : (q : CollectedRooms) {A : Type 0} (F : A → List Move) (M : List A) (s : Stand) {e : ℕ} → e ≡ length M → ran q (flat F (span 0 (e - 0) M)) s ≡ ran q (flat F M) s
all_of q {A} F M s {e} h =
    let n : e - 0 ≡ length M = omega arith in
    ap (λ (k : ℕ). ran q (flat F (span 0 k M)) s) n ∙ ap (λ (l : List A). ran q (flat F l) s) (span_all M)

-- columns as long as those lent
pub lent_kept : {q : CollectedRooms} {c c' : List (List ℕ)} {v v' : List Float} → Lent q c v → length c' ≡ length c → length v' ≡ length v → Lent q c' v'
lent_kept L a b = record { numbers = rw a L.numbers; values = rw b L.values }
