-- Laws of moves that are run: one part after another, a loop's turn, and what a stopped run stays.
use Rattle.std.specs.Prelude.{Result, Ok, Err}
use Prim.Native.Nat.{ℕ, ◌+◌, ◌-◌, ◌≤◌, ◌<◌}
use mathlib.Core.Path.{◌≡◌, refl, sym, ap, ◌∙◌}
use mathlib.Core.List.{List, [], ◌∷◌, ◌++◌}
use lib.ListN.{length, get_or}
use lib.Ieee.{Float}
use Rattle.laws.specs.Lists.{flat, span}
use Rattle.laws.proofs.Spans.{span_left, span_end}
use Rattle.rules.specs.Collect.{Move, refuse}
use Rattle.rules.specs.declared.Refusal.{Refusal}
use Rattle.modifier.specs.declared.moves.CollectedCounts.{CollectedCounts}
use Rattle.modifier.specs.declared.moves.CollectedRooms.{CollectedRooms}
use Rattle.modifier.specs.Ran.{Stand, at, stop, stand_of, moved, ran}

module _ (q : CollectedRooms) where
  pub ran_append : (xs ys : List Move) (s : Stand) → ran q (xs ++ ys) s ≡ ran q ys (ran q xs s)
  unfolding ran
  ran_append [] ys s = refl
  ran_append (x ∷ xs) ys s = ran_append xs ys (moved q x s)

  pub ran-stop : (xs : List Move) (x : Refusal) → ran q xs (stop x) ≡ stop x
  unfolding ran moved
  ran-stop [] x = refl
  ran-stop (m ∷ xs) x = ran-stop xs x

  -- nothing moves nothing
  pub ran_none : (s : Stand) → ran q [] s ≡ s
  unfolding ran
  ran_none s = refl

-- the same moves lead to the same
pub ran_same : (q : CollectedRooms) (s : Stand) {xs ys : List Move} → xs ≡ ys → ran q xs s ≡ ran q ys s
ran_same q s e = ap (λ (l : List Move). ran q l s) e

-- ---- a loop over the places i to e of a list

module _ (q : CollectedRooms) {A : Type 0} (F : A → List Move) (M : List A) (i e : ℕ) where
  -- a turn: x is the element at i, it gives the moves xs, and they lead from s to t
  pub turn : (whole s t : Stand) (x : A) (xs : List Move) → i < e → i < length M → whole ≡ ran q (flat F (span i (e - i) M)) s → ((d : A) → x ≡ get_or M i d) → xs ≡ F x → t ≡ ran q xs s → whole ≡ ran q (flat F (span (i + 1) (e - (i + 1)) M)) t
  turn whole s t x xs l h w n m r =
      let rest = flat F (span (i + 1) (e - (i + 1)) M) in
      w ∙ ap (λ (k : List A). ran q (flat F k) s) (span_left i e M x l h) ∙ ap (λ (y : A). ran q (F y ++ rest) s) (sym (n x))
      ∙ ap (λ (k : List Move). ran q (k ++ rest) s) (sym m) ∙ ran_append q xs rest s ∙ ap (ran q rest) (sym r)

  pub ended_at : (whole s : Stand) → e ≤ i → whole ≡ ran q (flat F (span i (e - i) M)) s → s ≡ whole
  ended_at whole s l w = sym (w ∙ ap (λ (k : List A). ran q (flat F k) s) (span_end i e M l) ∙ ran_none q s)

-- what is left after a refusal changes nothing
pub halted : (q : CollectedRooms) (xs : List Move) (whole t : Stand) (x : Refusal) → whole ≡ ran q xs t → t ≡ stop x → stop x ≡ whole
halted q xs whole t x w e = sym (w ∙ ap (ran q xs) e ∙ ran-stop q xs x)

-- an answer that is known
pub answered : {r : Result CollectedCounts Refusal} {n : CollectedCounts} → r ≡ Ok n → (c : List (List ℕ)) (v : List Float) (l : List (List ℕ)) → stand_of r c v l ≡ at n.collected n.plain c v l
answered e c v l = ap (λ (r : Result CollectedCounts Refusal). stand_of r c v l) e

pub was_refused : {r : Result CollectedCounts Refusal} {x : Refusal} → r ≡ Err x → (c : List (List ℕ)) (v : List Float) (l : List (List ℕ)) → stand_of r c v l ≡ stop x
was_refused e c v l = ap (λ (r : Result CollectedCounts Refusal). stand_of r c v l) e

-- ---- a refusal

module _ (q : CollectedRooms) (n p : ℕ) (c : List (List ℕ)) (v : List Float) (l : List (List ℕ)) where
  pub refused-one : (x : Refusal) → stop x ≡ ran q (refuse x ∷ []) (at n p c v l)
  unfolding ran moved
  refused-one x = refl
