-- Moves that are run leave what the definition says: its answer, and on DONE the rows of both lists from the front.
use Prim.Native.Nat.{ℕ, zero, suc, ◌+◌, ◌≤◌, ◌<◌}
use native.Mathlib.Nat.{not-suc-le-zero, le_of_suc-le-suc, add-zero}
use native.Mathlib.Numerals.{add-one}
use native.Mathlib.Omega.{arith}
use mathlib.Core.Path.{◌≡◌, refl, sym, ap, ◌∙◌}
use mathlib.Core.Bool.{Bool, true, false}
use mathlib.Core.List.{List, [], ◌∷◌, ◌++◌, map}
use borrow.Author.Tests.{ltb-true}
use lib.Dec.{ltb}
use lib.Ieee.{Float}
use lib.IntN.{ℤ}
use lib.ListN.{length, drop, set, length-set, length-map}
use Rattle.laws.specs.Columns.{laid}
use Rattle.rules.specs.Answer.{Res, ok, refused}
use Rattle.rules.specs.Collect.{Move, taken, plain, refuse, taken_of, plain_of}
use Rattle.rules.specs.Columns.{collected_numbers, plain_numbers}
use Rattle.rules.specs.Outcome as outcome
use Rattle.rules.specs.declared.Pass2Effect.{Pass2Effect}
use Rattle.rules.specs.declared.Refusal.{Refusal}
use Rattle.rules.specs.declared.Refusal.TheVariants.{Room}
use Rattle.modifier.specs.declared.moves.CollectedRooms.{CollectedRooms}
use Rattle.modifier.specs.Ran.{Stand, at, stop, value_of, held, moved, ran, ended}
use Rattle.modifier.proofs.Runs.{ran-stop}

-- ---- rows from place n on

module _ {B : Type 0} where
  abbrev written : ℕ → List B → List B → List B
  written zero xs c = xs ++ drop (length xs) c
  written (suc n) xs [] = []
  written (suc n) xs (y ∷ c) = y ∷ written n xs c

  written_none : (n : ℕ) (c : List B) → written n [] c ≡ c
  written_none zero c = refl
  written_none (suc n) [] = refl
  written_none (suc n) (y ∷ c) = ap (λ (l : List B). y ∷ l) (written_none n c)

  written-suc : (n : ℕ) (x : B) (xs c : List B) → n < length c → written (suc n) xs (set c n x) ≡ written n (x ∷ xs) c
  written-suc n x xs [] h = absurd (not-suc-le-zero h)
  written-suc zero x xs (y ∷ c) h = refl
  written-suc (suc n) x xs (y ∷ c) h = ap (λ (l : List B). y ∷ l) (written-suc n x xs c (le_of_suc-le-suc h))

  -- a row stored at n, and the others behind it
  written-more : (n : ℕ) (x : B) (xs c : List B) → n < length c → written (n + 1) xs (set c n x) ≡ written n (x ∷ xs) c
  written-more n x xs c h = ap (λ (k : ℕ). written k xs (set c n x)) (add-one n) ∙ written-suc n x xs c h

written-laid : {R B : Type 0} (enc : R → B) (rs : List R) (c : List B) → written 0 (map enc rs) c ≡ laid enc rs c
written-laid {B = B} enc rs c = ap (λ (k : ℕ). map enc rs ++ drop k c) (length-map rs enc)

at_same : {n n' p p' : ℕ} {c c' : List (List ℕ)} {v v' : List Float} {l l' : List (List ℕ)} → n ≡ n' → p ≡ p' → c ≡ c' → v ≡ v' → l ≡ l' → at n p c v l ≡ at n' p' c' v' l'
at_same a b d e g = rw (a, b, d, e, g) refl

-- ---- what the definition's answer says of columns in which n and p rows stand

abbrev finished : Res Unit → ℕ → ℕ → List Move → List (List ℕ) → List Float → List (List ℕ) → Stand
finished (ok u) n p ms c v l =
    at (n + length (taken_of ms)) (p + length (plain_of ms)) (written n (map collected_numbers (taken_of ms)) c) (written n (map value_of (taken_of ms)) v)
    (written p (map plain_numbers (plain_of ms)) l)
finished (refused x) n p ms c v l = stop x

module _ (n p : ℕ) (ms : List Move) (c : List (List ℕ)) (v : List Float) (l : List (List ℕ)) where
  one-taken : (r : Res Unit) (t : Pass2Effect) → n < length c → n < length v → finished r (n + 1) p ms (set c n (collected_numbers t)) (set v n (value_of t)) l ≡ finished r n p (taken t ∷ ms) c v l
  one-taken (ok u) t h g = at_same (omega arith) refl (written-more n (collected_numbers t) _ c h) (written-more n (value_of t) _ v g) refl
  one-taken (refused x) t h g = refl

  one_plain : (r : Res Unit) (o : ℕ) (e : ℤ) → p < length l → finished r n (p + 1) ms c v (set l p (plain_numbers (record { object = o; id = e }))) ≡ finished r n p (plain o e ∷ ms) c v l
  one_plain (ok u) o e h = at_same refl (omega arith) refl refl (written-more p (plain_numbers (record { object = o; id = e })) _ l h)
  one_plain (refused x) o e h = refl

abbrev pub rooms_in : outcome.Rooms → CollectedRooms
rooms_in q = record { collected = q.collected; plain = q.plain }

module _ (q : outcome.Rooms) where
  -- for these moves, whatever stands before them
  abbrev Ends : List Move → Type 0
  Ends ms =
      (n p : ℕ) (c : List (List ℕ)) (v : List Float) (l : List (List ℕ)) → q.collected ≤ length c → q.collected ≤ length v → q.plain ≤ length l
      → ran (rooms_in q) ms (at n p c v l) ≡ finished (outcome.collected q n p ms) n p ms c v l

  stopped : (ms : List Move) (x : Refusal) → ran (rooms_in q) ms (stop x) ≡ stop x
  stopped ms x = ran-stop (rooms_in q) ms x

  taken_ends : (b : Bool) (t : Pass2Effect) (ms : List Move) → Ends ms → (n p : ℕ) (c : List (List ℕ)) (v : List Float) (l : List (List ℕ)) → ltb n q.collected ≡ b → q.collected ≤ length c → q.collected ≤ length v → q.plain ≤ length l → ran (rooms_in q) ms (held b 1 (at (n + 1) p (set c n (collected_numbers t)) (set v n (value_of t)) l)) ≡ finished (elim b [ true ↦ outcome.collected q (suc n) p ms | false ↦ refused (Room 1) ]) n p (taken t ∷ ms) c v l
  taken_ends true t ms E n p c v l e h g j =
      let few : n < q.collected = ltb-true n q.collected e in
      E (n + 1) p (set c n (collected_numbers t)) (set v n (value_of t)) l (rw (length-set c n (collected_numbers t)) h) (rw (length-set v n (value_of t)) g) j
      ∙ one-taken n p ms c v l (outcome.collected q (n + 1) p ms) t (omega arith) (omega arith)
      ∙ ap (λ (m : ℕ). finished (outcome.collected q m p ms) n p (taken t ∷ ms) c v l) (add-one n)
  taken_ends false t ms E n p c v l e h g j = stopped ms (Room 1)

  plain_ends : (b : Bool) (o : ℕ) (d : ℤ) (ms : List Move) → Ends ms → (n p : ℕ) (c : List (List ℕ)) (v : List Float) (l : List (List ℕ)) → ltb p q.plain ≡ b → q.collected ≤ length c → q.collected ≤ length v → q.plain ≤ length l → ran (rooms_in q) ms (held b 4 (at n (p + 1) c v (set l p (plain_numbers (record { object = o; id = d }))))) ≡ finished (elim b [ true ↦ outcome.collected q n (suc p) ms | false ↦ refused (Room 4) ]) n p (plain o d ∷ ms) c v l
  plain_ends true o d ms E n p c v l e h g j =
      let few : p < q.plain = ltb-true p q.plain e in
      let row : List ℕ = plain_numbers (record { object = o; id = d }) in
      E n (p + 1) c v (set l p row) h g (rw (length-set l p row) j)
      ∙ one_plain n p ms c v l (outcome.collected q n (p + 1) ms) o d (omega arith)
      ∙ ap (λ (m : ℕ). finished (outcome.collected q n m ms) n p (plain o d ∷ ms) c v l) (add-one p)
  plain_ends false o d ms E n p c v l e h g j = stopped ms (Room 4)

  ends : (ms : List Move) → Ends ms
  unfolding ran moved outcome.collected
  ends [] n p c v l h g j = at_same (sym (add-zero n)) (sym (add-zero p)) (sym (written_none n c)) (sym (written_none n v)) (sym (written_none p l))
  ends (taken t ∷ ms) n p c v l h g j = taken_ends (ltb n q.collected) t ms (ends ms) n p c v l refl h g j
  ends (plain o d ∷ ms) n p c v l h g j = plain_ends (ltb p q.plain) o d ms (ends ms) n p c v l refl h g j
  ends (refuse x ∷ ms) n p c v l h g j = stopped ms x

  from_front : (r : Res Unit) (ms : List Move) (c : List (List ℕ)) (v : List Float) (l : List (List ℕ)) → finished r 0 0 ms c v l ≡ ended r ms c v l
  from_front (ok u) ms c v l =
      at_same (omega arith) (omega arith) (written-laid collected_numbers (taken_of ms) c) (written-laid value_of (taken_of ms) v) (written-laid plain_numbers (plain_of ms) l)
  from_front (refused x) ms c v l = refl

  -- all moves, from the front of the columns
  pub ran-ended : (ms : List Move) (c : List (List ℕ)) (v : List Float) (l : List (List ℕ)) → q.collected ≤ length c → q.collected ≤ length v → q.plain ≤ length l → ran (rooms_in q) ms (at 0 0 c v l) ≡ ended (outcome.collected q 0 0 ms) ms c v l
  ran-ended ms c v l h g j = ends ms 0 0 c v l h g j ∙ from_front (outcome.collected q 0 0 ms) ms c v l

-- ---- for who calls: what an answer says

pub not_done : (r : Res Unit) (ms : List Move) {x : Refusal} (c : List (List ℕ)) (v : List Float) (l : List (List ℕ)) → stop x ≡ ended r ms c v l → r ≡ refused x
not_done (ok u) ms c v l e = absurd (let z : ◌≡◌ {A = ℕ} 0 1 = cc in omega arith)
not_done (refused y) ms c v l e = cc
