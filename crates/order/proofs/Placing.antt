-- Rows placed one after another, each behind all that it needs: what a change of one row keeps.
use Prim.Native.Nat.{ℕ, ◌+◌, ◌≤◌, ◌<◌}
use native.Mathlib.Decide.{ℕ_discrete}
use native.Mathlib.Omega.{arith}
use mathlib.Core.Path.{◌≡◌, sym, ap, subst, ◌∙◌}
use mathlib.Core.List.{List}
use mathlib.Core.Option.{some}
use lib.ListN.{length}
use Rattle.rules.specs.Value.{World}
use Rattle.needs.specs.Slots.{need_at}
use Rattle.needs.proofs.Showing.{need_inside}
use Rattle.order.specs.Ranks.{num, Ranked}
use Rattle.order.specs.Walks.{Behind, Placing}

-- ---- the same rows are placed, with the same ranks

pub record Alike (c c' : List (List ℕ)) : Type 0 where
  pub placed : (j : ℕ) → num c j 0 ≡ 2 → num c' j 0 ≡ 2
  pub back : (j : ℕ) → num c' j 0 ≡ 2 → num c j 0 ≡ 2
  pub at : (j : ℕ) → num c' j 1 ≡ num c j 1
  pub listed : (j : ℕ) → num c' j 3 ≡ num c j 3

module _ {w : World} where
  module _ {c c' : List (List ℕ)} (A : Alike c c') where
    alike_behind : {p : ℕ} (j : ℕ) → Behind w p c j → Behind w p c' j
    alike_behind j b =
        record {
          rank = omega (arith, A.at j, b.rank);
          listed = A.listed (num c' j 1) ∙ ap (λ (m : ℕ). num c m 3) (A.at j) ∙ b.listed;
          needs = λ s k e. (A.placed k (b.needs s k e).0, omega (arith, (b.needs s k e).1, A.at k, A.at j));
        }

    pub alike_placing : {n next p : ℕ} → Placing w n next p c → Placing w n next p c'
    alike_placing P =
        record {
          low = λ j h. A.placed j (P.low j h);
          behind = λ j h m. alike_behind j (P.behind j h (A.back j m));
          looked = λ j s k h m l e. A.placed k (P.looked j s k h (λ q. m (A.placed j q)) (omega (arith, l, A.at j)) e);
        }

  -- ---- the row below which all are placed is placed too

  pub next-placing : {n next p : ℕ} {c : List (List ℕ)} → num c next 0 ≡ 2 → Placing w n next p c → Placing w n (next + 1) p c
  next-placing {next = next} {c = c} m P = record { low = λ j h. low j h; behind = P.behind; looked = P.looked }
    where
      low : (j : ℕ) → j < next + 1 → num c j 0 ≡ 2
      low j h = elim (ℕ_discrete j next) [ yes e ↦ ap (λ (i : ℕ). num c i 0) e ∙ m | no e ↦ P.low j (omega (arith, h, e)) ]

  -- ---- a slot more of row r is looked at

  module _ {n next p : ℕ} {c : List (List ℕ)} (r : ℕ) (unplaced : num c r 0 ≡ 2 → ⊥) (P : Placing w n next p c) where
    -- a placed row is another one
    apart : (j : ℕ) → num c j 0 ≡ 2 → j ≡ r → ⊥
    apart j m e = unplaced (ap (λ (i : ℕ). num c i 0) (sym e) ∙ m)

    module _ (c' : List (List ℕ)) (mark : (j : ℕ) → num c' j 0 ≡ num c j 0) (listed : (j : ℕ) → num c' j 3 ≡ num c j 3) (at : (j : ℕ) → (j ≡ r → ⊥) → num c' j 1 ≡ num c j 1) (more : num c' r 1 ≡ num c r 1 + 1)
        (passed : (k : ℕ) → some k ≡ need_at w r (num c r 1) → num c k 0 ≡ 2) where
      pass_behind : (j : ℕ) → num c j 0 ≡ 2 → Behind w p c j → Behind w p c' j
      pass_behind j m b =
          let same = at j (apart j m) in
          record {
            rank = omega (arith, same, b.rank);
            listed = listed (num c' j 1) ∙ ap (λ (i : ℕ). num c i 3) same ∙ b.listed;
            needs = λ s k e. (mark k ∙ (b.needs s k e).0, omega (arith, same, at k (apart k (b.needs s k e).0), (b.needs s k e).1));
          }

      pass_looked : (j s k : ℕ) → j < n → (num c j 0 ≡ 2 → ⊥) → s < num c' j 1 → some k ≡ need_at w j s → num c k 0 ≡ 2
      pass_looked j s k h m l e = elim (ℕ_discrete j r) [ yes q ↦ own q | no q ↦ P.looked j s k h m (omega (arith, l, at j q)) e ]
        where
          own : j ≡ r → num c k 0 ≡ 2
          own q = elim (ℕ_discrete s (num c r 1)) [
            | yes u ↦ passed k (e ∙ ap (λ (i : ℕ). need_at w i s) q ∙ ap (need_at w r) u)
            | no u ↦ P.looked j s k h m (before u) e
          ]
            where
              before : (s ≡ num c r 1 → ⊥) → s < num c j 1
              before u =
                  let new : num c' j 1 ≡ num c' r 1 = ap (λ (i : ℕ). num c' i 1) q in
                  let old : num c j 1 ≡ num c r 1 = ap (λ (i : ℕ). num c i 1) q in
                  omega (arith, l, new, old, more, u)

      pub pass_placing : Placing w n next p c'
      pass_placing =
          record {
            low = λ j h. mark j ∙ P.low j h;
            behind = λ j h m. pass_behind j (sym (mark j) ∙ m) (P.behind j h (sym (mark j) ∙ m));
            looked = λ j s k h m l e. mark k ∙ pass_looked j s k h (λ q. m (mark j ∙ q)) l e;
          }

    -- ---- row r is placed

    module _ (c' : List (List ℕ)) (mark : (j : ℕ) → (j ≡ r → ⊥) → num c' j 0 ≡ num c j 0) (at : (j : ℕ) → (j ≡ r → ⊥) → num c' j 1 ≡ num c j 1) (listed : (j : ℕ) → (j ≡ p → ⊥) → num c' j 3 ≡ num c j 3)
        (marked : num c' r 0 ≡ 2) (ranked : num c' r 1 ≡ p) (last : num c' p 3 ≡ r) (all : (s k : ℕ) → some k ≡ need_at w r s → num c k 0 ≡ 2) (long : n ≡ length w.rows) where
      still : (k : ℕ) → num c k 0 ≡ 2 → num c' k 0 ≡ 2
      still k m = mark k (apart k m) ∙ m

      place_other : (j : ℕ) → num c j 0 ≡ 2 → Behind w p c j → Behind w (p + 1) c' j
      place_other j m b =
          let same = at j (apart j m) in
          record {
            rank = omega (arith, same, b.rank);
            listed = listed (num c' j 1) (λ q. omega (arith, q, same, b.rank)) ∙ ap (λ (i : ℕ). num c i 3) same ∙ b.listed;
            needs = λ s k e. (still k (b.needs s k e).0, omega (arith, same, at k (apart k (b.needs s k e).0), (b.needs s k e).1));
          }

      place_own : Behind w (p + 1) c' r
      place_own =
          record {
            rank = omega (arith, ranked);
            listed = ap (λ (i : ℕ). num c' i 3) ranked ∙ last;
            needs = λ s k e. (still k (all s k e), omega (arith, ranked, at k (apart k (all s k e)), (P.behind k (omega (arith, long, need_inside w r s k e)) (all s k e)).rank));
          }

      pub place-placing : Placing w n next (p + 1) c'
      place-placing =
          record {
            low = λ j h. still j (P.low j h);
            behind = λ j h m. elim (ℕ_discrete j r) [ yes q ↦ subst (Behind w (p + 1) c') (sym q) place_own | no q ↦ place_other j (sym (mark j q) ∙ m) (P.behind j h (sym (mark j q) ∙ m)) ];
            looked = λ j s k h m l e. looked j s k h m l e;
          }
        where
          looked : (j s k : ℕ) → j < n → (num c' j 0 ≡ 2 → ⊥) → s < num c' j 1 → some k ≡ need_at w j s → num c' k 0 ≡ 2
          looked j s k h m l e =
              let q : j ≡ r → ⊥ = λ u. m (ap (λ (i : ℕ). num c' i 0) u ∙ marked) in
              still k (P.looked j s k h (λ u. m (still j u)) (omega (arith, l, at j q)) e)

  -- ---- all are placed

  pub all_placed : {n next p : ℕ} {c : List (List ℕ)} → Placing w n next p c → n ≡ length w.rows → p ≤ n → n ≤ next → Ranked w c
  all_placed {n} {next} {p} {c} P long few end =
      record { inside = λ j h. omega (arith, few, long, (at j h).rank); listed = λ j h. (at j h).listed; falls = λ j s k h e. ((at j h).needs s k e).1 }
    where
      at : (j : ℕ) → j < length w.rows → Behind w p c j
      at j h = P.behind j (omega (arith, h, long)) (P.low j (omega (arith, h, long, end)))
