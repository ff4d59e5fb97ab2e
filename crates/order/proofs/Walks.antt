-- What each turn of the walk keeps.
use Prim.Native.Nat.{ℕ, ◌+◌, ◌-◌, ◌*◌, ◌≤◌, ◌<◌, ◌^◌}
use native.Mathlib.Decide.{ℕ_discrete}
use native.Mathlib.Omega.{arith}
use mathlib.Core.Path.{◌≡◌, sym, ap, ◌∙◌}
use mathlib.Core.List.{List, []}
use mathlib.Core.Option.{Option, none, some}
use lib.ListN.{length, get_or}
use Rattle.needs.specs.Slots.{need_at}
use Rattle.needs.specs.Telling.{NeedTables, KnowsNeeds}
use Rattle.needs.proofs.Showing.{row_count, need_inside, need_slot}
use Rattle.order.specs.Ranks.{num, Put, Unmet, Ranked}
use Rattle.order.specs.Walks.{Walking, Pushable, Looking, AllPlaced}
use Rattle.order.specs.declared.Walk.{Walk}
use Rattle.order.proofs.Puts.{beside, other}
use Rattle.order.proofs.Placing.{Alike, alike_placing, next-placing, pass_placing, place-placing, all_placed}

module _ {t : NeedTables} {c : List (List ℕ)} where
  pub walking_starts : length t.rows ≤ length c → length t.rows < 2 ^ 32 → Unmet (length t.rows) c → Walking t (record { next = 0; depth = 0; placed = 0 }) c
  walking_starts long few u =
      record {
        long = long;
        few = few;
        next = omega arith;
        placed = omega arith;
        depth = omega arith;
        path = λ d h. absurd (omega (arith, h));
        placing = λ h. record {
          low = λ j l. absurd (omega (arith, l));
          behind = λ j l m. absurd (omega (arith, m, u.mark j l));
          looked = λ j s k l m b e. absurd (omega (arith, b, u.at j l));
        };
      }

  pub walking_ends : {walk : Walk} → Walking t walk c → length t.rows ≤ walk.next → (h : KnowsNeeds t) → Ranked h.world c
  walking_ends W end h = all_placed (W.placing h) h.told.held.long W.placed end

  -- the next row is placed
  pub walking_next : {walk : Walk} → Walking t walk c → walk.next < length t.rows → num c walk.next 0 ≡ 2 → Walking t (record walk { next = walk.next + 1 }) c
  walking_next W l m =
      record {
        long = W.long;
        few = W.few;
        next = omega (arith, l);
        placed = W.placed;
        depth = W.depth;
        path = W.path;
        placing = λ h. next-placing m (W.placing h);
      }

  -- the path's last row is left
  pub walking_back : {walk : Walk} → Walking t walk c → Walking t (record { next = walk.next; depth = walk.depth - 1; placed = walk.placed }) c
  walking_back W =
      record {
        long = W.long;
        few = W.few;
        next = W.next;
        placed = W.placed;
        depth = omega (arith, W.depth);
        path = λ d h. W.path d (omega (arith, h));
        placing = W.placing;
      }

  module _ {walk : Walk} (W : Walking t walk c) {row : ℕ} (R : Pushable t.rows c row) where
    -- a row is put on the path
    pub walking_on : {c₁ c₂ : List (List ℕ)} → Put c row 0 1 c₁ → Put c₁ walk.depth 2 row c₂ → length c₂ ≡ length c → walk.depth < length c
        → Walking t (record { next = walk.next; depth = walk.depth + 1; placed = walk.placed }) c₂
    walking_on {c₁} {c₂} p q same room =
        record {
          long = omega (arith, same, W.long);
          few = W.few;
          next = W.next;
          placed = W.placed;
          depth = omega (arith, same, room);
          path = path;
          placing = λ h. alike_placing alike (W.placing h);
        }
      where
        path : (d : ℕ) → d < walk.depth + 1 → num c₂ d 2 < length t.rows
        path d h = elim (ℕ_discrete d walk.depth) [
          | yes e ↦ let here : num c₂ d 2 ≡ row = ap (λ (i : ℕ). num c₂ i 2) e ∙ q.here in omega (arith, here, R.within)
          | no e ↦ let there : num c₂ d 2 ≡ num c d 2 = other q d 2 tt e ∙ beside p d 2 tt tt in omega (arith, there, W.path d (omega (arith, h, e)))
        ]

        mark : (j : ℕ) → num c₂ j 0 ≡ num c₁ j 0
        mark j = beside q j 0 tt tt

        alike : Alike c c₂
        alike =
            record {
              placed = λ j m. mark j ∙ other p j 0 tt (λ e. R.unplaced (ap (λ (i : ℕ). num c i 0) (sym e) ∙ m)) ∙ m;
              back = λ j m. elim (ℕ_discrete j row) [
                | yes e ↦ let one : num c₁ j 0 ≡ 1 = ap (λ (i : ℕ). num c₁ i 0) e ∙ p.here in absurd (omega (arith, one, mark j, m))
                | no e ↦ sym (mark j ∙ other p j 0 tt e) ∙ m
              ];
              at = λ j. beside q j 1 tt tt ∙ beside p j 1 tt tt;
              listed = λ j. beside q j 3 tt tt ∙ beside p j 3 tt tt;
            }

    -- a slot is done with
    pub walking_pass : {c₁ : List (List ℕ)} → Looking t c row → Put c row 1 (num c row 1 + 1) c₁ → length c₁ ≡ length c → Walking t walk c₁
    walking_pass {c₁} L p same =
        record {
          long = omega (arith, same, W.long);
          few = W.few;
          next = W.next;
          placed = W.placed;
          depth = omega (arith, same, W.depth);
          path = λ d h. let there : num c₁ d 2 ≡ num c d 2 = beside p d 2 tt tt in omega (arith, there, W.path d h);
          placing = λ h. pass_placing row R.unplaced (W.placing h) c₁ (λ j. beside p j 0 tt tt) (λ j. beside p j 3 tt tt) (λ j n. other p j 1 tt n) p.here (L h);
        }

    -- all slots are done with
    pub all_looked : 2 * get_or (get_or t.rows row []) 3 0 + 2 ≤ num c row 1 → AllPlaced t c row
    all_looked l h s k e = (W.placing h).looked row s k R.within R.unplaced (omega (arith, l, row_count h.told row R.within, need_slot h.world row s k e)) e

    pub walking_place : {c₁ c₂ c₃ : List (List ℕ)} → AllPlaced t c row → walk.placed < length t.rows → Put c row 0 2 c₁ → Put c₁ row 1 walk.placed c₂ → Put c₂ walk.placed 3 row c₃
        → length c₃ ≡ length c → Walking t (record { next = walk.next; depth = walk.depth; placed = walk.placed + 1 }) c₃
    walking_place {c₁} {c₂} {c₃} all room p q r same =
        record {
          long = omega (arith, same, W.long);
          few = W.few;
          next = W.next;
          placed = omega (arith, room);
          depth = omega (arith, same, W.depth);
          path = λ d h. let there : num c₃ d 2 ≡ num c d 2 = beside r d 2 tt tt ∙ beside q d 2 tt tt ∙ beside p d 2 tt tt in omega (arith, there, W.path d h);
          placing = λ h. place-placing row R.unplaced (W.placing h) c₃
              (λ j n. beside r j 0 tt tt ∙ beside q j 0 tt tt ∙ other p j 0 tt n)
              (λ j n. beside r j 1 tt tt ∙ other q j 1 tt n ∙ beside p j 1 tt tt)
              (λ j n. other r j 3 tt n ∙ beside q j 3 tt tt ∙ beside p j 3 tt tt)
              (beside r row 0 tt tt ∙ beside q row 0 tt tt ∙ p.here)
              (beside r row 1 tt tt ∙ q.here) r.here (all h) h.told.held.long;
        }

-- what needs nothing needs nothing but placed rows
pub nothing_needed : {t : NeedTables} (c : List (List ℕ)) (row : ℕ) → ((h : KnowsNeeds t) (s : ℕ) → none ≡ need_at h.world row s) → AllPlaced t c row
nothing_needed c row f h s k e =
    let z : ◌≡◌ {A = Option ℕ} none (some k) = f h s ∙ sym e in
    let y : ◌≡◌ {A = ℕ} 0 1 = cc in
    absurd (omega arith)

-- ---- what a look finds

module _ {t : NeedTables} where
  pub found_inside : (h : KnowsNeeds t) (row s k : ℕ) → some k ≡ need_at h.world row s → k < length t.rows
  found_inside h row s k e = omega (arith, h.told.held.long, need_inside h.world row s k e)

  -- the path's last row
  pub path_top : {walk : Walk} {c : List (List ℕ)} → Walking t walk c → (walk.depth ≡ 0 → ⊥) → {top : ℕ} → top ≡ num c (walk.depth - 1) 2 → top < length t.rows
  path_top {walk} W n e = omega (arith, e, W.path (walk.depth - 1) (omega (arith, n)))

module _ {t : NeedTables} (c : List (List ℕ)) (row : ℕ) {slot : ℕ} (e : slot ≡ num c row 1) where
  pub nothing_there : ((h : KnowsNeeds t) → none ≡ need_at h.world row slot) → Looking t c row
  nothing_there f h k g =
      let z : ◌≡◌ {A = Option ℕ} none (some k) = f h ∙ ap (need_at h.world row) e ∙ sym g in
      let y : ◌≡◌ {A = ℕ} 0 1 = cc in
      absurd (omega arith)

  pub placed_there : (j : ℕ) → ((h : KnowsNeeds t) → some j ≡ need_at h.world row slot) → num c j 0 ≡ 2 → Looking t c row
  placed_there j f m h k g =
      let both : ◌≡◌ {A = Option ℕ} (some j) (some k) = f h ∙ ap (need_at h.world row) e ∙ sym g in
      let same : j ≡ k = cc in
      ap (λ (i : ℕ). num c i 0) (sym same) ∙ m
