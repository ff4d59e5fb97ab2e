-- Of a sound sheet the columns after dispatch are ready for the walk, and hold what the definition says after it.
use Rattle.std.specs.Prelude.{Result, Ok, Err}
use Prim.Native.Nat.{ℕ, ◌+◌, ◌≤◌}
use native.Mathlib.Omega.{arith}
use mathlib.Core.Path.{◌≡◌, refl, sym, ap, subst, ◌∙◌}
use mathlib.Core.Bool.{Bool, true, false}
use mathlib.Core.List.{List, [], ◌++◌, map}
use mathlib.Core.Option.{Option, get_or}
use lib.Ieee.{Float, nan}
use lib.ListN.{length, take, drop, replicate, length-append, length-replicate, length-map, take-append-drop}
use lib.Seq.{take_at, drop_at}
use Rattle.laws.specs.Columns.{Col}
use Rattle.laws.specs.Floats.{zero_f}
use Rattle.laws.proofs.Laid.{drop-laid, laid-length}
use Rattle.laws.proofs.Maps.{map_itself}
use Rattle.rules.specs.declared.Refusal.{Refusal}
use Rattle.rules.specs.Answer.{Res, ok, refused}
use Rattle.rules.specs.Columns.{rows_numbers}
use Rattle.rules.specs.Dispatch.{Row}
use Rattle.rules.specs.Item.{char_of}
use Rattle.rules.specs.Outcome.{blank, collected_in, rows_in, starts_of, valued, world_of}
use Rattle.rules.specs.Sheet.{Book, Fit, book_of, fit_of}
use Rattle.rules.specs.Value.{World, Mem}
use Rattle.info.specs.Sound.{SoundBook, SoundFit}
use Rattle.rules.proofs.Verdicts.{objects_good_lem}
use Rattle.info.proofs.Sheets.{numbered}
use Rattle.reading.specs.Held.{RowsHeld}
use Rattle.reading.specs.Stretched.{Stretched, Limits}
use Rattle.reading.specs.declared.turns.Turns.{Turns}
use Rattle.reading.specs.Order.{owned, rows_below, projected_end}
use Rattle.reading.proofs.Owners.{rows_owned}
use Rattle.reading.proofs.Walks.{objects_climb, turns_are}
use Rattle.sources.specs.declared.Recording.{Recording}
use Rattle.sources.specs.Keeping.{RunOf}
use Rattle.sources.specs.Planned.{counts_of}
use Rattle.sources.specs.Rows.{counts_by, planned_numbers, DispatchedRows, Planning}
use Rattle.sources.proofs.Agreeing.{planned_front}
use Rattle.sources.proofs.Numbers.{planned_long, planned_held, dispatched_long}
use Rattle.memory.specs.Holding.{tables, Holds, Tells}
use Rattle.values.specs.Complete.{AllAsked, Ended}
use Rattle.values.proofs.Asked.{walk_asks}
use Rattle.values.proofs.Ends.{all-ended}
use Rattle.values.proofs.PreparedBlankLaws.{held-at-first}
use Rattle.values.proofs.Planning.{dispatched, planned_off, planned_on}
use Rattle.values.proofs.Sheets.{sound_rows}
use Rattle.values.proofs.Told.{told}
use Rattle.values.specs.Starting.{Walkable, ValuedAs}
use Rattle.values.specs.Setting.{planned_rows, RowsListed, Set, SetAs}

-- where nothing is recorded the rows stay, and where it is they are planned
pub planned_is : (t u : Bool) → t ≡ u → (n : ℕ) (rs : List Row) (st r : List (List ℕ)) {r' : List (List ℕ)} → r' ≡ planned_rows u n rs st r → r' ≡ planned_rows t n rs st r
planned_is t u e n rs st r p = p ∙ sym (ap (λ (x : Bool). planned_rows x n rs st r) e)

module _ (k : Book) (f : Fit) (room : ℕ) where
  world_rows : (world_of k f room).rows ≡ rows_in k f
  unfolding world_of
  world_rows = refl

module _ (book fit : List ℕ) (pairs : List (List ℕ)) (sb : SoundBook book pairs) (sf : SoundFit fit pairs) (n : ℕ) (run : Recording) {st r : List (List ℕ)} {b : List Float} {e : List (List ℕ)} {v : List Float} (h : RowsListed (book_of book pairs) (fit_of fit pairs) n run st r b e v) where
  abbrev k : Book
  k = book_of book pairs

  abbrev f : Fit
  f = fit_of fit pairs

  abbrev rs : List Row
  rs = rows_in k f

  abbrev world : World
  world = world_of k f run.room

  abbrev numbers : List (List ℕ)
  numbers = planned_numbers 0 0 rs (counts_of world)

  pub is_dispatched : DispatchedRows (rows_in (book_of book pairs) (fit_of fit pairs)) n r e v
  is_dispatched = dispatched book fit pairs sf n h.count h.lists

  pub is_planning : Planning n r e v
  is_planning = record { rows = rs; dispatched = is_dispatched }

  pub rows_wide : n ≤ length r
  rows_wide =
      omega (arith, h.count, dispatched_long rs, length-map (rows_numbers 0 0 rs []) (λ x. x), ap length h.lists.rows.is ∙ length-append (map (λ x. x) (rows_numbers 0 0 rs [])) (drop (length (rows_numbers 0 0 rs [])) h.rows₀))

  pub bases_wide : n ≤ length b
  bases_wide = omega (arith, h.count, length-map rs (λ (x : Row). x.base), ap length h.lists.bases.is ∙ length-append (map (λ (x : Row). x.base) rs) (drop (length rs) h.bases₀))

  -- ---- after planning

  is-run : RunOf world run
  unfolding world_of
  is-run = record { room = refl; recording = sym h.recording }

  planned_by_lem : (t : Bool) → run.recording ≡ t → (r' : List (List ℕ)) → r' ≡ planned_rows t n rs st r → r' ≡ numbers ++ drop n r
  planned_by_lem true t r' p =
      p ∙ ap (λ (l : List (List ℕ)). l ++ drop n r)
      (sym (ap (take n) p ∙ planned_front rs (counts_by st rs) n r h.count) ∙ planned_on book fit pairs sf n h.count h.lists run.room (is-run.recording ∙ t) h.states p)
  planned_by_lem false t r' p =
      p ∙ sym (take-append-drop n r) ∙ ap (λ (l : List (List ℕ)). l ++ drop n r) (planned_off book fit pairs sf n h.count h.lists run.room (is-run.recording ∙ t))

  module _ {r' : List (List ℕ)} (p : r' ≡ planned_rows run.recording n (rows_in (book_of book pairs) (fit_of fit pairs)) st r) where
    whole : r' ≡ numbers ++ drop n r
    whole = planned_by_lem run.recording refl r' p

    front : take n r' ≡ numbers
    front = ap (take n) whole ∙ planned_front rs (counts_of world) n r h.count

    pub rows_held : RowsHeld (rows_in (book_of book pairs) (fit_of fit pairs)) (take n r')
    rows_held =
        let S = sound_rows book fit pairs sb sf in
        subst (RowsHeld rs) (sym front) (planned_held rs (counts_of world) 0 0 S.narrow S.ordered)

    -- ---- ready for the walk

    is-owned : owned (length f.objects) world.rows ≡ true
    unfolding world_of rows_in
    is-owned = rows_owned k f (collected_in k f) (numbered fit pairs)

    module _ {s₀ : List (List ℕ)} {g₀ : List (List Float)} (small : run.room ≤ length s₀) (even : run.room ≤ length g₀) where
      is-told : {x : List (List ℕ)} {l : List ℕ} → Stretched rs x → Limits k l → Tells world s₀ g₀ (tables book pairs st x l (take n r') (take n b) e v) run
      is-told {x} {l} s m =
          subst (λ (i : ℕ). Tells world s₀ g₀ (tables book pairs st x l (take i r') (take i b) e v) run) (sym h.count)
          (told book fit pairs sb sf run.room r' h.lists h.states (subst (λ (i : ℕ). take i r' ≡ numbers) h.count front) is-run small even s m)

      module _ (v₀ : List Float) {v' : List Float} (u : v' ≡ replicate n nan ++ drop n v₀) where
        at_first : Holds world s₀ g₀ (blank world.rows) (take n v') s₀ g₀ 0
        at_first =
            subst (λ (c : List Float). Holds world s₀ g₀ (blank world.rows) c s₀ g₀ 0)
            (ap (λ (i : ℕ). replicate i nan) (ap length (world_rows k f run.room) ∙ sym h.count) ∙ sym (ap (take n) u ∙ take_at (replicate n nan) (drop n v₀) n (length-replicate n nan)))
            (held-at-first world s₀ g₀)

        pub walkable : {x : List (List ℕ)} {l : List ℕ} → Stretched (rows_in (book_of book pairs) (fit_of fit pairs)) x → Limits (book_of book pairs) l → Walkable (tables book pairs st x l (take n r') (take n b) e v) run (take n v') s₀ g₀ 0 fit
        walkable s m =
            record {
              ready = record {
                world = world;
                mem = blank world.rows;
                sources₀ = s₀;
                floats₀ = g₀;
                told = is-told s m;
                holds = at_first;
              };
              own = is-owned;
            }

    -- ---- after the walk

    turns : Turns
    turns = record { ship = rows_below 1 world.rows; character = rows_below (char_of f + 1) world.rows; projected = rows_below (projected_end f) world.rows }

    world_held : RowsHeld world.rows (take n r')
    unfolding world_of
    world_held = rows_held

    all_asked : AllAsked world (starts_of f world.rows)
    unfolding turns
    all_asked = walk_asks world f turns (turns_are world.rows (objects_climb world.rows world_held.ordered) f (numbered fit pairs) (objects_good_lem f sf.good) turns refl refl refl is-owned)

    behind : drop n r ≡ drop n h.rows₀
    behind = ap (drop n) h.lists.rows.is ∙ drop-laid (λ x. x) (rows_numbers 0 0 rs []) h.rows₀ n (omega (arith, h.count, dispatched_long rs))

    module _ (m : Mem) (same : numbers ≡ rows_numbers 0 0 rs m.sources) where
      told_long : length (rows_numbers 0 0 rs m.sources) ≡ n
      told_long = ap length (sym same) ∙ planned_long rs (counts_of world) 0 0 ∙ sym h.count

      rows_laid : r' ≡ map (λ x. x) (rows_numbers 0 0 rs m.sources) ++ drop (length (rows_numbers 0 0 rs m.sources)) h.rows₀
      rows_laid = rw (told_long, map_itself (rows_numbers 0 0 rs m.sources), sym same, sym behind) whole

      is_rows : Col (λ x. x) (rows_numbers 0 0 rs m.sources) h.rows₀ r'
      is_rows = record { is = rows_laid; long = ap length rows_laid ∙ laid-length (λ x. x) (rows_numbers 0 0 rs m.sources) h.rows₀ (omega (arith, told_long, rows_wide, h.lists.rows.long)) }

    module _ (v₀ : List Float) (inside : n ≤ length v₀) {v' : List Float} (u : v' ≡ replicate n nan ++ drop n v₀) where
      is_values : (xs ys : List Float) → ys ≡ xs → length xs ≡ n → {v'' : List Float} → v'' ≡ ys ++ drop n v' → Col (λ x. x) xs v₀ v''
      is_values xs ys y l {v''} e = record { is = laid-is; long = ap length laid-is ∙ laid-length (λ x. x) xs v₀ (omega (arith, l, inside)) }
        where
          laid-is : v'' ≡ map (λ x. x) xs ++ drop (length xs) v₀
          laid-is = rw (map_itself xs, l) (e ∙ rw (y, ap (drop n) u ∙ drop_at (replicate n nan) (drop n v₀) n (length-replicate n nan)) refl)

      module _ (s₀ : List (List ℕ)) (g₀ : List (List Float)) (small : run.room ≤ length s₀) (even : run.room ≤ length g₀) (few : run.room ≤ 4294967295)
          (y : List Float) {v'' : List Float} (e' : v'' ≡ y ++ drop n v') (s : List (List ℕ)) (g : List (List Float)) where
        set_ended : (m : Mem) (used : ℕ) → length m.values ≡ length world.rows → Ended world s₀ g₀ m y s g used → Set rs m used h.rows₀ r' v₀ v'' s₀ s g₀ g
        unfolding world_of
        set_ended m used long E =
            record {
              count = E.count;
              rows = is_rows m E.rows;
              values = is_values (map (λ (o : Option Float). get_or o zero_f) m.values) y E.values (length-map m.values (λ (o : Option Float). get_or o zero_f) ∙ long ∙ sym h.count) e';
              numbers = E.numbers;
              floats = E.floats;
            }

        by : (x : Res Mem) → valued world f.depth (starts_of f world.rows) (blank world.rows) ≡ x → (a : Result ℕ Refusal) → ValuedAs world s₀ g₀ x a y s g → SetAs rs x a h.rows₀ r' v₀ v'' s₀ s g₀ g
        unfolding world_of
        by (ok m) x (Ok used) H = set_ended m used H.long (all-ended world_held f.depth (starts_of f world.rows) x all_asked H few small even)
        by (ok m) x (Err z) H = absurd H
        by (refused q) x (Ok used) H = absurd H
        by (refused q) x (Err z) H = H

        ended_as : (a : Result ℕ Refusal) → ValuedAs world s₀ g₀ (valued world f.depth (starts_of f world.rows) (blank world.rows)) a y s g → SetAs rs (valued world f.depth (starts_of f rs) (blank rs)) a h.rows₀ r' v₀ v'' s₀ s g₀ g
        unfolding world_of
        ended_as a H = by (valued world f.depth (starts_of f world.rows) (blank world.rows)) refl a H

        -- what the walk ensures, of any world that the columns hold
        pub set_as : {x : List (List ℕ)} {l : List ℕ} → Stretched (rows_in (book_of book pairs) (fit_of fit pairs)) x → Limits (book_of book pairs) l → (a : Result ℕ Refusal)
            → ((q : Walkable (tables book pairs st x l (take n r') (take n b) e v) run (take n v') s₀ g₀ 0 fit)
            → ValuedAs q.ready.world q.ready.sources₀ q.ready.floats₀ (valued q.ready.world (fit_of fit pairs).depth (starts_of (fit_of fit pairs) q.ready.world.rows) q.ready.mem) a y s g)
            → SetAs (rows_in (book_of book pairs) (fit_of fit pairs)) (valued (world_of (book_of book pairs) (fit_of fit pairs) run.room) (fit_of fit pairs).depth (starts_of (fit_of fit pairs) (rows_in (book_of book pairs) (fit_of fit pairs))) (blank (rows_in (book_of book pairs) (fit_of fit pairs)))) a h.rows₀ r' v₀ v'' s₀ s g₀ g
        unfolding walkable
        set_as c m a E = ended_as a (E (walkable small even v₀ u c m))
