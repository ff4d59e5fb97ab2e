-- Starts valued one after another.
use Rattle.std.specs.Prelude.{Result, Ok, Err}
use Prim.Native.Nat.{ℕ, ◌+◌, ◌≤◌, ◌<◌}
use native.Mathlib.Omega.{arith}
use mathlib.Core.Path.{◌≡◌, refl, sym, ap, ◌∙◌}
use mathlib.Core.List.{List, [], ◌∷◌, ◌++◌, map}
use borrow.Author.Tests.{ltb-true}
use lib.Dec.{ltb}
use lib.Ieee.{Float}
use lib.ListN.{length, get_or, take, drop, take-append-drop, length-map}
use lib.Seq.{take_all}
use Rattle.laws.proofs.Every.{every_at}
use Rattle.laws.proofs.Maps.{take_next, map_at}
use Rattle.rules.specs.Answer.{Res, ok, refused, ◌>>=◌}
use Rattle.rules.specs.Bytes.{u32_at, depth_at}
use Rattle.rules.specs.Dispatch.{Row}
use Rattle.rules.specs.Outcome.{valued, walk_order}
use Rattle.rules.specs.Sheet.{Fit, fit_of}
use Rattle.rules.specs.Shape.{asks_good}
use Rattle.rules.proofs.Verdicts.{asks_good_lem}
use Rattle.rules.specs.Value.{World, Mem, Read, value_of}
use Rattle.rules.specs.declared.Ask.{Ask}
use Rattle.rules.specs.declared.Refusal.{Refusal}
use Rattle.info.specs.Sound.{SoundFit}
use Rattle.reading.specs.Held.{no_row}
use Rattle.reading.specs.declared.turns.Turns.{Turns}
use Rattle.reading.specs.Order.{TurnsOf, walked_at}
use Rattle.reading.proofs.Walks.{turns_long, turn_at}
use Rattle.sources.specs.declared.Recording.{Recording}
use Rattle.memory.specs.Holding.{Tables, Holds, Ready}
use Rattle.memory.specs.Answers.{Returns}
use Rattle.memory.proofs.Holdings.{ready_on, met, missed}
use Rattle.values.proofs.Taken.{few_objects}
use Rattle.values.specs.Complete.{ask_of}
use Rattle.values.specs.Starting.{ValuedAs}

pub valued_append : (w : World) (d : ℕ) (xs ys : List Ask) (m : Mem) → valued w d (xs ++ ys) m ≡ (valued w d xs m >>= λ n. valued w d ys n)
unfolding valued
valued_append w d [] ys m = refl
valued_append w d (a ∷ xs) ys m = by (value_of w d a.object a.attribute_id m) (λ n. valued_append w d xs ys n)
  where
    by : (x : Res Read) → ((n : Mem) → valued w d (xs ++ ys) n ≡ (valued w d xs n >>= λ n. valued w d ys n)) → (x >>= λ q. valued w d (xs ++ ys) q.mem) ≡ ((x >>= λ q. valued w d xs q.mem) >>= λ n. valued w d ys n)
    by (ok q) h = h q.mem
    by (refused y) h = refl

-- the first i of the starts, from memory m on
pub record Asking (w : World) (s₀ : List (List ℕ)) (f₀ : List (List Float)) (d : ℕ) (starts : List Ask) (m : Mem) (i : ℕ) (v : List Float) (s : List (List ℕ)) (f : List (List Float)) (used : ℕ) : Type 0 where
  pub sofar : Mem
  pub is : valued w d (take i starts) m ≡ ok sofar
  pub holds : Holds w s₀ f₀ sofar v s f used

module _ {t : Tables} {run : Recording} {v₀ : List Float} {s₁ : List (List ℕ)} {f₁ : List (List Float)} {used₀ : ℕ} (h : Ready t run v₀ s₁ f₁ used₀) (d : ℕ) (starts : List Ask) where
  abbrev w : World
  w = h.world

  abbrev s₀ : List (List ℕ)
  s₀ = h.sources₀

  abbrev f₀ : List (List Float)
  f₀ = h.floats₀

  pub asking_starts : Asking w s₀ f₀ d starts h.mem 0 v₀ s₁ f₁ used₀
  unfolding valued
  asking_starts = record { sofar = h.mem; is = refl; holds = h.holds }

  module _ {i : ℕ} {v : List Float} {s : List (List ℕ)} {f : List (List Float)} {used : ℕ} (A : Asking w s₀ f₀ d starts h.mem i v s f used) where
    abbrev pub asking_ready : Ready t run v s f used
    asking_ready = ready_on h A.sofar A.holds

    pub asking_ends : length starts ≤ i → ValuedAs w s₀ f₀ (valued w d starts h.mem) (Ok used) v s f
    asking_ends all = rw (ap (λ (l : List Ask). valued w d l h.mem) (sym (take_all i starts all)) ∙ A.is) A.holds

    module _ (inside : i < length starts) (a : Ask) (a-is : a ≡ get_or starts i a) (v' : List Float) (s' : List (List ℕ)) (f' : List (List Float)) where
      abbrev reading : Res Read
      reading = value_of w d a.object a.attribute_id A.sofar

      one_more : valued w d (take (i + 1) starts) h.mem ≡ (reading >>= λ q. ok q.mem)
      unfolding valued
      one_more =
          ap (λ (l : List Ask). valued w d l h.mem) (take_next starts i a inside) ∙ valued_append w d (take i starts) (get_or starts i a ∷ []) h.mem
          ∙ ap (λ (x : Res Mem). x >>= λ n. valued w d (get_or starts i a ∷ []) n) A.is ∙ ap (λ (b : Ask). valued w d (b ∷ []) A.sofar) (sym a-is)

      pub asking_next : (y : Float) (more : ℕ) → Returns w s₀ f₀ reading (Ok (record { value = y; used = more })) v' s' f' → Asking w s₀ f₀ d starts h.mem (i + 1) v' s' f' more
      asking_next y more k =
          let q = met w s₀ f₀ v' s' f' reading y more k in
          record { sofar = q.read.mem; is = one_more ∙ ap (λ (x : Res Read). x >>= λ q. ok q.mem) q.is; holds = q.holds }

      pub asking_refused : (z : Refusal) → Returns w s₀ f₀ reading (Err z) v' s' f' → ValuedAs w s₀ f₀ (valued w d starts h.mem) (Err z) v' s' f'
      asking_refused z k =
          rw (ap (λ (l : List Ask). valued w d l h.mem) (sym (take-append-drop (i + 1) starts)) ∙ valued_append w d (take (i + 1) starts) (drop (i + 1) starts) h.mem
          ∙ ap (λ (x : Res Mem). x >>= λ n. valued w d (drop (i + 1) starts) n) (one_more ∙ ap (λ (x : Res Read). x >>= λ q. ok q.mem) (missed w s₀ f₀ v' s' f' reading z k))) refl

-- ---- the sheet's depth, and an ask's object

pub depth_is : (b : List ℕ) (pairs : List (List ℕ)) {d : ℕ} → d ≡ u32_at b (depth_at pairs) → (fit_of b pairs).depth ≡ d
unfolding fit_of
depth_is b pairs e = sym e

pub ask_few : (b : List ℕ) (pairs : List (List ℕ)) → SoundFit b pairs → (i : ℕ) → i < length (fit_of b pairs).asks → (a : Ask) → a ≡ get_or (fit_of b pairs).asks i a → a.object < 1024
unfolding asks_good
ask_few b pairs s i inside a e =
    let good = every_at (λ (x : Ask). ltb x.object (length (fit_of b pairs).objects)) (fit_of b pairs).asks i a (asks_good_lem (fit_of b pairs) s.good) inside in
    omega (arith, ltb-true (get_or (fit_of b pairs).asks i a).object (length (fit_of b pairs).objects) good, ap (λ (x : Ask). x.object) e, few_objects b pairs s)

-- ---- turn k of the walk

module _ {f : Fit} {rs : List Row} {t : Turns} (T : TurnsOf f rs t) where
  pub walk_long : length (map ask_of (walk_order f.objects rs)) ≡ length rs
  walk_long = length-map (walk_order f.objects rs) ask_of ∙ turns_long T

  pub walk_at : (k row : ℕ) → k < length rs → row ≡ walked_at t k → ask_of (get_or rs row no_row) ≡ get_or (map ask_of (walk_order f.objects rs)) k (ask_of (get_or rs row no_row))
  walk_at k row inside e =
      sym (map_at ask_of (walk_order f.objects rs) k no_row (ask_of (get_or rs row no_row)) (omega (arith, inside, turns_long T)) ∙ ap ask_of (turn_at T k inside ∙ ap (λ (n : ℕ). get_or rs n no_row) (sym e)))

-- ---- asks, then the walk

module _ (w : World) (s₀ : List (List ℕ)) (f₀ : List (List Float)) (d : ℕ) (xs ys : List Ask) (m : Mem) where
  pub both-refused : (z : Refusal) (v : List Float) (s : List (List ℕ)) (f : List (List Float)) → ValuedAs w s₀ f₀ (valued w d xs m) (Err z) v s f → ValuedAs w s₀ f₀ (valued w d (xs ++ ys) m) (Err z) v s f
  both-refused z v s f k = rw (valued_append w d xs ys m) (by (valued w d xs m) k)
    where
      by : (x : Res Mem) → ValuedAs w s₀ f₀ x (Err z) v s f → ValuedAs w s₀ f₀ (x >>= λ n. valued w d ys n) (Err z) v s f
      by (ok n) k = absurd k
      by (refused y) k = k

  -- what the asks have left
  pub record Left (v : List Float) (s : List (List ℕ)) (f : List (List Float)) (used : ℕ) : Type 0 where
    pub mem : Mem
    pub is : valued w d xs m ≡ ok mem
    pub holds : Holds w s₀ f₀ mem v s f used

  pub left_by : (used : ℕ) (v : List Float) (s : List (List ℕ)) (f : List (List Float)) → ValuedAs w s₀ f₀ (valued w d xs m) (Ok used) v s f → Left v s f used
  left_by used v s f k = by (valued w d xs m) refl k
    where
      by : (x : Res Mem) → valued w d xs m ≡ x → ValuedAs w s₀ f₀ x (Ok used) v s f → Left v s f used
      by (ok n) e k = record { mem = n; is = e; holds = k }
      by (refused y) e k = absurd k

  pub both-valued : {v : List Float} {s : List (List ℕ)} {f : List (List Float)} {used : ℕ} (l : Left v s f used) (r : Result ℕ Refusal) (v' : List Float) (s' : List (List ℕ)) (f' : List (List Float)) → ValuedAs w s₀ f₀ (valued w d ys l.mem) r v' s' f' → ValuedAs w s₀ f₀ (valued w d (xs ++ ys) m) r v' s' f'
  both-valued l r v' s' f' k = rw (valued_append w d xs ys m ∙ ap (λ (x : Res Mem). x >>= λ n. valued w d ys n) l.is) k
