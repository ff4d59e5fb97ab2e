-- What the columns hold, carried over a step: a value that is set, source rows of one row that arise, another memory.
use Rattle.std.specs.Prelude.{Result, Ok, Err}
use Prim.Native.Nat.{ℕ, ◌≤◌, ◌<◌}
use native.Mathlib.Omega.{arith}
use mathlib.Core.Path.{◌≡◌, refl, sym, ap, subst, ◌∙◌}
use mathlib.Core.Bool.{Bool, true, false}
use mathlib.Core.List.{List, []}
use mathlib.Core.Logic.{◌⊎◌, inl, inr}
use mathlib.Core.Option
use mathlib.Core.Option.{Option, none, some}
use borrow.Author.Tests.{eqb-true, eqb-false}
use lib.Dec.{T, eqb}
use lib.Ieee.{Float}
use lib.ListN.{length, get_or, set, length-set}
use lib.Seq.{get_or-set_other, get_or-set_same}
use Rattle.laws.specs.Floats.{finite}
use Rattle.laws.proofs.Bools.{true_or_false}
use Rattle.rules.specs.Answer.{Res, ok, refused}
use Rattle.rules.specs.Columns.{source_numbers, source_floats}
use Rattle.rules.specs.Value.{World, Mem, Read, own_sources, set_value}
use Rattle.rules.specs.declared.Refusal.{Refusal}
use Rattle.rules.specs.declared.Source.{Source}
use Rattle.sources.specs.declared.Recording.{Recording}
use Rattle.sources.specs.Planned.{counts_of}
use Rattle.sources.specs.Keeping.{Keeping}
use Rattle.sources.proofs.Planning.{some_none}
use Rattle.sources.proofs.Showing.{shown_length}
use Rattle.memory.specs.Memory.{value_at, value_column, AllFinite}
use Rattle.memory.specs.Holding.{Tables, Tells, Holds, Ready}
use Rattle.memory.proofs.Nanned.{set_shown}
use Rattle.memory.proofs.Nanned.{shown_length as shown-long}
use Rattle.memory.specs.Answers.{Returns}
use Rattle.memory.specs.declared.apply.Got.{Got}

-- what is kept says as much of every row
pub keeping_any : {counts : List ℕ} {room : ℕ} {s₀ : List (List ℕ)} {f₀ : List (List Float)} {i : ℕ} {m : Mem} {s : List (List ℕ)} {f : List (List Float)} {own used : ℕ}
    → Keeping counts room s₀ f₀ i m s f own used → (j : ℕ) → Keeping counts room s₀ f₀ j m s f (length (own_sources j m)) used
keeping_any k j = record { numbers = k.numbers; floats = k.floats; mine = refl; all = k.all; long = k.long; fits = k.fits; few = k.few; inside = k.inside }

-- and nothing of the values
pub keeping_value : {counts : List ℕ} {room : ℕ} {s₀ : List (List ℕ)} {f₀ : List (List Float)} {i : ℕ} {m : Mem} {s : List (List ℕ)} {f : List (List Float)} {own used : ℕ} (j : ℕ) (x : Float)
    → Keeping counts room s₀ f₀ i m s f own used → Keeping counts room s₀ f₀ i (set_value j x m) s f own used
keeping_value j x k = record { numbers = k.numbers; floats = k.floats; mine = k.mine; all = k.all; long = k.long; fits = k.fits; few = k.few; inside = k.inside }

pub some_same : {x y : Float} → some x ≡ some y → x ≡ y
some_same {x} e = ap (λ (o : Option Float). Option.get_or o x) e

module _ {w : World} {s₀ : List (List ℕ)} {f₀ : List (List Float)} {m : Mem} {v : List Float} {s : List (List ℕ)} {f : List (List Float)} {used : ℕ} (H : Holds w s₀ f₀ m v s f used) where
  pub value_long : length v ≡ length w.rows
  value_long = ap length H.values ∙ shown-long m.values ∙ H.long

  -- row i gets a value
  module _ (i : ℕ) (x : Float) (t : i < length w.rows) (good : T (finite x)) where
    inside : i < length m.values
    inside = omega (arith, t, H.long)

    set-finite : AllFinite (set m.values i (some x))
    set-finite j y e = elim (true_or_false (eqb j i)) [
      | inl h ↦ subst (λ (z : Float). T (finite z)) (some_same (sym (get_or-set_same m.values i (some x) none inside) ∙ ap (λ (n : ℕ). get_or (set m.values i (some x)) n none) (sym (eqb-true j i h)) ∙ e)) good
      | inr h ↦ H.numbers j y (sym (get_or-set_other m.values i j (some x) none (eqb-false j i h)) ∙ e)
    ]

    pub set_clean : (j : ℕ) → get_or (set m.values i (some x)) j none ≡ none → own_sources j m ≡ []
    set_clean j e = elim (true_or_false (eqb j i)) [
      | inl h ↦ absurd (some_none (sym (get_or-set_same m.values i (some x) none inside) ∙ ap (λ (n : ℕ). get_or (set m.values i (some x)) n none) (sym (eqb-true j i h)) ∙ e))
      | inr h ↦ H.clean j (sym (get_or-set_other m.values i j (some x) none (eqb-false j i h)) ∙ e)
    ]

    pub set_holds : Holds w s₀ f₀ (set_value i x m) (set v i x) s f used
    set_holds =
        record {
          values = ap (λ (l : List Float). set l i x) H.values ∙ sym (set_shown m.values i x);
          long = length-set m.values i (some x) ∙ H.long;
          numbers = set-finite;
          sources = λ j. keeping_value i x (H.sources j);
          clean = set_clean;
        }

  -- source rows of row i, which has a value
  pub noted_holds : (i : ℕ) {b : Float} → value_at m i ≡ some b → (n : Mem) → n.values ≡ m.values → ((j : ℕ) → (j ≡ i → ⊥) → own_sources j n ≡ own_sources j m)
      → {s' : List (List ℕ)} {f' : List (List Float)} {own more : ℕ} → Keeping (counts_of w) w.room s₀ f₀ i n s' f' own more → Holds w s₀ f₀ n v s' f' more
  noted_holds i has n same other k =
      record {
        values = H.values ∙ ap value_column (sym same);
        long = ap length same ∙ H.long;
        numbers = λ j y e. H.numbers j y (ap (λ (l : List (Option Float)). get_or l j none) (sym same) ∙ e);
        sources = λ j. keeping_any k j;
        clean = λ j e. other j (λ p. some_none (sym has ∙ sym (ap (value_at m) p) ∙ ap (λ (l : List (Option Float)). get_or l j none) (sym same) ∙ e))
            ∙ H.clean j (ap (λ (l : List (Option Float)). get_or l j none) (sym same) ∙ e);
      }

  -- the room of list 5 is there
  pub sources_long : w.room ≤ length s₀ → w.room ≤ length s
  sources_long t = omega (arith, t, ap length (H.sources 0).numbers ∙ shown_length source_numbers w.room (counts_of w) m.sources s₀)

  pub floats_long : w.room ≤ length f₀ → w.room ≤ length f
  floats_long t = omega (arith, t, ap length (H.sources 0).floats ∙ shown_length source_floats w.room (counts_of w) m.sources f₀)

-- the same world with another memory
abbrev pub ready_on : {t : Tables} {run : Recording} {v : List Float} {s : List (List ℕ)} {f : List (List Float)} {used : ℕ} (h : Ready t run v s f used) (m : Mem) {v' : List Float} {s' : List (List ℕ)} {f' : List (List Float)} {more : ℕ}
    → Holds h.world h.sources₀ h.floats₀ m v' s' f' more → Ready t run v' s' f' more
ready_on h m k = record { world = h.world; mem = m; sources₀ = h.sources₀; floats₀ = h.floats₀; told = h.told; holds = k }

-- ---- answers

-- an answer with a value
pub record Met (w : World) (s₀ : List (List ℕ)) (f₀ : List (List Float)) (x : Res Read) (y : Float) (v : List Float) (s : List (List ℕ)) (f : List (List Float)) (used : ℕ) : Type 0 where
  pub read : Read
  pub is : x ≡ ok read
  pub value : y ≡ read.value
  pub number : T (finite y)
  pub holds : Holds w s₀ f₀ read.mem v s f used

module _ (w : World) (s₀ : List (List ℕ)) (f₀ : List (List Float)) (v : List Float) (s : List (List ℕ)) (f : List (List Float)) where
  unfoldable pub met : (x : Res Read) (y : Float) (used : ℕ) → Returns w s₀ f₀ x (Ok (record { value = y; used = used })) v s f → Met w s₀ f₀ x y v s f used
  met (ok q) y used h = record { read = q; is = refl; value = h.0; number = h.1; holds = h.2 }
  met (refused z) y used h = absurd h

  pub missed : (x : Res Read) (z : Refusal) → Returns w s₀ f₀ x (Err z) v s f → x ≡ refused z
  missed (ok q) z h = absurd h
  missed (refused y) z h = ap refused (sym h)

  pub meets-value : (x : Res Read) (q : Read) {y : Float} {used : ℕ} → x ≡ ok q → y ≡ q.value → T (finite y) → Holds w s₀ f₀ q.mem v s f used → Returns w s₀ f₀ x (Ok (record { value = y; used = used })) v s f
  meets-value x q e a b h = rw e (a, b, h)

  pub meets-refused : (x : Res Read) {z : Refusal} → x ≡ refused z → Returns w s₀ f₀ x (Err z) v s f
  meets-refused x e = rw e refl

  pub meets_same : (x y : Res Read) (r : Result Got Refusal) → x ≡ y → Returns w s₀ f₀ y r v s f → Returns w s₀ f₀ x r v s f
  meets_same x y r e h = rw e h

-- after an answer with a value
module _ {t : Tables} {run : Recording} {v : List Float} {s : List (List ℕ)} {f : List (List Float)} {used : ℕ} (h : Ready t run v s f used) (x : Res Read) (y : Float) (more : ℕ) (v' : List Float) (s' : List (List ℕ)) (f' : List (List Float)) (k : Returns h.world h.sources₀ h.floats₀ x (Ok (record { value = y; used = more })) v' s' f') where
  abbrev pub goes_on_from : Ready t run v' s' f' more
  goes_on_from = ready_on h (met h.world h.sources₀ h.floats₀ v' s' f' x y more k).read.mem (met h.world h.sources₀ h.floats₀ v' s' f' x y more k).holds

  pub number_of : T (finite y)
  number_of = (met h.world h.sources₀ h.floats₀ v' s' f' x y more k).number
