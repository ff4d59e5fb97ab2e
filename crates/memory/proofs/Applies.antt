-- An operator is applied: the value, or the refusal, and the penalties of both signs one after the other.
use Rattle.std.specs.Prelude.{None, Some, Ok, Err}
use Prim.Native.Nat.{ℕ, ◌<◌}
use mathlib.Core.Path.{◌≡◌, refl, sym, ap, subst, ◌∙◌}
use mathlib.Core.Bool.{Bool, true, false}
use mathlib.Core.List.{List, [], ◌++◌}
use lib.Dec.{T}
use lib.Ieee.{Float}
use lib.ListN.{length, get_or, set}
use lib.Seq.{get_or-set_same, set-set}
use Rattle.laws.specs.Floats.{finite}
use Rattle.rules.specs.Answer.{Res, ok, refused, ◌>>=◌}
use Rattle.rules.specs.Dispatch.{Row}
use Rattle.rules.specs.Number.{number_at}
use Rattle.rules.specs.Operate.{Copy, sorted, applied}
use Rattle.rules.specs.Value.{Mem, Gathered, own_sources, with_own, marked, marked_by}
use Rattle.rules.specs.declared.EffectOperator.{EffectOperator}
use Rattle.rules.specs.declared.Refusal.TheVariants.{Number}
use Rattle.rules.specs.declared.Source.{Source}
use Rattle.sources.specs.Keeping.{Keeping}
use Rattle.sources.specs.Marks.{Fresh}
use Rattle.sources.proofs.Marking.{left_fresh, marked-fresh, marked_none}
use Rattle.memory.specs.Answers.{AppliedAs, applying}

module _ (counts : List ℕ) (room : ℕ) (s₀ : List (List ℕ)) (f₀ : List (List Float)) (i : ℕ) (row : Row) (high : Bool) (op : EffectOperator) (found : Float) (g : Gathered) (s : List (List ℕ)) (f : List (List Float)) where
  pub goes : {v : Float} {own used : ℕ} → applied high op found g.values ≡ Some v → T (finite v) → Keeping counts room s₀ f₀ i (marked_by i g) s f own used
      → AppliedAs counts room s₀ f₀ i (applying row high op found i g) (Ok (record { value = v; counts = record { own = own; used = used } })) s f
  unfolding applying number_at
  goes e h k = rw e (refl, h, k)

  pub stops : {object : ℕ} → applied high op found g.values ≡ None → row.object ≡ object
      → AppliedAs counts room s₀ f₀ i (applying row high op found i g) (Err (Number object)) s f
  unfolding applying number_at
  stops e h = rw e (ap Number (sym h))

-- the source rows of row i after the positive copies
module _ (i : ℕ) (m : Mem) (own : List Source) (there : i < length m.sources) where
  pub own_there : own_sources i (with_own i own m) ≡ own
  own_there = get_or-set_same m.sources i own [] there

  marked-twice : (xs : List Copy) → with_own i (marked 0 xs (own_sources i (with_own i own m))) (with_own i own m) ≡ with_own i (marked 0 xs own) m
  marked-twice xs =
      ap (λ (q : List Source). with_own i (marked 0 xs q) (with_own i own m)) own_there
      ∙ ap (λ (l : List (List Source)). record { values = m.values; sources = l; used = m.used }) (set-set m.sources i own (marked 0 xs own))

  pub kept_twice : {counts : List ℕ} {room : ℕ} {s₀ : List (List ℕ)} {f₀ : List (List Float)} {s : List (List ℕ)} {f : List (List Float)} {a b : ℕ} (xs : List Copy)
      → Keeping counts room s₀ f₀ i (with_own i (marked 0 xs (own_sources i (with_own i own m))) (with_own i own m)) s f a b → Keeping counts room s₀ f₀ i (with_own i (marked 0 xs own) m) s f a b
  kept_twice {counts} {room} {s₀} {f₀} {s} {f} {a} {b} xs k = subst (λ (n : Mem). Keeping counts room s₀ f₀ i n s f a b) (marked-twice xs) k

  pub fresh_there : {xs : List Copy} → Fresh own xs → Fresh (own_sources i (with_own i own m)) xs
  fresh_there {xs} h = subst (λ (q : List Source). Fresh q xs) (sym own_there) h

pub none_marked : (p : List Copy) {own : List Source} → own ≡ [] → marked 0 p own ≡ []
none_marked p e = rw e (marked_none 0 p)
