-- What a given value says of its parts, and what makes one.
use Rattle.std.specs.Prelude.{None, Some}
use Prim.Native.Nat.{ℕ}
use mathlib.Core.Path.{◌≡◌, refl, sym, ap, subst, ◌∙◌}
use mathlib.Core.Bool.{Bool, true, false}
use mathlib.Core.List.{List, [], ◌∷◌}
use mathlib.Core.Option.{Option}
use lib.Ieee.{Float}
use lib.IntN.{ℤ}
use Rattle.laws.proofs.Bools.{both_ways}
use Rattle.rules.specs.Answer.{Res, ok, refused, ◌>>=◌}
use Rattle.rules.specs.Dispatch.{Row}
use Rattle.rules.specs.Item.{runs_at}
use Rattle.rules.specs.Number.{times, number_at}
use Rattle.rules.specs.Outcome.{blank}
use Rattle.rules.specs.Value.{World, Mem, Read, Reader, state_of, resisted, calculate}
use Rattle.rules.specs.Fresh.{unrecorded, forgetful}
use Rattle.rules.specs.declared.Effect.{Effect}
use Rattle.rules.specs.declared.Origin.{Origin}
use Rattle.rules.specs.declared.Origin.TheVariants as origin
use Rattle.rules.specs.Ids.{OptionalId}
use Rattle.rules.proofs.Results.{then, got}
use Rattle.settled.specs.Given.{listed_reader, idle, idles, where_recorded, given}

-- ---- a reader that keeps nothing finds the same strengths whatever the memory

module _ (w : World) (look : ℕ → ℤ → Res Float) (i : ℕ) (row : Row) where
  abbrev reads : Reader
  reads = forgetful look

  resisted_any : (x : OptionalId) (v : Float) (m n : Mem)
      → ◌≡◌ {A = Res (Unit {0})} (resisted w i row reads x (record { value = v; mem = m }) >>= λ s. ok tt) (resisted w i row reads x (record { value = v; mem = n }) >>= λ s. ok tt)
  unfolding resisted
  resisted_any None v m n = refl
  resisted_any (Some a) v m n = by (look 0 a)
    where
      held : (y : Res Float) → ◌≡◌ {A = Res (Unit {0})} ((y >>= λ z. ok (record { value = z; mem = m })) >>= λ (s : Read). ok tt) ((y >>= λ z. ok (record { value = z; mem = n })) >>= λ (s : Read). ok tt)
      held (ok z) = refl
      held (refused y) = refl

      by : (x : Res Float)
          → ◌≡◌ {A = Res (Unit {0})} (((x >>= λ u. ok (record { value = u; mem = m })) >>= λ (q : Read). number_at row.object (times v q.value) >>= λ z. ok (record { value = z; mem = q.mem })) >>= λ (s : Read). ok tt)
          (((x >>= λ u. ok (record { value = u; mem = n })) >>= λ (q : Read). number_at row.object (times v q.value) >>= λ z. ok (record { value = z; mem = q.mem })) >>= λ (s : Read). ok tt)
      by (ok u) = held (number_at row.object (times v u))
      by (refused y) = refl

  idle_any : (e : Effect) (o : Origin) (m n : Mem) → idle w reads i row e o m ≡ idle w reads i row e o n
  unfolding idle
  idle_any e (origin.Buff b v) m n = refl
  idle_any e (origin.Effect f source c a) m n = by (runs_at c (state_of w source)) (look source a)
    where
      by : (t : Bool) (x : Res Float)
          → ◌≡◌ {A = Res (Unit {0})} (elim t [ true ↦ ok tt | false ↦ ((x >>= λ u. ok (record { value = u; mem = m })) >>= λ r. resisted w i row reads e.resistance r >>= λ s. ok tt) ])
          (elim t [ true ↦ ok tt | false ↦ ((x >>= λ u. ok (record { value = u; mem = n })) >>= λ r. resisted w i row reads e.resistance r >>= λ s. ok tt) ])
      by true x = refl
      by false (ok u) = resisted_any e.resistance u m n
      by false (refused y) = refl

  pub idles_any : (es : List Effect) (m n : Mem) → idles w reads i row es m ≡ idles w reads i row es n
  unfolding idles
  idles_any [] m n = refl
  idles_any (e ∷ es) m n =
      ap (λ (x : Res (Unit {0})). x >>= λ t. idles w reads i row es m) (idle_any e e.origin m n)
      ∙ ap (λ (y : Res (Unit {0})). idle w reads i row e e.origin n >>= λ t. y) (idles_any es m n)

-- ---- the parts

module _ (w : World) (vs : List (Option Float)) (i : ℕ) (row : Row) where
  abbrev looks : Reader
  looks = forgetful (listed_reader w vs)

  pub record Parts (x : Float) : Type 0 where
    pub read : Read
    pub first : calculate (unrecorded w) (forgetful (listed_reader w vs)) i row (blank w.rows) ≡ ok read
    pub value : read.value ≡ x
    pub quiet : w.recording ≡ true → (m : Mem) → idles (unrecorded w) (forgetful (listed_reader w vs)) i row row.entries m ≡ ok tt

  pub parts : (x : Float) → given w vs i row ≡ ok x → Parts x
  unfolding given
  parts x e =
      let p = then (calculate (unrecorded w) looks i row (blank w.rows)) _ x e in
      let q = then (where_recorded w.recording (idles (unrecorded w) looks i row row.entries (blank w.rows))) _ x p.rest in
      record { read = p.given; first = p.first; value = got q.rest; quiet = λ t m. idles_any (unrecorded w) (listed_reader w vs) i row row.entries m (blank w.rows) ∙ by w.recording t q.first }
    where
      by : {y : Res (Unit {0})} (t : Bool) → t ≡ true → {u : Unit {0}} → where_recorded t y ≡ ok u → y ≡ ok tt
      by true r h = h
      by false r h = both_ways r refl

  -- and they make it
  pub given_of : (x : Float) → Parts x → given w vs i row ≡ ok x
  unfolding given
  given_of x p = rw p.first (rw (by w.recording p.quiet) (ap ok p.value))
    where
      by : (t : Bool) → (t ≡ true → (m : Mem) → idles (unrecorded w) looks i row row.entries m ≡ ok tt) → where_recorded t (idles (unrecorded w) looks i row row.entries (blank w.rows)) ≡ ok tt
      by false h = refl
      by true h = h refl (blank w.rows)
