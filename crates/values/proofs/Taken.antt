-- Of a sound sheet every collected effect may be an entry: its source is an object, its ids have 32 bits, and what a buff gives is finite.
use Prim.Native.Nat.{ℕ, ◌<◌, ◌≤◌}
use native.Mathlib.Omega.{arith}
use mathlib.Core.Path.{◌≡◌, sym, ap, subst, ◌∙◌}
use mathlib.Core.Bool.{true}
use mathlib.Core.List.{List}
use lib.Dec.{T}
use lib.ListN.{length, get_or}
use Rattle.laws.specs.Floats.{finite, zero_f}
use Rattle.laws.proofs.Every.{every_at}
use Rattle.rules.specs.Sheet.{Book, Fit, book_of, fit_of}
use Rattle.rules.specs.Shape.{buffs_good}
use Rattle.rules.specs.Collect.{taken_of, moves}
use Rattle.rules.specs.Outcome.{collected_in}
use Rattle.rules.specs.Columns.{origin_numbers, origin_value}
use Rattle.rules.specs.declared.DogmaModifier.{DogmaModifier}
use Rattle.rules.specs.declared.Origin.{Origin}
use Rattle.rules.specs.declared.Origin.TheVariants as origin
use Rattle.rules.specs.declared.Pass2Effect.{Pass2Effect}
use Rattle.rules.specs.declared.ProjectedBuff.{ProjectedBuff}
use Rattle.rules.proofs.Verdicts.{buffs_good_lem}
use Rattle.info.specs.Sound.{SoundFit}
use Rattle.info.proofs.Elements.{objects_length}
use Rattle.info.proofs.Rows.{source_at}
use Rattle.modifier.specs.Causes.{Cause}
use Rattle.modifier.specs.Causes as cause
use Rattle.collect.specs.Bounded as bounded
use Rattle.collect.specs.Takes.{Member, Caused, Collects, origin_of}
use Rattle.collect.proofs.Taking.{each_at}
use Rattle.collect.proofs.Comes.{each_collects}
use Rattle.collect.proofs.Bounds.{bounded_at}
use Rattle.reading.specs.Held.{Sourced}
use Rattle.values.specs.SoundRows.{AllAre, Fair}
use Rattle.values.proofs.All.{all-by}

-- a sound fit has at most 1,024 objects
pub few_objects : (b : List ℕ) (pairs : List (List ℕ)) → SoundFit b pairs → length (fit_of b pairs).objects ≤ 1024
few_objects b pairs s = omega (arith, objects_length b pairs, s.held.objects.few)

source_few : (n : ℕ) (g : Origin) → n ≤ 1024 → get_or (origin_numbers g) 2 0 < n → Sourced g
source_few n (origin.Effect e o c a) l h = omega arith
source_few n (origin.Buff b v) l h = tt

-- ---- what a buff gives

finite-at : (f : Fit) → buffs_good f ≡ true → (b : ProjectedBuff) → Member f.buffs b → finite b.value ≡ true
unfolding buffs_good
finite-at f e b m = ap (λ (x : ProjectedBuff). finite x.value) (m.is b) ∙ every_at (λ (r : ProjectedBuff). finite r.value) f.buffs m.at b e m.inside

zero-finite : T (finite zero_f)
unfolding finite
zero-finite = tt

module _ (k : Book) (f : Fit) (e : buffs_good f ≡ true) where
  cause_finite : (m : DogmaModifier) (c : Cause) → Caused k f c → T (finite (origin_value (origin_of c m)))
  cause_finite m (cause.own w x c) h = zero-finite
  cause_finite m (cause.projected w x c r) h = zero-finite
  cause_finite m (cause.buff b o) h = subst T (sym (finite-at f e b h)) tt

  collects_finite : (t : Pass2Effect) → Collects k f t → T (finite (origin_value t.origin))
  collects_finite t h = subst (λ (g : Origin). T (finite (origin_value g))) (sym h.of.origin) (cause_finite h.modifier h.cause h.caused)

-- ---- all

module _ (book fit : List ℕ) (pairs : List (List ℕ)) (s : SoundFit fit pairs) where
  abbrev k : Book
  k = book_of book pairs

  abbrev f : Fit
  f = fit_of fit pairs

  fair : (t : Pass2Effect) → bounded.Bounded (length f.objects) t → Collects k f t → Fair t
  fair t b c =
      record {
        attribute = b.attribute;
        origin = b.origin;
        resistance = b.resistance;
        sourced = source_few (length f.objects) t.origin (few_objects fit pairs s) (rw (source_at t) at b.pointing.source);
        valued = collects_finite k f (buffs_good_lem f s.good) t c;
      }

  pub collected_fair : AllAre Fair (collected_in (book_of book pairs) (fit_of fit pairs))
  unfolding collected_in
  collected_fair =
      all-by Fair (taken_of (moves k f)) (λ i d h. fair (get_or (taken_of (moves k f)) i d) (bounded_at book fit pairs s i d h) (each_at (Collects k f) (moves k f) (each_collects k f) i d h))
