-- The three ways that the test of a pool goes.
use Prim.Native.Nat.{ℕ}
use mathlib.Core.Path.{◌≡◌, refl, sym, ap, ◌∙◌}
use mathlib.Core.Bool.{Bool, true, false}
use mathlib.Core.List.{List}
use mathlib.Core.Option.{Option, none, some}
use Rattle.std.specs.Prelude.{Ok, Err}
use Rattle.laws.specs.Lists.{first, from}
use Rattle.rules.specs.Pool.{astray, seated, pool_bad}
use Rattle.pool.specs.declared.BadPool.{BadPool}
use Rattle.pool.specs.Pooled.{pooled_of}

module _ (rooms : List ℕ) (ss : List (List (List ℕ))) (p : ℕ) {t : Bool} (e : t ≡ seated ss p) where
  by-seat : (u : Bool) → t ≡ u → pool_bad rooms ss p ≡ elim u [ false ↦ some p | true ↦ first (astray rooms ss) (from 0 16) ]
  unfolding pool_bad
  by-seat u h = ap (λ (v : Bool). elim v [ false ↦ some p | true ↦ first (astray rooms ss) (from 0 16) ]) (sym e ∙ h)

  pub not-seated : t ≡ false → Err (record { place = p }) ≡ pooled_of (pool_bad rooms ss p)
  not-seated h = sym (ap pooled_of (by-seat false h))

  pub one-astray : {q : ℕ} → t ≡ true → first (astray rooms ss) (from 0 16) ≡ some q → Err (record { place = q }) ≡ pooled_of (pool_bad rooms ss p)
  one-astray h f = sym (ap pooled_of (by-seat true h ∙ f))

  pub none_astray : t ≡ true → first (astray rooms ss) (from 0 16) ≡ none → Ok tt ≡ pooled_of (pool_bad rooms ss p)
  none_astray h f = sym (ap pooled_of (by-seat true h ∙ f))

-- ---- and back: what the answer says of the test

pub was_refused : (o : Option ℕ) {e : BadPool} → Err e ≡ pooled_of o → o ≡ some e.place
was_refused none e = cc
was_refused (some y) e = cc

pub was_lent : (o : Option ℕ) → Ok tt ≡ pooled_of o → o ≡ none
was_lent none e = refl
was_lent (some y) e = cc
