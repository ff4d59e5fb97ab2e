-- How steps go on from answers that are the same unless the first was refused.
use Prim.Native.Nat.{ℕ}
use mathlib.Core.Path.{refl, ap}
use mathlib.Core.Bool.{Bool, true, false}
use Rattle.rules.specs.Answer.{Res, ok, refused, ◌>>=◌}
use Rattle.rules.specs.declared.Refusal.{Refusal}
use Rattle.promises.specs.Unless.{Unless, refused_so, the_same}

module _ (short : ℕ → Refusal) {A : Type 0} where
  pub either : (t : Bool) {x y x' y' : Res A} → Unless short x x' → Unless short y y' → Unless short {A = A} (elim t [ true ↦ x | false ↦ y ]) (elim t [ true ↦ x' | false ↦ y' ])
  either true h g = h
  either false h g = g

  module _ {B : Type 0} where
    pub on : (x y : Res A) (f g : A → Res B) → Unless short x y → ((a : A) → Unless short (f a) (g a)) → Unless short (x >>= f) (y >>= g)
    on x y f g (refused_so p e) h = refused_so p (ap (λ (z : Res A). z >>= f) e)
    on (ok a) y f g (the_same e) h = rw e (h a)
    on (refused r) y f g (the_same e) h = rw e (the_same refl)

    -- after one step that is not in question
    pub after : (x : Res A) (f g : A → Res B) → ((a : A) → Unless short (f a) (g a)) → Unless short (x >>= f) (x >>= g)
    after x f g h = on x x f g (the_same refl) h

    -- before the same step
    pub before : (x y : Res A) (f : A → Res B) → Unless short x y → Unless short (x >>= f) (y >>= f)
    before x y f h = on x y f f h (λ a. the_same refl)
