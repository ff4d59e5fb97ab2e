-- Steps that may be refused: what one that went well says of its parts.
use mathlib.Core.Path.{◌≡◌, refl, ap, subst}
use Rattle.rules.specs.Answer.{Res, ok, refused, ◌>>=◌}
use Rattle.rules.specs.declared.Refusal.{Refusal}

-- a refusal is no answer
pub apart : {A : Type 0} {y : Refusal} {a : A} → ◌≡◌ {A = Res A} (refused y) (ok a) → ⊥
apart {A} e = subst Refusing e tt
  where
    Refusing : Res A → Type 0
    Refusing (ok z) = ⊥
    Refusing (refused z) = Unit {0}

pub got : {A : Type 0} {a b : A} → ◌≡◌ {A = Res A} (ok a) (ok b) → a ≡ b
got {A} {a} {b} e = ap (or a) e
  where
    or : A → Res A → A
    or d (ok x) = x
    or d (refused y) = d

-- a step that went well after another
pub record Then {A B : Type 0} (x : Res A) (f : A → Res B) (b : B) : Type 0 where
  pub given : A
  pub first : x ≡ ok given
  pub rest : f given ≡ ok b

pub then : {A B : Type 0} (x : Res A) (f : A → Res B) (b : B) → (x >>= f) ≡ ok b → Then x f b
then (ok a) f b e = record { given = a; first = refl; rest = e }
then (refused y) f b e = absurd (apart e)

-- steps that go on alike
pub bind_same : {A B : Type 0} (x : Res A) (f g : A → Res B) → ((a : A) → f a ≡ g a) → (x >>= f) ≡ (x >>= g)
bind_same (ok a) f g h = h a
bind_same (refused y) f g h = refl
