-- Two calculations side by side: where the first is done, the second is done too, and what they give is related.
use Rattle.std.specs.Prelude.{None, Some}
use mathlib.Core.Path.{◌≡◌, refl, subst}
use Prim.Native.Nat.{ℕ}
use lib.Ieee.{Float}
use Rattle.rules.specs.Answer.{Res, ok, refused, ◌>>=◌}
use Rattle.rules.specs.Number.{number_at}
use Rattle.rules.specs.declared.Refusal.{Refusal}
use Rattle.rules.specs.Number.{Step}

pub data Goes {A B : Type 0} (R : A → B → Type 0) : Res A → Res B → Type 0 where
  stops : {x : Refusal} {y : Res B} → Goes R (refused x) y
  goes : {a : A} {b : B} → R a b → Goes R (ok a) (ok b)

module _ {A B C D : Type 0} {R : A → B → Type 0} {S : C → D → Type 0} where
  -- one step more on both sides
  pub on : {x : Res A} {y : Res B} (f : A → Res C) (g : B → Res D) → Goes R x y → ((a : A) (b : B) → R a b → Goes S (f a) (g b)) → Goes S (x >>= f) (y >>= g)
  on f g stops h = stops
  on f g (goes {a = a} {b = b} r) h = h a b r

  -- one step more that only the first takes
  pub on_first_lem : {x : Res A} {y : Res B} (f : A → Res C) (z : Res D) → Goes R x y → ((a : A) (b : B) → R a b → Goes S (f a) z) → Goes S (x >>= f) z
  on_first_lem f z stops h = stops
  on_first_lem f z (goes {a = a} {b = b} r) h = h a b r

-- one step more that only the second takes
pub on_second : {A B D : Type 0} {R : A → B → Type 0} {S : A → D → Type 0} {x : Res A} {y : Res B} (g : B → Res D) → Goes R x y → ((a : A) (b : B) → R a b → Goes S (ok a) (g b)) → Goes S x (y >>= g)
on_second g stops h = stops
on_second g (goes {a = a} {b = b} r) h = h a b r

-- what the second gives
pub told : {A B : Type 0} {R : A → B → Type 0} {x : Res A} {y : Res B} → Goes R x y → Goes (λ a b. R a b × (y ≡ ok b)) x y
told stops = stops
told (goes r) = goes (r, refl)

-- and the first
pub told-first : {A B : Type 0} {R : A → B → Type 0} {x : Res A} {y : Res B} → Goes R x y → Goes (λ a b. R a b × (x ≡ ok a)) x y
told-first stops = stops
told-first (goes r) = goes (r, refl)

-- what follows from the relation
pub weaker : {A B : Type 0} {R S : A → B → Type 0} {x : Res A} {y : Res B} → Goes R x y → ((a : A) (b : B) → R a b → S a b) → Goes S x y
weaker stops h = stops
weaker (goes {a = a} {b = b} r) h = goes (h a b r)

-- the first is done: what the second gives
pub record Second {A B : Type 0} (R : A → B → Type 0) (a : A) (y : Res B) : Type 0 where
  pub given : B
  pub is : y ≡ ok given
  pub related : R a given

pub second : {A B : Type 0} {R : A → B → Type 0} {x : Res A} {y : Res B} {a : A} → Goes R x y → x ≡ ok a → Second R a y
second {A = A} {B = B} {R = R} {y = y} {a = a} g e = by y (subst (λ (z : Res A). Goes R z y) e g)
  where
    by : (z : Res B) → Goes R (ok a) z → Second R a z
    by z (goes {b = b} r) = record { given = b; is = refl; related = r }

-- the same float step
pub number_goes : (o : ℕ) (s t : Step) → s ≡ t → Goes (λ (x y : Float). x ≡ y) (number_at o s) (number_at o t)
unfolding number_at
number_goes o s t e = subst (λ (u : Step). Goes (λ (x y : Float). x ≡ y) (number_at o s) (number_at o u)) e (same s)
  where
    same : (s : Step) → Goes (λ (x y : Float). x ≡ y) (number_at o s) (number_at o s)
    same (Some x) = goes refl
    same None = stops
