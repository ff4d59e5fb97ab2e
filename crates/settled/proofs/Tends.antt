-- Two calculations side by side: where the first is done, the second is done too, and what they give is related, or it is refused
-- for want of depth or room.
use Rattle.std.specs.Prelude.{None, Some}
use Prim.Native.Nat.{ℕ}
use mathlib.Core.Path.{◌≡◌, refl, subst}
use lib.Ieee.{Float}
use Rattle.rules.specs.Answer.{Res, ok, refused, ◌>>=◌}
use Rattle.rules.specs.Number.{number_at}
use Rattle.rules.specs.declared.Refusal.{Refusal}
use Rattle.rules.specs.Number.{Step}

-- wanted is what the second may be refused for
pub data Tends (Wanted : Refusal → Type 0) {A B : Type 0} (R : A → B → Type 0) : Res A → Res B → Type 0 where
  stops : {x : Refusal} {y : Res B} → Tends Wanted R (refused x) y
  tends : {a : A} {b : B} → R a b → Tends Wanted R (ok a) (ok b)
  short : {x : Res A} {y : Refusal} → Wanted y → Tends Wanted R x (refused y)

module _ {Wanted : Refusal → Type 0} {A B C D : Type 0} {R : A → B → Type 0} {S : C → D → Type 0} where
  -- one step more on both sides
  pub on : {x : Res A} {y : Res B} (f : A → Res C) (g : B → Res D) → Tends Wanted R x y → ((a : A) (b : B) → R a b → Tends Wanted S (f a) (g b)) → Tends Wanted S (x >>= f) (y >>= g)
  on f g stops h = stops
  on f g (tends {a = a} {b = b} r) h = h a b r
  on f g (short s) h = short s

-- one step more that only the second takes
pub on_second : {Wanted : Refusal → Type 0} {A B D : Type 0} {R : A → B → Type 0} {S : A → D → Type 0} {x : Res A} {y : Res B} (g : B → Res D) → Tends Wanted R x y → ((a : A) (b : B) → R a b → Tends Wanted S (ok a) (g b)) → Tends Wanted S x (y >>= g)
on_second g stops h = stops
on_second g (tends {a = a} {b = b} r) h = h a b r
on_second g (short s) h = short s

-- what follows from the relation
pub weaker : {Wanted : Refusal → Type 0} {A B : Type 0} {R S : A → B → Type 0} {x : Res A} {y : Res B} → Tends Wanted R x y → ((a : A) (b : B) → R a b → S a b) → Tends Wanted S x y
weaker stops h = stops
weaker (tends {a = a} {b = b} r) h = tends (h a b r)
weaker (short s) h = short s

-- the same float step
pub number_tends : {Wanted : Refusal → Type 0} (o : ℕ) (s t : Step) → s ≡ t → Tends Wanted (λ (x y : Float). x ≡ y) (number_at o s) (number_at o t)
unfolding number_at
number_tends {Wanted = Wanted} o s t e = subst (λ (u : Step). Tends Wanted (λ (x y : Float). x ≡ y) (number_at o s) (number_at o u)) e (same s)
  where
    same : (s : Step) → Tends Wanted (λ (x y : Float). x ≡ y) (number_at o s) (number_at o s)
    same (Some x) = tends refl
    same None = stops

-- the first is done: the second is related, or short
pub rests : {Wanted : Refusal → Type 0} {A B C : Type 0} {R : A → B → Type 0} {S : C → B → Type 0} (x : Res A) (a : A) (c : C) (y : Res B) → x ≡ ok a → Tends Wanted R x y → ((b : B) → R a b → S c b) → Tends Wanted S (ok c) y
rests {Wanted = Wanted} {B = B} {R = R} {S = S} x a c y e t h = by y (subst (λ z. Tends Wanted R z y) e t)
  where
    by : (y : Res B) → Tends Wanted R (ok a) y → Tends Wanted S (ok c) y
    by y (tends r) = tends (h _ r)
    by y (short s) = short s
