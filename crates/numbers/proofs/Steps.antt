-- What `step` and `◌>>=◌` give.
use Rattle.std.proofs.Common.{◌≡◌, Bool, cond, refl, None, Some}
use lib.Ieee.{Float, nan, inf, fin}
use Rattle.laws.specs.Floats.{finite}
use Rattle.rules.specs.Number.{Step}
use Rattle.rules.specs.Number.{step, ◌>>=◌}

pub stepped : (x : Float) {b : Bool} → b ≡ finite x → cond b (Some x) None ≡ step x
unfolding finite step
stepped nan e = rw e
stepped (inf s) e = rw e
stepped (fin s m e) h = rw h

pub bound : {g : Step} {x : Float} (k : Float → Step) → g ≡ Some x → (g >>= k) ≡ k x
unfolding ◌>>=◌
bound k e = rw e

pub refused : {g : Step} (k : Float → Step) → g ≡ None → (g >>= k) ≡ None
unfolding ◌>>=◌
refused k e = rw e

pub assoc : (g : Step) (j k : Float → Step) → ((g >>= j) >>= k) ≡ (g >>= λ x. j x >>= k)
unfolding ◌>>=◌
assoc (Some x) j k = refl
assoc None j k = refl
