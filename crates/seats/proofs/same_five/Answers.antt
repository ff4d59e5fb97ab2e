-- `seats::same_five` meets its contract.
use Rattle.seats.proofs.same_five.Goals as goal
use mathlib.Core.Path.{◌≡◌, refl}
use mathlib.Core.Bool.{Bool, true, false, ◌&&◌}

four : (a b c d : Bool) → ((a && b) && c) && d ≡ a && (b && (c && (d && true)))
four false b c d = refl
four true false c d = refl
four true true false d = refl
four true true true false = refl
four true true true true = refl

all-four : {a b c d a' b' c' d' : Bool} → a ≡ a' → b ≡ b' → c ≡ c' → d ≡ d' → ((a && b) && c) && d ≡ a' && (b' && (c' && (d' && true)))
all-four {a' = a} {b' = b} {c' = c} {d' = d} p q r s = rw (p, q, r, s) (four a b c d)

pub returns : goal.returns
returns c = record { defined = all-four c.same_pair.ensures.defined c.same_pair-2.ensures.defined c.same_pair-3.ensures.defined c.same_pair-4.ensures.defined }
