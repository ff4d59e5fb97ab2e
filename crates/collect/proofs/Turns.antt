-- Parts of the moves one after another, over columns that stay as long.
use mathlib.Core.Path.{◌≡◌, sym, ap, ◌∙◌}
use mathlib.Core.List.{List, ◌++◌}
use Rattle.rules.specs.Collect.{Move}
use Rattle.rules.specs.declared.Refusal.{Refusal}
use Rattle.modifier.specs.declared.moves.CollectedRooms.{CollectedRooms}
use Prim.Native.Nat.{ℕ}
use lib.Ieee.{Float}
use lib.ListN.{length}
use Rattle.modifier.specs.Ran.{Stand, stop, ran, AllLent}
use Rattle.modifier.proofs.Runs.{ran_append, ran-stop}
use Rattle.modifier.proofs.Loops.{lent_kept}

-- one part, and then the other; or a refusal in the first
module _ (q : CollectedRooms) (xs ys : List Move) (s : Stand) where
  pub in_turn : (t u : Stand) → t ≡ ran q xs s → u ≡ ran q ys t → u ≡ ran q (xs ++ ys) s
  in_turn t u e g = g ∙ ap (ran q ys) e ∙ sym (ran_append q xs ys s)

  pub stopped_first : (x : Refusal) → stop x ≡ ran q xs s → stop x ≡ ran q (xs ++ ys) s
  stopped_first x e = sym (ran_append q xs ys s ∙ ap (ran q ys) (sym e) ∙ ran-stop q ys x)

pub all_lent_kept : {q : CollectedRooms} {c c' : List (List ℕ)} {v v' : List Float} {l l' : List (List ℕ)} → AllLent q c v l → length c' ≡ length c → length v' ≡ length v → length l' ≡ length l → AllLent q c' v' l'
all_lent_kept L a b d = record { collected = lent_kept L.collected a b; plain = rw d L.plain }
