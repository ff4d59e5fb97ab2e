-- What a verdict on the shape decides: a bad table is refused, what is sound is run.
use Prim.Native.Nat.{ℕ}
use mathlib.Core.Path.{◌≡◌, sym, ap, subst}
use mathlib.Core.List.{List}
use Rattle.rules.specs.Answer.{refused}
use Rattle.rules.specs.Sheet.{Book, Fit}
use Rattle.rules.specs.Outcome.{Rooms, run, rooms_of}
use Rattle.rules.specs.declared.Refusal.TheVariants.{Shape}
use Rattle.info.specs.Sound.{SoundBook, SoundFit}
use Rattle.std.specs.Prelude.{Ok, Err}
use Rattle.shape.specs.Shaped.{Shaped, SoundBy}
use Rattle.shape.specs.declared.BadTable.{BadTable}
use Rattle.run.specs.Filled.{Columns, lent_of, RanAs, decided}
use Rattle.std.specs.Prelude.{Result}
use Rattle.clear.specs.declared.KeptCounts.{KeptCounts}
use Rattle.rules.specs.declared.Refusal.{Refusal}

pub sound_parts : (k f : List ℕ) (p : List (List ℕ)) {v : Shaped} → v ≡ Ok tt → SoundBy v k f p → SoundBook k p × SoundFit f p
sound_parts k f p e s = subst (λ (x : Shaped). SoundBy x k f p) e s

module _ (k : Book) (f : Fit) where
  pub bad : (q : Rooms) {v : Shaped} {e : BadTable} → v ≡ Err e → decided v k f q ≡ refused (Shape e.table)
  bad q e = ap (λ (x : Shaped). decided x k f q) e

  pub sound_as : (c₀ c : Columns) (st : List (List ℕ)) (r : Result KeptCounts Refusal) {v : Shaped} → v ≡ Ok tt → RanAs (run k f (rooms_of (lent_of c₀))) r st c₀ c → RanAs (decided v k f (rooms_of (lent_of c₀))) r st c₀ c
  sound_as c₀ c st r e g = subst (λ (x : Shaped). RanAs (decided x k f (rooms_of (lent_of c₀))) r st c₀ c) (sym e) g
