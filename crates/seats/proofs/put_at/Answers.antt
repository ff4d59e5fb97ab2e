-- `seats::put_at` meets its contract.
use Rattle.seats.proofs.put_at.Goals as goal
use mathlib.Core.Path.{refl}
use borrow.Author.Tests.{lt-ltb, le-ltb, eq-eqb, ne_eqb}

pub returns-then-i-k : goal.returns-then-i-k
returns-then-i-k c = record { defined = rw (lt-ltb c.args.i c.args.k c.if-i-k.true) refl }

pub returns-then-i-k-2 : goal.returns-then-i-k-2
returns-then-i-k-2 c = record { defined = rw (le-ltb c.args.i c.args.k c.if-i-k.false, eq-eqb c.args.i c.args.k c.if-i-k-2.true) refl }

pub returns : goal.returns
returns c = record { defined = rw (le-ltb c.args.i c.args.k c.if-i-k.false, ne_eqb c.args.i c.args.k c.if-i-k-2.false) refl }
