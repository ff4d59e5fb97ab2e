-- `integers::optional_numbers` meets its contract. Assumes nothing.
use Rattle.numbers.proofs.integers.optional_numbers.Goals as goal
use Rattle.std.proofs.Common.{refl, rules}
use Prim.Native.Nat.{◌<◌, ◌^◌}
use lib.Signed.{mag}
use Rattle.numbers.proofs.Signs.{stored}

pub returns-in-Some : goal.returns-in-Some
returns-in-Some c =
    let fits : mag c.in-Some.id < 2 ^ 31 = search rules in
    record { defined = rw (c.in-Some.is, c.bits.ensures.defined, stored _ fits) refl }
