-- `idle::is_held` meets its contract. Assumes nothing.
use Rattle.given.proofs.idle.is_held.Goals as goal
use mathlib.Core.Path.{sym, ap, ◌∙◌}
use mathlib.Core.Bool.{not}
use Prim.Native.Nat.{◌<◌, ◌^◌}
use lib.Signed.{mag}
use mir.Syntax.{w32}
use mir.Facts.{to_z-of_z}
use borrow.Author.Rules.{sfits_of}
use Rattle.std.proofs.Common.{rules}
use Rattle.given.proofs.Rights.{not_nan}
use Rattle.std.specs.Option.{is_some}
use Rattle.rules.specs.Number.{times}

pub returns-in-Some : goal.returns-in-Some
returns-in-Some c = let fits : mag c.in-Some.attribute < 2 ^ 31 = search rules in record { defined = λ h. rw c.in-Some.is (c.is_some.ensures ∙ ap is_some (c.product.ensures.defined ∙ ap (times c.args.v) (rw (to_z-of_z {w = w32} (sfits_of fits)) at (c.listed_value-q.ensures.defined h)))) }

pub returns-in-None : goal.returns-in-None
returns-in-None c = record { defined = λ h. rw c.in-None.is (ap not c.is_nan.ensures.value ∙ sym (not_nan c.args.v)) }
