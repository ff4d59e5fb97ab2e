-- `idle::has_strength` meets its contract. Assumes nothing.
use Rattle.given.proofs.idle.has_strength.Goals as goal
use mathlib.Core.Path.{sym, ◌∙◌}
use Prim.Native.Nat.{◌<◌, ◌^◌}
use lib.Signed.{mag}
use mir.Syntax.{w32}
use mir.Facts.{to_z-of_z}
use borrow.Author.Rules.{sfits_of}
use Rattle.std.proofs.Common.{rules}
use Rattle.given.proofs.Idling.{running_fine, buff_made, idle_made}

pub returns-then-is_running : goal.returns-then-is_running
returns-then-is_running c = record { defined = λ h i row. running_fine h i row c.args.e c.args.e.origin c.requires.good.sourced (sym c.is_running.ensures.defined ∙ c.if-is_running.true) }

pub returns-in-Buff : goal.returns-in-Buff
returns-in-Buff c = record { defined = λ h i row. buff_made h i row c.args.e _ _ c.in-Buff.is }

pub returns-in-Effect : goal.returns-in-Effect
returns-in-Effect c = let fits : mag c.in-Effect.attribute_id < 2 ^ 31 = search rules in record { defined = λ h i row. idle_made h i row c.args.e c.in-Effect.effect_id c.in-Effect.source c.in-Effect.source_category c.in-Effect.attribute_id c.in-Effect.is c.requires.good.sourced _ c.is_running.ensures.defined c.if-is_running.false _ _ (rw (to_z-of_z {w = w32} (sfits_of fits)) at (c.listed_value-v.ensures.defined h)) (c.is_held.ensures.defined h) }
