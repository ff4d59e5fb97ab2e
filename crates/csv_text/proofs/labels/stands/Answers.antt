-- `labels::stands` meets its contract. Assumes nothing.
use Rattle.csv_text.proofs.labels.stands.Goals as goal
use mathlib.Core.List.{[]}
use lib.ListN.{get_or}
use Rattle.csv_text.specs.Labels.{id_of}
use Rattle.csv_text.proofs.Judging.{before-first, before-later, less_told}

pub returns-then-i-eq0 : goal.returns-then-i-eq0
returns-then-i-eq0 c = record { defined = before-first c.args.labels.now (id_of (get_or c.args.labels.now c.args.i [])) c.if-i-eq0.true }

pub returns : goal.returns
returns c = record { defined = before-later c.args.labels.now (id_of (get_or c.args.labels.now c.args.i [])) c.if-i-eq0.false (less_told c.signed-before.result c.signed-own.result _ _ c.signed-before.ensures.and_back c.signed-own.ensures.and_back) }
