-- `objects::collect` meets its contract. Assumes nothing.
use Rattle.collect.proofs.objects.collect.Goals as goal
use mathlib.Core.Path.{◌∙◌}
use Rattle.rules.specs.Sheet.{book_of, fit_of}
use Rattle.modifier.proofs.Runs.{ran_same}
use Rattle.modifier.proofs.Tests.{given_on}
use Rattle.collect.proofs.Turns.{in_turn, stopped_first}
use Rattle.collect.proofs.Phases.{in_phases}
use Rattle.collect.proofs.Whole.{whole}

pub returns-in_err-used : goal.returns-in_err-used
returns-in_err-used c = record { defined = λ q a b. rw (given_on _ c.from_residual.ensures.1) (whole q c.args.room c.args.room_plain _ _ _ _ a b c.requires.inside.0 c.requires.inside.1 c.requires.plain_inside (stopped_first _ _ _ _ _ c.in_err-used.ensures.defined ∙ ran_same _ _ (in_phases (book_of c.args.book.now c.args.pairs.now) (fit_of c.args.fit.now c.args.pairs.now)))) }

pub returns : goal.returns
returns c = record { defined = λ q a b. whole q c.args.room c.args.room_plain _ _ _ _ a b c.requires.inside.0 c.requires.inside.1 c.requires.plain_inside (in_turn _ _ _ _ _ _ c.in_ok-used.ensures.defined c.collect_rest.ensures.defined ∙ ran_same _ _ (in_phases (book_of c.args.book.now c.args.pairs.now) (fit_of c.args.fit.now c.args.pairs.now))) }
