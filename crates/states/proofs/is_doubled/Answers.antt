-- `states::is_doubled` meets its contract. Assumes nothing.
use Rattle.states.proofs.is_doubled.Goals as goal
use native.Mathlib.Omega.{arith}
use mathlib.Core.Path.{◌∙◌}
use borrow.Author.Tests.{lt-leb}
use Rattle.rules.specs.Sheet.{book_of}
use Rattle.info.proofs.Elements.{type_effects_length}
use Rattle.states.proofs.Raising.{over_own, over_base}

pub returns-then-own-k : goal.returns-then-own-k
returns-then-own-k c = record { defined = λ base d l w e. c.has_effect.ensures.defined ∙ over_base (book_of c.args.book.now c.args.pairs.now).type_effects c.args.own.first c.args.own.count base.first base.count (omega (arith, c.requires.inside, type_effects_length c.args.book.now c.args.pairs.now)) (omega (arith, w, type_effects_length c.args.book.now c.args.pairs.now)) c.args.k d c.args.t c.if-own-k.true l e }

pub returns-else-own-k : goal.returns-else-own-k
returns-else-own-k c = record { defined = λ base d l w e. lt-leb _ _ c.if-own-k.false ∙ over_own (book_of c.args.book.now c.args.pairs.now).type_effects c.args.own.first c.args.own.count base.first base.count (omega (arith, c.requires.inside, type_effects_length c.args.book.now c.args.pairs.now)) (omega (arith, w, type_effects_length c.args.book.now c.args.pairs.now)) c.args.k d c.if-own-k.false }
