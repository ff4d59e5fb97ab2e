-- `book::book_bad` meets its contract. Assumes nothing.
use Rattle.tables.specs.At.{book_in}
use Rattle.lent.proofs.book.book_bad.Goals as goal
use Rattle.shape.proofs.Scans.{passed, failed}
use mathlib.Core.Path.{◌∙◌}
use mathlib.Core.List.{[]}
use borrow.Author.Tests.{eqb-true}
use Rattle.rules.specs.Shape.{book_bad}
use Rattle.tables.proofs.SameVerdict.{few_book, like_book}
use Rattle.lent.proofs.Verdicts.{attributes_alone_lem, effects_alone_lem, type_effects_alone_lem, buff_collections_alone_lem}

pub attributes_good-requires : goal.attributes_good-requires
attributes_good-requires c = record { beside = eqb-true _ _ (like_book (book_in c.args.book []) c.requires.fits) }

pub returns-then-not-attributes_good : goal.returns-then-not-attributes_good
unfolding book_bad
returns-then-not-attributes_good c = record { defined = rw (failed (c.attributes_good.ensures.defined ∙ attributes_alone_lem (book_in c.args.book [])) c.if-not-attributes_good.true) }

pub effects_good-requires : goal.effects_good-requires
effects_good-requires c = record { few = (few_book (book_in c.args.book []) c.requires.fits).effects }

pub returns-then-not-effects_good : goal.returns-then-not-effects_good
unfolding book_bad
returns-then-not-effects_good c = record { defined = rw (passed (c.attributes_good.ensures.defined ∙ attributes_alone_lem (book_in c.args.book [])) c.if-not-attributes_good.false, failed (c.effects_good.ensures.defined ∙ effects_alone_lem (book_in c.args.book [])) c.if-not-effects_good.true) }

pub returns-then-not-type_effects_good : goal.returns-then-not-type_effects_good
unfolding book_bad
returns-then-not-type_effects_good c = record { defined = rw (passed (c.attributes_good.ensures.defined ∙ attributes_alone_lem (book_in c.args.book [])) c.if-not-attributes_good.false, passed (c.effects_good.ensures.defined ∙ effects_alone_lem (book_in c.args.book [])) c.if-not-effects_good.false, failed (c.type_effects_good.ensures.defined ∙ type_effects_alone_lem (book_in c.args.book [])) c.if-not-type_effects_good.true) }

pub buff_collections_good-requires : goal.buff_collections_good-requires
buff_collections_good-requires c = record { few = (few_book (book_in c.args.book []) c.requires.fits).buff_collections }

pub returns-then-not-buff_collections_good : goal.returns-then-not-buff_collections_good
unfolding book_bad
returns-then-not-buff_collections_good c = record { defined = rw (passed (c.attributes_good.ensures.defined ∙ attributes_alone_lem (book_in c.args.book [])) c.if-not-attributes_good.false, passed (c.effects_good.ensures.defined ∙ effects_alone_lem (book_in c.args.book [])) c.if-not-effects_good.false, passed (c.type_effects_good.ensures.defined ∙ type_effects_alone_lem (book_in c.args.book [])) c.if-not-type_effects_good.false, failed (c.buff_collections_good.ensures.defined ∙ buff_collections_alone_lem (book_in c.args.book [])) c.if-not-buff_collections_good.true) }

pub returns : goal.returns
unfolding book_bad
returns c = record { defined = rw (passed (c.attributes_good.ensures.defined ∙ attributes_alone_lem (book_in c.args.book [])) c.if-not-attributes_good.false, passed (c.effects_good.ensures.defined ∙ effects_alone_lem (book_in c.args.book [])) c.if-not-effects_good.false, passed (c.type_effects_good.ensures.defined ∙ type_effects_alone_lem (book_in c.args.book [])) c.if-not-type_effects_good.false, passed (c.buff_collections_good.ensures.defined ∙ buff_collections_alone_lem (book_in c.args.book [])) c.if-not-buff_collections_good.false) }
