-- `states::able` meets its contract. Assumes nothing.
use Rattle.states.proofs.able.Goals as goal
use Rattle.rules.specs.Sheet.{book_of, fit_of}
use Rattle.info.proofs.Bases.{based}
use Rattle.states.proofs.Standing.{able_found, able_none, number-inside}

pub get_base-requires-clause-its_bases : goal.get_base-requires-clause-its_bases
get_base-requires-clause-its_bases c = based c.args.fit.now c.args.pairs.now c.args.o c.args.o.number c.requires.sound_fit (number-inside c.args.fit.now c.args.pairs.now c.args.o c.requires.an_object) c.requires.an_object.at

pub returns-in-Some : goal.returns-in-Some
returns-in-Some c = record { defined = able_found (book_of c.args.book.now c.args.pairs.now) (fit_of c.args.fit.now c.args.pairs.now) c.args.o _ c.in-Some.ensures.defined c.reached-top.ensures.defined c.max.ensures }

pub returns-in-None : goal.returns-in-None
returns-in-None c = record { defined = able_none (book_of c.args.book.now c.args.pairs.now) (fit_of c.args.fit.now c.args.pairs.now) c.args.o c.in-None.ensures.defined c.reached-top.ensures.defined }
