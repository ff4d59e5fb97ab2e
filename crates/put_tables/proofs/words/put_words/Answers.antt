-- `words::put_words` meets its contract: after i words the first i stand. Assumes nothing.
use Rattle.std.proofs.Common.{◌≡◌}
use Rattle.listing.specs.Put.{put, puts}
use Rattle.tables.specs.Layout.{words}
use Rattle.put_tables.proofs.Steps.{word_none, word_next, word_room, word-all, words_end}
use Rattle.put_tables.proofs.words.put_words.Goals as goal

pub loop-x-init : goal.loop-x-init
loop-x-init c = word_none c.args.numbers.now c.args.at c.args.bytes.now

pub put_word-place-requires : goal.put_word-place-requires
put_word-place-requires c = record { room = word_room c.args.numbers.now c.args.at c.args.bytes.now c.loop-x.x-index c.loop-x-test.true c.requires.room c.loop-x.invariant }

pub loop-x-preserved : goal.loop-x-preserved
loop-x-preserved c = word_next c.args.numbers.now c.args.at c.args.bytes.now c.loop-x.x-index c.loop-x-test.true c.loop-x.invariant c.put_word-place.ensures.written

pub returns : goal.returns
returns c =
    let all : put c.loop-x.place c.loop-x.bytes ≡ puts (words c.args.numbers.now) (put c.args.at c.args.bytes.now) =
    word-all c.args.numbers.now c.args.at c.args.bytes.now c.loop-x.x-index c.loop-x-test.false c.loop-x.invariant in
    record { written = all; end = words_end c.args.numbers.now c.args.at c.args.bytes.now all }
