-- `put_fit_file` meets its contract. Assumes nothing.
use Rattle.tables.specs.At.{fit_in}
use Rattle.std.proofs.Common.{arith, ap}
use Rattle.listing.specs.Put.{put}
use Rattle.listing.proofs.Puts.{renamed}
use Rattle.tables.specs.Layout.{words}
use Rattle.tables.specs.Tables.{Tables}
use Rattle.put_tables.proofs.Whole.{three_put, fit_file_is, fit_room, two_all}
use Rattle.put_tables.proofs.put_fit_file.Goals as goal

pub put_words-behind-requires : goal.put_words-behind-requires
put_words-behind-requires c = record { room = omega (arith, fit_room (fit_in c.args.fit c.args.header.now) c.requires.room) }

pub put_words-body-requires : goal.put_words-body-requires
put_words-body-requires c = record { room = omega (arith, fit_room (fit_in c.args.fit c.args.header.now) c.requires.room) }

pub put_fit-requires : goal.put_fit-requires
put_fit-requires c = record {
  ready = c.requires.ready;
  room = omega (arith, fit_room (fit_in c.args.fit c.args.header.now) c.requires.room);
}

pub returns : goal.returns
returns c =
    let t : Tables = fit_in c.args.fit c.args.header.now in
    record {
      written =
          renamed (put 0 c.args.bytes.now) (fit_file_is t c.args.header.now (two_all c.args.header.now (omega arith)))
          (three_put _ _ _ (put 0 c.args.bytes.now) (renamed (put 0 c.args.bytes.now) (ap words c.fit_pairs-pairs.ensures.defined) c.put_words-behind.ensures.written) c.put_words-body.ensures.written c.put_fit.ensures.written);
    }
