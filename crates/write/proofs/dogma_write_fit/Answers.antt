-- `dogma_write_fit` meets its contract. Assumes nothing.
use Rattle.std.proofs.Common.{◌≡◌, length, arith}
use Rattle.tables.specs.At.{fit_now}
use Rattle.tables.specs.Tables.{written_fit}
use Rattle.write.proofs.Answers.{gives}
use Rattle.write.proofs.dogma_write_fit.Goals as goal

pub returns : goal.returns
returns c =
    let long : length c.fit_written-end.new.bytes ≡ length c.args.bytes.now = omega arith in
    record { the_fit = gives (written_fit (fit_now c.args.objects c.args.base_attributes c.args.base_values c.args.ids c.args.buffs c.args.buff_values c.args.asks c.args.header.now) (length c.args.bytes.now)) c.fit_written-end.result c.args.bytes.now c.fit_written-end.new.bytes c.fit_written-end.ensures.defined long c.answered.ensures.answer c.answered.ensures.cleared }
