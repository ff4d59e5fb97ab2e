-- `dogma_write_sheet` meets its contract. Assumes nothing.
use Rattle.std.proofs.Common.{◌≡◌, [], length, arith}
use Rattle.tables.specs.At.{book_now, fit_now}
use Rattle.tables.specs.Tables.{together, written}
use Rattle.write.proofs.Answers.{gives}
use Rattle.write.proofs.dogma_write_sheet.Goals as goal

pub returns : goal.returns
returns c =
    let long : length c.sheet_written-end.new.bytes ≡ length c.args.bytes.now = omega arith in
    record { the_sheet = gives (written (together c.args.header.now (book_now c.args.attributes c.args.defaults c.args.effects c.args.modifiers c.args.type_effects c.args.buff_collections []) (fit_now c.args.objects c.args.base_attributes c.args.base_values c.args.ids c.args.buffs c.args.buff_values c.args.asks [])) (length c.args.bytes.now)) c.sheet_written-end.result c.args.bytes.now c.sheet_written-end.new.bytes c.sheet_written-end.ensures.defined long c.answered.ensures.answer c.answered.ensures.cleared }
