-- `rows::put_attributes` meets its contract: after k records the first k stand. Assumes nothing.
use Rattle.std.proofs.Common.{◌≡◌, length, arith}
use Rattle.tables.specs.Tables.{row, value, attribute_bytes}
use Rattle.tables.proofs.ReadsBack.{attribute_length}
use Rattle.put_tables.proofs.Steps.{laid_none, laid_room, laid_next, float_at, finite-at, attribute_put}
use Rattle.put_tables.proofs.rows.put_attributes.Goals as goal

pub loop-k-init : goal.loop-k-init
loop-k-init c = laid_none 24 (λ k. attribute_bytes (row c.args.attributes.now k) (value c.args.defaults.now k)) c.args.at c.args.bytes.now

pub put_float-back-requires : goal.put_float-back-requires
put_float-back-requires c =
    record {
      room = omega (arith, laid_room c.loop-k.invariant _ c.loop-k-test.true c.requires.room);
      finite = finite-at c.args.attributes.now c.args.defaults.now c.loop-k.k c.requires.beside (omega arith);
    }

pub put_words-place-requires : goal.put_words-place-requires
put_words-place-requires c =
    record { room = omega (arith, laid_room c.loop-k.invariant _ c.loop-k-test.true c.requires.room) }

pub loop-k-preserved : goal.loop-k-preserved
loop-k-preserved c =
    let four : length (row c.args.attributes.now c.loop-k.k) ≡ 4 = omega arith in
    laid_next c.loop-k.invariant (attribute_length (row c.args.attributes.now c.loop-k.k) (value c.args.defaults.now c.loop-k.k)) (attribute_put (row c.args.attributes.now c.loop-k.k) four (value c.args.defaults.now c.loop-k.k) c.loop-k.place c.loop-k.bytes c.put_words-middle.ensures.written (float_at c.args.defaults.now c.loop-k.k (omega arith)) c.put_float-back.ensures.written c.put_words-place.ensures.written)
