-- `rows::put_values` meets its contract: after k records the first k stand. Assumes nothing.
use Rattle.std.proofs.Common.{arith}
use Rattle.tables.specs.Tables.{number, value, value_bytes}
use Rattle.tables.proofs.ReadsBack.{value-length}
use Rattle.put_tables.proofs.Steps.{laid_none, laid_room, laid_next, value_put, float_at, finite-at}
use Rattle.put_tables.proofs.rows.put_values.Goals as goal

pub loop-k-init : goal.loop-k-init
loop-k-init c = laid_none 12 (λ k. value_bytes (number c.args.ids.now k) (value c.args.values.now k)) c.args.at c.args.bytes.now

pub put_word-next-requires : goal.put_word-next-requires
put_word-next-requires c = record { room = omega (arith, laid_room c.loop-k.invariant _ c.loop-k-test.true c.requires.room) }

pub put_float-place-requires : goal.put_float-place-requires
put_float-place-requires c = record {
  room = omega (arith, laid_room c.loop-k.invariant _ c.loop-k-test.true c.requires.room);
  finite = finite-at c.args.ids.now c.args.values.now c.loop-k.k c.requires.beside (omega arith);
}

pub loop-k-preserved : goal.loop-k-preserved
loop-k-preserved c =
    laid_next c.loop-k.invariant (value-length (number c.args.ids.now c.loop-k.k) (value c.args.values.now c.loop-k.k))
    (value_put (number c.args.ids.now c.loop-k.k) (value c.args.values.now c.loop-k.k) c.loop-k.place c.loop-k.bytes c.put_word-next.ensures.written (float_at c.args.values.now c.loop-k.k (omega arith)) c.put_float-place.ensures.written)
