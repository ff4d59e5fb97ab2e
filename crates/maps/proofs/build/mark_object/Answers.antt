-- `build::mark_object` meets its contract.
use Rattle.maps.proofs.build.mark_object.Goals as goal
use native.Mathlib.Omega.{arith}
use lib.ListN.{length}
use Rattle.rules.specs.Item.{object}
use Rattle.rules.specs.Sheet.{book_of, fit_of}
use Rattle.maps.proofs.Index.{head_behind}
use Rattle.maps.proofs.Building.{group_in, object_made}

pub mark_columns-requires : goal.mark_columns-requires
mark_columns-requires c = record { inside = (c.requires.counted.held.mapped.narrow, omega (arith, head_behind c.args.width (length c.requires.counted.held.keys), c.requires.counted.held.mapped.fits), c.requires.small.1) }

pub mark_keys-requires : goal.mark_keys-requires
mark_keys-requires c = record {
  counted = record { held = record { location = _; has = _; keys = c.requires.counted.held.keys; mapped = c.mark_columns.ensures.marked _ _ _ _ c.requires.counted.held.mapped }; count = c.requires.counted.count };
  small = c.requires.small;
  keys_small = c.keys_of-keys.ensures.small;
}

pub returns : goal.returns
returns c = record { marked = λ l h ks M q. object_made (book_of c.args.book.now c.args.pairs.now) (fit_of c.args.fit.now c.args.pairs.now) (object (fit_of c.args.fit.now c.args.pairs.now) c.args.i) c.args.width c.args.i l h ks _ _ c.mark_keys.result c.reach_of-row.ensures.defined (c.keys_of-keys.ensures.defined (group_in (book_of c.args.book.now c.args.pairs.now) (fit_of c.args.fit.now c.args.pairs.now) (object (fit_of c.args.fit.now c.args.pairs.now) c.args.i) c.reach_of-row.ensures.defined)) (c.mark_keys.ensures.marked _ _ _ (c.mark_columns.ensures.marked l h ks _ M) q) }
