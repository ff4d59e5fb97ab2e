-- `look_ups::lower` meets its contract. The lesser of the places before k are counted. The measure is what is left of the window. Assumes nothing.
use Rattle.info.proofs.look_ups.lower.Goals as goal
use native.Mathlib.Omega.{arith}
use borrow.Author.Rules.{sfits_of}
use mathlib.Core.Path.{refl}
use Rattle.laws.proofs.Windows.{counted_start, counted_end}
use Rattle.info.proofs.Searches.{bounds_back, bounds_high, counts-more, key_inside, key_less}

pub overflow_add-end : goal.overflow_add-end
overflow_add-end c = omega (arith, bounds_high _ _ _ _ _ c.requires.keyed c.narrowed-window.ensures.narrowed, c.ranges.n.fits)

pub loop-k-init : goal.loop-k-init
loop-k-init c = counted_start _ _ _ c.narrowed-window.ensures.narrowed

pub key_at-key-requires : goal.key_at-key-requires
key_at-key-requires c = record { inside = key_inside _ _ _ _ c.requires.keyed _ (omega (arith, bounds_high _ _ _ _ _ c.requires.keyed c.narrowed-window.ensures.narrowed, c.loop-k-test.true)) }

pub overflow_add-found : goal.overflow_add-found
overflow_add-found c = omega (arith, c.loop-k.invariant.within, bounds_high _ _ _ _ _ c.requires.keyed c.narrowed-window.ensures.narrowed, c.loop-k-test.true, c.ranges.n.fits)

pub loop-k-preserved : goal.loop-k-preserved
loop-k-preserved c = counts-more _ _ _ _ _ c.requires.keyed c.loop-k.invariant (omega (arith, bounds_high _ _ _ _ _ c.requires.keyed c.narrowed-window.ensures.narrowed, c.loop-k-test.true)) (key_less (sfits_of c.key_at-key.type_inv) c.key_at-key.ensures.defined _ _ refl) c.step-found.ensures.defined

pub returns : goal.returns
returns c = record { defined = bounds_back c.args.b.now c.args.at c.args.w c.args.n c.args.id c.ranges.id (counted_end _ _ _ c.narrowed-window.ensures.narrowed c.loop-k.invariant c.loop-k-test.false) }
