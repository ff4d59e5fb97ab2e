-- `look_ups::lower_at` meets its contract: a told place is tested. Assumes nothing.
use Rattle.info.proofs.look_ups.lower_at.Goals as goal
use native.Mathlib.Omega.{arith}
use mathlib.Core.Path.{refl}
use borrow.Author.Rules.{sfits_of}
use Rattle.info.proofs.Searches.{lower_back, key_inside, key_less, told-first, told_is}

pub key_at-key-requires : goal.key_at-key-requires
key_at-key-requires c = record { inside = key_inside _ _ _ _ c.requires.keyed _ c.if-told-n.true }

pub returns-then-told-eq0 : goal.returns-then-told-eq0
returns-then-told-eq0 c = record { defined = lower_back c.args.b.now c.args.at c.args.w c.args.n c.args.id c.ranges.id (told-first _ _ _ _ _ c.requires.keyed _ c.if-told-n.true c.if-told-eq0.true (key_less (sfits_of c.key_at-key.type_inv) c.key_at-key.ensures.defined _ _ refl) c.if-not-less.true) }

pub key_at-before-requires : goal.key_at-before-requires
key_at-before-requires c = record { inside = key_inside _ _ _ _ c.requires.keyed _ (omega (arith, c.if-told-n.true)) }

pub returns-then-before-id : goal.returns-then-before-id
returns-then-before-id c = record { defined = lower_back c.args.b.now c.args.at c.args.w c.args.n c.args.id c.ranges.id (told_is _ _ _ _ _ c.requires.keyed _ c.if-told-n.true (omega (arith, c.if-told-eq0.false)) (key_less (sfits_of c.key_at-key.type_inv) c.key_at-key.ensures.defined _ _ refl) c.if-not-less.true (key_less (sfits_of c.key_at-before.type_inv) c.key_at-before.ensures.defined _ _ c.if-before-id.true)) }

pub returns : goal.returns
returns c = record { defined = lower_back c.args.b.now c.args.at c.args.w c.args.n c.args.id c.ranges.id c.lower.ensures.defined }
