-- `look_ups::find` meets its contract: what stands at the bound decides. Assumes nothing.
use Rattle.info.proofs.look_ups.find.Goals as goal
use borrow.Author.Rules.{sfits_of}
use Rattle.info.proofs.Searches.{lower_back, key_inside, key_same, key_apart, found_is, missing-is, past_is}

pub key_at-key-requires : goal.key_at-key-requires
key_at-key-requires c = record { inside = key_inside _ _ _ _ c.requires.keyed _ c.if-low-n.true }

pub returns-then-key-id : goal.returns-then-key-id
returns-then-key-id c = record { defined = found_is c.args.b.now c.args.at c.args.w c.args.n c.args.id c.requires.keyed (lower_back c.args.b.now c.args.at c.args.w c.args.n c.args.id c.ranges.id c.lower_at-low.ensures.defined) c.if-low-n.true (key_same (sfits_of c.key_at-key.type_inv) c.key_at-key.ensures.defined _ c.ranges.id c.if-key-id.true) }

pub returns-then-low-n : goal.returns-then-low-n
returns-then-low-n c = record { defined = missing-is c.args.b.now c.args.at c.args.w c.args.n c.args.id c.requires.keyed (lower_back c.args.b.now c.args.at c.args.w c.args.n c.args.id c.ranges.id c.lower_at-low.ensures.defined) c.if-low-n.true (key_apart (sfits_of c.key_at-key.type_inv) c.key_at-key.ensures.defined _ c.ranges.id c.if-key-id.false) }

pub returns : goal.returns
returns c = record { defined = past_is c.args.b.now c.args.at c.args.w c.args.n c.args.id c.requires.keyed (lower_back c.args.b.now c.args.at c.args.w c.args.n c.args.id c.ranges.id c.lower_at-low.ensures.defined) c.if-low-n.false }
