-- `given::first_bad` meets its contract. Assumes nothing.
use Rattle.given.proofs.first_bad.Goals as goal
use native.Mathlib.Omega.{arith}
use Rattle.given.proofs.Bad.{key_bad, lines-inside, judged, value_bad, all_laid}

pub returns-in-Some : goal.returns-in-Some
returns-in-Some c = record {
  defined = λ h e. key_bad h c.args.listing.now _ (c.in-Some.ensures.defined h.world.rows h.told.held);
  laid = tt;
}

pub set_listed-requires : goal.set_listed-requires
set_listed-requires c = record { inside = omega (arith, lines-inside c.requires.awaits c.args.listing.now (c.in_default.ensures.defined c.requires.awaits.world.rows c.requires.awaits.told.held)) }

pub first_wrong-requires : goal.first_wrong-requires
first_wrong-requires c = record { judged = judged c.requires.awaits c.args.listing.now (c.in_default.ensures.defined c.requires.awaits.world.rows c.requires.awaits.told.held) c.set_listed.ensures.laid }

pub returns : goal.returns
returns c = record {
  defined = λ h e. value_bad h c.args.listing.now (c.in_default.ensures.defined h.world.rows h.told.held) c.set_listed.ensures.laid (c.first_wrong.ensures.defined (judged h c.args.listing.now (c.in_default.ensures.defined h.world.rows h.told.held) c.set_listed.ensures.laid) e);
  laid = all_laid c.requires.awaits c.args.listing.now (c.in_default.ensures.defined c.requires.awaits.world.rows c.requires.awaits.told.held) c.set_listed.ensures.laid c.first_wrong.result c.first_wrong.new.values c.first_wrong.ensures.kept;
}
