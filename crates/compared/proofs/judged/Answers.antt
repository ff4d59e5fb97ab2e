-- `compared::judged` meets its contract: every list is lent 4,096 rows. Assumes nothing.
use Rattle.compared.proofs.judged.Goals as goal
use mathlib.Core.Path.{refl}
use mathlib.Core.List.{map}
use Rattle.settled.specs.Lines.{line_of}
use Rattle.compared.proofs.Saying.{check_rooms_lem, judged-number, judged-place}

pub dogma_check-requires : goal.dogma_check-requires
dogma_check-requires c = tt

pub returns : goal.returns
returns c = record {
  number = judged-number c.args.sheet.now (map line_of c.args.listing.now) _ (check_rooms_lem _ refl refl refl refl refl) c.dogma_check.ensures.the_definitions_verdict.by_number;
  place = judged-place c.args.sheet.now (map line_of c.args.listing.now) _ (check_rooms_lem _ refl refl refl refl refl) c.dogma_check.ensures.the_definitions_verdict.by_place;
}
