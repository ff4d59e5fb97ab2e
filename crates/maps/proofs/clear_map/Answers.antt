-- `clear_map` meets its contract.
use Rattle.maps.proofs.Zeros.{zeroed-part}
use Rattle.maps.proofs.clear_map.Goals as goal

pub returns : goal.returns
returns c = record { cleared = zeroed-part c.args.at c.args.n c.args.words.now c.fill.new.self c.requires.inside (c.fill.ensures.after (λ y e. e)) }
