-- What an effect of an object gives in its turn.
use Rattle.std.specs.Prelude.{not, cond, List, []}
use Rattle.rules.specs.Sheet.{Book, Fit}
use Rattle.rules.specs.Collect.{Move, effect_moves}
use Rattle.rules.specs.declared.Item.{Item}
use Rattle.states.specs.Raised.{Turn}

-- unless it is passed over
abbrev pub turn_moves : Book → Fit → Item → Turn → List Move
turn_moves k f o x = cond (not x.over) (effect_moves k f o x.effect) []
