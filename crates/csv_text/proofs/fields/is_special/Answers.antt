-- `fields::is_special` meets its contract. Assumes nothing.
use Rattle.csv_text.proofs.fields.is_special.Goals as goal
use Rattle.csv_text.proofs.Classes.{not-special, special-told}

pub returns-then-b-gt-COMMA : goal.returns-then-b-gt-COMMA
returns-then-b-gt-COMMA c = record { defined = not-special c.args.b c.if-b-gt-COMMA.true }

pub returns : goal.returns
returns c = record { defined = special-told c.args.b }
