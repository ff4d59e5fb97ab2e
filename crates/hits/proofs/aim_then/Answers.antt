-- `hits::aim_then` meets its contract.
use Rattle.hits.proofs.aim_then.Goals as goal
use Rattle.hits.proofs.Aims.{aims_is}
use Rattle.hits.proofs.Effects.{then_elsewhere, then_other, then_group, then-all}

pub returns-then-target-s : goal.returns-then-target-s
returns-then-target-s c = record { second = λ k f t S l e w. aims_is c.none.ensures.defined (then_elsewhere t _ e k f _ S l c.if-target-s.true) }

pub returns-then-func-eq-LOCATION_GROUP_MODIFIER : goal.returns-then-func-eq-LOCATION_GROUP_MODIFIER
returns-then-func-eq-LOCATION_GROUP_MODIFIER c = record { second = λ k f t S l e w. then_group t _ e k f _ S l _ c.if-target-s.false w c.if-func-eq-LOCATION_GROUP_MODIFIER.true (c.char_items.ensures.defined k f S) }

pub returns-then-func-eq-LOCATION_MODIFIER : goal.returns-then-func-eq-LOCATION_MODIFIER
returns-then-func-eq-LOCATION_MODIFIER c = record { second = λ k f t S l e w. then-all t _ e k f _ S l _ c.if-target-s.false c.if-func-eq-LOCATION_MODIFIER.true (c.char_items-then-func-eq-LOCATION_MODIFIER.ensures.defined k f S) }

pub returns : goal.returns
returns c = record { second = λ k f t S l e w. aims_is c.none-2.ensures.defined (then_other t _ e k f _ S l c.if-func-eq-LOCATION_GROUP_MODIFIER.false c.if-func-eq-LOCATION_MODIFIER.false) }
