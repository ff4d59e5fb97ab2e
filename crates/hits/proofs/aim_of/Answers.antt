-- `hits::aim_of` meets its contract.
use Rattle.hits.proofs.aim_of.Goals as goal
use Prim.Native.Nat.{ℕ, ◌<◌}
use mathlib.Core.Path.{◌≡◌, sym, subst}
use Rattle.info.proofs.Elements.{objects_length}
use Rattle.hits.proofs.Aims.{aims_is}
use Rattle.hits.proofs.Effects.{row_item, row_group, row-all, row_owner, row_skill}

inside : {m n x : ℕ} → m ≡ n → x < n → x < m
inside {x = x} e h = subst (λ (n : ℕ). x < n) (sym e) h

pub returns-then-func-eq-ITEM_MODIFIER : goal.returns-then-func-eq-ITEM_MODIFIER
returns-then-func-eq-ITEM_MODIFIER c = record { first = λ k t e w. aims_is c.one.ensures.defined (row_item t _ e k _ _ c.requires.standing (inside (objects_length _ _) c.requires.pointing.target) c.if-func-eq-ITEM_MODIFIER.true) }

pub returns-then-func-eq-LOCATION_GROUP_MODIFIER : goal.returns-then-func-eq-LOCATION_GROUP_MODIFIER
returns-then-func-eq-LOCATION_GROUP_MODIFIER c = record { first = λ k t e w. row_group t _ e k _ _ c.requires.standing (inside (objects_length _ _) c.requires.pointing.target) _ w c.if-func-eq-LOCATION_GROUP_MODIFIER.true (c.located.ensures.defined k _ c.requires.standing (inside (objects_length _ _) c.requires.pointing.target)) }

pub returns-then-func-eq-LOCATION_MODIFIER : goal.returns-then-func-eq-LOCATION_MODIFIER
returns-then-func-eq-LOCATION_MODIFIER c = record { first = λ k t e w. row-all t _ e k _ _ c.requires.standing (inside (objects_length _ _) c.requires.pointing.target) _ w c.if-func-eq-LOCATION_MODIFIER.true (c.located-then-func-eq-LOCATION_MODIFIER.ensures.defined k _ c.requires.standing (inside (objects_length _ _) c.requires.pointing.target)) }

pub returns-then-func-eq-OWNER_REQUIRED_SKILL_MODIFIER : goal.returns-then-func-eq-OWNER_REQUIRED_SKILL_MODIFIER
returns-then-func-eq-OWNER_REQUIRED_SKILL_MODIFIER c = record { first = λ k t e w. row_owner t _ e k _ _ c.requires.standing (inside (objects_length _ _) c.requires.pointing.target) _ w _ (inside (objects_length _ _) c.requires.pointing.source) (λ s. c.skill_of-skill.ensures.defined t s e) c.if-func-eq-OWNER_REQUIRED_SKILL_MODIFIER.true (c.owned.ensures.defined k _ c.requires.standing) }

pub returns : goal.returns
returns c = record { first = λ k t e w. row_skill t _ e k _ _ c.requires.standing (inside (objects_length _ _) c.requires.pointing.target) _ w _ (inside (objects_length _ _) c.requires.pointing.source) (λ s. c.skill_of-skill.ensures.defined t s e) c.if-func-eq-ITEM_MODIFIER.false c.if-func-eq-LOCATION_GROUP_MODIFIER.false c.if-func-eq-LOCATION_MODIFIER.false c.if-func-eq-OWNER_REQUIRED_SKILL_MODIFIER.false (c.skilled.ensures.defined k _ c.requires.standing (inside (objects_length _ _) c.requires.pointing.target)) }
