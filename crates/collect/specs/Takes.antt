-- What the effects are that moves take: each is of a modifier, and of what it is collected for, and these are in the tables. Definitions only.
use Rattle.std.specs.Prelude.{ℕ, ◌<◌, ◌≡◌, Bool, false, ◌&&◌, not, cond, List, [], ◌∷◌, eqb, length, None}
use Rattle.laws.specs.Lists.{eq_z}
use Rattle.rules.specs.Constants.{upgrade_load}
use Rattle.rules.specs.Sheet.{Book, Fit}
use Rattle.rules.specs.Item.{is_rig, is_item, has_charge}
use Rattle.rules.specs.Collect.{Move, taken, plain, refuse, Test, go, over, bad, test_func, test_domain, test_projected_domain}
use Rattle.rules.specs.declared.DogmaModifier.{DogmaModifier}
use Rattle.rules.specs.declared.EffectCategory.TheVariants.{Passive}
use Rattle.rules.specs.Ids.{OptionalId}
use Rattle.rules.specs.declared.Origin.{Origin}
use Rattle.rules.specs.declared.Origin.TheVariants as origin
use Rattle.rules.specs.declared.Pass2Effect.{Pass2Effect}
use Rattle.info.specs.Sound.{Nth}
use Rattle.modifier.specs.Causes.{Cause}
use Rattle.modifier.specs.Causes as cause
use Rattle.modifier.specs.Causes.{resistance_of}

-- what holds of every effect that is taken
abbrev pub Each : (Pass2Effect → Type 0) → List Move → Type 0
Each P [] = Unit {0}
Each P (taken t ∷ r) = P t × Each P r
Each P (plain o e ∷ r) = Each P r
Each P (refuse x ∷ r) = Each P r

-- what holds of what a test goes on with
abbrev pub Goes : {A : Type 0} → (A → Type 0) → Test A → Type 0
Goes Q (go a) = Q a
Goes Q over = Unit {0}
Goes Q (bad x) = Unit {0}

abbrev pub origin_of : Cause → DogmaModifier → Origin
origin_of (cause.own w e c) m = origin.Effect e.id w.item.number (cond (is_rig w.item && eq_z m.modified_attribute_id upgrade_load) Passive c) m.modifying_attribute_id
origin_of (cause.projected w e c r) m = origin.Effect e.id w.item.number c m.modifying_attribute_id
origin_of (cause.buff b o) m = origin.Buff b.id b.value

abbrev pub aim_of : Fit → Cause → DogmaModifier → Test ℕ
aim_of f (cause.own w e c) m = test_domain f w.item m
aim_of f (cause.projected w e c r) m = test_projected_domain f m
aim_of f (cause.buff b o) m = go 0

-- an item's charge is meant, and it has none
abbrev pub unmet : Fit → Cause → DogmaModifier → Bool
unmet f (cause.own w e c) m = is_item w.item && eqb m.domain 3 && not (has_charge f w.item)
unmet f (cause.projected w e c r) m = false
unmet f (cause.buff b o) m = false

abbrev pub met_by : Fit → Cause → OptionalId
met_by f (cause.own w e c) = None
met_by f (cause.projected w e c r) = resistance_of f w.item e
met_by f (cause.buff b o) = None

pub record Of (f : Fit) (c : Cause) (m : DogmaModifier) (t : Pass2Effect) : Type 0 where
  pub func : test_func m ≡ go t.modifier
  pub aim : aim_of f c m ≡ go t.target
  pub met : unmet f c m ≡ false
  pub attribute : t.target_attribute_id ≡ m.modified_attribute_id
  pub origin : t.origin ≡ origin_of c m
  pub resistance : t.resistance ≡ met_by f c

-- x is in the list
pub record Member {A : Type 0} (xs : List A) (x : A) : Type 0 where
  pub at : ℕ
  pub inside : at < length xs
  pub is : Nth xs at x

abbrev pub Caused : Book → Fit → Cause → Type 0
Caused k f (cause.own w e c) = Member f.objects w.item × Member k.effects e
Caused k f (cause.projected w e c r) = Member f.objects w.item × Member k.effects e
Caused k f (cause.buff b o) = Member f.buffs b

-- what a taken effect comes of
pub record Collects (k : Book) (f : Fit) (t : Pass2Effect) : Type 0 where
  pub cause : Cause
  pub modifier : DogmaModifier
  pub of : Of f cause modifier t
  pub listed : Member k.modifiers modifier
  pub caused : Caused k f cause
