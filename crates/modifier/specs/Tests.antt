-- What the code's tests and its struct of an object mean.
use Rattle.std.specs.Prelude.{ℕ, suc, ◌<◌, ◌^◌, ◌≡◌, ◌&&◌, true, not, cond, List, eqb, Option, Some, None, Result, Ok, Err}
use Rattle.rules.specs.Sheet.{Fit}
use Rattle.rules.specs.Item.{is_item, is_charge, is_skill, item_of, has_charge, char_of, structure_fit}
use Rattle.rules.specs.Collect.{Move, Test, go, over, bad, then, unless, test_domain}
use Rattle.rules.specs.declared.DogmaModifier.{DogmaModifier}
use Rattle.rules.specs.declared.Item.{Item}
use Rattle.rules.specs.declared.Refusal.{Refusal}
use Rattle.rules.specs.declared.Refusal.TheVariants.{Other}
use Rattle.modifier.specs.declared.codes.Owner.{Owner}

-- what a code stands for, nothing where the modifier is passed over, or a refusal
abbrev pub test_of : {A : Type 0} → Result (Option A) Refusal → Test A
test_of (Ok (Some a)) = go a
test_of (Ok None) = over
test_of (Err x) = bad x

-- the charge right after an object, where there is one
abbrev pub charge_in : Fit → Item → Option ℕ
charge_in f o = cond (has_charge f o) (Some (suc o.number)) None

-- the other of an item and its charge: an item's charge where it has one, and a charge's item
abbrev pub other_in : Fit → Item → Option ℕ
other_in f o = cond (is_item o) (charge_in f o) (cond (is_charge o) (Some (item_of f o).number) None)

-- what an owner has as that other
abbrev pub other_by : Owner → Option ℕ
other_by w = cond (is_item w.item) w.charge (cond (is_charge w.item) (Some w.before) None)

-- w is its object with what of the fit its modifiers go by
pub record OwnerOf (f : Fit) (w : Owner) : Type 0 where
  pub other : other_by w ≡ other_in f w.item
  pub structure : w.structure ≡ structure_fit f
  pub character : w.character ≡ char_of f

-- w is its object, whatever it is, with the charge right after it where there is one and the object before it
pub record WholeOwnerOf (f : Fit) (w : Owner) : Type 0 where
  pub charge : w.charge ≡ charge_in f w.item
  pub before : w.before ≡ (item_of f w.item).number
  pub structure : w.structure ≡ structure_fit f
  pub character : w.character ≡ char_of f

-- an item whose other is meant has a number after its own
abbrev pub Followed : Item → DogmaModifier → Type 0
Followed o m = is_item o ≡ true → m.domain ≡ 3 → suc o.number < 2 ^ 32

-- the domain OtherID, where an item without charge is passed over
abbrev pub test_other : Fit → Item → DogmaModifier → Test ℕ
test_other f o m =
    cond (is_item o) (cond (has_charge f o) (go (suc o.number)) over)
    (cond (is_charge o) (go (item_of f o).number) (bad (Other m.number)))

-- "item without charge, target domain"
abbrev pub test_own_domain : Fit → Item → DogmaModifier → Test ℕ
test_own_domain f o m = cond (eqb m.domain 3) (test_other f o m) (test_domain f o m)

-- "item without charge, ship domain skipped, target domain", and then g
abbrev pub own_target : Fit → Item → DogmaModifier → (ℕ → List Move) → List Move
own_target f o m g =
    unless (is_item o && eqb m.domain 3 && not (has_charge f o)) (
    unless (is_skill o && structure_fit f && eqb m.domain 1) (
    then (test_domain f o m) g))
