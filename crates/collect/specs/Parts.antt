-- The parts of collection: what all objects go by, and what each pass over the objects collects.
use Rattle.std.specs.Prelude.{ℕ, ◌≤◌, ◌<◌, ◌≡◌, Bool, false, cond, ◌&&◌, ◌||◌, List, [], ◌++◌, leb, length}
use Rattle.laws.specs.Lists.{keep, flat}
use Rattle.rules.specs.Sheet.{Book, Fit}
use Rattle.rules.specs.Item.{object, is_item, is_charge, is_skill, is_projected, char_of, item_of, structure_fit, passed}
use Rattle.rules.specs.Collect.{Move, own_moves, projected_moves, fitted_moves, buff_moves}
use Rattle.rules.specs.declared.Item.{Item}
use Rattle.item.specs.Categories.{CategoriesOf}
use Rattle.collect.specs.declared.Hull.{Hull}
use Rattle.collect.specs.declared.Phase.{Phase}
use Rattle.collect.specs.declared.Phase.TheVariants.{Front, Projected, Fitted, Skills}

-- h is what the objects of the fit go by
pub record HullOf (k : Book) (f : Fit) (h : Hull) : Type 0 where
  pub categories : CategoriesOf k h.categories
  pub structure : h.structure ≡ structure_fit f
  pub character : h.character ≡ char_of f

-- whether an object is collected in a phase, and what it gives then
abbrev pub in_phase : Phase → Item → Bool
in_phase Front o = leb o.kind 2
in_phase Projected o = is_projected o
in_phase Fitted o = is_item o || is_charge o
in_phase Skills o = is_skill o

abbrev pub phase_moves : Book → Fit → Phase → Item → List Move
phase_moves k f Front o = own_moves k f o
phase_moves k f Projected o = projected_moves k f o
phase_moves k f Fitted o = fitted_moves k f o
phase_moves k f Skills o = own_moves k f o

abbrev pub object_moves : Book → Fit → Phase → Item → List Move
object_moves k f x o = cond (in_phase x o) (phase_moves k f x o) []

-- all of a phase
abbrev pub all_of : Book → Fit → Phase → List Move
all_of k f x = flat (phase_moves k f x) (keep (in_phase x) f.objects)

-- objects from number n on are skills, and none before it is
pub record SkillsFrom (f : Fit) (n : ℕ) : Type 0 where
  pub inside : n ≤ length f.objects
  pub skilled : (i : ℕ) → i < length f.objects → is_skill (object f i) ≡ leb n i

-- all objects of a phase stand from number n to number m
pub record Ranged (f : Fit) (x : Phase) (n m : ℕ) : Type 0 where
  pub ordered : n ≤ m
  pub inside : m ≤ length f.objects
  pub before : (i : ℕ) → i < n → in_phase x (object f i) ≡ false
  pub behind : (i : ℕ) → m ≤ i → i < length f.objects → in_phase x (object f i) ≡ false

-- all after the projected objects
abbrev pub rest_of : Book → Fit → List Move
rest_of k f = flat (buff_moves k) f.buffs ++ (all_of k f Fitted ++ all_of k f Skills)

-- an item that is passed over, or the charge of one
abbrev pub is_over : Book → Fit → Item → Bool
is_over k f o = is_item o && passed k f o || is_charge o && passed k f (item_of f o)
