-- The hits of an aim by maps. Definitions only.
use Rattle.std.specs.Prelude.{ℕ, ◌*◌, ◌≡◌, Bool, true, List, map, length}
use Rattle.laws.specs.Lists.{keep, from}
use Rattle.rules.specs.Sheet.{Book, Fit}
use Rattle.hits.specs.declared.Aim.{Aim}
use Rattle.hits.specs.declared.Test.{Test}
use Rattle.hits.specs.declared.Test.TheVariants.{All, OfGroup, Requiring}
use Rattle.hits.specs.Reach.{reach_of, required_bits}
use Rattle.hits.specs.Steps.{struck_by}
use Rattle.maps.specs.Words.{ones_cut, cut_places}
use Rattle.maps.specs.Keys.{group_key}

-- what the two tables of the plain test hold, of all objects
abbrev pub reach_table : Book → Fit → List (List ℕ)
reach_table k f = map (reach_of k f) f.objects

abbrev pub skill_table : Fit → List (List ℕ)
skill_table f = map (required_bits f) f.objects

-- the objects that an aim hits
abbrev pub hit_by : Book → Fit → Aim → List ℕ
hit_by k f a = struck_by (reach_table k f) (skill_table f) a

-- whether an object passes a test, by its key
abbrev pub tested : (ℕ → ℕ → Bool) → Test → ℕ → Bool
tested has All i = true
tested has (OfGroup g) i = has (group_key g) i
tested has (Requiring s) i = has s i

-- what two stretches of words have in common is whom a test lets pass, of n words' objects: in order, and how many
pub record Both (ws : List ℕ) (a b m n : ℕ) (p : ℕ → Bool) : Type 0 where
  pub places : cut_places ws a b m ≡ keep p (from 0 (n * 64))
  pub count : ones_cut ws a b m ≡ length (keep p (from 0 (n * 64)))
