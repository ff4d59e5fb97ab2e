-- Who is touched, of runs and of results: the words of what is said of it. Definitions only.
use Rattle.std.specs.Prelude.{ℕ, Bool, ◌&&◌, cond, List, map, ℤ, pos, eqb, length, take, get_or}
use Rattle.laws.specs.Lists.{eq_z, keep, flat, span, total}
use Rattle.rules.specs.Bytes.{signed}
use Rattle.rules.specs.Sheet.{Book, Fit}
use Rattle.rules.specs.Item.{object}
use Rattle.rules.specs.Dispatch.{Row}
use Rattle.rules.specs.declared.Item.{Item}
use Rattle.rules.specs.declared.Effect.{Effect}
use Rattle.rules.specs.declared.Modifier.{Modifier}
use Rattle.rules.specs.declared.Modifier.TheVariants.{LocationRequiredSkillModifier, LocationGroupModifier, LocationModifier, OwnerRequiredSkillModifier, ItemModifier}
use Rattle.rules.specs.declared.Pass2Effect.{Pass2Effect}
use Rattle.promises.specs.Result.{Result}
use Rattle.touched.specs.Named.{named_by, named}

-- ---- of rows

-- the entries of effect j in the rows of object i and attribute a
abbrev pub entries_for : List Row → ℕ → ℤ → ℕ → List Effect
entries_for rs i a j = keep (λ e. eqb e.number j) (flat (λ r. r.entries) (keep (λ r. eqb r.object i && eq_z r.id a) rs))

-- "the sum, over collected effects, of the objects so named"
abbrev pub named_sum : Book → Fit → List Pass2Effect → ℕ
named_sum k f ts = total (map (λ t. length (keep (named k f t) f.objects)) ts)

-- ---- of a result's columns

-- number j of a row
abbrev at : List ℕ → ℕ → ℕ
at x j = get_or x j 0

-- the entries of effect j in the rows of object i and attribute a: of a row of list 2 number 0 is the object, 1 the attribute,
-- 2 and 3 say where in list 3 its entries are; of an entry number 11 is the effect's row in list 1
abbrev pub entries_in : Result → ℕ → ℤ → ℕ → List (List ℕ)
entries_in r i a j =
    keep (λ e. eqb (at e 11) j)
    (flat (λ x. span (at x 2) (at x 3) r.entries) (keep (λ x. eqb (at x 0) i && eq_z (signed (at x 1)) a) (take r.counts.rows r.rows)))

-- numbers 6 and 7 of a row of list 1: "func 0 to 4 in the order of `Modifier`", and the skill or group
abbrev pub modifier_in : List ℕ → Modifier
modifier_in x =
    cond (eqb (at x 6) 0) (LocationRequiredSkillModifier (signed (at x 7)))
    (cond (eqb (at x 6) 1) (LocationGroupModifier (signed (at x 7)))
    (cond (eqb (at x 6) 2) LocationModifier
    (cond (eqb (at x 6) 3) (OwnerRequiredSkillModifier (signed (at x 7))) ItemModifier)))

-- number 0 is 1 for a buff, number 2 is the source
abbrev pub type_in : Fit → List ℕ → ℤ
type_in f x = cond (eqb (at x 0) 1) (pos 0) (object f (at x 2)).type_id

-- whether the effect of a row of list 1, whose number 10 is the target, names an object
abbrev pub named_in : Book → Fit → List ℕ → Item → Bool
named_in k f x o = named_by k f (modifier_in x) (type_in f x) (at x 10) o

-- number 11 is the attribute that it modifies
abbrev pub attribute_in : List ℕ → ℤ
attribute_in x = signed (at x 11)

-- "the sum, over collected effects, of the objects so named", of list 1's rows
abbrev pub named_sum_in : Book → Fit → List (List ℕ) → ℕ
named_sum_in k f xs = total (map (λ x. length (keep (named_in k f x) f.objects)) xs)
