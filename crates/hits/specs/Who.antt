-- Who is touched: what an aim says of an object's columns and required skills, and when aims say what `hit` says. Definitions only.
use Rattle.std.specs.Prelude.{ℕ, ◌+◌, ◌-◌, ◌≤◌, ◌<◌, ◌≡◌, Bool, true, false, not, ◌&&◌, ◌||◌, List, ◌++◌, map, length, get_or, eqb, leb, ltb}
use Rattle.laws.specs.Lists.{some?, keep, from}
use Rattle.rules.specs.Sheet.{Book, Fit}
use Rattle.rules.specs.Item.{object, is_char, is_item, is_charge, is_owner_modifiable}
use Rattle.rules.specs.Dispatch.{in_location, in_skill_location, hit, by_location, arrival}
use Rattle.rules.specs.declared.Item.{Item}
use Rattle.rules.specs.declared.Pass2Effect.{Pass2Effect}
use Rattle.hits.specs.Reach.{required_bits, reach_of}
use Rattle.hits.specs.declared.Aim.{Aim}
use Rattle.hits.specs.declared.Test.{Test}
use Rattle.hits.specs.declared.Test.TheVariants.{All, OfGroup, Requiring}

-- the test, on an object's columns r and the bits q of the skills that it requires
abbrev pub asked : Test → List ℕ → List ℕ → Bool
asked All r q = true
asked (OfGroup g) r q = eqb (get_or r 7 0) g
asked (Requiring s) r q = some? (eqb s) q

abbrev pub asked_of : Test → Book → Fit → Item → Bool
asked_of t k f o = asked t (reach_of k f o) (required_bits f o)

-- the whole test of an aim, by its column and what it asks
unfoldable pub passes_by : ℕ → Test → List ℕ → List ℕ → Bool
passes_by column t r q = not (eqb (get_or r column 0) 0) && asked t r q

abbrev pub passes : Aim → List ℕ → List ℕ → Bool
passes a = passes_by a.column a.test

abbrev pub meets : Book → Fit → Aim → Item → Bool
meets k f a o = passes a (reach_of k f o) (required_bits f o)

abbrev pub within : Aim → ℕ → Bool
within a i = leb a.«from» i && ltb i a.end

-- an aim is at the objects that pass the test p, and at no others; a location's column is 1 only in its range
pub record Aims (p : Item → Bool) (k : Book) (f : Fit) (a : Aim) : Type 0 where
  pub ordered : a.«from» ≤ a.end
  pub inside : a.end ≤ length f.objects
  pub column : a.column < 8
  pub tight : a.column < 6 → (i : ℕ) → i < length f.objects → eqb (get_or (reach_of k f (object f i)) a.column 0) 0 ≡ false → within a i ≡ true
  pub exact : (i : ℕ) → i < length f.objects → p (object f i) ≡ within a i && meets k f a (object f i)

-- the numbers that an aim hits, in order
unfoldable pub struck : Book → Fit → Aim → List ℕ
struck k f a = keep (λ i. meets k f a (object f i)) (from a.«from» (a.end - a.«from»))

-- ---- the parts of `hit` that an aim covers, with the test q

-- at a location, without the char's items
abbrev pub at_location : Test → ℕ → Book → Fit → Item → Bool
at_location q t k f o = not (is_char (object f t) && is_item o) && (in_location k f t o && asked_of q k f o)

-- the char's items
abbrev pub char_items : Test → ℕ → Book → Fit → Item → Bool
char_items q t k f o = (is_char (object f t) && is_item o) && (in_location k f t o && asked_of q k f o)

-- by a location's required skill
abbrev pub by_skill : Test → ℕ → Book → Fit → Item → Bool
by_skill q t k f o = in_skill_location k f t o && asked_of q k f o

-- by the owner's
abbrev pub by_owner : Test → Book → Fit → Item → Bool
by_owner q k f o = (is_charge o || is_item o && is_owner_modifiable o) && asked_of q k f o

-- object n alone
abbrev pub alone : ℕ → Test → Aim
alone n q = record { «from» = n; end = n + 1; column = 6; test = q }

abbrev pub nobody : Aim
nobody = record { «from» = 0; end = 0; column = 6; test = All }

-- ---- the aims of a collected effect

-- whether an object arrives last: the char's location has its items after the others
abbrev pub is_late : Fit → Pass2Effect → Item → Bool
is_late f t o = (by_location t.modifier && is_char (object f t.target)) && is_item o

-- the first aim is at those that arrive first, the second at those that arrive last
abbrev pub First : Book → Fit → Pass2Effect → Aim → Type 0
First k f t a = Aims (λ o. not (is_late f t o) && hit k f t o) k f a

abbrev pub Second : Book → Fit → Pass2Effect → Aim → Type 0
Second k f t b = Aims (λ o. is_late f t o && hit k f t o) k f b

-- whom the effect touches, in the order of arrival: whom the first aim hits, then whom the second does; nobody is hit twice
pub record Aimed (k : Book) (f : Fit) (t : Pass2Effect) (a b : Aim) : Type 0 where
  pub arrive : map (λ o. o.number) (keep (hit k f t) (arrival f t)) ≡ struck k f a ++ struck k f b
  pub exact : (i : ℕ) → i < length f.objects → hit k f t (object f i) ≡ within a i && meets k f a (object f i) || within b i && meets k f b (object f i)
  pub once : (i : ℕ) → i < length f.objects → within a i && meets k f a (object f i) ≡ true → within b i && meets k f b (object f i) ≡ false
