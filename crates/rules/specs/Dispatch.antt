-- Dispatch: whom a collected effect touches, and so the attribute rows and their entries. The end of `pass_2.rs`; 01, "Dispatch".
use Rattle.std.specs.Prelude.{ℕ, suc, Bool, true, false, ◌&&◌, ◌||◌, not, cond, List, [], ◌∷◌, ◌++◌, map, ℤ, pos, negsuc, ltb, eqb, Float}
use Rattle.std.proofs.Math.Option.{Option, none, some}
use Rattle.laws.specs.Lists.{eq_z, some?, keep, flat, insert_all}
use Rattle.rules.specs.Constants.{attribute_skills, exempt_categories}
use Rattle.rules.specs.Sheet.{Book, Fit, bases_of}
use Rattle.rules.specs.Info.{get_dogma_attribute, stackable, get_base}
use Rattle.rules.specs.Number.{cut}
use Rattle.rules.specs.Item.{object, is_ship, is_char, is_item, is_charge, is_skill, is_in_ship, is_on_char, is_owner_modifiable, item_of}
use Rattle.rules.specs.declared.Item.{Item}
use Rattle.rules.specs.declared.Effect.{Effect}
use Rattle.rules.specs.declared.Modifier.{Modifier}
use Rattle.rules.specs.declared.Modifier.TheVariants.{LocationRequiredSkillModifier, LocationGroupModifier, LocationModifier, OwnerRequiredSkillModifier, ItemModifier}
use Rattle.rules.specs.declared.Origin.{Origin}
use Rattle.rules.specs.declared.Origin.TheVariants as origin
use Rattle.rules.specs.declared.Pass2Effect.{Pass2Effect}

-- ---- the source; "a buff's is 0"

-- "Skill -1 means the source's own type; a buff's is 0"
abbrev pub source_type : Fit → Origin → ℤ
source_type f (origin.Effect e o c a) = (object f o).type_id
source_type f (origin.Buff b v) = pos 0

abbrev pub source_category : Fit → Origin → ℤ
source_category f (origin.Effect e o c a) = (object f o).category_id
source_category f (origin.Buff b v) = pos 0

abbrev pub is_source : Origin → ℕ → Bool
is_source (origin.Effect e o c a) n = eqb o n
is_source (origin.Buff b v) n = false

-- ---- who is hit: a test of one object

-- `required_skills`: "fixed before any entry is added, from base values cut toward zero and held to i32"
unfoldable pub requires : Fit → Item → ℤ → Bool
requires f o skill = some? (λ r. some? (eq_z r.attribute_id) attribute_skills && eq_z (cut r.value) skill) (bases_of f o)

-- "Skill -1 means the source's own type"
abbrev pub meant : Fit → Origin → ℤ → ℤ
meant f g skill = cond (eq_z skill (negsuc 0)) (source_type f g) skill

-- the item that an item or a charge goes by
abbrev pub carrier : Fit → Item → Item
carrier f o = cond (is_charge o) (item_of f o) o

-- `for_each_in_location`: "Mode is not in the ship's location"; the char's has no charges; any other object's is itself alone
unfoldable pub in_location : Book → Fit → ℕ → Item → Bool
in_location k f t o =
    cond (is_ship (object f t)) (is_ship o || (is_item o || is_charge o) && is_in_ship k (carrier f o))
    (cond (is_char (object f t)) (is_char o || is_skill o || is_item o && is_on_char o)
    (eqb o.number t))

-- where a LocationRequiredSkillModifier reaches: items and charges, on the char or in the ship
abbrev pub in_skill_location : Book → Fit → ℕ → Item → Bool
in_skill_location k f t o = (is_item o || is_charge o) && cond (is_char (object f t)) (is_on_char (carrier f o)) (is_in_ship k (carrier f o))

-- "Closures in `for_each_in_location` become a yes or no per object"
unfoldable pub hit : Book → Fit → Pass2Effect → Item → Bool
hit k f t o = hit_by t.modifier
  where
    hit_by : Modifier → Bool
    hit_by ItemModifier = eqb o.number t.target
    hit_by LocationModifier = in_location k f t.target o
    hit_by (LocationGroupModifier g) = in_location k f t.target o && eq_z o.group_id g
    hit_by (LocationRequiredSkillModifier s) = in_skill_location k f t.target o && requires f o (meant f t.origin s)
    hit_by (OwnerRequiredSkillModifier s) = (is_charge o || is_item o && is_owner_modifiable o) && requires f o (meant f t.origin s)

-- ---- what is collected, numbered once: an effect's number is its row in list 1, from 0

pub record Numbered : Type 0 where
  pub number : ℕ
  pub effect : Pass2Effect

abbrev pub numbered : ℕ → List Pass2Effect → List Numbered
numbered n [] = []
numbered n (t ∷ r) = record { number = n; effect = t } ∷ numbered (suc n) r

-- ---- entries: `add_effect`. "Entries keep their collection number"

unfoldable pub entry : Book → Fit → Item → Numbered → Effect
entry k f o n =
    let t = n.effect in
    record {
      origin = t.origin;
      operator = t.operator;
      penalty = not (stackable (get_dogma_attribute k t.target_attribute_id)) && not (some? (eq_z (source_category f t.origin)) exempt_categories);
      quantity = cond (is_source t.origin o.number) 1 t.source_quantity;
      resistance = t.resistance;
      number = n.number;
    }

-- ---- rows: "by object, then attribute id; entries .. by row, then arrival"

-- "2 holds object, attribute, base, value, and first and count in 3 and in 5"
pub record Row : Type 0 where
  pub object : ℕ
  pub id : ℤ
  pub base : Float
  pub entries : List Effect

module _ (k : Book) (f : Fit) (ts : List Pass2Effect) where
  -- what hits an object, in the order of collection
  unfoldable pub hits_on : Item → List Numbered
  hits_on o = keep (λ n. hit k f n.effect o) (numbered 0 ts)

  -- its base attributes, and those that its hits are on; "`BTreeMap`, `BTreeSet`, `Vec` become ordered columns"
  unfoldable pub ids_of : Item → List ℤ
  ids_of o = insert_all (map (λ n. n.effect.target_attribute_id) (hits_on o)) (map (λ r. r.attribute_id) (bases_of f o))

  -- a new row starts at the attribute's default
  unfoldable pub row_of : Item → ℤ → Row
  row_of o a =
      record {
        object = o.number;
        id = a;
        base = elim (get_base f o a) [ none ↦ (get_dogma_attribute k a).default_value | some r ↦ r.value ];
        entries = map (entry k f o) (keep (λ n. eq_z n.effect.target_attribute_id a) (hits_on o));
      }

  -- "Rows run by object, then attribute id"
  unfoldable pub rows : List Row
  rows = flat (λ o. map (row_of o) (ids_of o)) f.objects

-- ---- 7 ROOM, lists 2 and 3: "A row or entry takes room when it arises, a new row before its entry"

pub record Key : Type 0 where
  pub object : ℕ
  pub id : ℤ

abbrev pub same_key : Key → Key → Bool
same_key a b = eqb a.object b.object && eq_z a.id b.id

-- the rows that stand before any collection; "base attributes copied to rows (ROOM 2)"
unfoldable pub base_keys : Fit → List Key
base_keys f = flat (λ o. map (λ r. record { object = o.number; id = r.attribute_id }) (bases_of f o)) f.objects

-- a location's hits arise by number, but that the char's location has its skills before its items
abbrev pub by_location : Modifier → Bool
by_location ItemModifier = false
by_location LocationModifier = true
by_location (LocationGroupModifier g) = true
by_location (LocationRequiredSkillModifier s) = false
by_location (OwnerRequiredSkillModifier s) = false

abbrev pub arrival : Fit → Pass2Effect → List Item
arrival f t =
    cond (by_location t.modifier && is_char (object f t.target))
    (keep (λ o. not (is_item o)) f.objects ++ keep is_item f.objects)
    f.objects

-- each hit, in the order in which it arises
unfoldable pub hit_keys : Book → Fit → List Pass2Effect → List Key
hit_keys k f ts = flat (λ t. map (λ o. record { object = o.number; id = t.target_attribute_id }) (keep (hit k f t) (arrival f t))) ts

-- the list that is full at a hit, if one is: n rows stand, of the keys known, and e entries
-- "A row or entry takes room when it arises, a new row before its entry"
unfoldable pub full_at : ℕ → ℕ → List Key → ℕ → ℕ → List Key → Option ℕ
full_at room2 room3 known n e [] = none
full_at room2 room3 known n e (h ∷ r) = elim (some? (same_key h) known) [
  | true ↦ elim (ltb e room3) [ true ↦ full_at room2 room3 known n (suc e) r | false ↦ some 3 ]
  | false ↦ elim (ltb n room2) [
    | true ↦ elim (ltb e room3) [ true ↦ full_at room2 room3 (h ∷ known) (suc n) (suc e) r | false ↦ some 3 ]
    | false ↦ some 2
  ]
]
