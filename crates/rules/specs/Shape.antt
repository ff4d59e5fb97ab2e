-- 1 SHAPE: whether the bytes are a sheet, and if not, which table is the first bad one, 0 for the header. 01, "The sheet".
use Rattle.std.specs.Prelude.{ℕ, zero, suc, ◌+◌, ◌*◌, Bool, true, false, ◌&&◌, ◌||◌, not, List, [], ◌∷◌, map, length, ltb, leb, eqb}
use Rattle.std.proofs.Math.Option.{Option, none, some}
use Rattle.laws.specs.Lists.{from, every?, ascends, not_descending}
use Rattle.laws.specs.Floats.{finite}
use Rattle.rules.specs.Bytes.{u32_at, pairs_of, count_of, offset_of, width_of, limit_of}
use Rattle.rules.specs.Sheet.{Book, Fit, book_of, fit_of, bases_of}
use Rattle.rules.specs.declared.Item.{Item}

-- where table t ends; "A header of 100 bytes"; "Tables follow in order without gaps"
abbrev pub end_of : List (List ℕ) → ℕ → ℕ
end_of pairs zero = 100
end_of pairs (suc t) = offset_of pairs (suc t) + width_of (suc t) * count_of pairs (suc t)

-- table t + 1 has at most its most records, and "Tables follow in order without gaps"
abbrev pub placed : List (List ℕ) → ℕ → Bool
placed pairs t = leb (count_of pairs (suc t)) (limit_of (suc t)) && eqb (offset_of pairs (suc t)) (end_of pairs t)

-- "Counts, offsets, total length, depth and recording are the header's, place 0"
unfoldable pub header_good : List ℕ → List (List ℕ) → Bool
header_good b pairs =
    leb 100 (length b) && every? (placed pairs) (from 0 10) && eqb (end_of pairs 10) (length b)
    && leb 1 (u32_at b 92) && leb (u32_at b 92) 256 && leb (u32_at b 96) 1

-- "First plus count is at most its table's count"
abbrev pub inside : ℕ → ℕ → ℕ → Bool
inside first count n = leb (first + count) n

-- "Ids in 1, 2 and 5 ascend strictly"; "Other flag bits .. break the sheet"; "All floats are finite"
unfoldable pub attributes_good : Book → Bool
attributes_good k =
    ascends (map (λ r. r.id) k.attributes) && every? (λ r. leb r.flags 3 && finite r.default_value) k.attributes

-- "Ids in 1, 2 and 5 ascend strictly"; "First plus count is at most its table's count"
unfoldable pub effects_good : Book → Bool
effects_good k =
    ascends (map (λ r. r.id) k.effects)
    && every? (λ r. inside r.first_modifier r.modifiers (length k.modifiers)) k.effects

-- "types in 4 do not descend"
unfoldable pub type_effects_good : Book → Bool
type_effects_good k =
    not_descending (map (λ r. r.type_id) k.type_effects) && every? (λ r. leb r.is_default 1) k.type_effects

-- "Ids in 1, 2 and 5 ascend strictly"; "First plus count is at most its table's count"
unfoldable pub buff_collections_good : Book → Bool
buff_collections_good k =
    ascends (map (λ r. r.id) k.buff_collections)
    && every? (λ r. inside r.first_modifier r.modifiers (length k.modifiers)) k.buff_collections

-- "Objects stand as: ship, at most one mode, char, projected, items each with at most one charge right after, skills":
-- whether one of kind k may stand right after one of kind a
unfoldable pub follows : ℕ → ℕ → Bool
follows a k =
    (eqb k 1 && eqb a 0) || (eqb k 2 && leb a 1) || (eqb k 6 && (eqb a 2 || eqb a 6)) || (eqb k 3 && (leb 2 a && not (eqb a 5)))
    || (eqb k 4 && eqb a 3) || (eqb k 5 && leb 2 a)

-- the kinds after one of kind a: the last is neither ship nor mode, so a char stands among them; "ship, at most one mode, char, projected"
unfoldable pub stand_after : ℕ → List ℕ → Bool
stand_after a [] = leb 2 a
stand_after a (k ∷ r) = follows a k && stand_after k r

-- "Objects stand as: ship"
unfoldable pub stand : List ℕ → Bool
stand [] = false
stand (k ∷ r) = eqb k 0 && stand_after k r

-- "codes above those listed for kind, slot and state"; "only an item's may be nonzero"
unfoldable pub object_good : Fit → Item → Bool
object_good f o =
    leb o.slot 11 && (eqb o.kind 3 || eqb o.slot 0) && leb o.state 4 && leb o.max_state 4 && leb o.flags 3
    && inside o.first_attribute o.attributes (length f.bases)
    && inside o.first_ability o.abilities (length f.ids)
    && inside o.first_side_effect o.side_effects (length f.ids)

-- "Objects stand as: ship, at most one mode, char, projected, items each with at most one charge right after, skills"
unfoldable pub objects_good : Fit → Bool
objects_good f = stand (map (λ o. o.kind) f.objects) && every? (object_good f) f.objects

-- "base attributes of one object ascend strictly (place 7)"
unfoldable pub bases_good : Fit → Bool
bases_good f =
    every? (λ r. finite r.value) f.bases && every? (λ o. ascends (map (λ r. r.attribute_id) (bases_of f o))) f.objects

-- "All floats are finite"
unfoldable pub buffs_good : Fit → Bool
buffs_good f = every? (λ r. finite r.value) f.buffs

-- "a pointer that leads outside is charged to the table that holds it"
unfoldable pub asks_good : Fit → Bool
asks_good f = every? (λ a. ltb a.object (length f.objects)) f.asks

-- the first bad one among tables t, t + 1, .. whose verdicts are listed; "first bad table, 0 for the header"
abbrev pub first_bad : ℕ → List Bool → Option ℕ
first_bad t [] = none
first_bad t (true ∷ r) = first_bad (suc t) r
first_bad t (false ∷ r) = some t

-- tables 3 and 8 have no rule of their own; "first bad table"
unfoldable pub book_bad : Book → Option ℕ
book_bad k = first_bad 1 (attributes_good k ∷ effects_good k ∷ true ∷ type_effects_good k ∷ buff_collections_good k ∷ [])

-- "first bad table"
unfoldable pub fit_bad : Fit → Option ℕ
fit_bad f = first_bad 6 (objects_good f ∷ bases_good f ∷ true ∷ buffs_good f ∷ asks_good f ∷ [])

-- "header first, tables 1 to 10"
unfoldable pub bad_shape : List ℕ → Option ℕ
bad_shape b = elim (header_good b (pairs_of b)) [
  | false ↦ some 0
  | true ↦ elim (book_bad (book_of b (pairs_of b))) [ some t ↦ some t | none ↦ fit_bad (fit_of b (pairs_of b)) ]
]
