-- A run: DONE with what it gives, or the first refusal met. 01, "What comes back": "Order: SHAPE .., base attributes copied to
-- rows (ROOM 2), collection, dispatch, asks, walk".
use Rattle.std.specs.Prelude.{ℕ, suc, min, Bool, true, false, ◌||◌, cond, List, [], ◌∷◌, ◌++◌, map, length, leb, ltb, eqb, Float}
use Rattle.std.proofs.Math.Option.{Option, none, some}
use Rattle.laws.specs.Lists.{keep, flat}
use Rattle.rules.specs.Answer.{Res, ok, refused, ◌>>=◌}
use Rattle.rules.specs.Bytes.{pairs_of}
use Rattle.rules.specs.Sheet.{Book, Fit, book_of, fit_of}
use Rattle.rules.specs.Shape.{bad_shape}
use Rattle.rules.specs.Item.{is_ship, is_mode, is_char, is_item, is_charge, is_skill, is_projected}
use Rattle.rules.specs.States.{States, states_of}
use Rattle.rules.specs.Collect.{Move, taken, plain, refuse, Plain, moves, taken_of, plain_of}
use Rattle.rules.specs.Dispatch.{Row, rows, base_keys, hit_keys, full_at}
use Rattle.rules.specs.Value.{World, Mem, value_of}
use Rattle.rules.specs.declared.Item.{Item}
use Rattle.rules.specs.declared.Ask.{Ask}
use Rattle.rules.specs.declared.Pass2Effect.{Pass2Effect}
use Rattle.rules.specs.declared.Source.{Source}
use Rattle.rules.specs.declared.Refusal.TheVariants.{Shape, Room}

-- how long each column is that is lent; "Lists lent: 1 collected effects, 2 attribute rows, 3 entries, 4 plain effects, 5 source rows"
pub record Lent : Type 0 where
  pub collected : ℕ
  pub collected_values : ℕ
  pub rows : ℕ
  pub bases : ℕ
  pub values : ℕ
  pub entries : ℕ
  pub entry_values : ℕ
  pub plain : ℕ
  pub sources : ℕ
  pub source_floats : ℕ

-- "A list's room is its shortest column", and at most what 32 bits count
pub record Rooms : Type 0 where
  pub collected : ℕ
  pub rows : ℕ
  pub entries : ℕ
  pub plain : ℕ
  pub sources : ℕ

abbrev pub counted : ℕ → ℕ
counted n = min n 4294967295

-- "A list's room is its shortest column"
abbrev pub rooms_of : Lent → Rooms
rooms_of l =
    record {
      collected = counted (min l.collected l.collected_values);
      rows = counted (min l.rows (min l.bases l.values));
      entries = counted (min l.entries l.entry_values);
      plain = counted l.plain;
      sources = counted (min l.sources l.source_floats);
    }

-- what a run gives
pub record Done : Type 0 where
  pub states : List States
  pub collected : List Pass2Effect
  pub plain : List Plain
  pub rows : List Row
  pub values : List (Option Float)  -- of each row
  pub sources : List (List Source)  -- of each row

-- collection: n collected effects stand and p plain ones; 7 ROOM, lists 1 and 4; "the rules need more rows than a list has"
unfoldable pub collected : Rooms → ℕ → ℕ → List Move → Res Unit
collected q n p [] = ok tt
collected q n p (taken t ∷ r) = elim (ltb n q.collected) [ true ↦ collected q (suc n) p r | false ↦ refused (Room 1) ]
collected q n p (plain o e ∷ r) = elim (ltb p q.plain) [ true ↦ collected q n (suc p) r | false ↦ refused (Room 4) ]
collected q n p (refuse x ∷ r) = refused x

-- "the rules need more rows than a list has"
abbrev pub full : Option ℕ → Res Unit
full none = ok tt
full (some list) = refused (Room list)

-- "then the walk: ship, projected, mode, char, items and charges, skills, ids ascending"
unfoldable pub walk_order : List Item → List Row → List Row
walk_order os rs =
    flat (λ o. keep (λ r. eqb r.object o.number) rs)
    (keep is_ship os ++ (keep is_projected os ++ (keep is_mode os ++ (keep is_char os ++ (keep (λ o. is_item o || is_charge o) os ++ keep is_skill os)))))

-- "Asks go first in their order"
abbrev pub starts_of : Fit → List Row → List Ask
starts_of f rs = f.asks ++ map (λ r. record { object = r.object; attribute_id = r.id }) (walk_order f.objects rs)

-- "Depth: an ask or walk start is 1, what it needs is one deeper"
unfoldable pub valued : World → ℕ → List Ask → Mem → Res Mem
valued w depth [] m = ok m
valued w depth (a ∷ r) m = do
  q ← value_of w depth a.object a.attribute_id m
  valued w depth r q.mem

-- what is collected, the rows, and what values are calculated from
unfoldable pub collected_in : Book → Fit → List Pass2Effect
collected_in k f = taken_of (moves k f)

unfoldable pub rows_in : Book → Fit → List Row
rows_in k f = rows k f (collected_in k f)

-- "recording, 0 or 1"
unfoldable pub world_of : Book → Fit → ℕ → World
world_of k f room =
    record { book = k; rows = rows_in k f; states = map (states_of k f) f.objects; recording = eqb f.recording 1; room = room }

-- "`Cell` and `RefCell` memory becomes value columns threaded through the calls"
abbrev pub blank : List Row → Mem
blank rs = record { values = map (λ r. none) rs; sources = map (λ r. []) rs; used = 0 }

-- "base attributes copied to rows (ROOM 2), collection, dispatch, asks, walk"
unfoldable pub run : Book → Fit → Rooms → Res Done
run k f q = do
  let w = world_of k f q.sources
  let base = length (base_keys f)
  _ ← full (cond (leb base q.rows) none (some 2))
  _ ← collected q 0 0 (moves k f)
  _ ← full (full_at q.rows q.entries (base_keys f) base 0 (hit_keys k f (collected_in k f)))
  m ← valued w f.depth (starts_of f w.rows) (blank w.rows)
  ok (record { states = w.states; collected = collected_in k f; plain = plain_of (moves k f); rows = w.rows; values = m.values; sources = m.sources })

-- of any bytes, with any lists lent; "Order: SHAPE (header first, tables 1 to 10)", then the rest
unfoldable pub outcome : List ℕ → Lent → Res Done
outcome b l = elim (bad_shape b) [
  | some t ↦ refused (Shape t)
  | none ↦ run (book_of b (pairs_of b)) (fit_of b (pairs_of b)) (rooms_of l)
]
