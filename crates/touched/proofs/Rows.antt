-- An effect's entries in the rows of the definition: exactly one where it hits, on the attribute that it modifies, and as many in all as there are hits.
use Prim.Native.Nat.{ℕ, ◌+◌, ◌<◌}
use native.Mathlib.Nat.{zero-add}
use native.Mathlib.Omega.{arith}
use mathlib.Core.Path.{◌≡◌, refl, sym, ap, ap₂, ◌∙◌}
use mathlib.Core.Bool.{Bool, true, false, ◌&&◌, ◌||◌}
use mathlib.Core.List.{List, [], ◌∷◌, map}
use borrow.Author.Tests.{eq-eqb}
use lib.Dec.{eqb}
use lib.IntN.{ℤ}
use lib.ListN.{length, get_or, length-map}
use Rattle.laws.specs.Lists.{eq_z, some?, every?, keep, flat, ascends, total}
use Rattle.laws.specs.Floats.{finite}
use Rattle.laws.proofs.Bools.{and_left, and_right, and_both}
use Rattle.laws.proofs.Every.{every_at, every_weaker, every_map}
use Rattle.laws.proofs.Flat.{flat-length, flat_map}
use Rattle.laws.proofs.Inserts.{ascends-insert_all, insert_all_member}
use Rattle.laws.proofs.Keep.{keep-map, keep-keep, keep_same}
use Rattle.laws.proofs.Maps.{map_same}
use Rattle.laws.proofs.Order.{eq_z_refl}
use Rattle.rules.specs.Sheet.{Book, Fit, bases_of}
use Rattle.rules.specs.Shape.{bases_good}
use Rattle.rules.specs.Item.{object, no_item}
use Rattle.rules.specs.Columns.{yes1}
use Rattle.rules.specs.Dispatch.{Row, hit, Numbered, numbered, entry, hits_on, ids_of, row_of, rows}
use Rattle.rules.specs.declared.Item.{Item}
use Rattle.rules.specs.declared.Effect.{Effect}
use Rattle.rules.specs.declared.Pass2Effect.{Pass2Effect}
use Rattle.promises.specs.NoMemory.{Sound}
use Rattle.touched.specs.Named.{named}
use Rattle.touched.specs.Touched.{entries_for, named_sum}
use Rattle.touched.proofs.Counting.{keep-flat, flat-flat, keep_failing, yes_kept, both_sums, one-id, spread_whole}
use Rattle.touched.proofs.Numbered.{target, kept_one, numbered_kept, target_there, total-one}
use Rattle.touched.proofs.Hits.{named-is-hit}

abbrev entries_of : Row → List Effect
entries_of r = r.entries

-- an object's base attributes ascend: those of a sound fit do
abbrev ordered : Fit → Item → Bool
ordered f o = ascends (map (λ r. r.attribute_id) (bases_of f o))

all_ordered : (f : Fit) → Sound f → every? (ordered f) f.objects ≡ true
unfolding bases_good
all_ordered f s = and_right (every? (λ r. finite r.value) f.bases) (every? (ordered f) f.objects) s.bases

-- what is put in is there
among : (xs ids : List ℤ) → every? (λ a. some? (eq_z a) (xs)) ids ≡ true → (l : List ℤ) → every? (λ a. some? (eq_z a) xs || some? (eq_z a) l) ids ≡ true
among xs ids h l = every_weaker (λ a. some? (eq_z a) xs) (λ a. some? (eq_z a) xs || some? (eq_z a) l) (λ a e. ap (λ (b : Bool). b || some? (eq_z a) l) e) ids h

each_itself : (xs : List ℤ) → every? (λ a. some? (eq_z a) xs) xs ≡ true
each_itself [] = refl
each_itself (x ∷ xs) =
    and_both (ap (λ (b : Bool). b || some? (eq_z x) xs) (eq_z_refl x))
    (every_weaker (λ a. some? (eq_z a) xs) (λ a. eq_z a x || some? (eq_z a) xs) (λ a e. later (eq_z a x) (some? (eq_z a) xs) e) xs (each_itself xs))
  where
    later : (s t : Bool) → t ≡ true → s || t ≡ true
    later true t e = refl
    later false t e = e

module _ (k : Book) (f : Fit) (ts : List Pass2Effect) where
  abbrev own : Item → List Row
  own o = map (row_of k f ts o) (ids_of k f ts o)

  abbrev key : ℕ → ℤ → Row → Bool
  key i a r = eqb r.object i && eq_z r.id a

  abbrev by : ℕ → Effect → Bool
  by j e = eqb e.number j

  abbrev on : ℤ → Numbered → Bool
  on a n = eq_z (target n.effect) a

  abbrev hits : Item → Numbered → Bool
  hits o n = hit k f n.effect o

  -- its targets, and its base attributes
  abbrev targets : Item → List ℤ
  targets o = map (λ n. target n.effect) (hits_on k f ts o)

  abbrev bases : Item → List ℤ
  bases o = map (λ r. r.attribute_id) (bases_of f o)

  ids_ascend : (o : Item) → ordered f o ≡ true → ascends (ids_of k f ts o) ≡ true
  unfolding ids_of
  ids_ascend o h = ascends-insert_all (targets o) (bases o) h

  -- ---- one row

  row_one : (o : Item) (a : ℤ) (j : ℕ) (z : Pass2Effect) → j < length ts → length (keep (by j) (row_of k f ts o a).entries) ≡ yes1 (hit k f (get_or ts j z) o && eq_z (target (get_or ts j z)) a)
  unfolding row_of hits_on entry
  row_one o a j z h =
      ap length (keep-map (by j) (entry k f o) (keep (on a) (hits_on k f ts o)))
      ∙ length-map (keep (λ n. eqb n.number j) (keep (on a) (hits_on k f ts o))) (entry k f o)
      ∙ ap (λ (l : List Numbered). length (keep (λ n. eqb n.number j) l)) (keep-keep (on a) (hits o) (numbered 0 ts))
      ∙ ap length (keep-keep (λ n. eqb n.number j) (λ n. hits o n && on a n) (numbered 0 ts))
      ∙ ap (λ (m : ℕ). length (keep (λ n. hits o n && on a n && eqb n.number m) (numbered 0 ts))) (sym (zero-add j))
      ∙ kept_one (λ t. hit k f t o && eq_z (target t) a) j 0 ts z h

  -- ---- one object

  own_kept : (o : Item) (i : ℕ) (a : ℤ) (b : Bool) → eqb o.number i ≡ b → keep (key i a) (own o) ≡ map (row_of k f ts o) (keep (λ x. b && eq_z x a) (ids_of k f ts o))
  unfolding row_of
  own_kept o i a b e =
      keep-map (key i a) (row_of k f ts o) (ids_of k f ts o) ∙ ap (λ (c : Bool). map (row_of k f ts o) (keep (λ x. c && eq_z x a) (ids_of k f ts o))) e

  abbrev counted : ℕ → ℤ → ℕ → Item → List Effect
  counted i a j o = keep (by j) (flat entries_of (keep (key i a) (own o)))

  -- of another number
  other_none : (i : ℕ) (a : ℤ) (j : ℕ) (o : Item) → eqb o.number i ≡ false → length (counted i a j o) ≡ 0
  other_none i a j o e =
      ap (λ (l : List Row). length (keep (by j) (flat entries_of l)))
      (own_kept o i a false e ∙ ap (map (row_of k f ts o)) (keep_failing (λ (x : ℤ). false) (λ x. refl) (ids_of k f ts o)))

  target_among : (o : Item) (j : ℕ) (z : Pass2Effect) → j < length ts → hit k f (get_or ts j z) o ≡ true → some? (eq_z (target (get_or ts j z))) (ids_of k f ts o) ≡ true
  unfolding ids_of hits_on
  target_among o j z h e =
      let a = target (get_or ts j z) in
      insert_all_member a (targets o) (bases o) ∙ ap (λ (b : Bool). b || some? (eq_z a) (bases o)) (target_there (λ t. hit k f t o) j 0 ts z h e)

  object-one : (o : Item) (i : ℕ) (a : ℤ) (j : ℕ) (z : Pass2Effect) → o.number ≡ i → ordered f o ≡ true → j < length ts → length (counted i a j o) ≡ yes1 (hit k f (get_or ts j z) o && eq_z a (target (get_or ts j z)))
  object-one o i a j z e s h =
      let ids = ids_of k f ts o in
      let t = get_or ts j z in
      ap (λ (l : List Row). length (keep (by j) (flat entries_of l))) (own_kept o i a true (eq-eqb o.number i e))
      ∙ ap (λ (l : List Effect). length (keep (by j) l)) (flat_map entries_of (row_of k f ts o) (keep (λ x. eq_z x a) ids))
      ∙ ap length (keep-flat (by j) (λ x. (row_of k f ts o x).entries) (keep (λ x. eq_z x a) ids))
      ∙ flat-length (λ x. keep (by j) (row_of k f ts o x).entries) (keep (λ x. eq_z x a) ids)
      ∙ ap total (map_same (λ x. length (keep (by j) (row_of k f ts o x).entries)) (λ x. yes1 (hit k f t o && eq_z (target t) x)) (λ x. row_one o x j z h) (keep (λ x. eq_z x a) ids))
      ∙ yes_kept (λ x. hit k f t o && eq_z (target t) x) (keep (λ x. eq_z x a) ids)
      ∙ one-id (hit k f t o) (target t) a ids (ids_ascend o s) (target_among o j z h)

  -- ---- all rows

  pub rows_touched : Sound f → (i : ℕ) (a : ℤ) (j : ℕ) (z : Pass2Effect) → i < length f.objects → j < length ts
      → length (entries_for (rows k f ts) i a j) ≡ yes1 (named k f (get_or ts j z) (object f i) && eq_z a (get_or ts j z).target_attribute_id)
  unfolding rows
  rows_touched s i a j z h l =
      ap (λ (x : List Row). length (keep (by j) (flat entries_of x))) (keep-flat (key i a) own f.objects)
      ∙ ap (λ (x : List Effect). length (keep (by j) x)) (flat-flat entries_of (λ o. keep (key i a) (own o)) f.objects)
      ∙ ap length (keep-flat (by j) (λ o. flat entries_of (keep (key i a) (own o))) f.objects)
      ∙ flat-length (counted i a j) f.objects
      ∙ total-one (λ o. length (counted i a j o)) i 0 f.objects (λ n m. s.numbered n m ∙ sym (zero-add n)) h
      (λ o e. other_none i a j o (ap (eqb o.number) (sym (zero-add i)) ∙ e))
      ∙ object-one (object f i) i a j z (s.numbered i h) (every_at (ordered f) f.objects i no_item (all_ordered f s) h) l
      ∙ ap (λ (b : Bool). yes1 (b && eq_z a (target (get_or ts j z)))) (sym (named-is-hit k f (get_or ts j z) (object f i)))

  -- ---- how many there are

  row_entries : (o : Item) (a : ℤ) → length (row_of k f ts o a).entries ≡ length (keep (on a) (hits_on k f ts o))
  unfolding row_of
  row_entries o a = length-map (keep (on a) (hits_on k f ts o)) (entry k f o)

  targets_among : (o : Item) → every? (λ a. some? (eq_z a) (ids_of k f ts o)) (targets o) ≡ true
  unfolding ids_of
  targets_among o =
      every_weaker (λ a. some? (eq_z a) (targets o) || some? (eq_z a) (bases o)) (λ a. some? (eq_z a) (ids_of k f ts o)) (λ a e. insert_all_member a (targets o) (bases o) ∙ e) (targets o)
      (among (targets o) (targets o) (each_itself (targets o)) (bases o))

  -- an object's entries are its hits
  object_entries : (o : Item) → ordered f o ≡ true → length (flat entries_of (own o)) ≡ length (hits_on k f ts o)
  object_entries o h =
      ap length (flat_map entries_of (row_of k f ts o) (ids_of k f ts o))
      ∙ flat-length (λ a. (row_of k f ts o a).entries) (ids_of k f ts o)
      ∙ ap total (map_same (λ a. length (row_of k f ts o a).entries) (λ a. length (keep (on a) (hits_on k f ts o))) (row_entries o) (ids_of k f ts o))
      ∙ spread_whole (λ n. target n.effect) (ids_of k f ts o) (ids_ascend o h) (hits_on k f ts o) (targets_among o)

  hit_count : (o : Item) → length (hits_on k f ts o) ≡ length (keep (λ t. hit k f t o) ts)
  unfolding hits_on
  hit_count o = numbered_kept (λ t. hit k f t o) 0 ts

  all_entries : (os : List Item) → every? (ordered f) os ≡ true → total (map (λ o. length (flat entries_of (own o))) os) ≡ total (map (λ o. length (keep (λ t. hit k f t o) ts)) os)
  all_entries [] h = refl
  all_entries (o ∷ os) h =
      ap₂ (λ (m n : ℕ). m + n) (object_entries o (and_left (ordered f o) (every? (ordered f) os) h) ∙ hit_count o) (all_entries os (and_right (ordered f o) (every? (ordered f) os) h))

  pub rows_counted : Sound f → length (flat (λ (r : Row). r.entries) (rows k f ts)) ≡ named_sum k f ts
  unfolding rows
  rows_counted s =
      ap length (flat-flat entries_of own f.objects)
      ∙ flat-length (λ o. flat entries_of (own o)) f.objects
      ∙ all_entries f.objects (all_ordered f s)
      ∙ both_sums (hit k f) f.objects ts
      ∙ ap total (map_same (λ t. length (keep (hit k f t) f.objects)) (λ t. length (keep (named k f t) f.objects)) (λ t. ap length (sym (keep_same (named k f t) (hit k f t) (named-is-hit k f t) f.objects))) ts)
