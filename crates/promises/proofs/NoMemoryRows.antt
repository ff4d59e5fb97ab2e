-- The rows of a sound fit: no two have the same key, so each is the one that is found, and the walk comes to each.
use Prim.Native.Nat.{ℕ, zero, suc, ◌+◌, ◌<◌, suc-le-suc, zero-le}
use native.Mathlib.Nat.{not-suc-le-zero, le_of_suc-le-suc, add-zero}
use native.Mathlib.Omega.{arith}
use mathlib.Core.Path.{◌≡◌, refl, sym, ap, ◌∙◌}
use mathlib.Core.Bool.{Bool, true, false, ◌&&◌, ◌||◌}
use mathlib.Core.List.{List, [], ◌∷◌, ◌++◌, map}
use mathlib.Core.Option.{some}
use borrow.Author.Tests.{ne_eqb}
use lib.Dec.{eqb}
use lib.IntN.{ℤ}
use lib.ListN.{length, get_or}
use lib.Signed.{lt_z}
use Rattle.laws.specs.Lists.{eq_z, some?, every?, flat, ascends}
use Rattle.laws.specs.Floats.{finite}
use Rattle.laws.proofs.Bools.{and_false_right, and_left, and_right, or_false_left, or_false_right}
use Rattle.laws.proofs.Every.{some_append, none_by, none_at}
use Rattle.laws.proofs.Ascending.{ascends_head, ascends_tail}
use Rattle.laws.proofs.Inserts.{ascends-insert_all}
use Rattle.laws.proofs.Order.{lt_z_apart}
use Rattle.rules.specs.Sheet.{Book, Fit, bases_of}
use Rattle.rules.specs.Shape.{bases_good}
use Rattle.rules.specs.Item.{object, no_item}
use Rattle.rules.specs.Dispatch.{Row, Key, same_key, hits_on, ids_of, row_of, rows}
use Rattle.rules.specs.Value.{find_row}
use Rattle.rules.specs.declared.Item.{Item}
use Rattle.rules.specs.declared.Pass2Effect.{Pass2Effect}
use Rattle.promises.specs.NoMemory.{key_of, no_row, Sound}
use Rattle.promises.proofs.Ranks.{key_itself}

-- ---- rows of different keys

-- none of the list has the key
abbrev Lacks : Key → List Row → Type 0
Lacks a rs = some? (λ r. same_key a (key_of r)) rs ≡ false

abbrev Distinct : List Row → Type 0
Distinct [] = Unit {0}
Distinct (r ∷ rs) = Lacks (key_of r) rs × Distinct rs

pub found_there : (k : ℕ) (rs : List Row) (i : ℕ) → Distinct rs → i < length rs → find_row (get_or rs i no_row).object (get_or rs i no_row).id k rs ≡ some (record { index = k + i; row = get_or rs i no_row })
unfolding find_row
found_there k [] i d h = absurd (not-suc-le-zero h)
found_there k (r ∷ rs) zero d h = rw (find_row, key_itself (key_of r)) (ap (λ (n : ℕ). some (record { index = n; row = r })) (sym (add-zero k)))
found_there k (r ∷ rs) (suc i) d h =
    rw (find_row, none_at (λ x. same_key (key_of r) (key_of x)) rs i no_row d.0 (le_of_suc-le-suc h))
    (found_there (suc k) rs i d.1 (le_of_suc-le-suc h) ∙ ap (λ (n : ℕ). some (record { index = n; row = get_or rs i no_row })) (omega arith))

both_false : (s t : Bool) → s ≡ false → t ≡ false → s || t ≡ false
both_false s t p q = rw (p, q) refl

lacks_append : (a : Key) (xs ys : List Row) → Lacks a xs → Lacks a ys → Lacks a (xs ++ ys)
lacks_append a xs ys p q = some_append (λ r. same_key a (key_of r)) xs ys ∙ both_false _ _ p q

distinct_append : (xs ys : List Row) → Distinct xs → Distinct ys → ((j : ℕ) → j < length xs → Lacks (key_of (get_or xs j no_row)) ys) → Distinct (xs ++ ys)
distinct_append [] ys d e h = e
distinct_append (x ∷ xs) ys d e h =
    (lacks_append (key_of x) xs ys d.0 (h zero (suc-le-suc zero-le)), distinct_append xs ys d.1 e (λ j l. h (suc j) (suc-le-suc l)))

-- an object's base attributes ascend
abbrev ordered : Fit → Item → Bool
ordered f o = ascends (map (λ r. r.attribute_id) (bases_of f o))

module _ (k : Book) (f : Fit) (ts : List Pass2Effect) where
  abbrev own : Item → List Row
  own o = map (row_of k f ts o) (ids_of k f ts o)

  -- ---- one object's rows

  later_lack : (o : Item) (a : ℤ) (l : List ℤ) → every? (lt_z a) l ≡ true → Lacks (key_of (row_of k f ts o a)) (map (row_of k f ts o) l)
  unfolding row_of
  later_lack o a [] h = refl
  later_lack o a (x ∷ l) h =
      both_false _ _
      (ap (λ (t : Bool). eqb o.number o.number && t) (lt_z_apart a x (and_left (lt_z a x) (every? (lt_z a) l) h)) ∙ and_false_right (eqb o.number o.number))
      (later_lack o a l (and_right (lt_z a x) (every? (lt_z a) l) h))

  ids_distinct : (o : Item) (l : List ℤ) → ascends l ≡ true → Distinct (map (row_of k f ts o) l)
  ids_distinct o [] h = tt
  ids_distinct o (a ∷ l) h = (later_lack o a l (ascends_head a l h), ids_distinct o l (ascends_tail a l h))

  -- ---- an object of another number

  others_lack : (a : Key) (o : Item) (l : List ℤ) → eqb a.object o.number ≡ false → Lacks a (map (row_of k f ts o) l)
  unfolding row_of
  others_lack a o [] h = refl
  others_lack a o (x ∷ l) h = both_false _ _ (ap (λ (t : Bool). t && eq_z a.id x) h) (others_lack a o l h)

  pub absent : (a : Key) (os : List Item) → some? (λ o. eqb a.object o.number) os ≡ false → Lacks a (flat own os)
  absent a [] h = refl
  absent a (o ∷ os) h =
      let first = or_false_left (eqb a.object o.number) (some? (λ p. eqb a.object p.number) os) h in
      let rest = or_false_right (eqb a.object o.number) (some? (λ p. eqb a.object p.number) os) h in
      lacks_append a (own o) (flat own os) (others_lack a o (ids_of k f ts o) first) (absent a os rest)

  own_number : (o : Item) (l : List ℤ) (j : ℕ) → j < length (map (row_of k f ts o) l) → (get_or (map (row_of k f ts o) l) j no_row).object ≡ o.number
  unfolding row_of
  own_number o [] j h = absurd (not-suc-le-zero h)
  own_number o (x ∷ l) zero h = refl
  own_number o (x ∷ l) (suc j) h = own_number o l j (le_of_suc-le-suc h)

  all_distinct : (s : ℕ) (os : List Item) → ((j : ℕ) → j < length os → (get_or os j no_item).number ≡ s + j) → every? (ordered f) os ≡ true → Distinct (flat own os)
  unfolding ids_of
  all_distinct s [] n b = tt
  all_distinct s (o ∷ os) n b =
      distinct_append (own o) (flat own os)
      (ids_distinct o (ids_of k f ts o) (ascends-insert_all (map (λ n. n.effect.target_attribute_id) (hits_on k f ts o)) (map (λ r. r.attribute_id) (bases_of f o)) (and_left (ordered f o) (every? (ordered f) os) b)))
      (all_distinct (suc s) os (λ j l. n (suc j) (suc-le-suc l) ∙ omega arith) (and_right (ordered f o) (every? (ordered f) os) b))
      (λ j l. absent (key_of (get_or (own o) j no_row)) os (none_by (λ p. eqb (get_or (own o) j no_row).object p.number) os no_item (λ i h. ne_eqb _ _ (λ e. apart j l i h e))))
    where
      apart : (j : ℕ) → j < length (own o) → (i : ℕ) → i < length os → (get_or (own o) j no_row).object ≡ (get_or os i no_item).number → ⊥
      apart j l i h e = omega (arith, e, own_number o (ids_of k f ts o) j l, n zero (suc-le-suc zero-le), n (suc i) (suc-le-suc h))

  pub rows_distinct : Sound f → Distinct (rows k f ts)
  unfolding rows bases_good
  rows_distinct s = all_distinct 0 f.objects (λ j l. s.numbered j l ∙ omega arith) (and_right (every? (λ r. finite r.value) f.bases) (every? (ordered f) f.objects) s.bases)
