-- The definition's rows ascend by object, then attribute.
use Prim.Native.Nat.{ℕ, suc, ◌<◌}
use native.Mathlib.Omega.{arith}
use mathlib.Core.Path.{◌≡◌, refl, sym, ap₂, ◌∙◌}
use mathlib.Core.Bool.{Bool, true}
use mathlib.Core.List.{List, [], ◌∷◌, ◌++◌, map}
use lib.Dec.{eqb, leb}
use lib.IntN.{ℤ}
use lib.ListN.{length, length-map}
use lib.Signed.{lt_z}
use borrow.Author.Tests.{eqb-true, eq-eqb, leb-true, le-leb}
use Rattle.laws.specs.Lists.{every?, flat, from, ascends}
use Rattle.laws.proofs.Bools.{and_left, and_right, and_both}
use Rattle.laws.proofs.Every.{every_append, every_weaker, every_by}
use Rattle.laws.proofs.Maps.{map_at, map_itself}
use Rattle.laws.proofs.From.{is-table}
use Rattle.laws.proofs.Ascending.{ascends_head, ascends_tail}
use Rattle.laws.proofs.Inserts.{ascends-insert_all}
use Rattle.rules.specs.Sheet.{Book, Fit, bases_of}
use Rattle.rules.specs.Item.{object, no_item}
use Rattle.rules.specs.Dispatch.{Row, hits_on, ids_of, row_of, rows}
use Rattle.rules.specs.declared.Item.{Item}
use Rattle.rules.specs.declared.Pass2Effect.{Pass2Effect}
use Rattle.reading.specs.Held.{row_before, ascending}
use Rattle.reading.proofs.Orders.{lower, level, tested}

-- s stands behind r
abbrev behind : Row → Row → Bool
behind r s = row_before s.object s.id r

ascending_append : (xs ys : List Row) → ascending xs ≡ true → ascending ys ≡ true → every? (λ r. every? (behind r) ys) xs ≡ true → ascending (xs ++ ys) ≡ true
ascending_append [] ys h k m = k
ascending_append (r ∷ xs) ys h k m =
    and_both
    (every_append (behind r) xs ys ∙ and_both (and_left (every? (behind r) xs) (ascending xs) h) (and_left (every? (behind r) ys) (every? (λ q. every? (behind q) ys) xs) m))
    (ascending_append xs ys (and_right (every? (behind r) xs) (ascending xs) h) k (and_right (every? (behind r) ys) (every? (λ q. every? (behind q) ys) xs) m))

-- ---- the rows of one object

module _ (g : ℤ → Row) (p : ℕ) (own : (x : ℤ) → (g x).object ≡ p) (id : (x : ℤ) → (g x).id ≡ x) where
  later : (x : ℤ) (ids : List ℤ) → every? (lt_z x) ids ≡ true → every? (behind (g x)) (map g ids) ≡ true
  later x [] h = refl
  later x (y ∷ ids) h =
      and_both
      (tested (g x).object (g x).id (g y).object (g y).id (level (own x ∙ sym (own y)) (ap₂ lt_z (id x) (id y) ∙ and_left (lt_z x y) (every? (lt_z x) ids) h)))
      (later x ids (and_right (lt_z x y) (every? (lt_z x) ids) h))

  one-ascends : (ids : List ℤ) → ascends ids ≡ true → ascending (map g ids) ≡ true
  one-ascends [] h = refl
  one-ascends (x ∷ ids) h = and_both (later x ids (ascends_head x ids h)) (one-ascends ids (ascends_tail x ids h))

  all_own : (ids : List ℤ) → every? (λ r. eqb r.object p) (map g ids) ≡ true
  all_own [] = refl
  all_own (x ∷ ids) = and_both (eq-eqb (g x).object p (own x)) (all_own ids)

-- ---- one object after another

module _ (block : Item → List Row) (own : (o : Item) → every? (λ r. eqb r.object o.number) (block o) ≡ true) where
  not_below_lem : (os : List Item) (a : ℕ) → map (λ o. o.number) os ≡ from a (length os) → every? (λ s. leb a s.object) (flat block os) ≡ true
  not_below_lem [] a e = refl
  not_below_lem (o ∷ os) a e =
      let n : o.number ≡ a = cc in
      every_append (λ s. leb a s.object) (block o) (flat block os)
      ∙ and_both
      (every_weaker (λ r. eqb r.object o.number) (λ s. leb a s.object) (λ s h. le-leb a s.object (omega (arith, eqb-true s.object o.number h, n))) (block o) (own o))
      (every_weaker (λ s. leb (suc a) s.object) (λ s. leb a s.object) (λ s h. le-leb a s.object (omega (arith, leb-true (suc a) s.object h))) (flat block os)
      (not_below_lem os (suc a) (cc)))

  all_ascend : (os : List Item) (a : ℕ) → map (λ o. o.number) os ≡ from a (length os) → every? (λ o. ascending (block o)) os ≡ true → ascending (flat block os) ≡ true
  all_ascend [] a e h = refl
  all_ascend (o ∷ os) a e h =
      let n : o.number ≡ a = cc in
      ascending_append (block o) (flat block os) (and_left (ascending (block o)) (every? (λ q. ascending (block q)) os) h)
      (all_ascend os (suc a) (cc) (and_right (ascending (block o)) (every? (λ q. ascending (block q)) os) h))
      (every_weaker (λ r. eqb r.object o.number) (λ r. every? (behind r) (flat block os))
      (λ r k. every_weaker (λ s. leb (suc a) s.object) (behind r)
      (λ s m. tested r.object r.id s.object s.id (lower (omega (arith, eqb-true r.object o.number k, leb-true (suc a) s.object m, n))))
      (flat block os) (not_below_lem os (suc a) (cc)))
      (block o) (own o))

-- ---- the definition's rows

module _ (k : Book) (f : Fit) (ts : List Pass2Effect) (number : (i : ℕ) → i < length f.objects → (object f i).number ≡ i)
    (bases : (i : ℕ) → i < length f.objects → ascends (map (λ r. r.attribute_id) (bases_of f (object f i))) ≡ true) where
  numbers : map (λ o. o.number) f.objects ≡ from 0 (length f.objects)
  numbers =
      is-table (λ x. x) (map (λ o. o.number) f.objects) (length f.objects) 0 (length-map f.objects (λ o. o.number))
      (λ i h. map_at (λ o. o.number) f.objects i no_item 0 h ∙ number i h)
      ∙ map_itself (from 0 (length f.objects))

  pub rows_ascend : ascending (rows k f ts) ≡ true
  unfolding rows row_of ids_of
  rows_ascend =
      all_ascend (λ o. map (row_of k f ts o) (ids_of k f ts o)) (λ o. all_own (row_of k f ts o) o.number (λ x. refl) (λ x. refl) (ids_of k f ts o)) f.objects 0 numbers
      (every_by (λ o. ascending (map (row_of k f ts o) (ids_of k f ts o))) f.objects no_item (λ i h.
      one-ascends (row_of k f ts (object f i)) (object f i).number (λ x. refl) (λ x. refl) (ids_of k f ts (object f i))
      (ascends-insert_all (map (λ n. n.effect.target_attribute_id) (hits_on k f ts (object f i))) (map (λ r. r.attribute_id) (bases_of f (object f i))) (bases i h))))
