-- The walk comes to each row of a sound fit: its object is of one of the seven kinds.
use Prim.Native.Nat.{ℕ, zero, suc, ◌≤◌, ◌<◌}
use native.Mathlib.Nat.{not-suc-le-zero, le_of_suc-le-suc}
use native.Mathlib.Omega.{arith}
use mathlib.Core.Path.{◌≡◌, refl, sym, ap, ◌∙◌}
use mathlib.Core.Bool.{Bool, true, false, not, ◌&&◌, ◌||◌}
use mathlib.Core.List.{List, [], ◌∷◌, ◌++◌, map}
use mathlib.Core.Logic.{◌⊎◌, inl, inr, ⊎_elim}
use borrow.Author.Tests.{eqb-true, eq-eqb, leb-true, le-leb}
use lib.Dec.{eqb, leb}
use lib.ListN.{length, get_or}
use Rattle.laws.specs.Lists.{some?, every?, put, keep}
use Rattle.laws.proofs.Bools.{both_ways, either, not_failed, and_left, and_right, and_both, or_true_right}
use Rattle.laws.proofs.Every.{some_append, some_flat, some_by, every_at, every_map, Place, some_place}
use Rattle.rules.specs.Sheet.{Book, Fit}
use Rattle.rules.specs.Shape.{follows, stand_after, stand, object_good, objects_good}
use Rattle.rules.specs.Item.{no_item, is_ship, is_mode, is_char, is_item, is_charge, is_skill, is_projected}
use Rattle.rules.specs.Dispatch.{Row, same_key, rows}
use Rattle.rules.specs.Outcome.{walk_order}
use Rattle.rules.specs.declared.Item.{Item}
use Rattle.rules.specs.declared.Pass2Effect.{Pass2Effect}
use Rattle.promises.specs.NoMemory.{key_of, no_row, Sound}
use Rattle.promises.proofs.Ranks.{key_itself}
use Rattle.promises.proofs.NoMemoryRows.{absent}

-- ---- kinds are at most 6

six : (k n : ℕ) (t : Bool) → n ≤ 6 → eqb k n && t ≡ true → k ≤ 6
six k n t l h = omega (arith, eqb-true k n (and_left (eqb k n) t h))

follows_six : (a k : ℕ) → follows a k ≡ true → k ≤ 6
unfolding follows
follows_six a k =
    either _ _
    (either _ _
    (either _ _
    (either _ _
    (either _ _ (six k 1 (eqb a 0) (omega arith)) (six k 2 (leb a 1) (omega arith)))
    (six k 6 (eqb a 2 || eqb a 6) (omega arith)))
    (six k 3 (leb 2 a && not (eqb a 5)) (omega arith)))
    (six k 4 (eqb a 3) (omega arith)))
    (six k 5 (leb 2 a) (omega arith))

after_six : (a : ℕ) (l : List ℕ) → stand_after a l ≡ true → every? (λ k. leb k 6) l ≡ true
unfolding stand_after
after_six a [] h = refl
after_six a (k ∷ l) h =
    and_both (le-leb k 6 (follows_six a k (and_left (follows a k) (stand_after k l) h))) (after_six k l (and_right (follows a k) (stand_after k l) h))

stand_six : (l : List ℕ) → stand l ≡ true → every? (λ k. leb k 6) l ≡ true
unfolding stand
stand_six [] h = refl
stand_six (k ∷ l) h =
    and_both (le-leb k 6 (six k 0 true (omega arith) (and_both (and_left (eqb k 0) (stand_after k l) h) refl))) (after_six k l (and_right (eqb k 0) (stand_after k l) h))

kinds_six : (f : Fit) → Sound f → every? (λ o. leb o.kind 6) f.objects ≡ true
unfolding objects_good
kinds_six f s =
    sym (every_map (λ k. leb k 6) (λ o. o.kind) f.objects) ∙ stand_six (map (λ o. o.kind) f.objects) (and_left (stand (map (λ o. o.kind) f.objects)) (every? (object_good f) f.objects) s.objects)

-- ---- an object of a kind is among those that the walk takes

module _ {A : Type 0} (q : A → Bool) where
  in_left : (xs ys : List A) → some? q xs ≡ true → some? q (xs ++ ys) ≡ true
  in_left xs ys h = some_append q xs ys ∙ ap (λ (t : Bool). t || some? q ys) h

  in_right : (xs ys : List A) → some? q ys ≡ true → some? q (xs ++ ys) ≡ true
  in_right xs ys h = some_append q xs ys ∙ ap (λ (t : Bool). some? q xs || t) h ∙ or_true_right (some? q xs)

  put_has : (t : Bool) (x : A) (xs : List A) → some? q xs ≡ true → some? q (put t x xs) ≡ true
  put_has true x xs h = rw h (or_true_right (q x))
  put_has false x xs h = h

  some_kept : (p : A → Bool) (xs : List A) (i : ℕ) (d : A) → i < length xs → p (get_or xs i d) ≡ true → q (get_or xs i d) ≡ true → some? q (keep p xs) ≡ true
  some_kept p [] i d h e g = absurd (not-suc-le-zero h)
  some_kept p (x ∷ xs) zero d h e g = rw (e, g) refl
  some_kept p (x ∷ xs) (suc i) d h e g = put_has (p x) x (keep p xs) (some_kept p xs i d (le_of_suc-le-suc h) e g)

abbrev walked : List Item → List Item
walked os = keep is_ship os ++ (keep is_projected os ++ (keep is_mode os ++ (keep is_char os ++ (keep (λ o. is_item o || is_charge o) os ++ keep is_skill os))))

module _ (q : Item → Bool) (os : List Item) (i : ℕ) (h : i < length os) (g : q (get_or os i no_item) ≡ true) where
  kept : (p : Item → Bool) → p (get_or os i no_item) ≡ true → some? q (keep p os) ≡ true
  kept p e = some_kept q p os i no_item h e g

  abbrev skills : List Item
  skills = keep is_skill os

  abbrev fitted : List Item
  fitted = keep (λ o. is_item o || is_charge o) os ++ skills

  abbrev chars : List Item
  chars = keep is_char os ++ fitted

  abbrev modes : List Item
  modes = keep is_mode os ++ chars

  abbrev projecteds : List Item
  projecteds = keep is_projected os ++ modes

  past_ship : some? q projecteds ≡ true → some? q (walked os) ≡ true
  past_ship e = in_right q (keep is_ship os) projecteds e

  past_mode : some? q chars ≡ true → some? q (walked os) ≡ true
  past_mode e = past_ship (in_right q (keep is_projected os) modes (in_right q (keep is_mode os) chars e))

  past_char : some? q fitted ≡ true → some? q (walked os) ≡ true
  past_char e = past_mode (in_right q (keep is_char os) fitted e)

  by_kind : (n : ℕ) → (get_or os i no_item).kind ≡ n → n ≤ 6 → some? q (walked os) ≡ true
  by_kind zero e l = in_left q (keep is_ship os) projecteds (kept is_ship (eq-eqb _ _ e))
  by_kind (suc zero) e l = past_ship (in_right q (keep is_projected os) modes (in_left q (keep is_mode os) chars (kept is_mode (eq-eqb _ _ e))))
  by_kind (suc (suc zero)) e l = past_mode (in_left q (keep is_char os) fitted (kept is_char (eq-eqb _ _ e)))
  by_kind (suc (suc (suc zero))) e l =
      past_char (in_left q (keep (λ o. is_item o || is_charge o) os) skills (kept (λ o. is_item o || is_charge o) (ap (λ (t : Bool). t || is_charge (get_or os i no_item)) (eq-eqb _ _ e))))
  by_kind (suc (suc (suc (suc zero)))) e l =
      past_char (in_left q (keep (λ o. is_item o || is_charge o) os) skills (kept (λ o. is_item o || is_charge o) (ap (λ (t : Bool). is_item (get_or os i no_item) || t) (eq-eqb _ _ e) ∙ or_true_right (is_item (get_or os i no_item)))))
  by_kind (suc (suc (suc (suc (suc zero))))) e l = past_char (in_right q (keep (λ o. is_item o || is_charge o) os) skills (kept is_skill (eq-eqb _ _ e)))
  by_kind (suc (suc (suc (suc (suc (suc zero)))))) e l = past_ship (in_left q (keep is_projected os) modes (kept is_projected (eq-eqb _ _ e)))
  by_kind (suc (suc (suc (suc (suc (suc (suc n))))))) e l = absurd (omega arith)

-- ---- each row is walked to

pub walks : (k : Book) (f : Fit) (ts : List Pass2Effect) (i : ℕ) → Sound f → i < length (rows k f ts)
    → some? (λ r. same_key (key_of r) (key_of (get_or (rows k f ts) i no_row))) (walk_order f.objects (rows k f ts)) ≡ true
unfolding walk_order rows
walks k f ts i s l =
    some_flat same (λ o. keep (λ r. eqb r.object o.number) (rows k f ts)) (walked f.objects)
    ∙ by_kind reached f.objects place.at place.inside there (get_or f.objects place.at no_item).kind refl (leb-true _ 6 (every_at (λ o. leb o.kind 6) f.objects place.at no_item (kinds_six f s) place.inside))
  where
    row : Row
    row = get_or (rows k f ts) i no_row

    same : Row → Bool
    same r = same_key (key_of r) (key_of row)

    reached : Item → Bool
    reached o = some? same (keep (λ r. eqb r.object o.number) (rows k f ts))

    -- the object is one of the fit's
    of_fit : some? (λ o. eqb row.object o.number) f.objects ≡ true
    of_fit = not_failed _ (λ e. both_ways (some_by (λ r. same_key (key_of row) (key_of r)) (rows k f ts) i no_row l (key_itself (key_of row))) (absent k f ts (key_of row) f.objects e))

    place : Place (λ o. eqb row.object o.number) f.objects no_item
    place = some_place (λ o. eqb row.object o.number) f.objects no_item of_fit

    there : reached (get_or f.objects place.at no_item) ≡ true
    there = some_kept same (λ r. eqb r.object (get_or f.objects place.at no_item).number) (rows k f ts) i no_row l place.passes (key_itself (key_of row))
