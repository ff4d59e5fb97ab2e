-- Laws of the places of list 5: one more source row, a source row that changes, and all of them in the end.
use Prim.Native.Nat.{ℕ, zero, suc, ◌+◌, ◌≤◌, ◌<◌}
use native.Mathlib.Nat.{not-suc-le-zero, le_of_suc-le-suc}
use native.Mathlib.Omega.{arith}
use mathlib.Core.Path.{◌≡◌, refl, sym, ap, ◌∙◌}
use mathlib.Core.List.{List, [], ◌∷◌, ◌++◌}
use mathlib.Core.Option.{Option, none, some}
use lib.ListN.{length, get_or, take, set, length-append, length-take}
use lib.Seq.{set-append_left, take-set-le, take-set-lt}
use Rattle.laws.specs.Lists.{total}
use Rattle.sources.specs.Shown.{filled, places, overlaid, shown, first_of}

set_append_far : {A : Type 0} (xs ys : List A) (k : ℕ) (x : A) → set (xs ++ ys) (length xs + k) x ≡ xs ++ set ys k x
set_append_far [] ys k x = ap (λ (n : ℕ). set ys n x) (omega arith)
set_append_far {A} (y ∷ xs) ys k x = next ∙ ap (λ (l : List A). y ∷ l) (set_append_far xs ys k x)
  where
    far : suc (length xs) + k ≡ suc (length xs + k)
    far = omega arith

    next : set (y ∷ xs ++ ys) (suc (length xs) + k) x ≡ y ∷ set (xs ++ ys) (length xs + k) x
    next = rw far refl

-- a place of row i is inside
pub place_inside : (counts : List ℕ) (i k : ℕ) → i < length counts → k < get_or counts i 0 → first_of counts i + k < total counts
place_inside [] i k h b = absurd (not-suc-le-zero h)
place_inside (n ∷ ns) zero k h b = omega arith
place_inside (n ∷ ns) (suc i) k h b = let rest = place_inside ns i k (le_of_suc-le-suc h) b in omega (arith, rest)

module _ {A : Type 0} where
  pub filled_length : (n : ℕ) (q : List A) → length (filled n q) ≡ n
  filled_length zero q = refl
  filled_length (suc n) [] = ap suc (filled_length n [])
  filled_length (suc n) (s ∷ q) = ap suc (filled_length n q)

  -- one more of a row
  pub filled_snoc : (n : ℕ) (q : List A) (r : A) → length q < n → filled n (q ++ (r ∷ [])) ≡ set (filled n q) (length q) (some r)
  filled_snoc zero q r h = absurd (not-suc-le-zero h)
  filled_snoc (suc n) [] r h = refl
  filled_snoc (suc n) (s ∷ q) r h = ap (λ (l : List (Option A)). some s ∷ l) (filled_snoc n q r (le_of_suc-le-suc h))

  -- one of a row changes
  pub filled_set : (n : ℕ) (q : List A) (k : ℕ) (r : A) → k < length q → filled n (set q k r) ≡ set (filled n q) k (some r)
  filled_set zero q k r h = refl
  filled_set (suc n) [] k r h = absurd (not-suc-le-zero h)
  filled_set (suc n) (s ∷ q) zero r h = refl
  filled_set (suc n) (s ∷ q) (suc k) r h = ap (λ (l : List (Option A)). some s ∷ l) (filled_set n q k r (le_of_suc-le-suc h))

  pub places-length : (counts : List ℕ) (qs : List (List A)) → length (places counts qs) ≡ total counts
  places-length [] qs = refl
  places-length (n ∷ ns) [] = length-append (filled n []) (places ns []) ∙ omega (arith, filled_length n [], places-length ns [])
  places-length (n ∷ ns) (q ∷ qs) = length-append (filled n q) (places ns qs) ∙ omega (arith, filled_length n q, places-length ns qs)

  -- a place of row i gets x
  pub places-set : (counts : List ℕ) (qs : List (List A)) (i k : ℕ) (q : List A) (x : Option A) → length qs ≡ length counts → i < length counts → k < get_or counts i 0
      → filled (get_or counts i 0) q ≡ set (filled (get_or counts i 0) (get_or qs i [])) k x → places counts (set qs i q) ≡ set (places counts qs) (first_of counts i + k) x
  places-set [] qs i k q x l h b e = absurd (not-suc-le-zero h)
  places-set (n ∷ ns) [] i k q x l h b e = absurd (omega (arith, l))
  places-set (n ∷ ns) (p ∷ qs) zero k q x l h b e =
      ap (λ (y : List (Option A)). y ++ places ns qs) e ∙ sym (set-append_left (filled n p) (places ns qs) k x (omega (arith, filled_length n p)))
      ∙ ap (λ (y : ℕ). set (filled n p ++ places ns qs) y x) (omega arith)
  places-set (n ∷ ns) (p ∷ qs) (suc i) k q x l h b e =
      ap (λ (y : List (Option A)). filled n p ++ y) (places-set ns qs i k q x (omega (arith, l)) (le_of_suc-le-suc h) b e)
      ∙ sym (set_append_far (filled n p) (places ns qs) (first_of ns i + k) x)
      ∙ ap (λ (y : ℕ). set (filled n p ++ places ns qs) y x) (omega (arith, filled_length n p))

  module _ {B : Type 0} (enc : A → B) where
    pub overlaid_length : (l : List (Option A)) (c : List B) → length (overlaid enc l c) ≡ length c
    overlaid_length [] c = refl
    overlaid_length (x ∷ r) [] = refl
    overlaid_length (none ∷ r) (b ∷ c) = ap suc (overlaid_length r c)
    overlaid_length (some s ∷ r) (b ∷ c) = ap suc (overlaid_length r c)

    overlaid_set : (l : List (Option A)) (c : List B) (p : ℕ) (r : A) → p < length l → overlaid enc (set l p (some r)) c ≡ set (overlaid enc l c) p (enc r)
    overlaid_set [] c p r h = absurd (not-suc-le-zero h)
    overlaid_set (x ∷ l) [] zero r h = refl
    overlaid_set (x ∷ l) [] (suc p) r h = refl
    overlaid_set (none ∷ l) (b ∷ c) zero r h = refl
    overlaid_set (some s ∷ l) (b ∷ c) zero r h = refl
    overlaid_set (none ∷ l) (b ∷ c) (suc p) r h = ap (λ (y : List B). b ∷ y) (overlaid_set l c p r (le_of_suc-le-suc h))
    overlaid_set (some s ∷ l) (b ∷ c) (suc p) r h = ap (λ (y : List B). enc s ∷ y) (overlaid_set l c p r (le_of_suc-le-suc h))

    module _ (room : ℕ) (counts : List ℕ) (qs : List (List A)) (c₀ : List B) (i k : ℕ) (q : List A) (r : A) (l : length qs ≡ length counts) (h : i < length counts) (b : k < get_or counts i 0)
        (e : filled (get_or counts i 0) q ≡ set (filled (get_or counts i 0) (get_or qs i [])) k (some r)) where
      taken : take room (places counts (set qs i q)) ≡ take room (set (places counts qs) (first_of counts i + k) (some r))
      taken = ap (take room) (places-set counts qs i k q (some r) l h b e)

      -- row i's place k gets r, inside the room
      pub shown_put : first_of counts i + k < room → shown enc room counts (set qs i q) c₀ ≡ set (shown enc room counts qs c₀) (first_of counts i + k) (enc r)
      unfolding shown
      shown_put t =
          ap (λ (y : List (Option A)). overlaid enc y c₀) (taken ∙ take-set-lt room (places counts qs) (first_of counts i + k) (some r) t)
          ∙ overlaid_set (take room (places counts qs)) c₀ (first_of counts i + k) r inside
        where
          inside : first_of counts i + k < length (take room (places counts qs))
          inside = omega (arith, t, length-take room (places counts qs), places-length counts qs, place_inside counts i k h b)

      -- and past it
      pub shown_past : room ≤ first_of counts i + k → shown enc room counts (set qs i q) c₀ ≡ shown enc room counts qs c₀
      unfolding shown
      shown_past t = ap (λ (y : List (Option A)). overlaid enc y c₀) (taken ∙ take-set-le room (places counts qs) (first_of counts i + k) (some r) t)

    pub shown_length : (room : ℕ) (counts : List ℕ) (qs : List (List A)) (c₀ : List B) → length (shown enc room counts qs c₀) ≡ length c₀
    unfolding shown
    shown_length room counts qs c₀ = overlaid_length (take room (places counts qs)) c₀
