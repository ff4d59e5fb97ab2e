-- Where each row has all its source rows, and there is room for them, list 5 is these, one row's after another's.
use Prim.Native.Nat.{ℕ, suc, ◌≤◌}
use native.Mathlib.Nat.{not-suc-le-zero, le_of_suc-le-suc}
use native.Mathlib.Omega.{arith}
use mathlib.Core.Path.{◌≡◌, refl, sym, ap, ◌∙◌}
use mathlib.Core.List.{List, [], ◌∷◌, map}
use mathlib.Core.Option.{Option, some}
use lib.ListN.{length, get_or, take, length-map}
use lib.Seq.{take_all}
use Rattle.laws.specs.Lists.{flat, total}
use Rattle.laws.specs.Columns.{laid, Col}
use Rattle.laws.proofs.Flat.{flat-length}
use Rattle.laws.proofs.Laid.{laid-length}
use Rattle.laws.proofs.Maps.{map_append}
use Rattle.sources.specs.Shown.{filled, places, overlaid, shown}

module _ {A : Type 0} where
  -- counts that are each list's length
  pub lengths_are : (qs : List (List A)) (ns : List ℕ) → length qs ≡ length ns → ((i : ℕ) → length (get_or qs i []) ≡ get_or ns i 0) → map length qs ≡ ns
  lengths_are [] [] l h = refl
  lengths_are [] (n ∷ ns) l h = absurd (omega (arith, l))
  lengths_are (q ∷ qs) [] l h = absurd (omega (arith, l))
  lengths_are (q ∷ qs) (n ∷ ns) l h = rw (h 0, lengths_are qs ns (omega (arith, l)) (λ i. h (suc i))) refl

  -- no place is left
  filled_whole : (q : List A) → filled (length q) q ≡ map some q
  filled_whole [] = refl
  filled_whole (s ∷ q) = ap (λ (l : List (Option A)). some s ∷ l) (filled_whole q)

  places-whole : (qs : List (List A)) → places (map length qs) qs ≡ map some (flat (λ x. x) qs)
  places-whole [] = refl
  places-whole (q ∷ qs) = rw (filled_whole q, places-whole qs) (sym (map_append some q (flat (λ x. x) qs)))

  module _ {B : Type 0} (enc : A → B) where
    overlaid_whole : (l : List A) (c : List B) → length l ≤ length c → overlaid enc (map some l) c ≡ laid enc l c
    overlaid_whole [] c h = refl
    overlaid_whole (s ∷ l) [] h = absurd (not-suc-le-zero h)
    overlaid_whole (s ∷ l) (b ∷ c) h = ap (λ (y : List B). enc s ∷ y) (overlaid_whole l c (le_of_suc-le-suc h))

    shown_lengths : (room : ℕ) (qs : List (List A)) (c₀ : List B) → total (map length qs) ≤ room → room ≤ length c₀ → shown enc room (map length qs) qs c₀ ≡ laid enc (flat (λ x. x) qs) c₀
    unfolding shown
    shown_lengths room qs c₀ h r =
        let all = flat-length (λ (x : List A). x) qs in
        ap (λ (y : List (Option A)). overlaid enc (take room y) c₀) (places-whole qs)
        ∙ ap (λ (y : List (Option A)). overlaid enc y c₀) (take_all room (map some (flat (λ x. x) qs)) (omega (arith, h, all, length-map (flat (λ (x : List A). x) qs) (λ x. some x))))
        ∙ overlaid_whole (flat (λ x. x) qs) c₀ (omega (arith, h, r, all))

    module _ (room : ℕ) (counts : List ℕ) (qs : List (List A)) (c₀ : List B) (l : length qs ≡ length counts) (h : (i : ℕ) → length (get_or qs i []) ≡ get_or counts i 0) (t : total counts ≤ room) (r : room ≤ length c₀) where
      together : total counts ≡ length (flat (λ x. x) qs)
      together = sym (flat-length (λ (x : List A). x) qs ∙ ap total (lengths_are qs counts l h))

      shown_laid : shown enc room counts qs c₀ ≡ laid enc (flat (λ x. x) qs) c₀
      shown_laid = let e = lengths_are qs counts l h in ap (λ (ns : List ℕ). shown enc room ns qs c₀) (sym e) ∙ shown_lengths room qs c₀ (rw e t) r

      pub shown_column : {c : List B} → c ≡ shown enc room counts qs c₀ → Col enc (flat (λ x. x) qs) c₀ c
      shown_column e = record { is = e ∙ shown_laid; long = ap length (e ∙ shown_laid) ∙ laid-length enc (flat (λ x. x) qs) c₀ (omega (arith, t, r, together)) }
