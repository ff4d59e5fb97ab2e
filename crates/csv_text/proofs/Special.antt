-- The scan for a special byte, and a field put piece by piece.
use Prim.Native.Nat.{ℕ, ◌+◌, ◌*◌, ◌≤◌, ◌<◌}
use native.Mathlib.Omega.{arith}
use mathlib.Core.Path.{◌≡◌, refl, sym, ap, ◌∙◌}
use mathlib.Core.Bool.{Bool, true, false, ◌||◌}
use mathlib.Core.List.{List, [], ◌∷◌, ◌++◌}
use lib.ListN.{length, take, get_or}
use lib.Seq.{take_all}
use Rattle.laws.specs.Lists.{some?}
use Rattle.laws.proofs.Every.{some_next}
use Rattle.listing.specs.Put.{put, puts}
use Rattle.listing.proofs.Puts.{after, renamed, as_long}
use Rattle.csv_text.specs.Csv.{class_of, special, twice, doubled, quoted_if, field}
use Rattle.csv_text.proofs.Classes.{doubled-next}

abbrev is_special : ℕ → Bool
is_special b = special (class_of b)

-- whether one of the first i bytes is
pub record Plain (t : List ℕ) (i : ℕ) (f : Bool) : Type 0 where
  pub within : i ≤ length t
  pub so_far : f ≡ some? is_special (take i t)

pub plain_none : (t : List ℕ) → Plain t 0 false
plain_none t = record { within = omega arith; so_far = refl }

module _ {t : List ℕ} {i : ℕ} {f : Bool} (P : Plain t i f) where
  pub plain_more : (d : ℕ) {own : Bool} → i < length t → own ≡ is_special (get_or t i d) → Plain t (i + 1) (f || own)
  plain_more d h e = record { within = omega arith; so_far = rw (P.so_far, e) (sym (some_next is_special t i d h)) }

  pub plain-all : length t ≤ i → f ≡ some? is_special t
  plain-all k = P.so_far ∙ ap (some? is_special) (take_all i t k)

-- ---- doubled bytes

module _ (t : List ℕ) (at : ℕ) (out : List ℕ) where
  -- after i bytes of them
  pub record Doubled (i end : ℕ) (now : List ℕ) : Type 0 where
    pub within : i ≤ length t
    pub inside : end ≤ at + 2 * i
    pub stands : put end now ≡ puts (doubled (take i t)) (put at out)

  pub doubled_none : Doubled 0 at out
  unfolding doubled puts
  doubled_none = record { within = omega arith; inside = omega arith; stands = refl }

  module _ {i end : ℕ} {now : List ℕ} (D : Doubled i end now) where
    pub doubled_long : length now ≡ length out
    doubled_long = as_long (doubled (take i t)) at out D.stands

    pub doubled-more : {r : ℕ} {now' : List ℕ} (d : ℕ) → i < length t → r ≤ end + 2 → put r now' ≡ puts (twice (class_of (get_or t i d)) (get_or t i d) []) (put end now) → Doubled (i + 1) r now'
    doubled-more d h b e =
        record {
          within = omega arith;
          inside = omega (arith, b, D.inside);
          stands = renamed (put at out) (doubled-next t i d h) (after (doubled (take i t)) (twice (class_of (get_or t i d)) (get_or t i d) []) (put at out) D.stands e);
        }

    pub doubled-all : length t ≤ i → (put end now ≡ puts (doubled t) (put at out)) × (end ≤ at + 2 * length t)
    doubled-all h = (renamed (put at out) (ap doubled (take_all i t h)) D.stands, omega (arith, D.inside, D.within))

-- ---- a field

module _ (t : List ℕ) where
  pub quoted_field : some? is_special t ≡ true → (34 ∷ []) ++ (doubled t ++ (34 ∷ [])) ≡ field t
  unfolding field
  quoted_field e = sym (ap (λ (q : Bool). quoted_if q t) e)

  pub own_field : some? is_special t ≡ false → t ≡ field t
  unfolding field
  own_field e = sym (ap (λ (q : Bool). quoted_if q t) e)
