-- What a search in an object's own base attributes finds is what the definition finds; and where the fit is sound each object has such.
use Prim.Native.Nat.{ℕ, ◌+◌, ◌*◌, ◌≤◌, ◌<◌}
use native.Mathlib.Omega.{arith}
use mathlib.Core.Path.{◌≡◌, refl, ap, ◌∙◌}
use mathlib.Core.Bool.{Bool, true}
use mathlib.Core.List.{List, map}
use mathlib.Core.Option.{none, some}
use lib.Dec.{lit≤}
use lib.IntN.{ℤ}
use lib.ListN.{length}
use Rattle.laws.specs.Lists.{eq_z, first, span, ascends, not_descending}
use Rattle.laws.proofs.Ascending.{ascends-not_descending}
use Rattle.laws.proofs.Every.{every_at}
use Rattle.rules.specs.Shape.{object_good}
use Rattle.rules.proofs.Verdicts.{each_object_good, each_bases_ascend, bases_inside}
use Rattle.rules.specs.Bytes.{count_of, offset_of}
use Rattle.rules.specs.Sheet.{Fit, fit_of, base_from, bases_of}
use Rattle.rules.specs.Info.{get_base}
use Rattle.rules.specs.declared.Item.{Item}
use Rattle.rules.specs.declared.BaseAttribute.{BaseAttribute}
use Rattle.info.specs.Sound.{Nth, HeldFit, SoundFit, Based}
use Rattle.info.specs.LookUps.{Keyed}
use Rattle.info.proofs.Elements.{bases_length, objects_length}
use Rattle.info.proofs.Finds.{sought, range_keyed, range_below, range_found, range_missing}

module _ (b : List ℕ) (pairs : List (List ℕ)) (o : Item) (d : Based (fit_of b pairs) o) {l m : ℕ} (p : l ≡ o.first_attribute) (q : m ≡ o.attributes) where
  in_table : l + m ≤ count_of pairs 7
  in_table = omega (arith, d.within, bases_length b pairs)

  own : span l m (fit_of b pairs).bases ≡ bases_of (fit_of b pairs) o
  own = rw (p, q) refl

  module _ {at : ℕ} (e : at ≡ offset_of pairs 7 + 12 * l) where
    pub based_keyed : HeldFit b pairs → Keyed b at 12 m
    unfolding fit_of
    based_keyed h =
        range_keyed base_from (λ r. r.attribute_id) (λ k r. refl) 7 (lit≤ tt) b pairs l m in_table e h.bases
        (ap (λ (xs : List BaseAttribute). not_descending (map (λ r. r.attribute_id) xs)) own ∙ ascends-not_descending (map (λ r. r.attribute_id) (bases_of (fit_of b pairs) o)) d.ordered)

    module _ (a : ℤ) where
      pub based_below : {k : ℕ} → some k ≡ sought b at 12 m a → l + k < count_of pairs 7
      based_below f = range_below base_from (λ r. r.attribute_id) (λ k r. refl) 7 (lit≤ tt) b pairs l m in_table e a f

      pub based_found : {k : ℕ} {x : BaseAttribute} → some k ≡ sought b at 12 m a → Nth (fit_of b pairs).bases (l + k) x → some x ≡ get_base (fit_of b pairs) o a
      unfolding fit_of get_base
      based_found f h =
          range_found base_from (λ r. r.attribute_id) (λ k r. refl) 7 (lit≤ tt) b pairs l m in_table e a f h
          ∙ ap (first (λ r. eq_z r.attribute_id a)) own

      pub based_missing : none ≡ sought b at 12 m a → none ≡ get_base (fit_of b pairs) o a
      unfolding fit_of get_base
      based_missing f =
          range_missing base_from (λ r. r.attribute_id) (λ k r. refl) 7 (lit≤ tt) b pairs l m in_table e a f
          ∙ ap (first (λ r. eq_z r.attribute_id a)) own

abbrev own_ascends : Fit → Item → Bool
own_ascends f o = ascends (map (λ r. r.attribute_id) (bases_of f o))

-- a sound fit gives them for each object
pub based : (b : List ℕ) (pairs : List (List ℕ)) (o : Item) (i : ℕ) → SoundFit b pairs → i < count_of pairs 6 → Nth (fit_of b pairs).objects i o → Based (fit_of b pairs) o
based b pairs o i s l h =
    let f = fit_of b pairs in
    let n : i < length f.objects = rw (objects_length b pairs) l in
    let good : object_good f o ≡ true = ap (object_good f) (h o) ∙ every_at (object_good f) f.objects i o (each_object_good f s.good) n in
    record {
      within = bases_inside f o good;
      ordered = ap (own_ascends f) (h o) ∙ every_at (own_ascends f) f.objects i o (each_bases_ascend f s.good) n;
    }
