-- Base attributes counted object by object.
use Prim.Native.Nat.{ℕ, ◌+◌, ◌≤◌, ◌<◌}
use native.Mathlib.Omega.{arith}
use mathlib.Core.Path.{◌≡◌, refl, sym, ap, ◌∙◌}
use mathlib.Core.List.{List, ◌++◌, map}
use lib.ListN.{length, take, length-map, length-append}
use lib.Seq.{take_all}
use Rattle.laws.specs.Lists.{flat}
use Rattle.laws.proofs.Flat.{flat-next}
use Rattle.laws.proofs.Spans.{span_length}
use Rattle.rules.specs.Bytes.{count_of}
use Rattle.rules.specs.Sheet.{Fit, fit_of, bases_of}
use Rattle.rules.specs.Item.{no_item}
use Rattle.rules.specs.Dispatch.{Key, base_keys}
use Rattle.rules.specs.declared.Item.{Item}
use Rattle.info.specs.Sound.{SoundFit, Nth}
use Rattle.info.proofs.Elements.{objects_length}
use Rattle.rows.proofs.Sounds.{bases_inside}

abbrev keys_of : Fit → Item → List Key
keys_of f o = map (λ r. record { object = o.number; id = r.attribute_id }) (bases_of f o)

-- the keys of the first i objects
abbrev pub keys_to : Fit → ℕ → List Key
keys_to f i = flat (keys_of f) (take i f.objects)

module _ (b : List ℕ) (pairs : List (List ℕ)) (S : SoundFit b pairs) where
  pub base_next : (i : ℕ) → i < count_of pairs 6 → (o : Item) → Nth (fit_of b pairs).objects i o → (m : ℕ) → m ≡ o.attributes → (t : ℕ) → t ≡ length (keys_to (fit_of b pairs) i) → t + m ≡ length (keys_to (fit_of b pairs) (i + 1))
  base_next i h o e m a t s =
      let f = fit_of b pairs in
      let own : length (bases_of f o) ≡ o.attributes = span_length o.first_attribute o.attributes f.bases (bases_inside b pairs S i h o e o.first_attribute o.attributes refl refl) in
      let long : length (keys_of f o) ≡ m = length-map (bases_of f o) (λ r. record { object = o.number; id = r.attribute_id }) ∙ own ∙ sym a in
      let next : keys_to f (i + 1) ≡ keys_to f i ++ keys_of f o = flat-next (keys_of f) f.objects i no_item (rw (objects_length b pairs) h) ∙ ap (λ (x : Item). keys_to f i ++ keys_of f x) (sym (e no_item)) in
      omega (arith, s, long, ap length next, length-append (keys_to f i) (keys_of f o))

  pub base_all : (i : ℕ) → count_of pairs 6 ≤ i → (t : ℕ) → t ≡ length (keys_to (fit_of b pairs) i) → t ≡ length (base_keys (fit_of b pairs))
  unfolding base_keys
  base_all i h t s = s ∙ ap (λ (l : List Item). length (flat (keys_of (fit_of b pairs)) l)) (take_all i (fit_of b pairs).objects (rw (objects_length b pairs) h))
