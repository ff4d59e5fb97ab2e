-- The two stretches of an aim: what they have in common.
use Rattle.std.specs.Prelude.{Some, None}
use Prim.Native.Nat.{ℕ, ◌+◌, ◌*◌, ◌≤◌, ◌<◌}
use native.Mathlib.Omega.{arith}
use mathlib.Core.Path.{◌≡◌, refl, sym, ap, ◌∙◌}
use mathlib.Core.Bool.{Bool, true, false, ◌&&◌}
use mathlib.Core.List.{List, []}
use lib.ListN.{length}
use Rattle.laws.specs.Lists.{keep, from}
use Rattle.laws.proofs.Bools.{and_false_right, not-passed, both_ways}
use Rattle.laws.proofs.Keep.{keep_same, keep-nothing}
use Rattle.maps.specs.Words.{map_word, MapAt, ones_cut, cut_places}
use Rattle.maps.specs.Keys.{head_at}
use Rattle.maps.specs.Maps.{Mapped, Found}
use Rattle.maps.specs.Hits.{Both}
use Rattle.maps.proofs.Cuts.{places-cut, ones_cut_lem}
use Rattle.maps.proofs.Index.{head_later, head_behind, column_later}

module _ {w : ℕ} {location has : ℕ → ℕ → Bool} {ks ws hs : List ℕ} (M : Mapped w location has ks ws hs) (c n : ℕ) (l : c < 6) (h : n ≤ w) where
  near : MapAt ws (c * w) n (location c)
  near v g = M.located c l v (omega (arith, g))

  pub location_inside : c * w + n ≤ length ws
  location_inside = omega (arith, column_later w c 6 l, head_behind w (length ks), M.fits)

  -- the location alone
  pub both-all : Both ws (c * w) (c * w) n n (λ i. location c i && true)
  both-all =
      record {
        places = places-cut (location c) (location c) ws (c * w) (c * w) n near near ∙ keep_same (λ i. location c i && location c i) (λ i. location c i && true) (λ i. twice (location c i)) (from 0 (n * 64));
        count = ones_cut_lem (location c) (location c) ws (c * w) (c * w) n near near ∙ ap length (keep_same (λ i. location c i && location c i) (λ i. location c i && true) (λ i. twice (location c i)) (from 0 (n * 64)));
      }
    where
      twice : (b : Bool) → b && b ≡ b && true
      twice true = refl
      twice false = refl

  -- cut by a key's map
  module _ (x m : ℕ) (F : Found ks x (Some m)) where
    pub test_inside : head_at w m + 1 + n ≤ length ws
    test_inside = omega (arith, head_later w m (length ks) F.0, M.fits, h)

    own : MapAt ws (head_at w m + 1) n (has x)
    own v g = M.keyed m F.0 v (omega (arith, g, h)) ∙ ap (λ (y : ℕ). map_word (has y) v) F.1

    pub both_keyed : Both ws (c * w) (head_at w m + 1) n n (λ i. location c i && has x i)
    both_keyed =
        record {
          places = places-cut (location c) (has x) ws (c * w) (head_at w m + 1) n near own;
          count = ones_cut_lem (location c) (has x) ws (c * w) (head_at w m + 1) n near own;
        }

  -- nobody has the key
  module _ (x : ℕ) (F : Found ks x None) where
    pub nobody : (i : ℕ) → location c i && has x i ≡ false
    nobody i = ap (λ (b : Bool). location c i && b) (not-passed (has x i) (λ e. both_ways (M.only x i e) F)) ∙ and_false_right (location c i)

    pub both_none : Both ws 0 0 0 n (λ i. location c i && has x i)
    unfolding cut_places ones_cut
    both_none = record { places = sym none; count = sym (ap length none) }
      where
        none : keep (λ i. location c i && has x i) (from 0 (n * 64)) ≡ []
        none = keep_same (λ i. location c i && has x i) (λ i. false) nobody (from 0 (n * 64)) ∙ keep-nothing (from 0 (n * 64))
