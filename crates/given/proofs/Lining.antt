-- Lines beside rows, key by key, and lines' values as numbers or NaN.
use Prim.Native.Nat.{ℕ, suc, ◌+◌, ◌*◌, ◌≤◌, ◌<◌}
use native.Mathlib.Numerals.{add-one}
use native.Mathlib.Omega.{arith}
use mathlib.Core.Path.{◌≡◌, refl, sym, ap, ap₂, ◌∙◌}
use mathlib.Core.Bool.{Bool, true, false, not, ◌&&◌, cond}
use mathlib.Core.List.{List, [], ◌∷◌, map}
use mathlib.Core.Option
use mathlib.Core.Option.{Option, none, some}
use borrow.Author.Tests.{eqb-true, eq-eqb}
use lib.Dec.{eqb}
use lib.Ieee.{Float, nan, binary64, of_bits}
use lib.IntN.{ℤ}
use lib.ListN.{length, get_or, drop, length-map}
use mir.Facts.{to_z-of_z}
use mir.Syntax.{w32}
use mir.Val.{to_z, of_z, SFits}
use Rattle.laws.specs.Floats.{finite}
use Rattle.laws.specs.Lists.{eq_z}
use Rattle.laws.proofs.Bools.{not-not, same_test}
use Rattle.laws.proofs.Maps.{map_at}
use Rattle.laws.proofs.Order.{eq_z_true, eq_z_same}
use Rattle.laws.proofs.Scans.{drop-step, drop_end}
use Rattle.rules.specs.Dispatch.{Row, Key, same_key}
use Rattle.promises.specs.NoMemory.{key_of}
use Rattle.reading.specs.Held.{RowsHeld, no_row}
use Rattle.settled.specs.Lines.{first_other, finite_only}
use Rattle.given.specs.Judging.{key_in, shown_bits}

-- ---- a line's value

pub shown_finite : (low high : ℕ) (x : Float) → x ≡ of_bits binary64 (low + 4294967296 * high) → finite x ≡ true → x ≡ shown_bits low high
shown_finite low high x e f = ap (λ (o : Option Float). Option.get_or o nan) (sym (ap (λ (t : Bool). cond t (some x) none) f)) ∙ ap (λ (y : Float). Option.get_or (finite_only y) nan) e

pub shown_nan : (low high : ℕ) (x : Float) → x ≡ of_bits binary64 (low + 4294967296 * high) → finite x ≡ false → nan ≡ shown_bits low high
shown_nan low high x e f = ap (λ (o : Option Float). Option.get_or o nan) (sym (ap (λ (t : Bool). cond t (some x) none) f)) ∙ ap (λ (y : Float). Option.get_or (finite_only y) nan) e

-- ---- keys

-- attributes are the same just when their bits are
same_id : (x : ℕ) (a : ℤ) → of_z w32 (to_z w32 x) ≡ x → SFits w32 a → eqb x (of_z w32 a) ≡ eq_z (to_z w32 x) a
same_id x a back s =
    same_test (eqb x (of_z w32 a)) (eq_z (to_z w32 x) a) (λ e. eq_z_same (to_z w32 x) a (ap (to_z w32) (eqb-true x (of_z w32 a) e) ∙ to_z-of_z s))
    (λ e. eq-eqb x (of_z w32 a) (sym back ∙ ap (of_z w32) (eq_z_true (to_z w32 x) a e)))

module _ {rs : List Row} {c : List (List ℕ)} (H : RowsHeld rs c) (ls : List (List ℕ)) where
  abbrev keys : List Key
  keys = map key_in ls

  abbrev own : List Key
  own = map key_of rs

  -- what is left decides
  abbrev pub OtherLeft : ℕ → Type 0
  OtherLeft i = first_other 0 (map key_in ls) (map key_of rs) ≡ first_other i (drop i (map key_in ls)) (drop i (map key_of rs))

  module _ (i : ℕ) (l : i < length rs) where
    rest_own : drop i own ≡ key_of (get_or rs i no_row) ∷ drop (i + 1) own
    rest_own = drop-step own i (key_of no_row) (omega (arith, l, length-map rs key_of)) ∙ ap (λ (k : Key). k ∷ drop (i + 1) own) (map_at key_of rs i no_row (key_of no_row) l)

    pub line-missing : length ls ≤ i → OtherLeft i → some i ≡ first_other 0 (map key_in ls) (map key_of rs)
    unfolding first_other
    line-missing m p = sym (p ∙ ap₂ (first_other i) (drop_end keys i (omega (arith, m, length-map ls key_in))) rest_own)

    module _ (m : i < length ls) (b : Bool)
        (q : b ≡ eqb (get_or (get_or ls i []) 0 0) (get_or (get_or c i []) 0 0) && eqb (get_or (get_or ls i []) 1 0) (get_or (get_or c i []) 1 0))
        (back : of_z w32 (to_z w32 (get_or (get_or ls i []) 1 0)) ≡ get_or (get_or ls i []) 1 0) (p : OtherLeft i) where
      rest_keys : drop i keys ≡ key_in (get_or ls i []) ∷ drop (i + 1) keys
      rest_keys = drop-step keys i (key_in []) (omega (arith, m, length-map ls key_in)) ∙ ap (λ (k : Key). k ∷ drop (i + 1) keys) (map_at key_in ls i [] (key_in []) m)

      same : b ≡ same_key (key_in (get_or ls i [])) (key_of (get_or rs i no_row))
      same =
          q ∙ ap₂ ◌&&◌ (ap (eqb (get_or (get_or ls i []) 0 0)) (H.object i l))
          (ap (eqb (get_or (get_or ls i []) 1 0)) (H.id i l) ∙ same_id (get_or (get_or ls i []) 1 0) (get_or rs i no_row).id back (H.narrow i l))

      one : (t : Bool) → t ≡ same_key (key_in (get_or ls i [])) (key_of (get_or rs i no_row)) → first_other 0 keys own ≡ elim t [ true ↦ first_other (i + 1) (drop (i + 1) keys) (drop (i + 1) own) | false ↦ some i ]
      unfolding first_other
      one t e = p ∙ ap₂ (first_other i) rest_keys rest_own ∙ ap (λ (s : Bool). elim s [ true ↦ first_other (suc i) (drop (i + 1) keys) (drop (i + 1) own) | false ↦ some i ]) (sym e) ∙ by t
        where
          by : (s : Bool) → ◌≡◌ {A = Option ℕ} (elim s [ true ↦ first_other (suc i) (drop (i + 1) keys) (drop (i + 1) own) | false ↦ some i ]) (elim s [ true ↦ first_other (i + 1) (drop (i + 1) keys) (drop (i + 1) own) | false ↦ some i ])
          by true = ap (λ (n : ℕ). first_other n (drop (i + 1) keys) (drop (i + 1) own)) (sym (add-one i))
          by false = refl

      pub keys_on : not b ≡ false → OtherLeft (i + 1)
      keys_on z = one true (sym (sym (not-not b) ∙ ap not z) ∙ same)

      pub keys_differ : not b ≡ true → some i ≡ first_other 0 (map key_in ls) (map key_of rs)
      keys_differ z = sym (one false (sym (sym (not-not b) ∙ ap not z) ∙ same))

  module _ (i : ℕ) (l : length rs ≤ i) (u : i ≤ length rs) (p : OtherLeft i) where
    no_own : drop i own ≡ []
    no_own = drop_end own i (omega (arith, l, length-map rs key_of))

    pub line-more : (n : ℕ) → n ≡ length rs → n < length ls → some n ≡ first_other 0 (map key_in ls) (map key_of rs)
    unfolding first_other
    line-more n e m =
        let here : i ≡ n = omega (arith, l, u, e) in
        sym (p ∙ ap₂ (first_other i) (drop-step keys i (key_in []) (omega (arith, m, here, length-map ls key_in))) no_own ∙ ap some here)

    pub keys_done : (n : ℕ) → n ≡ length rs → length ls ≤ n → none ≡ first_other 0 (map key_in ls) (map key_of rs)
    unfolding first_other
    keys_done n e m = sym (p ∙ ap₂ (first_other i) (drop_end keys i (omega (arith, m, l, u, e, length-map ls key_in))) no_own)
