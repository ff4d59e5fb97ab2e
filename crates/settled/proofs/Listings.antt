-- No line is bad just when the keys are the rows', one by one, and the listing is accepted.
use Prim.Native.Nat.{ℕ, zero, suc, ◌+◌, ◌<◌}
use native.Mathlib.Nat.{not-suc-le-zero, le_of_suc-le-suc, add-zero}
use native.Mathlib.Omega.{arith}
use mathlib.Core.Path.{◌≡◌, refl, sym, ap, ap₂, subst, ◌∙◌}
use mathlib.Core.Bool.{Bool, true, false}
use mathlib.Core.List.{List, [], ◌∷◌, map}
use mathlib.Core.Option.{Option, none, some}
use lib.Ieee.{Float}
use lib.ListN.{length, get_or, length-map}
use Rattle.laws.proofs.Bools.{both_ways}
use Rattle.rules.specs.Answer.{Res, ok, refused}
use Rattle.rules.specs.Dispatch.{Row, Key, same_key}
use Rattle.rules.specs.Value.{World}
use Rattle.rules.proofs.Ranked.{same_key_lem}
use Rattle.promises.specs.NoMemory.{no_row, key_of}
use Rattle.promises.proofs.Ranks.{key_itself}
use Rattle.settled.specs.Given.{given, RightAt, Accepted}
use Rattle.settled.specs.Lines.{Line, value_in, values_of, first_other, is_given, first_wrong, first_bad}
use Rattle.settled.proofs.Same.{same_float_lem, float_same}

-- ---- keys

other_step : (t : Bool) (i : ℕ) (o : Option ℕ) → ◌≡◌ {A = Option ℕ} none (elim t [ true ↦ o | false ↦ some i ]) → (t ≡ true) × (none ≡ o)
other_step true i o e = (refl, e)
other_step false i o e = let z : ◌≡◌ {A = ℕ} 0 1 = cc in absurd (omega arith)

keys_same : (i : ℕ) (ks bs : List Key) → none ≡ first_other i ks bs → ks ≡ bs
unfolding first_other
keys_same i [] [] e = refl
keys_same i [] (b ∷ bs) e = let z : ◌≡◌ {A = ℕ} 0 1 = cc in absurd (omega arith)
keys_same i (a ∷ ks) [] e = let z : ◌≡◌ {A = ℕ} 0 1 = cc in absurd (omega arith)
keys_same i (a ∷ ks) (b ∷ bs) e = let s = other_step (same_key a b) i (first_other (suc i) ks bs) e in ap₂ ◌∷◌ (same_key_lem a b s.0) (keys_same (suc i) ks bs s.1)

same_keys : (i : ℕ) (ks : List Key) → none ≡ first_other i ks ks
unfolding first_other
same_keys i [] = refl
same_keys i (a ∷ ks) = same_keys (suc i) ks ∙ sym (ap (λ (t : Bool). elim t [ true ↦ first_other (suc i) ks ks | false ↦ some i ]) (key_itself a))

-- ---- values

module _ (w : World) (vs : List (Option Float)) where
  -- row i is right, by the test
  abbrev passes : ℕ → Row → Bool
  passes i r = is_given (given w vs i r) (get_or vs i none)

  pass_right : (i : ℕ) → passes i (get_or w.rows i no_row) ≡ true → RightAt w vs i
  pass_right i e = by (given w vs i (get_or w.rows i no_row)) (get_or vs i none) refl refl e
    where
      by : (x : Res Float) (o : Option Float) → given w vs i (get_or w.rows i no_row) ≡ x → get_or vs i none ≡ o → is_given x o ≡ true → RightAt w vs i
      by (ok v) (some u) p q e = record { value = u; listed = q; is = p ∙ ap ok (same_float_lem v u e) }
      by (ok v) none p q e = both_ways e refl
      by (refused y) (some u) p q e = both_ways e refl
      by (refused y) none p q e = both_ways e refl

  right_pass : (i : ℕ) → RightAt w vs i → passes i (get_or w.rows i no_row) ≡ true
  right_pass i r = ap₂ is_given r.is r.listed ∙ float_same r.value r.value refl

  none_wrong : (k : ℕ) (rs : List Row) → none ≡ first_wrong w vs k rs → (j : ℕ) → j < length rs → passes (k + j) (get_or rs j no_row) ≡ true
  unfolding first_wrong
  none_wrong k [] e j l = absurd (not-suc-le-zero l)
  none_wrong k (r ∷ rs) e zero l = ap (λ (n : ℕ). passes n r) (add-zero k) ∙ (other_step (passes k r) k (first_wrong w vs (suc k) rs) e).0
  none_wrong k (r ∷ rs) e (suc j) l =
      let further : k + suc j ≡ suc k + j = omega arith in
      ap (λ (n : ℕ). passes n (get_or rs j no_row)) further ∙ none_wrong (suc k) rs (other_step (passes k r) k (first_wrong w vs (suc k) rs) e).1 j (le_of_suc-le-suc l)

  wrong_none : (k : ℕ) (rs : List Row) → ((j : ℕ) → j < length rs → passes (k + j) (get_or rs j no_row) ≡ true) → none ≡ first_wrong w vs k rs
  unfolding first_wrong
  wrong_none k [] h = refl
  wrong_none k (r ∷ rs) h =
      wrong_none (suc k) rs (λ j l. let further : suc k + j ≡ k + suc j = omega arith in ap (λ (n : ℕ). passes n (get_or rs j no_row)) further ∙ h (suc j) (omega (arith, l)))
      ∙ sym (ap (λ (t : Bool). elim t [ true ↦ first_wrong w vs (suc k) rs | false ↦ some k ]) (sym (ap (λ (n : ℕ). passes n r) (add-zero k)) ∙ h 0 (omega arith)))

from_zero : (i : ℕ) → i ≡ 0 + i
from_zero i = omega arith

-- ---- both

module _ (w : World) (ls : List Line) where
  abbrev keys : List Key
  keys = map (λ (l : Line). l.key) ls

  parts : none ≡ first_bad w ls → (none ≡ first_other 0 keys (map key_of w.rows)) × (none ≡ first_wrong w (values_of ls) 0 w.rows)
  unfolding first_bad
  parts e = by (first_other 0 keys (map key_of w.rows)) refl e
    where
      by : (o : Option ℕ) → first_other 0 keys (map key_of w.rows) ≡ o → ◌≡◌ {A = Option ℕ} none (elim o [ some i ↦ some i | none ↦ first_wrong w (values_of ls) 0 w.rows ])
          → (none ≡ first_other 0 keys (map key_of w.rows)) × (none ≡ first_wrong w (values_of ls) 0 w.rows)
      by none p q = (sym p, q)
      by (some i) p q = let z : ◌≡◌ {A = ℕ} 0 1 = cc in absurd (omega arith)

  -- "every row of ours is present once"
  pub not_bad_keys : none ≡ first_bad w ls → map (λ (l : Line). l.key) ls ≡ map key_of w.rows
  not_bad_keys e = keys_same 0 keys (map key_of w.rows) (parts e).0

  pub not_bad_accepted : none ≡ first_bad w ls → Accepted w (values_of ls)
  not_bad_accepted e =
      record {
        long = length-map ls value_in ∙ sym (length-map ls (λ (l : Line). l.key)) ∙ ap length (not_bad_keys e) ∙ length-map w.rows key_of;
        right = λ i l. pass_right w (values_of ls) i (ap (λ (n : ℕ). is_given (given w (values_of ls) n (get_or w.rows i no_row)) (get_or (values_of ls) n none)) (from_zero i) ∙ none_wrong w (values_of ls) 0 w.rows (parts e).1 i l);
      }

  pub accepted_not_bad : map (λ (l : Line). l.key) ls ≡ map key_of w.rows → Accepted w (values_of ls) → none ≡ first_bad w ls
  unfolding first_bad
  accepted_not_bad k a =
      wrong_none w (values_of ls) 0 w.rows (λ j l. ap (λ (n : ℕ). is_given (given w (values_of ls) n (get_or w.rows j no_row)) (get_or (values_of ls) n none)) (sym (from_zero j)) ∙ right_pass w (values_of ls) j (a.right j l))
      ∙ ap (λ (o : Option ℕ). elim o [ some i ↦ some i | none ↦ first_wrong w (values_of ls) 0 w.rows ]) (same_keys 0 (map key_of w.rows) ∙ sym (ap (λ (ks : List Key). first_other 0 ks (map key_of w.rows)) k))
