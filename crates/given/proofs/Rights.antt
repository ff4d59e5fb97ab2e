-- Whether a listed value is right, by its parts; and the first that is not.
use Rattle.std.specs.Prelude.{Ok, Err}
use Prim.Native.Nat.{ℕ, suc, ◌+◌, ◌≤◌, ◌<◌}
use native.Mathlib.Numerals.{add-one}
use mathlib.Core.Path.{◌≡◌, refl, sym, ap, subst, ◌∙◌}
use mathlib.Core.Bool.{Bool, true, false, not, ◌&&◌}
use mathlib.Core.List.{List, ◌∷◌}
use mathlib.Core.Option.{Option, none, some}
use borrow.Author.Tests.{eqb-true, eq-eqb}
use lib.Dec.{T, eqb}
use lib.Ieee.{Float, nan, inf, fin, eq, is_nan, binary64, of_bits, to_bits, fits}
use lib.Ieee.Bits.{of_bits-to_bits}
use lib.ListN.{length, get_or, drop}
use Rattle.laws.specs.Floats.{finite}
use Rattle.laws.proofs.Bools.{both_ways, not-not, same_test, and_false_right, and_true_right}
use Rattle.laws.proofs.Nans.{nan?, eq_self}
use Rattle.laws.proofs.Scans.{drop-step, drop_end}
use Rattle.rules.specs.Answer.{Res, ok, refused, ◌>>=◌}
use Rattle.rules.specs.Dispatch.{Row}
use Rattle.rules.specs.Outcome.{blank}
use Rattle.rules.specs.Value.{World, Read}
use Rattle.rules.specs.Fresh.{unrecorded}
use Rattle.rules.specs.declared.Refusal.{Refusal}
use Rattle.reading.specs.Held.{no_row}
use Rattle.memory.specs.Holding.{Tables}
use Rattle.memory.specs.Memory.{value_column}
use Rattle.memory.specs.Steps.{row_at}
use Rattle.memory.proofs.Nanned.{valued, unvalued}
use Rattle.settled.specs.Given.{idles, where_recorded, given}
use Rattle.settled.specs.Lines.{same_float, is_given, first_wrong}
use Rattle.settled.proofs.Same.{same_float_lem, float_same}
use Rattle.given.specs.Judging.{Judged, looks, calculated_from, GotIs, KeptIfAs, is_ok}

-- ---- numbers

pub finite_number : (x : Float) → T (finite x) → T (not (is_nan x))
unfolding finite is_nan
finite_number nan h = h
finite_number (inf s) h = tt
finite_number (fin s m e) h = tt

pub bits_same : (x y : Float) → fits binary64 x ≡ true → fits binary64 y ≡ true → eqb (to_bits binary64 x) (to_bits binary64 y) ≡ same_float x y
bits_same x y f g =
    same_test (eqb (to_bits binary64 x) (to_bits binary64 y)) (same_float x y)
    (λ e. float_same x y (sym (of_bits-to_bits binary64 x (subst T (sym f) tt)) ∙ ap (of_bits binary64) (eqb-true (to_bits binary64 x) (to_bits binary64 y) e) ∙ of_bits-to_bits binary64 y (subst T (sym g) tt)))
    (λ e. eq-eqb (to_bits binary64 x) (to_bits binary64 y) (ap (to_bits binary64) (same_float_lem x y e)))

pub got_number : (x : Res Read) (y : Float) (used : ℕ) → GotIs x (Ok (record { value = y; used = used })) → T (finite y)
got_number (ok q) y used h = h.1
got_number (refused z) y used h = absurd h

pub kept_any : (b : Bool) (v v' : List Float) → v' ≡ v → KeptIfAs b v v'
kept_any true v v' e = e
kept_any false v v' e = tt

pub kept_true : (b : Bool) (v v' : List Float) → not b ≡ false → KeptIfAs b v v' → v' ≡ v
kept_true true v v' z k = k
kept_true false v v' z k = both_ways refl z

-- the code's test for a number
pub not_nan : (x : Float) → eq x x ≡ not (is_nan x)
unfolding is_nan
not_nan x = eq_self x ∙ ap not (same x)
  where
    same : (x : Float) → nan? x ≡ is_nan x
    same nan = refl
    same (inf s) = refl
    same (fin s m e) = refl

-- the same column under another name
abbrev pub with_column : {t : Tables} {v v' : List Float} → Judged t v → v' ≡ v → Judged t v'
with_column h e = record { world = h.world; values = h.values; told = h.told; free = h.free; column = e ∙ h.column; numbers = h.numbers; long = h.long }

-- ---- one row

module _ {t : Tables} {v : List Float} (h : Judged t v) (i : ℕ) where
  abbrev judgement : Bool
  judgement = is_given (given h.world h.values i (row_at h.world i)) (get_or h.values i none)

  abbrev here : Float
  here = get_or v i nan

  no_value : (x : Res Float) → false ≡ is_given x none
  no_value (ok y) = refl
  no_value (refused y) = refl

  shown : here ≡ get_or (value_column h.values) i nan
  shown = ap (λ (l : List Float). get_or l i nan) h.column

  self_test : {b : Bool} → is_nan here ≡ b → eq here here ≡ not b
  self_test e = not_nan here ∙ ap not e

  pub listed_here : is_nan (get_or v i nan) ≡ false → get_or h.values i none ≡ some (get_or v i nan)
  listed_here e = valued h.values i (sym (ap (λ (x : Float). eq x x) shown) ∙ self_test e) ∙ ap some (sym shown)

  pub listed_number : is_nan (get_or v i nan) ≡ false → T (finite (get_or v i nan))
  listed_number e = h.numbers i (get_or v i nan) (listed_here e)

  -- a line without a value
  pub not_listed : is_nan (get_or v i nan) ≡ true → false ≡ is_given (given h.world h.values i (row_at h.world i)) (get_or h.values i none)
  not_listed e = no_value (given h.world h.values i (row_at h.world i)) ∙ ap (is_given (given h.world h.values i (row_at h.world i))) (sym (unvalued h.values i h.numbers (sym (ap (λ (x : Float). eq x x) shown) ∙ self_test e)))

  -- the rules give nothing
  pub nothing-given : (z : Refusal) → GotIs (calculated_from h.world h.values i) (Err z) → false ≡ is_given (given h.world h.values i (row_at h.world i)) (get_or h.values i none)
  unfolding given
  nothing-given z k = by (calculated_from h.world h.values i) k
    where
      by : (x : Res Read) → GotIs x (Err z)
          → false ≡ is_given (x >>= λ r. where_recorded h.world.recording (idles (unrecorded h.world) (looks h.world h.values) i (row_at h.world i) (row_at h.world i).entries (blank h.world.rows)) >>= λ s. ok r.value) (get_or h.values i none)
      by (ok q) k = absurd k
      by (refused y) k = refl

  -- they give a value: its bits decide, and the idle entries where the sheet records
  abbrev quiet : Res (Unit {0})
  quiet = idles (unrecorded h.world) (looks h.world h.values) i (row_at h.world i) (row_at h.world i).entries (blank h.world.rows)

  module _ (y : Float) (used : ℕ) (k : GotIs (calculated_from h.world h.values i) (Ok (record { value = y; used = used }))) (e : is_nan (get_or v i nan) ≡ false) where
    by_parts : is_given (given h.world h.values i (row_at h.world i)) (get_or h.values i none) ≡ is_ok (where_recorded h.world.recording quiet) && same_float y here
    unfolding given
    by_parts = ap (is_given (given h.world h.values i (row_at h.world i))) (listed_here e) ∙ by (calculated_from h.world h.values i) (where_recorded h.world.recording quiet) k
      where
        by : (x : Res Read) (s : Res (Unit {0})) → GotIs x (Ok (record { value = y; used = used })) → is_given (x >>= λ r. s >>= λ u. ok r.value) (some here) ≡ is_ok s && same_float y here
        by (ok q) (ok u) k = ap (λ (z : Float). same_float z here) (sym k.0)
        by (ok q) (refused z) k = refl
        by (refused z) s k = absurd k

    module _ (b : Bool) (q : b ≡ same_float y (get_or v i nan)) where
      pub other_bits : not b ≡ true → false ≡ is_given (given h.world h.values i (row_at h.world i)) (get_or h.values i none)
      other_bits z =
          sym (by_parts ∙ ap (λ (c : Bool). is_ok (where_recorded h.world.recording quiet) && c) (sym q ∙ sym (not-not b) ∙ ap not z) ∙ and_false_right (is_ok (where_recorded h.world.recording quiet)))

      same_bits : not b ≡ false → is_given (given h.world h.values i (row_at h.world i)) (get_or h.values i none) ≡ is_ok (where_recorded h.world.recording quiet)
      same_bits z = by_parts ∙ ap (λ (c : Bool). is_ok (where_recorded h.world.recording quiet) && c) (sym q ∙ sym (not-not b) ∙ ap not z) ∙ and_true_right (is_ok (where_recorded h.world.recording quiet))

      pub unrecorded_right : not b ≡ false → (r : Bool) → not r ≡ true → r ≡ h.world.recording → true ≡ is_given (given h.world h.values i (row_at h.world i)) (get_or h.values i none)
      unrecorded_right z r o w = sym (same_bits z ∙ ap (λ (c : Bool). is_ok (where_recorded c quiet)) (sym w ∙ sym (not-not r) ∙ ap not o))

      pub recorded_right : not b ≡ false → (r : Bool) → not r ≡ false → r ≡ h.world.recording → (s : Bool)
          → s ≡ is_ok (idles (unrecorded h.world) (looks h.world h.values) i (row_at h.world i) (row_at h.world i).entries (blank h.world.rows))
          → s ≡ is_given (given h.world h.values i (row_at h.world i)) (get_or h.values i none)
      recorded_right z r o w s p = p ∙ sym (same_bits z ∙ ap (λ (c : Bool). is_ok (where_recorded c quiet)) (sym w ∙ sym (not-not r) ∙ ap not o))

-- ---- the first that is wrong

module _ (w : World) (vs : List (Option Float)) where
  abbrev right : ℕ → Row → Bool
  right i r = is_given (given w vs i r) (get_or vs i none)

  -- what is left decides
  abbrev pub FirstLeft : ℕ → Type 0
  FirstLeft i = first_wrong w vs 0 w.rows ≡ first_wrong w vs i (drop i w.rows)

  one : (i : ℕ) (r : Row) (rs : List Row) (b : Bool) → b ≡ right i r → first_wrong w vs i (r ∷ rs) ≡ elim b [ true ↦ first_wrong w vs (i + 1) rs | false ↦ some i ]
  unfolding first_wrong
  one i r rs b q = ap (λ (c : Bool). elim c [ true ↦ first_wrong w vs (suc i) rs | false ↦ some i ]) (sym q) ∙ by b
    where
      by : (c : Bool) → ◌≡◌ {A = Option ℕ} (elim c [ true ↦ first_wrong w vs (suc i) rs | false ↦ some i ]) (elim c [ true ↦ first_wrong w vs (i + 1) rs | false ↦ some i ])
      by true = ap (λ (n : ℕ). first_wrong w vs n rs) (sym (add-one i))
      by false = refl

  module _ (i : ℕ) (l : i < length w.rows) (b : Bool) (q : b ≡ is_given (given w vs i (row_at w i)) (get_or vs i none)) (left : FirstLeft i) where
    pub right_on : not b ≡ false → FirstLeft (i + 1)
    right_on z = left ∙ ap (first_wrong w vs i) (drop-step w.rows i no_row l) ∙ one i (row_at w i) (drop (i + 1) w.rows) true (sym (sym (not-not b) ∙ ap not z) ∙ q)

    pub wrong_at : not b ≡ true → some i ≡ first_wrong w vs 0 w.rows
    wrong_at z = sym (left ∙ ap (first_wrong w vs i) (drop-step w.rows i no_row l) ∙ one i (row_at w i) (drop (i + 1) w.rows) false (sym (sym (not-not b) ∙ ap not z) ∙ q))

  pub none_wrong : (i : ℕ) → length w.rows ≤ i → FirstLeft i → none ≡ first_wrong w vs 0 w.rows
  unfolding first_wrong
  none_wrong i l left = sym (left ∙ ap (first_wrong w vs i) (drop_end w.rows i l))
