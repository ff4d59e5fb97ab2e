-- The value with no memory does not turn on how deep one may go, where that is deeper than needs can be followed.
use Prim.Native.Nat.{ℕ, zero, suc, ◌<◌}
use native.Mathlib.Omega.{arith}
use mathlib.Core.Path.{◌≡◌, refl, ap, subst, ◌∙◌}
use mathlib.Core.Option.{Option, none, some}
use lib.Ieee.{Float}
use lib.ListN.{length}
use Rattle.rules.specs.Answer.{Res, ok, ◌>>=◌}
use Rattle.rules.specs.Dispatch.{Key}
use Rattle.rules.specs.Info.{get_dogma_attribute}
use Rattle.rules.specs.Outcome.{blank}
use Rattle.rules.specs.Value.{World, Reader, Found, find_row, calculate}
use Rattle.rules.specs.Fresh.{unrecorded, forgetful, fresh_to, fresh, needs_of}
use Rattle.promises.specs.NoMemory.{Needs, NoLoop}
use Rattle.promises.proofs.NoMemoryGoes.{Goes, goes, on}
use Rattle.promises.proofs.NoMemorySteps.{Each, Agree, calculate_goes}
use Rattle.promises.proofs.Ranks.{Within, within_rows, found_at, each_of}

abbrev pub Same : Float → Float → Type 0
Same x y = x ≡ y

module _ (w : World) where
  -- an attribute's value, with another depth for what it needs
  abbrev pub value_by : (Key → Res Float) → Key → Option Found → Res Float
  value_by read a none = ok (get_dogma_attribute w.book a.id).default_value
  value_by read a (some f) = calculate (unrecorded w) (forgetful (λ o i. read (record { object = o; id = i }))) f.index f.row (blank w.rows) >>= λ r. ok r.value

  abbrev pub deep : ℕ → Key → Res Float
  deep d a = fresh_to w d a.object a.id

  pub deep_step : (d : ℕ) (a : Key) → deep (suc d) a ≡ value_by (deep d) a (find_row a.object a.id 0 w.rows)
  unfolding fresh_to
  deep_step d a = by (find_row a.object a.id 0 w.rows)
    where
      by : (f : Option Found)
          → ◌≡◌ {A = Res Float} (elim f [
            | none ↦ ok (get_dogma_attribute w.book a.id).default_value
            | some f ↦ (calculate (unrecorded w) (forgetful (fresh_to w d)) f.index f.row (blank w.rows) >>= λ r. ok r.value)
          ]) (value_by (deep d) a f)
      by none = refl
      by (some f) = refl

  -- an absent attribute has its default
  pub fresh_default : (a : Key) → find_row a.object a.id 0 w.rows ≡ none → fresh w a.object a.id ≡ ok (get_dogma_attribute w.book a.id).default_value
  unfolding fresh
  fresh_default a e = deep_step (length w.rows) a ∙ ap (value_by (deep (length w.rows)) a) e

  value_goes : (read read' : Key → Res Float) (a : Key) → ((b : Key) → Needs w a b → Goes Same (read b) (read' b)) → (f : Option Found) → find_row a.object a.id 0 w.rows ≡ f → Goes Same (value_by read a f) (value_by read' a f)
  value_goes read read' a h none e = goes refl
  value_goes read read' a h (some f) e =
      on _ _ (calculate_goes (unrecorded w) f.index f.row (λ v. Unit {0}) one other (blank w.rows) (blank w.rows) each tt) (λ q p g. goes g.value)
    where
      one : Reader
      one = forgetful (λ o i. read (record { object = o; id = i }))

      other : Reader
      other = forgetful (λ o i. read' (record { object = o; id = i }))

      each : Each (Agree (unrecorded w) f.index f.row (λ v. Unit {0}) one other) (needs_of w.book f.row)
      each = each_of (Agree (unrecorded w) f.index f.row (λ v. Unit {0}) one other) (needs_of w.book f.row) (λ b n m m' t. on _ _ (h b ((found_at w a f e).needed b n)) (λ x y p. goes (record { value = p; inv = tt })))

  pub stable : (n d e : ℕ) (a : Key) → Within w n a → n < d → n < e → Goes Same (deep d a) (deep e a)
  stable n zero e a h l k = absurd (omega arith)
  stable n (suc d) zero a h l k = absurd (omega arith)
  stable zero (suc d) (suc e) a h l k = rw (deep_step d a, deep_step e a, h) (goes refl)
  stable (suc n) (suc d) (suc e) a h l k =
      rw (deep_step d a, deep_step e a) (value_goes (deep d) (deep e) a (λ b m. stable n d e b (h b m) (omega arith) (omega arith)) (find_row a.object a.id 0 w.rows) refl)

  -- one step more of the value with no memory is it
  pub fresh_goes : NoLoop w → (a : Key) → Goes Same (value_by (λ b. fresh w b.object b.id) a (find_row a.object a.id 0 w.rows)) (fresh w a.object a.id)
  unfolding fresh
  fresh_goes free a =
      let n = length w.rows in
      subst (λ (x : Res Float). Goes Same x (deep (suc n) a)) (deep_step (suc n) a) (stable n (suc (suc n)) (suc n) a (within_rows w free a) (omega arith) (omega arith))
