-- Nothing leads back to itself where a rank falls from each row to all that it needs.
use Prim.Native.Nat.{ℕ, ◌<◌}
use native.Mathlib.Omega.{arith}
use mathlib.Core.Path.{◌≡◌, refl, sym, subst, ◌∙◌}
use mathlib.Core.Bool.{Bool, true, false, ◌||◌}
use mathlib.Core.List.{List, [], ◌∷◌}
use borrow.Author.Tests.{eqb-true, ltb-true}
use lib.Dec.{T, eqb, ltb}
use Rattle.laws.specs.Lists.{eq_z, some?, every?, put, keep, flat}
use Rattle.laws.proofs.Bools.{both_ways, passed, and_left, and_right}
use Rattle.laws.proofs.Every.{some_append}
use Rattle.laws.proofs.Order.{eq_z_true}
use Rattle.rules.specs.Dispatch.{Row, Key, same_key}
use Rattle.rules.specs.Value.{World}
use Rattle.rules.specs.Fresh.{needs_of, needs_at, Leads, last, next, LeadsBack}

pub same_key_lem : (a b : Key) → same_key a b ≡ true → a ≡ b
same_key_lem a b e = λ i. record { object = o i; id = d i }
  where
    o : a.object ≡ b.object
    o = eqb-true a.object b.object (and_left (eqb a.object b.object) (eq_z a.id b.id) e)

    d : a.id ≡ b.id
    d = eq_z_true a.id b.id (and_right (eqb a.object b.object) (eq_z a.id b.id) e)

module _ (w : World) (rank : Key → ℕ) where
  abbrev own : Row → Key
  own r = record { object = r.object; id = r.id }

  abbrev pub falls : Row → Bool
  falls r = every? (λ b. ltb (rank b) (rank (own r))) (needs_of w.book r)

  -- what is on a list of lower rank
  lower : (b : Key) (n : ℕ) (l : List Key) → every? (λ x. ltb (rank x) n) l ≡ true → some? (same_key b) l ≡ true → rank b < n
  lower b n [] h s = both_ways s refl
  lower b n (x ∷ l) h s = by (same_key b x) refl s (lower b n l (and_right (ltb (rank x) n) (every? (λ x. ltb (rank x) n) l) h))
    where
      by : (t : Bool) → same_key b x ≡ t → t || some? (same_key b) l ≡ true → (some? (same_key b) l ≡ true → rank b < n) → rank b < n
      by true e u f = subst (λ (y : Key). rank y < n) (sym (same_key_lem b x e)) (ltb-true (rank x) n (and_left (ltb (rank x) n) (every? (λ x. ltb (rank x) n) l) h))
      by false e u f = f u

  -- a row of the key a, or a later one
  need_in : (a b : Key) (rs : List Row) → every? falls rs ≡ true → some? (same_key b) (flat (needs_of w.book) (keep (λ r. same_key (own r) a) rs)) ≡ true → rank b < rank a
  need_in a b [] h s = both_ways s refl
  need_in a b (r ∷ rs) h s = by (same_key (own r) a) refl s (need_in a b rs (and_right (falls r) (every? falls rs) h))
    where
      later : List Key
      later = flat (needs_of w.book) (keep (λ x. same_key (own x) a) rs)

      here : same_key (own r) a ≡ true → some? (same_key b) (needs_of w.book r) ≡ true → rank b < rank a
      here e u = subst (λ (y : Key). rank b < rank y) (same_key_lem (own r) a e) (lower b (rank (own r)) (needs_of w.book r) (and_left (falls r) (every? falls rs) h) u)

      or_later : same_key (own r) a ≡ true → (t : Bool) → some? (same_key b) (needs_of w.book r) ≡ t → t || some? (same_key b) later ≡ true → (some? (same_key b) later ≡ true → rank b < rank a) → rank b < rank a
      or_later e true u v f = here e u
      or_later e false u v f = f v

      by : (t : Bool) → same_key (own r) a ≡ t → some? (same_key b) (flat (needs_of w.book) (put t r (keep (λ x. same_key (own x) a) rs))) ≡ true → (some? (same_key b) later ≡ true → rank b < rank a) → rank b < rank a
      by true e u f = or_later e (some? (same_key b) (needs_of w.book r)) refl (sym (some_append (same_key b) (needs_of w.book r) later) ∙ u) f
      by false e u f = f u

  module _ (h : every? falls w.rows ≡ true) where
    need_less : (a b : Key) → T (some? (same_key b) (needs_at w a)) → rank b < rank a
    unfolding needs_at
    need_less a b n = need_in a b w.rows h (passed (some? (same_key b) (needs_at w a)) n)

    leads_less : {a b : Key} → Leads w a b → rank b < rank a
    leads_less (last {a = a} {b = b} n) = need_less a b n
    leads_less (next {a = a} {b = b} n l) = omega (arith, need_less a b n, leads_less l)

    pub ranked : (a : Key) → LeadsBack w a → ⊥
    ranked a l = omega (arith, leads_less l)
