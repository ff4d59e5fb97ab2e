-- The points of all, a line at a time: what its pieces cost is added at each price.
use Prim.Native.Nat.{ℕ, zero, suc, ◌+◌, ◌*◌, ◌-◌, ◌≤◌, ◌<◌}
use native.Mathlib.Nat.{add-zero, add-mul, mul-add, mul-zero, mul-le-mul_left, eq-or-lt_of_le}
use native.Mathlib.Omega.{arith}
use mathlib.Core.Path.{◌≡◌, refl, sym, ap, subst, ◌∙◌}
use mathlib.Core.Bool.{Bool, true, false, ◌&&◌, ◌||◌, cond}
use mathlib.Core.List.{List, [], ◌∷◌, ◌++◌}
use mathlib.Core.Logic.{◌⊎◌, inl, inr}
use lib.Dec.{eqb, ltb}
use lib.IntN.{ℤ}
use lib.ListN.{length, get_or, take}
use lib.Seq.{get_or-take, length-take-le, take_all}
use lib.Signed.{lt_z}
use borrow.Author.Tests.{eqb-true, ltb-true, ne_eqb}
use Rattle.laws.specs.Lists.{eq_z, first}
use Rattle.laws.proofs.Bools.{and_left, and_right, both_ways, not-passed}
use Rattle.laws.proofs.Maps.{take_next}
use Rattle.laws.proofs.Order.{eq_z_true, eq_z_sym, lt_z_irrefl}
use Rattle.rules.specs.declared.Item.{Item}
use Rattle.tallies.specs.Tallies.{Line, line_of, rises, total, is_price_of, number_or0, points_of, points}
use Rattle.tallies.specs.Blocks.{Ordered, pieces_by}
use Rattle.tallies.proofs.Blocks.{rises_alike}

-- ---- the price of a type

-- a line after all others, which is a price where none was before
first-after : (p : Line → Bool) (xs : List Line) (x : Line) → ((i : ℕ) → i < length xs → p x ≡ true → p (get_or xs i (line_of [])) ≡ false)
    → number_or0 (first p (xs ++ (x ∷ []))) ≡ number_or0 (first p xs) + cond (p x) x.number 0
first-after p [] x h = by (p x) refl
  where
    by : (t : Bool) → p x ≡ t → number_or0 (first p (x ∷ [])) ≡ 0 + cond (p x) x.number 0
    by true e = rw e (let z : x.number ≡ 0 + x.number = omega arith in z)
    by false e = rw e refl
first-after p (y ∷ xs) x h = by (p y) refl (first-after p xs x (λ i l q. h (suc i) (omega arith) q))
  where
    by : (t : Bool) → p y ≡ t → number_or0 (first p (xs ++ (x ∷ []))) ≡ number_or0 (first p xs) + cond (p x) x.number 0
        → number_or0 (first p (y ∷ (xs ++ (x ∷ [])))) ≡ number_or0 (first p (y ∷ xs)) + cond (p x) x.number 0
    by true e r = rw e (sym (ap (λ (s : Bool). y.number + cond s x.number 0) (not-passed (p x) (λ q. both_ways e (h 0 (omega arith) q))) ∙ add-zero y.number))
    by false e r = rw e r

-- a bound of all prices is one of the first
first_few : (p : Line → Bool) (b : ℕ) (xs : List Line) → ((i : ℕ) → i < length xs → p (get_or xs i (line_of [])) ≡ true → (get_or xs i (line_of [])).number ≤ b) → number_or0 (first p xs) ≤ b
first_few p b [] h = omega arith
first_few p b (y ∷ xs) h = by (p y) refl (first_few p b xs (λ i l q. h (suc i) (omega arith) q))
  where
    by : (t : Bool) → p y ≡ t → number_or0 (first p xs) ≤ b → number_or0 (first p (y ∷ xs)) ≤ b
    by true e r = rw e (h 0 (omega arith) e)
    by false e r = rw e r

module _ (ls : List Line) (O : Ordered ls) where
  abbrev At : ℕ → Line
  At i = get_or ls i (line_of [])

  -- no type has two
  one_price : (t : ℤ) (m i : ℕ) → m < i → i < length ls → is_price_of t (At i) ≡ true → is_price_of t (At m) ≡ false
  one_price t m i l h e = not-passed (is_price_of t (At m)) (λ q. both_ways (twice q) (lt_z_irrefl t))
    where
      kind_of : (l : Line) → is_price_of t l ≡ true → l.kind ≡ 0
      kind_of l q = eqb-true l.kind 0 (and_left (eqb l.kind 0) (eq_z l.id t) q)

      id_of : (l : Line) → is_price_of t l ≡ true → l.id ≡ t
      id_of l q = eq_z_true l.id t (and_right (eqb l.kind 0) (eq_z l.id t) q)

      twice : is_price_of t (At m) ≡ true → lt_z t t ≡ true
      twice q =
          subst (λ (z : ℤ). lt_z z t ≡ true) (id_of (At m) q)
          (subst (λ (z : ℤ). lt_z (At m).id z ≡ true) (id_of (At i) e) (rises_alike (At m) (At i) (O.rising m i l h) (kind_of (At m) q ∙ sym (kind_of (At i) e))))

  price_next : (t : ℤ) (i : ℕ) → i < length ls → points_of (take (i + 1) ls) t ≡ points_of (take i ls) t + cond (is_price_of t (At i)) (At i).number 0
  price_next t i h =
      ap (λ (xs : List Line). points_of xs t) (take_next ls i (line_of []) h)
      ∙ first-after (is_price_of t) (take i ls) (At i) (λ m l e. let less = rw (length-take-le i ls (omega arith)) at l in ap (is_price_of t) (get_or-take i ls m (line_of []) less) ∙ one_price t m i less h e)

  price_few : (t : ℤ) (i : ℕ) → i ≤ length ls → points_of (take i ls) t ≤ 65535
  price_few t i h =
      first_few (is_price_of t) 65535 (take i ls) (λ m l e.
      let less = rw (length-take-le i ls h) at l in
      let same = get_or-take i ls m (line_of []) less in
      subst (λ (x : Line). x.number ≤ 65535) (sym same)
      (O.cheap m (omega arith) (eqb-true (At m).kind 0 (and_left (eqb (At m).kind 0) (eq_z (At m).id t) (ap (is_price_of t) (sym same) ∙ e)))))

-- before a price there are none but prices
before_price : (a b : Line) → rises a b ≡ true → b.kind ≡ 0 → a.kind ≡ 0
before_price a b r z = by (ltb a.kind b.kind) refl r
  where
    by : (t : Bool) → ltb a.kind b.kind ≡ t → t || (eqb a.kind b.kind && lt_z a.id b.id) ≡ true → a.kind ≡ 0
    by true h q = absurd (omega (arith, ltb-true a.kind b.kind h, z))
    by false h q = eqb-true a.kind b.kind (and_left (eqb a.kind b.kind) (lt_z a.id b.id) q) ∙ z

-- ---- over all objects

-- two sums in one
total-both : (f g h : Item → ℕ) → ((o : Item) → f o ≡ g o + h o) → (os : List Item) → total f os ≡ total g os + total h os
total-both f g h e [] = refl
total-both f g h e (o ∷ r) = omega (arith, e o, total-both f g h e r)

-- what the pieces of a type cost, at so much each
cost_of : (t : ℤ) (n : ℕ) (os : List Item) → total (λ o. o.quantity * cond (eq_z t o.type_id) n 0) os ≡ pieces_by 0 os t * n
cost_of t n [] = omega arith
cost_of t n (o ∷ r) = ap (λ (b : Bool). o.quantity * cond b n 0 + rest) (eq_z_sym t o.type_id) ∙ by (eq_z o.type_id t) refl (cost_of t n r)
  where
    rest : ℕ
    rest = total (λ o. o.quantity * cond (eq_z t o.type_id) n 0) r

    by : (s : Bool) → eq_z o.type_id t ≡ s → rest ≡ pieces_by 0 r t * n → o.quantity * cond (eq_z o.type_id t) n 0 + rest ≡ pieces_by 0 (o ∷ r) t * n
    by true e q = rw e (ap (λ (m : ℕ). o.quantity * n + m) q ∙ sym (add-mul o.quantity (pieces_by 0 r t) n))
    by false e q = rw e (omega (arith, mul-zero o.quantity, q))

no_cost : (os : List Item) → total (λ o. o.quantity * 0) os ≡ 0
no_cost [] = refl
no_cost (o ∷ r) = omega (arith, mul-zero o.quantity, no_cost r)

line_cost : (l : Line) (os : List Item) → total (λ o. o.quantity * cond (is_price_of o.type_id l) l.number 0) os ≡ cond (eqb l.kind 0) (pieces_by 0 os l.id * l.number) 0
line_cost l os = by (eqb l.kind 0) refl
  where
    by : (t : Bool) → eqb l.kind 0 ≡ t → total (λ o. o.quantity * cond (is_price_of o.type_id l) l.number 0) os ≡ cond (eqb l.kind 0) (pieces_by 0 os l.id * l.number) 0
    by true e = rw e (cost_of l.id l.number os)
    by false e = rw e (no_cost os)

total_few : (f : Item → ℕ) (b : ℕ) → ((o : Item) → f o ≤ b) → (os : List Item) → total (λ o. o.quantity * f o) os ≤ total (λ o. o.quantity) os * b
total_few f b h [] = omega arith
total_few f b h (o ∷ r) = omega (arith, mul-le-mul_left o.quantity (h o), total_few f b h r, add-mul o.quantity (total (λ o. o.quantity) r) b)

module _ (ls : List Line) (O : Ordered ls) (os : List Item) where
  pub points_none : points (take 0 ls) os ≡ 0
  points_none = no_cost os

  -- a line more
  pub points-next : (i : ℕ) → i < length ls
      → points (take (i + 1) ls) os ≡ points (take i ls) os + cond (eqb (get_or ls i (line_of [])).kind 0) (pieces_by 0 os (get_or ls i (line_of [])).id * (get_or ls i (line_of [])).number) 0
  points-next i h =
      total-both (λ o. o.quantity * points_of (take (i + 1) ls) o.type_id) (λ o. o.quantity * points_of (take i ls) o.type_id) (λ o. o.quantity * cond (is_price_of o.type_id (get_or ls i (line_of []))) (get_or ls i (line_of [])).number 0)
      (λ o. ap (λ (n : ℕ). o.quantity * n) (price_next ls O o.type_id i h) ∙ mul-add o.quantity (points_of (take i ls) o.type_id) (cond (is_price_of o.type_id (get_or ls i (line_of []))) (get_or ls i (line_of [])).number 0)) os
      ∙ ap (λ (n : ℕ). points (take i ls) os + n) (line_cost (get_or ls i (line_of [])) os)

  pub points_few : (i : ℕ) → i ≤ length ls → total (λ o. o.quantity) os ≤ 4398046510080 → points (take i ls) os ≤ 288225978038092800
  points_few i h few = omega (arith, total_few (λ o. points_of (take i ls) o.type_id) 65535 (λ o. price_few ls O o.type_id i h) os)

  -- behind a line that is no price there is none
  module _ (i : ℕ) (e : (get_or ls i (line_of [])).kind ≡ 0 → ⊥) where
    no_price : (m : ℕ) → m < length ls → (i ≡ m) ⊎ (i < m) → (get_or ls m (line_of [])).kind ≡ 0 → ⊥
    no_price m h (inl q) z = e (subst (λ (x : ℕ). (get_or ls x (line_of [])).kind ≡ 0) (sym q) z)
    no_price m h (inr q) z = e (before_price (get_or ls i (line_of [])) (get_or ls m (line_of [])) (O.rising i m q h) z)

    points_on : (n : ℕ) → i + n ≤ length ls → points (take (i + n) ls) os ≡ points (take i ls) os
    points_on zero l = ap (λ (m : ℕ). points (take m ls) os) (add-zero i)
    points_on (suc n) l =
        let h : i + n < length ls = omega arith in
        ap (λ (m : ℕ). points (take m ls) os) (let z : i + suc n ≡ i + n + 1 = omega arith in z) ∙ points-next (i + n) h
        ∙ ap (λ (b : Bool). points (take (i + n) ls) os + cond b (pieces_by 0 os (get_or ls (i + n) (line_of [])).id * (get_or ls (i + n) (line_of [])).number) 0)
        (ne_eqb (get_or ls (i + n) (line_of [])).kind 0 (no_price (i + n) h (eq-or-lt_of_le {n = i} {m = i + n} (omega arith))))
        ∙ add-zero (points (take (i + n) ls) os) ∙ points_on n (omega arith)

    pub points-all : i ≤ length ls → points (take i ls) os ≡ points ls os
    points-all h =
        sym (ap (λ (xs : List Line). points xs os) (sym (take_all (i + (length ls - i)) ls (omega arith))) ∙ points_on (length ls - i) (omega arith))
