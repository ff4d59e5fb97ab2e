-- What is lent to a pilot's call: POOL's place, or parts that lie in their columns.
use Prim.Native.Nat.{ℕ, ◌≤◌, ◌<◌, min}
use native.Mathlib.Omega.{arith}
use mathlib.Core.Path.{◌≡◌, refl, sym, ap, ◌∙◌, subst}
use mathlib.Core.List.{List}
use mathlib.Core.Option.{Option, none, some}
use Rattle.rules.specs.Outcome.{Lent}
use Rattle.rules.specs.Pool.{stretch_of, pool_rooms, pool_bad}
use Rattle.rules.proofs.Pools.{is_pilot}
use Rattle.std.specs.Prelude.{Result, Ok, Err}
use Rattle.pool.specs.Pooled.{Pooled, pooled_of, part_end}
use Rattle.pool.specs.declared.BadPool.{BadPool}
use Rattle.pool.proofs.Answers.{was_refused, was_lent}
use Rattle.pool.proofs.Parts.{part_inside, part_ordered}
use Rattle.pilots.specs.Given.{parts_at, lending_of, Inside, LentParts}
use Rattle.pilots.specs.declared.lending.Parts.{Parts}

-- ---- what the test of the pool says

module _ (ss : List (List (List ℕ))) (p : ℕ) (l : Lent) {rooms : List ℕ} (e : rooms ≡ pool_rooms l) {v : Pooled} (h : v ≡ pooled_of (pool_bad rooms ss p)) where
  same_rooms : pool_bad (pool_rooms l) ss p ≡ pool_bad rooms ss p
  same_rooms = ap (λ (r : List ℕ). pool_bad r ss p) (sym e)

  pub lends_nothing : {x : BadPool} → v ≡ Err x → Err x ≡ lending_of ss p l
  unfolding lending_of
  lends_nothing g = rw (lending_of, same_rooms ∙ was_refused (pool_bad rooms ss p) (sym g ∙ h)) refl

  pub no_place : v ≡ Ok tt → pool_bad (pool_rooms l) ss p ≡ none
  no_place g = same_rooms ∙ was_lent (pool_bad rooms ss p) (sym g ∙ h)

  pub lends_parts : {at : Parts} → v ≡ Ok tt → at ≡ parts_at ss p → Ok at ≡ lending_of ss p l
  unfolding lending_of
  lends_parts g a = rw (lending_of, no_place g) (ap Ok a)

-- ---- what follows from it

pub fits : (ss : List (List (List ℕ))) (p : ℕ) (l : Lent) → pool_bad (pool_rooms l) ss p ≡ none → Inside (parts_at ss p) l
fits ss p l free =
    let a = part_ordered (stretch_of ss p 1) in
    let b = part_ordered (stretch_of ss p 2) in
    let c = part_ordered (stretch_of ss p 3) in
    let d = part_ordered (stretch_of ss p 4) in
    let e = part_ordered (stretch_of ss p 5) in
    let m : part_end (stretch_of ss p 1) ≤ min l.collected l.collected_values = part_inside (pool_rooms l) ss p free 1 (omega arith) (omega arith) in
    let n : part_end (stretch_of ss p 2) ≤ min l.rows (min l.bases l.values) = part_inside (pool_rooms l) ss p free 2 (omega arith) (omega arith) in
    let o : part_end (stretch_of ss p 3) ≤ min l.entries l.entry_values = part_inside (pool_rooms l) ss p free 3 (omega arith) (omega arith) in
    let r : part_end (stretch_of ss p 4) ≤ l.plain = part_inside (pool_rooms l) ss p free 4 (omega arith) (omega arith) in
    let s : part_end (stretch_of ss p 5) ≤ min l.sources l.source_floats = part_inside (pool_rooms l) ss p free 5 (omega arith) (omega arith) in
    record {
      collected = (a, omega (arith, m));
      collected_values = (a, omega (arith, m));
      rows = (b, omega (arith, n));
      bases = (b, omega (arith, n));
      values = (b, omega (arith, n));
      entries = (c, omega (arith, o));
      entry_values = (c, omega (arith, o));
      plain = (d, r);
      sources = (e, omega (arith, s));
      source_floats = (e, omega (arith, s));
    }

module _ (ss : List (List (List ℕ))) (p : ℕ) (l : Lent) {v : Result Parts BadPool} (h : v ≡ lending_of ss p l) where
  lending_by : (o : Option ℕ) → pool_bad (pool_rooms l) ss p ≡ o → lending_of ss p l ≡ elim o [ some x ↦ Err (record { place = x }) | none ↦ Ok (parts_at ss p) ]
  unfolding lending_of
  lending_by o e = rw (lending_of, e) refl

  pub refused-at : {x : BadPool} → v ≡ Err x → pool_bad (pool_rooms l) ss p ≡ some x.place
  refused-at {x} g = by (pool_bad (pool_rooms l) ss p) refl
    where
      by : (o : Option ℕ) → pool_bad (pool_rooms l) ss p ≡ o → o ≡ some x.place
      by none e = let z = sym g ∙ h ∙ lending_by none e in cc
      by (some y) e = let z = sym g ∙ h ∙ lending_by (some y) e in cc

  module _ {at : Parts} (g : v ≡ Ok at) where
    pub free : pool_bad (pool_rooms l) ss p ≡ none
    free = by (pool_bad (pool_rooms l) ss p) refl
      where
        by : (o : Option ℕ) → pool_bad (pool_rooms l) ss p ≡ o → o ≡ none
        by none e = refl
        by (some y) e = let z = sym g ∙ h ∙ lending_by (some y) e in cc

    pub lies_at : at ≡ parts_at ss p
    lies_at = let z = sym g ∙ h ∙ lending_by none free in cc

-- what is lent lies in its columns, and the number is a pilot's
pub lent-parts : (ss : List (List (List ℕ))) (p : ℕ) (l : Lent) → pool_bad (pool_rooms l) ss p ≡ none → {at : Parts} → at ≡ parts_at ss p → LentParts p l at
lent-parts ss p l n a = record { pilot = is_pilot (pool_rooms l) ss p n; inside = subst (λ (x : Parts). Inside x l) (sym a) (fits ss p l n) }
