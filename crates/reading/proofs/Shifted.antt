-- The turns over a list: its first part, then the third, the second, and the rest.
use Prim.Native.Nat.{ℕ, ◌+◌, ◌-◌, ◌≤◌, ◌<◌}
use native.Mathlib.Nat.{zero-add}
use native.Mathlib.Omega.{arith}
use mathlib.Core.Path.{◌≡◌, refl, sym, ap, ◌∙◌}
use mathlib.Core.Bool.{Bool, true, false, ◌||◌}
use mathlib.Core.List.{List, ◌++◌, map}
use lib.Dec.{ltb, leb}
use lib.ListN.{length, get_or}
use lib.Seq.{ext_get_or}
use borrow.Author.Tests.{lt-ltb, le-ltb, ltb-false, le-leb, lt-leb}
use Rattle.laws.specs.Lists.{span, from}
use Rattle.laws.proofs.Bools.{or_true_right, or_false_left}
use Rattle.laws.proofs.From.{table-length, table_at, table_append}
use Rattle.laws.proofs.Spans.{span_table}
use Rattle.reading.specs.declared.turns.Turns.{Turns}
use Rattle.reading.specs.Order.{stays, projected_rows, walked_at, Ordered}

-- ---- the place of a turn

module _ (t : Turns) (k : ℕ) where
  stayed : stays t k ≡ true → walked_at t k ≡ k
  stayed e = rw e refl

  forward : stays t k ≡ false → k < t.ship + projected_rows t → walked_at t k ≡ k - t.ship + t.character
  forward e l = rw (e, lt-ltb k (t.ship + projected_rows t) l) refl

  back : stays t k ≡ false → t.ship + projected_rows t ≤ k → walked_at t k ≡ k - projected_rows t
  back e l = rw (e, le-ltb k (t.ship + projected_rows t) l) refl

  at_ship : k < t.ship → walked_at t k ≡ k
  at_ship h = stayed (ap (λ (b : Bool). b || leb t.projected k) (lt-ltb k t.ship h))

  at_rest : t.projected ≤ k → walked_at t k ≡ k
  at_rest h = stayed (ap (λ (b : Bool). ltb k t.ship || b) (le-leb t.projected k h) ∙ or_true_right (ltb k t.ship))

  not-stays : t.ship ≤ k → k < t.projected → stays t k ≡ false
  not-stays h l = rw (le-ltb k t.ship h, lt-leb t.projected k l) refl

  pub past_ship : stays t k ≡ false → t.ship ≤ k
  past_ship e = ltb-false k t.ship (or_false_left (ltb k t.ship) (leb t.projected k) e)

  -- what the code is to give
  abbrev Walked : ℕ → Type 0
  Walked r = (r ≡ walked_at t k) × ((n : ℕ) → t.projected ≤ n → k < n → r < n)

  pub walked_own : stays t k ≡ true → Walked k
  walked_own e = (sym (stayed e), λ n l m. m)

  module _ (o : Ordered t) (e : stays t k ≡ false) where
    pub walked_projected : k < t.ship + projected_rows t → Walked (k - t.ship + t.character)
    walked_projected h = (sym (forward e h), λ n l m. omega (arith, past_ship e, o.character))

    pub walked_owner : t.ship + projected_rows t ≤ k → Walked (k - projected_rows t)
    walked_owner h = (sym (back e h), λ n l m. omega arith)

-- ---- all turns

pub table_shift : {A : Type 0} (f g : ℕ → A) (d : A) (a b n : ℕ) → ((j : ℕ) → j < n → f (a + j) ≡ g (b + j)) → map f (from a n) ≡ map g (from b n)
table_shift f g d a b n e =
    ext_get_or d (map f (from a n)) (map g (from b n)) (table-length f a n ∙ sym (table-length g b n)) (λ j h. both j (rw (table-length f a n) at h))
  where
    both : (j : ℕ) → j < n → get_or (map f (from a n)) j d ≡ get_or (map g (from b n)) j d
    both j h = table_at f a n j d h ∙ e j h ∙ sym (table_at g b n j d h)

module _ {A : Type 0} (xs : List A) (d : A) (t : Turns) (o : Ordered t) (inside : t.projected ≤ length xs) where
  turn : ℕ → A
  turn k = get_or xs (walked_at t k) d

  -- from a on, n turns go over the places from b on
  part : (a b n : ℕ) → b + n ≤ length xs → ((j : ℕ) → j < n → walked_at t (a + j) ≡ b + j) → span b n xs ≡ map turn (from a n)
  unfolding turn
  part a b n h e =
      span_table b n xs d h ∙ sym (table_shift turn (λ k. get_or xs k d) d a b n (λ j l. ap (λ (k : ℕ). get_or xs k d) (e j l)))

  pub shifted : span 0 t.ship xs ++ (span t.character (projected_rows t) xs ++ (span t.ship (t.character - t.ship) xs ++ span t.projected (length xs - t.projected) xs))
      ≡ map (λ k. get_or xs (walked_at t k) d) (from 0 (length xs))
  unfolding turn
  shifted =
      rw (first, projected, owners, rest)
      (sym (ap (λ (n : ℕ). map turn (from 0 n)) all
      ∙ table_append turn 0 t.ship (projected_rows t + (t.character - t.ship + (length xs - t.projected)))
      ∙ rw (zero-add t.ship) (ap (λ (l : List A). map turn (from 0 t.ship) ++ l)
      (table_append turn t.ship (projected_rows t) (t.character - t.ship + (length xs - t.projected))
      ∙ ap (λ (l : List A). map turn (from t.ship (projected_rows t)) ++ l)
      (table_append turn (t.ship + projected_rows t) (t.character - t.ship) (length xs - t.projected)
      ∙ ap (λ (n : ℕ). map turn (from (t.ship + projected_rows t) (t.character - t.ship)) ++ map turn (from n (length xs - t.projected))) last)))))
    where
      first : span 0 t.ship xs ≡ map turn (from 0 t.ship)
      first = part 0 0 t.ship (omega (arith, o.ship, o.character)) (λ j h. at_ship t (0 + j) (omega arith))

      projected : span t.character (projected_rows t) xs ≡ map turn (from t.ship (projected_rows t))
      projected =
          part t.ship t.character (projected_rows t) (omega (arith, o.character))
          (λ j h. forward t (t.ship + j) (not-stays t (t.ship + j) (omega arith) (omega (arith, o.ship))) (omega arith) ∙ omega arith)

      owners : span t.ship (t.character - t.ship) xs ≡ map turn (from (t.ship + projected_rows t) (t.character - t.ship))
      owners =
          part (t.ship + projected_rows t) t.ship (t.character - t.ship) (omega (arith, o.ship, o.character))
          (λ j h. back t (t.ship + projected_rows t + j) (not-stays t (t.ship + projected_rows t + j) (omega arith) (omega (arith, o.character))) (omega arith) ∙ omega arith)

      rest : span t.projected (length xs - t.projected) xs ≡ map turn (from t.projected (length xs - t.projected))
      rest = part t.projected t.projected (length xs - t.projected) (omega arith) (λ j h. at_rest t (t.projected + j) (omega arith))

      all : length xs ≡ t.ship + (projected_rows t + (t.character - t.ship + (length xs - t.projected)))
      all = omega (arith, o.ship, o.character)

      last : t.ship + projected_rows t + (t.character - t.ship) ≡ t.projected
      last = omega (arith, o.ship, o.character)
