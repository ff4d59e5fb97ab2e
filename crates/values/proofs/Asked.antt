-- The walk asks for every row.
use Prim.Native.Nat.{ℕ, ◌+◌, ◌-◌, ◌≤◌, ◌<◌}
use native.Mathlib.Omega.{arith}
use mathlib.Core.Path.{◌≡◌, refl, ap, ◌∙◌}
use mathlib.Core.Bool.{Bool, true, false, ◌||◌}
use mathlib.Core.List.{List, ◌++◌, map}
use mathlib.Core.Logic.{inl, inr}
use borrow.Author.Tests.{ltb-true, ltb-false, lt-ltb, le-ltb, le-leb, lt-leb}
use lib.Dec.{ltb, leb}
use lib.ListN.{length, get_or, length-append, length-map}
use lib.Seq.{get_or-append-add}
use Rattle.laws.proofs.Bools.{true_or_false, or_true_right}
use Rattle.laws.proofs.Maps.{map_at}
use Rattle.rules.specs.Dispatch.{Row}
use Rattle.rules.specs.Outcome.{walk_order, starts_of}
use Rattle.rules.specs.Sheet.{Fit}
use Rattle.rules.specs.Value.{World}
use Rattle.reading.specs.Held.{no_row}
use Rattle.reading.specs.declared.turns.Turns.{Turns}
use Rattle.reading.specs.Order.{stays, projected_rows, walked_at, Ordered, TurnsOf}
use Rattle.reading.proofs.Walks.{turns_long, turn_at}
use Rattle.values.specs.Complete.{ask_of, Among, AllAsked}

-- a turn of n that is at row i
record Turn (t : Turns) (n i : ℕ) : Type 0 where
  turn : ℕ
  inside : turn < n
  is : walked_at t turn ≡ i

module _ (t : Turns) (o : Ordered t) (n : ℕ) (p : t.projected ≤ n) (i : ℕ) (h : i < n) where
  stayed : stays t i ≡ true → Turn t n i
  stayed e = record { turn = i; inside = h; is = rw e refl }

  moving : (k : ℕ) → t.ship ≤ k → k < t.projected → stays t k ≡ false
  moving k l m = rw (le-ltb k t.ship l, lt-leb t.projected k m) refl

  -- a row of mode or char waits for those of the projected ones
  later : t.ship ≤ i → i < t.character → Turn t n i
  later l m =
      let k = i + projected_rows t in
      record {
        turn = k;
        inside = omega (arith, m, p, o.character);
        is = rw (moving k (omega (arith, l)) (omega (arith, m, o.character)), le-ltb k (t.ship + projected_rows t) (omega (arith, l))) (omega arith);
      }

  sooner : t.character ≤ i → i < t.projected → Turn t n i
  sooner l m =
      let k = i - t.character + t.ship in
      record {
        turn = k;
        inside = omega (arith, m, p, l, o.ship);
        is = rw (moving k (omega arith) (omega (arith, m, l, o.ship)), lt-ltb k (t.ship + projected_rows t) (omega (arith, l, m))) (omega (arith, l));
      }

  turn_of : Turn t n i
  turn_of = elim (true_or_false (ltb i t.ship)) [
    | inl a ↦ stayed (ap (λ (b : Bool). b || leb t.projected i) a)
    | inr a ↦ elim (true_or_false (ltb i t.character)) [
      | inl b ↦ later (ltb-false i t.ship a) (ltb-true i t.character b)
      | inr b ↦ elim (true_or_false (ltb i t.projected)) [
        | inl c ↦ sooner (ltb-false i t.character b) (ltb-true i t.projected c)
        | inr c ↦
            stayed (ap (λ (x : Bool). ltb i t.ship || x) (le-leb t.projected i (ltb-false i t.projected c)) ∙ or_true_right (ltb i t.ship))
      ]
    ]
  ]

pub walk_asks : (w : World) (f : Fit) (t : Turns) → TurnsOf f w.rows t → AllAsked w (starts_of f w.rows)
walk_asks w f t T i h =
    let rs = w.rows in
    let u = turn_of t T.ordered (length rs) T.inside i h in
    let walk = walk_order f.objects rs in
    record {
      at = length f.asks + u.turn;
      inside = omega (arith, u.inside, length-append f.asks (map ask_of walk), length-map walk ask_of, turns_long T);
      is =
          get_or-append-add f.asks (map ask_of walk) u.turn (ask_of no_row) ∙ map_at ask_of walk u.turn no_row (ask_of no_row) (omega (arith, u.inside, turns_long T))
          ∙ ap ask_of (turn_at T u.turn u.inside ∙ ap (λ (k : ℕ). get_or rs k no_row) u.is);
    }
