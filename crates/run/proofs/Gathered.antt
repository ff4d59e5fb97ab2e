-- What collection's answer says, and what dispatch may take from it.
use Prim.Native.Nat.{ℕ, ◌≤◌, zero-le}
use native.Mathlib.Omega.{arith}
use mathlib.Core.Path.{◌≡◌, refl, sym, ap, subst, ◌∙◌}
use mathlib.Core.List.{List, []}
use lib.Ieee.{Float}
use lib.ListN.{length, get_or}
use Rattle.laws.specs.Columns.{laid, Col}
use Rattle.laws.specs.Floats.{zero_f}
use Rattle.laws.proofs.Laid.{laid-length, col_row}
use Rattle.rules.specs.Answer.{Res, ok, refused}
use Rattle.rules.specs.Bytes.{count_of}
use Rattle.rules.specs.Sheet.{book_of, fit_of}
use Rattle.rules.specs.Collect.{Move, moves, taken_of, plain_of}
use Rattle.rules.specs.Columns.{collected_numbers, plain_numbers}
use Rattle.rules.specs.Outcome as outcome
use Rattle.rules.specs.Outcome.{collected_in}
use Rattle.info.specs.Sound.{SoundFit}
use Rattle.info.proofs.Elements.{objects_length}
use Rattle.info.specs.Stands.{Pointing, no_effect}
use Rattle.modifier.specs.Ran.{at, ended, value_of}
use Rattle.collect.proofs.Bounds.{bounded_at, row-points}
use Rattle.dispatch.specs.Whole.{Collection}
use Rattle.run.proofs.Steps.{within}

-- lists 1 and 4 hold what the moves give, n and p rows
pub record Gathered (q : outcome.Rooms) (ms : List Move) (n p : ℕ) (c c' : List (List ℕ)) (v v' : List Float) (l l' : List (List ℕ)) : Type 0 where
  pub done : outcome.collected q 0 0 ms ≡ ok tt
  pub count : n ≡ length (taken_of ms)
  pub plain : p ≡ length (plain_of ms)
  pub few : n ≤ q.collected
  pub numbers : Col collected_numbers (taken_of ms) c c'
  pub values : Col value_of (taken_of ms) v v'
  pub plains : Col plain_numbers (plain_of ms) l l'

laid_col : {R B : Type 0} (enc : R → B) (rs : List R) (c c' : List B) → c' ≡ laid enc rs c → length rs ≤ length c → Col enc rs c c'
laid_col enc rs c c' e h = record { is = e; long = ap length e ∙ laid-length enc rs c h }

module _ (q : outcome.Rooms) (ms : List Move) {n p : ℕ} {c c' : List (List ℕ)} {v v' : List Float} {l l' : List (List ℕ)} (hc : q.collected ≤ length c) (hv : q.collected ≤ length v) (hl : q.plain ≤ length l) where
  by : (r : Res Unit) → outcome.collected q 0 0 ms ≡ r → at n p c' v' l' ≡ ended r ms c v l → Gathered q ms n p c c' v v' l l'
  by (ok u) d e =
      let i = within q ms 0 0 d zero-le zero-le in
      let a : n ≡ length (taken_of ms) = cc in
      record {
        done = d;
        count = a;
        plain = cc;
        few = omega (arith, i.0, a);
        numbers = laid_col collected_numbers (taken_of ms) c c' (cc) (omega (arith, i.0));
        values = laid_col value_of (taken_of ms) v v' (cc) (omega (arith, i.0));
        plains = laid_col plain_numbers (plain_of ms) l l' (cc) (omega (arith, i.1));
      }
  by (refused x) d e = absurd (let z : ◌≡◌ {A = ℕ} 0 1 = cc in omega arith)

  pub gathered : at n p c' v' l' ≡ ended (outcome.collected q 0 0 ms) ms c v l → Gathered q ms n p c c' v v' l l'
  gathered e = by (outcome.collected q 0 0 ms) refl e

module _ (book fit : List ℕ) (pairs : List (List ℕ)) (S : SoundFit fit pairs) where
  pub collection : {q : outcome.Rooms} {n p : ℕ} {c c' : List (List ℕ)} {v v' : List Float} {l l' : List (List ℕ)} → q.collected ≤ length c → q.collected ≤ length v → Gathered q (moves (book_of book pairs) (fit_of fit pairs)) n p c c' v v' l l' → Collection (collected_in (book_of book pairs) (fit_of fit pairs)) n c' v' (count_of pairs 6)
  unfolding collected_in
  collection {c = c} {c' = c'} hc hv G =
      let es = taken_of (moves (book_of book pairs) (fit_of fit pairs)) in
      record {
        count = G.count;
        inside = omega (arith, G.few, hc, G.numbers.long);
        even = omega (arith, G.few, hv, G.values.long);
        held = record {
          numbers = λ j h. col_row collected_numbers es G.numbers j no_effect [] h;
          values = λ j h. col_row value_of es G.values j no_effect zero_f h;
          narrow = λ j h. (bounded_at book fit pairs S j no_effect h).attribute;
        };
        points = λ j h. subst (λ (m : ℕ). Pointing (get_or c' j []) m) (objects_length fit pairs) (subst (λ (x : List (List ℕ)). Pointing (get_or x j []) (length (fit_of fit pairs).objects)) (sym G.numbers.is) (row-points book fit pairs S c j no_effect h));
        narrow = λ j h. (bounded_at book fit pairs S j no_effect h).modifier;
      }
