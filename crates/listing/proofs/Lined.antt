-- A head and lines, one after another from the front of a text: what stands there is what was printed of the definition's listing.
use Prim.Native.Nat.{ℕ, ◌+◌, ◌*◌, ◌≤◌, ◌<◌}
use native.Mathlib.Omega.{arith}
use mathlib.Core.Path.{◌≡◌, refl, sym, ap, ◌∙◌}
use mathlib.Core.List.{List, [], ◌++◌}
use lib.Ieee.{Float}
use lib.IntN.{ℤ}
use lib.ListN.{length, take, get_or}
use mir.Syntax.{w32}
use mir.Val.{to_z}
use Rattle.laws.specs.Floats.{zero_f}
use Rattle.rules.specs.Answer.{ok}
use Rattle.rules.specs.Dispatch.{Row}
use Rattle.rules.specs.Listing.{line, listing}
use Rattle.rules.specs.Outcome.{Done}
use Rattle.listing.specs.Pieces.{longest, head_of, printed, Shown}
use Rattle.listing.specs.Put.{put, puts, Begins}
use Rattle.listing.proofs.Puts.{grows, as_long}
use Rattle.listing.proofs.Wholes.{printed_none, printed-next, printed-all}

-- what was put at the front stands there
pub begun : (xs : List ℕ) (out : List ℕ) {r : ℕ} {now : List ℕ} → r ≤ length out → put r now ≡ puts xs (put 0 out) → Begins now r xs
begun xs out h e = record { first = grows xs 0 out (omega arith) h e; inside = omega (arith, h, as_long xs 0 out e) }

module _ (n : ℕ) (rows : List (List ℕ)) (values : List Float) where
  -- after the head and some lines
  pub record Lined (long : ℕ) (text : List ℕ) (end next : ℕ) : Type 0 where
    pub even : length text ≡ long
    pub inside : end ≤ longest * (next + 1)
    pub within : next ≤ n
    pub goes_on : (d : Done) → Shown d n rows values → take end text ≡ printed d next

  pub head_lined : (out : List ℕ) {r : ℕ} {now : List ℕ} → longest ≤ length out → r ≤ longest → put r now ≡ puts (head_of n) (put 0 out) → Lined (length now) now r 0
  head_lined out h b e =
      record {
        even = refl;
        inside = omega (arith, b);
        within = omega arith;
        goes_on = λ d s. (begun (head_of n) out (omega (arith, b, h)) e).first ∙ ap head_of s.count ∙ sym (printed_none d);
      }

  module _ {long : ℕ} {text : List ℕ} {end next : ℕ} (room : longest * (n + 1) ≤ long) (w : Lined long text end next) where
    -- there is room for one line more
    pub line_room : next < n → end + longest ≤ length text
    line_room h = omega (arith, room, h, w.inside, w.even)

    -- one line more
    pub one_more : {r : ℕ} {now : List ℕ} (i : ℤ) (x : Float) → next < n → length now ≡ length text → r ≤ end + longest → i ≡ to_z w32 (get_or (get_or rows next []) 1 0)
        → ((row : Row) → row.object ≡ get_or (get_or rows next []) 0 0 → row.id ≡ i → put r now ≡ puts (line row (get_or values next x)) (put end text))
        → Lined long now r (next + 1)
    one_more {r} {now} i x h k b z e =
        record {
          even = k ∙ w.even;
          inside = omega (arith, b, w.inside);
          within = omega (arith, h);
          goes_on = go;
        }
      where
        go : (d : Done) → Shown d n rows values → take r now ≡ printed d (next + 1)
        go d s =
            let row : Row = get_or d.rows next (record { object = 0; id = i; base = zero_f; entries = [] }) in
            let v : Float = get_or values next x in
            grows (line row v) end text (omega (arith, line_room h)) (omega (arith, b, line_room h)) (e row (s.object next _ h) (s.id next _ h ∙ sym z))
            ∙ ap (λ (t : List ℕ). t ++ line row v) (w.goes_on d s)
            ∙ ap (λ (y : Float). printed d next ++ line row y) (sym (s.value next x h))
            ∙ sym (printed-next d next _ x (omega (arith, h, s.count)) (omega (arith, h, s.valued)))

    -- with all lines it is the whole listing
    pub all_lined : n ≤ next → (d : Done) → Shown d n rows values → Begins text end (listing (ok d))
    all_lined h d s =
        record {
          first = w.goes_on d s ∙ ap (printed d) (omega (arith, h, w.within, s.count)) ∙ printed-all d;
          inside = omega (arith, room, w.inside, w.within, w.even);
        }
