-- Lines of figures, one after another from the front of a text.
use Prim.Native.Nat.{ℕ, zero, suc, ◌+◌, ◌-◌, ◌*◌, ◌≤◌, ◌<◌}
use native.Mathlib.Nat.{not-suc-le-zero, le_of_suc-le-suc, pow-le-pow_right}
use native.Mathlib.Numerals.{add-one}
use native.Mathlib.Omega.{arith}
use mathlib.Core.Path.{◌≡◌, refl, sym, ap, ◌∙◌}
use mathlib.Core.Bool.{Bool, true, false}
use mathlib.Core.List.{List, [], ◌∷◌, ◌++◌, append_assoc, append-nil}
use lib.Dec.{ltb}
use lib.Ieee.{Float, binary64, to_bits}
use lib.IntN.{ℤ}
use lib.ListN.{length, take, get_or}
use mir.Syntax.{w32}
use mir.Val.{to_z}
use borrow.Author.Tests.{ltb-true, ltb-false}
use Rattle.io.specs.Digits.{last_digits, IsDigitCount}
use Rattle.laws.specs.Floats.{zero_f}
use Rattle.rules.specs.Answer.{Res, ok, refused, number, place}
use Rattle.rules.specs.Columns.{value_list}
use Rattle.rules.specs.Dispatch.{Row}
use Rattle.rules.specs.Listing.{natural, integer, listing}
use Rattle.rules.specs.Outcome.{Done}
use Rattle.rules.specs.Answer.{Refused}
use Rattle.rules.specs.declared.Refusal.{Refusal}
use Rattle.listing.specs.Pieces.{Shown, Tells}
use Rattle.listing.specs.Put.{put, puts, Begins}
use Rattle.listing.proofs.Puts.{grows}
use Rattle.listing.proofs.Told.{no_number}
use Rattle.figures.specs.Figures.{longest, bits_text, fields, figure, figures, figured, figures_text}

-- 64 bits have sixteen digits
module _ (n k : ℕ) (f : IsDigitCount 16 16 n k) (h : n < 18446744073709551616) where
  no_more : (t : Bool) → ltb 16 k ≡ t → k ≤ 16
  no_more false e = omega (arith, ltb-false 16 k e)
  no_more true e = absurd (omega (arith, h, f.2 (ltb-true 16 k e), pow-le-pow_right {n = 16} (omega arith) {i = 16} {j = k - 1} (omega (arith, ltb-true 16 k e))))

  pub sixteen : k ≡ 16
  sixteen = omega (arith, f.0, no_more (ltb 16 k) refl)

pub bits_are : (n k : ℕ) {xs : List ℕ} → xs ≡ last_digits 16 k n → k ≡ 16 → xs ≡ bits_text n
unfolding bits_text
bits_are n k e h = e ∙ ap (λ (m : ℕ). last_digits 16 m n) h

-- ---- a line, from each place where a piece of it begins

abbrev pub id : ℤ → ℕ → List ℕ
id i n = integer i ++ (32 ∷ bits_text n)

pub fields_are : (o n : ℕ) {i j : ℤ} → i ≡ j → natural o ++ (32 ∷ id i n) ≡ fields o j n
unfolding fields
fields_are o n e = rw e refl

pub figure-is : (r : Row) (v : Float) {o : ℕ} {i : ℤ} {n : ℕ} → r.object ≡ o → r.id ≡ i → n ≡ to_bits binary64 v → fields o i n ++ (10 ∷ []) ≡ figure r v
unfolding figure
figure-is r v a b c = rw (sym a, sym b, c) refl

-- ---- the lines so far

figures-next : (rs : List Row) (vs : List Float) (k : ℕ) (r : Row) (v : Float) → k < length rs → k < length vs
    → figures (take (suc k) rs) (take (suc k) vs) ≡ figures (take k rs) (take k vs) ++ figure (get_or rs k r) (get_or vs k v)
unfolding figures
figures-next [] vs k r v h l = absurd (not-suc-le-zero h)
figures-next (x ∷ rs) [] k r v h l = absurd (not-suc-le-zero l)
figures-next (x ∷ rs) (y ∷ vs) zero r v h l = append-nil (figure x y)
figures-next (x ∷ rs) (y ∷ vs) (suc k) r v h l =
    ap (λ (t : List ℕ). figure x y ++ t) (figures-next rs vs k r v (le_of_suc-le-suc h) (le_of_suc-le-suc l))
    ∙ sym (append_assoc (figure x y) (figures (take k rs) (take k vs)) (figure (get_or rs k r) (get_or vs k v)))

figures-all : (rs : List Row) (vs : List Float) → figures (take (length rs) rs) (take (length rs) vs) ≡ figures rs vs
unfolding figures
figures-all [] vs = refl
figures-all (x ∷ rs) [] = refl
figures-all (x ∷ rs) (y ∷ vs) = ap (λ (t : List ℕ). figure x y ++ t) (figures-all rs vs)

figured_none : (d : Done) → [] ≡ figured d 0
unfolding figured figures
figured_none d = refl

figured-next : (d : Done) (k : ℕ) (r : Row) (v : Float) → k < length d.rows → k < length (value_list (ok d))
    → figured d (k + 1) ≡ figured d k ++ figure (get_or d.rows k r) (get_or (value_list (ok d)) k v)
unfolding figured
figured-next d k r v h l = rw add-one (figures-next d.rows (value_list (ok d)) k r v h l)

figured-all : (d : Done) → figured d (length d.rows) ≡ figures_text (ok d)
unfolding figured figures_text
figured-all d = figures-all d.rows (value_list (ok d))

module _ (n : ℕ) (rows : List (List ℕ)) (values : List Float) where
  pub record Figured (long : ℕ) (text : List ℕ) (end next : ℕ) : Type 0 where
    pub even : length text ≡ long
    pub inside : end ≤ longest * next
    pub within : next ≤ n
    pub goes_on : (d : Done) → Shown d n rows values → take end text ≡ figured d next

  pub figured-start : (text : List ℕ) → Figured (length text) text 0 0
  figured-start text = record { even = refl; inside = omega arith; within = omega arith; goes_on = λ d s. figured_none d }

  module _ {long : ℕ} {text : List ℕ} {end next : ℕ} (room : longest * n ≤ long) (w : Figured long text end next) where
    pub figure_room : next < n → end + longest ≤ length text
    figure_room h = omega (arith, room, h, w.inside, w.even)

    pub one_more : {r : ℕ} {now : List ℕ} (i : ℤ) (x : Float) → next < n → length now ≡ length text → r ≤ end + longest → i ≡ to_z w32 (get_or (get_or rows next []) 1 0)
        → ((row : Row) → row.object ≡ get_or (get_or rows next []) 0 0 → row.id ≡ i → put r now ≡ puts (figure row (get_or values next x)) (put end text))
        → Figured long now r (next + 1)
    one_more {r} {now} i x h k b z e =
        record {
          even = k ∙ w.even;
          inside = omega (arith, b, w.inside);
          within = omega (arith, h);
          goes_on = go;
        }
      where
        go : (d : Done) → Shown d n rows values → take r now ≡ figured d (next + 1)
        go d s =
            let row : Row = get_or d.rows next (record { object = 0; id = i; base = zero_f; entries = [] }) in
            let v : Float = get_or values next x in
            grows (figure row v) end text (omega (arith, figure_room h)) (omega (arith, b, figure_room h)) (e row (s.object next _ h) (s.id next _ h ∙ sym z))
            ∙ ap (λ (t : List ℕ). t ++ figure row v) (w.goes_on d s)
            ∙ ap (λ (y : Float). figured d next ++ figure row y) (sym (s.value next x h))
            ∙ sym (figured-next d next _ x (omega (arith, h, s.count)) (omega (arith, h, s.valued)))

    pub all-figured : n ≤ next → (d : Done) → Shown d n rows values → Begins text end (figures_text (ok d))
    all-figured h d s =
        record {
          first = w.goes_on d s ∙ ap (figured d) (omega (arith, h, w.within, s.count)) ∙ figured-all d;
          inside = omega (arith, room, w.inside, w.within, w.even);
        }

-- ---- done, or refused

module _ {k p n : ℕ} {rows : List (List ℕ)} {values : List Float} {text : List ℕ} {end : ℕ} where
  pub told-done : k ≡ 0 → ((d : Done) → Shown d n rows values → Begins text end (figures_text (ok d))) → (o : Res Done) → Tells o k p n rows values → Begins text end (figures_text o)
  told-done h f (ok d) t = f d (t.by_rows d refl)
  told-done h f (refused x) t = absurd (no_number x (sym t.by_number ∙ h))

  pub told-refused : (k ≡ 0 → ⊥) → ((x : Refusal) → number (Refused x) ≡ k → place (Refused x) ≡ p → Begins text end (listing (refused x)))
      → (o : Res Done) → Tells o k p n rows values → Begins text end (figures_text o)
  unfolding figures_text
  told-refused h f (ok d) t = absurd (h t.by_number)
  told-refused h f (refused x) t = f x (sym t.by_number) (sym t.by_place)
