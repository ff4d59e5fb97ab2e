-- Records put one after another from the front of a text: what stands there is the definition's text so far; or it does not fit.
use Prim.Native.Nat.{ℕ, zero, suc, ◌+◌, ◌≤◌, ◌<◌}
use native.Mathlib.Nat.{not-suc-le-zero, le_of_suc-le-suc}
use native.Mathlib.Numerals.{add-one}
use native.Mathlib.Omega.{arith}
use Rattle.std.specs.Prelude as code
use mathlib.Core.Path.{◌≡◌, refl, sym, ap, subst, ◌∙◌}
use mathlib.Core.List.{List, [], ◌∷◌, ◌++◌, append-nil, append_assoc}
use lib.Ieee.{Float}
use lib.IntN.{ℤ, pos}
use lib.ListN.{length, take, get_or, length-append}
use lib.Seq.{length-take-le}
use Rattle.laws.specs.Floats.{zero_f}
use Rattle.laws.specs.Lists.{flat}
use Rattle.rules.specs.Answer.{ok}
use Rattle.rules.specs.Bytes.{signed}
use Rattle.rules.specs.Columns.{value_list}
use Rattle.rules.specs.Dispatch.{Row}
use Rattle.rules.specs.Listing.{ascii}
use Rattle.rules.specs.Outcome.{Done}
use Rattle.listing.specs.Pieces.{Shown}
use Rattle.listing.specs.Put.{put, puts, Begins}
use Rattle.listing.proofs.Puts.{grows}
use Rattle.listing.proofs.Lined.{begun}
use Rattle.csv_text.specs.Csv.{class_of, field, record_text, csv}
use Rattle.csv_text.specs.Puts.{AddedOr}
use Rattle.csv_text.specs.Labels.{Label, fields_of, header, row_records, records}

-- ---- the text so far

module _ (ls : List Label) where
  abbrev row_text : Row → Float → List ℕ
  row_text r v = record_text (fields_of ls r.object r.id v)

  abbrev rows_text : List Row → List Float → List ℕ
  rows_text rs vs = flat record_text (row_records ls rs vs)

  -- one record more
  rows_next : (rs : List Row) (vs : List Float) (k : ℕ) (r : Row) (v : Float) → k < length rs → k < length vs
      → rows_text (take (suc k) rs) (take (suc k) vs) ≡ rows_text (take k rs) (take k vs) ++ row_text (get_or rs k r) (get_or vs k v)
  unfolding row_records
  rows_next [] vs k r v h l = absurd (not-suc-le-zero h)
  rows_next (x ∷ rs) [] k r v h l = absurd (not-suc-le-zero l)
  rows_next (x ∷ rs) (y ∷ vs) zero r v h l = append-nil (row_text x y)
  rows_next (x ∷ rs) (y ∷ vs) (suc k) r v h l =
      ap (λ (t : List ℕ). row_text x y ++ t) (rows_next rs vs k r v (le_of_suc-le-suc h) (le_of_suc-le-suc l))
      ∙ sym (append_assoc (row_text x y) (rows_text (take k rs) (take k vs)) (row_text (get_or rs k r) (get_or vs k v)))

  rows_all : (rs : List Row) (vs : List Float) → rows_text (take (length rs) rs) (take (length rs) vs) ≡ rows_text rs vs
  unfolding row_records
  rows_all [] vs = refl
  rows_all (x ∷ rs) [] = refl
  rows_all (x ∷ rs) (y ∷ vs) = ap (λ (t : List ℕ). row_text x y ++ t) (rows_all rs vs)

  -- the records so far are no longer than all
  rows_less : (k : ℕ) (rs : List Row) (vs : List Float) → length (rows_text (take k rs) (take k vs)) ≤ length (rows_text rs vs)
  unfolding row_records
  rows_less zero rs vs = omega arith
  rows_less (suc k) [] vs = omega arith
  rows_less (suc k) (x ∷ rs) [] = omega arith
  rows_less (suc k) (x ∷ rs) (y ∷ vs) =
      let a = length-append (row_text x y) (rows_text (take k rs) (take k vs)) in
      let b = length-append (row_text x y) (rows_text rs vs) in
      omega (arith, a, b, rows_less k rs vs)

  -- the header and the records of the first k rows
  abbrev so_far : Done → ℕ → List ℕ
  so_far d k = record_text header ++ rows_text (take k d.rows) (take k (value_list (ok d)))

  so_far_next : (d : Done) (k : ℕ) (r : Row) (v : Float) → k < length d.rows → k < length (value_list (ok d))
      → so_far d (k + 1) ≡ so_far d k ++ row_text (get_or d.rows k r) (get_or (value_list (ok d)) k v)
  so_far_next d k r v h l =
      rw add-one
      (ap (λ (t : List ℕ). record_text header ++ t) (rows_next d.rows (value_list (ok d)) k r v h l)
      ∙ sym (append_assoc (record_text header) (rows_text (take k d.rows) (take k (value_list (ok d)))) (row_text (get_or d.rows k r) (get_or (value_list (ok d)) k v))))

  so_far_less : (d : Done) (k : ℕ) → length (so_far d k) ≤ length (csv (records ls d))
  so_far_less d k =
      let a = length-append (record_text header) (rows_text (take k d.rows) (take k (value_list (ok d)))) in
      let b = length-append (record_text header) (rows_text d.rows (value_list (ok d))) in
      omega (arith, a, b, rows_less k d.rows (value_list (ok d)))

-- the header's bytes
abbrev header_bytes : List ℕ
header_bytes = ascii "object,attribute,label,value\r\n"

header_text : header_bytes ≡ record_text header
unfolding record_text field class_of
header_text = refl

-- ---- the loop

module _ (ls : List Label) (n : ℕ) (rows : List (List ℕ)) (values : List Float) where
  -- after the header and some records
  pub record Laid (long : ℕ) (text : List ℕ) (end next : ℕ) : Type 0 where
    pub even : length text ≡ long
    pub inside : end ≤ length text
    pub within : next ≤ n
    pub goes_on : (d : Done) → Shown d n rows values → take end text ≡ so_far ls d next

  pub header-laid : (out : List ℕ) {r : ℕ} {now : List ℕ} → r ≤ length out → length now ≡ length out → put r now ≡ puts header_bytes (put 0 out) → Laid (length now) now r 0
  unfolding row_records
  header-laid out h k e =
      record {
        even = refl;
        inside = omega (arith, h, k);
        within = omega arith;
        goes_on = λ d s. (begun header_bytes out h e).first ∙ header_text ∙ sym (append-nil (record_text header));
      }

  abbrev some_row : Row
  some_row = record { object = 0; id = pos 0; base = zero_f; entries = [] }

  -- the record of row i of the columns
  abbrev row_at : ℕ → Float → List ℕ
  row_at i x = record_text (fields_of ls (get_or (get_or rows i []) 0 0) (signed (get_or (get_or rows i []) 1 0)) (get_or values i x))

  module _ {long : ℕ} {text : List ℕ} {end next : ℕ} (w : Laid long text end next) (x : Float) (h : next < n) where
    -- the row as the definition has it
    abbrev row : Done → Row
    row d = get_or d.rows next some_row

    same_row : (d : Done) → Shown d n rows values → record_text (fields_of ls (row d).object (row d).id (get_or (value_list (ok d)) next x)) ≡ row_at next x
    same_row d s =
        ap (λ (o : ℕ). record_text (fields_of ls o (row d).id (get_or (value_list (ok d)) next x))) (s.object next some_row h)
        ∙ ap (λ (i : ℤ). record_text (fields_of ls (get_or (get_or rows next []) 0 0) i (get_or (value_list (ok d)) next x))) (s.id next some_row h)
        ∙ ap (λ (v : Float). record_text (fields_of ls (get_or (get_or rows next []) 0 0) (signed (get_or (get_or rows next []) 1 0)) v)) (s.value next x h)

    -- with the next record
    then : (d : Done) → Shown d n rows values → take end text ++ row_at next x ≡ so_far ls d (next + 1)
    then d s =
        ap (λ (t : List ℕ). t ++ row_at next x) (w.goes_on d s)
        ∙ ap (λ (t : List ℕ). so_far ls d next ++ t) (sym (same_row d s))
        ∙ sym (so_far_next ls d next some_row x (omega (arith, h, s.count)) (omega (arith, h, s.valued)))

    one_more : {r : ℕ} {now : List ℕ} → length now ≡ length text → put r now ≡ puts (row_at next x) (put end text) → r ≤ length now → Laid long now r (next + 1)
    one_more {r} {now} k e b =
        record {
          even = k ∙ w.even;
          inside = b;
          within = omega (arith, h);
          goes_on = λ d s. grows (row_at next x) end text w.inside (omega (arith, b, k)) e ∙ then d s;
        }

    -- it does not fit: neither does the whole
    no_more : {m : ℕ} → m ≡ length text → m < end + length (row_at next x) → (d : Done) → Shown d n rows values → m < length (csv (records ls d))
    no_more k b d s =
        let a = length-append (take end text) (row_at next x) in
        let c = ap length (then d s) in
        omega (arith, a, c, b, k, so_far_less ls d (next + 1), length-take-le end text w.inside)

    -- by what the call said
    pub row_more : (f : code.Option ℕ) {r : ℕ} (now : List ℕ) → length now ≡ length text → AddedOr f text now end (row_at next x) → f ≡ code.Some r → Laid long now r (next + 1)
    row_more f now k a e = let p = subst (λ (g : code.Option ℕ). AddedOr g text now end (row_at next x)) e a in one_more k p.0 p.1

    pub row-full : (f : code.Option ℕ) (now : List ℕ) → length now ≡ length text → AddedOr f text now end (row_at next x) → f ≡ code.None → (d : Done) → Shown d n rows values → length now < length (csv (records ls d))
    row-full f now k a e d s = no_more k (subst (λ (g : code.Option ℕ). AddedOr g text now end (row_at next x)) e a) d s

  -- with all records it is the whole text
  pub all_laid : {long : ℕ} {text : List ℕ} {end next : ℕ} → Laid long text end next → n ≤ next → (d : Done) → Shown d n rows values → Begins text end (csv (records ls d))
  all_laid {next = next} w h d s =
      record {
        first = w.goes_on d s ∙ ap (so_far ls d) (let e : next ≡ length d.rows = omega (arith, h, w.within, s.count) in e) ∙ ap (λ (t : List ℕ). record_text header ++ t) (rows_all ls d.rows (value_list (ok d)));
        inside = w.inside;
      }

-- the header alone does not fit
pub no_header : (ls : List Label) (long : ℕ) → long < 30 → (d : Done) → long < length (csv (records ls d))
unfolding record_text field class_of
no_header ls long h d =
    let a = length-append (record_text header) (flat record_text (row_records ls d.rows (value_list (ok d)))) in
    let b : length (record_text header) ≡ 30 = refl in
    omega (arith, a, b, h)
