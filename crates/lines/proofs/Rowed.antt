-- Lines, one at a time, into rows.
use Prim.Native.Nat.{ℕ, zero, suc, ◌+◌, ◌-◌, ◌≤◌, ◌<◌}
use native.Mathlib.Numerals.{add-one}
use native.Mathlib.Omega.{arith}
use mathlib.Core.Path.{◌≡◌, refl, sym, ap, ◌∙◌}
use mathlib.Core.Bool.{Bool, true, false, true≢false, cond, not}
use mathlib.Core.List.{List, [], ◌∷◌, ◌++◌}
use mathlib.Core.Option.{Option, none, some}
use lib.Dec.{eqb, ltb}
use lib.ListN.{length, get_or, take, drop, set, length-drop, length-set}
use lib.Seq.{take_all, take-suc-set, drop-drop}
use borrow.Author.Tests.{eqb-true, eq-eqb, ne_eqb, ltb-false}
use Rattle.std.specs.Prelude as code
use Rattle.std.specs.Prelude.{MatchOption}
use Rattle.std.specs.Borrow.{Bor}
use Rattle.std.specs.List.{position, position_or_len}
use Rattle.std.specs.Option.{unwrap_or, ok_or}
use lib.Pointwise.{pointwise}
use Rattle.std.proofs.lemmas.List.Recursion.{is_position_or_len}
use Rattle.std.proofs.lemmas.List.Sums.{prefix_len-le-length}
use Rattle.std.proofs.Math.Bool.{and-true}
use Rattle.laws.proofs.Bools.{same_test}
use Rattle.laws.proofs.Scans.{drop-step, drop_end}
use Rattle.lines.specs.Fields.{Cut, ◌>>=◌, only, object_in, id_in, half_in}
use Rattle.lines.specs.Lines.{line_length, without_return, Rows, rows, bad, and_then, Reader, ended, told, starting_with, rows_from, label_in, empty, figure_in}
use Rattle.lines.specs.Reads.{cut_at}
use Rattle.lines.specs.declared.BadLine.{BadLine}
use Rattle.laws.specs.Options.{option_of}

-- ---- the end of a line

length_on : (c : ℕ) (xs : List ℕ) → eqb c 10 ≡ false → line_length (c ∷ xs) ≡ suc (line_length xs)
unfolding line_length
length_on c xs t = rw (t, line_length) refl

length_stops : (c : ℕ) (xs : List ℕ) → eqb c 10 ≡ true → line_length (c ∷ xs) ≡ 0
unfolding line_length
length_stops c xs t = rw (t, line_length) refl

length-nothing : line_length [] ≡ 0
unfolding line_length
length-nothing = refl

first_feed : (text : List ℕ) → line_length text ≡ position_or_len (λ b. eqb b 10) text
first_feed = is_position_or_len line_length (λ b. eqb b 10) length-nothing by
  where
    by : (c : ℕ) (xs : List ℕ) → line_length (c ∷ xs) ≡ cond (eqb c 10) 0 (1 + line_length xs)
    by c xs = to (eqb c 10) refl
      where
        to : (t : Bool) → eqb c 10 ≡ t → line_length (c ∷ xs) ≡ cond (eqb c 10) 0 (1 + line_length xs)
        to true q = rw q (length_stops c xs q)
        to false q = rw q (let e : line_length (c ∷ xs) ≡ 1 + line_length xs = omega (arith, length_on c xs q) in e)

pub length_by : (text : List ℕ) → unwrap_or (position (λ b. eqb b 10) text) (length text) ≡ line_length text
length_by text = by (ltb (position_or_len (λ b. eqb b 10) text) (length text)) refl ∙ sym (first_feed text)
  where
    by : (t : Bool) → ltb (position_or_len (λ b. eqb b 10) text) (length text) ≡ t → unwrap_or (position (λ b. eqb b 10) text) (length text) ≡ position_or_len (λ b. eqb b 10) text
    by true q = rw q refl
    by false q = rw q (let e : length text ≡ position_or_len (λ b. eqb b 10) text = omega (arith, ltb-false (position_or_len (λ b. eqb b 10) text) (length text) q, prefix_len-le-length (λ b. not (eqb b 10)) text) in e)

-- a carriage return at the end of a line
last_byte : (l : List ℕ) → pointwise eqb (drop (length l - 1) l) (13 ∷ []) ≡ eqb (get_or l (length l - 1) 0) 13
last_byte [] = refl
last_byte (c ∷ xs) = ap (λ (ys : List ℕ). pointwise eqb ys (13 ∷ [])) (drop-step (c ∷ xs) (length (c ∷ xs) - 1) 0 (omega arith) ∙ ap (λ (ys : List ℕ). get_or (c ∷ xs) (length (c ∷ xs) - 1) 0 ∷ ys) (drop_end (c ∷ xs) (length (c ∷ xs) - 1 + 1) (omega arith))) ∙ and-true (eqb (get_or (c ∷ xs) (length (c ∷ xs) - 1) 0) 13)

pub return_cut : (l : List ℕ) → pointwise eqb (drop (length l - 1) l) (13 ∷ []) ≡ true → take (length l - 1) l ≡ without_return l
unfolding without_return
return_cut l e = rw (sym (last_byte l) ∙ e, without_return) refl

pub return_none : (l : List ℕ) → pointwise eqb (drop (length l - 1) l) (13 ∷ []) ≡ false → l ≡ without_return l
unfolding without_return
return_none l e = rw (sym (last_byte l) ∙ e, without_return) refl

pub without_suffix : (line : Bor (List ℕ)) (r : code.Option (Bor (List ℕ)))
    → MatchOption r (pointwise eqb (drop (length line.now - 1) line.now) (13 ∷ []) ≡ false) (λ x. (pointwise eqb (drop (length line.now - 1) line.now) (13 ∷ []) ≡ true) × (x.now ≡ take (length line.now - 1) line.now) × (length x.now + 1 ≡ length line.now))
    → (unwrap_or r line).now ≡ without_return line.now
without_suffix line code.None e = return_none line.now e
without_suffix line (code.Some x) e = e.1 ∙ return_cut line.now e.0

-- ---- one line

module _ (at : ℕ) (l : List ℕ) where
  behind_id : Cut → Option (List ℕ)
  behind_id c = some (c.value ∷ (at + (length l - length c.rest)) ∷ length c.rest ∷ [])

  pub no_label : none ≡ id_in l → none ≡ label_in at l
  unfolding label_in behind_id
  no_label e = ap (λ (o : Option Cut). o >>= behind_id) e

  pub is_label : (v n : ℕ) → some (cut_at v n l) ≡ id_in l → n ≤ length l → some (v ∷ (at + n) ∷ (length l - n) ∷ []) ≡ label_in at l
  unfolding label_in behind_id
  is_label v n e h =
      ap (λ (k : ℕ). some (v ∷ (at + k) ∷ (length l - n) ∷ [])) (let back : n ≡ length l - (length l - n) = omega arith in back)
      ∙ ap (λ (k : ℕ). some (v ∷ (at + (length l - k)) ∷ k ∷ [])) (sym (length-drop n l))
      ∙ ap (λ (o : Option Cut). o >>= behind_id) e

is-empty : (l : List ℕ) (n : ℕ) → n ≤ length l → empty (drop n l) ≡ eqb n (length l)
is-empty l n h = same_test (empty (drop n l)) (eqb n (length l)) (λ t. eq-eqb n (length l) (omega (arith, length-drop n l, no_bytes (drop n l) t))) (λ t. ap empty (drop_end l n (omega (arith, eqb-true n (length l) t))))
  where
    no_bytes : (xs : List ℕ) → empty xs ≡ true → length xs ≡ 0
    no_bytes [] t = refl
    no_bytes (c ∷ xs) t = absurd (true≢false (sym t))

with_low : ℕ → ℕ → ℕ → Cut → Option (List ℕ)
with_low o a high low = only (empty low.rest) (o ∷ a ∷ low.value ∷ high ∷ [])

with_high : ℕ → ℕ → Cut → Option (List ℕ)
with_high o a high = half_in high.rest >>= with_low o a high.value

with_id : ℕ → Cut → Option (List ℕ)
with_id o a = half_in a.rest >>= with_high o a.value

with_object : Cut → Option (List ℕ)
with_object o = id_in o.rest >>= with_id o.value

module _ (at : ℕ) (l : List ℕ) where
  pub no_object : none ≡ object_in l → none ≡ figure_in at l
  unfolding figure_in with_object with_id with_high with_low
  no_object e = ap (λ (o : Option Cut). o >>= with_object) e

  module _ (v₁ n₁ : ℕ) (e₁ : some (cut_at v₁ n₁ l) ≡ object_in l) where
    objected : with_object (cut_at v₁ n₁ l) ≡ figure_in at l
    unfolding figure_in with_object with_id with_high with_low
    objected = ap (λ (o : Option Cut). o >>= with_object) e₁

    pub no_id : none ≡ id_in (drop n₁ l) → none ≡ figure_in at l
    unfolding with_object
    no_id e = ap (λ (o : Option Cut). o >>= with_id v₁) e ∙ objected

    module _ (v₂ n₂ : ℕ) (e₂ : some (cut_at v₂ n₂ l) ≡ id_in (drop n₁ l)) where
      with_both : with_id v₁ (cut_at v₂ n₂ l) ≡ figure_in at l
      unfolding with_object
      with_both = ap (λ (o : Option Cut). o >>= with_id v₁) e₂ ∙ objected

      pub no_high : none ≡ half_in (drop n₂ l) → none ≡ figure_in at l
      unfolding with_id
      no_high e = ap (λ (o : Option Cut). o >>= with_high v₁ v₂) e ∙ with_both

      module _ (v₃ n₃ : ℕ) (e₃ : some (cut_at v₃ n₃ l) ≡ half_in (drop n₂ l)) where
        with_three : with_high v₁ v₂ (cut_at v₃ n₃ l) ≡ figure_in at l
        unfolding with_id
        with_three = ap (λ (o : Option Cut). o >>= with_high v₁ v₂) e₃ ∙ with_both

        pub no_low : none ≡ half_in (drop n₃ l) → none ≡ figure_in at l
        unfolding with_high
        no_low e = ap (λ (o : Option Cut). o >>= with_low v₁ v₂ v₃) e ∙ with_three

        module _ (v₄ n₄ : ℕ) (e₄ : some (cut_at v₄ n₄ l) ≡ half_in (drop n₃ l)) (h : n₄ ≤ length l) where
          all_four : only (eqb n₄ (length l)) (v₁ ∷ v₂ ∷ v₄ ∷ v₃ ∷ []) ≡ figure_in at l
          unfolding with_high with_low
          all_four = ap (λ (t : Bool). only t (v₁ ∷ v₂ ∷ v₄ ∷ v₃ ∷ [])) (sym (is-empty l n₄ h)) ∙ ap (λ (o : Option Cut). o >>= with_low v₁ v₂ v₃) e₄ ∙ with_three

          pub more_behind : (n₄ ≡ length l → ⊥) → none ≡ figure_in at l
          more_behind n = ap (λ (t : Bool). only t (v₁ ∷ v₂ ∷ v₄ ∷ v₃ ∷ [])) (sym (ne_eqb n₄ (length l) n)) ∙ all_four

          pub is-figure : n₄ ≡ length l → some (v₁ ∷ v₂ ∷ v₄ ∷ v₃ ∷ []) ≡ figure_in at l
          is-figure e = ap (λ (t : Bool). only t (v₁ ∷ v₂ ∷ v₄ ∷ v₃ ∷ [])) (sym (eq-eqb n₄ (length l) e)) ∙ all_four

-- what a row is read from, where it is asked for with an error
pub not_read : (o : code.Option (List ℕ)) {b e : BadLine} → code.Err e ≡ ok_or o b → (option_of o ≡ none) × (e ≡ b)
not_read code.None q = (refl, cc)
not_read (code.Some r) q = absurd (cc)

pub is_read : (o : code.Option (List ℕ)) (b : BadLine) (r : List ℕ) → code.Ok r ≡ ok_or o b → option_of o ≡ some r
is_read code.None b r q = absurd (cc)
is_read (code.Some s) b r q = let e : s ≡ r = cc in ap some e

-- ---- all lines

-- rows, and what is read behind them
unfoldable pub before : List (List ℕ) → Rows → Rows
before [] m = m
before (r ∷ rs) m = and_then r (before rs m)

before_snoc : (rs : List (List ℕ)) (r : List ℕ) (m : Rows) → before (rs ++ (r ∷ [])) m ≡ before rs (and_then r m)
unfolding before
before_snoc [] r m = refl
before_snoc (s ∷ rs) r m = ap (and_then s) (before_snoc rs r m)

before_bad : (rs : List (List ℕ)) (i : ℕ) → before rs (bad i) ≡ bad i
unfolding before
before_bad [] i = refl
before_bad (s ∷ rs) i = ap (and_then s) (before_bad rs i)

before_none : (rs : List (List ℕ)) → before rs (rows []) ≡ rows rs
unfolding before
before_none [] = refl
before_none (s ∷ rs) = ap (and_then s) (before_none rs)

module _ (read : Reader) where
  no_text : (room i at : ℕ) → rows_from read room i at [] ≡ rows []
  unfolding rows_from starting_with
  no_text zero i at = refl
  no_text (suc room) i at = refl

  no_room : (i at : ℕ) {xs ys : List ℕ} {c : ℕ} → xs ≡ c ∷ ys → rows_from read 0 i at xs ≡ bad i
  unfolding rows_from
  no_room i at e = ap (ended i) e

  one_line : (room i at : ℕ) {xs ys : List ℕ} {c : ℕ} → xs ≡ c ∷ ys
      → rows_from read (suc room) i at xs ≡ told i (read at (without_return (take (line_length xs) xs))) (rows_from read room (suc i) (at + suc (line_length xs)) (drop (suc (line_length xs)) xs))
  unfolding rows_from starting_with
  one_line room i at {xs} {ys} {c} e =
      ap (rows_from read (suc room) i at) e
      ∙ ap (λ (zs : List ℕ). told i (read at (without_return (take (line_length zs) zs))) (rows_from read room (suc i) (at + suc (line_length zs)) (drop (suc (line_length zs)) zs))) (sym e)

-- the lines before a place are read: `count` rows stand in `out`
pub record Laying (read : Reader) (text : List ℕ) (out₀ out : List (List ℕ)) (at count : ℕ) : Type 0 where
  pub long : length out ≡ length out₀
  pub within : count ≤ length out
  pub few : count ≤ at
  pub is : rows_from read (length out₀) 1 0 text ≡ before (take count out) (rows_from read (length out - count) (count + 1) at (drop at text))

module _ (read : Reader) (text : List ℕ) {out₀ : List (List ℕ)} where
  pub laying_start : Laying read text out₀ out₀ 0 0
  unfolding before
  laying_start = record { long = refl; within = omega arith; few = omega arith; is = ap (λ (n : ℕ). rows_from read n 1 0 text) (let e : length out₀ ≡ length out₀ - 0 = omega arith in e) }

  module _ {out : List (List ℕ)} {at count : ℕ} (L : Laying read text out₀ out at count) where
    pub laying_all : length text ≤ at → rows (take count out) ≡ rows_from read (length out₀) 1 0 text
    laying_all h =
        sym (L.is ∙ ap (λ (xs : List ℕ). before (take count out) (rows_from read (length out - count) (count + 1) at xs)) (drop_end text at h)
        ∙ ap (before (take count out)) (no_text read (length out - count) (count + 1) at) ∙ before_none (take count out))

    module _ (h : at < length text) where
      left : drop at text ≡ get_or text at 0 ∷ drop (at + 1) text
      left = drop-step text at 0 h

      pub laying_full : length out ≤ count → bad (count + 1) ≡ rows_from read (length out₀) 1 0 text
      laying_full f =
          sym (L.is ∙ ap (λ (n : ℕ). before (take count out) (rows_from read n (count + 1) at (drop at text))) (let e : length out - count ≡ 0 = omega arith in e)
          ∙ ap (before (take count out)) (no_room read (count + 1) at left) ∙ before_bad (take count out) (count + 1))

      module _ (room : count < length out) (n : ℕ) (lined : n ≡ line_length (take (length text - at) (drop at text))) (inside : n ≤ length (take (length text - at) (drop at text)))
          {line : List ℕ} (cut : line ≡ without_return (take (at + n - at) (drop at text))) {o : Option (List ℕ)} (e : o ≡ read at line) where
        all : take (length text - at) (drop at text) ≡ drop at text
        all = take_all (length text - at) (drop at text) (omega (arith, length-drop at text))

        is_lined : n ≡ line_length (drop at text)
        is_lined = lined ∙ ap line_length all

        whole : take (at + n - at) (drop at text) ≡ take n (drop at text)
        whole = ap (λ (k : ℕ). take k (drop at text)) (let q : at + n - at ≡ n = omega arith in q)

        behind : Rows
        behind = rows_from read (length out - (count + 1)) (count + 1 + 1) (at + n + 1) (drop (at + n + 1) text)

        read_so : read at (without_return (take (line_length (drop at text)) (drop at text))) ≡ o
        read_so =
            ap (λ (k : ℕ). read at (without_return (take k (drop at text)))) (sym is_lined) ∙ ap (λ (xs : List ℕ). read at (without_return xs)) (sym whole)
            ∙ ap (read at) (sym cut) ∙ sym e

        so_far : rows_from read (length out₀) 1 0 text ≡ before (take count out) (told (count + 1) o behind)
        unfolding behind
        so_far =
            L.is
            ∙ ap (λ (k : ℕ). before (take count out) (rows_from read k (count + 1) at (drop at text))) (let q : length out - count ≡ suc (length out - (count + 1)) = omega arith in q)
            ∙ ap (before (take count out)) (one_line read (length out - (count + 1)) (count + 1) at left)
            ∙ ap (λ (p : Option (List ℕ)). before (take count out) (told (count + 1) p (rows_from read (length out - (count + 1)) (suc (count + 1)) (at + suc (line_length (drop at text))) (drop (suc (line_length (drop at text))) (drop at text))))) read_so
            ∙ ap (λ (xs : List ℕ). before (take count out) (told (count + 1) o (rows_from read (length out - (count + 1)) (suc (count + 1)) (at + suc (line_length (drop at text))) xs))) (drop-drop (suc (line_length (drop at text))) at text)
            ∙ ap (λ (k : ℕ). before (take count out) (told (count + 1) o (rows_from read (length out - (count + 1)) (suc (count + 1)) k (drop k text)))) (let q : at + suc (line_length (drop at text)) ≡ at + n + 1 = omega (arith, is_lined) in q)
            ∙ ap (λ (k : ℕ). before (take count out) (told (count + 1) o (rows_from read (length out - (count + 1)) k (at + n + 1) (drop (at + n + 1) text)))) (sym (add-one (count + 1)))

        pub laying_bad : o ≡ none → bad (count + 1) ≡ rows_from read (length out₀) 1 0 text
        laying_bad t = sym (so_far ∙ ap (λ (p : Option (List ℕ)). before (take count out) (told (count + 1) p behind)) t ∙ before_bad (take count out) (count + 1))

        pub laying_more : (row : List ℕ) → o ≡ some row → Laying read text out₀ (set out count row) (at + n + 1) (count + 1)
        unfolding behind
        laying_more row t =
            record {
              long = length-set out count row ∙ L.long;
              within = omega (arith, length-set out count row);
              few = omega (arith, L.few);
              is =
                  so_far ∙ ap (λ (p : Option (List ℕ)). before (take count out) (told (count + 1) p behind)) t
                  ∙ sym (before_snoc (take count out) row behind)
                  ∙ ap (λ (rs : List (List ℕ)). before rs behind) (sym (ap (λ (k : ℕ). take k (set out count row)) (add-one count) ∙ take-suc-set out count row room))
                  ∙ ap (λ (k : ℕ). before (take (count + 1) (set out count row)) (rows_from read (k - (count + 1)) (count + 1 + 1) (at + n + 1) (drop (at + n + 1) text))) (sym (length-set out count row));
            }
