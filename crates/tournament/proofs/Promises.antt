-- What the definition promises: allowed exactly if no line is broken, else the first broken line and its count; items alone come in.
use Prim.Native.Nat.{ℕ, suc, ◌*◌, ◌≤◌, ◌<◌, ◌^◌, suc-le-suc, zero-le}
use native.Mathlib.Nat.{mul-le-mul, mul-suc}
use native.Mathlib.Omega.{arith}
use mathlib.Core.Path.{◌≡◌, refl, sym, ap, subst, ◌∙◌}
use mathlib.Core.Bool.{Bool, true, false, ◌&&◌, cond, true≢false}
use mathlib.Core.List.{List, [], ◌∷◌, ◌++◌, map}
use mathlib.Core.Option.{Option, none, some}
use lib.Dec.{eqb, ltb}
use lib.IntN.{ℤ}
use lib.ListN.{length, get_or}
use borrow.Author.Tests.{eqb-true, ltb-true}
use Rattle.laws.specs.Lists.{eq_z, put, keep, some?, every?, first, or_else}
use Rattle.laws.proofs.Bools.{and_left, and_right}
use Rattle.laws.proofs.First.{first_none}
use Rattle.laws.proofs.Keep.{keep_append, keep-length, every_kept}
use Rattle.rules.specs.Bytes.{pairs_of}
use Rattle.rules.specs.Sheet.{Book, Fit, book_of, fit_of}
use Rattle.rules.specs.Shape.{bad_shape}
use Rattle.rules.specs.Files.{pairs_in, bad_files}
use Rattle.rules.specs.Item.{is_charge, is_skill, is_calculated}
use Rattle.rules.specs.declared.Item.{Item}
use Rattle.tallies.specs.Tallies.{Line, line_of, counts, counted, total, pieces, is_price_of, number_or0, points_of, points}
use Rattle.tournament.specs.Tournament.{bad_from, tally, Verdict, allowed, breaks, shape, rules, verdict_from, judged, checked, checked_files, broken_line, count_of}
use Rattle.tournament.proofs.Verdicts.{holds, First, Told, none_broken, first-broken as broken-first, told, all_hold}
use Rattle.tournament.proofs.Judging.{judged-by, checked-by, files_by}
use Rattle.tournament.proofs.Rising.{good_ordered}

-- ---- "Allowed exactly if no line is broken; otherwise answer the first broken line and the count that broke it"

abbrev pub AllowedExactly : Verdict → List Line → List Item → Type 0
AllowedExactly v ls os = (v ≡ allowed → every? (holds ls os) ls ≡ true) × (every? (holds ls os) ls ≡ true → v ≡ allowed)

-- whether a line is broken
breaking : Verdict → Bool
breaking allowed = false
breaking (breaks i c) = true
breaking (shape t) = false
breaking (rules i) = false

-- what is told of the lines
module _ (ls : List Line) (os : List Item) where
  told-allowed : {v : Verdict} → Told ls os 0 ls v → v ≡ allowed → every? (holds ls os) ls ≡ true
  unfolding breaking
  told-allowed (none_broken e h) a = h
  told-allowed (broken-first n c e f) a = absurd (true≢false (ap breaking (sym e ∙ a)))

  told-broken : {v : Verdict} {n c : ℕ} → Told ls os 0 ls v → v ≡ breaks n c → First ls os 0 ls n c
  unfolding breaking
  told-broken (none_broken e h) b = absurd (true≢false (ap breaking (sym b ∙ e)))
  told-broken {n = n} {c = c} (broken-first m d e f) b =
      let z : breaks m d ≡ breaks n c = sym e ∙ b in
      subst (λ (x : ℕ). First ls os 0 ls x c) (ap broken_line z) (subst (λ (x : ℕ). First ls os 0 ls m x) (ap count_of z) f)

module _ (k : Book) (f : Fit) (ls : List Line) where
  by-table : {X : Type 0} → (bad_from 0 none ls ≡ none → X) → ((i : ℕ) → bad_from 0 none ls ≡ some i → X) → X
  by-table {X} g b = by (bad_from 0 none ls) refl
    where
      by : (o : Option ℕ) → bad_from 0 none ls ≡ o → X
      by none e = g e
      by (some i) e = b i e

  pub allowed_exactly : bad_from 0 none ls ≡ none → AllowedExactly (judged k f ls) ls (counted k f)
  allowed_exactly e =
      (λ a. told-allowed ls (counted k f) (told ls (counted k f) 0 ls) (sym (judged-by k f ls e) ∙ a), λ h. judged-by k f ls e ∙ all_hold ls (counted k f) 0 ls h)

  pub first-broken : {n c : ℕ} → judged k f ls ≡ breaks n c → First ls (counted k f) 0 ls n c
  unfolding breaking
  first-broken b =
      by-table (λ e. told-broken ls (counted k f) (told ls (counted k f) 0 ls) (sym (judged-by k f ls e) ∙ b))
      (λ i e. absurd (true≢false (ap breaking (sym b ∙ judged-by k f ls e))))

-- of a sheet, and of a book and a fit
pub of_sheet : (b : List ℕ) (rows : List (List ℕ)) → bad_shape b ≡ none → checked b rows ≡ judged (book_of b (pairs_of b)) (fit_of b (pairs_of b)) (map line_of rows)
of_sheet b rows e = checked-by b rows e

pub of_files : (k f : List ℕ) (rows : List (List ℕ)) → bad_files k f ≡ none → checked_files k f rows ≡ judged (book_of k (pairs_in k f)) (fit_of f (pairs_in k f)) (map line_of rows)
of_files k f rows e = files_by k f rows e

-- ---- "counting calculated items by quantity, never charges or skills"

pub only_items : (k l : Book) (f g : Fit) (ls : List Line) → counted k f ≡ counted l g → judged k f ls ≡ judged l g ls
unfolding judged
only_items k l f g ls e = ap (λ (os : List Item). elim (bad_from 0 none ls) [ some i ↦ rules i | none ↦ verdict_from ls os 0 ls ]) e

-- an object that is not counted might as well not be there
pub not_there : (k : Book) (xs ys : List Item) (o : Item) → counts k o ≡ false → keep (counts k) (xs ++ (o ∷ ys)) ≡ keep (counts k) (xs ++ ys)
not_there k xs ys o e =
    keep_append (counts k) xs (o ∷ ys) ∙ ap (λ (t : Bool). keep (counts k) xs ++ put t o (keep (counts k) ys)) e ∙ sym (keep_append (counts k) xs ys)

no_item : (k : Book) (o : Item) (n : ℕ) → eqb o.kind n ≡ true → eqb n 3 ≡ false → counts k o ≡ false
no_item k o n e h = ap (λ (m : ℕ). eqb m 3 && is_calculated k o) (eqb-true o.kind n e) ∙ ap (λ (b : Bool). b && is_calculated k o) h

pub never_charges : (k : Book) (o : Item) → is_charge o ≡ true → counts k o ≡ false
never_charges k o e = no_item k o 4 e refl

pub never_skills : (k : Book) (o : Item) → is_skill o ≡ true → counts k o ≡ false
never_skills k o e = no_item k o 5 e refl

-- ---- "A type without a line costs 0"

pub no_line_no_points : (ls : List Line) (t : ℤ) → some? (is_price_of t) ls ≡ false → points_of ls t ≡ 0
no_line_no_points ls t e = ap number_or0 (first_none (is_price_of t) ls e)

-- ---- "Sums cannot wrap"

total-most : (f : Item → ℕ) (m : ℕ) (p : Item → Bool) → ((o : Item) → p o ≡ true → f o ≤ m) → (os : List Item) → every? p os ≡ true → total f os ≤ m * length os
total-most f m p h [] e = omega arith
total-most f m p h (o ∷ os) e =
    let a = h o (and_left (p o) (every? p os) e) in
    let r = total-most f m p h os (and_right (p o) (every? p os) e) in
    omega (arith, a, r, mul-suc m (length os))

points-most : (ls : List Line) → ((i : ℕ) → i < length ls → (get_or ls i (line_of [])).kind ≡ 0 → (get_or ls i (line_of [])).number ≤ 65535) → (t : ℤ) → points_of ls t ≤ 65535
points-most [] h t = omega arith
points-most (l ∷ r) h t = by (is_price_of t l) refl (points-most r (λ i k e. h (suc i) (suc-le-suc k) e) t)
  where
    by : (b : Bool) → is_price_of t l ≡ b → points_of r t ≤ 65535 → number_or0 (or_else b l (first (is_price_of t) r)) ≤ 65535
    by true e m = h 0 (suc-le-suc zero-le) (eqb-true l.kind 0 (and_left (eqb l.kind 0) (eq_z l.id t) e))
    by false e m = m

-- a sheet's quantities have 32 bits
abbrev pub is_narrow : Item → Bool
is_narrow o = ltb o.quantity 4294967296

module _ (ls : List Line) (os : List Item) (good : bad_from 0 none ls ≡ none) (few : length os ≤ 1024) (narrow : every? is_narrow os ≡ true) where
  pieces_small : (g : ℤ) → pieces os g ≤ 4294967295 * 1024
  pieces_small g =
      let kept = keep (λ o. eq_z o.group_id g) os in
      let a = total-most (λ o. o.quantity) 4294967295 is_narrow (λ o e. let l = ltb-true o.quantity 4294967296 e in omega (arith, l)) kept (every_kept is_narrow (λ o. eq_z o.group_id g) os narrow) in
      let b = keep-length (λ o. eq_z o.group_id g) os in
      omega (arith, a, b, few)

  points_small : points ls os ≤ 281470681677825 * 1024
  points_small =
      let a = total-most (λ o. o.quantity * points_of ls o.type_id) 281470681677825 is_narrow cost os narrow in
      omega (arith, a, few)
    where
      cost : (o : Item) → is_narrow o ≡ true → o.quantity * points_of ls o.type_id ≤ 281470681677825
      cost o e =
          let l = ltb-true o.quantity 4294967296 e in
          mul-le-mul {n₂ = 4294967295} {m₂ = 65535} (omega (arith, l)) (points-most ls (good_ordered ls good).cheap o.type_id)

  pub no_sum_wraps : (l : Line) → tally ls os l < 2 ^ 58
  no_sum_wraps l = by (eqb l.kind 3)
    where
      by : (t : Bool) → cond t (points ls os) (pieces os l.id) < 2 ^ 58
      by true = omega (arith, points_small)
      by false = omega (arith, pieces_small l.id)
