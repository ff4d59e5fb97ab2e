-- The scan for a bad line, the scan for a broken one, and the verdict from the parts.
use Prim.Native.Nat.{ℕ, zero, suc, ◌+◌, ◌*◌, ◌-◌, ◌≤◌, ◌<◌, ◌^◌}
use native.Mathlib.Numerals.{add-one}
use native.Mathlib.Omega.{arith}
use mathlib.Core.Path.{◌≡◌, refl, sym, ap, subst, ◌∙◌}
use mathlib.Core.Bool.{Bool, true, false, ◌&&◌, cond}
use mathlib.Core.List.{List, [], ◌∷◌, ◌++◌, map}
use mathlib.Core.Option.{Option, none, some}
use lib.Dec.{eqb, ltb}
use lib.ListN.{length, get_or, take, drop, length-map}
use lib.Seq.{drop-cons, drop-length}
use borrow.Author.Tests.{eqb-true, ne_eqb, ltb-true}
use Rattle.laws.specs.Lists.{eq_z, keep}
use Rattle.laws.proofs.Bools.{and_left}
use Rattle.laws.proofs.Maps.{map_at}
use Rattle.rules.specs.Bytes.{pairs_of}
use Rattle.rules.specs.Sheet.{Book, Fit, book_of, fit_of}
use Rattle.rules.specs.Shape.{bad_shape}
use Rattle.rules.specs.Files.{pairs_in, bad_files}
use Rattle.rules.specs.declared.Item.{Item}
use Rattle.std.specs.Prelude.{Ok, Err}
use Rattle.shape.specs.Shaped.{Shaped, shaped_of}
use Rattle.shape.specs.declared.BadTable.{BadTable}
use Rattle.shape.proofs.Shapes.{bad_said, sound_said, sound_long, sound_book, sound_fit}
use Rattle.files.specs.Read.{pairs_read}
use Rattle.files.proofs.Judged.{sound_pairs, sound_files}
use Rattle.info.specs.Sound.{HeldBook, HeldFit}
use Rattle.tallies.specs.Tallies.{Line, line_of, counted, total, pieces, points}
use Rattle.tallies.specs.Blocks.{Ordered, pieces_by, Told}
use Rattle.tallies.proofs.Points.{points_none, points-next, points_few, points-all}
use Rattle.tournament.specs.Tournament.{stands_after, line_good, bad_from, tally, most, is_over, broken, Verdict, allowed, breaks, shape, rules, verdict_from, judged, checked, checked_files}
use Rattle.tournament.specs.Answered.{line_before, Reached}

-- at the first line there is none before it; at a later one the one that was read
pub before-first : (ls : List Line) (l : Line) {i : ℕ} → i ≡ 0 → true ≡ stands_after (line_before ls i) l
before-first ls l e = sym (ap (λ (n : ℕ). stands_after (line_before ls n) l) e)

pub before-later : (rows : List (List ℕ)) (l : Line) {i : ℕ} {t : Bool} {last : List ℕ} → i < length rows → (i ≡ 0 → ⊥) → last ≡ get_or rows (i - 1) [] → t ≡ stands_after (some (line_of last)) l
    → t ≡ stands_after (line_before (map line_of rows) i) l
before-later rows l {i} h n e q =
    q ∙ ap (λ (r : List ℕ). stands_after (some (line_of r)) l) e
    ∙ ap (λ (a : Line). stands_after (some a) l) (sym (map_at line_of rows (i - 1) [] (line_of []) (omega arith)))
    ∙ ap (λ (m : ℕ). stands_after (line_before (map line_of rows) m) l) (some_before i n)
  where
    some_before : (m : ℕ) → (m ≡ 0 → ⊥) → suc (m - 1) ≡ m
    some_before zero k = absurd (k refl)
    some_before (suc m) k = omega arith

module _ (rows : List (List ℕ)) where
  abbrev pub ls : List Line
  ls = map line_of rows

  abbrev line_at : ℕ → Line
  line_at i = line_of (get_or rows i [])

  opened : (i : ℕ) → i < length rows → drop i ls ≡ line_at i ∷ drop (suc i) ls
  opened i h =
      drop-cons ls i (line_of []) (rw (length-map rows line_of) h)
      ∙ ap (λ (l : Line). l ∷ drop (suc i) ls) (map_at line_of rows i [] (line_of []) h)

  closed : (i : ℕ) → i ≤ length rows → length rows ≤ i → drop i ls ≡ []
  closed i h k = ap (λ (n : ℕ). drop n ls) (let e : i ≡ length rows = omega arith in e) ∙ ap (λ (n : ℕ). drop n ls) (sym (length-map rows line_of)) ∙ drop-length ls

  -- ---- the first bad line

  -- the lines before line i are good: those from it on decide
  pub record Scanned (i : ℕ) : Type 0 where
    pub within : i ≤ length rows
    pub left : bad_from 0 none ls ≡ bad_from i (line_before ls i) (drop i ls)

  pub scanned_none : Scanned 0
  scanned_none = record { within = omega arith; left = refl }

  module _ {i : ℕ} (S : Scanned i) where
    module _ (h : i < length rows) {s t : Bool} (a : s ≡ stands_after (line_before ls i) (line_at i)) (g : t ≡ line_good (line_at i)) where
      turn : {u : Bool} → s && t ≡ u → bad_from 0 none ls ≡ elim u [ false ↦ some i | true ↦ bad_from (suc i) (some (line_at i)) (drop (suc i) ls) ]
      unfolding bad_from
      turn e =
          S.left ∙ ap (bad_from i (line_before ls i)) (opened i h)
          ∙ ap (λ (u : Bool). elim u [ false ↦ some i | true ↦ bad_from (suc i) (some (line_at i)) (drop (suc i) ls) ])
          (sym (ap (λ (x : Bool). x && t) a ∙ ap (λ (x : Bool). stands_after (line_before ls i) (line_at i) && x) g) ∙ e)

      pub scanned_more : s && t ≡ true → Scanned (i + 1)
      scanned_more e =
          subst Scanned (sym (add-one i))
          (record {
            within = omega arith;
            left = turn e ∙ ap (λ (l : Line). bad_from (suc i) (some l) (drop (suc i) ls)) (sym (map_at line_of rows i [] (line_of []) h));
          })

      pub scanned_bad : s && t ≡ false → some i ≡ bad_from 0 none ls
      scanned_bad e = sym (turn e)

    pub scanned_all : length rows ≤ i → none ≡ bad_from 0 none ls
    unfolding bad_from
    scanned_all k = sym (S.left ∙ ap (bad_from i (line_before ls i)) (closed i S.within k))

-- ---- the first broken line

-- of a block's line its sum, and the pieces of all
module _ (rows : List (List ℕ)) (os : List Item) {first n : ℕ} {sums : List ℕ} (T : Told (map line_of rows) os first n sums) {i : ℕ} (a : first ≤ i) (b : i < first + n) where
  abbrev own : Line
  own = line_of (get_or rows i [])

  pub told-inside : i < length rows
  told-inside = omega (arith, T.inside, length-map rows line_of)

  there : get_or (map line_of rows) (first + (i - first)) (line_of []) ≡ own
  there =
      ap (λ (m : ℕ). get_or (map line_of rows) m (line_of [])) (let z : first + (i - first) ≡ i = omega arith in z)
      ∙ map_at line_of rows i [] (line_of []) told-inside

  pub sum_told : eqb own.kind 3 ≡ false → get_or sums (i - first) 0 ≡ pieces_by own.kind os own.id
  sum_told = subst (λ (x : Line). eqb x.kind 3 ≡ false → get_or sums (i - first) 0 ≡ pieces_by x.kind os x.id) there (T.told (i - first) (omega arith))

  pub sum_few : get_or sums (i - first) 0 ≤ 4398046510080
  sum_few = T.small (i - first) (omega (arith, T.few))

  pub all_told : eqb own.kind 3 ≡ false → total (λ o. o.quantity) os ≤ 4398046510080
  all_told = subst (λ (x : Line). eqb x.kind 3 ≡ false → total (λ o. o.quantity) os ≤ 4398046510080) there (T.all (i - first) (omega arith))

  pub line_cheap : Ordered (map line_of rows) → own.kind ≡ 0 → own.number ≤ 65535
  line_cheap O =
      subst (λ (x : Line). x.kind ≡ 0 → x.number ≤ 65535) (map_at line_of rows i [] (line_of []) told-inside) (O.cheap i (rw (length-map rows line_of) told-inside))

pub reached_none : (all : List Line) → Ordered all → (os : List Item) → Reached all os 0 0
reached_none all O os = record { within = omega arith; left = refl; is = sym (points_none all O os); few = omega arith }

-- a block's end, and where the next begins
pub told_end : (rows : List (List ℕ)) (os : List Item) {first n : ℕ} {sums : List ℕ} → Told (map line_of rows) os first n sums → first + n ≤ length rows
told_end rows os T = omega (arith, T.inside, length-map rows line_of)

pub next_less : (rows : List (List ℕ)) (os : List Item) {i next p : ℕ} → i < next → Reached (map line_of rows) os next p → length rows - next < length rows - i
next_less rows os l R = omega (arith, R.within, length-map rows line_of)

module _ (rows : List (List ℕ)) (O : Ordered (map line_of rows)) (os : List Item) {i p : ℕ} (R : Reached (map line_of rows) os i p) where
  -- all lines were passed
  pub reached_all : length rows ≤ i → allowed ≡ verdict_from (ls rows) os 0 (ls rows)
  unfolding verdict_from
  reached_all k = sym (R.left ∙ ap (verdict_from (ls rows) os i) (closed rows i (omega (arith, R.within, length-map rows line_of)) k))

  module _ (h : i < length rows) {s c : ℕ} (u : eqb (line_of (get_or rows i [])).kind 3 ≡ false → s ≡ pieces_by (line_of (get_or rows i [])).kind os (line_of (get_or rows i [])).id) (v : c ≡ cond (eqb (line_of (get_or rows i [])).kind 3) p s) where
    abbrev l : Line
    l = line_of (get_or rows i [])

    at-line : get_or (ls rows) i (line_of []) ≡ l
    at-line = map_at line_of rows i [] (line_of []) h

    -- what a line that is no price counts
    counts-tally : (l.kind ≡ 0 → ⊥) → c ≡ tally (ls rows) os l
    counts-tally n = by (eqb l.kind 3) refl
      where
        no_price : (get_or (ls rows) i (line_of [])).kind ≡ 0 → ⊥
        no_price z = n (sym (ap (λ (x : Line). x.kind) at-line) ∙ z)

        by : (t : Bool) → eqb l.kind 3 ≡ t → c ≡ tally (ls rows) os l
        by true e =
            v ∙ ap (λ (b : Bool). cond b p s) e ∙ R.is ∙ points-all (ls rows) O os i no_price R.within
            ∙ sym (ap (λ (b : Bool). cond b (points (ls rows) os) (pieces os l.id)) e)
        by false e =
            v ∙ ap (λ (b : Bool). cond b p s) e ∙ u e
            ∙ ap (λ (b : Bool). total (λ o. o.quantity) (keep (λ o. eq_z (cond b o.type_id o.group_id) l.id) os)) (ne_eqb l.kind 0 n)
            ∙ sym (ap (λ (b : Bool). cond b (points (ls rows) os) (pieces os l.id)) e)

    over_same : is_over l c ≡ is_over l (tally (ls rows) os l)
    over_same = by (ltb 0 l.kind) refl
      where
        by : (t : Bool) → ltb 0 l.kind ≡ t → is_over l c ≡ is_over l (tally (ls rows) os l)
        by true e = ap (is_over l) (counts-tally (λ z. omega (arith, ltb-true 0 l.kind e, z)))
        by false e = ap (λ (b : Bool). b && ltb (most l) c) e ∙ sym (ap (λ (b : Bool). b && ltb (most l) (tally (ls rows) os l)) e)

    reached_turn : {t : Bool} → is_over l c ≡ t → verdict_from (ls rows) os 0 (ls rows) ≡ elim t [ true ↦ breaks i (tally (ls rows) os l) | false ↦ verdict_from (ls rows) os (suc i) (drop (suc i) (ls rows)) ]
    unfolding verdict_from broken
    reached_turn e =
        R.left ∙ ap (verdict_from (ls rows) os i) (opened rows i h)
        ∙ ap (λ (x : Bool). elim x [ true ↦ breaks i (tally (ls rows) os l) | false ↦ verdict_from (ls rows) os (suc i) (drop (suc i) (ls rows)) ]) (sym over_same ∙ e)

    pub reached_broken : {t : Bool} → t ≡ is_over l c → t ≡ true → s ≤ 4398046510080 → (breaks i c ≡ verdict_from (ls rows) os 0 (ls rows)) × (c < 2 ^ 58)
    reached_broken o e few =
        (ap (breaks i) (counts-tally some) ∙ sym (reached_turn (sym o ∙ e)), small (eqb l.kind 3) v)
      where
        some : l.kind ≡ 0 → ⊥
        some z = omega (arith, ltb-true 0 l.kind (and_left (ltb 0 l.kind) (ltb (most l) c) (sym o ∙ e)), z)

        small : (b : Bool) → c ≡ cond b p s → c < 2 ^ 58
        small true q = omega (arith, q, R.few)
        small false q = omega (arith, q, few)

    module _ (all : eqb l.kind 3 ≡ false → total (λ o. o.quantity) os ≤ 4398046510080) {w : ℕ} (g : w ≡ cond (eqb l.kind 0) (s * l.number) 0) where
      -- what the line's pieces cost
      cost : p + w ≡ points (take (i + 1) (ls rows)) os
      cost = ap (λ (n : ℕ). n + w) R.is ∙ ap (λ (n : ℕ). points (take i (ls rows)) os + n) (g ∙ by (eqb l.kind 0) refl) ∙ sym next
        where
          next : points (take (i + 1) (ls rows)) os ≡ points (take i (ls rows)) os + cond (eqb l.kind 0) (pieces_by 0 os l.id * l.number) 0
          next =
              points-next (ls rows) O os i (rw (length-map rows line_of) h)
              ∙ ap (λ (x : Line). points (take i (ls rows)) os + cond (eqb x.kind 0) (pieces_by 0 os x.id * x.number) 0) at-line

          by : (t : Bool) → eqb l.kind 0 ≡ t → cond (eqb l.kind 0) (s * l.number) 0 ≡ cond (eqb l.kind 0) (pieces_by 0 os l.id * l.number) 0
          by true e =
              let z = eqb-true l.kind 0 e in
              ap (λ (n : ℕ). cond (eqb l.kind 0) (n * l.number) 0) (u (ap (λ (n : ℕ). eqb n 3) z) ∙ ap (λ (n : ℕ). pieces_by n os l.id) z)
          by false e =
              ap (λ (b : Bool). cond b (s * l.number) 0) e ∙ sym (ap (λ (b : Bool). cond b (pieces_by 0 os l.id * l.number) 0) e)

      pub reached_few : p + w ≤ 288225978038092800
      reached_few = by (eqb l.kind 0) refl
        where
          by : (t : Bool) → eqb l.kind 0 ≡ t → p + w ≤ 288225978038092800
          by true e =
              omega (arith, cost, points_few (ls rows) O os (i + 1) (omega (arith, length-map rows line_of)) (all (ap (λ (n : ℕ). eqb n 3) (eqb-true l.kind 0 e))))
          by false e = omega (arith, R.few, g ∙ ap (λ (b : Bool). cond b (s * l.number) 0) e)

      pub reached_more : {t : Bool} → t ≡ is_over l c → t ≡ false → Reached (ls rows) os (i + 1) (p + w)
      reached_more o e =
          record {
            within = omega (arith, length-map rows line_of);
            left = reached_turn (sym o ∙ e) ∙ ap (λ (n : ℕ). verdict_from (ls rows) os n (drop n (ls rows))) (sym (add-one i));
            is = cost;
            few = reached_few;
          }

-- ---- the verdict

module _ (k : Book) (f : Fit) (ls : List Line) where
  pub judged-by : {o : Option ℕ} → bad_from 0 none ls ≡ o → judged k f ls ≡ elim o [ some i ↦ rules i | none ↦ verdict_from ls (counted k f) 0 ls ]
  unfolding judged
  judged-by e = ap (λ (o : Option ℕ). elim o [ some i ↦ rules i | none ↦ verdict_from ls (counted k f) 0 ls ]) e

  pub judged_rules : {i : ℕ} → some i ≡ bad_from 0 none ls → rules i ≡ judged k f ls
  judged_rules e = sym (judged-by (sym e))

  pub judged-lines : {v : Verdict} → bad_from 0 none ls ≡ none → v ≡ verdict_from ls (counted k f) 0 ls → v ≡ judged k f ls
  judged-lines e h = h ∙ sym (judged-by e)

module _ (b : List ℕ) (rows : List (List ℕ)) where
  pub checked-by : {o : Option ℕ} → bad_shape b ≡ o → checked b rows ≡ elim o [ some t ↦ shape t | none ↦ judged (book_of b (pairs_of b)) (fit_of b (pairs_of b)) (map line_of rows) ]
  unfolding checked
  checked-by e = ap (λ (o : Option ℕ). elim o [ some t ↦ shape t | none ↦ judged (book_of b (pairs_of b)) (fit_of b (pairs_of b)) (map line_of rows) ]) e

  module _ {r : Shaped} (h : r ≡ shaped_of (bad_shape b)) where
    pub checked_shape : {x : BadTable} → r ≡ Err x → shape x.table ≡ checked b rows
    checked_shape e = sym (checked-by (bad_said (bad_shape b) (sym e ∙ h)))

    -- what a sound sheet holds, by the pairs that were read
    pub checked-held : {p : List (List ℕ)} → r ≡ Ok tt → p ≡ pairs_of b → HeldBook b p × HeldFit b p
    checked-held e q =
        (subst (λ (x : List (List ℕ)). HeldBook b x) (sym q) (sound_book b (sym e ∙ h)).held, subst (λ (x : List (List ℕ)). HeldFit b x) (sym q) (sound_fit b (sym e ∙ h)).held)

    pub checked_long : r ≡ Ok tt → 100 ≤ length b
    checked_long e = sound_long b (sym e ∙ h)

    pub checked-lines : {v : Verdict} {p : List (List ℕ)} → r ≡ Ok tt → p ≡ pairs_of b → v ≡ judged (book_of b p) (fit_of b p) (map line_of rows) → v ≡ checked b rows
    checked-lines e q w =
        w ∙ ap (λ (x : List (List ℕ)). judged (book_of b x) (fit_of b x) (map line_of rows)) q ∙ sym (checked-by (sound_said (bad_shape b) (sym e ∙ h)))

module _ (k f : List ℕ) (rows : List (List ℕ)) where
  pub files_by : {o : Option ℕ} → bad_files k f ≡ o → checked_files k f rows ≡ elim o [ some t ↦ shape t | none ↦ judged (book_of k (pairs_in k f)) (fit_of f (pairs_in k f)) (map line_of rows) ]
  unfolding checked_files
  files_by e = ap (λ (o : Option ℕ). elim o [ some t ↦ shape t | none ↦ judged (book_of k (pairs_in k f)) (fit_of f (pairs_in k f)) (map line_of rows) ]) e

  module _ {r : Shaped} (h : r ≡ shaped_of (bad_files k f)) where
    pub files_shape : {x : BadTable} → r ≡ Err x → shape x.table ≡ checked_files k f rows
    files_shape e = sym (files_by (bad_said (bad_files k f) (sym e ∙ h)))

    pub no_bad_file : r ≡ Ok tt → bad_files k f ≡ none
    no_bad_file e = sound_said (bad_files k f) (sym e ∙ h)

    pub files_held : {p : List (List ℕ)} → r ≡ Ok tt → p ≡ pairs_read k ++ pairs_read f → HeldBook k p × HeldFit f p
    files_held e q = let both = sound_files k f (no_bad_file e) q in (both.0.held, both.1.held)

    pub files_lines : {v : Verdict} {p : List (List ℕ)} → r ≡ Ok tt → p ≡ pairs_read k ++ pairs_read f → v ≡ judged (book_of k p) (fit_of f p) (map line_of rows) → v ≡ checked_files k f rows
    files_lines e q w =
        w ∙ ap (λ (x : List (List ℕ)). judged (book_of k x) (fit_of f x) (map line_of rows)) (q ∙ sound_pairs k f (no_bad_file e)) ∙ sym (files_by (no_bad_file e))
