-- The base attributes of an object as the first rows of its stretch, one after another.
use Prim.Native.Nat.{ℕ, ◌+◌, ◌≤◌, ◌<◌}
use native.Mathlib.Omega.{arith}
use mathlib.Core.Path.{◌≡◌, refl, sym, ap, subst, ◌∙◌}
use mathlib.Core.Bool.{true}
use mathlib.Core.List.{List, [], ◌∷◌, ◌++◌, map}
use lib.Ieee.{Float}
use lib.ListN.{length, set, get_or, length-map}
use mir.Syntax.{w32}
use mir.Val.{SFits}
use Rattle.laws.specs.Lists.{every?, span, ascends, total}
use Rattle.laws.specs.Columns.{Col}
use Rattle.laws.proofs.Bools.{and_both}
use Rattle.laws.proofs.Maps.{map_snoc, map-map}
use Rattle.laws.proofs.Every.{every_snoc}
use Rattle.laws.proofs.Spans.{span_length, map_span_next}
use Rattle.laws.proofs.Laid.{col_none, col_next}
use Rattle.rules.specs.Bytes.{bits}
use Rattle.rules.specs.declared.BaseAttribute.{BaseAttribute}
use Rattle.rows.specs.Tallies.{Tally, id_of, base_of, count_of, tally_numbers, narrow?, base_tally, Stretch}
use Rattle.rows.proofs.Bounds.{fits_narrow}

module _ (i : ℕ) (xs : List BaseAttribute) (first : ℕ) (c₀ : List (List ℕ)) (b₀ : List Float) where
  -- the rows of the first k base attributes
  abbrev pub rows_of : ℕ → List Tally
  rows_of k = map base_tally (span first k xs)

  pub record Based (k : ℕ) (c : List (List ℕ)) (b : List Float) : Type 0 where
    pub rows : Col (tally_numbers i) (rows_of k) c₀ c
    pub bases : Col base_of (rows_of k) b₀ b
    pub narrow : every? narrow? (map id_of (rows_of k)) ≡ true

  pub based_none : Based 0 c₀ b₀
  based_none = record { rows = col_none (tally_numbers i) c₀; bases = col_none base_of b₀; narrow = refl }

  module _ {k : ℕ} {c : List (List ℕ)} {b : List Float} (B : Based k c b) where
    pub based_length : first + k ≤ length xs → k ≡ length (rows_of k)
    based_length h = sym (length-map (span first k xs) base_tally ∙ span_length first k xs h)

    -- one more
    pub based_next : first + k < length xs → k < length c₀ → k < length b₀ → (r d : BaseAttribute) → r ≡ get_or xs (first + k) d → SFits w32 r.attribute_id
        → {c' : List (List ℕ)} {b' : List Float} → c' ≡ set c k (i ∷ bits r.attribute_id ∷ 0 ∷ 0 ∷ 0 ∷ 0 ∷ []) → b' ≡ set b k r.value → Based (k + 1) c' b'
    based_next h l m r d e f p q =
        record {
          rows = col_next (tally_numbers i) (rows_of k) (base_tally r) k next B.rows (based_length (omega arith)) l p;
          bases = col_next base_of (rows_of k) (base_tally r) k next B.bases (based_length (omega arith)) m q;
          narrow =
              ap (λ (l : List Tally). every? narrow? (map id_of l)) next ∙ ap (every? narrow?) (map_snoc id_of (rows_of k) (base_tally r))
              ∙ every_snoc narrow? (map id_of (rows_of k)) r.attribute_id ∙ and_both B.narrow (fits_narrow r.attribute_id f);
        }
      where
        next : rows_of (k + 1) ≡ rows_of k ++ (base_tally r ∷ [])
        next = map_span_next first k xs d h base_tally ∙ ap (λ (x : BaseAttribute). rows_of k ++ (base_tally x ∷ [])) (sym e)

    -- the stretch holds them all
    pub based_stretch : length c₀ ≡ length b₀ → first + k ≤ length xs → k ≤ length c₀ → ascends (map (λ r. r.attribute_id) (span first k xs)) ≡ true → (k ≡ length (rows_of k)) × Stretch i (rows_of k) c₀ c b₀ b
    based_stretch even h l o = (
      based_length h,
      record {
        rows = B.rows;
        bases = B.bases;
        even = even;
        inside = rw (sym (based_length h)) l;
        ordered = ap ascends (map-map id_of base_tally (span first k xs)) ∙ o;
        narrow = B.narrow;
      },
    )

  -- at the end of the loop, where these are the base attributes l
  pub based_end : {k n : ℕ} {c : List (List ℕ)} {b : List Float} → Based k c b → k ≤ n → n ≤ k → length c₀ ≡ length b₀ → first + n ≤ length xs → n ≤ length c₀
      → ascends (map (λ r. r.attribute_id) (span first n xs)) ≡ true → (l : List BaseAttribute) → span first n xs ≡ l → (n ≡ length (map base_tally l)) × Stretch i (map base_tally l) c₀ c b₀ b
  based_end {k} {n} {c} {b} B p q even h room o l e =
      let same : k ≡ n = omega arith in
      subst (λ (s : List BaseAttribute). (n ≡ length (map base_tally s)) × Stretch i (map base_tally s) c₀ c b₀ b) e (based_stretch (subst (λ (m : ℕ). Based m c b) same B) even h room o)

-- base attributes have no entries
pub no_entries : (rs : List BaseAttribute) → total (map count_of (map base_tally rs)) ≡ 0
no_entries [] = refl
no_entries (r ∷ rs) = omega (arith, no_entries rs)
