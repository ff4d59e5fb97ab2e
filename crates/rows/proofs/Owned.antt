-- What is laid of an object, from the tallies of its rows to the definition's rows and entries.
use Rattle.std.specs.Prelude.{Option, Some, None}
use Prim.Native.Nat.{ℕ, suc, ◌+◌, ◌≤◌, ◌<◌, ◌^◌}
use native.Mathlib.Omega.{arith}
use mathlib.Core.Path.{◌≡◌, refl, sym, ap, subst, ◌∙◌}
use mathlib.Core.Bool.{Bool, true}
use mathlib.Core.List.{List, [], ◌∷◌, ◌++◌, map}
use lib.Dec.{ltb}
use lib.IntN.{ℤ}
use lib.Ieee.{Float}
use lib.ListN.{length, get_or, take, drop, length-map}
use lib.Seq.{take_at, length-take-le}
use borrow.Author.Tests.{ltb-true, lt-ltb}
use Rattle.laws.specs.Lists.{eq_z, keep, every?, ascends, insert_all, total}
use Rattle.laws.specs.Columns.{laid}
use Rattle.laws.proofs.Bools.{and_both}
use Rattle.laws.proofs.Maps.{map-map, map_at, map_itself}
use Rattle.laws.proofs.Every.{every_at, every_by, every_map, every_flat}
use Rattle.laws.proofs.Keep.{every_kept}
use Rattle.laws.proofs.Flat.{flat_same, flat_map, map-flat}
use Rattle.laws.proofs.Laid.{laid-length, drop-laid}
use Rattle.rules.specs.Bytes.{bits}
use Rattle.rules.specs.Sheet.{Book, Fit, bases_of}
use Rattle.rules.specs.Dispatch.{Row, Numbered, entry}
use Rattle.rules.specs.Columns.{origin_value, rows_numbers, entry_numbers}
use Rattle.rules.specs.declared.Item.{Item}
use Rattle.rules.specs.declared.Effect.{Effect}
use Rattle.rules.specs.declared.Pass2Effect.{Pass2Effect}
use Rattle.info.specs.Stands.{numbered_at}
use Rattle.search.specs.Bounds.{row_key}
use Rattle.rows.specs.Tallies.{Tally, base_of, tally_numbers, hit_number, hit_id, OfCollected, tallied, tally_of, Stretch, Answered}
use Rattle.rows.specs.Entries.{times, rows_from, row_count, started, effect_number, hits_at, spread_over, hits_in, row_for, rows_for, Counted, Spreading}
use Rattle.rows.proofs.Defined.{hits_targets, spread_entries, rows_numbers_lem}
use Rattle.rows.proofs.Begins.{tallied-counted, spreading, begun_keys}
use Rattle.rows.proofs.Tallied.{tallied-is}
use Rattle.rows.specs.Effects.{Effects, Taken, entry_of, value_of}
use Rattle.rows.specs.Laying.{Tallied, entries_of, EntriesLaid, RowsLaid}

pub numbers_length : (e : ℕ) (rs : List Row) → length (rows_numbers e 0 rs []) ≡ length rs
numbers_length e [] = refl
numbers_length e (r ∷ rs) = ap suc (numbers_length (e + length r.entries) rs)

module _ (k : Book) (f : Fit) (o : Item) (i : ℕ) (segment c : List (List ℕ)) where
  abbrev pub ids : List ℤ
  ids = insert_all (map (hit_id c) segment) (map (λ r. r.attribute_id) (bases_of f o))

  -- ---- the rows begin

  module _ {rows : List (List ℕ)} (h : ascends (map (λ r. r.attribute_id) (bases_of f o)) ≡ true) (T : Tallied i (tallied k f o (map (hit_id c) segment)) rows) (e : ℕ) (fits : e + length segment < 2 ^ 32) where
    counted : Counted i ids rows segment c
    counted = tallied-counted k f o i rows segment c h T.narrow T.is

    pub owned-fits : e + total (map row_count rows) < 2 ^ 32
    owned-fits = rw same fits
      where
        same : total (map row_count rows) ≡ length segment
        same =
            ap (λ (l : List (List ℕ)). total (map row_count l)) counted.is
            ∙ ap total (map-map row_count (λ a. i ∷ bits a ∷ 0 ∷ times (map (hit_id c) segment) a ∷ 0 ∷ 0 ∷ []) ids) ∙ counted.whole

    module _ {rows' : List (List ℕ)} (s : rows' ≡ started e rows) where
      pub owned_spreading : Spreading i e rows' segment c
      owned_spreading = spreading counted e s fits

      owned_keys : map row_key rows' ≡ ids
      owned_keys = begun_keys counted e s

      pub owned-over : (spreaded : List (List ℕ)) → map effect_number spreaded ≡ spread_over c segment (map row_key rows') → map effect_number spreaded ≡ spread_over c segment ids
      owned-over spreaded p = p ∙ ap (spread_over c segment) owned_keys

      pub owned-from : {rows'' : List (List ℕ)} → rows'' ≡ rows_from i (times (map (hit_id c) segment)) (times (map (hit_id c) segment)) e (map row_key rows')
          → rows'' ≡ rows_from i (times (map (hit_id c) segment)) (times (map (hit_id c) segment)) e ids
      owned-from p = p ∙ ap (rows_from i (times (map (hit_id c) segment)) (times (map (hit_id c) segment)) e) owned_keys

  -- ---- the hits are spread

  module _ (N : OfCollected segment c) (spreaded : List (List ℕ)) (s : map effect_number spreaded ≡ spread_over c segment ids) where
    abbrev below : ℕ → Bool
    below n = ltb n (length c)

    hits_below : every? (λ x. below (hit_number x)) segment ≡ true
    hits_below = every_by (λ x. below (hit_number x)) segment [] (λ j h. lt-ltb (hit_number (get_or segment j [])) (length c) (N j h))

    row_below : (a : ℤ) → every? below (map hit_number (hits_at c segment a)) ≡ true
    row_below a = every_map below hit_number (hits_at c segment a) ∙ every_kept (λ x. below (hit_number x)) (λ x. eq_z (hit_id c x) a) segment hits_below

    all_below : (xs : List ℤ) → every? below (spread_over c segment xs) ≡ true
    all_below xs = every_flat below (λ a. map hit_number (hits_at c segment a)) xs ∙ every xs
      where
        every : (l : List ℤ) → every? (λ a. every? below (map hit_number (hits_at c segment a))) l ≡ true
        every [] = refl
        every (a ∷ l) = and_both (row_below a) (every l)

    pub owned-taken : Taken spreaded c
    owned-taken j h =
        let at : every? below (map effect_number spreaded) ≡ true = ap (every? below) s ∙ all_below ids in
        ltb-true (effect_number (get_or spreaded j [])) (length c)
        (sym (ap below (map_at effect_number spreaded j [] 0 h)) ∙ every_at below (map effect_number spreaded) j 0 at (rw (length-map spreaded effect_number) h))

  -- ---- the definition's rows

  module _ {v : List Float} {n : ℕ} (N : OfCollected segment c) (es : List Pass2Effect) (E : Effects es c v n) where
    among : (j : ℕ) → j < length segment → hit_number (get_or segment j []) < length es
    among j h = rw E.count (N j h)

    targets : map (hit_id c) segment ≡ map (λ n. n.effect.target_attribute_id) (hits_in es segment)
    targets = hits_targets es c v E.held segment among

    pub owned_rows : rows_for k f o (hits_in es segment) ≡ map (row_for k f o (hits_in es segment)) ids
    unfolding rows_for
    owned_rows = ap (λ (l : List ℤ). map (row_for k f o (hits_in es segment)) (insert_all l (map (λ r. r.attribute_id) (bases_of f o)))) (sym targets)

    pub owned_numbers : (e : ℕ) → o.number ≡ i → rows_from i (times (map (hit_id c) segment)) (times (map (hit_id c) segment)) e ids ≡ rows_numbers e 0 (rows_for k f o (hits_in es segment)) []
    owned_numbers e q =
        ap (λ (m : ℕ). rows_from m (times (map (hit_id c) segment)) (times (map (hit_id c) segment)) e ids) (sym q)
        ∙ ap (λ (l : List ℤ). rows_from o.number (times l) (times l) e ids) targets
        ∙ rows_numbers_lem k f o (hits_in es segment) e ids
        ∙ ap (λ (l : List Row). rows_numbers e 0 l []) (sym owned_rows)

    -- what g gives of the entries, one after another
    entries_by : {B : Type 0} (g : Effect → B) → map (λ j. g (entry k f o (numbered_at es j))) (spread_over c segment ids) ≡ map g (entries_of (rows_for k f o (hits_in es segment)))
    unfolding row_for
    entries_by g =
        spread_entries es c v E.held (λ (x : Numbered). g (entry k f o x)) segment among ids
        ∙ sym (ap (λ (l : List Row). map g (entries_of l)) owned_rows
        ∙ ap (map g) (flat_map (λ r. r.entries) (row_for k f o (hits_in es segment)) ids)
        ∙ map-flat g (λ a. (row_for k f o (hits_in es segment) a).entries) ids
        ∙ flat_same (λ a. map g (row_for k f o (hits_in es segment) a).entries) (λ a. map (λ (x : Numbered). g (entry k f o x)) (keep (λ (x : Numbered). eq_z x.effect.target_attribute_id a) (hits_in es segment)))
        (λ a. map-map g (entry k f o) (keep (λ (x : Numbered). eq_z x.effect.target_attribute_id a) (hits_in es segment))) ids)

    pub owned_entries : (spreaded : List (List ℕ)) {segment' : List (List ℕ)} {values' : List Float} → map effect_number spreaded ≡ spread_over c segment ids
        → (segment' ≡ map (entry_of k f o es) spreaded) × (values' ≡ map (value_of es) spreaded) → EntriesLaid (rows_for k f o (hits_in es segment)) segment' values'
    unfolding entry
    owned_entries spreaded s w =
        record {
          entries =
              w.0 ∙ sym (map-map (λ j. entry_numbers (entry k f o (numbered_at es j))) effect_number spreaded)
              ∙ ap (map (λ j. entry_numbers (entry k f o (numbered_at es j)))) s ∙ entries_by entry_numbers;
          values =
              w.1 ∙ sym (map-map (λ j. origin_value (entry k f o (numbered_at es j)).origin) effect_number spreaded)
              ∙ ap (map (λ j. origin_value (entry k f o (numbered_at es j)).origin)) s ∙ entries_by (λ x. origin_value x.origin);
        }

    module _ (h : ascends (map (λ r. r.attribute_id) (bases_of f o)) ≡ true) where
      pub owned-length : length (tallied k f o (map (hit_id c) segment)) ≡ length (rows_for k f o (hits_in es segment))
      owned-length =
          ap length (tallied-is k f o (map (hit_id c) segment) h) ∙ length-map ids (tally_of k f o (map (hit_id c) segment))
          ∙ sym (ap length owned_rows ∙ length-map ids (row_for k f o (hits_in es segment)))

      owned_bases : map base_of (tallied k f o (map (hit_id c) segment)) ≡ map (λ r. r.base) (rows_for k f o (hits_in es segment))
      unfolding row_for
      owned_bases =
          ap (map base_of) (tallied-is k f o (map (hit_id c) segment) h) ∙ map-map base_of (tally_of k f o (map (hit_id c) segment)) ids
          ∙ sym (ap (map (λ r. r.base)) owned_rows ∙ map-map (λ r. r.base) (row_for k f o (hits_in es segment)) ids)

      -- too many rows
      pub owned-full : {m : ℕ} → m < length (tallied k f o (map (hit_id c) segment)) → m < length (rows_for k f o (hits_in es segment))
      owned-full l = rw (sym owned-length) l

      -- the rows' numbers are put over the tallies
      pub owned-laid : {c₀ c₁ : List (List ℕ)} {b₀ b₁ : List Float} → Stretch i (tallied k f o (map (hit_id c) segment)) c₀ c₁ b₀ b₁ → (q : ℕ) → q ≡ length (tallied k f o (map (hit_id c) segment))
          → (e : ℕ) {part c₂ : List (List ℕ)} → part ≡ rows_numbers e 0 (rows_for k f o (hits_in es segment)) [] → c₂ ≡ part ++ drop q c₁ → RowsLaid e (rows_for k f o (hits_in es segment)) c₀ c₂ b₀ b₁
      owned-laid {c₀} {c₁} {b₀} {b₁} S q p e {part} {c₂} r s =
          record {
            inside = inside;
            rows = record { is = is; long = ap length is ∙ laid-length (λ r. r) numbers c₀ (omega (arith, inside, numbers_length e rs)) };
            bases = record { is = S.bases.is ∙ ap (λ (l : List Float). l ++ drop (length (tallied k f o (map (hit_id c) segment))) b₀) owned_bases ∙ ap (λ (m : ℕ). map (λ r. r.base) rs ++ drop m b₀) owned-length; long = S.bases.long };
          }
        where
          rs : List Row
          rs = rows_for k f o (hits_in es segment)

          numbers : List (List ℕ)
          numbers = rows_numbers e 0 rs []

          inside : length rs ≤ length c₀
          inside = rw (sym owned-length) S.inside

          is : c₂ ≡ laid (λ r. r) numbers c₀
          is =
              s ∙ ap (λ (l : List (List ℕ)). l ++ drop q c₁) (r ∙ sym (map_itself numbers))
              ∙ ap (λ (l : List (List ℕ)). map (λ r. r) numbers ++ l)
              (ap (drop q) S.rows.is ∙ drop-laid (tally_numbers i) (tallied k f o (map (hit_id c) segment)) c₀ q (omega (arith, p))
              ∙ ap (λ (m : ℕ). drop m c₀) (p ∙ owned-length ∙ sym (numbers_length e rs)))

-- the tallies stand in the front of the stretch
pub owned-tallied : {i : ℕ} {ts : List Tally} {c₀ c : List (List ℕ)} {b₀ b : List Float} → Stretch i ts c₀ c b₀ b → (q : ℕ) → q ≡ length ts → Tallied i ts (take q c)
owned-tallied {i} {ts} {c₀} S q p =
    record {
      is = ap (take q) S.rows.is ∙ take_at (map (tally_numbers i) ts) (drop (length ts) c₀) q (length-map ts (tally_numbers i) ∙ sym p);
      narrow = S.narrow;
    }

-- what an answer says
module _ (r : Option ℕ) (i : ℕ) (ts : List Tally) (c₀ c : List (List ℕ)) (b₀ b : List Float) (A : Answered r i ts c₀ c b₀ b) where
  pub answered_rows : {q : ℕ} → r ≡ Some q → (q ≡ length ts) × Stretch i ts c₀ c b₀ b
  answered_rows e = subst (λ (x : Option ℕ). Answered x i ts c₀ c b₀ b) e A

  pub answered_inside : {q : ℕ} → r ≡ Some q → q ≤ length c
  answered_inside {q} e =
      let S = answered_rows e in
      omega (arith, S.0, S.1.inside, S.1.rows.long)

  pub answered_part : {q : ℕ} → r ≡ Some q → q ≡ length (take q c)
  answered_part {q} e = sym (length-take-le q c (answered_inside e))

  pub answered_full : r ≡ None → length c₀ < length ts
  answered_full e = subst (λ (x : Option ℕ). Answered x i ts c₀ c b₀ b) e A
