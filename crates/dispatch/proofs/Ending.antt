-- The three ways that dispatch ends.
use Prim.Native.Nat.{ℕ, ◌≤◌, ◌<◌, ◌^◌}
use native.Mathlib.Omega.{arith}
use mathlib.Core.Path.{◌≡◌, sym, ap, subst, ◌∙◌}
use mathlib.Core.Bool.{not, ◌&&◌, cond}
use mathlib.Core.List.{List, ◌++◌, map}
use mathlib.Core.Option.{none, some}
use Rattle.std.specs.Prelude.{Option, Some, None}
use lib.Dec.{eqb}
use lib.Ieee.{Float}
use lib.ListN.{length, get_or, take, drop}
use lib.Seq.{take_all}
use Rattle.laws.specs.Lists.{some?}
use Rattle.laws.specs.Columns.{Col}
use Rattle.rules.specs.Bytes.{count_of}
use Rattle.rules.specs.Sheet.{Book, fit_of}
use Rattle.rules.specs.Dispatch.{Row, base_keys, rows}
use Rattle.rules.specs.Columns.{entry_numbers}
use Rattle.rules.specs.declared.Pass2Effect.{Pass2Effect}
use Rattle.info.specs.Sound.{SoundFit}
use Rattle.info.proofs.Elements.{objects_length}
use Rattle.info.proofs.Sheets.{numbered}
use Rattle.hits.specs.Strikes.{Strike, arrivals, Segmented}
use Rattle.hits.proofs.Cutting.{parts_length}
use Rattle.rows.specs.Effects.{Listing}
use Rattle.rows.specs.Laying.{entries_of}
use Rattle.rows.specs.Parts.{hits_to, Parts, Parting, rows_to, ListsLaid, AllLaid}
use Rattle.rows.proofs.RowOf.{bases_ascend}
use Rattle.dispatch.specs.Keyed.{is_row}
use Rattle.dispatch.specs.Whole.{Collection, Collecting, full}
use Rattle.dispatch.proofs.Parted.{bases_narrow, as_effects, part_of, parts_of, parting_of, rows_are, full_rows, full-not, full_list}

-- list 1, cut to its effects
pub cut-listing : {n : ℕ} {c : List (List ℕ)} {v : List Float} {objects : ℕ} → Collecting n c v objects → Listing (take n c) (take n v) objects
cut-listing C = record { effects = C.effects; listed = as_effects C.collection }

-- a column whose end was kept holds the rows in what it was before
col_kept : {R B : Type 0} (enc : R → B) (rs : List R) {c₀ c₁ c : List B} → drop (length rs) c₁ ≡ drop (length rs) c₀ → length c₁ ≡ length c₀ → Col enc rs c₁ c → Col enc rs c₀ c
col_kept {R} {B} enc rs e l K = record { is = K.is ∙ ap (λ (t : List B). map enc rs ++ t) e; long = K.long ∙ l }

module _ (k : Book) (fit : List ℕ) (pairs : List (List ℕ)) (S : SoundFit fit pairs) (es : List Pass2Effect) (room3 : ℕ) where
  abbrev objects : ℕ
  objects = count_of pairs 6

  abbrev pub parts : ℕ → List ℕ
  parts = part_of k (fit_of fit pairs) objects (objects_length fit pairs) (numbered fit pairs) (bases_ascend fit pairs S) es room3

  abbrev hs : List Strike
  hs = arrivals k (fit_of fit pairs) 0 es

  few : objects ≤ 1024
  few = omega (arith, S.held.objects.few)

  module _ {entries₀ entries : List (List ℕ)} {ends past : List ℕ} {used : ℕ} (G : Segmented es hs room3 objects entries₀ entries ends past used) where
    pub ending_parts : Parts parts objects entries ends
    ending_parts = parts_of k (fit_of fit pairs) objects (objects_length fit pairs) (numbered fit pairs) (bases_ascend fit pairs S) es room3 G few

    pub ending_parting : {n : ℕ} {c : List (List ℕ)} {v values : List Float} → Collection es n c v objects → room3 ≤ length entries → room3 ≤ length values → room3 < 2 ^ 32 → Parting objects entries values ends (take n c)
    ending_parting C p q r = parting_of k (fit_of fit pairs) objects (objects_length fit pairs) (numbered fit pairs) (bases_ascend fit pairs S) es room3 G few C p q r

    abbrev all : List Row
    all = rows_to k (fit_of fit pairs) es parts objects

    module _ (room : ℕ) (based : length (base_keys (fit_of fit pairs)) ≤ room) (r : Option ℕ) (rows₀ rows' : List (List ℕ)) (bases₀ bases' : List Float) (entries' : List (List ℕ)) (values₀ values' : List Float)
        (A : AllLaid r room (hits_to parts objects) all rows₀ rows' bases₀ bases' entries entries' values₀ values') where
      answer : (q : Option ℕ) → r ≡ q → AllLaid q room (hits_to parts objects) all rows₀ rows' bases₀ bases' entries entries' values₀ values'
      answer q e = subst (λ (x : Option ℕ). AllLaid x room (hits_to parts objects) all rows₀ rows' bases₀ bases' entries entries' values₀ values') e A

      pub ending_full : r ≡ None → full room room3 k (fit_of fit pairs) es ≡ some 2
      ending_full e = full_rows k (fit_of fit pairs) objects (objects_length fit pairs) (numbered fit pairs) (bases_ascend fit pairs S) es room3 room based (answer None e)

      module _ {m : ℕ} (e : r ≡ Some m) where
        pub ending_inside : room ≤ length rows₀ → length rows' ≡ length rows₀ → m ≤ length rows'
        ending_inside h l =
            let X = answer (Some m) e in
            omega (arith, X.0, X.1)

        pub ending_past : {n : ℕ} {c : List (List ℕ)} {v : List Float} → Collection es n c v objects → room3 < used → (l : ℕ)
            → l ≡ cond (eqb m room && not (some? (is_row (get_or past 0 0) (get_or past 1 0)) (take m rows'))) 2 3 → full room room3 k (fit_of fit pairs) es ≡ some l
        ending_past C h l q =
            let X = answer (Some m) e in
            let over : room3 < length hs = rw G.count at h in
            full_list k (fit_of fit pairs) objects (objects_length fit pairs) (numbered fit pairs) (bases_ascend fit pairs S) es room3 (bases_narrow fit pairs) C.held.narrow room based over m l X.0 X.1 X.3.rows (G.left over) q

        pub ending_done : length entries ≡ length entries₀ → used ≤ room3 → (full room room3 k (fit_of fit pairs) es ≡ none) × (m ≡ length (rows k (fit_of fit pairs) es)) × (used ≡ length (entries_of (rows k (fit_of fit pairs) es)))
            × ListsLaid (rows k (fit_of fit pairs) es) rows₀ rows' bases₀ bases' entries₀ entries' values₀ values' × (m ≤ room)
        ending_done z h =
            let X = answer (Some m) e in
            let l : length hs ≤ room3 = rw G.count at h in
            let same : all ≡ rows k (fit_of fit pairs) es = rows_are k (fit_of fit pairs) objects (objects_length fit pairs) (numbered fit pairs) (bases_ascend fit pairs S) es room3 l in
            let count : length (entries_of all) ≡ length (take room3 hs) = X.2 ∙ parts_length k (fit_of fit pairs) (numbered fit pairs) es objects room3 (objects_length fit pairs) in
            let hits : hits_to parts objects ≡ used = parts_length k (fit_of fit pairs) (numbered fit pairs) es objects room3 (objects_length fit pairs) ∙ ap length (take_all room3 hs l) ∙ sym G.count in
            let ends-kept : drop (length (entries_of all)) entries ≡ drop (length (entries_of all)) entries₀ =
            ap (λ (x : ℕ). drop x entries) count ∙ G.kept ∙ sym (ap (λ (x : ℕ). drop x entries₀) count) in (
              full-not k (fit_of fit pairs) objects (objects_length fit pairs) (numbered fit pairs) (bases_ascend fit pairs S) es room3 room based X.1 l,
              X.0 ∙ ap length same,
              sym (ap (λ (x : List Row). length (entries_of x)) (sym same) ∙ X.2 ∙ hits),
              subst (λ (x : List Row). ListsLaid x rows₀ rows' bases₀ bases' entries₀ entries' values₀ values') same
                  (record { rows = X.3.rows; bases = X.3.bases; entries = col_kept entry_numbers (entries_of all) ends-kept z X.3.entries; values = X.3.values }),
              omega (arith, X.0, X.1),
            )
