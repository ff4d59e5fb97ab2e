-- `backs` is what demand 3 counts: row i's attribute leads back to itself.
use Prim.Native.Nat.{ℕ, zero, suc, ◌<◌, suc-le-suc, zero-le}
use native.Mathlib.Omega.{arith}
use mathlib.Core.Path.{◌≡◌, refl, sym, ap, subst, ◌∙◌}
use mathlib.Core.Bool.{Bool, true, false}
use mathlib.Core.List.{List, [], ◌∷◌, ◌++◌}
use mathlib.Core.Logic.{◌⊎◌, inl, inr}
use mathlib.Core.Option.{Option, none, some}
use borrow.Author.Tests.{eqb-true}
use lib.Dec.{eqb}
use lib.ListN.{length, get_or}
use Rattle.laws.specs.Lists.{some?, put, keep, flat}
use Rattle.laws.proofs.Bools.{both_ways, passed}
use Rattle.laws.proofs.Every.{some_append}
use Rattle.rules.specs.Dispatch.{Row, Key, same_key}
use Rattle.rules.specs.Value.{World, Found, find_row}
use Rattle.rules.specs.Fresh.{needs_of, needs_at, Leads, last, next, LeadsBack}
use Rattle.promises.specs.NoMemory.{key_of, key_at, no_row, Needs}
use Rattle.promises.proofs.NoMemoryReads.{leads_on}
use Rattle.rules.proofs.Ranked.{same_key_lem}
use Rattle.promises.proofs.Ranks.{holds, key_itself, found_at}
use Rattle.loops.specs.Loop.{rows_of, searched, need_rows, backs}
use Rattle.loops.proofs.Searching.{Has, or_cases, or_left, or_right, has_head, has_append, append_right, met_all, searched_ends}

-- ---- lists of keys and of rows

module _ (w : World) where
  abbrev one_of : Option Found → List ℕ
  one_of none = []
  one_of (some f) = f.index ∷ []

  -- a key of the list that has this row
  record Of (ks : List Key) (j : ℕ) : Type 0 where
    key : Key
    row : Found
    among : some? (same_key key) ks ≡ true
    found : find_row key.object key.id 0 w.rows ≡ some row
    is : row.index ≡ j

  of_one : (a : Key) (j : ℕ) (f : Option Found) → find_row a.object a.id 0 w.rows ≡ f → Has j (one_of f) ≡ true → Of (a ∷ []) j
  of_one a j none e h = both_ways h refl
  of_one a j (some f) e h = record { key = a; row = f; among = or_left (same_key a a) false (key_itself a); found = e; is = sym (eqb_is (or_cases (eqb j f.index) false h)) }
    where
      eqb_is : (eqb j f.index ≡ true) ⊎ (false ≡ true) → j ≡ f.index
      eqb_is (inl p) = eqb-true j f.index p
      eqb_is (inr p) = both_ways p refl

  of_rows : (ks : List Key) (j : ℕ) → Has j (rows_of w ks) ≡ true → Of ks j
  of_rows [] j h = both_ways h refl
  of_rows (a ∷ ks) j h = by (find_row a.object a.id 0 w.rows) refl h (of_rows ks j)
    where
      later : Of ks j → Of (a ∷ ks) j
      later o = record { key = o.key; row = o.row; among = or_right (same_key o.key a) (some? (same_key o.key) ks) o.among; found = o.found; is = o.is }

      first_one : Of (a ∷ []) j → Of (a ∷ ks) j
      first_one o = record { key = o.key; row = o.row; among = widen (or_cases (same_key o.key a) false o.among); found = o.found; is = o.is }
        where
          widen : (same_key o.key a ≡ true) ⊎ (false ≡ true) → some? (same_key o.key) (a ∷ ks) ≡ true
          widen (inl p) = or_left (same_key o.key a) (some? (same_key o.key) ks) p
          widen (inr p) = both_ways p refl

      by : (f : Option Found) → find_row a.object a.id 0 w.rows ≡ f → Has j (elim f [ none ↦ [] | some g ↦ g.index ∷ [] ] ++ rows_of w ks) ≡ true → (Has j (rows_of w ks) ≡ true → Of ks j) → Of (a ∷ ks) j
      by none e g rest = later (rest g)
      by (some f) e g rest = elim (has_append j (f.index ∷ []) (rows_of w ks) g) [ inl p ↦ first_one (of_one a j (some f) e p) | inr p ↦ later (rest p) ]

  in_rows : (ks : List Key) (b : Key) (f : Found) → some? (same_key b) ks ≡ true → find_row b.object b.id 0 w.rows ≡ some f → Has f.index (rows_of w ks) ≡ true
  in_rows [] b f h e = both_ways h refl
  in_rows (a ∷ ks) b f h e = elim (or_cases (same_key b a) (some? (same_key b) ks) h) [
    | inl p ↦ here (find_row a.object a.id 0 w.rows) (subst (λ (x : Key). find_row x.object x.id 0 w.rows ≡ some f) (same_key_lem b a p) e)
    | inr p ↦ append_right f.index (elim (find_row a.object a.id 0 w.rows) [ none ↦ [] | some g ↦ g.index ∷ [] ]) (rows_of w ks) (in_rows ks b f p e)
  ]
    where
      here : (g : Option Found) → g ≡ some f → Has f.index (elim g [ none ↦ [] | some g ↦ g.index ∷ [] ] ++ rows_of w ks) ≡ true
      here none q = let z : ◌≡◌ {A = ℕ} 0 1 = cc in absurd (omega arith)
      here (some g) q = let same : g ≡ f = cc in subst (λ (x : Found). Has f.index (x.index ∷ rows_of w ks) ≡ true) (sym same) (has_head f.index (rows_of w ks))

  -- ---- needs of rows, where each row is the one that is found

  -- a row with the key whose needs have b
  record From (p : Row → Bool) (b : Key) (rs : List Row) : Type 0 where
    at : ℕ
    within : at < length rs
    passes : p (get_or rs at no_row) ≡ true
    needs : some? (same_key b) (needs_of w.book (get_or rs at no_row)) ≡ true

  from-flat : (p : Row → Bool) (b : Key) (rs : List Row) → some? (same_key b) (flat (needs_of w.book) (keep p rs)) ≡ true → From p b rs
  from-flat p b [] h = both_ways h refl
  from-flat p b (r ∷ rs) h = by (p r) refl h (from-flat p b rs)
    where
      later : From p b rs → From p b (r ∷ rs)
      later o = record { at = suc o.at; within = suc-le-suc o.within; passes = o.passes; needs = o.needs }

      by : (t : Bool) → p r ≡ t → some? (same_key b) (flat (needs_of w.book) (put t r (keep p rs))) ≡ true → (some? (same_key b) (flat (needs_of w.book) (keep p rs)) ≡ true → From p b rs) → From p b (r ∷ rs)
      by false e g rest = later (rest g)
      by true e g rest = elim (or_cases (some? (same_key b) (needs_of w.book r)) (some? (same_key b) (flat (needs_of w.book) (keep p rs))) (sym (some_append (same_key b) (needs_of w.book r) (flat (needs_of w.book) (keep p rs))) ∙ g)) [
        | inl q ↦ record { at = zero; within = suc-le-suc zero-le; passes = e; needs = q }
        | inr q ↦ later (rest q)
      ]

  module _ (each_found : (i : ℕ) → i < length w.rows → find_row (key_at w i).object (key_at w i).id 0 w.rows ≡ some (record { index = i; row = get_or w.rows i no_row })) where
    record Needed (i j : ℕ) : Type 0 where
      within : j < length w.rows
      needs : i < length w.rows → Needs w (key_at w i) (key_at w j)

    need_key : (i j : ℕ) → Has j (need_rows w i) ≡ true → Needed i j
    unfolding need_rows
    need_key i j h =
        let o = of_rows (needs_of w.book (get_or w.rows i no_row)) j h in
        let f = found_at w o.key o.row o.found in
        let there : key_at w j ≡ o.key = ap (key_at w) (sym o.is) ∙ f.key in
        record {
          within = subst (λ (n : ℕ). n < length w.rows) o.is f.within;
          needs = λ l. subst (λ (x : Key). Needs w (key_at w i) x) (sym there) ((found_at w (key_at w i) _ (each_found i l)).needed o.key (holds _ o.among));
        }

    key_need : (i : ℕ) → i < length w.rows → (b : Key) (f : Found) → Needs w (key_at w i) b → find_row b.object b.id 0 w.rows ≡ some f → Has f.index (need_rows w i) ≡ true
    unfolding need_rows needs_at
    key_need i l b f h e =
        let o = from-flat (λ r. same_key (key_of r) (key_at w i)) b w.rows (passed _ h) in
        let same : key_at w o.at ≡ key_at w i = same_key_lem (key_at w o.at) (key_at w i) o.passes in
        let one : o.at ≡ i = index_same (sym (each_found o.at o.within) ∙ ap (λ (x : Key). find_row x.object x.id 0 w.rows) same ∙ each_found i l) in
        in_rows (needs_of w.book (get_or w.rows i no_row)) b f (subst (λ (n : ℕ). some? (same_key b) (needs_of w.book (get_or w.rows n no_row)) ≡ true) one o.needs) e
      where
        index_same : {m n : ℕ} {r s : Row} → ◌≡◌ {A = Option Found} (some (record { index = m; row = r })) (some (record { index = n; row = s })) → m ≡ n
        index_same {m = m} {n = n} {r = r} {s = s} q = let same : ◌≡◌ {A = Found} (record { index = m; row = r }) (record { index = n; row = s }) = cc in ap (λ (x : Found). x.index) same

    -- ---- the theorem

    -- row j is led to
    record Led (i j : ℕ) : Type 0 where
      within : j < length w.rows
      way : Leads w (key_at w i) (key_at w j)

    pub backs_leads : (i : ℕ) → i < length w.rows → backs w i ≡ true → LeadsBack w (key_at w i)
    unfolding backs searched
    backs_leads i l h =
        (met_all (need_rows w) (Led i) (λ k j p g. let n = need_key k j g in record { within = n.within; way = leads_on w p.way (n.needs p.within) })
        _ [] (need_rows w i) (λ j g. both_ways g refl) (λ j g. let n = need_key i j g in record { within = n.within; way = last (n.needs l) }) i h).way

    -- a key that leads on has a row
    record Row_there (a : Key) : Type 0 where
      row : Found
      found : find_row a.object a.id 0 w.rows ≡ some row

    needs_there : (a b : Key) → Needs w a b → Row_there a
    unfolding needs_at
    needs_there a b h =
        let o = from-flat (λ r. same_key (key_of r) a) b w.rows (passed _ h) in
        record { row = _; found = subst (λ (x : Key). find_row x.object x.id 0 w.rows ≡ some (record { index = o.at; row = get_or w.rows o.at no_row })) (same_key_lem (key_at w o.at) a o.passes) (each_found o.at o.within) }

    leads_there : (a b : Key) → Leads w a b → Row_there a
    leads_there a b (last h) = needs_there a b h
    leads_there a b (next {b = c} h way) = needs_there a c h

    module _ (m : List ℕ) (closed : (k j : ℕ) → Has k m ≡ true → Has j (need_rows w k) ≡ true → Has j m ≡ true) where
      -- all that a row leads to whose needs are on the list, and that has a row, is on it
      closed_leads : (a b : Key) → Leads w a b → (k : ℕ) → k < length w.rows → a ≡ key_at w k → ((j : ℕ) → Has j (need_rows w k) ≡ true → Has j m ≡ true)
          → (f : Found) → find_row b.object b.id 0 w.rows ≡ some f → Has f.index m ≡ true
      closed_leads a b (last h) k l e s f g = s f.index (key_need k l b f (subst (λ (x : Key). Needs w x b) e h) g)
      closed_leads a b (next {b = c} h way) k l e s f g =
          let r = leads_there c b way in
          closed_leads c b way r.row.index (found_at w c r.row r.found).within (sym (found_at w c r.row r.found).key)
          (λ j q. closed r.row.index j (s r.row.index (key_need k l c r.row (subst (λ (x : Key). Needs w x c) e h) r.found)) q) f g

    pub leads_backs : (i : ℕ) → i < length w.rows → LeadsBack w (key_at w i) → backs w i ≡ true
    unfolding backs
    leads_backs i l way =
        let ends = searched_ends (need_rows w) (length w.rows) (λ k j h. (need_key k j h).within) (need_rows w i) (λ j h. (need_key i j h).within) in
        closed_leads (searched (need_rows w) (length w.rows) (need_rows w i)) ends.closed (key_at w i) (key_at w i) way i l refl ends.takes _ (each_found i l)
