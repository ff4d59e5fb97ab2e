-- Laws of columns: rows laid one after another, what is in a column, and zeros behind the rows.
use Prim.Native.Nat.{ℕ, zero, suc, ◌+◌, ◌-◌, ◌≤◌, ◌<◌}
use native.Mathlib.Nat.{not-suc-le-zero, le_of_suc-le-suc}
use native.Mathlib.Omega.{arith}
use mathlib.Core.Path.{◌≡◌, refl, sym, ap, ◌∙◌}
use mathlib.Core.List.{List, [], ◌∷◌, ◌++◌, map, append_assoc}
use lib.ListN.{length, take, drop, set, get_or, replicate, length-map, length-append, length-drop, length-set, length-replicate, get_or-replicate, get_or-append}
use lib.Seq.{take_at, drop_at, drop-append-add, get_or-append-add, get_or-drop, drop-drop}
use Rattle.laws.specs.Columns.{laid, column, Col}
use Rattle.laws.proofs.Maps.{map_append, map_at}

pub drop-replicate : {A : Type 0} (m n : ℕ) (z : A) → drop m (replicate n z) ≡ replicate (n - m) z
drop-replicate zero n z = rw same refl
  where
    same : n - 0 ≡ n
    same = omega arith
drop-replicate (suc m) zero z = rw none_left refl
  where
    none_left : 0 - suc m ≡ 0
    none_left = omega arith
drop-replicate (suc m) (suc n) z = drop-replicate m n z ∙ rw less refl
  where
    less : suc n - suc m ≡ n - m
    less = omega arith

module _ {R B : Type 0} (enc : R → B) where
  -- one more row
  pub laid_snoc : (rs : List R) (r : R) (c : List B) → length rs < length c → set (laid enc rs c) (length rs) (enc r) ≡ laid enc (rs ++ (r ∷ [])) c
  laid_snoc [] r [] h = absurd (not-suc-le-zero h)
  laid_snoc [] r (y ∷ ys) h = refl
  laid_snoc (x ∷ xs) r [] h = absurd (not-suc-le-zero h)
  laid_snoc (x ∷ xs) r (y ∷ ys) h = ap (λ (l : List B). enc x ∷ l) (laid_snoc xs r ys (le_of_suc-le-suc h))

  pub laid-length : (rs : List R) (c : List B) → length rs ≤ length c → length (laid enc rs c) ≡ length c
  laid-length rs c h = length-append (map enc rs) (drop (length rs) c) ∙ omega (arith, length-map rs enc, length-drop (length rs) c)

  -- what stands in it: a row, and behind the rows what stood there
  pub laid-row : (rs : List R) (c : List B) (k : ℕ) (r : R) (d : B) → k < length rs → get_or (laid enc rs c) k d ≡ enc (get_or rs k r)
  laid-row rs c k r d h = get_or-append (map enc rs) (drop (length rs) c) d k (rw (length-map rs enc) h) ∙ map_at enc rs k r d h

  past : (rs : List R) (k : ℕ) → length rs ≤ k → k ≡ length (map enc rs) + (k - length rs)
  past rs k h = omega (arith, length-map rs enc)

  back : (rs : List R) (k : ℕ) → length rs ≤ k → length rs + (k - length rs) ≡ k
  back rs k h = omega arith

  pub laid_past : (rs : List R) (c : List B) (k : ℕ) (d : B) → length rs ≤ k → get_or (laid enc rs c) k d ≡ get_or c k d
  laid_past rs c k d h =
      ap (λ (m : ℕ). get_or (laid enc rs c) m d) (past rs k h) ∙ get_or-append-add (map enc rs) (drop (length rs) c) (k - length rs) d
      ∙ get_or-drop (length rs) c (k - length rs) d ∙ ap (λ (m : ℕ). get_or c m d) (back rs k h)

  pub drop-laid : (rs : List R) (c : List B) (k : ℕ) → length rs ≤ k → drop k (laid enc rs c) ≡ drop k c
  drop-laid rs c k h =
      ap (λ (m : ℕ). drop m (laid enc rs c)) (past rs k h) ∙ drop-append-add (map enc rs) (drop (length rs) c) (k - length rs)
      ∙ drop-drop (k - length rs) (length rs) c ∙ ap (λ (m : ℕ). drop m c) (back rs k h)

  -- rows over rows: the longer list hides the other
  pub laid-laid : (rs ss : List R) (c : List B) → length ss ≤ length rs → laid enc rs (laid enc ss c) ≡ laid enc rs c
  laid-laid rs ss c h = ap (λ (l : List B). map enc rs ++ l) (drop-laid ss c (length rs) h)

  -- rows behind rows
  pub laid_append : (rs ss : List R) (c : List B) → laid enc (rs ++ ss) c ≡ map enc rs ++ laid enc ss (drop (length rs) c)
  laid_append rs ss c =
      ap (λ (l : List B). l ++ drop (length (rs ++ ss)) c) (map_append enc rs ss) ∙ append_assoc (map enc rs) (map enc ss) (drop (length (rs ++ ss)) c)
      ∙ ap (λ (l : List B). map enc rs ++ (map enc ss ++ l)) (ap (λ (n : ℕ). drop n c) (length-append rs ss) ∙ sym (drop-drop (length ss) (length rs) c))

  -- ---- a column that holds rows

  pub col_none : (c : List B) → Col enc [] c c
  col_none c = record { is = refl; long = refl }

  -- one row more, by a store at n
  pub col_more : (rs : List R) (r : R) (n : ℕ) {c₀ c c' : List B} → Col enc rs c₀ c → n ≡ length rs → n < length c₀ → c' ≡ set c n (enc r) → Col enc (rs ++ (r ∷ [])) c₀ c'
  col_more rs r n {c₀} {c} K k h e =
      record {
        is = rw (e, K.is, k) (laid_snoc rs r c₀ (rw k at h));
        long = ap length e ∙ length-set c n (enc r) ∙ K.long;
      }

  -- a column whose rows are those of another list
  pub col_same : {rs ss : List R} {c₀ c : List B} → ss ≡ rs → Col enc rs c₀ c → Col enc ss c₀ c
  col_same e K = rw e K

  -- the next row of a loop, with `map_next`, `keep-more`, ..
  pub col_next : (rs : List R) (r : R) (n : ℕ) {ss : List R} {c₀ c c' : List B} → ss ≡ rs ++ (r ∷ []) → Col enc rs c₀ c → n ≡ length rs → n < length c₀ → c' ≡ set c n (enc r) → Col enc ss c₀ c'
  col_next rs r n s K k h e = col_same s (col_more rs r n K k h e)

  -- several rows, laid from place n on
  pub col_append : (rs ss : List R) (n : ℕ) {c₀ c c' : List B} → Col enc rs c₀ c → n ≡ length rs → n + length ss ≤ length c₀ → c' ≡ take n c ++ laid enc ss (drop n c) → Col enc (rs ++ ss) c₀ c'
  col_append rs ss n {c₀} {c} {c'} K k h e =
      record {
        is = whole;
        long = ap length whole ∙ laid-length (rs ++ ss) c₀ (rw (length-append rs ss) (omega arith));
      }
    where
      n_long : length (map enc rs) ≡ n
      n_long = length-map rs enc ∙ sym k

      whole : c' ≡ laid enc (rs ++ ss) c₀
      whole =
          e ∙ rw (K.is, take_at (map enc rs) (drop (length rs) c₀) n n_long, drop_at (map enc rs) (drop (length rs) c₀) n n_long)
          (sym (laid_append rs ss c₀))

  pub col_row : (rs : List R) {c₀ c : List B} → Col enc rs c₀ c → (k : ℕ) (r : R) (d : B) → k < length rs → get_or c k d ≡ enc (get_or rs k r)
  col_row rs {c₀} K k r d h = ap (λ (l : List B). get_or l k d) K.is ∙ laid-row rs c₀ k r d h

  -- ---- zeros behind the rows

  pub column_none : (z : B) (n : ℕ) → column enc z [] n ≡ replicate n z
  unfolding column
  column_none z n = ap (λ (k : ℕ). replicate k z) same
    where
      same : n - 0 ≡ n
      same = omega arith

  pub column_laid : (z : B) (rs : List R) (n : ℕ) → column enc z rs n ≡ laid enc rs (replicate n z)
  unfolding column
  column_laid z rs n = ap (λ (l : List B). map enc rs ++ l) (sym (drop-replicate (length rs) n z))

  -- rows laid into zeros
  pub col_column : (z : B) (rs : List R) (n : ℕ) {c₀ c : List B} → Col enc rs c₀ c → c₀ ≡ replicate n z → c ≡ column enc z rs n
  col_column z rs n K e = K.is ∙ ap (laid enc rs) e ∙ sym (column_laid z rs n)

  pub column_length : (z : B) (rs : List R) (n : ℕ) → length rs ≤ n → length (column enc z rs n) ≡ n
  column_length z rs n h =
      ap length (column_laid z rs n) ∙ laid-length rs (replicate n z) (rw (length-replicate n z) h) ∙ length-replicate n z

  pub column_row : (z : B) (rs : List R) (n k : ℕ) (r : R) (d : B) → k < length rs → get_or (column enc z rs n) k d ≡ enc (get_or rs k r)
  column_row z rs n k r d h = ap (λ (l : List B). get_or l k d) (column_laid z rs n) ∙ laid-row rs (replicate n z) k r d h

  pub column_past : (z : B) (rs : List R) (n k : ℕ) (d : B) → length rs ≤ k → k < n → get_or (column enc z rs n) k d ≡ z
  column_past z rs n k d h l = ap (λ (c : List B). get_or c k d) (column_laid z rs n) ∙ laid_past rs (replicate n z) k d h ∙ get_or-replicate n k z d l
