-- Laws of within: as long as it was, the part that was put in, and what stands outside of it. A part of no elements may stand anywhere.
use Prim.Native.Nat.{ℕ, zero, suc, ◌+◌, ◌-◌, ◌≤◌, ◌<◌, min, suc-le-suc, zero-le}
use native.Mathlib.Nat.{add-zero}
use native.Mathlib.Omega.{arith}
use mathlib.Core.Path.{◌≡◌, refl, sym, ap, subst, ◌∙◌}
use mathlib.Core.List.{List, [], ◌∷◌, ◌++◌}
use mathlib.Core.Logic.{◌⊎◌, inl, inr}
use lib.ListN.{length, take, drop, get_or, length-take, length-drop, length-append, take-append-drop, get_or-append}
use lib.Seq.{length-take-le, get_or-take, get_or-drop, get_or-append-add, drop-drop, ext_get_or}
use Rattle.laws.specs.Lists.{span}
use Rattle.laws.specs.Columns.{within}
use Rattle.laws.proofs.Spans.{span_at, span_between}

module _ {A : Type 0} where
  no_elements : (xs : List A) → length xs ≡ 0 → xs ≡ []
  no_elements [] e = refl
  no_elements (x ∷ xs) e = absurd (omega (arith, e))

  -- nothing in place of nothing
  pub within-nothing : (a : ℕ) (xs c : List A) → length xs ≡ 0 → within a 0 xs c ≡ c
  within-nothing a xs c e =
      ap (λ (l : List A). take a c ++ (l ++ drop (a + 0) c)) (no_elements xs e) ∙ ap (λ (k : ℕ). take a c ++ drop k c) (add-zero a) ∙ take-append-drop a c

  -- a part that was lent and came back, by its end
  pub lent-within : (a e n : ℕ) (ys c : List A) → e ≡ a + n → take a c ++ (ys ++ drop (e - a) (drop a c)) ≡ within a n ys c
  lent-within a e n ys c h =
      ap (λ (l : List A). take a c ++ (ys ++ l)) (drop-drop (e - a) a c ∙ ap (λ (k : ℕ). drop k c) (let s : a + (e - a) ≡ a + n = omega arith in s))

  -- a part of no elements, lent at the front
  pub lent_nothing : (a : ℕ) (ys c : List A) → length ys ≡ 0 → take 0 c ++ (ys ++ drop (0 - 0) (drop 0 c)) ≡ within a 0 ys c
  lent_nothing a ys c e = lent-within 0 0 0 ys c refl ∙ within-nothing 0 ys c e ∙ sym (within-nothing a ys c e)

  -- lengths of the three parts
  length-within : (a n : ℕ) (xs c : List A) → length (within a n xs c) ≡ min a (length c) + (length xs + (length c - (a + n)))
  length-within a n xs c =
      let t = length-append (take a c) (xs ++ drop (a + n) c) in
      let u = length-append xs (drop (a + n) c) in
      let v = length-take a c in
      let w = length-drop (a + n) c in
      omega (arith, t, u, v, w)

  module _ (a n : ℕ) (xs c : List A) where
    -- a part as long as what it is put in place of
    pub within-length : (0 < n → a + n ≤ length c) → length xs ≡ n → length (within a n xs c) ≡ length c
    within-length h e = by n h e (length-within a n xs c)
      where
        by : (m : ℕ) → (0 < m → a + m ≤ length c) → length xs ≡ m → length (within a n xs c) ≡ min a (length c) + (length xs + (length c - (a + m))) → length (within a n xs c) ≡ length c
        by zero g s l = omega (arith, s, l)
        by (suc m) g s l = let b = g (suc-le-suc zero-le) in omega (arith, b, s, l)

    -- and where the whole is as long as it was, the part is
    pub within_long : (0 < n → a + n ≤ length c) → length (within a n xs c) ≡ length c → length xs ≡ n
    within_long h e = by n h (sym (length-within a n xs c) ∙ e)
      where
        by : (m : ℕ) → (0 < m → a + m ≤ length c) → min a (length c) + (length xs + (length c - (a + m))) ≡ length c → length xs ≡ m
        by zero g l = omega (arith, l)
        by (suc m) g l = let b = g (suc-le-suc zero-le) in omega (arith, b, l)

  module _ (a n : ℕ) (xs c : List A) (long : length xs ≡ n) where
    -- an element before the part, and one behind it
    module _ (inside : a + n ≤ length c) where
      front_long : length (take a c) ≡ a
      front_long = length-take-le a c (omega arith)

      pub within-before : (i : ℕ) (d : A) → i < a → get_or (within a n xs c) i d ≡ get_or c i d
      within-before i d h = get_or-append (take a c) (xs ++ drop (a + n) c) d i (omega (arith, front_long)) ∙ get_or-take a c i d h

      pub within-behind : (i : ℕ) (d : A) → a + n ≤ i → get_or (within a n xs c) i d ≡ get_or c i d
      within-behind i d h =
          ap (λ (k : ℕ). get_or (within a n xs c) k d) (let s : i ≡ length (take a c) + (n + (i - (a + n))) = omega (arith, front_long) in s)
          ∙ get_or-append-add (take a c) (xs ++ drop (a + n) c) (n + (i - (a + n))) d
          ∙ ap (λ (k : ℕ). get_or (xs ++ drop (a + n) c) (k + (i - (a + n))) d) (sym long)
          ∙ get_or-append-add xs (drop (a + n) c) (i - (a + n)) d
          ∙ get_or-drop (a + n) c (i - (a + n)) d
          ∙ ap (λ (k : ℕ). get_or c k d) (let s : a + n + (i - (a + n)) ≡ i = omega arith in s)

      -- the part itself
      pub within_part : span a n (within a n xs c) ≡ xs
      within_part =
          ap (λ (k : ℕ). span k n (within a n xs c)) (sym front_long) ∙ ap (λ (k : ℕ). span (length (take a c)) k (within a n xs c)) (sym long)
          ∙ span_between (take a c) xs (drop (a + n) c)

    -- ---- a part of no elements may stand anywhere

    pub within_outside : (0 < n → a + n ≤ length c) → (i : ℕ) (d : A) → (i < a) ⊎ (a + n ≤ i) → get_or (within a n xs c) i d ≡ get_or c i d
    within_outside h i d o = by n refl o
      where
        by : (m : ℕ) → m ≡ n → (i < a) ⊎ (a + n ≤ i) → get_or (within a n xs c) i d ≡ get_or c i d
        by zero e s = ap (λ (k : ℕ). get_or (within a k xs c) i d) (sym e) ∙ ap (λ (l : List A). get_or l i d) (within-nothing a xs c (long ∙ sym e))
        by (suc m) e (inl s) = within-before (h (omega (arith, e))) i d s
        by (suc m) e (inr s) = within-behind (h (omega (arith, e))) i d s

    pub within_span : (0 < n → a + n ≤ length c) → span a n (within a n xs c) ≡ xs
    within_span h = by n refl
      where
        by : (m : ℕ) → m ≡ n → span a n (within a n xs c) ≡ xs
        by zero e = ap (λ (k : ℕ). span a k (within a n xs c)) (sym e) ∙ sym (no_elements xs (long ∙ sym e))
        by (suc m) e = within_part (h (omega (arith, e)))

    -- a span that has no place in common with the part is as it was
    pub within-apart : (0 < n → a + n ≤ length c) → (b m : ℕ) → ((i : ℕ) → b ≤ i → i < b + m → (i < a) ⊎ (a + n ≤ i)) → span b m (within a n xs c) ≡ span b m c
    within-apart h b m apart = by m refl (within a n xs c) (within-length a n xs c h long) (λ i d o. within_outside h i d o)
      where
        by : (k : ℕ) → k ≡ m → (w : List A) → length w ≡ length c → ((i : ℕ) (d : A) → (i < a) ⊎ (a + n ≤ i) → get_or w i d ≡ get_or c i d) → span b m w ≡ span b m c
        by k e [] l f = ap (span b m) (sym (no_elements c (sym l)))
        by k e (x ∷ w) l f =
            ext_get_or x (span b m (x ∷ w)) (span b m c) same_long (λ i j. let s = short i j in span_at b m (x ∷ w) i x s ∙ f (b + i) x (apart (b + i) (omega arith) (omega arith)) ∙ sym (span_at b m c i x s))
          where
            same_long : length (span b m (x ∷ w)) ≡ length (span b m c)
            same_long =
                let t = length-take m (drop b (x ∷ w)) in
                let u = length-take m (drop b c) in
                let p = length-drop b (x ∷ w) in
                let q = length-drop b c in
                omega (arith, t, u, p, q, l)

            short : (i : ℕ) → i < length (span b m (x ∷ w)) → i < m
            short i j = let t = length-take m (drop b (x ∷ w)) in omega (arith, t, j)
