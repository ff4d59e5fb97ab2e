-- Laws of span: its length and elements, one more, two parts, maps.
use Prim.Native.Nat.{ℕ, suc, ◌+◌, ◌-◌, ◌≤◌, ◌<◌}
use native.Mathlib.Nat.{add-zero}
use native.Mathlib.Numerals.{add-one}
use native.Mathlib.Omega.{arith}
use mathlib.Core.Path.{◌≡◌, sym, ap, ◌∙◌}
use mathlib.Core.List.{List, [], ◌∷◌, ◌++◌, map}
use lib.ListN.{length, take, drop, get_or, length-drop, take-append-drop}
use lib.Seq.{get_or-take, get_or-drop, drop-cons, drop-drop, take-add, take-suc, take-length, drop-append-add, take-append-le, length-take-le}
use Rattle.laws.specs.Lists.{span, from, flat}
use Rattle.laws.proofs.Maps.{map-take, map-drop, map_snoc}
use Rattle.laws.proofs.Flat.{flat_snoc}
use Rattle.laws.proofs.From.{table_at, table-length}
use lib.Seq.{ext_get_or}

module _ {A : Type 0} where
  pub span_length : (f n : ℕ) (xs : List A) → f + n ≤ length xs → length (span f n xs) ≡ n
  span_length f n xs h = length-take-le n (drop f xs) (rw (length-drop f xs) (omega arith))

  pub span_at : (f n : ℕ) (xs : List A) (k : ℕ) (d : A) → k < n → get_or (span f n xs) k d ≡ get_or xs (f + k) d
  span_at f n xs k d h = get_or-take n (drop f xs) k d h ∙ get_or-drop f xs k d

  pub span_all : (xs : List A) → span 0 (length xs) xs ≡ xs
  span_all xs = take-length xs

  -- in two parts
  pub span_append : (f m n : ℕ) (xs : List A) → span f (m + n) xs ≡ span f m xs ++ span (f + m) n xs
  span_append f m n xs = take-add m n (drop f xs) ∙ ap (λ (l : List A). span f m xs ++ take n l) (drop-drop m f xs)

  -- one more behind; one more in front
  pub span_next : (f n : ℕ) (xs : List A) (d : A) → f + n < length xs → span f (n + 1) xs ≡ span f n xs ++ (get_or xs (f + n) d ∷ [])
  span_next f n xs d h =
      ap (λ (k : ℕ). take k (drop f xs)) (add-one n) ∙ take-suc (drop f xs) n d (rw (length-drop f xs) (omega arith))
      ∙ ap (λ (x : A). span f n xs ++ (x ∷ [])) (get_or-drop f xs n d)

  pub span_step : (f n : ℕ) (xs : List A) (d : A) → f < length xs → span f (suc n) xs ≡ get_or xs f d ∷ span (f + 1) n xs
  span_step f n xs d h = ap (take (suc n)) (drop-cons xs f d h) ∙ ap (λ (k : ℕ). get_or xs f d ∷ take n (drop k xs)) (sym (add-one f))

  -- what is left of the places f to e: the next, and the rest
  pub span_left : (f e : ℕ) (xs : List A) (d : A) → f < e → f < length xs → span f (e - f) xs ≡ get_or xs f d ∷ span (f + 1) (e - (f + 1)) xs
  span_left f e xs d l h = ap (λ (k : ℕ). span f k xs) more ∙ span_step f (e - (f + 1)) xs d h
    where
      more : e - f ≡ suc (e - (f + 1))
      more = omega arith

  pub span_end : (f e : ℕ) (xs : List A) → e ≤ f → span f (e - f) xs ≡ []
  span_end f e xs l = ap (λ (k : ℕ). span f k xs) none_left
    where
      none_left : e - f ≡ 0
      none_left = omega arith

  -- before, within, after
  pub span_split : (f n : ℕ) (xs : List A) → xs ≡ take f xs ++ (span f n xs ++ drop (f + n) xs)
  span_split f n xs =
      sym (take-append-drop f xs)
      ∙ ap (λ (l : List A). take f xs ++ l) (sym (take-append-drop n (drop f xs)) ∙ ap (λ (l : List A). span f n xs ++ l) (drop-drop n f xs))

  -- a span is the table of its elements
  pub span_table : (f n : ℕ) (xs : List A) (d : A) → f + n ≤ length xs → span f n xs ≡ map (λ k. get_or xs k d) (from f n)
  span_table f n xs d h =
      ext_get_or d (span f n xs) (map (λ k. get_or xs k d) (from f n)) (span_length f n xs h ∙ sym (table-length (λ k. get_or xs k d) f n))
      (λ k l. both k (rw (span_length f n xs h) at l))
    where
      both : (k : ℕ) → k < n → get_or (span f n xs) k d ≡ get_or (map (λ j. get_or xs j d) (from f n)) k d
      both k l = span_at f n xs k d l ∙ sym (table_at (λ j. get_or xs j d) f n k d l)

  -- the part that was put between two others
  pub span_between : (xs ys zs : List A) → span (length xs) (length ys) (xs ++ (ys ++ zs)) ≡ ys
  span_between xs ys zs =
      ap (λ (k : ℕ). take (length ys) (drop k (xs ++ (ys ++ zs)))) (sym (add-zero (length xs)))
      ∙ ap (take (length ys)) (drop-append-add xs (ys ++ zs) 0) ∙ take-append-le (length ys) ys zs (omega arith) ∙ take-length ys

pub span_map : {A B : Type 0} (g : A → B) (f n : ℕ) (xs : List A) → map g (span f n xs) ≡ span f n (map g xs)
span_map g f n xs = map-take g n (drop f xs) ∙ ap (take n) (map-drop g f xs)

-- one more element of a span
module _ {A B : Type 0} (f n : ℕ) (xs : List A) (d : A) (h : f + n < length xs) where
  pub map_span_next : (g : A → B) → map g (span f (n + 1) xs) ≡ map g (span f n xs) ++ (g (get_or xs (f + n) d) ∷ [])
  map_span_next g = ap (map g) (span_next f n xs d h) ∙ map_snoc g (span f n xs) (get_or xs (f + n) d)

  pub flat_span_next : (g : A → List B) → flat g (span f (n + 1) xs) ≡ flat g (span f n xs) ++ g (get_or xs (f + n) d)
  flat_span_next g = ap (flat g) (span_next f n xs d h) ∙ flat_snoc g (span f n xs) (get_or xs (f + n) d)
