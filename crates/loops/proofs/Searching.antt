-- The search: all that it meets is led to, and it ends with a list that is closed.
use Prim.Native.Nat.{ℕ, zero, suc, ◌+◌, ◌≤◌, ◌<◌}
use native.Mathlib.Omega.{arith}
use native.Mathlib.Decide.{ℕ_discrete}
use mathlib.Core.Path.{◌≡◌, refl, sym, ap, subst, ◌∙◌}
use mathlib.Core.Bool.{Bool, true, false, ◌||◌}
use mathlib.Core.List.{List, [], ◌∷◌, ◌++◌}
use mathlib.Core.Logic.{◌⊎◌, inl, inr}
use borrow.Author.Tests.{eqb-true, eq-eqb}
use lib.Dec.{eqb}
use lib.ListN.{length, length-append}
use Rattle.laws.specs.Lists.{some?, flat, from}
use Rattle.laws.proofs.Bools.{both_ways, not-passed, or_true_right}
use Rattle.laws.proofs.Every.{some_append}
use Rattle.loops.specs.Loop.{met, searched}

abbrev pub Has : ℕ → List ℕ → Bool
Has i l = some? (eqb i) l

pub or_cases : (s t : Bool) → s || t ≡ true → (s ≡ true) ⊎ (t ≡ true)
or_cases true t e = inl refl
or_cases false t e = inr e

pub or_left : (s t : Bool) → s ≡ true → s || t ≡ true
or_left s t e = ap (λ (x : Bool). x || t) e

pub or_right : (s t : Bool) → t ≡ true → s || t ≡ true
or_right s t e = ap (λ (x : Bool). s || x) e ∙ or_true_right s

pub has_head : (i : ℕ) (l : List ℕ) → Has i (i ∷ l) ≡ true
has_head i l = or_left (eqb i i) (Has i l) (eq-eqb i i refl)

pub has_cons : (j i : ℕ) (l : List ℕ) → Has j (i ∷ l) ≡ true → (j ≡ i) ⊎ (Has j l ≡ true)
has_cons j i l h = by (or_cases (eqb j i) (Has j l) h)
  where
    by : (eqb j i ≡ true) ⊎ (Has j l ≡ true) → (j ≡ i) ⊎ (Has j l ≡ true)
    by (inl e) = inl (eqb-true j i e)
    by (inr e) = inr e

pub has_append : (j : ℕ) (xs ys : List ℕ) → Has j (xs ++ ys) ≡ true → (Has j xs ≡ true) ⊎ (Has j ys ≡ true)
has_append j xs ys h = or_cases (Has j xs) (Has j ys) (sym (some_append (eqb j) xs ys) ∙ h)

pub append_left : (j : ℕ) (xs ys : List ℕ) → Has j xs ≡ true → Has j (xs ++ ys) ≡ true
append_left j xs ys h = some_append (eqb j) xs ys ∙ or_left (Has j xs) (Has j ys) h

pub append_right : (j : ℕ) (xs ys : List ℕ) → Has j ys ≡ true → Has j (xs ++ ys) ≡ true
append_right j xs ys h = some_append (eqb j) xs ys ∙ or_right (Has j xs) (Has j ys) h

module _ (next : ℕ → List ℕ) where
  -- ---- what the first ones have and hand on, all have

  pub met_all : (P : ℕ → Type 0) → ((i j : ℕ) → P i → Has j (next i) ≡ true → P j) → (n : ℕ) (seen todo : List ℕ)
      → ((j : ℕ) → Has j seen ≡ true → P j) → ((j : ℕ) → Has j todo ≡ true → P j) → (j : ℕ) → Has j (met next n seen todo) ≡ true → P j
  unfolding met
  met_all P hand zero seen todo s t j h = s j h
  met_all P hand (suc n) seen [] s t j h = s j h
  met_all P hand (suc n) seen (i ∷ todo) s t j h =
      by (Has i seen) (met_all P hand n seen todo s (λ k g. t k (or_right (eqb k i) (Has k todo) g)) j) (met_all P hand n (i ∷ seen) (next i ++ todo) seen' todo' j) h
    where
      seen' : (k : ℕ) → Has k (i ∷ seen) ≡ true → P k
      seen' k g = elim (has_cons k i seen g) [ inl e ↦ subst P (sym e) (t i (has_head i todo)) | inr e ↦ s k e ]

      todo' : (k : ℕ) → Has k (next i ++ todo) ≡ true → P k
      todo' k g = elim (has_append k (next i) todo g) [ inl e ↦ hand i k (t i (has_head i todo)) e | inr e ↦ t k (or_right (eqb k i) (Has k todo) e) ]

      by : (b : Bool) → (Has j (met next n seen todo) ≡ true → P j) → (Has j (met next n (i ∷ seen) (next i ++ todo)) ≡ true → P j)
          → Has j (elim b [ true ↦ met next n seen todo | false ↦ met next n (i ∷ seen) (next i ++ todo) ]) ≡ true → P j
      by true p q = p
      by false p q = q

  -- ---- the looks that are left are enough

  abbrev unless : Bool → ℕ → ℕ
  unless true n = 0
  unless false n = n

  -- of the rows not met yet, how many next ones there are
  abbrev rest : List ℕ → List ℕ → ℕ
  rest seen [] = 0
  rest seen (i ∷ l) = unless (Has i seen) (length (next i)) + rest seen l

  rest_same : (seen : List ℕ) (i a n : ℕ) → i < a → rest (i ∷ seen) (from a n) ≡ rest seen (from a n)
  rest_same seen i a zero h = refl
  rest_same seen i a (suc n) h =
      let other : eqb a i ≡ false = not-passed (eqb a i) (λ e. let q = eqb-true a i e in absurd (omega (arith, q, h))) in
      ap (λ (t : Bool). unless (t || Has a seen) (length (next a)) + rest (i ∷ seen) (from (suc a) n)) other
      ∙ ap (λ (m : ℕ). unless (Has a seen) (length (next a)) + m) (rest_same seen i (suc a) n (omega (arith, h)))

  rest_fewer : (seen : List ℕ) (i a n : ℕ) → a ≤ i → i < a + n → Has i seen ≡ false → rest (i ∷ seen) (from a n) + length (next i) ≡ rest seen (from a n)
  rest_fewer seen i a zero l h e = absurd (omega (arith, l, h))
  rest_fewer seen i a (suc n) l h e = elim (ℕ_discrete i a) [
    | yes p ↦ here p
    | no p ↦ later p (rest_fewer seen i (suc a) n (omega (arith, l, p)) (omega (arith, h)) e)
  ]
    where
      here : i ≡ a → rest (i ∷ seen) (from a (suc n)) + length (next i) ≡ rest seen (from a (suc n))
      here p =
          let head : Has a (i ∷ seen) ≡ true = or_left (eqb a i) (Has a seen) (eq-eqb a i (sym p)) in
          let tail = rest_same seen i (suc a) n (omega (arith, p)) in
          let none_there : Has a seen ≡ false = ap (λ (x : ℕ). Has x seen) (sym p) ∙ e in
          let long : length (next i) ≡ length (next a) = ap (λ (x : ℕ). length (next x)) p in
          ap (λ (t : Bool). unless t (length (next a)) + rest (i ∷ seen) (from (suc a) n) + length (next i)) head
          ∙ omega (arith, tail, long) ∙ ap (λ (t : Bool). unless t (length (next a)) + rest seen (from (suc a) n)) (sym none_there)

      later : (i ≡ a → ⊥) → rest (i ∷ seen) (from (suc a) n) + length (next i) ≡ rest seen (from (suc a) n) → rest (i ∷ seen) (from a (suc n)) + length (next i) ≡ rest seen (from a (suc n))
      later p q =
          let other : eqb a i ≡ false = not-passed (eqb a i) (λ t. p (sym (eqb-true a i t))) in
          ap (λ (t : Bool). unless (t || Has a seen) (length (next a)) + rest (i ∷ seen) (from (suc a) n) + length (next i)) other
          ∙ omega (arith, q)

  rest_all : (l : List ℕ) → rest [] l ≡ length (flat next l)
  rest_all [] = refl
  rest_all (i ∷ l) = ap (λ (m : ℕ). length (next i) + m) (rest_all l) ∙ sym (length-append (next i) (flat next l))

  -- ---- the list that it ends with

  pub record Ends (seen todo m : List ℕ) : Type 0 where
    pub keeps : (j : ℕ) → Has j seen ≡ true → Has j m ≡ true
    pub takes : (j : ℕ) → Has j todo ≡ true → Has j m ≡ true
    pub closed : (i j : ℕ) → Has i m ≡ true → Has j (next i) ≡ true → Has j m ≡ true

  module _ (rows : ℕ) (inside : (i j : ℕ) → Has j (next i) ≡ true → j < rows) where
    abbrev Waits : List ℕ → List ℕ → Type 0
    Waits seen todo = (i j : ℕ) → Has i seen ≡ true → Has j (next i) ≡ true → (Has j seen ≡ true) ⊎ (Has j todo ≡ true)

    nothing_left : (seen : List ℕ) → Waits seen [] → Ends seen [] seen
    nothing_left seen h = record { keeps = λ j g. g; takes = λ j g. both_ways g refl; closed = λ i j g k. elim (h i j g k) [ inl e ↦ e | inr e ↦ both_ways e refl ] }

    pub met_ends : (n : ℕ) (seen todo : List ℕ) → length todo + rest seen (from 0 rows) ≤ n → ((j : ℕ) → Has j todo ≡ true → j < rows) → Waits seen todo → Ends seen todo (met next n seen todo)
    unfolding met
    met_ends zero seen [] l b h = nothing_left seen h
    met_ends zero seen (i ∷ todo) l b h = absurd (omega (arith, l))
    met_ends (suc n) seen [] l b h = nothing_left seen h
    met_ends (suc n) seen (i ∷ todo) l b h =
        by (Has i seen) refl (λ p. met_ends n seen todo (omega (arith, l)) below (waits_seen p)) (λ p. met_ends n (i ∷ seen) (next i ++ todo) (fits p) below' (waits_new p))
      where
        below : (j : ℕ) → Has j todo ≡ true → j < rows
        below j g = b j (or_right (eqb j i) (Has j todo) g)

        below' : (j : ℕ) → Has j (next i ++ todo) ≡ true → j < rows
        below' j g = elim (has_append j (next i) todo g) [ inl e ↦ inside i j e | inr e ↦ below j e ]

        waits_seen : Has i seen ≡ true → Waits seen todo
        waits_seen p k j g e = elim (h k j g e) [
          | inl q ↦ inl q
          | inr q ↦ elim (has_cons j i todo q) [ inl r ↦ inl (ap (λ (x : ℕ). Has x seen) r ∙ p) | inr r ↦ inr r ]
        ]

        waits_new : Has i seen ≡ false → Waits (i ∷ seen) (next i ++ todo)
        waits_new p k j g e = elim (has_cons k i seen g) [
          | inl q ↦ inr (append_left j (next i) todo (subst (λ (x : ℕ). Has j (next x) ≡ true) q e))
          | inr q ↦ elim (h k j q e) [
            | inl r ↦ inl (or_right (eqb j i) (Has j seen) r)
            | inr r ↦ elim (has_cons j i todo r) [ inl u ↦ inl (or_left (eqb j i) (Has j seen) (eq-eqb j i u)) | inr u ↦ inr (append_right j (next i) todo u) ]
          ]
        ]

        fits : Has i seen ≡ false → length (next i ++ todo) + rest (i ∷ seen) (from 0 rows) ≤ n
        fits p = omega (arith, l, length-append (next i) todo, rest_fewer seen i 0 rows (omega arith) (omega (arith, b i (has_head i todo))) p)

        by : (t : Bool) → Has i seen ≡ t → (Has i seen ≡ true → Ends seen todo (met next n seen todo)) → (Has i seen ≡ false → Ends (i ∷ seen) (next i ++ todo) (met next n (i ∷ seen) (next i ++ todo)))
            → Ends seen (i ∷ todo) (elim t [ true ↦ met next n seen todo | false ↦ met next n (i ∷ seen) (next i ++ todo) ])
        by true p f g =
            let r = f p in
            record { keeps = r.keeps; takes = λ j e. elim (has_cons j i todo e) [ inl q ↦ r.keeps j (ap (λ (x : ℕ). Has x seen) q ∙ p) | inr q ↦ r.takes j q ]; closed = r.closed }
        by false p f g =
            let r = g p in
            record {
              keeps = λ j e. r.keeps j (or_right (eqb j i) (Has j seen) e);
              takes = λ j e. elim (has_cons j i todo e) [ inl q ↦ r.keeps j (or_left (eqb j i) (Has j seen) (eq-eqb j i q)) | inr q ↦ r.takes j (append_right j (next i) todo q) ];
              closed = r.closed;
            }

    pub searched_ends : (todo : List ℕ) → ((j : ℕ) → Has j todo ≡ true → j < rows) → Ends [] todo (searched next rows todo)
    unfolding searched
    searched_ends todo b = met_ends _ [] todo (omega (arith, rest_all (from 0 rows))) b (λ i j g e. both_ways g refl)
