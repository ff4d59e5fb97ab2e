-- The table that the code makes of an admission, by places, is first fit's, by lists.
use Prim.Native.Nat.{ℕ, zero, suc, ◌+◌, ◌-◌, ◌≤◌, ◌<◌, max}
use native.Mathlib.Omega.{arith}
use mathlib.Core.Path.{◌≡◌, refl, sym, ap, ◌∙◌, subst}
use mathlib.Core.Bool.{Bool, true, false}
use mathlib.Core.List.{List, [], ◌∷◌, ◌++◌}
use mathlib.Core.Option.{Option, none, some}
use lib.Dec.{leb, ltb, eqb}
use lib.ListN.{get_or, set, take, drop, length, replicate, take-append-drop}
use lib.Seq.{length-take-le, get_or-take}
use borrow.Author.Tests.{leb-true, leb-false, eqb-true, eqb-false, ltb-true, ltb-false, eq-eqb, ne_eqb, le-leb, lt-leb, le-ltb, lt-ltb}
use Rattle.laws.specs.Lists.{put}
use Rattle.free_table.specs.declared.Stretch.{Stretch}
use Rattle.free_table.specs.Table.{empty, pick}
use Rattle.seats.specs.Seats.{Cut, rest_of, behind, taken, cut_first}
use Rattle.seats.specs.Told.{cut_table}
use Rattle.seats.specs.Plan.{first_from, shut_of}
use Rattle.seats.proofs.Rows.{some_same, none_some}
use Rattle.seats.proofs.Lists.{first_in, first_cons, first-is, shut_first, shut_cons}

-- ---- what is cut, of a list

abbrev either : ℕ → Stretch → List Stretch → Bool → Option Cut
either w s r b = elim b [ true ↦ some (taken w s r) | false ↦ behind s (cut_first w r) ]

pub cut-yes : (w : ℕ) (s : Stretch) (r : List Stretch) → leb w s.length ≡ true → cut_first w (s ∷ r) ≡ some (taken w s r)
cut-yes w s r e = ap (either w s r) e

pub cut_no : (w : ℕ) (s : Stretch) (r : List Stretch) → leb w s.length ≡ false → cut_first w (s ∷ r) ≡ behind s (cut_first w r)
cut_no w s r e = ap (either w s r) e

pub record Found (w : ℕ) (fs : List Stretch) (i : ℕ) : Type 0 where
  pub cut : Cut
  pub is : cut_first w fs ≡ some cut
  pub start : cut.start ≡ (get_or fs i empty).start
  pub count : length cut.rest ≡ pick (eqb (get_or fs i empty).length w) (length fs - 1) (length fs)

here_count : (w : ℕ) (s : Stretch) (r : List Stretch) → w ≤ s.length → length (put (ltb w s.length) (rest_of s w) r) ≡ pick (eqb s.length w) (suc (length r) - 1) (suc (length r))
here_count w s r h = by (ltb w s.length) refl
  where
    by : (b : Bool) → ltb w s.length ≡ b → length (put b (rest_of s w) r) ≡ pick (eqb s.length w) (suc (length r) - 1) (suc (length r))
    by true e = sym (ap (λ (c : Bool). pick c (suc (length r) - 1) (suc (length r))) (ne_eqb s.length w (λ z. let l = ltb-true w s.length e in omega (arith, l, z))))
    by false e =
        (let z : length r ≡ suc (length r) - 1 = omega arith in z)
        ∙ sym (ap (λ (c : Bool). pick c (suc (length r) - 1) (suc (length r))) (eq-eqb s.length w (let l = ltb-false w s.length e in omega (arith, l, h))))

one_more : (b : Bool) (n : ℕ) → 0 < n → suc (pick b (n - 1) n) ≡ pick b (suc n - 1) (suc n)
one_more true n h = omega (arith, h)
one_more false n h = refl

pub found_cut : (w : ℕ) (fs : List Stretch) → first_in w fs < length fs → Found w fs (first_in w fs)
found_cut w [] h = absurd (omega (arith, h))
found_cut w (s ∷ r) h = by (leb w s.length) refl h (λ k. found_cut w r k)
  where
    by : (b : Bool) → leb w s.length ≡ b → pick b 0 (suc (first_in w r)) < suc (length r) → (first_in w r < length r → Found w r (first_in w r)) → Found w (s ∷ r) (pick (leb w s.length) 0 (suc (first_in w r)))
    by true e k f =
        rw e (record { cut = taken w s r; is = cut-yes w s r e; start = refl; count = here_count w s r (leb-true w s.length e) })
    by false e k f =
        let l : first_in w r < length r = omega (arith, k) in
        let d = f l in
        rw e (record {
          cut = record { start = d.cut.start; rest = s ∷ d.cut.rest };
          is = cut_no w s r e ∙ ap (behind s) d.is;
          start = d.start;
          count = ap suc d.count ∙ one_more (eqb (get_or r (first_in w r) empty).length w) (length r) (omega (arith, l));
        })

pub none_cut : (w : ℕ) (fs : List Stretch) → length fs ≤ first_in w fs → cut_first w fs ≡ none
none_cut w [] h = refl
none_cut w (s ∷ r) h = by (leb w s.length) refl h (λ k. none_cut w r k)
  where
    by : (b : Bool) → leb w s.length ≡ b → suc (length r) ≤ pick b 0 (suc (first_in w r)) → (length r ≤ first_in w r → cut_first w r ≡ none) → cut_first w (s ∷ r) ≡ none
    by true e k f = absurd (omega (arith, k))
    by false e k f = cut_no w s r e ∙ ap (behind s) (f (omega (arith, k)))

-- what is left is as many, or one fewer
pub cut_short : (w : ℕ) (fs : List Stretch) (c : Cut) → cut_first w fs ≡ some c → length c.rest ≤ length fs
cut_short w [] c e = none_some e
cut_short w (s ∷ r) c e = by (leb w s.length) refl e (λ d k. cut_short w r d k)
  where
    put_short : (b : Bool) → length (put b (rest_of s w) r) ≤ suc (length r)
    put_short true = omega arith
    put_short false = omega arith

    later : (o : Option Cut) → cut_first w r ≡ o → behind s o ≡ some c → ((d : Cut) → cut_first w r ≡ some d → length d.rest ≤ length r) → length c.rest ≤ suc (length r)
    later none k g f = none_some g
    later (some d) k g f = subst (λ (x : Cut). length x.rest ≤ suc (length r)) (some_same g) (let m = f d k in omega (arith, m))

    by : (b : Bool) → leb w s.length ≡ b → (elim b [ true ↦ some (taken w s r) | false ↦ behind s (cut_first w r) ]) ≡ some c
        → ((d : Cut) → cut_first w r ≡ some d → length d.rest ≤ length r) → length c.rest ≤ suc (length r)
    by true k g f = subst (λ (x : Cut). length x.rest ≤ suc (length r)) (some_same g) (put_short (ltb w s.length))
    by false k g f = later (cut_first w r) refl g f

-- ---- the table

-- at place i
abbrev pub cut_at : List Stretch → ℕ → ℕ → ℕ → List Stretch
cut_at t n w i = pick (leb n i) t (pick (eqb (get_or t i empty).length w) (shut_of t n i) (set t i (rest_of (get_or t i empty) w)))

-- the table where it does not get longer
abbrev shorter : List Stretch → ℕ → Option Cut → List Stretch
shorter t n none = t
shorter t n (some c) = c.rest ++ (replicate (n - length c.rest) empty ++ drop n t)

pull : (s : Stretch) (b : Bool) (x y x' : List Stretch) → x' ≡ s ∷ x → pick b x' (s ∷ y) ≡ s ∷ pick b x y
pull s true x y x' e = e
pull s false x y x' e = refl

cut_cons : (s : Stretch) (t : List Stretch) (n w f : ℕ) → cut_at (s ∷ t) (suc n) w (suc f) ≡ s ∷ cut_at t n w f
cut_cons s t n w f = by (leb n f) refl
  where
    by : (b : Bool) → leb n f ≡ b → cut_at (s ∷ t) (suc n) w (suc f) ≡ s ∷ cut_at t n w f
    by true e = let l = leb-true n f e in rw (le-leb (suc n) (suc f) (omega (arith, l)), e) refl
    by false e =
        let l = leb-false n f e in
        rw (lt-leb (suc n) (suc f) (omega (arith, l)), e)
        (pull s (eqb (get_or t f empty).length w) (shut_of t n f) (set t f (rest_of (get_or t f empty) w)) (shut_of (s ∷ t) (suc n) (suc f)) (shut_cons s t n f l))

cut_lists : (w n : ℕ) (t : List Stretch) → n ≤ length t → cut_at t n w (first_from t w 0 n) ≡ shorter t n (cut_first w (take n t))
cut_lists w zero t h = refl
cut_lists w (suc n) [] h = absurd (omega (arith, h))
cut_lists w (suc n) (s ∷ t) h = by (leb w s.length) refl (cut_lists w n t (omega (arith, h)))
  where
    low : n ≤ length t
    low = omega (arith, h)

    back : (o : Option Cut) → s ∷ shorter t n o ≡ shorter (s ∷ t) (suc n) (behind s o)
    back none = refl
    back (some d) = ap (λ (a : ℕ). s ∷ (d.rest ++ (replicate a empty ++ drop n t))) (let e : n - length d.rest ≡ suc n - suc (length d.rest) = omega arith in e)

    here : (b : Bool) → eqb s.length w ≡ b → w ≤ s.length → pick (eqb s.length w) (shut_of (s ∷ t) (suc n) 0) (rest_of s w ∷ t) ≡ shorter (s ∷ t) (suc n) (some (taken w s (take n t)))
    here true e l =
        let same = eqb-true s.length w e in
        rw (e, le-ltb w s.length (omega (arith, same)))
        (shut_first s t n low ∙ ap (λ (a : ℕ). take n t ++ (replicate a empty ++ drop n t)) (let z : 1 ≡ suc n - length (take n t) = omega (arith, length-take-le n t low) in z))
    here false e l =
        let more : w < s.length = omega (arith, l, eqb-false s.length w e) in
        rw (e, lt-ltb w s.length more)
        (ap (λ (q : List Stretch). rest_of s w ∷ q) (sym (take-append-drop n t)) ∙ ap (λ (a : ℕ). rest_of s w ∷ (take n t ++ (replicate a empty ++ drop n t))) (let z : 0 ≡ suc n - suc (length (take n t)) = omega (arith, length-take-le n t low) in z))

    by : (b : Bool) → leb w s.length ≡ b → cut_at t n w (first_from t w 0 n) ≡ shorter t n (cut_first w (take n t))
        → cut_at (s ∷ t) (suc n) w (pick (leb w s.length) 0 (first_from (s ∷ t) w 1 n)) ≡ shorter (s ∷ t) (suc n) (either w s (take n t) (leb w s.length))
    by true e f = rw (e, lt-leb (suc n) 0 (omega arith)) (here (eqb s.length w) refl (leb-true w s.length e))
    by false e f = rw e (ap (cut_at (s ∷ t) (suc n) w) (first_cons s t w 0 n) ∙ cut_cons s t n w (first_from t w 0 n) ∙ ap (λ (l : List Stretch). s ∷ l) f ∙ back (cut_first w (take n t)))

as_tabled : (t : List Stretch) (n : ℕ) (o : Option Cut) → ((c : Cut) → o ≡ some c → length c.rest ≤ n) → shorter t n o ≡ cut_table t n o
unfolding cut_table
as_tabled t n none f = refl
as_tabled t n (some c) f =
    ap (λ (k : ℕ). c.rest ++ (replicate (n - length c.rest) empty ++ drop k t)) (let z : n ≡ max n (length c.rest) = (let m = f c refl in omega (arith, m)) in z)

module _ (t : List Stretch) (n w : ℕ) (h : n ≤ length t) where
  cut-is : cut_at t n w (first_from t w 0 n) ≡ cut_table t n (cut_first w (take n t))
  cut-is = cut_lists w n t h ∙ as_tabled t n (cut_first w (take n t)) (λ c e. let m = cut_short w (take n t) c e in let z = length-take-le n t h in omega (arith, m, z))

  module _ {i : ℕ} (f : i ≡ first_from t w 0 n) where
    cut-at : cut_at t n w i ≡ cut_table t n (cut_first w (take n t))
    cut-at = ap (cut_at t n w) f ∙ cut-is

    pub none_at : n ≤ i → t ≡ cut_table t n (cut_first w (take n t))
    none_at k = (let e : t ≡ cut_at t n w i = rw (le-leb n i k) refl in e) ∙ cut-at

    pub shut_at : i < n → (get_or t i empty).length ≡ w → shut_of t n i ≡ cut_table t n (cut_first w (take n t))
    shut_at k l = (let e : shut_of t n i ≡ cut_at t n w i = rw (lt-leb n i k, eq-eqb (get_or t i empty).length w l) refl in e) ∙ cut-at

    pub rest_at : i < n → ((get_or t i empty).length ≡ w → ⊥) → set t i (rest_of (get_or t i empty) w) ≡ cut_table t n (cut_first w (take n t))
    rest_at k l = (let e : set t i (rest_of (get_or t i empty) w) ≡ cut_at t n w i = rw (lt-leb n i k, ne_eqb (get_or t i empty).length w l) refl in e) ∙ cut-at

    -- the place in the list of those in use
    place : i ≡ first_in w (take n t)
    place = f ∙ first-is w t n h

    pub none_found : n ≤ i → cut_first w (take n t) ≡ none
    none_found k = none_cut w (take n t) (let z = length-take-le n t h in let y = place in omega (arith, z, y, k))

    -- what was found
    pub found_at : i < n → Found w (take n t) i
    found_at k = subst (Found w (take n t)) (sym place) (found_cut w (take n t) (let z = length-take-le n t h in let y = place in omega (arith, z, y, k)))

    pub found_start : (k : i < n) → (found_at k).cut.start ≡ (get_or t i empty).start
    found_start k = (found_at k).start ∙ ap (λ (s : Stretch). s.start) (get_or-take n t i empty k)

    pub found_count : (k : i < n) → length (found_at k).cut.rest ≡ pick (eqb (get_or t i empty).length w) (n - 1) n
    found_count k =
        (found_at k).count ∙ ap (λ (s : Stretch). pick (eqb s.length w) (length (take n t) - 1) (length (take n t))) (get_or-take n t i empty k)
        ∙ ap (λ (m : ℕ). pick (eqb (get_or t i empty).length w) (m - 1) m) (length-take-le n t h)

-- the one that is found is long enough
found_from : (t : List Stretch) (w i m : ℕ) → first_from t w i m < i + m → w ≤ (get_or t (first_from t w i m) empty).length
found_from t w i zero h = absurd (omega (arith, h))
found_from t w i (suc m) h = by (leb w (get_or t i empty).length) refl h (λ k. found_from t w (i + 1) m k)
  where
    by : (b : Bool) → leb w (get_or t i empty).length ≡ b → pick b i (first_from t w (i + 1) m) < i + suc m → (first_from t w (i + 1) m < i + 1 + m → w ≤ (get_or t (first_from t w (i + 1) m) empty).length)
        → w ≤ (get_or t (pick (leb w (get_or t i empty).length) i (first_from t w (i + 1) m)) empty).length
    by true e k f = rw e (leb-true w (get_or t i empty).length e)
    by false e k f = rw e (f (let z : first_from t w (i + 1) m < i + 1 + m = omega (arith, k) in z))

pub long_at : (t : List Stretch) (n w i : ℕ) → i ≡ first_from t w 0 n → i < n → w ≤ (get_or t i empty).length
long_at t n w i f = subst (λ (k : ℕ). k < n → w ≤ (get_or t k empty).length) (sym f) (λ h. found_from t w 0 n (let z : first_from t w 0 n < 0 + n = omega (arith, h) in z))
