-- Where no attribute leads back to itself, what an attribute needs can be followed no deeper than there are rows.
use Prim.Native.Nat.{ℕ, zero, suc, ◌+◌, ◌≤◌, ◌<◌, suc-le-suc, zero-le}
use native.Mathlib.Nat.{add-zero}
use native.Mathlib.Omega.{arith}
use mathlib.Core.Path.{◌≡◌, refl, sym, ap, subst, ◌∙◌}
use mathlib.Core.Bool.{Bool, true, false, not, ◌||◌}
use mathlib.Core.List.{List, [], ◌∷◌, map}
use mathlib.Core.Logic.{◌⊎◌, inl, inr}
use mathlib.Core.Option.{Option, none, some}
use borrow.Author.Tests.{eq-eqb}
use lib.Dec.{T}
use lib.ListN.{length, get_or, length-map}
use Rattle.laws.specs.Lists.{some?, put, keep, flat}
use Rattle.laws.proofs.Bools.{both_ways, passed, not-passed, not_failed, and_both, or_true_right}
use Rattle.laws.proofs.Every.{some_append, some_map}
use Rattle.laws.proofs.Keep.{keep_none, keep-length}
use Rattle.laws.proofs.Order.{eq_z_refl}
use Rattle.rules.specs.Dispatch.{Row, Key, same_key}
use Rattle.rules.specs.Value.{World, Found, find_row}
use Rattle.rules.specs.Fresh.{needs_of, needs_at, Leads, last, next}
use Rattle.rules.proofs.Ranked.{same_key_lem}
use Rattle.promises.specs.NoMemory.{key_of, key_at, no_row, Needs, NoLoop}
use Rattle.promises.proofs.NoMemorySteps.{Each}

-- ---- tests and keys

pub holds : (t : Bool) → t ≡ true → T t
holds t e = subst T (sym e) tt

pub key_itself : (a : Key) → same_key a a ≡ true
key_itself a = and_both (eq-eqb a.object a.object refl) (eq_z_refl a.id)

-- a list has a key
abbrev Has : Key → List Key → Bool
Has a l = some? (λ x. same_key x a) l

-- ---- the others of a list

abbrev others : Key → List Key → List Key
others a l = keep (λ x. not (same_key x a)) l

put_short : (t : Bool) (x : Key) (l : List Key) (n : ℕ) → length l < n → length (put t x l) < suc n
put_short true x l n h = suc-le-suc h
put_short false x l n h = omega arith

fewer : (a : Key) (l : List Key) → Has a l ≡ true → length (others a l) < length l
fewer a [] h = both_ways h refl
fewer a (x ∷ l) h = by (same_key x a) h (fewer a l)
  where
    by : (t : Bool) → t || Has a l ≡ true → (Has a l ≡ true → length (others a l) < length l) → length (put (not t) x (others a l)) < suc (length l)
    by true e f = omega (arith, keep-length (λ y. not (same_key y a)) l)
    by false e f = put_short true x (others a l) (length l) (f e)

stays : (a c : Key) (l : List Key) → same_key a c ≡ false → Has c l ≡ true → Has c (others a l) ≡ true
stays a c [] n h = both_ways h refl
stays a c (x ∷ l) n h = by (same_key x a) (same_key x c) refl refl h (stays a c l n)
  where
    by : (s t : Bool) → same_key x a ≡ s → same_key x c ≡ t → t || Has c l ≡ true → (Has c l ≡ true → Has c (others a l) ≡ true) → Has c (put (not s) x (others a l)) ≡ true
    by true true p q e f = both_ways (subst (λ (y : Key). same_key y c ≡ true) (same_key_lem x a p) q) n
    by true false p q e f = f e
    by false true p q e f = rw q refl
    by false false p q e f = rw (f e) (or_true_right (same_key x c))

-- no row passes
find_none : (a : Key) (k : ℕ) (rs : List Row) → some? (λ r. same_key (key_of r) a) rs ≡ false → find_row a.object a.id k rs ≡ none
unfolding find_row
find_none a k [] e = refl
find_none a k (r ∷ rs) e = by (same_key (key_of r) a) e (find_none a (suc k) rs)
  where
    by : (t : Bool) → t || some? (λ r. same_key (key_of r) a) rs ≡ false → (some? (λ r. same_key (key_of r) a) rs ≡ false → find_row a.object a.id (suc k) rs ≡ none)
        → ◌≡◌ {A = Option Found} (elim t [ true ↦ some (record { index = k; row = r }) | false ↦ find_row a.object a.id (suc k) rs ]) none
    by true h f = both_ways refl h
    by false h f = f h

module _ (w : World) where
  -- there is a row of the key
  abbrev Present : Key → Bool
  Present a = some? (λ r. same_key (key_of r) a) w.rows

  -- what needs something has a row
  needs_present : (a b : Key) → Needs w a b → Present a ≡ true
  unfolding needs_at
  needs_present a b h = not_failed (Present a) (λ e. none_left (keep_none (λ r. same_key (key_of r) a) w.rows e))
    where
      none_left : keep (λ r. same_key (key_of r) a) w.rows ≡ [] → ⊥
      none_left e = subst (λ (l : List Row). T (some? (same_key b) (flat (needs_of w.book) l))) e h

  -- ---- what a needs can be followed n deep at most

  abbrev pub Within : ℕ → Key → Type 0
  Within zero a = find_row a.object a.id 0 w.rows ≡ none
  Within (suc n) a = (b : Key) → Needs w a b → Within n b

  module _ (free : NoLoop w) where
    -- of what a leads to, itself among it, every row is on the list
    abbrev Left : Key → List Key → Type 0
    Left a l = (c : Key) → (c ≡ a) ⊎ Leads w a c → Present c ≡ true → Has c l ≡ true

    on_way : (a b c : Key) → Needs w a b → (c ≡ b) ⊎ Leads w b c → Leads w a c
    on_way a b c h (inl e) = last (subst (λ (x : Key). Needs w a x) (sym e) h)
    on_way a b c h (inr l) = next h l

    left_next : (a b : Key) (l : List Key) → Needs w a b → Left a l → Left b (others a l)
    left_next a b l h left c f p =
        let way = on_way a b c h f in
        stays a c l (not-passed (same_key a c) (λ e. free a (subst (Leads w a) (sym (same_key_lem a c e)) way))) (left c (inr way) p)

    within_left : (n : ℕ) (l : List Key) (a : Key) → length l ≤ n → Left a l → Within n a
    within_left zero [] a h left = find_none a 0 w.rows (not-passed (Present a) (λ p. both_ways (left a (inl refl) p) refl))
    within_left zero (x ∷ l) a h left = absurd (omega arith)
    within_left (suc n) l a h left = λ b needed.
        within_left n (others a l) b (omega (arith, fewer a l (left a (inl refl) (needs_present a b needed)))) (left_next a b l needed left)

    pub within_rows : (a : Key) → Within (length w.rows) a
    within_rows a =
        within_left (length w.rows) (map key_of w.rows) a (omega (arith, length-map w.rows key_of)) (λ c f p. some_map (λ x. same_key x c) key_of w.rows ∙ p)

  -- ---- a row that is found

  record Located (a : Key) (k : ℕ) (rs : List Row) (f : Found) : Type 0 where
    at : ℕ
    index : f.index ≡ k + at
    within : at < length rs
    row : f.row ≡ get_or rs at no_row
    is : same_key (key_of f.row) a ≡ true
    kept : (b : Key) → some? (same_key b) (needs_of w.book f.row) ≡ true → some? (same_key b) (flat (needs_of w.book) (keep (λ r. same_key (key_of r) a) rs)) ≡ true

  located : (a : Key) (k : ℕ) (rs : List Row) (f : Found) → find_row a.object a.id k rs ≡ some f → Located a k rs f
  unfolding find_row
  located a k [] f e = let z : ◌≡◌ {A = ℕ} 0 1 = cc in absurd (omega arith)
  located a k (r ∷ rs) f e = by (same_key (key_of r) a) refl e (located a (suc k) rs f)
    where
      by : (t : Bool) → same_key (key_of r) a ≡ t → (elim t [ true ↦ some (record { index = k; row = r }) | false ↦ find_row a.object a.id (suc k) rs ]) ≡ some f
          → (find_row a.object a.id (suc k) rs ≡ some f → Located a (suc k) rs f) → Located a k (r ∷ rs) f
      by true h p rest =
          let same : ◌≡◌ {A = Found} (record { index = k; row = r }) f = cc in
          record {
            at = zero;
            index = sym (ap (λ (g : Found). g.index) same) ∙ sym (add-zero k);
            within = suc-le-suc zero-le;
            row = sym (ap (λ (g : Found). g.row) same);
            is = subst (λ (g : Found). same_key (key_of g.row) a ≡ true) same h;
            kept = λ b m. rw h (some_append (same_key b) (needs_of w.book r) (flat (needs_of w.book) (keep (λ x. same_key (key_of x) a) rs))
                ∙ ap (λ (t : Bool). t || some? (same_key b) (flat (needs_of w.book) (keep (λ x. same_key (key_of x) a) rs))) (subst (λ (g : Found). some? (same_key b) (needs_of w.book g.row) ≡ true) (sym same) m));
          }
      by false h p rest =
          let l = rest p in
          record { at = suc l.at; index = omega (arith, l.index); within = suc-le-suc l.within; row = l.row; is = l.is; kept = λ b m. rw h (l.kept b m) }

  pub record FoundAt (a : Key) (f : Found) : Type 0 where
    pub within : f.index < length w.rows
    pub key : key_at w f.index ≡ a
    pub needed : (b : Key) → T (some? (same_key b) (needs_of w.book f.row)) → Needs w a b

  pub found_at : (a : Key) (f : Found) → find_row a.object a.id 0 w.rows ≡ some f → FoundAt a f
  unfolding needs_at
  found_at a f e =
      let l = located a 0 w.rows f e in
      let here : l.at ≡ f.index = omega (arith, l.index) in
      record {
        within = omega (arith, l.within);
        key = ap (λ (n : ℕ). key_at w n) (sym here) ∙ sym (ap key_of l.row) ∙ same_key_lem (key_of f.row) a l.is;
        needed = λ b h. holds _ (l.kept b (passed _ h));
      }

-- what holds of each member of a list
pub each_of : (P : Key → Type 0) (l : List Key) → ((b : Key) → T (some? (same_key b) l) → P b) → Each P l
each_of P [] h = tt
each_of P (x ∷ l) h = (h x (holds _ (ap (λ (t : Bool). t || some? (same_key x) l) (key_itself x))), each_of P l (λ b m. h b (holds _ (ap (λ (t : Bool). same_key b x || t) (passed _ m) ∙ or_true_right (same_key b x)))))
