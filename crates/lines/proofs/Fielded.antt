-- Fields of a line, by what the digits from a place on are.
use Prim.Native.Nat.{ℕ, zero, suc, ◌+◌, ◌-◌, ◌≤◌, ◌<◌, ◌%◌}
use native.Mathlib.Numerals.{add-one}
use native.Mathlib.Omega.{arith}
use mathlib.Core.Path.{◌≡◌, refl, sym, ap, ◌∙◌}
use mathlib.Core.Bool.{Bool, true, false, ◌&&◌}
use mathlib.Core.List.{List, [], ◌∷◌}
use mathlib.Core.Option.{Option, none, some}
use lib.Dec.{leb, ltb, eqb}
use lib.ListN.{length, drop, length-drop}
use borrow.Author.Tests.{ltb-true, lt-ltb, le-ltb, le-leb, lt-leb, eqb-true, eqb-false, eq-eqb}
use Rattle.laws.proofs.Bools.{same_test, and_false_right}
use Rattle.lines.specs.Fields.{Cut, ◌>>=◌, only, digits, begins, after, natural, negated, id_in, half_in}
use Rattle.lines.specs.Reads.{cut_at}

-- ---- what stands at a place

pub after-drop : (n : ℕ) (xs : List ℕ) → after (drop n xs) ≡ drop (suc n) xs
after-drop zero [] = refl
after-drop zero (x ∷ xs) = refl
after-drop (suc n) [] = refl
after-drop (suc n) (x ∷ xs) = after-drop n xs

after_next : (n : ℕ) (xs : List ℕ) → after (drop n xs) ≡ drop (n + 1) xs
after_next n xs = after-drop n xs ∙ ap (λ (k : ℕ). drop k xs) (sym (add-one n))

-- ---- a natural number

module _ (most at : ℕ) (text : List ℕ) {value next : ℕ} (e : cut_at value next text ≡ digits 10 10 0 (drop at text)) (on : at ≤ next) (inside : next ≤ length text) where
  shorter : ltb (length (drop next text)) (length (drop at text)) ≡ ltb at next
  shorter =
      let a = length (drop next text) in
      let b = length (drop at text) in
      same_test (ltb a b) (ltb at next)
      (λ t. lt-ltb at next (omega (arith, ltb-true a b t, length-drop next text, length-drop at text)))
      (λ t. lt-ltb a b (omega (arith, ltb-true at next t, length-drop next text, length-drop at text)))

  is-natural : natural most (drop at text) ≡ only (ltb at next && (leb value most && begins 32 (drop next text))) (cut_at value (next + 1) text)
  unfolding natural
  is-natural =
      ap (λ (d : Cut). only (ltb (length d.rest) (length (drop at text)) && (leb d.value most && begins 32 d.rest)) (record { value = d.value; rest = after d.rest })) (sym e)
      ∙ ap (λ (t : Bool). only (t && (leb value most && begins 32 (drop next text))) (record { value = value; rest = after (drop next text) })) shorter
      ∙ ap (λ (xs : List ℕ). only (ltb at next && (leb value most && begins 32 (drop next text))) (record { value = value; rest = xs })) (after_next next text)

  by_tests : (t₁ t₂ t₃ : Bool) → ltb at next ≡ t₁ → leb value most ≡ t₂ → begins 32 (drop next text) ≡ t₃ → only (t₁ && (t₂ && t₃)) (cut_at value (next + 1) text) ≡ natural most (drop at text)
  by_tests t₁ t₂ t₃ p q r = sym (is-natural ∙ ap (λ (t : Bool). only t (cut_at value (next + 1) text)) (rw (p, q, r) refl))

  pub natural_here : (next ≡ at → ⊥) → value ≤ most → begins 32 (drop next text) ≡ true → some (cut_at value (next + 1) text) ≡ natural most (drop at text)
  natural_here h k = by_tests true true true (lt-ltb at next (omega arith)) (le-leb value most k)

  pub no_digits : next ≡ at → none ≡ natural most (drop at text)
  no_digits h = by_tests false (leb value most) (begins 32 (drop next text)) (le-ltb at next (omega arith)) refl refl

  pub too_large : most < value → none ≡ natural most (drop at text)
  too_large h = ap (λ (t : Bool). only t (cut_at value (next + 1) text)) (sym (and_false_right (ltb at next))) ∙ by_tests (ltb at next) false (begins 32 (drop next text)) refl (lt-leb value most h) refl

  pub no_space : begins 32 (drop next text) ≡ false → none ≡ natural most (drop at text)
  no_space h = ap (λ (t : Bool). only t (cut_at value (next + 1) text)) (sym (ap (λ (t : Bool). ltb at next && t) (and_false_right (leb value most)) ∙ and_false_right (ltb at next))) ∙ by_tests (ltb at next) (leb value most) false refl refl h

-- ---- a signed one

pub is_negated : (v w : ℕ) → (w + v) % 4294967296 ≡ 0 → v < 4294967296 → w < 4294967296 → w ≡ negated v
is_negated v w e h k = by (eqb v 0) refl
  where
    by : (t : Bool) → eqb v 0 ≡ t → w ≡ negated v
    by true q = rw q (omega (arith, eqb-true v 0 q))
    by false q = rw q (omega (arith, eqb-false v 0 q))

negate : Cut → Option Cut
negate c = some (record { value = negated c.value; rest = c.rest })

id-by : List ℕ → Bool → Option Cut
id-by xs true = natural 2147483648 (after xs) >>= negate
id-by xs false = natural 2147483647 xs

is-id : (xs : List ℕ) (t : Bool) → begins 45 xs ≡ t → id_in xs ≡ id-by xs t
unfolding id_in id-by negate
is-id xs t q = by (begins 45 xs) ∙ ap (id-by xs) q
  where
    by : (s : Bool) → ◌≡◌ {A = Option Cut} (elim s [
      | true ↦ (natural 2147483648 (after xs) >>= λ c. some (record { value = negated c.value; rest = c.rest }))
      | false ↦ natural 2147483647 xs
    ]) (id-by xs s)
    by true = refl
    by false = refl

module _ (at : ℕ) (text : List ℕ) where
  minus : true ≡ begins 45 (drop at text) → natural 2147483648 (drop (at + 1) text) >>= negate ≡ id_in (drop at text)
  unfolding id-by
  minus t = sym (is-id (drop at text) true (sym t) ∙ ap (λ (xs : List ℕ). natural 2147483648 xs >>= negate) (after_next at text))

  pub id-none : true ≡ begins 45 (drop at text) → none ≡ natural 2147483648 (drop (at + 1) text) → none ≡ id_in (drop at text)
  id-none t e = ap (λ (o : Option Cut). o >>= negate) e ∙ minus t

  pub id-minus : (v w next : ℕ) → true ≡ begins 45 (drop at text) → w ≡ negated v → some (cut_at v next text) ≡ natural 2147483648 (drop (at + 1) text) → some (cut_at w next text) ≡ id_in (drop at text)
  unfolding negate
  id-minus v w next t n e = ap (λ (k : ℕ). some (cut_at k next text)) n ∙ ap (λ (o : Option Cut). o >>= negate) e ∙ minus t

  pub id-plain : false ≡ begins 45 (drop at text) → natural 2147483647 (drop at text) ≡ id_in (drop at text)
  unfolding id-by
  id-plain t = sym (is-id (drop at text) false (sym t))

-- ---- half of a value's bits

module _ (at : ℕ) (text : List ℕ) {value next : ℕ} (e : cut_at value next text ≡ digits 16 8 0 (drop at text)) (on : at ≤ next) (inside : next ≤ length text) where
  eight : eqb (length (drop next text) + 8) (length (drop at text)) ≡ eqb (next - at) 8
  eight =
      let a = length (drop next text) + 8 in
      let b = length (drop at text) in
      same_test (eqb a b) (eqb (next - at) 8)
      (λ t. eq-eqb (next - at) 8 (omega (arith, eqb-true a b t, length-drop next text, length-drop at text)))
      (λ t. eq-eqb a b (omega (arith, eqb-true (next - at) 8 t, length-drop next text, length-drop at text)))

  is_half : half_in (drop at text) ≡ only (eqb (next - at) 8) (cut_at value next text)
  unfolding half_in
  is_half =
      ap (λ (d : Cut). only (eqb (length d.rest + 8) (length (drop at text))) d) (sym e)
      ∙ ap (λ (t : Bool). only t (cut_at value next text)) eight

  pub half_here : eqb (next - at) 8 ≡ true → some (cut_at value next text) ≡ half_in (drop at text)
  half_here t = sym (is_half ∙ ap (λ (b : Bool). only b (cut_at value next text)) t)

  pub half_not : eqb (next - at) 8 ≡ false → none ≡ half_in (drop at text)
  half_not t = sym (is_half ∙ ap (λ (b : Bool). only b (cut_at value next text)) t)
