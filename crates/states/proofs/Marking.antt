-- Marks of what can raise a max state: the loops that set them, and what no mark says.
use Prim.Native.Nat.{ℕ, zero, suc, ◌+◌, ◌%◌, ◌≤◌, ◌<◌, max, suc-le-suc, zero-le}
use native.Mathlib.Nat.{not-suc-le-zero, eq-or-lt_of_le}
use native.Mathlib.Omega.{arith}
use mathlib.Core.Path.{◌≡◌, refl, sym, ap, subst, ◌∙◌}
use mathlib.Core.Bool.{Bool, true, false}
use mathlib.Core.List.{List, [], ◌∷◌, map}
use mathlib.Core.Logic.{◌⊎◌, inl, inr}
use mathlib.Core.Option.{some}
use lib.IntN.{ℤ}
use lib.ListN.{length, get_or, set, length-set}
use lib.Seq.{get_or-set_same, get_or-set_other}
use mir.Syntax.{w32}
use mir.Val.{SFits, to_z, of_z}
use mir.Facts.{to_z-of_z}
use Rattle.laws.specs.Lists.{eq_z, first, or_else, keep, put}
use Rattle.laws.proofs.Order.{eq_z_true}
use Rattle.rules.specs.Bytes.{bits}
use Rattle.rules.specs.Codes.{category_at}
use Rattle.rules.specs.Info.{get_dogma_effect, get_dogma_effects}
use Rattle.rules.specs.Item.{is_rig, mutated, effects_of}
use Rattle.rules.specs.Sheet.{Book}
use Rattle.rules.specs.States.{raised_to, highest}
use Rattle.rules.specs.declared.DogmaEffect.{DogmaEffect}
use Rattle.rules.specs.declared.Item.{Item}
use Rattle.rules.specs.declared.TypeDogmaEffect.{TypeDogmaEffect}
use Rattle.info.specs.Sound.{Nth}
use Rattle.states.specs.Marked.{Idle, EffectsMarked, TypesMarked}
use Rattle.states.specs.Raised.{reach_on, reached_of}

-- the place of an id's mark, where a callee was given the id's bits
pub mark_place : (a : ℤ) {m n : ℕ} → SFits w32 a → m ≡ of_z w32 (to_z w32 (of_z w32 a)) → n ≡ m % 1024 → n ≡ bits a % 1024
mark_place a f e p = p ∙ ap (λ (i : ℕ). i % 1024) (e ∙ ap (of_z w32) (to_z-of_z f))

-- ---- a loop over records: what of i of them is not marked is fine

module _ {A : Type 0} (slot : A → ℕ) (Fine : A → Type 0) where
  pub record Marking (xs : List A) (c : List ℕ) (i : ℕ) : Type 0 where
    pub long : length c ≡ 1024
    pub sound : (j : ℕ) (x : A) → j < i → Nth xs j x → get_or c (slot x) 0 ≡ 0 → Fine x

  pub marking_none : {xs : List A} {c : List ℕ} → length c ≡ 1024 → Marking xs c 0
  marking_none l = record { long = l; sound = λ j x h. absurd (not-suc-le-zero h) }

  module _ {xs : List A} {c : List ℕ} {i : ℕ} (M : Marking xs c i) (r : A) (is : Nth xs i r) where
    same : (j : ℕ) (x : A) → j ≡ i → Nth xs j x → r ≡ x
    same j x q n = is x ∙ ap (λ (m : ℕ). get_or xs m x) (sym q) ∙ sym (n x)

    -- record i is fine
    pub marking_on : Fine r → Marking xs c (i + 1)
    marking_on g = record { long = M.long; sound = λ j x h. at j x (eq-or-lt_of_le {n = j} {m = i} (omega arith)) }
      where
        at : (j : ℕ) (x : A) → (j ≡ i) ⊎ (j < i) → Nth xs j x → get_or c (slot x) 0 ≡ 0 → Fine x
        at j x (inl q) n u = subst Fine (same j x q n) g
        at j x (inr q) n u = M.sound j x q n u

    -- the mark of record i is set
    pub marking_here : {n : ℕ} → n ≡ slot r → n < 1024 → Marking xs (set c n 1) (i + 1)
    marking_here {n} p few =
        record { long = length-set c n 1 ∙ M.long; sound = λ j x h. at j x (eq-or-lt_of_le {n = j} {m = i} (omega arith)) }
      where
        inside : n < length c
        inside = omega (arith, M.long, few)

        marked : (m : ℕ) → get_or (set c n 1) m 0 ≡ 0 → m ≡ n → ⊥
        marked m u q =
            let one : ◌≡◌ {A = ℕ} 1 0 = sym (get_or-set_same c n 1 0 inside) ∙ ap (λ (k : ℕ). get_or (set c n 1) k 0) (sym q) ∙ u in
            omega (arith, one)

        at : (j : ℕ) (x : A) → (j ≡ i) ⊎ (j < i) → Nth xs j x → get_or (set c n 1) (slot x) 0 ≡ 0 → Fine x
        at j x (inl q) l u = absurd (marked (slot x) u (ap slot (sym (same j x q l)) ∙ sym p))
        at j x (inr q) l u = M.sound j x q l (sym (get_or-set_other c n (slot x) 1 0 (marked (slot x) u)) ∙ u)

-- ---- effects

-- categories 0 and 4 on raise nothing
pub idle_code : (code : ℕ) → (code ≡ 0) ⊎ (4 ≤ code) → (o : Item) → is_rig o ≡ false → raised_to o (category_at code) ≡ 0
idle_code zero h o r = rw r refl
idle_code (suc zero) (inl q) o r = absurd (omega (arith, q))
idle_code (suc zero) (inr q) o r = absurd (omega (arith, q))
idle_code (suc (suc zero)) (inl q) o r = absurd (omega (arith, q))
idle_code (suc (suc zero)) (inr q) o r = absurd (omega (arith, q))
idle_code (suc (suc (suc zero))) (inl q) o r = absurd (omega (arith, q))
idle_code (suc (suc (suc zero))) (inr q) o r = absurd (omega (arith, q))
idle_code (suc (suc (suc (suc zero)))) h o r = rw r refl
idle_code (suc (suc (suc (suc (suc zero))))) h o r = rw r refl
idle_code (suc (suc (suc (suc (suc (suc zero)))))) h o r = rw r refl
idle_code (suc (suc (suc (suc (suc (suc (suc zero))))))) h o r = rw r refl
idle_code (suc (suc (suc (suc (suc (suc (suc (suc n)))))))) h o r = refl

abbrev pub effect_slot : DogmaEffect → ℕ
effect_slot e = bits e.id % 1024

abbrev pub IdleEffect : DogmaEffect → Type 0
IdleEffect e = Idle (some e)

first_idle : (c : List ℕ) (a : ℤ) → get_or c (bits a % 1024) 0 ≡ 0 → (xs : List DogmaEffect)
    → ((j : ℕ) (x : DogmaEffect) → j < length xs → Nth xs j x → get_or c (effect_slot x) 0 ≡ 0 → IdleEffect x) → Idle (first (λ r. eq_z r.id a) xs)
first_idle c a u [] f = λ o r. refl
first_idle c a u (x ∷ xs) f = by (eq_z x.id a) refl (first_idle c a u xs (λ j y h n. f (suc j) y (suc-le-suc h) (λ d. n d)))
  where
    by : (t : Bool) → eq_z x.id a ≡ t → Idle (first (λ r. eq_z r.id a) xs) → Idle (or_else t x (first (λ r. eq_z r.id a) xs))
    by true e h = f zero x (suc-le-suc zero-le) (λ d. refl) (ap (λ (z : ℤ). get_or c (bits z % 1024) 0) (eq_z_true x.id a e) ∙ u)
    by false e h = h

-- all effects are looked at
pub effects_marked : (k : Book) {c : List ℕ} {i n m : ℕ} → Marking effect_slot IdleEffect k.effects c i → n ≤ i → n ≡ m → length k.effects ≡ m → EffectsMarked k c
unfolding get_dogma_effect
effects_marked k {c} M h e l = λ a u. first_idle c a u k.effects (λ j x b. M.sound j x (omega (arith, l)))

-- ---- types

abbrev pub type_slot : TypeDogmaEffect → ℕ
type_slot t = bits t.type_id % 1024

abbrev pub IdleType : Book → TypeDogmaEffect → Type 0
IdleType k t = (o : Item) → is_rig o ≡ false → reach_on k o t ≡ 0

-- an effect that is not marked
pub idle_type : (k : Book) (c : List ℕ) → EffectsMarked k c → (t : TypeDogmaEffect) {n : ℕ} → n ≡ bits t.effect_id % 1024 → get_or c n 0 ≡ 0 → IdleType k t
idle_type k c E t p u = E t.effect_id (ap (λ (i : ℕ). get_or c i 0) (sym p) ∙ u)

none_higher : (m : ℕ) → max m 0 ≡ m
none_higher m = omega arith

kept_idle : (k : Book) (c : List ℕ) (a : ℤ) → get_or c (bits a % 1024) 0 ≡ 0 → (o : Item) → is_rig o ≡ false → (xs : List TypeDogmaEffect)
    → ((j : ℕ) (x : TypeDogmaEffect) → j < length xs → Nth xs j x → get_or c (type_slot x) 0 ≡ 0 → IdleType k x) → (m : ℕ) → highest m (map (reach_on k o) (keep (λ r. eq_z r.type_id a) xs)) ≡ m
kept_idle k c a u o r [] f m = refl
kept_idle k c a u o r (x ∷ xs) f m = by (eq_z x.type_id a) refl (kept_idle k c a u o r xs (λ j y h n. f (suc j) y (suc-le-suc h) (λ d. n d)) m)
  where
    rest : List TypeDogmaEffect
    rest = keep (λ r. eq_z r.type_id a) xs

    by : (t : Bool) → eq_z x.type_id a ≡ t → highest m (map (reach_on k o) rest) ≡ m → highest m (map (reach_on k o) (put t x rest)) ≡ m
    by true e h =
        let idle : reach_on k o x ≡ 0 = f zero x (suc-le-suc zero-le) (λ d. refl) (ap (λ (z : ℤ). get_or c (bits z % 1024) 0) (eq_z_true x.type_id a e) ∙ u) o r in
        ap (λ (n : ℕ). highest n (map (reach_on k o) rest)) (ap (max m) idle ∙ none_higher m) ∙ h
    by false e h = h

-- all types are looked at
pub types_marked : (k : Book) {c : List ℕ} {i n m : ℕ} → Marking type_slot (IdleType k) k.type_effects c i → n ≤ i → n ≡ m → length k.type_effects ≡ m → TypesMarked k c
unfolding get_dogma_effects
types_marked k {c} M h e l = λ a u o r. kept_idle k c a u o r k.type_effects (λ j x b. M.sound j x (omega (arith, l)))

-- ---- an object whose type is not marked

pub settled : (k : Book) (c : List ℕ) → TypesMarked k c → (o : Item) {n : ℕ} → n ≡ bits o.type_id % 1024 → get_or c n 0 ≡ 0 → mutated o ≡ false → is_rig o ≡ false → reached_of k o ≡ o.max_state
unfolding reached_of effects_of
settled k c T o p u m r = rw m (T o.type_id (ap (λ (i : ℕ). get_or c i 0) (sym p) ∙ u) o r o.max_state)
