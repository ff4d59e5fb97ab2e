-- Laws of the highest state, and of the loops over a type's effects.
use Rattle.std.specs.Prelude.{Option, Some, None}
use Rattle.std.specs.List.{list_any, range_with_len}
use Rattle.laws.specs.Options.{option_of}
use Prim.Native.Nat.{ℕ, zero, suc, ◌+◌, ◌-◌, ◌<◌, ◌≤◌, max}
use native.Mathlib.Omega.{arith}
use mathlib.Core.Path.{◌≡◌, refl, sym, ap, ap₂, ◌∙◌}
use mathlib.Core.Bool.{Bool, true, false, not, ◌||◌, cond}
use mathlib.Core.List.{List, [], ◌∷◌, ◌++◌, map, append-nil}
use lib.ListN.{length, get_or, length-append, length-map, get_or-append}
use lib.Seq.{get_or-append-add}
use Rattle.laws.specs.Lists.{put, keep, some?, span}
use Rattle.laws.proofs.Keep.{keep_append}
use Rattle.laws.proofs.Maps.{same_default, map_append, map_at, map-map}
use Rattle.laws.proofs.Spans.{span_left, span_end, span_all, span_at, span_length}
use Rattle.rules.specs.States.{highest, raised_by, raised_to}
use Rattle.rules.specs.Ids.{OptionalId}
use Rattle.rules.specs.Sheet.{Book}
use Rattle.rules.specs.Info.{get_dogma_effect, get_dogma_effects}
use Rattle.rules.specs.Item.{mutated, effects_of}
use Rattle.rules.specs.declared.Item.{Item}
use Rattle.rules.specs.declared.TypeDogmaEffect.{TypeDogmaEffect}
use Rattle.rules.specs.declared.DogmaEffect.{DogmaEffect}
use Rattle.info.specs.LookUps.{Stretch}
use lib.IntN.{ℤ}
use mir.Syntax.{w32}
use mir.Val.{SFits, to_z, of_z}
use mir.ValLaws.{to_z-of_z}
use Rattle.rules.specs.Codes.{category_at}
use Rattle.states.specs.Raised.{among, reach_on, base_effects_of, Turn, turn, turns_of, reached_of}

-- a test of the elements at n places from a on
pub any-span : {A : Type 0} (p : A → Bool) (xs : List A) (d : A) (a n : ℕ) → a + n ≤ length xs → list_any (λ i. p (get_or xs i d)) (range_with_len a n) ≡ some? p (span a n xs)
any-span p xs d a zero h =
    let none : a - a ≡ 0 = omega arith in
    sym (ap (some? p) (rw none at (span_end a a xs (omega arith))))
any-span p xs d a (suc n) h =
    let left : a + suc n - a ≡ suc n = omega arith in
    let rest : a + suc n - (a + 1) ≡ n = omega arith in
    let here = rw (left, rest) at (span_left a (a + suc n) xs d (omega arith) (omega arith)) in
    rw here (ap (λ (t : Bool). p (get_or xs a d) || t) (any-span p xs d (a + 1) n (omega arith)))

-- element i is x, where i is one of the places up to e
module _ {A : Type 0} (ts : List A) (i e : ℕ) (x : A) (n : (d : A) → x ≡ get_or ts i d) (l : i < e) (h : i < length ts) where
  pub span_here : span i (e - i) ts ≡ x ∷ span (i + 1) (e - (i + 1)) ts
  span_here = span_left i e ts x l h ∙ ap (λ (y : A). y ∷ span (i + 1) (e - (i + 1)) ts) (sym (n x))

  -- g raises by each that passes
  module _ (g : A → ℕ) (p : A → Bool) {whole : ℕ} (top : ℕ) (w : whole ≡ highest top (map g (keep p (span i (e - i) ts)))) where
    next : whole ≡ highest top (map g (put (p x) x (keep p (span (i + 1) (e - (i + 1)) ts))))
    next = w ∙ ap (λ (q : List A). highest top (map g (keep p q))) span_here

    pub raise_over : p x ≡ false → whole ≡ highest top (map g (keep p (span (i + 1) (e - (i + 1)) ts)))
    raise_over q = next ∙ ap (λ (t : Bool). highest top (map g (put t x (keep p (span (i + 1) (e - (i + 1)) ts))))) q

    pub raise_by : (higher : ℕ) → p x ≡ true → higher ≡ max top (g x) → whole ≡ highest higher (map g (keep p (span (i + 1) (e - (i + 1)) ts)))
    raise_by higher q m =
        next ∙ ap (λ (t : Bool). highest top (map g (put t x (keep p (span (i + 1) (e - (i + 1)) ts))))) q
        ∙ ap (λ (s : ℕ). highest s (map g (keep p (span (i + 1) (e - (i + 1)) ts)))) (sym m)

-- and at the end
module _ {A : Type 0} (ts : List A) (i e : ℕ) (h : e ≤ i) where
  pub raise_end : (g : A → ℕ) (p : A → Bool) {whole : ℕ} (top : ℕ) → whole ≡ highest top (map g (keep p (span i (e - i) ts))) → top ≡ whole
  raise_end g p top w = sym (w ∙ ap (λ (l : List A). highest top (map g (keep p l))) (span_end i e ts h))

-- ---- all effects of an object

abbrev pub is_meant : Turn → Bool
is_meant x = not x.over

abbrev pub effect_of : Turn → TypeDogmaEffect
effect_of x = x.effect

put_effect : (b c : Bool) (t : TypeDogmaEffect) (l : List Turn) → map effect_of (put b (turn t c) l) ≡ put b t (map effect_of l)
put_effect true c t l = refl
put_effect false c t l = refl

own_meant : (l : List TypeDogmaEffect) → map effect_of (keep is_meant (map (λ t. turn t false) l)) ≡ l
own_meant [] = refl
own_meant (t ∷ l) = ap (λ (r : List TypeDogmaEffect). t ∷ r) (own_meant l)

base_meant : (own l : List TypeDogmaEffect) → map effect_of (keep is_meant (map (λ t. turn t (among own t)) l)) ≡ keep (λ t. not (among own t)) l
base_meant own [] = refl
base_meant own (t ∷ l) =
    put_effect (not (among own t)) (among own t) t (keep is_meant (map (λ t. turn t (among own t)) l))
    ∙ ap (put (not (among own t)) t) (base_meant own l)

-- those that are not passed over
turns_meant : (own base : List TypeDogmaEffect) → map effect_of (keep is_meant (turns_of own base)) ≡ own ++ keep (λ t. not (among own t)) base
turns_meant own base =
    ap (map effect_of) (keep_append is_meant (map (λ t. turn t false) own) (map (λ t. turn t (among own t)) base))
    ∙ map_append effect_of (keep is_meant (map (λ t. turn t false) own)) (keep is_meant (map (λ t. turn t (among own t)) base))
    ∙ ap₂ (λ (a b : List TypeDogmaEffect). a ++ b) (own_meant own) (base_meant own base)

module _ (k : Book) (o : Item) {own base : List TypeDogmaEffect} (p : get_dogma_effects k o.type_id ≡ own) (q : cond (mutated o) (get_dogma_effects k o.mutation_base) [] ≡ base) where
  by_mutation : (b : Bool) → mutated o ≡ b → cond b (get_dogma_effects k o.mutation_base) [] ≡ base → own ++ keep (λ t. not (among own t)) base ≡ effects_of k o
  unfolding effects_of
  by_mutation true h g = rw (h, ← g, ← p) refl
  by_mutation false h g = rw (h, ← g, ← p) (append-nil _)

  -- they are the object's effects
  pub turns_are : map effect_of (keep is_meant (turns_of own base)) ≡ effects_of k o
  turns_are = turns_meant own base ∙ by_mutation (mutated o) refl q

  pub reached_start : (total : ℕ) → total ≡ length (turns_of own base) → reached_of k o ≡ highest o.max_state (map (λ x. reach_on k o x.effect) (keep is_meant (span 0 (total - 0) (turns_of own base))))
  unfolding reached_of
  reached_start total n =
      let whole : total - 0 ≡ length (turns_of own base) = omega arith in
      ap (λ (l : List TypeDogmaEffect). highest o.max_state (map (reach_on k o) l)) (sym turns_are)
      ∙ ap (highest o.max_state) (map-map (reach_on k o) effect_of (keep is_meant (turns_of own base)))
      ∙ ap (λ (l : List Turn). highest o.max_state (map (λ x. reach_on k o x.effect) (keep is_meant l))) (sym (ap (λ (m : ℕ). span 0 m (turns_of own base)) whole ∙ span_all (turns_of own base)))

-- effect i of them, where m stand from a on and n from b on
module _ (ts : List TypeDogmaEffect) (a m b n : ℕ) (h : a + m ≤ length ts) (g : b + n ≤ length ts) where
  abbrev owned : List TypeDogmaEffect
  owned = span a m ts

  abbrev based : List TypeDogmaEffect
  based = span b n ts

  pub turns_length : length (turns_of owned based) ≡ m + n
  turns_length =
      length-append (map (λ t. turn t false) owned) (map (λ t. turn t (among owned t)) based)
      ∙ ap₂ (λ (x y : ℕ). x + y) (length-map owned (λ t. turn t false) ∙ span_length a m ts h) (length-map based (λ t. turn t (among owned t)) ∙ span_length b n ts g)

  module _ (i : ℕ) (d : Turn) (x : TypeDogmaEffect) where
    pub turn_own : i < m → ((e : TypeDogmaEffect) → x ≡ get_or ts (a + i) e) → turn x false ≡ get_or (turns_of owned based) i d
    turn_own l e =
        ap (λ (t : TypeDogmaEffect). turn t false) (e x ∙ sym (span_at a m ts i x l))
        ∙ sym (map_at (λ t. turn t false) owned i x d (omega (arith, span_length a m ts h)))
        ∙ sym (get_or-append (map (λ t. turn t false) owned) (map (λ t. turn t (among owned t)) based) d i (omega (arith, length-map owned (λ t. turn t false), span_length a m ts h)))

    pub turn_base : m ≤ i → i < m + n → ((e : TypeDogmaEffect) → x ≡ get_or ts (b + (i - m)) e) → turn x (among owned x) ≡ get_or (turns_of owned based) i d
    turn_base l r e =
        let there : length (map (λ t. turn t false) owned) + (i - m) ≡ i = omega (arith, length-map owned (λ t. turn t false), span_length a m ts h) in
        ap (λ (t : TypeDogmaEffect). turn t (among owned t)) (e x ∙ sym (span_at b n ts (i - m) x (omega arith)))
        ∙ sym (map_at (λ t. turn t (among owned t)) based (i - m) x d (omega (arith, span_length b n ts g)))
        ∙ sym (get_or-append-add (map (λ t. turn t false) owned) (map (λ t. turn t (among owned t)) based) (i - m) d)
        ∙ ap (λ (j : ℕ). get_or (turns_of owned based) j d) there

  -- whether it is passed over
  module _ (i : ℕ) (d : Turn) where
    pub over_own : i < m → false ≡ (get_or (turns_of owned based) i d).over
    over_own l = ap (λ (x : Turn). x.over) (turn_own i d (get_or ts (a + i) d.effect) l (λ e. same_default ts (a + i) d.effect e (omega arith)))

    pub over_base : (t : TypeDogmaEffect) → m ≤ i → i < m + n → t ≡ (get_or (turns_of owned based) i d).effect → among owned t ≡ (get_or (turns_of owned based) i d).over
    over_base t l r e =
        let it = turn_base i d (get_or ts (b + (i - m)) d.effect) l r (λ e. same_default ts (b + (i - m)) d.effect e (omega arith)) in
        ap (among owned) (e ∙ sym (ap effect_of it)) ∙ ap (λ (x : Turn). x.over) it

-- both of a turn's parts
pub turn_is : {t : TypeDogmaEffect} {b : Bool} (xs : List Turn) (i : ℕ) → ((d : Turn) → t ≡ (get_or xs i d).effect) → ((d : Turn) → b ≡ (get_or xs i d).over) → (d : Turn) → turn t b ≡ get_or xs i d
turn_is xs i p q d = λ j. record { effect = p d j; over = q d j }

-- a base's effects, as they were looked up
pub base_of_lem : (k : Book) (o : Item) (b : OptionalId) {first count : ℕ} → b ≡ cond (mutated o) (Some o.mutation_base) None → Stretch (base_effects_of k b) k.type_effects first count → cond (mutated o) (get_dogma_effects k o.mutation_base) [] ≡ span first count k.type_effects
base_of_lem k o b e r = by (mutated o) ∙ ap (base_effects_of k) (sym e) ∙ r.is
  where
    by : (m : Bool) → cond m (get_dogma_effects k o.mutation_base) [] ≡ base_effects_of k (cond m (Some o.mutation_base) None)
    by true = refl
    by false = refl

-- a type's effects, as they were looked up
pub run_of : (k : Book) (a : ℤ) {first count : ℕ} → SFits w32 a → Stretch (get_dogma_effects k (to_z w32 (of_z w32 a))) k.type_effects first count → get_dogma_effects k a ≡ span first count k.type_effects
run_of k a s r = ap (get_dogma_effects k) (sym (to_z-of_z w32 a s)) ∙ r.is

-- ---- one effect, found or missing

module _ (k : Book) (o : Item) (t : TypeDogmaEffect) (f : Option DogmaEffect) (s : SFits w32 t.effect_id) (e : option_of f ≡ get_dogma_effect k (to_z w32 (of_z w32 t.effect_id))) where
  looked_up : option_of f ≡ get_dogma_effect k t.effect_id
  looked_up = e ∙ ap (get_dogma_effect k) (to_z-of_z w32 t.effect_id s)

  pub reach_found : (x : DogmaEffect) {r : ℕ} → f ≡ Some x → r ≡ raised_to o (category_at x.category) → r ≡ reach_on k o t
  reach_found x a h = h ∙ ap (raised_by o) (ap option_of (sym a) ∙ looked_up)

  pub reach-missing : f ≡ None → 0 ≡ reach_on k o t
  reach-missing a = ap (raised_by o) (ap option_of (sym a) ∙ looked_up)
