-- Every effect that collection takes comes of a modifier of table 3, for an object and its effect or for a buff.
use Rattle.std.specs.Prelude.{None}
use Prim.Native.Nat.{ℕ, zero, suc, suc-le-suc, zero-le}
use native.Mathlib.Omega.{arith}
use mathlib.Core.Path.{◌≡◌, refl, sym, subst, ◌∙◌}
use mathlib.Core.Bool.{Bool, true, false, ◌||◌, not, cond}
use mathlib.Core.List.{List, [], ◌∷◌, ◌++◌}
use mathlib.Core.Option.{Option, none, some}
use lib.Dec.{leb}
use lib.ListN.{take}
use Rattle.laws.specs.Lists.{eq_z, put, keep, first, or_else, flat, span}
use Rattle.rules.specs.Codes.{category_at}
use Rattle.rules.specs.Bytes.{record_at}
use Rattle.rules.specs.Sheet.{Book, Fit, table, book_of, fit_of, effect_from, modifier_from, buff_from}
use Rattle.rules.proofs.Tables.{table_at, table-length}
use Rattle.rules.specs.Info.{get_dogma_effect, get_dbuff_collection}
use Rattle.rules.specs.Item.{is_item, is_charge, is_skill, is_projected, item_of, char_of, structure_fit, passed, category_on, effects_of}
use Rattle.rules.specs.Collect.{Move, Test, go, over, bad, in_use, test_operation, modifier_moves, projected_modifier_moves, buff_modifier_moves, found_moves, effect_moves, own_moves, projected_moves, buff_moves, fitted_moves, moves}
use Rattle.rules.specs.declared.DbuffCollection.{DbuffCollection}
use Rattle.rules.specs.declared.DogmaEffect.{DogmaEffect}
use Rattle.rules.specs.declared.DogmaModifier.{DogmaModifier}
use Rattle.rules.specs.declared.EffectCategory.{EffectCategory}
use Rattle.rules.specs.declared.EffectOperator.{EffectOperator}
use Rattle.rules.specs.declared.Item.{Item}
use Rattle.rules.specs.declared.Pass2Effect.{Pass2Effect}
use Rattle.rules.specs.declared.ProjectedBuff.{ProjectedBuff}
use Rattle.rules.specs.declared.TypeDogmaEffect.{TypeDogmaEffect}
use Rattle.modifier.specs.Causes.{Cause}
use Rattle.modifier.specs.Causes as cause
use Rattle.modifier.specs.declared.codes.Owner.{Owner}
use Rattle.modifier.specs.Causes.{cause_moves}
use Rattle.modifier.specs.Tests.{charge_in}
use Rattle.collect.specs.Takes.{Each, Of, Member, Caused, Collects}
use Rattle.collect.proofs.Gives.{given, found, found_is, no_effect_lem, an_effect, projected_none, projected_bad, projected_modifiers, buff_after, buff_none, buff_some}
use Rattle.collect.proofs.Taking.{each_append, each_unless, each_weaker, each_taken}

-- ---- elements of lists

module _ {A : Type 0} where
  here : (x : A) (xs : List A) → Member (x ∷ xs) x
  here x xs = record { at = zero; inside = suc-le-suc zero-le; is = λ d. refl }

  there : {x : A} (y : A) {xs : List A} → Member xs x → Member (y ∷ xs) x
  there y m = record { at = suc m.at; inside = suc-le-suc m.inside; is = m.is }

  or_member : (t : Bool) (x y : A) (xs : List A) (o : Option A) → (o ≡ some x → Member xs x) → or_else t y o ≡ some x → Member (y ∷ xs) x
  or_member true x y xs o h e =
      let same : y ≡ x = cc in
      subst (Member (y ∷ xs)) same (here y xs)
  or_member false x y xs o h e = there y (h e)

  pub first_member : (p : A → Bool) (xs : List A) (x : A) → first p xs ≡ some x → Member xs x
  first_member p [] x e = let z : ◌≡◌ {A = ℕ} 0 1 = cc in absurd (omega arith)
  first_member p (y ∷ xs) x e = or_member (p y) x y xs (first p xs) (first_member p xs x) e

module _ (P : Pass2Effect → Type 0) {A : Type 0} (F : A → List Move) where
  each_all : (xs : List A) → ((x : A) → Each P (F x)) → Each P (flat F xs)
  each_all [] h = tt
  each_all (x ∷ xs) h = each_append P (F x) (flat F xs) (h x) (each_all xs h)

  pub each_in : (xs : List A) → ((x : A) → Member xs x → Each P (F x)) → Each P (flat F xs)
  each_in [] h = tt
  each_in (x ∷ xs) h = each_append P (F x) (flat F xs) (h x (here x xs)) (each_in xs (λ y m. h y (there x m)))

  put_in : (t : Bool) (x : A) (xs : List A) → Each P (F x) → Each P (flat F xs) → Each P (flat F (put t x xs))
  put_in true x xs p q = each_append P (F x) (flat F xs) p q
  put_in false x xs p q = q

  each_kept : (p : A → Bool) (xs : List A) → ((x : A) → Member xs x → Each P (F x)) → Each P (flat F (keep p xs))
  each_kept p [] h = tt
  each_kept p (x ∷ xs) h = put_in (p x) x (keep p xs) (h x (here x xs)) (each_kept p xs (λ y m. h y (there x m)))

  each_front : (n : ℕ) (xs : List A) → ((x : A) → Member xs x → Each P (F x)) → Each P (flat F (take n xs))
  each_front zero xs h = tt
  each_front (suc n) [] h = tt
  each_front (suc n) (x ∷ xs) h = each_append P (F x) (flat F (take n xs)) (h x (here x xs)) (each_front n xs (λ y m. h y (there x m)))

  each_span : (s n : ℕ) (xs : List A) → ((x : A) → Member xs x → Each P (F x)) → Each P (flat F (span s n xs))
  each_span zero n xs h = each_front n xs h
  each_span (suc s) n [] h = each_front n [] h
  each_span (suc s) n (x ∷ xs) h = each_span s n xs (λ y m. h y (there x m))

-- ---- the moves

module _ (k : Book) (f : Fit) where
  abbrev Here : List Move → Type 0
  Here = Each (Collects k f)

  of_cause : (c : Cause) → Caused k f c → (m : DogmaModifier) → Member k.modifiers m → Here (cause_moves k f c m)
  of_cause c a m l =
      each_weaker (Of f c m) (Collects k f) (λ t o. record { cause = c; modifier = m; of = o; listed = l; caused = a }) (cause_moves k f c m) (each_taken f m k c)

  abbrev owner_of : Item → Owner
  owner_of o = record { item = o; charge = charge_in f o; before = (item_of f o).number; structure = structure_fit f; character = char_of f }

  module _ (o : Item) (n : Member f.objects o) where
    module _ (e : DogmaEffect) (i : Member k.effects e) where
      own : (c : EffectCategory) → Here (flat (modifier_moves k f o e c) (span e.first_modifier e.modifiers k.modifiers))
      own c = each_span (Collects k f) (modifier_moves k f o e c) e.first_modifier e.modifiers k.modifiers (λ m l. of_cause (cause.own (owner_of o) e c) (n, i) m l)

      of_given : (t : TypeDogmaEffect) (c : EffectCategory) (m : ℕ) → Here (given k f o t e c m)
      of_given t c zero = tt
      of_given t c (suc m) = own (category_on o c)

      of_found : (t : TypeDogmaEffect) (x : Option EffectCategory) (m : ℕ) → Here (found k f o t e x m)
      of_found t none m = tt
      of_found t (some c) m = each_unless (Collects k f) (not (in_use k f o e t (category_on o c))) (given k f o t e c m) (λ u. of_given t c m)

      found_all : (t : TypeDogmaEffect) → Here (found_moves k f o t e)
      found_all t = subst Here (sym (found_is k f o t e (category_at e.category) refl)) (of_found t (category_at e.category) e.modifiers)

    effect_all : (t : TypeDogmaEffect) (x : Option DogmaEffect) → get_dogma_effect k t.effect_id ≡ x → Here (effect_moves k f o t)
    unfolding get_dogma_effect
    effect_all t none h = subst Here (no_effect_lem k f o t h) tt
    effect_all t (some e) h = subst Here (an_effect k f o t e h) (found_all e (first_member (λ (r : DogmaEffect). eq_z r.id t.effect_id) k.effects e h) t)

    own_all : Here (own_moves k f o)
    unfolding own_moves
    own_all = each_all (Collects k f) (effect_moves k f o) (effects_of k o) (λ t. effect_all t (get_dogma_effect k t.effect_id) refl)

    fitted-all : Here (fitted_moves k f o)
    unfolding fitted_moves
    fitted-all = each_unless (Collects k f) (passed k f (cond (is_charge o) (item_of f o) o)) (own_moves k f o) (λ u. own_all)

    category_all : (e : DogmaEffect) (x : Option EffectCategory) → get_dogma_effect k o.projected_effect ≡ some e → Member k.effects e → category_at e.category ≡ x → Here (projected_moves k f o)
    category_all e none h i g = subst Here (projected_bad k f o e h g) tt
    category_all e (some c) h i g =
        subst Here (projected_modifiers k f o e c h g)
        (each_span (Collects k f) (projected_modifier_moves f o e c) e.first_modifier e.modifiers k.modifiers (λ m l. of_cause (cause.projected (owner_of o) e c None) (n, i) m l))

    projected_by_lem : (x : Option DogmaEffect) → get_dogma_effect k o.projected_effect ≡ x → Here (projected_moves k f o)
    unfolding get_dogma_effect
    projected_by_lem none h = subst Here (projected_none k f o h) tt
    projected_by_lem (some e) h = category_all e (category_at e.category) h (first_member (λ (r : DogmaEffect). eq_z r.id o.projected_effect) k.effects e h) refl

  module _ (b : ProjectedBuff) (n : Member f.buffs b) where
    after-all : (r : DbuffCollection) (t : Test EffectOperator) → Here (buff_after k b r t)
    after-all r (go op) =
        each_span (Collects k f) (buff_modifier_moves b op) r.first_modifier r.modifiers k.modifiers (λ m l. of_cause (cause.buff b op) n m l)
    after-all r over = tt
    after-all r (bad x) = tt

    buff_by_lem : (x : Option DbuffCollection) → get_dbuff_collection k b.id ≡ x → Here (buff_moves k b)
    buff_by_lem none h = subst Here (buff_none k b h) tt
    buff_by_lem (some r) h = subst Here (buff_some k b r h refl) (after-all r (test_operation r.operation r.number))

  pub each_collects : Here (moves k f)
  unfolding moves
  each_collects =
      let C = Collects k f in
      let fitted = flat (fitted_moves k f) (keep (λ o. is_item o || is_charge o) f.objects) in
      let skills = flat (own_moves k f) (keep is_skill f.objects) in
      let buffs = flat (buff_moves k) f.buffs in
      let projected = flat (projected_moves k f) (keep is_projected f.objects) in
      each_append C (flat (own_moves k f) (keep (λ o. leb o.kind 2) f.objects)) (projected ++ (buffs ++ (fitted ++ skills)))
      (each_kept C (own_moves k f) (λ o. leb o.kind 2) f.objects own_all)
      (each_append C projected (buffs ++ (fitted ++ skills)) (each_kept C (projected_moves k f) is_projected f.objects (λ o n. projected_by_lem o n (get_dogma_effect k o.projected_effect) refl))
      (each_append C buffs (fitted ++ skills) (each_in C (buff_moves k) f.buffs (λ b n. buff_by_lem b n (get_dbuff_collection k b.id) refl))
      (each_append C fitted skills (each_kept C (fitted_moves k f) (λ o. is_item o || is_charge o) f.objects fitted-all)
      (each_kept C (own_moves k f) is_skill f.objects own_all))))

-- ---- elements of the tables are what was read of the bytes

module _ (b : List ℕ) (pairs : List (List ℕ)) where
  read_at : {A : Type 0} (read : ℕ → List ℕ → A) (t : ℕ) {x : A} (l : Member (table read t b pairs) x) → x ≡ read l.at (record_at b pairs t l.at)
  read_at read t {x} l = l.is x ∙ sym (table_at read t b pairs l.at (rw (table-length read t b pairs) at l.inside) x)

  pub effect_read : {e : DogmaEffect} (l : Member (book_of b pairs).effects e) → e ≡ effect_from l.at (record_at b pairs 2 l.at)
  unfolding book_of
  effect_read l = read_at effect_from 2 l

  pub modifier_read : {m : DogmaModifier} (l : Member (book_of b pairs).modifiers m) → m ≡ modifier_from l.at (record_at b pairs 3 l.at)
  unfolding book_of
  modifier_read l = read_at modifier_from 3 l

  pub buff_read : {r : ProjectedBuff} (l : Member (fit_of b pairs).buffs r) → r ≡ buff_from l.at (record_at b pairs 9 l.at)
  unfolding fit_of
  buff_read l = read_at buff_from 9 l
