-- Every effect that a modifier gives is of that modifier, and of what it is collected for.
use Rattle.std.specs.Prelude.{None}
use Prim.Native.Nat.{ℕ, zero, suc, ◌<◌}
use native.Mathlib.Nat.{not-suc-le-zero, le_of_suc-le-suc}
use mathlib.Core.Path.{◌≡◌, refl, subst}
use mathlib.Core.Bool.{Bool, true, false, ◌&&◌, not, cond}
use mathlib.Core.List.{List, [], ◌∷◌, ◌++◌}
use lib.Dec.{eqb}
use lib.ListN.{length, get_or}
use Rattle.rules.specs.Sheet.{Book, Fit}
use Rattle.rules.specs.Item.{is_item, is_skill, has_charge, structure_fit}
use Rattle.rules.specs.declared.Item.{Item}
use Rattle.rules.specs.Collect.{Move, taken, plain, refuse, Test, go, over, bad, then, unless, test_func, test_operation, test_domain, test_projected_domain, modifier_moves, projected_modifier_moves, buff_modifier_moves, taken_of}
use Rattle.rules.specs.declared.DogmaModifier.{DogmaModifier}
use Rattle.rules.specs.declared.Modifier.{Modifier}
use Rattle.rules.specs.declared.Modifier.TheVariants.{LocationRequiredSkillModifier, LocationGroupModifier, LocationModifier, OwnerRequiredSkillModifier, ItemModifier}
use Rattle.rules.specs.declared.Pass2Effect.{Pass2Effect}
use Rattle.rules.specs.declared.DogmaEffect.{DogmaEffect}
use Rattle.rules.specs.declared.EffectCategory.{EffectCategory}
use Rattle.rules.specs.declared.EffectOperator.{EffectOperator}
use Rattle.rules.specs.Ids.{OptionalId}
use Rattle.rules.specs.declared.ProjectedBuff.{ProjectedBuff}
use Rattle.rules.specs.declared.Refusal.TheVariants.{Func}
use Rattle.modifier.specs.declared.codes.Owner.{Owner}
use Rattle.modifier.specs.Causes.{Cause}
use Rattle.modifier.specs.Causes as cause
use Rattle.modifier.specs.Tests.{own_target}
use Rattle.modifier.specs.Causes.{cause_moves, effect_of, resistance_of}
use Rattle.collect.specs.Takes.{Each, Goes, Of, origin_of, aim_of, unmet, met_by}
use Rattle.modifier.proofs.MovesLaws.{source_of}

module _ (P : Pass2Effect → Type 0) where
  pub each_append : (xs ys : List Move) → Each P xs → Each P ys → Each P (xs ++ ys)
  each_append [] ys p q = q
  each_append (taken t ∷ xs) ys p q = (p.0, each_append xs ys p.1 q)
  each_append (plain o e ∷ xs) ys p q = each_append xs ys p q
  each_append (refuse x ∷ xs) ys p q = each_append xs ys p q

  -- the one at j
  pub each_at : (ms : List Move) → Each P ms → (j : ℕ) (d : Pass2Effect) → j < length (taken_of ms) → P (get_or (taken_of ms) j d)
  each_at [] p j d h = absurd (not-suc-le-zero h)
  each_at (taken t ∷ ms) p zero d h = p.0
  each_at (taken t ∷ ms) p (suc j) d h = each_at ms p.1 j d (le_of_suc-le-suc h)
  each_at (plain o e ∷ ms) p j d h = each_at ms p j d h
  each_at (refuse x ∷ ms) p j d h = each_at ms p j d h

  pub each_then : {A : Type 0} (t : Test A) (g : A → List Move) → ((a : A) → t ≡ go a → Each P (g a)) → Each P (then t g)
  each_then (go a) g h = h a refl
  each_then over g h = tt
  each_then (bad x) g h = tt

  pub each_unless : (b : Bool) (l : List Move) → (b ≡ false → Each P l) → Each P (unless b l)
  each_unless true l h = tt
  each_unless false l h = h refl

  each_own_target : (f : Fit) (o : Item) (m : DogmaModifier) (g : ℕ → List Move) → ((n : ℕ) → test_domain f o m ≡ go n → is_item o && eqb m.domain 3 && not (has_charge f o) ≡ false → Each P (g n)) → Each P (own_target f o m g)
  each_own_target f o m g h =
      each_unless (is_item o && eqb m.domain 3 && not (has_charge f o)) (unless (is_skill o && structure_fit f && eqb m.domain 1) (then (test_domain f o m) g))
      (λ u. each_unless (is_skill o && structure_fit f && eqb m.domain 1) (then (test_domain f o m) g) (λ v. each_then (test_domain f o m) g (λ n j. h n j u)))

pub each_weaker : (P Q : Pass2Effect → Type 0) → ((t : Pass2Effect) → P t → Q t) → (ms : List Move) → Each P ms → Each Q ms
each_weaker P Q h [] p = tt
each_weaker P Q h (taken t ∷ ms) p = (h t p.0, each_weaker P Q h ms p.1)
each_weaker P Q h (plain o e ∷ ms) p = each_weaker P Q h ms p
each_weaker P Q h (refuse x ∷ ms) p = each_weaker P Q h ms p

module _ (f : Fit) (m : DogmaModifier) where
  -- the one effect of a list, by what its tests gave
  one : (c : Cause) (t : Pass2Effect) → test_func m ≡ go t.modifier → aim_of f c m ≡ go t.target → unmet f c m ≡ false → t.target_attribute_id ≡ m.modified_attribute_id → t.origin ≡ origin_of c m → t.resistance ≡ met_by f c → Each (Of f c m) (taken t ∷ [])
  one c t h j u a o r = (record { func = h; aim = j; met = u; attribute = a; origin = o; resistance = r }, tt)

  own_each : (k : Book) (w : Owner) (e : DogmaEffect) (c : EffectCategory) → Each (Of f (cause.own w e c) m) (modifier_moves k f w.item e c m)
  unfolding modifier_moves
  own_each k w e c =
      let P = Of f (cause.own w e c) m in
      let T : Modifier → EffectOperator → ℕ → Pass2Effect = λ func op n. effect_of w.item e m (source_of w.item e m c) None func op n in
      each_then P (test_func m) _ (λ func h. each_then P (test_operation m.operation m.number) _ (λ op i. each_own_target P f w.item m (λ n. taken (T func op n) ∷ []) (λ n j u. one (cause.own w e c) (T func op n) h j u refl refl refl)))

  projected_each : (w : Owner) (e : DogmaEffect) (c : EffectCategory) (r : OptionalId) → Each (Of f (cause.projected w e c r) m) (projected_modifier_moves f w.item e c m)
  unfolding projected_modifier_moves
  projected_each w e c r =
      let P = Of f (cause.projected w e c r) m in
      let T : Modifier → EffectOperator → ℕ → Pass2Effect = λ func op n. effect_of w.item e m c (resistance_of f w.item e) func op n in
      each_then P (test_projected_domain f m) _ (λ n j. each_then P (test_func m) _ (λ func h. each_then P (test_operation m.operation m.number) (λ op. taken (T func op n) ∷ []) (λ op i. one (cause.projected w e c r) (T func op n) h j refl refl refl refl)))

  buff_each : (b : ProjectedBuff) (op : EffectOperator) → Each (Of f (cause.buff b op) m) (buff_modifier_moves b op m)
  unfolding buff_modifier_moves
  buff_each b op = each_then (Of f (cause.buff b op) m) (test_func m) _ (λ func h. one (cause.buff b op) _ h refl refl refl refl refl)

  pub each_taken : (k : Book) (c : Cause) → Each (Of f c m) (cause_moves k f c m)
  each_taken k (cause.own w e c) = own_each k w e c
  each_taken k (cause.projected w e c r) = projected_each w e c r
  each_taken k (cause.buff b op) = buff_each b op

-- what a test goes on with
module _ {A : Type 0} (Q : A → Type 0) where
  pub goes_if : (b : Bool) (t u : Test A) → (b ≡ true → Goes Q t) → Goes Q u → Goes Q (cond b t u)
  goes_if true t u p q = p refl
  goes_if false t u p q = q

  pub goes_cond : (b : Bool) (t u : Test A) → Goes Q t → Goes Q u → Goes Q (cond b t u)
  goes_cond b t u p q = goes_if b t u (λ e. p) q

-- what holds of the five forms that a func may have holds of the one that it has
module _ (Q : Modifier → Type 0) (m : DogmaModifier) where
  pub func_goes : Q (LocationRequiredSkillModifier m.skill_type_id) → Q (LocationGroupModifier m.group_id) → Q LocationModifier → Q (OwnerRequiredSkillModifier m.skill_type_id) → Q ItemModifier → Goes Q (test_func m)
  unfolding test_func
  func_goes a b c d e =
      goes_cond Q (eqb m.func 0) (go (LocationRequiredSkillModifier m.skill_type_id)) _ a
      (goes_cond Q (eqb m.func 1) (go (LocationGroupModifier m.group_id)) _ b
      (goes_cond Q (eqb m.func 2) (go LocationModifier) _ c
      (goes_cond Q (eqb m.func 3) (go (OwnerRequiredSkillModifier m.skill_type_id)) _ d
      (goes_cond Q (eqb m.func 4) (go ItemModifier) _ e
      (goes_cond Q (eqb m.func 5) over (bad (Func m.number)) tt tt)))))

  pub func_of_lem : {f : Fit} {c : Cause} {t : Pass2Effect} → Goes Q (test_func m) → Of f c m t → Q t.modifier
  func_of_lem g o = subst (Goes Q) o.func g
