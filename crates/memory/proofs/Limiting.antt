-- A limit, a resistance, an entry's strength and a row's evaluation, each from what it has read.
use Rattle.std.specs.Prelude.{None, Some, Result, Ok, Err}
use Prim.Native.Nat.{ℕ, ◌<◌}
use native.Mathlib.Omega.{arith}
use mathlib.Core.Path.{◌≡◌, refl, sym, ap, subst, ◌∙◌}
use mathlib.Core.Bool.{Bool, true, false, cond}
use mathlib.Core.List.{List, []}
use mathlib.Core.Logic.{◌⊎◌, inl, inr}
use lib.Dec.{T}
use lib.Ieee.{Float, lt, binary64, mul}
use lib.IntN.{ℤ, pos}
use lib.ListN.{length}
use Rattle.laws.specs.Floats.{finite}
use Rattle.laws.specs.Lists.{eq_z}
use Rattle.laws.proofs.Bools.{true_or_false}
use Rattle.rules.specs.Answer.{Res, ok, refused, ◌>>=◌}
use Rattle.rules.specs.Codes.{operators}
use Rattle.rules.specs.Dispatch.{Row}
use Rattle.rules.specs.Info.{get_dogma_attribute}
use Rattle.rules.specs.Number.{times, number_at, step}
use Rattle.rules.specs.Value.{World, Mem, Read, Reader, resisted, operate, clamped, at_least, at_most}
use Rattle.rules.specs.declared.Effect.{Effect}
use Rattle.rules.specs.declared.EffectCategory.{EffectCategory}
use Rattle.rules.specs.declared.Origin.{Origin}
use Rattle.rules.specs.declared.Origin.TheVariants as origin
use Rattle.rules.specs.declared.Refusal.{Refusal}
use Rattle.rules.specs.declared.Refusal.TheVariants.{Number}
use Rattle.operate.proofs.Snocs.{step_good}
use Rattle.memory.specs.Steps.{strength_of, evaluation}
use Rattle.memory.specs.Holding.{Holds}
use Rattle.memory.proofs.Readings.{clamp_none, clamp_read, no_limits}
use Rattle.memory.specs.Answers.{Returns, held_by}
use Rattle.memory.specs.declared.apply.Got.{Got}
use Rattle.memory.proofs.Holdings.{Met, met, missed, meets-value, meets-refused}

-- of two numbers one
pub held_good : (least : Bool) (v x : Float) → T (finite v) → T (finite x) → T (finite (held_by least v x))
held_good true v x a b = elim (true_or_false (lt v x)) [ inl h ↦ rw h b | inr h ↦ rw h a ]
held_good false v x a b = elim (true_or_false (lt x v)) [ inl h ↦ rw h b | inr h ↦ rw h a ]

module _ (w : World) (s₀ : List (List ℕ)) (f₀ : List (List Float)) (v' : List Float) (s' : List (List ℕ)) (f' : List (List Float)) where
  -- a refusal is passed on
  pub passed_on : (x : Res Read) (k : Read → Res Read) (r : Result Got Refusal) (z : Refusal) → r ≡ Err z → Returns w s₀ f₀ x r v' s' f' → Returns w s₀ f₀ (x >>= k) r v' s' f'
  passed_on x k r z e h = rw e (meets-refused w s₀ f₀ v' s' f' (x >>= k) (ap (λ (y : Res Read). y >>= k) (missed w s₀ f₀ v' s' f' x z (rw e at h))))

  -- a value is gone on with
  pub goes_on : (x : Res Read) (k : Read → Res Read) (y : Float) (used : ℕ) (h : Returns w s₀ f₀ x (Ok (record { value = y; used = used })) v' s' f') (r : Result Got Refusal) (v'' : List Float) (s'' : List (List ℕ)) (f'' : List (List Float))
      → Returns w s₀ f₀ (k (record { value = y; mem = (met w s₀ f₀ v' s' f' x y used h).read.mem })) r v'' s'' f'' → Returns w s₀ f₀ (x >>= k) r v'' s'' f''
  unfolding met
  goes_on (ok q) k y used h r v'' s'' f'' l = subst (λ (n : Float). Returns w s₀ f₀ (k (record { value = n; mem = q.mem })) r v'' s'' f'') h.0 l
  goes_on (refused z) k y used h r v'' s'' f'' l = absurd h

  module _ (o : ℕ) (read : Reader) (least : Bool) (a : ℤ) (v : Float) (m : Mem) where
    abbrev limiting : Res Read
    limiting = clamped o read (held_by least) a (record { value = v; mem = m })

    pub not_limited : {used : ℕ} → a ≡ pos 0 → T (finite v) → Holds w s₀ f₀ m v' s' f' used → Returns w s₀ f₀ limiting (Ok (record { value = v; used = used })) v' s' f'
    not_limited e good h = meets-value w s₀ f₀ v' s' f' limiting _ (clamp_none o read (held_by least) a (record { value = v; mem = m }) e) refl good h

    module _ (apart : eq_z a (pos 0) ≡ false) where
      limit-read : limiting ≡ (read o a m >>= λ q. ok (record { value = held_by least v q.value; mem = q.mem }))
      limit-read = clamp_read o read (held_by least) a (record { value = v; mem = m }) apart

      pub limit-refused : (r : Result Got Refusal) (z : Refusal) → r ≡ Err z → Returns w s₀ f₀ (read o a m) r v' s' f' → Returns w s₀ f₀ limiting r v' s' f'
      limit-refused r z e h = rw limit-read (passed_on (read o a m) (λ q. ok (record { value = held_by least v q.value; mem = q.mem })) r z e h)

      pub limit-held : (x : Float) (used : ℕ) → T (finite v) → Returns w s₀ f₀ (read o a m) (Ok (record { value = x; used = used })) v' s' f' → Returns w s₀ f₀ limiting (Ok (record { value = held_by least v x; used = used })) v' s' f'
      limit-held x used good h =
          let q = met w s₀ f₀ v' s' f' (read o a m) x used h in
          meets-value w s₀ f₀ v' s' f' limiting (record { value = held_by least v q.read.value; mem = q.read.mem })
          (limit-read ∙ ap (λ (y : Res Read). y >>= λ q. ok (record { value = held_by least v q.value; mem = q.mem })) q.is) (ap (held_by least v) q.value) (held_good least v x good q.number) q.holds

  -- the ship's resistance
  module _ (i : ℕ) (row : Row) (read : Reader) (v : Float) (m : Mem) where
    pub not_resisted : {used : ℕ} → T (finite v) → Holds w s₀ f₀ m v' s' f' used → Returns w s₀ f₀ (resisted w i row read None (record { value = v; mem = m })) (Ok (record { value = v; used = used })) v' s' f'
    unfolding resisted
    not_resisted good h = (refl, good, h)

    module _ (a : ℤ) where
      abbrev resisting : Res Read
      resisting = resisted w i row read (Some a) (record { value = v; mem = m })

      abbrev product : Read → Res Read
      product q = number_at row.object (times v q.value) >>= λ x. ok (record { value = x; mem = q.mem })

      resist_read : resisting ≡ (read 0 a m >>= product)
      unfolding resisted
      resist_read = refl

      pub resist_refused : (r : Result Got Refusal) (z : Refusal) → r ≡ Err z → Returns w s₀ f₀ (read 0 a m) r v' s' f' → Returns w s₀ f₀ resisting r v' s' f'
      resist_refused r z e h = rw resist_read (passed_on (read 0 a m) product r z e h)

      module _ (y : Float) (used : ℕ) (h : Returns w s₀ f₀ (read 0 a m) (Ok (record { value = y; used = used })) v' s' f') where
        q : Met w s₀ f₀ (read 0 a m) y v' s' f' used
        q = met w s₀ f₀ v' s' f' (read 0 a m) y used h

        product_is : resisting ≡ product q.read
        product_is = resist_read ∙ ap (λ (z : Res Read). z >>= product) q.is

        made : (x : Float) → times v q.read.value ≡ Some x → product q.read ≡ ok (record { value = x; mem = q.read.mem })
        unfolding number_at
        made x p = rw p refl

        not_made : times v q.read.value ≡ None → product q.read ≡ refused (Number row.object)
        unfolding number_at
        not_made p = rw p refl

        pub resist_made : (x : Float) → times v y ≡ Some x → T (finite x) → Returns w s₀ f₀ resisting (Ok (record { value = x; used = used })) v' s' f'
        resist_made x e good =
            meets-value w s₀ f₀ v' s' f' resisting (record { value = x; mem = q.read.mem }) (product_is ∙ made x (sym (ap (times v) q.value) ∙ e)) refl good q.holds

        pub resist_not_finite : {object : ℕ} → times v y ≡ None → row.object ≡ object → Returns w s₀ f₀ resisting (Err (Number object)) v' s' f'
        resist_not_finite {object} e o =
            meets-refused w s₀ f₀ v' s' f' resisting (product_is ∙ not_made (sym (ap (times v) q.value) ∙ e) ∙ ap (λ (n : ℕ). refused (Number n)) o)

  -- an entry's strength
  module _ (i : ℕ) (row : Row) (read : Reader) (e : Effect) (m : Mem) where
    pub buff_strength : (b : ℤ) (x : Float) {used : ℕ} → e.origin ≡ origin.Buff b x → T (finite x) → Holds w s₀ f₀ m v' s' f' used → Returns w s₀ f₀ (strength_of w read i row e e.origin m) (Ok (record { value = x; used = used })) v' s' f'
    unfolding strength_of
    buff_strength b x {used} is good h = subst (λ (o : Origin). Returns w s₀ f₀ (strength_of w read i row e o m) (Ok (record { value = x; used = used })) v' s' f') (sym is) (refl, good, h)

    -- one that is read off its source
    module _ (b : ℤ) (source : ℕ) (c : EffectCategory) (a : ℤ) (is : e.origin ≡ origin.Effect b source c a) where
      abbrev strong : Res Read
      strong = strength_of w read i row e e.origin m

      strength_read : strong ≡ (read source a m >>= λ r. resisted w i row read e.resistance r)
      unfolding strength_of
      strength_read = ap (λ (o : Origin). strength_of w read i row e o m) is

      pub strength_refused : (r : Result Got Refusal) (z : Refusal) → r ≡ Err z → Returns w s₀ f₀ (read source a m) r v' s' f' → Returns w s₀ f₀ strong r v' s' f'
      strength_refused r z p h = rw strength_read (passed_on (read source a m) (λ r. resisted w i row read e.resistance r) r z p h)

      pub strength_resisted : (x : Float) (used : ℕ) (h : Returns w s₀ f₀ (read source a m) (Ok (record { value = x; used = used })) v' s' f') (r : Result Got Refusal) (v'' : List Float) (s'' : List (List ℕ)) (f'' : List (List Float))
          → Returns w s₀ f₀ (resisted w i row read e.resistance (record { value = x; mem = (met w s₀ f₀ v' s' f' (read source a m) x used h).read.mem })) r v'' s'' f'' → Returns w s₀ f₀ strong r v'' s'' f''
      strength_resisted x used h r v'' s'' f'' k = rw strength_read (goes_on (read source a m) (λ r. resisted w i row read e.resistance r) x used h r v'' s'' f'' k)

  -- a row's value from its operators and its limits
  module _ (read : Reader) (i : ℕ) (row : Row) (m : Mem) where
    abbrev evaluating : Res Read
    evaluating = evaluation w read i row m

    abbrev operating : Res Read
    operating = operate w i row read operators (record { value = row.base; mem = m })

    abbrev raised : Read → Res Read
    raised a = clamped row.object read at_least (get_dogma_attribute w.book row.id).min_attribute_id a

    abbrev lowered : Read → Res Read
    lowered b = clamped row.object read at_most (get_dogma_attribute w.book row.id).max_attribute_id b

    evaluation_is : evaluating ≡ (operating >>= λ a. raised a >>= λ b. lowered b)
    unfolding evaluation
    evaluation_is = refl

    pub evaluate_refused : (r : Result Got Refusal) (z : Refusal) → r ≡ Err z → Returns w s₀ f₀ operating r v' s' f' → Returns w s₀ f₀ evaluating r v' s' f'
    evaluate_refused r z e h = rw evaluation_is (passed_on operating (λ a. raised a >>= λ b. lowered b) r z e h)

    module _ (x : Float) (used : ℕ) (h : Returns w s₀ f₀ operating (Ok (record { value = x; used = used })) v' s' f') where
      abbrev pub operated_mem : Mem
      operated_mem = (met w s₀ f₀ v' s' f' operating x used h).read.mem

      module _ (z : Res Read) (same : raised (record { value = x; mem = operated_mem }) ≡ z) where
        pub raise_refused : (r : Result Got Refusal) (y : Refusal) → r ≡ Err y → (v'' : List Float) (s'' : List (List ℕ)) (f'' : List (List Float)) → Returns w s₀ f₀ z r v'' s'' f'' → Returns w s₀ f₀ evaluating r v'' s'' f''
        raise_refused r y e v'' s'' f'' k = rw evaluation_is (goes_on operating (λ a. raised a >>= λ b. lowered b) x used h r v'' s'' f'' (rw (same, e) (stays z (rw e at k))))
          where
            stays : (u : Res Read) → Returns w s₀ f₀ u (Err y) v'' s'' f'' → Returns w s₀ f₀ (u >>= λ b. lowered b) (Err y) v'' s'' f''
            stays (ok q) k = absurd k
            stays (refused q) k = k

        pub lowers : (y : Float) (more : ℕ) (v'' : List Float) (s'' : List (List ℕ)) (f'' : List (List Float)) (k : Returns w s₀ f₀ z (Ok (record { value = y; used = more })) v'' s'' f'') (u : Res Read) → lowered (record { value = y; mem = (met w s₀ f₀ v'' s'' f'' z y more k).read.mem }) ≡ u
            → (r : Result Got Refusal) (v''' : List Float) (s''' : List (List ℕ)) (f''' : List (List Float)) → Returns w s₀ f₀ u r v''' s''' f''' → Returns w s₀ f₀ evaluating r v''' s''' f'''
        unfolding met
        lowers y more v'' s'' f'' k u last r v''' s''' f''' l = rw evaluation_is (goes_on operating (λ a. raised a >>= λ b. lowered b) x used h r v''' s''' f''' (rw same (follows z k (rw last l))))
          where
            follows : (z : Res Read) (k : Returns w s₀ f₀ z (Ok (record { value = y; used = more })) v'' s'' f'') → Returns w s₀ f₀ (lowered (record { value = y; mem = (met w s₀ f₀ v'' s'' f'' z y more k).read.mem })) r v''' s''' f''' → Returns w s₀ f₀ (z >>= λ b. lowered b) r v''' s''' f'''
            follows (refused q) k l = absurd k
            follows (ok q) k l = subst (λ (n : Float). Returns w s₀ f₀ (lowered (record { value = n; mem = q.mem })) r v''' s''' f''') k.0 l

    -- no entry, and no limit
    pub plain_row : {used : ℕ} {x : Float} → row.entries ≡ [] → (get_dogma_attribute w.book row.id).min_attribute_id ≡ pos 0 → (get_dogma_attribute w.book row.id).max_attribute_id ≡ pos 0
        → x ≡ row.base → T (finite x) → Holds w s₀ f₀ m v' s' f' used → Returns w s₀ f₀ evaluating (Ok (record { value = x; used = used })) v' s' f'
    plain_row none_there low high e good h = meets-value w s₀ f₀ v' s' f' evaluating _ (no_limits w read i row none_there m low high) e good h

-- what a product gives is finite
pub product_good : (v y : Float) {x : Float} → times v y ≡ Some x → T (finite x)
product_good v y e = step_good (mul binary64 v y) e
