-- Gathering and operating by parts, and an entry by its strength.
use Prim.Native.Nat.{ℕ}
use mathlib.Core.Path.{◌≡◌, refl, subst, ◌∙◌}
use mathlib.Core.Bool.{Bool, true, false, ◌||◌, true≢false}
use mathlib.Core.List.{List, [], ◌∷◌, ◌++◌}
use lib.Ieee.{Float}
use Rattle.rules.specs.Answer.{Res, ok, refused, ◌>>=◌}
use Rattle.rules.specs.Codes.{same_operator}
use Rattle.rules.specs.Dispatch.{Row}
use Rattle.rules.specs.Info.{get_dogma_attribute, high_is_good}
use Rattle.rules.specs.Item.{runs_at}
use Rattle.rules.specs.Number.{number_at}
use Rattle.rules.specs.Operate.{applied}
use Rattle.rules.specs.Value.{World, Mem, Read, Reader, Gathered, nothing, state_of, to_source, note, contribute, resisted, gather_from, gather, marked_by, operate}
use Rattle.rules.specs.declared.Effect.{Effect}
use Rattle.rules.specs.declared.EffectOperator.{EffectOperator}
use Rattle.rules.specs.declared.Origin.{Origin}
use Rattle.rules.specs.declared.Origin.TheVariants as origin
use Rattle.sources.specs.Planned.{runs_in}
use Rattle.rules.proofs.Results.{got, then, bind_same}
use Rattle.gather.specs.Piles.{entered}
use Rattle.memory.specs.Memory.{Grows, GrowingReader}
use Rattle.memory.specs.Steps.{strength_of}
use Rattle.memory.proofs.Growth.{grows_same, grows_on, resisted_grows}

-- steps in a row, either way round
bind_bind : {A B C : Type 0} (x : Res A) (f : A → Res B) (g : B → Res C) → (x >>= λ a. f a >>= g) ≡ (x >>= f >>= g)
bind_bind (ok a) f g = refl
bind_bind (refused y) f g = refl

module _ (w : World) (i : ℕ) (row : Row) (read : Reader) where
  pub gather_append : (op : EffectOperator) (xs ys : List Effect) (g : Gathered) → gather w i row read op (xs ++ ys) g ≡ (gather w i row read op xs g >>= λ h. gather w i row read op ys h)
  unfolding gather
  gather_append op [] ys g = refl
  gather_append op (e ∷ xs) ys g = by (gather_append op xs ys) (same_operator e.operator op)
    where
      after : Gathered → Res Gathered
      after h = gather w i row read op ys h

      by : ((f : Gathered) → gather w i row read op (xs ++ ys) f ≡ (gather w i row read op xs f >>= after)) → (t : Bool)
          → (elim t [ false ↦ gather w i row read op (xs ++ ys) g | true ↦ (gather_from w i row read e e.origin g >>= λ f. gather w i row read op (xs ++ ys) f) ])
          ≡ (elim t [ false ↦ gather w i row read op xs g | true ↦ (gather_from w i row read e e.origin g >>= λ f. gather w i row read op xs f) ] >>= after)
      by rest false = rest g
      by rest true =
          bind_same (gather_from w i row read e e.origin g) (λ f. gather w i row read op (xs ++ ys) f) (λ f. gather w i row read op xs f >>= after) rest
          ∙ bind_bind (gather_from w i row read e e.origin g) (λ f. gather w i row read op xs f) after

  -- one entry
  pub gather_one : (op : EffectOperator) (e : Effect) (g : Gathered) → same_operator e.operator op ≡ true → gather w i row read op (e ∷ []) g ≡ gather_from w i row read e e.origin g
  unfolding gather
  gather_one op e g h = rw (h, gather) (whole (gather_from w i row read e e.origin g))
    where
      whole : (x : Res Gathered) → (x >>= λ f. ok f) ≡ x
      whole (ok f) = refl
      whole (refused y) = refl

  pub gather_other : (op : EffectOperator) (e : Effect) (g : Gathered) → same_operator e.operator op ≡ false → gather w i row read op (e ∷ []) g ≡ ok g
  unfolding gather
  gather_other op e g h = rw (h, gather) refl

  -- the operators in two parts
  pub operate_append : (xs ys : List EffectOperator) (a : Read) → operate w i row read (xs ++ ys) a ≡ (operate w i row read xs a >>= λ b. operate w i row read ys b)
  unfolding operate
  operate_append [] ys a = refl
  operate_append (op ∷ xs) ys a =
      bind_same gathered (λ g. worth g >>= λ v. operate w i row read (xs ++ ys) (record { value = v; mem = marked_by i g })) (λ g. worth g >>= λ v. next g v >>= after)
      (λ g. bind_same (worth g) (λ v. operate w i row read (xs ++ ys) (record { value = v; mem = marked_by i g })) (λ v. next g v >>= after) (λ v. operate_append xs ys (record { value = v; mem = marked_by i g })))
      ∙ bind_same gathered (λ g. worth g >>= λ v. next g v >>= after) (λ g. (worth g >>= next g) >>= after) (λ g. bind_bind (worth g) (next g) after)
      ∙ bind_bind gathered (λ g. worth g >>= next g) after
    where
      gathered : Res Gathered
      gathered = gather w i row read op row.entries (record { mem = a.mem; values = nothing })

      worth : Gathered → Res Float
      worth g = number_at row.object (applied (high_is_good (get_dogma_attribute w.book row.id)) op a.value g.values)

      next : Gathered → Float → Res Read
      next g v = operate w i row read xs (record { value = v; mem = marked_by i g })

      after : Read → Res Read
      after b = operate w i row read ys b

  -- ---- an entry by its strength

  module _ (e : Effect) where
    -- one that does not run and is not recorded is not read
    pub from_idle : (o : Origin) (g : Gathered) → runs_in w o ≡ false → w.recording ≡ false → gather_from w i row read e o g ≡ ok g
    unfolding gather_from
    from_idle (origin.Buff b v) g h k = absurd (true≢false h)
    from_idle (origin.Effect f source c a) g h k = rw (h, k, gather_from) refl

    -- any other is read and then entered
    pub from-read : (o : Origin) (g : Gathered) → runs_in w o || w.recording ≡ true
        → gather_from w i row read e o g ≡ (strength_of w read i row e o g.mem >>= λ s. entered w i row (runs_in w o) e s.value (record { mem = s.mem; values = g.values }))
    unfolding gather_from strength_of entered
    from-read (origin.Buff b v) g h = refl
    from-read (origin.Effect f source c a) g h =
        rw (h, gather_from) (bind_same (read source a g.mem) (λ r. strong r >>= λ s. ends (runs_at c (state_of w source)) s) (λ r. strong r >>= enter) each ∙ bind_bind (read source a g.mem) strong enter)
      where
        strong : Read → Res Read
        strong r = resisted w i row read e.resistance r

        enter : Read → Res Gathered
        enter s = entered w i row (runs_at c (state_of w source)) e s.value (record { mem = s.mem; values = g.values })

        ends : Bool → Read → Res Gathered
        ends t s = elim t [
          | true ↦ contribute w i row e s.value (record { mem = s.mem; values = g.values })
          | false ↦ (note w i row (to_source e s.value false e.quantity false) s.mem >>= λ m. ok (record { mem = m; values = g.values }))
        ]

        by : (t : Bool) (s : Read) → ends t s ≡ entered w i row t e s.value (record { mem = s.mem; values = g.values })
        by true s = refl
        by false s = refl

        each : (r : Read) → (strong r >>= λ s. ends (runs_at c (state_of w source)) s) ≡ (strong r >>= enter)
        each r = bind_same (strong r) (λ s. ends (runs_at c (state_of w source)) s) enter (by (runs_at c (state_of w source)))

  -- what reads a strength lets the memory grow
  pub strength_grows : GrowingReader read → (e : Effect) (o : Origin) (m : Mem) (s : Read) → strength_of w read i row e o m ≡ ok s → Grows m s.mem
  unfolding strength_of
  strength_grows growing e (origin.Buff b v) m s p = subst (λ (y : Read). Grows m y.mem) (got p) (grows_same m)
  strength_grows growing e (origin.Effect f source c a) m s p =
      let t = then (read source a m) _ s p in
      grows_on (growing source a m t.given t.first) (resisted_grows i w row read growing e.resistance t.given s t.rest)
