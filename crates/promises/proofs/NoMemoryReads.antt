-- Reading an attribute with the memory gives its value with no memory, where nothing leads back to itself: every value that is
-- in the memory is right but for the rows under calculation, and those no need of theirs reads. What holds of a row once its
-- calculation is done holds of every row that has a value, too.
use Prim.Native.Nat.{ℕ, zero, suc, ◌<◌}
use native.Mathlib.Omega.{arith}
use mathlib.Core.Path.{◌≡◌, refl, sym, ap, subst, ◌∙◌}
use mathlib.Core.Bool.{true}
use mathlib.Core.List.{List}
use mathlib.Core.Logic.{◌⊎◌, inl, inr}
use mathlib.Core.Option.{Option, none, some}
use native.Mathlib.Decide.{ℕ_discrete}
use lib.Ieee.{Float}
use lib.ListN.{length, get_or, set, length-set}
use lib.Seq.{get_or-set_same, get_or-set_other}
use Rattle.laws.proofs.First.{there?}
use Rattle.rules.specs.Answer.{Res, ok, refused, ◌>>=◌}
use Rattle.rules.specs.Dispatch.{Row, Key}
use Rattle.rules.specs.Info.{get_dogma_attribute}
use Rattle.rules.specs.Outcome.{blank}
use Rattle.rules.specs.Value.{World, Mem, Read, Reader, Found, find_row, calculate, calculated_value, value_of}
use Rattle.rules.specs.Fresh.{forgetful, fresh, needs_of, Leads, last, next}
use Rattle.rules.specs.declared.Refusal.TheVariants.{Depth}
use Rattle.promises.specs.NoMemory.{key_at, Needs, NoLoop}
use Rattle.promises.proofs.NoMemoryGoes.{Goes, stops, goes, on_second, told, told-first, weaker}
use Rattle.promises.proofs.NoMemorySteps.{Each, Agree, Ended, calculate_goes}
use Rattle.promises.proofs.NoMemoryFresh.{Same, value_by, fresh_default, fresh_goes}
use Rattle.promises.proofs.Ranks.{found_at, each_of}

-- one need further
pub leads_on : (w : World) {x a b : Key} → Leads w x a → Needs w a b → Leads w x b
leads_on w (last h) n = next h (last n)
leads_on w (next h l) n = next h (leads_on w l n)

-- what was valued stays so
pub record Keeps (vs vs' : List (Option Float)) : Type 0 where
  pub long : length vs' ≡ length vs
  pub valued : (j : ℕ) → there? (get_or vs j none) ≡ true → there? (get_or vs' j none) ≡ true

pub keeps_same : (vs : List (Option Float)) → Keeps vs vs
keeps_same vs = record { long = refl; valued = λ j e. e }

pub keeps_on : {us vs ws : List (Option Float)} → Keeps us vs → Keeps vs ws → Keeps us ws
keeps_on g h = record { long = h.long ∙ g.long; valued = λ j e. h.valued j (g.valued j e) }

pub keeps_set : (vs : List (Option Float)) (i : ℕ) (v : Float) → i < length vs → Keeps vs (set vs i (some v))
keeps_set vs i v l =
    record {
      long = length-set vs i (some v);
      valued = λ j e. elim (ℕ_discrete j i) [
        | yes p ↦ subst (λ (n : ℕ). there? (get_or (set vs i (some v)) n none) ≡ true) (sym p) (ap there? (get_or-set_same vs i (some v) none l))
        | no p ↦ ap there? (get_or-set_other vs i j (some v) none p) ∙ e
      ];
    }

the_same : (v x : Float) → ◌≡◌ {A = Option Float} (some v) (some x) → v ≡ x
the_same v x e = cc

-- the row's value v at the end of its calculation, set over values of which Inv holds
record Valued (Inv : List (Option Float) → Type 0) (i : ℕ) (q : Read) (v : Float) : Type 0 where
  value : q.value ≡ v
  before : List (Option Float)
  inv : Inv before
  values : q.mem.values ≡ set before i (some q.value)

module _ (w : World) where
  through : (i : ℕ) (row : Row) (Inv : List (Option Float) → Type 0) (read read' : Reader) {x y : Res Read} {z : Res Float}
      → Goes (Ended w i row Inv read read') x y → Goes Same (y >>= λ r. ok r.value) z → Goes (Valued Inv i) x z
  through i row Inv read read' stops g = stops
  through i row Inv read read' (goes r) (goes e) = goes (record { value = r.value ∙ e; before = r.before; inv = r.inv; values = r.values })

  abbrev pub fresh_at : Key → Res Float
  fresh_at a = fresh w a.object a.id

  abbrev forgets : Reader
  forgets = forgetful (fresh w)

  -- what holds of a row once its calculation is done, its needs read as they are with no memory
  abbrev pub Once : (ℕ → Type 0) → Type 1
  Once Also =
      (a : Key) (f : Found) → find_row a.object a.id 0 w.rows ≡ some f → (Inv : List (Option Float) → Type 0) (read : Reader) (m : Mem) (q : Read)
      → Each (Agree w f.index f.row Inv read forgets) (needs_of w.book f.row) → Inv (set m.values f.index (some f.row.base))
      → calculate w read f.index f.row m ≡ ok q → Also f.index

module _ (w : World) (Also : ℕ → Type 0) where
  -- the value with no memory, and what else holds of row j
  abbrev Settled : ℕ → Float → Type 0
  Settled j v = (fresh_at w (key_at w j) ≡ ok v) × Also j

  -- each value is right, but for those of the rows that are busy
  abbrev pub Right : (ℕ → Type 0) → List (Option Float) → Type 0
  Right Busy vs = (j : ℕ) (v : Float) → get_or vs j none ≡ some v → Busy j ⊎ Settled j v

  -- row i is busy too
  abbrev And : (ℕ → Type 0) → ℕ → ℕ → Type 0
  And Busy i j = Busy j ⊎ (j ≡ i)

  right_start : (Busy : ℕ → Type 0) (vs : List (Option Float)) (i : ℕ) (b : Float) → Right Busy vs → Right (And Busy i) (set vs i (some b))
  right_start Busy vs i b h j v e = elim (ℕ_discrete j i) [
    | yes p ↦ inl (inr p)
    | no p ↦ more (h j v (sym (get_or-set_other vs i j (some b) none p) ∙ e))
  ]
    where
      more : Busy j ⊎ Settled j v → And Busy i j ⊎ Settled j v
      more (inl p) = inl (inl p)
      more (inr q) = inr q

  right_end : (Busy : ℕ → Type 0) (vs : List (Option Float)) (i : ℕ) (x : Float) → i < length vs → Settled i x → Right (And Busy i) vs → Right Busy (set vs i (some x))
  right_end Busy vs i x l f h j v e = elim (ℕ_discrete j i) [
    | yes p ↦ inr (subst (λ (n : ℕ). Settled n v) (sym p) (f.0 ∙ ap ok (own p), f.1))
    | no p ↦ less p (h j v (sym (get_or-set_other vs i j (some x) none p) ∙ e))
  ]
    where
      own : j ≡ i → x ≡ v
      own p = the_same x v (sym (get_or-set_same vs i (some x) none l) ∙ subst (λ (n : ℕ). get_or (set vs i (some x)) n none ≡ some v) p e)

      less : (j ≡ i → ⊥) → And Busy i j ⊎ Settled j v → Busy j ⊎ Settled j v
      less p (inl (inl b)) = inl b
      less p (inl (inr e)) = absurd (p e)
      less p (inr q) = inr q

  -- what reading attribute a gives, from memory m on
  pub record Reading (Busy : ℕ → Type 0) (a : Key) (m : Mem) (q p : Read) : Type 0 where
    pub value : q.value ≡ p.value
    pub right : Right Busy q.mem.values
    pub keeps : Keeps m.values q.mem.values
    pub has : (f : Found) → find_row a.object a.id 0 w.rows ≡ some f → there? (get_or q.mem.values f.index none) ≡ true

  module _ (free : NoLoop w) (also : Once w Also) where
    -- the memory has each row, and the busy ones lead to a
    pub record ReadyFor (Busy : ℕ → Type 0) (a : Key) (m : Mem) : Type 0 where
      pub leading : (j : ℕ) → Busy j → Leads w (key_at w j) a
      pub long : length m.values ≡ length w.rows
      pub right : Right Busy m.values

    -- one that has a value, or is absent
    reads_known : (Busy : ℕ → Type 0) (a : Key) (m m' : Mem) (v : Float) → ReadyFor Busy a m → fresh_at w a ≡ ok v
        → ((f : Found) → find_row a.object a.id 0 w.rows ≡ some f → there? (get_or m.values f.index none) ≡ true)
        → Goes (Reading Busy a m) (ok (record { value = v; mem = m })) (forgets w a.object a.id m')
    reads_known Busy a m m' v r e h =
        subst (λ (x : Res Float). Goes (Reading Busy a m) (ok (record { value = v; mem = m })) (x >>= λ u. ok (record { value = u; mem = m' }))) (sym e)
        (goes (record { value = refl; right = r.right; keeps = keeps_same m.values; has = h }))

    module _ (Busy : ℕ → Type 0) (a : Key) (f : Found) (found : find_row a.object a.id 0 w.rows ≡ some f) (m m' : Mem) (r : ReadyFor Busy a m) where
      -- what holds while the row is calculated
      abbrev Inside : List (Option Float) → Type 0
      Inside vs = Right (And Busy f.index) vs × Keeps m.values vs

      here : f.index < length m.values
      here = omega (arith, (found_at w a f found).within, r.long)

      inside-start : (b : Float) → Inside (set m.values f.index (some b))
      inside-start b = (right_start Busy m.values f.index b r.right, keeps_set m.values f.index b here)

      -- a need of the row: it is ready to be read
      need_ready : (b : Key) (n : Mem) → Needs w a b → Inside n.values → ReadyFor (And Busy f.index) b n
      need_ready b n h v = record { leading = way; long = v.1.long ∙ r.long; right = v.0 }
        where
          way : (j : ℕ) → And Busy f.index j → Leads w (key_at w j) b
          way j (inl p) = leads_on w (r.leading j p) h
          way j (inr e) = last (subst (λ (x : Key). Needs w x b) (sym (ap (key_at w) e ∙ (found_at w a f found).key)) h)

      ended : (q p : Read) → Valued Inside f.index q p.value → fresh_at w a ≡ ok p.value → Also f.index → Reading Busy a m q p
      ended q p v e also-here =
          let l : f.index < length v.before = omega (arith, here, v.inv.1.long) in
          let k = keeps_set v.before f.index q.value l in
          record {
            value = v.value;
            right = subst (Right Busy) (sym v.values) (right_end Busy v.before f.index q.value l (ap (fresh_at w) (found_at w a f found).key ∙ e ∙ ap ok (sym v.value), also-here) v.inv.0);
            keeps = subst (Keeps m.values) (sym v.values) (keeps_on v.inv.1 k);
            has = λ g s. subst (λ (vs : List (Option Float)). there? (get_or vs g.index none) ≡ true) (sym v.values)
                (subst (λ (n : ℕ). there? (get_or (set v.before f.index (some q.value)) n none) ≡ true) (ap (λ (x : Found). x.index) (one g s)) (ap there? (get_or-set_same v.before f.index (some q.value) none l)));
          }
        where
          one : (g : Found) → find_row a.object a.id 0 w.rows ≡ some g → f ≡ g
          one g s = cc

      -- the row's calculation, given how its needs are read
      reads_started : (read : Reader)
          → ((b : Key) → Needs w a b → (n n' : Mem) → Inside n.values → Goes (Reading (And Busy f.index) b n) (read b.object b.id n) (forgets w b.object b.id n'))
          → Goes (Reading Busy a m) (calculate w read f.index f.row m) (forgets w a.object a.id m')
      reads_started read h =
          on_second _ (told-first (told (through w f.index f.row Inside read (forgets w)
          (calculate_goes w f.index f.row Inside read (forgets w) m (blank w.rows) each (inside-start f.row.base))
          (subst (λ (x : Option Found). Goes Same (value_by w (fresh_at w) a x) (fresh_at w a)) found (fresh_goes w free a)))))
          (λ q v g. goes (ended q (record { value = v; mem = m' }) g.0.0 g.0.1 (also a f found Inside read m q each (inside-start f.row.base) g.1)))
        where
          each : Each (Agree w f.index f.row Inside read (forgets w)) (needs_of w.book f.row)
          each =
              each_of (Agree w f.index f.row Inside read (forgets w)) (needs_of w.book f.row)
              (λ b k n n' v. weaker (h b ((found_at w a f found).needed b k) n n' v) (λ q p g. record { value = g.value; inv = (g.right, keeps_on v.1 g.keeps) }))

    -- ---- an attribute that is absent, has a value, or is to be calculated

    reads_by : (Busy : ℕ → Type 0) (a : Key) (m m' : Mem) (start : ℕ → Row → Mem → Res Read) → ReadyFor Busy a m
        → ((f : Found) → find_row a.object a.id 0 w.rows ≡ some f → Goes (Reading Busy a m) (start f.index f.row m) (forgets w a.object a.id m'))
        → Goes (Reading Busy a m) (calculated_value w start a.object a.id m) (forgets w a.object a.id m')
    unfolding calculated_value
    reads_by Busy a m m' start r h = by (find_row a.object a.id 0 w.rows) refl
      where
        known : (f : Found) → find_row a.object a.id 0 w.rows ≡ some f → (v : Float) → get_or m.values f.index none ≡ some v → fresh_at w a ≡ ok v
        known f e v g = right_of (r.right f.index v g)
          where
            right_of : Busy f.index ⊎ Settled f.index v → fresh_at w a ≡ ok v
            right_of (inl b) = absurd (free a (subst (λ (x : Key). Leads w x a) (found_at w a f e).key (r.leading f.index b)))
            right_of (inr q) = ap (fresh_at w) (sym (found_at w a f e).key) ∙ q.0

        valued : (f : Found) → find_row a.object a.id 0 w.rows ≡ some f → (v : Option Float) → get_or m.values f.index none ≡ v
            → Goes (Reading Busy a m) (elim v [ some x ↦ ok (record { value = x; mem = m }) | none ↦ start f.index f.row m ]) (forgets w a.object a.id m')
        valued f e none g = h f e
        valued f e (some x) g =
            reads_known Busy a m m' x r (known f e x g)
            (λ f' e'. let same : f ≡ f' = cc in subst (λ (y : Found). there? (get_or m.values y.index none) ≡ true) same (ap there? g))

        by : (f : Option Found) → find_row a.object a.id 0 w.rows ≡ f
            → Goes (Reading Busy a m)
            (elim f [
              | none ↦ ok (record { value = (get_dogma_attribute w.book a.id).default_value; mem = m })
              | some x ↦ elim (get_or m.values x.index none) [ some v ↦ ok (record { value = v; mem = m }) | none ↦ start x.index x.row m ]
            ]) (forgets w a.object a.id m')
        by none e = reads_known Busy a m m' _ r (fresh_default w a e) (λ f g. nowhere f (sym e ∙ g))
          where
            nowhere : {X : Type 0} (f : Found) → none ≡ some f → X
            nowhere f q = let z : ◌≡◌ {A = ℕ} 0 1 = cc in absurd (omega arith)
        by (some f) e = valued f e (get_or m.values f.index none) refl

    pub reads : (d : ℕ) (Busy : ℕ → Type 0) (a : Key) (m m' : Mem) → ReadyFor Busy a m → Goes (Reading Busy a m) (value_of w d a.object a.id m) (forgets w a.object a.id m')
    unfolding value_of
    reads zero Busy a m m' r = reads_by Busy a m m' (λ i row n. refused (Depth a.object)) r (λ f e. stops)
    reads (suc d) Busy a m m' r =
        reads_by Busy a m m' (λ i row n. calculate w (value_of w d) i row n) r
        (λ f e. reads_started Busy a f e m m' r (value_of w d) (λ b h n n' v. reads d (And Busy f.index) b n n' (need_ready Busy a f e m m' r b n h v)))
