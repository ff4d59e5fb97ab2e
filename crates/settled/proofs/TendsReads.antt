-- Where no attribute leads back to itself, and every listed value is what the rules give from the others, a run that has come to the
-- values is refused for depth or room alone, and every value that it has is the listed one.
use Prim.Native.Nat.{ℕ, zero, suc, ◌<◌}
use native.Mathlib.Omega.{arith}
use mathlib.Core.Path.{◌≡◌, refl, sym, ap, subst, ◌∙◌}
use mathlib.Core.Bool.{true}
use mathlib.Core.List.{List, [], ◌∷◌, map}
use mathlib.Core.Logic.{◌⊎◌, inl, inr}
use mathlib.Core.Option.{Option, none, some}
use native.Mathlib.Decide.{ℕ_discrete}
use lib.Ieee.{Float}
use lib.ListN.{length, get_or, set, length-set, length-map}
use lib.Seq.{get_or-set_same, get_or-set_other}
use Rattle.rules.specs.Answer.{Res, ok, refused, ◌>>=◌}
use Rattle.rules.specs.Dispatch.{Row, Key}
use Rattle.rules.specs.Info.{get_dogma_attribute}
use Rattle.rules.specs.Outcome.{blank, valued}
use Rattle.rules.specs.Value.{World, Mem, Read, Reader, Found, find_row, calculate, calculated_value, value_of}
use Rattle.rules.specs.Fresh.{forgetful, needs_of, Leads, last, next}
use Rattle.rules.specs.declared.Ask.{Ask}
use Rattle.rules.specs.declared.Refusal.{Refusal}
use Rattle.rules.specs.declared.Refusal.TheVariants.{Room, Depth}
use Rattle.promises.specs.NoMemory.{no_row, key_at, Needs, NoLoop}
use Rattle.promises.proofs.NoMemorySteps.{Each}
use Rattle.promises.proofs.NoMemoryReads.{leads_on}
use Rattle.promises.proofs.Ranks.{Within, within_rows, found_at, each_of}
use Rattle.settled.specs.Given.{listed_reader, RightAt, Accepted}
use Rattle.settled.proofs.Tends.{Tends, stops, tends, short, on, rests, weaker}
use Rattle.settled.proofs.TendsSteps.{Agree, Ended, calculate_tends}
use Rattle.settled.proofs.Parts.{parts}
use Rattle.settled.proofs.Accepted.{right_found, listed_is, listed_default}

the_same : (v x : Float) → ◌≡◌ {A = Option Float} (some v) (some x) → v ≡ x
the_same v x e = cc

-- what the run may be refused for, and what makes it deep enough
pub record Enough (w : World) (Wanted : Refusal → Type 0) (Deep : ℕ → Key → Type 0) : Type 0 where
  pub no_room : w.recording ≡ true → Wanted (Room 5)
  pub at_end_lem : (a : Key) (f : Found) → Deep zero a → find_row a.object a.id 0 w.rows ≡ some f → Wanted (Depth a.object)
  pub below : (d : ℕ) (a b : Key) → Deep (suc d) a → Needs w a b → Deep d b

module _ (w : World) (vs : List (Option Float)) (free : NoLoop w) (all : Accepted w vs) (Wanted : Refusal → Type 0) (Deep : ℕ → Key → Type 0) (enough : Enough w Wanted Deep) where
  abbrev forgets : Reader
  forgets = forgetful (listed_reader w vs)

  -- each value is the listed one, but for those of the rows that are busy
  abbrev Right : (ℕ → Type 0) → List (Option Float) → Type 0
  Right Busy us = (j : ℕ) (v : Float) → get_or us j none ≡ some v → Busy j ⊎ (get_or vs j none ≡ some v)

  abbrev And : (ℕ → Type 0) → ℕ → ℕ → Type 0
  And Busy i j = Busy j ⊎ (j ≡ i)

  right_start : (Busy : ℕ → Type 0) (us : List (Option Float)) (i : ℕ) (b : Float) → Right Busy us → Right (And Busy i) (set us i (some b))
  right_start Busy us i b h j v e = elim (ℕ_discrete j i) [
    | yes p ↦ inl (inr p)
    | no p ↦ more (h j v (sym (get_or-set_other us i j (some b) none p) ∙ e))
  ]
    where
      more : Busy j ⊎ (get_or vs j none ≡ some v) → And Busy i j ⊎ (get_or vs j none ≡ some v)
      more (inl p) = inl (inl p)
      more (inr q) = inr q

  right_end : (Busy : ℕ → Type 0) (us : List (Option Float)) (i : ℕ) (x : Float) → i < length us → get_or vs i none ≡ some x → Right (And Busy i) us → Right Busy (set us i (some x))
  right_end Busy us i x l f h j v e = elim (ℕ_discrete j i) [
    | yes p ↦ inr (ap (λ (n : ℕ). get_or vs n none) p ∙ f ∙ ap some (own p))
    | no p ↦ less p (h j v (sym (get_or-set_other us i j (some x) none p) ∙ e))
  ]
    where
      own : j ≡ i → x ≡ v
      own p = the_same x v (sym (get_or-set_same us i (some x) none l) ∙ subst (λ (n : ℕ). get_or (set us i (some x)) n none ≡ some v) p e)

      less : (j ≡ i → ⊥) → And Busy i j ⊎ (get_or vs j none ≡ some v) → Busy j ⊎ (get_or vs j none ≡ some v)
      less p (inl (inl b)) = inl b
      less p (inl (inr e)) = absurd (p e)
      less p (inr q) = inr q

  -- what reading gives, from the listing and with the memory
  record Reading (Busy : ℕ → Type 0) (p q : Read) : Type 0 where
    value : p.value ≡ q.value
    right : Right Busy q.mem.values
    long : length q.mem.values ≡ length w.rows

  -- the memory has each row, and the busy ones lead to a
  record Ready (Busy : ℕ → Type 0) (a : Key) (m : Mem) : Type 0 where
    leading : (j : ℕ) → Busy j → Leads w (key_at w j) a
    long : length m.values ≡ length w.rows
    right : Right Busy m.values

  module _ (Busy : ℕ → Type 0) (a : Key) (f : Found) (found : find_row a.object a.id 0 w.rows ≡ some f) (m : Mem) (r : Ready Busy a m) where
    abbrev Inside : List (Option Float) → Type 0
    Inside us = Right (And Busy f.index) us × (length us ≡ length w.rows)

    here : f.index < length w.rows
    here = (found_at w a f found).within

    inside-start : (b : Float) → Inside (set m.values f.index (some b))
    inside-start b = (right_start Busy m.values f.index b r.right, length-set m.values f.index (some b) ∙ r.long)

    need_ready : (b : Key) (n : Mem) → Needs w a b → Inside n.values → Ready (And Busy f.index) b n
    need_ready b n h v = record { leading = way; long = v.1; right = v.0 }
      where
        way : (j : ℕ) → And Busy f.index j → Leads w (key_at w j) b
        way j (inl p) = leads_on w (r.leading j p) h
        way j (inr e) = last (subst (λ (x : Key). Needs w x b) (sym (ap (key_at w) e ∙ (found_at w a f found).key)) h)

    reads_started : (read : Reader) (x : Float) (m' : Mem) → get_or vs f.index none ≡ some x
        → ((b : Key) → Needs w a b → (n n' : Mem) → Inside n'.values → Tends Wanted (Reading (And Busy f.index)) (forgets b.object b.id n) (read b.object b.id n'))
        → Tends Wanted (Reading Busy) (ok (record { value = x; mem = m' })) (calculate w read f.index f.row m)
    reads_started read x m' g h =
        let p = parts w vs f.index f.row x (right_found w vs free all a f found x g) in
        rests _ p.read _ (calculate w read f.index f.row m) p.first
        (calculate_tends Wanted w enough.no_room f.index f.row Inside forgets read (blank w.rows) m p.quiet each (inside-start f.row.base))
        (λ q e. ended p.read q p.value e)
      where
        each : Each (Agree Wanted w enough.no_room f.index f.row Inside forgets read) (needs_of w.book f.row)
        each =
            each_of (Agree Wanted w enough.no_room f.index f.row Inside forgets read) (needs_of w.book f.row)
            (λ b k n n' v. weaker (h b ((found_at w a f found).needed b k) n n' v) (λ q p g. record { value = g.value; inv = (g.right, g.long) }))

        ended : (p q : Read) → p.value ≡ x → Ended Wanted w enough.no_room f.index f.row Inside forgets read p q → Reading Busy (record { value = x; mem = m' }) q
        ended p q same e =
            let v : x ≡ q.value = sym same ∙ e.value in
            let l : f.index < length e.before = omega (arith, here, e.inv.1) in
            record {
              value = v;
              right = subst (Right Busy) (sym e.values) (right_end Busy e.before f.index q.value l (g ∙ ap some v) e.inv.0);
              long = ap length e.values ∙ length-set e.before f.index (some q.value) ∙ e.inv.1;
            }

  reads_by : (Busy : ℕ → Type 0) (a : Key) (m m' : Mem) (start : ℕ → Row → Mem → Res Read) → Ready Busy a m
      → ((f : Found) → find_row a.object a.id 0 w.rows ≡ some f → (x : Float) → get_or vs f.index none ≡ some x → Tends Wanted (Reading Busy) (ok (record { value = x; mem = m' })) (start f.index f.row m))
      → Tends Wanted (Reading Busy) (forgets a.object a.id m') (calculated_value w start a.object a.id m)
  unfolding calculated_value listed_reader
  reads_by Busy a m m' start r h = by (find_row a.object a.id 0 w.rows) refl
    where
      in_memory : (f : Found) → find_row a.object a.id 0 w.rows ≡ some f → (x : Float) → get_or vs f.index none ≡ some x → (v : Option Float) → get_or m.values f.index none ≡ v
          → Tends Wanted (Reading Busy) (ok (record { value = x; mem = m' })) (elim v [ some y ↦ ok (record { value = y; mem = m }) | none ↦ start f.index f.row m ])
      in_memory f e x g none k = h f e x g
      in_memory f e x g (some y) k = tends (record { value = right_of (r.right f.index y k); right = r.right; long = r.long })
        where
          right_of : Busy f.index ⊎ (get_or vs f.index none ≡ some y) → x ≡ y
          right_of (inl b) = absurd (free a (subst (λ (z : Key). Leads w z a) (found_at w a f e).key (r.leading f.index b)))
          right_of (inr q) = the_same x y (sym g ∙ q)

      in_listing : (f : Found) → find_row a.object a.id 0 w.rows ≡ some f → (v : Option Float) → get_or vs f.index none ≡ v
          → Tends Wanted (Reading Busy) (elim v [ some x ↦ ok x | none ↦ refused (Depth a.object) ] >>= λ x. ok (record { value = x; mem = m' }))
          (elim (get_or m.values f.index none) [ some y ↦ ok (record { value = y; mem = m }) | none ↦ start f.index f.row m ])
      in_listing f e none g = stops
      in_listing f e (some x) g = in_memory f e x g (get_or m.values f.index none) refl

      by : (f : Option Found) → find_row a.object a.id 0 w.rows ≡ f
          → Tends Wanted (Reading Busy)
          (elim f [
            | none ↦ ok (get_dogma_attribute w.book a.id).default_value
            | some f ↦ elim (get_or vs f.index none) [ some v ↦ ok v | none ↦ refused (Depth a.object) ]
          ] >>= λ x. ok (record { value = x; mem = m' }))
          (elim f [
            | none ↦ ok (record { value = (get_dogma_attribute w.book a.id).default_value; mem = m })
            | some f ↦ elim (get_or m.values f.index none) [ some v ↦ ok (record { value = v; mem = m }) | none ↦ start f.index f.row m ]
          ])
      by none e = tends (record { value = refl; right = r.right; long = r.long })
      by (some f) e = in_listing f e (get_or vs f.index none) refl

  reads : (d : ℕ) (Busy : ℕ → Type 0) (a : Key) (m m' : Mem) → Deep d a → Ready Busy a m → Tends Wanted (Reading Busy) (forgets a.object a.id m') (value_of w d a.object a.id m)
  unfolding value_of
  reads zero Busy a m m' deep r = reads_by Busy a m m' (λ i row n. refused (Depth a.object)) r (λ f e x g. short (enough.at_end_lem a f deep e))
  reads (suc d) Busy a m m' deep r =
      reads_by Busy a m m' (λ i row n. calculate w (value_of w d) i row n) r
      (λ f e x g. reads_started Busy a f e m r (value_of w d) x m' g (λ b h n n' v. reads d (And Busy f.index) b n' n (enough.below d a b deep h) (need_ready Busy a f e m r b n' h v)))

  -- ---- asks and walk

  abbrev Nobody : ℕ → Type 0
  Nobody j = ⊥

  pub record Standing (m : Mem) : Type 0 where
    pub long : length m.values ≡ length w.rows
    pub right : Right Nobody m.values

  -- done with the listed values, or short
  pub data Tended : Res Mem → Type 0 where
    done : {m : Mem} → Standing m → Tended (ok m)
    wanting : {x : Refusal} → Wanted x → Tended (refused x)

  -- the listing has a value for each attribute
  record Has (a : Key) : Type 0 where
    value : Float
    is : listed_reader w vs a.object a.id ≡ ok value

  listed_has : (a : Key) → Has a
  listed_has a = by (find_row a.object a.id 0 w.rows) refl
    where
      by : (f : Option Found) → find_row a.object a.id 0 w.rows ≡ f → Has a
      by none e = record { value = (get_dogma_attribute w.book a.id).default_value; is = listed_default w vs a.object a.id e }
      by (some f) e = let r = all.right f.index (found_at w a f e).within in record { value = r.value; is = listed_is w vs a.object a.id f e r.value r.listed }

  -- one start, and what follows it
  start_tends : (d : ℕ) (k : Ask) (m : Mem) (rest : Mem → Res Mem) → Deep d (record { object = k.object; id = k.attribute_id }) → Standing m → ((n : Mem) → Standing n → Tended (rest n))
      → Tended (value_of w d k.object k.attribute_id m >>= λ q. rest q.mem)
  start_tends d k m rest deep s h =
      by (value_of w d k.object k.attribute_id m)
      (subst (λ (x : Res Read). Tends Wanted (Reading Nobody) x (value_of w d k.object k.attribute_id m)) has (reads d Nobody key m m deep (record { leading = λ j b. absurd b; long = s.long; right = s.right })))
    where
      key : Key
      key = record { object = k.object; id = k.attribute_id }

      has : forgets k.object k.attribute_id m ≡ ok (record { value = (listed_has key).value; mem = m })
      has = ap (λ (x : Res Float). x >>= λ v. ok (record { value = v; mem = m })) (listed_has key).is

      by : (y : Res Read) → Tends Wanted (Reading Nobody) (ok (record { value = (listed_has key).value; mem = m })) y → Tended (y >>= λ q. rest q.mem)
      by y (tends {b = q} g) = h q.mem (record { long = g.long; right = g.right })
      by y (short x) = wanting x

  pub all_tend : (d : ℕ) → ((a : Key) → Deep d a) → (starts : List Ask) (m : Mem) → Standing m → Tended (valued w d starts m)
  unfolding valued
  all_tend d deep [] m s = done s
  all_tend d deep (k ∷ r) m s = start_tends d k m (valued w d r) (deep _) s (λ n t. all_tend d deep r n t)

  -- nothing is valued at first
  pub blank-standing : Standing (blank w.rows)
  blank-standing = record { long = length-map w.rows (λ r. none); right = λ j v e. absurd (none_there w.rows j v e) }
    where
      none_there : (rs : List Row) (j : ℕ) (v : Float) → get_or (map (λ r. none) rs) j none ≡ some v → ⊥
      none_there [] j v e = let z : ◌≡◌ {A = ℕ} 0 1 = cc in absurd (omega arith)
      none_there (r ∷ rs) zero v e = let z : ◌≡◌ {A = ℕ} 0 1 = cc in absurd (omega arith)
      none_there (r ∷ rs) (suc j) v e = none_there rs j v e

  pub values_tend : (d : ℕ) → ((a : Key) → Deep d a) → (starts : List Ask) → Tended (valued w d starts (blank w.rows))
  values_tend d deep starts = all_tend d deep starts (blank w.rows) blank-standing

-- ---- at any depth, and with the limit lifted

pub data DepthOrRoom : Refusal → Type 0 where
  depth : (o : ℕ) → DepthOrRoom (Depth o)
  room : DepthOrRoom (Room 5)

pub data OnlyRoom (w : World) : Refusal → Type 0 where
  room5 : w.recording ≡ true → OnlyRoom w (Room 5)

pub at_any : (w : World) → Enough w DepthOrRoom (λ d a. Unit {0})
at_any w = record { no_room = λ t. room; at_end_lem = λ a f t e. depth a.object; below = λ d a b t n. tt }

pub lifted : (w : World) → Enough w (OnlyRoom w) (Within w)
lifted w = record { no_room = λ t. room5 t; at_end_lem = λ a f none_there e. nowhere f (sym none_there ∙ e); below = λ d a b h n. h b n }
  where
    nowhere : {X : Type 0} (f : Found) → none ≡ some f → X
    nowhere f q = let z : ◌≡◌ {A = ℕ} 0 1 = cc in absurd (omega arith)

-- the values of a sheet whose listing is accepted are the listed ones, or depth or room is short
pub accepted_tends : (w : World) (vs : List (Option Float)) (free : NoLoop w) (all : Accepted w vs) (d : ℕ) (starts : List Ask)
    → Tended w vs free all DepthOrRoom (λ d a. Unit {0}) (at_any w) (valued w d starts (blank w.rows))
accepted_tends w vs free all d starts = values_tend w vs free all DepthOrRoom (λ d a. Unit {0}) (at_any w) d (λ a. tt) starts

-- "wholly ours, depth limit lifted": as deep as there are rows, only the room of list 5 can be short, where source rows are recorded
pub accepted_lifted : (w : World) (vs : List (Option Float)) (free : NoLoop w) (all : Accepted w vs) (starts : List Ask)
    → Tended w vs free all (OnlyRoom w) (Within w) (lifted w) (valued w (length w.rows) starts (blank w.rows))
accepted_lifted w vs free all starts = values_tend w vs free all (OnlyRoom w) (Within w) (lifted w) (length w.rows) (within_rows w free) starts
