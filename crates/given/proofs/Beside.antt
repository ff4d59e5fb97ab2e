-- A row's calculation with its own value taken out of the column, beside the same over the listing: nothing that it needs is its own.
use Prim.Native.Nat.{ℕ, ◌<◌}
use native.Mathlib.Decide.{ℕ_discrete}
use native.Mathlib.Omega.{arith}
use mathlib.Core.Path.{◌≡◌, refl, sym, ap, subst, ◌∙◌}
use mathlib.Core.Bool.{true}
use mathlib.Core.List.{List}
use mathlib.Core.Option
use mathlib.Core.Option.{Option, none, some}
use lib.Dec.{T}
use lib.Ieee.{Float, nan}
use lib.ListN.{length, get_or, set, length-set}
use lib.Seq.{ext_get_or, get_or-set_same, get_or-set_other}
use Rattle.laws.specs.Lists.{some?}
use Rattle.laws.proofs.Bools.{both_ways}
use Rattle.rules.specs.Answer.{Res, ok, refused, ◌>>=◌}
use Rattle.rules.specs.Dispatch.{Row, Key, same_key}
use Rattle.rules.specs.Outcome.{blank}
use Rattle.rules.specs.Value.{World, Mem, Read, Found, find_row, calculate, value_of}
use Rattle.rules.specs.Fresh.{unrecorded, needs_of, last}
use Rattle.rules.specs.declared.Refusal.{Refusal}
use Rattle.rules.specs.declared.Refusal.TheVariants.{Depth}
use Rattle.rules.proofs.Results.{apart}
use Rattle.promises.specs.NoMemory.{key_at, Needs, NoLoop}
use Rattle.promises.proofs.NoMemoryGoes.{Goes, stops, goes, second}
use Rattle.promises.proofs.NoMemorySteps as first
use Rattle.promises.proofs.NoMemorySteps.{Each, calculate_goes}
use Rattle.promises.proofs.Ranks.{found_at, each_of}
use Rattle.memory.specs.Memory.{value_column}
use Rattle.memory.specs.Steps.{row_at}
use Rattle.memory.proofs.Nanned.{shown_at, shown_length}
use Rattle.memory.proofs.Readings.{absent, known, deep}
use Rattle.settled.specs.Given.{listed_reader}
use Rattle.settled.proofs.Accepted.{listed_is, listed_default}
use Rattle.settled.proofs.Tends.{Tends, stops, tends, short}
use Rattle.settled.proofs.Tends as tending
use Rattle.settled.proofs.TendsSteps as second
use Rattle.settled.proofs.TendsSteps.{calculate_tends}
use Rattle.given.specs.Judging.{looks, calculated_from}

-- a row of the listing that has no value
pub listed_none : (w : World) (vs : List (Option Float)) (b : Key) (f : Found) → find_row b.object b.id 0 w.rows ≡ some f → get_or vs f.index none ≡ none → listed_reader w vs b.object b.id ≡ refused (Depth b.object)
unfolding listed_reader
listed_none w vs b f e g = rw (listed_reader, e, g) refl

module _ (w : World) (vs : List (Option Float)) (free : NoLoop w) (i : ℕ) (inside : i < length vs)
    (its : find_row (key_at w i).object (key_at w i).id 0 w.rows ≡ some (record { index = i; row = row_at w i })) where
  -- all but row i's value are the listed ones
  abbrev pub But : List (Option Float) → Type 0
  But us = (length us ≡ length vs) × ((j : ℕ) → (j ≡ i → ⊥) → get_or us j none ≡ get_or vs j none)

  pub but_set : (us : List (Option Float)) (o : Option Float) → But us → But (set us i o)
  but_set us o h = (length-set us i o ∙ h.0, λ j n. get_or-set_other us i j o none n ∙ h.1 j n)

  but_all : But vs
  but_all = (refl, λ j n. refl)

  pub taken_out : But (set vs i none)
  taken_out = but_set vs none but_all

  -- what row i needs is not its own
  another : (b : Key) → T (some? (same_key b) (needs_of w.book (row_at w i))) → (f : Found) → find_row b.object b.id 0 w.rows ≡ some f → f.index ≡ i → ⊥
  another b h f e same =
      let key : key_at w i ≡ b = ap (key_at w) (sym same) ∙ (found_at w b f e).key in
      free (key_at w i) (last (subst (λ (x : Key). Needs w (key_at w i) x) (sym key) ((found_at w (key_at w i) (record { index = i; row = row_at w i }) its).needed b h)))

  -- reading it off the column is reading it off the listing
  reads_same : (b : Key) → T (some? (same_key b) (needs_of w.book (row_at w i))) → (n : Mem) → But n.values → value_of (unrecorded w) 0 b.object b.id n ≡ looks w vs b.object b.id n
  reads_same b h n v = by (find_row b.object b.id 0 w.rows) refl
    where
      over : {x : Res Float} → listed_reader w vs b.object b.id ≡ x → (x >>= λ u. ok (record { value = u; mem = n })) ≡ looks w vs b.object b.id n
      over e = ap (λ (y : Res Float). y >>= λ u. ok (record { value = u; mem = n })) (sym e)

      at : (f : Found) → find_row b.object b.id 0 w.rows ≡ some f → (o : Option Float) → get_or vs f.index none ≡ o → get_or n.values f.index none ≡ o → value_of (unrecorded w) 0 b.object b.id n ≡ looks w vs b.object b.id n
      at f e (some u) p q = known (unrecorded w) b.object b.id n e 0 q ∙ over (listed_is w vs b.object b.id f e u p)
      at f e none p q = deep (unrecorded w) b.object b.id n e q ∙ over (listed_none w vs b f e p)

      by : (o : Option Found) → find_row b.object b.id 0 w.rows ≡ o → value_of (unrecorded w) 0 b.object b.id n ≡ looks w vs b.object b.id n
      by none e = absent (unrecorded w) b.object b.id n 0 e ∙ over (listed_default w vs b.object b.id e)
      by (some f) e = at f e (get_or vs f.index none) refl (v.1 f.index (another b h f e))

  -- ---- the two calculations

  abbrev row : Row
  row = row_at w i

  abbrev pub own_calculation : Mem → Res Read
  own_calculation m = calculate (unrecorded w) (value_of (unrecorded w) 0) i (row_at w i) m

  module _ (m : Mem) (b : But m.values) where
    goes_there : Goes (first.Ended (unrecorded w) i row But (value_of (unrecorded w) 0) (looks w vs)) (own_calculation m) (calculated_from w vs i)
    goes_there = calculate_goes (unrecorded w) i row But (value_of (unrecorded w) 0) (looks w vs) m (blank w.rows) each (but_set m.values (some row.base) b)
      where
        agree : (k : Key) → T (some? (same_key k) (needs_of w.book row)) → (n n' : Mem) → But n.values
            → Goes (first.Got (unrecorded w) i row But (value_of (unrecorded w) 0) (looks w vs)) (value_of (unrecorded w) 0 k.object k.id n) (looks w vs k.object k.id n')
        agree k h n n' v =
            subst (λ (x : Res Read). Goes (first.Got (unrecorded w) i row But (value_of (unrecorded w) 0) (looks w vs)) x (looks w vs k.object k.id n')) (sym (reads_same k h n v)) (by (listed_reader w vs k.object k.id))
          where
            by : (x : Res Float) → Goes (first.Got (unrecorded w) i row But (value_of (unrecorded w) 0) (looks w vs)) (x >>= λ u. ok (record { value = u; mem = n })) (x >>= λ u. ok (record { value = u; mem = n' }))
            by (ok u) = goes (record { value = refl; inv = v })
            by (refused y) = stops

        each : Each (first.Agree (unrecorded w) i row But (value_of (unrecorded w) 0) (looks w vs)) (needs_of w.book row)
        each = each_of (first.Agree (unrecorded w) i row But (value_of (unrecorded w) 0) (looks w vs)) (needs_of w.book row) (λ k h n n' v. agree k h n n' v)

    abbrev Nothing : Refusal → Type 0
    Nothing y = ⊥

    abbrev no_room : (unrecorded w).recording ≡ true → ⊥
    no_room e = both_ways e refl

    tends_back : Tends Nothing (second.Ended Nothing (unrecorded w) no_room i row But (looks w vs) (value_of (unrecorded w) 0)) (calculated_from w vs i) (own_calculation m)
    tends_back = calculate_tends Nothing (unrecorded w) no_room i row But (looks w vs) (value_of (unrecorded w) 0) (blank w.rows) m (λ e n. both_ways e refl) each (but_set m.values (some row.base) b)
      where
        agree : (k : Key) → T (some? (same_key k) (needs_of w.book row)) → (n n' : Mem) → But n'.values
            → Tends Nothing (second.Got Nothing (unrecorded w) no_room i row But (looks w vs) (value_of (unrecorded w) 0)) (looks w vs k.object k.id n) (value_of (unrecorded w) 0 k.object k.id n')
        agree k h n n' v =
            subst (λ (x : Res Read). Tends Nothing (second.Got Nothing (unrecorded w) no_room i row But (looks w vs) (value_of (unrecorded w) 0)) (looks w vs k.object k.id n) x) (sym (reads_same k h n' v)) (by (listed_reader w vs k.object k.id))
          where
            by : (x : Res Float) → Tends Nothing (second.Got Nothing (unrecorded w) no_room i row But (looks w vs) (value_of (unrecorded w) 0)) (x >>= λ u. ok (record { value = u; mem = n })) (x >>= λ u. ok (record { value = u; mem = n' }))
            by (ok u) = tends (record { value = refl; inv = v })
            by (refused y) = tending.stops

        each : Each (second.Agree Nothing (unrecorded w) no_room i row But (looks w vs) (value_of (unrecorded w) 0)) (needs_of w.book row)
        each = each_of (second.Agree Nothing (unrecorded w) no_room i row But (looks w vs) (value_of (unrecorded w) 0)) (needs_of w.book row) (λ k h n n' v. agree k h n n' v)

    -- the one has a value: so has the other, the same, and all other values stand
    pub record Both (p : Read) : Type 0 where
      pub read : Read
      pub is : calculated_from w vs i ≡ ok read
      pub value : p.value ≡ read.value
      pub rest : But p.mem.values

    pub both : (p : Read) → own_calculation m ≡ ok p → Both p
    both p e =
        let s = second goes_there e in
        record { read = s.given; is = s.is; value = s.related.value; rest = subst But (sym s.related.values) (but_set s.related.before (some p.value) s.related.inv) }

    pub neither : (y : Refusal) → own_calculation m ≡ refused y → (q : Read) → calculated_from w vs i ≡ ok q → ⊥
    neither y e q k = by (own_calculation m) e (subst (λ (x : Res Read). Tends Nothing (second.Ended Nothing (unrecorded w) no_room i row But (looks w vs) (value_of (unrecorded w) 0)) x (own_calculation m)) k tends_back)
      where
        by : (x : Res Read) → x ≡ refused y → Tends Nothing (second.Ended Nothing (unrecorded w) no_room i row But (looks w vs) (value_of (unrecorded w) 0)) (ok q) x → ⊥
        by x r (tends h) = apart (sym r)
        by x r (short h) = h

  -- the listed value put back
  pub put_back : (us : List (Option Float)) → But us → set (value_column us) i (get_or (value_column vs) i nan) ≡ value_column vs
  put_back us h = ext_get_or nan (set (value_column us) i (get_or (value_column vs) i nan)) (value_column vs) (length-set (value_column us) i (get_or (value_column vs) i nan) ∙ long) (λ j l. at j)
    where
      long : length (value_column us) ≡ length (value_column vs)
      long = shown_length us ∙ h.0 ∙ sym (shown_length vs)

      at : (j : ℕ) → get_or (set (value_column us) i (get_or (value_column vs) i nan)) j nan ≡ get_or (value_column vs) j nan
      at j = elim (ℕ_discrete j i) [
        | yes p ↦ subst (λ (n : ℕ). get_or (set (value_column us) i (get_or (value_column vs) i nan)) n nan ≡ get_or (value_column vs) n nan) (sym p)
            (get_or-set_same (value_column us) i (get_or (value_column vs) i nan) nan (omega (arith, inside, h.0, shown_length us)))
        | no p ↦ get_or-set_other (value_column us) i j (get_or (value_column vs) i nan) nan p ∙ shown_at us j ∙ ap (λ (o : Option Float). Option.get_or o nan) (h.1 j p) ∙ sym (shown_at vs j)
      ]
