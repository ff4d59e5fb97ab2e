-- The object that a taken effect is of, and the one that it is aimed at, are in the fit.
use Prim.Native.Nat.{ℕ, zero, suc, ◌-◌, ◌<◌, suc-le-suc, zero-le}
use native.Mathlib.Omega.{arith}
use mathlib.Core.Path.{◌≡◌, refl, sym, ap, subst, ◌∙◌}
use mathlib.Core.Bool.{true, false, ◌&&◌, ◌||◌, not, cond}
use mathlib.Core.List.{List, [], ◌∷◌}
use lib.Dec.{eqb, leb}
use lib.ListN.{length, get_or}
use Rattle.laws.proofs.Bools.{both_ways, not-not}
use Rattle.rules.specs.Sheet.{Book, Fit}
use Rattle.rules.specs.Item.{object, no_item, is_item, is_charge, has_charge, item_of, char_of}
use Rattle.rules.specs.Collect.{go, over, bad, test_domain, test_projected_domain}
use Rattle.rules.specs.Columns.{origin_numbers}
use Rattle.rules.specs.declared.DogmaModifier.{DogmaModifier}
use Rattle.rules.specs.declared.Item.{Item}
use Rattle.rules.specs.declared.Pass2Effect.{Pass2Effect}
use Rattle.rules.specs.declared.Refusal.TheVariants.{Domain, Other}
use Rattle.modifier.specs.Causes.{Cause}
use Rattle.modifier.specs.Causes as cause
use Rattle.collect.specs.Takes.{Goes, Of, Member, Caused, Collects, origin_of}
use Rattle.collect.proofs.Taking.{goes_if, goes_cond}

-- past the last object there is no charge
charge_there : (xs : List Item) (i : ℕ) → is_charge (get_or xs i no_item) ≡ true → i < length xs
charge_there [] i e = both_ways {t = false} e refl
charge_there (x ∷ xs) zero e = suc-le-suc zero-le
charge_there (x ∷ xs) (suc i) e = suc-le-suc (charge_there xs i e)

module _ (f : Fit) (char : char_of f < length f.objects) (numbered : (i : ℕ) → i < length f.objects → (object f i).number ≡ i) where
  abbrev In : ℕ → Type 0
  In n = n < length f.objects

  first_in_lem : In 0
  first_in_lem = omega (arith, char)

  object_in_lem : (o : Item) → Member f.objects o → In o.number
  object_in_lem o l = subst In (sym (ap (λ (x : Item). x.number) (l.is no_item) ∙ numbered l.at l.inside)) l.inside

  module _ (o : Item) (m : DogmaModifier) (h : In o.number) where
    item_in : In (item_of f o).number
    item_in =
        let before : In (o.number - 1) = omega arith in
        subst In (sym (numbered (o.number - 1) before)) before

    charge_in : is_item o && eqb m.domain 3 && not (has_charge f o) ≡ false → eqb m.domain 3 ≡ true → is_item o ≡ true → In (suc o.number)
    charge_in u d i = charge_there f.objects (suc o.number) (sym (not-not (has_charge f o)) ∙ ap not (rw (i, d) at u))

    own_in : is_item o && eqb m.domain 3 && not (has_charge f o) ≡ false → Goes In (test_domain f o m)
    unfolding test_domain
    own_in u =
        goes_cond In (eqb m.domain 0) (go o.number) _ h
        (goes_cond In (eqb m.domain 1 || eqb m.domain 4) (go 0) _ first_in_lem
        (goes_cond In (eqb m.domain 2) (go (char_of f)) _ char
        (goes_if In (eqb m.domain 3) (cond (is_item o) (go (suc o.number)) (cond (is_charge o) (go (item_of f o).number) (bad (Other m.number)))) _
        (λ d. goes_if In (is_item o) (go (suc o.number)) _ (charge_in u d) (goes_cond In (is_charge o) (go (item_of f o).number) (bad (Other m.number)) item_in tt))
        (goes_cond In (eqb m.domain 5 || eqb m.domain 6) over (bad (Domain m.number)) tt tt))))

  projected_in : (m : DogmaModifier) → Goes In (test_projected_domain f m)
  unfolding test_projected_domain
  projected_in m =
      goes_cond In (eqb m.domain 1 || leb 4 m.domain && leb m.domain 6) (go 0) _ first_in_lem
      (goes_cond In (eqb m.domain 2) (go (char_of f)) _ char
      (goes_cond In (eqb m.domain 0 || eqb m.domain 3) over (bad (Domain m.number)) tt tt))

  module _ (k : Book) (t : Pass2Effect) where
    aimed_in : (c : Cause) (m : DogmaModifier) → Caused k f c → Of f c m t → In t.target
    aimed_in (cause.own w e c) m a o = subst (Goes In) o.aim (own_in w.item m (object_in_lem w.item a.0) o.met)
    aimed_in (cause.projected w e c r) m a o = subst (Goes In) o.aim (projected_in m)
    aimed_in (cause.buff b op) m a o = subst (Goes In) o.aim first_in_lem

    from_in : (c : Cause) (m : DogmaModifier) → Caused k f c → In (get_or (origin_numbers (origin_of c m)) 2 0)
    from_in (cause.own w e c) m a = object_in_lem w.item a.0
    from_in (cause.projected w e c r) m a = object_in_lem w.item a.0
    from_in (cause.buff b op) m a = first_in_lem

    pub target_in : Collects k f t → t.target < length f.objects
    target_in c = aimed_in c.cause c.modifier c.caused c.of

    -- number 2 of its row: its object, and 0 for a buff
    pub source_in : Collects k f t → get_or (origin_numbers t.origin) 2 0 < length f.objects
    source_in c = rw c.of.origin (from_in c.cause c.modifier c.caused)
