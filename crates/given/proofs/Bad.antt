-- The first bad line, by its key or by its value.
use Rattle.laws.specs.Options.{option_of}
use Rattle.std.specs.Prelude.{None, Some}
use Rattle.std.specs.Prelude as code
use Prim.Native.Nat.{ℕ, zero, suc}
use native.Mathlib.Omega.{arith}
use mathlib.Core.Path.{◌≡◌, refl, sym, ap, subst, ◌∙◌}
use mathlib.Core.Bool.{Bool, true, false, cond}
use mathlib.Core.List.{List, [], ◌∷◌, ◌++◌, map}
use mathlib.Core.Option.{Option, none, some}
use lib.Dec.{T}
use lib.Ieee.{Float, binary64, of_bits}
use lib.ListN.{length, length-map}
use Rattle.laws.specs.Columns.{Col}
use Rattle.laws.specs.Floats.{finite}
use Rattle.laws.proofs.Maps.{map-map}
use Rattle.laws.proofs.Scans.{drop_end}
use Rattle.rules.specs.Dispatch.{Key, same_key}
use Rattle.promises.specs.NoMemory.{key_of}
use Rattle.memory.specs.Holding.{Tables}
use Rattle.memory.specs.Memory.{value_column, AllFinite}
use Rattle.settled.specs.Lines.{Line, line_of, value_in, values_of, finite_only, first_other, first_wrong, first_bad}
use Rattle.given.specs.Judging.{key_in, shown_in, Judged, Awaits, LaidUnless, KeptUnlessAs}

-- ---- as many lines as rows

one_more : (t : Bool) (i m n : ℕ) (o : Option ℕ) → (none ≡ o → m ≡ n) → ◌≡◌ {A = Option ℕ} none (elim t [ true ↦ o | false ↦ some i ]) → suc m ≡ suc n
one_more true i m n o f e = ap suc (f e)
one_more false i m n o f e = let z : ◌≡◌ {A = ℕ} 0 1 = cc in absurd (omega arith)

pub same_long : (i : ℕ) (ks bs : List Key) → none ≡ first_other i ks bs → length ks ≡ length bs
unfolding first_other
same_long i [] [] e = refl
same_long i [] (b ∷ bs) e = let z : ◌≡◌ {A = ℕ} 0 1 = cc in absurd (omega arith)
same_long i (a ∷ ks) [] e = let z : ◌≡◌ {A = ℕ} 0 1 = cc in absurd (omega arith)
same_long i (a ∷ ks) (b ∷ bs) e = one_more (same_key a b) i (length ks) (length bs) (first_other (suc i) ks bs) (same_long (suc i) ks bs) e

-- ---- the values of the lines

keys_are : (ls : List (List ℕ)) → map (λ (l : Line). l.key) (map line_of ls) ≡ map key_in ls
keys_are ls = map-map (λ (l : Line). l.key) line_of ls

pub shown_values : (ls : List (List ℕ)) → map shown_in ls ≡ value_column (values_of (map line_of ls))
shown_values [] = refl
shown_values (l ∷ ls) = ap (λ (r : List Float). shown_in l ∷ r) (shown_values ls)

only-finite : (x y : Float) → finite_only x ≡ some y → T (finite y)
only-finite x y = by (finite x) refl
  where
    by : (t : Bool) → finite x ≡ t → cond t (some x) none ≡ some y → T (finite y)
    by true e q = let same : x ≡ y = cc in subst T (sym (ap finite (sym same) ∙ e)) tt
    by false e q = let z : ◌≡◌ {A = ℕ} 0 1 = cc in absurd (omega arith)

pub values_finite : (ls : List Line) → AllFinite (values_of ls)
values_finite [] j x e = let z : ◌≡◌ {A = ℕ} 0 1 = cc in absurd (omega arith)
values_finite (l ∷ ls) zero x e = only-finite (of_bits binary64 l.bits) x e
values_finite (l ∷ ls) (suc j) x e = values_finite ls j x e

module _ {t : Tables} {v : List Float} (h : Awaits t v) (ls : List (List ℕ)) where
  abbrev Keyed : code.Option ℕ → Type 0
  Keyed r = option_of r ≡ first_other 0 (map key_in ls) (map key_of h.world.rows)

  other_key : first_other 0 (map (λ (l : Line). l.key) (map line_of ls)) (map key_of h.world.rows) ≡ first_other 0 (map key_in ls) (map key_of h.world.rows)
  other_key = ap (λ (ks : List Key). first_other 0 ks (map key_of h.world.rows)) (keys_are ls)

  bad_key : (o : Option ℕ) → o ≡ first_other 0 (map key_in ls) (map key_of h.world.rows) → first_bad h.world (map line_of ls) ≡ elim o [ some i ↦ some i | none ↦ first_wrong h.world (values_of (map line_of ls)) 0 h.world.rows ]
  unfolding first_bad
  bad_key o e = ap (λ (x : Option ℕ). elim x [ some i ↦ some i | none ↦ first_wrong h.world (values_of (map line_of ls)) 0 h.world.rows ]) (other_key ∙ sym e)

  pub key_bad : (i : ℕ) → some i ≡ first_other 0 (map key_in ls) (map key_of h.world.rows) → some i ≡ first_bad h.world (map line_of ls)
  key_bad i e = sym (bad_key (some i) e)

  module _ (e : none ≡ first_other 0 (map key_in ls) (map key_of h.world.rows)) where
    pub lines-inside : length ls ≡ length v
    lines-inside = sym (length-map ls key_in) ∙ same_long 0 (map key_in ls) (map key_of h.world.rows) e ∙ length-map h.world.rows key_of ∙ sym h.long

    module _ {v' : List Float} (c : Col shown_in ls v v') where
      pub whole : v' ≡ map shown_in ls
      whole = c.is ∙ ap (λ (r : List Float). map shown_in ls ++ r) (drop_end v (length ls) (omega (arith, lines-inside))) ∙ append_nothing (map shown_in ls)
        where
          append_nothing : (xs : List Float) → xs ++ [] ≡ xs
          append_nothing [] = refl
          append_nothing (x ∷ xs) = ap (λ (r : List Float). x ∷ r) (append_nothing xs)

      abbrev pub judged : Judged t v'
      judged =
          record {
            world = h.world;
            values = values_of (map line_of ls);
            told = h.told;
            free = h.free;
            column = whole ∙ shown_values ls;
            numbers = values_finite (map line_of ls);
            long = length-map (map line_of ls) value_in ∙ length-map ls line_of ∙ lines-inside ∙ h.long;
          }

      pub value_bad : {o : Option ℕ} → o ≡ first_wrong h.world (values_of (map line_of ls)) 0 h.world.rows → o ≡ first_bad h.world (map line_of ls)
      value_bad q = q ∙ sym (bad_key none e)

      pub all_laid : (r : code.Option ℕ) (v'' : List Float) → KeptUnlessAs r v' v'' → LaidUnless r ls v''
      all_laid (Some i) v'' k = tt
      all_laid None v'' k = k ∙ whole
