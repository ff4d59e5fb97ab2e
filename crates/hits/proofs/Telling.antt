-- A loop that fills a table with a row for each object.
use Prim.Native.Nat.{ℕ, ◌+◌, ◌≤◌, ◌<◌}
use native.Mathlib.Nat.{eq-or-lt_of_le, lt_irrefl}
use native.Mathlib.Omega.{arith}
use mathlib.Core.Path.{◌≡◌, refl, sym, ap, subst, ◌∙◌}
use mathlib.Core.Logic.{◌⊎◌, inl, inr}
use mathlib.Core.List.{List, []}
use lib.ListN.{length, get_or, set, length-set}
use lib.Seq.{get_or-set_same, get_or-set_other}
use Rattle.rules.specs.Sheet.{Fit}
use Rattle.rules.specs.Item.{object}
use Rattle.rules.specs.declared.Item.{Item}
use Rattle.hits.specs.Reach.{TableOf}

-- i of n rows are told, in a table that was as long before
pub record Telling (g : Item → List ℕ) (f : Fit) (n : ℕ) (rows₀ rows : List (List ℕ)) (i : ℕ) : Type 0 where
  pub all : n ≡ length f.objects
  pub room : n ≤ length rows
  pub long : length rows ≡ length rows₀
  pub within : i ≤ n
  pub told : (j : ℕ) → j < i → get_or rows j [] ≡ g (object f j)

-- none yet
pub telling_none : {g : Item → List ℕ} {f : Fit} {n m : ℕ} {rows : List (List ℕ)} → n ≡ m → length f.objects ≡ m → m ≤ length rows → Telling g f n rows rows 0
telling_none e l w = record { all = e ∙ sym l; room = omega arith; long = refl; within = omega arith; told = λ j h. absurd (omega arith) }

module _ {g : Item → List ℕ} {f : Fit} {n : ℕ} {rows₀ rows : List (List ℕ)} {i : ℕ} (T : Telling g f n rows₀ rows i) where
  pub telling_more : {row : List ℕ} → i < n → row ≡ g (object f i) → Telling g f n rows₀ (set rows i row) (i + 1)
  telling_more {row} h e =
      record {
        all = T.all;
        room = subst (λ (m : ℕ). n ≤ m) (sym (length-set rows i row)) T.room;
        long = length-set rows i row ∙ T.long;
        within = omega arith;
        told = λ j l. at j (eq-or-lt_of_le {n = j} {m = i} (omega arith));
      }
    where
      at : (j : ℕ) → (j ≡ i) ⊎ (j < i) → get_or (set rows i row) j [] ≡ g (object f j)
      at j (inl q) = ap (λ (m : ℕ). get_or (set rows i row) m []) q ∙ get_or-set_same rows i row [] (omega (arith, T.room)) ∙ e ∙ ap (λ (m : ℕ). g (object f m)) (sym q)
      at j (inr q) = get_or-set_other rows i j row [] (λ s. lt_irrefl i (subst (λ (m : ℕ). m < i) s q)) ∙ T.told j q

  pub telling_all : n ≤ i → TableOf g f rows
  telling_all h j l = T.told j (omega (arith, T.all))
