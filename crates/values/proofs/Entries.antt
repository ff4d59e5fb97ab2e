-- The entries of the definition's rows: each may be read, and where each stands in list 3.
use Prim.Native.Nat.{ℕ, zero, suc, ◌+◌, ◌≤◌, ◌<◌}
use native.Mathlib.Nat.{not-suc-le-zero, zero-add, add_assoc}
use native.Mathlib.Omega.{arith}
use mathlib.Core.Path.{◌≡◌, ap, ◌∙◌}
use mathlib.Core.List.{List, [], ◌∷◌, map}
use lib.IntN.{ℤ}
use lib.ListN.{length, get_or, take, length-append, get_or-append}
use lib.Seq.{get_or-append-add}
use Rattle.laws.specs.Lists.{eq_z, keep, flat, total}
use Rattle.rules.specs.Sheet.{Book, Fit}
use Rattle.rules.specs.Dispatch.{Row, Numbered, numbered, entry, hit, hits_on, ids_of, row_of, rows}
use Rattle.rules.specs.declared.Effect.{Effect}
use Rattle.rules.specs.declared.Item.{Item}
use Rattle.rules.specs.declared.Pass2Effect.{Pass2Effect}
use Rattle.reading.specs.Held.{no_row}
use Rattle.values.specs.SoundRows.{AllAre, Fair, Readable}
use Rattle.values.proofs.All.{all-at, all_each, all_append, all_keep, all_map, all_weaker, all-numbered}
use Rattle.values.proofs.Bases.{all_rows}

module _ (k : Book) (f : Fit) (ts : List Pass2Effect) (h : AllAre Fair ts) where
  entry_readable : (o : Item) (n : Numbered) → Fair n.effect → Readable (entry k f o n)
  unfolding entry
  entry_readable o n q = record { good = record { sourced = q.sourced; valued = q.valued }; origin = q.origin; resistance = q.resistance }

  row_readable : (o : Item) (a : ℤ) → AllAre Readable (row_of k f ts o a).entries
  unfolding row_of hits_on
  row_readable o a =
      let hits = keep (λ n. hit k f n.effect o) (numbered 0 ts) in
      let own = keep (λ n. eq_z n.effect.target_attribute_id a) hits in
      let fair : Numbered → Type 0 = λ n. Fair n.effect in
      all_map Readable (entry k f o) own
      (all_weaker fair (λ (n : Numbered). Readable (entry k f o n)) (entry_readable o) own
      (all_keep fair (λ n. eq_z n.effect.target_attribute_id a) hits (all_keep fair (λ n. hit k f n.effect o) (numbered 0 ts) (all-numbered Fair 0 ts h))))

  pub rows_readable : AllAre (λ (r : Row). AllAre Readable r.entries) (rows k f ts)
  rows_readable = all_rows (λ (r : Row). AllAre Readable r.entries) k f ts (λ o. all_each (λ (a : ℤ). AllAre Readable (row_of k f ts o a).entries) (row_readable o) (ids_of k f ts o))

  -- entry j of row i
  pub entry_at : (i j : ℕ) (d : Effect) → i < length (rows k f ts) → j < length (get_or (rows k f ts) i no_row).entries → Readable (get_or (get_or (rows k f ts) i no_row).entries j d)
  entry_at i j d l m = all-at Readable (get_or (rows k f ts) i no_row).entries (all-at (λ (r : Row). AllAre Readable r.entries) (rows k f ts) rows_readable i no_row l) j d m

-- ---- where those of row i stand

abbrev pub before : List Row → ℕ → ℕ
before rs i = total (take i (map (λ r. length r.entries) rs))

abbrev pub all_of : List Row → List Effect
all_of rs = flat (λ r. r.entries) rs

-- all of them
pub flat_readable : (rs : List Row) → AllAre (λ (r : Row). AllAre Readable r.entries) rs → AllAre Readable (all_of rs)
flat_readable [] a = tt
flat_readable (r ∷ rs) a = all_append Readable r.entries (all_of rs) a.0 (flat_readable rs a.1)

pub inside-all : (rs : List Row) (i : ℕ) → before rs i + length (get_or rs i no_row).entries ≤ length (all_of rs)
inside-all [] zero = omega arith
inside-all [] (suc i) = omega arith
inside-all (r ∷ rs) zero = omega (arith, length-append r.entries (all_of rs))
inside-all (r ∷ rs) (suc i) = omega (arith, length-append r.entries (all_of rs), inside-all rs i)

pub flat-at : (rs : List Row) (i j : ℕ) (d : Effect) → j < length (get_or rs i no_row).entries → get_or (all_of rs) (before rs i + j) d ≡ get_or (get_or rs i no_row).entries j d
flat-at [] zero j d h = absurd (not-suc-le-zero h)
flat-at [] (suc i) j d h = absurd (not-suc-le-zero h)
flat-at (r ∷ rs) zero j d h = ap (λ (n : ℕ). get_or (all_of (r ∷ rs)) n d) (zero-add j) ∙ get_or-append r.entries (all_of rs) d j h
flat-at (r ∷ rs) (suc i) j d h =
    ap (λ (n : ℕ). get_or (all_of (r ∷ rs)) n d) (add_assoc (length r.entries) (before rs i) j)
    ∙ get_or-append-add r.entries (all_of rs) (before rs i + j) d ∙ flat-at rs i j d h
