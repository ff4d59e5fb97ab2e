-- An attribute of an object by its row, or its default.
use Rattle.std.specs.Prelude.{Result, Ok}
use Prim.Native.Nat.{ℕ, ◌<◌}
use native.Mathlib.Omega.{arith}
use mathlib.Core.Path.{◌≡◌, refl, sym, ap, ap₂, subst, ◌∙◌}
use mathlib.Core.List.{List}
use mathlib.Core.Option.{Option, none, some}
use lib.Dec.{T}
use lib.Ieee.{Float}
use lib.IntN.{ℤ}
use lib.ListN.{length}
use Rattle.laws.specs.Floats.{finite}
use Rattle.rules.specs.declared.Refusal.{Refusal}
use Rattle.rules.specs.Info.{get_dogma_attribute}
use Rattle.rules.specs.Sheet.{Book, book_of}
use Rattle.rules.specs.Value.{find_row, value_of}
use Rattle.info.proofs.Defaults.{defaults_finite}
use Rattle.reading.specs.Held.{index_of}
use Rattle.sources.specs.declared.Recording.{Recording}
use Rattle.memory.specs.Steps.{row_at}
use Rattle.memory.specs.Holding.{Tables, Ready}
use Rattle.memory.proofs.Readings.{absent, at_row, nowhere}
use Rattle.memory.specs.Answers.{Returns}
use Rattle.memory.specs.declared.apply.Got.{Got}
use Rattle.memory.proofs.Holdings.{meets-value, meets_same}

module _ {t : Tables} {run : Recording} {v : List Float} {s : List (List ℕ)} {f : List (List Float)} {used : ℕ} (h : Ready t run v s f used) (o : ℕ) (a : ℤ) where
  pub found_inside : (i : ℕ) → some i ≡ index_of (find_row o a 0 h.world.rows) → i < length t.rows
  found_inside i e = omega (arith, (at_row h.world.rows o a e).0, h.told.held.long)

  pub found_meets : (left i : ℕ) → some i ≡ index_of (find_row o a 0 h.world.rows) → (r : Result Got Refusal) (v' : List Float) (s' : List (List ℕ)) (f' : List (List Float))
      → Returns h.world h.sources₀ h.floats₀ (value_of h.world left (row_at h.world i).object (row_at h.world i).id h.mem) r v' s' f'
      → Returns h.world h.sources₀ h.floats₀ (value_of h.world left o a h.mem) r v' s' f'
  found_meets left i e r v' s' f' k =
      let there = at_row h.world.rows o a e in
      meets_same h.world h.sources₀ h.floats₀ v' s' f' _ _ r (ap₂ (λ (p : ℕ) (x : ℤ). value_of h.world left p x h.mem) there.1 there.2) k

  pub absent_meets : (left : ℕ) → none ≡ index_of (find_row o a 0 h.world.rows) → (x : Float) → x ≡ (get_dogma_attribute (book_of t.book t.pairs) a).default_value
      → Returns h.world h.sources₀ h.floats₀ (value_of h.world left o a h.mem) (Ok (record { value = x; used = used })) v s f
  absent_meets left e x d =
      meets-value h.world h.sources₀ h.floats₀ v s f _ _ (absent h.world o a h.mem left (nowhere h.world.rows o a e))
      (d ∙ ap (λ (k : Book). (get_dogma_attribute k a).default_value) (sym h.told.records))
      (subst (λ (y : Float). T (finite y)) (sym d) (defaults_finite t.book t.pairs h.told.sound a)) h.holds
