-- What is decided on a sheet is its outcome.
use Prim.Native.Nat.{ℕ, ◌≤◌}
use mathlib.Core.Path.{◌≡◌, refl, sym, ap, ◌∙◌, subst}
use mathlib.Core.List.{List}
use mathlib.Core.Option.{Option, none, some}
use lib.ListN.{length}
use Rattle.rules.specs.Answer.{Res, refused}
use Rattle.rules.specs.Bytes.{pairs_of}
use Rattle.rules.specs.Sheet.{book_of, fit_of}
use Rattle.rules.specs.Shape.{bad_shape}
use Rattle.rules.specs.Outcome.{Lent, Done, run, outcome, rooms_of}
use Rattle.rules.specs.declared.Refusal.TheVariants.{Shape}
use Rattle.info.specs.Sound.{SoundBook, SoundFit}
use Rattle.shape.specs.Shaped.{Shaped, shaped_of, SoundBy}
use Rattle.shape.proofs.Shapes.{sound_long, sound_book, sound_fit}
use Rattle.promises.specs.Result.{MeetsFor, Meets}
use Rattle.run.specs.Filled.{Columns, lent_of, decided}
use Rattle.calculate.specs.Given.{result_of}
use Rattle.calculate.specs.declared.Outcome.{Outcome}

-- with the pairs p as they were read
module _ (b : List ℕ) (p : List (List ℕ)) (read : 100 ≤ length b → p ≡ pairs_of b) where
  module _ (e : bad_shape b ≡ none) where
    same_pairs : p ≡ pairs_of b
    same_pairs = read (sound_long b (sym (ap shaped_of e)))

    both_sound : SoundBook b p × SoundFit b p
    both_sound =
        (subst (λ (x : List (List ℕ)). SoundBook b x) (sym same_pairs) (sound_book b (sym (ap shaped_of e))), subst (λ (x : List (List ℕ)). SoundFit b x) (sym same_pairs) (sound_fit b (sym (ap shaped_of e))))

  module _ {v : Shaped} (h : v ≡ shaped_of (bad_shape b)) where
    pub sheet_sound : SoundBy v b b p
    sheet_sound = subst (λ (x : Shaped). SoundBy x b b p) (sym h) (by (bad_shape b) refl)
      where
        by : (o : Option ℕ) → bad_shape b ≡ o → SoundBy (shaped_of o) b b p
        by none e = both_sound e
        by (some t) e = tt

    module _ (l : Lent) where
      answered : Option ℕ → Res Done
      answered o = elim o [ some t ↦ refused (Shape t) | none ↦ run (book_of b (pairs_of b)) (fit_of b (pairs_of b)) (rooms_of l) ]

      by-table : (o : Option ℕ) → bad_shape b ≡ o → decided (shaped_of o) (book_of b p) (fit_of b p) (rooms_of l) ≡ answered o
      unfolding answered
      by-table none e = ap (λ (x : List (List ℕ)). run (book_of b x) (fit_of b x) (rooms_of l)) (same_pairs e)
      by-table (some t) e = refl

      pub sheet_decided : decided v (book_of b p) (fit_of b p) (rooms_of l) ≡ outcome b l
      unfolding answered outcome
      sheet_decided = ap (λ (x : Shaped). decided x (book_of b p) (fit_of b p) (rooms_of l)) h ∙ by-table (bad_shape b) refl

    -- the answer of what was decided is the sheet's
    pub sheet_meets : (c₀ c : Columns) (st : List (List ℕ)) (r : Outcome) → MeetsFor (decided v (book_of b p) (fit_of b p) (rooms_of (lent_of c₀))) (lent_of c₀) (result_of r st c) → Meets b (lent_of c₀) (result_of r st c)
    sheet_meets c₀ c st r m = subst (λ (o : Res Done). MeetsFor o (lent_of c₀) (result_of r st c)) (sheet_decided (lent_of c₀)) m
