-- The marked examples of M-105, over case L as a sheet and as two files, by computation. The files of cases/ are the same.
use Prim.Native.Nat.{ℕ}
use mathlib.Core.Path.{◌≡◌, refl}
use mathlib.Core.List.{List, [], ◌∷◌}
use lib.ListN.{take, set}
use Rattle.rules.specs.Files.{standing, book_header_good, fit_header_good, bad_fit, bad_book, bad_files}
use Rattle.rules.proofs.Everything.{everything}
use Rattle.rules.proofs.Marked.{case_l}
use Rattle.rules.proofs.MarkedPilots.{book_l, fit_l}
use Rattle.tournament.specs.Tournament.{bad_from, broken, verdict_from, Verdict, allowed, breaks, shape, rules, judged, checked, checked_files}

abbrev Gives : List (List ℕ) → Verdict → Type 0
Gives ls v = (checked (case_l 2 []) ls ≡ v) × (checked_files book_l fit_l ls ≡ v)

abbrev line : ℕ → ℕ → ℕ → List ℕ
line k i n = k ∷ i ∷ n ∷ []

-- CATEGORY_MODULE is 8: the two modules are in no slot that fits them
abbrev no_modules : List ℕ
no_modules = set (case_l 2 []) 80 8

pub record Examples : Type 0 where
  pub none : Gives [] allowed
  pub just : Gives (line 0 9 3 ∷ line 3 0 6 ∷ []) allowed
  pub dear : Gives (line 0 9 3 ∷ line 3 0 5 ∷ []) (breaks 1 6)
  pub cap_first : Gives (line 1 0 1 ∷ line 2 0 9 ∷ []) (breaks 0 2)
  pub forbidden : Gives (line 1 0 2 ∷ line 2 0 9 ∷ []) (breaks 1 2)
  pub points : Gives (line 0 9 65536 ∷ []) (rules 0)
  pub order : Gives (line 1 5 1 ∷ line 1 0xffff_fffd 1 ∷ []) (rules 1)
  pub totals : Gives (line 3 0 1 ∷ line 3 0 1 ∷ []) (rules 1)
  pub total-id : Gives (line 3 1 1 ∷ []) (rules 0)
  pub kind : Gives (line 4 0 0 ∷ []) (rules 0)
  -- "A type without a line costs 0, a group without a line has no cap"
  pub no_line : Gives (line 0 8 65535 ∷ line 1 1 0 ∷ line 2 2 0 ∷ line 3 0 0 ∷ []) allowed
  pub shape_first : checked (take 99 (case_l 2 [])) (line 4 0 0 ∷ []) ≡ shape 0
  pub book_first : checked_files (take 163 book_l) [] (line 4 0 0 ∷ []) ≡ shape 0
  pub fit_next : checked_files book_l (take 343 fit_l) (line 4 0 0 ∷ []) ≡ shape 20
  pub not-counted : checked no_modules (line 2 0 0 ∷ []) ≡ allowed

pub examples : Examples
unfolding everything standing book_header_good fit_header_good bad_fit bad_book bad_files bad_from broken verdict_from judged checked checked_files
examples =
    record {
      none = (refl, refl);
      just = (refl, refl);
      dear = (refl, refl);
      cap_first = (refl, refl);
      forbidden = (refl, refl);
      points = (refl, refl);
      order = (refl, refl);
      totals = (refl, refl);
      total-id = (refl, refl);
      kind = (refl, refl);
      no_line = (refl, refl);
      shape_first = refl;
      book_first = refl;
      fit_next = refl;
      not-counted = refl;
    }
