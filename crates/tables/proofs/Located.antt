-- Where a table's record lies in a sheet: behind a front p and the tables before its own.
use Prim.Native.Nat.{ℕ, zero, suc, ◌+◌, ◌*◌, ◌^◌, ◌≤◌, ◌<◌}
use native.Mathlib.Nat.{zero-add}
use native.Mathlib.Omega.{arith}
use mathlib.Core.Path.{◌≡◌, sym, ap, ◌∙◌}
use mathlib.Core.List.{List, [], ◌∷◌, ◌++◌, append_assoc}
use lib.ListN.{length, take, drop, get_or, length-append}
use lib.Seq.{drop-append-add}
use Rattle.tables.specs.Layout.{rows_of, Words}
use Rattle.tables.specs.Tables.{Tab, pairs_from, body_of}
use Rattle.tables.proofs.Tables.{cut_out, table-length}

-- every record has its table's width
abbrev pub Wide : Tab → Type 0
Wide x = (k : ℕ) → k < x.count → length (x.bytes k) ≡ x.width

abbrev pub AllWide : List Tab → Type 0
AllWide [] = Unit
AllWide (x ∷ xs) = Wide x × AllWide xs

abbrev pub no_tab : Tab
no_tab = record { width = 0; count = 0; bytes = λ k. [] }

abbrev pub tab_at : List Tab → ℕ → Tab
tab_at xs i = get_or xs i no_tab

-- where table i begins, if the first begins at a place
abbrev pub start_of : ℕ → List Tab → ℕ → ℕ
start_of at [] i = at
start_of at (x ∷ xs) zero = at
start_of at (x ∷ xs) (suc i) = start_of (at + x.width * x.count) xs i

in_all : (n : ℕ) → 0 + n ≤ n
in_all n = omega arith

pub located : (xs : List Tab) (p l : List ℕ) (at i k : ℕ) → AllWide xs → length p ≡ at → k < (tab_at xs i).count
    → take (tab_at xs i).width (drop (start_of at xs i + (tab_at xs i).width * k) (p ++ (body_of xs ++ l))) ≡ (tab_at xs i).bytes k
located [] p l at i k a e h = absurd (omega arith)
located (x ∷ xs) p l at zero k a e h =
    ap (λ (n : ℕ). take x.width (drop (n + x.width * k) (p ++ (body_of (x ∷ xs) ++ l)))) (sym e)
    ∙ ap (take x.width) (drop-append-add p (body_of (x ∷ xs) ++ l) (x.width * k))
    ∙ ap (λ (b : List ℕ). take x.width (drop (x.width * k) b)) (append_assoc (rows_of x.bytes x.count) (body_of xs) l)
    ∙ cut_out x.width x.count x.bytes a.0 0 x.count k (body_of xs ++ l) (in_all x.count) h
    ∙ ap x.bytes (zero-add k)
located (x ∷ xs) p l at (suc i) k a e h =
    ap (λ (b : List ℕ). take (tab_at xs i).width (drop (start_of (at + x.width * x.count) xs i + (tab_at xs i).width * k) b)) shifted
    ∙ located xs (p ++ rows_of x.bytes x.count) l (at + x.width * x.count) i k a.1 longer h
  where
    shifted : p ++ (body_of (x ∷ xs) ++ l) ≡ (p ++ rows_of x.bytes x.count) ++ (body_of xs ++ l)
    shifted =
        ap (λ (b : List ℕ). p ++ b) (append_assoc (rows_of x.bytes x.count) (body_of xs) l)
        ∙ sym (append_assoc p (rows_of x.bytes x.count) (body_of xs ++ l))

    longer : length (p ++ rows_of x.bytes x.count) ≡ at + x.width * x.count
    longer =
        length-append p (rows_of x.bytes x.count)
        ∙ ap (λ (n : ℕ). n + length (rows_of x.bytes x.count)) e
        ∙ ap (λ (n : ℕ). at + n) (table-length x.width x.count x.bytes a.0 0 x.count (in_all x.count))

-- where the last table ends
pub body_length : (xs : List Tab) (at : ℕ) → AllWide xs → at + length (body_of xs) ≡ start_of at xs (length xs)
body_length [] at a = omega arith
body_length (x ∷ xs) at a =
    ap (λ (n : ℕ). at + n) (length-append (rows_of x.bytes x.count) (body_of xs))
    ∙ ap (λ (n : ℕ). at + (n + length (body_of xs))) (table-length x.width x.count x.bytes a.0 0 x.count (in_all x.count))
    ∙ regroup at (x.width * x.count) (length (body_of xs))
    ∙ body_length xs (at + x.width * x.count) a.1
  where
    regroup : (a b c : ℕ) → a + (b + c) ≡ a + b + c
    regroup a b c = omega arith

-- counts and places that end below 2 ^ 32 have 32 bits
abbrev pub Counted : List Tab → Type 0
Counted [] = Unit
Counted (x ∷ xs) = (x.count < 2 ^ 32) × Counted xs

start-before : (xs : List Tab) (at : ℕ) → at ≤ start_of at xs (length xs)
start-before [] at = omega arith
start-before (x ∷ xs) at = omega (arith, start-before xs (at + x.width * x.count))

pub pairs-words : (xs : List Tab) (at : ℕ) (l : List ℕ) → Counted xs → start_of at xs (length xs) < 2 ^ 32 → Words l → Words (pairs_from at xs ++ l)
pairs-words [] at l c h w = w
pairs-words (x ∷ xs) at l c h w =
    (c.0, (omega (arith, h, start-before xs (at + x.width * x.count)), pairs-words xs (at + x.width * x.count) l c.1 h w))
