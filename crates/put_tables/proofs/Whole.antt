-- Five stretches put one after another, and a header before them: a file, and a sheet.
use Prim.Native.Nat.{ℕ, ◌+◌, ◌*◌, ◌≤◌}
use native.Mathlib.Omega.{arith}
use mathlib.Core.Path.{◌≡◌, refl, sym, ap, ◌∙◌}
use mathlib.Core.List.{List, [], ◌∷◌, ◌++◌, append-nil, append_assoc}
use lib.ListN.{length}
use Rattle.listing.specs.Put.{Put, puts}
use Rattle.listing.proofs.Puts.{after, renamed}
use Rattle.tables.specs.Layout.{words, rows_of}
use Rattle.tables.specs.Tables.{Tables, Tab, fields, number, together, book_tabs, fit_tabs, pairs_from, body_of, sheet_of, book_file_of, fit_file_of, book_length, fit_length}
use Rattle.tables.proofs.ReadsBack.{fields-all, sheet_size, book_size, fit_size}
use Rattle.put_tables.proofs.Steps.{words_append}

-- the second text, then nothing
pub last : (xs : List ℕ) (s : Put) {t : Put} → t ≡ puts xs s → t ≡ puts (xs ++ []) s
last xs s e = renamed s (sym (append-nil xs)) e

module _ (r1 r2 r3 r4 r5 : List ℕ) (s : Put) where
  pub five_put : {a b c d e : Put} → a ≡ puts r1 s → b ≡ puts r2 a → c ≡ puts r3 b → d ≡ puts r4 c → e ≡ puts r5 d → e ≡ puts (r1 ++ (r2 ++ (r3 ++ (r4 ++ (r5 ++ []))))) s
  five_put {a} {b} {c} {d} {e} f g h i j =
      after r1 (r2 ++ (r3 ++ (r4 ++ (r5 ++ [])))) s f (after r2 (r3 ++ (r4 ++ (r5 ++ []))) a g (after r3 (r4 ++ (r5 ++ [])) b h (after r4 (r5 ++ []) c i (last r5 d j))))

pub three_put : (r1 r2 r3 : List ℕ) (s : Put) {a b c : Put} → a ≡ puts r1 s → b ≡ puts r2 a → c ≡ puts r3 b → c ≡ puts (r1 ++ (r2 ++ r3)) s
three_put r1 r2 r3 s {a} f g h = after r1 (r2 ++ r3) s f (after r2 r3 a g h)

body_append : (xs ys : List Tab) → body_of (xs ++ ys) ≡ body_of xs ++ body_of ys
body_append [] ys = refl
body_append (x ∷ xs) ys = ap (λ (l : List ℕ). rows_of x.bytes x.count ++ l) (body_append xs ys) ∙ sym (append_assoc (rows_of x.bytes x.count) (body_of xs) (body_of ys))

-- pairs, further numbers and the tables
file-is : (p n : List ℕ) (b : List ℕ) → words p ++ (words n ++ b) ≡ words (p ++ n) ++ b
file-is p n b = sym (append_assoc (words p) (words n) b) ∙ ap (λ (l : List ℕ). l ++ b) (sym (words_append p n))

module _ (t : Tables) where
  pub book_file_is : (h : List ℕ) → h ≡ fields 3 t.header → words (pairs_from 52 (book_tabs t)) ++ (words h ++ body_of (book_tabs t)) ≡ book_file_of t
  unfolding book_file_of
  book_file_is h e = file-is (pairs_from 52 (book_tabs t)) h (body_of (book_tabs t)) ∙ ap (λ (l : List ℕ). words (pairs_from 52 (book_tabs t) ++ l) ++ body_of (book_tabs t)) e

  pub fit_file_is : (h : List ℕ) → h ≡ number t.header 3 ∷ number t.header 4 ∷ [] → words (pairs_from 48 (fit_tabs t)) ++ (words h ++ body_of (fit_tabs t)) ≡ fit_file_of t
  unfolding fit_file_of
  fit_file_is h e = file-is (pairs_from 48 (fit_tabs t)) h (body_of (fit_tabs t)) ∙ ap (λ (l : List ℕ). words (pairs_from 48 (fit_tabs t) ++ l) ++ body_of (fit_tabs t)) e

-- the pairs of all ten
module _ (h : List ℕ) (t u : Tables) where
  abbrev whole : Tables
  whole = together h t u

  pairs-both : (at : ℕ) → at ≡ 100 + book_length t → pairs_from 100 (book_tabs t) ++ (pairs_from at (fit_tabs u) ++ h) ≡ pairs_from 100 (book_tabs whole ++ fit_tabs whole) ++ h
  pairs-both at e = rw (e ∙ sums) refl
    where
      sums : 100 + book_length t ≡ 100 + 24 * length t.attributes + 24 * length t.effects + 28 * length t.modifiers + 12 * length t.type_effects + 16 * length t.buff_collections
      sums = omega arith

  pub sheet_is : (at : ℕ) → at ≡ 100 + book_length t → length h ≡ 5
      → words (pairs_from 100 (book_tabs t)) ++ (words (pairs_from at (fit_tabs u)) ++ (words h ++ (body_of (book_tabs t) ++ (body_of (fit_tabs u) ++ [])))) ≡ sheet_of whole
  unfolding sheet_of
  sheet_is at e l =
      ap (λ (b : List ℕ). words (pairs_from 100 (book_tabs t)) ++ b) (file-is (pairs_from at (fit_tabs u)) h (body_of (book_tabs t) ++ (body_of (fit_tabs u) ++ [])))
      ∙ file-is (pairs_from 100 (book_tabs t)) (pairs_from at (fit_tabs u) ++ h) (body_of (book_tabs t) ++ (body_of (fit_tabs u) ++ []))
      ∙ ap (λ (n : List ℕ). words n ++ (body_of (book_tabs t) ++ (body_of (fit_tabs u) ++ []))) (pairs-both at e)
      ∙ ap (λ (b : List ℕ). words (pairs_from 100 (book_tabs whole ++ fit_tabs whole) ++ h) ++ (body_of (book_tabs t) ++ b)) (append-nil (body_of (fit_tabs u)))
      ∙ ap (λ (b : List ℕ). words (pairs_from 100 (book_tabs whole ++ fit_tabs whole) ++ h) ++ b) (sym (body_append (book_tabs t) (fit_tabs u)))
      ∙ ap (λ (n : List ℕ). words (pairs_from 100 (book_tabs whole ++ fit_tabs whole) ++ n) ++ body_of (book_tabs whole ++ fit_tabs whole)) (sym (fields-all h 5 l))

  pub sheet_room : {n : ℕ} → length (sheet_of whole) ≤ n → 100 + book_length t + fit_length u ≤ n
  sheet_room g = omega (arith, g, sheet_size whole)

pub book_room : (t : Tables) {n : ℕ} → length (book_file_of t) ≤ n → 52 + book_length t ≤ n
book_room t g = omega (arith, g, book_size t)

pub fit_room : (t : Tables) {n : ℕ} → length (fit_file_of t) ≤ n → 48 + fit_length t ≤ n
fit_room t g = omega (arith, g, fit_size t)

-- a header of two, behind three that are not read
pub two_all : (h : List ℕ) → length h ≡ 2 → h ≡ number h 0 ∷ number h 1 ∷ []
two_all h e = sym (fields-all h 2 e)
