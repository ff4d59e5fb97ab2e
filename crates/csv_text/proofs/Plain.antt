-- Numbers stand as they are: they have no byte for whose sake a field is quoted. And what may be written: numbers, and good labels.
use Rattle.std.specs.Prelude.{None, Option, Some}
use Prim.Native.Nat.{ℕ, zero, suc, ◌+◌, ◌/◌, ◌%◌}
use native.Mathlib.Omega.{arith}
use mathlib.Core.Path.{◌≡◌, refl, sym, ap, ◌∙◌}
use mathlib.Core.Bool.{Bool, true, false, ◌||◌, true≢false}
use mathlib.Core.List.{List, [], ◌∷◌, ◌++◌}
use lib.IntN.{ℤ, pos, negsuc}
use Rattle.laws.specs.Lists.{some?, every?}
use Rattle.laws.proofs.Bools.{and_left, and_right}
use Rattle.rules.specs.Listing.{digits, natural, integer, minus_if, decimals}
use Rattle.rules.specs.declared.Hundredths.{Hundredths}
use Rattle.csv_text.specs.Csv.{Class, text, other, class_of, special, quoted_if, field, record_text, Allowed, AllAllowed}
use Rattle.csv_text.specs.Labels.{allowed}
use Rattle.csv_text.proofs.Classes.{plain_text, known}
use Rattle.csv_text.proofs.ReadBack.{AllText}

-- ---- numbers are TEXTDATA

text_append : (s t : List ℕ) → AllText s → AllText t → AllText (s ++ t)
text_append [] t a b = b
text_append (x ∷ s) t a b = (a.0, text_append s t a.1 b)

digit_text : (n : ℕ) → class_of (48 + n % 10) ≡ text
digit_text n = plain_text (48 + n % 10) (omega arith) (omega arith)

digits_text : (k n : ℕ) (r : List ℕ) → AllText r → AllText (digits k n r)
unfolding digits
digits_text zero n r a = a
digits_text (suc k) n r a = go (n / 10) (digits_text k (n / 10) ((48 + n % 10) ∷ r) (digit_text n, a))
  where
    go : (m : ℕ) → AllText (digits k (n / 10) ((48 + n % 10) ∷ r)) → AllText (elim m [ zero ↦ (48 + n % 10) ∷ r | suc j ↦ digits k (n / 10) ((48 + n % 10) ∷ r) ])
    go zero h = (digit_text n, a)
    go (suc j) h = h

pub natural_text : (n : ℕ) → AllText (natural n)
unfolding natural
natural_text n = digits_text 20 n [] tt

pub integer_text : (x : ℤ) → AllText (integer x)
unfolding integer
integer_text (pos n) = natural_text n
integer_text (negsuc n) = (plain_text 45 (omega arith) (omega arith), natural_text (suc n))

minus_text : (s : Bool) → AllText (minus_if s)
minus_text true = (plain_text 45 (omega arith) (omega arith), tt)
minus_text false = tt

pub decimals_text : (h : Option Hundredths) → AllText (decimals h)
unfolding decimals class_of
decimals_text None = (refl, tt)
decimals_text (Some h) =
    text_append (minus_if h.minus) _ (minus_text h.minus)
    (text_append (natural (h.count / 100)) _ (natural_text (h.count / 100)) (plain_text 46 (omega arith) (omega arith), (digit_text (h.count / 10), (digit_text h.count, tt))))

-- ---- so they are not quoted

none_special : (t : List ℕ) → AllText t → some? (λ b. special (class_of b)) t ≡ false
none_special [] a = refl
none_special (b ∷ t) a = ap (λ (c : Class). special c || some? (λ x. special (class_of x)) t) a.0 ∙ none_special t a.1

plain-field : (t : List ℕ) → AllText t → field t ≡ t
unfolding field
plain-field t a = ap (λ (q : Bool). quoted_if q t) (none_special t a)

-- the bytes of a row's record, piece by piece
abbrev pub ended : Option Hundredths → List ℕ
ended h = decimals h ++ (13 ∷ 10 ∷ [])

abbrev pub labelled : List ℕ → Option Hundredths → List ℕ
labelled l h = field l ++ (44 ∷ ended h)

abbrev pub numbered : ℤ → List ℕ → Option Hundredths → List ℕ
numbered i l h = integer i ++ (44 ∷ labelled l h)

abbrev pub row_bytes : ℕ → ℤ → List ℕ → Option Hundredths → List ℕ
row_bytes o i l h = natural o ++ (44 ∷ numbered i l h)

pub row_bytes_lem : (o : ℕ) (i : ℤ) (l : List ℕ) (h : Option Hundredths) → row_bytes o i l h ≡ record_text (natural o ∷ integer i ∷ l ∷ decimals h ∷ [])
unfolding record_text
row_bytes_lem o i l h =
    sym
    (ap (λ (x : List ℕ). x ++ (44 ∷ record_text (integer i ∷ l ∷ decimals h ∷ []))) (plain-field (natural o) (natural_text o))
    ∙ ap (λ (x : List ℕ). natural o ++ (44 ∷ (x ++ (44 ∷ record_text (l ∷ decimals h ∷ []))))) (plain-field (integer i) (integer_text i))
    ∙ ap (λ (x : List ℕ). natural o ++ (44 ∷ (integer i ++ (44 ∷ (field l ++ (44 ∷ (x ++ (13 ∷ 10 ∷ [])))))))) (plain-field (decimals h) (decimals_text h)))

-- the same, the id told by its bits
pub row_said : (o : ℕ) (l : List ℕ) (h : Option Hundredths) {i j : ℤ} → j ≡ i → row_bytes o j l h ≡ record_text (natural o ∷ integer i ∷ l ∷ decimals h ∷ [])
row_said o l h {i} e = ap (λ (x : ℤ). row_bytes o x l h) e ∙ row_bytes_lem o i l h

-- ---- what may be written

text_allowed : (t : List ℕ) → AllText t → Allowed t
text_allowed [] a = tt
text_allowed (b ∷ t) a = ((λ e. apart (sym a.0 ∙ e)), text_allowed t a.1)
  where
    apart : text ≡ other → ⊥
    apart e = let z : true ≡ false = cc in true≢false z

pub label_allowed : (t : List ℕ) → every? allowed t ≡ true → Allowed t
label_allowed [] e = tt
label_allowed (b ∷ t) e = (known b (and_left (allowed b) (every? allowed t) e), label_allowed t (and_right (allowed b) (every? allowed t) e))

pub row-allowed : (o : ℕ) (i : ℤ) (l : List ℕ) (h : Option Hundredths) → Allowed l → AllAllowed (natural o ∷ integer i ∷ l ∷ decimals h ∷ [])
row-allowed o i l h a =
    (text_allowed (natural o) (natural_text o), (text_allowed (integer i) (integer_text i), (a, (text_allowed (decimals h) (decimals_text h), tt))))
