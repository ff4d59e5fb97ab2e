-- A text that is read by the RFC gives the fields that were written.
use Prim.Native.Nat.{ℕ}
use mathlib.Core.Path.{◌≡◌, refl, sym, ap, ◌∙◌}
use mathlib.Core.Bool.{Bool, true, false, true≢false}
use mathlib.Core.List.{List, [], ◌∷◌, ◌++◌, append-nil, append_assoc, cons-ne-nil}
use mathlib.Core.Option.{Option, none, some}
use lib.Seq.{append_snoc}
use Rattle.laws.specs.Lists.{some?}
use Rattle.laws.proofs.Bools.{or_false_left, or_false_right}
use Rattle.csv_text.specs.Csv.{Class, quote, comma, cr, lf, text, other, class_of, special, twice, doubled, quoted_if, field, record_text, csv, Mode, start, plain, quoted, closed, Step, passes, takes, field_ends, record_ends, wrong, next, read_from, read, before, Allowed, AllAllowed, Writable}

-- every byte is TEXTDATA
abbrev pub AllText : List ℕ → Type 0
AllText [] = Unit
AllText (b ∷ t) = (class_of b ≡ text) × AllText t

-- what is allowed and has nothing special is TEXTDATA
text_class : (c : Class) → (c ≡ other → ⊥) → special c ≡ false → c ≡ text
text_class quote a s = absurd (true≢false s)
text_class comma a s = absurd (true≢false s)
text_class cr a s = absurd (true≢false s)
text_class lf a s = absurd (true≢false s)
text_class text a s = refl
text_class other a s = absurd (a refl)

all_text : (t : List ℕ) → Allowed t → some? (λ b. special (class_of b)) t ≡ false → AllText t
all_text [] a s = tt
all_text (b ∷ t) a s =
    (text_class (class_of b) a.0 (or_false_left (special (class_of b)) _ s), all_text t a.1 (or_false_right (special (class_of b)) _ s))

-- ---- one byte, by its class

module _ (m : Mode) (f : List ℕ) (r : List (List ℕ)) (b : ℕ) (l : List ℕ) where
  abbrev did : Step → Option (List (List (List ℕ)))
  did (passes n) = read_from n f r l
  did (takes n) = read_from n (f ++ (b ∷ [])) r l
  did field_ends = read_from start [] (r ++ (f ∷ [])) l
  did record_ends = before (r ++ (f ∷ [])) (read_from start [] [] l)
  did wrong = none

  turn : (c : Class) → class_of b ≡ c → read_from m f r (b ∷ l) ≡ did (next m c)
  unfolding read_from
  turn c e = go (next m (class_of b)) ∙ ap (λ (d : Class). did (next m d)) e
    where
      go : (s : Step) → elim s [
        | passes n ↦ read_from n f r l
        | takes n ↦ read_from n (f ++ (b ∷ [])) r l
        | field_ends ↦ read_from start [] (r ++ (f ∷ [])) l
        | record_ends ↦ before (r ++ (f ∷ [])) (read_from start [] [] l)
        | wrong ↦ none
      ] ≡ did s
      go (passes n) = refl
      go (takes n) = refl
      go field_ends = refl
      go record_ends = refl
      go wrong = refl

-- ---- bytes that stand as they are

module _ (r : List (List ℕ)) (l : List ℕ) where
  in_plain : (t f : List ℕ) → AllText t → read_from plain f r (t ++ l) ≡ read_from plain (f ++ t) r l
  in_plain [] f a = ap (λ (g : List ℕ). read_from plain g r l) (sym (append-nil f))
  in_plain (b ∷ t) f a =
      turn plain f r b (t ++ l) text a.0 ∙ in_plain t (f ++ (b ∷ [])) a.1 ∙ ap (λ (g : List ℕ). read_from plain g r l) (append_snoc f b t)

  -- between quotes, with its quotes doubled
  one_quoted : (b : ℕ) (t f : List ℕ) (c : Class) → class_of b ≡ c → (c ≡ other → ⊥) → read_from quoted f r (twice c b t ++ l) ≡ read_from quoted (f ++ (b ∷ [])) r (t ++ l)
  one_quoted b t f quote e a = turn quoted f r b (b ∷ (t ++ l)) quote e ∙ turn closed f r b (t ++ l) quote e
  one_quoted b t f comma e a = turn quoted f r b (t ++ l) comma e
  one_quoted b t f cr e a = turn quoted f r b (t ++ l) cr e
  one_quoted b t f lf e a = turn quoted f r b (t ++ l) lf e
  one_quoted b t f text e a = turn quoted f r b (t ++ l) text e
  one_quoted b t f other e a = absurd (a refl)

  in_quotes : (t f : List ℕ) → Allowed t → read_from quoted f r (doubled t ++ l) ≡ read_from quoted (f ++ t) r l
  unfolding doubled
  in_quotes [] f a = ap (λ (g : List ℕ). read_from quoted g r l) (sym (append-nil f))
  in_quotes (b ∷ t) f a =
      one_quoted b (doubled t) f (class_of b) refl a.0
      ∙ in_quotes t (f ++ (b ∷ [])) a.1
      ∙ ap (λ (g : List ℕ). read_from quoted g r l) (append_snoc f b t)

-- ---- a field, and the comma or the CRLF behind it

module _ (r : List (List ℕ)) (l : List ℕ) where
  comma_plain : (t : List ℕ) → AllText t → read_from start [] r (t ++ (44 ∷ l)) ≡ read_from start [] (r ++ (t ∷ [])) l
  unfolding read_from class_of
  comma_plain [] a = refl
  comma_plain (b ∷ t) a = turn start [] r b (t ++ (44 ∷ l)) text a.0 ∙ in_plain r (44 ∷ l) t (b ∷ []) a.1

  comma_quoted : (t : List ℕ) → Allowed t → read_from start [] r ((34 ∷ (doubled t ++ (34 ∷ []))) ++ (44 ∷ l)) ≡ read_from start [] (r ++ (t ∷ [])) l
  unfolding read_from class_of
  comma_quoted t a =
      ap (read_from quoted [] r) (append_assoc (doubled t) (34 ∷ []) (44 ∷ l)) ∙ in_quotes r (34 ∷ 44 ∷ l) t [] a

  field_comma : (t : List ℕ) → Allowed t → read_from start [] r (field t ++ (44 ∷ l)) ≡ read_from start [] (r ++ (t ∷ [])) l
  unfolding field
  field_comma t a = go (some? (λ b. special (class_of b)) t) refl
    where
      go : (q : Bool) → some? (λ b. special (class_of b)) t ≡ q → read_from start [] r (quoted_if q t ++ (44 ∷ l)) ≡ read_from start [] (r ++ (t ∷ [])) l
      go true e = comma_quoted t a
      go false e = comma_plain t (all_text t a e)

  line_plain : (t : List ℕ) → AllText t → read_from start [] r (t ++ (13 ∷ 10 ∷ l)) ≡ before (r ++ (t ∷ [])) (read_from start [] [] l)
  unfolding read_from class_of
  line_plain [] a = refl
  line_plain (b ∷ t) a = turn start [] r b (t ++ (13 ∷ 10 ∷ l)) text a.0 ∙ in_plain r (13 ∷ 10 ∷ l) t (b ∷ []) a.1

  line_quoted : (t : List ℕ) → Allowed t → read_from start [] r ((34 ∷ (doubled t ++ (34 ∷ []))) ++ (13 ∷ 10 ∷ l)) ≡ before (r ++ (t ∷ [])) (read_from start [] [] l)
  unfolding read_from class_of
  line_quoted t a =
      ap (read_from quoted [] r) (append_assoc (doubled t) (34 ∷ []) (13 ∷ 10 ∷ l)) ∙ in_quotes r (34 ∷ 13 ∷ 10 ∷ l) t [] a

  field-line : (t : List ℕ) → Allowed t → read_from start [] r (field t ++ (13 ∷ 10 ∷ l)) ≡ before (r ++ (t ∷ [])) (read_from start [] [] l)
  unfolding field
  field-line t a = go (some? (λ b. special (class_of b)) t) refl
    where
      go : (q : Bool) → some? (λ b. special (class_of b)) t ≡ q → read_from start [] r (quoted_if q t ++ (13 ∷ 10 ∷ l)) ≡ before (r ++ (t ∷ [])) (read_from start [] [] l)
      go true e = line_quoted t a
      go false e = line_plain t (all_text t a e)

-- ---- a record, and all of them

record_read : (r fs : List (List ℕ)) (l : List ℕ) → (fs ≡ [] → ⊥) → AllAllowed fs
    → read_from start [] r (record_text fs ++ l) ≡ before (r ++ fs) (read_from start [] [] l)
unfolding record_text
record_read r [] l n a = absurd (n refl)
record_read r (f ∷ []) l n a = ap (read_from start [] r) (append_assoc (field f) (13 ∷ 10 ∷ []) l) ∙ field-line r l f a.0
record_read r (f ∷ g ∷ fs) l n a =
    ap (read_from start [] r) (append_assoc (field f) (44 ∷ record_text (g ∷ fs)) l)
    ∙ field_comma r (record_text (g ∷ fs) ++ l) f a.0
    ∙ record_read (r ++ (f ∷ [])) (g ∷ fs) l (cons-ne-nil g fs) a.1
    ∙ ap (λ (x : List (List ℕ)). before x (read_from start [] [] l)) (append_snoc r f (g ∷ fs))

-- "Reading the output by the RFC gives back the same fields"
pub read_back : (rs : List (List (List ℕ))) → Writable rs → read (csv rs) ≡ some rs
unfolding read read_from
read_back [] w = refl
read_back (r ∷ rs) w =
    record_read [] r (csv rs) w.0.0 w.0.1 ∙ ap (before r) (read_back rs w.1)
