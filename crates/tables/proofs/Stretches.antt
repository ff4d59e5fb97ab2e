-- Tables that say what stands in the bytes, record for record: their pairs are the header's, their records the bytes behind it.
use Prim.Native.Nat.{ℕ, zero, suc, ◌+◌, ◌*◌, ◌-◌, ◌≤◌, ◌<◌}
use native.Mathlib.Nat.{add-zero, mul-zero, mul-suc, mul-le-mul_left}
use native.Mathlib.Omega.{arith}
use mathlib.Core.Path.{◌≡◌, refl, sym, ap, ◌∙◌, subst}
use mathlib.Core.List.{List, [], ◌∷◌, ◌++◌}
use lib.ListN.{length, take, drop, length-drop, take-append-drop}
use lib.Seq.{drop-drop, drop-length, length-take-le}
use Rattle.laws.specs.Lists.{flat, from}
use Rattle.rules.specs.Bytes.{count_of, offset_of, width_of, record_at}
use Rattle.rules.specs.Shape.{end_of}
use Rattle.tables.specs.Layout.{rows_of, Octets}
use Rattle.tables.specs.Tables.{Tab, pairs_from, body_of}
use Rattle.tables.proofs.Tables.{put_together}

pub octets_take : (n : ℕ) (b : List ℕ) → Octets b → Octets (take n b)
octets_take zero b o = tt
octets_take (suc n) [] o = tt
octets_take (suc n) (x ∷ b) o = (o.0, octets_take n b o.1)

pub octets_drop : (n : ℕ) (b : List ℕ) → Octets b → Octets (drop n b)
octets_drop zero b o = o
octets_drop (suc n) [] o = tt
octets_drop (suc n) (x ∷ b) o = octets_drop n b o.1

flat-from : (f g : ℕ → List ℕ) (a n : ℕ) → ((k : ℕ) → k < a + n → f k ≡ g k) → flat f (from a n) ≡ flat g (from a n)
flat-from f g a zero e = refl
flat-from f g a (suc n) e = rw (e a (omega arith), flat-from f g (suc a) n (λ k h. e k (omega (arith, h)))) refl

-- "Tables follow in order without gaps", to the end of the bytes
pub record Gapless (b : List ℕ) (ps : List (List ℕ)) : Type 0 where
  pub next : (i : ℕ) → i < 10 → offset_of ps (suc i) ≡ end_of ps i
  pub end : end_of ps 10 ≡ length b

-- what table i + 1 has to be
pub record Again (b : List ℕ) (ps : List (List ℕ)) (i : ℕ) (x : Tab) : Type 0 where
  pub width : x.width ≡ width_of (suc i)
  pub count : x.count ≡ count_of ps (suc i)
  pub bytes : (k : ℕ) → k < count_of ps (suc i) → x.bytes k ≡ record_at b ps (suc i) k

abbrev pub AllAgain : List ℕ → List (List ℕ) → ℕ → List Tab → Type 0
AllAgain b ps i [] = i ≡ 10
AllAgain b ps i (x ∷ xs) = Again b ps i x × AllAgain b ps (suc i) xs

module _ {b : List ℕ} {ps : List (List ℕ)} (g : Gapless b ps) where
  end_in : (j i : ℕ) → i + j ≡ 10 → end_of ps i ≤ length b
  end_in zero i e = let z : i ≡ 10 = omega (arith, e) in rw z (omega (arith, g.end))
  end_in (suc j) i e = omega (arith, g.next i (omega (arith, e)), end_in j (suc i) (omega (arith, e)))

  -- a record lies inside
  pub record_wide : (i k : ℕ) → i < 10 → k < count_of ps (suc i) → length (record_at b ps (suc i) k) ≡ width_of (suc i)
  record_wide i k h l =
      length-take-le (width_of (suc i)) (drop (offset_of ps (suc i) + width_of (suc i) * k) b)
      (rw (length-drop (offset_of ps (suc i) + width_of (suc i) * k) b) (omega (arith, room)))
    where
      more : width_of (suc i) * k + width_of (suc i) ≤ width_of (suc i) * count_of ps (suc i)
      more = subst (λ (m : ℕ). m ≤ width_of (suc i) * count_of ps (suc i)) (mul-suc (width_of (suc i)) k) (mul-le-mul_left (width_of (suc i)) l)

      room : offset_of ps (suc i) + width_of (suc i) * k + width_of (suc i) ≤ length b
      room = omega (arith, more, end_in (10 - suc i) (suc i) (omega (arith, h)))

  pub body_again : (i : ℕ) (xs : List Tab) → i + length xs ≡ 10 → AllAgain b ps i xs → body_of xs ≡ drop (end_of ps i) b
  body_again i [] e a = rw a (sym (ap (λ (m : ℕ). drop m b) g.end ∙ drop-length b))
  body_again i (x ∷ xs) e a =
      ap (λ (l : List ℕ). l ++ body_of xs) (rows ∙ put_together w at b 0 n)
      ∙ ap (λ (l : List ℕ). take (w * n) (drop (at + w * 0) b) ++ l) (body_again (suc i) xs (omega (arith, e)) a.1)
      ∙ joined
    where
      n : ℕ
      n = count_of ps (suc i)

      w : ℕ
      w = width_of (suc i)

      at : ℕ
      at = offset_of ps (suc i)

      rows : rows_of x.bytes x.count ≡ flat (λ k. record_at b ps (suc i) k) (from 0 n)
      rows = ap (rows_of x.bytes) a.0.count ∙ flat-from x.bytes (λ k. record_at b ps (suc i) k) 0 n (λ k h. a.0.bytes k (omega (arith, h)))

      joined : take (w * n) (drop (at + w * 0) b) ++ drop (at + w * n) b ≡ drop (end_of ps i) b
      joined =
          ap (λ (m : ℕ). take (w * n) (drop m b) ++ drop (at + w * n) b) (ap (λ (m : ℕ). at + m) (mul-zero w) ∙ add-zero at)
          ∙ ap (λ (l : List ℕ). take (w * n) (drop at b) ++ l) (sym (drop-drop (w * n) at b))
          ∙ take-append-drop (w * n) (drop at b)
          ∙ ap (λ (m : ℕ). drop m b) (g.next i (omega (arith, e)))

  pub pairs-again : (i : ℕ) (xs : List Tab) → i + length xs ≡ 10 → AllAgain b ps i xs
      → pairs_from (end_of ps i) xs ≡ flat (λ j. count_of ps (suc j) ∷ offset_of ps (suc j) ∷ []) (from i (length xs))
  pairs-again i [] e a = refl
  pairs-again i (x ∷ xs) e a =
      ap (λ (n : ℕ). n ∷ end_of ps i ∷ pairs_from (end_of ps i + x.width * x.count) xs) a.0.count
      ∙ ap (λ (m : ℕ). count_of ps (suc i) ∷ end_of ps i ∷ pairs_from m xs) there
      ∙ ap (λ (m : ℕ). count_of ps (suc i) ∷ m ∷ pairs_from (end_of ps (suc i)) xs) (sym (g.next i (omega (arith, e))))
      ∙ ap (λ (l : List ℕ). count_of ps (suc i) ∷ offset_of ps (suc i) ∷ l) (pairs-again (suc i) xs (omega (arith, e)) a.1)
    where
      there : end_of ps i + x.width * x.count ≡ end_of ps (suc i)
      there =
          ap (λ (m : ℕ). m + x.width * x.count) (sym (g.next i (omega (arith, e))))
          ∙ ap (λ (w : ℕ). offset_of ps (suc i) + w * x.count) a.0.width
          ∙ ap (λ (n : ℕ). offset_of ps (suc i) + width_of (suc i) * n) a.0.count
