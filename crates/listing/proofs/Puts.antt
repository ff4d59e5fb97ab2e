-- Texts put one after another, where they end, and what stands there then.
use Prim.Native.Nat.{ℕ, suc, ◌+◌, ◌-◌, ◌≤◌, ◌<◌}
use native.Mathlib.Nat.{add-zero}
use native.Mathlib.Numerals.{add-one}
use native.Mathlib.Omega.{arith}
use mathlib.Core.Path.{◌≡◌, refl, sym, ap, ◌∙◌}
use mathlib.Core.List.{List, [], ◌∷◌, ◌++◌, append_assoc}
use borrow.Rule.Slice.PartMut.{put_mid, Post-is}
use lib.ListN.{length, set, take, drop, length-append}
use lib.Seq.{sets, sets-eq, length-sets, length-take-le, take_at}
use Rattle.listing.specs.Put.{Put, put, puts}

pub puts_append : (xs ys : List ℕ) (s : Put) → puts (xs ++ ys) s ≡ puts ys (puts xs s)
unfolding puts
puts_append [] ys s = refl
puts_append (x ∷ xs) ys (put at out) = puts_append xs ys (put (at + 1) (set out at x))

-- the second text from where the first ended
pub after : (xs ys : List ℕ) (s : Put) {t u : Put} → t ≡ puts xs s → u ≡ puts ys t → u ≡ puts (xs ++ ys) s
after xs ys s e f = f ∙ ap (puts ys) e ∙ sym (puts_append xs ys s)

-- another name of the text
pub renamed : {xs ys : List ℕ} (s : Put) {t : Put} → xs ≡ ys → t ≡ puts xs s → t ≡ puts ys s
renamed s e f = f ∙ ap (λ (l : List ℕ). puts l s) e

pub room_renamed : {xs ys : List ℕ} (at n : ℕ) → xs ≡ ys → at + length ys ≤ n → at + length xs ≤ n
room_renamed at n e h = rw e h

abbrev pub place_of : Put → ℕ
place_of (put at out) = at

abbrev pub text_of : Put → List ℕ
text_of (put at out) = out

next_place : (at n : ℕ) → suc at + n ≡ at + suc n
next_place at n = omega arith

pub puts-sets : (xs : List ℕ) (at : ℕ) (out : List ℕ) → puts xs (put at out) ≡ put (at + length xs) (sets out at xs)
unfolding puts
puts-sets [] at out = ap (λ (k : ℕ). put k out) (sym (add-zero at))
puts-sets (x ∷ xs) at out = rw add-one (puts-sets xs (suc at) (set out at x) ∙ ap (λ (k : ℕ). put k (sets (set out at x) (suc at) xs)) (next_place at (length xs)))

module _ (xs : List ℕ) (at : ℕ) (out : List ℕ) {r : ℕ} {now : List ℕ} (e : put r now ≡ puts xs (put at out)) where
  -- where a text ends
  pub ends : r ≡ at + length xs
  ends = ap place_of (e ∙ puts-sets xs at out)

  pub becomes : now ≡ sets out at xs
  becomes = ap text_of (e ∙ puts-sets xs at out)

  pub as_long : length now ≡ length out
  as_long = ap length becomes ∙ length-sets out at xs

  -- and that it ends within so many bytes
  pub bounded : (k : ℕ) → length xs ≤ k → (put r now ≡ puts xs (put at out)) × (r ≤ at + k)
  bounded k h = (e, omega (arith, ends, h))

-- room for a text and the next is room for the next, once the first stands
module _ (xs ys : List ℕ) (at : ℕ) (out : List ℕ) (h : at + length (xs ++ ys) ≤ length out) where
  pub room : at + length xs ≤ length out
  room = let e = length-append xs ys in omega (arith, e, h)

  pub room_after : {r : ℕ} {now : List ℕ} → put r now ≡ puts xs (put at out) → r + length ys ≤ length now
  room_after e =
      let k = length-append xs ys in
      omega (arith, ends xs at out e, as_long xs at out e, k, h)

pub room_byte : (x : ℕ) (ys : List ℕ) (at n : ℕ) → at + length (x ∷ ys) ≤ n → at < n
room_byte x ys at n h = omega (arith, h)

-- bytes copied into a stretch are put there
pub copied : {xs ys : List ℕ} (at k : ℕ) (out : List ℕ) → ys ≡ xs → length xs ≡ k → at + k ≤ length out
    → put (at + k) (put_mid at (at + k - at) out ys) ≡ puts xs (put at out)
copied {xs} {ys} at k out e l h = rw (into, ← l) (sym (puts-sets xs at out))
  where
    here : at + k ≡ at + length xs
    here = ap (λ (n : ℕ). at + n) (sym l)

    into : put_mid at (at + k - at) out ys ≡ sets out at xs
    into =
        rw (e, Post-is at (at + k) out (omega arith), here)
        (sym (sets-eq xs out at (omega (arith, h, l)) ∙ append_assoc (take at out) xs (drop (at + length xs) out)))

-- a text put behind others stands behind them
pub grows : (xs : List ℕ) (at : ℕ) (out : List ℕ) {r : ℕ} {now : List ℕ} → at ≤ length out → r ≤ length out → put r now ≡ puts xs (put at out) → take r now ≡ take at out ++ xs
grows xs at out {r} {now} a h e =
    let n : r ≡ at + length xs = ends xs at out e in
    let k : at + length xs ≤ length out = omega (arith, n, h) in
    ap (take r) (becomes xs at out e ∙ sets-eq xs out at k)
    ∙ take_at (take at out ++ xs) (drop (at + length xs) out) r (length-append (take at out) xs ∙ ap (λ (m : ℕ). m + length xs) (length-take-le at out a) ∙ sym n)
