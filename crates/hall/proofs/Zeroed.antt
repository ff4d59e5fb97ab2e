-- Parts of columns that come back as zeros, in their places.
use Prim.Native.Nat.{ℕ, ◌+◌, ◌-◌, ◌≤◌}
use native.Mathlib.Omega.{arith}
use mathlib.Core.Path.{◌≡◌, refl, ap, ◌∙◌}
use mathlib.Core.List.{List, ◌++◌}
use lib.Ieee.{Float}
use lib.ListN.{length, take, drop, replicate, length-drop, length-append}
use lib.Seq.{length-take-le}
use Rattle.laws.specs.Columns.{within}
use Rattle.laws.proofs.Within.{lent-within}
use Rattle.clear.specs.Ends.{cleared}
use Rattle.clear.proofs.Columned.{cleared_zeros}
use Rattle.promises.specs.Pilots.{Pool}

module _ {A : Type 0} (a n : ℕ) (c : List A) (h : a + n ≤ length c) {e : ℕ} (end : e ≡ a + n) where
  -- a part is as long as from its beginning to its end
  part_long : length (take (e - a) (drop a c)) ≡ n
  part_long = length-take-le (e - a) (drop a c) (let d = length-drop a c in omega (arith, d, h, end)) ∙ (let z : e - a ≡ n = omega (arith, end) in z)

  -- a column whose part has come back is as long as it was
  pub same_long : (ys : List A) → length ys ≡ length (take (e - a) (drop a c)) → length (take a c ++ (ys ++ drop (e - a) (drop a c))) ≡ length c
  same_long ys k =
      let t = length-append (take a c) (ys ++ drop (e - a) (drop a c)) in
      let u = length-append ys (drop (e - a) (drop a c)) in
      let v = length-take-le a c (omega (arith, h)) in
      let w = length-drop (e - a) (drop a c) in
      let x = length-drop a c in
      let y = part_long in omega (arith, t, u, v, w, x, y, k, h, end)

  pub zeroed : (z : A) (ys : List A) → ys ≡ cleared z 0 (take (e - a) (drop a c)) → take a c ++ (ys ++ drop (e - a) (drop a c)) ≡ within a n (replicate n z) c
  zeroed z ys k =
      lent-within a e n ys c end ∙ ap (λ (x : List A). within a n x c) (k ∙ cleared_zeros z (take (e - a) (drop a c)) ∙ ap (λ (m : ℕ). replicate m z) part_long)

pub zero_states : (s : List (List ℕ)) {t : List (List ℕ)} → t ≡ cleared (replicate 2 0) 0 s → length s ≡ 1024 → t ≡ replicate 1024 (replicate 2 0)
zero_states s e h = e ∙ cleared_zeros (replicate 2 0) s ∙ ap (λ (n : ℕ). replicate n (replicate 2 0)) h

pub pool_same : {s s' : List (List (List ℕ))} {c c' : List (List ℕ)} {v v' : List Float} {r r' : List (List ℕ)} {b b' x x' : List Float} {e e' : List (List ℕ)} {w w' : List Float} {p p' o o' : List (List ℕ)} {g g' : List (List Float)}
    → s ≡ s' → c ≡ c' → v ≡ v' → r ≡ r' → b ≡ b' → x ≡ x' → e ≡ e' → w ≡ w' → p ≡ p' → o ≡ o' → g ≡ g'
    → ◌≡◌ {A = Pool} (record { states = s; collected = c; collected_values = v; rows = r; bases = b; values = x; entries = e; entry_values = w; plain = p; sources = o; source_floats = g })
    (record { states = s'; collected = c'; collected_values = v'; rows = r'; bases = b'; values = x'; entries = e'; entry_values = w'; plain = p'; sources = o'; source_floats = g' })
pool_same a b c d e f g h i j k = rw (a, b, c, d, e, f, g, h, i, j, k) refl
