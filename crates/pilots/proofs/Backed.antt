-- Parts of columns that are lent and come back: their lengths, and the columns' as they were.
use Prim.Native.Nat.{ℕ, ◌-◌, ◌*◌, ◌^◌, ◌≤◌, ◌<◌}
use native.Mathlib.Nat.{le_trans, lt_trans, mul-le-mul_right}
use native.Mathlib.Omega.{arith}
use mathlib.Core.Path.{◌≡◌, ap, ◌∙◌}
use mathlib.Core.List.{List, ◌++◌}
use lib.Dec.{lit<}
use lib.ListN.{length, take, drop, length-drop, length-append}
use lib.Seq.{length-take-le}
use mir.Syntax.{w64}
use mir.Val.{Fits}
use mir.Facts.{Fits-le}
use Rattle.laws.specs.Columns.{within}
use Rattle.rules.specs.Pool.{first_of, length_of}
use Rattle.pool.specs.Pooled.{start_of, part_end}
use Rattle.pool.proofs.Parts.{part_long, part_ordered, part_within}

-- the part from a to e, and a column with ys in its place
abbrev pub cut : {A : Type 0} → ℕ → ℕ → List A → List A
cut a e c = take (e - a) (drop a c)

abbrev pub backed : {A : Type 0} → ℕ → ℕ → List A → List A → List A
backed a e ys c = take a c ++ (ys ++ drop (e - a) (drop a c))

module _ {A : Type 0} (a e : ℕ) (c : List A) (h : (a ≤ e) × (e ≤ length c)) where
  -- a part is as long as from its beginning to its end
  pub cut_long : length (cut a e c) ≡ e - a
  cut_long = length-take-le (e - a) (drop a c) (let d = length-drop a c in omega (arith, d, h.0, h.1))

  -- a column whose part has come back is as long as it was
  pub same_long : (ys : List A) → length ys ≡ length (cut a e c) → length (backed a e ys c) ≡ length c
  same_long ys k =
      let t = length-append (take a c) (ys ++ drop (e - a) (drop a c)) in
      let u = length-append ys (drop (e - a) (drop a c)) in
      let v = length-take-le a c (omega (arith, h.0, h.1)) in
      let w = length-drop (e - a) (drop a c) in
      let x = length-drop a c in
      let y = cut_long in omega (arith, t, u, v, w, x, y, k, h.0, h.1)

-- where a stretch is lent
module _ {A : Type 0} (s : List ℕ) (c : List A) (n : part_end s ≤ length c) where
  pub stretch_long : length (cut (start_of s) (part_end s) c) ≡ length_of s
  stretch_long = cut_long (start_of s) (part_end s) c (part_ordered s, n) ∙ part_long s

  pub stretch_same : (ys : List A) → length ys ≡ length (cut (start_of s) (part_end s) c) → length (backed (start_of s) (part_end s) ys c) ≡ length c
  stretch_same = same_long (start_of s) (part_end s) c (part_ordered s, n)

  -- the column with the stretch's new rows in their place
  pub stretch_within : (ys xs : List A) → length ys ≡ length (cut (start_of s) (part_end s) c) → ys ≡ xs → backed (start_of s) (part_end s) ys c ≡ within (first_of s) (length_of s) xs c
  stretch_within ys xs k m = part_within s ys c (k ∙ stretch_long) ∙ ap (λ (x : List A). within (first_of s) (length_of s) x c) m
