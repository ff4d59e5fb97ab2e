-- Copies whose source rows wait: in order, in two parts, while they are marked, and with one more of them.
use Prim.Native.Nat.{ℕ, zero, suc, ◌+◌, ◌≤◌, ◌<◌}
use native.Mathlib.Omega.{arith}
use mathlib.Core.Path.{◌≡◌, refl, sym, ap, ap₂, subst, ◌∙◌}
use mathlib.Core.Bool.{Bool, true, false, cond}
use mathlib.Core.List.{List, [], ◌∷◌, ◌++◌, append-nil, append_assoc}
use lib.Ieee.{Float}
use lib.ListN.{length, get_or, set, take, drop, length-append, take-append-drop, get_or-append}
use lib.Seq.{lt-length-set, get_or-set_other, set-get_or, get_or-append_seam}
use Rattle.laws.specs.Floats.{zero_f, smaller}
use Rattle.rules.specs.Number.{weight}
use Rattle.rules.specs.Operate.{Copy, Values, place, sorted}
use Rattle.rules.specs.Value.{no_source, with_penalty, with_copy, marked}
use Rattle.rules.specs.declared.Source.{Source}
use Rattle.operate.specs.Held.{copy}
use Rattle.numbers.proofs.Weights.{past}
use Rattle.sources.specs.Marks.{Waits, Away, nowhere, away, Fresh, empty, fresh}

-- ---- in order, before others

place_away : (x : Copy) (k : ℕ) (l ys : List Copy) → (x.source ≡ k → ⊥) → Away k (l ++ ys) → Away k (place x l ++ ys)
unfolding place
place_away x k [] ys h a = away h a
place_away x k (y ∷ r) ys h (away g a) = go (smaller x.value y.value) (place_away x k r ys h a)
  where
    go : (t : Bool) → Away k (place x r ++ ys) → Away k (cond t (y ∷ place x r) (x ∷ y ∷ r) ++ ys)
    go true q = away g q
    go false q = away h (away g a)

sorted_away : (k : ℕ) (l ys : List Copy) → Away k (l ++ ys) → Away k (sorted l ++ ys)
unfolding sorted
sorted_away k [] ys a = a
sorted_away k (x ∷ r) ys (away h a) = place_away x k (sorted r) ys h (sorted_away k r ys a)

module _ (own : List Source) where
  place-fresh : (x : Copy) (l ys : List Copy) → x.source < length own → Waits (get_or own x.source no_source) → Away x.source (l ++ ys) → Fresh own (l ++ ys) → Fresh own (place x l ++ ys)
  unfolding place
  place-fresh x [] ys h u a f = fresh h u a f
  place-fresh x (y ∷ r) ys h u (away g a) (fresh i v b f) = go (smaller x.value y.value) (place-fresh x r ys h u a f)
    where
      go : (t : Bool) → Fresh own (place x r ++ ys) → Fresh own (cond t (y ∷ place x r) (x ∷ y ∷ r) ++ ys)
      go true q = fresh i v (place_away x y.source r ys (λ e. g (sym e)) b) q
      go false q = fresh h u (away g a) (fresh i v b f)

  sorted_before : (xs ys : List Copy) → Fresh own (xs ++ ys) → Fresh own (sorted xs ++ ys)
  unfolding sorted
  sorted_before [] ys f = f
  sorted_before (x ∷ xs) ys (fresh h u a f) = place-fresh x (sorted xs) ys h u (sorted_away x.source xs ys a) (sorted_before xs ys f)

  pub sorted-fresh : (xs : List Copy) → Fresh own xs → Fresh own (sorted xs)
  sorted-fresh xs f = subst (Fresh own) (append-nil (sorted xs)) (sorted_before xs [] (subst (Fresh own) (sym (append-nil xs)) f))

-- ---- two parts

left_away : (k : ℕ) (xs ys : List Copy) → Away k (xs ++ ys) → Away k xs
left_away k [] ys a = nowhere
left_away k (x ∷ xs) ys (away h a) = away h (left_away k xs ys a)

pub left_fresh : (own : List Source) (xs ys : List Copy) → Fresh own (xs ++ ys) → Fresh own xs
left_fresh own [] ys f = empty
left_fresh own (x ∷ xs) ys (fresh h u a f) = fresh h u (left_away x.source xs ys a) (left_fresh own xs ys f)

pub take-fresh : (own : List Source) (n : ℕ) (xs : List Copy) → Fresh own xs → Fresh own (take n xs)
take-fresh own n xs f = left_fresh own (take n xs) (drop n xs) (subst (Fresh own) (sym (take-append-drop n xs)) f)

-- ---- marking

-- another source row changes
pub set-fresh : (own : List Source) (k : ℕ) (r : Source) (l : List Copy) → Away k l → Fresh own l → Fresh (set own k r) l
set-fresh own k r [] nowhere empty = empty
set-fresh own k r (x ∷ l) (away h a) (fresh i u b f) =
    fresh (lt-length-set own k r i) (subst Waits (sym (get_or-set_other own k x.source r no_source h)) u) b (set-fresh own k r l a f)

marked_rest : (p : ℕ) (xs ys : List Copy) (own : List Source) → Fresh own (xs ++ ys) → Fresh (marked p xs own) ys
unfolding marked
marked_rest p [] ys own f = f
marked_rest p (x ∷ xs) ys own (fresh h u a f) =
    let r = with_penalty (weight p) (get_or own x.source no_source) in
    marked_rest (suc p) xs ys (set own x.source r) (set-fresh own x.source r (xs ++ ys) a f)

-- the second part after the first is marked
pub marked-fresh : (own : List Source) (xs ys : List Copy) → Fresh own (xs ++ ys) → Fresh (marked 0 (sorted xs) own) ys
marked-fresh own xs ys f = marked_rest 0 (sorted xs) ys own (sorted_before own xs ys f)

pub marked_none : (p : ℕ) (l : List Copy) → marked p l [] ≡ []
unfolding marked
marked_none p [] = refl
marked_none p (x ∷ l) = marked_none (suc p) l

-- a penalty of 0.0 is what waits
unmarked : (r : Source) → Waits r → with_penalty zero_f r ≡ r
unmarked r u =
    ap₂ (λ (p : Bool) (x : Float). record {
      «from» = r.«from»;
      effect_id = r.effect_id;
      source_attribute_id = r.source_attribute_id;
      operator = r.operator;
      value = r.value;
      quantity = r.quantity;
      penalised = p;
      penalty = x;
      applied = r.applied;
      state = r.state;
    }) (sym u.penalised) (sym u.penalty)

-- from position 8 on nothing changes
marked_past : (p : ℕ) (l : List Copy) (own : List Source) → 8 ≤ p → Fresh own l → marked p l own ≡ own
unfolding marked
marked_past p [] own h f = refl
marked_past p (x ∷ l) own h (fresh i u a f) = ap (marked (suc p) l) same ∙ marked_past (suc p) l own (omega (arith, h)) f
  where
    same : set own x.source (with_penalty (weight p) (get_or own x.source no_source)) ≡ own
    same =
        ap (λ (v : Float). set own x.source (with_penalty v (get_or own x.source no_source))) (sym (past p h))
        ∙ ap (λ (r : Source). set own x.source r) (unmarked (get_or own x.source no_source) u) ∙ set-get_or own x.source no_source

marked-first : (n p : ℕ) (l : List Copy) (own : List Source) → 8 ≤ n + p → Fresh own l → marked p l own ≡ marked p (take n l) own
unfolding marked
marked-first zero p l own h f = marked_past p l own (omega (arith, h)) f
marked-first (suc n) p [] own h empty = refl
marked-first (suc n) p (x ∷ l) own h (fresh i u a f) =
    let r = with_penalty (weight p) (get_or own x.source no_source) in
    marked-first n (suc p) l (set own x.source r) (omega (arith, h)) (set-fresh own x.source r l a f)

pub marked_eight : (l : List Copy) (own : List Source) → Fresh own l → marked 0 l own ≡ marked 0 (take 8 l) own
marked_eight l own f = marked-first 8 0 l own (omega arith) f

-- ---- one more source row

pub more-fresh : (own : List Source) (r : Source) (l : List Copy) → Fresh own l → Fresh (own ++ (r ∷ [])) l
more-fresh own r [] empty = empty
more-fresh own r (x ∷ l) (fresh i u a f) =
    let longer : x.source < length (own ++ (r ∷ [])) = omega (arith, i, length-append own (r ∷ [])) in
    fresh longer (subst Waits (sym (get_or-append own (r ∷ []) no_source x.source i)) u) a (more-fresh own r l f)

next_away : (own : List Source) (l : List Copy) → Fresh own l → Away (length own) l
next_away own [] empty = nowhere
next_away own (x ∷ l) (fresh i u a f) =
    let other : x.source ≡ length own → ⊥ = λ e. omega (arith, i, e) in
    away other (next_away own l f)

insert_away : (k : ℕ) (c : Copy) (xs ys : List Copy) → (c.source ≡ k → ⊥) → Away k (xs ++ ys) → Away k ((xs ++ (c ∷ [])) ++ ys)
insert_away k c [] ys h a = away h a
insert_away k c (x ∷ xs) ys h (away g a) = away g (insert_away k c xs ys h a)

insert-fresh : (own : List Source) (c : Copy) (xs ys : List Copy) → c.source < length own → Waits (get_or own c.source no_source) → Away c.source (xs ++ ys) → Fresh own (xs ++ ys)
    → Fresh own ((xs ++ (c ∷ [])) ++ ys)
insert-fresh own c [] ys h u a f = fresh h u a f
insert-fresh own c (x ∷ xs) ys h u (away g a) (fresh i v b f) = fresh i v (insert_away x.source c xs ys (λ e. g (sym e)) b) (insert-fresh own c xs ys h u a f)

module _ (own : List Source) (r : Source) (x : Float) (u : Waits r) where
  -- the row of a copy more, in the first part
  pub copy-first : (xs ys : List Copy) → Fresh own (xs ++ ys) → Fresh (own ++ (r ∷ [])) ((xs ++ (copy x (length own) ∷ [])) ++ ys)
  copy-first xs ys f =
      insert-fresh (own ++ (r ∷ [])) (copy x (length own)) xs ys (omega (arith, length-append own (r ∷ []))) (subst Waits (sym (get_or-append_seam own r [] no_source)) u) (next_away own (xs ++ ys) f)
      (more-fresh own r (xs ++ ys) f)

  -- at the end
  pub copy_last : (xs : List Copy) → Fresh own xs → Fresh (own ++ (r ∷ [])) (xs ++ (copy x (length own) ∷ []))
  copy_last xs f = subst (Fresh (own ++ (r ∷ []))) (append-nil (xs ++ (copy x (length own) ∷ []))) (copy-first xs [] (subst (Fresh own) (sym (append-nil xs)) f))

  -- in its bucket
  pub copy-fresh : (t : Bool) (g : Values) → Fresh own (g.positive ++ g.negative)
      → Fresh (own ++ (r ∷ [])) ((with_copy t (copy x (length own)) g).positive ++ (with_copy t (copy x (length own)) g).negative)
  copy-fresh true g f = subst (Fresh (own ++ (r ∷ []))) (append_assoc g.positive g.negative (copy x (length own) ∷ [])) (copy_last (g.positive ++ g.negative) f)
  copy-fresh false g f = copy-first g.positive g.negative f
