-- A source row gets its penalty: what the columns hold then, and one turn of `set_penalties`.
use Prim.Native.Nat.{ℕ, suc, ◌+◌, ◌≤◌, ◌<◌, min}
use native.Mathlib.Omega.{arith}
use native.Mathlib.Numerals.{add-one}
use mathlib.Core.Path.{◌≡◌, refl, sym, ap, subst, ◌∙◌}
use mathlib.Core.Bool.{Bool, true, false}
use mathlib.Core.List.{List, [], ◌∷◌, ◌++◌}
use mathlib.Core.Logic.{inl, inr}
use borrow.Author.Tests.{ltb-true, ltb-false, eqb-true, eqb-false}
use lib.Dec.{ltb, eqb}
use lib.Ieee.{Float, nan}
use lib.ListN.{length, get_or, set, take, drop, length-set, drop_of_length-le}
use lib.Seq.{get_or-set_same, get_or-set_other, set-get_or, set-set, drop-cons, get_or-take, length-take-le}
use Rattle.laws.proofs.Bools.{true_or_false, both_ways}
use Rattle.rules.specs.Columns.{source_numbers, source_floats, yes1, from_numbers, optional_numbers}
use Rattle.rules.specs.Codes.{operator_code, state_code}
use Rattle.rules.specs.Number.{weight}
use Rattle.rules.specs.Operate.{Copy, sorted}
use Rattle.rules.specs.Value.{World, Mem, own_sources, no_source, with_penalty, with_own, marked}
use Rattle.rules.specs.declared.Source.{Source}
use Rattle.operate.specs.declared.buckets.Bucket.{Bucket}
use Rattle.operate.specs.Held.{pairs, copy, Gathered}
use Rattle.operate.proofs.Inserts.{pairs-length, held_kept}
use Rattle.operate.proofs.Weighings.{pairs-at}
use Rattle.sources.specs.declared.Recording.{Recording}
use Rattle.sources.specs.Shown.{shown, placed, first_of}
use Rattle.sources.specs.Keeping.{RunOf, Begins, Keeping}
use Rattle.sources.specs.Marks.{Fresh, fresh, penalty_at}
use Rattle.sources.proofs.Showing.{filled_set, shown_put, shown_past, shown_length}
use Rattle.sources.proofs.Marking.{sorted-fresh, take-fresh, set-fresh, marked_eight, marked_none}

-- source row k of row i, of the rows qs
module _ {A B : Type 0} (enc : A → B) (room : ℕ) (counts : List ℕ) (qs : List (List A)) (c₀ : List B) (i k : ℕ) (l : length qs ≡ length counts) (h : i < length counts)
    (b : k < length (get_or qs i [])) (fit : length (get_or qs i []) ≤ get_or counts i 0) where
  planned : k < get_or counts i 0
  planned = omega (arith, b, fit)

  changes : (r : A) → first_of counts i + k < room → shown enc room counts (set qs i (set (get_or qs i []) k r)) c₀ ≡ set (shown enc room counts qs c₀) (first_of counts i + k) (enc r)
  changes r t = shown_put enc room counts qs c₀ i k (set (get_or qs i []) k r) r l h planned (filled_set (get_or counts i 0) (get_or qs i []) k r b) t

  changes_past : (r : A) → room ≤ first_of counts i + k → shown enc room counts (set qs i (set (get_or qs i []) k r)) c₀ ≡ shown enc room counts qs c₀
  changes_past r t = shown_past enc room counts qs c₀ i k (set (get_or qs i []) k r) r l h planned (filled_set (get_or counts i 0) (get_or qs i []) k r b) t

  module _ (d : A) where
    abbrev there : A
    there = get_or (get_or qs i []) k d

    itself : set qs i (set (get_or qs i []) k there) ≡ qs
    itself = ap (λ (q : List A). set qs i q) (set-get_or (get_or qs i []) k d) ∙ set-get_or qs i []

    stays : first_of counts i + k < room → shown enc room counts qs c₀ ≡ set (shown enc room counts qs c₀) (first_of counts i + k) (enc there)
    stays t = ap (λ (q : List (List A)). shown enc room counts q c₀) (sym itself) ∙ changes there t

    -- what the column has at its place
    shown_at : (e : B) → first_of counts i + k < room → room ≤ length c₀ → get_or (shown enc room counts qs c₀) (first_of counts i + k) e ≡ enc there
    shown_at e t u =
        let inside : first_of counts i + k < length (shown enc room counts qs c₀) = omega (arith, t, u, shown_length enc room counts qs c₀) in
        ap (λ (c : List B). get_or c (first_of counts i + k) e) (stays t) ∙ get_or-set_same (shown enc room counts qs c₀) (first_of counts i + k) (enc there) e inside

    -- a row with the same numbers
    shown_alike : (r : A) → enc r ≡ enc there → shown enc room counts (set qs i (set (get_or qs i []) k r)) c₀ ≡ shown enc room counts qs c₀
    shown_alike r e = elim (true_or_false (ltb (first_of counts i + k) room)) [
      | inl t ↦ (
          let u = ltb-true (first_of counts i + k) room t in
          changes r u ∙ ap (λ (x : B). set (shown enc room counts qs c₀) (first_of counts i + k) x) e ∙ sym (stays u))
      | inr t ↦ changes_past r (ltb-false (first_of counts i + k) room t)
    ]

same_numbers : (r : Source) (x : Float) → r.penalised ≡ true → source_numbers (with_penalty x r) ≡ source_numbers r
same_numbers r x e =
    ap (λ (t : Bool). from_numbers r.«from» ++ optional_numbers r.effect_id ++ optional_numbers r.source_attribute_id
    ++ (operator_code r.operator ∷ r.quantity ∷ yes1 t ∷ yes1 r.applied ∷ state_code r.state ∷ [])) (sym e)

module _ (run : Recording) (w : World) (counts : List ℕ) (s₀ : List (List ℕ)) (f₀ : List (List Float)) (i : ℕ) (m : Mem) {s : List (List ℕ)} {f : List (List Float)} {own used : ℕ}
    (k : Keeping counts w.room s₀ f₀ i m s f own used) {first : ℕ} (t : RunOf w run) (b : Begins counts i first) (small : w.room ≤ 4294967295) (wide : w.room ≤ length f)
    (on : w.recording ≡ true) (j : ℕ) (there : j < length (own_sources i m)) (is : (get_or (own_sources i m) j no_source).penalised ≡ true) (x : Float) where
  abbrev old : Source
  old = get_or (own_sources i m) j no_source

  abbrev new : Source
  new = with_penalty x old

  abbrev after : Mem
  after = with_own i (set (own_sources i m) j new) m

  mine_after : own_sources i after ≡ set (own_sources i m) j new
  mine_after = get_or-set_same m.sources i (set (own_sources i m) j new) [] (omega (arith, k.long, b.row))

  same_length : (n : ℕ) → length (own_sources n after) ≡ length (own_sources n m)
  same_length n = elim (true_or_false (eqb n i)) [ inl e ↦ same (eqb-true n i e) | inr e ↦ ap length (get_or-set_other m.sources i n (set (own_sources i m) j new) [] (eqb-false n i e)) ]
    where
      same : n ≡ i → length (own_sources n after) ≡ length (own_sources n m)
      same e = rw e (ap length mine_after ∙ length-set (own_sources i m) j new)

  wide₀ : w.room ≤ length f₀
  wide₀ = omega (arith, wide, ap length k.floats, shown_length source_floats w.room counts m.sources f₀)

  floats_after : penalty_at run (first + j) x f ≡ shown source_floats w.room counts after.sources f₀
  floats_after = rw (sym t.recording, on, sym t.room) (elim (true_or_false (ltb (first + j) w.room)) [ inl e ↦ inside e | inr e ↦ past e ])
    where
      inside : ltb (first + j) w.room ≡ true → placed w.room (first + j) (get_or (get_or f (first + j) []) 0 nan ∷ x ∷ []) f ≡ shown source_floats w.room counts after.sources f₀
      inside e =
          let h = ltb-true (first + j) w.room e in
          let same : first + j ≡ first_of counts i + j = omega (arith, h, b.place, small) in
          let u : first_of counts i + j < w.room = omega (arith, h, same) in
          let stood : get_or f (first_of counts i + j) [] ≡ source_floats old = ap (λ (c : List (List Float)). get_or c (first_of counts i + j) []) k.floats
          ∙ shown_at source_floats w.room counts m.sources f₀ i j k.long b.row there (k.fits i) no_source [] u wide₀ in
          rw (e, same, stood) (ap (λ (c : List (List Float)). set c (first_of counts i + j) (source_floats new)) k.floats
          ∙ sym (changes source_floats w.room counts m.sources f₀ i j k.long b.row there (k.fits i) new u))

      past : ltb (first + j) w.room ≡ false → placed w.room (first + j) (get_or (get_or f (first + j) []) 0 nan ∷ x ∷ []) f ≡ shown source_floats w.room counts after.sources f₀
      past e =
          let h = ltb-false (first + j) w.room e in
          let u : w.room ≤ first_of counts i + j = omega (arith, h, b.place) in
          rw e (k.floats ∙ sym (changes_past source_floats w.room counts m.sources f₀ i j k.long b.row there (k.fits i) new u))

  penalty_kept : Keeping counts w.room s₀ f₀ i after s (penalty_at run (first + j) x f) own used
  penalty_kept =
      record {
        numbers = k.numbers ∙ sym (shown_alike source_numbers w.room counts m.sources s₀ i j k.long b.row there (k.fits i) no_source new (same_numbers old x is));
        floats = floats_after;
        mine = k.mine ∙ sym (same_length i);
        all = k.all;
        long = length-set m.sources i (set (own_sources i m) j new) ∙ k.long;
        fits = λ n. omega (arith, same_length n, k.fits n);
        few = λ n. omega (arith, same_length n, k.few n);
        inside = k.inside;
      }

own_again : (i : ℕ) (a b : List Source) (m : Mem) → with_own i a (with_own i b m) ≡ with_own i a m
own_again i a b m = ap (λ (l : List (List Source)). record { values = m.values; sources = l; used = m.used }) (set-set m.sources i b a)

own_same : (i : ℕ) (m : Mem) → with_own i (own_sources i m) m ≡ m
own_same i m = ap (λ (l : List (List Source)). record { values = m.values; sources = l; used = m.used }) (set-get_or m.sources i [])

-- the copies l are marked one by one: what is left decides
module _ (w : World) (counts : List ℕ) (s₀ : List (List ℕ)) (f₀ : List (List Float)) (i : ℕ) (m : Mem) (own used : ℕ) (s : List (List ℕ)) (l : List Copy) where
  pub record Marked (p : ℕ) (f : List (List Float)) : Type 0 where
    pub mem : Mem
    pub keeping : Keeping counts w.room s₀ f₀ i mem s f own used
    pub same : with_own i (marked 0 l (own_sources i m)) m ≡ with_own i (marked p (drop p l) (own_sources i mem)) mem
    pub fresh : w.recording ≡ true → Fresh (own_sources i mem) (drop p l)
    pub off : w.recording ≡ false → own_sources i mem ≡ []

  pub begin : {f : List (List Float)} → Keeping counts w.room s₀ f₀ i m s f own used → (w.recording ≡ true → Fresh (own_sources i m) l) → (w.recording ≡ false → own_sources i m ≡ []) → Marked 0 f
  begin k g h = record { mem = m; keeping = k; same = refl; fresh = g; off = h }

  module _ {p : ℕ} {f : List (List Float)} (c : Marked p f) where
    done : length l ≤ p → Keeping counts w.room s₀ f₀ i (with_own i (marked 0 l (own_sources i m)) m) s f own used
    unfolding marked
    done h = rw (c.same, drop_of_length-le l h, own_same i c.mem) c.keeping

    module _ (run : Recording) {first : ℕ} (t : RunOf w run) (b : Begins counts i first) (small : w.room ≤ 4294967295) (wide : w.room ≤ length f) (d x : Copy) (h : p < length l) (at : get_or l p d ≡ x) where
      here : drop p l ≡ x ∷ drop (suc p) l
      here = drop-cons l p d h ∙ ap (λ (y : Copy). y ∷ drop (suc p) l) at

      same_on : Fresh (own_sources i c.mem) (x ∷ drop (suc p) l) → w.recording ≡ true → Marked (suc p) (penalty_at run (first + x.source) (weight p) f)
      unfolding marked
      same_on (fresh g u a r) on =
          let old = own_sources i c.mem in
          let new = set old x.source (with_penalty (weight p) (get_or old x.source no_source)) in
          let mine = mine_after run w counts s₀ f₀ i c.mem c.keeping t b small wide on x.source g u.penalised (weight p) in
          record {
            mem = with_own i new c.mem;
            keeping = penalty_kept run w counts s₀ f₀ i c.mem c.keeping t b small wide on x.source g u.penalised (weight p);
            same = c.same ∙ ap (λ (q : List Copy). with_own i (marked p q old) c.mem) here
                ∙ sym (ap (λ (q : List Source). with_own i (marked (suc p) (drop (suc p) l) q) (with_own i new c.mem)) mine ∙ own_again i (marked (suc p) (drop (suc p) l) new) new c.mem);
            fresh = λ e. subst (λ (q : List Source). Fresh q (drop (suc p) l)) (sym mine) (set-fresh old x.source _ (drop (suc p) l) a r);
            off = λ e. both_ways on e;
          }

      same_off : w.recording ≡ false → Marked (suc p) (penalty_at run (first + x.source) (weight p) f)
      unfolding marked
      same_off off =
          let none = c.off off in
          record {
            mem = c.mem;
            keeping = rw (sym t.recording, off) c.keeping;
            same = c.same ∙ ap (λ (q : List Source). with_own i (marked p (drop p l) q) c.mem) none
                ∙ ap (λ (q : List Source). with_own i q c.mem) (marked_none p (drop p l) ∙ sym (marked_none (suc p) (drop (suc p) l)))
                ∙ ap (λ (q : List Source). with_own i (marked (suc p) (drop (suc p) l) q) c.mem) (sym none);
            fresh = λ e. both_ways e off;
            off = c.off;
          }

      again : {f' : List (List Float)} {n : ℕ} {v : Float} → f' ≡ penalty_at run (first + n) v f → n ≡ x.source → v ≡ weight p → Marked (p + 1) f'
      again e g k = rw (add-one p, e, g, k) (elim (true_or_false w.recording) [
        | inl on ↦ same_on (subst (Fresh (own_sources i c.mem)) here (c.fresh on)) on
        | inr off ↦ same_off off
      ])

-- the copies of a bucket with these sources, of every world that the columns hold, as a loop keeps it
abbrev pub AllMarked : Recording → ℕ → List ℕ → ℕ → List (List Float) → ℕ → List (List Float) → Type 0
AllMarked run first sources n f₁ p f =
    (w : World) (counts : List ℕ) (s₀ : List (List ℕ)) (f₀ : List (List Float)) (i : ℕ) (m : Mem) (own used : ℕ) (s : List (List ℕ)) (values : List Float) → RunOf w run → Begins counts i first
    → Keeping counts w.room s₀ f₀ i m s f₁ own used → length values ≡ 8 → (w.recording ≡ true → Fresh (own_sources i m) (take n (pairs values sources))) → (w.recording ≡ false → own_sources i m ≡ [])
    → Marked w counts s₀ f₀ i m own used s (take n (pairs values sources)) p f

module _ (a : List Float) (b : List ℕ) (la : length a ≡ 8) (lb : length b ≡ 8) {n : ℕ} (few : n ≤ 8) where
  held-length : length (take n (pairs a b)) ≡ n
  held-length = length-take-le n (pairs a b) (omega (arith, few, la, pairs-length a b (la ∙ sym lb)))

  held_at : {p : ℕ} → p < n → get_or (take n (pairs a b)) p (copy nan 0) ≡ copy (get_or a p nan) (get_or b p 0)
  held_at {p} h = get_or-take n (pairs a b) p (copy nan 0) h ∙ pairs-at p a b (la ∙ sym lb)

-- one turn
pub turn : {run : Recording} {first : ℕ} (b : List ℕ) {n p : ℕ} {f₁ f f' : List (List Float)} {v : Float} → AllMarked run first b n f₁ p f → length b ≡ 8 → n ≤ 8 → p < n → run.room ≤ 4294967295 → run.room ≤ length f
    → f' ≡ penalty_at run (first + get_or b p 0) v f → v ≡ weight p → AllMarked run first b n f₁ (p + 1) f'
turn {run} b {n} {p} c lb few h small wide e g w counts s₀ f₀ i m own used s a t k l la u off =
    again w counts s₀ f₀ i m own used s (take n (pairs a b)) (c w counts s₀ f₀ i m own used s a t k l la u off) run t k (omega (arith, t.room, small)) (omega (arith, t.room, wide)) (copy nan 0)
    (copy (get_or a p nan) (get_or b p 0)) (omega (arith, h, held-length a b la lb {n = n} few)) (held_at a b la lb {n = n} few h) e refl g

module _ (b : Bucket) (la : length b.values ≡ 8) (lb : length b.sources ≡ 8) {n : ℕ} (kept : n ≡ min b.count 8) (xs : List Copy) (g : Gathered xs b) where
  first_eight : take n (pairs b.values b.sources) ≡ take 8 (sorted xs)
  first_eight = sym (held_kept b la lb kept) ∙ g.holds

  held-fresh : (own : List Source) → Fresh own xs → Fresh own (take n (pairs b.values b.sources))
  held-fresh own f = subst (Fresh own) (sym first_eight) (take-fresh own 8 (sorted xs) (sorted-fresh own xs f))

  held-marked : (w : World) (own : List Source) → (w.recording ≡ true → Fresh own xs) → (w.recording ≡ false → own ≡ [])
      → marked 0 (take n (pairs b.values b.sources)) own ≡ marked 0 (sorted xs) own
  held-marked w own f off = ap (λ (l : List Copy). marked 0 l own) first_eight ∙ sym (elim (true_or_false w.recording) [
    | inl e ↦ marked_eight (sorted xs) own (sorted-fresh own xs (f e))
    | inr e ↦ none (off e)
  ])
    where
      none : own ≡ [] → marked 0 (sorted xs) own ≡ marked 0 (take 8 (sorted xs)) own
      none e = rw e (marked_none 0 (sorted xs) ∙ sym (marked_none 0 (take 8 (sorted xs))))

  -- all of them, said of what was gathered
  pub whole : {run : Recording} {first p : ℕ} {f₁ f : List (List Float)} → AllMarked run first b.sources n f₁ p f → n ≤ p
      → (w : World) (counts : List ℕ) (s₀ : List (List ℕ)) (f₀ : List (List Float)) (i : ℕ) (m : Mem) (own used : ℕ) (s : List (List ℕ)) → RunOf w run → Begins counts i first
      → Keeping counts w.room s₀ f₀ i m s f₁ own used → (w.recording ≡ true → Fresh (own_sources i m) xs) → (w.recording ≡ false → own_sources i m ≡ [])
      → Keeping counts w.room s₀ f₀ i (with_own i (marked 0 (sorted xs) (own_sources i m)) m) s f own used
  whole {f = f} c h w counts s₀ f₀ i m own used s t k l e off =
      let all = c w counts s₀ f₀ i m own used s b.values t k l la (λ on. held-fresh (own_sources i m) (e on)) off in
      subst (λ (q : List Source). Keeping counts w.room s₀ f₀ i (with_own i q m) s f own used) (held-marked w (own_sources i m) e off)
      (done w counts s₀ f₀ i m own used s (take n (pairs b.values b.sources)) all (omega (arith, h, kept, held-length b.values b.sources la lb {n = n} (omega (arith, kept)))))
