-- A leaver put in by its start and joined, as the code's loops go: what is left, joined from here, gives the whole.
use Prim.Native.Nat.{ℕ, zero, suc, ◌+◌, ◌-◌, ◌≤◌, ◌<◌, max}
use native.Mathlib.Omega.{arith}
use native.Mathlib.Nat.{zero-add}
use mathlib.Core.Path.{◌≡◌, refl, sym, ap, ◌∙◌, subst}
use mathlib.Core.Bool.{Bool, true, false, cond}
use mathlib.Core.List.{List, [], ◌∷◌, ◌++◌}
use lib.Dec.{ltb, eqb}
use lib.ListN.{length, take, drop, get_or, set, replicate, length-append, length-drop}
use lib.Seq.{length-take-le, get_or-take}
use borrow.Author.Tests.{ltb-true, ltb-false, eqb-true, eqb-false, eq-eqb, ne_eqb, lt-ltb, le-ltb}
use Rattle.laws.proofs.Scans.{drop-step, drop_end}
use Rattle.free_table.specs.declared.Stretch.{Stretch}
use Rattle.free_table.specs.Table.{empty, pick}
use Rattle.seats.specs.Tiling.{end_of}
use Rattle.seats.specs.Tests.{put_at}
use Rattle.seats.specs.Seats.{both, in_order, meet, joined, freed}
use Rattle.seats.specs.Told.{ReadyFor, freed_table}
use Rattle.seats.specs.Plan.{place_of}
use Rattle.seats.proofs.Gather.{app_app, set_next}

-- ---- the place

pub record Placing (a : ℕ) (t : List Stretch) (n i : ℕ) : Type 0 where
  pub within : i ≤ n
  pub left : place_of a (take n t) ≡ i + place_of a (drop i (take n t))

pub placing_none : (a : ℕ) (t : List Stretch) (n : ℕ) → Placing a t n 0
placing_none a t n = record { within = omega arith; left = sym (zero-add (place_of a (take n t))) }

module _ {a : ℕ} {t : List Stretch} {n i : ℕ} (few : n ≤ length t) (s : Placing a t n i) where
  module _ (h : i < n) where
    turn : place_of a (take n t) ≡ i + pick (ltb a (get_or t i empty).start) 0 (suc (place_of a (drop (i + 1) (take n t))))
    turn =
        s.left ∙ ap (λ (l : List Stretch). i + place_of a l) (drop-step (take n t) i empty (let z = length-take-le n t few in omega (arith, z, h)))
        ∙ ap (λ (x : Stretch). i + pick (ltb a x.start) 0 (suc (place_of a (drop (i + 1) (take n t))))) (get_or-take n t i empty h)

    pub placing-hit : a < (get_or t i empty).start → i ≡ place_of a (take n t)
    placing-hit k =
        sym (turn ∙ ap (λ (b : Bool). i + pick b 0 (suc (place_of a (drop (i + 1) (take n t))))) (lt-ltb a (get_or t i empty).start k) ∙ (let z : i + 0 ≡ i = omega arith in z))

    pub placing-next : (get_or t i empty).start ≤ a → Placing a t n (i + 1)
    placing-next k =
        record {
          within = omega (arith, h);
          left = turn ∙ ap (λ (b : Bool). i + pick b 0 (suc (place_of a (drop (i + 1) (take n t))))) (le-ltb a (get_or t i empty).start k)
              ∙ (let z : i + suc (place_of a (drop (i + 1) (take n t))) ≡ i + 1 + place_of a (drop (i + 1) (take n t)) = omega arith in z);
        }

  pub placing_end : n ≤ i → n ≡ place_of a (take n t)
  placing_end h =
      (let z : n ≡ i + 0 = omega (arith, h, s.within) in z)
      ∙ ap (λ (l : List Stretch). i + place_of a l) (sym (drop_end (take n t) i (let z = length-take-le n t few in omega (arith, z, h)))) ∙ sym s.left

pub place-most : (a : ℕ) (l : List Stretch) → place_of a l ≤ length l
place-most a [] = omega arith
place-most a (s ∷ r) = by (ltb a s.start) (place-most a r)
  where
    by : (b : Bool) → place_of a r ≤ length r → pick b 0 (suc (place_of a r)) ≤ suc (length r)
    by true h = omega arith
    by false h = omega (arith, h)

-- ---- put in by its start

pub in_order_long : (s : Stretch) (l : List Stretch) → length (in_order s l) ≡ suc (length l)
in_order_long s [] = refl
in_order_long s (t ∷ r) = by (ltb s.start t.start) (in_order_long s r)
  where
    by : (b : Bool) → length (in_order s r) ≡ suc (length r) → length (cond b (s ∷ t ∷ r) (t ∷ in_order s r)) ≡ suc (suc (length r))
    by true h = refl
    by false h = ap suc h

shift : (k i : ℕ) (s x : Stretch) (l : List Stretch) → put_at k s l i ≡ put_at (suc k) s (x ∷ l) (suc i)
shift k i s x l = by (ltb i k) refl
  where
    by : (b : Bool) → ltb i k ≡ b → put_at k s l i ≡ put_at (suc k) s (x ∷ l) (suc i)
    by true e = let z = ltb-true i k e in rw (e, lt-ltb (suc i) (suc k) (omega (arith, z))) refl
    by false e = which (eqb i k) refl
      where
        low : k ≤ i
        low = ltb-false i k e

        which : (b : Bool) → eqb i k ≡ b → put_at k s l i ≡ put_at (suc k) s (x ∷ l) (suc i)
        which true f = rw (e, le-ltb (suc i) (suc k) (omega (arith, low)), f, eq-eqb (suc i) (suc k) (ap suc (eqb-true i k f))) refl
        which false f =
            let z = eqb-false i k f in
            let more : k < i = omega (arith, low, z) in
            rw (e, le-ltb (suc i) (suc k) (omega (arith, low)), f, ne_eqb (suc i) (suc k) (λ y. omega (arith, y, more)))
            (ap (λ (j : ℕ). get_or (x ∷ l) j empty) (let y : suc (i - 1) ≡ suc i - 1 = omega (arith, more) in y))

pub in_order_at : (s : Stretch) (l : List Stretch) (i : ℕ) → i ≤ length l → get_or (in_order s l) i empty ≡ put_at (place_of s.start l) s l i
in_order_at s [] zero h = refl
in_order_at s [] (suc i) h = absurd (omega (arith, h))
in_order_at s (t ∷ r) i h = by (ltb s.start t.start) refl i h (λ j k. in_order_at s r j k)
  where
    Goal : Bool → ℕ → Type 0
    Goal b i = get_or (cond b (s ∷ t ∷ r) (t ∷ in_order s r)) i empty ≡ put_at (pick b 0 (suc (place_of s.start r))) s (t ∷ r) i

    by : (b : Bool) → ltb s.start t.start ≡ b → (i : ℕ) → i ≤ suc (length r) → ((j : ℕ) → j ≤ length r → get_or (in_order s r) j empty ≡ put_at (place_of s.start r) s r j) → Goal b i
    by true e zero k f =
        sym (ap (λ (b : Bool). pick b (get_or (t ∷ r) 0 empty) (pick (eqb 0 0) s (get_or (t ∷ r) (0 - 1) empty))) (le-ltb 0 0 (omega arith)) ∙ ap (λ (b : Bool). pick b s (get_or (t ∷ r) (0 - 1) empty)) (eq-eqb 0 0 refl))
    by true e (suc i) k f =
        ap (λ (j : ℕ). get_or (t ∷ r) j empty) (let y : i ≡ suc i - 1 = omega arith in y)
        ∙ sym (ap (λ (b : Bool). pick b (get_or (t ∷ r) (suc i) empty) (pick (eqb (suc i) 0) s (get_or (t ∷ r) (suc i - 1) empty))) (le-ltb (suc i) 0 (omega arith)) ∙ ap (λ (b : Bool). pick b s (get_or (t ∷ r) (suc i - 1) empty)) (ne_eqb (suc i) 0 (λ y. omega (arith, y))))
    by false e zero k f =
        sym (ap (λ (b : Bool). pick b t (pick (eqb 0 (suc (place_of s.start r))) s (get_or (t ∷ r) (0 - 1) empty))) (lt-ltb 0 (suc (place_of s.start r)) (omega arith)))
    by false e (suc i) k f = f i (omega (arith, k)) ∙ shift (place_of s.start r) i s t r

-- a place of the table for a place of the list of those in use
pub put_place : (k : ℕ) (s : Stretch) (t : List Stretch) (n i : ℕ) → k ≤ n → i ≤ n → put_at k s (take n t) i ≡ put_at k s t i
put_place k s t n i h l = by (ltb i k) refl
  where
    by : (b : Bool) → ltb i k ≡ b → put_at k s (take n t) i ≡ put_at k s t i
    by true e = rw e (get_or-take n t i empty (let z = ltb-true i k e in omega (arith, z, h)))
    by false e = which (eqb i k) refl
      where
        which : (b : Bool) → eqb i k ≡ b → put_at k s (take n t) i ≡ put_at k s t i
        which true f = rw (e, f) refl
        which false f = rw (e, f) (get_or-take n t (i - 1) empty (let z = ltb-false i k e in let y = eqb-false i k f in omega (arith, z, y, l)))

-- ---- joined from the front

joined_head : (t : Stretch) (r : List Stretch) → (get_or (joined (t ∷ r)) 0 empty).start ≡ t.start
joined_head t r = by (joined r)
  where
    by : (l : List Stretch) → (get_or (meet t l) 0 empty).start ≡ t.start
    by [] = refl
    by (u ∷ q) = which (eqb (end_of t) u.start)
      where
        which : (b : Bool) → (get_or (cond b (both t u ∷ q) (t ∷ u ∷ q)) 0 empty).start ≡ t.start
        which true = refl
        which false = refl

-- two that do not touch
pub joined_gap : (s t : Stretch) (r : List Stretch) → (end_of s ≡ t.start → ⊥) → joined (s ∷ t ∷ r) ≡ s ∷ joined (t ∷ r)
joined_gap s t r h = by (joined (t ∷ r)) (joined_head t r)
  where
    by : (l : List Stretch) → (get_or l 0 empty).start ≡ t.start → meet s l ≡ s ∷ l
    by [] e = refl
    by (u ∷ q) e = ap (λ (b : Bool). cond b (both s u ∷ q) (s ∷ u ∷ q)) (ne_eqb (end_of s) u.start (λ z. h (z ∙ e)))

stretch_same : {a b c d : ℕ} → a ≡ b → c ≡ d → ◌≡◌ {A = Stretch} (record { start = a; length = c }) (record { start = b; length = d })
stretch_same e f = rw (e, f) refl

-- two that do
pub joined_touch : (s t : Stretch) (r : List Stretch) → end_of s ≡ t.start → joined (s ∷ t ∷ r) ≡ joined (both s t ∷ r)
joined_touch s t r h = by (joined r)
  where
    by : (l : List Stretch) → meet s (meet t l) ≡ meet (both s t) l
    by [] = ap (λ (b : Bool). cond b (both s t ∷ []) (s ∷ t ∷ [])) (eq-eqb (end_of s) t.start h)
    by (u ∷ q) = which (eqb (end_of t) u.start) refl
      where
        far : end_of (both s t) ≡ end_of t
        far = omega (arith, h)

        which : (b : Bool) → eqb (end_of t) u.start ≡ b → meet s (cond (eqb (end_of t) u.start) (both t u ∷ q) (t ∷ u ∷ q)) ≡ cond (eqb (end_of (both s t)) u.start) (both (both s t) u ∷ q) (both s t ∷ u ∷ q)
        which true e =
            rw (e, eq-eqb (end_of (both s t)) u.start (far ∙ eqb-true (end_of t) u.start e))
            (ap (λ (b : Bool). cond b (both s (both t u) ∷ q) (s ∷ both t u ∷ q)) (eq-eqb (end_of s) t.start h)
            ∙ ap (λ (k : ℕ). (record { start = s.start; length = k }) ∷ q) (let z : s.length + (t.length + u.length) ≡ s.length + t.length + u.length = omega arith in z))
        which false e =
            rw (e, ne_eqb (end_of (both s t)) u.start (λ z. eqb-false (end_of t) u.start e (sym far ∙ z)))
            (ap (λ (b : Bool). cond b (both s t ∷ u ∷ q) (s ∷ t ∷ u ∷ q)) (eq-eqb (end_of s) t.start h))

-- ---- how many there are then

pub record Counting (l : List Stretch) (m e i : ℕ) : Type 0 where
  pub now : Stretch
  pub end : end_of now ≡ e
  pub left : m + length (joined (now ∷ drop (i + 1) l)) ≡ suc (length (joined l))
  pub most : m ≤ i + 1
  pub within : i < length l

pub counting_none : {l : List Stretch} {x : Stretch} → x ≡ get_or l 0 empty → 0 < length l → Counting l 1 (end_of x) 0
counting_none {l} {x} f h =
    record {
      now = get_or l 0 empty;
      end = sym (ap end_of f);
      left = (let z = ap (λ (q : List Stretch). length (joined q)) (drop-step l 0 empty h) in omega (arith, z));
      most = omega arith;
      within = h;
    }

-- the next is x, and the one at hand ends at r
module _ {l : List Stretch} {m e i : ℕ} (c : Counting l m e i) (h : i + 1 < length l) {x : Stretch} (f : x ≡ get_or l (i + 1) empty) {r : ℕ} (g : r ≡ e) where
  rest : drop (i + 1) l ≡ x ∷ drop (i + 1 + 1) l
  rest = drop-step l (i + 1) empty h ∙ ap (λ (y : Stretch). y ∷ drop (i + 1 + 1) l) (sym f)

  pub counting_gap : (r ≡ x.start → ⊥) → Counting l (m + 1) (end_of x) (i + 1)
  counting_gap n =
      record {
        now = x;
        end = refl;
        left =
            let z = c.left in
            let y = ap (λ (q : List Stretch). length (joined (c.now ∷ q))) rest ∙ ap length (joined_gap c.now x (drop (i + 1 + 1) l) (λ w. n (g ∙ sym c.end ∙ w))) in
            omega (arith, z, y);
        most = (let z = c.most in omega (arith, z));
        within = h;
      }

  pub counting_touch : r ≡ x.start → Counting l m (end_of x) (i + 1)
  counting_touch n =
      let t : end_of c.now ≡ x.start = c.end ∙ sym g ∙ n in
      record {
        now = both c.now x;
        end = (let z : end_of (both c.now x) ≡ end_of x = omega (arith, t) in z);
        left = ap (λ (q : List Stretch). m + length q) (sym (ap (λ (q : List Stretch). joined (c.now ∷ q)) rest ∙ joined_touch c.now x (drop (i + 1 + 1) l) t)) ∙ c.left;
        most = (let z = c.most in omega (arith, z));
        within = h;
      }

pub counting_end : {l : List Stretch} {m e i : ℕ} → Counting l m e i → length l ≤ i + 1 → m ≡ length (joined l)
counting_end {l} {m} {e} {i} c h =
    let z = c.left in
    let y = ap (λ (q : List Stretch). length (joined (c.now ∷ q))) (drop_end l (i + 1) h) in omega (arith, z, y)

-- ---- the table

pub record Joining (l u₀ u : List Stretch) (m a w i : ℕ) : Type 0 where
  pub done : List Stretch
  pub is : joined l ≡ done ++ joined (record { start = a; length = w } ∷ drop (i + 1) l)
  pub table : u ≡ done ++ drop m u₀
  pub count : length done ≡ m
  pub end : a + w ≤ 4294967295
  pub within : i < length l

pub joining_none : {l u₀ : List Stretch} {x : Stretch} → x ≡ get_or l 0 empty → 0 < length l → end_of (get_or l 0 empty) ≤ 4294967295 → Joining l u₀ u₀ 0 x.start x.length 0
joining_none {l} {u₀} {x} f h k =
    record {
      done = [];
      is = ap joined (drop-step l 0 empty h) ∙ ap (λ (y : Stretch). joined (y ∷ drop 1 l)) (sym f);
      table = refl;
      count = refl;
      end = (let z = ap end_of f in omega (arith, k, z));
      within = h;
    }

module _ {l u₀ u : List Stretch} {m a w i : ℕ} (c : Joining l u₀ u m a w i) (few : length (joined l) ≤ length u₀) where
  abbrev now : Stretch
  now = record { start = a; length = w }

  -- there is a place for the one at hand
  pub joining_room : m < length u₀
  joining_room =
      let z = ap length c.is ∙ length-append c.done (joined (now ∷ drop (i + 1) l)) in
      let y = some (joined (drop (i + 1) l)) in
      let x = c.count in omega (arith, z, y, x, few)
    where
      some : (q : List Stretch) → 0 < length (meet now q)
      some [] = omega arith
      some (t ∷ q) = which (eqb (end_of now) t.start)
        where
          which : (b : Bool) → 0 < length (cond b (both now t ∷ q) (now ∷ t ∷ q))
          which true = omega arith
          which false = omega arith

  stored : set u m now ≡ (c.done ++ (now ∷ [])) ++ drop (m + 1) u₀
  stored =
      ap (λ (q : List Stretch). set q m now) (c.table ∙ ap (λ (q : List Stretch). c.done ++ q) (drop-step u₀ m empty joining_room))
      ∙ ap (λ (k : ℕ). set (c.done ++ (get_or u₀ m empty ∷ drop (m + 1) u₀)) k now) (sym c.count)
      ∙ set_next c.done (get_or u₀ m empty) now (drop (m + 1) u₀)

  longer : length (c.done ++ (now ∷ [])) ≡ m + 1
  longer = let z = length-append c.done (now ∷ []) in let y = c.count in omega (arith, z, y)

  module _ (h : i + 1 < length l) {x : Stretch} (f : x ≡ get_or l (i + 1) empty) (safe : end_of (get_or l (i + 1) empty) ≤ 4294967295) where
    next : joined l ≡ c.done ++ joined (now ∷ x ∷ drop (i + 1 + 1) l)
    next = c.is ∙ ap (λ (q : List Stretch). c.done ++ joined (now ∷ q)) (drop-step l (i + 1) empty h ∙ ap (λ (y : Stretch). y ∷ drop (i + 1 + 1) l) (sym f))

    pub joining_touch : {r : ℕ} → r ≡ a + w → r ≡ x.start → Joining l u₀ u m a (w + x.length) (i + 1)
    joining_touch g k =
        record {
          done = c.done;
          is = next ∙ ap (λ (q : List Stretch). c.done ++ q) (joined_touch now x (drop (i + 1 + 1) l) (sym g ∙ k));
          table = c.table;
          count = c.count;
          end = (let z = ap end_of f in omega (arith, safe, z, k, g));
          within = h;
        }

    pub joining_gap : {r : ℕ} → r ≡ a + w → (r ≡ x.start → ⊥) → Joining l u₀ (set u m now) (m + 1) x.start x.length (i + 1)
    joining_gap g k =
        record {
          done = c.done ++ (now ∷ []);
          is =
              next ∙ ap (λ (q : List Stretch). c.done ++ q) (joined_gap now x (drop (i + 1 + 1) l) (λ z. k (g ∙ z)))
              ∙ sym (app_app c.done (now ∷ []) (joined (x ∷ drop (i + 1 + 1) l)));
          table = stored;
          count = longer;
          end = (let z = ap end_of f in omega (arith, safe, z));
          within = h;
        }

  pub joining_end : length l ≤ i + 1 → set u m now ≡ joined l ++ drop (length (joined l)) u₀
  joining_end h =
      let whole : joined l ≡ c.done ++ (now ∷ []) = c.is ∙ ap (λ (q : List Stretch). c.done ++ joined (now ∷ q)) (drop_end l (i + 1) h) in
      stored ∙ ap (λ (k : ℕ). (c.done ++ (now ∷ [])) ++ drop k u₀) (sym longer) ∙ ap (λ (q : List Stretch). q ++ drop (length q) u₀) (sym whole)

drop_none : (n : ℕ) → ◌≡◌ {A = List Stretch} (drop n []) []
drop_none zero = refl
drop_none (suc n) = refl

behind_them : (k n : ℕ) (t : List Stretch) → drop k (replicate n empty ++ drop n t) ≡ replicate (n - k) empty ++ drop (max n k) t
behind_them zero n t = ap (λ (m : ℕ). replicate m empty ++ drop n t) (let z : n ≡ n - 0 = omega arith in z) ∙ ap (λ (m : ℕ). replicate (n - 0) empty ++ drop m t) (let z : n ≡ max n 0 = omega arith in z)
behind_them (suc k) zero t = ap (λ (m : ℕ). drop m t) (let z : suc k ≡ max 0 (suc k) = omega arith in z) ∙ ap (λ (m : ℕ). replicate m empty ++ drop (max 0 (suc k)) t) (let z : 0 ≡ 0 - suc k = omega arith in z)
behind_them (suc k) (suc n) t =
    ap (λ (q : List Stretch). drop k (replicate n empty ++ q)) (tail n t) ∙ behind_them k n (less t)
    ∙ ap (λ (m : ℕ). replicate m empty ++ drop (max n k) (less t)) (let z : n - k ≡ suc n - suc k = omega arith in z)
    ∙ ap (λ (q : List Stretch). replicate (suc n - suc k) empty ++ q) (sym (tail (max n k) t) ∙ ap (λ (m : ℕ). drop m t) (let z : suc (max n k) ≡ max (suc n) (suc k) = omega arith in z))
  where
    less : List Stretch → List Stretch
    less [] = []
    less (x ∷ q) = q

    tail : (m : ℕ) (q : List Stretch) → drop (suc m) q ≡ drop m (less q)
    tail m [] = sym (drop_none m)
    tail m (x ∷ q) = refl

pub joined-table : (t : List Stretch) (n : ℕ) (s : Stretch) {u : List Stretch} → u ≡ freed s (take n t) ++ drop (length (freed s (take n t))) (replicate n empty ++ drop n t) → u ≡ freed_table t n s
unfolding freed_table
joined-table t n s e = e ∙ ap (λ (q : List Stretch). freed s (take n t) ++ q) (behind_them (length (freed s (take n t))) n t)

-- ---- the first n made empty

pub record Emptying (t : List Stretch) (n : ℕ) (u : List Stretch) (i : ℕ) : Type 0 where
  pub within : i ≤ n
  pub is : u ≡ replicate i empty ++ drop i t

pub emptying_none : (t : List Stretch) (n : ℕ) → Emptying t n t 0
emptying_none t n = record { within = omega arith; is = refl }

more-empty : (i : ℕ) (r : List Stretch) → (replicate i empty ++ (empty ∷ [])) ++ r ≡ replicate (i + 1) empty ++ r
more-empty i r = ap (λ (q : List Stretch). q ++ r) (by i ∙ ap (λ (m : ℕ). replicate m empty) (let z : suc i ≡ i + 1 = omega arith in z))
  where
    by : (i : ℕ) → replicate i empty ++ (empty ∷ []) ≡ empty ∷ replicate i empty
    by zero = refl
    by (suc i) = ap (λ (q : List Stretch). empty ∷ q) (by i)

empties_long : (i : ℕ) → length (replicate i empty) ≡ i
empties_long zero = refl
empties_long (suc i) = ap suc (empties_long i)

pub emptying_next : {t : List Stretch} {n : ℕ} {u : List Stretch} {i : ℕ} → Emptying t n u i → n ≤ length t → i < n → Emptying t n (set u i empty) (i + 1)
emptying_next {t} {n} {u} {i} e h k =
    record {
      within = omega (arith, k);
      is =
          ap (λ (q : List Stretch). set q i empty) (e.is ∙ ap (λ (q : List Stretch). replicate i empty ++ q) (drop-step t i empty (omega (arith, h, k))))
          ∙ ap (λ (m : ℕ). set (replicate i empty ++ (get_or t i empty ∷ drop (i + 1) t)) m empty) (sym (empties_long i))
          ∙ set_next (replicate i empty) (get_or t i empty) empty (drop (i + 1) t) ∙ more-empty i (drop (i + 1) t);
    }

pub emptying_end : {t : List Stretch} {n : ℕ} {u : List Stretch} {i : ℕ} → Emptying t n u i → n ≤ i → u ≡ replicate n empty ++ drop n t
emptying_end {t} {n} {u} {i} e h = e.is ∙ ap (λ (m : ℕ). replicate m empty ++ drop m t) (let z : i ≡ n = omega (arith, h, e.within) in z)

-- ---- the list that the code goes through

module _ (t : List Stretch) (n k : ℕ) (s : Stretch) (long : length t ≡ 17) (few : n ≤ 17) (e : k ≡ place_of s.start (take n t)) where
  taken : length (take n t) ≡ n
  taken = length-take-le n t (omega (arith, long, few))

  pub place_few : k ≤ n
  place_few = let z = place-most s.start (take n t) in let y = taken in omega (arith, z, y, e)

  pub order_long : length (in_order s (take n t)) ≡ suc n
  order_long = in_order_long s (take n t) ∙ ap suc taken

  pub put_is : (i : ℕ) → i ≤ n → put_at k s t i ≡ get_or (in_order s (take n t)) i empty
  put_is i h =
      sym (put_place k s t n i place_few h) ∙ ap (λ (q : ℕ). put_at q s (take n t) i) e
      ∙ sym (in_order_at s (take n t) i (let y = taken in omega (arith, y, h)))

  pub empties_room : length (replicate n empty ++ drop n t) ≡ 17
  empties_room =
      let z = length-append (replicate n empty) (drop n t) in
      let y = empties_long n in
      let x = length-drop n t in omega (arith, z, y, x, long, few)

  pub has_room : length (freed s (take n t)) ≤ 17 → length (joined (in_order s (take n t))) ≤ length (replicate n empty ++ drop n t)
  has_room h = let z = empties_room in omega (arith, z, h)

  module _ (r : ReadyFor t n s) where
    put_safe : (i : ℕ) → i ≤ n → end_of (put_at k s t i) ≤ 4294967295
    put_safe i h = by (ltb i k) refl
      where
        by : (b : Bool) → ltb i k ≡ b → end_of (put_at k s t i) ≤ 4294967295
        by true f = rw f (r.safe i (let z = ltb-true i k f in let y = place_few in omega (arith, z, y)))
        by false f = which (eqb i k) refl
          where
            which : (b : Bool) → eqb i k ≡ b → end_of (put_at k s t i) ≤ 4294967295
            which true g = rw (f, g) r.fits
            which false g = rw (f, g) (r.safe (i - 1) (let z = ltb-false i k f in let y = eqb-false i k g in omega (arith, z, y, h)))

    pub order_safe : (i : ℕ) → i ≤ n → end_of (get_or (in_order s (take n t)) i empty) ≤ 4294967295
    order_safe i h = subst (λ (x : Stretch). end_of x ≤ 4294967295) (put_is i h) (put_safe i h)
