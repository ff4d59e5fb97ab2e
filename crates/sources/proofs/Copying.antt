-- The same source row again and again: what is left of the copies decides.
use Prim.Native.Nat.{ℕ, zero, suc, ◌+◌, ◌-◌, ◌≤◌, ◌<◌, min}
use native.Mathlib.Omega.{arith}
use mathlib.Core.Path.{◌≡◌, refl, sym, ap, ◌∙◌}
use mathlib.Core.Bool.{Bool, true, false}
use mathlib.Core.List.{List}
use lib.Ieee.{Float}
use lib.ListN.{length, get_or}
use Rattle.rules.specs.Answer.{Res, ok, refused, ◌>>=◌}
use Rattle.rules.specs.Dispatch.{Row}
use Rattle.rules.specs.Value.{World, Mem, own_sources, to_source, note}
use Rattle.rules.specs.declared.Effect.{Effect}
use Rattle.rules.specs.declared.Source.{Source}
use Rattle.rules.specs.declared.Refusal.{Refusal}
use Rattle.sources.specs.declared.SourceCounts.{SourceCounts}
use Rattle.std.specs.Prelude.{Result, Ok, Err}
use Rattle.sources.specs.declared.Recording.{Recording}
use Rattle.sources.specs.Keeping.{RunOf, Begins, Keeping, NotedAs, Advanced, more_of, notes, penalised_notes}

-- an answer says how the definition went
module _ (counts : List ℕ) (room : ℕ) (s₀ : List (List ℕ)) (f₀ : List (List Float)) (i : ℕ) (s : List (List ℕ)) (f : List (List Float)) where
  pub record Went (x : Res Mem) (now : SourceCounts) : Type 0 where
    pub mem : Mem
    pub is : x ≡ ok mem
    pub keeping : Keeping counts room s₀ f₀ i mem s f now.own now.used

  pub went : (x : Res Mem) {now : SourceCounts} → NotedAs counts room s₀ f₀ i x (Ok now) s f → Went x now
  went (ok m) h = record { mem = m; is = refl; keeping = h }
  went (refused y) h = absurd h

  pub ended : (x : Res Mem) {y : Refusal} → NotedAs counts room s₀ f₀ i x (Err y) s f → x ≡ refused y
  ended (ok m) h = absurd h
  ended (refused y) h = ap refused (sym h)

module _ (w : World) (counts : List ℕ) (s₀ : List (List ℕ)) (f₀ : List (List Float)) (i : ℕ) (row : Row) (r : Source) (copies : ℕ) (m : Mem) where
  -- n copies are noted
  pub record Copied (n : ℕ) (s : List (List ℕ)) (f : List (List Float)) (now : SourceCounts) : Type 0 where
    pub mem : Mem
    pub keeping : Keeping counts w.room s₀ f₀ i mem s f now.own now.used
    pub same : notes w i row copies r m ≡ notes w i row (copies - n) r mem
    pub fit : w.recording ≡ true → length (own_sources i mem) + (copies - n) ≤ get_or counts i 0

  pub start : {s : List (List ℕ)} {f : List (List Float)} {now : SourceCounts} → Keeping counts w.room s₀ f₀ i m s f now.own now.used
      → (w.recording ≡ true → length (own_sources i m) + copies ≤ get_or counts i 0) → Copied 0 s f now
  start k h = record { mem = m; keeping = k; same = ap (λ (n : ℕ). notes w i row n r m) whole; fit = λ e. omega (arith, h e) }
    where
      whole : copies ≡ copies - 0
      whole = omega arith

  module _ {n : ℕ} {s : List (List ℕ)} {f : List (List Float)} {now : SourceCounts} (c : Copied n s f now) where
    pub free : n < copies → w.recording ≡ true → length (own_sources i c.mem) + 1 ≤ get_or counts i 0
    free h e = omega (arith, h, c.fit e)

    next : n < copies → notes w i row copies r m ≡ (note w i row r c.mem >>= λ m'. notes w i row (copies - (n + 1)) r m')
    unfolding notes
    next h = c.same ∙ more
      where
        less : copies - n ≡ suc (copies - (n + 1))
        less = omega (arith, h)

        more : notes w i row (copies - n) r c.mem ≡ (note w i row r c.mem >>= λ m'. notes w i row (copies - (n + 1)) r m')
        more = rw less refl

    module _ (s' : List (List ℕ)) (f' : List (List Float)) (h : n < copies) where
      pub again : {next : SourceCounts} → next.own ≤ now.own + 1 → NotedAs counts w.room s₀ f₀ i (note w i row r c.mem) (Ok next) s' f' → Copied (n + 1) s' f' next
      again l g =
          let t = went counts w.room s₀ f₀ i s' f' (note w i row r c.mem) g in
          record {
            mem = t.mem;
            keeping = t.keeping;
            same = next h ∙ ap (λ (x : Res Mem). x >>= λ m'. notes w i row (copies - (n + 1)) r m') t.is;
            fit = λ e. omega (arith, h, c.fit e, l, t.keeping.mine, c.keeping.mine);
          }

      pub stopped : (y : Refusal) → NotedAs counts w.room s₀ f₀ i (note w i row r c.mem) (Err y) s' f' → NotedAs counts w.room s₀ f₀ i (notes w i row copies r m) (Err y) s' f'
      stopped y g = rw (next h ∙ ap (λ (x : Res Mem). x >>= λ m'. notes w i row (copies - (n + 1)) r m') (ended counts w.room s₀ f₀ i s' f' (note w i row r c.mem) g)) refl

    pub done : copies ≤ n → NotedAs counts w.room s₀ f₀ i (notes w i row copies r m) (Ok now) s f
    unfolding notes
    done h = rw (c.same ∙ none) c.keeping
      where
        zero_left : copies - n ≡ 0
        zero_left = omega (arith, h)

        none : notes w i row (copies - n) r c.mem ≡ ok c.mem
        none = rw zero_left refl

-- the same of every world that the columns hold, as a loop keeps it
abbrev pub AllCopied : Recording → ℕ → Source → ℕ → List (List ℕ) → List (List Float) → SourceCounts → ℕ → List (List ℕ) → List (List Float) → SourceCounts → Type 0
AllCopied run first r copies s₁ f₁ began n s f now =
    (w : World) (counts : List ℕ) (s₀ : List (List ℕ)) (f₀ : List (List Float)) (i : ℕ) (row : Row) (m : Mem) → RunOf w run → Begins counts i first
    → Keeping counts w.room s₀ f₀ i m s₁ f₁ began.own began.used → (w.recording ≡ true → length (own_sources i m) + copies ≤ get_or counts i 0) → Copied w counts s₀ f₀ i row r copies m n s f now

pub more_on : (t : Bool) (a b n k : ℕ) → b ≡ a + more_of t n → {c : ℕ} → c ≡ b + more_of t k → c ≡ a + more_of t (n + k)
more_on true a b n k p q = omega (arith, p, q)
more_on false a b n k p q = omega (arith, p, q)

pub more_few : (t : Bool) (n : ℕ) → more_of t n ≤ n
more_few true n = omega arith
more_few false n = omega arith

pub none_more : (t : Bool) (a : ℕ) → a ≡ a + more_of t 0
none_more true a = omega arith
none_more false a = omega arith

pub all_more : (t : Bool) (a b n k : ℕ) → n ≤ k → k ≤ n → b ≡ a + more_of t n → b ≡ a + more_of t k
all_more t a b n k h l p = p ∙ ap (λ (x : ℕ). a + more_of t x) (omega (arith, h, l))

-- a penalised entry: copies, then the rest
module _ (w : World) (counts : List ℕ) (s₀ : List (List ℕ)) (f₀ : List (List Float)) (i : ℕ) (row : Row) (e : Effect) (v : Float) (m : Mem) (s : List (List ℕ)) (f : List (List Float)) where
  abbrev one : Source
  one = to_source e v true 1 true

  pub refused_copies : (n : ℕ) (y : Refusal) → n ≡ min e.quantity 8 → NotedAs counts w.room s₀ f₀ i (notes w i row n one m) (Err y) s f → NotedAs counts w.room s₀ f₀ i (penalised_notes w i row e v m) (Err y) s f
  unfolding penalised_notes
  refused_copies n y p g = rw (sym p, ended counts w.room s₀ f₀ i s f (notes w i row n one m) g) refl

  pub no_rest : (n : ℕ) (now : SourceCounts) → n ≡ min e.quantity 8 → e.quantity ≤ 8 → NotedAs counts w.room s₀ f₀ i (notes w i row n one m) (Ok now) s f → NotedAs counts w.room s₀ f₀ i (penalised_notes w i row e v m) (Ok now) s f
  unfolding penalised_notes
  no_rest n now p q g =
      let t = went counts w.room s₀ f₀ i s f (notes w i row n one m) g in
      let none : e.quantity - 8 ≡ 0 = omega (arith, q) in
      rw (sym p, t.is, none) t.keeping

  -- the memory after the copies, and the rest with its one source row
  module _ (n : ℕ) (now : SourceCounts) (p : n ≡ min e.quantity 8) (g : NotedAs counts w.room s₀ f₀ i (notes w i row n one m) (Ok now) s f) where
    pub copied : Went counts w.room s₀ f₀ i s f (notes w i row n one m) now
    copied = went counts w.room s₀ f₀ i s f (notes w i row n one m) g

    pub rest : (x : Result SourceCounts Refusal) (s' : List (List ℕ)) (f' : List (List Float)) → 8 < e.quantity → NotedAs counts w.room s₀ f₀ i (note w i row (to_source e v true (e.quantity - 8) true) copied.mem) x s' f'
        → NotedAs counts w.room s₀ f₀ i (penalised_notes w i row e v m) x s' f'
    unfolding penalised_notes
    rest x s' f' q h = rw (sym p, copied.is) (more (e.quantity - 8) (omega (arith, q)) h)
      where
        more : (k : ℕ) → 0 < k → NotedAs counts w.room s₀ f₀ i (note w i row (to_source e v true k true) copied.mem) x s' f'
            → NotedAs counts w.room s₀ f₀ i (elim k [ zero ↦ ok copied.mem | suc j ↦ note w i row (to_source e v true (suc j) true) copied.mem ]) x s' f'
        more zero l t = absurd (omega (arith, l))
        more (suc j) l t = t
