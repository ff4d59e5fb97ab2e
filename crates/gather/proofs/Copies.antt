-- The definition's copies are notes, and then copies among the values.
use Prim.Native.Nat.{ℕ, zero, suc, ◌+◌, ◌<◌, ◌^◌, min}
use native.Mathlib.Omega.{arith}
use mathlib.Core.Path.{◌≡◌, refl, sym, ap, ◌∙◌}
use mathlib.Core.Bool.{Bool, true, false}
use mathlib.Core.List.{List, [], ◌∷◌, ◌++◌, append_assoc, append-nil}
use mathlib.Core.Logic.{inl, inr}
use lib.Dec.{ltb}
use lib.Ieee.{Float, lt}
use lib.ListN.{length, set, length-append, length-set}
use lib.Seq.{get_or-set_same}
use Rattle.laws.specs.Floats.{zero_f}
use Rattle.laws.proofs.Bools.{true_or_false}
use Rattle.rules.specs.Answer.{Res, ok, refused, ◌>>=◌}
use Rattle.rules.specs.Dispatch.{Row}
use Rattle.rules.specs.Columns.{yes1}
use Rattle.rules.specs.Operate.{Copy, Values}
use Rattle.rules.specs.Value.{World, Mem, Gathered, own_sources, with_copy, note, copies}
use Rattle.rules.specs.declared.Source.{Source}
use Rattle.operate.specs.SoFar.{copies_from, with_copies}
use Rattle.sources.specs.Keeping.{notes, more_of}
use Rattle.rules.proofs.Results.{apart, got, bind_same}
use Rattle.sources.proofs.Noting.{note_off, note_full, note_on}

-- one copy, and then others
one_then : (t : Bool) (x : Copy) (l : List Copy) (g : Values) → with_copies t l (with_copy t x g) ≡ with_copies t (x ∷ l) g
one_then true x l g = ap (λ (y : List Copy). record { unpenalized = g.unpenalized; positive = g.positive; negative = y }) (append_assoc g.negative (x ∷ []) l)
one_then false x l g = ap (λ (y : List Copy). record { unpenalized = g.unpenalized; positive = y; negative = g.negative }) (append_assoc g.positive (x ∷ []) l)

none_more : (t : Bool) (g : Values) → with_copies t [] g ≡ g
none_more true g = ap (λ (y : List Copy). record { unpenalized = g.unpenalized; positive = g.positive; negative = y }) (append-nil g.negative)
none_more false g = ap (λ (y : List Copy). record { unpenalized = g.unpenalized; positive = y; negative = g.negative }) (append-nil g.positive)

-- a note that goes well: one source row more of row i, where they are recorded
note_steps : (w : World) (i : ℕ) (row : Row) (r : Source) (m m' : Mem) → i < length m.sources → note w i row r m ≡ ok m' → (length (own_sources i m') ≡ length (own_sources i m) + yes1 w.recording) × (i < length m'.sources)
note_steps w i row r m m' h e = elim (true_or_false w.recording) [ inl t ↦ recorded t | inr t ↦ silent t ]
  where
    silent : w.recording ≡ false → (length (own_sources i m') ≡ length (own_sources i m) + yes1 w.recording) × (i < length m'.sources)
    silent t = let p = got (sym (note_off w i row r m t) ∙ e) in rw (t, sym p) (omega arith, h)

    own : List Source
    own = own_sources i m ++ (r ∷ [])

    noted : Mem
    noted = record { values = m.values; sources = set m.sources i own; used = suc m.used }

    longer : length (own_sources i noted) ≡ length (own_sources i m) + 1
    longer = ap length (get_or-set_same m.sources i own [] h) ∙ length-append (own_sources i m) (r ∷ [])

    recorded : w.recording ≡ true → (length (own_sources i m') ≡ length (own_sources i m) + yes1 w.recording) × (i < length m'.sources)
    recorded t = elim (true_or_false (ltb m.used w.room)) [ inl u ↦ free u | inr u ↦ absurd (apart (sym (note_full w i row r m t u) ∙ e)) ]
      where
        free : ltb m.used w.room ≡ true → (length (own_sources i m') ≡ length (own_sources i m) + yes1 w.recording) × (i < length m'.sources)
        free u = let p = got (sym (note_on w i row r m t u) ∙ e) in rw (t, sym p) (longer, omega (arith, h, length-set m.sources i own))

module _ (w : World) (i : ℕ) (row : Row) (r : Source) (x : Float) where
  abbrev after : ℕ → Gathered → Mem → Res Gathered
  after n g m = ok (record { mem = m; values = with_copies (lt x zero_f) (copies_from x (length (own_sources i g.mem)) (yes1 w.recording) n) g.values })

  abbrev next : Gathered → Mem → Gathered
  next g m = record { mem = m; values = with_copy (lt x zero_f) (record { value = x; source = length (own_sources i g.mem) }) g.values }

  pub copies_split : (n : ℕ) (g : Gathered) → i < length g.mem.sources → copies w i row n r x g ≡ (notes w i row n r g.mem >>= after n g)
  unfolding copies notes
  copies_split zero g h = ap (λ (v : Values). ok (record { mem = g.mem; values = v })) (sym (none_more (lt x zero_f) g.values))
  copies_split (suc n) g h = go (λ m l. copies_split n (next g m) l) (note w i row r g.mem) (λ m e. note_steps w i row r g.mem m h e)
    where
      go : ((m : Mem) → i < length m.sources → copies w i row n r x (next g m) ≡ (notes w i row n r m >>= after n (next g m)))
          → (y : Res Mem) → ((m : Mem) → y ≡ ok m → (length (own_sources i m) ≡ length (own_sources i g.mem) + yes1 w.recording) × (i < length m.sources))
          → (y >>= λ m. copies w i row n r x (next g m)) ≡ (y >>= (λ m. notes w i row n r m) >>= after (suc n) g)
      go rest (refused z) f = refl
      go rest (ok m) f = rest m (f m refl).1 ∙ bind_same (notes w i row n r m) (after n (next g m)) (after (suc n) g) same
        where
          same : (a : Mem) → after n (next g m) a ≡ after (suc n) g a
          same a =
              ap (λ (k : ℕ). ok (record { mem = a; values = with_copies (lt x zero_f) (copies_from x k (yes1 w.recording) n) (next g m).values })) (f m refl).0
              ∙ ap (λ (v : Values). ok (record { mem = a; values = v })) (one_then (lt x zero_f) (record { value = x; source = length (own_sources i g.mem) }) (copies_from x (length (own_sources i g.mem) + yes1 w.recording) (yes1 w.recording) n) g.values)

-- the copies that are weighed are no more than the source rows
pub few_copies : (t : Bool) (q own : ℕ) {n a : ℕ} → n ≡ min q 8 → a ≡ own + more_of t (min q 9) → a < 2 ^ 32 → own + more_of t n < 2 ^ 32
few_copies true q own e h l = omega (arith, e, h, l)
few_copies false q own e h l = omega (arith, h, l)
