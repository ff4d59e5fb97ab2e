-- What each step keeps of the memory, a calculation and the starts keep.
use Prim.Native.Nat.{ℕ, zero, suc, ◌<◌}
use mathlib.Core.Path.{◌≡◌, refl, sym, ap, subst, ◌∙◌}
use mathlib.Core.Bool.{Bool, true, false}
use mathlib.Core.List.{List, [], ◌∷◌, ◌++◌}
use mathlib.Core.Logic.{inl, inr}
use mathlib.Core.Option.{Option, none, some}
use lib.Dec.{ltb}
use lib.Ieee.{Float}
use lib.IntN.{ℤ, pos}
use lib.ListN.{length, get_or, set}
use Rattle.laws.specs.Lists.{eq_z}
use Rattle.laws.proofs.Bools.{true_or_false}
use Rattle.rules.specs.Answer.{Res, ok, refused, ◌>>=◌}
use Rattle.rules.specs.Codes.{operators}
use Rattle.rules.specs.Dispatch.{Row}
use Rattle.rules.specs.Info.{get_dogma_attribute, high_is_good}
use Rattle.rules.specs.Number.{number_at}
use Rattle.rules.specs.Operate.{sorted, applied}
use Rattle.rules.specs.Outcome.{valued}
use Rattle.rules.specs.Value.{World, Mem, Read, Reader, Gathered, Found, own_sources, nothing, note, gather, marked, with_own, marked_by, operate, clamped, at_least, at_most, set_value, calculate, calculated_value, value_of, find_row}
use Rattle.rules.specs.declared.Ask.{Ask}
use Rattle.rules.specs.declared.EffectOperator.{EffectOperator}
use Rattle.rules.specs.declared.Refusal.TheVariants.{Depth}
use Rattle.rules.specs.declared.Source.{Source}
use Rattle.reading.specs.Held.{no_row}
use Rattle.reading.proofs.Finds.{found_in}
use Rattle.sources.proofs.Noting.{note_off, note_full, note_on}
use Rattle.sources.proofs.Planning.{marked-length}
use Rattle.rules.proofs.Results.{apart, got, then}
use Rattle.memory.specs.Memory.{value_at}
use Rattle.memory.proofs.Kept.{gather_kept}
use Rattle.values.specs.Complete.{Keeps}

-- a source row more, or none where nothing is recorded
pub note_keeps : (P : Mem → Type 0) (w : World) (i : ℕ) (row : Row) (r : Source) (m m' : Mem) → note w i row r m ≡ ok m' → P m
    → P (record { values = m.values; sources = set m.sources i (own_sources i m ++ (r ∷ [])); used = suc m.used }) → P m'
note_keeps P w i row r m m' e k l = elim (true_or_false w.recording) [
  | inr t ↦ subst P (got (sym (note_off w i row r m t) ∙ e)) k
  | inl on ↦ elim (true_or_false (ltb m.used w.room)) [
    | inr t ↦ absurd (apart (sym (note_full w i row r m on t) ∙ e))
    | inl t ↦ subst P (got (sym (note_on w i row r m on t) ∙ e)) l
  ]
]

-- ---- a calculation of row i: by a source row more, other source rows as many as before, a value, and reading
module _ (P : Mem → Type 0) (w : World) (i : ℕ) (row : Row)
    (noting : (r : Source) (m m' : Mem) → note w i row r m ≡ ok m' → P m → P m')
    (owning : (own : List Source) (m : Mem) → length own ≡ length (own_sources i m) → P m → P (with_own i own m))
    (valuing : (v : Float) (m : Mem) → P m → P (set_value i v m))
    (read : Reader) (reading : Keeps P read) where
  gather_keeps : (op : EffectOperator) (g h : Gathered) → gather w i row read op row.entries g ≡ ok h → P g.mem → P h.mem
  gather_keeps op g h =
      gather_kept w i row (λ (x : Gathered). P x.mem) (λ r x m e k. noting r x.mem m e k) (λ x n y k. k) read (λ o a x q e k. reading o a x.mem q e k) op
      (λ e t u r x y m z p k. noting r y.mem m p k) row.entries g h

  marked_keeps : (g : Gathered) → P g.mem → P (marked_by i g)
  marked_keeps g k =
      let own = own_sources i g.mem in
      let now₁ = marked 0 (sorted g.values.positive) own in
      owning (marked 0 (sorted g.values.negative) now₁) g.mem (marked-length 0 (sorted g.values.negative) now₁ ∙ marked-length 0 (sorted g.values.positive) own) k

  operate_keeps : (ops : List EffectOperator) (a q : Read) → operate w i row read ops a ≡ ok q → P a.mem → P q.mem
  unfolding operate
  operate_keeps [] a q p k = subst (λ (y : Read). P y.mem) (got p) k
  operate_keeps (op ∷ ops) a q p k =
      let t = then (gather w i row read op row.entries (record { mem = a.mem; values = nothing })) _ q p in
      let u = then (number_at row.object (applied (high_is_good (get_dogma_attribute w.book row.id)) op a.value t.given.values)) _ q t.rest in
      operate_keeps ops (record { value = u.given; mem = marked_by i t.given }) q u.rest
      (marked_keeps t.given (gather_keeps op (record { mem = a.mem; values = nothing }) t.given t.first k))

  clamped_keeps : (o : ℕ) (clamp : Float → Float → Float) (a : ℤ) (r q : Read) → clamped o read clamp a r ≡ ok q → P r.mem → P q.mem
  unfolding clamped
  clamped_keeps o clamp a r q p k = by (eq_z a (pos 0)) p
    where
      by : (t : Bool) → (elim t [ true ↦ ok r | false ↦ (read o a r.mem >>= λ x. ok (record { value = clamp r.value x.value; mem = x.mem })) ]) ≡ ok q → P q.mem
      by true e = subst (λ (y : Read). P y.mem) (got e) k
      by false e =
          let t = then (read o a r.mem) _ q e in
          subst (λ (y : Read). P y.mem) (got t.rest) (reading o a r.mem t.given t.first k)

  pub calculate_keeps : (m : Mem) (q : Read) → calculate w read i row m ≡ ok q → P m → P q.mem
  unfolding calculate
  calculate_keeps m q e k =
      let b = row.base in
      let low = (get_dogma_attribute w.book row.id).min_attribute_id in
      let high = (get_dogma_attribute w.book row.id).max_attribute_id in
      let t = then (operate w i row read operators (record { value = b; mem = set_value i b m })) _ q e in
      let u = then (clamped row.object read at_least low t.given) _ q t.rest in
      let x = then (clamped row.object read at_most high u.given) _ q u.rest in
      let k₁ = operate_keeps operators (record { value = b; mem = set_value i b m }) t.given t.first (valuing b m k) in
      let k₂ = clamped_keeps row.object at_least low t.given u.given u.first k₁ in
      let k₃ = clamped_keeps row.object at_most high u.given x.given x.first k₂ in
      ended x.given x.rest k₃
    where
      ended : (c : Read) → ok (record { value = c.value; mem = set_value i c.value c.mem }) ≡ ok q → P c.mem → P q.mem
      ended c p l = subst (λ (y : Read). P y.mem) (got p) (valuing c.value c.mem l)

-- ---- reading, where each calculation that starts keeps it
module _ (P : Mem → Type 0) (w : World) where
  read_keeps : (start : ℕ → Row → Mem → Res Read) (o : ℕ) (a : ℤ)
      → ((f : Found) (m : Mem) (q : Read) → find_row o a 0 w.rows ≡ some f → value_at m f.index ≡ none → start f.index f.row m ≡ ok q → P m → P q.mem)
      → (m : Mem) (q : Read) → calculated_value w start o a m ≡ ok q → P m → P q.mem
  unfolding calculated_value
  read_keeps start o a h m q e k = by (find_row o a 0 w.rows) refl e
    where
      known : (f : Found) → find_row o a 0 w.rows ≡ some f → (v : Option Float) → value_at m f.index ≡ v → (elim v [ some x ↦ ok (record { value = x; mem = m }) | none ↦ start f.index f.row m ]) ≡ ok q → P q.mem
      known f p (some x) n e = subst (λ (y : Read). P y.mem) (got e) k
      known f p none n e = h f m q p n e k

      by : (f : Option Found) → find_row o a 0 w.rows ≡ f
          → (elim f [
            | none ↦ ok (record { value = (get_dogma_attribute w.book a).default_value; mem = m })
            | some x ↦ elim (get_or m.values x.index none) [ some v ↦ ok (record { value = v; mem = m }) | none ↦ start x.index x.row m ]
          ]) ≡ ok q → P q.mem
      by none p e = subst (λ (y : Read). P y.mem) (got e) k
      by (some f) p e = known f p (value_at m f.index) refl e

  module _ (starting : (d i : ℕ) → Keeps P (value_of w d) → i < length w.rows → (m : Mem) (q : Read) → value_at m i ≡ none → calculate w (value_of w d) i (get_or w.rows i no_row) m ≡ ok q → P m → P q.mem) where
    started : (d : ℕ) → Keeps P (value_of w d) → (o : ℕ) (a : ℤ) (f : Found) (m : Mem) (q : Read) → find_row o a 0 w.rows ≡ some f → value_at m f.index ≡ none → calculate w (value_of w d) f.index f.row m ≡ ok q → P m → P q.mem
    started d less o a f m q p n e k =
        let g = found_in o a w.rows f p in
        starting d f.index less g.within m q n (ap (λ (r : Row). calculate w (value_of w d) f.index r m) (sym (g.row no_row)) ∙ e) k

    pub value_keeps : (d : ℕ) → Keeps P (value_of w d)
    unfolding value_of
    value_keeps zero o a m q = read_keeps (λ i row m'. refused (Depth o)) o a (λ f m' q' p n e k. absurd (apart e)) m q
    value_keeps (suc d) o a m q = read_keeps (λ i row m'. calculate w (value_of w d) i row m') o a (started d (value_keeps d) o a) m q

    -- the starts, one after another
    pub valued_keeps : (d : ℕ) (starts : List Ask) (m m' : Mem) → valued w d starts m ≡ ok m' → P m → P m'
    unfolding valued
    valued_keeps d [] m m' e k = subst P (got e) k
    valued_keeps d (a ∷ r) m m' e k =
        let t = then (value_of w d a.object a.attribute_id m) _ m' e in
        valued_keeps d r t.given.mem m' t.rest (value_keeps d a.object a.attribute_id m t.given t.first k)
