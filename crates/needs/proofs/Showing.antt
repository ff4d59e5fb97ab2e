-- What the numbers of an entry, and a row's record, say of the slots.
use Prim.Native.Nat.{ℕ, zero, suc, ◌+◌, ◌*◌, ◌<◌, ◌^◌}
use native.Mathlib.Nat.{not-suc-le-zero}
use native.Mathlib.Omega.{arith}
use mathlib.Core.Path.{◌≡◌, refl, sym, ap, ap₂, subst, ◌∙◌}
use mathlib.Core.Bool.{true}
use mathlib.Core.List.{List, [], ◌∷◌, ◌++◌}
use mathlib.Core.Logic.{inl, inr}
use mathlib.Core.Option.{Option, none, some}
use borrow.Author.Rules.{sfits_of}
use borrow.Author.Tests.{ltb-true, ltb-false}
use lib.Dec.{ltb}
use lib.IntN.{ℤ, pos}
use lib.ListN.{length, get_or, get_or-eq_default}
use lib.Signed.{mag}
use mir.Syntax.{w32}
use mir.Val.{to_z, of_z}
use mir.Facts.{to_z-of_z}
use Rattle.laws.specs.Lists.{eq_z}
use Rattle.laws.proofs.Bools.{true_or_false}
use Rattle.laws.proofs.Order.{eq_z_same}
use Rattle.rules.specs.Columns.{origin_numbers}
use Rattle.rules.specs.Dispatch.{Row, Key}
use Rattle.rules.specs.Info.{get_dogma_attribute}
use Rattle.rules.specs.Sheet.{Book, book_of}
use Rattle.rules.specs.Value.{World, Found, find_row}
use Rattle.rules.specs.declared.DogmaAttribute.{DogmaAttribute}
use Rattle.rules.specs.declared.Effect.{Effect}
use Rattle.rules.specs.declared.Origin.{Origin}
use Rattle.rules.specs.declared.Origin.TheVariants as origin
use Rattle.reading.specs.Held.{Sourced, no_row, index_of}
use Rattle.reading.specs.Stretched.{Unlimited}
use Rattle.reading.proofs.Finds.{found_in}
use Rattle.needs.specs.Slots.{source_slot, resistance_slot, limit_slot, limit_slots, slots_of, row_in, need_at}
use Rattle.needs.specs.Telling.{NeedTables, EntryShown, TellsNeeds}
use Rattle.needs.proofs.Slotted.{slots_long, at_source, at_resistance, past_entries}

-- ---- the numbers of an entry

module _ {entry : List ℕ} {e : Effect} (S : EntryShown e entry) where
  is-object : (g : Origin) (rest : List ℕ) → entry ≡ origin_numbers g ++ rest → Sourced g → get_or entry 2 0 < 1024
  is-object (origin.Effect f o c a) rest h s = omega (arith, s, ap (λ (l : List ℕ). get_or l 2 0) h)
  is-object (origin.Buff b v) rest h s = omega (arith, ap (λ (l : List ℕ). get_or l 2 0) h)

  pub source_few : get_or entry 2 0 < 1024
  source_few = is-object e.origin _ S.numbers S.sourced

-- ---- limits

module _ (rs : List Row) (o : ℕ) (a : ℤ) where
  pub limit_none : eq_z a (pos 0) ≡ true → none ≡ row_in rs (limit_slot o a)
  limit_none e = rw e refl

-- ---- which slot it is

module _ (w : World) (i s : ℕ) where
  abbrev own : Row
  own = get_or w.rows i no_row

  pub slot_source : (k : ℕ) (d : Effect) → s ≡ 2 * k → k < length own.entries → need_at w i s ≡ row_in w.rows (source_slot (get_or own.entries k d).origin)
  unfolding need_at slots_of
  slot_source k d e h = ap (row_in w.rows) (ap (λ (n : ℕ). get_or (slots_of w.book own) n none) e ∙ at_source (limit_slots w.book own) own.entries k d h)

  pub slot_resistance : (k : ℕ) (d : Effect) → s ≡ 2 * k + 1 → k < length own.entries
      → need_at w i s ≡ row_in w.rows (resistance_slot (get_or own.entries k d).resistance (get_or own.entries k d).origin)
  unfolding need_at slots_of
  slot_resistance k d e h = ap (row_in w.rows) (ap (λ (n : ℕ). get_or (slots_of w.book own) n none) e ∙ at_resistance (limit_slots w.book own) own.entries k d h)

  pub slot_limit : (j : ℕ) → s ≡ 2 * length own.entries + j → need_at w i s ≡ row_in w.rows (get_or (limit_slots w.book own) j none)
  unfolding need_at slots_of
  slot_limit j e = ap (row_in w.rows) (ap (λ (n : ℕ). get_or (slots_of w.book own) n none) e ∙ past_entries (limit_slots w.book own) own.entries j)

-- ---- the columns of a row

-- a number that is read as signed, and passed on
pub passed : {x y : ℤ} → mag x < 2 ^ 31 → x ≡ y → to_z w32 (of_z w32 x) ≡ y
passed m e = to_z-of_z {w = w32} (sfits_of m) ∙ e

-- an element of a list that has one
pub any : {A : Type 0} (l : List A) (k : ℕ) → k < length l → A
any [] k h = absurd (not-suc-le-zero h)
any (x ∷ l) k h = x

module _ {w : World} {t : NeedTables} (T : TellsNeeds w t) (i : ℕ) (h : i < length t.rows) where
  abbrev held : Row
  held = get_or w.rows i no_row

  pub row_within : i < length w.rows
  row_within = omega (arith, h, T.held.long)

  pub row_count : get_or (get_or t.rows i []) 3 0 ≡ length held.entries
  row_count = (T.row i row_within).count

  row-id : {x : ℤ} → x ≡ to_z w32 (get_or (get_or t.rows i []) 1 0) → x ≡ held.id
  row-id e = e ∙ ap (to_z w32) (T.held.id i row_within) ∙ to_z-of_z (T.held.narrow i row_within)

  module _ {x : ℤ} (e : x ≡ to_z w32 (get_or (get_or t.rows i []) 1 0)) where
    pub no_limits : Unlimited w.book x → (j : ℕ) → none ≡ row_in w.rows (get_or (limit_slots w.book held) j none)
    no_limits u j = by j (ap (λ (y : ℤ). (get_dogma_attribute w.book y).min_attribute_id) (sym (row-id e)) ∙ u.0) (ap (λ (y : ℤ). (get_dogma_attribute w.book y).max_attribute_id) (sym (row-id e)) ∙ u.1)
      where
        by : (j : ℕ) → (get_dogma_attribute w.book held.id).min_attribute_id ≡ pos 0 → (get_dogma_attribute w.book held.id).max_attribute_id ≡ pos 0
            → none ≡ row_in w.rows (get_or (limit_slots w.book held) j none)
        by zero p q = limit_none w.rows held.object (get_dogma_attribute w.book held.id).min_attribute_id (eq_z_same _ _ p)
        by (suc zero) p q = limit_none w.rows held.object (get_dogma_attribute w.book held.id).max_attribute_id (eq_z_same _ _ q)
        by (suc (suc j)) p q = refl

    module _ {found : DogmaAttribute} (f : found ≡ get_dogma_attribute (book_of t.book t.pairs) x) where
      its_record : found ≡ get_dogma_attribute w.book held.id
      its_record = f ∙ ap₂ (λ (k : Book) (y : ℤ). get_dogma_attribute k y) (sym T.records) (row-id e)

      pub least_slot : {r : Option ℕ} → r ≡ row_in w.rows (limit_slot (get_or (get_or t.rows i []) 0 0) found.min_attribute_id) → (j : ℕ) → j ≡ 0 → r ≡ row_in w.rows (get_or (limit_slots w.book held) j none)
      least_slot p j z =
          p ∙ ap₂ (λ (o : ℕ) (a : DogmaAttribute). row_in w.rows (limit_slot o a.min_attribute_id)) (T.held.object i row_within) its_record
          ∙ ap (λ (n : ℕ). row_in w.rows (get_or (limit_slots w.book held) n none)) (sym z)

      pub most_slot : {r : Option ℕ} → r ≡ row_in w.rows (limit_slot (get_or (get_or t.rows i []) 0 0) found.max_attribute_id) → (j : ℕ) → j ≡ 1 → r ≡ row_in w.rows (get_or (limit_slots w.book held) j none)
      most_slot p j z =
          p ∙ ap₂ (λ (o : ℕ) (a : DogmaAttribute). row_in w.rows (limit_slot o a.max_attribute_id)) (T.held.object i row_within) its_record
          ∙ ap (λ (n : ℕ). row_in w.rows (get_or (limit_slots w.book held) n none)) (sym z)

  module _ (k : ℕ) (l : k < get_or (get_or t.rows i []) 3 0) where
    pub short : k < length held.entries
    short = omega (arith, l, row_count)

    abbrev pub the_entry : Effect
    the_entry = get_or held.entries k (any held.entries k short)

    pub entry_shown : (at : ℕ) → at ≡ get_or (get_or t.rows i []) 2 0 + k → EntryShown the_entry (get_or t.entries at [])
    entry_shown at e = subst (λ (n : ℕ). EntryShown the_entry (get_or t.entries n [])) (sym e) ((T.row i row_within).entry k _ short)

    pub from_source : {r : Option ℕ} (s : ℕ) → s ≡ 2 * k → r ≡ row_in w.rows (source_slot the_entry.origin) → r ≡ need_at w i s
    from_source s e p = p ∙ sym (slot_source w i s k _ e short)

    pub from_resistance : {r : Option ℕ} (s : ℕ) → s ≡ 2 * k + 1 → r ≡ row_in w.rows (resistance_slot the_entry.resistance the_entry.origin) → r ≡ need_at w i s
    from_resistance s e p = p ∙ sym (slot_resistance w i s k _ e short)

  pub from-limit : {r : Option ℕ} (s j : ℕ) → s ≡ 2 * get_or (get_or t.rows i []) 3 0 + j → r ≡ row_in w.rows (get_or (limit_slots w.book held) j none) → r ≡ need_at w i s
  from-limit s j e p = p ∙ sym (slot_limit w i s j (omega (arith, e, row_count)))

-- ---- what is found is a row

pub need_inside : (w : World) (i s j : ℕ) → some j ≡ need_at w i s → j < length w.rows
unfolding need_at
need_inside w i s j e = by (get_or (slots_of w.book (get_or w.rows i no_row)) s none) e
  where
    at : (o : ℕ) (a : ℤ) (f : Option Found) → find_row o a 0 w.rows ≡ f → some j ≡ index_of f → j < length w.rows
    at o a none p q = let z : ◌≡◌ {A = ℕ} 0 1 = cc in absurd (omega arith)
    at o a (some f) p q = let same : j ≡ f.index = cc in subst (λ (n : ℕ). n < length w.rows) (sym same) (found_in o a w.rows f p).within

    by : (o : Option Key) → some j ≡ row_in w.rows o → j < length w.rows
    by none p = let z : ◌≡◌ {A = ℕ} 0 1 = cc in absurd (omega arith)
    by (some a) p = at a.object a.id (find_row a.object a.id 0 w.rows) refl p

-- and stands in one of the row's slots
pub need_slot : (w : World) (i s j : ℕ) → some j ≡ need_at w i s → s < 2 * length (get_or w.rows i no_row).entries + 2
unfolding need_at
need_slot w i s j e = by (slots_of w.book (get_or w.rows i no_row)) (slots_long w.book (get_or w.rows i no_row)) e
  where
    by : (slots : List (Option Key)) {n : ℕ} → length slots ≡ n → some j ≡ row_in w.rows (get_or slots s none) → s < n
    by slots l p = elim (true_or_false (ltb s (length slots))) [
      | inl h ↦ omega (arith, ltb-true s (length slots) h, l)
      | inr h ↦
          let z : get_or slots s none ≡ none = get_or-eq_default slots none (omega (arith, ltb-false s (length slots) h)) in
          let none_there : ◌≡◌ {A = Option ℕ} (some j) none = p ∙ ap (row_in w.rows) z in
          let y : ◌≡◌ {A = ℕ} 0 1 = cc in
          absurd (omega arith)
    ]
