-- Every effect that collection takes from a sound sheet points at objects of the fit, and its ids have 32 bits.
use Rattle.std.specs.Prelude.{None, Some}
use Prim.Native.Nat.{ℕ, ◌<◌}
use native.Mathlib.Omega.{arith}
use mathlib.Core.Path.{sym, subst}
use mathlib.Core.Bool.{Bool, true, false, cond}
use mathlib.Core.List.{List, []}
use mathlib.Core.Option.{Option, none, some}
use lib.IntN.{ℤ, pos}
use lib.ListN.{length, get_or}
use mir.Syntax.{w32}
use mir.Val.{SFits}
use Rattle.laws.specs.Lists.{eq_z}
use Rattle.laws.specs.Columns.{laid}
use Rattle.laws.proofs.Laid.{laid-row}
use Rattle.rules.specs.Bytes.{u32_at, i32_at, record_at}
use Rattle.rules.specs.Number.{cut}
use Rattle.rules.specs.Constants.{remote_resistance}
use Rattle.rules.specs.Sheet.{Book, Fit, book_of, fit_of}
use Rattle.rules.specs.Info.{get_base}
use Rattle.rules.specs.Collect.{test_func, unless_zero, named, taken_of, moves}
use Rattle.rules.specs.Columns.{collected_numbers}
use Rattle.rules.specs.declared.Item.{Item}
use Rattle.rules.specs.declared.BaseAttribute.{BaseAttribute}
use Rattle.rules.specs.declared.DogmaEffect.{DogmaEffect}
use Rattle.rules.specs.declared.DogmaModifier.{DogmaModifier}
use Rattle.rules.specs.Ids.{OptionalId}
use Rattle.rules.specs.declared.Pass2Effect.{Pass2Effect}
use Rattle.rules.specs.declared.ProjectedBuff.{ProjectedBuff}
use Rattle.rules.proofs.Verdicts.{objects_good_lem}
use Rattle.info.specs.Sound.{SoundFit}
use Rattle.info.specs.Stands.{Pointing, Narrow, NarrowOrigin, NarrowId}
use Rattle.info.proofs.Narrow.{signed_narrow, cut_narrow}
use Rattle.info.proofs.Rows.{pointing}
use Rattle.info.proofs.Sheets.{numbered, char_inside}
use Rattle.modifier.specs.Causes.{Cause}
use Rattle.modifier.specs.Causes as cause
use Rattle.modifier.specs.Causes.{resistance_of}
use Rattle.collect.specs.Takes.{Each, Goes, Member, Caused, Collects, origin_of, met_by}
use Rattle.collect.proofs.Taking.{each_weaker, each_at, func_goes, func_of_lem}
use Rattle.collect.proofs.Pointed.{target_in, source_in}
use Rattle.collect.proofs.Comes.{each_collects, effect_read, modifier_read, buff_read}
use Rattle.collect.specs.Bounded.{Bounded}

-- ---- ids

zero_narrow : SFits w32 (pos 0)
zero_narrow = record { sfits = omega arith }

read_narrow : (r : List ℕ) (a : ℕ) → SFits w32 (i32_at r a)
read_narrow r a = signed_narrow (u32_at r a)

named_narrow : (x : Option BaseAttribute) → SFits w32 (elim x [ none ↦ pos 0 | some r ↦ cut r.value ])
named_narrow none = zero_narrow
named_narrow (some r) = cut_narrow r.value

unless_narrow : (b : Bool) (a : ℤ) (o : OptionalId) → SFits w32 a → NarrowId o → NarrowId (cond b o (Some a))
unless_narrow true a o h g = g
unless_narrow false a o h g = h

resistance_narrow : (f : Fit) (o : Item) (e : DogmaEffect) → SFits w32 e.resistance_attribute_id → NarrowId (resistance_of f o e)
resistance_narrow f o e h =
    unless_narrow (eq_z (named f o) (pos 0)) (named f o) (unless_zero e.resistance_attribute_id None) (named_narrow (get_base f o remote_resistance))
    (unless_narrow (eq_z e.resistance_attribute_id (pos 0)) e.resistance_attribute_id None h tt)

-- ---- by what an effect is collected for

module _ (book fit : List ℕ) (pairs : List (List ℕ)) where
  abbrev k : Book
  k = book_of book pairs

  abbrev f : Fit
  f = fit_of fit pairs

  module _ (m : DogmaModifier) (l : Member k.modifiers m) where
    abbrev bytes : List ℕ
    bytes = record_at book pairs 3 l.at

    skill_narrow : SFits w32 m.skill_type_id
    skill_narrow = subst (λ (x : DogmaModifier). SFits w32 x.skill_type_id) (sym (modifier_read book pairs l)) (read_narrow bytes 20)

    group_narrow : SFits w32 m.group_id
    group_narrow = subst (λ (x : DogmaModifier). SFits w32 x.group_id) (sym (modifier_read book pairs l)) (read_narrow bytes 24)

    modifying_narrow : SFits w32 m.modifying_attribute_id
    modifying_narrow = subst (λ (x : DogmaModifier). SFits w32 x.modifying_attribute_id) (sym (modifier_read book pairs l)) (read_narrow bytes 12)

    modified_narrow : SFits w32 m.modified_attribute_id
    modified_narrow = subst (λ (x : DogmaModifier). SFits w32 x.modified_attribute_id) (sym (modifier_read book pairs l)) (read_narrow bytes 16)

    func_narrow : Goes Narrow (test_func m)
    func_narrow = func_goes Narrow m skill_narrow group_narrow tt skill_narrow tt

  effect_narrow : (e : DogmaEffect) → Member k.effects e → SFits w32 e.id
  effect_narrow e l = subst (λ (x : DogmaEffect). SFits w32 x.id) (sym (effect_read book pairs l)) (read_narrow (record_at book pairs 2 l.at) 0)

  effect_resistance : (e : DogmaEffect) → Member k.effects e → SFits w32 e.resistance_attribute_id
  effect_resistance e l = subst (λ (x : DogmaEffect). SFits w32 x.resistance_attribute_id) (sym (effect_read book pairs l)) (read_narrow (record_at book pairs 2 l.at) 8)

  buff_narrow : (b : ProjectedBuff) → Member f.buffs b → SFits w32 b.id
  buff_narrow b l = subst (λ (x : ProjectedBuff). SFits w32 x.id) (sym (buff_read fit pairs l)) (read_narrow (record_at fit pairs 9 l.at) 0)

  origin_narrow : (m : DogmaModifier) → Member k.modifiers m → (c : Cause) → Caused k f c → NarrowOrigin (origin_of c m)
  origin_narrow m l (cause.own w e c) h = (effect_narrow e h.1, modifying_narrow m l)
  origin_narrow m l (cause.projected w e c r) h = (effect_narrow e h.1, modifying_narrow m l)
  origin_narrow m l (cause.buff b o) h = buff_narrow b h

  met_narrow : (c : Cause) → Caused k f c → NarrowId (met_by f c)
  met_narrow (cause.own w e c) h = tt
  met_narrow (cause.projected w e c r) h = resistance_narrow f w.item e (effect_resistance e h.1)
  met_narrow (cause.buff b o) h = tt

  module _ (s : SoundFit fit pairs) where
    bounded : (t : Pass2Effect) → Collects k f t → Bounded (length f.objects) t
    bounded t h =
        let char = char_inside f (objects_good_lem f s.good) in
        let m = h.modifier in
        let l = h.listed in
        record {
          pointing = pointing t (length f.objects) (source_in f char (numbered fit pairs) k t h) (target_in f char (numbered fit pairs) k t h);
          modifier = func_of_lem Narrow m (func_narrow m l) h.of;
          attribute = subst (SFits w32) (sym h.of.attribute) (modified_narrow m l);
          origin = subst NarrowOrigin (sym h.of.origin) (origin_narrow m l h.cause h.caused);
          resistance = subst NarrowId (sym h.of.resistance) (met_narrow h.cause h.caused);
        }

    pub each_bounded : Each (Bounded (length (fit_of fit pairs).objects)) (moves (book_of book pairs) (fit_of fit pairs))
    each_bounded = each_weaker (Collects k f) (Bounded (length f.objects)) bounded (moves k f) (each_collects k f)

    -- row j of list 1
    pub bounded_at : (j : ℕ) (d : Pass2Effect) → j < length (taken_of (moves (book_of book pairs) (fit_of fit pairs))) → Bounded (length (fit_of fit pairs).objects) (get_or (taken_of (moves (book_of book pairs) (fit_of fit pairs))) j d)
    bounded_at j d h = each_at (Bounded (length f.objects)) (moves k f) each_bounded j d h

    -- its numbers, laid over a column
    pub row-points : (c : List (List ℕ)) (j : ℕ) (d : Pass2Effect) → j < length (taken_of (moves (book_of book pairs) (fit_of fit pairs))) → Pointing (get_or (laid collected_numbers (taken_of (moves (book_of book pairs) (fit_of fit pairs))) c) j []) (length (fit_of fit pairs).objects)
    row-points c j d h =
        subst (λ (r : List ℕ). Pointing r (length f.objects)) (sym (laid-row collected_numbers (taken_of (moves k f)) c j d [] h)) (bounded_at j d h).pointing
