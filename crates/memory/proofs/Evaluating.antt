-- A row under calculation: its operators, then its limits, by the numbers of list 2 and the attribute's record.
use Rattle.std.specs.Prelude.{Result, Ok, Err}
use Prim.Native.Nat.{ℕ, ◌≤◌, ◌<◌}
use native.Mathlib.Omega.{arith}
use mathlib.Core.Path.{◌≡◌, refl, sym, ap, ap₂, subst, ◌∙◌}
use mathlib.Core.Bool.{Bool, true, false}
use mathlib.Core.List.{List, [], ◌∷◌}
use lib.Dec.{T}
use lib.Ieee.{Float, nan}
use lib.IntN.{ℤ, pos}
use lib.ListN.{length, get_or}
use mir.Facts.{to_z-of_z}
use mir.Syntax.{w32}
use mir.Val.{to_z}
use Rattle.laws.specs.Floats.{finite, nans}
use Rattle.rules.specs.Answer.{Res}
use Rattle.rules.specs.Codes.{operators}
use Rattle.rules.specs.Dispatch.{Row}
use Rattle.rules.specs.Info.{get_dogma_attribute}
use Rattle.rules.specs.Sheet.{Book, book_of}
use Rattle.rules.specs.Value.{World, Mem, Read, Reader, operate, clamped, value_of}
use Rattle.rules.specs.declared.DogmaAttribute.{DogmaAttribute}
use Rattle.rules.specs.declared.Refusal.{Refusal}
use Rattle.reading.specs.Stretched.{Limits}
use Rattle.sources.specs.declared.Recording.{Recording}
use Rattle.memory.specs.Steps.{row_at, evaluation}
use Rattle.memory.specs.Holding.{Tables, RowTold, Ready, Busy}
use Rattle.memory.specs.Answers.{Returns, held_by}
use Rattle.memory.specs.declared.apply.Got.{Got}
use Rattle.memory.proofs.Falling.{operate-falls, limit-falls}
use Rattle.memory.proofs.Holdings.{met, meets_same, goes_on_from, number_of}
use Rattle.memory.proofs.Gathering.{no_length}
use Rattle.memory.proofs.Readings.{evaluation_free}
use Rattle.memory.proofs.Limiting.{raise_refused, lowers, plain_row}

module _ {t : Tables} {run : Recording} {v : List Float} {s : List (List ℕ)} {f : List (List Float)} {used i : ℕ} (h : Busy t run v s f used i 0 operators) where
  abbrev w : World
  w = h.ready.world

  abbrev m : Mem
  m = h.ready.mem

  abbrev row : Row
  row = row_at w i

  abbrev s₀ : List (List ℕ)
  s₀ = h.ready.sources₀

  abbrev f₀ : List (List Float)
  f₀ = h.ready.floats₀

  told : RowTold w t i
  told = h.ready.told.row i h.within

  id-is : to_z w32 (get_or (get_or t.rows i []) 1 0) ≡ row.id
  id-is = ap (to_z w32) (h.ready.told.held.id i h.within) ∙ to_z-of_z (h.ready.told.held.narrow i h.within)

  object-is : get_or (get_or t.rows i []) 0 0 ≡ row.object
  object-is = h.ready.told.held.object i h.within

  pub object_few : get_or (get_or t.rows i []) 0 0 < 1024
  object_few = omega (arith, object-is, told.object)

  abbrev own_record : DogmaAttribute
  own_record = get_dogma_attribute (book_of t.book t.pairs) (to_z w32 (get_or (get_or t.rows i []) 1 0))

  record_is : own_record ≡ get_dogma_attribute w.book row.id
  record_is = ap₂ (λ (k : Book) (a : ℤ). get_dogma_attribute k a) (sym h.ready.told.records) id-is

  pub plain-meets : (left : ℕ) → get_or (get_or t.rows i []) 3 0 ≡ 0
      → ((k : Book) → Limits k t.limits → ((get_dogma_attribute k (to_z w32 (get_or (get_or t.rows i []) 1 0))).min_attribute_id ≡ pos 0) × ((get_dogma_attribute k (to_z w32 (get_or (get_or t.rows i []) 1 0))).max_attribute_id ≡ pos 0))
      → Returns w s₀ f₀ (evaluation w (value_of w left) i row m) (Ok (record { value = get_or t.bases i nan; used = used })) v s f
  plain-meets left none_there free =
      let both = free w.book h.ready.told.limited in
      plain_row w s₀ f₀ v s f (value_of w left) i row m (no_length row.entries (omega (arith, told.count, none_there)))
      (ap (λ (a : ℤ). (get_dogma_attribute w.book a).min_attribute_id) (sym id-is) ∙ both.0) (ap (λ (a : ℤ). (get_dogma_attribute w.book a).max_attribute_id) (sym id-is) ∙ both.1)
      told.base (subst (λ (x : Float). T (finite x)) (sym told.base) told.number) h.ready.holds

  -- no limit: what the operators give
  pub free_meets : (left : ℕ)
      → ((k : Book) → Limits k t.limits → ((get_dogma_attribute k (to_z w32 (get_or (get_or t.rows i []) 1 0))).min_attribute_id ≡ pos 0) × ((get_dogma_attribute k (to_z w32 (get_or (get_or t.rows i []) 1 0))).max_attribute_id ≡ pos 0))
      → (r : Result Got Refusal) (v' : List Float) (s' : List (List ℕ)) (f' : List (List Float))
      → Returns w s₀ f₀ (operate w i row (value_of w left) operators (record { value = row.base; mem = m })) r v' s' f'
      → Returns w s₀ f₀ (evaluation w (value_of w left) i row m) r v' s' f'
  free_meets left free r v' s' f' k =
      let both = free w.book h.ready.told.limited in
      meets_same w s₀ f₀ v' s' f' _ _ r
      (evaluation_free w (value_of w left) i row
      (ap (λ (a : ℤ). (get_dogma_attribute w.book a).min_attribute_id) (sym id-is) ∙ both.0) (ap (λ (a : ℤ). (get_dogma_attribute w.book a).max_attribute_id) (sym id-is) ∙ both.1) m) k

  module _ (left : ℕ) (x : Float) (more : ℕ) (v' : List Float) (s' : List (List ℕ)) (f' : List (List Float))
      (k : Returns w s₀ f₀ (operate w i row (value_of w left) operators (record { value = row.base; mem = m })) (Ok (record { value = x; used = more })) v' s' f') where
    abbrev pub operated_on : Ready t run v' s' f' more
    operated_on = goes_on_from h.ready (operate w i row (value_of w left) operators (record { value = row.base; mem = m })) x more v' s' f' k

    pub operated_good : T (finite x)
    operated_good = number_of h.ready (operate w i row (value_of w left) operators (record { value = row.base; mem = m })) x more v' s' f' k

    pub operated_falls : nans v' ≤ nans v
    operated_falls = operate-falls h left row.base x more v' s' f' k

    -- the limits of the attribute's record, read off the row's object
    module _ (o : ℕ) (a : ℤ) (o_is : o ≡ get_or (get_or t.rows i []) 0 0) (a-is : a ≡ own_record.min_attribute_id) where
      abbrev low : Res Read
      low = clamped o (value_of w left) (held_by true) a (record { value = x; mem = operated_on.mem })

      low-is : clamped row.object (value_of w left) (held_by true) (get_dogma_attribute w.book row.id).min_attribute_id (record { value = x; mem = operated_on.mem }) ≡ low
      low-is =
          ap₂ (λ (n : ℕ) (z : ℤ). clamped n (value_of w left) (held_by true) z (record { value = x; mem = operated_on.mem })) (sym (o_is ∙ object-is))
          (sym (a-is ∙ ap (λ (r : DogmaAttribute). r.min_attribute_id) record_is))

      pub low-refused : (r : Result Got Refusal) (y : Refusal) → r ≡ Err y → (v'' : List Float) (s'' : List (List ℕ)) (f'' : List (List Float)) → Returns w s₀ f₀ low r v'' s'' f'' → Returns w s₀ f₀ (evaluation w (value_of w left) i row m) r v'' s'' f''
      low-refused r y e v'' s'' f'' l = raise_refused w s₀ f₀ v' s' f' (value_of w left) i row m x more k low low-is r y e v'' s'' f'' l

      module _ (b : ℤ) (b-is : b ≡ own_record.max_attribute_id) (y : Float) (still : ℕ) (v'' : List Float) (s'' : List (List ℕ)) (f'' : List (List Float)) (l : Returns w s₀ f₀ low (Ok (record { value = y; used = still })) v'' s'' f'') where
        abbrev pub raised_on : Ready t run v'' s'' f'' still
        raised_on = goes_on_from operated_on low y still v'' s'' f'' l

        pub raised_good : T (finite y)
        raised_good = number_of operated_on low y still v'' s'' f'' l

        pub raised-falls : nans v'' ≤ nans v'
        raised-falls = limit-falls operated_on left o (held_by true) a x y still v'' s'' f'' l

        abbrev high : Res Read
        high = clamped o (value_of w left) (held_by false) b (record { value = y; mem = raised_on.mem })

        high_is : clamped row.object (value_of w left) (held_by false) (get_dogma_attribute w.book row.id).max_attribute_id (record { value = y; mem = raised_on.mem }) ≡ high
        high_is =
            ap₂ (λ (n : ℕ) (z : ℤ). clamped n (value_of w left) (held_by false) z (record { value = y; mem = raised_on.mem })) (sym (o_is ∙ object-is))
            (sym (b-is ∙ ap (λ (r : DogmaAttribute). r.max_attribute_id) record_is))

        pub evaluated_meets : (r : Result Got Refusal) (v''' : List Float) (s''' : List (List ℕ)) (f''' : List (List Float)) → Returns w s₀ f₀ high r v''' s''' f''' → Returns w s₀ f₀ (evaluation w (value_of w left) i row m) r v''' s''' f'''
        evaluated_meets r v''' s''' f''' q = lowers w s₀ f₀ v' s' f' (value_of w left) i row m x more k low low-is y still v'' s'' f'' l high high_is r v''' s''' f''' q
