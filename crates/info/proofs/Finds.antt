-- What a search over the keys of a table finds is what the definition finds in the table.
use Prim.Native.Nat.{ℕ, zero, suc, ◌+◌, ◌*◌, ◌-◌, ◌≤◌, ◌<◌}
use native.Mathlib.Nat.{zero-add, add-zero, add_assoc, mul-add, mul-le-mul_left}
use native.Mathlib.Omega.{arith}
use mathlib.Core.Path.{◌≡◌, sym, ap, ap₂, subst, ◌∙◌}
use mathlib.Core.Bool.{Bool, true, false}
use mathlib.Core.List.{List, [], map}
use mathlib.Core.Option.{Option, none, some}
use lib.Ieee.{binary64, of_bits}
use lib.IntN.{ℤ, pos}
use mir.Syntax.{w32}
use mir.Val.{SFits, to_z, of_z}
use mir.ValLaws.{to_z-of_z}
use Rattle.laws.specs.Floats.{zero_f}
use Rattle.laws.specs.Lists.{eq_z, keep, first, or_else, from, span, not_descending}
use Rattle.laws.proofs.Keep.{keep-map, keep_same}
use Rattle.laws.proofs.Spans.{span_map, span_at, span_length}
use Rattle.laws.proofs.From.{is-table}
use lib.ListN.{get_or}
use Rattle.laws.proofs.First.{map_some, first-map, first_same}
use Rattle.laws.proofs.Maps.{map-map, map_same}
use Rattle.rules.specs.Bytes.{i32_at, signed, count_of, offset_of, width_of, record_at}
use Rattle.rules.specs.Sheet.{table}
use Rattle.rules.specs.Info.{missing}
use Rattle.rules.specs.declared.DogmaAttribute.{DogmaAttribute}
use Rattle.rules.proofs.Tables.{table_at, table-length, field-read}
use Rattle.info.specs.Sound.{Nth, Held}
use Rattle.info.specs.LookUps.{key_at, Keyed, RunTo, Stretch}

-- the first of n numbers that passes a test is one of them
module _ (p : ℕ → Bool) where
  or_below : (t : Bool) (a n k : ℕ) (o : Option ℕ) → (some k ≡ o → k < a + suc n) → some k ≡ or_else t a o → k < a + suc n
  or_below true a n k o f e = let z : k ≡ a = cc in omega arith
  or_below false a n k o f e = f e

  pub first_below : (a n k : ℕ) → some k ≡ first p (from a n) → k < a + n
  first_below a zero k e = let z : ◌≡◌ {A = ℕ} 0 1 = cc in absurd (omega arith)
  first_below a (suc n) k e =
      or_below (p a) a n k (first p (from (suc a) n)) (λ f. omega (arith, first_below (suc a) n k f)) e

-- what a search of n records of w bytes from `at` on is to find
abbrev pub sought : List ℕ → ℕ → ℕ → ℕ → ℤ → Option ℕ
sought b at w n a = first (λ k. eq_z (key_at b at w k) a) (from 0 n)

-- a callee is given the bits of the one sought
pub asked : (b : List ℕ) (at w n : ℕ) (a : ℤ) {o : Option ℕ} → SFits w32 a → o ≡ sought b at w n (to_z w32 (of_z w32 a)) → o ≡ sought b at w n a
asked b at w n a f e = e ∙ ap (sought b at w n) (to_z-of_z w32 a f)

pub sought_below : (b : List ℕ) (at w n : ℕ) (a : ℤ) (k : ℕ) → some k ≡ sought b at w n a → k < n
sought_below b at w n a k e = subst (λ (m : ℕ). k < m) (zero-add n) (first_below (λ k. eq_z (key_at b at w k) a) 0 n k e)

-- a list whose element k has the key that stands at place k
module _ {A : Type 0} (key : A → ℤ) (f : ℕ → A) (b : List ℕ) (at w : ℕ) (is : (k : ℕ) → key (f k) ≡ key_at b at w k) (n : ℕ) where
  listed_keys : map key (map f (from 0 n)) ≡ map (key_at b at w) (from 0 n)
  listed_keys = map-map key f (from 0 n) ∙ map_same (λ k. key (f k)) (key_at b at w) is (from 0 n)

  same_test : (a : ℤ) (k : ℕ) → eq_z (key (f k)) a ≡ eq_z (key_at b at w k) a
  same_test a k = ap (λ (z : ℤ). eq_z z a) (is k)

  listed_first : (a : ℤ) → first (λ r. eq_z (key r) a) (map f (from 0 n)) ≡ map_some f (sought b at w n a)
  listed_first a =
      first-map (λ r. eq_z (key r) a) f (from 0 n)
      ∙ ap (map_some f) (first_same (λ k. eq_z (key (f k)) a) (λ k. eq_z (key_at b at w k) a) (same_test a) (from 0 n))

module _ {A : Type 0} (read : ℕ → List ℕ → A) (key : A → ℤ) (begins : (k : ℕ) (r : List ℕ) → key (read k r) ≡ i32_at r 0) (t : ℕ) (wide : 4 ≤ width_of t) (b : List ℕ) (pairs : List (List ℕ)) where
  -- the records' keys, read from the sheet
  pub key_is : (k : ℕ) → key (read k (record_at b pairs t k)) ≡ key_at b (offset_of pairs t) (width_of t) k
  unfolding key_at
  key_is k =
      begins k (record_at b pairs t k)
      ∙ ap signed (field-read b (width_of t) (offset_of pairs t + width_of t * k) 0 wide)
      ∙ ap (λ (at : ℕ). i32_at b at) (add-zero (offset_of pairs t + width_of t * k))

  abbrev element : ℕ → A
  element k = read k (record_at b pairs t k)

  module _ {at n : ℕ} (p : at ≡ offset_of pairs t) (q : n ≡ count_of pairs t) where
    pub table_keyed : Held b pairs t → not_descending (map key (table read t b pairs)) ≡ true → Keyed b at (width_of t) n
    table_keyed h o =
        record {
          wide = wide;
          inside = rw (p, q) h.within;
          ordered = rw (p, q) (ap not_descending (sym (listed_keys key element b (offset_of pairs t) (width_of t) key_is (count_of pairs t))) ∙ o);
        }

    module _ (a : ℤ) where
      table-first : first (λ r. eq_z (key r) a) (table read t b pairs) ≡ map_some element (sought b at (width_of t) n a)
      table-first =
          listed_first key element b (offset_of pairs t) (width_of t) key_is (count_of pairs t) a
          ∙ ap (map_some element) (sym (ap₂ (λ (s m : ℕ). sought b s (width_of t) m a) p q))

      pub found_below : {k : ℕ} → some k ≡ sought b at (width_of t) n a → k < count_of pairs t
      found_below {k} e = rw q at (sought_below b at (width_of t) n a k e)

      pub found_first : {k : ℕ} {x : A} → some k ≡ sought b at (width_of t) n a → Nth (table read t b pairs) k x → some x ≡ first (λ r. eq_z (key r) a) (table read t b pairs)
      found_first {k} {x} e h =
          ap some (h x ∙ sym (table_at read t b pairs k (found_below e) x)) ∙ ap (map_some element) e
          ∙ sym table-first

      pub missing-first : none ≡ sought b at (width_of t) n a → none ≡ first (λ r. eq_z (key r) a) (table read t b pairs)
      missing-first e = ap (map_some element) e ∙ sym table-first

      -- the records whose key is a stand together
      pub table-run : {lo hi : ℕ} → RunTo b at (width_of t) n a lo hi → Stretch (keep (λ r. eq_z (key r) a) (table read t b pairs)) (table read t b pairs) lo (hi - lo)
      table-run {lo} {hi} v =
          record {
            is =
                keep-map (λ r. eq_z (key r) a) element (from 0 (count_of pairs t))
                ∙ ap (map element)
                (keep_same (λ k. eq_z (key (element k)) a) (λ k. eq_z (key_at b (offset_of pairs t) (width_of t) k) a) (same_test key element b (offset_of pairs t) (width_of t) key_is (count_of pairs t) a) (from 0 (count_of pairs t))
                ∙ rw (p, q) at v.is)
                ∙ span_map element lo (hi - lo) (from 0 (count_of pairs t));
            within = rw table-length (omega (arith, v.within, v.inside, q));
          }

  -- m records from place l on
  module _ (l m : ℕ) (inside : l + m ≤ count_of pairs t) {at : ℕ} (p : at ≡ offset_of pairs t + width_of t * l) where
    range_key : (k : ℕ) → key (element (l + k)) ≡ key_at b at (width_of t) k
    unfolding key_at
    range_key k =
        key_is (l + k)
        ∙ ap (λ (x : ℕ). i32_at b x) (ap (λ (x : ℕ). offset_of pairs t + x) (mul-add (width_of t) l k) ∙ sym (add_assoc (offset_of pairs t) (width_of t * l) (width_of t * k)) ∙ ap (λ (x : ℕ). x + width_of t * k) (sym p))

    range_at : (d : A) (k : ℕ) → k < m → get_or (span l m (table read t b pairs)) k d ≡ element (l + k)
    range_at d k h = span_at l m (table read t b pairs) k d h ∙ sym (table_at read t b pairs (l + k) (omega arith) d)

    range_is : span l m (table read t b pairs) ≡ map (λ k. element (l + k)) (from 0 m)
    range_is =
        is-table (λ k. element (l + k)) (span l m (table read t b pairs)) m (read 0 [])
        (span_length l m (table read t b pairs) (rw (table-length read t b pairs) inside))
        (range_at (read 0 []))

    pub range_keyed : Held b pairs t → not_descending (map key (span l m (table read t b pairs))) ≡ true → Keyed b at (width_of t) m
    range_keyed h o =
        record {
          wide = wide;
          inside = rw p (omega (arith, mul-le-mul_left (width_of t) inside, mul-add (width_of t) l m, h.within));
          ordered = ap not_descending (sym (ap (map key) range_is ∙ listed_keys key (λ k. element (l + k)) b at (width_of t) range_key m)) ∙ o;
        }

    module _ (a : ℤ) where
      range_first : first (λ r. eq_z (key r) a) (span l m (table read t b pairs)) ≡ map_some (λ k. element (l + k)) (sought b at (width_of t) m a)
      range_first = ap (first (λ r. eq_z (key r) a)) range_is ∙ listed_first key (λ k. element (l + k)) b at (width_of t) range_key m a

      pub range_below : {k : ℕ} → some k ≡ sought b at (width_of t) m a → l + k < count_of pairs t
      range_below {k} e = omega (arith, sought_below b at (width_of t) m a k e)

      pub range_found : {k : ℕ} {x : A} → some k ≡ sought b at (width_of t) m a → Nth (table read t b pairs) (l + k) x → some x ≡ first (λ r. eq_z (key r) a) (span l m (table read t b pairs))
      range_found {k} {x} e h =
          ap some (h x ∙ sym (table_at read t b pairs (l + k) (range_below e) x)) ∙ ap (map_some (λ k. element (l + k))) e ∙ sym range_first

      pub range_missing : none ≡ sought b at (width_of t) m a → none ≡ first (λ r. eq_z (key r) a) (span l m (table read t b pairs))
      range_missing e = ap (map_some (λ k. element (l + k))) e ∙ sym range_first

-- the record that stands in for one that is missing
pub made_missing : (a : ℤ) → SFits w32 a → ◌≡◌ {A = DogmaAttribute} (record { id = to_z w32 (of_z w32 a); flags = 0; default_value = of_bits binary64 0; min_attribute_id = pos 0; max_attribute_id = pos 0 }) (missing a)
unfolding of_bits
made_missing a f =
    λ j. record { id = to_z-of_z w32 a f j; flags = 0; default_value = zero_f; min_attribute_id = pos 0; max_attribute_id = pos 0 }
