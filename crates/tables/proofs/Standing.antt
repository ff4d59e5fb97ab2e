-- A table of a sheet or of a file, read back: what is asked of each.
use Prim.Native.Nat.{ℕ, ◌+◌, ◌*◌, ◌<◌}
use native.Mathlib.Nat.{zero-add}
use mathlib.Core.Path.{◌≡◌, sym, ap, ◌∙◌, subst}
use mathlib.Core.List.{List, [], ◌++◌, map, append-nil}
use lib.ListN.{length, take, drop}
use Rattle.laws.specs.Lists.{from}
use Rattle.laws.proofs.From.{table_same}
use Rattle.rules.specs.Bytes.{count_of, offset_of, width_of, record_at}
use Rattle.rules.specs.Sheet.{table}
use Rattle.tables.specs.Tables.{Tab, body_of}
use Rattle.tables.proofs.Located.{AllWide, tab_at, start_of, located}

-- the tables xs stand in the bytes p ++ body_of xs, from place at on; table t is x, number j of them, and the pairs say so
pub record Stands (xs : List Tab) (p : List ℕ) (at : ℕ) (pairs : List (List ℕ)) (t j : ℕ) (x : Tab) : Type 0 where
  pub wide : AllWide xs
  pub front : length p ≡ at
  pub tab : tab_at xs j ≡ x
  pub count : count_of pairs t ≡ x.count
  pub offset : offset_of pairs t ≡ start_of at xs j
  pub width : width_of t ≡ x.width

module _ {xs : List Tab} {p : List ℕ} {at : ℕ} {pairs : List (List ℕ)} {t j : ℕ} {x : Tab} (s : Stands xs p at pairs t j x) where
  abbrev whole : List ℕ
  whole = p ++ body_of xs

  cut : (k : ℕ) → k < x.count → take x.width (drop (start_of at xs j + x.width * k) (p ++ (body_of xs ++ []))) ≡ x.bytes k
  cut k h =
      subst (λ (y : Tab). k < y.count → take y.width (drop (start_of at xs j + y.width * k) (p ++ (body_of xs ++ []))) ≡ y.bytes k) s.tab
      (λ h. located xs p [] at j k s.wide s.front h) h

  pub record_read : (k : ℕ) → k < x.count → record_at whole pairs t k ≡ x.bytes k
  record_read k h =
      ap (λ (w : ℕ). take w (drop (offset_of pairs t + w * k) whole)) s.width
      ∙ ap (λ (o : ℕ). take x.width (drop (o + x.width * k) whole)) s.offset
      ∙ ap (λ (l : List ℕ). take x.width (drop (start_of at xs j + x.width * k) (p ++ l))) (sym (append-nil (body_of xs)))
      ∙ cut k h

  -- all records, each of which is read as g has it
  pub table-read : {A : Type 0} (read : ℕ → List ℕ → A) (g : ℕ → A) → ((k : ℕ) → k < x.count → read k (x.bytes k) ≡ g k)
      → table read t whole pairs ≡ map g (from 0 x.count)
  table-read read g r =
      ap (λ (n : ℕ). map (λ k. read k (record_at whole pairs t k)) (from 0 n)) s.count
      ∙ table_same _ g 0 x.count (λ k l h. each k (subst (λ (n : ℕ). k < n) (zero-add x.count) h))
    where
      each : (k : ℕ) → k < x.count → read k (record_at whole pairs t k) ≡ g k
      each k h = ap (read k) (record_read k h) ∙ r k h
