-- By whether the columns stay.
use Prim.Native.Nat.{ℕ}
use mathlib.Core.Path.{◌≡◌, sym, ap, subst, ◌∙◌}
use mathlib.Core.Bool.{Bool, true, false, not}
use mathlib.Core.List.{List}
use lib.ListN.{length, replicate}
use borrow.Author.Tests.{not-true, not-false}
use Rattle.laws.specs.Floats.{zero_f}
use Rattle.rules.specs.Columns.{zero_entry, zero_source}
use Rattle.clear.specs.Ends.{cleared}
use Rattle.clear.proofs.Columned.{cleared_zeros}
use Rattle.run.specs.Filled.{Columns}
use Rattle.kept.specs.Kept.{Kept}

-- every column was cleared from its front on
pub record Cleared (st : List (List ℕ)) (c : Columns) (st' : List (List ℕ)) (c' : Columns) : Type 0 where
  pub collected : c'.collected ≡ cleared (replicate 14 0) 0 c.collected
  pub collected_values : c'.collected_values ≡ cleared zero_f 0 c.collected_values
  pub rows : c'.rows ≡ cleared (replicate 6 0) 0 c.rows
  pub bases : c'.bases ≡ cleared zero_f 0 c.bases
  pub values : c'.values ≡ cleared zero_f 0 c.values
  pub entries : c'.entries ≡ cleared zero_entry 0 c.entries
  pub entry_values : c'.entry_values ≡ cleared zero_f 0 c.entry_values
  pub plain : c'.plain ≡ cleared (replicate 2 0) 0 c.plain
  pub sources : c'.sources ≡ cleared zero_source 0 c.sources
  pub source_floats : c'.source_floats ≡ cleared (replicate 2 zero_f) 0 c.source_floats
  pub states : st' ≡ cleared (replicate 2 0) 0 st
  pub whole : length st ≡ 1024

none_left : {st st' : List (List ℕ)} {c c' : Columns} → Cleared st c st' c' → Kept false st c st' c'
none_left {st} {st'} {c} {c'} x =
    record {
      collected = x.collected ∙ cleared_zeros (replicate 14 0) c.collected;
      collected_values = x.collected_values ∙ cleared_zeros zero_f c.collected_values;
      rows = x.rows ∙ cleared_zeros (replicate 6 0) c.rows;
      bases = x.bases ∙ cleared_zeros zero_f c.bases;
      values = x.values ∙ cleared_zeros zero_f c.values;
      entries = x.entries ∙ cleared_zeros zero_entry c.entries;
      entry_values = x.entry_values ∙ cleared_zeros zero_f c.entry_values;
      plain = x.plain ∙ cleared_zeros (replicate 2 0) c.plain;
      sources = x.sources ∙ cleared_zeros zero_source c.sources;
      source_floats = x.source_floats ∙ cleared_zeros (replicate 2 zero_f) c.source_floats;
      states = x.states ∙ cleared_zeros (replicate 2 0) st ∙ ap (λ (n : ℕ). replicate n (replicate 2 0)) x.whole;
    }

pub none_kept : (k : Bool) {st st' : List (List ℕ)} {c c' : Columns} → not k ≡ true → Cleared st c st' c' → Kept k st c st' c'
none_kept k {st} {st'} {c} {c'} e x = subst (λ (b : Bool). Kept b st c st' c') (sym (not-true k e)) (none_left x)

pub all_kept : (k : Bool) {st st' : List (List ℕ)} {c c' : Columns} → not k ≡ false → Kept true st c st' c' → Kept k st c st' c'
all_kept k {st} {st'} {c} {c'} e x = subst (λ (b : Bool). Kept b st c st' c') (sym (not-false k e)) x
