-- Columns that hold what is done, cleared behind the counts, are the definition's; after a refusal all are zeros.
use Prim.Native.Nat.{ℕ}
use mathlib.Core.Path.{◌≡◌, refl, sym, ap, ◌∙◌, subst}
use mathlib.Core.List.{List, [], ◌∷◌, map}
use mathlib.Core.Option.{Option, get_or}
use lib.Ieee.{Float}
use lib.ListN.{length, replicate, length-map}
use Rattle.laws.specs.Columns.{Col, column}
use Rattle.laws.specs.Floats.{zero_f}
use Rattle.laws.specs.Lists.{flat}
use Rattle.rules.specs.Answer.{Res, ok, refused, number, place}
use Rattle.rules.specs.Columns.{Counts, collected_numbers, origin_value, rows_numbers, entry_numbers, plain_numbers, source_numbers, source_floats, collected_column, collected_value_column, row_column, base_column, value_column, entry_column, entry_value_column, plain_column, source_column, source_float_column, state_column}
use Rattle.rules.specs.Outcome.{Done}
use Rattle.rules.specs.declared.Refusal.{Refusal}
use Rattle.rules.specs.Answer.{Answer}
use Rattle.rules.specs.Answer as answer
use Rattle.clear.specs.Ends.{cleared}
use Rattle.clear.specs.declared.KeptCounts as clear
use Rattle.clear.proofs.Columned.{cleared_column, cleared-all, cleared_same}
use Rattle.promises.specs.Result.{MeetsFor}
use Rattle.promises.proofs.Ends.{numbers_length}
use Rattle.run.specs.Filled.{Columns, lent_of, Filled, RanAs}
use Rattle.calculate.specs.Given.{counts_given, answer_given, result_of}
use Rattle.calculate.specs.declared.Outcome.{Outcome}
use Rattle.std.specs.Prelude.{Result, Ok, Err}

-- ---- one column

held : {R B : Type 0} (enc : R → B) (z : B) (xs : List R) {c₀ c c' : List B} {n : ℕ} → c' ≡ cleared z n c → Col enc xs c₀ c → n ≡ length xs → c' ≡ column enc z xs (length c₀)
held enc z xs {n = n} e k t = e ∙ cleared_column enc z xs n k t

emptied : {R B : Type 0} (enc : R → B) (z : B) (c₀ c : List B) {c' : List B} → c' ≡ cleared z 0 c → length c ≡ length c₀ → c' ≡ column enc z [] (length c₀)
emptied enc z c₀ c e t = e ∙ cleared-all enc z c 0 refl ∙ ap (column enc z []) t

-- ---- all columns

-- as long as they were lent
pub record Even (c₀ c : Columns) : Type 0 where
  pub collected : length c.collected ≡ length c₀.collected
  pub collected_values : length c.collected_values ≡ length c₀.collected_values
  pub rows : length c.rows ≡ length c₀.rows
  pub bases : length c.bases ≡ length c₀.bases
  pub values : length c.values ≡ length c₀.values
  pub entries : length c.entries ≡ length c₀.entries
  pub entry_values : length c.entry_values ≡ length c₀.entry_values
  pub plain : length c.plain ≡ length c₀.plain
  pub sources : length c.sources ≡ length c₀.sources
  pub source_floats : length c.source_floats ≡ length c₀.source_floats

-- cleared behind the counts
pub record Cleared (n : clear.KeptCounts) (st : List (List ℕ)) (c : Columns) (st' : List (List ℕ)) (c' : Columns) : Type 0 where
  pub collected : c'.collected ≡ cleared (replicate 14 0) n.collected c.collected
  pub collected_values : c'.collected_values ≡ cleared zero_f n.collected c.collected_values
  pub rows : c'.rows ≡ cleared (replicate 6 0) n.rows c.rows
  pub bases : c'.bases ≡ cleared zero_f n.rows c.bases
  pub values : c'.values ≡ cleared zero_f n.rows c.values
  pub entries : c'.entries ≡ cleared (replicate 12 0) n.entries c.entries
  pub entry_values : c'.entry_values ≡ cleared zero_f n.entries c.entry_values
  pub plain : c'.plain ≡ cleared (replicate 2 0) n.plain c.plain
  pub sources : c'.sources ≡ cleared (replicate 11 0) n.sources c.sources
  pub source_floats : c'.source_floats ≡ cleared (replicate 2 zero_f) n.sources c.source_floats
  pub states : st' ≡ cleared (replicate 2 0) n.objects st
  pub whole : length st ≡ 1024

-- what the call gives back
pub record Given (n : clear.KeptCounts) (a : Answer) (o : Outcome) : Type 0 where
  pub number : o.number ≡ number a
  pub place : o.place ≡ place a
  pub collected : o.collected ≡ n.collected
  pub rows : o.rows ≡ n.rows
  pub entries : o.entries ≡ n.entries
  pub plain : o.plain ≡ n.plain
  pub sources : o.sources ≡ n.sources

counts_same : {a b c d e a' b' c' d' e' : ℕ} → a ≡ a' → b ≡ b' → c ≡ c' → d ≡ d' → e ≡ e' → ◌≡◌ {A = Counts} (record { collected = a; rows = b; entries = c; plain = d; sources = e }) (record { collected = a'; rows = b'; entries = c'; plain = d'; sources = e' })
counts_same p q r s t = rw (p, q, r, s, t) refl

module _ (w : Res Done) (c₀ c c' : Columns) (st st' : List (List ℕ)) (o : Outcome) where
  done : (d : Done) (n : clear.KeptCounts) → w ≡ ok d → Filled d n st c₀ c → Cleared n st c st' c' → Given n answer.Done o → MeetsFor w (lent_of c₀) (result_of o st' c')
  unfolding collected_column collected_value_column row_column base_column value_column entry_column entry_value_column plain_column source_column source_float_column state_column
  done d n e f k g =
      record {
        by_number = rw e g.number;
        by_place = rw e g.place;
        by-counts =
            rw e
            (counts_same (g.collected ∙ f.n_collected) (g.rows ∙ f.n_rows) (g.entries ∙ f.n_entries) (g.plain ∙ f.n_plain) (g.sources ∙ f.n_sources));
        by_states =
            rw e (k.states ∙ cleared_same (λ s. s.state ∷ s.max_state ∷ []) (replicate 2 0) d.states 1024 n.objects f.states f.objects f.few);
        by-collected = rw e (held collected_numbers (replicate 14 0) d.collected k.collected f.collected f.n_collected);
        by_collected_values = rw e (held (λ t. origin_value t.origin) zero_f d.collected k.collected_values f.collected_values f.n_collected);
        by_rows =
            rw e
            (held (λ x. x) (replicate 6 0) (rows_numbers 0 0 d.rows d.sources) k.rows f.rows (f.n_rows ∙ sym (numbers_length 0 0 d.rows d.sources)));
        by_bases = rw e (held (λ x. x.base) zero_f d.rows k.bases f.bases f.n_rows);
        by_values =
            rw e
            (held (λ x. x) zero_f (map (λ (v : Option Float). get_or v zero_f) d.values) k.values f.values (f.n_values ∙ sym (length-map d.values (λ (v : Option Float). get_or v zero_f))));
        by_entries = rw e (held entry_numbers (replicate 12 0) (flat (λ x. x.entries) d.rows) k.entries f.entries f.n_entries);
        by_entry_values =
            rw e (held (λ x. origin_value x.origin) zero_f (flat (λ x. x.entries) d.rows) k.entry_values f.entry_values f.n_entries);
        by-plain = rw e (held plain_numbers (replicate 2 0) d.plain k.plain f.plain f.n_plain);
        by_sources = rw e (held source_numbers (replicate 11 0) (flat (λ x. x) d.sources) k.sources f.sources f.n_sources);
        by_source_floats = rw e (held source_floats (replicate 2 zero_f) (flat (λ x. x) d.sources) k.source_floats f.source_floats f.n_sources);
      }

  not_done : (x : Refusal) → w ≡ refused x → Even c₀ c → Cleared (counts_given (Err x)) st c st' c' → Given (counts_given (Err x)) (answer.Refused x) o → MeetsFor w (lent_of c₀) (result_of o st' c')
  unfolding collected_column collected_value_column row_column base_column value_column entry_column entry_value_column plain_column source_column source_float_column state_column
  not_done x e t k g =
      record {
        by_number = rw e g.number;
        by_place = rw e g.place;
        by-counts = rw e (counts_same g.collected g.rows g.entries g.plain g.sources);
        by_states = rw e (k.states ∙ cleared-all (λ s. s.state ∷ s.max_state ∷ []) (replicate 2 0) st 0 refl ∙ ap (column (λ s. s.state ∷ s.max_state ∷ []) (replicate 2 0) []) k.whole);
        by-collected = rw e (emptied collected_numbers (replicate 14 0) c₀.collected c.collected k.collected t.collected);
        by_collected_values = rw e (emptied (λ t. origin_value t.origin) zero_f c₀.collected_values c.collected_values k.collected_values t.collected_values);
        by_rows = rw e (emptied (λ x. x) (replicate 6 0) c₀.rows c.rows k.rows t.rows);
        by_bases = rw e (emptied (λ x. x.base) zero_f c₀.bases c.bases k.bases t.bases);
        by_values = rw e (emptied (λ x. x) zero_f c₀.values c.values k.values t.values);
        by_entries = rw e (emptied entry_numbers (replicate 12 0) c₀.entries c.entries k.entries t.entries);
        by_entry_values = rw e (emptied (λ x. origin_value x.origin) zero_f c₀.entry_values c.entry_values k.entry_values t.entry_values);
        by-plain = rw e (emptied plain_numbers (replicate 2 0) c₀.plain c.plain k.plain t.plain);
        by_sources = rw e (emptied source_numbers (replicate 11 0) c₀.sources c.sources k.sources t.sources);
        by_source_floats = rw e (emptied source_floats (replicate 2 zero_f) c₀.source_floats c.source_floats k.source_floats t.source_floats);
      }

  by_both : (s : Res Done) (r : Result clear.KeptCounts Refusal) → w ≡ s → RanAs s r st c₀ c → Even c₀ c → Cleared (counts_given r) st c st' c' → Given (counts_given r) (answer_given r) o → MeetsFor w (lent_of c₀) (result_of o st' c')
  by_both (ok d) (Ok n) e f t k g = done d n e f k g
  by_both (ok d) (Err y) e f t k g = absurd f
  by_both (refused x) (Ok n) e f t k g = absurd f
  by_both (refused x) (Err y) e f t k g = not_done y (e ∙ ap refused (sym f)) t k g

  -- a run, cleared and given back
  pub meets : (r : Result clear.KeptCounts Refusal) (n : clear.KeptCounts) (a : Answer) → n ≡ counts_given r → a ≡ answer_given r → RanAs w r st c₀ c → Even c₀ c → Cleared n st c st' c' → Given n a o → MeetsFor w (lent_of c₀) (result_of o st' c')
  meets r n a e h f t k g =
      by_both w r refl f t (subst (λ (x : clear.KeptCounts). Cleared x st c st' c') e k)
      (subst (λ (x : Answer). Given (counts_given r) x o) h (subst (λ (x : clear.KeptCounts). Given x a o) e g))
