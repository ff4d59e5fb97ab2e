-- What was calculated, told of, and kept or not, is an export.
use Prim.Native.Nat.{ℕ}
use Rattle.std.specs.Prelude as code
use mathlib.Core.Path.{◌≡◌, refl, sym, ap, subst, ◌∙◌}
use mathlib.Core.Bool.{Bool, true, false, true≢false}
use mathlib.Core.List.{List}
use lib.Dec.{eqb}
use lib.ListN.{length, replicate}
use borrow.Author.Tests.{ne_eqb}
use Rattle.laws.specs.Columns.{column}
use Rattle.laws.specs.Floats.{zero_f}
use Rattle.rules.specs.Answer.{Res, ok, refused, number, place, answer_of}
use Rattle.rules.specs.Columns.{zero_entry, zero_source}
use Rattle.rules.specs.Outcome.{Lent, Done, outcome}
use Rattle.rules.specs.Answer.{Refused}
use Rattle.listing.proofs.Told.{no_number}
use Rattle.promises.specs.Result.{Meets}
use Rattle.promises.specs.Zeros.{Empty}
use Rattle.run.specs.Filled.{Columns, lent_of}
use Rattle.calculate.specs.Given as goal
use Rattle.calculate.specs.declared.Outcome.{Outcome}
use Rattle.kept.specs.Kept.{Kept}
use Rattle.csv_text.specs.Labels.{Export, text, engine, label, full, export_of, number_of, place_of, text_of}
use Rattle.csv_text.specs.Puts.{Told, told_of, number_in, IsRefused}
use Rattle.csv_text.specs.declared.ExportRefusal.{ExportRefusal}
use Rattle.csv_text.proofs.Given.{not_zero}
use Rattle.spreadsheet.specs.Exports.{exported_of, result_of, ListsFor, ExportedAs}
use Rattle.spreadsheet.specs.declared.Exported.{Exported}

-- columns that came back as long as they were lent
pub record AsLong (c₀ c : Columns) : Type 0 where
  pub collected : length c.collected ≡ length c₀.collected
  pub collected_values : length c.collected_values ≡ length c₀.collected_values
  pub rows : length c.rows ≡ length c₀.rows
  pub bases : length c.bases ≡ length c₀.bases
  pub values : length c.values ≡ length c₀.values
  pub entries : length c.entries ≡ length c₀.entries
  pub entry_values : length c.entry_values ≡ length c₀.entry_values
  pub plain : length c.plain ≡ length c₀.plain
  pub sources : length c.sources ≡ length c₀.sources
  pub source_floats : length c.source_floats ≡ length c₀.source_floats

module _ {st st' : List (List ℕ)} {c c' : Columns} (made : Outcome) (told : Told) where
  -- nothing was kept
  emptied : (c₀ : Columns) → Kept false st c st' c' → AsLong c₀ c → Empty (lent_of c₀) (result_of (exported_of made told false) st' c')
  emptied c₀ k e =
      record {
        counts = refl;
        states = k.states;
        collected = k.collected ∙ ap (λ (n : ℕ). replicate n (replicate 14 0)) e.collected;
        collected_values = k.collected_values ∙ ap (λ (n : ℕ). replicate n zero_f) e.collected_values;
        rows = k.rows ∙ ap (λ (n : ℕ). replicate n (replicate 6 0)) e.rows;
        bases = k.bases ∙ ap (λ (n : ℕ). replicate n zero_f) e.bases;
        values = k.values ∙ ap (λ (n : ℕ). replicate n zero_f) e.values;
        entries = k.entries ∙ ap (λ (n : ℕ). replicate n zero_entry) e.entries;
        entry_values = k.entry_values ∙ ap (λ (n : ℕ). replicate n zero_f) e.entry_values;
        plain = k.plain ∙ ap (λ (n : ℕ). replicate n (replicate 2 0)) e.plain;
        sources = k.sources ∙ ap (λ (n : ℕ). replicate n zero_source) e.sources;
        source_floats = k.source_floats ∙ ap (λ (n : ℕ). replicate n (replicate 2 zero_f)) e.source_floats;
      }

  -- all was kept: number and place are told anew
  stayed : (b : List ℕ) (l : Lent) → Kept true st c st' c' → told.number ≡ made.number → told.place ≡ made.place → Meets b l (goal.result_of made st c)
      → Meets b l (result_of (exported_of made told true) st' c')
  stayed b l k n p m =
      record {
        by_number = n ∙ m.by_number;
        by_place = p ∙ m.by_place;
        by-counts = m.by-counts;
        by_states = k.states ∙ m.by_states;
        by-collected = k.collected ∙ m.by-collected;
        by_collected_values = k.collected_values ∙ m.by_collected_values;
        by_rows = k.rows ∙ m.by_rows;
        by_bases = k.bases ∙ m.by_bases;
        by_values = k.values ∙ m.by_values;
        by_entries = k.entries ∙ m.by_entries;
        by_entry_values = k.entry_values ∙ m.by_entry_values;
        by-plain = k.plain ∙ m.by-plain;
        by_sources = k.sources ∙ m.by_sources;
        by_source_floats = k.source_floats ∙ m.by_source_floats;
      }

-- what is told of an export
abbrev told_as : Export → Told
told_as x = record { number = number_of x; place = place_of x; length = length (text_of x) }

-- a text is of what is done
text_said : (o : Res Done) (labels : List (List ℕ)) (bytes : List ℕ) (n : ℕ) (d : Done) (t : List ℕ) → export_of o labels bytes n ≡ text d t → (number (answer_of o) ≡ 0) × (place (answer_of o) ≡ 0)
unfolding export_of
text_said (ok d') labels bytes n d t e = (refl, refl)
text_said (refused x) labels bytes n d t e = let z : true ≡ false = cc in absurd (true≢false z)

module _ (b : List ℕ) (st st' : List (List ℕ)) (c₀ c c' : Columns) (made : Outcome) (told : Told) (m : Meets b (lent_of c₀) (goal.result_of made st c)) (a : AsLong c₀ c) where
  gone : {keep : Bool} → keep ≡ false → Kept keep st c st' c' → Empty (lent_of c₀) (result_of (exported_of made told keep) st' c')
  gone off k =
      subst (λ (u : Bool). Empty (lent_of c₀) (result_of (exported_of made told u) st' c')) (sym off)
      (emptied made told c₀ (subst (λ (u : Bool). Kept u st c st' c') off k) a)

  module _ (labels : List (List ℕ)) (bytes : List ℕ) (n : ℕ) {keep : Bool} (h : keep ≡ eqb told.number 0) (k : Kept keep st c st' c') where
    by_export : (x : Export) → told ≡ told_as x → keep ≡ eqb (number_of x) 0
    by_export x e = h ∙ ap (λ (y : Told). eqb y.number 0) e

    lists : (x : Export) → export_of (outcome b (lent_of c₀)) labels bytes n ≡ x → told ≡ told_as x → ListsFor x b (lent_of c₀) (result_of (exported_of made told keep) st' c')
    lists (text d t) q e =
        let on : keep ≡ true = by_export (text d t) e in
        let s = text_said (outcome b (lent_of c₀)) labels bytes n d t q in
        subst (λ (u : Bool). Meets b (lent_of c₀) (result_of (exported_of made told u) st' c')) (sym on)
        (stayed made told b (lent_of c₀) (subst (λ (u : Bool). Kept u st c st' c') on k) (ap (λ (y : Told). y.number) e ∙ sym (m.by_number ∙ s.0)) (ap (λ (y : Told). y.place) e ∙ sym (m.by_place ∙ s.1)) m)
    lists (engine y) q e = gone (by_export (engine y) e ∙ ne_eqb (number (Refused y)) 0 (no_number y)) k
    lists (label i) q e = gone (by_export (label i) e) k
    lists full q e = gone (by_export full e) k

    pub exports : (out out' : List ℕ) → n ≡ length out → let x = export_of (outcome b (lent_of c₀)) labels bytes n in
        told ≡ told_as x → out' ≡ column (λ y. y) 0 (text_of x) n → (r : Exported) → r ≡ exported_of made told keep
        → ExportedAs x b (lent_of c₀) out out' r.length (result_of r st' c')
    exports out out' z e w r g =
        let x = export_of (outcome b (lent_of c₀)) labels bytes n in
        subst (λ (y : Exported). ExportedAs x b (lent_of c₀) out out' y.length (result_of y st' c')) (sym g)
        (record {
          by_number = ap (λ (y : Told). y.number) e;
          by_place = ap (λ (y : Told). y.place) e;
          by_length = ap (λ (y : Told). y.length) e;
          by_text = w ∙ ap (column (λ y. y) 0 (text_of x)) z;
          by_lists = lists x refl e;
        })

-- there is a text where the number told is 0
pub kept_by : (r : code.Result ℕ ExportRefusal) → code.IfErr r IsRefused → code.is_ok r ≡ eqb (told_of r).number 0
kept_by (code.Ok end) h = refl
kept_by (code.Err why) h = sym (ne_eqb (number_in why) 0 (not_zero why h))
