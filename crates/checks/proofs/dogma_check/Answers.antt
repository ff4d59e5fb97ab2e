-- `checks::dogma_check` meets its contract.
use Rattle.checks.proofs.dogma_check.Goals as goal
use Rattle.checks.proofs.dogma_check.Goals.{in-Ok, in-Err}
use mathlib.Core.Path.{◌≡◌, refl, sym, subst}
use mathlib.Core.List.{[], map}
use lib.ListN.{replicate}
use Rattle.laws.specs.Floats.{zero_f}
use Rattle.clear.specs.declared.KeptCounts.{KeptCounts}
use Rattle.run.specs.Filled.{columns}
use Rattle.promises.specs.NoMemory.{book_in, fit_in}
use Rattle.settled.specs.Lines.{line_of}
use Rattle.checks.specs.Check.{listed_done, number_of, place_of}
use Rattle.checks.specs.Checked.{verdict_in, counts_in, LeftBy}
use Rattle.checks.proofs.Giving.{none_cleared, checks}

pub returns : goal.returns
returns c =
    let told : (c.match-answer.number.0 ≡ counts_in c.answered-answer.result) × ((c.match-answer.number.1 ≡ number_of (verdict_in c.answered-answer.result)) × (c.match-answer.number.2 ≡ place_of (verdict_in c.answered-answer.result))) = elim c.match-answer.branch [
      | in-Ok w ↦ rw (w.number-is, w.in-Ok.is) (refl, (refl, refl))
      | in-Err w ↦ rw (w.number-is, w.in-Err.is) (refl, (w.number.ensures.defined, w.place.ensures.defined))
    ] in
    let left = subst (λ (n : KeptCounts). LeftBy (verdict_in c.answered-answer.result) n (listed_done (book_in c.args.sheet.now) (fit_in c.args.sheet.now) (map line_of c.args.listing.now)) c.answered-answer.new.states (columns c.args.collected.now c.args.collected_values.now c.args.rows.now c.args.bases.now c.args.values.now c.args.entries.now c.args.entry_values.now c.args.plain.now [] []) (columns c.answered-answer.new.collected c.answered-answer.new.collected_values c.answered-answer.new.rows c.answered-answer.new.bases c.answered-answer.new.values c.answered-answer.new.entries c.answered-answer.new.entry_values c.answered-answer.new.plain [] [])) (sym told.0) c.answered-answer.ensures.left in
    record { the_definitions_verdict = checks (listed_done (book_in c.args.sheet.now) (fit_in c.args.sheet.now) (map line_of c.args.listing.now)) refl c.match-answer.number.0 (columns c.args.collected.now c.args.collected_values.now c.args.rows.now c.args.bases.now c.args.values.now c.args.entries.now c.args.entry_values.now c.args.plain.now [] []) (columns c.answered-answer.new.collected c.answered-answer.new.collected_values c.answered-answer.new.rows c.answered-answer.new.bases c.answered-answer.new.values c.answered-answer.new.entries c.answered-answer.new.entry_values c.answered-answer.new.plain [] []) (columns c.clear.new.collected c.clear.new.collected_values c.clear.new.rows c.clear.new.bases c.clear.new.values c.clear.new.entries c.clear.new.entry_values c.clear.new.plain [] []) c.answered-answer.new.states c.clear.new.states (record { collected = c.answered-answer.auto.collected; collected_values = c.answered-answer.auto.collected_values; rows = c.answered-answer.auto.rows; bases = c.answered-answer.auto.bases; values = c.answered-answer.auto.values; entries = c.answered-answer.auto.entries; entry_values = c.answered-answer.auto.entry_values; plain = c.answered-answer.auto.plain; sources = refl; source_floats = refl }) (λ z. record { collected = c.clear.ensures.collected; collected_values = c.clear.ensures.collected_values; rows = c.clear.ensures.rows; bases = c.clear.ensures.bases; values = c.clear.ensures.values; entries = c.clear.ensures.entries; entry_values = c.clear.ensures.entry_values; plain = c.clear.ensures.plain; sources = none_cleared (replicate 11 0) z; source_floats = none_cleared (replicate 2 zero_f) z; states = c.clear.ensures.states; whole = c.clear.ensures.whole }) c.match-answer.number.1 c.match-answer.number.2 (verdict_in c.answered-answer.result) _ c.answered-answer.ensures.verdict left told.1.0 told.1.1 }
