-- `exports::said_export` meets its contract: the text, a bad label's line, or one of 01's refusals.
use Rattle.exports.proofs.said_export.Goals as goal
use native.Mathlib.Omega.{arith}
use mathlib.Core.Path.{refl, sym, ◌∙◌}
use Rattle.csv_text.proofs.Given.{not_zero}
use lib.ListN.{length}
use Rattle.rules.specs.Outcome.{outcome}
use Rattle.text.specs.SheetText.{rooms}
use Rattle.exports.proofs.Saying.{said_text, label_small, said_label, said_refused, not_label}

pub returns-in-Ok : goal.returns-in-Ok
returns-in-Ok c = let both = said_text (outcome c.args.sheet.now rooms) c.args.labels.now c.args.label_bytes.now (length c.args.text.now) _ c.exported_text.new.text c.in-Ok.ensures.the_export.0 c.in-Ok.ensures.the_export.1 refl in record { says = both.0; inside = both.1 }

pub overflow_add-label : goal.overflow_add-label
overflow_add-label c = let e = rw c.in-Label.is at c.in-Err.ensures.the_export in record { fits = omega (arith, label_small (outcome c.args.sheet.now rooms) c.args.labels.now c.args.label_bytes.now (length c.args.text.now) _ c.exported_text.new.text e.0 e.1 refl c.requires.few) }

pub overflow_cast-label : goal.overflow_cast-label
overflow_cast-label c = let e = rw c.in-Label.is at c.in-Err.ensures.the_export in record { fits = omega (arith, label_small (outcome c.args.sheet.now rooms) c.args.labels.now c.args.label_bytes.now (length c.args.text.now) _ c.exported_text.new.text e.0 e.1 refl c.requires.few) }

pub returns-in-Label : goal.returns-in-Label
returns-in-Label c =
    let e = rw c.in-Label.is at c.in-Err.ensures.the_export in
    let both = said_label (outcome c.args.sheet.now rooms) c.args.labels.now c.args.label_bytes.now (length c.args.text.now) _ c.exported_text.new.text e.0 e.1 refl refl c.bad_line.ensures.the_line in
    record { says = both.0; inside = both.1 }

pub returns-in_default : goal.returns-in_default
returns-in_default c =
    let e = c.in-Err.ensures.the_export in
    let r = c.in-Err.ensures.refused in
    let both = said_refused (outcome c.args.sheet.now rooms) c.args.labels.now c.args.label_bytes.now (length c.args.text.now) _ c.exported_text.new.text e.0 e.1 (not_zero c.in-Err.why r) (not_label c.in-Err.why r c.in_default.not-Label)
    (λ y p q. c.refusal.ensures.the_line y (p ∙ sym c.number.ensures.defined) (q ∙ sym c.place.ensures.defined)) in
    record { says = both.0; inside = both.1 }
