use Rattle.exports.proofs.exported_text.Goals as goal

pub returns : goal.returns
returns c = record { the_export = c.export_text.ensures.defined _ c.calculated-answer.ensures.tells; refused = c.export_text.ensures.refused _ c.calculated-answer.ensures.tells }
