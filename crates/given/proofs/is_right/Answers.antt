-- `given::is_right` meets its contract. Assumes nothing.
use mathlib.Core.Path.{sym, ap, ◌∙◌}
use mathlib.Core.Bool.{not}
use Rattle.given.proofs.is_right.Goals as goal
use Rattle.given.specs.Judging.{calculated_from}
use Rattle.given.proofs.Rights.{got_number, kept_any, with_column, listed_number, not_listed, nothing-given, other_bits, unrecorded_right, recorded_right}

pub returns-then-is_nan : goal.returns-then-is_nan
returns-then-is_nan c = record {
  defined = λ h e. not_listed h c.args.row (sym c.is_nan.ensures.value ∙ c.if-is_nan.true);
  kept = tt;
}

pub returns-in_default : goal.returns-in_default
returns-in_default c = record {
  defined = λ h e. nothing-given h c.args.row c.in_default.field-0 (c.in_default.ensures.defined h);
  kept = tt;
}

pub has_bits-requires : goal.has_bits-requires
has_bits-requires c = record { numbers = (got_number (calculated_from c.requires.judged.world c.requires.judged.values c.args.row) _ _ (c.in-Ok.ensures.defined c.requires.judged), listed_number c.requires.judged c.args.row (sym c.is_nan.ensures.value ∙ c.if-is_nan.false)) }

pub returns-then-not-has_bits : goal.returns-then-not-has_bits
returns-then-not-has_bits c = record {
  defined = λ h e. other_bits h c.args.row _ _ (c.in-Ok.ensures.defined h) (sym c.is_nan.ensures.value ∙ c.if-is_nan.false) _ c.has_bits.ensures.defined (ap not c.if-not-has_bits.true);
  kept = tt;
}

pub returns-then-not-recording : goal.returns-then-not-recording
returns-then-not-recording c = record {
  defined = λ h e. ap not c.if-not-recording.true ∙ unrecorded_right h c.args.row _ _ (c.in-Ok.ensures.defined h) (sym c.is_nan.ensures.value ∙ c.if-is_nan.false) _ c.has_bits.ensures.defined (ap not c.if-not-has_bits.false) c.args.recording (ap not c.if-not-recording.true) e;
  kept = rw c.if-not-recording.true c.in-Ok.ensures.kept;
}

pub returns-else-not-recording : goal.returns-else-not-recording
returns-else-not-recording c = record {
  defined = λ h e. recorded_right h c.args.row _ _ (c.in-Ok.ensures.defined h) (sym c.is_nan.ensures.value ∙ c.if-is_nan.false) _ c.has_bits.ensures.defined (ap not c.if-not-has_bits.false) c.args.recording (ap not c.if-not-recording.false) e _ (c.idles_have_strength.ensures.defined (with_column h (c.in-Ok.ensures.kept)));
  kept = kept_any c.idles_have_strength.result _ _ (c.in-Ok.ensures.kept);
}
