-- `look_ups::get_base` meets its contract. Assumes nothing.
use Rattle.laws.specs.Options.{option_of}
use Rattle.info.proofs.look_ups.get_base.Goals as goal
use Prim.Native.Nat.{ℕ, ◌+◌, ◌*◌}
use native.Mathlib.Omega.{arith}
use mathlib.Core.Path.{sym, ap, ◌∙◌}
use Rattle.info.proofs.Finds.{asked}
use Rattle.info.proofs.Bases.{based_keyed, based_below, based_found, based_missing}

pub find-requires : goal.find-requires
find-requires c = record { keyed = based_keyed c.args.fit.now c.args.pairs.now c.args.o c.requires.its_bases c.index-first.ensures.defined.0 c.index-n.ensures.defined.0 (ap (λ (x : ℕ). x + 12 * c.index-first.result) c.offset_of.ensures.defined) c.requires.held_fit }

pub returns-in_err-i : goal.returns-in_err-i
returns-in_err-i c = record { defined = ap option_of c.from_residual.ensures ∙ based_missing c.args.fit.now c.args.pairs.now c.args.o c.requires.its_bases c.index-first.ensures.defined.0 c.index-n.ensures.defined.0 (ap (λ (x : ℕ). x + 12 * c.index-first.result) c.offset_of.ensures.defined) c.args.id (asked c.args.fit.now (c.offset_of.result + 12 * c.index-first.result) 12 c.index-n.result c.args.id c.ranges.id (sym (ap option_of c.in_err-i.was) ∙ c.find.ensures.defined)) }

pub overflow_add-first : goal.overflow_add-first
overflow_add-first c = omega (arith, based_below c.args.fit.now c.args.pairs.now c.args.o c.requires.its_bases c.index-first.ensures.defined.0 c.index-n.ensures.defined.0 (ap (λ (x : ℕ). x + 12 * c.index-first.result) c.offset_of.ensures.defined) c.args.id (asked c.args.fit.now (c.offset_of.result + 12 * c.index-first.result) 12 c.index-n.result c.args.id c.ranges.id (sym (ap option_of c.in_ok-i.was) ∙ c.find.ensures.defined)), c.requires.held_fit.bases.few)

pub base_attribute-requires : goal.base_attribute-requires
base_attribute-requires c = record {
  held_fit = c.requires.held_fit;
  inside = based_below c.args.fit.now c.args.pairs.now c.args.o c.requires.its_bases c.index-first.ensures.defined.0 c.index-n.ensures.defined.0 (ap (λ (x : ℕ). x + 12 * c.index-first.result) c.offset_of.ensures.defined) c.args.id (asked c.args.fit.now (c.offset_of.result + 12 * c.index-first.result) 12 c.index-n.result c.args.id c.ranges.id (sym (ap option_of c.in_ok-i.was) ∙ c.find.ensures.defined));
}

pub returns : goal.returns
returns c = record { defined = based_found c.args.fit.now c.args.pairs.now c.args.o c.requires.its_bases c.index-first.ensures.defined.0 c.index-n.ensures.defined.0 (ap (λ (x : ℕ). x + 12 * c.index-first.result) c.offset_of.ensures.defined) c.args.id (asked c.args.fit.now (c.offset_of.result + 12 * c.index-first.result) 12 c.index-n.result c.args.id c.ranges.id (sym (ap option_of c.in_ok-i.was) ∙ c.find.ensures.defined)) c.base_attribute.ensures.record_i }
