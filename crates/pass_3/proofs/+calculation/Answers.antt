-- The answers of the cycle around `calculate_value` and `calculated_value`: each cites a law of memory's proofs.
use Rattle.pass_3.proofs.+calculation.Goals as goal
use native.Mathlib.Omega.{arith}
use Prim.Native.Nat.{◌≤◌, ◌<◌, ◌^◌}
use Rattle.std.proofs.Common.{rules}
use mathlib.Core.Path.{◌≡◌, refl, sym, ap, subst, ◌∙◌}
use mathlib.Core.List.{[]}
use lib.ListN.{length, get_or}
use Rattle.laws.proofs.Signs.{same_bits, tested-apart}
use Rattle.rules.specs.Operate.{applied}
use Rattle.rules.specs.Info.{get_dogma_attribute, high_is_good}
use Rattle.rules.specs.Sheet.{book_of}
use Rattle.rules.specs.Value.{value_of}
use Rattle.memory.specs.Steps.{row_at}
use mir.Facts.{to_z-of_z}
use Rattle.rules.specs.declared.DogmaAttribute.{DogmaAttribute}
use borrow.Author.Rules.{sfits_of}
use mathlib.Core.Bool.{Bool, false, ◌||◌}
use mir.Syntax.{w32}
use mir.Val.{to_z, of_z}
use lib.IntN.{ℤ, pos}
use lib.Signed.{mag}
use Rattle.laws.proofs.Bools.{or_false_left, or_false_right}
use Rattle.memory.proofs.Holdings.{goes_on_from, number_of}
use Rattle.memory.proofs.Evaluating as evaluating
use Rattle.memory.proofs.Starts as starting
use Rattle.memory.proofs.Finding as finding
use Rattle.memory.proofs.Limiting as limiting
use Rattle.memory.proofs.Taking as taking
use Rattle.memory.proofs.Gathering as gathering
use Rattle.memory.proofs.Operating as operating
use Rattle.memory.proofs.Falling as falling
use Rattle.memory.proofs.Gathering.{Gathering}
use Rattle.memory.proofs.Operating.{Operating}
use Rattle.std.proofs.lemmas.Result.{err_from_is_err_and}
use Rattle.sources.specs.declared.SourceCounts.{SourceCounts}
use Rattle.pass_3.proofs.+calculation.Goals.{operated-then-mark-ne0+in_ok-part, operated-else-mark-ne0}

pub calculate_value-returns-then-v : goal.calculate_value-returns-then-v
calculate_value-returns-then-v t c = record { defined = λ h. starting.known_row h c.args.row c.requires.within c.args.left c.if-v.true }

pub calculate_value-returns-then-left-eq0 : goal.calculate_value-returns-then-left-eq0
calculate_value-returns-then-left-eq0 t c = record { defined = λ h. starting.deep_row h c.args.row c.requires.within c.args.left c.if-left-eq0.true refl c.if-v.false }

pub calculate_value-evaluated-requires : goal.calculate_value-evaluated-requires
calculate_value-evaluated-requires t c = (omega (arith, starting.fewer c.requires.holding c.args.row c.requires.within c.if-v.false), starting.starts c.requires.holding c.args.row c.requires.within c.if-v.false)

pub calculate_value-returns : goal.calculate_value-returns
calculate_value-returns t c = record { defined = λ h. starting.ends h c.args.row c.requires.within c.if-v.false c.args.left c.if-left-eq0.false _ _ _ _ _ (c.in_ok-got.ensures.defined (starting.starts h c.args.row c.requires.within c.if-v.false)) }

pub calculate_value-returns-in_err-got : goal.calculate_value-returns-in_err-got
calculate_value-returns-in_err-got t c = let p = err_from_is_err_and c.from_residual.result c.from_residual.ensures.1 in record { defined = λ h. rw (p.1, p.2) (starting.ends_refused h c.args.row c.requires.within c.if-v.false c.args.left c.if-left-eq0.false _ _ _ _ (c.in_err-got.ensures.defined (starting.starts h c.args.row c.requires.within c.if-v.false))) }

pub calculated_value-calculate_value-requires : goal.calculated_value-calculate_value-requires
calculated_value-calculate_value-requires t c = (omega arith, (c.requires.holding, finding.found_inside c.requires.holding c.args.object c.args.attribute _ (rw (to_z-of_z c.ranges.attribute, c.in-Some.is) at (c.find.ensures.defined c.requires.holding.world.rows c.requires.holding.told.held c.requires.holding.told.stretched))))

pub calculated_value-returns : goal.calculated_value-returns
calculated_value-returns t c = record { defined = λ h. finding.found_meets h c.args.object c.args.attribute c.args.left _ (rw (to_z-of_z c.ranges.attribute, c.in-Some.is) at (c.find.ensures.defined h.world.rows h.told.held h.told.stretched)) _ _ _ _ (c.calculate_value.ensures.defined h) }

pub calculated_value-returns-in_default : goal.calculated_value-returns-in_default
calculated_value-returns-in_default t c = record { defined = λ h. finding.absent_meets h c.args.object c.args.attribute c.args.left (rw (to_z-of_z c.ranges.attribute, c.in_default.is) at (c.find.ensures.defined h.world.rows h.told.held h.told.stretched)) _ (ap (λ (r : DogmaAttribute). r.default_value) (rw (to_z-of_z c.ranges.attribute) at c.get_dogma_attribute-record.ensures.defined)) }

pub evaluated-returns-then-not-has_limits : goal.evaluated-returns-then-not-has_limits
evaluated-returns-then-not-has_limits t c = let id : c.signed-id.result ≡ to_z w32 (get_or (get_or c.args.columns.now.rows.now c.args.row []) 1 0) = c.signed-id.ensures.defined in
    record { defined = λ h. evaluating.plain-meets h c.args.left c.if-count-eq0.true (λ k l. subst (λ (a : ℤ). ((get_dogma_attribute k a).min_attribute_id ≡ pos 0) × ((get_dogma_attribute k a).max_attribute_id ≡ pos 0)) (to_z-of_z {w = w32} (sfits_of c.signed-id.type_inv) ∙ id) (c.is_limited-has_limits.ensures.unlimited k l c.if-not-has_limits.true)) }

pub evaluated-returns-then-not-has_limits-2 : goal.evaluated-returns-then-not-has_limits-2
evaluated-returns-then-not-has_limits-2 t c = let id : c.signed-id.result ≡ to_z w32 (get_or (get_or c.args.columns.now.rows.now c.args.row []) 1 0) = c.signed-id.ensures.defined in
    record { defined = λ h. evaluating.free_meets h c.args.left (λ k l. subst (λ (a : ℤ). ((get_dogma_attribute k a).min_attribute_id ≡ pos 0) × ((get_dogma_attribute k a).max_attribute_id ≡ pos 0)) (to_z-of_z {w = w32} (sfits_of c.signed-id.type_inv) ∙ id) (c.is_limited-has_limits.ensures.unlimited k l c.if-not-has_limits-2.true)) _ _ _ _ (c.in_ok-got.ensures.defined h) }

pub evaluated-returns-in_err-got : goal.evaluated-returns-in_err-got
evaluated-returns-in_err-got t c = let p = err_from_is_err_and c.from_residual.result c.from_residual.ensures.1 in record { defined = λ h. rw (p.1, p.2) (limiting.evaluate_refused _ _ _ _ _ _ _ c.args.row _ _ _ _ refl (c.in_err-got.ensures.defined h)) }

pub evaluated-limited-requires : goal.evaluated-limited-requires
evaluated-limited-requires t c = let h = c.requires.begun in let k = c.in_ok-got.ensures.defined h in
    (omega (arith, evaluating.operated_falls h c.args.left c.in_ok-got.got.value c.in_ok-got.got.used c.operated.new.values c.operated.new.sources c.operated.new.floats k), (evaluating.operated_on h c.args.left c.in_ok-got.got.value c.in_ok-got.got.used c.operated.new.values c.operated.new.sources c.operated.new.floats k, (evaluating.object_few h, evaluating.operated_good h c.args.left c.in_ok-got.got.value c.in_ok-got.got.used c.operated.new.values c.operated.new.sources c.operated.new.floats k)))

pub evaluated-returns-in_err-low : goal.evaluated-returns-in_err-low
evaluated-returns-in_err-low t c = let p = err_from_is_err_and c.from_residual-in_err-low.result c.from_residual-in_err-low.ensures.1 in
    let least_fits : mag c.get_dogma_attribute-record.result.min_attribute_id < 2 ^ 31 = search rules in
    let id : c.signed-id.result ≡ to_z w32 (get_or (get_or c.args.columns.now.rows.now c.args.row []) 1 0) = c.signed-id.ensures.defined in
    let its = c.get_dogma_attribute-record.ensures.defined ∙ ap (λ (a : ℤ). get_dogma_attribute (book_of c.args.columns.now.book.now c.args.columns.now.pairs.now) a) (to_z-of_z {w = w32} (sfits_of c.signed-id.type_inv) ∙ id) in
    record {
      defined = λ h. let k = c.in_ok-got.ensures.defined h in
          rw (p.1, p.2) (evaluating.low-refused h c.args.left c.in_ok-got.got.value c.in_ok-got.got.used c.operated.new.values c.operated.new.sources c.operated.new.floats k (get_or (get_or c.args.columns.now.rows.now c.args.row []) 0 0) c.get_dogma_attribute-record.result.min_attribute_id refl (ap (λ (r : DogmaAttribute). r.min_attribute_id) its) _ _ refl _ _ _ (rw (to_z-of_z {w = w32} (sfits_of least_fits)) at (c.in_err-low.ensures.defined (evaluating.operated_on h c.args.left c.in_ok-got.got.value c.in_ok-got.got.used c.operated.new.values c.operated.new.sources c.operated.new.floats k))));
    }

pub evaluated-limited-requires-2 : goal.evaluated-limited-requires-2
evaluated-limited-requires-2 t c = let least_fits : mag c.get_dogma_attribute-record.result.min_attribute_id < 2 ^ 31 = search rules in
    let id : c.signed-id.result ≡ to_z w32 (get_or (get_or c.args.columns.now.rows.now c.args.row []) 1 0) = c.signed-id.ensures.defined in
    let its = c.get_dogma_attribute-record.ensures.defined ∙ ap (λ (a : ℤ). get_dogma_attribute (book_of c.args.columns.now.book.now c.args.columns.now.pairs.now) a) (to_z-of_z {w = w32} (sfits_of c.signed-id.type_inv) ∙ id) in
    let h = c.requires.begun in let k = c.in_ok-got.ensures.defined h in
    let l = rw (to_z-of_z {w = w32} (sfits_of least_fits)) at (c.in_ok-low.ensures.defined (evaluating.operated_on h c.args.left c.in_ok-got.got.value c.in_ok-got.got.used c.operated.new.values c.operated.new.sources c.operated.new.floats k)) in (
      omega (arith, evaluating.operated_falls h c.args.left c.in_ok-got.got.value c.in_ok-got.got.used c.operated.new.values c.operated.new.sources c.operated.new.floats k, evaluating.raised-falls h c.args.left c.in_ok-got.got.value c.in_ok-got.got.used c.operated.new.values c.operated.new.sources c.operated.new.floats k (get_or (get_or c.args.columns.now.rows.now c.args.row []) 0 0) c.get_dogma_attribute-record.result.min_attribute_id refl (ap (λ (r : DogmaAttribute). r.min_attribute_id) its) c.get_dogma_attribute-record.result.max_attribute_id (ap (λ (r : DogmaAttribute). r.max_attribute_id) its) c.in_ok-low.low.value c.in_ok-low.low.used c.limited.new.values c.limited.new.sources c.limited.new.floats l),
      (evaluating.raised_on h c.args.left c.in_ok-got.got.value c.in_ok-got.got.used c.operated.new.values c.operated.new.sources c.operated.new.floats k (get_or (get_or c.args.columns.now.rows.now c.args.row []) 0 0) c.get_dogma_attribute-record.result.min_attribute_id refl (ap (λ (r : DogmaAttribute). r.min_attribute_id) its) c.get_dogma_attribute-record.result.max_attribute_id (ap (λ (r : DogmaAttribute). r.max_attribute_id) its) c.in_ok-low.low.value c.in_ok-low.low.used c.limited.new.values c.limited.new.sources c.limited.new.floats l, (evaluating.object_few h, evaluating.raised_good h c.args.left c.in_ok-got.got.value c.in_ok-got.got.used c.operated.new.values c.operated.new.sources c.operated.new.floats k (get_or (get_or c.args.columns.now.rows.now c.args.row []) 0 0) c.get_dogma_attribute-record.result.min_attribute_id refl (ap (λ (r : DogmaAttribute). r.min_attribute_id) its) c.get_dogma_attribute-record.result.max_attribute_id (ap (λ (r : DogmaAttribute). r.max_attribute_id) its) c.in_ok-low.low.value c.in_ok-low.low.used c.limited.new.values c.limited.new.sources c.limited.new.floats l)),
    )

pub evaluated-returns : goal.evaluated-returns
evaluated-returns t c = let most_fits : mag c.get_dogma_attribute-record.result.max_attribute_id < 2 ^ 31 = search rules in
    let least_fits : mag c.get_dogma_attribute-record.result.min_attribute_id < 2 ^ 31 = search rules in
    let id : c.signed-id.result ≡ to_z w32 (get_or (get_or c.args.columns.now.rows.now c.args.row []) 1 0) = c.signed-id.ensures.defined in
    let its = c.get_dogma_attribute-record.ensures.defined ∙ ap (λ (a : ℤ). get_dogma_attribute (book_of c.args.columns.now.book.now c.args.columns.now.pairs.now) a) (to_z-of_z {w = w32} (sfits_of c.signed-id.type_inv) ∙ id) in
    record {
      defined = λ h. let k = c.in_ok-got.ensures.defined h in
          let l = rw (to_z-of_z {w = w32} (sfits_of least_fits)) at (c.in_ok-low.ensures.defined (evaluating.operated_on h c.args.left c.in_ok-got.got.value c.in_ok-got.got.used c.operated.new.values c.operated.new.sources c.operated.new.floats k)) in
          evaluating.evaluated_meets h c.args.left c.in_ok-got.got.value c.in_ok-got.got.used c.operated.new.values c.operated.new.sources c.operated.new.floats k (get_or (get_or c.args.columns.now.rows.now c.args.row []) 0 0) c.get_dogma_attribute-record.result.min_attribute_id refl (ap (λ (r : DogmaAttribute). r.min_attribute_id) its) (to_z w32 (of_z w32 c.get_dogma_attribute-record.result.max_attribute_id)) (to_z-of_z {w = w32} (sfits_of most_fits) ∙ ap (λ (r : DogmaAttribute). r.max_attribute_id) its) c.in_ok-low.low.value c.in_ok-low.low.used c.limited.new.values c.limited.new.sources c.limited.new.floats l _ _ _ _ (c.limited-2.ensures.defined (evaluating.raised_on h c.args.left c.in_ok-got.got.value c.in_ok-got.got.used c.operated.new.values c.operated.new.sources c.operated.new.floats k (get_or (get_or c.args.columns.now.rows.now c.args.row []) 0 0) c.get_dogma_attribute-record.result.min_attribute_id refl (ap (λ (r : DogmaAttribute). r.min_attribute_id) its) (to_z w32 (of_z w32 c.get_dogma_attribute-record.result.max_attribute_id)) (to_z-of_z {w = w32} (sfits_of most_fits) ∙ ap (λ (r : DogmaAttribute). r.max_attribute_id) its) c.in_ok-low.low.value c.in_ok-low.low.used c.limited.new.values c.limited.new.sources c.limited.new.floats l));
    }

pub gathered-loop-k-init : goal.gathered-loop-k-init
gathered-loop-k-init t c = ((omega arith, refl, refl, refl, record { positives = refl; positive_sources = refl; negatives = refl; negative_sources = refl }), λ h. gathering.gathering_starts h c.args.left c.is_high-high.result c.args.part.value _ (c.empty-p.ensures.defined _ _ _ _ c.args.row c.is_high-high.result c.args.operator _ _ _ _ _ _ _ c.requires.begun.1 (gathering.keeping_now h)) (ap (λ (n : SourceCounts). n.used) c.empty-p.ensures.counted))

pub gathered-with_entry-requires : goal.gathered-with_entry-requires
gathered-with_entry-requires t c = (omega (arith, falling.gathering_falls c.requires.begun.0 (c.loop-k.invariant.1 c.requires.begun.0)), (gathering.piling c.requires.begun.0 (c.loop-k.invariant.1 c.requires.begun.0) (omega (arith, c.loop-k-test.true, (c.requires.begun.0.ready.told.row c.args.row c.requires.begun.0.within).count)), c.loop-k.invariant.0.4))

pub gathered-loop-k-preserved : goal.gathered-loop-k-preserved
gathered-loop-k-preserved t c = ((omega (arith, c.loop-k-test.true), c.with_entry.auto.values ∙ c.loop-k.invariant.0.1, c.with_entry.auto.sources ∙ c.loop-k.invariant.0.2, c.with_entry.auto.floats ∙ c.loop-k.invariant.0.3, c.in_ok-with_entry.ensures.eights), λ h. let inside : c.loop-k.k < length (row_at h.ready.world c.args.row).entries = omega (arith, c.loop-k-test.true, (h.ready.told.row c.args.row h.within).count) in gathering.gathering_next h (c.loop-k.invariant.1 h) inside _ _ _ _ (c.in_ok-with_entry.ensures.defined (gathering.piling h (c.loop-k.invariant.1 h) inside)))

pub gathered-returns-in_err-with_entry : goal.gathered-returns-in_err-with_entry
gathered-returns-in_err-with_entry t c = let p = err_from_is_err_and c.from_residual.result c.from_residual.ensures.1 in record {
  defined = λ h. let inside : c.loop-k.k < length (row_at h.ready.world c.args.row).entries = omega (arith, c.loop-k-test.true, (h.ready.told.row c.args.row h.within).count) in
      rw (p.1, p.2) (gathering.gathering_refused h (c.loop-k.invariant.1 h) inside _ _ _ _ (c.in_err-with_entry.ensures.defined (gathering.piling h (c.loop-k.invariant.1 h) inside)));
}

pub gathered-returns : goal.gathered-returns
gathered-returns t c = let id : c.signed-id.result ≡ to_z w32 (get_or (get_or c.args.columns.now.rows.now c.args.row []) 1 0) = c.signed-id.ensures.defined in
    record {
      defined = λ h. let G = c.loop-k.invariant.1 h in let all : length (row_at h.ready.world c.args.row).entries ≤ c.loop-k.k = omega (arith, c.loop-k-test.false, (h.ready.told.row c.args.row h.within).count) in
          gathering.gathering_applied h G all (λ x g. c.is_high-high.ensures.asked x g ∙ ap (λ (b : Bool). applied b c.args.operator x g) (ap (λ (a : ℤ). high_is_good (get_dogma_attribute (book_of c.args.columns.now.book.now c.args.columns.now.pairs.now) a)) (to_z-of_z {w = w32} (sfits_of c.signed-id.type_inv) ∙ id) ∙ gathering.high_is h.ready c.args.row h.within)) _ _ _ (c.apply.ensures.defined h.ready.world _ h.ready.sources₀ h.ready.floats₀ c.args.row _ c.is_high-high.result c.args.operator c.args.part.value G.sofar _ h.ready.told.recorded (gathering.begins h G all refl) (sym (h.ready.told.held.object c.args.row h.within)) (rw c.grown-pile.ensures.defined G.piled) (gathering.all-fresh h G all) (gathering.none_recorded h G all) (gathering.all_plain h G all));
    }

pub limited-returns-then-limit-eq0 : goal.limited-returns-then-limit-eq0
limited-returns-then-limit-eq0 t c = record { defined = λ h. limiting.not_limited _ _ _ _ _ _ c.args.object _ c.args.least c.args.limit c.args.got.value _ (same_bits {w = w32} c.args.limit (pos 0) c.ranges.limit (search rules) c.if-limit-eq0.true) c.requires.within.1 h.holds }

pub limited-returns-in_err-bound : goal.limited-returns-in_err-bound
limited-returns-in_err-bound t c = let p = err_from_is_err_and c.from_residual.result c.from_residual.ensures.1 in record { defined = λ h. rw (p.1, p.2) (limiting.limit-refused _ _ _ _ _ _ c.args.object _ c.args.least c.args.limit c.args.got.value _ (tested-apart {w = w32} c.args.limit (pos 0) c.ranges.limit (search rules) c.if-limit-eq0.false) _ _ refl (rw (to_z-of_z c.ranges.limit) at (c.in_err-bound.ensures.defined h))) }

pub limited-returns : goal.limited-returns
limited-returns t c = record { defined = λ h. rw c.held_to.ensures.defined (limiting.limit-held _ _ _ _ _ _ c.args.object _ c.args.least c.args.limit c.args.got.value _ (tested-apart {w = w32} c.args.limit (pos 0) c.ranges.limit (search rules) c.if-limit-eq0.false) _ _ c.requires.within.1 (rw (to_z-of_z c.ranges.limit) at (c.in_ok-bound.ensures.defined h))) }

pub operated-gathered-requires : goal.operated-gathered-requires
operated-gathered-requires t c = let O = c.loop-code.invariant.1 c.requires.begun in
    (omega (arith, falling.operating_falls c.requires.begun O), (operating.busy_now c.requires.begun O c.loop-code-test.true _ c.operator_of-operator.ensures.defined, O.number))

pub operated-returns-in_err-part : goal.operated-returns-in_err-part
operated-returns-in_err-part t c = let p = err_from_is_err_and c.from_residual.result c.from_residual.ensures.1 in record { defined = λ h. rw (p.1, p.2) (operating.operating_refused h (c.loop-code.invariant.1 h) c.loop-code-test.true _ c.operator_of-operator.ensures.defined _ _ _ _ (c.in_err-part.ensures.defined (operating.busy_now h (c.loop-code.invariant.1 h) c.loop-code-test.true _ c.operator_of-operator.ensures.defined))) }

pub operated-loop-code-preserved : goal.operated-loop-code-preserved
operated-loop-code-preserved t c = elim c.if-mark-ne0.branch [
  | operated-then-mark-ne0+in_ok-part w ↦ ((omega (arith, c.loop-code-test.true), rw w.values-is (w.gathered.auto.values ∙ c.loop-code.invariant.0.1), rw w.sources-is (w.gathered.auto.sources ∙ c.loop-code.invariant.0.2), rw w.floats-is (w.gathered.auto.floats ∙ c.loop-code.invariant.0.3)), λ h. rw (w.values-is, w.sources-is, w.floats-is, w.part-is) (operating.operating_next h (c.loop-code.invariant.1 h) c.loop-code-test.true _ c.operator_of-operator.ensures.defined _ _ _ _ _ _ (w.in_ok-part.ensures.defined (operating.busy_now h (c.loop-code.invariant.1 h) c.loop-code-test.true _ c.operator_of-operator.ensures.defined))))
  | operated-else-mark-ne0 w ↦ ((omega (arith, c.loop-code-test.true), rw w.values-is c.loop-code.invariant.0.1, rw w.sources-is c.loop-code.invariant.0.2, rw w.floats-is c.loop-code.invariant.0.3), λ h. rw (w.values-is, w.sources-is, w.floats-is, w.part-is) (operating.operating_passed h (c.loop-code.invariant.1 h) c.loop-code-test.true _ c.operator_of-operator.ensures.defined (operating.unmarked_none h (c.loop-code.invariant.1 h) c.loop-code-test.true _ c.operator_of-operator.ensures.defined c.operators_in-marks.result refl refl c.operators_in-marks.ensures.marked w.if-mark-ne0.false)))
]

pub resisted-returns-in_err-resisting : goal.resisted-returns-in_err-resisting
resisted-returns-in_err-resisting t c = let fits : mag c.in-Some.attribute < 2 ^ 31 = search rules in let p = err_from_is_err_and c.from_residual.result c.from_residual.ensures.1 in
    record { defined = λ h i row o. rw (c.in-Some.is, p.1, p.2) (limiting.resist_refused _ _ _ _ _ _ i row _ c.args.got.value _ _ _ _ refl (rw (to_z-of_z {w = w32} (sfits_of fits)) at (c.in_err-resisting.ensures.defined h))) }

pub resisted-returns-in_default : goal.resisted-returns-in_default
resisted-returns-in_default t c = record { defined = λ h i row o. rw c.in_default.is (limiting.not_resisted _ _ _ _ _ _ i row _ c.args.got.value _ c.requires.number h.holds) }

pub resisted-returns : goal.resisted-returns
resisted-returns t c = let fits : mag c.in-Some.attribute < 2 ^ 31 = search rules in
    record { defined = λ h i row o. rw c.in-Some.is (limiting.resist_made _ _ _ _ _ _ i row _ c.args.got.value _ _ _ _ (rw (to_z-of_z {w = w32} (sfits_of fits)) at (c.in_ok-resisting.ensures.defined h)) _ (sym c.product.ensures.defined ∙ c.in-Some-product.is) (limiting.product_good _ _ (sym c.product.ensures.defined ∙ c.in-Some-product.is))) }

pub resisted-returns-in_default-product : goal.resisted-returns-in_default-product
resisted-returns-in_default-product t c = let fits : mag c.in-Some.attribute < 2 ^ 31 = search rules in
    record { defined = λ h i row o. rw c.in-Some.is (limiting.resist_not_finite _ _ _ _ _ _ i row _ c.args.got.value _ _ _ _ (rw (to_z-of_z {w = w32} (sfits_of fits)) at (c.in_ok-resisting.ensures.defined h)) (sym c.product.ensures.defined ∙ c.in_default-product.is) o) }

pub strength-returns-in_err-got-in-Effect : goal.strength-returns-in_err-got-in-Effect
strength-returns-in_err-got-in-Effect t c = let fits : mag c.in-Effect.attribute_id < 2 ^ 31 = search rules in let p = err_from_is_err_and c.from_residual.result c.from_residual.ensures.1 in
    record { defined = λ h i row o. rw (p.1, p.2) (limiting.strength_refused _ _ _ _ _ _ i row _ c.args.e _ _ c.in-Effect.source _ c.in-Effect.attribute_id c.in-Effect.is _ _ refl (rw (to_z-of_z {w = w32} (sfits_of fits)) at (c.in_err-got-in-Effect.ensures.defined h))) }

pub strength-resisted-requires : goal.strength-resisted-requires
strength-resisted-requires t c = let fits : mag c.in-Effect.attribute_id < 2 ^ 31 = search rules in let h = c.requires.holding in
    let k = rw (to_z-of_z {w = w32} (sfits_of fits)) at (c.in_ok-got-in-Effect.ensures.defined h) in
    (omega (arith, falling.read-falls h c.args.left c.in-Effect.source c.in-Effect.attribute_id c.in_ok-got-in-Effect.got.value c.in_ok-got-in-Effect.got.used c.calculated_value.new.values c.calculated_value.new.sources c.calculated_value.new.floats k), (goes_on_from h (value_of h.world c.args.left c.in-Effect.source c.in-Effect.attribute_id h.mem) c.in_ok-got-in-Effect.got.value c.in_ok-got-in-Effect.got.used c.calculated_value.new.values c.calculated_value.new.sources c.calculated_value.new.floats k, number_of h (value_of h.world c.args.left c.in-Effect.source c.in-Effect.attribute_id h.mem) c.in_ok-got-in-Effect.got.value c.in_ok-got-in-Effect.got.used c.calculated_value.new.values c.calculated_value.new.sources c.calculated_value.new.floats k))

pub strength-returns-in-Buff : goal.strength-returns-in-Buff
strength-returns-in-Buff t c = record { defined = λ h i row o. limiting.buff_strength _ _ _ _ _ _ i row _ c.args.e _ _ _ c.in-Buff.is (rw c.in-Buff.is at c.requires.good.valued) h.holds }

pub strength-returns-in_ok-got-in-Effect : goal.strength-returns-in_ok-got-in-Effect
strength-returns-in_ok-got-in-Effect t c = let fits : mag c.in-Effect.attribute_id < 2 ^ 31 = search rules in
    record {
      defined = λ h i row o. let k = rw (to_z-of_z {w = w32} (sfits_of fits)) at (c.in_ok-got-in-Effect.ensures.defined h) in
          limiting.strength_resisted h.world h.sources₀ h.floats₀ c.calculated_value.new.values c.calculated_value.new.sources c.calculated_value.new.floats i row (value_of h.world c.args.left) c.args.e h.mem _ c.in-Effect.source _ c.in-Effect.attribute_id c.in-Effect.is c.in_ok-got-in-Effect.got.value c.in_ok-got-in-Effect.got.used k _ _ _ _ (c.resisted.ensures.defined (goes_on_from h (value_of h.world c.args.left c.in-Effect.source c.in-Effect.attribute_id h.mem) c.in_ok-got-in-Effect.got.value c.in_ok-got-in-Effect.got.used c.calculated_value.new.values c.calculated_value.new.sources c.calculated_value.new.floats k) i row o);
    }

pub with_entry-returns-then-code-operator_code-clause-defined : goal.with_entry-returns-then-code-operator_code-clause-defined
with_entry-returns-then-code-operator_code-clause-defined t c = λ h. taking.entry_other h c.args.left (λ e. c.if-code-operator_code.true (e ∙ sym c.operator_code.ensures.defined))

pub with_entry-is_running-runs-requires : goal.with_entry-is_running-runs-requires
with_entry-is_running-runs-requires t c = record { sourced = (taking.entry_good c.requires.piling c.args.left _ (c.entry_at-e.ensures.defined _ (taking.entry-held c.requires.piling)) (c.if-code-operator_code.false ∙ c.operator_code.ensures.defined)).sourced }

pub with_entry-returns-then-not-runs-run : goal.with_entry-returns-then-not-runs-run
with_entry-returns-then-not-runs-run t c = let none : (c.is_running-runs.result || c.args.run.recording) ≡ false = c.if-not-runs-run.true in
    record {
      defined = λ h. taking.entry_idle h c.args.left _ (c.entry_at-e.ensures.defined _ (taking.entry-held h)) (c.if-code-operator_code.false ∙ c.operator_code.ensures.defined) (sym c.is_running-runs.ensures.defined ∙ or_false_left c.is_running-runs.result c.args.run.recording none) (or_false_right c.is_running-runs.result c.args.run.recording none);
      eights = c.requires.eights;
    }

pub with_entry-strength-requires : goal.with_entry-strength-requires
with_entry-strength-requires t c = (omega arith, (c.requires.piling.ready, taking.entry_good c.requires.piling c.args.left _ (c.entry_at-e.ensures.defined _ (taking.entry-held c.requires.piling)) (c.if-code-operator_code.false ∙ c.operator_code.ensures.defined)))

pub with_entry-add_entry-requires : goal.with_entry-add_entry-requires
with_entry-add_entry-requires t c = let h = c.requires.piling in
    record { roomy = taking.entry-lengths h c.args.left _ (c.entry_at-e.ensures.defined _ (taking.entry-held h)) (c.if-code-operator_code.false ∙ c.operator_code.ensures.defined) _ c.is_running-runs.ensures.defined c.if-not-runs-run.false _ _ _ _ _ (c.in_ok-got.ensures.defined h.ready c.args.row (row_at h.ready.world c.args.row) (taking.entry-object h refl)); eights = c.requires.eights }

pub with_entry-returns-clause-defined : goal.with_entry-returns-clause-defined
with_entry-returns-clause-defined t c = λ h. let k = (c.in_ok-got.ensures.defined h.ready c.args.row (row_at h.ready.world c.args.row) (taking.entry-object h refl)) in
    taking.entry-added h c.args.left _ (c.entry_at-e.ensures.defined _ (taking.entry-held h)) (c.if-code-operator_code.false ∙ c.operator_code.ensures.defined) _ c.is_running-runs.ensures.defined c.if-not-runs-run.false _ _ _ _ _ k _ _ _
    (c.add_entry.ensures.defined h.ready.world _ h.ready.sources₀ h.ready.floats₀ c.args.row _ c.args.operator h.found _ h.ready.told.recorded (taking.entry-begins h refl) (taking.entry-object h refl) (taking.entry_operator h c.args.left _ (c.entry_at-e.ensures.defined _ (taking.entry-held h)) (c.if-code-operator_code.false ∙ c.operator_code.ensures.defined)) (taking.entry-number h c.args.left _ (c.entry_at-e.ensures.defined _ (taking.entry-held h)) (c.if-code-operator_code.false ∙ c.operator_code.ensures.defined) _ c.is_running-runs.ensures.defined c.if-not-runs-run.false _ _ _ _ _ k)
    (taking.entry_pile h c.args.left _ (c.entry_at-e.ensures.defined _ (taking.entry-held h)) (c.if-code-operator_code.false ∙ c.operator_code.ensures.defined) _ c.is_running-runs.ensures.defined c.if-not-runs-run.false _ _ _ _ _ k)
    (taking.entry_room h c.args.left _ (c.entry_at-e.ensures.defined _ (taking.entry-held h)) (c.if-code-operator_code.false ∙ c.operator_code.ensures.defined) _ c.is_running-runs.ensures.defined c.if-not-runs-run.false _ _ _ _ _ k))

pub with_entry-returns-in_err-got : goal.with_entry-returns-in_err-got
with_entry-returns-in_err-got t c = let p = err_from_is_err_and c.from_residual.result c.from_residual.ensures.1 in record {
  defined = λ h. rw (p.1, p.2) (taking.entry-refused h c.args.left _ (c.entry_at-e.ensures.defined _ (taking.entry-held h)) (c.if-code-operator_code.false ∙ c.operator_code.ensures.defined) _ c.is_running-runs.ensures.defined c.if-not-runs-run.false _ _ _ _ (c.in_err-got.ensures.defined h.ready c.args.row (row_at h.ready.world c.args.row) (taking.entry-object h refl)));
  eights = c.requires.eights;
}

pub gathered-apply-requires : goal.gathered-apply-requires
gathered-apply-requires t c = record { roomy = gathering.floats_there c.requires.begun.0 (c.loop-k.invariant.1 c.requires.begun.0) }

pub operated-loop-code-init : goal.operated-loop-code-init
operated-loop-code-init t c = ((omega arith, refl, refl, refl), λ h. operating.operating_starts h c.args.left)

pub operated-returns : goal.operated-returns
operated-returns t c = record { defined = λ h. operating.operating_ends h (c.loop-code.invariant.1 h) c.loop-code-test.false }
