-- `wanted::wanted_of` meets its contract. The measure is how many objects are left.
use Rattle.hits.proofs.wanted.wanted_of.Goals as goal
use Rattle.std.proofs.Common.{ℕ, List, [], subst, arith}
use lib.Seq.{get_or-take, length-take-le}
use Rattle.hits.specs.Marks.{Marking}
use mathlib.Core.Path.{refl}
use Rattle.hits.proofs.Marking.{all_none, all_more, all-marked}

pub loop-row-init : goal.loop-row-init
loop-row-init c = all_none refl

pub loop-row-preserved : goal.loop-row-preserved
loop-row-preserved c = let long = length-take-le c.args.objects c.args.skills.now c.requires.inside in
    let same = get_or-take c.args.objects c.args.skills.now c.loop-row.row-index [] (omega arith) in
    all_more c.loop-row.invariant (subst (λ (r : List ℕ). Marking c.loop-row.wanted c.mark.new.wanted r 6) same c.mark.ensures.defined)

pub returns : goal.returns
returns c = record { marked = all-marked c.loop-row.invariant (omega (arith, length-take-le c.args.objects c.args.skills.now c.requires.inside)) }
