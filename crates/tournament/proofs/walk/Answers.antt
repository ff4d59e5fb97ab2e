-- `walk` meets its contract: after each line the lines up to it hold. Assumes nothing.
use Rattle.std.proofs.Common.{◌≡◌, ℕ, ◌<◌, ◌≤◌, ◌+◌, map, subst, arith}
use Rattle.tallies.specs.Tallies.{line_of}
use Rattle.tournament.specs.Answered.{Reached}
use Rattle.tournament.proofs.Judging.{told_end, told-inside, sum_told, sum_few, all_told, line_cheap, reached_broken, reached_few, reached_more}
use Rattle.tournament.proofs.walk.Goals as goal

pub overflow_add-end : goal.overflow_add-end
overflow_add-end g c = record { fits = omega (arith, told_end c.args.lines.now g.os c.requires.1.0) }

pub loop-i-init : goal.loop-i-init
loop-i-init g c = c.requires.1.1

pub bounds-lines-i : goal.bounds-lines-i
bounds-lines-i g c = told-inside c.args.lines.now g.os c.requires.1.0 (omega arith) c.loop-i-test.true

pub bounds-sums-i : goal.bounds-sums-i
bounds-sums-i g c = omega (arith, c.requires.1.0.few, c.requires.1.0.long)

pub returns-then-is_broken : goal.returns-then-is_broken
returns-then-is_broken g c =
    let from : c.args.from.next ≤ c.loop-i.i = omega arith in
    let to : c.loop-i.i < c.args.from.next + c.args.n = omega arith in
    record { passed = reached_broken c.args.lines.now c.requires.0 g.os c.loop-i.invariant (told-inside c.args.lines.now g.os c.requires.1.0 from to) (sum_told c.args.lines.now g.os c.requires.1.0 from to) c.tally-count.ensures.defined c.is_broken.ensures.defined c.if-is_broken.true (sum_few c.args.lines.now g.os c.requires.1.0 from to) }

pub worth-points-requires : goal.worth-points-requires
worth-points-requires g c =
    let from : c.args.from.next ≤ c.loop-i.i = omega arith in
    let to : c.loop-i.i < c.args.from.next + c.args.n = omega arith in
    record {
      cheap = line_cheap c.args.lines.now g.os c.requires.1.0 from to c.requires.0;
      few = sum_few c.args.lines.now g.os c.requires.1.0 from to;
    }

pub overflow_add-points : goal.overflow_add-points
overflow_add-points g c =
    let from : c.args.from.next ≤ c.loop-i.i = omega arith in
    let to : c.loop-i.i < c.args.from.next + c.args.n = omega arith in
    record { fits = omega (arith, reached_few c.args.lines.now c.requires.0 g.os c.loop-i.invariant (told-inside c.args.lines.now g.os c.requires.1.0 from to) (sum_told c.args.lines.now g.os c.requires.1.0 from to) c.tally-count.ensures.defined (all_told c.args.lines.now g.os c.requires.1.0 from to) c.worth-points.ensures.defined) }

pub loop-i-preserved : goal.loop-i-preserved
loop-i-preserved g c =
    let from : c.args.from.next ≤ c.loop-i.i = omega arith in
    let to : c.loop-i.i < c.args.from.next + c.args.n = omega arith in
    reached_more c.args.lines.now c.requires.0 g.os c.loop-i.invariant (told-inside c.args.lines.now g.os c.requires.1.0 from to) (sum_told c.args.lines.now g.os c.requires.1.0 from to) c.tally-count.ensures.defined (all_told c.args.lines.now g.os c.requires.1.0 from to) c.worth-points.ensures.defined c.is_broken.ensures.defined c.if-is_broken.false

pub returns : goal.returns
returns g c =
    let all : c.loop-i.i ≡ c.args.from.next + c.args.n = omega arith in
    record { passed = (omega (arith, c.requires.1.0.some), subst (λ (i : ℕ). Reached (map line_of c.args.lines.now) g.os i c.loop-i.points) all c.loop-i.invariant) }
