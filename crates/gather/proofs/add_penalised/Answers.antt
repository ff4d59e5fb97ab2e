-- `add_penalised` meets its contract. Assumes nothing.
use Rattle.gather.proofs.add_penalised.Goals as goal
use native.Mathlib.Omega.{arith}
use mathlib.Core.Path.{sym}
use Rattle.std.proofs.lemmas.Result.{err_from_is_err_and}
use Rattle.gather.specs.Piles.{whole}
use Rattle.gather.proofs.Copies.{few_copies}
use Rattle.gather.proofs.Adding.{penalised_stops, penalised_goes}

pub put_penalised-requires : goal.put_penalised-requires
put_penalised-requires c = record {
  few = few_copies c.args.run.recording c.args.e.quantity _ c.kept.ensures.defined c.in_ok-counts.ensures.advanced.0 (omega arith);
  eights = c.requires.eights;
}

pub returns-in_err-counts-clause-defined : goal.returns-in_err-counts-clause-defined
returns-in_err-counts-clause-defined c = let p = err_from_is_err_and c.from_residual.result c.from_residual.ensures.1 in λ w counts s₀ f₀ i row high op found g t b x k fit.
    rw (p.1, p.2) (penalised_stops w counts s₀ f₀ i row high op found g (whole c.args.positives.now c.args.positive_sources.now c.args.negatives.now c.args.negative_sources.now c.args.p.now) _ _ _ _ k b.row c.args.e c.args.strength c.args.x _ (c.in_err-counts.ensures.defined w counts s₀ f₀ i row g.mem t b k.keeping fit))

pub returns-clause-defined : goal.returns-clause-defined
returns-clause-defined c = λ w counts s₀ f₀ i row high op found g t b x k fit.
    let copies = rw (sym t.recording, c.kept.ensures.defined) at (c.put_penalised.ensures.defined g.values x k.positive k.negative) in
    penalised_goes w counts s₀ f₀ i row high op found g (whole c.args.positives.now c.args.positive_sources.now c.args.negatives.now c.args.negative_sources.now c.args.p.now) _ _ _ _ k b.row c.args.e c.args.strength c.args.x _ (whole c.put_penalised.new.positives c.put_penalised.new.positive_sources c.put_penalised.new.negatives c.put_penalised.new.negative_sources c.put_penalised.new.p) (c.in_ok-counts.ensures.defined w counts s₀ f₀ i row g.mem t b k.keeping fit) c.put_penalised.ensures.kept.1 copies.0 copies.1
