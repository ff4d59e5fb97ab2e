-- `walk::calculate_values` meets its contract. Assumes nothing.
use Rattle.values.proofs.walk.calculate_values.Goals as goal
use mathlib.Core.List.{map}
use Rattle.std.proofs.lemmas.Result.{err_from_is_err_and}
use Rattle.rules.specs.Outcome.{walk_order}
use Rattle.rules.specs.Sheet.{fit_of}
use Rattle.memory.proofs.Holdings.{ready_on}
use Rattle.values.specs.Complete.{ask_of}
use Rattle.values.proofs.Startings.{left_by, both-valued, both-refused}

pub walk-requires : goal.walk-requires
walk-requires c = let h = c.requires.holding in let f = fit_of c.args.fit.now c.args.columns.now.pairs.now in let l = left_by h.ready.world h.ready.sources₀ h.ready.floats₀ f.depth f.asks (map ask_of (walk_order f.objects h.ready.world.rows)) h.ready.mem c.in_ok-used.used c.asks.new.values c.asks.new.sources c.asks.new.floats (c.in_ok-used.ensures.defined h.ready) in record {
  holding = record { ready = ready_on h.ready l.mem l.holds; own = h.own };
  sound = c.requires.sound;
}

pub returns : goal.returns
returns c = record { defined = λ h. let f = fit_of c.args.fit.now c.args.columns.now.pairs.now in let l = left_by h.ready.world h.ready.sources₀ h.ready.floats₀ f.depth f.asks (map ask_of (walk_order f.objects h.ready.world.rows)) h.ready.mem c.in_ok-used.used c.asks.new.values c.asks.new.sources c.asks.new.floats (c.in_ok-used.ensures.defined h.ready) in both-valued h.ready.world h.ready.sources₀ h.ready.floats₀ f.depth f.asks (map ask_of (walk_order f.objects h.ready.world.rows)) h.ready.mem l _ _ _ _ (c.walk.ensures.defined (record { ready = ready_on h.ready l.mem l.holds; own = h.own })) }

pub returns-in_err-used : goal.returns-in_err-used
returns-in_err-used c = let p = err_from_is_err_and c.from_residual.result c.from_residual.ensures.1 in record { defined = λ h. let f = fit_of c.args.fit.now c.args.columns.now.pairs.now in rw (p.1, p.2) (both-refused h.ready.world h.ready.sources₀ h.ready.floats₀ f.depth f.asks (map ask_of (walk_order f.objects h.ready.world.rows)) h.ready.mem _ _ _ _ (c.in_err-used.ensures.defined h.ready)) }
