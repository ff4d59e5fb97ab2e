-- `apply::apply` meets its contract. Assumes nothing.
use Rattle.memory.proofs.apply.apply.Goals as goal
use native.Mathlib.Omega.{arith}
use mathlib.Core.Path.{◌≡◌, sym, ◌∙◌}
use mathlib.Core.List.{◌++◌}
use Prim.Native.Nat.{◌<◌}
use lib.ListN.{length}
use Rattle.rules.specs.Operate.{sorted}
use Rattle.rules.specs.Value.{own_sources, with_own, marked}
use Rattle.sources.proofs.Marking.{left_fresh, marked-fresh}
use Rattle.operate.proofs.Applied.{applied_good}
use Rattle.memory.proofs.Applies.{goes, stops, own_there, kept_twice, fresh_there, none_marked}

pub returns : goal.returns
returns c = record { defined = λ w counts s₀ f₀ i row high op found g s t b o k fresh off plain. let is = sym (c.finished.ensures.defined high op found g.values k.running k.positive k.negative plain) ∙ c.in-Some.is in let m = g.mem in let pos = g.values.positive in let neg = g.values.negative in let own = marked 0 (sorted pos) (own_sources i m) in let there : i < length m.sources = omega (arith, b.row, k.keeping.long) in let first = c.set_penalties.ensures.defined w counts s₀ f₀ i m _ _ s pos t b k.keeping k.positive (λ y. left_fresh (own_sources i m) pos neg (fresh y)) off in let second = c.set_penalties-2.ensures.defined w counts s₀ f₀ i (with_own i own m) _ _ s neg t b first k.negative (λ y. fresh_there i m own there (marked-fresh (own_sources i m) pos neg (fresh y))) (λ y. own_there i m own there ∙ none_marked (sorted pos) (off y)) in goes counts w.room s₀ f₀ i row high op found g s _ is (applied_good k.running plain is) (kept_twice i m own there (sorted neg) second) }

pub returns-in_default : goal.returns-in_default
returns-in_default c = record { defined = λ w counts s₀ f₀ i row high op found g s t b o k fresh off plain. stops counts w.room s₀ f₀ i row high op found g s _ (sym (c.finished.ensures.defined high op found g.values k.running k.positive k.negative plain) ∙ c.in_default.is) o }
