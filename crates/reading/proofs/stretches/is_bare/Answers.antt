-- `stretches::is_bare` meets its contract.
use Rattle.reading.proofs.stretches.is_bare.Goals as goal
use mathlib.Core.Path.{subst, ◌∙◌}
use lib.IntN.{ℤ}
use mir.Facts.{to_z-of_z}
use mir.Syntax.{w32}
use borrow.Author.Rules.{sfits_of}
use borrow.Author.Tests.{not-true}
use Rattle.reading.specs.Stretched.{Unlimited}

pub returns-then-count-eq0 : goal.returns-then-count-eq0
returns-then-count-eq0 c =
    record {
      bare = λ e. record {
        empty = c.if-count-eq0.true;
        free = λ k l. subst (λ (a : ℤ). Unlimited k a) (to_z-of_z {w = w32} (sfits_of c.signed.type_inv) ∙ c.signed.ensures.defined) (c.is_limited.ensures.unlimited k l (not-true c.is_limited.result e));
      };
    }
