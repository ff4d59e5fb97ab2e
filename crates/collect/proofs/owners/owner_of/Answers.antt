-- `owners::owner_of` meets its contract. Assumes nothing.
use Rattle.collect.proofs.owners.owner_of.Goals as goal
use mathlib.Core.Path.{refl, ◌∙◌}
use Rattle.rules.specs.Sheet.{Book, fit_of}
use Rattle.modifier.specs.Tests.{WholeOwnerOf}
use Rattle.modifier.proofs.Tests.{of_whole}
use Rattle.collect.specs.Parts.{HullOf}
use Rattle.collect.proofs.Neighbours.{before_is}

pub returns : goal.returns
returns c =
    let f = fit_of c.args.fit.now c.args.pairs.now in
    let whole : (k : Book) → HullOf k f c.args.hull → WholeOwnerOf f _ = λ k h. record { charge = c.charge_of.ensures.defined; before = c.saturating_sub.ensures ∙ before_is c.args.fit.now c.args.pairs.now c.args.o c.requires.of_fit; structure = h.structure; character = h.character } in
    record { of_the_fit = (λ k h. of_whole f _ (whole k h), refl); whole = whole }
