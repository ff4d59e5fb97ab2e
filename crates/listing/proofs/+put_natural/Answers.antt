-- `listing::put_natural` meets its contract: it calls itself at a tenth. Assumes nothing.
use Prim.Native.Nat.{ℕ, ◌/◌}
use native.Mathlib.Omega.{arith}
use mathlib.Core.Path.{ap, sym, ◌∙◌}
use mathlib.Core.List.{List, [], ◌∷◌}
use lib.ListN.{length, length-append}
use Rattle.std.proofs.Common.{rules}
use Rattle.rules.specs.Listing.{natural}
use Rattle.listing.specs.Put.{put, puts}
use Rattle.listing.proofs.Puts.{after, ends}
use Rattle.listing.proofs.Digits.{last, natural-one, natural-more}
use Rattle.listing.proofs.+put_natural.Goals as goal

pub put_byte-requires : goal.put_byte-requires
put_byte-requires t c = record { room = omega (arith, c.requires.room, ap length (natural-one c.args.n c.if-n-lt10.true)) }

pub returns-then-n-lt10 : goal.returns-then-n-lt10
returns-then-n-lt10 t c = record { added = c.put_byte.ensures.added ∙ ap (λ (l : List ℕ). puts l (put c.args.at c.args.out.now)) (sym (natural-one c.args.n c.if-n-lt10.true)) }

pub put_natural-next-requires : goal.put_natural-next-requires
put_natural-next-requires t c = (search rules, omega (arith, c.requires.room, simp length-append at (ap length (natural-more c.args.n c.if-n-lt10.false (omega arith)))))

pub put_byte-requires-2 : goal.put_byte-requires-2
put_byte-requires-2 t c = record { room = omega (arith, c.requires.room, c.put_natural-next.auto.out, ends (natural (c.args.n / 10)) c.args.at c.args.out.now c.put_natural-next.ensures.added, simp length-append at (ap length (natural-more c.args.n c.if-n-lt10.false (omega arith)))) }

pub returns : goal.returns
returns t c = record { added = after (natural (c.args.n / 10)) (last c.args.n ∷ []) (put c.args.at c.args.out.now) c.put_natural-next.ensures.added c.put_byte-2.ensures.added ∙ ap (λ (l : List ℕ). puts l (put c.args.at c.args.out.now)) (sym (natural-more c.args.n c.if-n-lt10.false (omega arith))) }
