-- `listing::put_natural` calls itself at a tenth, so its measure is n.
use Rattle.listing.proofs.+put_natural.Given as goal

abbrev pub decreases-put_natural : goal.decreases-put_natural
decreases-put_natural l = l.n
