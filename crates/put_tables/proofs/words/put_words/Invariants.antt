use Rattle.std.proofs.Common.{◌≡◌, take}
use Rattle.listing.specs.Put.{put, puts}
use Rattle.tables.specs.Layout.{words}
use Rattle.put_tables.proofs.words.put_words.Given as goal

abbrev pub invariant-loop-x : goal.invariant-loop-x
invariant-loop-x l = put l.place l.bytes ≡ puts (words (take l.x-index l.numbers)) (put l.at l.initial.bytes)
