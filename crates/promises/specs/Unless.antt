-- Two answers that are the same, unless the first was refused for want of what the second has more of.
use Rattle.std.specs.Prelude.{ℕ, ◌≡◌}
use Rattle.rules.specs.Answer.{Res, refused}
use Rattle.rules.specs.Sheet.{Fit}
use Rattle.rules.specs.Value.{World}
use Rattle.rules.specs.declared.Refusal.{Refusal}

-- short is what was wanting, Depth or Room, by its place: either before was refused for it, or after is what before is
pub data Unless (short : ℕ → Refusal) {A : Type 0} (before after : Res A) : Type 0 where
  refused_so : (place : ℕ) → before ≡ refused (short place) → Unless short before after
  the_same : after ≡ before → Unless short before after

-- a fit with another depth, and all else as it is
abbrev pub with_depth : ℕ → Fit → Fit
with_depth d f =
    record { depth = d; recording = f.recording; objects = f.objects; bases = f.bases; ids = f.ids; buffs = f.buffs; asks = f.asks }

-- a world with another room, and all else as it is
abbrev pub with_room : ℕ → World → World
with_room n w = record { book = w.book; rows = w.rows; states = w.states; recording = w.recording; room = n }
