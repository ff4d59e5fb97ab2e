-- Bytes put into a text that was lent, and the place after them.
use Rattle.std.specs.Prelude.{ℕ, ◌+◌, ◌≤◌, ◌≡◌, List, [], ◌∷◌, length, set, take}
use Rattle.std.specs.Borrow.{MutBor}
use denote.Triple.Both.{Both}

-- a place, and the text as it is then
pub data Put : Type 0 where
  put : ℕ → List ℕ → Put

-- bytes from the place on, one after another
unfoldable pub puts : List ℕ → Put → Put
puts [] s = s
puts (x ∷ xs) (put at out) = puts xs (put (at + 1) (set out at x))

-- a call put these bytes into a lent text at a place, and gives the place after them
abbrev pub Added : Both (MutBor (List ℕ)) (MutBor (List ℕ)) → ℕ → ℕ → List ℕ → Type 0
Added out at r bytes = put r out.exit.now ≡ puts bytes (put at out.entry.now)

-- a text begins with these bytes, which end at a place inside it
pub record Begins (text : List ℕ) (end : ℕ) (bytes : List ℕ) : Type 0 where
  pub first : take end text ≡ bytes
  pub inside : end ≤ length text
