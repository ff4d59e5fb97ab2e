-- A text at the front of lent bytes, and zeros behind it: what a caller gets back.
use Prim.Native.Nat.{ℕ, ◌-◌}
use mathlib.Core.Path.{◌≡◌, sym, ap, ◌∙◌}
use mathlib.Core.List.{List, ◌++◌, map}
use lib.ListN.{length, replicate}
use lib.Seq.{length-take-le}
use Rattle.laws.specs.Columns.{column}
use Rattle.laws.proofs.Maps.{map_itself}
use Rattle.clear.specs.Ends.{cleared}
use Rattle.listing.specs.Put.{Begins}

module _ {now bytes : List ℕ} {end : ℕ} (b : Begins now end bytes) where
  -- where it ends
  pub begins_long : end ≡ length bytes
  begins_long = sym (length-take-le end now b.inside) ∙ ap length b.first

  pub cleared-behind : cleared 0 end now ≡ column (λ x. x) 0 bytes (length now)
  unfolding cleared column
  cleared-behind =
      ap (λ (l : List ℕ). l ++ replicate (length now - end) 0) (b.first ∙ sym (map_itself bytes))
      ∙ ap (λ (k : ℕ). map (λ x. x) bytes ++ replicate (length now - k) 0) begins_long
