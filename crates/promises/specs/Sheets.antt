-- The same sheet with at least the depth, or with other asks, depth and recording.
use Rattle.std.specs.Prelude.{ℕ, ◌-◌, ◌≤◌, ◌≡◌, List, length, take, drop}
use Rattle.laws.specs.Lists.{span}
use Rattle.rules.specs.Bytes.{u32_at}

-- c is b but for the depth, bytes 92 to 95, which is within its bounds in both
pub record Deeper (b c : List ℕ) : Type 0 where
  pub front : take 92 c ≡ take 92 b
  pub back : drop 96 c ≡ drop 96 b
  pub long : length c ≡ length b
  pub least : 1 ≤ u32_at b 92
  pub more : u32_at b 92 ≤ u32_at c 92
  pub most : u32_at c 92 ≤ 256

-- c is b but for depth and recording, bytes 92 to 99, and the asks: their count, bytes 72 to 75, and table 10, which stands last and
-- begins where bytes 76 to 79 say
pub record Asking (b c : List ℕ) : Type 0 where
  pub front : take 72 c ≡ take 72 b
  pub header : span 76 16 c ≡ span 76 16 b
  pub tables : take (u32_at b 76 - 100) (drop 100 c) ≡ take (u32_at b 76 - 100) (drop 100 b)
