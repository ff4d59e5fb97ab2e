-- `fit_tables::finite_at` meets its contract.
use Rattle.shape.proofs.fit_tables.finite_at.Goals as goal
use Rattle.shape.proofs.fit_tables.finite_at.Reads as reads
use Rattle.shape.proofs.fit_tables.finite_at.Lts as lts
use Rattle.info.proofs.little_endian.u32_at.Reads as u32-at-reads
use Prim.Native.Nat.{ℕ, ◌+◌, ◌*◌, ◌%◌, ◌^◌}
use native.Mathlib.Omega.{arith}
use mathlib.Core.Path.{◌≡◌, refl, sym, ap, ◌∙◌}
use lib.Dec.{ltb}
use Rattle.rules.specs.Bytes.{u32_at}
use Rattle.shape.proofs.FiniteBits.{bits-finite}

pub returns : goal.returns
returns c = let n : c.u32_at-low.result + 4294967296 * c.u32_at-high.result ≡ u32_at c.args.b.now c.args.at + 2 ^ 32 * u32_at c.args.b.now (c.args.at + 4) = omega (arith, c.u32_at-low.ensures.defined, c.u32_at-high.ensures.defined) in
    record { defined = ap (λ (m : ℕ). ltb (m % 9223372036854775808) 9218868437227405312) n ∙ sym (bits-finite _) }
