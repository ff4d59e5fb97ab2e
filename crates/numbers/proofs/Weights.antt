-- The table of weights: one computed test holds it to the definition.
use Rattle.std.proofs.Common.{◌≡◌, ℕ, zero, suc, ◌+◌, ◌<◌, ◌≤◌, List, [], ◌∷◌, map, get_or, sym, refl, ap, ◌∙◌, add-zero, zero-add, arith, le-ltb}
use lib.Ieee
use lib.Ieee.{Float, nan, binary64, of_bits}
use Rattle.laws.specs.Floats.{zero_f}
use Rattle.laws.specs.Lists.{from}
use Rattle.rules.specs.Number.{step, ◌>>=◌, times_if, power_from, power, weight}

abbrev pub weights : List Float
weights =
    of_bits binary64 0x3ff0_0000_0000_0000
    ∷ of_bits binary64 0x3feb_cfd4_b4ba_cfb5
    ∷ of_bits binary64 0x3fe2_4237_94a0_daf8
    ∷ of_bits binary64 0x3fd2_1bef_ef30_ee5c
    ∷ of_bits binary64 0x3fbb_2255_9442_e464
    ∷ of_bits binary64 0x3f9e_b601_1db7_a20b
    ∷ of_bits binary64 0x3f7a_4190_6d9e_6c77
    ∷ of_bits binary64 0x3f50_f4c5_6821_236b
    ∷ []

table : weights ≡ map weight (from 0 8)
unfolding weight power power_from ◌>>=◌ times_if step Ieee.mul Ieee.of_bits
table = refl

at : (f : ℕ → Float) (a n p : ℕ) → p < n → get_or (map f (from a n)) p nan ≡ f (a + p)
at f a zero p h = absurd (omega arith)
at f a (suc n) zero h = ap f (sym (add-zero a))
at f a (suc n) (suc p) h = at f (suc a) n p (omega arith) ∙ ap f (omega arith)

pub weighs : (p : ℕ) → p < 8 → get_or weights p nan ≡ weight p
weighs p h = ap (λ (l : List Float). get_or l p nan) table ∙ at weight 0 8 p h ∙ ap weight (zero-add p)

pub past : (p : ℕ) → 8 ≤ p → zero_f ≡ weight p
unfolding weight
past p h = rw (le-ltb p 8 h, weight)
