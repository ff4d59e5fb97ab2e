-- What an operator has made of its unpenalised values so far, and copies one after another. Definitions only.
use Rattle.std.specs.Prelude.{ℕ, zero, suc, ◌+◌, ◌≡◌, Bool, true, false, cond, List, [], ◌∷◌, ◌++◌, T, pos, Float, Some}
use Rattle.std.specs.Float.{binary64}
use Rattle.std.specs.Float.Ieee.{lt, of_int}
use Rattle.laws.specs.Floats.{finite, one_f}
use Rattle.rules.specs.Number.{plus, times, power, ◌>>=◌}
use Rattle.rules.specs.Operate.{Stack, Copy, Values, assigned, added, multiplied}
use Rattle.rules.specs.Number.{Step}
use Rattle.rules.specs.declared.EffectOperator.{EffectOperator}
use Rattle.rules.specs.declared.EffectOperator.TheVariants.{PreAssign, PreMul, PreDiv, ModAdd, ModSub, PostMul, PostDiv, PostPercent, PostAssign}
use Rattle.operate.specs.Held.{copy}
use Rattle.operate.specs.declared.Running.{Running}

-- the unpenalised values alone, applied
abbrev pub plainly : Bool → EffectOperator → Float → List Stack → Step
plainly high PreAssign v l = Some (assigned high v l)
plainly high PreMul v l = multiplied v l
plainly high PreDiv v l = multiplied v l
plainly high ModAdd v l = added v l
plainly high ModSub v l = added v l
plainly high PostMul v l = multiplied v l
plainly high PostDiv v l = multiplied v l
plainly high PostPercent v l = multiplied v l
plainly high PostAssign v l = Some (assigned high v l)

abbrev pub any? : List Stack → Bool
any? [] = false
any? (x ∷ l) = true

-- r is what the values l, in their order, have made of v; a value that it has is finite
pub record RunningOf (high : Bool) (op : EffectOperator) (v : Float) (l : List Stack) (r : Running) : Type 0 where
  pub step : r.value ≡ plainly high op v l
  pub any : r.any ≡ any? l
  pub good : (x : Float) → r.value ≡ Some x → T (finite x)

-- ---- one value more

-- the last of equal greatest, or the first of equal least
abbrev pub better : Bool → Float → Float → Float
better true best x = cond (lt x best) best x
better false best x = cond (lt x best) x best

-- the first that is assigned stands for itself
abbrev pub chosen_of : Bool → Bool → Step → Float → Step
chosen_of high true best x = best >>= λ b. Some (better high b x)
chosen_of high false best x = Some x

abbrev pub added_one : Float → Float → ℕ → Step
added_one v x n = times x (of_int binary64 (pos n)) >>= λ y. plus v y

abbrev pub multiplied_one : Float → Float → ℕ → Step
multiplied_one v x n = plus one_f x >>= λ y. power y n >>= λ z. times v z

abbrev pub plainly_one : Bool → EffectOperator → Running → Float → ℕ → Step
plainly_one high PreAssign r x n = chosen_of high r.any (r.value) x
plainly_one high PreMul r x n = r.value >>= λ v. multiplied_one v x n
plainly_one high PreDiv r x n = r.value >>= λ v. multiplied_one v x n
plainly_one high ModAdd r x n = r.value >>= λ v. added_one v x n
plainly_one high ModSub r x n = r.value >>= λ v. added_one v x n
plainly_one high PostMul r x n = r.value >>= λ v. multiplied_one v x n
plainly_one high PostDiv r x n = r.value >>= λ v. multiplied_one v x n
plainly_one high PostPercent r x n = r.value >>= λ v. multiplied_one v x n
plainly_one high PostAssign r x n = chosen_of high r.any (r.value) x

-- ---- copies

-- n copies of x, whose source rows are first, first + step, ..
abbrev pub copies_from : Float → ℕ → ℕ → ℕ → List Copy
copies_from x first step zero = []
copies_from x first step (suc n) = copy x first ∷ copies_from x (first + step) step n

-- copies that came one after another, all of one sign
abbrev pub with_copies : Bool → List Copy → Values → Values
with_copies true xs g = record { unpenalized = g.unpenalized; positive = g.positive; negative = g.negative ++ xs }
with_copies false xs g = record { unpenalized = g.unpenalized; positive = g.positive ++ xs; negative = g.negative }
