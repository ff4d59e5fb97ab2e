-- Numbers on a line of text, one after another from its front. Definitions only.
use Rattle.std.specs.Prelude.{ℕ, zero, suc, ◌+◌, ◌*◌, ◌-◌, Bool, true, false, ◌&&◌, cond, List, [], ◌∷◌, leb, ltb, eqb, length}
use Rattle.std.proofs.Math.Option.{Option, none, some}

-- a value, and the text behind it
pub record Cut : Type 0 where
  pub value : ℕ
  pub rest : List ℕ

-- one thing after another, if each is there
infixl 10 ◌>>=◌
abbrev pub ◌>>=◌ : {A B : Type 0} → Option A → (A → Option B) → Option B
◌>>=◌ none f = none
◌>>=◌ (some a) f = f a

-- where a test passes
abbrev pub only : {A : Type 0} → Bool → A → Option A
only true x = some x
only false x = none

-- a digit's value, hexadecimal ones of either case; 16 for any other byte
abbrev pub digit : ℕ → ℕ
digit c = cond (leb 48 c && leb c 57) (c - 48) (cond (leb 97 c && leb c 102) (c - 87) (cond (leb 65 c && leb c 70) (c - 55) 16))

-- so many digits at most, as far as there are digits of the base
unfoldable pub digits : ℕ → ℕ → ℕ → List ℕ → Cut
digits base zero v xs = record { value = v; rest = xs }
digits base (suc n) v [] = record { value = v; rest = [] }
digits base (suc n) v (c ∷ xs) = elim (ltb (digit c) base) [
  | true ↦ digits base n (v * base + digit c) xs
  | false ↦ record { value = v; rest = c ∷ xs }
]

-- the text begins with a byte
abbrev pub begins : ℕ → List ℕ → Bool
begins b [] = false
begins b (c ∷ xs) = eqb c b

abbrev pub after : List ℕ → List ℕ
after [] = []
after (c ∷ xs) = xs

-- one to ten decimal digits and a space, up to a greatest number
unfoldable pub natural : ℕ → List ℕ → Option Cut
natural most xs =
    let d = digits 10 10 0 xs in
    only (ltb (length d.rest) (length xs) && (leb d.value most && begins 32 d.rest)) (record { value = d.value; rest = after d.rest })

-- "object": a number of 32 bits, and a space
abbrev pub object_in : List ℕ → Option Cut
object_in xs = natural 4294967295 xs

-- the 32 bits of a number that is so far below 0
abbrev pub negated : ℕ → ℕ
negated n = cond (eqb n 0) 0 (4294967296 - n)

-- "attribute", "id": the 32 bits of a signed number, a minus before it where it is below 0, and a space
unfoldable pub id_in : List ℕ → Option Cut
id_in xs = elim (begins 45 xs) [
  | true ↦ (natural 2147483648 (after xs) >>= λ c. some (record { value = negated c.value; rest = c.rest }))
  | false ↦ natural 2147483647 xs
]

-- "the float's 64 bits": half of them, eight hexadecimal digits
unfoldable pub half_in : List ℕ → Option Cut
half_in xs = let d = digits 16 8 0 xs in only (eqb (length d.rest + 8) (length xs)) d
