-- M-105: an organiser's lines, and what a fit has of what they count. Definitions only.
use Rattle.std.specs.Prelude.{ℕ, ◌+◌, ◌*◌, Bool, ◌&&◌, ◌||◌, List, [], ◌∷◌, get_or, ℤ, eqb, ltb}
use Rattle.std.proofs.Math.Option.{Option, none, some}
use Rattle.std.specs.Int.Signed.{lt_z}
use Rattle.laws.specs.Lists.{eq_z, keep, first}
use Rattle.rules.specs.Bytes.{signed}
use Rattle.rules.specs.Sheet.{Book, Fit}
use Rattle.rules.specs.Item.{is_item, is_calculated}
use Rattle.rules.specs.declared.Item.{Item}

-- "Lines (kind, id, number)": 0 points per type, 1 most pieces per group, 2 forbidden group, 3 total
pub record Line : Type 0 where
  pub kind : ℕ
  pub id : ℤ
  pub number : ℕ

abbrev pub line_of : List ℕ → Line
line_of r = record { kind = get_or r 0 0; id = signed (get_or r 1 0); number = get_or r 2 0 }

-- "ascend strictly by kind .. and id"
abbrev pub rises : Line → Line → Bool
rises a b = ltb a.kind b.kind || (eqb a.kind b.kind && lt_z a.id b.id)

-- "counting calculated items .., never charges or skills"
abbrev pub counts : Book → Item → Bool
counts k o = is_item o && is_calculated k o

abbrev pub counted : Book → Fit → List Item
counted k f = keep (counts k) f.objects

abbrev pub total : (Item → ℕ) → List Item → ℕ
total f [] = 0
total f (o ∷ r) = f o + total f r

-- "by quantity"
abbrev pub pieces : List Item → ℤ → ℕ
pieces os g = total (λ o. o.quantity) (keep (λ o. eq_z o.group_id g) os)

-- "A type without a line costs 0"
abbrev pub number_or0 : Option Line → ℕ
number_or0 none = 0
number_or0 (some l) = l.number

abbrev pub is_price_of : ℤ → Line → Bool
is_price_of t l = eqb l.kind 0 && eq_z l.id t

abbrev pub points_of : List Line → ℤ → ℕ
points_of ls t = number_or0 (first (is_price_of t) ls)

abbrev pub points : List Line → List Item → ℕ
points ls os = total (λ o. o.quantity * points_of ls o.type_id) os
