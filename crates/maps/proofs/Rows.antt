-- The keys of an object, in a row of seven.
use Prim.Native.Nat.{ℕ, zero, suc, ◌+◌, ◌≤◌, ◌<◌}
use native.Mathlib.Omega.{arith}
use mathlib.Core.Path.{◌≡◌, sym, ap, subst, ◌∙◌}
use mathlib.Core.Bool.{Bool, true, false, cond}
use mathlib.Core.List.{List, [], ◌∷◌, ◌++◌, map}
use mathlib.Core.Option.{Option, none, some}
use lib.IntN.{ℤ}
use lib.Ieee.Casts.{to_signed_in}
use lib.ListN.{get_or, replicate}
use mir.Syntax.{w32}
use mir.ValLaws.{of_z_fits}
use Rattle.rules.specs.Bytes.{bits}
use Rattle.rules.specs.Constants.{attribute_skills}
use Rattle.rules.specs.Number.{cut}
use Rattle.rules.specs.Sheet.{Fit}
use Rattle.rules.specs.Info.{get_base}
use Rattle.rules.specs.declared.Item.{Item}
use Rattle.rules.specs.declared.BaseAttribute.{BaseAttribute}
use Rattle.info.specs.Stands.{is_fitted}
use Rattle.hits.specs.Reach.{no_skill, skill_bits, required_bits}
use Rattle.maps.specs.Keys.{group_key, key_row}

skill_small : (o : Option BaseAttribute) → skill_bits o ≤ 4294967296
skill_small none = omega arith
skill_small (some r) = omega (arith, (of_z_fits w32 (cut r.value) (record { sfits = to_signed_in 31 r.value })).fits)

skills_in : (f : Fit) (o : Item) (is : List ℤ) (k : ℕ) → get_or (map (λ a. skill_bits (get_base f o a)) is) k 0 ≤ 4294967296
skills_in f o [] k = omega arith
skills_in f o (a ∷ is) zero = skill_small (get_base f o a)
skills_in f o (a ∷ is) (suc k) = skills_in f o is k

module _ (f : Fit) (o : Item) where
  pub skills_small : {s : List ℕ} → s ≡ required_bits f o → (k : ℕ) → get_or s k 0 ≤ 4294967296
  unfolding required_bits
  skills_small e k = subst (λ (l : List ℕ). get_or l k 0 ≤ 4294967296) (sym e) (skills_in f o attribute_skills k)

  abbrev seven : List ℕ → ℕ → List ℕ
  seven s own = get_or s 0 0 ∷ get_or s 1 0 ∷ get_or s 2 0 ∷ get_or s 3 0 ∷ get_or s 4 0 ∷ get_or s 5 0 ∷ own ∷ []

  pub row-fitted : {s : List ℕ} {g own : ℕ} → s ≡ required_bits f o → is_fitted o ≡ true → own ≡ group_key g → g ≡ bits o.group_id → seven s own ≡ key_row f o
  unfolding key_row required_bits
  row-fitted {s} {g} {own} e t n q =
      ap (λ (l : List ℕ). seven l own) e ∙ ap (seven (required_bits f o)) (n ∙ ap group_key q)
      ∙ ap (λ (b : Bool). cond b (required_bits f o) (replicate 6 no_skill) ++ (group_key (bits o.group_id) ∷ [])) (sym t)

  pub row_other : {g own : ℕ} → is_fitted o ≡ false → own ≡ group_key g → g ≡ bits o.group_id → replicate 6 4294967296 ++ (own ∷ []) ≡ key_row f o
  unfolding key_row
  row_other {g} {own} t n q =
      ap (λ (x : ℕ). replicate 6 4294967296 ++ (x ∷ [])) (n ∙ ap group_key q)
      ∙ ap (λ (b : Bool). cond b (required_bits f o) (replicate 6 no_skill) ++ (group_key (bits o.group_id) ∷ [])) (sym t)

-- a group's key is small
pub small_key : (g : ℕ) → g < 4294967296 → 4294967297 + g < 17179869184
small_key g h = omega (arith, h)

-- each of seven numbers is small
pub seven_small : (a b c d e g own : ℕ) → a ≤ 4294967296 → b ≤ 4294967296 → c ≤ 4294967296 → d ≤ 4294967296 → e ≤ 4294967296 → g ≤ 4294967296 → own < 17179869184 → (k : ℕ) → k < 7 → get_or (a ∷ b ∷ c ∷ d ∷ e ∷ g ∷ own ∷ []) k 0 < 17179869184
seven_small a b c d e g own ha hb hc hd he hg ho zero h = omega (arith, ha)
seven_small a b c d e g own ha hb hc hd he hg ho (suc zero) h = omega (arith, hb)
seven_small a b c d e g own ha hb hc hd he hg ho (suc (suc zero)) h = omega (arith, hc)
seven_small a b c d e g own ha hb hc hd he hg ho (suc (suc (suc zero))) h = omega (arith, hd)
seven_small a b c d e g own ha hb hc hd he hg ho (suc (suc (suc (suc zero)))) h = omega (arith, he)
seven_small a b c d e g own ha hb hc hd he hg ho (suc (suc (suc (suc (suc zero))))) h = omega (arith, hg)
seven_small a b c d e g own ha hb hc hd he hg ho (suc (suc (suc (suc (suc (suc zero)))))) h = ho
seven_small a b c d e g own ha hb hc hd he hg ho (suc (suc (suc (suc (suc (suc (suc k))))))) h = absurd (omega (arith, h))
