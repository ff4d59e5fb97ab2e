-- The columns that the code makes of an object are those of the definition.
use Prim.Native.Nat.{ℕ, ◌-◌}
use mathlib.Core.Path.{◌≡◌, refl, sym, ap, ◌∙◌}
use mathlib.Core.Bool.{Bool, true, false, ◌&&◌, ◌||◌, cond}
use mathlib.Core.List.{[], ◌∷◌}
use lib.Dec.{eqb}
use borrow.Author.Tests.{eq-eqb, ne_eqb}
use Rattle.rules.specs.Bytes.{bits}
use Rattle.rules.specs.Sheet.{Book, Fit}
use Rattle.rules.specs.Item.{object, item_of, is_ship, is_char, is_item, is_charge, is_skill, is_in_ship, is_on_char, is_owner_modifiable}
use Rattle.rules.specs.Dispatch.{carrier}
use Rattle.rules.specs.Columns.{yes1}
use Rattle.rules.specs.declared.Item.{Item}
use Rattle.info.specs.Stands.{is_fitted}
use Rattle.hits.specs.Reach.{reach_of}

eight : {a b c d e f g h a' b' c' d' e' f' g' h' : ℕ} → a ≡ a' → b ≡ b' → c ≡ c' → d ≡ d' → e ≡ e' → f ≡ f' → g ≡ g' → h ≡ h' → a ∷ b ∷ c ∷ d ∷ e ∷ f ∷ g ∷ h ∷ [] ≡ a' ∷ b' ∷ c' ∷ d' ∷ e' ∷ f' ∷ g' ∷ h' ∷ []
eight p q r s t u v w = rw (p, q, r, s, t, u, v, w) refl

-- s, i, n, w are what the code finds: in the ship, on the char, itself on the char, owner modifiable
pub columns_are : (k : Book) (f : Fit) (o : Item) {c : Item} {s i n w : Bool} {x₀ x₁ x₂ x₃ x₄ x₅ x₇ : ℕ} → c ≡ carrier f o → s ≡ is_in_ship k c → i ≡ is_on_char c → n ≡ is_on_char o → w ≡ is_owner_modifiable o → x₀ ≡ yes1 (is_ship o || is_fitted o && s) → x₁ ≡ yes1 (is_char o || is_skill o) → x₂ ≡ yes1 (is_item o && n) → x₃ ≡ yes1 (is_fitted o && s) → x₄ ≡ yes1 (is_fitted o && i) → x₅ ≡ yes1 (is_charge o || is_item o && w) → x₇ ≡ bits o.group_id → x₀ ∷ x₁ ∷ x₂ ∷ x₃ ∷ x₄ ∷ x₅ ∷ 1 ∷ x₇ ∷ [] ≡ reach_of k f o
unfolding reach_of
columns_are k f o e s i n w p₀ p₁ p₂ p₃ p₄ p₅ p₇ =
    eight
    (p₀ ∙ ap (λ (b : Bool). yes1 (is_ship o || is_fitted o && b)) (s ∙ ap (is_in_ship k) e))
    p₁
    (p₂ ∙ ap (λ (b : Bool). yes1 (is_item o && b)) n)
    (p₃ ∙ ap (λ (b : Bool). yes1 (is_fitted o && b)) (s ∙ ap (is_in_ship k) e))
    (p₄ ∙ ap (λ (b : Bool). yes1 (is_fitted o && b)) (i ∙ ap is_on_char e))
    (p₅ ∙ ap (λ (b : Bool). yes1 (is_charge o || is_item o && b)) w)
    refl
    p₇

-- the item that an object goes by
module _ (f : Fit) (i : ℕ) {o : Item} (e : o ≡ object f i) where
  pub is_charge_lem : o.kind ≡ 4 → is_charge (object f i) ≡ true
  is_charge_lem h = ap (λ (x : Item). eqb x.kind 4) (sym e) ∙ eq-eqb o.kind 4 h

  no_charge : (o.kind ≡ 4 → ⊥) → is_charge (object f i) ≡ false
  no_charge n = ap (λ (x : Item). eqb x.kind 4) (sym e) ∙ ne_eqb o.kind 4 n

  pub carrier_charge : {r : Item} → (object f i).number ≡ i → o.kind ≡ 4 → r ≡ object f (i - 1) → r ≡ carrier f (object f i)
  carrier_charge n h r =
      r ∙ ap (λ (m : ℕ). object f (m - 1)) (sym n)
      ∙ sym (ap (λ (b : Bool). cond b (item_of f (object f i)) (object f i)) (is_charge_lem h))

  pub carrier_itself : (o.kind ≡ 4 → ⊥) → o ≡ carrier f (object f i)
  carrier_itself n = e ∙ sym (ap (λ (b : Bool). cond b (item_of f (object f i)) (object f i)) (no_charge n))
