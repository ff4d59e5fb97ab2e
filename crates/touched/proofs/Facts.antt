-- Whom each kind of modifier names, by its target, a sentence each: what docs/TOUCHED.md cites.
use Prim.Native.Nat.{ℕ}
use mathlib.Core.Path.{◌≡◌, refl, ap}
use mathlib.Core.Bool.{Bool, true, false, ◌&&◌, ◌||◌, cond}
use borrow.Author.Tests.{eqb-true}
use lib.Dec.{eqb}
use lib.IntN.{ℤ, negsuc}
use Rattle.laws.specs.Lists.{eq_z, some?}
use Rattle.laws.proofs.Bools.{both_ways}
use Rattle.rules.specs.Sheet.{Book, Fit}
use Rattle.rules.specs.Item.{object, is_ship, is_mode, is_char, is_item, is_charge, is_skill, is_projected, is_on_char}
use Rattle.rules.specs.declared.Item.{Item}
use Rattle.rules.specs.declared.Modifier.TheVariants.{LocationRequiredSkillModifier, LocationGroupModifier, LocationModifier, OwnerRequiredSkillModifier, ItemModifier}
use Rattle.rules.specs.declared.Pass2Effect.{Pass2Effect}
use Rattle.touched.specs.Named.{in_ship, on_char, owned, skills_of, needs, located, type_of, named}

ship_no_char : (o : Item) → is_ship o ≡ true → is_char o ≡ false
ship_no_char o h = ap (λ (n : ℕ). eqb n 2) (eqb-true o.kind 0 h)

char_no_ship : (o : Item) → is_char o ≡ true → is_ship o ≡ false
char_no_ship o h = ap (λ (n : ℕ). eqb n 0) (eqb-true o.kind 2 h)

module _ (k : Book) (f : Fit) (t : Pass2Effect) (o : Item) where
  -- ItemModifier: the target alone, whatever it is
  pub any_item : t.modifier ≡ ItemModifier → named k f t o ≡ eqb o.number t.target
  unfolding named
  any_item e = rw e refl

  -- LocationModifier: the ship, each item in the ship and each such item's charge
  pub ship_location : t.modifier ≡ LocationModifier → is_ship (object f t.target) ≡ true → named k f t o ≡ is_ship o || in_ship k f o
  unfolding named
  ship_location e h = rw (e, h) refl

  -- the char, each skill and each item on the char
  pub char_location_lem : t.modifier ≡ LocationModifier → is_char (object f t.target) ≡ true → named k f t o ≡ is_char o || is_skill o || is_item o && is_on_char o
  unfolding named
  char_location_lem e h = rw (e, char_no_ship (object f t.target) h, h) refl

  -- the target alone
  pub alone_location : t.modifier ≡ LocationModifier → is_ship (object f t.target) ≡ false → is_char (object f t.target) ≡ false → named k f t o ≡ eqb o.number t.target
  unfolding named
  alone_location e h c = rw (e, h, c) refl

  -- LocationGroupModifier: of these, those of the group
  pub ship_group : (g : ℤ) → t.modifier ≡ LocationGroupModifier g → is_ship (object f t.target) ≡ true → named k f t o ≡ (is_ship o || in_ship k f o) && eq_z o.group_id g
  unfolding named
  ship_group g e h = rw (e, h) refl

  pub char_group : (g : ℤ) → t.modifier ≡ LocationGroupModifier g → is_char (object f t.target) ≡ true → named k f t o ≡ (is_char o || is_skill o || is_item o && is_on_char o) && eq_z o.group_id g
  unfolding named
  char_group g e h = rw (e, char_no_ship (object f t.target) h, h) refl

  pub alone_group : (g : ℤ) → t.modifier ≡ LocationGroupModifier g → is_ship (object f t.target) ≡ false → is_char (object f t.target) ≡ false → named k f t o ≡ eqb o.number t.target && eq_z o.group_id g
  unfolding named
  alone_group g e h c = rw (e, h, c) refl

  -- LocationRequiredSkillModifier: each item in the ship and each such item's charge that requires the skill
  pub ship_skill : (s : ℤ) → t.modifier ≡ LocationRequiredSkillModifier s → is_ship (object f t.target) ≡ true → named k f t o ≡ in_ship k f o && needs k f (type_of k f t.origin) s o
  unfolding named
  ship_skill s e h = rw (e, ship_no_char (object f t.target) h) refl

  -- each item on the char and each such item's charge that requires it
  pub char_skill : (s : ℤ) → t.modifier ≡ LocationRequiredSkillModifier s → is_char (object f t.target) ≡ true → named k f t o ≡ on_char k f o && needs k f (type_of k f t.origin) s o
  unfolding named
  char_skill s e h = rw (e, h) refl

  -- any other target: as the ship
  pub alone_skill : (s : ℤ) → t.modifier ≡ LocationRequiredSkillModifier s → is_char (object f t.target) ≡ false → named k f t o ≡ in_ship k f o && needs k f (type_of k f t.origin) s o
  unfolding named
  alone_skill s e h = rw (e, h) refl

  -- OwnerRequiredSkillModifier: drones, fighters and every charge that require the skill, whatever the target
  pub any_owner : (s : ℤ) → t.modifier ≡ OwnerRequiredSkillModifier s → named k f t o ≡ owned k f o && needs k f (type_of k f t.origin) s o
  unfolding named
  any_owner s e = rw e refl

  -- ---- who is never named

  -- by the location of ship or char: the mode and projected objects
  pub mode_not_located : (target : ℕ) → is_ship (object f target) || is_char (object f target) ≡ true → is_mode o ≡ true → located k f target o ≡ false
  mode_not_located target h e = by (is_ship (object f target)) (is_char (object f target)) h (eqb-true o.kind 1 e)
    where
      by : (s c : Bool) → s || c ≡ true → o.kind ≡ 1 → cond s (is_ship o || in_ship k f o) (cond c (is_char o || is_skill o || is_item o && is_on_char o) (eqb o.number target)) ≡ false
      by true c h q = rw q refl
      by false true h q = rw q refl
      by false false h q = both_ways h refl

  pub projected_not_located : (target : ℕ) → is_ship (object f target) || is_char (object f target) ≡ true → is_projected o ≡ true → located k f target o ≡ false
  projected_not_located target h e = by (is_ship (object f target)) (is_char (object f target)) h (eqb-true o.kind 6 e)
    where
      by : (s c : Bool) → s || c ≡ true → o.kind ≡ 6 → cond s (is_ship o || in_ship k f o) (cond c (is_char o || is_skill o || is_item o && is_on_char o) (eqb o.number target)) ≡ false
      by true c h q = rw q refl
      by false true h q = rw q refl
      by false false h q = both_ways h refl

  -- by a skill: what is neither item nor charge
  pub not_skilled : (s : ℤ) → t.modifier ≡ LocationRequiredSkillModifier s → is_item o ≡ false → is_charge o ≡ false → named k f t o ≡ false
  unfolding named
  not_skilled s e h c = rw (e, h, c) (by (is_char (object f t.target)))
    where
      by : (b : Bool) → cond b false false && needs k f (type_of k f t.origin) s o ≡ false
      by true = refl
      by false = refl

  pub not-owned : (s : ℤ) → t.modifier ≡ OwnerRequiredSkillModifier s → is_item o ≡ false → is_charge o ≡ false → named k f t o ≡ false
  unfolding named
  not-owned s e h c = rw (e, h, c) refl

  -- skill -1 is the type of the source, where it is given at all
  pub own_skill : (type : ℤ) → needs k f type (negsuc 0) o ≡ some? (λ x. eq_z x type) (skills_of k f o)
  own_skill type = refl
