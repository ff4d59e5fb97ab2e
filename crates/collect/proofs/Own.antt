-- An object's effects in one loop: its own type's, and its base's that the type lacks.
use mathlib.Core.Path.{◌≡◌, sym, ap, ◌∙◌}
use mathlib.Core.Bool.{cond}
use mathlib.Core.List.{List, []}
use Rattle.laws.specs.Lists.{keep, flat}
use Rattle.laws.proofs.Flat.{flat_keep, flat_map}
use Rattle.rules.specs.Sheet.{Book, Fit}
use Rattle.rules.specs.Info.{get_dogma_effects}
use Rattle.rules.specs.Item.{mutated}
use Rattle.rules.specs.Collect.{effect_moves, own_moves}
use Rattle.rules.specs.declared.Item.{Item}
use Rattle.rules.specs.declared.TypeDogmaEffect.{TypeDogmaEffect}
use Rattle.states.specs.Raised.{turns_of}
use Rattle.states.proofs.Raising.{is_meant, effect_of, turns_are}
use Rattle.collect.specs.New.{turn_moves}

module _ (k : Book) (f : Fit) (o : Item) {own base : List TypeDogmaEffect} (p : get_dogma_effects k o.type_id ≡ own) (q : cond (mutated o) (get_dogma_effects k o.mutation_base) [] ≡ base) where
  pub own_turns : flat (turn_moves k f o) (turns_of own base) ≡ own_moves k f o
  unfolding own_moves
  own_turns =
      sym (flat_keep (λ x. effect_moves k f o x.effect) is_meant (turns_of own base))
      ∙ sym (flat_map (effect_moves k f o) effect_of (keep is_meant (turns_of own base)))
      ∙ ap (flat (effect_moves k f o)) (turns_are k o p q)
