-- `look_ups::run_end` meets its contract. Every key passed is the one sought. The measure is what is left. Assumes nothing.
use Rattle.info.specs.LookUps.{RunTo}
use Rattle.info.proofs.look_ups.run_end.Goals as goal
use Prim.Native.Nat.{ℕ}
use native.Mathlib.Omega.{arith}
use mathlib.Core.Path.{◌≡◌, sym, subst}
use mathlib.Core.Bool.{true}
use Rattle.laws.specs.Lists.{eq_z}
use Rattle.info.specs.LookUps.{key_at}
use lib.IntN.{ℤ}
use borrow.Author.Rules.{sfits_of}
use mir.Syntax.{w32}
use mir.ValLaws.{to_z-of_z}
use Rattle.info.proofs.Searches.{Walk, walk_start, walk_more, walk-back, walked, key_inside, key_same, key_apart}

pub loop-end-init : goal.loop-end-init
loop-end-init c = subst (λ (z : ℤ). Walk c.args.b.now c.args.at c.args.w c.args.n z c.args.low c.args.low) (sym (to_z-of_z w32 c.args.id c.ranges.id)) (walk_start c.args.b.now c.args.at c.args.w c.args.n c.args.id c.requires.keyed c.requires.from_the_first)

pub key_at-key-requires : goal.key_at-key-requires
key_at-key-requires c = record { inside = key_inside _ _ _ _ c.requires.keyed _ c.loop-end-test.true }

pub returns-then-key-id : goal.returns-then-key-id
returns-then-key-id c = record { defined = walked c.args.b.now c.args.at c.args.w c.args.n c.args.id c.requires.keyed c.requires.from_the_first (walk-back c.args.b.now c.args.at c.args.w c.args.n c.args.id c.ranges.id c.loop-end.invariant) (λ l. key_apart (sfits_of c.key_at-key.type_inv) c.key_at-key.ensures.defined _ c.ranges.id c.if-key-id.true) }

pub loop-end-preserved : goal.loop-end-preserved
loop-end-preserved c = walk_more c.loop-end.invariant c.loop-end-test.true (subst (λ (z : ℤ). eq_z (key_at c.args.b.now c.args.at c.args.w c.loop-end.end) z ≡ true) (sym (to_z-of_z w32 c.args.id c.ranges.id)) (key_same (sfits_of c.key_at-key.type_inv) c.key_at-key.ensures.defined _ c.ranges.id c.if-key-id.false))

pub returns : goal.returns
returns c = let e : c.loop-end.end ≡ c.args.n = omega (arith, c.loop-end-test.false, c.loop-end.invariant.inside) in record { defined = subst (λ (x : ℕ). RunTo c.args.b.now c.args.at c.args.w c.args.n c.args.id c.args.low x) e (walked c.args.b.now c.args.at c.args.w c.args.n c.args.id c.requires.keyed c.requires.from_the_first (walk-back c.args.b.now c.args.at c.args.w c.args.n c.args.id c.ranges.id c.loop-end.invariant) (λ l. absurd (omega (arith, c.loop-end-test.false)))) }
