-- An operator that no entry of a row has is passed over: it gathers nothing and changes nothing.
use Rattle.std.specs.Prelude.{Some}
use Prim.Native.Nat.{ℕ}
use mathlib.Core.Path.{◌≡◌, refl, ap, ◌∙◌}
use mathlib.Core.Bool.{Bool, false}
use mathlib.Core.List.{List, [], ◌∷◌}
use lib.Seq.{set-get_or}
use Rattle.laws.specs.Lists.{some?}
use Rattle.laws.proofs.Bools.{or_false_left, or_false_right}
use Rattle.rules.specs.Answer.{Res, ok, ◌>>=◌}
use Rattle.rules.specs.Codes.{same_operator}
use Rattle.rules.specs.Info.{get_dogma_attribute, high_is_good}
use Rattle.rules.specs.Number.{number_at}
use Rattle.rules.specs.Operate.{sorted, applied}
use Rattle.rules.specs.Dispatch.{Row}
use Rattle.rules.specs.Value.{World, Mem, Read, Reader, Gathered, nothing, gather, marked, marked_by, operate}
use Rattle.rules.specs.Number.{Step}
use Rattle.rules.specs.declared.Effect.{Effect}
use Rattle.rules.specs.declared.EffectOperator.{EffectOperator}
use Rattle.rules.specs.declared.Source.{Source}
use Rattle.operate.proofs.Applied.{applied-nothing}

-- an entry is of the operator
abbrev pub is_of : EffectOperator → Effect → Bool
is_of op e = same_operator e.operator op

-- no copy marks no source row
unmarked : (i : ℕ) (m : Mem) → marked_by i (record { mem = m; values = nothing }) ≡ m
unfolding marked sorted
unmarked i m = ap (λ (s : List (List Source)). record { values = m.values; sources = s; used = m.used }) (set-get_or m.sources i [])

module _ (w : World) (i : ℕ) (row : Row) (read : Reader) where
  pub gather_none : (op : EffectOperator) (es : List Effect) (g : Gathered) → some? (is_of op) es ≡ false → gather w i row read op es g ≡ ok g
  unfolding gather
  gather_none op [] g h = refl
  gather_none op (e ∷ es) g h =
      rw (gather, or_false_left (is_of op e) (some? (is_of op) es) h) (gather_none op es g (or_false_right (is_of op e) (some? (is_of op) es) h))

  module _ (op : EffectOperator) (ops : List EffectOperator) (a : Read) where
    -- what becomes of what was gathered
    abbrev applying : Gathered → Res Read
    applying g =
        number_at row.object (applied (high_is_good (get_dogma_attribute w.book row.id)) op a.value g.values)
        >>= λ v. operate w i row read ops (record { value = v; mem = marked_by i g })

    stepped : operate w i row read (op ∷ ops) a ≡ (gather w i row read op row.entries (record { mem = a.mem; values = nothing }) >>= applying)
    unfolding operate
    stepped = refl

    applied_none : applying (record { mem = a.mem; values = nothing }) ≡ operate w i row read ops a
    applied_none =
        ap (λ (s : Step). number_at row.object s >>= λ v. operate w i row read ops (record { value = v; mem = marked_by i (record { mem = a.mem; values = nothing }) }))
        (applied-nothing (high_is_good (get_dogma_attribute w.book row.id)) op a.value)
        ∙ finished
        ∙ ap (λ (m : Mem). operate w i row read ops (record { value = a.value; mem = m })) (unmarked i a.mem)
      where
        finished : (number_at row.object (Some a.value) >>= λ v. operate w i row read ops (record { value = v; mem = marked_by i (record { mem = a.mem; values = nothing }) }))
            ≡ operate w i row read ops (record { value = a.value; mem = marked_by i (record { mem = a.mem; values = nothing }) })
        finished = unfold number_at in refl

    pub operate_none : some? (is_of op) row.entries ≡ false → operate w i row read (op ∷ ops) a ≡ operate w i row read ops a
    operate_none h =
        stepped ∙ ap (λ (r : Res Gathered). r >>= applying) (gather_none op row.entries (record { mem = a.mem; values = nothing }) h) ∙ applied_none
