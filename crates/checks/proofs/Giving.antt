-- What is left of a check, cleared behind the counts and given back with the verdict's number and place, is the definition's.
use Rattle.std.specs.Prelude.{Ok, Err}
use Prim.Native.Nat.{ℕ}
use mathlib.Core.Path.{◌≡◌, refl, ap, subst, ◌∙◌}
use mathlib.Core.List.{List, []}
use lib.ListN.{length}
use Rattle.laws.specs.Lists.{flat}
use Rattle.rules.specs.Answer.{Res, ok, refused, number, place}
use Rattle.rules.specs.Outcome.{Done}
use Rattle.rules.specs.declared.Source.{Source}
use Rattle.rules.specs.declared.Refusal.{Refusal}
use Rattle.rules.specs.declared.Refusal.TheVariants.{Shape}
use Rattle.rules.specs.Answer.{Answer}
use Rattle.rules.specs.Answer as answer
use Rattle.clear.specs.Ends.{cleared}
use Rattle.clear.specs.declared.KeptCounts.{KeptCounts}
use Rattle.promises.specs.Result.{MeetsFor}
use Rattle.run.specs.Filled.{Columns, lent_of}
use Rattle.calculate.specs.Given.{result_of}
use Rattle.calculate.specs.declared.Outcome.{Outcome}
use Rattle.calculate.proofs.Clearing.{Even, Cleared, meets}
use Rattle.checks.specs.Check.{number_of, place_of, kept_by, ChecksAs, Verdict}
use Rattle.checks.specs.Checked.{no_counts, LeftBy}
use Rattle.checks.specs.declared.verdict.CheckRefusal.TheVariants.{Engine, Loop, Listing}

-- nothing cleared is nothing
pub none_cleared : {B : Type 0} (z : B) {n : ℕ} → n ≡ 0 → [] ≡ cleared z n []
unfolding cleared
none_cleared z e = rw e refl

module _ (d : Done) (unrecorded : d.sources ≡ []) (n : KeptCounts) (c₀ c c' : Columns) (st st' : List (List ℕ)) where
  -- with these counts
  abbrev outcome_of : ℕ → ℕ → Outcome
  outcome_of x y = record { number = x; place = y; collected = n.collected; rows = n.rows; entries = n.entries; plain = n.plain; sources = n.sources }

  -- only number and place are the verdict's own
  told_anew : (v : Verdict) (w : Res Done) (x y x' y' : ℕ) → x ≡ number_of v → y ≡ place_of v → MeetsFor w (lent_of c₀) (result_of (outcome_of x' y') st' c') → ChecksAs v w (lent_of c₀) (result_of (outcome_of x y) st' c')
  told_anew v w x y x' y' e h m =
      record {
        by_number = e;
        by_place = h;
        by-counts = m.by-counts;
        by_states = m.by_states;
        by-collected = m.by-collected;
        by_collected_values = m.by_collected_values;
        by_rows = m.by_rows;
        by_bases = m.by_bases;
        by_values = m.by_values;
        by_entries = m.by_entries;
        by_entry_values = m.by_entry_values;
        by-plain = m.by-plain;
      }

  module _ (even : Even c₀ c) (K : n.sources ≡ 0 → Cleared n st c st' c') (x y : ℕ) where
    emptied : (v : Verdict) (z : Refusal) → n ≡ no_counts → x ≡ number_of v → y ≡ place_of v → ChecksAs v (refused z) (lent_of c₀) (result_of (outcome_of x y) st' c')
    emptied v z g e h =
        told_anew v (refused z) x y (number (answer.Refused z)) (place (answer.Refused z)) e h
        (meets (refused z) c₀ c c' st st' (outcome_of (number (answer.Refused z)) (place (answer.Refused z))) (Err z) n (answer.Refused z) g refl refl even (K (ap (λ (k : KeptCounts). k.sources) g))
        (record { number = refl; place = refl; collected = refl; rows = refl; entries = refl; plain = refl; sources = refl }))

    by_verdict : (v : Verdict) → LeftBy v n d st c₀ c → x ≡ number_of v → y ≡ place_of v → ChecksAs v (kept_by v d) (lent_of c₀) (result_of (outcome_of x y) st' c')
    by_verdict (Ok t) f e h =
        told_anew (Ok tt) (ok d) x y 0 0 e h
        (meets (ok d) c₀ c c' st st' (outcome_of 0 0) (Ok n) n answer.Done refl refl f even (K none_recorded)
        (record { number = refl; place = refl; collected = refl; rows = refl; entries = refl; plain = refl; sources = refl }))
      where
        none_recorded : n.sources ≡ 0
        none_recorded = f.n_sources ∙ ap (λ (q : List (List Source)). length (flat (λ x. x) q)) unrecorded
    by_verdict (Err (Engine z)) g e h = emptied (Err (Engine z)) z g e h
    by_verdict (Err (Loop o)) g e h = emptied (Err (Loop o)) (Shape 0) g e h
    by_verdict (Err (Listing i)) g e h = emptied (Err (Listing i)) (Shape 0) g e h

    pub checks : (v w : Verdict) → v ≡ w → LeftBy v n d st c₀ c → x ≡ number_of v → y ≡ place_of v → ChecksAs w (kept_by w d) (lent_of c₀) (result_of (outcome_of x y) st' c')
    checks v w g l e h = subst (λ (u : Verdict). ChecksAs u (kept_by u d) (lent_of c₀) (result_of (outcome_of x y) st' c')) g (by_verdict v l e h)
