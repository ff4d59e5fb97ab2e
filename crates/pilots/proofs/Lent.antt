-- A pilot's call from its parts: POOL, or what the definition gives, each column in its place.
use Prim.Native.Nat.{ℕ}
use mathlib.Core.Path.{◌≡◌, refl, sym, ap, ◌∙◌, subst}
use mathlib.Core.List.{List, ◌++◌}
use mathlib.Core.Option.{Option, none, some, get_or}
use native.Mathlib.Omega.{arith}
use lib.ListN.{set}
use Rattle.rules.specs.Answer.{Res, refused}
use Rattle.rules.specs.Columns.{Counts}
use Rattle.rules.specs.Files.{pairs_in, bad_files, outcome_of}
use Rattle.rules.specs.Outcome.{Lent, Rooms, Done, run, rooms_of}
use Rattle.rules.specs.Pool.{stretch_of, lent_to, pool_rooms, pool_bad}
use Rattle.rules.specs.Sheet.{book_of, fit_of}
use Rattle.rules.specs.declared.Refusal.TheVariants.{Shape}
use Rattle.shape.specs.Shaped.{Shaped, shaped_of, SoundBy}
use Rattle.promises.specs.Result.{MeetsFor}
use Rattle.promises.specs.Pilots.{pilot_outcome, PilotGiven, PilotMeets}
use Rattle.run.specs.Filled.{Columns, lent_of, decided}
use Rattle.calculate.specs.Given.{result_of}
use Rattle.calculate.proofs.Clearing.{Even}
use Rattle.calculate.specs.declared.Outcome.{Outcome}
use Rattle.files.specs.Read.{pairs_read}
use Rattle.files.proofs.Judged.{sound_pairs, sound_files}
use Rattle.pilots.specs.Given.{pool_of, told_of, parts_at, lending_of, Inside, PoolTold}
use Rattle.pilots.specs.declared.lending.Parts.{Parts}
use Rattle.std.specs.Prelude.{Result, Ok, Err}
use Rattle.pool.specs.declared.BadPool.{BadPool}
use Rattle.pilots.proofs.Backed.{cut, backed, stretch_long, stretch_same, stretch_within}
use Rattle.pilots.proofs.Lends.{fits, refused-at, free, lies_at}

-- ---- what is decided on two files is their outcome

module _ (k f : List ℕ) {p : List (List ℕ)} (e : p ≡ pairs_read k ++ pairs_read f) {v : Shaped} (h : v ≡ shaped_of (bad_files k f)) where
  pub files_sound : SoundBy v k f p
  files_sound = subst (λ (x : Shaped). SoundBy x k f p) (sym h) (by (bad_files k f) refl)
    where
      by : (o : Option ℕ) → bad_files k f ≡ o → SoundBy (shaped_of o) k f p
      by none n = sound_files k f n e
      by (some t) n = tt

  module _ (q : Rooms) where
    answered : Option ℕ → Res Done
    answered o = elim o [ some t ↦ refused (Shape t) | none ↦ run (book_of k (pairs_in k f)) (fit_of f (pairs_in k f)) q ]

    by-table : (o : Option ℕ) → bad_files k f ≡ o → decided (shaped_of o) (book_of k p) (fit_of f p) q ≡ answered o
    unfolding answered
    by-table none n = ap (λ (x : List (List ℕ)). run (book_of k x) (fit_of f x) q) (e ∙ sound_pairs k f n)
    by-table (some t) n = refl

    pub files_decided : decided v (book_of k p) (fit_of f p) q ≡ outcome_of k f q
    unfolding answered outcome_of
    files_decided = ap (λ (x : Shaped). decided x (book_of k p) (fit_of f p) q) h ∙ by-table (bad_files k f) refl

-- ---- POOL writes nothing

some_same : {x y : ℕ} → ◌≡◌ {A = Option ℕ} (some x) (some y) → x ≡ y
some_same e = ap (λ (o : Option ℕ). get_or o 0) e

not-both : {x : ℕ} → ◌≡◌ {A = Option ℕ} (some x) none → ⊥
not-both e = let z : ◌≡◌ {A = ℕ} 0 1 = cc in omega arith

counts_same : {a b c d e : ℕ} → a ≡ 0 → b ≡ 0 → c ≡ 0 → d ≡ 0 → e ≡ 0 → ◌≡◌ {A = Counts} (record { collected = a; rows = b; entries = c; plain = d; sources = e }) (record { collected = 0; rows = 0; entries = 0; plain = 0; sources = 0 })
counts_same p q r s t = rw (p, q, r, s, t) refl

pub refused-meets : (k f : List ℕ) (ss : List (List (List ℕ))) (p : ℕ) (S : List (List (List ℕ))) (c : Columns) {v : Result Parts BadPool} → v ≡ lending_of ss p (lent_of c) → {x : BadPool} → v ≡ Err x
    → {r : Outcome} → PoolTold x.place r → PilotMeets k f ss p (pool_of S c) (pool_of S c) (told_of r)
refused-meets k f ss p S c h g t =
    record {
      refused =
          λ y a. record {
            by_number = t.number;
            by_place = t.place ∙ some_same (sym (refused-at ss p (lent_of c) h g) ∙ a);
            by-counts = counts_same t.collected t.rows t.entries t.plain t.sources;
            unchanged = refl;
          };
      given = λ a. absurd (not-both (sym (refused-at ss p (lent_of c) h g) ∙ a));
    }

-- ---- the parts

abbrev pub cuts : Parts → Columns → Columns
cuts at c =
    record {
      collected = cut at.collected at.collected_end c.collected;
      collected_values = cut at.collected at.collected_end c.collected_values;
      rows = cut at.rows at.rows_end c.rows;
      bases = cut at.rows at.rows_end c.bases;
      values = cut at.rows at.rows_end c.values;
      entries = cut at.entries at.entries_end c.entries;
      entry_values = cut at.entries at.entries_end c.entry_values;
      plain = cut at.plain at.plain_end c.plain;
      sources = cut at.sources at.sources_end c.sources;
      source_floats = cut at.sources at.sources_end c.source_floats;
    }

abbrev pub backs : Parts → Columns → Columns → Columns
backs at ys c =
    record {
      collected = backed at.collected at.collected_end ys.collected c.collected;
      collected_values = backed at.collected at.collected_end ys.collected_values c.collected_values;
      rows = backed at.rows at.rows_end ys.rows c.rows;
      bases = backed at.rows at.rows_end ys.bases c.bases;
      values = backed at.rows at.rows_end ys.values c.values;
      entries = backed at.entries at.entries_end ys.entries c.entries;
      entry_values = backed at.entries at.entries_end ys.entry_values c.entry_values;
      plain = backed at.plain at.plain_end ys.plain c.plain;
      sources = backed at.sources at.sources_end ys.sources c.sources;
      source_floats = backed at.sources at.sources_end ys.source_floats c.source_floats;
    }

lent_same : {a b c d e g h i j m a' b' c' d' e' g' h' i' j' m' : ℕ} → a ≡ a' → b ≡ b' → c ≡ c' → d ≡ d' → e ≡ e' → g ≡ g' → h ≡ h' → i ≡ i' → j ≡ j' → m ≡ m'
    → ◌≡◌ {A = Lent} (record { collected = a; collected_values = b; rows = c; bases = d; values = e; entries = g; entry_values = h; plain = i; sources = j; source_floats = m })
    (record { collected = a'; collected_values = b'; rows = c'; bases = d'; values = e'; entries = g'; entry_values = h'; plain = i'; sources = j'; source_floats = m' })
lent_same p q r s t u v w x y = rw (p, q, r, s, t, u, v, w, x, y) refl

-- pilot p's, where POOL is not given
module _ (ss : List (List (List ℕ))) (p : ℕ) (c : Columns) (none-bad : pool_bad (pool_rooms (lent_of c)) ss p ≡ none) where
  inside : Inside (parts_at ss p) (lent_of c)
  inside = fits ss p (lent_of c) none-bad

  -- the parts are as long as the pilot's stretches
  parts_lent : lent_of (cuts (parts_at ss p) c) ≡ lent_to ss p
  parts_lent =
      lent_same
      (stretch_long (stretch_of ss p 1) c.collected inside.collected.1)
      (stretch_long (stretch_of ss p 1) c.collected_values inside.collected_values.1)
      (stretch_long (stretch_of ss p 2) c.rows inside.rows.1)
      (stretch_long (stretch_of ss p 2) c.bases inside.bases.1)
      (stretch_long (stretch_of ss p 2) c.values inside.values.1)
      (stretch_long (stretch_of ss p 3) c.entries inside.entries.1)
      (stretch_long (stretch_of ss p 3) c.entry_values inside.entry_values.1)
      (stretch_long (stretch_of ss p 4) c.plain inside.plain.1)
      (stretch_long (stretch_of ss p 5) c.sources inside.sources.1)
      (stretch_long (stretch_of ss p 5) c.source_floats inside.source_floats.1)

  module _ (S : List (List (List ℕ))) (ys : Columns) (st : List (List ℕ)) (r : Outcome) (even : Even (cuts (parts_at ss p) c) ys) where
    as_lent : lent_of (backs (parts_at ss p) ys c) ≡ lent_of c
    as_lent =
        lent_same
        (stretch_same (stretch_of ss p 1) c.collected inside.collected.1 ys.collected even.collected)
        (stretch_same (stretch_of ss p 1) c.collected_values inside.collected_values.1 ys.collected_values even.collected_values)
        (stretch_same (stretch_of ss p 2) c.rows inside.rows.1 ys.rows even.rows)
        (stretch_same (stretch_of ss p 2) c.bases inside.bases.1 ys.bases even.bases)
        (stretch_same (stretch_of ss p 2) c.values inside.values.1 ys.values even.values)
        (stretch_same (stretch_of ss p 3) c.entries inside.entries.1 ys.entries even.entries)
        (stretch_same (stretch_of ss p 3) c.entry_values inside.entry_values.1 ys.entry_values even.entry_values)
        (stretch_same (stretch_of ss p 4) c.plain inside.plain.1 ys.plain even.plain)
        (stretch_same (stretch_of ss p 5) c.sources inside.sources.1 ys.sources even.sources)
        (stretch_same (stretch_of ss p 5) c.source_floats inside.source_floats.1 ys.source_floats even.source_floats)

    placed : (o : Res Done) → MeetsFor o (lent_to ss p) (result_of r st ys) → PilotGiven o ss p (pool_of S c) (pool_of (set S p st) (backs (parts_at ss p) ys c)) (told_of r)
    placed o m =
        record {
          by_number = m.by_number;
          by_place = m.by_place;
          by-counts = m.by-counts;
          as_long = as_lent;
          by_states = ap (set S p) m.by_states;
          by-collected = stretch_within (stretch_of ss p 1) c.collected inside.collected.1 ys.collected _ even.collected m.by-collected;
          by_collected_values = stretch_within (stretch_of ss p 1) c.collected_values inside.collected_values.1 ys.collected_values _ even.collected_values m.by_collected_values;
          by_rows = stretch_within (stretch_of ss p 2) c.rows inside.rows.1 ys.rows _ even.rows m.by_rows;
          by_bases = stretch_within (stretch_of ss p 2) c.bases inside.bases.1 ys.bases _ even.bases m.by_bases;
          by_values = stretch_within (stretch_of ss p 2) c.values inside.values.1 ys.values _ even.values m.by_values;
          by_entries = stretch_within (stretch_of ss p 3) c.entries inside.entries.1 ys.entries _ even.entries m.by_entries;
          by_entry_values = stretch_within (stretch_of ss p 3) c.entry_values inside.entry_values.1 ys.entry_values _ even.entry_values m.by_entry_values;
          by-plain = stretch_within (stretch_of ss p 4) c.plain inside.plain.1 ys.plain _ even.plain m.by-plain;
          by_sources = stretch_within (stretch_of ss p 5) c.sources inside.sources.1 ys.sources _ even.sources m.by_sources;
          by_source_floats = stretch_within (stretch_of ss p 5) c.source_floats inside.source_floats.1 ys.source_floats _ even.source_floats m.by_source_floats;
        }

    -- what the engine gives for the parts, each put back in its place
    parts_meet : (k f : List ℕ) {pairs : List (List ℕ)} → pairs ≡ pairs_read k ++ pairs_read f → {v : Shaped} → v ≡ shaped_of (bad_files k f)
        → MeetsFor (decided v (book_of k pairs) (fit_of f pairs) (rooms_of (lent_of (cuts (parts_at ss p) c)))) (lent_of (cuts (parts_at ss p) c)) (result_of r st ys)
        → PilotMeets k f ss p (pool_of S c) (pool_of (set S p st) (backs (parts_at ss p) ys c)) (told_of r)
    parts_meet k f {pairs} e {v} h m =
        let n = subst (λ (l : Lent). MeetsFor (decided v (book_of k pairs) (fit_of f pairs) (rooms_of l)) l (result_of r st ys)) parts_lent m in
        let o = subst (λ (x : Res Done). MeetsFor x (lent_to ss p) (result_of r st ys)) (files_decided k f e h (rooms_of (lent_to ss p))) n in
        record { refused = λ x g. absurd (not-both (sym g ∙ none-bad)); given = λ g. placed (pilot_outcome k f ss p) o }

-- the same of parts as they are lent
pub given-meets : (k f : List ℕ) (ss : List (List (List ℕ))) (p : ℕ) (S : List (List (List ℕ))) (c : Columns) {w : Result Parts BadPool} → w ≡ lending_of ss p (lent_of c) → (at : Parts) → w ≡ Ok at
    → {pairs : List (List ℕ)} → pairs ≡ pairs_read k ++ pairs_read f → {v : Shaped} → v ≡ shaped_of (bad_files k f) → (ys : Columns) (st : List (List ℕ)) (r : Outcome) → Even (cuts at c) ys
    → MeetsFor (decided v (book_of k pairs) (fit_of f pairs) (rooms_of (lent_of (cuts at c)))) (lent_of (cuts at c)) (result_of r st ys)
    → PilotMeets k f ss p (pool_of S c) (pool_of (set S p st) (backs at ys c)) (told_of r)
given-meets k f ss p S c h at g {pairs} e {v} j ys st r =
    subst
    (λ (a : Parts). Even (cuts a c) ys → MeetsFor (decided v (book_of k pairs) (fit_of f pairs) (rooms_of (lent_of (cuts a c)))) (lent_of (cuts a c)) (result_of r st ys) → PilotMeets k f ss p (pool_of S c) (pool_of (set S p st) (backs a ys c)) (told_of r))
    (sym (lies_at ss p (lent_of c) h g))
    (λ even m. parts_meet ss p c (free ss p (lent_of c) h g) S ys st r even k f e j m)
