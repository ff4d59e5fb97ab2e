-- "Allowed exactly if no line is broken; otherwise answer the first broken line and the count that broke it".
use Prim.Native.Nat.{ℕ, suc, ◌+◌}
use native.Mathlib.Nat.{add-zero, add-suc, suc-add}
use mathlib.Core.Path.{◌≡◌, refl, sym, ap, ◌∙◌}
use mathlib.Core.Bool.{Bool, true, false, not, ◌&&◌, true≢false}
use mathlib.Core.List.{List, [], ◌∷◌, ◌++◌}
use lib.ListN.{length}
use Rattle.laws.specs.Lists.{every?}
use Rattle.rules.specs.declared.Item.{Item}
use Rattle.tallies.specs.Tallies.{Line}
use Rattle.tournament.specs.Tournament.{broken, tally, Verdict, allowed, breaks, verdict_from}

module _ (ls : List Line) (os : List Item) where
  abbrev pub holds : Line → Bool
  holds l = not (broken ls os l)

  -- the lines of r before it hold, and it is broken, by its count; r begins at line i
  pub record First (i : ℕ) (r : List Line) (n c : ℕ) : Type 0 where
    pub front : List Line
    pub line : Line
    pub rest : List Line
    pub stands : r ≡ front ++ (line ∷ rest)
    pub place : n ≡ i + length front
    pub hold : every? holds front ≡ true
    pub is-broken : broken ls os line ≡ true
    pub count : c ≡ tally ls os line

  -- what a verdict on the lines r says, whichever it is
  pub data Told (i : ℕ) (r : List Line) (v : Verdict) : Type 0 where
    none_broken : v ≡ allowed → every? holds r ≡ true → Told i r v
    first-broken : (n c : ℕ) → v ≡ breaks n c → First i r n c → Told i r v

  decided : ℕ → Line → List Line → Bool → Verdict
  decided i l r true = breaks i (tally ls os l)
  decided i l r false = verdict_from ls os (suc i) r

  by-line : (i : ℕ) (l : Line) (r : List Line) (b : Bool) → broken ls os l ≡ b → verdict_from ls os i (l ∷ r) ≡ decided i l r b
  unfolding verdict_from decided
  by-line i l r b e = go (broken ls os l) ∙ ap (decided i l r) e
    where
      go : (b : Bool) → elim b [ true ↦ breaks i (tally ls os l) | false ↦ verdict_from ls os (suc i) r ] ≡ decided i l r b
      go true = refl
      go false = refl

  further : (i : ℕ) (l : Line) (r : List Line) {v : Verdict} → holds l ≡ true → Told (suc i) r v → Told i (l ∷ r) v
  further i l r h (none_broken e g) = none_broken e (rw h g)
  further i l r h (first-broken n c e f) =
      first-broken n c e
      (record {
        front = l ∷ f.front;
        line = f.line;
        rest = f.rest;
        stands = ap (λ (x : List Line). l ∷ x) f.stands;
        place = f.place ∙ suc-add i (length f.front) ∙ sym (add-suc i (length f.front));
        hold = rw h f.hold;
        is-broken = f.is-broken;
        count = f.count;
      })

  renamed : (i : ℕ) (r : List Line) {v w : Verdict} → v ≡ w → Told i r w → Told i r v
  renamed i r e (none_broken f h) = none_broken (e ∙ f) h
  renamed i r e (first-broken n c f h) = first-broken n c (e ∙ f) h

  told_line : (i : ℕ) (l : Line) (r : List Line) (b : Bool) → broken ls os l ≡ b → Told (suc i) r (verdict_from ls os (suc i) r) → Told i (l ∷ r) (decided i l r b)
  unfolding decided
  told_line i l r true e t =
      first-broken i (tally ls os l) refl
      (record { front = []; line = l; rest = r; stands = refl; place = sym (add-zero i); hold = refl; is-broken = e; count = refl })
  told_line i l r false e t = further i l r (ap not e) t

  pub told : (i : ℕ) (r : List Line) → Told i r (verdict_from ls os i r)
  unfolding verdict_from
  told i [] = none_broken refl refl
  told i (l ∷ r) = renamed i (l ∷ r) (by-line i l r (broken ls os l) refl) (told_line i l r (broken ls os l) refl (told (suc i) r))

  -- and the other way: where no line is broken, the fit is allowed
  allowed-line : (i : ℕ) (l : Line) (r : List Line) (b : Bool) → not b && every? holds r ≡ true → (every? holds r ≡ true → verdict_from ls os (suc i) r ≡ allowed) → decided i l r b ≡ allowed
  unfolding decided
  allowed-line i l r true h k = absurd (true≢false (sym h))
  allowed-line i l r false h k = k h

  pub all_hold : (i : ℕ) (r : List Line) → every? holds r ≡ true → verdict_from ls os i r ≡ allowed
  unfolding verdict_from
  all_hold i [] h = refl
  all_hold i (l ∷ r) h = by-line i l r (broken ls os l) refl ∙ allowed-line i l r (broken ls os l) h (all_hold (suc i) r)
