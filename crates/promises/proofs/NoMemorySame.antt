-- Rows, states, needs and values with no memory do not turn on depth, recording, asks or room.
use Prim.Native.Nat.{ℕ, zero, suc}
use mathlib.Core.Path.{◌≡◌, refl, sym, ap, ap₂, subst, fun_ext, ◌∙◌}
use mathlib.Core.Bool.{false}
use mathlib.Core.List.{List, map}
use mathlib.Core.Option.{Option, none, some}
use lib.Dec.{T}
use lib.Ieee.{Float}
use lib.IntN.{ℤ}
use lib.ListN.{length}
use Rattle.laws.specs.Lists.{some?, eq_z, keep, insert_all}
use Rattle.laws.proofs.Flat.{flat_same}
use Rattle.laws.proofs.Keep.{keep_same}
use Rattle.rules.specs.Answer.{Res, ok, ◌>>=◌}
use Rattle.rules.specs.Sheet.{Book, Fit, bases_of}
use Rattle.rules.specs.Shape.{object_good, objects_good, bases_good}
use Rattle.rules.specs.Dispatch.{Row, Key, same_key, requires, in_location, hit, Numbered, numbered, entry, hits_on, ids_of, row_of, rows}
use Rattle.rules.specs.Collect.{Move, taken_of, test_domain, test_projected_domain, modifier_moves, found_moves, effect_moves, own_moves, projected_modifier_moves, projected_moves, fitted_moves, moves}
use Rattle.rules.specs.Info.{get_dogma_attribute, get_base}
use Rattle.rules.specs.States.{collected_states, states_of}
use Rattle.rules.specs.Value.{World, Found, find_row, calculate}
use Rattle.rules.specs.Outcome.{blank, collected_in, rows_in, world_of}
use Rattle.rules.specs.Fresh.{unrecorded, forgetful, fresh_to, fresh, needs_at, Leads, last, next}
use Rattle.rules.specs.declared.Ask.{Ask}
use Rattle.rules.specs.declared.Item.{Item}
use Rattle.rules.specs.declared.Effect.{Effect}
use Rattle.rules.specs.declared.Origin.{Origin}
use Rattle.rules.specs.declared.Origin.TheVariants as origin
use Rattle.rules.specs.declared.Modifier.{Modifier}
use Rattle.rules.specs.declared.Modifier.TheVariants.{LocationRequiredSkillModifier, LocationGroupModifier, LocationModifier, OwnerRequiredSkillModifier, ItemModifier}
use Rattle.rules.specs.declared.Pass2Effect.{Pass2Effect}
use Rattle.promises.specs.NoMemory.{Sound, SameButAsks, NoLoop}

-- ---- two worlds that are the same with nothing recorded

deep_unrecorded : (w : World) (d o : ℕ) (a : ℤ) → fresh_to w d o a ≡ fresh_to (unrecorded w) d o a
unfolding fresh_to
deep_unrecorded w zero o a = refl
deep_unrecorded w (suc d) o a =
    ap (λ (g : ℕ → ℤ → Res Float). by g (find_row o a 0 w.rows)) (fun_ext λ p. fun_ext λ b. deep_unrecorded w d p b)
  where
    by : (ℕ → ℤ → Res Float) → Option Found → Res Float
    by g f = elim f [
      | none ↦ ok (get_dogma_attribute w.book a).default_value
      | some f ↦ (calculate (unrecorded w) (forgetful g) f.index f.row (blank w.rows) >>= λ r. ok r.value)
    ]

module _ (w u : World) (same : unrecorded w ≡ unrecorded u) where
  pub fresh_same : (o : ℕ) (a : ℤ) → fresh w o a ≡ fresh u o a
  unfolding fresh
  fresh_same o a =
      deep_unrecorded w (suc (length w.rows)) o a ∙ ap (λ (x : World). fresh_to x (suc (length x.rows)) o a) same ∙ sym (deep_unrecorded u (suc (length u.rows)) o a)

  needs_same : (a : Key) → needs_at w a ≡ needs_at u a
  unfolding needs_at
  needs_same a = ap (λ (x : World). needs_at x a) same

  needed : (a b : Key) → T (some? (same_key b) (needs_at u a)) → T (some? (same_key b) (needs_at w a))
  needed a b h = subst (λ (l : List Key). T (some? (same_key b) l)) (sym (needs_same a)) h

  leads_same : {a b : Key} → Leads u a b → Leads w a b
  leads_same (last {a = a} {b = b} h) = last (needed a b h)
  leads_same (next {a = a} {b = b} h l) = next (needed a b h) (leads_same l)

  pub free_same : NoLoop w → NoLoop u
  free_same free a l = free a (leads_same l)

-- ---- two fits that are the same but for depth, recording and asks

abbrev asking : ℕ → ℕ → List Ask → Fit → Fit
asking d r s f = record { depth = d; recording = r; objects = f.objects; bases = f.bases; ids = f.ids; buffs = f.buffs; asks = s }

is_asking : (f g : Fit) → SameButAsks f g → asking g.depth g.recording g.asks f ≡ g
is_asking f g s = λ i. record { depth = g.depth; recording = g.recording; objects = s.objects i; bases = s.bases i; ids = s.ids i; buffs = s.buffs i; asks = g.asks }

module _ (k : Book) (f : Fit) (d r : ℕ) (s : List Ask) where
  moves_asking : moves k f ≡ moves k (asking d r s f)
  unfolding get_base test_domain test_projected_domain modifier_moves found_moves effect_moves own_moves projected_modifier_moves projected_moves fitted_moves moves
  moves_asking = refl

  abbrev under : Pass2Effect → Modifier → Origin → Pass2Effect
  under t m g =
      record {
        origin = g;
        modifier = m;
        operator = t.operator;
        source_quantity = t.source_quantity;
        target = t.target;
        target_attribute_id = t.target_attribute_id;
        resistance = t.resistance;
      }

  hit_asking : (t : Pass2Effect) (o : Item) → hit k f t o ≡ hit k (asking d r s f) t o
  unfolding requires in_location hit
  hit_asking t o = by t.modifier t.origin
    where
      by : (m : Modifier) (g : Origin) → hit k f (under t m g) o ≡ hit k (asking d r s f) (under t m g) o
      by ItemModifier g = refl
      by LocationModifier g = refl
      by (LocationGroupModifier x) g = refl
      by (LocationRequiredSkillModifier x) (origin.Effect e p c a) = refl
      by (LocationRequiredSkillModifier x) (origin.Buff b v) = refl
      by (OwnerRequiredSkillModifier x) (origin.Effect e p c a) = refl
      by (OwnerRequiredSkillModifier x) (origin.Buff b v) = refl

  entry_asking : (o : Item) (n : Numbered) → entry k f o n ≡ entry k (asking d r s f) o n
  unfolding entry
  entry_asking o n = by n.effect.origin
    where
      of : Origin → Numbered
      of g = record { number = n.number; effect = under n.effect n.effect.modifier g }

      by : (g : Origin) → entry k f o (of g) ≡ entry k (asking d r s f) o (of g)
      by (origin.Effect e p c a) = refl
      by (origin.Buff b v) = refl

  -- an object's rows, of what hits it
  abbrev made : Item → List Numbered → (Numbered → Effect) → List Row
  made o hs e =
      map
      (λ a. record {
        object = o.number;
        id = a;
        base = elim (get_base f o a) [ none ↦ (get_dogma_attribute k a).default_value | some x ↦ x.value ];
        entries = map e (keep (λ n. eq_z n.effect.target_attribute_id a) hs);
      })
      (insert_all (map (λ n. n.effect.target_attribute_id) hs) (map (λ x. x.attribute_id) (bases_of f o)))

  own_asking : (ts : List Pass2Effect) (o : Item) → map (row_of k f ts o) (ids_of k f ts o) ≡ map (row_of k (asking d r s f) ts o) (ids_of k (asking d r s f) ts o)
  unfolding get_base hits_on ids_of row_of
  own_asking ts o =
      ap₂ (made o) (keep_same (λ n. hit k f n.effect o) (λ n. hit k (asking d r s f) n.effect o) (λ n. hit_asking n.effect o) (numbered 0 ts)) (fun_ext λ n. entry_asking o n)

  rows_asking : rows_in k f ≡ rows_in k (asking d r s f)
  unfolding rows collected_in rows_in
  rows_asking =
      ap (λ (ms : List Move). rows k f (taken_of ms)) moves_asking
      ∙ flat_same (λ o. map (row_of k f (collected_in k (asking d r s f)) o) (ids_of k f (collected_in k (asking d r s f)) o)) (λ o. map (row_of k (asking d r s f) (collected_in k (asking d r s f)) o) (ids_of k (asking d r s f) (collected_in k (asking d r s f)) o))
      (own_asking (collected_in k (asking d r s f))) f.objects

  states_asking : map (states_of k f) f.objects ≡ map (states_of k (asking d r s f)) f.objects
  unfolding collected_states states_of
  states_asking = refl

  sound_asking : Sound f → Sound (asking d r s f)
  unfolding object_good objects_good bases_good
  sound_asking h = record { objects = h.objects; bases = h.bases; numbered = h.numbered }

  world_asking : (n m : ℕ) → unrecorded (world_of k f n) ≡ unrecorded (world_of k (asking d r s f) m)
  unfolding world_of
  world_asking n m = λ i. record { book = k; rows = rows_asking i; states = states_asking i; recording = false; room = 0 }

module _ (k : Book) (f g : Fit) (same : SameButAsks f g) where
  pub world_same : (n m : ℕ) → unrecorded (world_of k f n) ≡ unrecorded (world_of k g m)
  world_same n m =
      subst (λ (x : Fit). unrecorded (world_of k f n) ≡ unrecorded (world_of k x m)) (is_asking f g same) (world_asking k f g.depth g.recording g.asks n m)

  pub rows_same : rows_in k f ≡ rows_in k g
  rows_same = subst (λ (x : Fit). rows_in k f ≡ rows_in k x) (is_asking f g same) (rows_asking k f g.depth g.recording g.asks)

  pub sound_same : Sound f → Sound g
  sound_same h = subst Sound (is_asking f g same) (sound_asking k f g.depth g.recording g.asks h)
