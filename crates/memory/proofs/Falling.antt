-- The rows that are not started never grow in number.
use Rattle.std.specs.Prelude.{Ok}
use Prim.Native.Nat.{ℕ, ◌≤◌}
use mathlib.Core.Path.{◌≡◌, sym, ap}
use mathlib.Core.Bool.{Bool}
use mathlib.Core.List.{List}
use mathlib.Core.Option.{Option, none, some}
use lib.Ieee.{Float}
use lib.IntN.{ℤ}
use lib.ListN.{length, get_or, take}
use Rattle.laws.specs.Floats.{nans}
use Rattle.rules.specs.Codes.{operators}
use Rattle.rules.specs.Value.{World, Mem, Read, Reader, nothing, operate, clamped, value_of}
use Rattle.rules.specs.declared.EffectOperator.{EffectOperator}
use Rattle.sources.specs.declared.Recording.{Recording}
use Rattle.gather.specs.declared.Pile.{Pile}
use Rattle.memory.specs.Memory.{value_at, Grows, GrowsBut}
use Rattle.memory.specs.Steps.{row_at}
use Rattle.memory.specs.Holding.{Tables, Holds, Ready, Busy}
use Rattle.memory.proofs.Growth.{value_grows, gather_grows, operate_grows, clamped_grows}
use Rattle.memory.proofs.Nanned.{nans_grow}
use Rattle.memory.specs.Answers.{Returns}
use Rattle.memory.proofs.Holdings.{met}
use Rattle.memory.proofs.Gathering.{Gathering}
use Rattle.memory.proofs.Operating.{Operating}

module _ {w : World} {s₀ : List (List ℕ)} {f₀ : List (List Float)} {m m' : Mem} {v v' : List Float} {s s' : List (List ℕ)} {f f' : List (List Float)} {used used' : ℕ} (H : Holds w s₀ f₀ m v s f used) (K : Holds w s₀ f₀ m' v' s' f' used') where
  falls : length m'.values ≡ length m.values → ((j : ℕ) (x : Float) → value_at m j ≡ some x → value_at m' j ≡ some x) → nans v' ≤ nans v
  falls a b = rw (H.values, K.values) (nans_grow m.values m'.values a b)

-- reading an attribute
pub read-falls : {t : Tables} {run : Recording} {v : List Float} {s : List (List ℕ)} {f : List (List Float)} {used : ℕ} (h : Ready t run v s f used) (left o : ℕ) (a : ℤ) (y : Float) (more : ℕ) (v' : List Float) (s' : List (List ℕ)) (f' : List (List Float))
    → Returns h.world h.sources₀ h.floats₀ (value_of h.world left o a h.mem) (Ok (record { value = y; used = more })) v' s' f' → nans v' ≤ nans v
read-falls h left o a y more v' s' f' k =
    let q = met h.world h.sources₀ h.floats₀ v' s' f' (value_of h.world left o a h.mem) y more k in
    let g = value_grows h.world left o a h.mem q.read q.is in
    falls h.holds q.holds g.values g.value

-- a limit
pub limit-falls : {t : Tables} {run : Recording} {v : List Float} {s : List (List ℕ)} {f : List (List Float)} {used : ℕ} (h : Ready t run v s f used) (left o : ℕ) (clamp : Float → Float → Float) (a : ℤ) (x y : Float) (more : ℕ) (v' : List Float) (s' : List (List ℕ)) (f' : List (List Float))
    → Returns h.world h.sources₀ h.floats₀ (clamped o (value_of h.world left) clamp a (record { value = x; mem = h.mem })) (Ok (record { value = y; used = more })) v' s' f' → nans v' ≤ nans v
limit-falls h left o clamp a x y more v' s' f' k =
    let q = met h.world h.sources₀ h.floats₀ v' s' f' (clamped o (value_of h.world left) clamp a (record { value = x; mem = h.mem })) y more k in
    let g = clamped_grows 0 h.world (row_at h.world 0) (value_of h.world left) (value_grows h.world left) o clamp a (record { value = x; mem = h.mem }) q.read q.is in
    falls h.holds q.holds g.values g.value

-- all operators
pub operate-falls : {t : Tables} {run : Recording} {v : List Float} {s : List (List ℕ)} {f : List (List Float)} {used i own : ℕ} {ops : List EffectOperator} (h : Busy t run v s f used i own ops) (left : ℕ) (x y : Float) (more : ℕ) (v' : List Float) (s' : List (List ℕ)) (f' : List (List Float))
    → Returns h.ready.world h.ready.sources₀ h.ready.floats₀ (operate h.ready.world i (row_at h.ready.world i) (value_of h.ready.world left) operators (record { value = x; mem = h.ready.mem })) (Ok (record { value = y; used = more })) v' s' f' → nans v' ≤ nans v
operate-falls {i = i} h left x y more v' s' f' k =
    let w = h.ready.world in
    let q = met w h.ready.sources₀ h.ready.floats₀ v' s' f' (operate w i (row_at w i) (value_of w left) operators (record { value = x; mem = h.ready.mem })) y more k in
    let g = operate_grows i w (row_at w i) (value_of w left) (value_grows w left) operators (record { value = x; mem = h.ready.mem }) q.read q.is in
    falls h.ready.holds q.holds g.values g.value

-- the first entries of an operator, and the first operators
pub gathering_falls : {t : Tables} {run : Recording} {v₀ : List Float} {s₁ : List (List ℕ)} {f₁ : List (List Float)} {used i own : ℕ} {ops : List EffectOperator} (h : Busy t run v₀ s₁ f₁ used i own ops) {left k : ℕ} {high : Bool} {op : EffectOperator} {found : Float} {v : List Float} {s : List (List ℕ)} {f : List (List Float)} {p : Pile}
    → Gathering h.ready.world h.ready.sources₀ h.ready.floats₀ left i high op found h.ready.mem k v s f p → nans v ≤ nans v₀
gathering_falls {i = i} h {left} {k} {high} {op} G =
    let w = h.ready.world in
    let g = gather_grows i w (row_at w i) (value_of w left) (value_grows w left) op (take k (row_at w i).entries) (record { mem = h.ready.mem; values = nothing }) G.sofar G.is in
    falls h.ready.holds G.holds g.values g.value

pub operating_falls : {t : Tables} {run : Recording} {v₀ : List Float} {s₁ : List (List ℕ)} {f₁ : List (List Float)} {used i own : ℕ} {ops : List EffectOperator} (h : Busy t run v₀ s₁ f₁ used i own ops) {left code : ℕ} {v : List Float} {s : List (List ℕ)} {f : List (List Float)} {x : Float} {mine more : ℕ}
    → Operating h.ready.world h.ready.sources₀ h.ready.floats₀ left i h.ready.mem code v s f x mine more → nans v ≤ nans v₀
operating_falls {i = i} h {left} {code} O =
    let w = h.ready.world in
    let g = operate_grows i w (row_at w i) (value_of w left) (value_grows w left) (take code operators) (record { value = (row_at w i).base; mem = h.ready.mem }) O.sofar O.is in
    falls h.ready.holds O.holds g.values g.value
