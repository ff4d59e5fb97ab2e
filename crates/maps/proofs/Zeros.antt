-- Words made zero in the middle of others.
use Prim.Native.Nat.{ℕ, ◌+◌, ◌-◌, ◌≤◌}
use native.Mathlib.Omega.{arith}
use mathlib.Core.Path.{◌≡◌, ap, ◌∙◌}
use mathlib.Core.List.{List, ◌++◌}
use lib.ListN.{length, get_or, take, drop, replicate, length-append, length-drop, length-replicate, get_or-append, get_or-replicate}
use lib.Seq.{get_or-take, get_or-drop, length-take-le}
use Rattle.std.proofs.lemmas.List.{get_or-append_right}
use Rattle.maps.specs.Maps.{Zeroed}

zeroed-put : (a n : ℕ) (ws : List ℕ) → a + n ≤ length ws → Zeroed a n ws (take a ws ++ (replicate n 0 ++ drop n (drop a ws)))
zeroed-put a n ws h =
    record {
      long = omega (arith, length-append (take a ws) rest, length-append (replicate n 0) (drop n (drop a ws)), front, length-replicate {A = ℕ} n 0, length-drop n (drop a ws), length-drop a ws);
      zero = λ w l.
          get_or-append_right (take a ws) rest a (a + w) 0 front (omega arith)
          ∙ ap (λ (k : ℕ). get_or rest k 0) (within w)
          ∙ get_or-append (replicate n 0) (drop n (drop a ws)) 0 w (omega (arith, l, length-replicate {A = ℕ} n 0))
          ∙ get_or-replicate n w 0 0 l;
      before = λ j l. get_or-append (take a ws) rest 0 j (omega (arith, l, front)) ∙ get_or-take a ws j 0 l;
      behind = λ j l.
          get_or-append_right (take a ws) rest a j 0 front (omega (arith, l))
          ∙ get_or-append_right (replicate n 0) (drop n (drop a ws)) n (j - a) 0 (length-replicate {A = ℕ} n 0) (omega (arith, l))
          ∙ get_or-drop n (drop a ws) (j - a - n) 0
          ∙ get_or-drop a ws (n + (j - a - n)) 0
          ∙ ap (λ (k : ℕ). get_or ws k 0) (past j l);
    }
  where
    rest : List ℕ
    rest = replicate n 0 ++ drop n (drop a ws)

    front : length (take a ws) ≡ a
    front = length-take-le a ws (omega arith)

    within : (w : ℕ) → a + w - a ≡ w
    within w = omega arith

    past : (j : ℕ) → a + n ≤ j → a + (n + (j - a - n)) ≡ j
    past j l = omega (arith, l)

pub zeroed-part : (a n : ℕ) (ws part : List ℕ) → a + n ≤ length ws → part ≡ replicate (length (take (a + n - a) (drop a ws))) 0 → Zeroed a n ws (take a ws ++ (part ++ drop (a + n - a) (drop a ws)))
zeroed-part a n ws part h e =
    let m : a + n - a ≡ n = omega arith in
    let long : length (take n (drop a ws)) ≡ n = length-take-le n (drop a ws) (omega (arith, length-drop a ws)) in
    rw (e, m, long) (zeroed-put a n ws h)
