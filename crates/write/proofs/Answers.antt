-- What is given back, from what was put and what was cleared.
use Prim.Native.Nat.{ℕ, ◌≤◌, ◌<◌}
use native.Mathlib.Nat.{zero-add}
use native.Mathlib.Omega.{arith}
use mathlib.Core.Path.{◌≡◌, sym, ap, ◌∙◌}
use mathlib.Core.Bool.{Bool}
use mathlib.Core.List.{List, []}
use mathlib.Core.Option.{Option, none}
use lib.ListN.{length, replicate}
use borrow.Author.Tests.{le-leb, lt-leb}
use Rattle.laws.specs.Columns.{column}
use Rattle.laws.proofs.Laid.{column_none}
use Rattle.listing.specs.Put.{put, puts}
use Rattle.listing.proofs.Puts.{ends, as_long}
use Rattle.listing.proofs.Lined.{begun}
use Rattle.listing.proofs.Behind.{cleared-behind}
use Rattle.clear.specs.Ends.{cleared}
use Rattle.clear.proofs.Columned.{cleared_zeros}
use Rattle.std.specs.Prelude.{Result, Ok, Err}
use Rattle.shape.specs.Shaped.{Shaped, shaped_of}
use Rattle.shape.specs.declared.BadTable.{BadTable}
use Rattle.shape.proofs.Shapes.{bad_said}
use Rattle.tables.specs.Tables.{sheet, shape, full, fitted, judged}
use Rattle.tables.specs.Tables as tables
use Rattle.write.specs.declared.Written.{Written}
use Rattle.write.specs.declared.NotWritten.{NotWritten}
use Rattle.write.specs.declared.NotWritten.TheVariants.{Shape, Room}
use Rattle.write.specs.Given.{answer_of, bytes_in, Puts, told, end_of}

-- ---- what is written, by the verdict and the room

module _ (o : Option ℕ) (b : List ℕ) (n : ℕ) where
  pub judged_shape : {r : Shaped} {x : BadTable} → r ≡ shaped_of o → r ≡ Err x → judged o b n ≡ shape x.table
  judged_shape h e = ap (λ (p : Option ℕ). judged p b n) (bad_said o (sym e ∙ h))

  pub judged-full : o ≡ none → n < length b → judged o b n ≡ full
  judged-full e h = ap (λ (p : Option ℕ). judged p b n) e ∙ ap (λ (t : Bool). fitted t b) (lt-leb (length b) n h)

  pub judged_sheet : o ≡ none → length b ≤ n → judged o b n ≡ sheet b
  judged_sheet e h = ap (λ (p : Option ℕ). judged p b n) e ∙ ap (λ (t : Bool). fitted t b) (le-leb (length b) n h)

-- ---- the answer and the bytes

abbrev Given : tables.Written → ℕ → Written → List ℕ → Type 0
Given w n r out = (r ≡ answer_of w) × (out ≡ column (λ b. b) 0 (bytes_in w) n)

module _ (w : tables.Written) (n : ℕ) {out : List ℕ} (z : out ≡ replicate n 0) where
  nothing : bytes_in w ≡ [] → out ≡ column (λ b. b) 0 (bytes_in w) n
  nothing e = z ∙ sym (ap (λ (l : List ℕ). column (λ b. b) 0 l n) e ∙ column_none (λ b. b) 0 n)

  pub given_shape : {r : Written} {i : ℕ} → w ≡ shape i → r ≡ record { number = 1; place = i; length = 0 } → Given w n r out
  given_shape e h = (h ∙ sym (ap answer_of e), nothing (ap bytes_in e))

  pub given-full : {r : Written} → w ≡ full → r ≡ record { number = 7; place = 6; length = 0 } → Given w n r out
  given-full e h = (h ∙ sym (ap answer_of e), nothing (ap bytes_in e))

-- a text from the front on, and zeros behind it
cleared_put : (b out : List ℕ) {end : ℕ} {now : List ℕ} → length b ≤ length out → put end now ≡ puts b (put 0 out) → cleared 0 end now ≡ column (λ b. b) 0 b (length out)
cleared_put b out {end} {now} h e =
    let far : end ≡ length b = ends b 0 out e ∙ zero-add (length b) in
    cleared-behind (begun b out (omega (arith, far, h)) e) ∙ ap (column (λ b. b) 0 b) (as_long b 0 out e)

abbrev done : ℕ → Written
done k = record { number = 0; place = 0; length = k }

pub given_sheet : (w : tables.Written) (b out : List ℕ) {end : ℕ} {now last : List ℕ} {r : Written} → w ≡ sheet b → length b ≤ length out
    → put end now ≡ puts b (put 0 out) → r ≡ record { number = 0; place = 0; length = end } → last ≡ cleared 0 end now → Given w (length out) r last
given_sheet w b out {end} e h p q c = (
  q ∙ ap (λ (k : ℕ). done k) far ∙ sym (ap answer_of e),
  c ∙ cleared_put b out h p ∙ sym (ap (λ (l : List ℕ). column (λ b. b) 0 l (length out)) (ap bytes_in e)),
)
  where
    far : end ≡ length b
    far = ends b 0 out p ∙ zero-add (length b)

-- what was put, then zeros
pub gives : (w : tables.Written) (r : Result ℕ NotWritten) (out mid : List ℕ) {last : List ℕ} {a : Written} → Puts out mid r w → length mid ≡ length out
    → a ≡ told r → last ≡ cleared 0 (end_of r) mid → Given w (length out) a last
gives w (Ok end) out mid (b, e, h, p) l q c = given_sheet w b out e h p q c
gives w (Err (Shape bad)) out mid e l q c = given_shape w (length out) (c ∙ cleared_zeros 0 mid ∙ ap (λ (n : ℕ). replicate n 0) l) e q
gives w (Err Room) out mid e l q c = given-full w (length out) (c ∙ cleared_zeros 0 mid ∙ ap (λ (n : ℕ). replicate n 0) l) e q
