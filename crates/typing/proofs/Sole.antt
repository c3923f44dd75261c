-- One outcome: whatever meets the promise of `read`, of `texts::write` or of `make`, of one input and with the same lists at entry, is
-- equal, answer and lists. Assumes nothing.
use Rattle.std.specs.Prelude.{Result}
use Rattle.refusals.specs.declared.Refusal.{Refusal}
use Prim.Native.Nat.{ℕ}
use mathlib.Core.Path.{◌≡◌, sym, ◌∙◌, subst}
use mathlib.Core.List.{List}
use lib.ListN.{length}
use Rattle.sums.proofs.Fill.{filled_unique}
use Rattle.sheet.specs.Reading.{read_of}
use Rattle.printing.specs.Page.{Prints}
use Rattle.printing.proofs.Printing.{one_outcome}
use Rattle.writing.specs.Numbers.{Numbers, numbers}
use Rattle.typing.specs.Read.{ReadInto}
use Rattle.typing.specs.Text.{text_verdict, text_of}
use Rattle.typing.specs.Made.{MadeInto}
use Rattle.typing.specs.declared.Scan.{Scan}
use Rattle.typing.specs.declared.Unmade.{Unmade}

pub read_once : (text : List ℕ) (before after after' : Numbers) (r r' : Scan) → ReadInto text before r after
    → ReadInto text before r' after' → (r ≡ r') × (after ≡ after')
read_once text before after after' r r' x y =
    let e : r ≡ r' = x.answer ∙ sym y.answer in
    let z : ReadInto text before r after' = subst (λ (q : Scan). ReadInto text before q after') (sym e) y in
    (e, lists z)
  where
    lists : ReadInto text before r after' → after ≡ after'
    lists z = λ i.
        numbers (filled_unique 0 before.agents after.agents after'.agents _ _ x.agents z.agents i)
        (filled_unique 0 before.boundaries after.boundaries after'.boundaries _ _ x.boundaries z.boundaries i)
        (filled_unique 0 before.plants after.plants after'.plants _ _ x.plants z.plants i)
        (filled_unique 0 before.contracts after.contracts after'.contracts _ _ x.contracts z.contracts i)

pub text_once : (s before after after' : List ℕ) (r r' : Result ℕ Refusal)
    → Prints (text_verdict (read_of s) s (length before)) (text_of (read_of s) s) before r after
    → Prints (text_verdict (read_of s) s (length before)) (text_of (read_of s) s) before r' after'
    → (r ≡ r') × (after ≡ after')
text_once s before after after' r r' x y = one_outcome x y

pub made_once : (text before after after' : List ℕ) (r r' : Result ℕ Unmade) → MadeInto text before r after → MadeInto text before r' after'
    → (r ≡ r') × (after ≡ after')
made_once text before after after' r r' x y =
    (x.answer ∙ sym y.answer, filled_unique 0 before after after' _ _ x.bytes y.bytes)
