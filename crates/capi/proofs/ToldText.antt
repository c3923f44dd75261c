-- What the functions of texts answer, as numbers in the caller's lists; two outcomes that meet a promise are equal. Assumes nothing.
use Rattle.std.specs.Prelude.{Some}
use Prim.Native.Nat.{ℕ, ◌≤◌}
use mathlib.Core.Path.{◌≡◌, sym, ◌∙◌}
use mathlib.Core.List.{List}
use native.Mathlib.Omega.{arith}
use Rattle.sums.proofs.Fill.{filled_unique}
use Rattle.refusals.specs.Refusals.{Verdict}
use Rattle.sheet.specs.declared.Counts.{Counts}
use Rattle.hour.specs.Answer.{Lent}
use Rattle.text.specs.Faults.{fault_number}
use Rattle.text.specs.declared.Fault.{Fault}
use Rattle.capi.specs.TextTold.{TextTold, MadeTold, StatementTold}
use Rattle.capi.proofs.Outcomes.{told_unique}

-- no fault's number is over 8
pub fault_few : (f : Fault) → fault_number (Some f) ≤ 8
unfolding fault_number
fault_few Fault.Word = omega arith
fault_few Fault.Few = omega arith
fault_few Fault.Many = omega arith
fault_few Fault.NotANumber = omega arith
fault_few Fault.TooLarge = omega arith
fault_few Fault.Rows = omega arith
fault_few Fault.Twice = omega arith
fault_few Fault.Missing = omega arith

-- ---- texts put into a buffer
module _ {v : Verdict} {text before list : List ℕ} where
  pub text_unique : (r r' : ℕ) (after after' list₁ list₂ : List ℕ)
      → TextTold v text before list r after list₁
      → TextTold v text before list r' after' list₂
      → (r ≡ r') × (after ≡ after') × (list₁ ≡ list₂)
  text_unique r r' after after' list₁ list₂ h k =
      let t = told_unique _ _ list list₁ list₂ r r' h.told k.told in
      (t.0, filled_unique 0 _ _ _ _ _ h.bytes k.bytes, t.1)

-- ---- a sheet made from its text
module _ {text before list : List ℕ} where
  pub made_unique : (r r' : ℕ) (after after' list₁ list₂ : List ℕ)
      → MadeTold text before list r after list₁
      → MadeTold text before list r' after' list₂
      → (r ≡ r') × (after ≡ after') × (list₁ ≡ list₂)
  made_unique r r' after after' list₁ list₂ h k =
      let t = told_unique _ _ list list₁ list₂ r r' h.told k.told in
      (t.0, filled_unique 0 _ _ _ _ _ h.bytes k.bytes, t.1)

-- ---- a statement read
module _ {text : List ℕ} {c : Counts} {before : Lent} {list : List ℕ} where
  pub statement_unique : (r r' : ℕ) (after after' : Lent) (list₁ list₂ : List ℕ)
      → StatementTold text c before after list r list₁
      → StatementTold text c before after' list r' list₂
      → (r ≡ r') × (after ≡ after') × (list₁ ≡ list₂)
  statement_unique r r' after after' list₁ list₂ h k =
      let t = told_unique _ _ list list₁ list₂ r r' h.told k.told in
      (t.0, h.lists ∙ sym k.lists, t.1)
