-- Of each C function any two outcomes that meet the promise are equal: the number returned and all that was lent. Assumes nothing.
use Prim.Native.Nat.{ℕ}
use mathlib.Core.Path.{◌≡◌, sym, ◌∙◌}
use mathlib.Core.List.{List}
use Rattle.sums.proofs.Fill.{filled_unique}
use Rattle.refusals.specs.Refusals.{Verdict}
use Rattle.hour.specs.Answer.{Lent}
use Rattle.writing.specs.Numbers.{Numbers}
use Rattle.settle.proofs.Judged.{outcome_unique}
use Rattle.capi.specs.Told.{Told, BytesTold, ShareTold, ReadTold, CheckTold, WriteTold, SettleTold, PageTold}
use Rattle.capi.specs.Why.{WhyPlantTold, WhyContractTold}

pub share_unique : (amount : ℕ) (weights before after after' : List ℕ) (r r' : ℕ)
    → ShareTold amount weights before r after
    → ShareTold amount weights before r' after' → (r ≡ r') × (after ≡ after')
share_unique amount weights before after after' r r' h k =
    (h.number ∙ sym k.number, filled_unique 0 _ _ _ _ _ h.shares k.shares)

pub told_unique : (n : ℕ) (answer before after after' : List ℕ) (r r' : ℕ)
    → Told n answer before r after
    → Told n answer before r' after'
    → (r ≡ r') × (after ≡ after')
told_unique n answer before after after' r r' h k =
    (h.number ∙ sym k.number, filled_unique 0 _ _ _ _ _ h.listed k.listed)

pub read_unique : (sheet before after after' : List ℕ) (r r' : ℕ)
    → ReadTold sheet before r after
    → ReadTold sheet before r' after'
    → (r ≡ r') × (after ≡ after')
read_unique sheet before after after' r r' = told_unique _ _ before after after' r r'

pub check_unique : (sheet : List ℕ) (price : ℕ) (l : Lent) (before after after' : List ℕ) (r r' : ℕ)
    → CheckTold sheet price l before r after
    → CheckTold sheet price l before r' after'
    → (r ≡ r') × (after ≡ after')
check_unique sheet price l before after after' r r' = told_unique _ _ before after after' r r'

pub why_plant_unique : (sheet : List ℕ) (plant : ℕ) (before after after' : List ℕ) (r r' : ℕ)
    → WhyPlantTold sheet plant before r after
    → WhyPlantTold sheet plant before r' after'
    → (r ≡ r') × (after ≡ after')
why_plant_unique sheet plant before after after' r r' = told_unique _ _ before after after' r r'

pub why_contract_unique : (sheet : List ℕ) (contract : ℕ) (before after after' : List ℕ) (r r' : ℕ)
    → WhyContractTold sheet contract before r after
    → WhyContractTold sheet contract before r' after'
    → (r ≡ r') × (after ≡ after')
why_contract_unique sheet contract before after after' r r' = told_unique _ _ before after after' r r'

bytes_unique : (v : Verdict) (size : ℕ) (byte : ℕ → ℕ) (before list : List ℕ) (r r' : ℕ)
    (after after' list₁ list₂ : List ℕ)
    → BytesTold v size byte before list r after list₁ → BytesTold v size byte before list r' after' list₂
    → (r ≡ r') × (after ≡ after') × (list₁ ≡ list₂)
bytes_unique v size byte before list r r' after after' list₁ list₂ h k =
    let t = told_unique _ _ list list₁ list₂ r r' h.told k.told in
    (t.0, filled_unique 0 _ _ _ _ _ h.bytes k.bytes, t.1)

pub write_unique : (n : Numbers) (before list : List ℕ) (r r' : ℕ) (after after' list₁ list₂ : List ℕ)
    → WriteTold n before list r after list₁ → WriteTold n before list r' after' list₂ → (r ≡ r') × (after ≡ after')
    × (list₁ ≡ list₂)
write_unique n before list r r' after after' list₁ list₂ = bytes_unique _ _ _ before list r r' after after' list₁ list₂

pub page_unique : (sheet before list : List ℕ) (r r' : ℕ) (after after' list₁ list₂ : List ℕ)
    → PageTold sheet before list r after list₁ → PageTold sheet before list r' after' list₂ → (r ≡ r')
    × (after ≡ after') × (list₁ ≡ list₂)
page_unique sheet before list r r' after after' list₁ list₂ =
    bytes_unique _ _ _ before list r r' after after' list₁ list₂

pub settle_unique : (sheet : List ℕ) (before x y : Lent) (list list₁ list₂ : List ℕ) (r r' : ℕ)
    → SettleTold sheet before x list r list₁ → SettleTold sheet before y list r' list₂ → (r ≡ r') × (x ≡ y)
    × (list₁ ≡ list₂)
settle_unique sheet before x y list list₁ list₂ r r' h k =
    let t = told_unique _ _ list list₁ list₂ r r' h.told k.told in
    (t.0, (outcome_unique _ _ before x y _ _ h.hour k.hour).1, t.1)
