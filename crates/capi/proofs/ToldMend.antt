-- What mending answers, as numbers in the caller's lists; and how many changes there are fits its cell. Assumes nothing.
use Rattle.std.specs.Prelude.{Result, Ok}
use Prim.Native.Nat.{ℕ, ◌≤◌}
use mathlib.Core.Path.{◌≡◌, subst}
use mathlib.Core.List.{List}
use native.Mathlib.Omega.{arith}
use lib.ListN.{length}
use Rattle.sums.specs.Sums.{pick}
use Rattle.sums.proofs.Fill.{filled_unique}
use Rattle.sums.proofs.Sums.{sum_most}
use Rattle.sums.proofs.Picks.{pick_le}
use Rattle.refusals.specs.declared.Refusal.{Refusal}
use Rattle.sheet.specs.Reading.{longest}
use Rattle.mend.specs.Mend.{count_to, changed, changes, Mends}
use Rattle.mend.proofs.Promises.{done}
use Rattle.capi.specs.MendTold.{MendTold}
use Rattle.capi.proofs.Outcomes.{told_unique}

-- no more changes than bytes
changes_le : (s : List ℕ) → changes s ≤ length s
unfolding count_to
changes_le s = omega (arith, sum_most (length s) 1 (λ k. pick (changed s k) 1) (λ k h. pick_le (changed s k) 1))

module _ (s copy report copy' report' : List ℕ) where
  -- a sheet that was mended is short
  pub done_few : (x : Result ℕ Refusal) (n : ℕ) → x ≡ Ok n → Mends s copy report x copy' report' → n ≤ longest
  done_few x n e m =
      let d = done s copy report copy' report' n (subst (λ (y : Result ℕ Refusal). Mends s copy report y copy' report') e m) in
      let few = d.counted.few in
      let long = d.counted.long in
      let count = d.count in
      omega (arith, changes_le s, few.agents, few.boundaries, few.plants, few.contracts)

-- one outcome: the number returned and all that was lent
pub mend_unique : (s copy report list : List ℕ) (r r' : ℕ) (copy₁ copy₂ report₁ report₂ list₁ list₂ : List ℕ)
    → MendTold s copy report list r copy₁ report₁ list₁
    → MendTold s copy report list r' copy₂ report₂ list₂
    → (r ≡ r') × (copy₁ ≡ copy₂) × (report₁ ≡ report₂) × (list₁ ≡ list₂)
mend_unique s copy report list r r' copy₁ copy₂ report₁ report₂ list₁ list₂ h k =
    let t = told_unique _ _ list list₁ list₂ r r' h.told k.told in (
      t.0,
      filled_unique 0 _ _ _ _ _ h.copied k.copied,
      filled_unique 0 _ _ _ _ _ h.reported k.reported,
      t.1,
    )
