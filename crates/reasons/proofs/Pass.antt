-- What one row adds to a pass over the contract rows: at most one quantity. Assumes nothing.
use Rattle.std.specs.Prelude.{Ok, Bool, true, false, eqb}
use Prim.Native.Nat.{ℕ, ◌≤◌, ◌<◌}
use native.Mathlib.Omega.{arith}
use mathlib.Core.List.{List}
use mathlib.Core.Path.{◌≡◌, ap, ◌∙◌}
use Rattle.limits.specs.Limits.{most_quantity}
use Rattle.limits.specs.declared.Contract.{Contract}
use Rattle.sums.specs.Sums.{pick}
use Rattle.sums.proofs.Picks.{pick_true, pick_false, pick_zero, pick_both, pick_eq, pick_ne}
use Rattle.sheet.specs.Asking.{contract_at}
use Rattle.sheet.specs.Reading.{read_of}
use Rattle.sheet.specs.declared.Counts.{Counts}
use Rattle.sheet.proofs.Accepted.{accepted_contract}
use Rattle.reasons.specs.Parts.{counted_part}

pub row_small : (bytes : List ℕ) (c : Counts) → read_of bytes ≡ Ok c → (j : ℕ) → j < c.contracts
    → (contract_at bytes c j).quantity ≤ most_quantity
row_small bytes c e j l = omega (arith, (accepted_contract bytes c e j l).fits.quantity)

module _ (b : ℕ) (t : Contract → ℕ → Bool) (k : Contract) (j : ℕ) where
  abbrev parts : counted_part b t k j ≡ pick (eqb k.buyer b) (pick (t k j) k.quantity)
  parts = pick_both (eqb k.buyer b) (t k j) k.quantity

  pub taken : k.buyer ≡ b → t k j ≡ true → counted_part b t k j ≡ k.quantity
  taken e f = parts ∙ pick_eq k.buyer b _ e ∙ pick_true (t k j) k.quantity f

  pub left_out : t k j ≡ false → counted_part b t k j ≡ 0
  left_out f = parts ∙ ap (λ (x : ℕ). pick (eqb k.buyer b) x) (pick_false (t k j) k.quantity f) ∙ pick_zero _

  pub of_another : (k.buyer ≡ b → ⊥) → counted_part b t k j ≡ 0
  of_another n = parts ∙ pick_ne k.buyer b _ n
