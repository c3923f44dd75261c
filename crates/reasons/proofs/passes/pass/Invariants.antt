-- The sum so far is that of the rows so far, whatever test says what the closure answers.
use Rattle.std.proofs.Common.{◌≡◌, ℕ, ◌*◌, ◌≤◌, ◌<◌, Bool}
use Rattle.limits.specs.Limits.{most_quantity}
use Rattle.limits.specs.declared.Contract.{Contract}
use Rattle.sums.specs.Sums.{sum}
use Rattle.sheet.specs.Asking.{contract_at}
use Rattle.reasons.specs.Parts.{counted_part}
use Rattle.reasons.proofs.passes.pass.Given as goal

abbrev pub invariant-loop-j : goal.invariant-loop-j
invariant-loop-j g l = record {
  small : l.sum ≤ l.j * most_quantity;
  total : (t : Contract → ℕ → Bool)
      → ((j : ℕ) (r : Bool) → j < l.fn.c.contracts → goal.F-post g l.counts (contract_at l.bytes l.fn.c j) j r
      → r ≡ t (contract_at l.bytes l.fn.c j) j)
      → l.sum ≡ sum l.j (λ j. counted_part l.buyer t (contract_at l.bytes l.fn.c j) j);
}
