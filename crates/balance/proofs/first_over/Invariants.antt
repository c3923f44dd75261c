use Rattle.std.proofs.Common.{◌≡◌, false, ◌&&◌, ℕ, ◌<◌, ltb}
use Rattle.sums.specs.Lists.{at}
use Rattle.rows.specs.Rows.{carries_losses}
use Rattle.balance.proofs.first_over.Given as goal

-- no agent so far
abbrev pub invariant-loop-a : goal.invariant-loop-a
invariant-loop-a l = (k : ℕ) → k < l.a → (carries_losses (at l.kinds k) && ltb (at l.imports k) (at l.exports k)) ≡ false
