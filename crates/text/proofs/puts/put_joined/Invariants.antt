-- The numbers already put, from the last one, stand in front of what stood there. Where there is room for all of it, there is room for
-- those that are left.
use Rattle.std.proofs.Common.{◌≡◌, ℕ, ◌+◌, ◌-◌, ◌*◌, ◌≤◌, List, length, drop}
use Rattle.text.specs.Written.{joined}
use Rattle.text.proofs.puts.put_joined.Given as goal

-- k numbers are still to be put
pub record Going (v s₀ s : List ℕ) (at i k : ℕ) : Type 0 where
  pub low : at + 21 * k ≤ i + 21 * length v
  pub high : i ≤ at
  pub text : drop i s ≡ joined (drop k v) (drop at s₀)

abbrev pub invariant-loop-n : goal.invariant-loop-n
invariant-loop-n l = record {
  long : length l.s ≡ length l.fn.s;
  going : 21 * length l.v ≤ l.at → l.at ≤ length l.fn.s → Going l.v l.fn.s l.s l.at l.i (length l.v - length l.yielded);
}
