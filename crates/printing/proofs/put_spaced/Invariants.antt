-- What stands before `at` are the last numbers, as many as were taken.
use Rattle.std.proofs.Common.{◌≡◌, ◌+◌, ◌*◌, ◌≤◌, length, drop}
use Rattle.std.specs.Prelude.{map, reverse}
use Rattle.printing.specs.Text.{spaced}
use Rattle.printing.proofs.put_spaced.Given as goal

abbrev pub invariant-loop-n : goal.invariant-loop-n
invariant-loop-n l = record {
  can_next : (goal.iterator-loop-n).can_next l.n-iterator;
  is_finite : (goal.iterator-loop-n).is_finite l.n-iterator;
  long : length l.s ≡ length l.fn.s;
  low : l.at ≤ l.i + 21 * length l.yielded;
  high : l.i ≤ l.at;
  stands : drop l.i l.s ≡ spaced (reverse (map (λ y. y.now) l.yielded)) (drop l.at l.fn.s);
}
