-- With the numbers that are left it is as with all six.
use Rattle.std.proofs.Common.{◌≡◌, ◌+◌, drop}
use Rattle.std.proofs.lemmas.List.Edits.{sets}
use Rattle.stating.proofs.fills.put_six.Given as goal

abbrev pub invariant-loop-i : goal.invariant-loop-i
invariant-loop-i l = sets l.out (l.k + l.i) (drop l.i l.n-items) ≡ sets l.fn.out l.k l.n-items
