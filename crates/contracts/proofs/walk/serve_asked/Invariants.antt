use Rattle.contracts.proofs.Walks.{WalkedTo}
use Rattle.contracts.proofs.walk.serve_asked.Given as goal
use Rattle.std.specs.Slice.Iter.{chunk_by_rest}

abbrev pub invariant-loop-group : goal.invariant-loop-group
invariant-loop-group l = WalkedTo l.section l.keys l.left l.initial.out l.tally.left l.out (chunk_by_rest l.group-iterator)
