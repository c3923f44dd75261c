-- The cells below the index are the numbers read so far.
use Rattle.std.proofs.Common.{take}
use Rattle.input.specs.Cases.{NumbersTaken}
use Rattle.input.proofs.cases.read_numbers.Given as goal

abbrev pub invariant-loop-cell : goal.invariant-loop-cell
invariant-loop-cell g l = NumbersTaken (g.R.Read.remaining l.initial.from) (g.R.Read.remaining l.from) (take l.cell-index l.out)
