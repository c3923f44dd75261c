use Rattle.std.proofs.Common.{arith, refl}
use Rattle.printing.specs.Text.{lines_to}
use Rattle.printing.proofs.Front.{lines_longer}
use Rattle.printing.proofs.lines_length.Goals as goal

pub loop-a-init : goal.loop-a-init
unfolding lines_to
loop-a-init c = (refl, omega arith)

pub loop-a-preserved : goal.loop-a-preserved
loop-a-preserved c =
    let a = c.args.agents in
    let longer = lines_longer a.kinds.now a.figures.now a.money.now c.loop-a.a in
    (omega arith, omega arith)
