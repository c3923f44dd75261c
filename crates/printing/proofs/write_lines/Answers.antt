use Rattle.std.proofs.Common.{◌+◌, length, arith}
use Rattle.printing.specs.Text.{lines_to}
use Rattle.printing.proofs.Front.{lines_next, lines_longer, lines_grow, appended_none, appended_more}
use Rattle.printing.proofs.write_lines.Goals as goal

pub loop-a-init : goal.loop-a-init
unfolding lines_to
loop-a-init c = (omega arith, appended_none _ _)

pub write_line-k-requires-clause-room : goal.write_line-k-requires-clause-room
write_line-k-requires-clause-room c =
    let a = c.args.agents in
    let longer = lines_longer a.kinds.now a.figures.now a.money.now c.loop-a.a in
    let grow = lines_grow a.kinds.now a.figures.now a.money.now (c.loop-a.a + 1) (length a.kinds.now) (omega arith) in
    omega arith

pub loop-a-preserved : goal.loop-a-preserved
loop-a-preserved c =
    let a = c.args.agents in
    let longer = lines_longer a.kinds.now a.figures.now a.money.now c.loop-a.a in (
      omega (arith, c.write_line-k.ensures.0),
      rw (lines_next a.kinds.now a.figures.now a.money.now c.loop-a.a)
          (appended_more _ _ _ _ _ _ _ c.loop-a.invariant.0 c.loop-a.invariant.1 c.write_line-k.ensures.1),
    )
