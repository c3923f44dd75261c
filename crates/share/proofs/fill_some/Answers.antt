use Rattle.share.proofs.Lacks.{total_pos, no_left}
use Rattle.share.proofs.fill_some.Goals as goal

pub returns-in_default : goal.returns-in_default
returns-in_default c =
    let p = c.args.p.now in
    no_left p.amount p.weights.now c.args.out.now _ (total_pos _ _ c.requires.0) c.in_default.ensures.span c.begin.ensures.floors
