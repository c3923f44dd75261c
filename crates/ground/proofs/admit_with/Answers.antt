-- A refusal of the balance is the hour's; behind it the verdict is the hour's by what the plants offer and whether there is room.
use Rattle.std.proofs.Common.{sym, ◌∙◌, rules}
use Rattle.balance.proofs.Weighed.{refused}
use Rattle.ground.proofs.Admitted.{refused_weighing, verdict_is, fine_weighing}
use Rattle.ground.proofs.admit_with.Goals as goal

pub returns-in_err-w : goal.returns-in_err-w
returns-in_err-w c =
    refused_weighing _ _ _ _ _ c.weigh_read.ensures c.in_err-w.field-0.0 _ c.in_err-w.was (search rules)

pub returns-in_err-late : goal.returns-in_err-late
returns-in_err-late c =
    let v = verdict_is _ c.args.room _ _ _ c.weigh_read.ensures _ c.in_ok-w.was _ _ c.offered-offer.ensures.0 c.offered-offer.ensures.1 in
    refused _ _ c.in_err-late.field-0.0 _ _ _ (sym v ∙ sym c.late.ensures ∙ c.in_err-late.was) (search rules)

pub returns : goal.returns
returns c =
    let v = verdict_is _ c.args.room _ _ _ c.weigh_read.ensures _ c.in_ok-w.was _ _ c.offered-offer.ensures.0 c.offered-offer.ensures.1 in
    fine_weighing _ _ _ _ _ c.weigh_read.ensures _ c.in_ok-w.was (sym v ∙ sym c.late.ensures ∙ c.in_ok-late.was)
