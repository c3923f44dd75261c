-- Whether the lists have room is all that the verdict takes from them.
use Rattle.hour.specs.Answer.{lent}
use Rattle.ground.proofs.Admitted.{admission_is}
use Rattle.ground.proofs.admit.Goals as goal

pub returns : goal.returns
returns c =
    let a = c.args in
    rw (admission_is a.bytes.now a.c (lent a.figures.now a.money.now a.schedule.now a.amounts.now) _
    c.has_room-room.ensures) at c.admit_with.ensures
