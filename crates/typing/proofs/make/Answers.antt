use Rattle.std.proofs.Common.{refl, ap, is_some}
use Rattle.typing.proofs.Making.{wrong_made, fronts}
use Rattle.typing.proofs.make.Goals as goal

pub returns-in-Some : goal.returns-in-Some
returns-in-Some c =
    let a = c.args in
    wrong_made a.text.now a.out.now c.read-r.result c.in-Some.fault c.read-r.ensures.answer c.in-Some.is

pub write_fronts-requires : goal.write_fronts-requires
write_fronts-requires c = fronts _ _ _ c.read-r.result refl c.read-r.ensures (ap is_some c.in_default.is)
